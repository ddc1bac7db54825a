-- What a call adds to a list.
use Rattle.std.proofs.Common.{◌≡◌, ◌⊎◌, ℕ, ◌≤◌, List, [], ◌∷◌, ◌++◌, length, Bool, false, refl, sym, ◌∙◌, ap, subst, inl, inr, arith}
use Rattle.std.proofs.lemmas.List.{append-nil}
use Rattle.drb_tree.specs.declared.Tree.{Tree}
use Rattle.drb_tree.specs.declared.Remote.{Remote}
use Rattle.drb_outside.specs.Records.{Record}
use Rattle.drb_outside.specs.Calls.{hung_up, ended, refused_at}
use Rattle.drb_packet.specs.declared.request.Limits.{Limits}
use Rattle.drb_back.specs.declared.back.Back.{Back}
use Rattle.drb_back.specs.declared.back.Back.TheVariants as back
use Rattle.drb_back.specs.Outgoing.{Outgoing, Adds}
use Rattle.drb_back.specs.Laws.{AllDown, OneMore}
use Rattle.drb_back.proofs.Ends.{hung_on, hung_twice}

-- a record that isn't up, behind those that were there
record Added (old new : List Record) : Type 0 where
  pub r : Record
  pub adds : Adds r old new
  pub down : r.up ≡ false

-- what a call did: nothing, or it added one record
did : (limits : Limits) (to : Remote) (name : List ℕ) (args : List Tree) (b : Back) (old new : List Record) → Outgoing limits to name args b old new → (new ≡ old) ⊎ Added old new
did limits to name args back.BadUri old new h = inl h
did limits to name args back.TooLong old new h = inl h
did limits to name args back.DialFault old new h = inr (record { r = refused_at h.0; adds = h.2; down = refl })
did limits to name args back.Memory old new (inl h) = inl h
did limits to name args back.Memory old new (inr h) = inr (record { r = h.0; adds = h.2; down = h.1.down })
did limits to name args b old new h = inr (record { r = h.0; adds = h.2; down = h.1.down })

added_down : (old new : List Record) → Added old new → AllDown new
added_down old new a =
    ap (λ q. hung_up q) a.adds ∙ hung_on (hung_up old) a.r ∙ ap (λ q. q ++ ended a.r ∷ []) (hung_twice old)
    ∙ ap (λ (u : Bool). hung_up old ++ record a.r { up = u } ∷ []) (sym a.down) ∙ sym a.adds

down_of : (old new : List Record) → (new ≡ old) ⊎ Added old new → ((AllDown old → AllDown new) × ((new ≡ old → ⊥) → AllDown new))
down_of old new (inl e) = (λ d. subst (λ (q : List Record). AllDown q) (sym e) d, λ no. absurd (no e))
down_of old new (inr a) = (λ _. added_down old new a, λ _. added_down old new a)

pub none_up : (limits : Limits) (to : Remote) (name : List ℕ) (args : List Tree) (b : Back) (old new : List Record) → Outgoing limits to name args b old new → ((AllDown old → AllDown new) × ((new ≡ old → ⊥) → AllDown new))
none_up limits to name args b old new h = down_of old new (did limits to name args b old new h)

one_of : (old new : List Record) → (new ≡ old) ⊎ Added old new → AllDown old → OneMore old new
one_of old new (inl e) d = ([], e ∙ sym (append-nil old), omega arith)
one_of old new (inr a) d = (a.r ∷ [], a.adds ∙ ap (λ q. q ++ a.r ∷ []) d, omega arith)

pub appends : (limits : Limits) (to : Remote) (name : List ℕ) (args : List Tree) (b : Back) (old new : List Record) → Outgoing limits to name args b old new → AllDown old → OneMore old new
appends limits to name args b old new h d = one_of old new (did limits to name args b old new h) d

pub in_order : (limits : Limits) (to to' : Remote) (name name' : List ℕ) (args args' : List Tree) (b b' : Back) (old between new : List Record) → Outgoing limits to name args b old between → Outgoing limits to' name' args' b' between new → AllDown old → (first second : List Record) × (between ≡ old ++ first) × (new ≡ old ++ first ++ second) × (length first ≤ 1) × (length second ≤ 1)
in_order limits to to' name name' args args' b b' old between new h k d =
    let one : OneMore old between = appends limits to name args b old between h d in
    let two : OneMore between new = appends limits to' name' args' b' between new k ((none_up limits to name args b old between h).0 d) in
    (one.0, two.0, one.1, two.1 ∙ ap (λ q. q ++ two.0) one.1, one.2, two.2)
