-- What a call of a peer comes to.
use Rattle.std.proofs.Common.{◌≡◌, ℕ, List, refl, subst, inl, inr}
use Rattle.std.specs.Prelude.{◌↔◌}
use Rattle.std.specs.declared.option.Option.{Option}
use Rattle.drb_tree.specs.declared.Tree.{Tree}
use Rattle.drb_tree.specs.declared.Remote.{Remote}
use Rattle.drb_outside.specs.Told.{Told, Rose}
use Rattle.drb_outside.specs.Telling.{told_as, told_same}
use Rattle.drb_outside.specs.Records.{Record}
use Rattle.drb_packet.specs.Texts.{ask_values, SomeLong}
use Rattle.drb_back.specs.declared.back.Back.{Back}
use Rattle.drb_back.specs.declared.back.Back.TheVariants as back
use Rattle.drb_back.specs.Outgoing.{NamesNone, IsFault, Outgoing, OrMemory}
use Rattle.drb_dispatch.specs.declared.place.Place.{Place}
use Rattle.drb_script.specs.declared.next.Saying.{Saying}
use Rattle.drb_reply.specs.Arguments.{method_of, Arguments, IsTooLongFor}
use Rattle.drb_session.specs.Peers.{Says, Caused}

pub says_out : (place : Place) (to : Remote) (saying : Saying) (name : List ℕ) (args args' : List Tree) (b : Back) (x y : Option (List Record)) (n : ℕ) → name ≡ method_of saying → args' ≡ args → Arguments place.uri saying args → Told x y n (Outgoing place.limits to name args' b) → Told x y n (Says place to saying b)
says_out place to saying name args args' b x y n e f h t = told_as (Outgoing place.limits to name args' b) (Says place to saying b) x y n
    (λ u v o. inr (args, h, subst (λ (q : List ℕ). Outgoing place.limits to q args b u v) e (subst (λ (q : List Tree). Outgoing place.limits to name q b u v) f o))) t

-- with the name and the arguments as the code has them
pub record CausesAs (before now : ℕ) (to : Remote) (name : List ℕ) (args : List Tree) (b : Back) : Type 0 where
  pub bad_uri : (b ≡ back.BadUri) ↔ NamesNone to.uri.bytes
  pub too_long : b ≡ back.TooLong → SomeLong (ask_values to.id name args)
  pub every_too_long : (NamesNone to.uri.bytes → ⊥) → SomeLong (ask_values to.id name args) → OrMemory back.TooLong b
  pub fault : IsFault b → Rose before now

pub caused_out : (place : Place) (m n : ℕ) (to : Remote) (saying : Saying) (name : List ℕ) (args args' : List Tree) (b : Back) → name ≡ method_of saying → args' ≡ args → Arguments place.uri saying args → (IsTooLongFor saying → ⊥) → CausesAs m n to name args' b → Caused place m n to saying b
caused_out place m n to saying name args args' b e f h short k =
    let k' : CausesAs m n to (method_of saying) args b = subst (λ (q : List ℕ). CausesAs m n to q args b) e (subst (λ (q : List Tree). CausesAs m n to name q b) f k) in
    inr (record { args = args; arguments = h; short = short; bad_uri = k'.bad_uri; too_long = k'.too_long; every_too_long = k'.every_too_long; fault = k'.fault })

pub says_long : (place : Place) (to : Remote) (saying : Saying) (x : Option (List Record)) (n : ℕ) → IsTooLongFor saying → Told x x n (Says place to saying back.TooLong)
says_long place to saying x n h = told_same (Says place to saying back.TooLong) x n (λ r. inl (h, refl))

pub says_none : (place : Place) (to : Remote) (saying : Saying) (x : Option (List Record)) (n : ℕ) → Told x x n (Says place to saying back.Memory)
says_none place to saying x n = told_same (Says place to saying back.Memory) x n (λ r. inl (tt, refl))
