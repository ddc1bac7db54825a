-- A value by its first byte.
use Rattle.std.proofs.Common.{◌≡◌, ℕ, zero, suc, ◌-◌, List, Bool, true, false, Option, Some, None, Ok, Err, refl, sym, ap, ◌∙◌, arith}
use Rattle.drb_tree.specs.declared.Tree.{Tree}
use Rattle.drb_tree.specs.declared.Remote.{Remote}
use Rattle.marshal_grammar.specs.declared.kind.Kind.{Kind}
use Rattle.marshal_grammar.specs.Kinds.{kind_of}
use Rattle.drb_tree.specs.declared.Tree.TheViews.{out-Tree}
use Rattle.marshal_grammar.specs.declared.refusal.Refusal.{Refusal}
use Rattle.marshal_grammar.specs.declared.refusal.Why.TheVariants as why
use Rattle.marshal_grammar.specs.Contexts.{Context, opening}
use Rattle.marshal_grammar.specs.Dumps.{dump_with, reference, some_remote}
use Rattle.marshal_grammar.specs.Trees.{remote_of}
use Rattle.marshal_read.specs.declared.error.ReadError.{ReadError}
use Rattle.marshal_grammar.specs.Grammar.{byte}
use Rattle.marshal_grammar.specs.Reading.{read, refuse}
use Rattle.marshal_grammar.specs.Values.{value, body, typed, too_deep}
use Rattle.marshal_read.specs.State.{State}
use Rattle.marshal_read.specs.Fails.{Fails, read_at}
use Rattle.marshal_read.specs.Scopes.{reference_in, part_in, given}
use Rattle.marshal_read.proofs.Followed.{then_ok, then_err, fails_as}

-- with a level left, a value is its body
pub opened : (nested : Bool) (room b : ℕ) (k : Kind) (at : ℕ) (s t : State) → (room ≡ 0 → ⊥) → at ≡ s.seen.at → read_at byte s ≡ Ok (b, t.seen, t.rest) → Some k ≡ kind_of b
    → read_at (part_in nested room) s ≡ read_at (body (reference_in nested) (part_in nested (room - 1)) (suc (room - 1)) k at) t
unfolding value
opened nested zero b k at s t h a e f = absurd (h refl)
opened nested (suc room) b k at s t h a e f =
    let r : room ≡ suc room - 1 = omega arith in
    then_ok (read_at byte s) (λ x. read (typed (body (reference_in nested) (value (reference_in nested) room) (suc room)) s.seen.at x (kind_of x))) b t.seen t.rest e
    ∙ ap (λ (o : Option Kind). read (typed (body (reference_in nested) (value (reference_in nested) room) (suc room)) s.seen.at b o) t.seen t.rest) (sym f)
    ∙ ap (λ (n : ℕ). read_at (body (reference_in nested) (part_in nested n) (suc n) k s.seen.at) t) r
    ∙ ap (λ (n : ℕ). read_at (body (reference_in nested) (part_in nested (suc room - 1)) (suc (suc room - 1)) k n) t) (sym a)

-- with none left, it is too deep
pub closed : (nested : Bool) (room b : ℕ) (k : Kind) (at : ℕ) (s t : State) → room ≡ 0 → at ≡ s.seen.at → read_at byte s ≡ Ok (b, t.seen, t.rest) → Some k ≡ kind_of b
    → read_at (part_in nested room) s ≡ read_at (too_deep k at) t
unfolding value
closed nested (suc room) b k at s t h a e f = absurd (omega arith)
closed nested zero b k at s t h a e f =
    then_ok (read_at byte s) (λ x. read (typed too_deep s.seen.at x (kind_of x))) b t.seen t.rest e
    ∙ ap (λ (o : Option Kind). read (typed too_deep s.seen.at b o) t.seen t.rest) (sym f)
    ∙ ap (λ (n : ℕ). read_at (too_deep k n) t) (sym a)

-- no type byte
pub untyped : (nested : Bool) (room b at : ℕ) (s t : State) → at ≡ s.seen.at → read_at byte s ≡ Ok (b, t.seen, t.rest) → None ≡ kind_of b
    → read_at (part_in nested room) s ≡ refuse (why.BadType b) at
unfolding value
untyped nested zero b at s t a e f =
    then_ok (read_at byte s) (λ x. read (typed too_deep s.seen.at x (kind_of x))) b t.seen t.rest e
    ∙ ap (λ (o : Option Kind). read (typed too_deep s.seen.at b o) t.seen t.rest) (sym f)
    ∙ ap (λ (n : ℕ). refuse (why.BadType b) n) (sym a)
untyped nested (suc room) b at s t a e f =
    then_ok (read_at byte s) (λ x. read (typed (body (reference_in nested) (value (reference_in nested) room) (suc room)) s.seen.at x (kind_of x))) b t.seen t.rest e
    ∙ ap (λ (o : Option Kind). read (typed (body (reference_in nested) (value (reference_in nested) room) (suc room)) s.seen.at b o) t.seen t.rest) (sym f)
    ∙ ap (λ (n : ℕ). refuse (why.BadType b) n) (sym a)

-- no byte
pub missing : (r : ReadError) (nested : Bool) (room : ℕ) (s : State) → Fails r (read_at byte s) → Fails r (read_at (part_in nested room) s)
unfolding value
missing r nested zero s f =
    fails_as r (read_at byte s) (read_at (part_in nested 0) s)
    (λ q e. then_err (read_at byte s) (λ x. read (typed too_deep s.seen.at x (kind_of x))) q e) f
missing r nested (suc room) s f =
    fails_as r (read_at byte s) (read_at (part_in nested (suc room)) s)
    (λ q e. then_err (read_at byte s) (λ x. read (typed (body (reference_in nested) (value (reference_in nested) room) (suc room)) s.seen.at x (kind_of x))) q e) f

given_some : (o : Option Remote) (d : Context) (rest : List ℕ) → given (read (some_remote o) d rest) ≡ o
given_some None d rest = refl
given_some (Some r) d rest = refl

-- the inner dump of a remote object
pub given_ok : (nested : Bool) (bs rest : List ℕ) (v : Tree) (d : Context) → nested ≡ false → read (dump_with (reference_in true)) opening bs ≡ Ok (v, d, rest)
    → remote_of (out-Tree v) ≡ given (read (reference_in nested) opening bs)
unfolding reference
given_ok true bs rest v d n e = absurd (cc)
given_ok false bs rest v d n e =
    sym (ap given (then_ok (read (dump_with (reference_in true)) opening bs) (λ x. read (some_remote (remote_of (out-Tree x)))) v d rest e)
    ∙ given_some (remote_of (out-Tree v)) d rest)

pub given_err : (nested : Bool) (bs : List ℕ) (q : Refusal) → nested ≡ false → read (dump_with (reference_in true)) opening bs ≡ Err q
    → None ≡ given (read (reference_in nested) opening bs)
unfolding reference
given_err true bs q n e = absurd (cc)
given_err false bs q n e = sym (ap given (then_err (read (dump_with (reference_in true)) opening bs) (λ x. read (some_remote (remote_of (out-Tree x)))) q e))
