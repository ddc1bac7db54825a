-- The value of what a `u` holds, as a step makes it.
use Rattle.std.proofs.Common.{◌≡◌, ℕ, List, [], ◌∷◌, ◌++◌, sym, subst, Result, Ok, Err, ◌∙◌, ap}
use Rattle.std.specs.Prelude.{OnOk}
use Rattle.drb_tree.specs.declared.Remote.{Remote}
use Rattle.drb_tree.specs.declared.Tree.{Tree}
use Rattle.marshal_grammar.specs.Trees.{remote}
use Rattle.marshal_grammar.specs.Values as V
use Rattle.marshal_grammar.specs.Reading.{Read}
use Rattle.marshal_read.specs.declared.steps.Step.{Step}
use Rattle.marshal_read.specs.declared.references.Held.{Held}
use Rattle.marshal_read.specs.declared.references.Held.TheVariants as H
use Rattle.marshal_read.specs.State.{State}
use Rattle.marshal_read.specs.Fails.{read_at}
use Rattle.marshal_read.specs.Making.{Leaf, added, single, made, value_of, Makes, MakesOne, HoldsFields}
use Rattle.marshal_read.specs.Scopes.{held_is, held_steps, Foreign}
use Rattle.marshal_read.proofs.Making.{value_is, makes_one}
use Rattle.marshal_read.proofs.Adding.{adds_leaf, remote_ends, dumped_ends}

pub held_ends : (h : Held) (ss : List Step) (n : ℕ) → Foreign h → HoldsFields ss n → Makes (ss ++ held_steps h n) (single (V.held_value (held_is h) (made ss).fields))
held_ends (H.Remote r) ss n f k = remote_ends ss r n k
held_ends (H.Other c bs) ss n f k = dumped_ends ss (record { class = c; bytes = bs }) n f.0 f.1 k

pub held_one : (h g : Held) (ss : List Step) (n : ℕ) → h ≡ g → Foreign h → HoldsFields ss n → MakesOne (ss ++ held_steps g n)
held_one h g ss n e f k = subst (λ (x : Held). MakesOne (ss ++ held_steps x n)) e (makes_one (ss ++ held_steps h n) (V.held_value (held_is h) (made ss).fields) (held_ends h ss n f k))

pub held_read : {E : Type 0} (r : Result (Unit {0}) E) (h g : Held) (ss : List Step) (n : ℕ) (s t : State) → h ≡ g → Foreign h → HoldsFields ss n
    → OnOk r (read_at (V.whole (value_of (ss ++ held_steps g n))) s ≡ Ok (value_of (ss ++ held_steps g n), t.seen, t.rest))
    → OnOk r (read_at (V.whole (V.held_value (held_is h) (made ss).fields)) s ≡ Ok (value_of (ss ++ held_steps h n), t.seen, t.rest))
held_read r h g ss n s t e f k o =
    let v : value_of (ss ++ held_steps h n) ≡ V.held_value (held_is h) (made ss).fields = value_is (ss ++ held_steps h n) (V.held_value (held_is h) (made ss).fields) (held_ends h ss n f k) in
    let o2 : OnOk r (read_at (V.whole (value_of (ss ++ held_steps h n))) s ≡ Ok (value_of (ss ++ held_steps h n), t.seen, t.rest)) =
    subst (λ (x : Held). OnOk r (read_at (V.whole (value_of (ss ++ held_steps x n))) s ≡ Ok (value_of (ss ++ held_steps x n), t.seen, t.rest))) (sym e) o in
    subst (λ (x : Tree). OnOk r (read_at (V.whole x) s ≡ Ok (value_of (ss ++ held_steps h n), t.seen, t.rest))) v o2

-- what is read of a step that takes nothing
pub leaf_read : {E : Type 0} (res : Result (Unit {0}) E) (q : Read Tree) (m t : State) (x : Step) → Leaf x
    → OnOk res (q ≡ Ok (added m.steps t.steps, t.seen, t.rest)) → OnOk res (t.steps ≡ m.steps ++ (x ∷ [])) → OnOk res (q ≡ Ok (value_of (x ∷ []), t.seen, t.rest))
leaf_read (Ok u) q m t x l o e = o ∙ ap (λ (z : Tree). Ok (z, t.seen, t.rest)) (adds_leaf m.steps t.steps x l e).1
leaf_read (Err z) q m t x l o e = tt

-- a remote object, which drops its variables: the states before, after these are forgotten, and after it
pub remote_held : {E : Type 0} (res : Result (Unit {0}) E) (h : Held) (r : Remote) (ss : List Step) (n : ℕ) (s m t : State) → h ≡ H.Remote r → HoldsFields ss n
    → read_at (V.whole (remote r)) m ≡ read_at (V.whole (remote r)) s
    → OnOk res (read_at (V.whole (remote r)) m ≡ Ok (remote r, t.seen, t.rest))
    → OnOk res (read_at (V.whole (V.held_value (held_is h) (made ss).fields)) s ≡ Ok (value_of (ss ++ held_steps h n), t.seen, t.rest))
remote_held res h r ss n s m t e k same o =
    let v : value_of (ss ++ held_steps (H.Remote r) n) ≡ remote r = value_is (ss ++ held_steps (H.Remote r) n) (remote r) (remote_ends ss r n k) in
    let o2 : OnOk res (read_at (V.whole (remote r)) s ≡ Ok (remote r, t.seen, t.rest)) = subst (λ (q : Read Tree). OnOk res (q ≡ Ok (remote r, t.seen, t.rest))) same o in
    let o3 : OnOk res (read_at (V.whole (remote r)) s ≡ Ok (value_of (ss ++ held_steps (H.Remote r) n), t.seen, t.rest)) =
    subst (λ (x : Tree). OnOk res (read_at (V.whole (remote r)) s ≡ Ok (x, t.seen, t.rest))) (sym v) o2 in
    subst (λ (x : Held). OnOk res (read_at (V.whole (V.held_value (held_is x) (made ss).fields)) s ≡ Ok (value_of (ss ++ held_steps x n), t.seen, t.rest))) (sym e) o3
