-- Where a value stands: in a dump, or in the inner dump of a remote object.
use Rattle.std.specs.Prelude.{ℕ, ◌≡◌, Bool, true, false, List, [], ◌∷◌, Option, Some, None, Ok, Err, IsUtf8}
use Rattle.std.proofs.Common.{inl, inr}
use Rattle.drb_tree.specs.declared.Remote.{Remote}
use Rattle.drb_tree.specs.declared.Tree.{Tree}
use Rattle.drb_tree.specs.Kept.{remote_class}
use Rattle.marshal_grammar.specs.declared.refusal.Why.TheVariants as why
use Rattle.marshal_grammar.specs.Grammar.{Grammar, refuses}
use Rattle.marshal_grammar.specs.Reading.{Read}
use Rattle.marshal_grammar.specs.Trees.{object, structure}
use Rattle.marshal_grammar.specs.Values as V
use Rattle.marshal_grammar.specs.Dumps.{reference}
use Rattle.marshal_read.specs.declared.steps.Step.{Step}
use Rattle.marshal_read.specs.declared.steps.Step.TheVariants as S
use Rattle.marshal_read.specs.declared.references.Held.{Held}
use Rattle.marshal_read.specs.declared.references.Held.TheVariants as H

-- in the inner dump no remote object stands
abbrev pub reference_in : Bool → Grammar Remote
reference_in true = refuses why.BadReference 0
reference_in false = reference

-- a value there, where so many levels are left
abbrev pub part_in : Bool → ℕ → Grammar Tree
part_in nested room = V.value (reference_in nested) room

-- what was read, where it was not refused
abbrev pub given : {A : Type 0} → Read A → Option A
given (Ok r) = Some r.0
given (Err e) = None

-- what a `u` held
abbrev pub held_is : Held → V.Held
held_is (H.Remote r) = inl r
held_is (H.Other c bs) = inr (c, bs)

-- the steps that make its value, with n variables, which a remote object drops
abbrev pub held_steps : Held → ℕ → List Step
held_steps (H.Remote r) n = S.Forget n ∷ S.Remote r ∷ []
held_steps (H.Other c bs) n = S.Dumped (record { class = c; bytes = bs }) n ∷ []

-- the class of anything else is not that of remote objects, and is UTF-8
abbrev pub Foreign : Held → Type 0
Foreign (H.Remote r) = Unit {0}
Foreign (H.Other c bs) = (c ≡ remote_class → ⊥) × IsUtf8 c

-- the value of a class and fields: a struct, or an object
abbrev pub fields_form : Bool → List ℕ → List (List ℕ × Tree) → Tree
fields_form true = structure
fields_form false = object
