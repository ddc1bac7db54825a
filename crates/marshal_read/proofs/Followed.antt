-- One reading after another.
use Rattle.std.proofs.Common.{◌≡◌, ℕ, List, Ok, Err, IfErr, Result, refl, sym, subst}
use Rattle.std.specs.Prelude.{IfOk, OnOk}
use Rattle.marshal_grammar.specs.declared.refusal.Refusal.{Refusal}
use Rattle.marshal_grammar.specs.Contexts.{Context}
use Rattle.marshal_grammar.specs.Grammar.{Grammar}
use Rattle.marshal_grammar.specs.Reading.{Read, next}
use Rattle.marshal_read.specs.declared.error.ReadError.{ReadError}
use Rattle.marshal_read.specs.declared.error.ReadError.TheVariants as error
use Rattle.marshal_read.specs.declared.error.Stop.{Stop}
use Rattle.marshal_read.specs.declared.steps.Step.{Step}
use Rattle.marshal_read.specs.State.{State}
use Rattle.marshal_read.specs.Fails.{Fails, read_at, error_of}
use Rattle.marshal_read.specs.Gives.{GivesAs}

-- what follows something that was read
pub then_ok : {A B : Type 0} (p : Read B) (f : B → Context → List ℕ → Read A) (x : B) (c : Context) (bs : List ℕ) → p ≡ Ok (x, c, bs) → next p f ≡ f x c bs
then_ok p f x c bs e = rw e refl

-- nothing follows a refusal
pub then_err : {A B : Type 0} (p : Read B) (f : B → Context → List ℕ → Read A) (q : Refusal) → p ≡ Err q → next p f ≡ Err q
then_err p f q e = rw e refl

-- where one reading is refused as another is, so is the reader
pub fails_as : {A B : Type 0} (r : ReadError) (p : Read B) (s : Read A) → ((q : Refusal) → p ≡ Err q → s ≡ Err q) → Fails r p → Fails r s
fails_as error.Memory p s h f = tt
fails_as (error.Refused q) p s h f = h q f

-- what goes on as another piece gives what that gives
pub gives_as : {A B : Type 0} (g h : Grammar A) (of : B → A) (s t u : State) (r : Result B Stop) → read_at g s ≡ read_at h t → t.steps ≡ s.steps → GivesAs h of t u r → GivesAs g of s u r
gives_as {A = A} g h of s t u r e k x = record {
  ok = subst (λ (q : Read A). IfOk r (λ y. q ≡ Ok (of y, u.seen, u.rest))) (sym e) x.ok;
  kept = subst (λ (ss : List Step). OnOk r (u.steps ≡ ss)) k x.kept;
  err = subst (λ (q : Read A). IfErr r (λ f. Fails (error_of f u.refused) q)) (sym e) x.err;
}
