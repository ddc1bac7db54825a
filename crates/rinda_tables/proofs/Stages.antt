-- What steps do to stages.
use Rattle.std.proofs.Common.{◌≡◌, ◌∙◌, ℕ, Bool, true, false, List, [], ◌∷◌, ◌++◌, refl, sym, ap, arith}
use Rattle.std.specs.Prelude.{◌==◌, if◌then◌else◌}
use Rattle.std.proofs.lemmas.Bool.Decides.{nat_tests}
use Rattle.rinda_lease.specs.declared.stage.Stage.{Stage}
use Rattle.rinda_lease.specs.Stages.{stage_at, Becomes}
use Rattle.rinda_lease.specs.Orders.{placed, is_still}
use Rattle.rinda_tables.specs.declared.deadlines.Step.{Step}
use Rattle.rinda_tables.specs.Deadlines.{quiet, undone, are_there, are_lively, IsStaged, Comes}

pub undone-append : (xs ys : List Step) (f : ℕ → Stage) (q : ℕ) → undone (xs ++ ys) f q ≡ undone xs (undone ys f) q
undone-append [] ys f q = refl
undone-append (x ∷ xs) ys f q = ap (λ (s : Stage). if q == x.id then x.stage else s) (undone-append xs ys f q)

-- steps lead from stages that are as quiet to stages that are as quiet
pub undone-quiet : (xs : List Step) (f g : ℕ → Stage) → ((x : ℕ) → quiet (f x) ≡ quiet (g x)) → (q : ℕ) → quiet (undone xs f q) ≡ quiet (undone xs g q)
undone-quiet [] f g same q = same q
undone-quiet (x ∷ xs) f g same q = by_id (q == x.id) (undone-quiet xs f g same q)
  where
    by_id : (b : Bool) → quiet (undone xs f q) ≡ quiet (undone xs g q) → quiet (if b then x.stage else undone xs f q) ≡ quiet (if b then x.stage else undone xs g q)
    by_id true e = refl
    by_id false e = e

pub undone-same : (xs : List Step) (f g : ℕ → Stage) → ((x : ℕ) → f x ≡ g x) → (q : ℕ) → undone xs f q ≡ undone xs g q
undone-same [] f g same q = same q
undone-same (x ∷ xs) f g same q = ap (λ (s : Stage). if q == x.id then x.stage else s) (undone-same xs f g same q)

-- what is there stays there
pub there-kept : (id : ℕ) (stage : Stage) (steps : List Step) (old new : List (ℕ × Stage)) → Becomes id stage old new → is_still stage ≡ false → are_there steps old ≡ true → are_there steps new ≡ true
there-kept id stage [] old new h live e = refl
there-kept id stage (s ∷ steps) old new h live e = grind (arith, nat_tests, h s.id, there-kept id stage steps old new h live)

there-last : (steps : List Step) (s : Step) (entries : List (ℕ × Stage)) → are_there steps entries ≡ true → is_still (stage_at entries s.id) ≡ false → are_there (steps ++ s ∷ []) entries ≡ true
there-last [] s entries e f = grind arith
there-last (x ∷ steps) s entries e f = grind (arith, there-last steps s entries)

lively-last : (steps : List Step) (s : Step) → are_lively steps ≡ true → is_still s.stage ≡ false → are_lively (steps ++ s ∷ []) ≡ true
lively-last [] s e f = grind arith
lively-last (x ∷ steps) s e f = grind (arith, lively-last steps s)

here : (id : ℕ) (stage : Stage) (old new : List (ℕ × Stage)) → Becomes id stage old new → stage_at new id ≡ stage
here id stage old new h = grind (arith, nat_tests, h id)

pub staged-placed : (id : ℕ) (stage was : Stage) (steps : List Step) (old new : List (ℕ × Stage)) → Becomes id stage old new → is_still stage ≡ false → is_still was ≡ false → IsStaged steps old → IsStaged (steps ++ record { id = id; stage = was } ∷ []) new
staged-placed id stage was steps old new h live was_live s = record {
  there = there-last steps (record { id = id; stage = was }) new (there-kept id stage steps old new h live s.there) (ap is_still (here id stage old new h) ∙ live);
  lively = lively-last steps (record { id = id; stage = was }) s.lively was_live;
}

pub comes : (id : ℕ) (stage was : Stage) (steps : List Step) (old new : List (ℕ × Stage)) → Becomes id stage old new → quiet was ≡ quiet (stage_at old id) → Comes id (quiet stage) (record { entries = old; steps = steps }) (record { entries = new; steps = steps ++ record { id = id; stage = was } ∷ [] })
comes id stage was steps old new h same = record {
  ahead = λ q. ap quiet (h q) ∙ inside (q == id) (stage_at old q);
  list = λ q. ap quiet (undone-append steps (record { id = id; stage = was } ∷ []) (stage_at new) q) ∙ undone-quiet steps (placed id was (stage_at new)) (stage_at old) back q;
}
  where
    inside : (b : Bool) (s : Stage) → quiet (if b then stage else s) ≡ (if b then quiet stage else quiet s)
    inside true s = refl
    inside false s = refl

    back_by : (x : ℕ) (b : Bool) → (x == id) ≡ b → quiet (if b then was else stage_at new x) ≡ quiet (stage_at old x)
    back_by x true e = same ∙ ap (λ (n : ℕ). quiet (stage_at old n)) (grind (arith, nat_tests))
    back_by x false e = ap quiet (grind (arith, nat_tests, h x))

    back : (x : ℕ) → quiet (placed id was (stage_at new) x) ≡ quiet (stage_at old x)
    back x = back_by x (x == id) refl

-- one stage after the other
pub becomes-twice : (id : ℕ) (first second : Stage) (old mid new : List (ℕ × Stage)) → Becomes id first old mid → Becomes id second mid new → Becomes id second old new
becomes-twice id first second old mid new h k q = k q ∙ by_id (q == id) refl
  where
    by_id : (b : Bool) → (q == id) ≡ b → (if b then second else stage_at mid q) ≡ (if b then second else stage_at old q)
    by_id true e = refl
    by_id false e = grind (arith, nat_tests, h q)

there-first : (steps : List Step) (s : Step) (entries : List (ℕ × Stage)) → are_there (steps ++ s ∷ []) entries ≡ true → are_there steps entries ≡ true
there-first [] s entries e = refl
there-first (x ∷ steps) s entries e = grind (arith, there-first steps s entries)

lively-first : (steps : List Step) (s : Step) → are_lively (steps ++ s ∷ []) ≡ true → (are_lively steps ≡ true) × (is_still s.stage ≡ false)
lively-first [] s e = (refl, grind arith)
lively-first (x ∷ steps) s e = let r = lively-first steps s (grind arith) in (grind (arith, r.0), r.1)

-- one step is taken back
pub taken-back : (steps : List Step) (s : Step) (old new : List (ℕ × Stage)) (q : ℕ) → Becomes s.id s.stage old new → undone steps (stage_at new) q ≡ undone (steps ++ s ∷ []) (stage_at old) q
taken-back steps s old new q h = undone-same steps (stage_at new) (placed s.id s.stage (stage_at old)) h q ∙ sym (undone-append steps (s ∷ []) (stage_at old) q)

pub there-back : (steps : List Step) (s : Step) (old new : List (ℕ × Stage)) → Becomes s.id s.stage old new → are_there (steps ++ s ∷ []) old ≡ true → are_lively (steps ++ s ∷ []) ≡ true → (are_there steps new ≡ true) × (are_lively steps ≡ true)
there-back steps s old new h there lively =
    let l = lively-first steps s lively in
    (there-kept s.id s.stage steps old new h l.1 (there-first steps s old there), l.0)
