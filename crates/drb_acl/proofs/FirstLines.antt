-- The first line that is wrong, and the rules of a list.
use Prim.Native.Nat.{suc}
use Rattle.std.proofs.Common.{◌≡◌, ◌∙◌, ℕ, ◌+◌, ◌≤◌, ◌<◌, Bool, true, false, List, [], ◌∷◌, ◌++◌, length, take, Result, Ok, Err, refl, sym, ap, subst, arith, append_assoc, length-append}
use Rattle.std.specs.Prelude.{nat_lt, if◌then◌else◌}
use Rattle.std.proofs.lemmas.Bool.Decides.{nat_tests}
use Rattle.drb_acl.specs.declared.rule.Rule.{Rule}
use Rattle.drb_acl.specs.declared.line.Line.{Line}
use Rattle.drb_acl.specs.declared.line.Line.TheVariants.{Nothing, Order as Said, Rule as Ruled, NoForm, NoPattern}
use Rattle.drb_acl.specs.declared.acl.AclError.{AclError}
use Rattle.drb_acl.specs.declared.acl.AclError.TheVariants.{Word, Address, TooMany}
use Rattle.drb_acl.specs.Judging.{Access}
use Rattle.drb_acl.specs.Reading.{rules_from, lines_from, unsaid}
use Rattle.drb_acl.specs.FirstWrong.{Names, NamesFirst, HasItsRules, rules_in}

-- the first k lines read so, and with one more they are refused
pub record At (f : List Line → Result Access AclError) (s : ℕ) (ls : List Line) (e : AclError) : Type 0 where
  pub k : ℕ
  pub acl : Access
  pub named : Names (s + k) e
  pub good : f (take k ls) ≡ Ok acl
  pub bad : f (take (suc k) ls) ≡ Err e

abbrev stops : AclError → Result Access AclError
stops e = Err e

err_is : (a e : AclError) → stops a ≡ stops e → a ≡ e
err_is a e h = grind arith

named_so : (s : ℕ) (a e : AclError) → Names s a → stops a ≡ stops e → Names (s + 0) e
named_so s a e n h = subst (λ (x : AclError). Names (s + 0) x) (err_is a e h) (subst (λ (m : ℕ). Names m a) (let same : s ≡ s + 0 = omega arith in same) n)

later : (s k : ℕ) (e : AclError) → Names (s + 1 + k) e → Names (s + suc k) e
later s k e n = subst (λ (m : ℕ). Names m e) (let same : s + 1 + k ≡ s + suc k = omega arith in same) n

pub rules_first : (above : Access) (s : ℕ) (ls : List Line) (e : AclError) → rules_from above s ls ≡ Err e → At (rules_from above s) s ls e
rules_first above s [] e h = absurd (cc)
rules_first above s (Nothing ∷ ls) e h =
    let r = rules_first above (s + 1) ls e h in
    record { k = suc r.k; acl = r.acl; named = later s r.k e r.named; good = r.good; bad = r.bad }
rules_first above s (Said order ∷ ls) e h = record { k = 0; acl = above; named = named_so s (Word s) e refl h; good = refl; bad = h }
rules_first above s (NoForm ∷ ls) e h = record { k = 0; acl = above; named = named_so s (Word s) e refl h; good = refl; bad = h }
rules_first above s (NoPattern ∷ ls) e h = record { k = 0; acl = above; named = named_so s (Address s) e refl h; good = refl; bad = h }
rules_first above s (Ruled rule ∷ ls) e h = by_test (nat_lt (length above.rules) 1024) refl h (λ g. rules_first (record above { rules = above.rules ++ rule ∷ [] }) (s + 1) ls e g)
  where
    by_test : (b : Bool) → nat_lt (length above.rules) 1024 ≡ b → (if b then rules_from (record above { rules = above.rules ++ rule ∷ [] }) (s + 1) ls else Err (TooMany s)) ≡ Err e → (rules_from (record above { rules = above.rules ++ rule ∷ [] }) (s + 1) ls ≡ Err e → At (rules_from (record above { rules = above.rules ++ rule ∷ [] }) (s + 1)) (s + 1) ls e) → At (rules_from above s) s (Ruled rule ∷ ls) e
    by_test true t g rec =
        let r = rec g in
        record {
          k = suc r.k;
          acl = r.acl;
          named = later s r.k e r.named;
          good = ap (λ (b : Bool). if b then rules_from (record above { rules = above.rules ++ rule ∷ [] }) (s + 1) (take r.k ls) else Err (TooMany s)) t ∙ r.good;
          bad = ap (λ (b : Bool). if b then rules_from (record above { rules = above.rules ++ rule ∷ [] }) (s + 1) (take (suc r.k) ls) else Err (TooMany s)) t ∙ r.bad;
        }
    by_test false t g rec = record {
      k = 0;
      acl = above;
      named = named_so s (TooMany s) e refl g;
      good = refl;
      bad = ap (λ (b : Bool). if b then rules_from (record above { rules = above.rules ++ rule ∷ [] }) (s + 1) [] else Err (TooMany s)) t ∙ g;
    }

headed : (s : ℕ) (rule : Rule) (ls : List Line) (e : AclError) (k : ℕ) (acl : Access) → Names (s + k) e → rules_from unsaid s (take k (Ruled rule ∷ ls)) ≡ Ok acl → rules_from unsaid s (take (suc k) (Ruled rule ∷ ls)) ≡ Err e → At (lines_from s) s (Ruled rule ∷ ls) e
headed s rule ls e Prim.Native.Nat.zero acl n g b = record { k = 0; acl = unsaid; named = n; good = refl; bad = b }
headed s rule ls e (suc k) acl n g b = record { k = suc k; acl = acl; named = n; good = g; bad = b }

pub lines_first : (s : ℕ) (ls : List Line) (e : AclError) → lines_from s ls ≡ Err e → At (lines_from s) s ls e
lines_first s [] e h = absurd (cc)
lines_first s (Nothing ∷ ls) e h =
    let r = lines_first (s + 1) ls e h in
    record { k = suc r.k; acl = r.acl; named = later s r.k e r.named; good = r.good; bad = r.bad }
lines_first s (Said order ∷ ls) e h =
    let r = rules_first (record { order = order; rules = [] }) (s + 1) ls e h in
    record { k = suc r.k; acl = r.acl; named = later s r.k e r.named; good = r.good; bad = r.bad }
lines_first s (NoForm ∷ ls) e h = record { k = 0; acl = unsaid; named = named_so s (Word s) e refl h; good = refl; bad = h }
lines_first s (NoPattern ∷ ls) e h = record { k = 0; acl = unsaid; named = named_so s (Address s) e refl h; good = refl; bad = h }
lines_first s (Ruled rule ∷ ls) e h = let r = rules_first unsaid s (Ruled rule ∷ ls) e h in headed s rule ls e r.k r.acl r.named r.good r.bad

pub first : NamesFirst
first ls e h =
    let r = lines_first 1 ls e h in (
      r.k,
      r.acl,
      subst (λ (m : ℕ). Names m e) (let same : 1 + r.k ≡ r.k + 1 = omega arith in same) r.named,
      r.good,
      subst (λ (m : ℕ). lines_from 1 (take m ls) ≡ Err e) (let same : suc r.k ≡ r.k + 1 = omega arith in same) r.bad,
    )

-- Rules.

pub record Kept (above : Access) (ls : List Line) (acl : Access) : Type 0 where
  pub rules : acl.rules ≡ above.rules ++ rules_in ls
  pub few : length acl.rules ≤ 1024

abbrev goes : Access → Result Access AclError
goes a = Ok a

ok_is : (a b : Access) → goes a ≡ goes b → a ≡ b
ok_is a b h = grind arith

append_none : (rs : List Rule) → rs ≡ rs ++ []
append_none [] = refl
append_none (r ∷ rs) = ap (λ (xs : List Rule). r ∷ xs) (append_none rs)

pub rules_kept : (above : Access) (s : ℕ) (ls : List Line) (acl : Access) → length above.rules ≤ 1024 → rules_from above s ls ≡ Ok acl → Kept above ls acl
rules_kept above s [] acl l h = subst (λ (a : Access). Kept above [] a) (ok_is above acl h) (record { rules = append_none above.rules; few = l })
rules_kept above s (Nothing ∷ ls) acl l h = let r = rules_kept above (s + 1) ls acl l h in record { rules = r.rules; few = r.few }
rules_kept above s (Said order ∷ ls) acl l h = absurd (cc)
rules_kept above s (NoForm ∷ ls) acl l h = absurd (cc)
rules_kept above s (NoPattern ∷ ls) acl l h = absurd (cc)
rules_kept above s (Ruled rule ∷ ls) acl l h = by_test (nat_lt (length above.rules) 1024) refl h (λ room g. rules_kept (record above { rules = above.rules ++ rule ∷ [] }) (s + 1) ls acl room g)
  where
    never : stops (TooMany s) ≡ goes acl → ⊥
    never g = cc

    by_test : (b : Bool) → nat_lt (length above.rules) 1024 ≡ b → (if b then rules_from (record above { rules = above.rules ++ rule ∷ [] }) (s + 1) ls else Err (TooMany s)) ≡ Ok acl → (length (above.rules ++ rule ∷ []) ≤ 1024 → rules_from (record above { rules = above.rules ++ rule ∷ [] }) (s + 1) ls ≡ Ok acl → Kept (record above { rules = above.rules ++ rule ∷ [] }) ls acl) → Kept above (Ruled rule ∷ ls) acl
    by_test false t g rec = absurd (never g)
    by_test true t g rec =
        let under : length above.rules < 1024 = grind (arith, nat_tests) in
        let room : length (above.rules ++ rule ∷ []) ≤ 1024 = omega (arith, length-append above.rules (rule ∷ []), under) in
        let r = rec room g in
        record { rules = r.rules ∙ append_assoc above.rules (rule ∷ []) (rules_in ls); few = r.few }

pub lines_kept : (s : ℕ) (ls : List Line) (acl : Access) → lines_from s ls ≡ Ok acl → (acl.rules ≡ rules_in ls) × (length acl.rules ≤ 1024)
lines_kept s [] acl h = let same : unsaid ≡ acl = ok_is unsaid acl h in (sym (ap (λ (a : Access). a.rules) same), subst (λ (a : Access). length a.rules ≤ 1024) same (let few : 0 ≤ 1024 = omega arith in few))
lines_kept s (Nothing ∷ ls) acl h = lines_kept (s + 1) ls acl h
lines_kept s (Said order ∷ ls) acl h = let r = rules_kept (record { order = order; rules = [] }) (s + 1) ls acl (omega arith) h in (r.rules, r.few)
lines_kept s (NoForm ∷ ls) acl h = absurd (cc)
lines_kept s (NoPattern ∷ ls) acl h = absurd (cc)
lines_kept s (Ruled rule ∷ ls) acl h = let r = rules_kept unsaid s (Ruled rule ∷ ls) acl (omega arith) h in (r.rules, r.few)

pub kept : HasItsRules
kept ls acl h = lines_kept 1 ls acl h
