-- Each marked tuple is held, and each held one is granted to its holder: what keeps this.
use Rattle.std.proofs.Common.{◌≡◌, ℕ, true, false, List, [], ◌∷◌, ◌++◌, map, Option, Some, None, arith}
use Rattle.std.specs.List.{list_all}
use Rattle.std.proofs.lemmas.Bool.Decides.{nat_tests}
use Rattle.rinda_rules.specs.declared.plain.Entry.{Entry}
use Rattle.rinda_rules.specs.declared.plain.Request.{Request}
use Rattle.rinda_rules.specs.Rows.{row_of, changed, without}
use Rattle.rinda_rules.specs.Settled.{is_granted, grants, is_kept}
use Rattle.rinda_rules.proofs.Lists.{all_imp, row_changed, row_without}

-- every grant that was there is there
abbrev pub KeepsGrants : List Request → List Request → Type 0
KeepsGrants rs rs' = (t h : ℕ) → is_granted t (row_of (λ r. r.id) h rs) ≡ true → is_granted t (row_of (λ r. r.id) h rs') ≡ true

is_kept_more : (rs rs' : List Request) → KeepsGrants rs rs' → (t : Entry) (h : Option ℕ) → is_kept rs t h ≡ true → is_kept rs' t h ≡ true
is_kept_more rs rs' keeps t None e = e
is_kept_more rs rs' keeps t (Some h) e = keeps t.id h e

pub kept_by_grants : (rs rs' : List Request) (ts : List Entry) → KeepsGrants rs rs' → list_all (λ t. is_kept rs t t.holder) ts ≡ true → list_all (λ t. is_kept rs' t t.holder) ts ≡ true
kept_by_grants rs rs' ts keeps e = all_imp (λ t. is_kept rs t t.holder) (λ t. is_kept rs' t t.holder) (λ t. is_kept_more rs rs' keeps t t.holder) ts e

-- a change of each row that keeps its id and a grant
pub grants-map : (f : Request → Request) (rs : List Request) → ((r : Request) → (f r).id ≡ r.id) → ((r : Request) (t : ℕ) → grants t r.state ≡ true → grants t (f r).state ≡ true) → KeepsGrants rs (map f rs)
grants-map f [] ids states t h e = e
grants-map f (r ∷ rs) ids states t h e = grind (arith, nat_tests, ids r, states r t, grants-map f rs ids states t h)

-- a change of one row that granted nothing
pub grants-changed : (id : ℕ) (f : Request → Request) (rs : List Request) → ((r : Request) → (f r).id ≡ r.id) → ((t : ℕ) → is_granted t (row_of (λ r. r.id) id rs) ≡ false) → KeepsGrants rs (changed (λ r. r.id) id f rs)
grants-changed id f rs ids none t h e = grind (arith, nat_tests, none t, row_changed (λ (r : Request). r.id) id f h rs)

pub grants-without : (id : ℕ) (rs : List Request) → ((t : ℕ) → is_granted t (row_of (λ r. r.id) id rs) ≡ false) → KeepsGrants rs (without (λ r. r.id) id rs)
grants-without id rs none t h e = grind (arith, nat_tests, none t, row_without (λ (r : Request). r.id) id h rs)

pub grants-append : (rs new : List Request) → KeepsGrants rs (rs ++ new)
grants-append [] new t h e = cc
grants-append (r ∷ rs) new t h e = grind (arith, nat_tests, grants-append rs new t h)
