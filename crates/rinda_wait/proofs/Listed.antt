-- A map of requests as the list of them.
use Rattle.std.proofs.Common.{◌≡◌, ℕ, true, not, ltb, List, [], ◌∷◌, ◌++◌, Some, None, Result, Ok, Err, refl, sym, ◌∙◌, ap, subst, arith}
use Rattle.std.specs.Prelude.{if◌then◌else◌, ◌==◌, OnOk, OnErr}
use Rattle.std.specs.List.{list_all}
use Rattle.std.specs.Map.{lookup, remove_entry, set_value, values_of}
use Rattle.std.specs.BTreeMap.{is_at, insert_entry}
use Rattle.std.specs.Ordering.{nat_cmp}
use Rattle.std.proofs.lemmas.Bool.Decides.{nat_tests}
use Rattle.rinda_rules.specs.declared.plain.Request.{Request}
use Rattle.rinda_rules.specs.Rows.{row_of, changed, without, rising}
use Rattle.rinda_rules.proofs.Lists.{all_append, rising-map}
use Rattle.rinda_wait.specs.Table.{keyed, IsTable}
use Rattle.rinda_wait.specs.Waiting.{are_below}

pub lookup-row : (id : ℕ) (es : List (ℕ × Request)) → keyed es ≡ true → lookup (is_at (nat_cmp id)) es ≡ row_of (λ t. t.id) id (values_of es)
lookup-row id [] e = refl
lookup-row id (x ∷ es) e = grind (arith, nat_tests, lookup-row id es)

pub none_later : (id : ℕ) (ts : List Request) → list_all (λ t. ltb id t.id) ts ≡ true → without (λ t. t.id) id ts ≡ ts
none_later id [] e = refl
none_later id (t ∷ ts) e = grind (arith, nat_tests, none_later id ts)

pub values-remove : (id : ℕ) (es : List (ℕ × Request)) → keyed es ≡ true → rising (λ t. t.id) (values_of es) ≡ true → values_of (remove_entry (is_at (nat_cmp id)) es) ≡ without (λ t. t.id) id (values_of es)
values-remove id [] e up = refl
values-remove id (x ∷ es) e up = grind (arith, nat_tests, none_later id (values_of es), values-remove id es)

keyed-remove : (id : ℕ) (es : List (ℕ × Request)) → keyed es ≡ true → keyed (remove_entry (is_at (nat_cmp id)) es) ≡ true
keyed-remove id [] e = refl
keyed-remove id (x ∷ es) e = grind (arith, nat_tests, keyed-remove id es)

pub insert-last : (es : List (ℕ × Request)) (t : Request) → keyed es ≡ true → are_below t.id (values_of es) ≡ true → insert_entry nat_cmp es t.id t ≡ es ++ (t.id, t) ∷ []
insert-last [] t e low = refl
insert-last (x ∷ es) t e low = grind (arith, nat_tests, insert-last es t)

values-last : (es : List (ℕ × Request)) (k : ℕ) (t : Request) → values_of (es ++ (k, t) ∷ []) ≡ values_of es ++ t ∷ []
values-last [] k t = refl
values-last (x ∷ es) k t = grind (arith, values-last es k t)

keyed-last : (es : List (ℕ × Request)) (t : Request) → keyed es ≡ true → keyed (es ++ (t.id, t) ∷ []) ≡ true
keyed-last [] t e = grind (arith, nat_tests)
keyed-last (x ∷ es) t e = grind (arith, nat_tests, keyed-last es t)

pub rising-last : (ts : List Request) (t : Request) → rising (λ t. t.id) ts ≡ true → are_below t.id ts ≡ true → rising (λ t. t.id) (ts ++ t ∷ []) ≡ true
rising-last [] t up low = refl
rising-last (x ∷ ts) t up low = grind (arith, nat_tests, all_append (λ y. ltb x.id y.id) ts (t ∷ []), rising-last ts t)

rising-without : (id : ℕ) (ts : List Request) → rising (λ t. t.id) ts ≡ true → rising (λ t. t.id) (without (λ t. t.id) id ts) ≡ true
rising-without id ts up = Rattle.rinda_rules.proofs.Lists.rising-filter (λ t. t.id) (λ t. not (t.id == id)) ts up

pub table-removed : (id : ℕ) (es : List (ℕ × Request)) → IsTable es → IsTable (remove_entry (is_at (nat_cmp id)) es)
table-removed id es h = record { keyed = keyed-remove id es h.keyed; rising = rw (values-remove id es h.keyed h.rising) (rising-without id (values_of es) h.rising) }

pub values-inserted : (es : List (ℕ × Request)) (t : Request) → IsTable es → are_below t.id (values_of es) ≡ true → values_of (insert_entry nat_cmp es t.id t) ≡ values_of es ++ t ∷ []
values-inserted es t h low = ap (λ (es : List (ℕ × Request)). values_of es) (insert-last es t h.keyed low) ∙ values-last es t.id t

pub table-inserted : (es : List (ℕ × Request)) (t : Request) → IsTable es → are_below t.id (values_of es) ≡ true → IsTable (insert_entry nat_cmp es t.id t)
table-inserted es t h low = record { keyed = rw (insert-last es t h.keyed low) (keyed-last es t h.keyed); rising = rw (values-inserted es t h low) (rising-last (values_of es) t h.rising low) }

pub table-tried : {A B : Type 0} (r : Result A B) (es es' : List (ℕ × Request)) (t : Request) → IsTable es → are_below t.id (values_of es) ≡ true → OnOk r (es' ≡ insert_entry nat_cmp es t.id t) → OnErr r (es' ≡ es) → IsTable es'
table-tried (Ok a) es es' t h low e f = subst (λ (x : List (ℕ × Request)). IsTable x) (sym e) (table-inserted es t h low)
table-tried (Err b) es es' t h low e f = subst (λ (x : List (ℕ × Request)). IsTable x) (sym f) h

-- a row that is changed, but for its id
pub values-set : (id : ℕ) (f : Request → Request) (es : List (ℕ × Request)) (t : Request) → ((t : Request) → (f t).id ≡ t.id) → keyed es ≡ true → rising (λ t. t.id) (values_of es) ≡ true → lookup (is_at (nat_cmp id)) es ≡ Some t → values_of (set_value (is_at (nat_cmp id)) es (f t)) ≡ changed (λ t. t.id) id f (values_of es)
values-set id f [] t keeps e up there = refl
values-set id f (x ∷ es) t keeps e up there = grind (arith, nat_tests, none_changed id f (values_of es), values-set id f es t keeps)
  where
    none_changed : (id : ℕ) (f : Request → Request) (ts : List Request) → list_all (λ t. ltb id t.id) ts ≡ true → changed (λ t. t.id) id f ts ≡ ts
    none_changed id f [] e = refl
    none_changed id f (t ∷ ts) e = grind (arith, nat_tests, none_changed id f ts)

keyed-set : (id : ℕ) (f : Request → Request) (es : List (ℕ × Request)) (t : Request) → ((t : Request) → (f t).id ≡ t.id) → keyed es ≡ true → lookup (is_at (nat_cmp id)) es ≡ Some t → keyed (set_value (is_at (nat_cmp id)) es (f t)) ≡ true
keyed-set id f [] t keeps e there = refl
keyed-set id f (x ∷ es) t keeps e there = grind (arith, nat_tests, keeps t, keyed-set id f es t keeps)

pub changed-id : (id : ℕ) (f : Request → Request) → ((t : Request) → (f t).id ≡ t.id) → (t : Request) → (if t.id == id then f t else t).id ≡ t.id
changed-id id f keeps t = grind (arith, nat_tests, keeps t)

pub unchanged : (id : ℕ) (f : Request → Request) (ts : List Request) → row_of (λ t. t.id) id ts ≡ None → changed (λ t. t.id) id f ts ≡ ts
unchanged id f [] e = refl
unchanged id f (t ∷ ts) e = grind (arith, nat_tests, unchanged id f ts)

-- what is left where the row with that id, if it is there, was changed
pub record Written (id : ℕ) (f : Request → Request) (es es' : List (ℕ × Request)) : Type 0 where
  pub table : IsTable es'
  pub values : values_of es' ≡ changed (λ t. t.id) id f (values_of es)

pub written : (id : ℕ) (f : Request → Request) (es es' : List (ℕ × Request)) (t : Request) → ((t : Request) → (f t).id ≡ t.id) → IsTable es → lookup (is_at (nat_cmp id)) es ≡ Some t → es' ≡ set_value (is_at (nat_cmp id)) es (f t) → Written id f es es'
written id f es es' t keeps h there is =
    let values : values_of (set_value (is_at (nat_cmp id)) es (f t)) ≡ changed (λ t. t.id) id f (values_of es) = values-set id f es t keeps h.keyed h.rising there in
    subst (λ (x : List (ℕ × Request)). Written id f es x) (sym is) (record {
      table = record {
        keyed = keyed-set id f es t keeps h.keyed there;
        rising = rw values (rising-map (λ t. t.id) (λ t. if t.id == id then f t else t) (values_of es) (changed-id id f keeps) h.rising);
      };
      values = values;
    })

pub unwritten : (id : ℕ) (f : Request → Request) (es es' : List (ℕ × Request)) → IsTable es → lookup (is_at (nat_cmp id)) es ≡ None → es' ≡ es → Written id f es es'
unwritten id f es es' h there is =
    subst (λ (x : List (ℕ × Request)). Written id f es x) (sym is) (record { table = h; values = sym (unchanged id f (values_of es) (sym (lookup-row id es h.keyed) ∙ there)) })
