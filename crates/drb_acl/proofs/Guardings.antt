-- Guests at the door, one after the other.
use Rattle.std.proofs.Common.{◌≡◌, ◌∙◌, ℕ, ◌≤◌, ◌+◌, Bool, true, false, List, [], ◌∷◌, ◌++◌, length, Ok, Err, refl, sym, subst, ap, arith, append_assoc}
use Rattle.std.specs.Prelude.{None, Some, fold, filter, ◌||◌, if◌then◌else◌, IfOk, IfNone}
use Rattle.std.specs.List.{list_all, list_any}
use Rattle.std.proofs.lemmas.List.Sums.{fold-append}
use Rattle.std.proofs.lemmas.List.Elements.{filter-append}
use Rattle.std.specs.declared.option.Option.{Option}
use Rattle.std.specs.declared.result.Result.{Result}
use Rattle.drb_outside.specs.Told.{Told, HasCause, Rose}
use Rattle.drb_outside.specs.Telling.{told_on, told_same, rose_in}
use Rattle.drb_doors.specs.Coming.{Comes}
use Rattle.drb_acl.specs.declared.rule.Order.{Order}
use Rattle.drb_acl.specs.declared.acl.Judged.{Judged}
use Rattle.drb_acl.specs.declared.acl.Judged.TheVariants.{Admitted, Refused}
use Rattle.drb_acl.specs.Judging.{Access, judged_of}
use Rattle.drb_acl.specs.Laws.{is_admitted}
use Rattle.drb_acl.specs.Guarding.{lets_in, admitted_of, count_place, raised, counted_so, counted, handed, Guards}

-- guests came whom the list refuses, and each of them was counted
pub record Passed {G : Type 0} (acl : Access) (peer : G → Option ℕ) (counts counts' : List ℕ) (guests guests' : Option (List G)) (faults : ℕ) : Type 0 where
  pub refused : List G
  pub none_in : list_any (lets_in acl peer) refused ≡ false
  pub counts_are : counts' ≡ fold (counted acl peer) counts refused
  pub came : Told guests guests' faults (λ old new. old ≡ refused ++ new)

-- nobody yet
pub passed_none : {G : Type 0} (acl : Access) (peer : G → Option ℕ) (counts : List ℕ) (guests : Option (List G)) (n : ℕ) → Passed acl peer counts counts guests guests n
passed_none acl peer counts guests n = record {
  refused = [];
  none_in = refl;
  counts_are = refl;
  came = told_same (λ old new. old ≡ new) guests n (λ _. refl);
}

any-one : {G : Type 0} (p : G → Bool) (xs : List G) (x : G) → list_any p xs ≡ false → p x ≡ false → list_any p (xs ++ x ∷ []) ≡ false
any-one p [] x e f = grind (arith, e, f)
any-one p (y ∷ ys) x e f = grind (arith, e, f, any-one p ys x)

-- one more whom the list refuses
pub passed_more : {G E : Type 0} (acl : Access) (peer : G → Option ℕ) (counts counts' counts'' : List ℕ) (guests guests' guests'' : Option (List G)) (m n : ℕ) (guest : G) (r : Result (Option G) E) → m ≤ n → Passed acl peer counts counts' guests guests' m → r ≡ Ok (Some guest) → Told guests' guests'' n (Comes r) → lets_in acl peer guest ≡ false → counts'' ≡ counted acl peer counts' guest → Passed acl peer counts counts'' guests guests'' n
passed_more {G = G} {E = E} acl peer counts counts' counts'' guests guests' guests'' m n guest r le p e told out is =
    let next : Told guests' guests'' n (Comes {G = G} {E = E} (Ok (Some guest))) = subst (λ (x : Result (Option G) E). Told guests' guests'' n (Comes x)) e told in
    record {
      refused = p.refused ++ guest ∷ [];
      none_in = any-one (lets_in acl peer) p.refused guest p.none_in out;
      counts_are = is ∙ ap (λ (c : List ℕ). counted acl peer c guest) p.counts_are ∙ sym (fold-append (counted acl peer) counts p.refused (guest ∷ []));
      came = told_on (λ old new. old ≡ p.refused ++ new) (λ old new. old ≡ guest ∷ new) (λ old new. old ≡ (p.refused ++ guest ∷ []) ++ new) guests guests' guests'' m n le (λ x y z a b. a ∙ ap (λ (l : List G). p.refused ++ l) b ∙ sym (append_assoc p.refused (guest ∷ []) z)) p.came next;
    }

-- then one is handed on, or nobody
pub guards_by : {G E : Type 0} (acl : Access) (peer : G → Option ℕ) (counts counts' : List ℕ) (guests guests' guests'' : Option (List G)) (m n : ℕ) (r : Result (Option G) E) → m ≤ n → Passed acl peer counts counts' guests guests' m → Told guests' guests'' n (Comes r) → list_all (lets_in acl peer) (handed r) ≡ true → Guards acl peer counts counts' guests guests'' n r
guards_by {G = G} {E = E} acl peer counts counts' guests guests' guests'' m n r le p told good = record {
  refused = p.refused;
  none_in = p.none_in;
  all_in = good;
  counts_are = p.counts_are;
  came = told_on (λ old new. old ≡ p.refused ++ new) (Comes r) (λ old new. old ≡ p.refused ++ handed r ++ new) guests guests' guests'' m n le (λ x y z a b. a ∙ ap (λ (l : List G). p.refused ++ l) (by_result r y z b) ∙ sym (append_assoc p.refused (handed r) z)) p.came told;
}
  where
    by_result : (r : Result (Option G) E) (y z : List G) → Comes r y z → y ≡ handed r ++ z
    by_result (Ok (Some guest)) y z b = b
    by_result (Ok None) y z b = b.0 ∙ sym b.1
    by_result (Err e) y z b = sym b

-- Those whom the list admits.

filter-none : {G : Type 0} (p : G → Bool) (xs : List G) → list_any p xs ≡ false → filter p xs ≡ []
filter-none p [] e = refl
filter-none p (x ∷ xs) e = grind (arith, e, filter-none p xs)

filter-behind : {G : Type 0} (p : G → Bool) (xs ys : List G) → list_any p xs ≡ false → filter p (xs ++ ys) ≡ filter p ys
filter-behind p xs ys e = filter-append p xs ys ∙ ap (λ l. l ++ filter p ys) (filter-none p xs e)

told_filter : {G : Type 0} (acl : Access) (peer : G → Option ℕ) (P Q : List G → List G → Type 0) (old new : Option (List G)) (n : ℕ) → ((x y : List G) → P x y → Q (filter (lets_in acl peer) x) (filter (lets_in acl peer) y)) → Told old new n P → Told (admitted_of acl peer old) (admitted_of acl peer new) n Q
told_filter acl peer P Q None None n f p = tt
told_filter acl peer P Q None (Some y) n f p = absurd p
told_filter acl peer P Q (Some x) None n f p = p
told_filter acl peer P Q (Some x) (Some y) n f p = f x y p

-- of those whom the list admits the first came, or nobody will come, or there was a failure
pub admitted_by : {G E : Type 0} (acl : Access) (peer : G → Option ℕ) (counts counts' : List ℕ) (guests guests' guests'' : Option (List G)) (m n : ℕ) (r : Result (Option G) E) → m ≤ n → Passed acl peer counts counts' guests guests' m → Told guests' guests'' n (Comes r) → list_all (lets_in acl peer) (handed r) ≡ true → Told (admitted_of acl peer guests) (admitted_of acl peer guests'') n (Comes r)
admitted_by {G = G} {E = E} acl peer counts counts' guests guests' guests'' m n r le p told good =
    told_filter acl peer (λ old new. (y : List G) × (old ≡ p.refused ++ y) × Comes r y new) (Comes r) guests guests'' n (λ x z t. subst (λ (l : List G). Comes r l (filter (lets_in acl peer) z)) (sym (ap (filter (lets_in acl peer)) t.1 ∙ filter-behind (lets_in acl peer) p.refused t.0 p.none_in)) (by_result r t.0 z good t.2)) (told_on (λ old new. old ≡ p.refused ++ new) (Comes r) (λ old new. (y : List G) × (old ≡ p.refused ++ y) × Comes r y new) guests guests' guests'' m n le (λ x y z a b. (y, a, b)) p.came told)
  where
    by_result : (r : Result (Option G) E) (y z : List G) → list_all (lets_in acl peer) (handed r) ≡ true → Comes r y z → Comes r (filter (lets_in acl peer) y) (filter (lets_in acl peer) z)
    by_result (Ok (Some guest)) y z a b = grind (arith, a, b)
    by_result (Ok None) y z a b = (ap (filter (lets_in acl peer)) b.0, ap (filter (lets_in acl peer)) b.1)
    by_result (Err e) y z a b = ap (filter (lets_in acl peer)) b

-- Between two calls of the inner doors.

-- guests came and were refused since the call began, and the list is the same
pub record Going {G N W : Type 0} (acl : Access) (peer : G → Option ℕ) (guests : N → Option (List G)) (faults ends : N → ℕ) (order order' : Order) (rules rules' : W) (counts counts' : List ℕ) (doors doors' : N) : Type 0 where
  pub passed : Passed acl peer counts counts' (guests doors) (guests doors') (faults doors')
  pub faults_later : faults doors ≤ faults doors'
  pub ends_later : ends doors ≤ ends doors'
  pub order_is : order' ≡ order
  pub rules_are : rules' ≡ rules

-- the failure of a call rose the count in all
pub cause_on : {T E : Type 0} (a b c : ℕ) (r s : Result T E) → a ≤ b → r ≡ s → HasCause b c r → HasCause a c s
cause_on {T = T} {E = E} a b c r s le e h = by_result s (subst (λ (x : Result T E). HasCause b c x) e h)
  where
    by_result : (x : Result T E) → HasCause b c x → HasCause a c x
    by_result (Ok x) h = record { later = omega (arith, le, h.later); failed = tt }
    by_result (Err x) h = record { later = omega (arith, le, h.later); failed = rose_in a b c c le (omega arith) h.failed }

-- so did the end of one
pub ended_on : {T E : Type 0} (a b c : ℕ) (r : Result (Option T) E) → a ≤ b → r ≡ Ok None → IfOk r (λ x. IfNone x (Rose b c)) → Rose a c
ended_on {T = T} {E = E} a b c r le e h = rose_in a b c c le (omega arith) (subst (λ (y : Result (Option T) E). IfOk y (λ x. IfNone x (Rose b c))) e h)

-- where the inner doors answered that
pub guards_at : {G E : Type 0} (acl : Access) (peer : G → Option ℕ) (counts counts' : List ℕ) (guests guests' guests'' : Option (List G)) (m n : ℕ) (r s : Result (Option G) E) → m ≤ n → Passed acl peer counts counts' guests guests' m → r ≡ s → Told guests' guests'' n (Comes r) → list_all (lets_in acl peer) (handed s) ≡ true → Guards acl peer counts counts' guests guests'' n s
guards_at {G = G} {E = E} acl peer counts counts' guests guests' guests'' m n r s le p e told good = guards_by acl peer counts counts' guests guests' guests'' m n s le p (subst (λ (x : Result (Option G) E). Told guests' guests'' n (Comes x)) e told) good

pub admitted_at : {G E : Type 0} (acl acl' : Access) (peer : G → Option ℕ) (counts counts' : List ℕ) (guests guests' guests'' : Option (List G)) (m n : ℕ) (r s : Result (Option G) E) → acl' ≡ acl → m ≤ n → Passed acl peer counts counts' guests guests' m → r ≡ s → Told guests' guests'' n (Comes r) → list_all (lets_in acl peer) (handed s) ≡ true → Told (admitted_of acl peer guests) (admitted_of acl' peer guests'') n (Comes s)
admitted_at {G = G} {E = E} acl acl' peer counts counts' guests guests' guests'' m n r s same le p e told good =
    subst (λ (a : Access). Told (admitted_of acl peer guests) (admitted_of a peer guests'') n (Comes s)) (sym same) (admitted_by acl peer counts counts' guests guests' guests'' m n s le p (subst (λ (x : Result (Option G) E). Told guests' guests'' n (Comes x)) e told) good)

-- what the list makes of a guest, once it was asked
judged_so : {G : Type 0} (acl acl' : Access) (peer : G → Option ℕ) (guest : G) (who : Option ℕ) (j k : Judged) → acl' ≡ acl → who ≡ peer guest → j ≡ judged_of acl' who → j ≡ k → k ≡ judged_of acl (peer guest)
judged_so acl acl' peer guest who j k same is judged found = sym found ∙ judged ∙ ap (λ (a : Access). judged_of a who) same ∙ ap (λ (w : Option ℕ). judged_of acl w) is

pub is_let_in : {G : Type 0} (acl acl' : Access) (peer : G → Option ℕ) (guest : G) (who : Option ℕ) (j : Judged) (rule : Option ℕ) → acl' ≡ acl → who ≡ peer guest → j ≡ judged_of acl' who → j ≡ Admitted rule → list_all (lets_in acl peer) (guest ∷ []) ≡ true
is_let_in acl acl' peer guest who j rule same is judged found = let k : is_admitted (judged_of acl (peer guest)) ≡ true = sym (ap is_admitted (judged_so acl acl' peer guest who j (Admitted rule) same is judged found)) in grind (arith, k)

pub is_kept_out : {G : Type 0} (acl acl' : Access) (peer : G → Option ℕ) (guest : G) (who : Option ℕ) (j : Judged) (rule : Option ℕ) → acl' ≡ acl → who ≡ peer guest → j ≡ judged_of acl' who → j ≡ Refused rule → lets_in acl peer guest ≡ false
is_kept_out acl acl' peer guest who j rule same is judged found = sym (ap is_admitted (judged_so acl acl' peer guest who j (Refused rule) same is judged found))

pub is_counted : {G : Type 0} (acl acl' : Access) (peer : G → Option ℕ) (guest : G) (who : Option ℕ) (j : Judged) (rule : Option ℕ) (counts counts' : List ℕ) (rules place : ℕ) → acl' ≡ acl → who ≡ peer guest → j ≡ judged_of acl' who → j ≡ Refused rule → rules ≡ length acl.rules → place ≡ count_place rules rule → counts' ≡ raised place counts → counts' ≡ counted acl peer counts guest
is_counted acl acl' peer guest who j rule counts counts' rules place same is judged found many at up =
    up
    ∙ ap (λ (k : ℕ). raised k counts) (at ∙ ap (λ (m : ℕ). count_place m rule) many)
    ∙ ap (counted_so (length acl.rules) counts) (judged_so acl acl' peer guest who j (Refused rule) same is judged found)
