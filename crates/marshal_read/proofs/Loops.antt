-- One more part, as the loops of the reader take it.
use Rattle.std.proofs.Common.{◌≡◌, ℕ, ◌+◌, ◌-◌, ◌<◌, ◌≤◌, List, [], ◌∷◌, ◌++◌, Bool, true, false, Ok, Err, refl, sym, ap, ◌∙◌, subst, arith}
use Rattle.std.proofs.lemmas.List.{map-append}
use Rattle.drb_tree.specs.declared.Tree.{Tree}
use Rattle.drb_tree.specs.Kept.{has_key, has_name}
use Rattle.marshal_grammar.specs.Grammar.{Grammar}
use Rattle.marshal_grammar.specs.Reading.{Read, refuse}
use Rattle.marshal_grammar.specs.Symbols.{name}
use Rattle.marshal_grammar.specs.Values.{values, pairs, fields}
use Rattle.marshal_grammar.specs.declared.refusal.Why.TheVariants as why
use Rattle.marshal_read.specs.declared.error.ReadError.{ReadError}
use Rattle.marshal_read.specs.declared.error.ReadError.TheVariants as error
use Rattle.marshal_read.specs.declared.steps.Step.{Step}
use Rattle.marshal_read.specs.declared.steps.Step.TheVariants as S
use Rattle.marshal_read.specs.State.{State, Named}
use Rattle.marshal_read.specs.Fails.{Fails, read_at}
use Rattle.marshal_read.specs.Making.{made, added, AddsOne, values_in, pairs_in, fields_in, AddsValues, AddsPairs, AddsFields, keys_of, key_in, names_of, name_in}
use Rattle.marshal_read.proofs.Adding as A
use Rattle.marshal_read.proofs.Adding.{since_self}
use Rattle.marshal_read.proofs.Named.{Tame, name_named, read_leads}
use Rattle.marshal_read.proofs.Pieces.{key_in-keys_of, name_in-names_of, with_front, values_go_on, values_fail, values_end, pairs_go_on, pairs_fail_first, pairs_duplicate, pairs_fail_value, pairs_end, fields_go_on, fields_fail_first, fields_duplicate, fields_fail_value, fields_end}

-- how far the work is from its end: an inner dump is read within an outer one
abbrev pub scope : Bool → ℕ
scope true = 0
scope false = 10000

with_front-nil : (r : Read (List Tree)) → r ≡ with_front [] r
with_front-nil (Ok x) = refl
with_front-nil (Err q) = refl

-- what a loop over values keeps, after i of them
pub record ValuesSo (total : Read (List Tree)) (part : Grammar Tree) (left i : ℕ) (first : List Step) (s : State) : Type 0 where
  pub same : total ≡ with_front (values_in first s.steps) (read_at (values part left) s)
  pub adds : AddsValues first s.steps i
  pub named : Named s

pub values_more : (total : Read (List Tree)) (part : Grammar Tree) (n i : ℕ) (first : List Step) (s t : State) → Tame part → i < n
    → ValuesSo total part (n - i) i first s → read_at part s ≡ Ok (added s.steps t.steps, t.seen, t.rest) → AddsOne s.steps t.steps
    → ValuesSo total part (n - (i + 1)) (i + 1) first t
values_more total part n i first s t tame lt so e one =
    let more = A.values_more first s.steps t.steps i so.adds one in
    record {
      same = so.same ∙ values_go_on part (values_in first s.steps) n i (added s.steps t.steps) s t lt e
          ∙ ap (λ (vs : List Tree). with_front vs (read_at (values part (n - (i + 1))) t)) (sym more.1);
      adds = more.0;
      named = read_leads tame s t (added s.steps t.steps) e so.named;
    }

-- what a loop over pairs keeps, after i of them
pub record PairsSo (total : Read (List (Tree × Tree))) (part : Grammar Tree) (left i : ℕ) (keys : List Tree) (first : List Step) (s : State) : Type 0 where
  pub same : total ≡ read_at (pairs part (pairs_in first s.steps) left) s
  pub same_keys : keys ≡ keys_of (pairs_in first s.steps)
  pub adds : AddsPairs first s.steps i
  pub named : Named s

key_there : (b : Bool) (k : Tree) (ps : List (Tree × Tree)) (keys : List Tree) → keys ≡ keys_of ps → b ≡ key_in k keys → has_key k ps ≡ b
key_there b k ps keys e d = sym (d ∙ ap (key_in k) e ∙ key_in-keys_of k ps)

-- the readers after the key, after what it has, and after the step that makes their pair
pub pairs_more : (total : Read (List (Tree × Tree))) (part : Grammar Tree) (n i : ℕ) (keys : List Tree) (first : List Step) (s t u w : State) (k : Tree) → Tame part → i < n
    → PairsSo total part (n - i) i keys first s → read_at part s ≡ Ok (added s.steps t.steps, t.seen, t.rest) → AddsOne s.steps t.steps
    → k ≡ added s.steps t.steps → false ≡ key_in k keys → read_at part t ≡ Ok (added t.steps u.steps, u.seen, u.rest) → AddsOne t.steps u.steps
    → w ≡ record u { steps = u.steps ++ (S.Pair ∷ []) } → PairsSo total part (n - (i + 1)) (i + 1) (keys ++ (k ∷ [])) first w
pairs_more total part n i keys first s t u w k tame lt so e one kp d f two push =
    let there : has_key (added s.steps t.steps) (pairs_in first s.steps) ≡ false =
    ap (λ (z : Tree). has_key z (pairs_in first s.steps)) (sym kp) ∙ key_there false k (pairs_in first s.steps) keys so.same_keys d in
    let more = A.pairs_more first s.steps t.steps u.steps w.steps i so.adds one two (ap (λ (z : State). z.steps) push) there in
    let p : Tree × Tree = (added s.steps t.steps, added t.steps u.steps) in
    record {
      same = so.same ∙ pairs_go_on part (pairs_in first s.steps) n i (added s.steps t.steps) (added t.steps u.steps) s t u lt e there f
          ∙ ap (λ (ps : List (Tree × Tree)). read_at (pairs part ps (n - (i + 1))) u) (sym more.1)
          ∙ rw push refl;
      same_keys = ap (λ (ks : List Tree). ks ++ (k ∷ [])) so.same_keys
          ∙ ap (λ (z : Tree). keys_of (pairs_in first s.steps) ++ (z ∷ [])) kp
          ∙ sym (map-append (λ (x : Tree × Tree). x.0) (pairs_in first s.steps) (p ∷ []))
          ∙ ap keys_of (sym more.1);
      adds = more.0;
      named = subst Named (sym push) (read_leads tame t u (added t.steps u.steps) f (read_leads tame s t (added s.steps t.steps) e so.named));
    }

-- what a loop over fields keeps, after i of them
pub record FieldsSo (total : Read (List (List ℕ × Tree))) (part : Grammar Tree) (left i : ℕ) (names : List (List ℕ)) (first : List Step) (s : State) : Type 0 where
  pub same : total ≡ read_at (fields part (fields_in first s.steps) left) s
  pub same_names : names ≡ names_of (fields_in first s.steps)
  pub adds : AddsFields first s.steps i
  pub named : Named s

name_there : (b : Bool) (n : List ℕ) (fs : List (List ℕ × Tree)) (names : List (List ℕ)) → names ≡ names_of fs → b ≡ name_in n names → has_name n fs ≡ b
name_there b n fs names e d = sym (d ∙ ap (name_in n) e ∙ name_in-names_of n fs)

-- the readers after the name, after what it has, and after the step that makes the field
pub fields_more : (total : Read (List (List ℕ × Tree))) (part : Grammar Tree) (n i : ℕ) (names : List (List ℕ)) (first : List Step) (s t u w : State) (key : List ℕ) → Tame part → i < n
    → FieldsSo total part (n - i) i names first s → read_at name s ≡ Ok (key, t.seen, t.rest) → t.steps ≡ s.steps
    → false ≡ name_in key names → read_at part t ≡ Ok (added t.steps u.steps, u.seen, u.rest) → AddsOne t.steps u.steps
    → w ≡ record u { steps = u.steps ++ (S.Field key ∷ []) } → FieldsSo total part (n - (i + 1)) (i + 1) (names ++ (key ∷ [])) first w
fields_more total part n i names first s t u w key tame lt so e kept d f one push =
    let name_is = read_leads name_named s t key e so.named in
    let there : has_name key (fields_in first s.steps) ≡ false = name_there false key (fields_in first s.steps) names so.same_names d in
    let one_here : AddsOne s.steps u.steps = subst (λ (ss : List Step). AddsOne ss u.steps) kept one in
    let more = A.fields_more first s.steps u.steps w.steps i key name_is.1 so.adds one_here (ap (λ (z : State). z.steps) push) there in
    let v : added t.steps u.steps ≡ added s.steps u.steps = ap (λ (ss : List Step). added ss u.steps) kept in
    record {
      same = so.same ∙ fields_go_on part (fields_in first s.steps) n i key (added t.steps u.steps) s t u lt e there f
          ∙ ap (λ (z : Tree). read_at (fields part (fields_in first s.steps ++ ((key, z) ∷ [])) (n - (i + 1))) u) v
          ∙ ap (λ (fs : List (List ℕ × Tree)). read_at (fields part fs (n - (i + 1))) u) (sym more.1)
          ∙ rw push refl;
      same_names = ap (λ (ks : List (List ℕ)). ks ++ (key ∷ [])) so.same_names
          ∙ sym (map-append (λ (x : List ℕ × Tree). x.0) (fields_in first s.steps) ((key, added s.steps u.steps) ∷ []))
          ∙ ap names_of (sym more.1);
      adds = more.0;
      named = subst Named (sym push) (read_leads tame t u (added t.steps u.steps) f name_is.0);
    }

-- before the first part
pub values_begin : (part : Grammar Tree) (n : ℕ) (s : State) → Named s → ValuesSo (read_at (values part n) s) part (n - 0) 0 s.steps s
values_begin part n s h =
    let k : n ≡ n - 0 = omega arith in
    let none : values_in s.steps s.steps ≡ [] = ap (λ (ss : List Step). (made ss).values) (since_self s.steps) in
    record {
      same = ap (λ (j : ℕ). read_at (values part j) s) k ∙ with_front-nil (read_at (values part (n - 0)) s) ∙ ap (λ (vs : List Tree). with_front vs (read_at (values part (n - 0)) s)) (sym none);
      adds = A.values_begin s.steps;
      named = h;
    }

pub pairs_begin : (part : Grammar Tree) (n : ℕ) (keys : List Tree) (s : State) → keys ≡ [] → Named s → PairsSo (read_at (pairs part [] n) s) part (n - 0) 0 keys s.steps s
pairs_begin part n keys s d h =
    let k : n ≡ n - 0 = omega arith in
    let none : pairs_in s.steps s.steps ≡ [] = ap (λ (ss : List Step). (made ss).pairs) (since_self s.steps) in
    record {
      same = ap (λ (j : ℕ). read_at (pairs part [] j) s) k ∙ ap (λ (ps : List (Tree × Tree)). read_at (pairs part ps (n - 0)) s) (sym none);
      same_keys = d ∙ ap keys_of (sym none);
      adds = A.pairs_begin s.steps;
      named = h;
    }

pub fields_begin : (part : Grammar Tree) (n : ℕ) (names : List (List ℕ)) (s : State) → names ≡ [] → Named s → FieldsSo (read_at (fields part [] n) s) part (n - 0) 0 names s.steps s
fields_begin part n names s d h =
    let k : n ≡ n - 0 = omega arith in
    let none : fields_in s.steps s.steps ≡ [] = ap (λ (ss : List Step). (made ss).fields) (since_self s.steps) in
    record {
      same = ap (λ (j : ℕ). read_at (fields part [] j) s) k ∙ ap (λ (fs : List (List ℕ × Tree)). read_at (fields part fs (n - 0)) s) (sym none);
      same_names = d ∙ ap names_of (sym none);
      adds = A.fields_begin s.steps;
      named = h;
    }

-- a reading that is another one fails as that does
pub fails_same : {A : Type 0} (r : ReadError) (p q : Read A) → p ≡ q → Fails r q → Fails r p
fails_same error.Memory p q e f = tt
fails_same (error.Refused x) p q e f = e ∙ f

-- at the end
pub values_done : (total : Read (List Tree)) (part : Grammar Tree) (n i : ℕ) (first : List Step) (s : State) → n ≤ i → i ≤ n → ValuesSo total part (n - i) i first s
    → (total ≡ Ok (values_in first s.steps, s.seen, s.rest)) × AddsValues first s.steps n
values_done total part n i first s le ge so =
    let k : i ≡ n = omega arith in
    (so.same ∙ values_end part (values_in first s.steps) n i s le, subst (λ (j : ℕ). AddsValues first s.steps j) k so.adds)

pub pairs_done : (total : Read (List (Tree × Tree))) (part : Grammar Tree) (n i : ℕ) (keys : List Tree) (first : List Step) (s : State) → n ≤ i → i ≤ n → PairsSo total part (n - i) i keys first s
    → (total ≡ Ok (pairs_in first s.steps, s.seen, s.rest)) × AddsPairs first s.steps n
pairs_done total part n i keys first s le ge so =
    let k : i ≡ n = omega arith in
    (so.same ∙ pairs_end part (pairs_in first s.steps) n i s le, subst (λ (j : ℕ). AddsPairs first s.steps j) k so.adds)

pub fields_done : (total : Read (List (List ℕ × Tree))) (part : Grammar Tree) (n i : ℕ) (names : List (List ℕ)) (first : List Step) (s : State) → n ≤ i → i ≤ n → FieldsSo total part (n - i) i names first s
    → (total ≡ Ok (fields_in first s.steps, s.seen, s.rest)) × AddsFields first s.steps n
fields_done total part n i names first s le ge so =
    let k : i ≡ n = omega arith in
    (so.same ∙ fields_end part (fields_in first s.steps) n i s le, subst (λ (j : ℕ). AddsFields first s.steps j) k so.adds)

-- where a part fails
pub values_failed : (r : ReadError) (total : Read (List Tree)) (part : Grammar Tree) (n i : ℕ) (first : List Step) (s : State) → i < n → ValuesSo total part (n - i) i first s → Fails r (read_at part s) → Fails r total
values_failed r total part n i first s lt so f = fails_same r total (with_front (values_in first s.steps) (read_at (values part (n - i)) s)) so.same (values_fail r part (values_in first s.steps) n i s lt f)

pub pairs_failed : (r : ReadError) (total : Read (List (Tree × Tree))) (part : Grammar Tree) (n i : ℕ) (keys : List Tree) (first : List Step) (s : State) → i < n → PairsSo total part (n - i) i keys first s → Fails r (read_at part s) → Fails r total
pairs_failed r total part n i keys first s lt so f = fails_same r total (read_at (pairs part (pairs_in first s.steps) (n - i)) s) so.same (pairs_fail_first r part (pairs_in first s.steps) n i s lt f)

pub pairs_double : (total : Read (List (Tree × Tree))) (part : Grammar Tree) (n i : ℕ) (keys : List Tree) (first : List Step) (s t : State) (k : Tree) → i < n → PairsSo total part (n - i) i keys first s
    → read_at part s ≡ Ok (added s.steps t.steps, t.seen, t.rest) → k ≡ added s.steps t.steps → true ≡ key_in k keys → total ≡ refuse why.DuplicateKey s.seen.at
pairs_double total part n i keys first s t k lt so e kp d =
    so.same ∙ pairs_duplicate part (pairs_in first s.steps) n i (added s.steps t.steps) s t lt e
    (ap (λ (z : Tree). has_key z (pairs_in first s.steps)) (sym kp) ∙ key_there true k (pairs_in first s.steps) keys so.same_keys d)

pub pairs_failed_value : (r : ReadError) (total : Read (List (Tree × Tree))) (part : Grammar Tree) (n i : ℕ) (keys : List Tree) (first : List Step) (s t : State) (k : Tree) → i < n → PairsSo total part (n - i) i keys first s
    → read_at part s ≡ Ok (added s.steps t.steps, t.seen, t.rest) → k ≡ added s.steps t.steps → false ≡ key_in k keys → Fails r (read_at part t) → Fails r total
pairs_failed_value r total part n i keys first s t k lt so e kp d f =
    fails_same r total (read_at (pairs part (pairs_in first s.steps) (n - i)) s) so.same
    (pairs_fail_value r part (pairs_in first s.steps) n i (added s.steps t.steps) s t lt e
    (ap (λ (z : Tree). has_key z (pairs_in first s.steps)) (sym kp) ∙ key_there false k (pairs_in first s.steps) keys so.same_keys d) f)

pub fields_failed : (r : ReadError) (total : Read (List (List ℕ × Tree))) (part : Grammar Tree) (n i : ℕ) (names : List (List ℕ)) (first : List Step) (s : State) → i < n → FieldsSo total part (n - i) i names first s → Fails r (read_at name s) → Fails r total
fields_failed r total part n i names first s lt so f = fails_same r total (read_at (fields part (fields_in first s.steps) (n - i)) s) so.same (fields_fail_first r part (fields_in first s.steps) n i s lt f)

pub fields_double : (total : Read (List (List ℕ × Tree))) (part : Grammar Tree) (n i : ℕ) (names : List (List ℕ)) (first : List Step) (s t : State) (key : List ℕ) → i < n → FieldsSo total part (n - i) i names first s
    → read_at name s ≡ Ok (key, t.seen, t.rest) → true ≡ name_in key names → total ≡ refuse why.DuplicateKey s.seen.at
fields_double total part n i names first s t key lt so e d = so.same ∙ fields_duplicate part (fields_in first s.steps) n i key s t lt e (name_there true key (fields_in first s.steps) names so.same_names d)

pub fields_failed_value : (r : ReadError) (total : Read (List (List ℕ × Tree))) (part : Grammar Tree) (n i : ℕ) (names : List (List ℕ)) (first : List Step) (s t : State) (key : List ℕ) → i < n → FieldsSo total part (n - i) i names first s
    → read_at name s ≡ Ok (key, t.seen, t.rest) → false ≡ name_in key names → Fails r (read_at part t) → Fails r total
fields_failed_value r total part n i names first s t key lt so e d f =
    fails_same r total (read_at (fields part (fields_in first s.steps) (n - i)) s) so.same
    (fields_fail_value r part (fields_in first s.steps) n i key s t lt e (name_there false key (fields_in first s.steps) names so.same_names d) f)
