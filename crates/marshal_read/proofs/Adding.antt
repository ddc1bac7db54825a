-- Steps that are added behind others.
use Rattle.std.proofs.Common.{◌≡◌, ℕ, ◌+◌, List, [], ◌∷◌, ◌++◌, length, false, Some, None, IsTrue, IsUtf8, refl, sym, ap, ◌∙◌, subst, append_assoc, append-nil, arith, length-append}
use Rattle.std.proofs.Math.Seq.{drop-append_seam}
use Rattle.drb_tree.specs.declared.Remote.{Remote}
use Rattle.drb_tree.specs.declared.Tree.{Tree}
use Rattle.drb_tree.specs.Kept.{has_key, has_name, keys_distinct, names_distinct, remote_class}
use Rattle.drb_value.proofs.Distinct.{keys_distinct-push, names_distinct-push}
use Rattle.marshal_grammar.specs.Trees.{list, hash, object, structure, dumped, wrapped, remote}
use Rattle.marshal_read.specs.declared.steps.Raw.{Raw}
use Rattle.marshal_read.specs.declared.steps.Step.{Step}
use Rattle.marshal_read.specs.declared.steps.Step.TheVariants as S
use Rattle.marshal_read.specs.Making.{Made, nothing, single, after, Applies, made, value_of, Makes, MakesOne, Leaf, since, added, Extends, AddsOne, values_in, pairs_in, fields_in, HoldsValues, HoldsPairs, HoldsFields, AddsValues, AddsPairs, AddsFields}
use Rattle.marshal_read.proofs.Making.{join, Makes-then, Makes-step, value_is, makes_one, leaf_makes, without_last-all, the_last-all}

-- values, pairs or fields alone
abbrev pub only_values : List Tree → Made
only_values vs = record { values = vs; pairs = []; fields = [] }

abbrev pub only_pairs : List (Tree × Tree) → Made
only_pairs ps = record { values = []; pairs = ps; fields = [] }

abbrev pub only_fields : List (List ℕ × Tree) → Made
only_fields fs = record { values = []; pairs = []; fields = fs }

pub since_is : (a b more : List Step) → b ≡ a ++ more → since a b ≡ more
since_is a b more e = ap (since a) e ∙ drop-append_seam a more

pub extends : (a b more : List Step) → b ≡ a ++ more → Extends a b
extends a b more e = e ∙ ap (λ (z : List Step). a ++ z) (sym (since_is a b more e))

pub since_self : (a : List Step) → since a a ≡ []
since_self a = since_is a a [] (sym (append-nil a))

pub extends_self : (a : List Step) → Extends a a
extends_self a = extends a a [] (sym (append-nil a))

both : (a b c : List Step) → Extends a b → Extends b c → c ≡ a ++ (since a b ++ since b c)
both a b c h k = k ∙ ap (λ (z : List Step). z ++ since b c) h ∙ append_assoc a (since a b) (since b c)

pub since_then : (a b c : List Step) → Extends a b → Extends b c → since a c ≡ since a b ++ since b c
since_then a b c h k = since_is a c (since a b ++ since b c) (both a b c h k)

pub extends_then : (a b c : List Step) → Extends a b → Extends b c → Extends a c
extends_then a b c h k = extends a c (since a b ++ since b c) (both a b c h k)

-- what is made by more steps, one behind the other
pub makes_on : (a b c : List Step) (m n : Made) → Extends a b → Extends b c → Makes (since a b) m → Makes (since b c) n → Makes (since a c) (join m n)
makes_on a b c m n h k x y = subst (λ (ss : List Step). Makes ss (join m n)) (sym (since_then a b c h k)) (Makes-then (since a b) (since b c) m n x y)

-- a step more
pub since_step : (a b c : List Step) (s : Step) → Extends a b → c ≡ b ++ (s ∷ []) → since a c ≡ since a b ++ (s ∷ [])
since_step a b c s h e = since_is a c (since a b ++ (s ∷ [])) (e ∙ ap (λ (z : List Step). z ++ (s ∷ [])) h ∙ append_assoc a (since a b) (s ∷ []))

pub extends_step : (a b c : List Step) (s : Step) → Extends a b → c ≡ b ++ (s ∷ []) → Extends a c
extends_step a b c s h e = extends a c (since a b ++ (s ∷ [])) (e ∙ ap (λ (z : List Step). z ++ (s ∷ [])) h ∙ append_assoc a (since a b) (s ∷ []))

pub makes_step : (a b c : List Step) (s : Step) (m : Made) → Extends a b → c ≡ b ++ (s ∷ []) → Makes (since a b) m → Applies m s → Makes (since a c) (after m s)
makes_step a b c s m h e x f = subst (λ (ss : List Step). Makes ss (after m s)) (sym (since_step a b c s h e)) (Makes-step (since a b) m s x f)

-- a value more
pub adds_one : (a b : List Step) (t : Tree) → Extends a b → Makes (since a b) (single t) → (AddsOne a b) × (added a b ≡ t)
adds_one a b t h x = (record { extends = h; makes = makes_one (since a b) t x }, value_is (since a b) t x)

pub adds_leaf : (a b : List Step) (s : Step) → Leaf s → b ≡ a ++ (s ∷ []) → (AddsOne a b) × (added a b ≡ value_of (s ∷ []))
adds_leaf a b s l e = adds_one a b (value_of (s ∷ [])) (extends a b (s ∷ []) e) (subst (λ (ss : List Step). Makes ss (single (value_of (s ∷ [])))) (sym (since_is a b (s ∷ []) e)) (leaf_makes s l))

-- these steps make nothing but values, pairs or fields
holds_values : (ss : List Step) (vs : List Tree) (n : ℕ) → Makes ss (only_values vs) → length vs ≡ n → HoldsValues ss n
holds_values ss vs n h e =
    let k : (made ss).values ≡ vs = ap (λ (m : Made). m.values) h.is in
    record {
      makes = subst (λ (xs : List Tree). Makes ss (only_values xs)) (sym k) h;
      size = ap length k ∙ e;
    }

pub holds_pairs : (ss : List Step) (ps : List (Tree × Tree)) (n : ℕ) → Makes ss (only_pairs ps) → length ps ≡ n → IsTrue (keys_distinct ps) → HoldsPairs ss n
holds_pairs ss ps n h e d =
    let k : (made ss).pairs ≡ ps = ap (λ (m : Made). m.pairs) h.is in
    record {
      makes = subst (λ (xs : List (Tree × Tree)). Makes ss (only_pairs xs)) (sym k) h;
      size = ap length k ∙ e;
      distinct = subst (λ (xs : List (Tree × Tree)). IsTrue (keys_distinct xs)) (sym k) d;
    }

pub holds_fields : (ss : List Step) (fs : List (List ℕ × Tree)) (n : ℕ) → Makes ss (only_fields fs) → length fs ≡ n → IsTrue (names_distinct fs) → HoldsFields ss n
holds_fields ss fs n h e d =
    let k : (made ss).fields ≡ fs = ap (λ (m : Made). m.fields) h.is in
    record {
      makes = subst (λ (xs : List (List ℕ × Tree)). Makes ss (only_fields xs)) (sym k) h;
      size = ap length k ∙ e;
      distinct = subst (λ (xs : List (List ℕ × Tree)). IsTrue (names_distinct xs)) (sym k) d;
    }

makes_none : Makes [] nothing
makes_none = record { apply = tt; is = refl }

pub fields_none : HoldsFields [] 0
fields_none = holds_fields [] [] 0 makes_none refl refl

pub values_begin : (a : List Step) → AddsValues a a 0
values_begin a = record { extends = extends_self a; holds = subst (λ (ss : List Step). HoldsValues ss 0) (sym (since_self a)) (holds_values [] [] 0 makes_none refl) }

pub pairs_begin : (a : List Step) → AddsPairs a a 0
pairs_begin a = record { extends = extends_self a; holds = subst (λ (ss : List Step). HoldsPairs ss 0) (sym (since_self a)) (holds_pairs [] [] 0 makes_none refl refl) }

pub fields_begin : (a : List Step) → AddsFields a a 0
fields_begin a = record { extends = extends_self a; holds = subst (λ (ss : List Step). HoldsFields ss 0) (sym (since_self a)) fields_none }

-- one more value, pair or field
pub values_more : (a b c : List Step) (n : ℕ) → AddsValues a b n → AddsOne b c → (AddsValues a c (n + 1)) × (values_in a c ≡ values_in a b ++ (added b c ∷ []))
values_more a b c n h k =
    let x = makes_on a b c (only_values (values_in a b)) (single (added b c)) h.extends k.extends h.holds.makes k.makes in
    let vs : List Tree = values_in a b ++ (added b c ∷ []) in (
      record {
        extends = extends_then a b c h.extends k.extends;
        holds = holds_values (since a c) vs (n + 1) x (omega (arith, length-append (values_in a b) (added b c ∷ []), h.holds.size));
      },
      ap (λ (m : Made). m.values) x.is,
    )

-- a key and what it has make a pair
pair_made : (b c d e : List Step) → AddsOne b c → AddsOne c d → e ≡ d ++ (S.Pair ∷ []) → (Extends b e) × (Makes (since b e) (only_pairs ((added b c, added c d) ∷ [])))
pair_made b c d e h k l =
    let x = makes_on b c d (single (added b c)) (single (added c d)) h.extends k.extends h.makes k.makes in
    let y = extends_then b c d h.extends k.extends in
    (extends_step b d e S.Pair y l, makes_step b d e S.Pair (only_values (added b c ∷ added c d ∷ [])) y l x (omega arith))

pub pairs_more : (a b c d e : List Step) (n : ℕ) → AddsPairs a b n → AddsOne b c → AddsOne c d → e ≡ d ++ (S.Pair ∷ []) → has_key (added b c) (pairs_in a b) ≡ false
    → (AddsPairs a e (n + 1)) × (pairs_in a e ≡ pairs_in a b ++ ((added b c, added c d) ∷ []))
pairs_more a b c d e n h k l s new =
    let p = pair_made b c d e k l s in
    let x = makes_on a b e (only_pairs (pairs_in a b)) (only_pairs ((added b c, added c d) ∷ [])) h.extends p.0 h.holds.makes p.1 in
    let ps : List (Tree × Tree) = pairs_in a b ++ ((added b c, added c d) ∷ []) in (
      record {
        extends = extends_then a b e h.extends p.0;
        holds = holds_pairs (since a e) ps (n + 1) x (omega (arith, length-append (pairs_in a b) ((added b c, added c d) ∷ []), h.holds.size)) (keys_distinct-push (pairs_in a b) (added b c, added c d) h.holds.distinct new);
      },
      ap (λ (m : Made). m.pairs) x.is,
    )

field_made : (b c d : List Step) (s : List ℕ) → IsUtf8 s → AddsOne b c → d ≡ c ++ (S.Field s ∷ []) → (Extends b d) × (Makes (since b d) (only_fields ((s, added b c) ∷ [])))
field_made b c d s u h l = (extends_step b c d (S.Field s) h.extends l, makes_step b c d (S.Field s) (single (added b c)) h.extends l h.makes (omega arith, u))

pub fields_more : (a b c d : List Step) (n : ℕ) (s : List ℕ) → IsUtf8 s → AddsFields a b n → AddsOne b c → d ≡ c ++ (S.Field s ∷ []) → has_name s (fields_in a b) ≡ false
    → (AddsFields a d (n + 1)) × (fields_in a d ≡ fields_in a b ++ ((s, added b c) ∷ []))
fields_more a b c d n s u h k l new =
    let p = field_made b c d s u k l in
    let x = makes_on a b d (only_fields (fields_in a b)) (only_fields ((s, added b c) ∷ [])) h.extends p.0 h.holds.makes p.1 in
    let fs : List (List ℕ × Tree) = fields_in a b ++ ((s, added b c) ∷ []) in (
      record {
        extends = extends_then a b d h.extends p.0;
        holds = holds_fields (since a d) fs (n + 1) x (omega (arith, length-append (fields_in a b) ((s, added b c) ∷ []), h.holds.size)) (names_distinct-push (fields_in a b) (s, added b c) h.holds.distinct new);
      },
      ap (λ (m : Made). m.fields) x.is,
    )

-- a value of parts, by the steps that made these and one more
ends_as : (ss : List Step) (m : Made) (s : Step) (t : Tree) → Makes ss m → Applies m s → after m s ≡ single t → Makes (ss ++ (s ∷ [])) (single t)
ends_as ss m s t h f e = subst (λ (x : Made). Makes (ss ++ (s ∷ [])) x) e (Makes-step ss m s h f)

pub list_ends : (ss : List Step) (n : ℕ) → HoldsValues ss n → Makes (ss ++ (S.List n ∷ [])) (single (list (made ss).values))
list_ends ss n h =
    let vs = (made ss).values in
    ends_as ss (only_values vs) (S.List n) (list vs) h.makes (omega (arith, h.size)) (rw (without_last-all n vs (sym h.size), the_last-all n vs (sym h.size)) refl)

pub hash_ends : (ss : List Step) (n : ℕ) → HoldsPairs ss n → Makes (ss ++ (S.Hash n ∷ [])) (single (hash (made ss).pairs None))
hash_ends ss n h =
    let ps = (made ss).pairs in
    ends_as ss (only_pairs ps) (S.Hash n) (hash ps None) h.makes (omega (arith, h.size), rw (the_last-all n ps (sym h.size)) h.distinct) (rw (without_last-all n ps (sym h.size), the_last-all n ps (sym h.size)) refl)

pub object_ends : (ss : List Step) (c : List ℕ) (n : ℕ) → IsUtf8 c → HoldsFields ss n → Makes (ss ++ (S.Object c n ∷ [])) (single (object c (made ss).fields))
object_ends ss c n u h =
    let fs = (made ss).fields in
    ends_as ss (only_fields fs) (S.Object c n) (object c fs) h.makes (omega (arith, h.size), rw (the_last-all n fs (sym h.size)) h.distinct, u) (rw (without_last-all n fs (sym h.size), the_last-all n fs (sym h.size)) refl)

pub struct_ends : (ss : List Step) (c : List ℕ) (n : ℕ) → IsUtf8 c → HoldsFields ss n → Makes (ss ++ (S.Struct c n ∷ [])) (single (structure c (made ss).fields))
struct_ends ss c n u h =
    let fs = (made ss).fields in
    ends_as ss (only_fields fs) (S.Struct c n) (structure c fs) h.makes (omega (arith, h.size), rw (the_last-all n fs (sym h.size)) h.distinct, u) (rw (without_last-all n fs (sym h.size), the_last-all n fs (sym h.size)) refl)

pub dumped_ends : (ss : List Step) (x : Raw) (n : ℕ) → (x.class ≡ remote_class → ⊥) → IsUtf8 x.class → HoldsFields ss n → Makes (ss ++ (S.Dumped x n ∷ [])) (single (dumped x.class x.bytes (made ss).fields))
dumped_ends ss x n f u h =
    let fs = (made ss).fields in
    ends_as ss (only_fields fs) (S.Dumped x n) (dumped x.class x.bytes fs) h.makes (omega (arith, h.size), f, rw (the_last-all n fs (sym h.size)) h.distinct, u) (rw (without_last-all n fs (sym h.size), the_last-all n fs (sym h.size)) refl)

pub remote_ends : (ss : List Step) (r : Remote) (n : ℕ) → HoldsFields ss n → Makes (ss ++ (S.Forget n ∷ S.Remote r ∷ [])) (single (remote r))
remote_ends ss r n h =
    let fs = (made ss).fields in
    let x : Makes (ss ++ (S.Forget n ∷ [])) nothing =
    subst (λ (m : Made). Makes (ss ++ (S.Forget n ∷ [])) m) (rw (without_last-all n fs (sym h.size)) refl) (Makes-step ss (only_fields fs) (S.Forget n) h.makes (omega (arith, h.size))) in
    subst (λ (zs : List Step). Makes zs (single (remote r))) (append_assoc ss (S.Forget n ∷ []) (S.Remote r ∷ [])) (Makes-step (ss ++ (S.Forget n ∷ [])) nothing (S.Remote r) x tt)

pub wrapped_ends : (ss : List Step) (c : List ℕ) → IsUtf8 c → MakesOne ss → Makes (ss ++ (S.Wrapped c ∷ [])) (single (wrapped c (value_of ss)))
wrapped_ends ss c u h = ends_as ss (single (value_of ss)) (S.Wrapped c) (wrapped c (value_of ss)) h (omega arith, u) refl

-- pairs, and a value behind them
pub default_ends : (a b c : List Step) (n : ℕ) → AddsPairs a b n → AddsOne b c → Makes (since a c ++ (S.HashWithDefault n ∷ [])) (single (hash (pairs_in a b) (Some (added b c))))
default_ends a b c n h k =
    let ps = pairs_in a b in
    let m : Made = record { values = added b c ∷ []; pairs = ps ++ []; fields = [] } in
    let x : Makes (since a c) m = makes_on a b c (only_pairs ps) (single (added b c)) h.extends k.extends h.holds.makes k.makes in
    let y : Makes (since a c) (record { values = added b c ∷ []; pairs = ps; fields = [] }) =
    subst (λ (qs : List (Tree × Tree)). Makes (since a c) (record { values = added b c ∷ []; pairs = qs; fields = [] })) (append-nil ps) x in
    ends_as (since a c) (record { values = added b c ∷ []; pairs = ps; fields = [] }) (S.HashWithDefault n) (hash ps (Some (added b c))) y
    (omega arith, omega (arith, h.holds.size), rw (the_last-all n ps (sym h.holds.size)) h.holds.distinct)
    (rw (without_last-all n ps (sym h.holds.size), the_last-all n ps (sym h.holds.size)) refl)

-- a value that a step ends, after what was there before
pub closes : (a b c : List Step) (s : Step) (t : Tree) → Extends a b → c ≡ b ++ (s ∷ []) → Makes (since a b ++ (s ∷ [])) (single t) → (AddsOne a c) × (added a c ≡ t)
closes a b c s t h e m = adds_one a c t (extends_step a b c s h e) (subst (λ (ss : List Step). Makes ss (single t)) (sym (since_step a b c s h e)) m)

-- a value that some steps end, after what was there before
pub closes_by : (a b c more : List Step) (t : Tree) → Extends a b → c ≡ b ++ more → Makes (since a b ++ more) (single t) → (AddsOne a c) × (added a c ≡ t)
closes_by a b c more t h e m =
    let k : c ≡ a ++ (since a b ++ more) = e ∙ ap (λ (z : List Step). z ++ more) h ∙ append_assoc a (since a b) more in
    adds_one a c t (extends a c (since a b ++ more) k) (subst (λ (ss : List Step). Makes ss (single t)) (sym (since_is a c (since a b ++ more) k)) m)
