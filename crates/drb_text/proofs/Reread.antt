-- What is shown of a value is read as that value.
use Rattle.std.proofs.Common.{ℕ, zero, suc, ◌≡◌, ◌<◌, ◌≤◌, ◌+◌, ◌==◌, ◌&&◌, Bool, true, false, List, [], ◌∷◌, ◌++◌, All, length, map, Option, Some, None, refl, sym, ap, ◌∙◌, subst, arith, append_assoc, append-nil}
use Rattle.std.specs.Prelude.{ℤ, Ok, codes, bytes_eq, max, if◌then◌else◌}
use Rattle.std.specs.Fmt.{signed_decimal}
use Rattle.std.specs.List.{list_all, prefix_len}
use Rattle.std.specs.Char.{is_ascii_uppercase}
use Rattle.std.proofs.lemmas.Bool.{and_parts, leb-true, ne_eqb, eqb-true}
use Rattle.std.proofs.lemmas.List.Elements.{All-head, All-tail, All-cons, All-nil}
use Rattle.std.proofs.lemmas.Slice.Eq.{bytes_eq-Decides}
use Rattle.drb_tree.specs.declared.Code.{Code}
use Rattle.drb_tree.specs.declared.Code.TheVariants.{Binary, Ascii, Utf8}
use Rattle.drb_tree.specs.declared.RefId.{RefId}
use Rattle.drb_tree.specs.declared.Remote.{Remote}
use Rattle.drb_tree.specs.declared.Text.{Text}
use Rattle.drb_tree.specs.declared.Tree.{Tree}
use Rattle.drb_tree.specs.declared.Tree.TheViews.{roll-Tree, out-Tree, roll-out-Tree}
use Rattle.drb_tree.specs.declared.Tree.TheOpen.{Tree-F}
use Rattle.drb_tree.specs.Kept.{AreBytes, IsI128, InRange, Ranged}
use Rattle.drb_tree.specs.Trees.{bool_tree, int_tree, text_tree, remote_tree, object_tree}
use Rattle.drb_tree.proofs.Everywhere.{FieldHas, every_level, every_parts}
use Rattle.drb_text.specs.Bytes.{is_uri}
use Rattle.drb_text.specs.Names.{symbol_name, class_name, is_whole}
use Rattle.drb_text.specs.References.{remote_of}
use Rattle.drb_text.specs.Shown.{each_escaped, points, range_of, range_fields, range_text, string_text, symbol_text, class_text, remote_text, is_utf8_code, angled, id_text, plain_text}
use Rattle.drb_text.specs.Texts.{plain, range_tree}
use Rattle.drb_text.proofs.Angled.{some_text, plain_angled}
use Rattle.drb_text.proofs.Ends.{Ends, Opens}
use Rattle.drb_text.proofs.Escapes.{plain_quoted}
use Rattle.drb_text.proofs.Numerals.{plain_int, plain_range, opens_int}
use Rattle.drb_text.proofs.Spoken.{plain_symbol, plain_class, capital}

-- the text is read as the value, whatever stands behind it
abbrev pub Read : List ℕ → Tree → List ℕ → Type 0
Read t v rest = (plain (t ++ rest) ≡ Ok (v, rest)) × Opens (t ++ rest)

-- the same of the text that there is
abbrev ReadSome : Option (List ℕ) → Tree → List ℕ → Type 0
ReadSome o v rest = (t : List ℕ) → o ≡ Some t → Read t v rest

this_text : (t : List ℕ) (v : Tree) (rest : List ℕ) → Read t v rest → ReadSome (Some t) v rest
this_text t v rest r u e = subst (λ (x : List ℕ). Read x v rest) (some_text t u e) r

no_text : (v : Tree) (rest : List ℕ) → ReadSome None v rest
no_text v rest t e = absurd (cc)

plain_word : (rest : List ℕ) → (plain (codes "nil" ++ rest) ≡ Ok (roll-Tree Tree-F.Nil, rest)) × (plain (codes "true" ++ rest) ≡ Ok (bool_tree true, rest)) × (plain (codes "false" ++ rest) ≡ Ok (bool_tree false, rest))
unfolding plain
plain_word rest = (refl, refl, refl)

symbol_some : (c : Bool) (s rest : List ℕ) → is_whole (symbol_name s) ≡ c → Ends rest → ReadSome (if c then Some (58 ∷ s) else None) (roll-Tree (Tree-F.Sym s)) rest
symbol_some true s rest w e = this_text (58 ∷ s) _ rest (plain_symbol s rest e w, (refl, refl, refl))
symbol_some false s rest w e = no_text _ rest

opens_capital : (b : ℕ) (bs : List ℕ) → is_ascii_uppercase b ≡ true → Opens (b ∷ bs)
opens_capital b bs h =
    let k = and_parts _ _ h in
    let l = leb-true 65 b k.0 in
    let m = leb-true b 90 k.1 in
    (ne_eqb b 91 (λ f. omega (arith, f, m)), ne_eqb b 93 (λ f. omega (arith, f, m)), ne_eqb b 32 (λ f. omega (arith, f, l)))

class_some : (c : Bool) (s rest : List ℕ) → is_whole (class_name s) ≡ c → Ends rest → ReadSome (if c then Some s else None) (roll-Tree (Tree-F.Class s)) rest
class_some true s rest w e =
    let k = capital s w in
    this_text s _ rest (plain_class s rest e w, subst (λ (x : List ℕ). Opens (x ++ rest)) (sym k.2) (opens_capital k.0 (k.1 ++ rest) k.3))
class_some false s rest w e = no_text _ rest

quoted_some : (t : Text) (c : Code) (rest : List ℕ) → t.code ≡ c → AreBytes t.bytes → ReadSome (string_text t.bytes c) (text_tree t) rest
quoted_some t Utf8 rest e k =
    let x = 34 ∷ (each_escaped t.bytes ++ (34 ∷ [])) in
    this_text x (text_tree t) rest (subst (λ (d : Code). plain (x ++ rest) ≡ Ok (text_tree (record { bytes = t.bytes; code = d }), rest)) (sym e) (plain_quoted t.bytes rest k), (refl, refl, refl))
quoted_some t Ascii rest e k = no_text _ rest
quoted_some t Binary rest e k = no_text _ rest

-- references

angled_some : (r : Remote) (o : Option (List ℕ)) (rest : List ℕ) → InRange (Tree-F.Remote r) → r.uri.code ≡ Utf8 → list_all is_uri r.uri.bytes ≡ true → id_text r.id ≡ o → ReadSome (angled r.uri.bytes o) (remote_tree r) rest
angled_some r None rest k c u e = no_text _ rest
angled_some r (Some i) rest k c u e =
    let x = 60 ∷ (r.uri.bytes ++ (32 ∷ (i ++ (62 ∷ [])))) in
    this_text x (remote_tree r) rest (subst (λ (d : Code). plain (x ++ rest) ≡ Ok (remote_tree (record { uri = record { bytes = r.uri.bytes; code = d }; id = r.id }), rest)) (sym c) (plain_angled r.uri.bytes rest i r.id k.1 u e), (refl, refl, refl))

utf8_is : (c : Code) → is_utf8_code c ≡ true → c ≡ Utf8
utf8_is Utf8 h = refl
utf8_is Ascii h = absurd (cc)
utf8_is Binary h = absurd (cc)

remote_some : (c : Bool) (r : Remote) (rest : List ℕ) → InRange (Tree-F.Remote r) → (is_utf8_code r.uri.code && list_all is_uri r.uri.bytes) ≡ c → ReadSome (if c then angled r.uri.bytes (id_text r.id) else None) (remote_tree r) rest
remote_some true r rest k h = let p = and_parts _ _ h in angled_some r (id_text r.id) rest k (utf8_is r.uri.code p.0) p.1 refl
remote_some false r rest k h = no_text _ rest

-- ranges

-- What the three levels of the fields are, where there is such a text.
record Range (t : List ℕ) (p q r : Tree-F Tree) : Type 0 where
  pub excl : Bool
  pub low : ℤ
  pub high : ℤ
  pub is : signed_decimal low ++ (points excl ++ signed_decimal high) ≡ t
  pub first : p ≡ Tree-F.Bool excl
  pub second : q ≡ Tree-F.Int low
  pub third : r ≡ Tree-F.Int high

third_is : (e : Bool) (i : ℤ) (r : Tree-F Tree) (t : List ℕ) → range_of (Tree-F.Bool e) (Tree-F.Int i) r ≡ Some t → Range t (Tree-F.Bool e) (Tree-F.Int i) r
third_is e i Tree-F.Nil t h = absurd (cc)
third_is e i (Tree-F.Bool b) t h = absurd (cc)
third_is e i (Tree-F.Int j) t h = record { excl = e; low = i; high = j; is = some_text _ t h; first = refl; second = refl; third = refl }
third_is e i (Tree-F.Sym s) t h = absurd (cc)
third_is e i (Tree-F.Text x) t h = absurd (cc)
third_is e i (Tree-F.List ts) t h = absurd (cc)
third_is e i (Tree-F.Hash ps d) t h = absurd (cc)
third_is e i (Tree-F.Class n) t h = absurd (cc)
third_is e i (Tree-F.Module n) t h = absurd (cc)
third_is e i (Tree-F.Object c fs) t h = absurd (cc)
third_is e i (Tree-F.Struct c fs) t h = absurd (cc)
third_is e i (Tree-F.Dumped c bs fs) t h = absurd (cc)
third_is e i (Tree-F.Wrapped c x) t h = absurd (cc)
third_is e i (Tree-F.Remote r) t h = absurd (cc)

second_is : (e : Bool) (q r : Tree-F Tree) (t : List ℕ) → range_of (Tree-F.Bool e) q r ≡ Some t → Range t (Tree-F.Bool e) q r
second_is e Tree-F.Nil q t h = absurd (cc)
second_is e (Tree-F.Bool b) q t h = absurd (cc)
second_is e (Tree-F.Int j) q t h = third_is e j q t h
second_is e (Tree-F.Sym s) q t h = absurd (cc)
second_is e (Tree-F.Text x) q t h = absurd (cc)
second_is e (Tree-F.List ts) q t h = absurd (cc)
second_is e (Tree-F.Hash ps d) q t h = absurd (cc)
second_is e (Tree-F.Class n) q t h = absurd (cc)
second_is e (Tree-F.Module n) q t h = absurd (cc)
second_is e (Tree-F.Object c fs) q t h = absurd (cc)
second_is e (Tree-F.Struct c fs) q t h = absurd (cc)
second_is e (Tree-F.Dumped c bs fs) q t h = absurd (cc)
second_is e (Tree-F.Wrapped c x) q t h = absurd (cc)
second_is e (Tree-F.Remote r) q t h = absurd (cc)

range_is : (p q r : Tree-F Tree) (t : List ℕ) → range_of p q r ≡ Some t → Range t p q r
range_is Tree-F.Nil p q t h = absurd (cc)
range_is (Tree-F.Bool b) p q t h = second_is b p q t h
range_is (Tree-F.Int j) p q t h = absurd (cc)
range_is (Tree-F.Sym s) p q t h = absurd (cc)
range_is (Tree-F.Text x) p q t h = absurd (cc)
range_is (Tree-F.List ts) p q t h = absurd (cc)
range_is (Tree-F.Hash ps d) p q t h = absurd (cc)
range_is (Tree-F.Class n) p q t h = absurd (cc)
range_is (Tree-F.Module n) p q t h = absurd (cc)
range_is (Tree-F.Object c fs) p q t h = absurd (cc)
range_is (Tree-F.Struct c fs) p q t h = absurd (cc)
range_is (Tree-F.Dumped c bs fs) p q t h = absurd (cc)
range_is (Tree-F.Wrapped c x) p q t h = absurd (cc)
range_is (Tree-F.Remote r) p q t h = absurd (cc)

opens_first : (low : ℤ) (x rest : List ℕ) → IsI128 low → Opens ((signed_decimal low ++ x) ++ rest)
opens_first low x rest k = subst Opens (sym (append_assoc (signed_decimal low) x rest)) (opens_int low k (x ++ rest))

int_kept : (t : Tree) (i : ℤ) → Ranged t → out-Tree t ≡ Tree-F.Int i → (t ≡ int_tree i) × IsI128 i
int_kept t i h e =
    let f : t ≡ int_tree i = sym (roll-out-Tree t) ∙ ap roll-Tree e in
    (f, every_level InRange (Tree-F.Int i) (subst Ranged f h))

field_is : (f : List ℕ × Tree) (n : List ℕ) (v : Tree) → f.0 ≡ n → f.1 ≡ v → f ≡ (n, v)
field_is f n v e g = ap (λ (x : List ℕ). (x, f.1)) e ∙ ap (λ (x : Tree). (n, x)) g

range_reads : (c : List ℕ) (f g h : List ℕ × Tree) (t rest : List ℕ) → c ≡ codes "Range" → f.0 ≡ codes "excl" → g.0 ≡ codes "begin" → h.0 ≡ codes "end" → Ranged g.1 → Ranged h.1 → Range t (out-Tree f.1) (out-Tree g.1) (out-Tree h.1) → Ends rest → Read t (object_tree c (f ∷ g ∷ h ∷ [])) rest
range_reads c f g h t rest cn fn gn hn gr hr r e =
    let low = int_kept g.1 r.low gr r.second in
    let high = int_kept h.1 r.high hr r.third in
    let excl : f.1 ≡ bool_tree r.excl = sym (roll-out-Tree f.1) ∙ ap roll-Tree r.first in
    let same : range_tree r.excl r.low r.high ≡ object_tree c (f ∷ g ∷ h ∷ []) = sym (
    ap (λ (x : List ℕ). object_tree x (f ∷ g ∷ h ∷ [])) cn
    ∙ ap (λ (x : List ℕ × Tree). object_tree (codes "Range") (x ∷ g ∷ h ∷ [])) (field_is f (codes "excl") (bool_tree r.excl) fn excl)
    ∙ ap (λ (x : List ℕ × Tree). object_tree (codes "Range") ((codes "excl", bool_tree r.excl) ∷ x ∷ h ∷ [])) (field_is g (codes "begin") (int_tree r.low) gn low.0)
    ∙ ap (λ (x : List ℕ × Tree). object_tree (codes "Range") ((codes "excl", bool_tree r.excl) ∷ (codes "begin", int_tree r.low) ∷ x ∷ [])) (field_is h (codes "end") (int_tree r.high) hn high.0)) in
    subst (λ (x : List ℕ). Read x (object_tree c (f ∷ g ∷ h ∷ [])) rest) r.is
    (plain_range r.excl r.low r.high low.1 high.1 rest e ∙ ap (λ (v : Tree). Ok (v, rest)) same, opens_first r.low _ rest low.1)

names_some : (b : Bool) (c : List ℕ) (f g h : List ℕ × Tree) (rest : List ℕ) → c ≡ codes "Range" → (bytes_eq f.0 (codes "excl") && (bytes_eq g.0 (codes "begin") && bytes_eq h.0 (codes "end"))) ≡ b → All (FieldHas Ranged) (f ∷ g ∷ h ∷ []) → Ends rest → ReadSome (if b then range_of (out-Tree f.1) (out-Tree g.1) (out-Tree h.1) else None) (object_tree c (f ∷ g ∷ h ∷ [])) rest
names_some true c f g h rest cn n k e t i =
    let p = and_parts _ _ n in
    let q = and_parts _ _ p.1 in
    let ks = All-tail (FieldHas Ranged) f (g ∷ h ∷ []) k in
    range_reads c f g h t rest cn ((bytes_eq-Decides f.0 (codes "excl")).0 p.0) ((bytes_eq-Decides g.0 (codes "begin")).0 q.0) ((bytes_eq-Decides h.0 (codes "end")).0 q.1)
    (All-head (FieldHas Ranged) g (h ∷ []) ks) (All-head (FieldHas Ranged) h [] (All-tail (FieldHas Ranged) g (h ∷ []) ks))
    (range_is (out-Tree f.1) (out-Tree g.1) (out-Tree h.1) t i) e
names_some false c f g h rest cn n k e t i = no_text (object_tree c (f ∷ g ∷ h ∷ [])) rest t i

fields_some : (c : List ℕ) (fs : List (List ℕ × Tree)) (rest : List ℕ) → c ≡ codes "Range" → All (FieldHas Ranged) fs → Ends rest → ReadSome (range_fields fs) (object_tree c fs) rest
fields_some c [] rest cn k e = no_text _ rest
fields_some c (f ∷ []) rest cn k e = no_text _ rest
fields_some c (f ∷ g ∷ []) rest cn k e = no_text _ rest
fields_some c (f ∷ g ∷ h ∷ []) rest cn k e = names_some _ c f g h rest cn refl k e
fields_some c (f ∷ g ∷ h ∷ i ∷ is) rest cn k e = no_text _ rest

range_some : (b : Bool) (c : List ℕ) (fs : List (List ℕ × Tree)) (rest : List ℕ) → bytes_eq c (codes "Range") ≡ b → All (FieldHas Ranged) fs → Ends rest → ReadSome (if b then range_fields fs else None) (object_tree c fs) rest
range_some true c fs rest n k e = fields_some c fs rest ((bytes_eq-Decides c (codes "Range")).0 n) k e
range_some false c fs rest n k e = no_text _ rest

-- every form but a list and a dump
pub plain_some : (l : Tree-F Tree) (rest : List ℕ) → Ends rest → Ranged (roll-Tree l) → ReadSome (plain_text l) (roll-Tree l) rest
plain_some Tree-F.Nil rest e h = this_text (codes "nil") _ rest ((plain_word rest).0, (refl, refl, refl))
plain_some (Tree-F.Bool true) rest e h = this_text (codes "true") _ rest ((plain_word rest).1, (refl, refl, refl))
plain_some (Tree-F.Bool false) rest e h = this_text (codes "false") _ rest ((plain_word rest).2, (refl, refl, refl))
plain_some (Tree-F.Int i) rest e h = let k = every_level InRange (Tree-F.Int i) h in this_text (signed_decimal i) _ rest (plain_int i k rest e, opens_int i k rest)
plain_some (Tree-F.Sym s) rest e h = symbol_some (is_whole (symbol_name s)) s rest refl e
plain_some (Tree-F.Text t) rest e h = quoted_some t t.code rest refl (every_level InRange (Tree-F.Text t) h)
plain_some (Tree-F.List ts) rest e h = no_text _ rest
plain_some (Tree-F.Hash ps d) rest e h = no_text _ rest
plain_some (Tree-F.Class n) rest e h = class_some (is_whole (class_name n)) n rest refl e
plain_some (Tree-F.Module n) rest e h = no_text _ rest
plain_some (Tree-F.Object c fs) rest e h = range_some (bytes_eq c (codes "Range")) c fs rest refl (every_parts InRange (Tree-F.Object c fs) h) e
plain_some (Tree-F.Struct c fs) rest e h = no_text _ rest
plain_some (Tree-F.Dumped c bs fs) rest e h = no_text _ rest
plain_some (Tree-F.Wrapped c t) rest e h = no_text _ rest
plain_some (Tree-F.Remote r) rest e h = remote_some (is_utf8_code r.uri.code && list_all is_uri r.uri.bytes) r rest (every_level InRange (Tree-F.Remote r) h) refl
