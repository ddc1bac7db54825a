-- The test of an event of the rules says what it is.
use Rattle.std.proofs.Common.{◌≡◌, ℕ, Bool, true, false, ◌&&◌, ◌||◌, IsTrue, ◌↔◌, List, [], ◌∷◌, refl, sym, ◌∙◌, ap, subst, bytes_eq, codes}
use Rattle.std.proofs.lemmas.Slice.Eq.{bytes_eq-Decides}
use Rattle.std.specs.Prelude.{Some, None}
use Rattle.drb_tree.specs.declared.Code.{Code}
use Rattle.drb_tree.specs.declared.Code.TheVariants.{Binary, Ascii, Utf8}
use Rattle.drb_tree.specs.declared.Text.{Text}
use Rattle.drb_tree.specs.declared.Tree.{Tree}
use Rattle.drb_tree.specs.declared.Tree.TheViews.{roll-Tree, out-Tree, out-roll-Tree, roll-out-Tree}
use Rattle.drb_tree.specs.declared.Tree.TheOpen.{Tree-F}
use Rattle.rinda_tuple.specs.Keys.{all_texts}
use Rattle.rinda_tuple.specs.Tuples.{value_of}
use Rattle.rinda_tuple.specs.declared.tuple.Tuple.{Tuple}
use Rattle.rinda_tuple.specs.declared.tuple.Tuple.TheVariants as tuple
use Rattle.rinda_rules.specs.declared.plain.Happening.{Happening}
use Rattle.rinda_rules.specs.declared.plain.Happening.TheVariants.{Write, Take, Delete}
use Rattle.rinda_rules.specs.declared.plain.Raised.{Raised}
use Rattle.rinda_rules.specs.Space.{name_of, text_of, event_value}
use Rattle.rinda_journal.specs.Kept.{TupleKept}
use Rattle.rinda_journal.specs.Texts.{IsEvent}
use Rattle.rinda_journal.specs.Raised.{is_happening, is_utf8, is_name, is_tuple, is_event}

-- From an event to the test.

name_told : (what : Happening) → is_name (out-Tree (text_of what)) ≡ true
name_told Write = ap is_name (out-roll-Tree (Tree-F.Text (record { bytes = name_of Write; code = Utf8 })))
name_told Take = ap is_name (out-roll-Tree (Tree-F.Text (record { bytes = name_of Take; code = Utf8 })))
name_told Delete = ap is_name (out-roll-Tree (Tree-F.Text (record { bytes = name_of Delete; code = Utf8 })))

kept_true : (b : Bool) → IsTrue b → b ≡ true
kept_true true h = refl
kept_true false h = absurd (cc h)

tuple_told : (t : Tuple) → TupleKept t → is_tuple (out-Tree (value_of t)) ≡ true
unfolding value_of
tuple_told (tuple.List items) h = ap is_tuple (out-roll-Tree (Tree-F.List items))
tuple_told (tuple.Named pairs) h = ap is_tuple (out-roll-Tree (Tree-F.Hash pairs None)) ∙ kept_true (all_texts pairs) h

raised_told : (e : Raised) → TupleKept e.tuple → is_event (out-Tree (event_value e)) ≡ true
raised_told e h =
    ap is_event (out-roll-Tree (Tree-F.List (text_of e.what ∷ value_of e.tuple ∷ [])))
    ∙ ap (λ (b : Bool). b && is_tuple (out-Tree (value_of e.tuple))) (name_told e.what)
    ∙ tuple_told e.tuple h

told : (v : Tree) → IsEvent v → is_event (out-Tree v) ≡ true
told v h = ap (λ (u : Tree). is_event (out-Tree u)) h.is ∙ raised_told h.raised h.kept

-- From the test to an event.

abbrev Named : Tree → Type 0
Named v = (what : Happening) × (v ≡ text_of what)

named_by : (bytes : List ℕ) (a b c : Bool) → (a ≡ true → bytes ≡ name_of Write) → (b ≡ true → bytes ≡ name_of Take) → (c ≡ true → bytes ≡ name_of Delete) → (a || (b || c)) ≡ true → (what : Happening) × (bytes ≡ name_of what)
named_by bytes true b c f g h e = (Write, f refl)
named_by bytes false true c f g h e = (Take, g refl)
named_by bytes false false true f g h e = (Delete, h refl)
named_by bytes false false false f g h e = absurd (cc e)

name_in : (t : Text) (c : Code) → t.code ≡ c → (is_utf8 c && is_happening t.bytes) ≡ true → (what : Happening) × (roll-Tree (Tree-F.Text t) ≡ text_of what)
name_in t Binary k e = absurd (cc e)
name_in t Ascii k e = absurd (cc e)
name_in t Utf8 k e =
    let w = named_by t.bytes (bytes_eq t.bytes (codes "write")) (bytes_eq t.bytes (codes "take")) (bytes_eq t.bytes (codes "delete")) (bytes_eq-Decides t.bytes (codes "write")).0 (bytes_eq-Decides t.bytes (codes "take")).0 (bytes_eq-Decides t.bytes (codes "delete")).0 e in
    (w.0, ap (λ (c : Code). roll-Tree (Tree-F.Text (record { bytes = t.bytes; code = c }))) k ∙ ap (λ (bs : List ℕ). roll-Tree (Tree-F.Text (record { bytes = bs; code = Utf8 }))) w.1)

name_at : (o : Tree-F Tree) → is_name o ≡ true → (what : Happening) × (roll-Tree o ≡ text_of what)
name_at (Tree-F.Text t) e = name_in t t.code refl e
name_at Tree-F.Nil e = absurd (cc e)
name_at (Tree-F.Bool b) e = absurd (cc e)
name_at (Tree-F.Int i) e = absurd (cc e)
name_at (Tree-F.Sym s) e = absurd (cc e)
name_at (Tree-F.List ts) e = absurd (cc e)
name_at (Tree-F.Hash ps d) e = absurd (cc e)
name_at (Tree-F.Class n) e = absurd (cc e)
name_at (Tree-F.Module n) e = absurd (cc e)
name_at (Tree-F.Object c fs) e = absurd (cc e)
name_at (Tree-F.Struct c fs) e = absurd (cc e)
name_at (Tree-F.Dumped c bs fs) e = absurd (cc e)
name_at (Tree-F.Wrapped c t) e = absurd (cc e)
name_at (Tree-F.Remote r) e = absurd (cc e)

abbrev Spelled : Tree → Type 0
Spelled v = (t : Tuple) × TupleKept t × (v ≡ value_of t)

tuple_at : (o : Tree-F Tree) → is_tuple o ≡ true → Spelled (roll-Tree o)
unfolding value_of
tuple_at (Tree-F.List items) e = (tuple.List items, tt, refl)
tuple_at (Tree-F.Hash pairs None) e = (tuple.Named pairs, e, refl)
tuple_at (Tree-F.Hash pairs (Some d)) e = absurd (cc e)
tuple_at Tree-F.Nil e = absurd (cc e)
tuple_at (Tree-F.Bool b) e = absurd (cc e)
tuple_at (Tree-F.Int i) e = absurd (cc e)
tuple_at (Tree-F.Sym s) e = absurd (cc e)
tuple_at (Tree-F.Text t) e = absurd (cc e)
tuple_at (Tree-F.Class n) e = absurd (cc e)
tuple_at (Tree-F.Module n) e = absurd (cc e)
tuple_at (Tree-F.Object c fs) e = absurd (cc e)
tuple_at (Tree-F.Struct c fs) e = absurd (cc e)
tuple_at (Tree-F.Dumped c bs fs) e = absurd (cc e)
tuple_at (Tree-F.Wrapped c t) e = absurd (cc e)
tuple_at (Tree-F.Remote r) e = absurd (cc e)

both_true : (a b : Bool) → (a && b) ≡ true → (a ≡ true) × (b ≡ true)
both_true true true e = (refl, refl)
both_true true false e = absurd (cc e)
both_true false b e = absurd (cc e)

two_at : (a b : Tree) → is_name (out-Tree a) ≡ true → is_tuple (out-Tree b) ≡ true → IsEvent (roll-Tree (Tree-F.List (a ∷ b ∷ [])))
two_at a b e f =
    let n = name_at (out-Tree a) e in
    let t = tuple_at (out-Tree b) f in
    let p : a ≡ text_of n.0 = sym (roll-out-Tree a) ∙ n.1 in
    let q : b ≡ value_of t.0 = sym (roll-out-Tree b) ∙ t.2 in
    record {
      raised = record { what = n.0; id = 0; tuple = t.0 };
      kept = t.1;
      is = ap (λ (x : Tree). roll-Tree (Tree-F.List (x ∷ b ∷ []))) p ∙ ap (λ (x : Tree). roll-Tree (Tree-F.List (text_of n.0 ∷ x ∷ []))) q;
    }

items_at : (ts : List Tree) → is_event (Tree-F.List ts) ≡ true → IsEvent (roll-Tree (Tree-F.List ts))
items_at [] e = absurd (cc e)
items_at (a ∷ []) e = absurd (cc e)
items_at (a ∷ b ∷ []) e = let h = both_true (is_name (out-Tree a)) (is_tuple (out-Tree b)) e in two_at a b h.0 h.1
items_at (a ∷ b ∷ c ∷ ts) e = absurd (cc e)

event_at : (o : Tree-F Tree) → is_event o ≡ true → IsEvent (roll-Tree o)
event_at (Tree-F.List ts) e = items_at ts e
event_at Tree-F.Nil e = absurd (cc e)
event_at (Tree-F.Bool b) e = absurd (cc e)
event_at (Tree-F.Int i) e = absurd (cc e)
event_at (Tree-F.Sym s) e = absurd (cc e)
event_at (Tree-F.Text t) e = absurd (cc e)
event_at (Tree-F.Hash ps d) e = absurd (cc e)
event_at (Tree-F.Class n) e = absurd (cc e)
event_at (Tree-F.Module n) e = absurd (cc e)
event_at (Tree-F.Object c fs) e = absurd (cc e)
event_at (Tree-F.Struct c fs) e = absurd (cc e)
event_at (Tree-F.Dumped c bs fs) e = absurd (cc e)
event_at (Tree-F.Wrapped c t) e = absurd (cc e)
event_at (Tree-F.Remote r) e = absurd (cc e)

-- the test is true exactly of an event of the rules
pub event_told : (b : Bool) (v : Tree) → b ≡ is_event (out-Tree v) → IsTrue b ↔ IsEvent v
event_told b v e = (
  λ h. subst IsEvent (roll-out-Tree v) (event_at (out-Tree v) (sym e ∙ kept_true b h)),
  λ h. e ∙ told v h,
)
