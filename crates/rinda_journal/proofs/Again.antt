-- The head and the values of a turn are read again as that turn.
use Rattle.std.proofs.Common.{◌≡◌, ℕ, ◌^◌, Bool, true, false, IsTrue, List, [], ◌∷◌, ◌++◌, length, map, All, refl, sym, ◌∙◌, ap, append_assoc, nat_lt, subst}
use Rattle.std.proofs.lemmas.Bool.{lt-ltb}
use Rattle.std.specs.Prelude.{Option, Some, None, if◌then◌else◌}
use Rattle.std.proofs.lemmas.List.Elements.{All-head, All-tail}
use Rattle.drb_tree.specs.declared.Remote.{Remote}
use Rattle.drb_tree.specs.declared.Code.TheVariants.{Utf8}
use Rattle.drb_tree.specs.declared.Tree.{Tree}
use Rattle.drb_tree.specs.declared.Tree.TheViews.{out-Tree, out-roll-Tree}
use Rattle.drb_tree.specs.declared.Tree.TheOpen.{Tree-F}
use Rattle.drb_tree.specs.Trees.{list_tree, remote_tree}
use Rattle.rinda_tuple.specs.Tuples.{Pairs, OtherKey, parts_at, parts_of, value_of}
use Rattle.rinda_tuple.specs.Keys.{all_texts}
use Rattle.rinda_tuple.specs.declared.lease.Life.{Life}
use Rattle.rinda_tuple.specs.declared.lease.Life.TheVariants.{Never, Gone, Seconds}
use Rattle.rinda_tuple.specs.declared.lease.Lease.{Lease}
use Rattle.rinda_tuple.specs.declared.tuple.Tuple.{Tuple}
use Rattle.rinda_tuple.specs.declared.tuple.Tuple.TheVariants as tuple
use Rattle.rinda_tuple.specs.declared.tuple.Template.{Template}
use Rattle.rinda_tuple.specs.declared.tuple.Template.TheVariants as template
use Rattle.rinda_rules.specs.declared.event.Event.{Event}
use Rattle.rinda_rules.specs.declared.event.Event.TheVariants as event
use Rattle.rinda_rules.specs.declared.event.Kind.{Kind}
use Rattle.rinda_rules.specs.declared.event.Kind.TheVariants as kind
use Rattle.rinda_rules.specs.declared.out.Out.{Out}
use Rattle.rinda_rules.specs.declared.out.Out.TheVariants as out
use Rattle.rinda_rules.specs.declared.plain.Happening.{Happening}
use Rattle.rinda_rules.specs.declared.plain.Happening.TheVariants as happening
use Rattle.rinda_rules.specs.declared.plain.Raised.{Raised}
use Rattle.rinda_rules.specs.declared.turn.Pick.{Pick}
use Rattle.rinda_rules.specs.declared.turn.Turn.{Turn}
use Rattle.rinda_rules.specs.Space.{name_of as event_name, text_of, event_value}
use Rattle.rinda_journal.specs.declared.field.Field.{Field}
use Rattle.rinda_journal.specs.declared.field.Field.TheVariants as field
use Rattle.rinda_journal.specs.declared.word.Word.{Word}
use Rattle.rinda_journal.specs.declared.word.Word.TheVariants as word
use Rattle.rinda_journal.specs.Words.{name_of}
use Rattle.rinda_journal.specs.Fields.{number, life_field, told, kind_word, field_value, head_value}
use Rattle.rinda_journal.specs.Heads.{template_value, renewer_values, event_fields, event_values, text_word, raised_word, raised_tuple, out_fields, out_values, picks_fields, head_fields, turn_values}
use Rattle.rinda_journal.specs.Kept.{IsU64, TupleKept, TemplateKept, EventKept, OutKept, PickKept}
use Rattle.rinda_journal.specs.Texts.{turn_parts, HoldsEvent, HasText, TurnKept}
use Rattle.rinda_journal.specs.Parsers.{Left, Parser, gives, given, on, ◌>>=◌}
use Rattle.rinda_journal.specs.Reading.{word_field, field_at, fields_in, fields_at, before, next_value, number_in, next_number, next_truth, next_life, next_kind, tuple_in, template_in, remote_in, next_tuple, next_template, next_remote, renewer_if, values_of, pattern_and_lease, by_id, next_event, next_out, pick_of, pick_before, picks_in, with_picks, picks_then, ended, next_begun, turn_with, turn_then, turn_left, turn_by, turn_of}
use Rattle.rinda_journal.proofs.Names.{word_again}

abbrev left_of : List Field → List Tree → Left
left_of fs vs = record { fields = fs; values = vs }

-- Fields.

field_again : (f : Field) → field_at (out-Tree (field_value f)) ≡ Some f
field_again field.Nil = ap field_at (out-roll-Tree Tree-F.Nil)
field_again (field.Truth b) = ap field_at (out-roll-Tree (Tree-F.Bool b))
field_again (field.Number i) = ap field_at (out-roll-Tree (Tree-F.Int i))
field_again (field.Word w) = ap field_at (out-roll-Tree (Tree-F.Sym (name_of w))) ∙ ap word_field (word_again w)

fields_again : (fs : List Field) → fields_in (map field_value fs) ≡ Some fs
fields_again [] = refl
fields_again (f ∷ fs) = ap (λ (o : Option Field). before o (fields_in (map field_value fs))) (field_again f) ∙ ap (λ (o : Option (List Field)). before (Some f) o) (fields_again fs)

head_again : (fs : List Field) → fields_at (out-Tree (head_value fs)) ≡ Some fs
head_again fs = ap fields_at (out-roll-Tree (Tree-F.List (map field_value fs))) ∙ fields_again fs

if_true : (b : Bool) (n : ℕ) → b ≡ true → (if b then Some n else None) ≡ Some n
if_true true n e = refl
if_true false n e = absurd (cc e)

number_again : (n : ℕ) → IsU64 n → number_in (number n) ≡ Some n
number_again n h = if_true (nat_lt n (2 ^ 64)) n (lt-ltb n (2 ^ 64) h)

numbered : {B : Type 0} → (k : ℕ → Parser B) (n : ℕ) (fs : List Field) (vs : List Tree) → IsU64 n → on (next_number (left_of (number n ∷ fs) vs)) k ≡ k n (left_of fs vs)
numbered k n fs vs h = ap (λ (o : Option ℕ). on (given o (left_of fs vs)) k) (number_again n h)

lifed : {B : Type 0} → (k : Life → Parser B) (l : Life) (fs : List Field) (vs : List Tree) → on (next_life (left_of (life_field l ∷ fs) vs)) k ≡ k l (left_of fs vs)
lifed k Never fs vs = refl
lifed k Gone fs vs = refl
lifed k (Seconds s) fs vs = refl

abbrev is_told : Option Remote → Bool
is_told None = false
is_told (Some r) = true

truthed : {B : Type 0} → (k : Bool → Parser B) (r : Option Remote) (fs : List Field) (vs : List Tree) → on (next_truth (left_of (told r ∷ fs) vs)) k ≡ k (is_told r) (left_of fs vs)
truthed k None fs vs = refl
truthed k (Some r) fs vs = refl

kinded : {B : Type 0} → (k : Kind → Parser B) (x : Kind) (fs : List Field) (vs : List Tree) → on (next_kind (left_of (field.Word (kind_word x) ∷ fs) vs)) k ≡ k x (left_of fs vs)
kinded k kind.Read fs vs = refl
kinded k kind.Take fs vs = refl
kinded k kind.Move fs vs = refl

remoted : {B : Type 0} → (k : Remote → Parser B) (r : Remote) (fs : List Field) (vs : List Tree) → on (next_remote (left_of fs (remote_tree r ∷ vs))) k ≡ k r (left_of fs vs)
remoted k r fs vs = ap (λ (t : Tree-F Tree). on (given (remote_in t) (left_of fs vs)) k) (out-roll-Tree (Tree-F.Remote r))

-- who renews is there or not, as was told
renewed : {B : Type 0} → (k : Option Remote → Parser B) (r : Option Remote) (fs : List Field) (vs : List Tree) → on (renewer_if (is_told r) (left_of fs (renewer_values r ++ vs))) k ≡ k r (left_of fs vs)
renewed k None fs vs = refl
renewed k (Some r) fs vs = ap (λ (o : Option (Option Remote × Left)). on o k) (remoted (λ (q : Remote). gives (Some q)) r fs vs)

-- Values.

if_keys : {A : Type 0} → (b : Bool) (x y : A) → IsTrue b → (if b then x else y) ≡ x
if_keys true x y h = refl
if_keys false x y h = absurd (cc h)

tuple_again : (t : Tuple) → TupleKept t → tuple_in (parts_of (value_of t)) ≡ Some t
unfolding value_of
tuple_again (tuple.List items) h = ap (λ (o : Tree-F Tree). tuple_in (parts_at o)) (out-roll-Tree (Tree-F.List items))
tuple_again (tuple.Named pairs) h = ap (λ (o : Tree-F Tree). tuple_in (parts_at o)) (out-roll-Tree (Tree-F.Hash pairs None)) ∙ ap tuple_in (if_keys (all_texts pairs) (Pairs pairs) OtherKey h)

template_again : (t : Template) → TemplateKept t → template_in (parts_of (template_value t)) ≡ Some t
unfolding template_value
template_again (template.List items) h = ap (λ (o : Tree-F Tree). template_in (parts_at o)) (out-roll-Tree (Tree-F.List items))
template_again (template.Named pairs) h = ap (λ (o : Tree-F Tree). template_in (parts_at o)) (out-roll-Tree (Tree-F.Hash pairs None)) ∙ ap template_in (if_keys (all_texts pairs) (Pairs pairs) OtherKey h)

tupled : {B : Type 0} → (k : Tuple → Parser B) (t : Tuple) (fs : List Field) (vs : List Tree) → TupleKept t → on (next_tuple (left_of fs (value_of t ∷ vs))) k ≡ k t (left_of fs vs)
tupled k t fs vs h = ap (λ (o : Option Tuple). on (given o (left_of fs vs)) k) (tuple_again t h)

templated : {B : Type 0} → (k : Template → Parser B) (t : Template) (fs : List Field) (vs : List Tree) → TemplateKept t → on (next_template (left_of fs (template_value t ∷ vs))) k ≡ k t (left_of fs vs)
templated k t fs vs h = ap (λ (o : Option Template). on (given o (left_of fs vs)) k) (template_again t h)

-- a template, and a lease of which the life and whether somebody renews were read
leased : {B : Type 0} → (k : Template × Lease → Parser B) (t : Template) (l : Lease) (fs : List Field) (vs : List Tree) → TemplateKept t → on (pattern_and_lease l.life (is_told l.renewer) (left_of fs (template_value t ∷ (renewer_values l.renewer ++ vs)))) k ≡ k (t, l) (left_of fs vs)
leased k t l fs vs h = ap (λ (o : Option ((Template × Lease) × Left)). on o k)
    (templated (λ (q : Template). renewer_if (is_told l.renewer) >>= (λ (r : Option Remote). gives (q, record { life = l.life; renewer = r }))) t fs (renewer_values l.renewer ++ vs) h
    ∙ renewed (λ (r : Option Remote). gives (t, record { life = l.life; renewer = r })) l.renewer fs vs)

valued : (ws : List Tree) (fs : List Field) (vs : List Tree) → values_of (length ws) (left_of fs (ws ++ vs)) ≡ Some (ws, left_of fs vs)
valued [] fs vs = refl
valued (w ∷ ws) fs vs = ap (λ (o : Option (List Tree × Left)). on o (λ (us : List Tree). gives (w ∷ us))) (valued ws fs vs)

-- Events.

one_id : {A : Type 0} → (f : ℕ → A) (n : ℕ) (fs : List Field) (vs : List Tree) → IsU64 n → by_id f (left_of (number n ∷ fs) vs) ≡ Some (f n, left_of fs vs)
one_id f n fs vs h = numbered (λ (id : ℕ). gives (f id)) n fs vs h

pub event_again : (e : Event) (fs : List Field) (vs : List Tree) → EventKept e → next_event (left_of (event_fields e ++ fs) (event_values e ++ vs)) ≡ Some (e, left_of fs vs)
unfolding next_event
event_again (event.Write v l) fs vs h =
    lifed (λ (q : Life). next_truth >>= (λ (b : Bool). next_tuple >>= (λ (t : Tuple). renewer_if b >>= (λ (r : Option Remote). gives (event.Write t (record { life = q; renewer = r })))))) l.life (told l.renewer ∷ fs) (value_of v ∷ (renewer_values l.renewer ++ vs))
    ∙ truthed (λ (b : Bool). next_tuple >>= (λ (t : Tuple). renewer_if b >>= (λ (r : Option Remote). gives (event.Write t (record { life = l.life; renewer = r }))))) l.renewer fs (value_of v ∷ (renewer_values l.renewer ++ vs))
    ∙ tupled (λ (t : Tuple). renewer_if (is_told l.renewer) >>= (λ (r : Option Remote). gives (event.Write t (record { life = l.life; renewer = r })))) v fs (renewer_values l.renewer ++ vs) h
    ∙ renewed (λ (r : Option Remote). gives (event.Write v (record { life = l.life; renewer = r }))) l.renewer fs vs
event_again (event.Reserve k p l) fs vs h =
    kinded (λ (x : Kind). next_life >>= (λ (q : Life). next_truth >>= (λ (b : Bool). pattern_and_lease q b >>= (λ (y : Template × Lease). gives (event.Reserve x y.0 y.1))))) k (life_field l.life ∷ told l.renewer ∷ fs) (template_value p ∷ (renewer_values l.renewer ++ vs))
    ∙ lifed (λ (q : Life). next_truth >>= (λ (b : Bool). pattern_and_lease q b >>= (λ (y : Template × Lease). gives (event.Reserve k y.0 y.1)))) l.life (told l.renewer ∷ fs) (template_value p ∷ (renewer_values l.renewer ++ vs))
    ∙ truthed (λ (b : Bool). pattern_and_lease l.life b >>= (λ (y : Template × Lease). gives (event.Reserve k y.0 y.1))) l.renewer fs (template_value p ∷ (renewer_values l.renewer ++ vs))
    ∙ leased (λ (y : Template × Lease). gives (event.Reserve k y.0 y.1)) p l fs vs h
event_again (event.Submit id) fs vs h = one_id (λ (n : ℕ). event.Submit n) id fs vs h
event_again (event.Collect id) fs vs h = one_id (λ (n : ℕ). event.Collect n) id fs vs h
event_again (event.Settle id ok) fs vs h = numbered (λ (n : ℕ). next_truth >>= (λ (b : Bool). gives (event.Settle n b))) id (field.Truth ok ∷ fs) vs h
event_again (event.Withdraw id) fs vs h = one_id (λ (n : ℕ). event.Withdraw n) id fs vs h
event_again (event.Cancel id) fs vs h = one_id (λ (n : ℕ). event.Cancel n) id fs vs h
event_again (event.Renew id l) fs vs h =
    numbered (λ (n : ℕ). next_life >>= (λ (q : Life). next_truth >>= (λ (b : Bool). renewer_if b >>= (λ (r : Option Remote). gives (event.Renew n (record { life = q; renewer = r })))))) id (life_field l.life ∷ told l.renewer ∷ fs) (renewer_values l.renewer ++ vs) h
    ∙ lifed (λ (q : Life). next_truth >>= (λ (b : Bool). renewer_if b >>= (λ (r : Option Remote). gives (event.Renew id (record { life = q; renewer = r }))))) l.life (told l.renewer ∷ fs) (renewer_values l.renewer ++ vs)
    ∙ truthed (λ (b : Bool). renewer_if b >>= (λ (r : Option Remote). gives (event.Renew id (record { life = l.life; renewer = r })))) l.renewer fs (renewer_values l.renewer ++ vs)
    ∙ renewed (λ (r : Option Remote). gives (event.Renew id (record { life = l.life; renewer = r }))) l.renewer fs vs
event_again (event.Look id) fs vs h = one_id (λ (n : ℕ). event.Look n) id fs vs h
event_again (event.Value id) fs vs h = one_id (λ (n : ℕ). event.Value n) id fs vs h
event_again (event.ReadAll p) fs vs h = templated (λ (t : Template). gives (event.ReadAll t)) p fs vs h
event_again (event.Notify v p l) fs vs h =
    lifed (λ (q : Life). next_truth >>= (λ (b : Bool). next_value >>= (λ (u : Tree). pattern_and_lease q b >>= (λ (y : Template × Lease). gives (event.Notify u y.0 y.1))))) l.life (told l.renewer ∷ fs) (v ∷ (template_value p ∷ (renewer_values l.renewer ++ vs)))
    ∙ truthed (λ (b : Bool). next_value >>= (λ (u : Tree). pattern_and_lease l.life b >>= (λ (y : Template × Lease). gives (event.Notify u y.0 y.1)))) l.renewer fs (v ∷ (template_value p ∷ (renewer_values l.renewer ++ vs)))
    ∙ leased (λ (y : Template × Lease). gives (event.Notify v y.0 y.1)) p l fs vs h
event_again (event.Pop id) fs vs h = one_id (λ (n : ℕ). event.Pop n) id fs vs h
event_again event.NextAsk fs vs h = refl
event_again (event.Asked id l) fs vs h =
    numbered (λ (n : ℕ). next_life >>= (λ (q : Life). gives (event.Asked n q))) id (life_field l ∷ fs) vs h
    ∙ lifed (λ (q : Life). gives (event.Asked id q)) l fs vs
event_again event.Tick fs vs h = refl
event_again event.Shut fs vs h = refl

-- Answers.

-- the word of what happened
abbrev what_word : Happening → Word
what_word happening.Write = word.Write
what_word happening.Take = word.Take
what_word happening.Delete = word.Delete

text_again : (what : Happening) → text_word (out-Tree (text_of what)) ≡ what_word what
text_again happening.Write = ap text_word (out-roll-Tree (Tree-F.Text (record { bytes = event_name happening.Write; code = Utf8 })))
text_again happening.Take = ap text_word (out-roll-Tree (Tree-F.Text (record { bytes = event_name happening.Take; code = Utf8 })))
text_again happening.Delete = ap text_word (out-roll-Tree (Tree-F.Text (record { bytes = event_name happening.Delete; code = Utf8 })))

happened_again : (what : Happening) (v : Tree) (fs : List Field) (vs : List Tree) → next_out (left_of (field.Word word.Event ∷ field.Word (what_word what) ∷ fs) (v ∷ vs)) ≡ Some (out.Event (list_tree (text_of what ∷ v ∷ [])), left_of fs vs)
unfolding next_out
happened_again happening.Write v fs vs = refl
happened_again happening.Take v fs vs = refl
happened_again happening.Delete v fs vs = refl

-- an event of the rules
raised_again : (e : Raised) (fs : List Field) (vs : List Tree) → next_out (left_of (out_fields (out.Event (event_value e)) ++ fs) (out_values (out.Event (event_value e)) ++ vs)) ≡ Some (out.Event (event_value e), left_of fs vs)
raised_again e fs vs =
    ap (λ (o : Tree-F Tree). next_out (left_of (field.Word word.Event ∷ field.Word (raised_word o) ∷ fs) (raised_tuple (event_value e) o ∷ vs))) (out-roll-Tree (Tree-F.List (text_of e.what ∷ value_of e.tuple ∷ [])))
    ∙ ap (λ (w : Word). next_out (left_of (field.Word word.Event ∷ field.Word w ∷ fs) (value_of e.tuple ∷ vs))) (text_again e.what)
    ∙ happened_again e.what (value_of e.tuple) fs vs

pub out_again : (o : Out) (fs : List Field) (vs : List Tree) → OutKept o → HoldsEvent o → next_out (left_of (out_fields o ++ fs) (out_values o ++ vs)) ≡ Some (o, left_of fs vs)
unfolding next_out
out_again (out.Entry id) fs vs h k = one_id (λ (n : ℕ). out.Entry n) id fs vs h
out_again (out.Reserved id) fs vs h k = one_id (λ (n : ℕ). out.Reserved n) id fs vs h
out_again (out.Answer v) fs vs h k = refl
out_again (out.Parked id) fs vs h k = one_id (λ (n : ℕ). out.Parked n) id fs vs h
out_again (out.Granted id v) fs vs h k = numbered (λ (n : ℕ). next_value >>= (λ (u : Tree). gives (out.Granted n u))) id fs (v ∷ vs) h
out_again (out.All ws) fs vs h k =
    numbered (λ (n : ℕ). values_of n >>= (λ (us : List Tree). gives (out.All us))) (length ws) fs (ws ++ vs) h
    ∙ ap (λ (o : Option (List Tree × Left)). on o (λ (us : List Tree). gives (out.All us))) (valued ws fs vs)
out_again (out.Notifier id) fs vs h k = one_id (λ (n : ℕ). out.Notifier n) id fs vs h
out_again (out.Event v) fs vs h k = subst (λ (u : Tree). next_out (left_of (out_fields (out.Event u) ++ fs) (out_values (out.Event u) ++ vs)) ≡ Some (out.Event u, left_of fs vs)) (sym k.is) (raised_again k.raised fs vs)
out_again out.Closed fs vs h k = refl
out_again out.Expired fs vs h k = refl
out_again out.Canceled fs vs h k = refl
out_again out.WouldWait fs vs h k = refl
out_again out.NotYet fs vs h k = refl
out_again (out.State flags) fs vs h k = refl
out_again (out.Ask id r) fs vs h k =
    numbered (λ (n : ℕ). next_remote >>= (λ (q : Remote). gives (out.Ask n q))) id fs (remote_tree r ∷ vs) h
    ∙ remoted (λ (q : Remote). gives (out.Ask id q)) r fs vs
out_again out.Plain fs vs h k = refl
out_again out.Recycled fs vs h k = refl
out_again out.Unknown fs vs h k = refl
out_again out.WrongKind fs vs h k = refl
out_again out.Shut fs vs h k = refl

-- Picks.

pick_again : (p : Pick) → PickKept p → pick_of (number_in (number p.request)) (number_in (number p.tuple)) ≡ Some p
pick_again p h = ap (λ (o : Option ℕ). pick_of o (number_in (number p.tuple))) (number_again p.request h.request) ∙ ap (λ (o : Option ℕ). pick_of (Some p.request) o) (number_again p.tuple h.tuple)

picks_again : (ps : List Pick) → All PickKept ps → picks_in (picks_fields ps) ≡ Some ps
picks_again [] h = refl
picks_again (p ∷ ps) h = ap (λ (o : Option Pick). pick_before o (picks_in (picks_fields ps))) (pick_again p (All-head PickKept p ps h)) ∙ ap (λ (o : Option (List Pick)). pick_before (Some p) o) (picks_again ps (All-tail PickKept p ps h))

-- Turns.

begun_again : (t : Turn) (fs : List Field) (vs : List Tree) → IsU64 t.caller → IsU64 t.at → EventKept t.event → next_begun (left_of (number t.caller ∷ number t.at ∷ (event_fields t.event ++ fs)) (event_values t.event ++ vs)) ≡ Some ((t.caller, t.at, t.event), left_of fs vs)
begun_again t fs vs c a e =
    numbered (λ (n : ℕ). next_number >>= (λ (m : ℕ). next_event >>= (λ (x : Event). gives (n, m, x)))) t.caller (number t.at ∷ (event_fields t.event ++ fs)) (event_values t.event ++ vs) c
    ∙ numbered (λ (m : ℕ). next_event >>= (λ (x : Event). gives (t.caller, m, x))) t.at (event_fields t.event ++ fs) (event_values t.event ++ vs) a
    ∙ ap (λ (o : Option (Event × Left)). on o (λ (x : Event). gives (t.caller, t.at, x))) (event_again t.event fs vs e)

ended_again : (t : Turn) (vs : List Tree) → OutKept t.out → HoldsEvent t.out → All PickKept t.picks → ended (left_of (out_fields t.out ++ picks_fields t.picks) (out_values t.out ++ vs)) ≡ Some (t.out, t.picks)
unfolding ended
ended_again t vs o e p =
    ap picks_then (out_again t.out (picks_fields t.picks) vs o e)
    ∙ ap (λ (q : Option (List Pick)). with_picks t.out q) (picks_again t.picks p)

left_again : (t : Turn) (vs : List Tree) → HasText t → TurnKept t → turn_left (left_of (head_fields t) (event_values t.event ++ (out_values t.out ++ vs))) ≡ Some t
unfolding turn_left
left_again t vs h k =
    ap turn_then (begun_again t (out_fields t.out ++ picks_fields t.picks) (out_values t.out ++ vs) k.plain.caller k.plain.at k.plain.event)
    ∙ ap (λ (o : Option (Out × List Pick)). turn_with (t.caller, t.at, t.event) o) (ended_again t vs k.plain.out h.event k.plain.picks)

-- the parts of a turn, whatever follows, are read as that turn
pub parts_again : (t : Turn) (vs : List Tree) → HasText t → TurnKept t → turn_of (turn_parts t ++ vs) ≡ Some t
parts_again t vs h k =
    ap (λ (o : Option (List Field)). turn_by o (turn_values t ++ vs)) (head_again (head_fields t))
    ∙ ap (λ (ws : List Tree). turn_left (left_of (head_fields t) ws)) (append_assoc (event_values t.event) (out_values t.out) vs)
    ∙ left_again t vs h k
