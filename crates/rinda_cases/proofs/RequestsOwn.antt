-- What a request's own caller makes of it: each answer, and the space that it leaves.
use Rattle.std.proofs.Common.{◌≡◌, ◌∙◌, ℕ, Bool, true, false, Option, Some, None, refl, sym, ap, subst}
use Rattle.std.specs.Prelude.{◌==◌, if◌then◌else◌}
use Rattle.drb_tree.specs.declared.Tree.{Tree}
use Rattle.rinda_rules.specs.declared.object.ObjectKind.{ObjectKind}
use Rattle.rinda_rules.specs.declared.object.ObjectKind.TheVariants as object
use Rattle.rinda_rules.specs.declared.object.Last.{Last}
use Rattle.rinda_rules.specs.declared.object.Last.TheVariants as last
use Rattle.rinda_rules.specs.declared.out.Out.{Out}
use Rattle.rinda_rules.specs.declared.out.Out.TheVariants as out
use Rattle.rinda_rules.specs.declared.row.RequestState.{RequestState}
use Rattle.rinda_rules.specs.declared.row.RequestState.TheVariants as state
use Rattle.rinda_rules.specs.declared.plain.Entry.{Entry}
use Rattle.rinda_rules.specs.declared.plain.Request.{Request}
use Rattle.rinda_rules.specs.Rows.{row_of}
use Rattle.rinda_rules.specs.Space.{Plain, Found, TheTuple, TheRequest, TheNotifier, HasEnded, IsRecycled, IsUnknown, found, tuple_at, request_at}
use Rattle.rinda_rules.specs.Phases.{request_ended, with_tuple}
use Rattle.rinda_rules.specs.Cases.{Outcome, answers, on_own, last_of, value_at, collect, settle_tuple, settle, withdraw_request}
use Rattle.rinda_rules.proofs.Finding.{found-request}
use Rattle.rinda_rules.proofs.Lists.{row_has_id}
use Rattle.rinda_bag.specs.Changes.{let_go}
use Rattle.drb_ids.specs.declared.object.Looked.TheVariants as looked
use Rattle.drb_ids.specs.Ids.{looked_up}
use Rattle.rinda_tables.specs.Holds.{Held, Holds}
use Rattle.rinda_tables.specs.Tabled.{ahead_of}
use Rattle.rinda_tables.specs.declared.tables.Tables.{Tables}
use Rattle.rinda_cases.specs.Makes.{Is}
use Rattle.rinda_cases.specs.Requests.{is_own, not_own}
use Rattle.rinda_cases.proofs.Named.{names-tuple, names-request, names-notifier, names-ended, names-recycled, names-none}

-- The rows that tables hold are the space's.

pub the-tuple : (s : Plain) (t : Held) (id : ℕ) (o : Option Entry) → Holds s t → o ≡ row_of (λ (x : Entry). x.id) id t.tuples → tuple_at s id ≡ o
the-tuple s t id o h is = ap (λ rows. row_of (λ (x : Entry). x.id) id rows) (sym h.tuples) ∙ sym is

pub the-request : (s : Plain) (t : Held) (id : ℕ) (o : Option Request) → Holds s t → o ≡ row_of (λ (x : Request). x.id) id t.requests → request_at s id ≡ o
the-request s t id o h is = ap (λ rows. row_of (λ (x : Request). x.id) id rows) (sym h.requests) ∙ sym is

some_same : {A : Type 0} {x y : A} → Some x ≡ Some y → x ≡ y
some_same e = cc

-- the row that was looked up is the request
pub its-row : (s : Plain) (t : Held) (id : ℕ) (row r : Request) → Holds s t → Some row ≡ row_of (λ (x : Request). x.id) id t.requests → request_at s id ≡ Some r → row ≡ r
its-row s t id row r h is there = some_same (sym (the-request s t id (Some row) h is) ∙ there)

pub its-id : (s : Plain) (id : ℕ) (r : Request) → request_at s id ≡ Some r → r.id ≡ id
its-id s id r there = row_has_id (λ (x : Request). x.id) id s.requests r there

-- An answer that changes nothing, or that another word of the rules gives.

pub is-case : (o o' : Outcome) (new : Tables) (answer : Out) → o ≡ o' → Is o' new answer → Is o new answer
is-case o o' new answer e is = subst (λ (o : Outcome). Is o new answer) (sym e) is

pub only-answers : (s : Plain) (o : Outcome) (new : Tables) (answer : Out) → o ≡ answers s answer → Holds s (ahead_of new) → Is o new answer
only-answers s o new answer e h = is-case o (answers s answer) new answer e (refl, h)

-- Whose request an id names.

pub own-held : (s : Plain) (t : Held) (caller id : ℕ) (r : Request) → Holds s t → request_at s id ≡ Some r → is_own caller (row_of (λ (x : Request). x.id) id t.requests) ≡ (r.caller == caller)
own-held s t caller id r h there = ap (is_own caller) (sym (the-request s t id _ h refl) ∙ there)

pub owned : (s : Plain) (t : Held) (caller id : ℕ) (b : Bool) → Holds s t → looked.Live object.Request ≡ looked_up t.ids id → b ≡ is_own caller (row_of (λ (x : Request). x.id) id t.requests) → not_own caller (found s id) ≡ (if b then None else Some out.WrongKind)
owned s t caller id b h is own =
    let at = names-request s t id h is in
    let same : b ≡ (at.0.caller == caller) = own ∙ own-held s t caller id at.0 h at.2 in
    rw (at.1, same) refl

pub not-own-tuple : (s : Plain) (t : Held) (caller id : ℕ) → Holds s t → looked.Live object.Entry ≡ looked_up t.ids id → Some out.WrongKind ≡ not_own caller (found s id)
not-own-tuple s t caller id h is = sym (ap (not_own caller) (names-tuple s t id h is).1)

pub not-own-notifier : (s : Plain) (t : Held) (caller id : ℕ) → Holds s t → looked.Live object.Notifier ≡ looked_up t.ids id → Some out.WrongKind ≡ not_own caller (found s id)
not-own-notifier s t caller id h is = sym (ap (not_own caller) (names-notifier s t id h is).1)

pub not-own-ended : (s : Plain) (t : Held) (caller id : ℕ) (k : ObjectKind) (l : Last) → Holds s t → looked.Ended k l ≡ looked_up t.ids id → Some out.WrongKind ≡ not_own caller (found s id)
not-own-ended s t caller id k l h is = sym (ap (not_own caller) (names-ended s t id k l h is))

pub not-own-recycled : (s : Plain) (t : Held) (caller id : ℕ) → Holds s t → looked.Recycled ≡ looked_up t.ids id → Some out.Recycled ≡ not_own caller (found s id)
not-own-recycled s t caller id h is = sym (ap (not_own caller) (names-recycled s t id h is))

pub not-own-none : (s : Plain) (t : Held) (caller id : ℕ) → Holds s t → looked.Never ≡ looked_up t.ids id → Some out.Unknown ≡ not_own caller (found s id)
not-own-none s t caller id h is = sym (ap (not_own caller) (names-none s t id h is))

-- where it is the caller's own request

if-none : (b : Bool) (o : Out) → None ≡ (if b then None else Some o) → b ≡ true
if-none true o e = refl
if-none false o e = cc

if-some : (b : Bool) (o o' : Out) → Some o ≡ (if b then None else Some o') → (b ≡ false) × (o ≡ o')
if-some true o o' e = cc
if-some false o o' e = (refl, some_same e)

pub own-found : (caller : ℕ) (f : Found) → None ≡ not_own caller f → (r : Request) × (f ≡ TheRequest r) × ((r.caller == caller) ≡ true)
own-found caller (TheTuple t) e = cc
own-found caller (TheRequest r) e = (r, refl, if-none (r.caller == caller) out.WrongKind e)
own-found caller (TheNotifier n) e = cc
own-found caller (HasEnded k l) e = cc
own-found caller IsRecycled e = cc
own-found caller IsUnknown e = cc

-- the case of the caller's own request
pub on-own : (s : Plain) (caller id : ℕ) (case : Request → Outcome) (new : Tables) (answer : Out) → None ≡ not_own caller (found s id) → ((r : Request) → request_at s id ≡ Some r → Is (case r) new answer) → Is (on_own s caller case (found s id)) new answer
on-own s caller id case new answer e k =
    let at = own-found caller (found s id) e in
    is-case _ (case at.0) new answer (ap (on_own s caller case) at.1 ∙ ap (λ (b : Bool). if b then case at.0 else answers s out.WrongKind) at.2) (k at.0 (found-request s id at.0 at.1))

-- the answer where it isn't
pub not-on-own : (s : Plain) (caller : ℕ) (f : Found) (case : Request → Outcome) (o : Out) → Some o ≡ not_own caller f → on_own s caller case f ≡ answers s o
not-on-own s caller (TheTuple t) case o e = cc
not-on-own s caller (TheRequest r) case o e =
    let tests = if-some (r.caller == caller) o out.WrongKind e in
    rw (tests.0, tests.1) refl
not-on-own s caller (TheNotifier n) case o e = cc
not-on-own s caller (HasEnded k l) case o e = cc
not-on-own s caller IsRecycled case o e = cc
not-on-own s caller IsUnknown case o e = cc

pub on-refused : (s : Plain) (caller id : ℕ) (case : Request → Outcome) (new : Tables) (o : Out) → Some o ≡ not_own caller (found s id) → Holds s (ahead_of new) → Is (on_own s caller case (found s id)) new o
on-refused s caller id case new o e h = only-answers s _ new o (not-on-own s caller (found s id) case o e) h

-- Settle.

pub settled-free : (s : Plain) (b : Held) (ok : Bool) (id : ℕ) (e : Entry) → ok ≡ false → e.marked ≡ false → tuple_at s id ≡ Some e → Holds (with_tuple id let_go s) b → Holds (settle_tuple ok (tuple_at s id) s) b
settled-free s b ok id e is marked there h =
    let same : e.id ≡ id = row_has_id (λ (x : Entry). x.id) id s.tuples e there in
    rw (is, there, marked, same) h

marked-requests : (e : Entry) (s : Plain) (b : Bool) → e.marked ≡ b → (settle_tuple false (Some e) s).requests ≡ s.requests
marked-requests e s true is = rw is refl
marked-requests e s false is = rw is refl

settled-requests : (ok : Bool) (o : Option Entry) (s : Plain) → (settle_tuple ok o s).requests ≡ s.requests
settled-requests ok None s = refl
settled-requests true (Some e) s = refl
settled-requests false (Some e) s = marked-requests e s e.marked refl

-- settling a tuple leaves the requests as they were
pub still-there : (s : Plain) (ok : Bool) (o : Option Entry) (id : ℕ) (r : Request) → request_at s id ≡ Some r → request_at (settle_tuple ok o s) id ≡ Some r
still-there s ok o id r there = ap (λ rows. row_of (λ (x : Request). x.id) id rows) (settled-requests ok o s) ∙ there

pub settles-granted : (s : Plain) (r : Request) (ok : Bool) (id tuple : ℕ) → request_at s id ≡ Some r → r.state ≡ state.Granted tuple → settle s r ok r.state ≡ answers (request_ended last.Done id (settle_tuple ok (tuple_at s tuple) s)) out.Plain
settles-granted s r ok id tuple there is =
    ap (settle s r ok) is
    ∙ ap (λ (i : ℕ). answers (request_ended last.Done i (settle_tuple ok (tuple_at s tuple) s)) out.Plain) (its-id s id r there)

-- Collect.

pub collects-granted : (s : Plain) (r : Request) (id tuple : ℕ) → request_at s id ≡ Some r → r.state ≡ state.Granted tuple → collect s r r.state ≡ answers s (out.Granted id (value_at (tuple_at s tuple)))
collects-granted s r id tuple there is =
    ap (collect s r) is ∙ ap (λ (i : ℕ). answers s (out.Granted i (value_at (tuple_at s tuple)))) (its-id s id r there)

pub collects-answered : (s : Plain) (r : Request) (id : ℕ) (o : Out) → request_at s id ≡ Some r → r.state ≡ state.Answered o → collect s r r.state ≡ answers (request_ended (last_of o) id s) o
collects-answered s r id o there is =
    ap (collect s r) is ∙ ap (λ (i : ℕ). answers (request_ended (last_of o) i s) o) (its-id s id r there)

-- Withdraw.

pub withdraws-reserved : (s : Plain) (r : Request) (id : ℕ) → request_at s id ≡ Some r → r.state ≡ state.Reserved → withdraw_request s r r.state ≡ answers (request_ended last.Done id s) out.Plain
withdraws-reserved s r id there is =
    ap (withdraw_request s r) is ∙ ap (λ (i : ℕ). answers (request_ended last.Done i s) out.Plain) (its-id s id r there)

pub withdraws-parked : (s : Plain) (r : Request) (id : ℕ) → request_at s id ≡ Some r → r.state ≡ state.Parked → withdraw_request s r r.state ≡ answers (request_ended last.Done id s) out.WouldWait
withdraws-parked s r id there is =
    ap (withdraw_request s r) is ∙ ap (λ (i : ℕ). answers (request_ended last.Done i s) out.WouldWait) (its-id s id r there)

pub withdraws-granted : (s : Plain) (r : Request) (tuple : ℕ) → r.state ≡ state.Granted tuple → withdraw_request s r r.state ≡ collect s r r.state
withdraws-granted s r tuple is = ap (withdraw_request s r) is ∙ sym (ap (collect s r) is)

pub withdraws-answered : (s : Plain) (r : Request) (o : Out) → r.state ≡ state.Answered o → withdraw_request s r r.state ≡ collect s r r.state
withdraws-answered s r o is = ap (withdraw_request s r) is ∙ sym (ap (collect s r) is)

-- only the caller's own is withdrawn
pub withdraws : (s : Plain) (t : Held) (caller id : ℕ) (r : Request) (b : Bool) (own other : Outcome) → Holds s t → request_at s id ≡ Some r → is_own caller (row_of (λ (x : Request). x.id) id t.requests) ≡ b → (if r.caller == caller then own else other) ≡ (if b then own else other)
withdraws s t caller id r b own other h there e = ap (λ (b : Bool). if b then own else other) (sym (own-held s t caller id r h there) ∙ e)

-- What the state of the row is, that of the request is.
pub its-state : (s : Plain) (t : Held) (id : ℕ) (row r : Request) (st : RequestState) → Holds s t → Some row ≡ row_of (λ (x : Request). x.id) id t.requests → row.state ≡ st → request_at s id ≡ Some r → r.state ≡ st
its-state s t id row r st h is e there = ap (λ (x : Request). x.state) (sym (its-row s t id row r h is there)) ∙ e

pub the-value : (s : Plain) (t : Held) (id : ℕ) (v : Tree) → Holds s t → v ≡ value_at (row_of (λ (x : Entry). x.id) id t.tuples) → value_at (tuple_at s id) ≡ v
the-value s t id v h is = ap value_at (the-tuple s t id _ h refl) ∙ sym is
