-- A request that is submitted: the answer, and the space that it leaves.
use Rattle.std.proofs.Common.{◌≡◌, ◌∙◌, ℕ, Bool, true, false, ◌&&◌, List, Option, Some, None, refl, sym, ap, subst, arith}
use Rattle.std.specs.Prelude.{◌==◌, not, if◌then◌else◌}
use Rattle.drb_tree.specs.declared.Tree.{Tree}
use Rattle.rinda_tuple.specs.Tuples.{value_of}
use Rattle.rinda_bag.specs.Wanted.{least_wanted}
use Rattle.rinda_rules.specs.declared.event.Kind.{Kind}
use Rattle.rinda_rules.specs.declared.event.Kind.TheVariants as kind
use Rattle.rinda_rules.specs.declared.object.Last.TheVariants as last
use Rattle.rinda_rules.specs.declared.event.Event.TheVariants.{Submit}
use Rattle.rinda_rules.specs.declared.out.Out.{Out}
use Rattle.rinda_rules.specs.declared.out.Out.TheVariants as out
use Rattle.rinda_rules.specs.declared.row.RequestState.{RequestState}
use Rattle.rinda_rules.specs.declared.row.RequestState.TheVariants as state
use Rattle.rinda_rules.specs.declared.turn.Pick.{Pick}
use Rattle.rinda_rules.specs.declared.plain.Entry.{Entry}
use Rattle.rinda_rules.specs.declared.plain.Request.{Request}
use Rattle.rinda_rules.specs.Space.{Plain, Found, TheTuple, TheRequest, TheNotifier, HasEnded, IsRecycled, IsUnknown, found, tuple_at, request_at, is_read, is_reserved, has_match}
use Rattle.rinda_rules.specs.Phases.{request_ended, request_in, with_tuple, held_by, served_with, is_match}
use Rattle.rinda_rules.specs.Rows.{row_of}
use Rattle.rinda_rules.specs.Cases.{Outcome, answers, on_own, submit, submit_unmatched, submit_matched, collect_served}
use Rattle.rinda_rules.specs.Steps.{matched}
use Rattle.rinda_rules.proofs.Finding.{found-request}
use Rattle.rinda_rules.proofs.Lists.{row_has_id}
use Rattle.rinda_tables.specs.Holds.{Held, Holds}
use Rattle.rinda_tables.specs.Tabled.{ahead_of}
use Rattle.rinda_tables.specs.declared.tables.Tables.{Tables}
use Rattle.rinda_cases.specs.Makes.{Is, IsPicked, least_match}
use Rattle.rinda_cases.specs.Requests.{not_own, expires, IsSubmitted, served_answer, served_at_once}
use Rattle.rinda_cases.proofs.RequestsOwn.{is-case, only-answers, own-found, not-on-own, its-row}
use Rattle.rinda_cases.proofs.RequestsFound.{Matches, served-is}

both : (a b : Bool) → a ≡ true → b ≡ true → (a && b) ≡ true
both a b e f = grind arith

-- Submit.

reserved : (st : RequestState) → is_reserved st ≡ true → st ≡ state.Reserved
reserved state.Reserved e = refl
reserved state.Parked e = cc
reserved (state.Granted tuple) e = cc
reserved (state.Answered o) e = cc

second-false : (a b : Bool) → b ≡ false → (a && b) ≡ false
second-false a b e = grind arith

pub submitted-none : (s : Plain) (r : Request) (new : Tables) (o : Out) → is_reserved r.state ≡ true → has_match s r ≡ false → Is (submit_unmatched s r) new o → IsSubmitted s r new o None
submitted-none s r new o is none case = (
  second-false (is_reserved r.state) (has_match s r) none,
  is-case (submit s r None r.state) (submit_unmatched s r) new o (ap (submit s r None) (reserved r.state is)) case,
)

pub submitted-some : (s : Plain) (r : Request) (id tuple : ℕ) (t : Entry) (new : Tables) (o : Out) → r.id ≡ id → is_reserved r.state ≡ true → Matches s r tuple t → Some tuple ≡ least_match s r → Is (collect_served (served_with r t s) r t r.kind) new o → IsSubmitted s r new o (Some (record { request = id; tuple = tuple }))
submitted-some s r id tuple t new o same is m least case = (
  both _ _ is m.has,
  subst (λ (i : ℕ). is_match s r (record { request = i; tuple = tuple }) ≡ true) same m.match,
  sym least,
  is-case (submit s r (tuple_at s tuple) r.state) (collect_served (served_with r t s) r t r.kind) new o
      (ap (submit s r (tuple_at s tuple)) (reserved r.state is) ∙ ap (submit_matched s r) m.there) case,
)

-- the event's own case

not-matched : (s : Plain) (caller : ℕ) (f : Found) (o : Out) → Some o ≡ not_own caller f → matched s caller f ≡ None
not-matched s caller (TheTuple t) o e = refl
not-matched s caller (TheRequest r) o e = not-first (r.caller == caller) (is_reserved r.state && has_match s r) o e
  where
    not-first : (a b : Bool) (o : Out) → Some o ≡ (if a then None else Some out.WrongKind) → (if a && b then Some r else None) ≡ None
    not-first true b o e = cc
    not-first false b o e = refl
not-matched s caller (TheNotifier n) o e = refl
not-matched s caller (HasEnded k l) o e = refl
not-matched s caller IsRecycled o e = refl
not-matched s caller IsUnknown o e = refl

pub answers-refused : (s : Plain) (caller id : ℕ) (new : Tables) (o : Out) → Some o ≡ not_own caller (found s id) → Holds s (ahead_of new) → IsPicked s caller (Submit id) new o None
answers-refused s caller id new o e h = (
  not-matched s caller (found s id) o e,
  only-answers s _ new o (not-on-own s caller (found s id) (λ r. submit s r None r.state) o e) h,
)

own-matched : (s : Plain) (caller : ℕ) (r : Request) (b : Bool) → (r.caller == caller) ≡ true → (is_reserved r.state && has_match s r) ≡ b → matched s caller (TheRequest r) ≡ (if b then Some r else None)
own-matched s caller r b own is = rw (own, is) refl

own-case : (s : Plain) (caller id : ℕ) (r : Request) (case : Request → Outcome) → found s id ≡ TheRequest r → (r.caller == caller) ≡ true → on_own s caller case (found s id) ≡ case r
own-case s caller id r case is own = ap (on_own s caller case) is ∙ ap (λ (b : Bool). if b then case r else answers s out.WrongKind) own

picked : (s : Plain) (caller id : ℕ) (r : Request) (new : Tables) (o : Out) (pick : Option Pick) → found s id ≡ TheRequest r → (r.caller == caller) ≡ true → IsSubmitted s r new o pick → IsPicked s caller (Submit id) new o pick
picked s caller id r new o None is own h = (
  ap (matched s caller) is ∙ own-matched s caller r false own h.0,
  is-case _ (submit s r None r.state) new o (own-case s caller id r (λ r. submit s r None r.state) is own) h.1,
)
picked s caller id r new o (Some pick) is own h = (
  r,
  ap (matched s caller) is ∙ own-matched s caller r true own h.0,
  h.1,
  h.2,
  is-case _ (submit s r (tuple_at s pick.tuple) r.state) new o
      (own-case s caller id r (λ r. submit s r (tuple_at s pick.tuple) r.state) is own) h.3,
)

pub answers-own : (s : Plain) (caller id : ℕ) (new : Tables) (o : Out) (pick : Option Pick) → None ≡ not_own caller (found s id) → ((r : Request) → request_at s id ≡ Some r → IsSubmitted s r new o pick) → IsPicked s caller (Submit id) new o pick
answers-own s caller id new o pick e k =
    let at = own-found caller (found s id) e in
    picked s caller id at.0 new o pick at.1 at.2 (k at.0 (found-request s id at.0 at.1))

-- Without a match.

pub unmatched-canceled : (s : Plain) (r : Request) (id : ℕ) → r.id ≡ id → r.marked ≡ true → submit_unmatched s r ≡ answers (request_ended last.Canceled id s) out.Canceled
unmatched-canceled s r id same marked = rw (marked, same) refl

pub unmatched-expired : (s : Plain) (r : Request) (id : ℕ) → r.id ≡ id → r.marked ≡ false → expires s.clock r ≡ true → submit_unmatched s r ≡ answers (request_ended last.Expired id s) out.Expired
unmatched-expired s r id same marked over = rw (marked, over, same) refl

pub unmatched-parked : (s : Plain) (r : Request) (id : ℕ) → r.id ≡ id → r.marked ≡ false → expires s.clock r ≡ false → submit_unmatched s r ≡ answers (request_in id state.Parked s) (out.Parked id)
unmatched-parked s r id same marked over = rw (marked, over, same) refl

pub its-mark : (s : Plain) (t : Held) (id : ℕ) (row r : Request) (b : Bool) → Holds s t → Some row ≡ row_of (λ (x : Request). x.id) id t.requests → row.marked ≡ b → request_at s id ≡ Some r → r.marked ≡ b
its-mark s t id row r b h is e there = ap (λ (x : Request). x.marked) (sym (its-row s t id row r h is there)) ∙ e

pub its-time : (s : Plain) (t : Held) (id : ℕ) (row r : Request) (b : Bool) → Holds s t → Some row ≡ row_of (λ (x : Request). x.id) id t.requests → expires t.clock row ≡ b → request_at s id ≡ Some r → expires s.clock r ≡ b
its-time s t id row r b h is e there =
    ap (λ (x : Request). expires s.clock x) (sym (its-row s t id row r h is there))
    ∙ ap (λ (n : ℕ). expires n row) (sym h.clock) ∙ e

-- With a match.

pub serves-as : (s : Plain) (b : Held) (kd kd' : Kind) (id : ℕ) (t : Entry) → kd ≡ kd' → Holds (served_at_once kd' id t s) b → Holds (served_at_once kd id t s) b
serves-as s b kd kd' id t is h = subst (λ (k : Kind). Holds (served_at_once k id t s) b) (sym is) h

pub serves-held : (s : Plain) (b : Held) (id tuple : ℕ) (t : Entry) → tuple_at s tuple ≡ Some t → Holds (request_in id (state.Granted tuple) (with_tuple tuple (held_by id) s)) b → Holds (served_at_once kind.Move id t s) b
serves-held s b id tuple t here h = subst (λ (i : ℕ). Holds (request_in id (state.Granted i) (with_tuple i (held_by id) s)) b) (sym (row_has_id (λ (x : Entry). x.id) tuple s.tuples t here)) h

pub matched-served : (s : Plain) (r : Request) (t : Entry) (id : ℕ) (new : Tables) (o : Out) (kd : Kind) (value : Tree) → r.id ≡ id → kd ≡ r.kind → o ≡ served_answer kd id value → value ≡ value_of t.value → Holds (served_at_once kd id t s) (ahead_of new) → Is (collect_served (served_with r t s) r t r.kind) new o
matched-served s r t id new o kd value same e is has h =
    is-case _ (answers (served_at_once r.kind r.id t s) (served_answer r.kind r.id (value_of t.value))) new o (served-is s r t) (
      is ∙ ap (λ (k : Kind). served_answer k id value) e
          ∙ ap (λ (i : ℕ). served_answer r.kind i value) (sym same)
          ∙ ap (λ (v : Tree). served_answer r.kind r.id v) has,
      subst (λ (i : ℕ). Holds (served_at_once r.kind i t s) (ahead_of new)) (sym same)
          (subst (λ (k : Kind). Holds (served_at_once k id t s) (ahead_of new)) e h),
    )

-- the match that the tables find is the space's
pub least-held : (s : Plain) (t : Held) (row r : Request) (o : Option ℕ) → Holds s t → row ≡ r → o ≡ least_wanted t.clock (not (is_read row.kind)) row.pattern t.tuples → o ≡ least_wanted s.clock (not (is_read r.kind)) r.pattern s.tuples
least-held s t row r o h same e =
    e ∙ ap (λ (x : Request). least_wanted t.clock (not (is_read x.kind)) x.pattern t.tuples) same
    ∙ ap (λ (n : ℕ). least_wanted n (not (is_read r.kind)) r.pattern t.tuples) h.clock
    ∙ ap (λ (rows : List Entry). least_wanted s.clock (not (is_read r.kind)) r.pattern rows) h.tuples
