-- What shutting leaves of what tables hold.
use Rattle.std.proofs.Common.{◌≡◌, ◌∙◌, ℕ, Bool, true, false, List, [], ◌∷◌, map, Option, Some, None, refl, sym, ap, subst, length, arith}
use Rattle.std.specs.Prelude.{◌==◌, is_some, if◌then◌else◌}
use Rattle.std.specs.List.{list_all}
use Rattle.std.specs.Option.{option_map}
use Rattle.std.proofs.lemmas.Bool.Decides.{nat_tests}
use Rattle.rinda_lease.specs.declared.stage.Stage.{Stage}
use Rattle.rinda_lease.specs.declared.stage.Stage.TheVariants as stage
use Rattle.rinda_lease.specs.Stages.{is_timed}
use Rattle.rinda_rules.specs.declared.object.Doubt.{Doubt}
use Rattle.rinda_rules.specs.declared.object.Doubt.TheVariants as doubt
use Rattle.rinda_rules.specs.declared.object.Last.TheVariants as last
use Rattle.rinda_rules.specs.declared.plain.Entry.{Entry}
use Rattle.rinda_rules.specs.declared.plain.Request.{Request}
use Rattle.rinda_rules.specs.declared.plain.Notifier.{Notifier}
use Rattle.rinda_rules.specs.declared.plain.Raised.{Raised}
use Rattle.rinda_rules.specs.declared.plain.Hearing.{Hearing}
use Rattle.rinda_rules.specs.declared.plain.Hearing.TheVariants as hearing
use Rattle.rinda_rules.specs.declared.out.Out.TheVariants as out
use Rattle.rinda_rules.specs.declared.row.RequestState.{RequestState}
use Rattle.rinda_rules.specs.declared.row.RequestState.TheVariants as state
use Rattle.rinda_rules.specs.Rows.{row_of}
use Rattle.rinda_rules.specs.Space.{Plain, request_at, tuple_at, notifier_at, is_parked, is_running}
use Rattle.rinda_rules.specs.Cases.{shut_request, shut_notifier, shut_down}
use Rattle.rinda_rules.specs.Sound.{hears_within}
use Rattle.rinda_rules.proofs.Lists.{numbered-map}
use Rattle.rinda_rules.proofs.Becoming.{becomes_shut}
use Rattle.rinda_rules.proofs.Ways.{Becomes}
use Rattle.rinda_notify.specs.declared.note.Note.{Note}
use Rattle.rinda_notify.specs.Notes.{note_of, shut_note}
use Rattle.rinda_notify.proofs.Told as N
use Rattle.drb_ids.specs.Found.{living}
use Rattle.rinda_tables.specs.Deadlines.{rested, quiet}
use Rattle.rinda_tables.specs.Holds.{Held, Holds, stage_by, stage_among, at_most_one, request_stage, notifier_stage}
use Rattle.rinda_tables.proofs.HoldingSame.{holds-same}
use Rattle.rinda_tables.proofs.HoldingRequests.{holds-requests-mapped}

pub timed-quiet : (x : Stage) → is_timed (quiet x) ≡ is_timed x
timed-quiet stage.Still = refl
timed-quiet (stage.Timed d) = refl
timed-quiet stage.Waiting = refl
timed-quiet stage.Asked = refl

-- a lease that may have expired ends, and one that may not stays
ends : (d : Doubt) (b : Bool) (o : Option ℕ) → rested (is_timed (stage_by d b o)) false (stage_by d b o) ≡ stage_by d false o
ends doubt.No true None = refl
ends doubt.No true (Some deadline) = refl
ends doubt.No false o = refl
ends doubt.Waiting true o = refl
ends doubt.Waiting false o = refl
ends doubt.Asked true o = refl
ends doubt.Asked false o = refl

shut-request : (r : Request) (st : RequestState) → r.state ≡ st → stage_by r.doubt false r.deadline ≡ request_stage (shut_request r)
shut-request r state.Reserved is = rw is refl
shut-request r state.Parked is = rw is refl
shut-request r (state.Granted tuple) is = rw is refl
shut-request r (state.Answered out) is = rw is refl

shut-notifier : (until : ℕ) (n : Notifier) (st : Hearing) → n.state ≡ st → stage_by n.doubt false n.deadline ≡ notifier_stage (shut_notifier until n)
shut-notifier until n hearing.Running is = rw is refl
shut-notifier until n (hearing.Closed l u) is = rw is refl

stays : (b : Bool) (o : Stage) → rested b true o ≡ o
stays true o = refl
stays false o = refl

pub shut-stage : (until : ℕ) (r : Option Request) (t : Option Entry) (n : Option Notifier) (o : Stage) → at_most_one r t n ≡ true → o ≡ stage_among r t n → rested (is_timed o) (is_some t) o ≡ stage_among (option_map shut_request r) t (option_map (shut_notifier until) n)
shut-stage until (Some r) None None o one is = rw is (ends r.doubt (is_parked r.state) r.deadline ∙ shut-request r r.state refl)
shut-stage until None (Some t) None o one is = stays (is_timed o) o ∙ is
shut-stage until None None (Some n) o one is = rw is (ends n.doubt (is_running n.state) n.deadline ∙ shut-notifier until n n.state refl)
shut-stage until None None None o one is = rw is refl
shut-stage until (Some r) (Some t) n o one is = cc
shut-stage until (Some r) None (Some n) o one is = cc
shut-stage until None (Some t) (Some n) o one is = cc

-- All notifiers change so that their ids stay.

row-mapped : (f : Notifier → Notifier) (q : ℕ) (ns : List Notifier) → ((n : Notifier) → (f n).id ≡ n.id) → row_of (λ n. n.id) q (map f ns) ≡ option_map f (row_of (λ n. n.id) q ns)
row-mapped f q [] keeps = refl
row-mapped f q (x ∷ ns) keeps = grind (arith, nat_tests, keeps x, row-mapped f q ns keeps)

request-mapped : (f : Request → Request) (q : ℕ) (rs : List Request) → ((r : Request) → (f r).id ≡ r.id) → row_of (λ r. r.id) q (map f rs) ≡ option_map f (row_of (λ r. r.id) q rs)
request-mapped f q [] keeps = refl
request-mapped f q (x ∷ rs) keeps = grind (arith, nat_tests, keeps x, request-mapped f q rs keeps)

still-notifier : (f : Notifier → Notifier) (r : Option Request) (t : Option Entry) (n : Option Notifier) → at_most_one r t n ≡ true → at_most_one r t (option_map f n) ≡ true
still-notifier f r t None h = h
still-notifier f None None (Some n) h = refl
still-notifier f None (Some t) (Some n) h = cc
still-notifier f (Some r) None (Some n) h = cc
still-notifier f (Some r) (Some t) (Some n) h = cc

living-notifier : (f : Notifier → Notifier) (id : ℕ) (r : Option Request) (t : Option Entry) (n : Option Notifier) → living id r t (option_map f n) ≡ living id r t n
living-notifier f id r t None = refl
living-notifier f id None None (Some n) = refl
living-notifier f id None (Some t) (Some n) = refl
living-notifier f id (Some r) t (Some n) = refl

all-mapped : {R : Type 0} (p : R → Bool) (f : R → R) (xs : List R) → ((x : R) → p x ≡ true → p (f x) ≡ true) → list_all p xs ≡ true → list_all p (map f xs) ≡ true
all-mapped p f [] k e = refl
all-mapped p f (x ∷ xs) k e = grind (arith, k x, all-mapped p f xs k)

pub holds-notifiers-mapped : (s : Plain) (t : Held) (f : Notifier → Notifier) (g : Note → Note) (stages : ℕ → Stage) → ((n : Notifier) → (f n).id ≡ n.id) → Holds s t → map (note_of s.events) (map f s.notifiers) ≡ map g (map (note_of s.events) s.notifiers) → ((n : Notifier) → hears_within s.events n ≡ true → hears_within s.events (f n) ≡ true) → ((q : ℕ) → stages q ≡ stage_among (request_at s q) (tuple_at s q) (option_map f (notifier_at s q))) → Holds (record s { notifiers = map f s.notifiers }) (record t { notes = map g t.notes; stages = stages })
holds-notifiers-mapped s t f g stages keeps h notes hears st = record {
  clock = h.clock;
  shut = h.shut;
  numbered = record { next = h.numbered.next; tuples = h.numbered.tuples; requests = h.numbered.requests; notifiers = numbered-map (λ n. n.id) s.next f s.notifiers keeps h.numbered.notifiers };
  alone = λ q. subst (λ (o : Option Notifier). at_most_one (request_at s q) (tuple_at s q) o ≡ true) (sym (row-mapped f q s.notifiers keeps)) (still-notifier f (request_at s q) (tuple_at s q) (notifier_at s q) (h.alone q));
  ids = record {
    next = h.ids.next;
    live = λ q. h.ids.live q ∙ sym (living-notifier f q (request_at s q) (tuple_at s q) (notifier_at s q)) ∙ sym (ap (λ (o : Option Notifier). living q (request_at s q) (tuple_at s q) o) (row-mapped f q s.notifiers keeps));
    ended = h.ids.ended;
  };
  tuples = h.tuples;
  requests = h.requests;
  notes = ap (λ (ns : List Note). map g ns) h.notes ∙ sym notes;
  heard = all-mapped (hears_within s.events) f s.notifiers hears h.heard;
  stages = λ q. st q ∙ sym (ap (λ (o : Option Notifier). stage_among (request_at s q) (tuple_at s q) o) (row-mapped f q s.notifiers keeps));
}

request-id : (r : Request) (b c : Bool) → (if b then record r { marked = true } else (if c then record r { state = state.Answered out.Canceled } else r)).id ≡ r.id
request-id r true c = refl
request-id r false true = refl
request-id r false false = refl

notifier-id : (until : ℕ) (n : Notifier) (b : Bool) → (if b then record n { state = hearing.Closed last.Canceled until } else n).id ≡ n.id
notifier-id until n true = refl
notifier-id until n false = refl

-- the space is shut
pub holds-shut : (s : Plain) (t b : Held) → Holds s t → b.clock ≡ t.clock → b.shut ≡ true → b.ids ≡ t.ids → b.tuples ≡ t.tuples → b.requests ≡ map shut_request t.requests → b.notes ≡ map (shut_note last.Canceled) t.notes → ((q : ℕ) → b.stages q ≡ rested (is_timed (t.stages q)) (is_some (row_of (λ t. t.id) q t.tuples)) (t.stages q)) → Holds (shut_down s) b
holds-shut s t b h clock shut ids tuples requests notes stages =
    let until = length s.events in
    let f = shut_notifier until in
    let asked = holds-requests-mapped s t shut_request (λ q. stage_among (option_map shut_request (request_at s q)) (tuple_at s q) (notifier_at s q)) (λ r. request-id r _ _) h (λ q. refl) in
    let heard = holds-notifiers-mapped (record s { requests = map shut_request s.requests }) _ f (shut_note last.Canceled) b.stages (λ n. notifier-id until n _) asked (N.map_seen (note_of s.events) f (shut_note last.Canceled) s.notifiers (λ n. N.shut_is_closed s.events n)) (λ n x. (becomes_shut s n).heard x)
    (λ q. stages q ∙ ap (λ (o : Option Entry). rested (is_timed (t.stages q)) (is_some o) (t.stages q)) (ap (λ (rows : List Entry). row_of (λ (x : Entry). x.id) q rows) h.tuples) ∙ shut-stage until (request_at s q) (tuple_at s q) (notifier_at s q) (t.stages q) (h.alone q) (h.stages q) ∙ ap (λ (o : Option Request). stage_among o (tuple_at s q) (option_map f (notifier_at s q))) (sym (mapped-row q))) in
    let unshut : Holds (record s { requests = map shut_request s.requests; notifiers = map f s.notifiers }) (record b { shut = t.shut }) = holds-same _ _ (record b { shut = t.shut }) heard clock refl ids tuples requests notes (λ q. refl) in
    closed unshut
  where
    mapped-row : (q : ℕ) → row_of (λ r. r.id) q (map shut_request s.requests) ≡ option_map shut_request (request_at s q)
    mapped-row q = request-mapped shut_request q s.requests (λ r. request-id r _ _)

    closed : Holds (record s { requests = map shut_request s.requests; notifiers = map (shut_notifier (length s.events)) s.notifiers }) (record b { shut = t.shut }) → Holds (shut_down s) b
    closed o = record {
      clock = o.clock;
      shut = shut;
      numbered = record { next = o.numbered.next; tuples = o.numbered.tuples; requests = o.numbered.requests; notifiers = o.numbered.notifiers };
      alone = o.alone;
      ids = record { next = o.ids.next; live = o.ids.live; ended = o.ids.ended };
      tuples = o.tuples;
      requests = o.requests;
      notes = o.notes;
      heard = o.heard;
      stages = o.stages;
    }
