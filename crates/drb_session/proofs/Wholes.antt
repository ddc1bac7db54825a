-- Parts of a session, as a session.
use Rattle.std.proofs.Common.{◌≡◌, ℕ, ◌≤◌, List, [], ◌∷◌, ◌++◌, Bool, true, false, refl, sym, ◌∙◌, ap, subst, append_assoc, arith, inl, inr, true≢false}
use Rattle.std.specs.Prelude.{None, Some, Ok, Err, nat_lt, length, if◌then◌else◌}
use Rattle.std.specs.declared.option.Option.{Option}
use Rattle.std.specs.declared.result.Result.{Result}
use Rattle.drb_outside.specs.Told.{Told}
use Rattle.drb_outside.specs.Telling.{told_on, told_same, told_as}
use Rattle.marshal_grammar.specs.Spelled.{spelled}
use Rattle.marshal_write.specs.Limits.{max_dump}
use Rattle.drb_packet.specs.declared.refusal.PacketRefusal.{PacketRefusal}
use Rattle.drb_packet.specs.declared.request.Limits.{Limits}
use Rattle.drb_packet.specs.declared.request.Request.{Request}
use Rattle.drb_packet.specs.declared.request.Inbound.TheVariants as inbound
use Rattle.drb_packet.specs.declared.refusal.PacketError.TheVariants as fault
use Rattle.drb_packet.specs.Reads.{ReadsRequest}
use Rattle.drb_dispatch.specs.declared.place.Place.{Place}
use Rattle.drb_dispatch.specs.declared.call.Call.{Call as TheCall}
use Rattle.drb_dispatch.specs.declared.planned.Planned.{Planned}
use Rattle.drb_dispatch.specs.declared.planned.Planned.TheVariants as outcome
use Rattle.drb_dispatch.specs.Plans.{planned}
use Rattle.drb_script.specs.declared.reply.Reply.{Reply}
use Rattle.drb_script.specs.declared.patience.Patience.{Patience}
use Rattle.drb_script.specs.declared.next.Loose.TheVariants as left
use Rattle.drb_script.specs.Acting.{replied}
use Rattle.drb_script.specs.Stands.{Action, Script, Stops}
use Rattle.drb_reply.specs.Replies.{answered}
use Rattle.drb_session.specs.declared.making.Halt.{Halt}
use Rattle.drb_session.specs.declared.making.Halt.TheVariants as halt
use Rattle.drb_session.specs.declared.end.SessionEnd.{SessionEnd}
use Rattle.drb_session.specs.declared.end.SessionEnd.TheVariants.{Ended, Raised, Refused, ReadFault, WriteFault, Full, Memory}
use Rattle.drb_session.specs.Runs.{Side, Did, Runs}
use Rattle.drb_session.specs.Replies.{Replied, within, too_long, text_of}
use Rattle.drb_session.specs.Transcripts.{Answering, Served, AllServed, Cuts, Last, nothing, whole, refusal, begun, Ends, LastIn, LastOut, deeds_of, texts_of, last_deeds, last_text, Wire, wire, Later, Goes, Transcript}
use Rattle.drb_session.specs.Session.{Plays, HaltsMemory, answering, State, state, Going, Session, ServesOne}
use Rattle.drb_session.specs.Parts.{end_of, Answers, Replies, Writes, Refuses}
use Rattle.drb_session.proofs.Small.{nothing_more, did_none, did_on}

-- Answers.

-- a whole script may be where memory ran out
pub stops_whole : (p : Patience) (call : TheCall) (actions : List Action) (r : Reply) → Script p call actions r → Stops p call actions
stops_whole p call actions r h = record { first = actions; more = []; course = replied r []; loose = left.Nothing; split = nothing_more actions; goes = h; leaving = refl; clears = tt }

pub answers_reply : (place : Place) (p : Patience) (name : List ℕ) (call : TheCall) (a b : Side) (r : Reply) (both : Replied) → both ≡ answered place.uri name r → Runs place p call a b (Ok r) → Answers place p name (outcome.Call call) a b (Ok both)
answers_reply place p name call a b r both is h = record { actions = h.actions; did = h.did; comes = (r, h.comes, ap within is) }

pub answers_lost : (place : Place) (p : Patience) (name : List ℕ) (call : TheCall) (a b : Side) (r : Reply) → Runs place p call a b (Ok r) → Answers place p name (outcome.Call call) a b (Err halt.Memory)
answers_lost place p name call a b r h = record { actions = h.actions; did = h.did; comes = inr (stops_whole p call h.actions r h.comes) }

pub answers_halt : (place : Place) (p : Patience) (name : List ℕ) (call : TheCall) (a b : Side) (e : Halt) → Runs place p call a b (Err e) → Answers place p name (outcome.Call call) a b (Err e)
answers_halt place p name call a b (halt.Full turns) h = record { actions = h.actions; did = h.did; comes = h.comes }
answers_halt place p name call a b halt.Memory h = record { actions = h.actions; did = h.did; comes = inr h.comes }

-- what was planned is this, for the method with that name
pub answers_as : (place : Place) (p : Patience) (name name' : List ℕ) (plan plan' : Planned) (a b : Side) (r : Result Replied Halt) → name' ≡ name → plan' ≡ plan → Answers place p name' plan' a b r → Answers place p name plan a b r
answers_as place p name name' plan plan' a b r e f h = subst (λ (q : List ℕ). Answers place p q plan a b r) e (subst (λ (q : Planned). Answers place p name' q a b r) f h)

pub answers_raise : (place : Place) (p : Patience) (name : List ℕ) (plan : Planned) (a : Side) (r : Replied) → plan ≡ outcome.Raise r.1 → r.0 ≡ false → Answers place p name plan a a (Ok r)
answers_raise place p name plan a r is no_success = record {
  actions = [];
  did = did_none place a;
  comes = subst (λ (q : Planned). Plays place p name q [] (within r)) (sym is) (refl, ap (λ (b : Bool). within (b, r.1)) no_success);
}

memory_none : (p : Patience) (plan : Planned) → HaltsMemory p plan []
memory_none p (outcome.Call call) = inl refl
memory_none p (outcome.Raise exception) = refl

pub answers_none : (place : Place) (p : Patience) (name : List ℕ) (plan : Planned) (a : Side) → Answers place p name plan a a (Err halt.Memory)
answers_none place p name plan a = record { actions = []; did = did_none place a; comes = memory_none p plan }

-- Replies.

pub replies_end : (place : Place) (p : Patience) (name : List ℕ) (plan : Planned) (a b : Side) (g : Option (List ℕ)) (n : ℕ) (h : Halt) (end : SessionEnd) → end ≡ end_of h → Answers place p name plan a b (Err h) → Replies place p name plan a b g g n (Some end)
replies_end place p name plan a b g n (halt.Full turns) end is k = subst (λ (q : SessionEnd). Replies place p name plan a b g g n (Some q)) (sym is) (record { actions = k.actions; reply = too_long; did = k.did; comes = k.comes; output = told_same _ g n (λ x. ([], nothing_more x, refl)) })
replies_end place p name plan a b g n halt.Memory end is k = subst (λ (q : SessionEnd). Replies place p name plan a b g g n (Some q)) (sym is) (record { actions = k.actions; reply = too_long; did = k.did; comes = inl k.comes; output = told_same _ g n (λ x. ([], nothing_more x, refl)) })

pub replies_written : (place : Place) (p : Patience) (name : List ℕ) (plan : Planned) (a b : Side) (g g' : Option (List ℕ)) (n : ℕ) (r : Replied) (result : Option SessionEnd) → Answers place p name plan a b (Ok r) → Writes r result g g' n → Replies place p name plan a b g g' n result
replies_written place p name plan a b g g' n r None h k = record { actions = h.actions; reply = within r; did = h.did; comes = (h.comes, k.is); output = k.output }
replies_written place p name plan a b g g' n r (Some Raised) h k = record { actions = h.actions; reply = within r; did = h.did; comes = (h.comes, k.is); output = k.output }
replies_written place p name plan a b g g' n r (Some WriteFault) h k = record { actions = h.actions; reply = within r; did = h.did; comes = h.comes; output = k.output }
replies_written place p name plan a b g g' n r (Some Memory) h k = record { actions = h.actions; reply = within r; did = h.did; comes = inr h.comes; output = k.output }
replies_written place p name plan a b g g' n r (Some end) h k = absurd k.is

too_long_fails : (b : Bool) (r : Replied) → (if b then too_long else r).0 ≡ true → r.0 ≡ true
too_long_fails true r e = absurd (true≢false (sym e))
too_long_fails false r e = e

-- what is written as a success is one
pub within_ok : (r : Replied) → (within r).0 ≡ true → r.0 ≡ true
within_ok r e = too_long_fails (nat_lt max_dump (length (spelled r.1))) r e

-- One request, or the end.

step_here : (place : Place) (p : Patience) (end : SessionEnd) (s : Side) (l l' g : Option (List ℕ)) (m n k : ℕ) → Ends (answering place p) s.pass end nothing → LastOut end [] [] → m ≤ n → Told l l' n (LastIn {D = Action} place.limits end nothing) → Session place p end (state s (wire l m g k)) (state s (wire l' n g k))
step_here place p end s l l' g m n k ends out le input = record {
  actions = [];
  did = did_none place s;
  transcript = record {
    done = [];
    last = nothing;
    served = tt;
    ends = ends;
    all = refl;
    input = told_as (LastIn {D = Action} place.limits end nothing) _ l l' n (λ x y h. (x, refl, h)) input;
    output = told_same _ g k (λ x. ([], nothing_more x, out));
    later = record { read = le; write = omega arith };
  };
}

pub step_ended : (place : Place) (p : Patience) (s : Side) (l l' g : Option (List ℕ)) (m n k : ℕ) → m ≤ n → Told l l' n (ReadsRequest place.limits (Ok inbound.End)) → Session place p Ended (state s (wire l m g k)) (state s (wire l' n g k))
step_ended place p s l l' g m n k le h = step_here place p Ended s l l' g m n k tt refl le (told_as (ReadsRequest place.limits (Ok inbound.End)) _ l l' n (λ x y t. t.says) h)

pub step_fault : (place : Place) (p : Patience) (s : Side) (l l' g : Option (List ℕ)) (m n k : ℕ) → m ≤ n → Told l l' n (ReadsRequest place.limits (Err fault.ReadFault)) → Session place p ReadFault (state s (wire l m g k)) (state s (wire l' n g k))
step_fault place p s l l' g m n k le h = step_here place p ReadFault s l l' g m n k tt refl le (told_as (ReadsRequest place.limits (Err fault.ReadFault)) _ l l' n (λ x y t. (t.taken, t.front, t.says)) h)

pub step_memory : (place : Place) (p : Patience) (s : Side) (l l' g : Option (List ℕ)) (m n k : ℕ) → m ≤ n → Told l l' n (ReadsRequest place.limits (Err fault.Memory)) → Session place p Memory (state s (wire l m g k)) (state s (wire l' n g k))
step_memory place p s l l' g m n k le h = step_here place p Memory s l l' g m n k tt refl le (told_as (ReadsRequest place.limits (Err fault.Memory)) _ l l' n (λ x y t. (t.taken, t.front)) h)

-- with that last part, and no request before it
step_last : (place : Place) (p : Patience) (end : SessionEnd) (last : Last Action) (a b : Side) (l l' g g' : Option (List ℕ)) (m n k j : ℕ) → Ends (answering place p) b.pass end last → Did place a b (last_deeds last) → m ≤ n → k ≤ j → Told l l' n (LastIn place.limits end last) → Told g g' j (λ given given'. (written : List ℕ) × (given' ≡ given ++ written) × LastOut end (last_text last) written) → Session place p end (state a (wire l m g k)) (state b (wire l' n g' j))
step_last place p end last a b l l' g g' m n k j ends did le le' input output = record {
  actions = last_deeds last;
  did = did;
  transcript = record {
    done = [];
    last = last;
    served = tt;
    ends = ends;
    all = refl;
    input = told_as (LastIn place.limits end last) _ l l' n (λ x y h. (x, refl, h)) input;
    output = output;
    later = record { read = le; write = le' };
  };
}

pub step_refused : (place : Place) (p : Patience) (why : PacketRefusal) (end : SessionEnd) (s : Side) (l l' g g' : Option (List ℕ)) (m n k j : ℕ) → m ≤ n → k ≤ j → Told l l' n (ReadsRequest place.limits (Ok (inbound.Refused why))) → Refuses why end g g' j → Session place p end (state s (wire l m g k)) (state s (wire l' n g' j))
step_refused place p why (Refused r) s l l' g g' m n k j le le' h o = step_last place p (Refused r) (refusal why) s s l l' g g' m n k j (sym o.is) (did_none place s) le le' (told_as (ReadsRequest place.limits (Ok (inbound.Refused why))) _ l l' n (λ x y t. t.says) h) o.output
step_refused place p why WriteFault s l l' g g' m n k j le le' h o = step_last place p WriteFault (refusal why) s s l l' g g' m n k j o.is (did_none place s) le le' (told_as (ReadsRequest place.limits (Ok (inbound.Refused why))) _ l l' n (λ x y t. t.says) h) o.output
step_refused place p why Memory s l l' g g' m n k j le le' h o = step_last place p Memory (refusal why) s s l l' g g' m n k j tt (did_none place s) le le' (told_as (ReadsRequest place.limits (Ok (inbound.Refused why))) _ l l' n (λ x y t. t.says) h) o.output
step_refused place p why end s l l' g g' m n k j le le' h o = absurd o.is

pub step_request : (place : Place) (p : Patience) (request : Request) (result : Option SessionEnd) (a b : Side) (l l' g g' : Option (List ℕ)) (m n k j : ℕ) → m ≤ n → k ≤ j → Told l l' n (ReadsRequest place.limits (Ok (inbound.Request request))) → Replies place p request.name.bytes (planned request) a b g g' j result → ServesOne place p result (state a (wire l m g k)) (state b (wire l' n g' j))
step_request place p request None a b l l' g g' m n k j le le' h o = record {
  actions = o.actions;
  did = o.did;
  goes = record {
    done = record { request = request; deeds = o.actions; reply = o.reply } ∷ [];
    served = (o.comes.0, o.comes.1, tt);
    all = nothing_more o.actions;
    input = told_as (ReadsRequest place.limits (Ok (inbound.Request request))) _ l l' n (λ x y t. (y, t.says, refl)) h;
    output = told_as _ _ g g' j (λ x y t. t.1 ∙ ap (λ q. x ++ q) (t.2 ∙ nothing_more (text_of o.reply))) o.output;
    later = record { read = le; write = le' };
  };
}
step_request place p request (Some Raised) a b l l' g g' m n k j le le' h o = step_last place p Raised (whole (record { request = request; deeds = o.actions; reply = o.reply })) a b l l' g g' m n k j o.comes o.did le le' (told_as (ReadsRequest place.limits (Ok (inbound.Request request))) _ l l' n (λ x y t. t.says) h) o.output
step_request place p request (Some WriteFault) a b l l' g g' m n k j le le' h o = step_last place p WriteFault (whole (record { request = request; deeds = o.actions; reply = o.reply })) a b l l' g g' m n k j o.comes o.did le le' (told_as (ReadsRequest place.limits (Ok (inbound.Request request))) _ l l' n (λ x y t. t.says) h) o.output
step_request place p request (Some (Full turns)) a b l l' g g' m n k j le le' h o = step_last place p (Full turns) (begun request o.actions) a b l l' g g' m n k j o.comes o.did le le' (told_as (ReadsRequest place.limits (Ok (inbound.Request request))) _ l l' n (λ x y t. t.says) h) o.output
step_request place p request (Some Memory) a b l l' g g' m n k j le le' h o = elim o.comes [
  | inl part ↦ step_last place p Memory (begun request o.actions) a b l l' g g' m n k j part o.did le le' (told_as (ReadsRequest place.limits (Ok (inbound.Request request))) _ l l' n (λ x y t. t.says) h) o.output
  | inr all ↦ step_last place p Memory (whole (record { request = request; deeds = o.actions; reply = o.reply })) a b l l' g g' m n k j all o.did le le' (told_as (ReadsRequest place.limits (Ok (inbound.Request request))) _ l l' n (λ x y t. t.says) h) o.output
]
step_request place p request (Some end) a b l l' g g' m n k j le le' h o = absurd o.comes

-- One after the other.

pub served_on : {S D : Type 0} (a : Answering S D) (ss ts : List (Served D)) → AllServed a ss → AllServed a ts → AllServed a (ss ++ ts)
served_on a [] ts h k = k
served_on a (s ∷ ss) ts h k = (h.0, h.1, served_on a ss ts h.2 k)

pub cuts_on : {D : Type 0} (limits : Limits) (a b c : List ℕ) (ss ts : List (Served D)) → Cuts limits a ss b → Cuts limits b ts c → Cuts limits a (ss ++ ts) c
cuts_on limits a b c [] ts h k = subst (λ (q : List ℕ). Cuts limits q ts c) (sym h) k
cuts_on limits a b c (s ∷ ss) ts h k = (h.0, h.1, cuts_on limits h.0 b c ss ts h.2 k)

pub deeds_on : {D : Type 0} (ss ts : List (Served D)) → deeds_of (ss ++ ts) ≡ deeds_of ss ++ deeds_of ts
deeds_on [] ts = refl
deeds_on (s ∷ ss) ts = ap (λ q. s.deeds ++ q) (deeds_on ss ts) ∙ sym (append_assoc s.deeds (deeds_of ss) (deeds_of ts))

pub texts_on : {D : Type 0} (ss ts : List (Served D)) → texts_of (ss ++ ts) ≡ texts_of ss ++ texts_of ts
texts_on [] ts = refl
texts_on (s ∷ ss) ts = ap (λ q. text_of s.reply ++ q) (texts_on ss ts) ∙ sym (append_assoc (text_of s.reply) (texts_of ss) (texts_of ts))

pub going_none : (place : Place) (p : Patience) (s : State) → Going place p s s
going_none place p s = record {
  actions = [];
  did = did_none place s.side;
  goes = record {
    done = [];
    served = tt;
    all = refl;
    input = told_same _ s.wire.left s.wire.read_faults (λ x. refl);
    output = told_same _ s.wire.given s.wire.write_faults (λ x. nothing_more x);
    later = record { read = omega arith; write = omega arith };
  };
}

pub later_on : (a b c : Wire) → Later a b → Later b c → Later a c
later_on a b c h k = record { read = omega (arith, h.read, k.read); write = omega (arith, h.write, k.write) }

goes_on : {S D : Type 0} (w : Answering S D) (a b c : Wire) (xs ys : List D) → Goes w a b xs → Goes w b c ys → Goes w a c (xs ++ ys)
goes_on {D = D} w a b c xs ys h k = record {
  done = h.done ++ k.done;
  served = served_on w h.done k.done h.served k.served;
  all = ap (λ (q : List D). q ++ ys) h.all ∙ ap (λ (q : List D). deeds_of h.done ++ q) k.all ∙ sym (deeds_on h.done k.done);
  input = told_on _ _ _ a.left b.left c.left b.read_faults c.read_faults k.later.read (λ x y z p q. cuts_on w.limits x y z h.done k.done p q) h.input k.input;
  output = told_on _ _ _ a.given b.given c.given b.write_faults c.write_faults k.later.write (λ x y z p q. q ∙ ap (λ r. r ++ texts_of k.done) p ∙ append_assoc x (texts_of h.done) (texts_of k.done) ∙ ap (λ r. x ++ r) (sym (texts_on h.done k.done))) h.output k.output;
  later = later_on a b c h.later k.later;
}

pub written_on : {D : Type 0} (ss ts : List (Served D)) (x y z written : List ℕ) → y ≡ x ++ texts_of ss → z ≡ y ++ (texts_of ts ++ written) → z ≡ x ++ (texts_of (ss ++ ts) ++ written)
written_on ss ts x y z written p q = q ∙ ap (λ r. r ++ (texts_of ts ++ written)) p ∙ append_assoc x (texts_of ss) (texts_of ts ++ written)
    ∙ ap (λ r. x ++ r) (sym (append_assoc (texts_of ss) (texts_of ts) written) ∙ ap (λ r. r ++ written) (sym (texts_on ss ts)))

transcript_on : {S D : Type 0} (w : Answering S D) (new : S) (end : SessionEnd) (a b c : Wire) (xs ys : List D) → Goes w a b xs → Transcript w new end b c ys → Transcript w new end a c (xs ++ ys)
transcript_on {D = D} w new end a b c xs ys h k = record {
  done = h.done ++ k.done;
  last = k.last;
  served = served_on w h.done k.done h.served k.served;
  ends = k.ends;
  all = ap (λ (q : List D). q ++ ys) h.all ∙ ap (λ (q : List D). deeds_of h.done ++ q) k.all
      ∙ sym (append_assoc (deeds_of h.done) (deeds_of k.done) (last_deeds k.last)) ∙ ap (λ (q : List D). q ++ last_deeds k.last) (sym (deeds_on h.done k.done));
  input = told_on _ _ _ a.left b.left c.left b.read_faults c.read_faults k.later.read (λ x y z p q. (q.0, cuts_on w.limits x y q.0 h.done k.done p q.1, q.2)) h.input k.input;
  output = told_on _ _ _ a.given b.given c.given b.write_faults c.write_faults k.later.write (λ x y z p q. (q.0, written_on h.done k.done x y z q.0 p q.1, q.2)) h.output k.output;
  later = later_on a b c h.later k.later;
}

pub going_on : (place : Place) (p : Patience) (a b c : State) → Going place p a b → Going place p b c → Going place p a c
going_on place p a b c h k = record {
  actions = h.actions ++ k.actions;
  did = did_on place a.side b.side c.side h.actions k.actions h.did k.did;
  goes = goes_on (answering place p) a.wire b.wire c.wire h.actions k.actions h.goes k.goes;
}

pub ends_on : (place : Place) (p : Patience) (end : SessionEnd) (a b c : State) → Going place p a b → Session place p end b c → Session place p end a c
ends_on place p end a b c h k = record {
  actions = h.actions ++ k.actions;
  did = did_on place a.side b.side c.side h.actions k.actions h.did k.did;
  transcript = transcript_on (answering place p) c.side.pass end a.wire b.wire c.wire h.actions k.actions h.goes k.transcript;
}
