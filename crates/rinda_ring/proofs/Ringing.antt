-- What a ring's work comes to.
use Rattle.std.proofs.Common.{◌≡◌, ◌⊎◌, ℕ, ◌≤◌, List, [], ◌∷◌, ◌++◌, refl, sym, ap, subst, inl, inr}
use Rattle.std.specs.Prelude.{Ok, Err}
use Rattle.std.specs.declared.option.Option.{Option}
use Rattle.std.specs.declared.result.Result.{Result}
use Rattle.drb_tree.specs.declared.Tree.{Tree}
use Rattle.drb_tree.specs.declared.Remote.{Remote}
use Rattle.drb_outside.specs.Told.{Told}
use Rattle.drb_outside.specs.Telling.{told_as}
use Rattle.drb_outside.specs.Records.{Record}
use Rattle.drb_back.specs.declared.back.Back.{Back}
use Rattle.drb_back.specs.declared.back.Back.TheVariants as back
use Rattle.drb_dispatch.specs.declared.call.Call.{Call}
use Rattle.drb_dispatch.specs.declared.place.Place.{Place}
use Rattle.drb_script.specs.declared.patience.Patience.{Patience}
use Rattle.drb_script.specs.declared.patience.Patience.TheVariants.{Never}
use Rattle.drb_script.specs.declared.reply.Failure.{Failure}
use Rattle.drb_script.specs.declared.reply.Failure.TheVariants as failure
use Rattle.drb_script.specs.declared.reply.Reply.{Reply}
use Rattle.drb_script.specs.declared.reply.Reply.TheVariants as reply
use Rattle.drb_script.specs.declared.next.Saying.{Saying}
use Rattle.drb_script.specs.declared.next.Saying.TheVariants as say
use Rattle.drb_back.specs.Outgoing.{Outgoing}
use Rattle.drb_reply.specs.Arguments.{method_of, Arguments, IsTooLongFor}
use Rattle.drb_session.proofs.Calling.{says_out, CausesAs, caused_out}
use Rattle.drb_script.specs.Stands.{Action, called, Script}
use Rattle.drb_session.specs.declared.making.Halt.{Halt}
use Rattle.drb_session.specs.declared.making.Halt.TheVariants as halt
use Rattle.drb_session.specs.Passes.{Pass}
use Rattle.drb_session.specs.Peers.{Says, Caused}
use Rattle.drb_session.specs.Calls.{CallsAll}
use Rattle.drb_session.specs.Runs.{Side, side, Did, Runs, RunsTo}
use Rattle.drb_session.proofs.Small.{sees_same, reads_none, did_none, did_on}
use Rattle.rinda_ring.specs.declared.lookup.Lookup.{Lookup}
use Rattle.rinda_ring.specs.declared.lookup.RingRefusal.{RingRefusal}
use Rattle.rinda_ring.specs.declared.end.RingEnd.{RingEnd}
use Rattle.rinda_ring.specs.declared.end.RingEnd.TheVariants.{Ignored, NoTuple, Memory}
use Rattle.rinda_ring.specs.declared.lookup.RingError.{RingError}
use Rattle.rinda_ring.specs.declared.lookup.RingError.TheVariants.{Refused, Memory as LacksMemory}
use Rattle.rinda_ring.specs.Lookups.{Finds}
use Rattle.rinda_ring.specs.Blocks.{block_of, front}
use Rattle.rinda_ring.specs.Tasks.{write_of, take_lookup, telling}
use Rattle.rinda_ring.specs.Rings.{end_halted, end_failed, Wrote, WritesLookup, WritesTo, Writes, end_told, Tells, AnswersTo, Answers, end_unread, end_written, Ends}
use Rattle.rinda_ring.proofs.Replying.{IsWriteReply, write_replies, IsTakeReply, take_replies}

-- another failure is not that the space is shut
abbrev IsShut : Failure → Type 0
IsShut failure.Shut = Unit {0}
IsShut _ = ⊥

not_shut : (why : Failure) → (IsShut why → ⊥) → why ≡ failure.Shut → ⊥
not_shut why n e = n (subst (λ (q : Failure). IsShut q) (sym e) tt)

-- Writes.

wrote_failed : (lookup : Lookup) (new : Pass) (actions : List Action) (why : Failure) → Script Never (write_of lookup) actions (reply.Failure why) → Wrote lookup new actions (end_failed why)
wrote_failed lookup new actions failure.Shut s = s
wrote_failed lookup new actions why s = (why, s, not_shut why (λ n. n))

wrote_reply : (lookup : Lookup) (new : Pass) (actions : List Action) (r : Reply) → IsWriteReply r → Script Never (write_of lookup) actions r → Wrote lookup new actions (end_written r)
wrote_reply lookup new actions (reply.Object id) i s = (id, s)
wrote_reply lookup new actions (reply.Failure why) i s = wrote_failed lookup new actions why s
wrote_reply lookup new actions r i s = absurd i

-- the write had a reply
pub writes_replied : (place : Place) (lookup : Lookup) (call : Call) (a b : Side) (r : Reply) (end : RingEnd) → call ≡ write_of lookup → end ≡ end_written r → Runs place Never call a b (Ok r) → WritesLookup place lookup a b end
writes_replied place lookup call a b r end e f h =
    let s : Script Never (write_of lookup) h.actions r = subst (λ (q : Call). Script Never q h.actions r) e h.comes in
    record {
      actions = h.actions;
      did = h.did;
      wrote = subst (λ (q : RingEnd). Wrote lookup b.pass h.actions q) (sym f) (wrote_reply lookup b.pass h.actions r (write_replies Never lookup h.actions r s) s);
    }

wrote_halted : (lookup : Lookup) (new : Pass) (actions : List Action) (h : Halt) → RunsTo Never (write_of lookup) new actions (Err h) → Wrote lookup new actions (end_halted h)
wrote_halted lookup new actions (halt.Full turns) r = r
wrote_halted lookup new actions halt.Memory r = r

-- the write went no further
pub writes_halted : (place : Place) (lookup : Lookup) (call : Call) (a b : Side) (h : Halt) (end : RingEnd) → call ≡ write_of lookup → end ≡ end_halted h → Runs place Never call a b (Err h) → WritesLookup place lookup a b end
writes_halted place lookup call a b h end e f r = record {
  actions = r.actions;
  did = r.did;
  wrote = subst (λ (q : RingEnd). Wrote lookup b.pass r.actions q) (sym f)
      (wrote_halted lookup b.pass r.actions h (subst (λ (q : Call). RunsTo Never q b.pass r.actions (Err h)) e r.comes));
}

datagram_to : (bytes : List ℕ) (lookup : Lookup) (new : Pass) (actions : List Action) (end : RingEnd) → Finds bytes (Ok lookup) → Wrote lookup new actions end → WritesTo bytes new actions end
datagram_to bytes lookup new actions (Ignored why) f w = absurd w
datagram_to bytes lookup new actions Memory f w = inr (lookup, f, w)
datagram_to bytes lookup new actions end f w = (lookup, f, w)

-- the datagram is that lookup
pub writes_datagram : (place : Place) (bytes : List ℕ) (lookup : Lookup) (a b : Side) (end : RingEnd) → Finds bytes (Ok lookup) → WritesLookup place lookup a b end → Writes place bytes a b end
writes_datagram place bytes lookup a b end f w = record { actions = w.actions; did = w.did; comes = datagram_to bytes lookup b.pass w.actions end f w.wrote }

-- it is none
writes_ignored : (place : Place) (bytes : List ℕ) (why : RingRefusal) (a : Side) → Finds bytes (Err why) → Writes place bytes a a (Ignored why)
writes_ignored place bytes why a f = record { actions = []; did = did_none place a; comes = (f, refl) }

-- there was no memory to read it
writes_unread : (place : Place) (bytes : List ℕ) (a : Side) → Writes place bytes a a Memory
writes_unread place bytes a = record { actions = []; did = did_none place a; comes = inl refl }

-- Answers.

did_call : (place : Place) (m n : ℕ) (p : Pass) (r : Option (List ℕ)) (c c' : Option (List Record)) (to : Remote) (saying : Saying) (b : Back) → Told c c' n (Says place to saying b) → Caused place m n to saying b → m ≤ n → Did place (side p r c m) (side p r c' n) (called to saying b ∷ [])
did_call place m n p r c c' to saying b h cause le = record {
  sees = sees_same p;
  reads = reads_none r;
  calls = told_as (Says place to saying b) (CallsAll place (called to saying b ∷ [])) c c' n (λ x y t. (y, t, refl)) h;
  causes = (cause, tt);
  later = le;
}

told_to : (place : Place) (p : Patience) (new : Pass) (actions : List Action) (b : Back) → Tells place p actions b → AnswersTo place p new actions (end_told b)
told_to place p new actions (back.Value v) t = (v, t)
told_to place p new actions back.Memory t = inr (inr t)
told_to place p new actions b t = (t, tt)

untaken_to : (place : Place) (p : Patience) (new : Pass) (actions : List Action) (why : Failure) → Script p take_lookup actions (reply.Failure why) → AnswersTo place p new actions (end_failed why)
untaken_to place p new actions failure.Shut s = s
untaken_to place p new actions why s = (why, s, not_shut why (λ n. n))

-- the take had no tuple, and no more was done
answers_untaken : (place : Place) (p : Patience) (a : Side) (q : Pass) (r : Option (List ℕ)) (c c' : Option (List Record)) (m n : ℕ) (actions : List Action) (end end' : RingEnd) → c' ≡ c → n ≡ m → end ≡ end' → Did place a (side q r c m) actions → AnswersTo place p q actions end' → Answers place p a (side q r c' n) end
answers_untaken place p a q r c c' m n actions end end' e f g d t = record {
  actions = actions;
  did = subst (λ (x : Option (List Record)). Did place a (side q r x n) actions) (sym e) (subst (λ (x : ℕ). Did place a (side q r c x) actions) (sym f) d);
  comes = subst (λ (x : RingEnd). AnswersTo place p q actions x) (sym g) t;
}

answers_by : (place : Place) (p : Patience) (a : Side) (q : Pass) (r : Option (List ℕ)) (c c' : Option (List Record)) (m n : ℕ) (actions : List Action) (x : Reply) (end : RingEnd) → IsTakeReply x → Did place a (side q r c m) actions → Script p take_lookup actions x → Ends place x c c' m n end → Answers place p a (side q r c' n) end
answers_by place p a q r c c' m n actions (reply.Value tuple) end i d s e = record {
  actions = actions ++ called (block_of tuple) (telling place.uri) e.0 ∷ [];
  did = did_on place a (side q r c m) (side q r c' n) actions (called (block_of tuple) (telling place.uri) e.0 ∷ []) d
      (did_call place m n q r c c' (block_of tuple) (telling place.uri) e.0 e.1.calls e.1.caused e.1.later);
  comes = subst (λ (z : RingEnd). AnswersTo place p q (actions ++ called (block_of tuple) (telling place.uri) e.0 ∷ []) z) (sym e.2)
      (told_to place p q (actions ++ called (block_of tuple) (telling place.uri) e.0 ∷ []) e.0 (record { tuple = tuple; taken = actions; script = s; then = refl }));
}
answers_by place p a q r c c' m n actions (reply.Failure why) end i d s e = answers_untaken place p a q r c c' m n actions end (end_failed why) e.0 e.1 e.2 d (untaken_to place p q actions why s)
answers_by place p a q r c c' m n actions x end i d s e = absurd i

-- the take had a reply
pub answers_replied : (place : Place) (p : Patience) (call : Call) (a : Side) (q : Pass) (r : Option (List ℕ)) (c c' : Option (List Record)) (m n : ℕ) (x : Reply) (end : RingEnd) → call ≡ take_lookup → Runs place p call a (side q r c m) (Ok x) → Ends place x c c' m n end → Answers place p a (side q r c' n) end
answers_replied place p call a q r c c' m n x end e h t =
    let s : Script p take_lookup h.actions x = subst (λ (z : Call). Script p z h.actions x) e h.comes in
    answers_by place p a q r c c' m n h.actions x end (take_replies p h.actions x s) h.did s t

taken_halted : (place : Place) (p : Patience) (new : Pass) (actions : List Action) (h : Halt) → RunsTo p take_lookup new actions (Err h) → AnswersTo place p new actions (end_halted h)
taken_halted place p new actions (halt.Full turns) r = r
taken_halted place p new actions halt.Memory r = inr (inl r)

-- the take went no further
pub answers_halted : (place : Place) (p : Patience) (call : Call) (a b : Side) (h : Halt) (end : RingEnd) → call ≡ take_lookup → end ≡ end_halted h → Runs place p call a b (Err h) → Answers place p a b end
answers_halted place p call a b h end e f r = record {
  actions = r.actions;
  did = r.did;
  comes = subst (λ (q : RingEnd). AnswersTo place p b.pass r.actions q) (sym f)
      (taken_halted place p b.pass r.actions h (subst (λ (q : Call). RunsTo p q b.pass r.actions (Err h)) e r.comes));
}

-- there was no memory for the take
pub answers_none : (place : Place) (p : Patience) (a : Side) → Answers place p a a Memory
answers_none place p a = record { actions = []; did = did_none place a; comes = inl refl }

-- A write that goes no further has not missed its tuple, nor has one that was ignored.

abbrev IsNoTuple : RingEnd → Type 0
IsNoTuple NoTuple = Unit {0}
IsNoTuple end = ⊥

halted_so : (h : Halt) → IsNoTuple (end_halted h) → ⊥
halted_so (halt.Full turns) i = i
halted_so halt.Memory i = i

pub halted_tuple : (h : Halt) (end : RingEnd) → end ≡ end_halted h → end ≡ NoTuple → ⊥
halted_tuple h end e n = halted_so h (subst (λ (q : RingEnd). IsNoTuple q) e (subst (λ (q : RingEnd). IsNoTuple q) (sym n) tt))

-- Where a datagram is no lookup, no lookup was read of it.

abbrev IsErr : Result Lookup RingError → Type 0
IsErr (Ok lookup) = ⊥
IsErr (Err error) = Unit {0}

abbrev refusal_or : RingRefusal → Result Lookup RingError → RingRefusal
refusal_or why (Err (Refused other)) = other
refusal_or why found = why

abbrev IsMemory : Result Lookup RingError → Type 0
IsMemory (Err LacksMemory) = Unit {0}
IsMemory found = ⊥

-- the answers, by name
abbrev refused_as : RingRefusal → Result Lookup RingError
refused_as why = Err (Refused why)

abbrev lacks_memory : Result Lookup RingError
lacks_memory = Err LacksMemory

abbrev read_as : Lookup → Result Lookup RingError
read_as lookup = Ok lookup

pub not_read : (lookup : Lookup) (why : RingRefusal) → (read_as lookup ≡ refused_as why) ⊎ (read_as lookup ≡ lacks_memory) → ⊥
not_read lookup why (inl e) = subst (λ (q : Result Lookup RingError). IsErr q) (sym e) tt
not_read lookup why (inr e) = subst (λ (q : Result Lookup RingError). IsErr q) (sym e) tt

abbrev failed_by : RingError → Result Lookup RingError
failed_by error = Err error

same_so : (other why : RingRefusal) → (refused_as other ≡ refused_as why) ⊎ (refused_as other ≡ lacks_memory) → Ignored other ≡ Ignored why
same_so other why (inl e) = ap (λ (q : Result Lookup RingError). Ignored (refusal_or why q)) e
same_so other why (inr e) = absurd (subst (λ (q : Result Lookup RingError). IsMemory q) (sym e) tt)

writes_error : (place : Place) (bytes : List ℕ) (error : RingError) (a : Side) → ((why : RingRefusal) → failed_by error ≡ refused_as why → Finds bytes (Err why)) → Writes place bytes a a (end_unread error)
writes_error place bytes (Refused why) a f = writes_ignored place bytes why a (f why refl)
writes_error place bytes LacksMemory a f = writes_unread place bytes a

-- no lookup was read
pub writes_failed : (place : Place) (bytes : List ℕ) (error : RingError) (a : Side) (end : RingEnd) → end ≡ end_unread error → ((why : RingRefusal) → failed_by error ≡ refused_as why → Finds bytes (Err why)) → Writes place bytes a a end
writes_failed place bytes error a end e f = subst (λ (q : RingEnd). Writes place bytes a a q) (sym e) (writes_error place bytes error a f)

ignored_error : (error : RingError) (why : RingRefusal) → (failed_by error ≡ refused_as why) ⊎ (failed_by error ≡ lacks_memory) → (end_unread error ≡ Ignored why) ⊎ (end_unread error ≡ Memory)
ignored_error (Refused other) why h = inl (same_so other why h)
ignored_error LacksMemory why h = inr refl

pub ignored_failed : (error : RingError) (why : RingRefusal) (end : RingEnd) → end ≡ end_unread error → (failed_by error ≡ refused_as why) ⊎ (failed_by error ≡ lacks_memory) → (end ≡ Ignored why) ⊎ (end ≡ Memory)
ignored_failed error why end e h = subst (λ (q : RingEnd). (q ≡ Ignored why) ⊎ (q ≡ Memory)) (sym e) (ignored_error error why h)

unread_so : (error : RingError) → IsNoTuple (end_unread error) → ⊥
unread_so (Refused why) i = i
unread_so LacksMemory i = i

pub unread_tuple : (error : RingError) (end : RingEnd) → end ≡ end_unread error → end ≡ NoTuple → ⊥
unread_tuple error end e n = unread_so error (subst (λ (q : RingEnd). IsNoTuple q) e (subst (λ (q : RingEnd). IsNoTuple q) (sym n) tt))

-- The call of the block.

pub tells_calls : (place : Place) (to : Remote) (f : Tree) (name : List ℕ) (args args' : List Tree) (b : Back) (x y : Option (List Record)) (n : ℕ) → f ≡ front place.uri → name ≡ method_of (say.Event f) → args' ≡ args → Arguments place.uri (say.Event f) args → Told x y n (Outgoing place.limits to name args' b) → Told x y n (Says place to (telling place.uri) b)
tells_calls place to f name args args' b x y n e h k l t = subst (λ (q : Tree). Told x y n (Says place to (say.Event q) b)) e (says_out place to (say.Event f) name args args' b x y n h k l t)

pub tells_caused : (place : Place) (m n : ℕ) (to : Remote) (f : Tree) (name : List ℕ) (args args' : List Tree) (b : Back) → f ≡ front place.uri → name ≡ method_of (say.Event f) → args' ≡ args → Arguments place.uri (say.Event f) args → (IsTooLongFor (say.Event f) → ⊥) → CausesAs m n to name args' b → Caused place m n to (telling place.uri) b
tells_caused place m n to f name args args' b e h k l short c = subst (λ (q : Tree). Caused place m n to (say.Event q) b) e (caused_out place m n to (say.Event f) name args args' b h k l short c)
