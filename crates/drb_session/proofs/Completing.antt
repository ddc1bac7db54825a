-- Over whole requests, and without a fault, a session ends well.
use Rattle.std.proofs.Common.{◌≡◌, ℕ, List, [], ◌∷◌, Bool, true, false, sym, ◌∙◌, ap, refl, arith, true≢false}
use Rattle.std.specs.Prelude.{None, Some}
use Rattle.std.specs.declared.option.Option.{Option}
use Rattle.drb_outside.specs.Told.{Told, Rose}
use Rattle.drb_packet.specs.declared.refusal.PacketRefusal.{PacketRefusal}
use Rattle.drb_packet.specs.declared.request.Limits.{Limits}
use Rattle.drb_packet.specs.Parsers.{refused}
use Rattle.drb_packet.specs.Requests.{next_request}
use Rattle.drb_packet.specs.Cuts.{cut, Ending, at_end, at_refusal}
use Rattle.drb_packet.proofs.Cutting.{cuts}
use Rattle.drb_dispatch.specs.declared.place.Place.{Place}
use Rattle.drb_script.specs.declared.patience.Patience.{Patience}
use Rattle.drb_session.specs.declared.end.SessionEnd.{SessionEnd}
use Rattle.drb_session.specs.declared.end.SessionEnd.TheVariants.{Ended, Raised, Refused, ReadFault, WriteFault, Full, Memory}
use Rattle.drb_session.specs.Transcripts.{Answering, Served, Cuts, Last, nothing, whole, refusal, begun, Ends, LastIn}
use Rattle.drb_session.specs.Session.{answering, State, Session, IsWhole, AreWhole, EndsWhole}

-- the rest ends as the whole does
ends_as : {D : Type 0} (limits : Limits) (bytes rest : List ℕ) (ss : List (Served D)) → Cuts limits bytes ss rest → (cut limits bytes).ending ≡ (cut limits rest).ending
ends_as limits bytes rest [] h = ap (λ (q : List ℕ). (cut limits q).ending) h
ends_as limits bytes rest (s ∷ ss) h = ap (λ q. q.ending) ((cuts limits bytes).request s.request h.0 h.1) ∙ ends_as limits h.0 rest ss h.2

abbrev is_end : Ending → Bool
is_end at_end = true
is_end (at_refusal why) = false

-- bytes that are refused behind some requests are not whole
not_whole : {D : Type 0} (limits : Limits) (bytes rest left : List ℕ) (ss : List (Served D)) (why : PacketRefusal) → AreWhole limits bytes → Cuts limits bytes ss rest → next_request limits rest ≡ refused why left → ⊥
not_whole limits bytes rest left ss why w h e = true≢false (ap is_end (sym w ∙ ends_as limits bytes rest ss h ∙ ap (λ q. q.ending) ((cuts limits rest).refusal why left e)))

never_at : {S D : Type 0} (a : Answering S D) (new : S) (why : PacketRefusal) (bytes rest left : List ℕ) (ss : List (Served D)) (last : Last D) → Ends a new (Refused why) last → AreWhole a.limits bytes → Cuts a.limits bytes ss rest → LastIn a.limits (Refused why) last rest left → ⊥
never_at a new why bytes rest left ss nothing e w h l = e
never_at a new why bytes rest left ss (whole s) e w h l = e
never_at a new why bytes rest left ss (refusal r) e w h l = not_whole a.limits bytes rest left ss r w h l
never_at a new why bytes rest left ss (begun request deeds) e w h l = e

never_told : {S D : Type 0} (a : Answering S D) (new : S) (why : PacketRefusal) (x y : Option (List ℕ)) (m n : ℕ) (ss : List (Served D)) (last : Last D) → Ends a new (Refused why) last → IsWhole a.limits x → (Rose m n → ⊥)
    → Told x y n (λ bytes left. (rest : List ℕ) × Cuts a.limits bytes ss rest × LastIn a.limits (Refused why) last rest left) → ⊥
never_told a new why None y m n ss last e w sound h = w
never_told a new why (Some bytes) None m n ss last e w sound h = sound (omega (arith, h))
never_told a new why (Some bytes) (Some left) m n ss last e w sound h = never_at a new why bytes h.0 left ss last e w h.1 h.2

-- no refusal comes over whole requests
never_refused : (place : Place) (p : Patience) (why : PacketRefusal) (old new : State) → Session place p (Refused why) old new → IsWhole place.limits old.wire.left → (Rose old.wire.read_faults new.wire.read_faults → ⊥) → ⊥
never_refused place p why old new h w sound = never_told (answering place p) new.side.pass why old.wire.left new.wire.left old.wire.read_faults new.wire.read_faults h.transcript.done h.transcript.last h.transcript.ends w sound h.transcript.input

pub completes : (place : Place) (p : Patience) (end : SessionEnd) (old new : State) → Session place p end old new
    → (end ≡ ReadFault → Rose old.wire.read_faults new.wire.read_faults) → (end ≡ WriteFault → Rose old.wire.write_faults new.wire.write_faults)
    → IsWhole place.limits old.wire.left → (Rose old.wire.read_faults new.wire.read_faults → ⊥) → (Rose old.wire.write_faults new.wire.write_faults → ⊥) → EndsWhole end
completes place p Ended old new h in_fault out_fault w sound sound' = tt
completes place p Raised old new h in_fault out_fault w sound sound' = tt
completes place p (Refused why) old new h in_fault out_fault w sound sound' = never_refused place p why old new h w sound
completes place p ReadFault old new h in_fault out_fault w sound sound' = sound (in_fault refl)
completes place p WriteFault old new h in_fault out_fault w sound sound' = sound' (out_fault refl)
completes place p (Full turns) old new h in_fault out_fault w sound sound' = tt
completes place p Memory old new h in_fault out_fault w sound sound' = tt
