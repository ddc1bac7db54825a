-- A caller's pass, after a session and after a step of the keeper.
use Rattle.std.proofs.Common.{◌≡◌, ℕ, List, [], Bool}
use Rattle.std.specs.declared.option.Option.{Option}
use Rattle.drb_monitor.specs.Passes.{Site, Knowledge, IsPassOf, split_off, with_next_out}
use Rattle.rinda_rules.specs.declared.turn.Turn.{Turn}
use Rattle.rinda_space.specs.Entered.{Basis}
use Rattle.drb_outside.specs.Records.{Record}
use Rattle.drb_packet.specs.declared.request.Limits.{Limits}
use Rattle.drb_dispatch.specs.declared.place.Place.{Place}
use Rattle.drb_script.specs.declared.patience.Patience.{Patience}
use Rattle.drb_session.specs.declared.end.SessionEnd.{SessionEnd}
use Rattle.drb_session.specs.Passes.{Pass, Lawful, turns_by}
use Rattle.drb_session.specs.Runs.{Side, side}
use Rattle.drb_session.specs.Transcripts.{Wire}
use Rattle.drb_session.specs.Session.{Session, state}
use Rattle.drb_keeper.specs.declared.owed.Owed.{Owed}
use Rattle.drb_keeper.specs.declared.owed.KeeperEnd.{KeeperEnd}
use Rattle.drb_keeper.specs.Keeping.{Steps}
use Rattle.drb_shared.specs.Sharing.{shared, IsReady}
use Rattle.drb_shared.proofs.Going.{ready_after, ready_split, ready_next}

-- a session leaves its pass ready
pub ready_served : (m m' : Site Basis) (k k' : Knowledge Turn Basis) (place : Place) (p : Patience) (end : SessionEnd) (r r' : Option (List ℕ)) (c c' : Option (List Record)) (f f' : ℕ) (w w' : Wire) → IsReady m k → IsPassOf m' k'
    → Session place p end (state (side (shared m.basis k) r c f) w) (state (side (shared m'.basis k') r' c' f') w') → (Lawful (shared m.basis k) → Lawful (shared m'.basis k')) → IsReady m k'
ready_served m m' k k' place p end r r' c c' f f' w w' h of session lawful = ready_after m m' k k' _ h of session.did.sees (lawful h.lawful)

-- and so does a step of the keeper
pub ready_kept : (m m' : Site Basis) (k k' : Knowledge Turn Basis) (limits : Limits) (shut : Bool) (a b : Option Owed) (end : KeeperEnd) (r r' : Option (List ℕ)) (c c' : Option (List Record)) (f f' : ℕ) → IsReady m k → IsPassOf m' k'
    → Steps limits shut a b (side (shared m.basis k) r c f) (side (shared m'.basis k') r' c' f') end → (Lawful (shared m.basis k) → Lawful (shared m'.basis k')) → IsReady m k'
ready_kept m m' k k' limits shut a b end r r' c c' f f' h of steps lawful = ready_after m m' k k' steps.turns h of steps.sees (lawful h.lawful)

pub ready_apart : (m : Site Basis) (k : Knowledge Turn Basis) → IsReady m k → turns_by k.next k.seen ≡ [] → IsReady m (split_off k)
ready_apart m k h fresh = ready_split m k h fresh

pub ready_on : (m : Site Basis) (k : Knowledge Turn Basis) → IsReady m k → IsReady m (with_next_out k)
ready_on m k h = ready_next m k h
