-- What one event touches: the one tuple or the one request that may be served after it, and couldn't before.
use Rattle.std.specs.Prelude.{ℕ, Bool, true, false, not, ◌&&◌, ◌||◌, ◌==◌, List}
use Rattle.std.specs.List.{list_all}
use Rattle.rinda_rules.specs.declared.event.Event.{Event}
use Rattle.rinda_rules.specs.declared.event.Event.TheVariants.{Write, Reserve, Submit, Collect, Settle, Withdraw, Cancel, Renew, Look, Value, ReadAll, Notify, Pop, NextAsk, Asked, Tick, Shut}
use Rattle.rinda_rules.specs.declared.row.RequestState.{RequestState}
use Rattle.rinda_rules.specs.declared.row.RequestState.TheVariants.{Reserved, Parked, Granted, Answered}
use Rattle.rinda_rules.specs.declared.plain.Entry.{Entry}
use Rattle.rinda_rules.specs.declared.plain.Request.{Request}
use Rattle.rinda_rules.specs.Space.{Plain, Found, TheTuple, TheRequest, TheNotifier, HasEnded, IsRecycled, IsUnknown, found, is_waiting, may_have}

-- What is touched: no row, the tuple with that id, or the request with that id.
pub data Touched : Type 0 where
  NoRow : Touched
  ATuple : ℕ → Touched
  ARequest : ℕ → Touched

-- the request or the tuple is the one that is touched
abbrev pub is_touched : Touched → Request → Entry → Bool
is_touched NoRow r t = false
is_touched (ATuple id) r t = t.id == id
is_touched (ARequest id) r t = r.id == id

-- the request waits, and may have the tuple
abbrev pub wants : ℕ → Request → Entry → Bool
wants now r t = is_waiting r && may_have now r t

-- it holds of each request with each tuple
abbrev pub pairs : {R T : Type 0} → (R → T → Bool) → List R → List T → Bool
pairs ok rs ts = list_all (λ r. list_all (ok r) ts) rs

-- one of both is touched, or they have nothing to do with each other
abbrev pub only_touched : ℕ → Touched → Request → Entry → Bool
only_touched now touched r t = is_touched touched r t || not (wants now r t)

-- nobody waits beside a match, but for what is touched
abbrev pub waits_only : Touched → Plain → Bool
waits_only touched s = pairs (only_touched s.clock touched) s.requests s.tuples

-- What an event touches, in the space as the event finds it.

-- a tuple that is let go
abbrev pub let_go_of : Bool → RequestState → Touched
let_go_of true state = NoRow
let_go_of false Reserved = NoRow
let_go_of false Parked = NoRow
let_go_of false (Granted tuple) = ATuple tuple
let_go_of false (Answered out) = NoRow

abbrev pub settle_touches : Bool → Found → Touched
settle_touches ok (TheRequest r) = let_go_of ok r.state
settle_touches ok (TheTuple t) = NoRow
settle_touches ok (TheNotifier n) = NoRow
settle_touches ok (HasEnded kind last) = NoRow
settle_touches ok IsRecycled = NoRow
settle_touches ok IsUnknown = NoRow

-- a tuple or a request that has a new lease
abbrev pub lease_touches : Found → Touched
lease_touches (TheRequest r) = ARequest r.id
lease_touches (TheTuple t) = ATuple t.id
lease_touches (TheNotifier n) = NoRow
lease_touches (HasEnded kind last) = NoRow
lease_touches IsRecycled = NoRow
lease_touches IsUnknown = NoRow

-- A Submit touches no row: where its request has a match it picks one in its own case.
abbrev pub touched_by : Plain → Event → Touched
touched_by s (Write value lease) = ATuple s.next
touched_by s (Reserve kind pattern lease) = NoRow
touched_by s (Submit id) = NoRow
touched_by s (Collect id) = NoRow
touched_by s (Settle id ok) = settle_touches ok (found s id)
touched_by s (Withdraw id) = NoRow
touched_by s (Cancel id) = NoRow
touched_by s (Renew id lease) = lease_touches (found s id)
touched_by s (Look id) = NoRow
touched_by s (Value id) = NoRow
touched_by s (ReadAll pattern) = NoRow
touched_by s (Notify event pattern lease) = NoRow
touched_by s (Pop id) = NoRow
touched_by s NextAsk = NoRow
touched_by s (Asked id life) = lease_touches (found s id)
touched_by s Tick = NoRow
touched_by s Shut = NoRow
