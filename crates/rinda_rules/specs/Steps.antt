-- A turn: advance, age, the event's own case, age, serve. docs/SPACE.md, Phases.
use Rattle.std.specs.Prelude.{◌≡◌, ℕ, ◌&&◌, ◌==◌, List, [], ◌∷◌, Option, Some, None, if◌then◌else◌, IsTrue}
use Rattle.rinda_rules.specs.declared.event.Event.{Event}
use Rattle.rinda_rules.specs.declared.event.Event.TheVariants.{Write, Reserve, Submit, Collect, Settle, Withdraw, Cancel, Renew, Look, Value, ReadAll, Notify, Pop, NextAsk, Asked, Tick, Shut}
use Rattle.rinda_rules.specs.declared.out.Out.{Out}
use Rattle.rinda_rules.specs.declared.turn.Pick.{Pick}
use Rattle.rinda_rules.specs.declared.plain.Request.{Request}
use Rattle.rinda_rules.specs.Space.{Plain, Found, TheTuple, TheRequest, TheNotifier, HasEnded, IsRecycled, IsUnknown, found, tuple_at, is_reserved, has_match}
use Rattle.rinda_rules.specs.Phases.{advanced, aged, is_match, Serve}
use Rattle.rinda_rules.specs.Cases.{outcome}

-- the caller's own reserved request, where it has a match
abbrev pub matched : Plain → ℕ → Found → Option Request
matched s caller (TheRequest r) = if r.caller == caller && (is_reserved r.state && has_match s r)
    then Some r else None
matched s caller (TheTuple t) = None
matched s caller (TheNotifier n) = None
matched s caller (HasEnded kind last) = None
matched s caller IsRecycled = None
matched s caller IsUnknown = None

-- the request for which the event's own case picks a match: the one that is submitted, where it has a match
abbrev pub chooser : Plain → ℕ → Event → Option Request
chooser s caller (Write value lease) = None
chooser s caller (Reserve kind pattern lease) = None
chooser s caller (Submit id) = matched s caller (found s id)
chooser s caller (Collect id) = None
chooser s caller (Settle id ok) = None
chooser s caller (Withdraw id) = None
chooser s caller (Cancel id) = None
chooser s caller (Renew id lease) = None
chooser s caller (Look id) = None
chooser s caller (Value id) = None
chooser s caller (ReadAll pattern) = None
chooser s caller (Notify event pattern lease) = None
chooser s caller (Pop id) = None
chooser s caller NextAsk = None
chooser s caller (Asked id life) = None
chooser s caller Tick = None
chooser s caller Shut = None

-- The event's own case and all that follows it. Where there is a chooser the first pick is a match of it.
abbrev pub Case : Plain → ℕ → Event → Option Request → Out → List Pick → Plain → Type 0
Case s caller event None out picks s' =
    let o = outcome s caller event None in (out ≡ o.out) × Serve (aged o.after) picks s'
Case s caller event (Some r) out [] s' = ⊥
Case s caller event (Some r) out (pick ∷ picks) s' =
    let o = outcome s caller event (tuple_at s pick.tuple) in IsTrue (is_match s r pick)
    × (out ≡ o.out) × Serve (aged o.after) picks s'

-- the space as the event finds it
abbrev pub found_by : Plain → ℕ → Plain
found_by s at = aged (advanced s at)

-- From s, the caller's event at that reading may be answered so, with these picks, and leave s'.
abbrev pub Step : Plain → ℕ → ℕ → Event → Out → List Pick → Plain → Type 0
Step s caller at event out picks s' = let ready =
    found_by s at in Case ready caller event (chooser ready caller event) out picks s'
