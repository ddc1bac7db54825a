-- How the parts of a turn make one step of the rules.
use Rattle.std.proofs.Common.{◌≡◌, ℕ, List, Option, Some, None, true, refl, sym, subst}
use Rattle.rinda_rules.specs.declared.event.Event.{Event}
use Rattle.rinda_rules.specs.declared.event.Event.TheVariants as event
use Rattle.rinda_rules.specs.declared.out.Out.{Out}
use Rattle.rinda_rules.specs.declared.turn.Pick.{Pick}
use Rattle.rinda_rules.specs.declared.plain.Request.{Request}
use Rattle.rinda_rules.specs.Space.{Plain, tuple_at}
use Rattle.rinda_rules.specs.Phases.{is_match}
use Rattle.rinda_rules.specs.Cases.{outcome}
use Rattle.rinda_rules.specs.Steps.{chooser, found_by, Step}
use Rattle.rinda_rules.specs.Settled.{Settled}
use Rattle.rinda_rules.specs.Sound.{Sound}
use Rattle.rinda_effects.specs.Touches.{NoRow, touched_by}
use Rattle.rinda_effects.proofs.Touching.{event_touches_one, match_touches_none, serving_ends_turn, serving_ends_match}
use Rattle.rinda_tables.specs.declared.tables.Tables.{Tables}
use Rattle.rinda_tables.specs.Holds.{Holds}
use Rattle.rinda_tables.specs.Tabled.{ahead_of}
use Rattle.rinda_cases.specs.Makes.{IsPicked}
use Rattle.rinda_space.specs.Begins.{Ends}

-- only a Submit chooses
only-submit : (e : Event) (s : Plain) (caller : ℕ) (r : Request) → chooser s caller e ≡ Some r → (id : ℕ) × (e ≡ event.Submit id)
only-submit (event.Submit id) s caller r h = (id, refl)
only-submit (event.Write value lease) s caller r h = cc
only-submit (event.Reserve kind pattern lease) s caller r h = cc
only-submit (event.Collect id) s caller r h = cc
only-submit (event.Settle id ok) s caller r h = cc
only-submit (event.Withdraw id) s caller r h = cc
only-submit (event.Cancel id) s caller r h = cc
only-submit (event.Renew id lease) s caller r h = cc
only-submit (event.Look id) s caller r h = cc
only-submit (event.Value id) s caller r h = cc
only-submit (event.ReadAll pattern) s caller r h = cc
only-submit (event.Notify x pattern lease) s caller r h = cc
only-submit (event.Pop id) s caller r h = cc
only-submit event.NextAsk s caller r h = cc
only-submit (event.Asked id life) s caller r h = cc
only-submit event.Tick s caller r h = cc
only-submit event.Shut s caller r h = cc

-- What follows the case is served, and all is a step of the rules.
abbrev pub IsStep : Plain → ℕ → ℕ → Event → Out → List Pick → Tables → Type 0
IsStep s caller at e out picks new = (s' : Plain) × Step s caller at e out picks s' × Holds s' (ahead_of new)

unpicked-step : (s : Plain) (caller at : ℕ) (e : Event) (out : Out) (picks : List Pick) (mid new : Tables) → Sound s → Settled s → chooser (found_by s at) caller e ≡ None → out ≡ (outcome (found_by s at) caller e None).out → Holds (outcome (found_by s at) caller e None).after (ahead_of mid) → Ends (touched_by (found_by s at) e) None mid new picks → IsStep s caller at e out picks new
unpicked-step s caller at e out picks mid new sound settled chooses answers holds ends =
    let o = outcome (found_by s at) caller e None in
    let done = ends o.after (event_touches_one s caller at e sound settled chooses) holds in (
      done.0,
      subst (λ (x : Out). Step s caller at e x picks done.0) (sym answers) (subst (λ (ps : List Pick). Step s caller at e o.out ps done.0) (sym done.2) (serving_ends_turn s caller at e done.1 done.0 chooses done.3)),
      done.4,
    )

picked-step : (s : Plain) (caller at id : ℕ) (out : Out) (r : Request) (pick : Pick) (picks : List Pick) (mid new : Tables) → Sound s → Settled s → chooser (found_by s at) caller (event.Submit id) ≡ Some r → is_match (found_by s at) r pick ≡ true → out ≡ (outcome (found_by s at) caller (event.Submit id) (tuple_at (found_by s at) pick.tuple)).out → Holds (outcome (found_by s at) caller (event.Submit id) (tuple_at (found_by s at) pick.tuple)).after (ahead_of mid) → Ends NoRow (Some pick) mid new picks → IsStep s caller at (event.Submit id) out picks new
picked-step s caller at id out r pick picks mid new sound settled chooses match answers holds ends =
    let o = outcome (found_by s at) caller (event.Submit id) (tuple_at (found_by s at) pick.tuple) in
    let done = ends o.after (match_touches_none s caller at id r pick sound settled chooses match) holds in (
      done.0,
      subst (λ (x : Out). Step s caller at (event.Submit id) x picks done.0) (sym answers) (subst (λ (ps : List Pick). Step s caller at (event.Submit id) o.out ps done.0) (sym done.2) (serving_ends_match s caller at (event.Submit id) r pick done.1 done.0 chooses match done.3)),
      done.4,
    )

pub is-step : (s : Plain) (caller at : ℕ) (e : Event) (out : Out) (pick : Option Pick) (picks : List Pick) (mid new : Tables) → Sound s → Settled s → IsPicked (found_by s at) caller e mid out pick → Ends (touched_by (found_by s at) e) pick mid new picks → IsStep s caller at e out picks new
is-step s caller at e out None picks mid new sound settled picked ends = unpicked-step s caller at e out picks mid new sound settled picked.0 picked.1.0 picked.1.1 ends
is-step s caller at e out (Some pick) picks mid new sound settled picked ends =
    let it = only-submit e (found_by s at) caller picked.0 picked.1 in
    by-event e it.0 it.1 picked ends
  where
    by-event : (x : Event) (id : ℕ) → x ≡ event.Submit id → IsPicked (found_by s at) caller x mid out (Some pick) → Ends (touched_by (found_by s at) x) (Some pick) mid new picks → IsStep s caller at x out picks new
    by-event (event.Submit id) i is p ends = picked-step s caller at id out p.0 pick picks mid new sound settled p.1 p.2 p.4.0 p.4.1 ends
    by-event (event.Write value lease) i is p ends = cc
    by-event (event.Reserve kind pattern lease) i is p ends = cc
    by-event (event.Collect id) i is p ends = cc
    by-event (event.Settle id ok) i is p ends = cc
    by-event (event.Withdraw id) i is p ends = cc
    by-event (event.Cancel id) i is p ends = cc
    by-event (event.Renew id lease) i is p ends = cc
    by-event (event.Look id) i is p ends = cc
    by-event (event.Value id) i is p ends = cc
    by-event (event.ReadAll pattern) i is p ends = cc
    by-event (event.Notify x pattern lease) i is p ends = cc
    by-event (event.Pop id) i is p ends = cc
    by-event event.NextAsk i is p ends = cc
    by-event (event.Asked id life) i is p ends = cc
    by-event event.Tick i is p ends = cc
    by-event event.Shut i is p ends = cc
