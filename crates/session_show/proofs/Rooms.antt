-- What an event finds in the empty space.
use Rattle.std.proofs.Common.{◌≡◌, ℕ, Bool, true, false, refl, sym, ◌∙◌, subst, [], arith}
use Rattle.std.specs.Prelude.{◌==◌, ◌||◌, nat_le, if◌then◌else◌}
use Rattle.std.specs.declared.result.Result.{Result}
use Rattle.rinda_rules.specs.declared.event.Event.{Event}
use Rattle.rinda_rules.specs.declared.event.Event.TheVariants.{Collect, Pop}
use Rattle.rinda_rules.specs.Space.{Plain, IsUnknown, IsRecycled, opening}
use Rattle.rinda_rules.specs.Legal.{plain_from}
use Rattle.rinda_rules.specs.Nothing.{is_nothing, finds_nothing, waits_for, hears_nothing}
use Rattle.rinda_space.specs.declared.turned.Turned.{Turned}
use Rattle.rinda_space.specs.declared.turned.TurnError.{TurnError}
use Rattle.drb_session.specs.Passes.{Lawful, FindsSomething, FindsNothing, Tries}
use Rattle.drb_session.proofs.Small.{sees_same}
use Rattle.session_show.specs.Roomless.{roomless, is_idle, tried}

pub lawful : Lawful roomless
lawful = record { origin = opening; starts = refl; legal = λ s e. tt; own = refl; few = omega arith; short = omega arith }

nobody_waits : (b : Bool) → waits_for 0 (if b then IsUnknown else IsRecycled) ≡ false
nobody_waits true = refl
nobody_waits false = refl

nobody_hears : (b : Bool) → hears_nothing opening (if b then IsUnknown else IsRecycled) ≡ false
nobody_hears true = refl
nobody_hears false = refl

idle_finds : (event : Event) → finds_nothing opening 0 event ≡ is_idle event
idle_finds (Collect id) = nobody_waits (id == 0 || nat_le 1 id)
idle_finds (Pop id) = nobody_hears (id == 0 || nat_le 1 id)
idle_finds event = refl

something : (at : ℕ) (event : Event) → finds_nothing opening 0 event ≡ false → FindsSomething roomless at event
something at event h s is = subst (λ (q : Plain). is_nothing (plain_from q []) 0 at event ≡ false) (sym is) h

nothing : (at : ℕ) (event : Event) → finds_nothing opening 0 event ≡ true → FindsNothing roomless at event
nothing at event h s is = subst (λ (q : Plain). is_nothing (plain_from q []) 0 at event ≡ true) (sym is) h

tries_by : (at : ℕ) (event : Event) (b : Bool) → finds_nothing opening 0 event ≡ b → Tries roomless roomless at event (tried b)
tries_by at event true h = record { sees = sees_same roomless; nothing = nothing at event h; count = refl }
tries_by at event false h = (sees_same roomless, record { something = something at event h; full = refl; count = refl })

pub tries : (at : ℕ) (event : Event) (b : Bool) (r : Result Turned TurnError) → b ≡ is_idle event → r ≡ tried b → Tries roomless roomless at event r
tries at event b r e f = subst (λ (q : Result Turned TurnError). Tries roomless roomless at event q) (sym f) (tries_by at event b (idle_finds event ∙ sym e))
