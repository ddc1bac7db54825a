-- What the only caller of a space knows, and what its tries come to.
use Rattle.std.proofs.Common.{◌≡◌, ◌∙◌, ℕ, List, [], ◌∷◌, ◌++◌, Ok, Err, refl, sym, ap, subst, arith}
use Rattle.std.specs.declared.result.Result.{Result}
use Rattle.rinda_rules.specs.declared.event.Event.{Event}
use Rattle.rinda_rules.specs.declared.out.Out.{Out}
use Rattle.rinda_rules.specs.declared.turn.Turn.{Turn}
use Rattle.rinda_rules.specs.Journals.{made}
use Rattle.rinda_space.specs.Spaces.{Spaced, IsLegal, IsDone, TurnsTo}
use Rattle.rinda_space.specs.declared.turned.Turned.{Turned}
use Rattle.rinda_space.specs.declared.turned.Turned.TheVariants.{Done, Nothing}
use Rattle.rinda_space.specs.declared.turned.TurnError.{TurnError}
use Rattle.rinda_space.specs.declared.turned.TurnError.TheVariants.{Full, Memory}
use Rattle.drb_monitor.proofs.Lists.{turns_own}
use Rattle.drb_session.specs.Passes.{Pass, Lawful, Sees, Makes, Tries, alone, turns_by}
use Rattle.drb_session.proofs.Small.{sees_same}

-- its own turn comes last among its own
one_more : (caller : ℕ) (turns : List Turn) (turn : Turn) → turn.caller ≡ caller → turns_by caller (turns ++ turn ∷ []) ≡ turns_by caller turns ++ turn ∷ []
one_more caller turns turn e = turns_own (λ t. t.caller) caller turns turn e

makes : (caller at : ℕ) (event : Event) (old new : Spaced) (out : Out) → IsDone caller at event old new out → Makes (alone caller old) (alone caller new) at event out
makes caller at event old new out h =
    let turn = made caller at event out h.picks in
    record {
      turn = turn;
      by = refl;
      reading = refl;
      made = refl;
      answered = refl;
      sees = record {
        caller = refl;
        start = h.start;
        cap = h.cap;
        beside = refl;
        mine = ap (λ (ts : List Turn). turns_by caller ts) h.turns ∙ one_more caller old.turns turn refl;
        more = turn ∷ [];
        grown = h.turns;
        known = omega arith;
        alone = λ e. h.turns;
      };
      before = old.turns;
      last = h.turns;
      later = omega arith;
    }

pub tries : (caller at : ℕ) (event : Event) (old new : Spaced) (r : Result Turned TurnError) → TurnsTo caller at event old new r → Tries (alone caller old) (alone caller new) at event r
tries caller at event old new (Ok (Done out)) h = makes caller at event old new out h
tries caller at event old new (Ok (Nothing turns)) h =
    subst (λ (v : Spaced). Tries (alone caller old) (alone caller v) at event (Ok (Nothing turns))) (sym h.2)
    (record { sees = sees_same (alone caller old); nothing = h.0; count = h.1 })
tries caller at event old new (Err (Full turns)) h =
    subst (λ (v : Spaced). Tries (alone caller old) (alone caller v) at event (Err (Full turns))) (sym h.3)
    (sees_same (alone caller old), record { something = h.0; full = h.1; count = h.2 ∙ h.1 })
tries caller at event old new (Err Memory) h =
    subst (λ (v : Spaced). Sees (alone caller old) (alone caller v) []) (sym h.1) (sees_same (alone caller old))

pub lawful : (caller : ℕ) (v : Spaced) → IsLegal v → Lawful (alone caller v)
lawful caller v h = record { origin = h.origin; starts = h.starts; legal = h.legal; own = refl; few = h.few; short = h.short }
