-- Turns that proofs alone know.
use Rattle.std.proofs.Common.{◌≡◌, ◌∙◌, sym, ℕ, Bool, List, [], ◌∷◌, ◌++◌, length, refl, ap, arith}
use Rattle.rinda_rules.specs.declared.turn.Turn.{Turn}
use Rattle.rinda_rules.specs.Journals.{made}
use Rattle.rinda_counted.specs.Counts.{Happened, Answered, turns_of, Counts}

-- there are as many turns as events
length-turns_of' : (events : List Happened) (answers : List Answered) → length events ≡ length answers → length (turns_of events answers) ≡ length events
length-turns_of' [] answers e = refl
length-turns_of' (x ∷ events) [] e = absurd (omega arith)
length-turns_of' (x ∷ events) (a ∷ answers) e = omega (arith, length-turns_of' events answers (omega arith))

-- the count is that of the turns
pub length-turns_of : (count cap : ℕ) (ready : Bool) (events : List Happened) (answers : List Answered) (next_events : List Happened) (next_answers : List Answered) → Counts count cap ready events answers next_events next_answers → length (turns_of events answers) ≡ count
length-turns_of count cap ready events answers next_events next_answers k = length-turns_of' events answers (k.events_are ∙ sym k.answers_are) ∙ k.events_are

-- one event and one answer more make one turn more
turns_of-push' : (events : List Happened) (answers : List Answered) (e : Happened) (a : Answered) → length events ≡ length answers → turns_of (events ++ e ∷ []) (answers ++ a ∷ []) ≡ turns_of events answers ++ made e.0.0 e.0.1 e.1 a.0 a.1 ∷ []
turns_of-push' [] [] e a same = refl
turns_of-push' [] (y ∷ answers) e a same = absurd (omega arith)
turns_of-push' (x ∷ events) [] e a same = absurd (omega arith)
turns_of-push' (x ∷ events) (y ∷ answers) e a same = ap (λ (ts : List Turn). made x.0.0 x.0.1 x.1 y.0 y.1 ∷ ts) (turns_of-push' events answers e a (omega arith))

-- the same where they are counted
pub turns_of-push : (count cap : ℕ) (ready : Bool) (events : List Happened) (answers : List Answered) (next_events : List Happened) (next_answers : List Answered) (e : Happened) (a : Answered) → Counts count cap ready events answers next_events next_answers → turns_of (events ++ e ∷ []) (answers ++ a ∷ []) ≡ turns_of events answers ++ made e.0.0 e.0.1 e.1 a.0 a.1 ∷ []
turns_of-push count cap ready events answers next_events next_answers e a k = turns_of-push' events answers e a (k.events_are ∙ sym k.answers_are)
