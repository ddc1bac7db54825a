-- A Submit of a Take that has a match, where nothing is due.
use Rattle.std.proofs.Common.{◌≡◌, ℕ, Bool, true, false, cond, not, ◌&&◌, List, [], ◌∷◌, Some, refl, sym, ◌∙◌, ap, subst, arith}
use Rattle.std.specs.Prelude.{◌==◌}
use Rattle.std.proofs.lemmas.Bool.Decides.{nat_tests}
use Rattle.rinda_tuple.specs.Tuples.{value_of}
use Rattle.rinda_rules.specs.declared.object.Last.TheVariants as last
use Rattle.rinda_rules.specs.declared.event.Kind.{Kind}
use Rattle.rinda_rules.specs.declared.event.Kind.TheVariants as kind
use Rattle.rinda_rules.specs.declared.event.Event.TheVariants.{Submit}
use Rattle.rinda_rules.specs.declared.out.Out.TheVariants as out
use Rattle.rinda_rules.specs.declared.row.RequestState.{RequestState}
use Rattle.rinda_rules.specs.declared.row.RequestState.TheVariants as state
use Rattle.rinda_rules.specs.declared.turn.Pick.{Pick}
use Rattle.rinda_rules.specs.declared.turn.Turn.{Turn}
use Rattle.rinda_rules.specs.declared.plain.Entry.{Entry}
use Rattle.rinda_rules.specs.declared.plain.Request.{Request}
use Rattle.rinda_rules.specs.Rows.{changed}
use Rattle.rinda_rules.specs.Space.{Plain, tuple_at, is_reserved, is_parked, is_due_tuple, is_due_request}
use Rattle.rinda_rules.specs.Phases.{advanced, aged, nothing_due, is_match, in_state, served_as, request_ended}
use Rattle.rinda_rules.specs.Cases.{Outcome, answers, outcome, on_own, submit, collect_served}
use Rattle.rinda_rules.specs.Steps.{chooser, found_by}
use Rattle.rinda_rules.specs.Legal.{plain_from}
use Rattle.rinda_rules.proofs.Finding.{request-found}
use Rattle.rinda_rules.proofs.Lists.{all_filter, all_changed}
use Rattle.rinda_effects.specs.Turns.{Reached, Made}
use Rattle.rinda_effects.specs.Quiet.{Submits, submit_turn, submitted, SubmitIsTaken}
use Rattle.rinda_effects.proofs.Aged.{nothing_ages}
use Rattle.rinda_effects.proofs.Choosing.{submit_chooses}
use Rattle.rinda_effects.proofs.Making.{match_makes_turn}

front : (a b : Bool) → (a && b) ≡ true → a ≡ true
front a b e = grind arith

back : (a b : Bool) → (a && b) ≡ true → b ≡ true
back a b e = grind arith

both : (a b : Bool) → a ≡ true → b ≡ true → (a && b) ≡ true
both a b e f = grind arith

not_due : (now : ℕ) (st : RequestState) (r : Request) → is_parked st ≡ false → not (is_due_request now (in_state st r)) ≡ true
not_due now st r e = grind (arith, nat_tests)

collected : (k : Kind) (r : Request) (t : Entry) (s : Plain) → k ≡ kind.Take → collect_served (served_as k r t s) r t k ≡ answers (request_ended last.Done r.id (served_as kind.Take r t s)) (out.Answer (value_of t.value))
collected kind.Take r t s e = refl
collected kind.Read r t s e = cc
collected kind.Move r t s e = cc

outcome_is : (s : Plain) (caller id : ℕ) (r : Request) (t : Entry) → Submits s caller id r t → outcome s caller (Submit id) (tuple_at s t.id) ≡ answers (submitted r t s) (out.Answer (value_of t.value))
outcome_is s caller id r t h =
    ap (outcome s caller (Submit id)) h.here
    ∙ ap (on_own s caller (λ (r : Request). submit s r (Some t) r.state)) (request-found s id r h.there)
    ∙ ap (λ (b : Bool). cond {A = Outcome} b (submit s r (Some t) r.state) (answers s out.WrongKind)) h.own
    ∙ ap (submit s r (Some t)) h.reserved
    ∙ collected r.kind r t s h.takes

left_not_due : (s : Plain) (r : Request) (t : Entry) → nothing_due s ≡ true → nothing_due (submitted r t s) ≡ true
left_not_due s r t e =
    both _ _ (all_filter (λ t. not (is_due_tuple s.clock t)) (λ x. not (x.id == t.id)) s.tuples (front _ _ e))
    (both _ _ (all_filter (λ r. not (is_due_request s.clock r)) (λ x. not (x.id == r.id)) (changed (λ r. r.id) r.id (in_state (state.Answered (out.Answer (value_of t.value)))) s.requests)
    (all_changed (λ r. not (is_due_request s.clock r)) (λ r. r.id) r.id (in_state (state.Answered (out.Answer (value_of t.value)))) s.requests (λ x _. not_due s.clock (state.Answered (out.Answer (value_of t.value))) x refl) (front _ _ (back _ _ e))))
    (back _ _ (back _ _ e)))

is_taken : (start : Plain) (old : List Turn) (caller at id : ℕ) (r : Request) (t : Entry) → Reached start old → nothing_due (advanced (plain_from start old) at) ≡ true → Submits (advanced (plain_from start old) at) caller id r t → Made start old (submit_turn caller at id r t) (submitted r t (advanced (plain_from start old) at))
is_taken start old caller at id r t reached quiet h =
    let s : Plain = advanced (plain_from start old) at in
    let ready : Plain = found_by (plain_from start old) at in
    let is : ready ≡ s = nothing_ages s quiet in
    let pick : Pick = record { request = r.id; tuple = t.id } in
    let o : outcome ready caller (Submit id) (tuple_at ready t.id) ≡ answers (submitted r t s) (out.Answer (value_of t.value)) = ap (λ (s : Plain). outcome s caller (Submit id) (tuple_at s t.id)) is ∙ outcome_is s caller id r t h in
    let made = match_makes_turn start old caller at id r pick reached (ap (λ (s : Plain). chooser s caller (Submit id)) is ∙ (submit_chooses s caller id r t h.there h.own (ap is_reserved h.reserved) h.here h.may).0) (ap (λ (s : Plain). is_match s r pick) is ∙ (submit_chooses s caller id r t h.there h.own (ap is_reserved h.reserved) h.here h.may).1) in
    subst (λ (p : Plain). Made start old (submit_turn caller at id r t) p) (nothing_ages (submitted r t s) (left_not_due s r t quiet))
    (subst (λ (o : Outcome). Made start old (record { caller = caller; at = at; event = Submit id; out = o.out; picks = pick ∷ [] }) (aged o.after)) o made)

pub submit_is_taken : SubmitIsTaken
submit_is_taken start old caller at s id r t quiet h =
    subst (λ (s : Plain). nothing_due s ≡ true → Submits s caller id r t → Made start old (submit_turn caller at id r t) (submitted r t s)) (sym quiet.is_now)
    (λ due submits. is_taken start old caller at id r t quiet.reached due submits) quiet.not_due h
