-- What is left after each step of the machine.
use Rattle.std.proofs.Common.{◌≡◌, ℕ, ◌<◌, ◌≤◌, List, [], ◌∷◌, length, Bool, true, false, refl, sym, ◌∙◌, ap, subst, arith, true≢false}
use Rattle.std.specs.Prelude.{Some}
use Rattle.std.specs.declared.option.Option.{Option}
use Rattle.drb_tree.specs.declared.Remote.{Remote}
use Rattle.drb_tree.specs.declared.Tree.{Tree}
use Rattle.rinda_rules.specs.declared.event.Event.{Event}
use Rattle.rinda_rules.specs.declared.event.Event.TheVariants as event
use Rattle.rinda_rules.specs.declared.out.Out.{Out}
use Rattle.rinda_rules.specs.declared.out.Out.TheVariants as out
use Rattle.drb_script.specs.declared.patience.Patience.{Patience}
use Rattle.drb_script.specs.declared.patience.Patience.TheVariants as patience
use Rattle.drb_dispatch.specs.declared.call.Lasting.TheVariants as lasting
use Rattle.drb_back.specs.declared.back.Back.{Back}
use Rattle.drb_back.specs.declared.back.Back.TheVariants as back
use Rattle.drb_script.specs.declared.reply.Failure.TheVariants as failure
use Rattle.drb_script.specs.declared.reply.Reply.TheVariants as reply
use Rattle.drb_script.specs.declared.next.Loose.TheVariants.{Reserved}
use Rattle.drb_script.specs.declared.next.Saying.{Saying}
use Rattle.drb_script.specs.declared.next.Saying.TheVariants as say
use Rattle.drb_script.specs.declared.next.Leasing.{Leasing}
use Rattle.drb_script.specs.declared.next.AfterTurn.TheVariants as at
use Rattle.drb_script.specs.declared.next.AfterCall.TheVariants as of
use Rattle.drb_script.specs.declared.next.Next.TheVariants as next
use Rattle.drb_script.specs.Acting.{Answer, by_space, by_peer, Acting, gives, replies, fails, turn, turn_over, call, call_over, on, ◌>>=◌, found_or}
use Rattle.drb_script.specs.Scripts.{lease, life_from, looks, awaits, unless_not_yet, told, port_part, pop_part, heard, round, rounds, later_round, unless_more, is_value, popped, pop}
use Rattle.drb_script.specs.Rest.{Leaves, at_last, collected, waits, pop_answer, pop_event, hear_again, hearing, ending, from_round, leased, after_lease, after_told, tell, submit, submitted, looks_again}
use Rattle.drb_script.proofs.Courses.{on_on, on_same, Within, Shrinks, on_shrinks, repeat_once, repeat_shrinks}

looks_shrinks : (e : Event) → Shrinks (looks e)
looks_shrinks e [] = tt
looks_shrinks e (by_space o ∷ more) = omega arith
looks_shrinks e (by_peer b ∷ more) = tt

-- a look, and then again where it was answered NotYet
awaits_once : (e : Event) (answers : List Answer) →
    awaits e answers ≡ on (turn e answers) (at_last e)
awaits_once e answers = repeat_once (looks e) (looks_shrinks e) answers
    ∙ on_on (turn e answers) (λ o. gives (unless_not_yet o)) (found_or (awaits e))

pub awaits_then : {A : Type 0} (e : Event) (f : Out → Acting A) (answers : List Answer) →
    on (turn e answers) (λ o more. on (at_last e o more) f) ≡ on (awaits e answers) f
awaits_then e f answers =
    sym (ap (λ q. on q f) (awaits_once e answers) ∙ on_on (turn e answers) (at_last e) f)

leaves_collect : (id : ℕ) (port : Option Remote) →
    Leaves patience.Wait (next.Turn (event.Collect id) (at.Collected id port))
    (waits patience.Wait id port)
leaves_collect id port answers = awaits_then (event.Collect id) (port_part port id) answers

-- a pop part, taken apart
pop_then : {A : Type 0} (p : Patience) (id : ℕ) (f : Out → Acting A) (answers : List Answer) →
    on (turn (pop_event p id) answers) (λ o more. on (pop_answer p id o more) f) ≡
    on (pop_part p id answers) f
pop_then patience.Never id f answers = refl
pop_then patience.Wait id f answers = awaits_then (event.Pop id) f answers

round_left : (p : Patience) (first : Bool) (id : ℕ) (block : Remote) →
    Leaves p (next.Turn (pop_event p id) (at.Heard id block first)) (from_round p first id block)
round_left p first id block answers = pop_then p id (hearing p first id block) answers
    ∙ sym (on_on (pop_part p id answers) (heard first id block) (ending p id block))

pub leaves_round : (p : Patience) (first : Bool) (id : ℕ) (block : Remote) (e : Event) →
    e ≡ pop_event p id → Leaves p (next.Turn e (at.Heard id block first))
    (from_round p first id block)
leaves_round p first id block e is =
    subst (λ (x : Event). Leaves p (next.Turn x (at.Heard id block first))
    (from_round p first id block)) (sym is) (round_left p first id block)

pub leaves_pop : (p : Patience) (id : ℕ) (e : Event) → e ≡ pop_event p id →
    Leaves p (next.Turn e (at.Popped id)) (pop p id)
leaves_pop p id e is =
    subst (λ (x : Event). Leaves p (next.Turn x (at.Popped id)) (pop p id)) (sym is)
    (λ answers. pop_then p id (popped id) answers)

call_within : (k : ℕ) (to : Remote) (saying : Saying) (f : Back → Acting Bool) →
    ((b : Back) (more : List Answer) → length more < k → Within k (f b more)) →
    (answers : List Answer) → length answers ≤ k → Within k (on (call to saying answers) f)
call_within k to saying f h [] le = tt
call_within k to saying f h (by_space o ∷ more) le = tt
call_within k to saying f h (by_peer back.Memory ∷ more) le = tt
call_within k to saying f h (by_peer b ∷ more) le = h b more (omega arith)

heard_within : (k id : ℕ) (block : Remote) (o : Out) (answers : List Answer) → length answers < k →
    Within k (heard false id block o answers)
heard_within k id block (out.Event v) answers lt =
    call_within k block (say.Event v) (λ b. gives (is_value b)) (λ b more l. l) answers
    (omega arith)
heard_within k id block out.Closed answers lt =
    call_within k block say.Close (λ b. gives false) (λ b more l. l) answers (omega arith)
heard_within k id block out.Expired answers lt = lt
heard_within k id block out.WouldWait answers lt = lt
heard_within k id block out.Recycled answers lt = lt
heard_within k id block o answers lt = tt

turn_shrinks : (e : Event) → Shrinks (turn e)
turn_shrinks e [] = tt
turn_shrinks e (by_space o ∷ more) = omega arith
turn_shrinks e (by_peer b ∷ more) = tt

pop_shrinks : (p : Patience) (id : ℕ) → Shrinks (pop_part p id)
pop_shrinks patience.Never id answers = turn_shrinks (event.Withdraw id) answers
pop_shrinks patience.Wait id answers =
    repeat_shrinks (looks (event.Pop id)) (looks_shrinks (event.Pop id)) answers

later_shrinks : (p : Patience) (id : ℕ) (block : Remote) → Shrinks (later_round p id block)
later_shrinks p id block answers =
    on_shrinks (length answers) (round p false id block answers) (λ m. gives (unless_more m))
    (on_shrinks (length answers) (pop_part p id answers) (heard false id block)
    (pop_shrinks p id answers) (λ o more lt. heard_within (length answers) id block o more lt))
    (λ m more lt. lt)

further : (p : Patience) (id : ℕ) (block : Remote) (m : Bool) (more : List Answer) →
    found_or (rounds p id block true) (unless_more m) more ≡ rounds p id block m more
further p id block true more = refl
further p id block false more = refl

-- a further round
pub leaves_further : (p : Patience) (id : ℕ) (block : Remote) → (answers : List Answer) →
    from_round p false id block answers ≡ ending p id block true answers
leaves_further p id block answers =
    let end : Unit {0} → Acting (Unit {0}) = λ u. turn (event.Cancel id) >>= (λ c. replies reply.Nil) in
    sym (ap (λ q. on q end) (repeat_once (later_round p id block) (later_shrinks p id block) answers
    ∙ on_on (round p false id block answers) (λ m. gives (unless_more m))
    (found_or (rounds p id block true)))
    ∙ on_on (round p false id block answers)
    (λ m more. found_or (rounds p id block true) (unless_more m) more) end
    ∙ on_same (round p false id block answers)
    (λ m more. on (found_or (rounds p id block true) (unless_more m) more) end) (ending p id block)
    (λ m more. ap (λ q. on q end) (further p id block m more)))

pub leaves_renew : (p : Patience) (r : Remote) (then : Leasing) →
    Leaves p (next.Call r say.Renew (of.Leased then)) (leased p (lasting.Renewer r) then)
leaves_renew p r then answers =
    sym (on_on (call r say.Renew answers) (λ b. gives (lease (life_from b) (Some r)))
    (after_lease p then))

pub leaves_tell : (p : Patience) (id : ℕ) (port : Option Remote) (block : Remote) →
    Leaves p (next.Call block (say.Object id) (of.Told id port)) (tell p id port (Some block))
leaves_tell p id port block answers =
    sym (on_on (call_over (Reserved id) block (say.Object id) answers) (told id block)
    (λ u. submit p id port))

pub leaves_untold : (p : Patience) (id : ℕ) (port : Option Remote) (block : Remote) (b : Back) →
    is_value b ≡ false →
    Leaves p (next.Turn (event.Withdraw id) (at.Untold id block b)) (after_told p id port block b)
leaves_untold p id port block (back.Value v) e answers = absurd (true≢false e)
leaves_untold p id port block b e answers =
    sym (on_on (turn_over (Reserved id) (event.Withdraw id) answers)
    (λ o. fails (failure.Call block b)) (λ u. submit p id port))

pub leaves_given : (p : Patience) (first : Bool) (id : ℕ) (block : Remote) (v : Tree) →
    Leaves p (next.Call block (say.Event v) (of.Given id)) (hearing p first id block (out.Event v))
leaves_given p first id block v answers =
    sym (on_on (call block (say.Event v) answers) (λ b. gives (is_value b)) (ending p id block))

pub leaves_closed : (p : Patience) (first : Bool) (id : ℕ) (block : Remote) →
    Leaves p (next.Call block say.Close (of.Closed id)) (hearing p first id block out.Closed)
leaves_closed p first id block answers =
    sym (on_on (call block say.Close answers) (λ b. gives false) (ending p id block))

abbrev is_wait : Patience → Bool
is_wait patience.Never = false
is_wait patience.Wait = true

pub leaves_wait : (p : Patience) (id : ℕ) (port : Option Remote) → p ≡ patience.Wait →
    Leaves p (next.Turn (event.Collect id) (at.Collected id port)) (waits p id port)
leaves_wait patience.Never id port e = absurd (true≢false (ap is_wait (sym e)))
leaves_wait patience.Wait id port e = leaves_collect id port

pub leaves_again : (p : Patience) (id : ℕ) (port : Option Remote) (o : Out) →
    looks_again p o ≡ true →
    Leaves p (next.Turn (event.Collect id) (at.Collected id port)) (collected p id port o)
leaves_again patience.Never id port o e = absurd (true≢false (sym e))
leaves_again patience.Wait id port out.NotYet e = leaves_collect id port
leaves_again patience.Wait id port o e = absurd (true≢false (sym e))

pub collects_now : (p : Patience) (id : ℕ) (port : Option Remote) (o : Out) →
    looks_again p o ≡ false → (answers : List Answer) →
    port_part port id o answers ≡ collected p id port o answers
collects_now patience.Never id port o e answers = refl
collects_now patience.Wait id port out.NotYet e answers = absurd (true≢false e)
collects_now patience.Wait id port o e answers = refl

-- the round is made again
pub hears_again : (p : Patience) (id : ℕ) (block : Remote) (first : Bool) (o : Out) →
    looks_again p o ≡ true → (answers : List Answer) →
    from_round p first id block answers ≡ hear_again p id block first o answers
hears_again patience.Never id block first o e answers = absurd (true≢false (sym e))
hears_again patience.Wait id block first out.NotYet e answers =
    on_on (awaits (event.Pop id) answers) (heard first id block) (ending patience.Wait id block)
hears_again patience.Wait id block first o e answers = absurd (true≢false (sym e))

pub hears_now : (p : Patience) (id : ℕ) (block : Remote) (first : Bool) (o : Out) →
    looks_again p o ≡ false → (answers : List Answer) →
    hearing p first id block o answers ≡ hear_again p id block first o answers
hears_now patience.Never id block first o e answers = refl
hears_now patience.Wait id block first out.NotYet e answers = absurd (true≢false e)
hears_now patience.Wait id block first o e answers = refl

pub parked_waits : (p : Patience) (id n : ℕ) (port : Option Remote) (o : Out) → o ≡ out.Parked n →
    (answers : List Answer) → waits p id port answers ≡ submitted p id port o answers
parked_waits patience.Never id n port o e answers =
    ap (λ (x : Out). submitted patience.Never id port x answers) (sym e)
parked_waits patience.Wait id n port o e answers =
    ap (λ (x : Out). submitted patience.Wait id port x answers) (sym e)

pub answers_now : (p : Patience) (id : ℕ) (port : Option Remote) (o : Out) →
    ((n : ℕ) → o ≡ out.Parked n → ⊥) → (answers : List Answer) →
    port_part port id o answers ≡ submitted p id port o answers
answers_now patience.Never id port (out.Parked n) never answers = absurd (never n refl)
answers_now patience.Wait id port (out.Parked n) never answers = absurd (never n refl)
answers_now patience.Never id port o never answers = refl
answers_now patience.Wait id port o never answers = refl
