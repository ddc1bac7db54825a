-- The queue of a notifier after one change.
use Rattle.std.proofs.Common.{◌≡◌, ℕ, zero, suc, ◌+◌, ◌≤◌, Bool, true, cond, ◌&&◌, List, [], ◌∷◌, ◌++◌, length, drop, take, refl, sym, ◌∙◌, ap, arith}
use Rattle.std.specs.Prelude.{filter, nat_le}
use Rattle.std.proofs.lemmas.Bool.Decides.{nat_tests}
use Rattle.std.proofs.lemmas.List.{append_assoc, drop-append-le, length-append, length-take-le, take-append-drop, take-append-le}
use Rattle.std.proofs.lemmas.List.Elements.{filter-append}
use Rattle.rinda_rules.specs.declared.object.Last.{Last}
use Rattle.rinda_rules.specs.declared.plain.Notifier.{Notifier}
use Rattle.rinda_rules.specs.declared.plain.Hearing.{Hearing}
use Rattle.rinda_rules.specs.declared.plain.Hearing.TheVariants as hearing
use Rattle.rinda_rules.specs.declared.plain.Raised.{Raised}
use Rattle.rinda_rules.specs.Space.{hears, is_running}
use Rattle.rinda_rules.specs.Queue.{until_end, heard, queue}
use Rattle.rinda_rules.specs.Phases.{close_after}
use Rattle.rinda_rules.specs.Sound.{ends_within, hears_within}
use Rattle.rinda_effects.specs.Queues.{SameHearing}

front : (a b : Bool) → (a && b) ≡ true → a ≡ true
front a b e = grind arith

back : (a b : Bool) → (a && b) ≡ true → b ≡ true
back a b e = grind arith

at_most : (a b : ℕ) → nat_le a b ≡ true → a ≤ b
at_most a b e = grind (arith, nat_tests)

more_none : {R : Type 0} (xs : List R) → xs ≡ xs ++ []
more_none [] = refl
more_none (x ∷ xs) = ap (λ (ys : List _). x ∷ ys) (more_none xs)

-- what is left of what was heard, after so many events and so many pops
abbrev left_of : (Raised → Bool) → ℕ → ℕ → List Raised → List Raised
left_of q since popped events = drop popped (filter q (drop since events))

left_more : (q : Raised → Bool) (since popped : ℕ) (events more : List Raised) → since ≤ length events → popped ≤ length (filter q (drop since events)) → left_of q since popped (events ++ more) ≡ left_of q since popped events ++ filter q more
left_more q since popped events more a b =
    ap (λ (es : List Raised). drop popped (filter q es)) (drop-append-le since events more a)
    ∙ ap (drop popped) (filter-append q (drop since events) more)
    ∙ drop-append-le popped (filter q (drop since events)) (filter q more) b

queued : (q : Raised → Bool) (since popped : ℕ) (st : Hearing) (events more : List Raised) → ends_within since (length events) st ≡ true → nat_le popped (length (filter q (drop since (until_end st events)))) ≡ true → left_of q since popped (until_end st (events ++ more)) ≡ left_of q since popped (until_end st events) ++ cond (is_running st) (filter q more) []
queued q since popped hearing.Running events more a b = left_more q since popped events more (at_most since (length events) a) (at_most popped _ b)
queued q since popped (hearing.Closed l until) events more a b =
    ap (left_of q since popped) (take-append-le until events more (at_most until (length events) (back _ _ a)))
    ∙ more_none (left_of q since popped (take until events))

pub raised_is_queued : (n : Notifier) (events more : List Raised) → hears_within events n ≡ true → queue n (events ++ more) ≡ queue n events ++ cond (is_running n.state) (filter (hears n) more) []
raised_is_queued n events more h = queued (hears n) n.since n.popped n.state events more (front _ _ h) (back _ _ h)

-- One more is popped.

drop_next : (k : ℕ) (xs : List Raised) (e : Raised) (rest : List Raised) → drop k xs ≡ e ∷ rest → drop (suc k) xs ≡ rest
drop_next zero [] e rest is = cc
drop_next (suc k) [] e rest is = cc
drop_next zero (x ∷ xs) e rest is = cc
drop_next (suc k) (x ∷ xs) e rest is = drop_next k xs e rest is

drop_one : (k : ℕ) (xs : List Raised) (e : Raised) (rest : List Raised) → drop k xs ≡ e ∷ rest → drop (k + 1) xs ≡ rest
drop_one k xs e rest is = let next : k + 1 ≡ suc k = omega arith in ap (λ (n : ℕ). drop n xs) next ∙ drop_next k xs e rest is

heard_popped : (n : Notifier) (k : ℕ) (events : List Raised) → heard (record n { popped = k }) events ≡ heard n events
unfolding hears
heard_popped n k events = refl

pub pop_drops_one : (n : Notifier) (events rest : List Raised) (e : Raised) → queue n events ≡ e ∷ rest → queue (record n { popped = n.popped + 1 }) events ≡ rest
pop_drops_one n events rest e is = ap (drop (n.popped + 1)) (heard_popped n (n.popped + 1) events) ∙ drop_one n.popped (heard n events) e rest is

-- It is closed.

take_all : (xs more : List Raised) → take (length xs) (xs ++ more) ≡ xs
take_all [] more = refl
take_all (x ∷ xs) more = ap (λ (ys : List Raised). x ∷ ys) (take_all xs more)

running_until : (st : Hearing) (events : List Raised) → is_running st ≡ true → until_end st events ≡ events
running_until hearing.Running events e = refl
running_until (hearing.Closed l until) events e = cc

closed_queue : (n : Notifier) (st : Hearing) (events : List Raised) → queue (record n { state = st }) events ≡ left_of (hears n) n.since n.popped (until_end st events)
unfolding hears
closed_queue n st events = refl

pub close_keeps_queue : (n : Notifier) (last : Last) (events later : List Raised) → is_running n.state ≡ true → queue (close_after last (length events) n) (events ++ later) ≡ queue n events
close_keeps_queue n last events later runs =
    closed_queue n (hearing.Closed last (length events)) (events ++ later)
    ∙ ap (left_of (hears n) n.since n.popped) (take_all events later ∙ sym (running_until n.state events runs))

running_queue : (n : Notifier) (events more : List Raised) → is_running n.state ≡ true → hears_within events n ≡ true → queue n (events ++ more) ≡ queue n events ++ filter (hears n) more
running_queue n events more runs h = raised_is_queued n events more h ∙ ap (λ (b : Bool). queue n events ++ cond b (filter (hears n) more) []) runs

pub close_keeps_earlier : (n : Notifier) (last : Last) (events more : List Raised) (k : ℕ) → is_running n.state ≡ true → hears_within events n ≡ true → k ≤ length more → queue (close_after last (length events + k) n) (events ++ more) ≡ queue n events ++ filter (hears n) (take k more)
close_keeps_earlier n last events more k runs h le =
    let long : length events + k ≡ length (events ++ take k more) = sym (length-append events (take k more) ∙ ap (λ (i : ℕ). length events + i) (length-take-le k more le)) in
    let parts : events ++ more ≡ (events ++ take k more) ++ drop k more = ap (λ (es : List Raised). events ++ es) (sym (take-append-drop k more)) ∙ sym (append_assoc events (take k more) (drop k more)) in
    ap (λ (i : ℕ). queue (close_after last i n) (events ++ more)) long
    ∙ ap (queue (close_after last (length (events ++ take k more)) n)) parts
    ∙ close_keeps_queue n last (events ++ take k more) (drop k more) runs
    ∙ running_queue n events (take k more) runs h

-- It has another lease or doubt.

hears_same : (n m : Notifier) → m.event ≡ n.event → m.pattern ≡ n.pattern → hears m ≡ hears n
unfolding hears
hears_same n m a b = rw (a, b) refl

pub lease_keeps_queue : (n m : Notifier) (events : List Raised) → SameHearing n m → queue m events ≡ queue n events
lease_keeps_queue n m events h =
    ap (λ (q : Raised → Bool). left_of q m.since m.popped (until_end m.state events)) (hears_same n m h.event h.pattern)
    ∙ ap (λ (k : ℕ). left_of (hears n) k m.popped (until_end m.state events)) h.since
    ∙ ap (λ (k : ℕ). left_of (hears n) n.since k (until_end m.state events)) h.popped
    ∙ ap (λ (st : Hearing). left_of (hears n) n.since n.popped (until_end st events)) h.state

-- It is new.

pub none_since : (q : Raised → Bool) (events : List Raised) → left_of q (length events) 0 events ≡ []
none_since q [] = refl
none_since q (x ∷ xs) = none_since q xs
