-- The ways in which a turn changes a notifier: what it heard stays within what was raised.
use Rattle.std.proofs.Common.{◌≡◌, ℕ, ◌+◌, Bool, true, false, cond, not, ◌&&◌, List, [], ◌∷◌, length, drop, take, Option, Some, refl, sym, ◌∙◌, ap, subst, arith, length-drop}
use Rattle.std.specs.Prelude.{filter, is_none, nat_le}
use Rattle.std.proofs.lemmas.Bool.Decides.{nat_tests}
use Rattle.drb_tree.specs.declared.Remote.{Remote}
use Rattle.rinda_rules.specs.declared.object.Last.{Last}
use Rattle.rinda_rules.specs.declared.object.Last.TheVariants as last
use Rattle.rinda_rules.specs.declared.object.Doubt.{Doubt}
use Rattle.rinda_rules.specs.declared.object.Doubt.TheVariants as doubt
use Rattle.rinda_rules.specs.declared.plain.Notifier.{Notifier}
use Rattle.rinda_rules.specs.declared.plain.Hearing.{Hearing}
use Rattle.rinda_rules.specs.declared.plain.Hearing.TheVariants as hearing
use Rattle.rinda_rules.specs.declared.plain.Raised.{Raised}
use Rattle.rinda_rules.specs.Space.{Plain, notifier_at, hears, is_running}
use Rattle.rinda_rules.specs.Queue.{until_end, heard, queue}
use Rattle.rinda_rules.specs.Phases.{close_after, doubt_notifier}
use Rattle.rinda_rules.specs.Cases.{renewed_notifier, asked_doubt, shut_notifier}
use Rattle.rinda_rules.specs.Sound.{may_doubt, ends_within, hears_within}
use Rattle.rinda_rules.proofs.Ways.{Becomes, BecomesAt}

same_some : {A : Type 0} {x y : A} → Some x ≡ Some y → x ≡ y
same_some e = cc

-- what becomes of the notifier that was looked up becomes of each one with its id
pub at_row : (s : Plain) (n : Notifier) (f : Notifier → Notifier) → notifier_at s n.id ≡ Some n → Becomes s n (f n) → BecomesAt s n.id f
at_row s n f there b x e = subst (λ (y : Notifier). Becomes s y (f y)) (same_some (sym there ∙ e)) b

-- One more is popped.

heard_popped : (n : Notifier) (k : ℕ) (events : List Raised) → heard (record n { popped = k }) events ≡ heard n events
unfolding hears
heard_popped n k events = refl

popped_within : (k : ℕ) (xs : List Raised) (e : Raised) (es : List Raised) → drop k xs ≡ e ∷ es → nat_le (k + 1) (length xs) ≡ true
popped_within k xs e es is = let long : length (drop k xs) ≡ length (e ∷ es) = ap length is in grind (arith, nat_tests, length-drop k xs)

pair : (a b : Bool) → a ≡ true → b ≡ true → (a && b) ≡ true
pair a b e f = grind arith

front : (a b : Bool) → (a && b) ≡ true → a ≡ true
front a b e = grind arith

pub becomes_popped : (s : Plain) (n : Notifier) (e : Raised) (es : List Raised) → queue n s.events ≡ e ∷ es → Becomes s n (record n { popped = n.popped + 1 })
becomes_popped s n e es is = record {
  heard = λ h. pair (ends_within n.since (length s.events) n.state) (nat_le (n.popped + 1) (length (heard (record n { popped = n.popped + 1 }) s.events))) (front _ _ h) (rw (heard_popped n (n.popped + 1) s.events) (popped_within n.popped (heard n s.events) e es is));
  doubts = λ h. h;
  closed = λ h. h;
}

-- It is closed after all that was raised.

take_all : (xs : List Raised) → take (length xs) xs ≡ xs
take_all [] = refl
take_all (x ∷ xs) = ap (λ (ys : List Raised). x ∷ ys) (take_all xs)

-- what the notifier heard, were it in that state
abbrev within : List Raised → Notifier → Hearing → Bool
within events n st = ends_within n.since (length events) st && nat_le n.popped (length (filter (hears n) (drop n.since (until_end st events))))

heard_state : (n : Notifier) (st : Hearing) (events : List Raised) → heard (record n { state = st }) events ≡ filter (hears n) (drop n.since (until_end st events))
unfolding hears
heard_state n st events = refl

pub hears_closed : (events : List Raised) (n : Notifier) (l : Last) → n.state ≡ hearing.Running → hears_within events n ≡ true → hears_within events (close_after l (length events) n) ≡ true
hears_closed events n l is h =
    let runs : within events n hearing.Running ≡ true = subst (λ (st : Hearing). within events n st ≡ true) is h in
    rw (heard_state n (hearing.Closed l (length events)) events, take_all events) (same (nat_le n.since (length events)) (nat_le (length events) (length events)) _ (grind (arith, nat_tests)) runs)
  where
    same : (a b c : Bool) → b ≡ true → (a && c) ≡ true → ((a && b) && c) ≡ true
    same a b c e f = grind arith

pub becomes_closed : (s : Plain) (n : Notifier) (l : Last) → n.state ≡ hearing.Running → Becomes s n (close_after l (length s.events) n)
becomes_closed s n l is = record { heard = λ h. hears_closed s.events n l is h; doubts = λ h. h; closed = λ h. refl }

-- Its lease is changed.

heard_leased : (n : Notifier) (d : Option ℕ) (renewer : Option Remote) (doubt : Doubt) (events : List Raised) → heard (record n { deadline = d; renewer = renewer; doubt = doubt }) events ≡ heard n events
unfolding hears
heard_leased n d renewer doubt events = refl

pub leased_within : (n : Notifier) (d : Option ℕ) (renewer : Option Remote) (doubt : Doubt) (events : List Raised) → hears_within events n ≡ true → hears_within events (record n { deadline = d; renewer = renewer; doubt = doubt }) ≡ true
leased_within n d renewer doubt events h = rw (heard_leased n d renewer doubt events) h

pub becomes_leased : (s : Plain) (d : Option ℕ) (renewer : Option Remote) (n : Notifier) → Becomes s n (renewed_notifier d renewer n)
becomes_leased s d renewer n = record { heard = λ h. leased_within n d renewer doubt.No s.events h; doubts = λ h. refl; closed = λ h. h }

pub doubts_asked : (d : Doubt) (alone : Bool) → may_doubt d alone ≡ true → may_doubt (asked_doubt d) alone ≡ true
doubts_asked doubt.No alone e = refl
doubts_asked doubt.Waiting alone e = e
doubts_asked doubt.Asked alone e = e

pub becomes_asked : (s : Plain) (n : Notifier) → Becomes s n (record n { doubt = asked_doubt n.doubt })
becomes_asked s n = record { heard = λ h. leased_within n n.deadline n.renewer (asked_doubt n.doubt) s.events h; doubts = λ h. doubts_asked n.doubt (is_none n.renewer) h; closed = λ h. h }

pub becomes_doubted : (s : Plain) (n : Notifier) → is_none n.renewer ≡ false → Becomes s n (doubt_notifier n)
becomes_doubted s n e = record { heard = λ h. leased_within n n.deadline n.renewer doubt.Waiting s.events h; doubts = λ h. ap not e; closed = λ h. h }

-- The space is shut.

running_of : (st : Hearing) → is_running st ≡ true → st ≡ hearing.Running
running_of hearing.Running e = refl
running_of (hearing.Closed l until) e = cc

pub becomes_shut : (s : Plain) (n : Notifier) → Becomes s n (shut_notifier (length s.events) n)
becomes_shut s n = by_test (is_running n.state) refl
  where
    by_test : (b : Bool) → is_running n.state ≡ b → Becomes s n (cond {A = Notifier} b (record n { state = hearing.Closed last.Canceled (length s.events) }) n)
    by_test true e = becomes_closed s n last.Canceled (running_of n.state e)
    by_test false e = record { heard = λ h. h; doubts = λ h. h; closed = λ h. h }
