-- Each step of a turn keeps what is known of the notifiers' counts.
use Rattle.std.proofs.Common.{◌≡◌, ℕ, ◌+◌, ◌<◌, ◌≤◌, Bool, true, List, [], ◌∷◌, ◌++◌, map, drop, length, get_or, Some, refl, sym, ap, ◌∙◌, subst, arith, length-append, length-drop, length-take}
use Rattle.std.specs.Prelude.{nat_le, nat_lt, filter, option_map}
use Rattle.std.specs.List.{list_all}
use Rattle.std.proofs.lemmas.Bool.Decides.{nat_tests}
use Rattle.std.proofs.lemmas.List.Folds.{list_all_at}
use Rattle.drb_tree.specs.declared.Tree.{Tree}
use Rattle.rinda_rules.specs.declared.plain.Notifier.{Notifier}
use Rattle.rinda_rules.specs.declared.plain.Hearing.{Hearing}
use Rattle.rinda_rules.specs.declared.plain.Hearing.TheVariants as hearing
use Rattle.rinda_rules.specs.declared.plain.Raised.{Raised}
use Rattle.rinda_rules.specs.Rows.{row_of, changed, without, numbered, rising}
use Rattle.rinda_rules.specs.Space.{Plain, Found, found, hears, event_value}
use Rattle.rinda_rules.specs.Queue.{queue, until_end}
use Rattle.rinda_rules.proofs.Finding.{found-notifier, itself-notifier}
use Rattle.rinda_rules.proofs.Lists.{all_filter, all_append, all_changed, all_changed_one, numbered-map, numbered-filter, numbered-changed, numbered-more, numbered-push}
use Rattle.rinda_audit.specs.declared.changes.NotifierChange.{NotifierChange}
use Rattle.rinda_audit.specs.declared.changes.NotifierChange.TheVariants as to_notifier
use Rattle.rinda_rules.specs.Cases.{shut_notifier}
use Rattle.rinda_rules.specs.Reopened.{notifier_again}
use Rattle.rinda_audit.specs.Changes.{notifier_after}
use Rattle.rinda_audit.specs.Counts.{Counted, Listed}
use Rattle.rinda_audit.specs.Replays.{first}

pub counted_new : Counted 1 [] []
counted_new = record { named = refl; within = refl }

within_more : (ns : List Notifier) (a b : ℕ) → a ≤ b → list_all (λ n. nat_le n.popped a) ns ≡ true → list_all (λ n. nat_le n.popped b) ns ≡ true
within_more [] a b h e = refl
within_more (n ∷ ns) a b h e = grind (arith, nat_tests, within_more ns a b h)

pub counted_next : (next : ℕ) (ns : List Notifier) (es : List Raised) → Counted next ns es → Counted (next + 1) ns es
counted_next next ns es c = record { named = numbered-more (λ n. n.id) next ns c.named; within = c.within }

pub counted_events : (next : ℕ) (ns : List Notifier) (es more : List Raised) → Counted next ns es → Counted next ns (es ++ more)
counted_events next ns es more c = record { named = c.named; within = within_more ns (length es) (length (es ++ more)) (omega (arith, length-append es more)) c.within }

pub counted_push : (next : ℕ) (n : Notifier) (ns : List Notifier) (es : List Raised) → n.id ≡ next → n.popped ≡ 0 → Counted next ns es → Counted (next + 1) (ns ++ n ∷ []) es
counted_push next n ns es id none c = record {
  named = numbered-push (λ n. n.id) next n ns id c.named;
  within = all_append (λ n. nat_le n.popped (length es)) ns (n ∷ []) c.within (grind (arith, nat_tests));
}

pub counted_without : (next id : ℕ) (ns : List Notifier) (es : List Raised) → Counted next ns es → Counted next (without (λ n. n.id) id ns) es
counted_without next id ns es c = record {
  named = numbered-filter (λ n. n.id) next _ ns c.named;
  within = all_filter (λ n. nat_le n.popped (length es)) _ ns c.within;
}

after_id : (change : NotifierChange) (n : Notifier) → (notifier_after change n).id ≡ n.id
after_id (to_notifier.Hear next) n = refl
after_id (to_notifier.Renew deadline renewer) n = refl
after_id to_notifier.Doubt n = refl
after_id to_notifier.Ask n = refl

after_popped : (change : NotifierChange) (n : Notifier) → (notifier_after change n).popped ≡ n.popped
after_popped (to_notifier.Hear next) n = refl
after_popped (to_notifier.Renew deadline renewer) n = refl
after_popped to_notifier.Doubt n = refl
after_popped to_notifier.Ask n = refl

pub counted_changed : (next id : ℕ) (change : NotifierChange) (ns : List Notifier) (es : List Raised) → Counted next ns es → Counted next (changed (λ n. n.id) id (notifier_after change) ns) es
counted_changed next id change ns es c = record {
  named = numbered-changed (λ n. n.id) next id (notifier_after change) ns (after_id change) c.named;
  within = all_changed (λ n. nat_le n.popped (length es)) (λ n. n.id) id (notifier_after change) ns (λ n h. ap (λ (p : ℕ). nat_le p (length es)) (after_popped change n) ∙ h) c.within;
}

rises : (next : ℕ) (ns : List Notifier) → numbered (λ n. n.id) next ns ≡ true → rising (λ n. n.id) ns ≡ true
rises next ns e = grind (arith, nat_tests)

pub counted_popped : (next : ℕ) (n : Notifier) (ns : List Notifier) (es : List Raised) → row_of (λ n. n.id) n.id ns ≡ Some n → n.popped < length es → Counted next ns es → Counted next (changed (λ n. n.id) n.id (λ n. record n { popped = n.popped + 1 }) ns) es
counted_popped next n ns es there left c = record {
  named = numbered-changed (λ n. n.id) next n.id (λ n. record n { popped = n.popped + 1 }) ns (λ n. refl) c.named;
  within = all_changed_one (λ n. nat_le n.popped (length es)) (λ n. n.id) n.id (λ n. record n { popped = n.popped + 1 }) ns n (rises next ns c.named) there (grind (arith, nat_tests)) c.within;
}

within_map : (f : Notifier → Notifier) (most : ℕ) (ns : List Notifier) → ((n : Notifier) → (f n).popped ≡ n.popped) → list_all (λ n. nat_le n.popped most) ns ≡ true → list_all (λ n. nat_le n.popped most) (map f ns) ≡ true
within_map f most [] keeps e = refl
within_map f most (n ∷ ns) keeps e = grind (arith, nat_tests, keeps n, within_map f most ns keeps)

pub counted_map : (next : ℕ) (f : Notifier → Notifier) (ns : List Notifier) (es : List Raised) → ((n : Notifier) → (f n).id ≡ n.id) → ((n : Notifier) → (f n).popped ≡ n.popped) → Counted next ns es → Counted next (map f ns) es
counted_map next f ns es named popped c = record {
  named = numbered-map (λ n. n.id) next f ns named c.named;
  within = within_map f (length es) ns popped c.within;
}

shut_id : (until : ℕ) (n : Notifier) → (shut_notifier until n).id ≡ n.id
shut_id until n = grind (arith, nat_tests)

shut_popped : (until : ℕ) (n : Notifier) → (shut_notifier until n).popped ≡ n.popped
shut_popped until n = grind (arith, nat_tests)

-- What was found, and what is first in a queue.

pub listed : (s : Plain) (id : ℕ) (f : Found) → f ≡ found s id → Listed s f
listed s id f e = record { there = λ n h. itself-notifier s id n (found-notifier s id n (sym e ∙ h)) }

length_filter : {A : Type 0} (p : A → Bool) (xs : List A) → length (filter p xs) ≤ length xs
length_filter p [] = omega arith
length_filter p (x ∷ xs) = grind (arith, nat_tests, length_filter p xs)

until_less : (state : Hearing) (es : List Raised) → length (until_end state es) ≤ length es
until_less hearing.Running es = omega arith
until_less (hearing.Closed last until) es = omega (arith, length-take until es)

first_left : (q : List Raised) (v : Tree) → Some v ≡ option_map event_value (first q) → 0 < length q
first_left [] v e = cc
first_left (x ∷ q) v e = omega arith

-- a notifier with a next event has popped fewer than were raised
pub left_to_pop : (n : Notifier) (es : List Raised) (v : Tree) → Some v ≡ option_map event_value (first (queue n es)) → n.popped < length es
left_to_pop n es v e =
    let q : 0 < length (queue n es) = first_left (queue n es) v e in
    let heard : List Raised = filter (hears n) (drop n.since (until_end n.state es)) in
    omega (arith, length-drop n.popped heard, length_filter (hears n) (drop n.since (until_end n.state es)), length-drop n.since (until_end n.state es), until_less n.state es)

-- no count of a notifier runs over
pub room_to_pop : (ns : List Notifier) (most limit : ℕ) → most < limit → list_all (λ n. nat_le n.popped most) ns ≡ true → list_all (λ n. nat_lt n.popped limit) ns ≡ true
room_to_pop [] most limit h e = refl
room_to_pop (n ∷ ns) most limit h e = grind (arith, nat_tests, room_to_pop ns most limit h)

pub room_at : (ns : List Notifier) (i : ℕ) (n : Notifier) (limit : ℕ) → i < length ns → n ≡ get_or ns i n → list_all (λ n. nat_lt n.popped limit) ns ≡ true → n.popped < limit
room_at ns i n limit h e all = grind (arith, nat_tests, list_all_at (λ (m : Notifier). nat_lt m.popped limit) ns i n h)

-- The same, of the lists that a step made from the ones that it read.

pub counted_raised : (next : ℕ) (ns : List Notifier) (es es' more : List Raised) → es' ≡ es ++ more → Counted next ns es → Counted next ns es'
counted_raised next ns es es' more e c = subst (λ (xs : List Raised). Counted next ns xs) (sym e) (counted_events next ns es more c)

pub counted_where_changed : (next id : ℕ) (change : NotifierChange) (rows ns ns' : List Notifier) (es : List Raised) → rows ≡ ns → ns' ≡ changed (λ n. n.id) id (notifier_after change) rows → Counted next ns es → Counted next ns' es
counted_where_changed next id change rows ns ns' es read made c =
    subst (λ (xs : List Notifier). Counted next xs es) (sym (made ∙ ap (λ (xs : List Notifier). changed (λ n. n.id) id (notifier_after change) xs) read)) (counted_changed next id change ns es c)

pub counted_where_popped : (next : ℕ) (n : Notifier) (rows ns ns' : List Notifier) (es : List Raised) → rows ≡ ns → ns' ≡ changed (λ n. n.id) n.id (λ n. record n { popped = n.popped + 1 }) rows → row_of (λ n. n.id) n.id ns ≡ Some n → n.popped < length es → Counted next ns es → Counted next ns' es
counted_where_popped next n rows ns ns' es read made there left c =
    subst (λ (xs : List Notifier). Counted next xs es) (sym (made ∙ ap (λ (xs : List Notifier). changed (λ n. n.id) n.id (λ n. record n { popped = n.popped + 1 }) xs) read)) (counted_popped next n ns es there left c)

pub counted_where_left : (next id : ℕ) (rows ns ns' : List Notifier) (es : List Raised) → rows ≡ ns → ns' ≡ without (λ n. n.id) id rows → Counted next ns es → Counted next ns' es
counted_where_left next id rows ns ns' es read made c =
    subst (λ (xs : List Notifier). Counted next xs es) (sym (made ∙ ap (λ (xs : List Notifier). without (λ n. n.id) id xs) read)) (counted_without next id ns es c)

pub counted_where_new : (next : ℕ) (n : Notifier) (ns ns' : List Notifier) (es : List Raised) → ns' ≡ ns ++ n ∷ [] → n.id ≡ next → n.popped ≡ 0 → Counted next ns es → Counted (next + 1) ns' es
counted_where_new next n ns ns' es made id none c = subst (λ (xs : List Notifier). Counted (next + 1) xs es) (sym made) (counted_push next n ns es id none c)

pub counted_where_shut : (next until : ℕ) (rows ns ns' : List Notifier) (es : List Raised) → rows ≡ ns → ns' ≡ map (shut_notifier until) rows → Counted next ns es → Counted next ns' es
counted_where_shut next until rows ns ns' es read made c =
    subst (λ (xs : List Notifier). Counted next xs es) (sym (made ∙ ap (λ (xs : List Notifier). map (shut_notifier until) xs) read)) (counted_map next (shut_notifier until) ns es (shut_id until) (shut_popped until) c)

pub counted_where_again : (next : ℕ) (rows ns ns' : List Notifier) (es : List Raised) → rows ≡ ns → ns' ≡ map notifier_again rows → Counted next ns es → Counted next ns' es
counted_where_again next rows ns ns' es read made c =
    subst (λ (xs : List Notifier). Counted next xs es) (sym (made ∙ ap (λ (xs : List Notifier). map notifier_again xs) read)) (counted_map next notifier_again ns es (λ n. refl) (λ n. refl) c)
