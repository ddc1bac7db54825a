-- The space that is handed back.
use Rattle.std.proofs.Common.{◌≡◌, ℕ, ◌≤◌, ◌<◌, ◌^◌, zero, suc, List, [], ◌∷◌, ◌++◌, length, Bool, true, false, true≢false, refl, sym, ap, ◌∙◌, subst, arith, append_assoc}
use Rattle.std.specs.Prelude.{None, Some, not}
use Rattle.std.specs.declared.option.Option.{Option}
use Rattle.rinda_rules.specs.declared.turn.Turn.{Turn}
use Rattle.rinda_rules.specs.declared.start.Start.{Start}
use Rattle.rinda_rules.specs.Space.{Plain, opening}
use Rattle.rinda_rules.specs.Legal.{Legal, LegalFrom, plain, plain_from}
use Rattle.rinda_rules.specs.Phases.{advanced, nothing_due}
use Rattle.rinda_space.specs.Spaces.{Spaced, StartsAt}
use Rattle.drb_outside.specs.Records.{Record}
use Rattle.drb_packet.specs.declared.request.Limits.{Limits}
use Rattle.drb_session.specs.Passes.{Pass, Lawful, alone}
use Rattle.drb_session.specs.Runs.{side}
use Rattle.drb_session.specs.Clocks.{ReadsAll}
use Rattle.drb_keeper.specs.declared.owed.Owed.{Owed}
use Rattle.drb_keeper.specs.declared.owed.KeeperEnd.{KeeperEnd}
use Rattle.drb_keeper.specs.declared.owed.KeeperEnd.TheVariants.{Idle, Asked, Full, Memory}
use Rattle.drb_keeper.specs.Keeping.{Steps, Ages, AgesBut}
use Rattle.drb_serving.specs.Serving.{NotFewer, WasRead, NoneDueAtLast, HandsBack}
use Rattle.drb_serving.specs.Parts.{IsClosed, Kept, is_memory}
use Rattle.drb_serving.proofs.Readings.{was_read, was_read_on, not_fewer_same}

-- the empty space is the start where there are no rows
starts : (start : Option Start) → start ≡ None → StartsAt start opening
starts start e = subst (λ (q : Option Start). StartsAt q opening) (sym e) refl

-- its only caller sees a lawful history
pub lawful_closed : (caller most : ℕ) (space : Spaced) → IsClosed most space → length space.turns < 2 ^ 64 → Lawful (alone caller space)
lawful_closed caller most space h short = record {
  origin = opening;
  starts = starts space.start h.start;
  legal = λ s e. subst (λ (q : Plain). LegalFrom q space.turns) (sym (subst (λ (q : Option Start). StartsAt q s) h.start e)) h.legal;
  own = refl;
  few = subst (λ (n : ℕ). length space.turns ≤ n) (sym h.cap_is) h.few;
  short = short;
}

closed_after : (caller most : ℕ) (old new : Spaced) → IsClosed most old → new.start ≡ old.start → new.cap ≡ old.cap → Lawful (alone caller new) → IsClosed most new
closed_after caller most old new h start same k = record {
  start = start ∙ h.start;
  cap_is = same ∙ h.cap_is;
  legal = k.legal opening (starts new.start (start ∙ h.start));
  few = subst (λ (n : ℕ). length new.turns ≤ n) (same ∙ h.cap_is) k.few;
}

-- the last of a list
last_of : List ℕ → ℕ
last_of [] = 0
last_of (x ∷ []) = x
last_of (x ∷ y ∷ ys) = last_of (y ∷ ys)

last_of-snoc : (xs : List ℕ) (x : ℕ) → last_of (xs ++ x ∷ []) ≡ x
unfolding last_of
last_of-snoc [] x = refl
last_of-snoc (y ∷ []) x = refl
last_of-snoc (y ∷ z ∷ zs) x = last_of-snoc (z ∷ zs) x

same_last : (xs ys : List ℕ) (x y : ℕ) → xs ++ x ∷ [] ≡ ys ++ y ∷ [] → x ≡ y
same_last xs ys x y e = sym (last_of-snoc xs x) ∙ ap (λ q. last_of q) e ∙ last_of-snoc ys y

some_is : {A : Type 0} (x y : A) → Some x ≡ Some y → x ≡ y
some_is x y e = cc

-- the last reading of the step is the clock's last one
last_reading : (a b : Option (List ℕ)) (ats before : List ℕ) (last at : ℕ) → ReadsAll a b (ats ++ last ∷ []) → b ≡ Some (before ++ at ∷ []) → last ≡ at
last_reading a None ats before last at h e = absurd (none_some _ e)
  where
    none_some : (x : List ℕ) → None ≡ Some x → ⊥
    none_some x e = cc
last_reading None (Some b) ats before last at h e = absurd h
last_reading (Some a) (Some b) ats before last at h e = same_last (a ++ ats) before last at (append_assoc a ats (last ∷ []) ∙ sym h ∙ some_is _ _ e)

kept : (caller most : ℕ) (old new : Spaced) (r r' : Option (List ℕ)) → IsClosed most old → new.start ≡ old.start → new.cap ≡ old.cap → Lawful (alone caller new) → Ages (alone caller new) r r' → Kept most new r r'
kept caller most old new r r' h start same k ages =
    let after = closed_after caller most old new h start same k in
    record {
      closed = after;
      read = was_read r r r' ages.ats ages.last (not_fewer_same r) ages.reads;
      none_due = λ room before at e. subst (λ (n : ℕ). nothing_due (advanced (plain new.turns) n) ≡ true) (last_reading r r' ages.ats before ages.last at ages.reads e)
          (ages.none_due (subst (λ (n : ℕ). length new.turns < n) (sym after.cap_is) room) opening (starts new.start after.start));
    }

ages : (new : Pass) (r r' : Option (List ℕ)) (end : KeeperEnd) → not (is_memory end) ≡ true → AgesBut new r r' end → Ages new r r'
ages new r r' Idle e h = h
ages new r r' (Asked id) e h = h
ages new r r' (Full turns) e h = h
ages new r r' Memory e h = absurd (true≢false (sym e))

-- the last step keeps the space, but for want of memory
pub last_kept : (caller caller' most : ℕ) (given old new : Spaced) (limits : Limits) (shut : Bool) (a b : Option Owed) (end : KeeperEnd) (r r' : Option (List ℕ)) (c c' : Option (List Record)) (f f' : ℕ) → IsClosed most given → length given.turns < 2 ^ 64 → old ≡ given → not (is_memory end) ≡ true
    → Steps limits shut a b (side (alone caller old) r c f) (side (alone caller' new) r' c' f') end → (Lawful (alone caller old) → AgesBut (alone caller' new) r r' end) → (Lawful (alone caller old) → Lawful (alone caller' new)) → Kept most new r r'
last_kept caller caller' most given old new limits shut a b end r r' c c' f f' h short same e steps aged lawful =
    let h' : IsClosed most old = subst (λ (v : Spaced). IsClosed most v) (sym same) h in
    let before = lawful_closed caller most old h' (subst (λ (v : Spaced). length v.turns < 2 ^ 64) (sym same) short) in
    kept caller' most old new r r' h' steps.sees.start steps.sees.cap (lawful before) (ages (alone caller' new) r r' end e (aged before))

-- and then it is handed back
pub hands_back : (under most turns tuples : ℕ) (old mid new : Option (List ℕ)) (space : Spaced) → under ≡ most → Kept under space mid new → NotFewer old mid → turns ≡ length space.turns
    → ((s : Plain) → StartsAt space.start s → tuples ≡ length (plain_from s space.turns).tuples) → HandsBack most turns tuples old new (Some space)
hands_back under most turns tuples old mid new space same k readings count tuples_are =
    let h : Kept most space mid new = subst (λ (n : ℕ). Kept n space mid new) same k in record {
      history = space;
      there = refl;
      start = h.closed.start;
      cap_is = h.closed.cap_is;
      legal = h.closed.legal;
      few = h.closed.few;
      turns_are = count;
      tuples_are = tuples_are opening (starts space.start h.closed.start);
      read = was_read_on old mid new readings h.read;
      none_due = h.none_due;
    }

pub not_so : (x y : Bool) → x ≡ y → not x ≡ true → not y ≡ true
not_so x y e h = subst (λ (b : Bool). not b ≡ true) e h
