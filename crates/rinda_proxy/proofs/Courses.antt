-- A command, from its first answer on.
use Rattle.std.proofs.Common.{◌≡◌, ℕ, ◌≤◌, List, [], ◌∷◌, ◌++◌, map, Bool, true, false, refl, sym, ◌∙◌, ap, subst, append_assoc, arith, inl, inr}
use Rattle.std.proofs.lemmas.List.{append-nil}
use Rattle.std.specs.Prelude.{None, Some, unwrap_or, ⊤}
use Rattle.std.specs.declared.option.Option.{Option}
use Rattle.drb_tree.specs.declared.Text.{Text}
use Rattle.drb_tree.specs.declared.Tree.{Tree}
use Rattle.drb_outside.specs.Told.{Told, Rose}
use Rattle.drb_outside.specs.Telling.{told_on, told_as, told_same, rose_in}
use Rattle.drb_outside.specs.Records.{Record}
use Rattle.drb_packet.specs.declared.request.Limits.{Limits}
use Rattle.drb_back.specs.declared.back.Back.{Back}
use Rattle.drb_back.specs.declared.back.Back.TheVariants as back
use Rattle.rinda_proxy.specs.declared.asking.Asking.{Asking}
use Rattle.rinda_proxy.specs.declared.asking.Asking.TheVariants.{Write, Read, ReadAll, Watch}
use Rattle.rinda_proxy.specs.declared.status.Status.{Status}
use Rattle.rinda_proxy.specs.declared.status.Status.TheVariants.{Done, WriteFault, Memory}
use Rattle.rinda_proxy.specs.Statuses.{status_of, decided}
use Rattle.rinda_proxy.specs.Requests.{Asked, asked_as, first_ask, pops_of, pop_of}
use Rattle.rinda_proxy.specs.Lines.{first_text, pop_texts}
use Rattle.rinda_proxy.specs.Commands.{Side, side, Later, Does, DoesAll, Caused, CausedAll, End, whole, unprinted, lost, EndsAs, IsFront, Written, Takes, popping, MoreComes, more_over, asked_more, Asks, asking}
use Rattle.rinda_proxy.specs.Parts.{TellsAs, Tells, Answers, Follows}
use Rattle.rinda_proxy.proofs.Popping.{caused_in, causes_in}

-- the first request, with its answer
pub record First (limits : Limits) (uri : Text) (a : Asking) (b : Back) (old new : Side) : Type 0 where
  pub calls : Told old.calls new.calls new.call_faults (Does limits (asked_as (first_ask uri a) b))
  pub cause : Caused old.call_faults new.call_faults (asked_as (first_ask uri a) b)
  pub later : old.call_faults ≤ new.call_faults
  pub given : new.given ≡ old.given
  pub prints : new.print_faults ≡ old.print_faults

some_is : (s t : Status) → Some s ≡ Some t → s ≡ t
some_is s t e = cc

only_ends : (end : End) (b : Back) (m n : ℕ) (s : Status) → TellsAs end true (status_of b) m n (Some s) → EndsAs end true (b ∷ []) m n s
only_ends whole b m n s h = (refl, some_is _ _ h)
only_ends unprinted b m n s h = (h.0, some_is _ _ h.1)
only_ends lost b m n s h = some_is _ _ h

only_written : (end : End) (text w : List ℕ) → Written end text w → Written end (text ++ []) w
only_written whole text w h = h ∙ sym (append-nil text)
only_written unprinted text w h = (h.0, append-nil text ∙ h.1)
only_written lost text w h = (h.0, append-nil text ∙ h.1)

none_more : (o : Option ℕ) (b : Back) → more_over o b [] ≡ true → asked_more o b [] ≡ []
none_more None b h = refl
none_more (Some count) (back.Value v) h = refl
none_more (Some count) (back.Raised e) h = refl
none_more (Some count) back.BadUri h = refl
none_more (Some count) back.DialFault h = refl
none_more (Some count) back.ReadFault h = refl
none_more (Some count) back.WriteFault h = refl
none_more (Some count) back.Cut h = refl
none_more (Some count) (back.Refused why) h = refl
none_more (Some count) back.TooLong h = refl
none_more (Some count) back.Memory h = refl

-- a command whose first answer is its only one
alone : (limits : Limits) (uri : Text) (a : Asking) (b : Back) (r : Status) (s t u : Side) → MoreComes (pops_of a) b [] → more_over (pops_of a) b [] ≡ true → First limits uri a b s t → Answers a b r t u → Asks limits uri a r s u
alone limits uri a b r s t u comes over h k =
    let none : asked_more (pops_of a) b [] ≡ [] = none_more (pops_of a) b over in
    record {
      backs = b ∷ [];
      comes = comes;
      end = k.tells.end;
      ends = subst (λ (q : Bool). EndsAs k.tells.end q (b ∷ []) s.print_faults u.print_faults r) (sym over)
          (subst (λ (q : ℕ). EndsAs k.tells.end true (b ∷ []) q u.print_faults r) h.prints (only_ends k.tells.end b t.print_faults u.print_faults r k.tells.ends));
      calls = subst (λ (q : List Asked). Told s.calls u.calls u.call_faults (DoesAll limits (asked_as (first_ask uri a) b ∷ q))) (sym none)
          (subst (λ (q : Option (List Record)). Told s.calls q u.call_faults (DoesAll limits (asked_as (first_ask uri a) b ∷ []))) (sym k.calls)
          (subst (λ (q : ℕ). Told s.calls t.calls q (DoesAll limits (asked_as (first_ask uri a) b ∷ []))) (sym k.faults)
          (told_as _ _ s.calls t.calls t.call_faults (λ x y d. (y, d, refl)) h.calls)));
      causes = subst (λ (q : List Asked). CausedAll s.call_faults u.call_faults (asked_as (first_ask uri a) b ∷ q)) (sym none)
          (subst (λ (q : ℕ). Caused s.call_faults q (asked_as (first_ask uri a) b)) (sym k.faults) h.cause, tt);
      output = subst (λ (q : Option (List ℕ)). Told q u.given u.print_faults (λ given given'. (written : List ℕ) × (given' ≡ given ++ written) × Written k.tells.end (first_text a b ++ []) written)) h.given
          (told_as _ _ t.given u.given u.print_faults (λ x y w. (w.0, w.1, only_written k.tells.end (first_text a b) w.0 w.2)) k.tells.output);
      later = record { calls = omega (arith, h.later, k.faults); prints = omega (arith, h.prints, k.tells.later) };
    }

pub asks_alone : (limits : Limits) (uri : Text) (a : Asking) (b : Back) (r : Status) (s t u : Side) → pops_of a ≡ None → First limits uri a b s t → Answers a b r t u → Asks limits uri a r s u
asks_alone limits uri a b r s t u none h k = alone limits uri a b r s t u (rw none refl) (rw none refl) h k

no_count : (n : ℕ) → None ≡ Some n → ⊥
no_count n e = cc

-- a watcher prints nothing of the notifier
unsaid : (a : Asking) (count : ℕ) (v : Tree) → pops_of a ≡ Some count → first_text a (back.Value v) ≡ []
unsaid (Write tuple life) count v e = absurd (no_count count e)
unsaid (Read tuple life) count v e = absurd (no_count count e)
unsaid (ReadAll tuple) count v e = absurd (no_count count e)
unsaid (Watch event tuple n) count v e = refl

event_ends : (end : End) (a : Asking) (v : Tree) (count : ℕ) (backs : List Back) (k m n : ℕ) (r : Status) → pops_of a ≡ Some count → m ≡ k → EndsAs end ((popping v count).is_over backs) backs m n r → EndsAs end (more_over (pops_of a) (back.Value v) backs) (back.Value v ∷ backs) k n r
event_ends whole a v count backs k m n r some e h = (rw some h.0, h.1)
event_ends unprinted a v count backs k m n r some e h = (subst (λ (q : ℕ). Rose q n) e h.0, h.1)
event_ends lost a v count backs k m n r some e h = h

with_events : (limits : Limits) (uri : Text) (a : Asking) (v : Tree) (count : ℕ) (r : Status) (s t u : Side) → pops_of a ≡ Some count → First limits uri a (back.Value v) s t → Takes (popping v count) limits r t u → Asks limits uri a r s u
with_events limits uri a v count r s t u some h k = record {
  backs = back.Value v ∷ k.backs;
  comes = rw some k.comes;
  end = k.end;
  ends = event_ends k.end a v count k.backs s.print_faults t.print_faults u.print_faults r some h.prints k.ends;
  calls = subst (λ (q : Option ℕ). Told s.calls u.calls u.call_faults (DoesAll limits (asked_as (first_ask uri a) (back.Value v) ∷ asked_more q (back.Value v) k.backs))) (sym some)
      (told_on _ _ _ s.calls t.calls u.calls t.call_faults u.call_faults k.later.calls (λ x y z p q. (y, p, q)) h.calls k.calls);
  causes = subst (λ (q : Option ℕ). CausedAll s.call_faults u.call_faults (asked_as (first_ask uri a) (back.Value v) ∷ asked_more q (back.Value v) k.backs)) (sym some)
      (caused_in s.call_faults s.call_faults t.call_faults u.call_faults _ (omega arith) k.later.calls h.cause, causes_in s.call_faults t.call_faults u.call_faults u.call_faults _ h.later (omega arith) k.causes);
  output = subst (λ (q : Option (List ℕ)). Told q u.given u.print_faults (λ given given'. (written : List ℕ) × (given' ≡ given ++ written) × Written k.end (first_text a (back.Value v) ++ pop_texts k.backs) written)) h.given
      (subst (λ (q : List ℕ). Told t.given u.given u.print_faults (λ given given'. (written : List ℕ) × (given' ≡ given ++ written) × Written k.end (q ++ pop_texts k.backs) written)) (sym (unsaid a count v some)) k.output);
  later = record { calls = omega (arith, h.later, k.later.calls); prints = omega (arith, h.prints, k.later.prints) };
}

pub asks_follow : (limits : Limits) (uri : Text) (a : Asking) (b : Back) (count : ℕ) (r : Status) (s t u : Side) → pops_of a ≡ Some count → First limits uri a b s t → Follows limits a count b r t u → Asks limits uri a r s u
asks_follow limits uri a (back.Value v) count r s t u some h k = with_events limits uri a v count r s t u some h k
asks_follow limits uri a (back.Raised e) count r s t u some h k = alone limits uri a _ r s t u (rw some refl) (rw some refl) h k
asks_follow limits uri a back.BadUri count r s t u some h k = alone limits uri a _ r s t u (rw some refl) (rw some refl) h k
asks_follow limits uri a back.DialFault count r s t u some h k = alone limits uri a _ r s t u (rw some refl) (rw some refl) h k
asks_follow limits uri a back.ReadFault count r s t u some h k = alone limits uri a _ r s t u (rw some refl) (rw some refl) h k
asks_follow limits uri a back.WriteFault count r s t u some h k = alone limits uri a _ r s t u (rw some refl) (rw some refl) h k
asks_follow limits uri a back.Cut count r s t u some h k = alone limits uri a _ r s t u (rw some refl) (rw some refl) h k
asks_follow limits uri a (back.Refused why) count r s t u some h k = alone limits uri a _ r s t u (rw some refl) (rw some refl) h k
asks_follow limits uri a back.TooLong count r s t u some h k = alone limits uri a _ r s t u (rw some refl) (rw some refl) h k
asks_follow limits uri a back.Memory count r s t u some h k = alone limits uri a _ r s t u (rw some refl) (rw some refl) h k

-- an answer that isn't a value is told alone
pub follows_alone : (limits : Limits) (a : Asking) (count : ℕ) (b : Back) (r : Status) (s t : Side) → ((v : Tree) → b ≡ back.Value v → ⊥) → Answers a b r s t → Follows limits a count b r s t
follows_alone limits a count (back.Value v) r s t other h = absurd (other v refl)
follows_alone limits a count (back.Raised e) r s t other h = h
follows_alone limits a count back.BadUri r s t other h = h
follows_alone limits a count back.DialFault r s t other h = h
follows_alone limits a count back.ReadFault r s t other h = h
follows_alone limits a count back.WriteFault r s t other h = h
follows_alone limits a count back.Cut r s t other h = h
follows_alone limits a count (back.Refused why) r s t other h = h
follows_alone limits a count back.TooLong r s t other h = h
follows_alone limits a count back.Memory r s t other h = h
