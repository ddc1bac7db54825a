-- The statuses of faults, and their causes.
use Rattle.std.proofs.Common.{◌≡◌, ℕ, ◌≤◌, List, [], ◌∷◌, map, Bool, true, false, refl, sym, ◌∙◌, ap, subst, arith, inl, inr}
use Rattle.std.specs.Prelude.{None, Some, unwrap_or, ⊤}
use Rattle.std.specs.declared.option.Option.{Option}
use Rattle.drb_tree.specs.declared.Text.{Text}
use Rattle.drb_tree.specs.declared.Tree.{Tree}
use Rattle.drb_outside.specs.Told.{Rose}
use Rattle.drb_packet.specs.declared.request.Limits.{Limits}
use Rattle.drb_back.specs.declared.back.Back.{Back}
use Rattle.drb_back.specs.declared.back.Back.TheVariants as back
use Rattle.rinda_proxy.specs.declared.asking.Asking.{Asking}
use Rattle.rinda_proxy.specs.declared.status.Status.{Status}
use Rattle.rinda_proxy.specs.declared.status.Status.TheVariants as status
use Rattle.rinda_proxy.specs.Statuses.{status_of, decided}
use Rattle.rinda_proxy.specs.Requests.{Ask, Asked, asked_as, first_ask, pops_of, pop_of}
use Rattle.rinda_proxy.specs.Commands.{Side, Caused, CausedAll, End, whole, unprinted, lost, EndsAs, Takes, popping, MoreComes, Asks, asking, asked_more, AllComes, all_over, all_asked, FaultsAs}

not_memory : back.DialFault ≡ back.Memory → ⊥
not_memory e = cc

read_not_memory : back.ReadFault ≡ back.Memory → ⊥
read_not_memory e = cc

write_not_memory : back.WriteFault ≡ back.Memory → ⊥
write_not_memory e = cc

-- the status that an answer decides has its cause
answer_faults : (a : Ask) (b : Back) (o : Status) (m n k j : ℕ) → Caused m n (asked_as a b) → FaultsAs o m n k j → FaultsAs (unwrap_or (status_of b) o) m n k j
answer_faults a (back.Value v) o m n k j h f = f
answer_faults a (back.Raised e) o m n k j h f = tt
answer_faults a back.BadUri o m n k j h f = tt
answer_faults a back.DialFault o m n k j (inl e) f = absurd (not_memory e)
answer_faults a back.DialFault o m n k j (inr c) f = c.fault tt
answer_faults a back.ReadFault o m n k j (inl e) f = absurd (read_not_memory e)
answer_faults a back.ReadFault o m n k j (inr c) f = c.fault tt
answer_faults a back.WriteFault o m n k j (inl e) f = absurd (write_not_memory e)
answer_faults a back.WriteFault o m n k j (inr c) f = inl (c.fault tt)
answer_faults a back.Cut o m n k j h f = tt
answer_faults a (back.Refused why) o m n k j h f = tt
answer_faults a back.TooLong o m n k j h f = tt
answer_faults a back.Memory o m n k j h f = tt

events_faults : (a : Ask) (bs : List Back) (o : Status) (m n k j : ℕ) → CausedAll m n (map (λ b. asked_as a b) bs) → FaultsAs o m n k j → FaultsAs (decided o bs) m n k j
events_faults a [] o m n k j h f = f
events_faults a (b ∷ bs) o m n k j h f = answer_faults a b (decided o bs) m n k j h.0 (events_faults a bs o m n k j h.1 f)

-- after the first answer, events or nothing
more_faults : (w : Option ℕ) (b : Back) (bs : List Back) (o : Status) (m n k j : ℕ) → MoreComes w b bs → CausedAll m n (asked_more w b bs) → FaultsAs o m n k j → FaultsAs (decided o bs) m n k j
more_faults None b bs o m n k j e h f = subst (λ (q : List Back). FaultsAs (decided o q) m n k j) (sym e) f
more_faults (Some count) (back.Value v) bs o m n k j e h f = events_faults (pop_of v) bs o m n k j h f
more_faults (Some count) (back.Raised x) bs o m n k j e h f = subst (λ (q : List Back). FaultsAs (decided o q) m n k j) (sym e) f
more_faults (Some count) back.BadUri bs o m n k j e h f = subst (λ (q : List Back). FaultsAs (decided o q) m n k j) (sym e) f
more_faults (Some count) back.DialFault bs o m n k j e h f = subst (λ (q : List Back). FaultsAs (decided o q) m n k j) (sym e) f
more_faults (Some count) back.ReadFault bs o m n k j e h f = subst (λ (q : List Back). FaultsAs (decided o q) m n k j) (sym e) f
more_faults (Some count) back.WriteFault bs o m n k j e h f = subst (λ (q : List Back). FaultsAs (decided o q) m n k j) (sym e) f
more_faults (Some count) back.Cut bs o m n k j e h f = subst (λ (q : List Back). FaultsAs (decided o q) m n k j) (sym e) f
more_faults (Some count) (back.Refused why) bs o m n k j e h f = subst (λ (q : List Back). FaultsAs (decided o q) m n k j) (sym e) f
more_faults (Some count) back.TooLong bs o m n k j e h f = subst (λ (q : List Back). FaultsAs (decided o q) m n k j) (sym e) f
more_faults (Some count) back.Memory bs o m n k j e h f = subst (λ (q : List Back). FaultsAs (decided o q) m n k j) (sym e) f

all_faults : (uri : Text) (a : Asking) (bs : List Back) (o : Status) (m n k j : ℕ) → AllComes a bs → CausedAll m n (all_asked uri a bs) → FaultsAs o m n k j → FaultsAs (decided o bs) m n k j
all_faults uri a [] o m n k j c h f = f
all_faults uri a (b ∷ bs) o m n k j c h f = answer_faults (first_ask uri a) b (decided o bs) m n k j h.0 (more_faults (pops_of a) b bs o m n k j c h.1 f)

end_faults : (end : End) (uri : Text) (a : Asking) (bs : List Back) (r : Status) (m n k j : ℕ) → AllComes a bs → CausedAll m n (all_asked uri a bs) → EndsAs end (all_over a bs) bs k j r → FaultsAs r m n k j
end_faults whole uri a bs r m n k j c h e = subst (λ (q : Status). FaultsAs q m n k j) (sym e.1) (all_faults uri a bs status.Done m n k j c h tt)
end_faults unprinted uri a bs r m n k j c h e = subst (λ (q : Status). FaultsAs q m n k j) (sym e.1) (all_faults uri a bs status.WriteFault m n k j c h (inr e.0))
end_faults lost uri a bs r m n k j c h e = subst (λ (q : Status). FaultsAs q m n k j) (sym e) tt

-- of a whole command
pub faults_of : (limits : Limits) (uri : Text) (a : Asking) (r : Status) (s t : Side) → Asks limits uri a r s t → FaultsAs r s.call_faults t.call_faults s.print_faults t.print_faults
faults_of limits uri a r s t h = end_faults h.end uri a h.backs r s.call_faults t.call_faults s.print_faults t.print_faults h.comes h.causes h.ends
