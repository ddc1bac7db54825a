-- The events of a notifier, one after the other.
use Rattle.std.proofs.Common.{◌≡◌, ℕ, zero, suc, ◌+◌, ◌<◌, ◌≤◌, List, [], ◌∷◌, ◌++◌, map, length, Bool, true, false, ◌||◌, true≢false, refl, sym, ◌∙◌, ap, subst, append_assoc, arith, inl, inr, length-append}
use Rattle.std.proofs.lemmas.List.{append-nil, map-append}
use Rattle.std.specs.Prelude.{None, Some, unwrap_or, ⊤}
use Rattle.std.specs.declared.option.Option.{Option}
use Rattle.drb_tree.specs.declared.Tree.{Tree}
use Rattle.drb_outside.specs.Told.{Told, Rose}
use Rattle.drb_outside.specs.Telling.{told_on, told_as, told_same, rose_in}
use Rattle.drb_outside.specs.Records.{Record}
use Rattle.drb_packet.specs.declared.request.Limits.{Limits}
use Rattle.drb_back.specs.declared.back.Back.{Back}
use Rattle.drb_back.specs.declared.back.Back.TheVariants as back
use Rattle.rinda_proxy.specs.declared.status.Status.{Status}
use Rattle.rinda_proxy.specs.declared.status.Status.TheVariants.{Done, WriteFault, Memory}
use Rattle.rinda_proxy.specs.Statuses.{status_of, decided}
use Rattle.rinda_proxy.specs.Requests.{Ask, Asked, asked_as, is_last, pop_of, Pops, popped}
use Rattle.rinda_proxy.specs.Lines.{pop_text, pop_texts}
use Rattle.rinda_proxy.specs.Commands.{Side, Later, Does, DoesAll, Caused, CausedAll, End, whole, unprinted, lost, EndsAs, IsFront, Written, Takes, popping}
use Rattle.rinda_proxy.specs.Parts.{TellsAs, Tells, Step}
use Rattle.rinda_proxy.proofs.Telling.{front_none}

-- each is an event that others may follow
abbrev pub AllGo : List Back → Type 0
AllGo [] = ⊤
AllGo (b ∷ bs) = (is_last b ≡ false) × AllGo bs

pub go_more : (bs : List Back) (b : Back) → AllGo bs → is_last b ≡ false → AllGo (bs ++ b ∷ [])
go_more [] b h k = (k, tt)
go_more (x ∷ bs) b h k = (h.0, go_more bs b h.1 k)

pops_go : (n : ℕ) (bs : List Back) → AllGo bs → length bs ≤ n → Pops n bs
pops_go n [] h le = tt
pops_go zero (b ∷ bs) h le = absurd (omega arith)
pops_go (suc n) (b ∷ []) h le = tt
pops_go (suc n) (b ∷ c ∷ bs) h le = (h.0, pops_go n (c ∷ bs) h.1 (omega arith))

pops_more : (n : ℕ) (bs : List Back) (b : Back) → AllGo bs → length bs < n → Pops n (bs ++ b ∷ [])
pops_more zero bs b h lt = absurd (omega arith)
pops_more (suc n) [] b h lt = tt
pops_more (suc n) (x ∷ []) b h lt = (h.0, pops_more n [] b tt (omega arith))
pops_more (suc n) (x ∷ y ∷ bs) b h lt = (h.0, pops_more n (y ∷ bs) b h.1 (omega arith))

popped_all : (n : ℕ) (bs : List Back) → AllGo bs → length bs ≡ n → popped n bs ≡ true
popped_all zero bs h e = refl
popped_all (suc n) [] h e = absurd (omega arith)
popped_all (suc n) (b ∷ bs) h e = rw h.0 (popped_all n bs h.1 (omega arith))

popped_last : (n : ℕ) (bs : List Back) (b : Back) → AllGo bs → is_last b ≡ true → popped n (bs ++ b ∷ []) ≡ true
popped_last zero bs b h k = refl
popped_last (suc n) [] b h k = rw k refl
popped_last (suc n) (x ∷ bs) b h k = rw h.0 (popped_last n bs b h.1 k)

go_status : (b : Back) → is_last b ≡ false → status_of b ≡ None
go_status (back.Value v) h = refl
go_status (back.Raised e) h = absurd (true≢false h)
go_status back.BadUri h = absurd (true≢false h)
go_status back.DialFault h = absurd (true≢false h)
go_status back.ReadFault h = absurd (true≢false h)
go_status back.WriteFault h = absurd (true≢false h)
go_status back.Cut h = absurd (true≢false h)
go_status (back.Refused why) h = absurd (true≢false h)
go_status back.TooLong h = absurd (true≢false h)
go_status back.Memory h = absurd (true≢false h)

-- the answers so far decide nothing
decided_more : (o : Status) (bs : List Back) (b : Back) → AllGo bs → decided o (bs ++ b ∷ []) ≡ unwrap_or (status_of b) o
decided_more o [] b h = refl
decided_more o (x ∷ bs) b h = ap (λ q. unwrap_or q (decided o (bs ++ b ∷ []))) (go_status x h.0) ∙ decided_more o bs b h.1

decided_go : (o : Status) (bs : List Back) → AllGo bs → decided o bs ≡ o
decided_go o [] h = refl
decided_go o (x ∷ bs) h = ap (λ q. unwrap_or q (decided o bs)) (go_status x h.0) ∙ decided_go o bs h.1

pub does_more : (limits : Limits) (xs : List Asked) (x : Asked) (a b c : List Record) → DoesAll limits xs a b → Does limits x b c → DoesAll limits (xs ++ x ∷ []) a c
does_more limits [] x a b c h k = (c, subst (λ (q : List Record). Does limits x q c) h k, refl)
does_more limits (y ∷ xs) x a b c h k = (h.0, h.1, does_more limits xs x h.0 b c h.2 k)

pub caused_in : (a b c d : ℕ) (x : Asked) → a ≤ b → c ≤ d → Caused b c x → Caused a d x
caused_in a b c d x p q (inl none) = inl none
caused_in a b c d x p q (inr k) = inr (record { bad_uri = k.bad_uri; too_long = k.too_long; every_too_long = k.every_too_long; fault = λ f. rose_in a b c d p q (k.fault f) })

pub causes_in : (a b c d : ℕ) (xs : List Asked) → a ≤ b → c ≤ d → CausedAll b c xs → CausedAll a d xs
causes_in a b c d [] p q h = tt
causes_in a b c d (x ∷ xs) p q h = (caused_in a b c d x p q h.0, causes_in a b c d xs p q h.1)

causes_more : (a b c : ℕ) (xs : List Asked) (x : Asked) → a ≤ b → b ≤ c → CausedAll a b xs → Caused b c x → CausedAll a c (xs ++ x ∷ [])
causes_more a b c [] x p q h k = (caused_in a b c c x p (omega arith) k, tt)
causes_more a b c (y ∷ xs) x p q h k = (caused_in a a b c y (omega arith) q h.0, causes_more a b c xs x p q h.1 k)

texts_more : (bs : List Back) (b : Back) → pop_texts (bs ++ b ∷ []) ≡ pop_texts bs ++ pop_text b
texts_more [] b = append-nil (pop_text b)
texts_more (x ∷ bs) b = ap (λ q. pop_text x ++ q) (texts_more bs b) ∙ sym (append_assoc (pop_text x) (pop_texts bs) (pop_text b))

-- So many events so far, each printed.
pub record Going (limits : Limits) (a : Ask) (n : ℕ) (old new : Side) : Type 0 where
  pub backs : List Back
  pub go : AllGo backs
  pub count : length backs ≡ n
  pub calls : Told old.calls new.calls new.call_faults (DoesAll limits (map (λ b. asked_as a b) backs))
  pub causes : CausedAll old.call_faults new.call_faults (map (λ b. asked_as a b) backs)
  pub output : Told old.given new.given new.print_faults (λ given given'. given' ≡ given ++ pop_texts backs)
  pub later : Later old new

pub going_none : (limits : Limits) (a : Ask) (s : Side) → Going limits a 0 s s
going_none limits a s = record {
  backs = [];
  go = tt;
  count = refl;
  calls = told_same _ s.calls s.call_faults (λ x. refl);
  causes = tt;
  output = told_same _ s.given s.print_faults (λ x. sym (append-nil x));
  later = record { calls = omega arith; prints = omega arith };
}

asked_more : (a : Ask) (bs : List Back) (b : Back) → map (λ b. asked_as a b) (bs ++ b ∷ []) ≡ map (λ b. asked_as a b) bs ++ asked_as a b ∷ []
asked_more a bs b = map-append (λ b. asked_as a b) bs (b ∷ [])

calls_more : (limits : Limits) (a : Ask) (bs : List Back) (b : Back) (x y z : Option (List Record)) (m n : ℕ) → m ≤ n → Told x y m (DoesAll limits (map (λ b. asked_as a b) bs)) → Told y z n (Does limits (asked_as a b)) → Told x z n (DoesAll limits (map (λ b. asked_as a b) (bs ++ b ∷ [])))
calls_more limits a bs b x y z m n le h k = subst (λ (q : List Asked). Told x z n (DoesAll limits q)) (sym (asked_more a bs b))
    (told_on _ _ _ x y z m n le (λ u v w p q. does_more limits (map (λ b. asked_as a b) bs) (asked_as a b) u v w p q) h k)

caused_more : (a : Ask) (bs : List Back) (b : Back) (k m n : ℕ) → k ≤ m → m ≤ n → CausedAll k m (map (λ b. asked_as a b) bs) → Caused m n (asked_as a b) → CausedAll k n (map (λ b. asked_as a b) (bs ++ b ∷ []))
caused_more a bs b k m n p q h c = subst (λ (q : List Asked). CausedAll k n q) (sym (asked_more a bs b)) (causes_more k m n (map (λ b. asked_as a b) bs) (asked_as a b) p q h c)

written_more : (bs : List Back) (b : Back) (x y z w : List ℕ) → y ≡ x ++ pop_texts bs → z ≡ y ++ w → z ≡ x ++ (pop_texts bs ++ w)
written_more bs b x y z w p q = q ∙ ap (λ r. r ++ w) p ∙ append_assoc x (pop_texts bs) w

-- what was printed of the last answer, behind the events
last_written : (end : End) (bs : List Back) (b : Back) (w : List ℕ) → Written end (pop_text b) w → Written end (pop_texts (bs ++ b ∷ [])) (pop_texts bs ++ w)
last_written whole bs b w h = ap (λ q. pop_texts bs ++ q) h ∙ sym (texts_more bs b)
last_written unprinted bs b w h = (h.0, texts_more bs b ∙ ap (λ q. pop_texts bs ++ q) h.1 ∙ sym (append_assoc (pop_texts bs) w h.0))
last_written lost bs b w h = (h.0, texts_more bs b ∙ ap (λ q. pop_texts bs ++ q) h.1 ∙ sym (append_assoc (pop_texts bs) w h.0))

none_some : (s : Status) → None ≡ Some s → ⊥
none_some s e = cc

-- more may be asked: all was printed, and the answer was an event that others may follow
more_of : (end : End) (over : Bool) (d : Option Status) (m n : ℕ) → TellsAs end over d m n None → (over ≡ false) × (end ≡ whole)
more_of whole false d m n h = (refl, refl)
more_of whole true d m n h = absurd (none_some (unwrap_or d Done) h)
more_of unprinted over d m n h = absurd (none_some (unwrap_or d WriteFault) h.1)
more_of lost over d m n h = absurd (none_some Memory h)

pub going_on : (limits : Limits) (a : Ask) (n : ℕ) (s t u : Side) → Going limits a n s t → Step limits a None t u → Going limits a (n + 1) s u
going_on limits a n s t u h k =
    let e = more_of k.tells.end (is_last k.back) (status_of k.back) t.print_faults u.print_faults k.tells.ends in
    record {
      backs = h.backs ++ k.back ∷ [];
      go = go_more h.backs k.back h.go e.0;
      count = length-append h.backs (k.back ∷ []) ∙ ap (λ q. q + 1) h.count;
      calls = calls_more limits a h.backs k.back s.calls t.calls u.calls t.call_faults u.call_faults k.later h.calls k.calls;
      causes = caused_more a h.backs k.back s.call_faults t.call_faults u.call_faults h.later.calls k.later h.causes k.cause;
      output = told_on _ _ _ s.given t.given u.given t.print_faults u.print_faults k.tells.later
          (λ x y z p q. written_more h.backs k.back x y z q.0 p q.1 ∙ ap (λ r. x ++ r) (last_written whole h.backs k.back q.0 (subst (λ (w : End). Written w (pop_text k.back) q.0) e.1 q.2))) h.output k.tells.output;
      later = record { calls = omega (arith, h.later.calls, k.later); prints = omega (arith, h.later.prints, k.tells.later) };
    }

some_is : (s t : Status) → Some s ≡ Some t → s ≡ t
some_is s t e = cc

last_whole : (over : Bool) (count : ℕ) (bs : List Back) (b : Back) (m n : ℕ) (s : Status) → AllGo bs → is_last b ≡ over → TellsAs whole over (status_of b) m n (Some s) → (popped count (bs ++ b ∷ []) ≡ true) × (s ≡ decided Done (bs ++ b ∷ []))
last_whole false count bs b m n s g e h = absurd (none_some s (sym h))
last_whole true count bs b m n s g e h = (popped_last count bs b g e, some_is _ _ h ∙ sym (decided_more Done bs b g))

-- the last answer decides
ends_last : (end : End) (v : Tree) (count : ℕ) (bs : List Back) (b : Back) (k m n : ℕ) (s : Status) → AllGo bs → k ≤ m → TellsAs end (is_last b) (status_of b) m n (Some s) → EndsAs end (popped count (bs ++ b ∷ [])) (bs ++ b ∷ []) k n s
ends_last whole v count bs b k m n s g le h = last_whole (is_last b) count bs b m n s g refl h
ends_last unprinted v count bs b k m n s g le h = (rose_in k m n n le (omega arith) h.0, some_is _ _ h.1 ∙ sym (decided_more WriteFault bs b g))
ends_last lost v count bs b k m n s g le h = some_is _ _ h

pub goes_end : (limits : Limits) (v : Tree) (count n : ℕ) (r : Status) (s t u : Side) → n < count → Going limits (pop_of v) n s t → Step limits (pop_of v) (Some r) t u → Takes (popping v count) limits r s u
goes_end limits v count n r s t u lt h k = record {
  backs = h.backs ++ k.back ∷ [];
  comes = pops_more count h.backs k.back h.go (omega (arith, h.count));
  end = k.tells.end;
  ends = ends_last k.tells.end v count h.backs k.back s.print_faults t.print_faults u.print_faults r h.go h.later.prints k.tells.ends;
  calls = calls_more limits (pop_of v) h.backs k.back s.calls t.calls u.calls t.call_faults u.call_faults k.later h.calls k.calls;
  causes = caused_more (pop_of v) h.backs k.back s.call_faults t.call_faults u.call_faults h.later.calls k.later h.causes k.cause;
  output = told_on _ _ _ s.given t.given u.given t.print_faults u.print_faults k.tells.later
      (λ x y z p q. (pop_texts h.backs ++ q.0, written_more h.backs k.back x y z q.0 p q.1, last_written k.tells.end h.backs k.back q.0 q.2)) h.output k.tells.output;
  later = record { calls = omega (arith, h.later.calls, k.later); prints = omega (arith, h.later.prints, k.tells.later) };
}

pub goes_all : (limits : Limits) (v : Tree) (count n : ℕ) (s t : Side) → n ≡ count → Going limits (pop_of v) n s t → Takes (popping v count) limits Done s t
goes_all limits v count n s t e h = record {
  backs = h.backs;
  comes = pops_go count h.backs h.go (omega (arith, h.count, e));
  end = whole;
  ends = (popped_all count h.backs h.go (h.count ∙ e), sym (decided_go Done h.backs h.go));
  calls = h.calls;
  causes = h.causes;
  output = told_as _ _ s.given t.given t.print_faults (λ x y p. (pop_texts h.backs, p, refl)) h.output;
  later = h.later;
}

pub takes_lost : (limits : Limits) (v : Tree) (count : ℕ) (s : Side) → Takes (popping v count) limits Memory s s
takes_lost limits v count s = record {
  backs = [];
  comes = tt;
  end = lost;
  ends = refl;
  calls = told_same _ s.calls s.call_faults (λ x. refl);
  causes = tt;
  output = told_same _ s.given s.print_faults (λ x. ([], sym (append-nil x), front_none []));
  later = record { calls = omega arith; prints = omega arith };
}
