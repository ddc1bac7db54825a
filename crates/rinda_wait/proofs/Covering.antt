-- Each request that a tuple serves lies where the tuple meets requests.
use Rattle.std.proofs.Common.{◌≡◌, ℕ, Bool, true, false, not, ◌&&◌, ◌||◌, Option, Some, None, refl, sym, ◌∙◌, ap, arith}
use Rattle.std.specs.Prelude.{◌==◌, IfSome}
use Rattle.std.specs.List.{list_any}
use Rattle.std.proofs.lemmas.Bool.Decides.{nat_tests}
use Rattle.rinda_tuple.specs.declared.tuple.Tuple.{Tuple}
use Rattle.rinda_tuple.specs.Matching.{matches}
use Rattle.rinda_rules.specs.declared.plain.Request.{Request}
use Rattle.rinda_rules.specs.Space.{is_read, is_parked, is_doubted}
use Rattle.rinda_marks.specs.declared.secret.Secret.{Secret}
use Rattle.rinda_marks.specs.Marks.{marks_of, fixed_by, best, listed}
use Rattle.rinda_marks.proofs.Marking.{matched-has-best}
use Rattle.rinda_wait.specs.Waiting.{reads, takes}
use Rattle.rinda_wait.specs.Probes.{place, place_in, place_at, probes}
use Rattle.rinda_wait.proofs.Searching.{lies_there, Covers}

is_same : (n m : ℕ) → (n == m) ≡ true → n ≡ m
is_same n m e = grind (arith, nat_tests)

front : (a b c : Bool) → a ≡ true → (a || (b || c)) ≡ true
front a b c e = grind arith

middle : (a b c : Bool) → b ≡ true → (a || (b || c)) ≡ true
middle a b c e = grind arith

end : (a b c : Bool) → c ≡ true → (a || (b || c)) ≡ true
end a b c e = grind arith

-- the place is one of these
abbrev pub there : ℕ → Option ℕ → Bool
there n None = false
there n (Some m) = n == m

here : (n m : ℕ) → n ≡ m → there n (Some m) ≡ true
here n m e = grind (arith, nat_tests)

-- it is one of the two marks
abbrev has_mark_in : ℕ → Option ℕ → Option ℕ → Bool
has_mark_in m first second = list_any (λ k. k == m) (listed first second)

-- it is the place of one of the two marks, or of none
among : (side : Bool) (n : ℕ) (best first second : Option ℕ) → n ≡ place side best → IfSome best (λ m. has_mark_in m first second ≡ true) → (there n (place_at side second) || (there n (place_at side first) || there n (Some (place side None)))) ≡ true
among side n None first second e h = end (there n (place_at side second)) (there n (place_at side first)) (there n (Some (place side None))) (here n (place side None) e)
among side n (Some m) None second e h = cc
among side n (Some m) (Some f) None e h = middle false (there n (Some (place side (Some f)))) (there n (Some (place side None))) (here n (place side (Some f)) (e ∙ ap (λ (k : ℕ). place side (Some k)) (sym (is_same f m (one (f == m) h)))))
  where
    one : (a : Bool) → (a || false) ≡ true → a ≡ true
    one a h = grind arith
among side n (Some m) (Some f) (Some s) e h = by_tests (f == m) (s == m) refl refl h
  where
    by_tests : (a b : Bool) → f == m ≡ a → s == m ≡ b → (a || (b || false)) ≡ true → (there n (Some (place side (Some s))) || (there n (Some (place side (Some f))) || there n (Some (place side None)))) ≡ true
    by_tests true b x y h = middle (there n (Some (place side (Some s)))) (there n (Some (place side (Some f)))) (there n (Some (place side None))) (here n (place side (Some f)) (e ∙ ap (λ (k : ℕ). place side (Some k)) (sym (is_same f m x))))
    by_tests false true x y h = front (there n (Some (place side (Some s)))) (there n (Some (place side (Some f)))) (there n (Some (place side None))) (here n (place side (Some s)) (e ∙ ap (λ (k : ℕ). place side (Some k)) (sym (is_same s m y))))
    by_tests false false x y h = cc

lies-is : (p : Request → ℕ) (o : Option ℕ) (t : Request) → lies_there p o t ≡ there (p t) o
lies-is p None t = refl
lies-is p (Some m) t = refl

any-of : (a b c x y z : Bool) → a ≡ x → b ≡ y → c ≡ z → (x || (y || z)) ≡ true → (a || (b || c)) ≡ true
any-of a b c x y z e f g h = cc

-- each that suits, where those that suit are of one side and match the tuple
covers : (q : Request → Bool) (secret : Secret) (tuple : Tuple) (side : Bool) → ((t : Request) → q t ≡ true → is_read t.kind ≡ side) → ((t : Request) → q t ≡ true → matches t.pattern tuple ≡ true) → Covers q (place_in secret) (probes secret tuple side).both (probes secret tuple side).first (probes secret tuple side).any
covers q secret tuple side sides fits t e =
    any-of _ _ _ _ _ _
    (lies-is (place_in secret) (place_at side (marks_of secret tuple).second) t)
    (lies-is (place_in secret) (place_at side (marks_of secret tuple).first) t)
    (lies-is (place_in secret) (Some (place side None)) t)
    (among side (place_in secret t) (best (fixed_by secret t.pattern)) (marks_of secret tuple).first (marks_of secret tuple).second
    (ap (λ (b : Bool). place b (best (fixed_by secret t.pattern))) (sides t e))
    (matched-has-best secret t.pattern tuple (fits t e)))

first-of : (a b c d : Bool) → (a && ((b && c) && d)) ≡ true → a ≡ true
first-of a b c d h = grind arith

last-of : (a b c d : Bool) → (a && ((b && c) && d)) ≡ true → d ≡ true
last-of a b c d h = grind arith

not-true : (a : Bool) → not a ≡ true → a ≡ false
not-true a e = grind arith

pub covers-reads : (secret : Secret) (tuple : Tuple) → Covers (reads tuple) (place_in secret) (probes secret tuple true).both (probes secret tuple true).first (probes secret tuple true).any
covers-reads secret tuple =
    covers (reads tuple) secret tuple true
    (λ t e. first-of (is_read t.kind) (is_parked t.state) (not (is_doubted t.doubt)) (matches t.pattern tuple) e)
    (λ t e. last-of (is_read t.kind) (is_parked t.state) (not (is_doubted t.doubt)) (matches t.pattern tuple) e)

pub covers-takes : (secret : Secret) (tuple : Tuple) → Covers (takes tuple) (place_in secret) (probes secret tuple false).both (probes secret tuple false).first (probes secret tuple false).any
covers-takes secret tuple =
    covers (takes tuple) secret tuple false
    (λ t e. not-true (is_read t.kind) (first-of (not (is_read t.kind)) (is_parked t.state) (not (is_doubted t.doubt)) (matches t.pattern tuple) e))
    (λ t e. last-of (not (is_read t.kind)) (is_parked t.state) (not (is_doubted t.doubt)) (matches t.pattern tuple) e)
