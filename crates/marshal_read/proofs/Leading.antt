-- What a piece of the grammar leaves of the symbols, whatever it reads.
use Rattle.std.proofs.Common.{◌≡◌, ℕ, ◌+◌, ◌⊎◌, inl, inr, List, [], ◌∷◌, length, Bool, true, false, ℤ, pos, negsuc, Option, Some, None, Ok, Err, refl, nat_lt}
use Rattle.std.specs.Prelude.{zero, suc, cond}
use Rattle.marshal_grammar.specs.declared.refusal.Why.{Why}
use Rattle.marshal_grammar.specs.Contexts.{Context, past, opening}
use Rattle.marshal_grammar.specs.Counts as count
use Rattle.marshal_grammar.specs.Grammar.{Grammar, gives, refuses, must, byte, bytes, long, context, becomes, within, follows, rounds, here}
use Rattle.marshal_grammar.specs.Longs.{long_of}
use Rattle.marshal_grammar.specs.Reading.{Read, read, next, long_or, inside, go_on, in_rounds}

-- the symbols of a dump so far
abbrev pub Symbols : Type 0
Symbols = List (List ℕ)

-- P holds of what was read and of the symbols then, unless it was refused
abbrev pub Holds : {A : Type 0} → (A → Symbols → Type 0) → Read A → Type 0
Holds P (Ok r) = P r.0 r.1.symbols
Holds P (Err e) = Unit {0}

-- where N holds of the symbols before, P holds of what this piece reads and of the symbols after it
pub record Leads {A : Type 0} (N : Symbols → Type 0) (g : Grammar A) (P : A → Symbols → Type 0) : Type 0 where
  pub so : (c : Context) (bs : List ℕ) → N c.symbols → Holds P (read g c bs)

-- the piece keeps N
abbrev pub Keeps : {A : Type 0} → (Symbols → Type 0) → Grammar A → Type 0
Keeps N g = Leads N g (λ _ ss. N ss)

holds_next : {A B : Type 0} (P : B → Symbols → Type 0) (Q : A → Symbols → Type 0) (r : Read B) (f : B → Context → List ℕ → Read A) → Holds P r
    → ((x : B) (d : Context) (bs : List ℕ) → P x d.symbols → Holds Q (f x d bs)) → Holds Q (next r f)
holds_next P Q (Ok r) f h k = k r.0 r.1 r.2 h
holds_next P Q (Err e) f h k = tt

pub next_leads : {A B : Type 0} {N : Symbols → Type 0} {P : B → Symbols → Type 0} {Q : A → Symbols → Type 0} {p : Grammar B} {q : B → Grammar A}
    → Leads N p P → ((x : B) → Leads (P x) (q x) Q) → Leads N (follows p q) Q
next_leads {P = P} {Q = Q} {p = p} {q = q} h k = record { so = λ c bs n. holds_next P Q (read p c bs) (λ x. read (q x)) (h.so c bs n) (λ x d rest m. (k x).so d rest m) }

pub weaker : {A : Type 0} {M : Symbols → Type 0} (N : Symbols → Type 0) {g : Grammar A} {P : A → Symbols → Type 0} → ((ss : Symbols) → M ss → N ss) → Leads N g P → Leads M g P
weaker N w h = record { so = λ c bs m. h.so c bs (w c.symbols m) }

holds_as : {A : Type 0} (P Q : A → Symbols → Type 0) (r : Read A) → ((x : A) (ss : Symbols) → P x ss → Q x ss) → Holds P r → Holds Q r
holds_as P Q (Ok r) w h = w r.0 r.1.symbols h
holds_as P Q (Err e) w h = tt

pub so_leads : {A : Type 0} {N : Symbols → Type 0} {g : Grammar A} (P : A → Symbols → Type 0) {Q : A → Symbols → Type 0} → ((x : A) (ss : Symbols) → P x ss → Q x ss) → Leads N g P → Leads N g Q
so_leads {g = g} P {Q = Q} w h = record { so = λ c bs n. holds_as P Q (read g c bs) w (h.so c bs n) }

pub gives_leads : {A : Type 0} {N : Symbols → Type 0} {a : A} {P : A → Symbols → Type 0} → ((ss : Symbols) → N ss → P a ss) → Leads N (gives a) P
gives_leads w = record { so = λ c bs n. w c.symbols n }

pub refuses_leads : {A : Type 0} {N : Symbols → Type 0} {w : Why} {at : ℕ} {P : A → Symbols → Type 0} → Leads N (refuses w at) P
refuses_leads = record { so = λ c bs n. tt }

checked : {A : Type 0} (N : Symbols → Type 0) (b : Bool) (w : Why) (at : ℕ) (q : Unit {0} → Grammar A) (P : A → Symbols → Type 0) → (b ≡ true → Leads N (q tt) P) → Leads N (follows (must b w at) q) P
checked N true w at q P h = record { so = λ c bs n. (h refl).so c bs n }
checked N false w at q P h = record { so = λ c bs n. tt }

-- what follows a test may rest on it
pub must_leads : {A : Type 0} {N : Symbols → Type 0} {b : Bool} {w : Why} {at : ℕ} {q : Unit {0} → Grammar A} {P : A → Symbols → Type 0} → (b ≡ true → Leads N (q tt) P) → Leads N (follows (must b w at) q) P
must_leads {N = N} {b = b} {w = w} {at = at} {q = q} {P = P} h = checked N b w at q P h

must_so : (N : Symbols → Type 0) (b : Bool) (w : Why) (at : ℕ) → Keeps N (must b w at)
must_so N true w at = record { so = λ c bs n. n }
must_so N false w at = record { so = λ c bs n. tt }

pub must_keeps : {N : Symbols → Type 0} {b : Bool} {w : Why} {at : ℕ} → Keeps N (must b w at)
must_keeps {N = N} {b = b} {w = w} {at = at} = must_so N b w at

byte_so : (N : Symbols → Type 0) (c : Context) (bs : List ℕ) → N c.symbols → Holds (λ _ ss. N ss) (read byte c bs)
byte_so N c [] n = tt
byte_so N c (b ∷ bs) n = n

pub byte_keeps : {N : Symbols → Type 0} → Keeps N byte
byte_keeps {N = N} = record { so = byte_so N }

choice_so : {A : Type 0} (P : A → Symbols → Type 0) (b : Bool) (r s : Read A) → Holds P r → Holds P s → Holds P (cond b r s)
choice_so P true r s h k = h
choice_so P false r s h k = k

pub bytes_keeps : {N : Symbols → Type 0} {n : ℕ} → Keeps N (bytes n)
bytes_keeps {N = N} {n = n} = record { so = λ c bs h. choice_so (λ _ ss. N ss) (nat_lt (length bs) n) _ _ tt h }

long_so : (N : Symbols → Type 0) (c : Context) (bs : List ℕ) (o : Option (ℤ × List ℕ)) → N c.symbols → Holds (λ _ ss. N ss) (long_or c bs o)
long_so N c bs None n = tt
long_so N c bs (Some r) n = n

pub long_keeps : {N : Symbols → Type 0} → Keeps N long
long_keeps {N = N} = record { so = λ c bs n. long_so N c bs (long_of bs) n }

pub context_keeps : {N : Symbols → Type 0} → Keeps N context
context_keeps = record { so = λ c bs n. n }

-- N of the context's own symbols
pub context_leads : {N : Symbols → Type 0} → Leads N context (λ c ss. N c.symbols × N ss)
context_leads = record { so = λ c bs n. (n, n) }

-- the context is another, whose symbols are known
pub becomes_leads : {N M : Symbols → Type 0} {f : Context → Context} → ((c : Context) → N c.symbols → M (f c).symbols) → Leads N (becomes f) (λ _ ss. M ss)
becomes_leads h = record { so = λ c bs n. h c n }

within_so : {A : Type 0} (N : Symbols → Type 0) (w : Why) (at : ℕ) (c : Context) (bs : List ℕ) (r : Read A) → N c.symbols → Holds (λ _ ss. N ss) (inside w at c bs r)
within_so N w at c bs (Ok r) n = n
within_so N w at c bs (Err e) n = tt

-- an inner dump has symbols of its own
pub within_keeps : {A : Type 0} {N : Symbols → Type 0} {g : Grammar A} {s : List ℕ} {w : Why} {at : ℕ} → Keeps N (within g s w at)
within_keeps {N = N} {g = g} {s = s} {w = w} {at = at} = record { so = λ c bs n. within_so N w at c bs (read g opening s) n }

-- after a round, N of what goes on, or P of what was the last
abbrev pub EitherWay : {A T : Type 0} → (T → Symbols → Type 0) → (A → Symbols → Type 0) → T ⊎ A → Symbols → Type 0
EitherWay N P (inl t) ss = N t ss
EitherWay N P (inr v) ss = P v ss

again_so : {A T : Type 0} (N : T → Symbols → Type 0) (P : A → Symbols → Type 0) (k : T → Context → List ℕ → Read A) → ((t : T) (c : Context) (bs : List ℕ) → N t c.symbols → Holds P (k t c bs))
    → (x : T ⊎ A) (c : Context) (bs : List ℕ) → EitherWay N P x c.symbols → Holds P (go_on k x c bs)
again_so N P k h (inl t) c bs n = h t c bs n
again_so N P k h (inr v) c bs n = n

rounds_so : {A T : Type 0} (N : T → Symbols → Type 0) (P : A → Symbols → Type 0) (f : T → ℕ → Grammar (T ⊎ A)) → ((t : T) (b : ℕ) → Leads (N t) (f t b) (EitherWay N P))
    → (n : ℕ) (t : T) (c : Context) (bs : List ℕ) → N t c.symbols → Holds P (in_rounds (λ u b. read (f u b)) n t c bs)
rounds_so N P f h zero t c bs n = tt
rounds_so N P f h (suc m) t c [] n = tt
rounds_so N P f h (suc m) t c (b ∷ bs) n =
    holds_next (EitherWay N P) P (read (f t b) (past 1 c) bs) (go_on (in_rounds (λ u a. read (f u a)) m)) ((h t b).so (past 1 c) bs n)
    (again_so N P (in_rounds (λ u a. read (f u a)) m) (rounds_so N P f h m))

pub rounds_lead : {A T : Type 0} (N : T → Symbols → Type 0) {P : A → Symbols → Type 0} {f : T → ℕ → Grammar (T ⊎ A)} {t : T} → ((u : T) (b : ℕ) → Leads (N u) (f u b) (EitherWay N P)) → Leads (N t) (rounds f t) P
rounds_lead N {P = P} {f = f} {t = t} h = record { so = λ c bs n. rounds_so N P f h (length bs + 1) t c bs n }

-- longs, counts, and strings of bytes
not_negative_keeps : (N : Symbols → Type 0) (at : ℕ) (n : ℤ) → Keeps N (count.not_negative at n)
not_negative_keeps N at (pos n) = gives_leads (λ ss h. h)
not_negative_keeps N at (negsuc n) = refuses_leads

pub here_then : {A : Type 0} {N : Symbols → Type 0} {q : ℕ → Grammar A} {P : A → Symbols → Type 0} → ((at : ℕ) → Leads N (q at) P) → Leads N (follows here q) P
here_then h = next_leads (next_leads context_keeps (λ c. gives_leads (λ ss n. n))) h

pub count_keeps : {N : Symbols → Type 0} → Keeps N count.count
count_keeps {N = N} = here_then (λ at. next_leads long_keeps (λ n. not_negative_keeps N at n))

pub string_keeps : {N : Symbols → Type 0} → Keeps N count.string
string_keeps = next_leads count_keeps (λ n. bytes_keeps)

pub pair_count_keeps : {N : Symbols → Type 0} → Keeps N count.pair_count
pair_count_keeps = here_then (λ at. next_leads count_keeps (λ n. must_leads (λ _. gives_leads (λ ss h. h))))

pub count_nodes_keeps : {N : Symbols → Type 0} (at k : ℕ) → Keeps N (count.count_nodes at k)
count_nodes_keeps at k = next_leads context_keeps (λ c. must_leads (λ _. becomes_leads (λ _ h. h)))
