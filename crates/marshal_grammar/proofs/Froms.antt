-- What holds of all that a piece of the grammar spells from a context.
use Rattle.std.proofs.Common.{◌≡◌, ℕ, ◌+◌, ◌-◌, ◌≤◌, ◌<◌, List, [], ◌∷◌, ◌++◌, length, Bool, IsTrue, ℤ, pos, negsuc, refl, sym, ◌∙◌, subst}
use Rattle.std.proofs.lemmas.Bool.{leb-true}
use Rattle.std.proofs.lemmas.List.Elements.{All-nil, All-cons, All-head, All-tail}
use Rattle.drb_tree.specs.Kept.{AreBytes, max_nodes, max_pairs}
use Rattle.marshal_grammar.specs.declared.refusal.Why.{Why}
use Rattle.marshal_grammar.specs.Contexts.{Context, past}
use Rattle.marshal_grammar.specs.Grammar.{Grammar, gives, refuses, must, byte, bytes, long, context, becomes, follows, here, just_read, Spells}
use Rattle.marshal_grammar.specs.Longs.{Long}
use Rattle.marshal_grammar.specs.Counts.{not_negative, count, string, pair_count, count_nodes}

-- of bytes that spell v and lead to d, this holds
pub record From {A : Type 0} (g : Grammar A) (c : Context) (P : A → Context → Type 0) : Type 0 where
  pub holds : (bs : List ℕ) (v : A) (d : Context) → AreBytes bs → Spells g c bs v d → P v d

abbrev IsByte : ℕ → Type 0
IsByte b = b < 256

pub bytes_front : (xs ys : List ℕ) → AreBytes (xs ++ ys) → AreBytes xs
bytes_front [] ys h = All-nil IsByte
bytes_front (x ∷ xs) ys h = All-cons IsByte x xs (All-head IsByte x (xs ++ ys) h) (bytes_front xs ys (All-tail IsByte x (xs ++ ys) h))

pub bytes_back : (xs ys : List ℕ) → AreBytes (xs ++ ys) → AreBytes ys
bytes_back [] ys h = h
bytes_back (x ∷ xs) ys h = bytes_back xs ys (All-tail IsByte x (xs ++ ys) h)

-- one piece after the other
pub after : {A B : Type 0} {p : Grammar B} {q : B → Grammar A} {c : Context} {P : B → Context → Type 0} {Q : A → Context → Type 0}
    → From p c P → ((x : B) (e : Context) → P x e → From (q x) e Q) → From (follows p q) c Q
after h k = record {
  holds = λ bs v d b s.
      let a : AreBytes (s.1 ++ s.2) = subst AreBytes s.4 b in
      (k s.0 s.3 (h.holds s.1 s.0 s.3 (bytes_front s.1 s.2 a) s.5)).holds s.2 v d (bytes_back s.1 s.2 a) s.6;
}

pub weaker : {A : Type 0} {g : Grammar A} {c : Context} {P Q : A → Context → Type 0} → From g c P → ((v : A) (d : Context) → P v d → Q v d) → From g c Q
weaker h k = record { holds = λ bs v d b s. k v d (h.holds bs v d b s) }

pub gives_from : {A : Type 0} {a : A} {c : Context} {P : A → Context → Type 0} → P a c → From (gives a) c P
gives_from {a = a} {c = c} {P = P} h = record { holds = λ bs v d b s. subst (λ x. P x d) (sym s.1) (subst (λ e. P a e) (sym s.2) h) }

pub refuses_from : {A : Type 0} {w : Why} {at : ℕ} {c : Context} {P : A → Context → Type 0} → From (refuses w at) c P
refuses_from = record { holds = λ bs v d b s. absurd s }

pub must_then : {A : Type 0} {b : Bool} {w : Why} {at : ℕ} {q : Unit {0} → Grammar A} {c : Context} {Q : A → Context → Type 0}
    → (IsTrue b → From (q tt) c Q) → From (follows (must b w at) q) c Q
must_then {b = b} {q = q} {c = c} {Q = Q} k =
    after {P = λ x e. IsTrue b × (e ≡ c)} (record { holds = λ bs v d a s. (s.1, s.2) }) (λ x e h. subst (λ z. From (q x) z Q) (sym h.1) (k h.0))

pub becomes_then : {A : Type 0} {f : Context → Context} {q : Unit {0} → Grammar A} {c : Context} {Q : A → Context → Type 0}
    → From (q tt) (f c) Q → From (follows (becomes f) q) c Q
becomes_then {f = f} {q = q} {c = c} {Q = Q} k =
    after {P = λ x e. e ≡ f c} (record { holds = λ bs v d a s. s.1 }) (λ x e h. subst (λ z. From (q x) z Q) (sym h) k)

pub becomes_from : {f : Context → Context} {c : Context} {P : Unit {0} → Context → Type 0} → P tt (f c) → From (becomes f) c P
becomes_from {P = P} h = record { holds = λ bs v d a s. subst (λ z. P v z) (sym s.1) h }

pub context_then : {A : Type 0} {q : Context → Grammar A} {c : Context} {Q : A → Context → Type 0} → From (q c) c Q → From (follows context q) c Q
context_then {q = q} {c = c} {Q = Q} k =
    after {P = λ x e. (x ≡ c) × (e ≡ c)} (record { holds = λ bs v d a s. (s.1, s.2) }) (λ x e h. subst (λ z. From (q z) e Q) (sym h.0) (subst (λ z. From (q c) z Q) (sym h.1) k))

-- a number that the context tells
told_then : {A : Type 0} {f : Context → ℕ} {q : ℕ → Grammar A} {c : Context} {Q : A → Context → Type 0} → From (q (f c)) c Q → From (follows (follows context (λ x. gives (f x))) q) c Q
told_then {f = f} {q = q} {c = c} {Q = Q} k =
    after {P = λ x e. (x ≡ f c) × (e ≡ c)} (context_then (gives_from (refl, refl))) (λ x e h. subst (λ z. From (q z) e Q) (sym h.0) (subst (λ z. From (q (f c)) z Q) (sym h.1) k))

pub here_then : {A : Type 0} {q : ℕ → Grammar A} {c : Context} {Q : A → Context → Type 0} → From (q c.at) c Q → From (follows here q) c Q
here_then k = told_then k

pub just_then : {A : Type 0} {q : ℕ → Grammar A} {c : Context} {Q : A → Context → Type 0} → From (q (c.at - 1)) c Q → From (follows just_read q) c Q
just_then k = told_then k

-- only the place has changed
pub record Same (c d : Context) : Type 0 where
  pub symbols : d.symbols ≡ c.symbols
  pub objects : d.objects ≡ c.objects
  pub nodes : d.nodes ≡ c.nodes

pub same_past : (n : ℕ) (c d : Context) → d ≡ past n c → Same c d
same_past n c d e = subst (Same c) (sym e) (record { symbols = refl; objects = refl; nodes = refl })

pub same_again : {c d e : Context} → Same c d → Same d e → Same c e
same_again h k = record { symbols = k.symbols ∙ h.symbols; objects = k.objects ∙ h.objects; nodes = k.nodes ∙ h.nodes }

pub byte_from : {c : Context} → From byte c (λ b d. Same c d)
byte_from {c = c} = record { holds = λ bs v d b s. same_past 1 c d s.1 }

pub bytes_from : {n : ℕ} {c : Context} → From (bytes n) c (λ s d. AreBytes s × Same c d)
bytes_from {n = n} {c = c} = record { holds = λ bs v d b s. (subst AreBytes s.0 b, same_past n c d s.2) }

-- a long is spelled by bytes
abbrev pub IsLong : ℤ → Type 0
IsLong n = (bs : List ℕ) × AreBytes bs × Long bs n

pub long_from : {c : Context} → From long c (λ n d. IsLong n × Same c d)
long_from {c = c} = record { holds = λ bs v d b s. ((bs, b, s.0), same_past (length bs) c d s.1) }

count_of : {c d : Context} (at : ℕ) (n : ℤ) → Same c d → From (not_negative at n) d (λ n e. Same c e)
count_of at (pos n) h = gives_from h
count_of at (negsuc n) h = refuses_from

pub count_from : {c : Context} → From count c (λ n d. Same c d)
count_from {c = c} = here_then (after long_from (λ n e h. count_of c.at n h.1))

pub string_from : {c : Context} → From string c (λ s d. AreBytes s × Same c d)
string_from = after count_from (λ n e h. weaker bytes_from (λ s d k. (k.0, same_again h k.1)))

pub pair_count_from : {c : Context} → From pair_count c (λ n d. (n ≤ max_pairs) × Same c d)
pair_count_from = here_then (after count_from (λ n e h. must_then (λ m. gives_from (leb-true n max_pairs m, h))))

-- so many nodes more
pub record Counted (k : ℕ) (c d : Context) : Type 0 where
  pub symbols : d.symbols ≡ c.symbols
  pub objects : d.objects ≡ c.objects
  pub nodes : d.nodes ≡ c.nodes + k
  pub most : d.nodes ≤ max_nodes

pub nodes_from : {at k : ℕ} {c : Context} → From (count_nodes at k) c (λ x d. Counted k c d)
nodes_from {at = at} {k = k} {c = c} = context_then (must_then (λ m. becomes_from (record { symbols = refl; objects = refl; nodes = refl; most = leb-true (c.nodes + k) max_nodes m })))
