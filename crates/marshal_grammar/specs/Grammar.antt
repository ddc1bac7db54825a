-- The pieces that the grammar is made of. Each piece says which bytes spell what, and which refusal it meets where.
use Rattle.std.specs.Prelude.{ℕ, zero, suc, ◌≡◌, ◌+◌, ◌-◌, ◌<◌, ◌⊎◌, List, [], ◌∷◌, ◌++◌, length, Bool, false, IsTrue, ℤ}
use Rattle.std.proofs.Common.{inl, inr}
use Rattle.marshal_grammar.specs.declared.refusal.Why.{Why}
use Rattle.marshal_grammar.specs.declared.refusal.Why.TheVariants as why
use Rattle.marshal_grammar.specs.declared.refusal.Refusal.{Refusal}
use Rattle.marshal_grammar.specs.Longs.{Long, NoLong}
use Rattle.marshal_grammar.specs.Contexts.{Context, opening, past}

-- A piece of the grammar, whose bytes spell an A. The pieces are: no bytes, for something that is known; no bytes at all, a refusal
-- for a reason at a place; no bytes, where a test holds, else such a refusal; one byte; so many bytes; a long; no bytes, for the
-- context that is reached; no bytes, and a change of the context's tables or count; no bytes, where other bytes begin with another
-- piece, else a refusal; one piece after another, which may depend on it; and rounds, each beginning with a byte, up to the last.
pub data Grammar : Type 0 → Type 1 where
  gives : {A : Type 0} → A → Grammar A
  refuses : {A : Type 0} → Why → ℕ → Grammar A
  must : Bool → Why → ℕ → Grammar (Unit {0})
  byte : Grammar ℕ
  bytes : ℕ → Grammar (List ℕ)
  long : Grammar ℤ
  context : Grammar Context
  becomes : (Context → Context) → Grammar (Unit {0})
  within : {A : Type 0} → Grammar A → List ℕ → Why → ℕ → Grammar A
  follows : {A B : Type 0} → Grammar B → (B → Grammar A) → Grammar A
  rounds : {A S : Type 0} → (S → ℕ → Grammar (S ⊎ A)) → S → Grammar A

-- From a context, these bytes spell this, and lead to another context.
abbrev pub Spelling : Type 0 → Type 1
Spelling A = Context → List ℕ → A → Context → Type 0

-- From a context, these bytes meet this refusal.
abbrev pub Refusing : Type 1
Refusing = Context → List ℕ → Refusal → Type 0

-- some front of the bytes spells v
abbrev pub Front : {A : Type 0} → Spelling A → Context → List ℕ → A → Type 0
Front S c bs v = (b rest : List ℕ) × (d : Context) × S c b v d × (bs ≡ b ++ rest)

-- the bytes spell v in n rounds: each begins with a byte, and all but the last lead to another round
abbrev pub InRounds : {A S : Type 0} → (S → ℕ → Spelling (S ⊎ A)) → ℕ → S → Spelling A
InRounds Round zero s c bs v d = ⊥
InRounds {S = S} Round (suc n) s c bs v d = (b : ℕ) × (more : List ℕ) × (bs ≡ b ∷ more)
    × (Round s b (past 1 c) more (inr v) d
    ⊎ ((t : S) × (these rest : List ℕ) × (e : Context) × (more ≡ these ++ rest)
    × Round s b (past 1 c) these (inl t) e × InRounds Round n t e rest v d))

-- These bytes spell v from context c, and lead to context d.
abbrev pub Spells : {A : Type 0} → Grammar A → Spelling A
Spells (gives a) c bs v d = (bs ≡ []) × (v ≡ a) × (d ≡ c)
Spells (refuses w at) c bs v d = ⊥
Spells (must b w at) c bs v d = (bs ≡ []) × IsTrue b × (d ≡ c)
Spells byte c bs v d = (bs ≡ v ∷ []) × (d ≡ past 1 c)
Spells (bytes n) c bs v d = (bs ≡ v) × (length v ≡ n) × (d ≡ past n c)
Spells long c bs v d = Long bs v × (d ≡ past (length bs) c)
Spells context c bs v d = (bs ≡ []) × (v ≡ c) × (d ≡ c)
Spells (becomes f) c bs v d = (bs ≡ []) × (d ≡ f c)
Spells (within g s w at) c bs v d = (bs ≡ []) × Front (Spells g) opening s v × (d ≡ c)
Spells (follows {B = B} p q) c bs v d = (x : B) × (these rest : List ℕ) × (e : Context)
    × (bs ≡ these ++ rest) × Spells p c these x e × Spells (q x) e rest v d
Spells (rounds f s) c bs v d = (n : ℕ) × InRounds (λ t b. Spells (f t b)) n s c bs v d

-- r is this reason at this place
abbrev pub Is : Refusal → Why → ℕ → Type 0
Is r w at = r ≡ record { why = w; at = at }

-- a byte is missing: the place is the end of the bytes
abbrev pub IsShort : Context → List ℕ → Refusal → Type 0
IsShort c bs r = Is r why.Short (c.at + length bs)

-- some front of the bytes spells something, and the bytes after it meet the refusal
abbrev pub After : {A : Type 0} → Spelling A → (A → Refusing) → Refusing
After {A = A} S Next c bs r = (x : A) × (these rest : List ℕ) × (e : Context) × (bs ≡ these ++ rest)
    × S c these x e × Next x e rest r

-- no front of the bytes spells anything
abbrev pub NoFront : {A : Type 0} → Spelling A → Context → List ℕ → Type 0
NoFront {A = A} S c bs = (v : A) → Front S c bs v → ⊥

-- the refusal is met in one of n rounds, and those before it are spelled; a round's first byte may be missing
abbrev pub MeetsInRounds : {A S : Type 0} → (S → ℕ → Spelling (S ⊎ A)) → (S → ℕ → Refusing) → ℕ →
    S → Refusing
MeetsInRounds Round Meet zero s c bs r = ⊥
MeetsInRounds {S = S} Round Meet (suc n) s c bs r = ((bs ≡ []) × IsShort c bs r)
    ⊎ ((b : ℕ) × (more : List ℕ) × (bs ≡ b ∷ more)
    × (Meet s b (past 1 c) more r
    ⊎ ((t : S) × (these rest : List ℕ) × (e : Context) × (more ≡ these ++ rest)
    × Round s b (past 1 c) these (inl t) e × MeetsInRounds Round Meet n t e rest r)))

-- From a context, these bytes meet this refusal: all before its place is spelled.
abbrev pub Meets : {A : Type 0} → Grammar A → Refusing
Meets (gives a) c bs r = ⊥
Meets (refuses w at) c bs r = Is r w at
Meets (must b w at) c bs r = (b ≡ false) × Is r w at
Meets byte c bs r = (bs ≡ []) × IsShort c bs r
Meets (bytes n) c bs r = (length bs < n) × IsShort c bs r
Meets long c bs r = NoLong bs × IsShort c bs r
Meets context c bs r = ⊥
Meets (becomes f) c bs r = ⊥
Meets (within g s w at) c bs r = NoFront (Spells g) opening s × Is r w at
Meets (follows p q) c bs r = Meets p c bs r ⊎ After (Spells p) (λ x. Meets (q x)) c bs r
Meets (rounds f s) c bs r =
    (n : ℕ) × MeetsInRounds (λ t b. Spells (f t b)) (λ t b. Meets (f t b)) n s c bs r

-- one piece after the other
infixl 10 ◌>>=◌
abbrev pub ◌>>=◌ : {A B : Type 0} → Grammar B → (B → Grammar A) → Grammar A
p >>= q = follows p q

-- one piece after another that does not depend on it
infixl 10 ◌>>◌
abbrev pub ◌>>◌ : {A B : Type 0} → Grammar B → Grammar A → Grammar A
p >> q = follows p (λ x. q)

-- the place reached
abbrev pub here : Grammar ℕ
here = do
  c ← context
  gives c.at

-- the place of the byte that was read last
abbrev pub just_read : Grammar ℕ
just_read = do
  c ← context
  gives (c.at - 1)
