-- What a datagram is read as.
use Rattle.std.proofs.Common.{◌≡◌, ◌⊎◌, ℕ, List, ◌∙◌, ap, inl, inr}
use Rattle.std.specs.Prelude.{Ok, Err}
use Rattle.std.specs.declared.result.Result.{Result}
use Rattle.drb_tree.specs.declared.Tree.{Tree}
use Rattle.marshal_grammar.specs.declared.refusal.Why.{Why}
use Rattle.marshal_grammar.specs.Dumps.{Refuses}
use Rattle.marshal_read.specs.Dumps.{DumpOf}
use Rattle.marshal_read.specs.declared.error.ReadError.{ReadError}
use Rattle.marshal_read.specs.declared.error.ReadError.TheVariants as read
use Rattle.rinda_ring.specs.declared.lookup.Lookup.{Lookup}
use Rattle.rinda_ring.specs.declared.lookup.RingRefusal.{RingRefusal}
use Rattle.rinda_ring.specs.declared.lookup.RingRefusal.TheVariants.{Marshal, NotAPair, NotATuple}
use Rattle.rinda_ring.specs.declared.lookup.RingError.{RingError}
use Rattle.rinda_ring.specs.declared.lookup.RingError.TheVariants.{Refused, Memory}
use Rattle.rinda_ring.specs.Lookups.{Finds, Dumps, lookup_of, said}

-- what is answered where the dump was read as this
abbrev pub answer : Result (Tree × ℕ) ReadError → Result Lookup RingError
answer (Ok r) = said (lookup_of r.0)
answer (Err (read.Refused refusal)) = Err (Refused (Marshal refusal))
answer (Err read.Memory) = Err Memory

-- the reader of dumps misses nothing
abbrev pub EveryDump : List ℕ → Result (Tree × ℕ) ReadError → Type 0
EveryDump bytes r = (n : ℕ) (v : Tree) → DumpOf bytes v n → (r ≡ Ok (v, n)) ⊎ (r ≡ Err read.Memory)

abbrev pub EveryRefusal : List ℕ → Result (Tree × ℕ) ReadError → Type 0
EveryRefusal bytes r = (why : Why) (at : ℕ) → Refuses bytes why at → (r ≡ Err (read.Refused (record { why = why; at = at }))) ⊎ (r ≡ Err read.Memory)

of_dumps : (bytes : List ℕ) (r : Result (Tree × ℕ) ReadError) (found : Result Lookup RingRefusal) → EveryDump bytes r → Dumps bytes found → (answer r ≡ said found) ⊎ (answer r ≡ Err Memory)
of_dumps bytes r found h d = elim (h d.size d.value d.dump) [
  | inl e ↦ inl (ap (λ q. answer q) e ∙ ap (λ q. said q) d.is)
  | inr e ↦ inr (ap (λ q. answer q) e)
]

-- nor does what is read of a datagram
every_found : (bytes : List ℕ) (r : Result (Tree × ℕ) ReadError) (found : Result Lookup RingRefusal) → EveryDump bytes r → EveryRefusal bytes r → Finds bytes found → (answer r ≡ said found) ⊎ (answer r ≡ Err Memory)
every_found bytes r (Ok lookup) h k f = of_dumps bytes r (Ok lookup) h f
every_found bytes r (Err (Marshal refusal)) h k f = elim (k refusal.why refusal.at f) [
  | inl e ↦ inl (ap (λ q. answer q) e)
  | inr e ↦ inr (ap (λ q. answer q) e)
]
every_found bytes r (Err NotAPair) h k f = of_dumps bytes r (Err NotAPair) h f
every_found bytes r (Err NotATuple) h k f = of_dumps bytes r (Err NotATuple) h f

-- the same of an answer that is this one
pub every_lookup : (bytes : List ℕ) (r : Result (Tree × ℕ) ReadError) (result : Result Lookup RingError) → result ≡ answer r → EveryDump bytes r → EveryRefusal bytes r → (found : Result Lookup RingRefusal) → Finds bytes found → (result ≡ said found) ⊎ (result ≡ Err Memory)
every_lookup bytes r result e h k found f = elim (every_found bytes r found h k f) [
  | inl q ↦ inl (e ∙ q)
  | inr q ↦ inr (e ∙ q)
]
