use Rattle.std.proofs.Common.{◌≡◌, ℕ, ◌+◌, ◌-◌, ◌≤◌, length, arith, List, ◌++◌, take, drop, sym, ◌∙◌, ap, subst, append_assoc}
use Rattle.std.proofs.lemmas.Grind.{common_steps}
use Rattle.std.proofs.Math.Seq.{take-add}
use Rattle.std.specs.Prelude.{Ok}
use Rattle.std.specs.declared.option.Option.{Option}
use Rattle.std.specs.declared.result.Result.{Result}
use Rattle.drb_outside.specs.Records.{Record}
use Rattle.drb_outside.specs.Told.{Told, HasCause, WriteGives}
use Rattle.drb_outside.specs.Changes.{ChangesBytes}
use Rattle.drb_outside.specs.Telling.{changes_on}
use Rattle.drb_packet.specs.Writes.{GivenMore}

given_on : {E : Type 0} (bytes piece : List ℕ) (at count : ℕ) (r : Result ℕ E) (x y z : List ℕ) → piece ≡ drop at bytes → r ≡ Ok count → GivenMore (take at bytes) x y → WriteGives r piece y z → GivenMore (take (at + count) bytes) x z
given_on {E = E} bytes piece at count r x y z from is s t =
    let t' : z ≡ y ++ take count piece = subst (λ (v : Result ℕ E). WriteGives v piece y z) is t in
    t' ∙ ap (λ q. y ++ take count q) from ∙ ap (λ q. q ++ take count (drop at bytes)) s ∙ append_assoc x (take at bytes) (take count (drop at bytes)) ∙ ap (λ q. x ++ q) (sym (take-add at count bytes))

-- one write more
pub changes_write : {E : Type 0} {X : Type 0} {t : X → Option (List ℕ)} {k : X → List Record} {h f : X → ℕ} {a b c : X} (bytes piece : List ℕ) (at count : ℕ) (r : Result ℕ E) → piece ≡ drop at bytes → r ≡ Ok count → ChangesBytes t k h f a b (GivenMore (take at bytes)) → ChangesBytes t k h f b c (WriteGives r piece) → ChangesBytes t k h f a c (GivenMore (take (at + count) bytes))
changes_write bytes piece at count r from is s u = changes_on (GivenMore (take at bytes)) (WriteGives r piece) (GivenMore (take (at + count) bytes)) (λ x y z d e. given_on bytes piece at count r x y z from is d e) s u

pub rest_of : (bytes : List ℕ) (at : ℕ) → take (length bytes - at) (drop at bytes) ≡ drop at bytes
rest_of bytes at = grind (arith, common_steps)

pub stays_within : (bytes : List ℕ) (at count : ℕ) → at ≤ length bytes → count ≤ length (take (length bytes - at) (drop at bytes)) → at + count ≤ length bytes
stays_within bytes at count le h = grind (arith, common_steps)

-- what one write says, as one record
pub written_once : {X E : Type 0} (t : X → Option (List ℕ)) (k : X → List Record) (h f : X → ℕ) (a b : X) (piece : List ℕ) (r : Result ℕ E) → Told (t a) (t b) (f b) (WriteGives r piece) → Told (t a) (t b) (f b) (λ _ _. k b ≡ k a) → h b ≡ h a → HasCause (f a) (f b) r → ChangesBytes t k h f a b (WriteGives r piece)
written_once t k h f a b piece r bytes stays holds cause = record { bytes = bytes; stays = stays; holds = holds; later = cause.later }
