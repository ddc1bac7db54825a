-- Numbers of values under a secret: SipHash-1-3. docs/DECISIONS.md, Tables of the space.
use Rattle.std.specs.Prelude.{ℕ, ◌+◌, ◌*◌, ◌%◌, ◌^◌, List, [], ◌∷◌}
use Rattle.std.specs.Int.{w64, to_le_bytes}
use Rattle.std.specs.Hash.DefaultHasher as sip
use Rattle.rinda_marks.specs.declared.secret.Secret.{Secret}

-- the secret of two words: a hasher that has read them
abbrev pub keyed : ℕ → ℕ → Secret
keyed first second = record {
  start = sip.write (sip.write sip.initial (to_le_bytes w64 first)) (to_le_bytes w64 second);
}

-- the number of these bytes and of the kind of value that they spell
unfoldable pub hash_of : Secret → ℕ → List ℕ → ℕ
hash_of secret kind bytes = sip.finish (sip.write (sip.write secret.start bytes) (kind ∷ []))

-- one number of two
unfoldable pub both : ℕ → ℕ → ℕ
both first next = (first * 0x9e37_79b9_7f4a_7c15 % 2 ^ 64 + next) % 2 ^ 64
