-- The words of `drbts stdio` as they are read, option by option.
use Rattle.std.specs.Prelude.{◌≡◌, ℕ, List, [], ◌∷◌, ◌++◌, ◌↔◌, Bool, true, false, Option, Some, None, option_to_list}
use Rattle.drb_server.specs.Words.{Word, Setting, SpellAll, IsOnly, uris, caps, loads, Options, default_uri, default_turns, default_load}

-- what was named so far
pub record Named : Type 0 where
  pub uri : Option Word
  pub turns : Option ℕ
  pub load : Option ℕ

abbrev pub named : Option Word → Option ℕ → Option ℕ → Named
named u n m = record { uri = u; turns = n; load = m }

-- with what was named before, the words that follow set this
pub record Sets (words : List Word) (before : Named) (o : Options) : Type 0 where
  pub settings : List Setting
  pub spell : SpellAll settings words
  pub uri : IsOnly default_uri (option_to_list before.uri ++ uris settings) o.uri
  pub turns : IsOnly default_turns (option_to_list before.turns ++ caps settings) o.max_turns
  pub load : IsOnly default_load (option_to_list before.load ++ loads settings) o.load_limit

-- The option was taken: whatever follows sets the same as before. Or it was not, and then these words set nothing,
-- whatever follows.
abbrev pub Takes : Word → Word → Named → Named → Bool → Type 0
Takes name word before after true = (words : List Word) (o : Options) →
    Sets (name ∷ word ∷ words) before o ↔ Sets words after o
Takes name word before after false = (words : List Word) (o : Options) →
    Sets (name ∷ word ∷ words) before o → ⊥
