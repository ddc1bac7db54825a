-- The words of `drbts stdio`, and what they set: docs/SESSIONS.md, The command.
use Rattle.std.specs.Prelude.{◌≡◌, ℕ, ◌≤◌, List, [], ◌∷◌, length, codes}
use Rattle.std.specs.Str.Parse.{IsNumeral, digits_value}
use Rattle.drb_ref.specs.Uris.{IsUri}

-- a word, by its bytes
abbrev pub Word : Type 0
Word = List ℕ

-- what one option sets: the server's uri, how many turns there may be, or the load limit in bytes
pub data Setting : Type 0 where
  uri : Word → Setting
  max_turns : ℕ → Setting
  load_limit : ℕ → Setting

-- a number from the least to the greatest, in 1 to 10 digits
abbrev pub IsNumber : ℕ → ℕ → Word → ℕ → Type 0
IsNumber least greatest word n = IsNumeral 10 word × (length word ≤ 10)
    × (digits_value 10 word ≡ n) × (least ≤ n) × (n ≤ greatest)

-- a uri, of any host and port
abbrev pub IsPlace : Word → Type 0
IsPlace word = (host : List ℕ) × (port : ℕ) × IsUri word host port

-- the two words of an option: its name, and what it sets
abbrev pub Spells : Setting → Word → Word → Type 0
Spells (uri u) name word = (name ≡ codes "--uri") × (word ≡ u) × IsPlace u
Spells (max_turns n) name word = (name ≡ codes "--max-turns") × IsNumber 1 4000000 word n
Spells (load_limit n) name word = (name ≡ codes "--load-limit") × IsNumber 64 1073741823 word n

-- the words are those of the options, one after the other
abbrev pub SpellAll : List Setting → List Word → Type 0
SpellAll [] words = words ≡ []
SpellAll (s ∷ settings) [] = ⊥
SpellAll (s ∷ settings) (name ∷ []) = ⊥
SpellAll (s ∷ settings) (name ∷ word ∷ words) = Spells s name word × SpellAll settings words

-- what each option sets, wherever it stands

abbrev pub uris : List Setting → List Word
uris [] = []
uris (uri u ∷ settings) = u ∷ uris settings
uris (max_turns n ∷ settings) = uris settings
uris (load_limit n ∷ settings) = uris settings

abbrev pub caps : List Setting → List ℕ
caps [] = []
caps (uri u ∷ settings) = caps settings
caps (max_turns n ∷ settings) = n ∷ caps settings
caps (load_limit n ∷ settings) = caps settings

abbrev pub loads : List Setting → List ℕ
loads [] = []
loads (uri u ∷ settings) = loads settings
loads (max_turns n ∷ settings) = loads settings
loads (load_limit n ∷ settings) = n ∷ loads settings

-- it is the only one of these, or the default where there is none
abbrev pub IsOnly : {A : Type 0} → A → List A → A → Type 0
IsOnly default [] a = a ≡ default
IsOnly default (x ∷ []) a = a ≡ x
IsOnly default (x ∷ y ∷ more) a = ⊥

-- all that is set: the server's uri, how many turns there may be, and the load limit in bytes
pub record Options : Type 0 where
  pub uri : Word
  pub max_turns : ℕ
  pub load_limit : ℕ

abbrev pub options : Word → ℕ → ℕ → Options
options u n m = record { uri = u; max_turns = n; load_limit = m }

-- Where no option says otherwise.

abbrev pub default_uri : Word
default_uri = codes "druby://127.0.0.1:8787"

abbrev pub default_turns : ℕ
default_turns = 4000000

abbrev pub default_load : ℕ
default_load = 26214400

-- The words are `stdio` and then options in any order, each at most once, and this is what they set.
pub record Means (words : List Word) (o : Options) : Type 0 where
  pub settings : List Setting
  pub rest : List Word
  pub begins : words ≡ codes "stdio" ∷ rest
  pub spell : SpellAll settings rest
  pub uri : IsOnly default_uri (uris settings) o.uri
  pub turns : IsOnly default_turns (caps settings) o.max_turns
  pub load : IsOnly default_load (loads settings) o.load_limit
