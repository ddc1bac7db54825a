-- The words of `drbts serve`, and what they set: docs/SESSIONS.md, The command serve.
use Rattle.std.specs.Prelude.{◌≡◌, ℕ, Bool, true, false, Option, Some, None, List, [], ◌∷◌, ◌++◌, codes, decimal, option_copied}
use Rattle.clap.specs.Words.{App, Rule, first_of, matches_of, new_app, new_rule, with_rule}
use Rattle.clap.specs.Faults.{fault_of}
use Rattle.drb_server.specs.declared.serve_words.ServeSetup.{ServeSetup}
use Rattle.drb_server.specs.Words.{Word, IsNumber, IsPlace, default_uri, default_load}

-- an option: `--`, its name, and one word that it takes
abbrev pub option : Word → Rule
option name = record (new_rule name) { long = Some name; value_names = 1 }

-- the command and its options, as clap reads them
abbrev pub serve_command : App
serve_command = with_rule (with_rule (with_rule (with_rule (with_rule (with_rule (with_rule
    (with_rule (new_app (codes "serve")) (option (codes "uri"))) (option (codes "workers")))
    (option (codes "max-turns"))) (option (codes "load-limit"))) (option (codes "sessions")))
    (option (codes "shut-after"))) (option (codes "acl"))) (option (codes "journal"))

-- clap finds nothing wrong with these words
abbrev pub AreWords : List Word → Type 0
AreWords words = fault_of serve_command words ≡ []

-- the word that they give to an option, where they name it
abbrev pub given : List Word → Word → Option Word
given words name = first_of name (matches_of serve_command words)

-- all that is set: the server's uri, and whether the system picks its port; how many guests are served at once; how many
-- turns there may be; the load limit in bytes; how many guests are served in all, after how many milliseconds the space is
-- shut, the file with the access list, and the file that the history is written to, where these are named
pub record ServeOptions : Type 0 where
  pub uri : Word
  pub picks : Bool
  pub workers : ℕ
  pub max_turns : ℕ
  pub load_limit : ℕ
  pub sessions : Option ℕ
  pub shut_after : Option ℕ
  pub acl : Option Word
  pub journal : Option Word

abbrev pub serve_options : ServeSetup → ServeOptions
serve_options x = record {
  uri = x.uri.now;
  picks = x.picks;
  workers = x.workers;
  max_turns = x.max_turns;
  load_limit = x.load_limit;
  sessions = x.sessions;
  shut_after = x.shut_after;
  acl = option_copied x.acl;
  journal = option_copied x.journal;
}

-- the uri with the port that the system picked
abbrev pub with_port : Word → ℕ → Word
with_port front port = front ++ (codes ":" ++ decimal port)

-- a uri; or one with the port 0, where the system picks one
abbrev pub IsStand : Bool → Word → Type 0
IsStand false word = IsPlace word
IsStand true word = (IsPlace word → ⊥)
    × ((front : Word) × (word ≡ front ++ codes ":0") × IsPlace (with_port front 1))

-- the uri that clients use of a server at this port: the one that was named, or that with the port in place of the 0
abbrev pub IsUriAt : Bool → Word → ℕ → Word → Type 0
IsUriAt false named port uri = uri ≡ named
IsUriAt true named port uri = (front : Word) → named ≡ front ++ codes ":0" → uri ≡ with_port front port

-- what the word of an option sets, or the default where it isn't named

abbrev pub IsWordOr : Word → Option Word → Word → Type 0
IsWordOr default None word = word ≡ default
IsWordOr default (Some given) word = word ≡ given

abbrev pub IsNumberOr : ℕ → ℕ → ℕ → Option Word → ℕ → Type 0
IsNumberOr default least greatest None n = n ≡ default
IsNumberOr default least greatest (Some word) n = IsNumber least greatest word n

abbrev pub MayBeNumber : ℕ → ℕ → Option Word → Option ℕ → Type 0
MayBeNumber least greatest None set = set ≡ None
MayBeNumber least greatest (Some word) None = ⊥
MayBeNumber least greatest (Some word) (Some n) = IsNumber least greatest word n

-- the words of the options set this
pub record Sets (word : Word → Option Word) (s : ServeOptions) : Type 0 where
  pub uri : IsWordOr default_uri (word (codes "uri")) s.uri
  pub stand : IsStand s.picks s.uri
  pub workers : IsNumberOr 256 1 256 (word (codes "workers")) s.workers
  pub turns : IsNumberOr 18446744073709551615 1 4000000 (word (codes "max-turns")) s.max_turns
  pub load : IsNumberOr default_load 64 1073741823 (word (codes "load-limit")) s.load_limit
  pub sessions : MayBeNumber 1 1000000000 (word (codes "sessions")) s.sessions
  pub shut_after : MayBeNumber 1 86400000 (word (codes "shut-after")) s.shut_after
  pub acl : s.acl ≡ word (codes "acl")
  pub journal : s.journal ≡ word (codes "journal")

-- The words are those of the command, and this is what they set.
pub record MeansServe (words : List Word) (s : ServeOptions) : Type 0 where
  pub are_words : AreWords words
  pub sets : Sets (given words) s
