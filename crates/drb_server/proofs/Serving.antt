-- What the words of `drbts serve` set, by what clap answers.
use Rattle.std.proofs.Common.{◌≡◌, ◌≤◌, ◌∙◌, arith, ℕ, List, [], ◌∷◌, Bool, true, false, Option, Some, None, refl, sym, ap, subst, inl, inr}
use Rattle.std.specs.Prelude.{◌⊎◌, codes, Result, Ok, Err, IfErr, IsErrAnd}
use Rattle.clap.specs.Words.{App, Row, first_of, first_value, found_of, kind_of, matches_of, rows_of, HasMatchesOf, HasKind, IsAmong}
use Rattle.clap.specs.Faults.{fault_of, is_simple_and_free}
use Rattle.clap.specs.Simple.{is_simple}
use Rattle.clap.specs.declared.error.Error.{Error}
use Rattle.clap.specs.declared.error.kind.ErrorKind.TheVariants.{OutOfMemory}
use Rattle.clap.specs.declared.parser.matches.ArgMatches.{ArgMatches}
use Rattle.clap.proofs.OnLiterals.{clap_on_literals}
use Rattle.clap.proofs.WalkLemmas.{first_value-rows}
use Rattle.drb_server.specs.Words.{Word, IsNumber, default_uri, default_load}
use Rattle.drb_server.specs.ServeWords.{serve_command, given, IsWordOr, IsNumberOr, MayBeNumber, ServeOptions, Sets, MeansServe, AreWords}

-- clap says all of the command
pub says_all : is_simple_and_free serve_command ≡ true
unfolding clap_on_literals
says_all = refl

is_simple_too : is_simple serve_command ≡ true
unfolding clap_on_literals
is_simple_too = refl

-- what an option's word sets depends on that word alone
pub sets_by : (w v : Word → Option Word) (s : ServeOptions) → ((name : Word) → w name ≡ v name) → Sets w s → Sets v s
sets_by w v s e h = record {
  uri = subst (λ (o : Option Word). IsWordOr default_uri o s.uri) (e (codes "uri")) h.uri;
  stand = h.stand;
  workers = subst (λ (o : Option Word). IsNumberOr 256 1 256 o s.workers) (e (codes "workers")) h.workers;
  turns = subst (λ (o : Option Word). IsNumberOr 18446744073709551615 1 4000000 o s.max_turns) (e (codes "max-turns")) h.turns;
  load = subst (λ (o : Option Word). IsNumberOr default_load 64 1073741823 o s.load_limit) (e (codes "load-limit")) h.load;
  sessions = subst (λ (o : Option Word). MayBeNumber 1 1000000000 o s.sessions) (e (codes "sessions")) h.sessions;
  shut_after = subst (λ (o : Option Word). MayBeNumber 1 86400000 o s.shut_after) (e (codes "shut-after")) h.shut_after;
  acl = h.acl ∙ e (codes "acl");
  journal = h.journal ∙ e (codes "journal");
}

-- the word that was found for an option is the one that the words give to it
pub found_given : (a : App) (words : List Word) (m : ArgMatches) → a ≡ serve_command → HasMatchesOf a words m → (name : Word) → first_value (found_of m) name ≡ given words name
found_given a words m is h name =
    first_value-rows (found_of m) name
    ∙ ap (first_of name) (((h (ap is_simple is ∙ is_simple_too)).0) ∙ ap (λ (b : App). matches_of b words) is)

-- where clap finds something wrong, these words mean nothing
pub refused : (a : App) (words : List Word) (e : Error) → a ≡ serve_command → (is_simple_and_free a ≡ true → HasKind (fault_of a words) e) → (kind_of e ≡ OutOfMemory) ⊎ ((s : ServeOptions) → MeansServe words s → ⊥)
refused a words e is h = go (h (ap is_simple_and_free is ∙ says_all))
  where
    go : HasKind (fault_of a words) e → (kind_of e ≡ OutOfMemory) ⊎ ((s : ServeOptions) → MeansServe words s → ⊥)
    go (inl o) = inl o
    go (inr i) = inr (λ s m. subst (IsAmong (kind_of e)) (ap (λ (b : App). fault_of b words) is ∙ m.are_words) i)

-- where it finds nothing wrong, they mean what the options set
pub taken : (a : App) (words : List Word) (m : ArgMatches) (s : ServeOptions) → a ≡ serve_command → (is_simple_and_free a ≡ true → fault_of a words ≡ []) → HasMatchesOf a words m → Sets (first_value (found_of m)) s → MeansServe words s
taken a words m s is fine h sets = record {
  are_words = ap (λ (b : App). fault_of b words) (sym is) ∙ fine (ap is_simple_and_free is ∙ says_all);
  sets = sets_by (first_value (found_of m)) (given words) s (found_given a words m is h) sets;
}

pub unset : (a : App) (words : List Word) (m : ArgMatches) → a ≡ serve_command → HasMatchesOf a words m → ((s : ServeOptions) → Sets (first_value (found_of m)) s → ⊥) → (s : ServeOptions) → MeansServe words s → ⊥
unset a words m is h none s means = none s (sets_by (given words) (first_value (found_of m)) s (λ name. sym (found_given a words m is h name)) means.sets)

-- there are 1 to 256 workers
pub workers_fit : (w : Word → Option Word) (s : ServeOptions) → Sets w s → (1 ≤ s.workers) × (s.workers ≤ 256)
workers_fit w s h = go (w (codes "workers")) h.workers
  where
    go : (o : Option Word) → IsNumberOr 256 1 256 o s.workers → (1 ≤ s.workers) × (s.workers ≤ 256)
    go None e = (omega arith, omega arith)
    go (Some word) n = (n.3, n.4)

-- an error that is handed on is the same
pub handed : {T : Type 0} (r : Result T Error) (e : Error) (G : Error → Type 0) → IsErrAnd r (λ x. x ≡ e) → G e → IfErr r G
handed (Ok x) e G is g = tt
handed (Err x) e G is g = subst G (sym is) g
