-- The laws of dumps, each in other words than the definitions that it is about.
use Rattle.std.specs.Prelude.{ℕ, ℤ, ◌≤◌, ◌≡◌, ◌⊎◌, ◌↔◌, List, ◌++◌, Ok, Err, length}
use Rattle.drb_tree.specs.declared.Tree.{Tree}
use Rattle.marshal_grammar.specs.declared.refusal.Why.{Why}
use Rattle.marshal_grammar.specs.declared.refusal.Refusal.{Refusal}
use Rattle.marshal_grammar.specs.Contexts.{Context, opening}
use Rattle.marshal_grammar.specs.Grammar.{Spells}
use Rattle.drb_tree.specs.Kept.{WellKept, Ranged, Fits, AreBytes}
use Rattle.marshal_grammar.specs.Spelled.{spelled, long_bytes}
use Rattle.marshal_grammar.specs.Longs.{Long}
use Rattle.marshal_grammar.specs.Dumps.{dump, Dump, Refuses, dump_of}

-- some front of the bytes is a dump
abbrev pub HasDump : List ℕ → Type 0
HasDump bs = (b rest : List ℕ) × (v : Tree) × Dump b v × (bs ≡ b ++ rest)

-- some refusal holds of the bytes
abbrev pub HasRefusal : List ℕ → Type 0
HasRefusal bs = (w : Why) × (at : ℕ) × Refuses bs w at

-- each list of bytes has a front that is a dump, or a refusal
abbrev pub SomeAnswer : Type 0
SomeAnswer = (bs : List ℕ) → HasDump bs ⊎ HasRefusal bs

-- never both
abbrev pub NeverBoth : Type 0
NeverBoth = (bs : List ℕ) → HasDump bs → HasRefusal bs → ⊥

-- one front at most is a dump, and of one value; what follows it, x or y, has no say
abbrev pub OneDump : Type 0
OneDump = (a b x y : List ℕ) (v w : Tree)
    → Dump a v → Dump b w → a ++ x ≡ b ++ y → (a ≡ b) × (v ≡ w)

-- one refusal at most holds
abbrev pub OneRefusal : Type 0
OneRefusal = (bs : List ℕ) (v w : Why) (at there : ℕ)
    → Refuses bs v at → Refuses bs w there → (v ≡ w) × (at ≡ there)

-- a dump stays a dump of the same value, whatever follows: it is what reading gives,
-- and the rest is left
abbrev pub AnyRest : Type 0
AnyRest = (b rest : List ℕ) (v : Tree)
    → Dump b v → (d : Context) × (dump_of (b ++ rest) ≡ Ok (v, d, rest))

-- reading gives a value exactly where a front of the bytes spells it
abbrev pub ReadsDumps : Type 0
ReadsDumps = (bs rest : List ℕ) (v : Tree) (d : Context)
    → (dump_of bs ≡ Ok (v, d, rest)) ↔ ((b : List ℕ) × Spells dump opening b v d × (bs ≡ b ++ rest))

-- reading refuses exactly where the grammar does
abbrev pub ReadsRefusals : Type 0
ReadsRefusals = (bs : List ℕ) (r : Refusal) → (dump_of bs ≡ Err r) ↔ Refuses bs r.why r.at

-- The written spelling of a value that fits and is well kept is a dump of it; and of bytes that begin with that spelling,
-- whatever follows it, exactly this front is a dump, and of no other value.
abbrev pub ReadsSpelled : Type 0
ReadsSpelled = (v : Tree) → WellKept v → Ranged v → Fits v
    → Dump (spelled v) v
    × ((b rest tail : List ℕ) (w : Tree) → Dump b w → spelled v ++ rest ≡ b ++ tail →
    (b ≡ spelled v) × (w ≡ v))

-- The value of a dump fits into a dump, and is well kept and ranged.
abbrev pub DumpsFit : Type 0
DumpsFit = (b : List ℕ) (v : Tree) → AreBytes b → Dump b v → Fits v × WellKept v × Ranged v

-- Of each number that has a spelling as a long, the written bytes are one, and no spelling has fewer.
abbrev pub ShortestLongs : Type 0
ShortestLongs = (b : List ℕ) (n : ℤ)
    → AreBytes b → Long b n → Long (long_bytes n) n × (length (long_bytes n) ≤ length b)
