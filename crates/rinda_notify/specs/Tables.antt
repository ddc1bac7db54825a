-- A table of notifiers by their ids, as a list.
use Rattle.std.specs.Prelude.{◌≡◌, ℕ, Bool, true, ◌&&◌, ◌==◌, nat_lt, List, [], ◌∷◌, map, filter}
use Rattle.std.specs.List.{list_all}
use Rattle.std.specs.Map.{values_of}
use Rattle.drb_tree.specs.declared.Tree.{Tree}
use Rattle.rinda_tuple.specs.declared.tuple.Tuple.{Tuple}
use Rattle.rinda_rules.specs.Rows.{rising}
use Rattle.rinda_notify.specs.declared.note.Note.{Note}
use Rattle.rinda_notify.specs.Notes.{listens_to, is_open}

-- each row stands at its own id
abbrev pub keyed : List (ℕ × Note) → Bool
keyed [] = true
keyed (e ∷ es) = e.0 == (e.1).id && keyed es

pub record IsTable (es : List (ℕ × Note)) : Type 0 where
  pub keyed : keyed es ≡ true
  pub rising : rising (λ n. n.id) (values_of es) ≡ true

-- all ids are below that one
abbrev pub below : ℕ → List Note → Bool
below id notes = list_all (λ n. nat_lt n.id id) notes

-- the ids of those that run and hear it, in rising id
abbrev pub listeners : Tree → Tuple → List Note → List ℕ
listeners name tuple notes = map (λ n. n.id) (filter (listens_to name tuple) notes)

-- the ids of those that run, in rising id
abbrev pub running : List Note → List ℕ
running notes = map (λ n. n.id) (filter (λ n. is_open n.state) notes)
