-- References to remote objects: docs/TEXT.md, References.
use Rattle.std.specs.Prelude.{ℕ, ℤ, ◌==◌, Bool, List, [], ◌∷◌, take, drop, codes, Result, Ok, Err, if◌then◌else◌}
use Rattle.std.specs.List.{prefix_len}
use Rattle.drb_tree.specs.declared.Code.TheVariants.{Utf8}
use Rattle.drb_tree.specs.declared.RefId.{RefId}
use Rattle.drb_tree.specs.declared.RefId.TheVariants as R
use Rattle.drb_tree.specs.declared.Remote.{Remote}
use Rattle.drb_text.specs.Bytes.{is_uri}
use Rattle.drb_text.specs.Reading.{Read, next, read_as, expect, begins}
use Rattle.drb_text.specs.Numbers.{int}

-- an id: `nil` for the front, or an integer
abbrev pub id : List ℕ → Read RefId
id bs =
    if begins 110 bs then read_as (λ _. R.Front) (expect (codes "nil") bs)
    else read_as R.Number (int bs)

-- behind the uri: a space, the id and `>`
abbrev pub id_behind : List ℕ → Read RefId
id_behind bs =
    next (expect (codes " ") bs) (λ _ rest. next (id rest) (λ i more.
    read_as (λ _. i) (expect (codes ">") more)))

-- a reference of that uri in UTF-8
abbrev pub remote_of : List ℕ → RefId → Remote
remote_of uri i = record { uri = record { bytes = uri; code = Utf8 }; id = i }

-- behind `<`: a uri, a space, an id and `>`
unfoldable pub reference : List ℕ → Read Remote
reference bs =
    let n = prefix_len is_uri bs in read_as (remote_of (take n bs)) (id_behind (drop n bs))
