-- Requests as a list in rising id: which of them a tuple serves, and how one of them changes. docs/SPACE.md, Phases and
-- Cases.
use Rattle.std.specs.Prelude.{ℕ, Bool, true, not, ◌&&◌, ◌||◌, nat_lt, List, map, filter, find, Option, Some, None}
use Rattle.std.specs.List.{list_all}
use Rattle.std.specs.Option.{option_map}
use Rattle.rinda_tuple.specs.declared.tuple.Tuple.{Tuple}
use Rattle.rinda_tuple.specs.Matching.{matches}
use Rattle.drb_tree.specs.declared.Remote.{Remote}
use Rattle.rinda_rules.specs.declared.object.Doubt.{Doubt}
use Rattle.rinda_rules.specs.declared.row.RequestState.{RequestState}
use Rattle.rinda_rules.specs.declared.plain.Request.{Request}
use Rattle.rinda_rules.specs.Rows.{row_of, changed, without}
use Rattle.rinda_rules.specs.Space.{is_reserved, is_parked, is_read, is_waiting}
use Rattle.rinda_rules.specs.Cases.{asked_doubt}

-- the request with that id
abbrev pub request_of : ℕ → List Request → Option Request
request_of id requests = row_of (λ r. r.id) id requests

-- the requests, with that one changed
abbrev pub with_changed : ℕ → (Request → Request) → List Request → List Request
with_changed id change requests = changed (λ r. r.id) id change requests

-- the requests without that one
abbrev pub without_request : ℕ → List Request → List Request
without_request id requests = without (λ r. r.id) id requests

-- all ids are below that one
abbrev pub are_below : ℕ → List Request → Bool
are_below id requests = list_all (λ r. nat_lt r.id id) requests

-- it was canceled before it was submitted
abbrev pub canceled : Request → Request
canceled r = record r { marked = true }

-- its renewer, which had to be asked, is being asked
abbrev pub asked : Request → Request
asked r = record r { doubt = asked_doubt r.doubt }

-- it is marked, or is not
abbrev pub marked_as : Bool → Request → Request
marked_as marked r = record r { marked = marked }

-- it is doubted so
abbrev pub doubted_as : Doubt → Request → Request
doubted_as doubt r = record r { doubt = doubt }

-- it has that lease, and is doubted so
abbrev pub leased : Option ℕ → Option Remote → Doubt → Request → Request
leased deadline renewer doubt r =
    record r { deadline = deadline; renewer = renewer; doubt = doubt }

-- the state of the request, if there is one, and else that one
abbrev pub state_or : RequestState → Option Request → RequestState
state_or state None = state
state_or state (Some r) = r.state

-- the renewer of the request, if there is one, and else that one
abbrev pub renewer_or : Option Remote → Option Request → Option Remote
renewer_or renewer None = renewer
renewer_or renewer (Some r) = r.renewer

-- Serving.

-- it is parked and not doubted, and its pattern matches the tuple
abbrev pub waits_for : Tuple → Request → Bool
waits_for tuple r = is_waiting r && matches r.pattern tuple

-- it waits to read the tuple
abbrev pub reads : Tuple → Request → Bool
reads tuple r = is_read r.kind && waits_for tuple r

-- it waits to take or to hold the tuple
abbrev pub takes : Tuple → Request → Bool
takes tuple r = not (is_read r.kind) && waits_for tuple r

-- the ids of all that wait to read the tuple
abbrev pub readers_of : Tuple → List Request → List ℕ
readers_of tuple requests = map (λ r. r.id) (filter (reads tuple) requests)

-- the id of the first that waits to take or to hold the tuple
abbrev pub taker_of : Tuple → List Request → Option ℕ
taker_of tuple requests = option_map (λ r. r.id) (find (takes tuple) requests)

-- it may still be served: it is reserved or parked
abbrev pub is_open : Request → Bool
is_open r = is_reserved r.state || is_parked r.state

-- the ids of all that may still be served
abbrev pub open_ids : List Request → List ℕ
open_ids requests = map (λ r. r.id) (filter is_open requests)
