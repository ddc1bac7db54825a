-- What each command asks of a server: docs/CLIENT.md, Commands.
use Rattle.std.specs.Prelude.{◌≡◌, ℕ, zero, suc, ℤ, ◌&&◌, ◌||◌, List, [], ◌∷◌, map, Bool, true, false, ⊤, Option, None, Some, bytes_eq, codes}
use Rattle.drb_tree.specs.declared.Code.TheVariants.{Utf8}
use Rattle.drb_tree.specs.declared.Text.{Text}
use Rattle.drb_tree.specs.declared.RefId.TheVariants as R
use Rattle.drb_tree.specs.declared.Remote.{Remote}
use Rattle.drb_tree.specs.declared.Tree.{Tree}
use Rattle.drb_tree.specs.declared.Tree.TheViews.{out-Tree}
use Rattle.drb_tree.specs.declared.Tree.TheOpen.{Tree-F}
use Rattle.drb_tree.specs.Trees.{int_tree}
use Rattle.drb_back.specs.declared.back.Back.{Back}
use Rattle.drb_back.specs.declared.back.Back.TheVariants as back
use Rattle.rinda_proxy.specs.declared.asking.Asking.{Asking}
use Rattle.rinda_proxy.specs.declared.asking.Asking.TheVariants.{Write, Read, ReadAll, Watch}

-- a request: whom it calls, the method's name, and the arguments
pub record Ask : Type 0 where
  pub to : Remote
  pub name : List ℕ
  pub args : List Tree

abbrev pub ask : Remote → List ℕ → List Tree → Ask
ask to name args = record { to = to; name = name; args = args }

-- a request that was made, with what came of it
pub record Asked : Type 0 where
  pub ask : Ask
  pub back : Back

abbrev pub asked_as : Ask → Back → Asked
asked_as a b = record { ask = a; back = b }

-- the front object of the server at that uri, which is its space
abbrev pub front_at : Text → Remote
front_at uri = record { uri = uri; id = R.Front }

-- the method that each command calls
abbrev pub method_of : Asking → List ℕ
method_of (Write tuple life) = codes "write"
method_of (Read tuple life) = codes "read"
method_of (ReadAll tuple) = codes "read_all"
method_of (Watch event tuple count) = codes "notify"

-- a life of so many seconds is one argument more
abbrev pub with_life : Tree → Option ℤ → List Tree
with_life tuple None = tuple ∷ []
with_life tuple (Some seconds) = tuple ∷ int_tree seconds ∷ []

-- with which arguments
abbrev pub arguments_of : Asking → List Tree
arguments_of (Write tuple life) = with_life tuple life
arguments_of (Read tuple life) = with_life tuple life
arguments_of (ReadAll tuple) = tuple ∷ []
arguments_of (Watch event tuple count) = event ∷ tuple ∷ []

-- what a command asks first
abbrev pub first_ask : Text → Asking → Ask
first_ask uri a = ask (front_at uri) (method_of a) (arguments_of a)

-- how often a command asks for an event at most, where it asks for any
abbrev pub pops_of : Asking → Option ℕ
pops_of (Write tuple life) = None
pops_of (Read tuple life) = None
pops_of (ReadAll tuple) = None
pops_of (Watch event tuple count) = Some count

-- the object that a reply names: a reference; anything else is called as a reference whose uri is empty

abbrev pub nobody : Remote
nobody = front_at (record { bytes = []; code = Utf8 })

abbrev pub named_in : Tree-F Tree → Remote
named_in (Tree-F.Remote r) = r
named_in _ = nobody

abbrev pub named_by : Tree → Remote
named_by v = named_in (out-Tree v)

-- the next event of a notifier, and of the one that a reply names
abbrev pub pop_at : Remote → Ask
pop_at of = ask of (codes "pop") []

abbrev pub pop_of : Tree → Ask
pop_of v = pop_at (named_by v)

-- `["close"]`, the event that no other follows
abbrev pub says_close : Tree-F Tree → Bool
says_close (Tree-F.Text t) = bytes_eq t.bytes (codes "close")
says_close _ = false

abbrev pub only_close : List Tree → Bool
only_close (v ∷ []) = says_close (out-Tree v)
only_close _ = false

abbrev pub closes : Tree-F Tree → Bool
closes (Tree-F.List items) = only_close items
closes _ = false

-- no further event is asked for: after the close, and after an answer that isn't a value
abbrev pub is_last : Back → Bool
is_last (back.Value v) = closes (out-Tree v)
is_last b = true

-- the answers to at most so many requests for an event; each but the last is an event which others may follow
abbrev pub Pops : ℕ → List Back → Type 0
Pops n [] = ⊤
Pops zero (b ∷ bs) = ⊥
Pops (suc n) (b ∷ []) = ⊤
Pops (suc n) (b ∷ c ∷ bs) = (is_last b ≡ false) × Pops n (c ∷ bs)

-- no further event is asked for: so many came, or the last one was there
abbrev pub popped : ℕ → List Back → Bool
popped zero bs = true
popped (suc n) [] = false
popped (suc n) (b ∷ bs) = is_last b || popped n bs

-- What a command does: the requests that it makes, by what came of each; which answers these may come to; whether
-- all is asked; and what is printed.
pub record Course : Type 1 where
  pub asked : List Back → List Asked
  pub Comes : List Back → Type 0
  pub is_over : List Back → Bool
  pub printed : List Back → List ℕ
