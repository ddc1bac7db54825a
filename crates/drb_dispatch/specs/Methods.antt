-- The methods of the space, and those of its objects: docs/SESSIONS.md, Dispatch.
use Rattle.std.specs.Prelude.{ℕ, List, [], ◌∷◌, Option, None, Some, bytes_eq, codes, if◌then◌else◌}
use Rattle.drb_dispatch.specs.declared.method.FrontMethod.{FrontMethod}
use Rattle.drb_dispatch.specs.declared.method.FrontMethod.TheVariants as front
use Rattle.drb_dispatch.specs.declared.method.ObjectMethod.{ObjectMethod}
use Rattle.drb_dispatch.specs.declared.method.ObjectMethod.TheVariants as object
use Rattle.drb_dispatch.specs.declared.method.Counts.{Counts}

-- a row of a table of methods: the name, the method, and the least and the most arguments that it takes
pub record Row (M : Type 0) : Type 0 where
  pub name : List ℕ
  pub method : M
  pub counts : Counts

abbrev pub row : {M : Type 0} → List ℕ → M → ℕ → ℕ → Row M
row name method least most =
    record { name = name; method = method; counts = record { least = least; most = most } }

-- the methods of the space, which is the front object
abbrev pub front_methods : List (Row FrontMethod)
front_methods =
    row (codes "write") front.Write 1 2
    ∷ row (codes "take") front.Take 1 2
    ∷ row (codes "read") front.Read 1 2
    ∷ row (codes "read_all") front.ReadAll 1 1
    ∷ row (codes "notify") front.Notify 2 3
    ∷ row (codes "move") front.Move 2 3
    ∷ []

-- the methods of an object of the space
abbrev pub object_methods : List (Row ObjectMethod)
object_methods =
    row (codes "cancel") object.Cancel 0 0
    ∷ row (codes "renew") object.Renew 1 1
    ∷ row (codes "alive?") object.IsAlive 0 0
    ∷ row (codes "expired?") object.IsExpired 0 0
    ∷ row (codes "canceled?") object.IsCanceled 0 0
    ∷ row (codes "value") object.Value 0 0
    ∷ row (codes "pop") object.Pop 0 0
    ∷ row (codes "each") object.Each 0 0
    ∷ []

-- the method of that name in a table, and how many arguments it takes
abbrev pub method_named : {M : Type 0} → List ℕ → List (Row M) → Option (M × Counts)
method_named name [] = None
method_named name (r ∷ rows) =
    if bytes_eq r.name name then Some (r.method, r.counts) else method_named name rows
