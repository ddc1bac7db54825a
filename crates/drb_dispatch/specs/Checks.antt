-- The checks of a request, in their order: docs/SESSIONS.md, Dispatch.
use Rattle.std.specs.Prelude.{ℕ, ℤ, ◌^◌, ◌||◌, nat_lt, pos, negsuc, List, Option, None, Some, Result, Ok, Err, bytes_eq, codes, if◌then◌else◌}
use Rattle.drb_tree.specs.declared.Remote.{Remote}
use Rattle.drb_tree.specs.declared.Tree.{Tree}
use Rattle.drb_tree.specs.declared.Tree.TheViews.{out-Tree}
use Rattle.drb_tree.specs.declared.Tree.TheOpen.{Tree-F}
use Rattle.rinda_tuple.specs.declared.tuple.Tuple.{Tuple}
use Rattle.rinda_tuple.specs.declared.tuple.Tuple.TheVariants as tuple
use Rattle.rinda_tuple.specs.declared.tuple.Template.{Template}
use Rattle.rinda_tuple.specs.declared.tuple.Template.TheVariants as template
use Rattle.rinda_tuple.specs.declared.tuple.WhyNotTuple.{WhyNotTuple}
use Rattle.rinda_tuple.specs.declared.tuple.WhyNotTuple.TheVariants as why
use Rattle.rinda_tuple.specs.Tuples.{Parts, Items, Pairs, OtherKey, Other, parts_of}
use Rattle.drb_dispatch.specs.declared.checks.Object.{Object}
use Rattle.drb_dispatch.specs.declared.checks.Object.TheVariants.{Front, Number}
use Rattle.drb_dispatch.specs.declared.fault.Fault.{Fault}
use Rattle.drb_dispatch.specs.declared.fault.Fault.TheVariants.{Insecure, NotAnId, NoMethod, WrongCount, NotATuple, BadKey, BadPort}
use Rattle.drb_dispatch.specs.declared.method.Counts.{Counts}
use Rattle.drb_dispatch.specs.declared.method.Method.{Method}
use Rattle.drb_dispatch.specs.declared.method.Method.TheVariants as method
use Rattle.drb_dispatch.specs.Methods.{front_methods, object_methods, method_named}

-- one check after the other: the first that fails decides
infixl 10 ◌>>=◌
abbrev pub ◌>>=◌ : {A B : Type 0} → Result A Fault → (A → Result B Fault) → Result B Fault
Ok a >>= f = f a
Err e >>= f = Err e

-- 1. Insecure: the name is `__send__`
unfoldable pub secure : List ℕ → Result Unit Fault
secure name = if bytes_eq (codes "__send__") name then Err Insecure else Ok tt

-- 2. NotAnId: the reference is neither nil, which is the front object, nor a number from 0 to 2^64 - 1
abbrev pub number_at : ℤ → Result Object Fault
number_at (pos n) = if nat_lt n (2 ^ 64) then Ok (Number n) else Err NotAnId
number_at (negsuc n) = Err NotAnId

abbrev pub object_at : Tree-F Tree → Result Object Fault
object_at Tree-F.Nil = Ok Front
object_at (Tree-F.Int number) = number_at number
object_at _ = Err NotAnId

unfoldable pub object_of : Tree → Result Object Fault
object_of reference = object_at (out-Tree reference)

-- 3. NoMethod: the name is not in the object's table
abbrev pub found : {M : Type 0} → (M → Method) → Option (M × Counts)
    → Result (Method × Counts) Fault
found of None = Err NoMethod
found of (Some m) = Ok (of m.0, m.1)

unfoldable pub method_of : Object → List ℕ → Result (Method × Counts) Fault
method_of Front name = found method.Front (method_named name front_methods)
method_of (Number id) name = found (method.Object id) (method_named name object_methods)

-- 4. WrongCount: the number of arguments is not in the method's range
unfoldable pub counted : Counts → ℕ → Result Unit Fault
counted counts given = if nat_lt given counts.least || nat_lt counts.most given
    then Err (WrongCount given counts.least counts.most) else Ok tt

-- the method that is called, by the checks so far
unfoldable pub method_called : Tree → List ℕ → ℕ → Result Method Fault
method_called reference name given = do
  _ ← secure name
  object ← object_of reference
  m ← method_of object name
  _ ← counted m.1 given
  Ok m.0

-- 5. NotATuple: what stands for a tuple is neither a list nor a hash. 6. BadKey: it is a hash with a key that is no text
abbrev pub not_a_tuple : WhyNotTuple → Fault
not_a_tuple why.NotAList = NotATuple
not_a_tuple why.BadKey = BadKey

abbrev pub tuple_from : Parts → Result Tuple Fault
tuple_from (Items items) = Ok (tuple.List items)
tuple_from (Pairs pairs) = Ok (tuple.Named pairs)
tuple_from OtherKey = Err BadKey
tuple_from Other = Err NotATuple

unfoldable pub tuple_of : Tree → Result Tuple Fault
tuple_of v = tuple_from (parts_of v)

abbrev pub template_from : Parts → Result Template Fault
template_from (Items items) = Ok (template.List items)
template_from (Pairs pairs) = Ok (template.Named pairs)
template_from OtherKey = Err BadKey
template_from Other = Err NotATuple

unfoldable pub template_of : Tree → Result Template Fault
template_of v = template_from (parts_of v)

-- 7. BadPort: the port is neither nil, which is none, nor a remote object
abbrev pub port_at : Tree-F Tree → Result (Option Remote) Fault
port_at Tree-F.Nil = Ok None
port_at (Tree-F.Remote port) = Ok (Some port)
port_at _ = Err BadPort

unfoldable pub port_of : Tree → Result (Option Remote) Fault
port_of v = port_at (out-Tree v)
