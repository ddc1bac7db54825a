-- The causes of a request, with its parts as the code has them.
use Rattle.std.proofs.Common.{◌≡◌, ℕ, List, subst}
use Rattle.drb_tree.specs.declared.Tree.{Tree}
use Rattle.drb_tree.specs.declared.Remote.{Remote}
use Rattle.drb_back.specs.declared.back.Back.{Back}
use Rattle.rinda_proxy.specs.Requests.{ask, asked_as}
use Rattle.rinda_proxy.specs.Commands.{Caused}

pub caused_as : (m n : ℕ) (to to' : Remote) (name name' : List ℕ) (args args' : List Tree) (b : Back) → to ≡ to' → name ≡ name' → args ≡ args' → Caused m n (asked_as (ask to name args) b) → Caused m n (asked_as (ask to' name' args') b)
caused_as m n to to' name name' args args' b e f g h =
    subst (λ (q : Remote). Caused m n (asked_as (ask q name' args') b)) e
    (subst (λ (q : List ℕ). Caused m n (asked_as (ask to q args') b)) f
    (subst (λ (q : List Tree). Caused m n (asked_as (ask to name q) b)) g h))
