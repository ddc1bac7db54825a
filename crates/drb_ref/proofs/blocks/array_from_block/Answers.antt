use Rattle.std.proofs.Common.{rules, ◌≡◌, ℕ, List, IfOk, subst}
use Rattle.drb_tree.specs.declared.Tree.{Tree}
use Rattle.drb_tree.specs.Trees.{list_tree}
use Rattle.drb_ref.specs.Blocks.{Holds, DumpsList, RefusesArray}
use Rattle.drb_ref.proofs.Held.{holds_one}
use Rattle.drb_ref.proofs.blocks.array_from_block.Goals as goal

pub returns-in-Some-clause-other : goal.returns-in-Some-clause-other
returns-in-Some-clause-other c n =
    let held : Holds c.args.v c.in-Some.bytes.now = search rules in
    absurd (n c.in-Some.bytes.now held)

pub returns-in-Some-clause-list : goal.returns-in-Some-clause-list
returns-in-Some-clause-list c bytes k =
    let held : Holds c.args.v c.in-Some.bytes.now = search rules in
    subst (λ (x : List ℕ). IfOk c.read_array.result (λ w. (items : List Tree) × (w ≡ list_tree items) × DumpsList x items)) (holds_one c.args.v c.in-Some.bytes.now bytes held k) c.read_array.ensures.list

pub returns-in-Some-clause-every_list : goal.returns-in-Some-clause-every_list
returns-in-Some-clause-every_list c bytes items k d =
    let held : Holds c.args.v c.in-Some.bytes.now = search rules in
    c.read_array.ensures.every_list items (subst (λ (x : List ℕ). DumpsList x items) (holds_one c.args.v bytes c.in-Some.bytes.now k held) d)

pub returns-in-Some-clause-every_refusal : goal.returns-in-Some-clause-every_refusal
returns-in-Some-clause-every_refusal c bytes why at k d =
    let held : Holds c.args.v c.in-Some.bytes.now = search rules in
    c.read_array.ensures.every_refusal why at (subst (λ (x : List ℕ). RefusesArray x why at) (holds_one c.args.v bytes c.in-Some.bytes.now k held) d)

pub returns-in-None-clause-list : goal.returns-in-None-clause-list
returns-in-None-clause-list c bytes k =
    let none : (b : List ℕ) → Holds c.args.v b → ⊥ = c.in-None.ensures in
    absurd (none bytes k)

pub returns-in-None-clause-every_list : goal.returns-in-None-clause-every_list
returns-in-None-clause-every_list c bytes items k d =
    let none : (b : List ℕ) → Holds c.args.v b → ⊥ = c.in-None.ensures in
    absurd (none bytes k)

pub returns-in-None-clause-every_refusal : goal.returns-in-None-clause-every_refusal
returns-in-None-clause-every_refusal c bytes why at k d =
    let none : (b : List ℕ) → Holds c.args.v b → ⊥ = c.in-None.ensures in
    absurd (none bytes k)
