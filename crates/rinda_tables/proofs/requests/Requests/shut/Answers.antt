use Rattle.std.proofs.Common.{◌≡◌, ◌∙◌, ℕ, List, map, ap}
use Rattle.rinda_rules.specs.declared.plain.Request.{Request}
use Rattle.rinda_rules.specs.Cases.{shut_request}
use Rattle.rinda_tables.specs.Undoing.{left}
use Rattle.rinda_tables.specs.Asking.{changed_each}
use Rattle.rinda_tables.proofs.Gone.{left-map}
use Rattle.rinda_tables.proofs.Asked.{requested-shut, shut-keeps, shut-open}
use Rattle.rinda_tables.proofs.requests.Requests.shut.Goals as goal
use Rattle.rinda_tables.proofs.requests.Requests.shut.Goals.{After-drop-ids-2}

all-shut : (c : After-drop-ids-2) → c.shut_each.new.waits ≡ map shut_request c.self.inside.waits
all-shut c =
    c.shut_each.ensures.waits
    ∙ ap (λ (ids : List ℕ). changed_each ids shut_request c.self.inside.waits) (c.as_slice.ensures.value ∙ c.in_ok-ids.ensures)
    ∙ shut-open c.self.inside.waits c.self.invariant.rise

pub invariant_of-self-2 : goal.invariant_of-self-2
invariant_of-self-2 c = rw (all-shut c) (requested-shut _ c.self.inside.steps.items _ c.self.inside.gone.items c.self.inside.waits (rw (all-shut c, c.reserve.ensures.items) at c.shut_each.ensures.back) c.self.invariant)

pub returns-clause-ahead : goal.returns-clause-ahead
returns-clause-ahead c =
    ap (left (λ (r : Request). r.id) c.self.inside.gone.items) (all-shut c)
    ∙ left-map (λ r. r.id) c.self.inside.gone.items shut_request c.self.inside.waits shut-keeps
    ∙ ap (λ t. map shut_request t.ahead) c.self.view_is
