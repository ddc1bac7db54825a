use Rattle.std.proofs.Common.{◌≡◌, ◌++◌, ◌∙◌, ℕ, List, refl, ap}
use Rattle.std.proofs.lemmas.Slice.{pushed}
use Rattle.rinda_tables.proofs.Leaving.{names-all}
use Rattle.rinda_tables.proofs.tables.Tables.changes.Goals as goal

pub returns : goal.returns
returns c =
    let ids = c.in_ok-ids.ids.items in
    let are : c.extend_from_slice.new.self.items ≡ ids ++ c.in_ok-heard.heard.items =
    pushed c.as_slice.result.now refl c.in_ok-extend_from_slice.was c.extend_from_slice.ensures.items
    ∙ ap (λ (heard : List ℕ). ids ++ heard) c.as_slice.ensures.value
    in
    record { changed = names-all c.args.self.now ids c.in_ok-heard.heard.items _ c.in_ok-ids.ensures c.in_ok-heard.ensures are }
