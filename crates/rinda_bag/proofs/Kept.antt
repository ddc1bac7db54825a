-- A change of a row keeps its id and its value.
use Rattle.std.proofs.Common.{◌≡◌, refl}
use Rattle.rinda_rules.specs.declared.plain.Entry.{Entry}
use Rattle.rinda_bag.specs.declared.change.Change.{Change}
use Rattle.rinda_bag.specs.declared.change.Change.TheVariants as change
use Rattle.rinda_bag.specs.Changes.{changed_by}

pub changed_by-id : (how : Change) (t : Entry) → (changed_by how t).id ≡ t.id
changed_by-id (change.Hold request) t = refl
changed_by-id change.Release t = refl
changed_by-id change.Mark t = refl
changed_by-id (change.Renew deadline renewer) t = refl
changed_by-id change.Doubt t = refl
changed_by-id change.Ask t = refl
changed_by-id (change.Stand standing) t = refl

pub changed_by-value : (how : Change) (t : Entry) → (changed_by how t).value ≡ t.value
changed_by-value (change.Hold request) t = refl
changed_by-value change.Release t = refl
changed_by-value change.Mark t = refl
changed_by-value (change.Renew deadline renewer) t = refl
changed_by-value change.Doubt t = refl
changed_by-value change.Ask t = refl
changed_by-value (change.Stand standing) t = refl
