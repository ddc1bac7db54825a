-- Which ids a space has. docs/SPACE.md, Rows.
use Rattle.std.specs.Prelude.{◌≡◌, ℕ, Option, Some, None}
use Rattle.rinda_rules.specs.declared.object.ObjectKind.TheVariants as kind
use Rattle.rinda_rules.specs.declared.plain.Entry.{Entry}
use Rattle.rinda_rules.specs.declared.plain.Request.{Request}
use Rattle.rinda_rules.specs.declared.plain.Notifier.{Notifier}
use Rattle.rinda_rules.specs.Space.{Plain, Found, TheTuple, TheRequest, TheNotifier, HasEnded, IsRecycled, IsUnknown, request_at, tuple_at, notifier_at}
use Rattle.drb_ids.specs.declared.object.LiveId.{LiveId}
use Rattle.drb_ids.specs.declared.object.Looked.{Looked}
use Rattle.drb_ids.specs.declared.object.Looked.TheVariants as looked
use Rattle.drb_ids.specs.Ids.{Ids, live_at}

-- the object that has a row with that id
abbrev pub living : ℕ → Option Request → Option Entry → Option Notifier → Option LiveId
living id (Some r) t n = Some (record { id = id; kind = kind.Request })
living id None (Some t) n = Some (record { id = id; kind = kind.Entry })
living id None None (Some n) = Some (record { id = id; kind = kind.Notifier })
living id None None None = None

-- The ids are those of the space: the same next one, the same live ones, and the same last ones that ended.
pub record IsIdsOf (s : Plain) (t : Ids) : Type 0 where
  pub next : t.next ≡ s.next
  pub live : (id : ℕ) →
      live_at t id ≡ living id (request_at s id) (tuple_at s id) (notifier_at s id)
  pub ended : t.ended ≡ s.ended

-- what is known of an id for which the space finds that
abbrev pub looked_as : Found → Looked
looked_as (TheTuple t) = looked.Live kind.Entry
looked_as (TheRequest r) = looked.Live kind.Request
looked_as (TheNotifier n) = looked.Live kind.Notifier
looked_as (HasEnded kind last) = looked.Ended kind last
looked_as IsRecycled = looked.Recycled
looked_as IsUnknown = looked.Never
