-- What an id names, by what the table of ids says of it.
use Rattle.std.proofs.Common.{◌≡◌, ◌∙◌, ℕ, Bool, true, false, Option, Some, None, refl, sym}
use Rattle.std.specs.Prelude.{◌||◌, ◌==◌, nat_le, if◌then◌else◌}
use Rattle.rinda_rules.specs.declared.object.ObjectKind.{ObjectKind}
use Rattle.rinda_rules.specs.declared.object.ObjectKind.TheVariants as kind
use Rattle.rinda_rules.specs.declared.object.Last.{Last}
use Rattle.rinda_rules.specs.declared.plain.Entry.{Entry}
use Rattle.rinda_rules.specs.declared.plain.Request.{Request}
use Rattle.rinda_rules.specs.declared.plain.Notifier.{Notifier}
use Rattle.rinda_rules.specs.declared.plain.Ended.{Ended}
use Rattle.rinda_rules.specs.Space.{Plain, Found, TheTuple, TheRequest, TheNotifier, HasEnded, IsRecycled, IsUnknown, found, found_among, request_at, tuple_at, notifier_at, ended_at}
use Rattle.drb_ids.specs.declared.object.Looked.{Looked}
use Rattle.drb_ids.specs.declared.object.Looked.TheVariants as looked
use Rattle.drb_ids.specs.Ids.{looked_up}
use Rattle.drb_ids.specs.Found.{looked_as}
use Rattle.drb_ids.proofs.Founds.{looked-found}
use Rattle.rinda_tables.specs.Holds.{Held, Holds}

-- what the space finds is what the table says
pub named : (s : Plain) (t : Held) (id : ℕ) (l : Looked) → Holds s t → l ≡ looked_up t.ids id → looked_as (found s id) ≡ l
named s t id l h is = sym (looked-found s t.ids h.ids id) ∙ sym is

-- by what is found

is-tuple : (f : Found) → looked_as f ≡ looked.Live kind.Entry → (e : Entry) × (f ≡ TheTuple e)
is-tuple (TheTuple e) h = (e, refl)
is-tuple (TheRequest r) h = cc
is-tuple (TheNotifier n) h = cc
is-tuple (HasEnded k l) h = cc
is-tuple IsRecycled h = cc
is-tuple IsUnknown h = cc

is-request : (f : Found) → looked_as f ≡ looked.Live kind.Request → (r : Request) × (f ≡ TheRequest r)
is-request (TheTuple e) h = cc
is-request (TheRequest r) h = (r, refl)
is-request (TheNotifier n) h = cc
is-request (HasEnded k l) h = cc
is-request IsRecycled h = cc
is-request IsUnknown h = cc

is-notifier : (f : Found) → looked_as f ≡ looked.Live kind.Notifier → (n : Notifier) × (f ≡ TheNotifier n)
is-notifier (TheTuple e) h = cc
is-notifier (TheRequest r) h = cc
is-notifier (TheNotifier n) h = (n, refl)
is-notifier (HasEnded k l) h = cc
is-notifier IsRecycled h = cc
is-notifier IsUnknown h = cc

is-ended : (f : Found) (k : ObjectKind) (l : Last) → looked_as f ≡ looked.Ended k l → f ≡ HasEnded k l
is-ended (TheTuple e) k l h = cc
is-ended (TheRequest r) k l h = cc
is-ended (TheNotifier n) k l h = cc
is-ended (HasEnded k' l') k l h = cc
is-ended IsRecycled k l h = cc
is-ended IsUnknown k l h = cc

is-recycled : (f : Found) → looked_as f ≡ looked.Recycled → f ≡ IsRecycled
is-recycled (TheTuple e) h = cc
is-recycled (TheRequest r) h = cc
is-recycled (TheNotifier n) h = cc
is-recycled (HasEnded k l) h = cc
is-recycled IsRecycled h = refl
is-recycled IsUnknown h = cc

is-unknown : (f : Found) → looked_as f ≡ looked.Never → f ≡ IsUnknown
is-unknown (TheTuple e) h = cc
is-unknown (TheRequest r) h = cc
is-unknown (TheNotifier n) h = cc
is-unknown (HasEnded k l) h = cc
is-unknown IsRecycled h = cc
is-unknown IsUnknown h = refl

-- what is found has its row

neither : (b : Bool) (f : Found) → f ≡ (if b then IsUnknown else IsRecycled) → ((e : Entry) → f ≡ TheTuple e → ⊥) × ((r : Request) → f ≡ TheRequest r → ⊥) × ((n : Notifier) → f ≡ TheNotifier n → ⊥)
neither true f is = (λ e h. cc, λ r h. cc, λ n h. cc)
neither false f is = (λ e h. cc, λ r h. cc, λ n h. cc)

tuple-row : (s : Plain) (id : ℕ) (r : Option Request) (t : Option Entry) (n : Option Notifier) (o : Option Ended) (e : Entry) → found_among s id r t n o ≡ TheTuple e → t ≡ Some e
tuple-row s id (Some r) t n o e h = cc
tuple-row s id None (Some t) n o e h = cc
tuple-row s id None None (Some n) o e h = cc
tuple-row s id None None None (Some o) e h = cc
tuple-row s id None None None None e h = absurd ((neither (id == 0 || nat_le s.next id) _ refl).0 e h)

request-row : (s : Plain) (id : ℕ) (r : Option Request) (t : Option Entry) (n : Option Notifier) (o : Option Ended) (e : Request) → found_among s id r t n o ≡ TheRequest e → r ≡ Some e
request-row s id (Some r) t n o e h = cc
request-row s id None (Some t) n o e h = cc
request-row s id None None (Some n) o e h = cc
request-row s id None None None (Some o) e h = cc
request-row s id None None None None e h = absurd ((neither (id == 0 || nat_le s.next id) _ refl).1 e h)

notifier-row : (s : Plain) (id : ℕ) (r : Option Request) (t : Option Entry) (n : Option Notifier) (o : Option Ended) (e : Notifier) → found_among s id r t n o ≡ TheNotifier e → n ≡ Some e
notifier-row s id (Some r) t n o e h = cc
notifier-row s id None (Some t) n o e h = cc
notifier-row s id None None (Some n) o e h = cc
notifier-row s id None None None (Some o) e h = cc
notifier-row s id None None None None e h = absurd ((neither (id == 0 || nat_le s.next id) _ refl).2 e h)

-- The table says that a tuple has the id: the space finds that tuple.
pub names-tuple : (s : Plain) (t : Held) (id : ℕ) → Holds s t → looked.Live kind.Entry ≡ looked_up t.ids id → (e : Entry) × (found s id ≡ TheTuple e) × (tuple_at s id ≡ Some e)
names-tuple s t id h is =
    let at = is-tuple (found s id) (named s t id _ h is) in
    (at.0, at.1, tuple-row s id (request_at s id) (tuple_at s id) (notifier_at s id) (ended_at s id) at.0 at.1)

pub names-request : (s : Plain) (t : Held) (id : ℕ) → Holds s t → looked.Live kind.Request ≡ looked_up t.ids id → (r : Request) × (found s id ≡ TheRequest r) × (request_at s id ≡ Some r)
names-request s t id h is =
    let at = is-request (found s id) (named s t id _ h is) in
    (at.0, at.1, request-row s id (request_at s id) (tuple_at s id) (notifier_at s id) (ended_at s id) at.0 at.1)

pub names-notifier : (s : Plain) (t : Held) (id : ℕ) → Holds s t → looked.Live kind.Notifier ≡ looked_up t.ids id → (n : Notifier) × (found s id ≡ TheNotifier n) × (notifier_at s id ≡ Some n)
names-notifier s t id h is =
    let at = is-notifier (found s id) (named s t id _ h is) in
    (at.0, at.1, notifier-row s id (request_at s id) (tuple_at s id) (notifier_at s id) (ended_at s id) at.0 at.1)

pub names-ended : (s : Plain) (t : Held) (id : ℕ) (k : ObjectKind) (l : Last) → Holds s t → looked.Ended k l ≡ looked_up t.ids id → found s id ≡ HasEnded k l
names-ended s t id k l h is = is-ended (found s id) k l (named s t id _ h is)

pub names-recycled : (s : Plain) (t : Held) (id : ℕ) → Holds s t → looked.Recycled ≡ looked_up t.ids id → found s id ≡ IsRecycled
names-recycled s t id h is = is-recycled (found s id) (named s t id _ h is)

pub names-none : (s : Plain) (t : Held) (id : ℕ) → Holds s t → looked.Never ≡ looked_up t.ids id → found s id ≡ IsUnknown
names-none s t id h is = is-unknown (found s id) (named s t id _ h is)
