-- What is so of whatever an id names.
use Rattle.std.proofs.Common.{◌≡◌, ℕ, Some, sym, subst}
use Rattle.std.specs.Prelude.{Result, Ok, Err, IfOk}
use Rattle.rinda_rules.specs.declared.object.ObjectKind.{ObjectKind}
use Rattle.rinda_rules.specs.declared.object.ObjectKind.TheVariants as kind
use Rattle.rinda_rules.specs.declared.object.Last.{Last}
use Rattle.rinda_rules.specs.declared.plain.Entry.{Entry}
use Rattle.rinda_rules.specs.declared.plain.Request.{Request}
use Rattle.rinda_rules.specs.declared.plain.Notifier.{Notifier}
use Rattle.rinda_rules.specs.Space.{Plain, Found, TheTuple, TheRequest, TheNotifier, HasEnded, IsRecycled, IsUnknown, found, request_at, tuple_at, notifier_at}
use Rattle.drb_ids.specs.declared.object.Looked.TheVariants as looked
use Rattle.drb_ids.specs.Ids.{looked_up}
use Rattle.rinda_tables.specs.Holds.{Held, Holds}
use Rattle.rinda_cases.proofs.Named.{names-tuple, names-request, names-notifier, names-ended, names-recycled, names-none}

pub of-tuple : (P : Found → Type 0) (s : Plain) (t : Held) (id : ℕ) → Holds s t → looked.Live kind.Entry ≡ looked_up t.ids id → ((e : Entry) → tuple_at s id ≡ Some e → P (TheTuple e)) → P (found s id)
of-tuple P s t id h is k = let n = names-tuple s t id h is in subst P (sym n.1) (k n.0 n.2)

pub of-request : (P : Found → Type 0) (s : Plain) (t : Held) (id : ℕ) → Holds s t → looked.Live kind.Request ≡ looked_up t.ids id → ((r : Request) → request_at s id ≡ Some r → P (TheRequest r)) → P (found s id)
of-request P s t id h is k = let n = names-request s t id h is in subst P (sym n.1) (k n.0 n.2)

pub of-notifier : (P : Found → Type 0) (s : Plain) (t : Held) (id : ℕ) → Holds s t → looked.Live kind.Notifier ≡ looked_up t.ids id → ((n : Notifier) → notifier_at s id ≡ Some n → P (TheNotifier n)) → P (found s id)
of-notifier P s t id h is k = let n = names-notifier s t id h is in subst P (sym n.1) (k n.0 n.2)

pub of-ended : (P : Found → Type 0) (s : Plain) (t : Held) (id : ℕ) (what : ObjectKind) (last : Last) → Holds s t → looked.Ended what last ≡ looked_up t.ids id → P (HasEnded what last) → P (found s id)
of-ended P s t id what last h is k = subst P (sym (names-ended s t id what last h is)) k

pub of-recycled : (P : Found → Type 0) (s : Plain) (t : Held) (id : ℕ) → Holds s t → looked.Recycled ≡ looked_up t.ids id → P IsRecycled → P (found s id)
of-recycled P s t id h is k = subst P (sym (names-recycled s t id h is)) k

pub of-none : (P : Found → Type 0) (s : Plain) (t : Held) (id : ℕ) → Holds s t → looked.Never ≡ looked_up t.ids id → P IsUnknown → P (found s id)
of-none P s t id h is k = subst P (sym (names-none s t id h is)) k

-- what is answered, if memory did not run out
pub if-ok : {T E : Type 0} (P Q : T → Type 0) (r : Result T E) → ((x : T) → P x → Q x) → IfOk r P → IfOk r Q
if-ok P Q (Ok x) k p = k x p
if-ok P Q (Err e) k p = p
