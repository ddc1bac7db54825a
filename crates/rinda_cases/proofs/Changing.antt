-- What each case does to the one row that it names, by how that row stands.
use Rattle.std.proofs.Common.{◌≡◌, ℕ, true, false, Option, Some, refl, subst}
use Rattle.std.specs.Prelude.{length}
use Rattle.drb_tree.specs.declared.Remote.{Remote}
use Rattle.rinda_rules.specs.declared.object.Last.TheVariants as last
use Rattle.rinda_rules.specs.declared.out.Out.TheVariants as out
use Rattle.rinda_rules.specs.declared.row.RequestState.TheVariants as state
use Rattle.rinda_rules.specs.declared.plain.Entry.{Entry}
use Rattle.rinda_rules.specs.declared.plain.Request.{Request}
use Rattle.rinda_rules.specs.declared.plain.Notifier.{Notifier}
use Rattle.rinda_rules.specs.declared.plain.Hearing.{Hearing}
use Rattle.rinda_rules.specs.declared.plain.Hearing.TheVariants as hearing
use Rattle.rinda_rules.specs.Space.{Plain, is_running, renewer_of}
use Rattle.rinda_rules.specs.Phases.{with_tuple, with_request, with_notifier, request_in, close_after}
use Rattle.rinda_rules.specs.Cases.{cancel_tuple, cancel_request, cancel_notifier, renewed_tuple, renewed_request, renewed_notifier, renew_request, renew_notifier, is_asked, told_tuple, told_request, told_notifier}
use Rattle.rinda_bag.specs.Changes.{marked}
use Rattle.rinda_wait.specs.Waiting.{canceled}
use Rattle.rinda_tables.specs.Holds.{Held, Holds}

-- Cancel.

pub cancels-held : (s : Plain) (b : Held) (id : ℕ) (e : Entry) (holder : ℕ) → e.id ≡ id → e.holder ≡ Some holder → Holds (with_tuple id marked s) b → Holds (cancel_tuple s e e.holder) b
cancels-held s b id e holder is held h = rw (held, is) h

pub cancels-reserved : (s : Plain) (b : Held) (id : ℕ) (r : Request) → r.id ≡ id → r.state ≡ state.Reserved → Holds (with_request id canceled s) b → Holds (cancel_request s r r.state) b
cancels-reserved s b id r is stands h = rw (stands, is) h

pub cancels-parked : (s : Plain) (b : Held) (id : ℕ) (r : Request) → r.id ≡ id → r.state ≡ state.Parked → Holds (request_in id (state.Answered out.Canceled) s) b → Holds (cancel_request s r r.state) b
cancels-parked s b id r is stands h = rw (stands, is) h

pub runs-so : (st : Hearing) → is_running st ≡ true → st ≡ hearing.Running
runs-so hearing.Running e = refl
runs-so (hearing.Closed l u) e = cc

pub cancels-running : (s : Plain) (b : Held) (id : ℕ) (n : Notifier) → n.id ≡ id → n.state ≡ hearing.Running → Holds (with_notifier id (close_after last.Canceled (length s.events)) s) b → Holds (cancel_notifier s n n.state) b
cancels-running s b id n is stands h = rw (stands, is) h

pub cancels-closed : (s : Plain) (b : Held) (n : Notifier) (st : Hearing) → is_running st ≡ false → Holds s b → Holds (cancel_notifier s n st) b
cancels-closed s b n hearing.Running e h = cc
cancels-closed s b n (hearing.Closed l u) e h = h

-- Renew.

pub renews-reserved : (s : Plain) (b : Held) (id : ℕ) (r : Request) (deadline : Option ℕ) (renewer : Option Remote) → r.id ≡ id → r.state ≡ state.Reserved → Holds (with_request id (renewed_request deadline renewer) s) b → Holds (renew_request s deadline renewer r r.state) b
renews-reserved s b id r deadline renewer is stands h = rw (stands, is) h

pub renews-parked : (s : Plain) (b : Held) (id : ℕ) (r : Request) (deadline : Option ℕ) (renewer : Option Remote) → r.id ≡ id → r.state ≡ state.Parked → Holds (with_request id (renewed_request deadline renewer) s) b → Holds (renew_request s deadline renewer r r.state) b
renews-parked s b id r deadline renewer is stands h = rw (stands, is) h

pub renews-running : (s : Plain) (b : Held) (id : ℕ) (n : Notifier) (deadline : Option ℕ) (renewer : Option Remote) → n.id ≡ id → n.state ≡ hearing.Running → Holds (with_notifier id (renewed_notifier deadline renewer) s) b → Holds (renew_notifier s deadline renewer n n.state) b
renews-running s b id n deadline renewer is stands h = rw (stands, is) h

pub renews-closed : (s : Plain) (b : Held) (n : Notifier) (deadline : Option ℕ) (renewer : Option Remote) (st : Hearing) → is_running st ≡ false → Holds s b → Holds (renew_notifier s deadline renewer n st) b
renews-closed s b n deadline renewer hearing.Running e h = cc
renews-closed s b n deadline renewer (hearing.Closed l u) e h = h

-- Asked.

pub tells-tuple : (s : Plain) (b : Held) (id : ℕ) (e : Entry) (deadline : Option ℕ) (renewer : Option Remote) → e.id ≡ id → is_asked e.doubt ≡ true → renewer ≡ renewer_of deadline e.renewer s.clock → Holds (with_tuple id (renewed_tuple deadline renewer) s) b → Holds (told_tuple s deadline e) b
tells-tuple s b id e deadline renewer is asks renews h =
    let now = subst (λ (x : Option Remote). Holds (with_tuple id (renewed_tuple deadline x) s) b) renews h in
    rw (asks, is) now

pub tells-request : (s : Plain) (b : Held) (id : ℕ) (e : Request) (deadline : Option ℕ) (renewer : Option Remote) → e.id ≡ id → is_asked e.doubt ≡ true → renewer ≡ renewer_of deadline e.renewer s.clock → Holds (with_request id (renewed_request deadline renewer) s) b → Holds (told_request s deadline e) b
tells-request s b id e deadline renewer is asks renews h =
    let now = subst (λ (x : Option Remote). Holds (with_request id (renewed_request deadline x) s) b) renews h in
    rw (asks, is) now

pub tells-notifier : (s : Plain) (b : Held) (id : ℕ) (e : Notifier) (deadline : Option ℕ) (renewer : Option Remote) → e.id ≡ id → is_asked e.doubt ≡ true → renewer ≡ renewer_of deadline e.renewer s.clock → Holds (with_notifier id (renewed_notifier deadline renewer) s) b → Holds (told_notifier s deadline e) b
tells-notifier s b id e deadline renewer is asks renews h =
    let now = subst (λ (x : Option Remote). Holds (with_notifier id (renewed_notifier deadline x) s) b) renews h in
    rw (asks, is) now

pub spares-notifier : (s : Plain) (b : Held) (e : Notifier) (deadline : Option ℕ) → is_asked e.doubt ≡ false → Holds s b → Holds (told_notifier s deadline e) b
spares-notifier s b e deadline asks h = rw asks h
