-- What an id names is in the rows.
use Rattle.std.proofs.Common.{◌≡◌, ℕ, Bool, true, false, cond, ◌||◌, Option, Some, None, sym, ap, subst}
use Rattle.std.specs.Prelude.{◌==◌, nat_le}
use Rattle.rinda_rules.specs.declared.plain.Entry.{Entry}
use Rattle.rinda_rules.specs.declared.plain.Request.{Request}
use Rattle.rinda_rules.specs.declared.plain.Notifier.{Notifier}
use Rattle.rinda_rules.specs.declared.plain.Ended.{Ended}
use Rattle.rinda_rules.specs.Space.{Plain, Found, TheTuple, TheRequest, TheNotifier, HasEnded, IsRecycled, IsUnknown, found, found_among, tuple_at, request_at, notifier_at, ended_at}
use Rattle.rinda_rules.proofs.Lists.{row_has_id}

request_in : Found → Option Request
request_in (TheTuple t) = None
request_in (TheRequest r) = Some r
request_in (TheNotifier n) = None
request_in (HasEnded kind last) = None
request_in IsRecycled = None
request_in IsUnknown = None

tuple_in : Found → Option Entry
tuple_in (TheTuple t) = Some t
tuple_in (TheRequest r) = None
tuple_in (TheNotifier n) = None
tuple_in (HasEnded kind last) = None
tuple_in IsRecycled = None
tuple_in IsUnknown = None

notifier_in : Found → Option Notifier
notifier_in (TheTuple t) = None
notifier_in (TheRequest r) = None
notifier_in (TheNotifier n) = Some n
notifier_in (HasEnded kind last) = None
notifier_in IsRecycled = None
notifier_in IsUnknown = None

among-request : (s : Plain) (id : ℕ) (o : Option Request) (t : Option Entry) (n : Option Notifier) (e : Option Ended) (r : Request) → found_among s id o t n e ≡ TheRequest r → o ≡ Some r
unfolding request_in
among-request s id (Some q) t n e r h = ap request_in h
among-request s id None (Some t) n e r h = cc
among-request s id None None (Some n) e r h = cc
among-request s id None None None (Some e) r h = cc
among-request s id None None None None r h = by_test (id == 0 || nat_le s.next id) h
  where
    by_test : (b : Bool) → cond {A = Found} b IsUnknown IsRecycled ≡ TheRequest r → None ≡ Some r
    by_test true h = cc
    by_test false h = cc

among-tuple : (s : Plain) (id : ℕ) (o : Option Request) (t : Option Entry) (n : Option Notifier) (e : Option Ended) (x : Entry) → found_among s id o t n e ≡ TheTuple x → t ≡ Some x
unfolding tuple_in
among-tuple s id (Some q) t n e x h = cc
among-tuple s id None (Some t) n e x h = ap tuple_in h
among-tuple s id None None (Some n) e x h = cc
among-tuple s id None None None (Some e) x h = cc
among-tuple s id None None None None x h = by_test (id == 0 || nat_le s.next id) h
  where
    by_test : (b : Bool) → cond {A = Found} b IsUnknown IsRecycled ≡ TheTuple x → None ≡ Some x
    by_test true h = cc
    by_test false h = cc

among-notifier : (s : Plain) (id : ℕ) (o : Option Request) (t : Option Entry) (n : Option Notifier) (e : Option Ended) (x : Notifier) → found_among s id o t n e ≡ TheNotifier x → n ≡ Some x
unfolding notifier_in
among-notifier s id (Some q) t n e x h = cc
among-notifier s id None (Some t) n e x h = cc
among-notifier s id None None (Some n) e x h = ap notifier_in h
among-notifier s id None None None (Some e) x h = cc
among-notifier s id None None None None x h = by_test (id == 0 || nat_le s.next id) h
  where
    by_test : (b : Bool) → cond {A = Found} b IsUnknown IsRecycled ≡ TheNotifier x → None ≡ Some x
    by_test true h = cc
    by_test false h = cc

-- a row that was looked up is found by its own id
pub itself-request : (s : Plain) (id : ℕ) (r : Request) → request_at s id ≡ Some r → request_at s r.id ≡ Some r
itself-request s id r e = subst (λ (id : ℕ). request_at s id ≡ Some r) (sym (row_has_id (λ (r : Request). r.id) id s.requests r e)) e

pub itself-tuple : (s : Plain) (id : ℕ) (t : Entry) → tuple_at s id ≡ Some t → tuple_at s t.id ≡ Some t
itself-tuple s id t e = subst (λ (id : ℕ). tuple_at s id ≡ Some t) (sym (row_has_id (λ (t : Entry). t.id) id s.tuples t e)) e

pub itself-notifier : (s : Plain) (id : ℕ) (n : Notifier) → notifier_at s id ≡ Some n → notifier_at s n.id ≡ Some n
itself-notifier s id n e = subst (λ (id : ℕ). notifier_at s id ≡ Some n) (sym (row_has_id (λ (n : Notifier). n.id) id s.notifiers n e)) e

pub found-request : (s : Plain) (id : ℕ) (r : Request) → found s id ≡ TheRequest r → request_at s id ≡ Some r
found-request s id r h = among-request s id (request_at s id) (tuple_at s id) (notifier_at s id) (ended_at s id) r h

pub found-tuple : (s : Plain) (id : ℕ) (t : Entry) → found s id ≡ TheTuple t → tuple_at s id ≡ Some t
found-tuple s id t h = among-tuple s id (request_at s id) (tuple_at s id) (notifier_at s id) (ended_at s id) t h

pub found-notifier : (s : Plain) (id : ℕ) (n : Notifier) → found s id ≡ TheNotifier n → notifier_at s id ≡ Some n
found-notifier s id n h = among-notifier s id (request_at s id) (tuple_at s id) (notifier_at s id) (ended_at s id) n h

-- a request that is there is found
pub request-found : (s : Plain) (id : ℕ) (r : Request) → request_at s id ≡ Some r → found s id ≡ TheRequest r
request-found s id r h = ap (λ (o : Option Request). found_among s id o (tuple_at s id) (notifier_at s id) (ended_at s id)) h
