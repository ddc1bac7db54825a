-- What serves that which is touched.
use Rattle.std.proofs.Common.{◌≡◌, ◌≢◌, ℕ, Bool, true, false, cond, not, ◌&&◌, ◌||◌, List, [], ◌∷◌, ◌++◌, map, Option, Some, None, refl, sym, ◌∙◌, ap, subst, arith}
use Rattle.std.specs.Prelude.{filter, nat_lt, if◌then◌else◌, ◌==◌}
use Rattle.std.specs.List.{list_all, list_any}
use Rattle.std.proofs.lemmas.Bool.Decides.{nat_tests}
use Rattle.rinda_rules.specs.declared.object.Last.TheVariants as last
use Rattle.rinda_rules.specs.declared.event.Kind.{Kind}
use Rattle.rinda_rules.specs.declared.event.Kind.TheVariants as kind
use Rattle.rinda_rules.specs.declared.out.Out.TheVariants as out
use Rattle.rinda_rules.specs.declared.turn.Pick.{Pick}
use Rattle.rinda_rules.specs.declared.row.RequestState.{RequestState}
use Rattle.rinda_rules.specs.declared.row.RequestState.TheVariants as state
use Rattle.rinda_rules.specs.declared.plain.Entry.{Entry}
use Rattle.rinda_rules.specs.declared.plain.Request.{Request}
use Rattle.rinda_rules.specs.Rows.{row_of, changed, rising}
use Rattle.rinda_rules.specs.Space.{Plain, tuple_at, request_at, is_free, is_live, is_doubted, is_parked, is_waiting, is_read, may_have, has_match, can_be_served}
use Rattle.rinda_rules.specs.Phases.{in_state, held_by, nobody_waits, request_in, served_as, served_with, served_rows, served, may_have_row, may_serve_row, read_waits, tuple_ended, with_tuple, Serve}
use Rattle.rinda_tuple.specs.Tuples.{value_of}
use Rattle.rinda_tuple.specs.Matching.{matches}
use Rattle.rinda_rules.specs.Sound.{Numbered}
use Rattle.rinda_rules.proofs.Lists.{all_imp, row_has_id, row_changed, row_changed_here, row_map, numbered-changed, numbered-filter, all_filter_imp}
use Rattle.rinda_effects.specs.Touches.{NoRow, ATuple, ARequest, wants, pairs, only_touched, waits_only}
use Rattle.rinda_effects.specs.Serves.{reads, takes, reads_row, told_value, read_row, read_all, picks_of, once, Readers, no_taker, answered_all, reader_ids}
use Rattle.rinda_effects.proofs.Pairs.{all_to_map, all_others, pairs_requests, pairs_other_tuples, pairs_changed_tuple}
use Rattle.rinda_effects.proofs.Kept.{nobody}
use Rattle.rinda_effects.proofs.Cases.{rising_tuples, rising_requests, kept-in_state, kept-served_as}

front : (a b : Bool) → (a && b) ≡ true → a ≡ true
front a b e = grind arith

back : (a b : Bool) → (a && b) ≡ true → b ≡ true
back a b e = grind arith

both : (a b : Bool) → a ≡ true → b ≡ true → (a && b) ≡ true
both a b e f = grind arith

-- What is touched wants nothing, or nothing wants it: nobody waits.

drop_touched : (a w : Bool) → w ≡ false → (a || not w) ≡ true → (false || not w) ≡ true
drop_touched a w e h = grind arith

not_touched : (a w : Bool) → a ≡ false → (a || not w) ≡ true → (false || not w) ≡ true
not_touched a w e h = grind arith

other_id : (a b : ℕ) → a ≢ b → a == b ≡ false
other_id a b ne = grind (arith, nat_tests)

same_id : (a b : ℕ) → a ≡ b → a == b ≡ true
same_id a b e = grind (arith, nat_tests)

-- a tuple that isn't there, or that nobody wants
pub tuple_unwanted : (id : ℕ) (s : Plain) → Numbered s → ((t : Entry) (r : Request) → tuple_at s id ≡ Some t → wants s.clock r t ≡ false) → waits_only (ATuple id) s ≡ true → nobody_waits s ≡ true
tuple_unwanted id s numbered unwanted e =
    nobody s (pairs_other_tuples (only_touched s.clock (ATuple id)) (only_touched s.clock NoRow) (λ t. t.id) id s.requests s.tuples (rising_tuples s numbered)
    (λ r t there. drop_touched (t.id == id) (wants s.clock r t) (unwanted t r there))
    (λ r t ne. not_touched (t.id == id) (wants s.clock r t) (other_id t.id id ne)) e)

unwanted_dead : (w f l k : Bool) → l ≡ false → (w && (f && (l && k))) ≡ false
unwanted_dead w f l k e = grind arith

-- a tuple that isn't live
pub tuple_dead : (id : ℕ) (s : Plain) → Numbered s → ((t : Entry) → tuple_at s id ≡ Some t → is_live s.clock t ≡ false) → waits_only (ATuple id) s ≡ true → nobody_waits s ≡ true
tuple_dead id s numbered dead e = tuple_unwanted id s numbered (λ t r there. unwanted_dead (is_waiting r) (matches r.pattern t.value) (is_live s.clock t) (is_read r.kind || is_free t) (dead t there)) e

-- where a list has no match
none_wanted : {T : Type 0} (w : Bool) (a m : T → Bool) (ts : List T) → (w && list_any m ts) ≡ false → list_all (λ t. false || not (w && m t)) ts ≡ true
none_wanted w a m [] e = refl
none_wanted w a m (t ∷ ts) e = grind (arith, none_wanted w a m ts)

-- a request that isn't there, or that doesn't wait beside a match
pub request_unserved : (id : ℕ) (s : Plain) → Numbered s → ((r : Request) → request_at s id ≡ Some r → can_be_served s r ≡ false) → waits_only (ARequest id) s ≡ true → nobody_waits s ≡ true
request_unserved id s numbered unserved e =
    nobody s (all_others (λ r. list_all (only_touched s.clock (ARequest id) r) s.tuples) (λ r. list_all (only_touched s.clock NoRow r) s.tuples) (λ r. r.id) id s.requests (rising_requests s numbered)
    (λ r there _. none_wanted (is_waiting r) (λ t. true) (may_have s.clock r) s.tuples (unserved r there))
    (λ r ne. all_imp (only_touched s.clock (ARequest id) r) (only_touched s.clock NoRow r) (λ t. not_touched (r.id == id) (wants s.clock r t) (other_id r.id id ne)) s.tuples) e)

-- The request that is touched gets a match.

not_any : {R : Type 0} (p : R → Bool) (rs : List R) → list_all (λ r. not (p r)) rs ≡ true → list_any p rs ≡ false
not_any p [] e = refl
not_any p (r ∷ rs) e = grind (arith, not_any p rs)

-- One pick, and those after it.

serve_test : (w i m o : Bool) → (w && m) ≡ true → i ≡ true → o ≡ true → (w && ((i && m) && o)) ≡ true
serve_test w i m o e f g = grind arith

pub serve_one : (s : Plain) (r : Request) (t : Entry) (picks : List Pick) (s' : Plain) → request_at s r.id ≡ Some r → tuple_at s t.id ≡ Some t → wants s.clock r t ≡ true → (is_read r.kind || not (read_waits s)) ≡ true → Serve (served_with r t s) picks s' → Serve s (record { request = r.id; tuple = t.id } ∷ picks) s'
serve_one s r t picks s' there here e first rest =
    let pick : Pick = record { request = r.id; tuple = t.id } in
    let match : (is_waiting r && may_have_row s r (tuple_at s t.id)) ≡ true = ap (λ (o : Option Entry). is_waiting r && may_have_row s r o) here ∙ e in
    let may : may_serve_row s pick (Some r) ≡ true = serve_test (is_waiting r) (r.id == r.id) (may_have_row s r (tuple_at s t.id)) (is_read r.kind || not (read_waits s)) match (same_id r.id r.id refl) first in
    let leads : served s pick ≡ served_with r t s = ap (λ (o : Option Request). served_rows s o (tuple_at s t.id)) there ∙ ap (λ (o : Option Entry). served_rows s (Some r) o) here in
    (subst (λ (o : Option Request). may_serve_row s pick o ≡ true) (sym there) may, subst (λ (p : Plain). Serve p picks s') (sym leads) rest)

-- The request that is touched gets a match.

pub numbered-served_as : (k : Kind) (r : Request) (t : Entry) (s : Plain) → Numbered s → Numbered (served_as k r t s)
numbered-served_as kind.Read r t s h = record { next = h.next; tuples = h.tuples; requests = numbered-changed (λ r. r.id) s.next r.id (in_state (state.Answered (out.Answer (value_of t.value)))) s.requests (λ r. refl) h.requests; notifiers = h.notifiers }
numbered-served_as kind.Take r t s h = record { next = h.next; tuples = numbered-filter (λ t. t.id) s.next (λ x. not (x.id == t.id)) s.tuples h.tuples; requests = numbered-changed (λ r. r.id) s.next r.id (in_state (state.Answered (out.Answer (value_of t.value)))) s.requests (λ r. refl) h.requests; notifiers = h.notifiers }
numbered-served_as kind.Move r t s h = record { next = h.next; tuples = numbered-changed (λ t. t.id) s.next t.id (held_by r.id) s.tuples (λ t. refl) h.tuples; requests = numbered-changed (λ r. r.id) s.next r.id (in_state (state.Granted t.id)) s.requests (λ r. refl) h.requests; notifiers = h.notifiers }

some_same : {X : Type 0} {x y : X} → Some x ≡ Some y → x ≡ y
some_same e = cc

not_parked_unserved : (s : Plain) (r : Request) → is_parked r.state ≡ false → can_be_served s r ≡ false
not_parked_unserved s r e = unserved (is_parked r.state) (not (is_doubted r.doubt)) (has_match s r) e
  where
    unserved : (p d m : Bool) → p ≡ false → ((p && d) && m) ≡ false
    unserved p d m e = grind arith

changed_state : (id : ℕ) (st : RequestState) (rs : List Request) (r q : Request) → row_of (λ r. r.id) id rs ≡ Some r → row_of (λ r. r.id) id (changed (λ r. r.id) id (in_state st) rs) ≡ Some q → q.state ≡ st
changed_state id st rs r q there e = sym (ap (λ (r : Request). r.state) (some_same (sym (row_changed_here (λ r. r.id) id (in_state st) rs r (λ r. refl) there) ∙ e)))

pub served_unserved : (k : Kind) (r : Request) (t : Entry) (s : Plain) → request_at s r.id ≡ Some r → (q : Request) → request_at (served_as k r t s) r.id ≡ Some q → can_be_served (served_as k r t s) q ≡ false
served_unserved kind.Read r t s there q e = not_parked_unserved (served_as kind.Read r t s) q (ap is_parked (changed_state r.id (state.Answered (out.Answer (value_of t.value))) s.requests r q there e))
served_unserved kind.Take r t s there q e = not_parked_unserved (served_as kind.Take r t s) q (ap is_parked (changed_state r.id (state.Answered (out.Answer (value_of t.value))) s.requests r q there e))
served_unserved kind.Move r t s there q e = not_parked_unserved (served_as kind.Move r t s) q (ap is_parked (changed_state r.id (state.Granted t.id) s.requests r q there e))

live_wanted : (w f l k : Bool) → (w && (f && (l && k))) ≡ true → l ≡ true
live_wanted w f l k e = grind arith

waits_none : {T : Type 0} (w : Bool) (m : T → Bool) (ts : List T) → list_all (λ t. false || not (w && m t)) ts ≡ true → not (w && list_any m ts) ≡ true
waits_none w m [] e = grind arith
waits_none w m (t ∷ ts) e = grind (arith, waits_none w m ts)

not_reads : (k c : Bool) → k ≡ false → not (k && c) ≡ true
not_reads k c e = grind arith

no_reads : (k c : Bool) → not c ≡ true → not (k && c) ≡ true
no_reads k c e = grind arith

-- where the touched request is no Read, no Read waits beside a match
no_read_waits : (s : Plain) (r : Request) → Numbered s → request_at s r.id ≡ Some r → is_read r.kind ≡ false → waits_only (ARequest r.id) s ≡ true → read_waits s ≡ false
no_read_waits s r numbered there k e =
    not_any (λ r. is_read r.kind && can_be_served s r) s.requests
    (all_others (λ x. list_all (only_touched s.clock (ARequest r.id) x) s.tuples) (λ x. not (is_read x.kind && can_be_served s x)) (λ r. r.id) r.id s.requests (rising_requests s numbered)
    (λ x at _. not_reads (is_read x.kind) (can_be_served s x) (ap (λ (r : Request). is_read r.kind) (some_same (sym at ∙ there)) ∙ k))
    (λ x ne h. no_reads (is_read x.kind) (can_be_served s x)
    (waits_none (is_waiting x) (may_have s.clock x) s.tuples (all_imp (only_touched s.clock (ARequest r.id) x) (only_touched s.clock NoRow x) (λ t. not_touched (x.id == r.id) (wants s.clock x t) (other_id x.id r.id ne)) s.tuples h))) e)

or_not : (k o : Bool) → (k ≡ false → o ≡ false) → (k || not o) ≡ true
or_not true o h = refl
or_not false o h = grind (arith, h refl)

pub request_served : (s : Plain) (r : Request) (t : Entry) → Numbered s → request_at s r.id ≡ Some r → tuple_at s t.id ≡ Some t → wants s.clock r t ≡ true → waits_only (ARequest r.id) s ≡ true → Serve s (record { request = r.id; tuple = t.id } ∷ []) (served_with r t s)
request_served s r t numbered there here e only =
    let live : is_live s.clock t ≡ true = live_wanted (is_waiting r) (matches r.pattern t.value) (is_live s.clock t) (is_read r.kind || is_free t) e in
    serve_one s r t [] (served_with r t s) there here e
    (or_not (is_read r.kind) (read_waits s) (λ k. no_read_waits s r numbered there k only))
    (request_unserved r.id (served_as r.kind r t s) (numbered-served_as r.kind r t s numbered) (served_unserved r.kind r t s there) (kept-served_as (ARequest r.id) r.kind r t s numbered here live only), refl)

-- The tuple that is touched is read by all that wait to read it.

told_wants : (now : ℕ) (t : Entry) (r : Request) (x : Entry) → wants now (told_value t r) x ≡ false
told_wants now t r x = refl

-- a request that was served wants nothing, so it is told nothing more
read_told : (now : ℕ) (t : Entry) (r : Request) → read_row now t (told_value t r) ≡ told_value t r
read_told now t r = by_test (is_read r.kind)
  where
    by_test : (b : Bool) → cond {A = Request} (b && false) (told_value t (told_value t r)) (told_value t r) ≡ told_value t r
    by_test true = refl
    by_test false = refl

read_same : (now : ℕ) (t : Entry) (r : Request) → reads now t r ≡ false → read_row now t r ≡ r
read_same now t r e = ap (λ (b : Bool). cond {A = Request} b (told_value t r) r) e

read_now : (now : ℕ) (t : Entry) (r : Request) → reads now t r ≡ true → read_row now t r ≡ told_value t r
read_now now t r e = ap (λ (b : Bool). cond {A = Request} b (told_value t r) r) e

-- no more is to be read
map_same : {R : Type 0} (p : R → Bool) (f : R → R) → ((x : R) → p x ≡ false → f x ≡ x) → (xs : List R) → list_all (λ x. not (p x) || false) xs ≡ true → map f xs ≡ xs
map_same p f h [] e = refl
map_same p f h (x ∷ xs) e = grind (arith, h x, map_same p f h xs)

-- a row that is changed, and then all of them
map_changed : {R : Type 0} (key : R → ℕ) (id : ℕ) (q : R → Bool) (f g : R → R) → ((x : R) → q x ≡ true → g (f x) ≡ g x) → (xs : List R) → list_all (λ x. not (key x == id) || q x) xs ≡ true → map g (changed key id f xs) ≡ map g xs
map_changed key id q f g h [] e = refl
map_changed key id q f g h (x ∷ xs) e = grind (arith, nat_tests, h x, map_changed key id q f g h xs)

at_id : (i n : ℕ) (q : Bool) → i ≢ n → (not (i == n) || q) ≡ true
at_id i n q ne = grind (arith, nat_tests)

at_true : (a q : Bool) → q ≡ true → (a || q) ≡ true
at_true a q e = grind arith

all_always : {R : Type 0} (xs : List R) → list_all (λ _. true) xs ≡ true
all_always [] = refl
all_always (x ∷ xs) = all_always xs

-- each row with that id is the one that is found
all_itself : (q : Request → Bool) (id : ℕ) (r : Request) (rs : List Request) → rising (λ r. r.id) rs ≡ true → row_of (λ r. r.id) id rs ≡ Some r → q r ≡ true → list_all (λ x. not (x.id == id) || q x) rs ≡ true
all_itself q id r rs up there e =
    all_others (λ _. true) (λ x. not (x.id == id) || q x) (λ r. r.id) id rs up
    (λ x at _. at_true (not (x.id == id)) (q x) (ap q (some_same (sym at ∙ there)) ∙ e))
    (λ x ne _. at_id x.id id (q x) ne) (all_always rs)

-- One Read.

numbered-told : (s : Plain) (id : ℕ) (st : RequestState) → Numbered s → Numbered (request_in id st s)
numbered-told s id st h = record { next = h.next; tuples = h.tuples; requests = numbered-changed (λ r. r.id) s.next id (in_state st) s.requests (λ r. refl) h.requests; notifiers = h.notifiers }

-- a request that one reads is as the others have it, so reading it first changes nothing of what all have in the end
read_first : (s : Plain) (t : Entry) (r : Request) → Numbered s → request_at s r.id ≡ Some r → reads s.clock t r ≡ true → read_all t (request_in r.id (state.Answered (out.Answer (value_of t.value))) s) ≡ read_all t s
read_first s t r numbered there e =
    ap (λ (rs : List Request). record s { requests = rs })
    (map_changed (λ r. r.id) r.id (reads s.clock t) (told_value t) (read_row s.clock t)
    (λ x h. read_told s.clock t x ∙ sym (read_now s.clock t x h)) s.requests
    (all_itself (reads s.clock t) r.id r s.requests (rising_requests s numbered) there e))

-- the others still read it

others_read : (now : ℕ) (t : Entry) (id : ℕ) (st : RequestState) (rs : List Request) (ids : List ℕ) → list_all (λ i. not (i == id)) ids ≡ true → list_all (λ i. reads_row now t (row_of (λ r. r.id) i rs)) ids ≡ true → list_all (λ i. reads_row now t (row_of (λ r. r.id) i (changed (λ r. r.id) id (in_state st) rs))) ids ≡ true
others_read now t id st rs [] apart e = refl
others_read now t id st rs (i ∷ ids) apart e =
    both _ _
    (subst (λ (o : Option Request). reads_row now t o ≡ true) (sym (row_changed (λ r. r.id) id (in_state st) i rs (apart_ids i id (front _ _ apart)) (λ r. refl))) (front _ _ e))
    (others_read now t id st rs ids (back _ _ apart) (back _ _ e))
  where
    apart_ids : (i id : ℕ) → not (i == id) ≡ true → i ≢ id
    apart_ids i id e = grind (arith, nat_tests)

fewer_ids : (i n : ℕ) (read any : Bool) → i ≢ n → (not read || (n == i || any)) ≡ true → (not read || any) ≡ true
fewer_ids i n read any ne e = grind (arith, nat_tests)

rest_read : (now : ℕ) (t : Entry) (id : ℕ) (ids : List ℕ) (rs : List Request) → list_all (λ r. not (reads now t r) || (id == r.id || list_any (λ i. i == r.id) ids)) rs ≡ true → list_all (λ r. not (reads now t r) || list_any (λ i. i == r.id) ids) (changed (λ r. r.id) id (told_value t) rs) ≡ true
rest_read now t id ids rs e =
    all_to_map (λ r. not (reads now t r) || (id == r.id || list_any (λ i. i == r.id) ids)) (λ r. not (reads now t r) || list_any (λ i. i == r.id) ids) (λ r. if r.id == id then told_value t r else r) (λ r. by_test r (r.id == id) refl) rs e
  where
    told_no_more : (k m any : Bool) → (not (k && (false && m)) || any) ≡ true
    told_no_more k m any = grind arith

    by_test : (r : Request) (b : Bool) → r.id == id ≡ b → (not (reads now t r) || (id == r.id || list_any (λ i. i == r.id) ids)) ≡ true → (not (reads now t (cond b (told_value t r) r)) || list_any (λ i. i == (cond b (told_value t r) r).id) ids) ≡ true
    by_test r true is h = told_no_more (is_read r.kind) (may_have now r t) (list_any (λ i. i == r.id) ids)
    by_test r false is h = fewer_ids r.id id (reads now t r) (list_any (λ i. i == r.id) ids) (apart r.id id is) h
      where
        apart : (a b : ℕ) → a == b ≡ false → a ≢ b
        apart a b e = grind (arith, nat_tests)

row_reads : (now : ℕ) (t : Entry) (o : Option Request) → reads_row now t o ≡ true → (r : Request) × (o ≡ Some r) × (reads now t r ≡ true)
row_reads now t None e = cc
row_reads now t (Some r) e = (r, refl, e)

served_read : (s : Plain) (t : Entry) (k : Kind) (r : Request) → is_read k ≡ true → served_as k r t s ≡ request_in r.id (state.Answered (out.Answer (value_of t.value))) s
served_read s t kind.Read r e = refl
served_read s t kind.Take r e = cc
served_read s t kind.Move r e = cc

or_left : (a b : Bool) → a ≡ true → (a || b) ≡ true
or_left a b e = grind arith

-- the Reads that wait for the tuple are served, in that order, and then the picks that follow
pub reads_served : (ids : List ℕ) (s : Plain) (t : Entry) (picks : List Pick) (s' : Plain) → Numbered s → tuple_at s t.id ≡ Some t → Readers s t ids → Serve (read_all t s) picks s' → Serve s (picks_of t.id ids ++ picks) s'
reads_served [] s t picks s' numbered here readers rest =
    subst (λ (p : Plain). Serve p picks s') (ap (λ (rs : List Request). record s { requests = rs }) (map_same (reads s.clock t) (read_row s.clock t) (λ x e. read_same s.clock t x e) s.requests readers.all)) rest
reads_served (i ∷ ids) s t picks s' numbered here readers rest =
    let found = row_reads s.clock t (request_at s i) (front _ _ readers.each) in
    let r : Request = found.0 in
    let same : r.id ≡ i = row_has_id (λ (r : Request). r.id) i s.requests r (found.1) in
    let there : request_at s r.id ≡ Some r = subst (λ (i : ℕ). request_at s i ≡ Some r) (sym same) (found.1) in
    let e : reads s.clock t r ≡ true = found.2 in
    let k : is_read r.kind ≡ true = front _ _ e in
    let next : Plain = request_in r.id (state.Answered (out.Answer (value_of t.value))) s in
    let left : Readers next t ids = record {
      distinct = back _ _ readers.distinct;
      each = others_read s.clock t r.id (state.Answered (out.Answer (value_of t.value))) s.requests ids (subst (λ (n : ℕ). list_all (λ j. not (j == n)) ids ≡ true) (sym same) (front _ _ readers.distinct)) (back _ _ readers.each);
      all = rest_read s.clock t r.id ids s.requests (subst (λ (n : ℕ). list_all (λ r. not (reads s.clock t r) || (n == r.id || list_any (λ j. j == r.id) ids)) s.requests ≡ true) (sym same) readers.all);
    } in
    let later : Serve next (picks_of t.id ids ++ picks) s' = reads_served ids next t picks s' (numbered-told s r.id _ numbered) here left (subst (λ (p : Plain). Serve p picks s') (sym (read_first s t r numbered there e)) rest) in
    let all : Serve s (record { request = r.id; tuple = t.id } ∷ (picks_of t.id ids ++ picks)) s' =
    serve_one s r t (picks_of t.id ids ++ picks) s' there here (back _ _ e) (or_left (is_read r.kind) (not (read_waits s)) k) (subst (λ (p : Plain). Serve p (picks_of t.id ids ++ picks) s') (sym (served_read s t r.kind r k)) later) in
    subst (λ (n : ℕ). Serve s (record { request = n; tuple = t.id } ∷ (picks_of t.id ids ++ picks)) s') same all

-- one after another, they are answered as all at once
pub answers_are_read : (ids : List ℕ) (s : Plain) (t : Entry) → Numbered s → Readers s t ids → answered_all t ids s.requests ≡ map (read_row s.clock t) s.requests
answers_are_read [] s t numbered readers = sym (map_same (reads s.clock t) (read_row s.clock t) (λ x e. read_same s.clock t x e) s.requests readers.all)
answers_are_read (i ∷ ids) s t numbered readers =
    let found = row_reads s.clock t (request_at s i) (front _ _ readers.each) in
    let r : Request = found.0 in
    let same : r.id ≡ i = row_has_id (λ (r : Request). r.id) i s.requests r (found.1) in
    let there : request_at s r.id ≡ Some r = subst (λ (i : ℕ). request_at s i ≡ Some r) (sym same) (found.1) in
    let e : reads s.clock t r ≡ true = found.2 in
    let next : Plain = request_in r.id (state.Answered (out.Answer (value_of t.value))) s in
    let left : Readers next t ids = record {
      distinct = back _ _ readers.distinct;
      each = others_read s.clock t r.id (state.Answered (out.Answer (value_of t.value))) s.requests ids (subst (λ (n : ℕ). list_all (λ j. not (j == n)) ids ≡ true) (sym same) (front _ _ readers.distinct)) (back _ _ readers.each);
      all = rest_read s.clock t r.id ids s.requests (subst (λ (n : ℕ). list_all (λ r. not (reads s.clock t r) || (n == r.id || list_any (λ j. j == r.id) ids)) s.requests ≡ true) (sym same) readers.all);
    } in
    ap (λ (n : ℕ). answered_all t ids (changed (λ r. r.id) n (told_value t) s.requests)) (sym same)
    ∙ answers_are_read ids next t (numbered-told s r.id _ numbered) left
    ∙ ap (λ (p : Plain). p.requests) (read_first s t r numbered there e)

-- The readers in rising id are all of them.

none_again : (id : ℕ) (p : Request → Bool) (rs : List Request) → list_all (λ r. nat_lt id r.id) rs ≡ true → list_all (λ i. not (i == id)) (map (λ r. r.id) (filter p rs)) ≡ true
none_again id p [] e = refl
none_again id p (r ∷ rs) e = grind (arith, nat_tests, none_again id p rs)

ids_once : (p : Request → Bool) (rs : List Request) → rising (λ r. r.id) rs ≡ true → once (map (λ r. r.id) (filter p rs)) ≡ true
ids_once p [] up = refl
ids_once p (r ∷ rs) up = grind (arith, nat_tests, none_again r.id p rs, ids_once p rs)

each_any : (p : Request → Bool) (rs : List Request) → list_all (λ r. not (p r) || list_any (λ i. i == r.id) (map (λ r. r.id) (filter p rs))) rs ≡ true
each_any p rs = all_any p rs (map (λ r. r.id) (filter p rs)) (is_in p rs)
  where
    in_more : (p : Request → Bool) (r : Request) (rs : List Request) (ids more : List ℕ) → list_all (λ i. list_any (λ j. j == i) more) ids ≡ true → list_all (λ i. list_any (λ j. j == i) (r.id ∷ more)) ids ≡ true
    in_more p r rs [] more e = refl
    in_more p r rs (i ∷ ids) more e = grind (arith, in_more p r rs ids more)

    is_in : (p : Request → Bool) (rs : List Request) → list_all (λ i. list_any (λ j. j == i) (map (λ r. r.id) (filter p rs))) (map (λ r. r.id) (filter p rs)) ≡ true
    is_in p [] = refl
    is_in p (r ∷ rs) = grind (arith, nat_tests, in_more p r rs (map (λ r. r.id) (filter p rs)) (map (λ r. r.id) (filter p rs)), is_in p rs)

    all_any : (p : Request → Bool) (rs : List Request) (ids : List ℕ) → list_all (λ i. list_any (λ j. j == i) ids) (map (λ r. r.id) (filter p rs)) ≡ true → list_all (λ r. not (p r) || list_any (λ i. i == r.id) ids) rs ≡ true
    all_any p [] ids e = refl
    all_any p (r ∷ rs) ids e = grind (arith, all_any p rs ids)

rows_at : (now : ℕ) (t : Entry) (more : Request → Bool) (rs : List Request) → rising (λ r. r.id) rs ≡ true → list_all (λ i. reads_row now t (row_of (λ r. r.id) i rs)) (map (λ r. r.id) (filter (reads now t) rs)) ≡ true
rows_at now t more [] up = refl
rows_at now t more (r ∷ rs) up = by_test (reads now t r) refl (rest (map (λ r. r.id) (filter (reads now t) rs)) (none_again r.id (reads now t) rs (front _ _ up)) (rows_at now t more rs (back _ _ up)))
  where
    first : (i : ℕ) (x : Request) (xs : List Request) → i ≡ x.id → row_of (λ r. r.id) i (x ∷ xs) ≡ Some x
    first i x xs e = grind (arith, nat_tests)

    past : (i : ℕ) (x : Request) (xs : List Request) → not (i == x.id) ≡ true → row_of (λ r. r.id) i (x ∷ xs) ≡ row_of (λ r. r.id) i xs
    past i x xs e = grind (arith, nat_tests)

    rest : (ids : List ℕ) → list_all (λ i. not (i == r.id)) ids ≡ true → list_all (λ i. reads_row now t (row_of (λ r. r.id) i rs)) ids ≡ true → list_all (λ i. reads_row now t (row_of (λ r. r.id) i (r ∷ rs))) ids ≡ true
    rest [] apart e = refl
    rest (i ∷ ids) apart e = both _ _ (subst (λ (o : Option Request). reads_row now t o ≡ true) (sym (past i r rs (front _ _ apart))) (front _ _ e)) (rest ids (back _ _ apart) (back _ _ e))

    by_test : (b : Bool) → reads now t r ≡ b → list_all (λ i. reads_row now t (row_of (λ r. r.id) i (r ∷ rs))) (map (λ r. r.id) (filter (reads now t) rs)) ≡ true → list_all (λ i. reads_row now t (row_of (λ r. r.id) i (r ∷ rs))) (map (λ r. r.id) (cond {A = List Request} b (r ∷ filter (reads now t) rs) (filter (reads now t) rs))) ≡ true
    by_test true is e = both _ _ (subst (λ (o : Option Request). reads_row now t o ≡ true) (sym (first r.id r rs refl)) is) e
    by_test false is e = e

pub readers_in_order : (s : Plain) (t : Entry) → Numbered s → Readers s t (reader_ids s t)
readers_in_order s t numbered = record {
  distinct = ids_once (reads s.clock t) s.requests (rising_requests s numbered);
  each = rows_at s.clock t (reads s.clock t) s.requests (rising_requests s numbered);
  all = each_any (reads s.clock t) s.requests;
}

-- Then nobody waits but those that would take the tuple, or hold it.

abbrev wanted_by_it : ℕ → ℕ → Entry → Request → Entry → Bool
wanted_by_it now id t r x = (x.id == id && wants now r t) || not (wants now r x)

abbrev taken_by_it : ℕ → ℕ → Entry → Request → Entry → Bool
taken_by_it now id t r x = (x.id == id && takes now t r) || not (wants now r x)

refined : (i w : Bool) → (i && w || not w) ≡ true → (i || not w) ≡ true
refined i w e = grind arith

it_or_not : (i w : Bool) → i ≡ true → ((i && w) || not w) ≡ true
it_or_not i w e = grind arith

not_it : (i w v : Bool) → i ≡ false → (i || not w) ≡ true → ((i && v) || not w) ≡ true
not_it i w v e h = grind arith

only_it : (s : Plain) (t : Entry) → Numbered s → tuple_at s t.id ≡ Some t → waits_only (ATuple t.id) s ≡ true → pairs (wanted_by_it s.clock t.id t) s.requests s.tuples ≡ true
only_it s t numbered here e =
    pairs_other_tuples (only_touched s.clock (ATuple t.id)) (wanted_by_it s.clock t.id t) (λ t. t.id) t.id s.requests s.tuples (rising_tuples s numbered)
    (λ r x at _. subst (λ (x : Entry). wanted_by_it s.clock t.id t r x ≡ true) (sym (some_same (sym at ∙ here))) (it_or_not (t.id == t.id) (wants s.clock r t) (same_id t.id t.id refl)))
    (λ r x ne. not_it (x.id == t.id) (wants s.clock r x) (wants s.clock r t) (other_id x.id t.id ne)) e

told_test : (i k m n : Bool) → ((i && (not k && (false && m))) || not (false && n)) ≡ true
told_test i k m n = grind arith

left_test : (i k w v : Bool) → (k && w) ≡ false → ((i && w) || not v) ≡ true → ((i && (not k && w)) || not v) ≡ true
left_test i k w v e h = grind arith

takers_left : (s : Plain) (t : Entry) → Numbered s → tuple_at s t.id ≡ Some t → waits_only (ATuple t.id) s ≡ true → pairs (taken_by_it s.clock t.id t) (map (read_row s.clock t) s.requests) s.tuples ≡ true
takers_left s t numbered here e =
    pairs_requests (wanted_by_it s.clock t.id t) (taken_by_it s.clock t.id t) (read_row s.clock t) (λ r x. by_test r x (reads s.clock t r) refl) s.requests s.tuples (only_it s t numbered here e)
  where
    by_test : (r : Request) (x : Entry) (b : Bool) → reads s.clock t r ≡ b → wanted_by_it s.clock t.id t r x ≡ true → taken_by_it s.clock t.id t (cond b (told_value t r) r) x ≡ true
    by_test r x true is h = told_test (x.id == t.id) (is_read r.kind) (may_have s.clock r t) (may_have s.clock r x)
    by_test r x false is h = left_test (x.id == t.id) (is_read r.kind) (wants s.clock r t) (wants s.clock r x) is h

all_two : {R : Type 0} (p q p' : R → Bool) → ((x : R) → p x ≡ true → q x ≡ true → p' x ≡ true) → (xs : List R) → list_all p xs ≡ true → list_all q xs ≡ true → list_all p' xs ≡ true
all_two p q p' h [] e f = refl
all_two p q p' h (x ∷ xs) e f = grind (arith, h x, all_two p q p' h xs)

untaken : (i k w : Bool) → not k ≡ true → ((i && k) || not w) ≡ true → (false || not w) ≡ true
untaken i k w e h = grind arith

told_takes : (k m : Bool) → not (not k && (false && m)) ≡ true
told_takes k m = grind arith

-- nobody waits to take it: nobody waits
pub none_takes : (s : Plain) (t : Entry) → Numbered s → tuple_at s t.id ≡ Some t → no_taker s t ≡ true → waits_only (ATuple t.id) s ≡ true → Serve (read_all t s) [] (read_all t s)
none_takes s t numbered here untaken_by e = (
  nobody (read_all t s) (all_two (λ r. list_all (taken_by_it s.clock t.id t r) s.tuples) (λ r. not (takes s.clock t r)) (λ r. list_all (only_touched s.clock NoRow r) s.tuples)
      (λ r h k. all_imp (taken_by_it s.clock t.id t r) (only_touched s.clock NoRow r) (λ x. untaken (x.id == t.id) (takes s.clock t r) (wants s.clock r x) k) s.tuples h)
      (map (read_row s.clock t) s.requests) (takers_left s t numbered here e)
      (all_to_map (λ r. not (takes s.clock t r)) (λ r. not (takes s.clock t r)) (read_row s.clock t) (λ r h. by_test r h (reads s.clock t r)) s.requests untaken_by)),
  refl,
)
  where
    by_test : (r : Request) → not (takes s.clock t r) ≡ true → (b : Bool) → not (takes s.clock t (cond b (told_value t r) r)) ≡ true
    by_test r h true = told_takes (is_read r.kind) (may_have s.clock r t)
    by_test r h false = h

-- One that waits to take it, or to hold it, gets it.

no_reader : {T : Type 0} (k w c : Bool) (a m : T → Bool) (ts : List T) → list_all (λ x. (a x && (not k && c)) || not (w && m x)) ts ≡ true → not (k && (w && list_any m ts)) ≡ true
no_reader k w c a m [] e = grind arith
no_reader k w c a m (t ∷ ts) e = grind (arith, no_reader k w c a m ts)

no_read_left : (s : Plain) (t : Entry) → Numbered s → tuple_at s t.id ≡ Some t → waits_only (ATuple t.id) s ≡ true → read_waits (read_all t s) ≡ false
no_read_left s t numbered here e =
    not_any (λ r. is_read r.kind && can_be_served (read_all t s) r) (map (read_row s.clock t) s.requests)
    (all_imp (λ r. list_all (taken_by_it s.clock t.id t r) s.tuples) (λ r. not (is_read r.kind && can_be_served (read_all t s) r))
    (λ r. no_reader (is_read r.kind) (is_waiting r) (wants s.clock r t) (λ x. x.id == t.id) (may_have s.clock r) s.tuples) (map (read_row s.clock t) s.requests) (takers_left s t numbered here e))

gone_test : (i k w : Bool) → not i ≡ true → ((i && k) || not w) ≡ true → (false || not w) ≡ true
gone_test i k w e h = grind arith

-- it is held: a Read that waits would have read it, and no other may have it
held_test : (i w f l l' k fr : Bool) → l ≡ true → ((i && (not k && (w && (f && (l && (k || fr)))))) || not (w && (f && (l && (k || fr))))) ≡ true → (false || not (w && (f && (l' && (k || false))))) ≡ true
held_test i w f l l' k fr e h = grind arith

taken : (k : Kind) (r : Request) (s : Plain) (t : Entry) → is_read k ≡ false → rising (λ t. t.id) s.tuples ≡ true → tuple_at s t.id ≡ Some t → is_live s.clock t ≡ true → pairs (taken_by_it s.clock t.id t) s.requests s.tuples ≡ true → nobody_waits (served_as k r t s) ≡ true
taken kind.Read r s t k up here live e = cc
taken kind.Take r s t k up here live e =
    nobody (served_as kind.Take r t s) (kept-in_state NoRow r.id _ (tuple_ended last.Taken t s) refl
    (all_imp (λ r. list_all (taken_by_it s.clock t.id t r) s.tuples) (λ r. list_all (only_touched s.clock NoRow r) (filter (λ x. not (x.id == t.id)) s.tuples))
    (λ r. all_filter_imp (taken_by_it s.clock t.id t r) (only_touched s.clock NoRow r) (λ x. not (x.id == t.id)) (λ x. gone_test (x.id == t.id) (takes s.clock t r) (wants s.clock r x)) s.tuples) s.requests e))
taken kind.Move r s t k up here live e =
    nobody (served_as kind.Move r t s) (kept-in_state NoRow r.id _ (with_tuple t.id (held_by r.id) s) refl
    (pairs_changed_tuple (taken_by_it s.clock t.id t) (only_touched s.clock NoRow) (λ t. t.id) t.id (held_by r.id) t s.requests s.tuples up here
    (λ x. held_test (t.id == t.id) (is_waiting x) (matches x.pattern t.value) (is_live s.clock t) (is_live s.clock (held_by r.id t)) (is_read x.kind) (is_free t) live)
    (λ x y ne. not_touched_taken (y.id == t.id) (takes s.clock t x) (wants s.clock x y) (other_id y.id t.id ne)) e))
  where
    not_touched_taken : (i k w : Bool) → i ≡ false → ((i && k) || not w) ≡ true → (false || not w) ≡ true
    not_touched_taken i k w e h = grind arith

not_reads_it : (k w : Bool) → (not k && w) ≡ true → (k && w) ≡ false
not_reads_it k w e = grind arith

not_true : (k w : Bool) → (not k && w) ≡ true → k ≡ false
not_true k w e = grind arith

read_row_id : (now : ℕ) (t : Entry) (r : Request) → (read_row now t r).id ≡ r.id
read_row_id now t r = by_test (reads now t r)
  where
    by_test : (b : Bool) → (cond {A = Request} b (told_value t r) r).id ≡ r.id
    by_test true = refl
    by_test false = refl

pub one_takes : (s : Plain) (t : Entry) (r : Request) → Numbered s → tuple_at s t.id ≡ Some t → request_at s r.id ≡ Some r → takes s.clock t r ≡ true → waits_only (ATuple t.id) s ≡ true → Serve (read_all t s) (record { request = r.id; tuple = t.id } ∷ []) (served_with r t (read_all t s))
one_takes s t r numbered here there e only =
    let k : is_read r.kind ≡ false = not_true (is_read r.kind) (wants s.clock r t) e in
    let w : wants s.clock r t ≡ true = back _ _ e in
    let live : is_live s.clock t ≡ true = live_wanted (is_waiting r) (matches r.pattern t.value) (is_live s.clock t) (is_read r.kind || is_free t) w in
    let stays : read_row s.clock t r ≡ r = read_same s.clock t r (not_reads_it (is_read r.kind) (wants s.clock r t) e) in
    let there' : request_at (read_all t s) r.id ≡ Some r = row_map (λ r. r.id) r.id (read_row s.clock t) s.requests r (read_row_id s.clock t) there ∙ ap (λ (x : Request). Some x) stays in
    serve_one (read_all t s) r t [] (served_with r t (read_all t s)) there' here w
    (or_not (is_read r.kind) (read_waits (read_all t s)) (λ _. no_read_left s t numbered here only))
    (taken r.kind r (read_all t s) t k (rising_tuples s numbered) here live (takers_left s t numbered here only), refl)

-- The tuple that is touched: all that wait to read it do so, and then one that waits to take it, or to hold it, gets it.

more_none : {R : Type 0} (xs : List R) → xs ++ [] ≡ xs
more_none [] = refl
more_none (x ∷ xs) = grind (arith, more_none xs)

pub tuple_read : (s : Plain) (t : Entry) (ids : List ℕ) → Numbered s → tuple_at s t.id ≡ Some t → Readers s t ids → no_taker s t ≡ true → waits_only (ATuple t.id) s ≡ true → Serve s (picks_of t.id ids) (read_all t s)
tuple_read s t ids numbered here readers free only = subst (λ (picks : List Pick). Serve s picks (read_all t s)) (more_none (picks_of t.id ids)) (reads_served ids s t [] (read_all t s) numbered here readers (none_takes s t numbered here free only))

pub tuple_taken : (s : Plain) (t : Entry) (ids : List ℕ) (r : Request) → Numbered s → tuple_at s t.id ≡ Some t → Readers s t ids → request_at s r.id ≡ Some r → takes s.clock t r ≡ true → waits_only (ATuple t.id) s ≡ true → Serve s (picks_of t.id ids ++ record { request = r.id; tuple = t.id } ∷ []) (served_with r t (read_all t s))
tuple_taken s t ids r numbered here readers there e only = reads_served ids s t (record { request = r.id; tuple = t.id } ∷ []) (served_with r t (read_all t s)) numbered here readers (one_takes s t r numbered here there e only)
