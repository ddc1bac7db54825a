-- What was touched is served.
use Rattle.std.proofs.Common.{◌≡◌, ℕ, Bool, true, false, List, [], ◌∷◌, ◌++◌, Option, Some, None, refl, sym, ◌∙◌, ap, subst}
use Rattle.std.specs.Prelude.{if◌then◌else◌}
use Rattle.std.proofs.lemmas.List.{append-nil}
use Rattle.rinda_rules.specs.declared.turn.Pick.{Pick}
use Rattle.rinda_rules.specs.declared.plain.Entry.{Entry}
use Rattle.rinda_rules.specs.declared.plain.Request.{Request}
use Rattle.rinda_rules.specs.Rows.{row_of}
use Rattle.rinda_rules.specs.Space.{Plain, tuple_at, request_at, is_live, can_be_served}
use Rattle.rinda_rules.specs.Phases.{served_with, Serve}
use Rattle.rinda_rules.specs.Cases.{read_by}
use Rattle.rinda_rules.proofs.Lists.{row_has_id, row_map}
use Rattle.rinda_rules.proofs.Finding.{itself-request, itself-tuple}
use Rattle.rinda_effects.specs.Touches.{NoRow, ATuple, ARequest, wants, waits_only}
use Rattle.rinda_effects.specs.Serves.{takes, picks_of, read_all}
use Rattle.rinda_effects.specs.Unserved.{Unserved}
use Rattle.rinda_effects.proofs.Kept.{nobody}
use Rattle.rinda_effects.proofs.Picking.{tuple_dead, tuple_read, tuple_taken, request_unserved, request_served}
use Rattle.rinda_wait.specs.Waiting.{readers_of}
use Rattle.rinda_tables.specs.declared.tables.Tables.{Tables}
use Rattle.rinda_tables.specs.Holds.{Holds}
use Rattle.rinda_tables.specs.Tabled.{ahead_of}
use Rattle.rinda_serve.specs.Serving.{Serves, PicksFor, BecomesWith, ReadsWith, taker_for, match_of, taker_picks, tuple_picks, request_picks}
use Rattle.rinda_serve.proofs.Rising.{FoundRow}
use Rattle.rinda_serve.proofs.Tells.{told_all, read-by-id}
use Rattle.rinda_serve.proofs.Waits.{readers-are, read-all-same, none-takes, one-takes, taker-reads-not, one-match, no-match}

-- the rows ahead are the space's

tuple-there : (s : Plain) (t : Tables) (id : ℕ) (o : Option Entry) → Holds s (ahead_of t) → row_of (λ t. t.id) id t.tuples.ahead ≡ o → tuple_at s id ≡ o
tuple-there s t id o h is = ap (λ (rows : List Entry). row_of (λ t. t.id) id rows) (sym h.tuples) ∙ is

request-there : (s : Plain) (t : Tables) (id : ℕ) (o : Option Request) → Holds s (ahead_of t) → row_of (λ r. r.id) id t.requests.ahead ≡ o → request_at s id ≡ o
request-there s t id o h is = ap (λ (rows : List Request). row_of (λ r. r.id) id rows) (sym h.requests) ∙ is

-- No row is touched, or one that can't be served.

pub no-row : (a : Tables) → Serves NoRow a a []
no-row a = λ s u h. (s, (nobody s u.only, refl), h)

pub no-tuple : (id : ℕ) (a : Tables) → row_of (λ t. t.id) id a.tuples.ahead ≡ None → Serves (ATuple id) a a []
no-tuple id a none = λ s u h. (s, (tuple_dead id s h.numbered (λ t there. not-there s t (sym there ∙ tuple-there s a id None h none)) u.only, refl), h)
  where
    not-there : (s : Plain) (t : Entry) → Some t ≡ None → is_live s.clock t ≡ false
    not-there s t e = cc

pub dead-tuple : (id : ℕ) (a : Tables) (e : Entry) → row_of (λ t. t.id) id a.tuples.ahead ≡ Some e → is_live a.clock e ≡ false → Serves (ATuple id) a a []
dead-tuple id a e there dead = λ s u h. (s, (tuple_dead id s h.numbered (λ t here. is-it s t (sym (tuple-there s a id (Some e) h there) ∙ here) (subst (λ (now : ℕ). is_live now e ≡ false) h.clock dead)) u.only, refl), h)
  where
    is-it : (s : Plain) (t : Entry) → Some e ≡ Some t → is_live s.clock e ≡ false → is_live s.clock t ≡ false
    is-it s t same off = let is : e ≡ t = cc in subst (λ (x : Entry). is_live s.clock x ≡ false) is off

pub lone-request : (id : ℕ) (a : Tables) → match_of a.clock a.tuples.ahead (row_of (λ r. r.id) id a.requests.ahead) ≡ None → Serves (ARequest id) a a []
lone-request id a none = λ s u h. (s, (request_unserved id s h.numbered (λ r there. lone s r h (there)) u.only, refl), h)
  where
    lone : (s : Plain) (r : Request) → Holds s (ahead_of a) → request_at s id ≡ Some r → can_be_served s r ≡ false
    lone s r h there =
        let row : row_of (λ r. r.id) id a.requests.ahead ≡ Some r = ap (λ (rows : List Request). row_of (λ r. r.id) id rows) h.requests ∙ there in
        no-match s r (ap (λ (now : ℕ). match_of now s.tuples (Some r)) (sym h.clock) ∙ ap (λ (ts : List Entry). match_of a.clock ts (Some r)) (sym h.tuples) ∙ ap (match_of a.clock a.tuples.ahead) (sym row) ∙ none)

-- A tuple that is live.

module _ (id : ℕ) (a : Tables) (e : Entry) (there : row_of (λ t. t.id) id a.tuples.ahead ≡ Some e) (live : is_live a.clock e ≡ true) where
  alive : (s : Plain) → Holds s (ahead_of a) → is_live s.clock e ≡ true
  alive s h = subst (λ (now : ℕ). is_live now e ≡ true) h.clock live

  here : (s : Plain) → Holds s (ahead_of a) → tuple_at s id ≡ Some e
  here s h = tuple-there s a id (Some e) h there

  same : (s : Plain) → Holds s (ahead_of a) → e.id ≡ id
  same s h = row_has_id (λ (t : Entry). t.id) id s.tuples e (here s h)

  only : (s : Plain) → Holds s (ahead_of a) → Unserved (ATuple id) s → waits_only (ATuple e.id) s ≡ true
  only s h u = subst (λ (i : ℕ). waits_only (ATuple i) s ≡ true) (sym (same s h)) u.only

  takes-as : (s : Plain) (o : Option ℕ) → Holds s (ahead_of a) → taker_for e a.requests.ahead ≡ o → taker_for e s.requests ≡ o
  takes-as s o h is = ap (taker_for e) (sym h.requests) ∙ is

  pub live-read : (b : Tables) (picks : List Pick) → taker_for e a.requests.ahead ≡ None → ReadsWith id a b picks → Serves (ATuple id) a b picks
  live-read b picks none reads = λ s u h.
      let read = reads s e h (here s h) in
      let picked : picks_of e.id (readers_of e.value s.requests) ≡ picks = ap (λ (i : ℕ). picks_of i (readers_of e.value s.requests)) (same s h) ∙ sym read.0 in
      let serves : Serve s (picks_of e.id (readers_of e.value s.requests)) (read_all e s) = tuple_read s e (readers_of e.value s.requests) h.numbered (itself-tuple s id e (here s h)) (readers-are s e h.numbered (alive s h)) (none-takes s e (alive s h) (takes-as s None h none)) (only s h u) in
      (read_all e s, subst (λ (ps : List Pick). Serve s ps (read_all e s)) picked serves, subst (λ (x : Plain). Holds x (ahead_of b)) (read-all-same s e (alive s h)) read.1)

  pub live-taken : (b d : Tables) (request : ℕ) (first picks : List Pick) → taker_for e a.requests.ahead ≡ Some request → ReadsWith id a b first → BecomesWith request id served_with b d → picks ≡ first ++ record { request = request; tuple = id } ∷ [] → Serves (ATuple id) a d picks
  live-taken b d request first picks some reads given are = λ s u h.
      let read = reads s e h (here s h) in
      let f : FoundRow (λ r. r.id) (takes s.clock e) request s.requests = one-takes s e request h.numbered (alive s h) (takes-as s (Some request) h some) in
      let r : Request = f.row in
      let told : Plain = told_all e.value s in
      let kept : request_at told request ≡ Some r = row_map (λ (r : Request). r.id) request (read_by e.value) s.requests r (read-by-id e.value) f.there ∙ ap (λ (x : Request). Some x) (taker-reads-not s.clock e r f.passes) in
      let holds : Holds (served_with r e told) (ahead_of d) = given told r e read.1 kept (here s h) in
      let serves : Serve s (picks_of e.id (readers_of e.value s.requests) ++ record { request = r.id; tuple = e.id } ∷ []) (served_with r e (read_all e s)) = tuple_taken s e (readers_of e.value s.requests) r h.numbered (itself-tuple s id e (here s h)) (readers-are s e h.numbered (alive s h)) (itself-request s request r f.there) f.passes (only s h u) in
      let picked : picks_of e.id (readers_of e.value s.requests) ++ record { request = r.id; tuple = e.id } ∷ [] ≡ picks = ap (λ (i : ℕ). picks_of i (readers_of e.value s.requests) ++ record { request = r.id; tuple = i } ∷ []) (same s h) ∙ ap (λ (q : ℕ). picks_of id (readers_of e.value s.requests) ++ record { request = q; tuple = id } ∷ []) f.is ∙ ap (λ (ps : List Pick). ps ++ record { request = request; tuple = id } ∷ []) (sym read.0) ∙ sym are in
      (served_with r e (read_all e s), subst (λ (ps : List Pick). Serve s ps (served_with r e (read_all e s))) picked serves, subst (λ (x : Plain). Holds (served_with r e x) (ahead_of d)) (read-all-same s e (alive s h)) holds)

-- A request that has a match.
pub one-served : (id tuple : ℕ) (a b : Tables) (picks : List Pick) → match_of a.clock a.tuples.ahead (row_of (λ r. r.id) id a.requests.ahead) ≡ Some tuple → BecomesWith id tuple served_with a b → picks ≡ record { request = id; tuple = tuple } ∷ [] → Serves (ARequest id) a b picks
one-served id tuple a b picks some given are = λ s u h. by_row s u h (request_at s id) refl
  where
    found : (s : Plain) (o : Option Request) → Holds s (ahead_of a) → request_at s id ≡ o → match_of s.clock s.tuples o ≡ Some tuple
    found s o h is = ap (λ (now : ℕ). match_of now s.tuples o) (sym h.clock) ∙ ap (λ (ts : List Entry). match_of a.clock ts o) (sym h.tuples) ∙ ap (match_of a.clock a.tuples.ahead) (sym is ∙ ap (λ (rows : List Request). row_of (λ r. r.id) id rows) (sym h.requests)) ∙ some

    by_row : (s : Plain) → Unserved (ARequest id) s → Holds s (ahead_of a) → (o : Option Request) → request_at s id ≡ o → (s' : Plain) × Serve s picks s' × Holds s' (ahead_of b)
    by_row s u h None is = let no : None ≡ Some tuple = found s None h is in cc
    by_row s u h (Some r) is =
        let f : FoundRow (λ t. t.id) (wants s.clock r) tuple s.tuples = one-match s r tuple h.numbered (found s (Some r) h is) in
        let t : Entry = f.row in
        let same : r.id ≡ id = row_has_id (λ (r : Request). r.id) id s.requests r is in
        let only : waits_only (ARequest r.id) s ≡ true = subst (λ (i : ℕ). waits_only (ARequest i) s ≡ true) (sym same) u.only in
        let serves : Serve s (record { request = r.id; tuple = t.id } ∷ []) (served_with r t s) = request_served s r t h.numbered (itself-request s id r is) (itself-tuple s tuple t f.there) f.passes only in
        let picked : record { request = r.id; tuple = t.id } ∷ [] ≡ picks = ap (λ (q : ℕ). record { request = q; tuple = t.id } ∷ []) same ∙ ap (λ (i : ℕ). record { request = id; tuple = i } ∷ []) f.is ∙ sym are in
        (served_with r t s, subst (λ (ps : List Pick). Serve s ps (served_with r t s)) picked serves, given s r t h is f.there)

-- Which picks those are.

pub picks-no-row : (a : Tables) → PicksFor NoRow a []
picks-no-row a = λ s h. refl

pub picks-no-tuple : (id : ℕ) (a : Tables) → row_of (λ t. t.id) id a.tuples.ahead ≡ None → PicksFor (ATuple id) a []
picks-no-tuple id a none = λ s h. sym (ap (tuple_picks id s.clock s.requests) (tuple-there s a id None h none))

of-live : (id : ℕ) (s : Plain) (e : Entry) (b : Bool) (o : Option ℕ) → tuple_at s id ≡ Some e → is_live s.clock e ≡ b → taker_for e s.requests ≡ o → (if b then picks_of id (readers_of e.value s.requests) ++ taker_picks id o else []) ≡ tuple_picks id s.clock s.requests (tuple_at s id)
of-live id s e b o here live taker =
    ap (λ (b : Bool). if b then picks_of id (readers_of e.value s.requests) ++ taker_picks id o else []) (sym live)
    ∙ ap (λ (o : Option ℕ). if is_live s.clock e then picks_of id (readers_of e.value s.requests) ++ taker_picks id o else []) (sym taker)
    ∙ ap (tuple_picks id s.clock s.requests) (sym here)

pub picks-dead : (id : ℕ) (a : Tables) (e : Entry) → row_of (λ t. t.id) id a.tuples.ahead ≡ Some e → is_live a.clock e ≡ false → PicksFor (ATuple id) a []
picks-dead id a e there dead = λ s h. of-live id s e false (taker_for e s.requests) (tuple-there s a id (Some e) h there) (subst (λ (now : ℕ). is_live now e ≡ false) h.clock dead) refl

pub picks-read : (id : ℕ) (a b : Tables) (e : Entry) (picks : List Pick) → row_of (λ t. t.id) id a.tuples.ahead ≡ Some e → is_live a.clock e ≡ true → taker_for e a.requests.ahead ≡ None → ReadsWith id a b picks → PicksFor (ATuple id) a picks
picks-read id a b e picks there live none reads = λ s h.
    let here = tuple-there s a id (Some e) h there in
    let read = reads s e h here in
    read.0 ∙ sym (append-nil (picks_of id (readers_of e.value s.requests)))
    ∙ of-live id s e true None here (subst (λ (now : ℕ). is_live now e ≡ true) h.clock live) (ap (taker_for e) (sym h.requests) ∙ none)

pub picks-taken : (id request : ℕ) (a b : Tables) (e : Entry) (first picks : List Pick) → row_of (λ t. t.id) id a.tuples.ahead ≡ Some e → is_live a.clock e ≡ true → taker_for e a.requests.ahead ≡ Some request → ReadsWith id a b first → picks ≡ first ++ record { request = request; tuple = id } ∷ [] → PicksFor (ATuple id) a picks
picks-taken id request a b e first picks there live some reads are = λ s h.
    let here = tuple-there s a id (Some e) h there in
    let read = reads s e h here in
    are ∙ ap (λ (ps : List Pick). ps ++ record { request = request; tuple = id } ∷ []) read.0
    ∙ of-live id s e true (Some request) here (subst (λ (now : ℕ). is_live now e ≡ true) h.clock live) (ap (taker_for e) (sym h.requests) ∙ some)

match-there : (s : Plain) (a : Tables) (id : ℕ) (o : Option ℕ) → Holds s (ahead_of a) → match_of a.clock a.tuples.ahead (row_of (λ r. r.id) id a.requests.ahead) ≡ o → match_of s.clock s.tuples (request_at s id) ≡ o
match-there s a id o h is =
    ap (λ (now : ℕ). match_of now s.tuples (request_at s id)) (sym h.clock)
    ∙ ap (λ (ts : List Entry). match_of a.clock ts (request_at s id)) (sym h.tuples)
    ∙ ap (λ (rows : List Request). match_of a.clock a.tuples.ahead (row_of (λ r. r.id) id rows)) (sym h.requests) ∙ is

pub picks-lone : (id : ℕ) (a : Tables) → match_of a.clock a.tuples.ahead (row_of (λ r. r.id) id a.requests.ahead) ≡ None → PicksFor (ARequest id) a []
picks-lone id a none = λ s h. sym (ap (request_picks id) (match-there s a id None h none))

pub picks-one : (id tuple : ℕ) (a : Tables) (picks : List Pick) → match_of a.clock a.tuples.ahead (row_of (λ r. r.id) id a.requests.ahead) ≡ Some tuple → picks ≡ record { request = id; tuple = tuple } ∷ [] → PicksFor (ARequest id) a picks
picks-one id tuple a picks some are = λ s h. are ∙ sym (ap (request_picks id) (match-there s a id (Some tuple) h some))
