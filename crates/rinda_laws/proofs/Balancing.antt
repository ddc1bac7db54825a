-- Each way of changing the space keeps the balance.
use Rattle.std.proofs.Common.{◌≡◌, ◌≢◌, ℕ, ◌+◌, ◌<◌, ◌≤◌, Bool, true, false, cond, not, ◌&&◌, eqb, ltb, List, [], ◌∷◌, ◌++◌, map, length, drop, Option, Some, None, refl, sym, ◌∙◌, ap, subst, arith}
use Rattle.std.proofs.lemmas.List.{append_assoc}
use Rattle.std.specs.Prelude.{◌==◌, filter, if◌then◌else◌}
use Rattle.std.specs.List.{list_all}
use Rattle.std.proofs.lemmas.Bool.Decides.{nat_tests}
use Rattle.rinda_rules.specs.declared.object.Last.{Last}
use Rattle.rinda_rules.specs.declared.object.Last.TheVariants as last
use Rattle.rinda_rules.specs.declared.event.Event.{Event}
use Rattle.rinda_rules.specs.declared.plain.Happening.TheVariants as happening
use Rattle.rinda_rules.specs.declared.plain.Entry.{Entry}
use Rattle.rinda_rules.specs.declared.plain.Raised.{Raised}
use Rattle.rinda_rules.specs.Rows.{row_of, changed, without, rising, numbered}
use Rattle.rinda_rules.specs.Space.{Plain, tuple_at}
use Rattle.rinda_rules.specs.Phases.{happening_of, tuple_ended, held_by, with_tuple}
use Rattle.rinda_rules.specs.AtOnce.{aged_tuple, expires, deleted}
use Rattle.rinda_rules.specs.Cases.{new_tuple, settle_tuple}
use Rattle.rinda_rules.proofs.Lists.{numbered-map, numbered-filter, numbered-changed, numbered-more, numbered-push}
use Rattle.rinda_rules.proofs.Finding.{itself-tuple}
use Rattle.rinda_rules.proofs.Keeping.{Keeps}
use Rattle.rinda_rules.specs.Sound.{Sound}
use Rattle.rinda_rules.specs.declared.turn.Turn.{Turn}
use Rattle.rinda_rules.specs.Legal.{plain_from, LegalFrom}
use Rattle.rinda_laws.specs.Starting.{IsStart, raised_since}
use Rattle.rinda_laws.specs.Balance.{Balanced, how_many, writes, takes, deletes, there, is_write, is_take, is_delete}
use Rattle.rinda_laws.proofs.Turning.{kept_from, sound_before, plain_from-append, LegalFrom-back}

count_append : {X : Type 0} (p : X → Bool) (xs ys : List X) → how_many p (xs ++ ys) ≡ how_many p xs + how_many p ys
count_append p [] ys = grind arith
count_append p (x ∷ xs) ys = grind (arith, count_append p xs ys)

there-map : (id : ℕ) (f : Entry → Entry) (ts : List Entry) → ((t : Entry) → (f t).id ≡ t.id) → there id (map f ts) ≡ there id ts
there-map id f [] keeps = refl
there-map id f (t ∷ ts) keeps = grind (arith, nat_tests, keeps t, there-map id f ts keeps)

changed_id : (of : ℕ) (f : Entry → Entry) → ((t : Entry) → (f t).id ≡ t.id) → (t : Entry) → (if t.id == of then f t else t).id ≡ t.id
changed_id of f keeps t = by_test (t.id == of)
  where
    by_test : (b : Bool) → (cond {A = Entry} b (f t) t).id ≡ t.id
    by_test true = keeps t
    by_test false = refl

there-changed : (id of : ℕ) (f : Entry → Entry) (ts : List Entry) → ((t : Entry) → (f t).id ≡ t.id) → there id (changed (λ t. t.id) of f ts) ≡ there id ts
there-changed id of f ts keeps = there-map id (λ t. if t.id == of then f t else t) ts (changed_id of f keeps)

-- no row has an id below those of all
without_none : (id : ℕ) (ts : List Entry) → list_all (λ t. ltb id t.id) ts ≡ true → without (λ t. t.id) id ts ≡ ts
without_none id [] e = refl
without_none id (t ∷ ts) e = grind (arith, nat_tests, without_none id ts)

-- the one row that leaves
there-without : (id of : ℕ) (ts : List Entry) (t : Entry) → rising (λ t. t.id) ts ≡ true → row_of (λ t. t.id) of ts ≡ Some t → there id ts ≡ there id (without (λ t. t.id) of ts) + cond (eqb t.id id) 1 0
there-without id of [] t up e = cc
there-without id of (x ∷ xs) t up e = grind (arith, nat_tests, without_none of xs, there-without id of xs t)

up : (a b : Bool) → (a && b) ≡ true → a ≡ true
up a b e = grind arith

-- what a filter leaves out is listed elsewhere
count_parted : {X Y : Type 0} (p gone : X → Bool) (w : Y → Bool) (g : X → Y) → ((x : X) → w (g x) ≡ p x) → (xs : List X) → how_many p xs ≡ how_many p (filter (λ x. not (gone x)) xs) + how_many w (map g (filter gone xs))
count_parted p gone w g listed [] = refl
count_parted p gone w g listed (x ∷ xs) = grind (arith, nat_tests, listed x, count_parted p gone w g listed xs)

aged_id : (now : ℕ) (t : Entry) → (aged_tuple now t).id ≡ t.id
aged_id now t = grind (arith, nat_tests)

-- Aging: what expires is deleted
there-aged : (id now : ℕ) (ts : List Entry) → there id ts ≡ there id (map (aged_tuple now) (filter (λ t. not (expires now t)) ts)) + deletes id (map deleted (filter (expires now) ts))
there-aged id now ts =
    count_parted (λ t. t.id == id) (expires now) (λ e. is_delete e.what && e.id == id) deleted (λ t. refl) ts
    ∙ ap (λ (n : ℕ). n + deletes id (map deleted (filter (expires now) ts))) (sym (there-map id (aged_tuple now) (filter (λ t. not (expires now t)) ts) (aged_id now)))

writes-deleted : (id : ℕ) (ts : List Entry) → writes id (map deleted ts) ≡ 0
writes-deleted id [] = refl
writes-deleted id (t ∷ ts) = grind (arith, writes-deleted id ts)

takes-deleted : (id : ℕ) (ts : List Entry) → takes id (map deleted ts) ≡ 0
takes-deleted id [] = refl
takes-deleted id (t ∷ ts) = grind (arith, takes-deleted id ts)

-- one more event
writes-push : (id : ℕ) (es : List Raised) (e : Raised) → writes id (es ++ e ∷ []) ≡ writes id es + cond (is_write e.what && e.id == id) 1 0
writes-push id es e = grind (arith, count_append (λ (e : Raised). is_write e.what && e.id == id) es (e ∷ []))

pub takes-push : (id : ℕ) (es : List Raised) (e : Raised) → takes id (es ++ e ∷ []) ≡ takes id es + cond (is_take e.what && e.id == id) 1 0
takes-push id es e = grind (arith, count_append (λ (e : Raised). is_take e.what && e.id == id) es (e ∷ []))

pub takes-append : (id : ℕ) (es more : List Raised) → takes id (es ++ more) ≡ takes id es + takes id more
takes-append id es more = count_append (λ (e : Raised). is_take e.what && e.id == id) es more

deletes-push : (id : ℕ) (es : List Raised) (e : Raised) → deletes id (es ++ e ∷ []) ≡ deletes id es + cond (is_delete e.what && e.id == id) 1 0
deletes-push id es e = grind (arith, count_append (λ (e : Raised). is_delete e.what && e.id == id) es (e ∷ []))

-- the tuples of the start, and the tuples and the events since then of a space, apart
pub record Books (old : List Entry) (next : ℕ) (ts : List Entry) (es : List Raised) : Type 0 where
  pub ids : numbered (λ t. t.id) next ts ≡ true
  pub balanced : (id : ℕ) → there id old + writes id es ≡ there id ts + (takes id es + deletes id es)
  pub once : (id : ℕ) → there id old + writes id es ≤ 1
  pub unwritten : (id : ℕ) → next ≤ id → there id old + writes id es ≡ 0

-- the books of a space, since the start
pub record BooksOf (start s : Plain) : Type 0 where
  pub new : List Raised
  pub is : s.events ≡ start.events ++ new
  pub books : Books start.tuples s.next s.tuples new

books_aged : (old : List Entry) (next now : ℕ) (ts : List Entry) (es : List Raised) → Books old next ts es → Books old next (map (aged_tuple now) (filter (λ t. not (expires now t)) ts)) (es ++ map deleted (filter (expires now) ts))
books_aged old next now ts es h = record {
  ids = numbered-map (λ t. t.id) next (aged_tuple now) (filter (λ t. not (expires now t)) ts) (aged_id now) (numbered-filter (λ t. t.id) next (λ t. not (expires now t)) ts h.ids);
  balanced = λ id.
      let a : writes id (es ++ ds) ≡ writes id es + writes id ds = count_append (λ (e : Raised). is_write e.what && e.id == id) es ds in
      let b : takes id (es ++ ds) ≡ takes id es + takes id ds = count_append (λ (e : Raised). is_take e.what && e.id == id) es ds in
      let c : deletes id (es ++ ds) ≡ deletes id es + deletes id ds = count_append (λ (e : Raised). is_delete e.what && e.id == id) es ds in
      omega (arith, a, b, c, writes-deleted id (filter (expires now) ts), takes-deleted id (filter (expires now) ts), there-aged id now ts, h.balanced id);
  once = λ id.
      let a : writes id (es ++ ds) ≡ writes id es + writes id ds = count_append (λ (e : Raised). is_write e.what && e.id == id) es ds in
      omega (arith, a, writes-deleted id (filter (expires now) ts), h.once id);
  unwritten = λ id above.
      let a : writes id (es ++ ds) ≡ writes id es + writes id ds = count_append (λ (e : Raised). is_write e.what && e.id == id) es ds in
      omega (arith, a, writes-deleted id (filter (expires now) ts), h.unwritten id above);
}
  where
    ds : List Raised
    ds = map deleted (filter (expires now) ts)

-- a tuple that is there leaves with one event
books_left : (old : List Entry) (next : ℕ) (l : Last) (t : Entry) (ts : List Entry) (es : List Raised) → row_of (λ t. t.id) t.id ts ≡ Some t → Books old next ts es → Books old next (without (λ t. t.id) t.id ts) (es ++ record { what = happening_of l; id = t.id; tuple = t.value } ∷ [])
books_left old next l t ts es here h = by_last l
  where
    ids : numbered (λ t. t.id) next (without (λ t. t.id) t.id ts) ≡ true
    ids = numbered-filter (λ t. t.id) next (λ x. not (x.id == t.id)) ts h.ids

    took : Books old next (without (λ t. t.id) t.id ts) (es ++ record { what = happening.Take; id = t.id; tuple = t.value } ∷ [])
    took = record {
      ids = ids;
      balanced = λ id. let e : Raised = record { what = happening.Take; id = t.id; tuple = t.value } in
          omega (arith, writes-push id es e, takes-push id es e, deletes-push id es e, there-without id t.id ts t (up _ _ h.ids) here, h.balanced id);
      once = λ id. omega (arith, writes-push id es (record { what = happening.Take; id = t.id; tuple = t.value }), h.once id);
      unwritten = λ id above. omega (arith, writes-push id es (record { what = happening.Take; id = t.id; tuple = t.value }), h.unwritten id above);
    }

    gone : Books old next (without (λ t. t.id) t.id ts) (es ++ record { what = happening.Delete; id = t.id; tuple = t.value } ∷ [])
    gone = record {
      ids = ids;
      balanced = λ id. let e : Raised = record { what = happening.Delete; id = t.id; tuple = t.value } in
          omega (arith, writes-push id es e, takes-push id es e, deletes-push id es e, there-without id t.id ts t (up _ _ h.ids) here, h.balanced id);
      once = λ id. omega (arith, writes-push id es (record { what = happening.Delete; id = t.id; tuple = t.value }), h.once id);
      unwritten = λ id above. omega (arith, writes-push id es (record { what = happening.Delete; id = t.id; tuple = t.value }), h.unwritten id above);
    }

    by_last : (l : Last) → Books old next (without (λ t. t.id) t.id ts) (es ++ record { what = happening_of l; id = t.id; tuple = t.value } ∷ [])
    by_last last.Taken = took
    by_last last.Expired = gone
    by_last last.Canceled = gone
    by_last last.Done = gone

books_changed : (old : List Entry) (next of : ℕ) (f : Entry → Entry) (ts : List Entry) (es : List Raised) → ((t : Entry) → (f t).id ≡ t.id) → Books old next ts es → Books old next (changed (λ t. t.id) of f ts) es
books_changed old next of f ts es keeps h = record {
  ids = numbered-changed (λ t. t.id) next of f ts keeps h.ids;
  balanced = λ id. omega (arith, there-changed id of f ts keeps, h.balanced id);
  once = h.once;
  unwritten = h.unwritten;
}

books_more : (old : List Entry) (next : ℕ) (ts : List Entry) (es : List Raised) → Books old next ts es → Books old (next + 1) ts es
books_more old next ts es h = record { ids = numbered-more (λ t. t.id) next ts h.ids; balanced = h.balanced; once = h.once; unwritten = λ id above. h.unwritten id (omega (arith, above)) }

-- what is counted of one that has that id or not
counted : (n id : ℕ) → cond (n == id) 1 0 ≤ 1
counted n id = by_test (n == id)
  where
    by_test : (b : Bool) → cond b 1 0 ≤ 1
    by_test true = omega arith
    by_test false = omega arith

not_above : (n id : ℕ) → n + 1 ≤ id → cond {A = ℕ} (n == id) 1 0 ≡ 0
not_above n id above = grind (arith, nat_tests)

once_more : (n id w : ℕ) → w ≤ 1 → (n ≤ id → w ≡ 0) → w + cond (n == id) 1 0 ≤ 1
once_more n id w few none = by_test (n == id) refl
  where
    by_test : (b : Bool) → n == id ≡ b → w + cond b 1 0 ≤ 1
    by_test true e = let zero : w ≡ 0 = none (grind (arith, nat_tests)) in omega (arith, zero)
    by_test false e = omega (arith, few)

books_written : (old : List Entry) (next : ℕ) (t : Entry) (ts : List Entry) (es : List Raised) → t.id ≡ next → Books old next ts es → Books old (next + 1) (ts ++ t ∷ []) (es ++ record { what = happening.Write; id = t.id; tuple = t.value } ∷ [])
books_written old next t ts es same h = record {
  ids = numbered-push (λ t. t.id) next t ts same h.ids;
  balanced = λ id.
      let pushed : there id (ts ++ t ∷ []) ≡ there id ts + there id (t ∷ []) = count_append (λ (t : Entry). t.id == id) ts (t ∷ []) in
      omega (arith, writes-push id es e, takes-push id es e, deletes-push id es e, pushed, h.balanced id);
  once = λ id.
      let more : (there id old + writes id es) + cond (t.id == id) 1 0 ≤ 1 = once_more t.id id (there id old + writes id es) (h.once id) (λ above. h.unwritten id (subst (λ (n : ℕ). n ≤ id) same above)) in
      omega (arith, writes-push id es e, more);
  unwritten = λ id above. omega (arith, writes-push id es e, not_above t.id id (subst (λ (n : ℕ). n + 1 ≤ id) (sym same) above), h.unwritten id (omega (arith, above)));
}
  where
    e : Raised
    e = record { what = happening.Write; id = t.id; tuple = t.value }

books_over : (old : List Entry) (next : ℕ) (t : Entry) (ts : List Entry) (es : List Raised) → t.id ≡ next → Books old next ts es → Books old (next + 1) ts ((es ++ record { what = happening.Write; id = t.id; tuple = t.value } ∷ []) ++ record { what = happening.Delete; id = t.id; tuple = t.value } ∷ [])
books_over old next t ts es same h = record {
  ids = numbered-more (λ t. t.id) next ts h.ids;
  balanced = λ id. omega (arith, writes-push id es w, takes-push id es w, deletes-push id es w, writes-push id (es ++ w ∷ []) d, takes-push id (es ++ w ∷ []) d, deletes-push id (es ++ w ∷ []) d, h.balanced id);
  once = λ id.
      let more : (there id old + writes id es) + cond (t.id == id) 1 0 ≤ 1 = once_more t.id id (there id old + writes id es) (h.once id) (λ above. h.unwritten id (subst (λ (n : ℕ). n ≤ id) same above)) in
      omega (arith, writes-push id es w, writes-push id (es ++ w ∷ []) d, more);
  unwritten = λ id above. omega (arith, writes-push id es w, writes-push id (es ++ w ∷ []) d, not_above t.id id (subst (λ (n : ℕ). n + 1 ≤ id) (sym same) above), h.unwritten id (omega (arith, above)));
}
  where
    w : Raised
    w = record { what = happening.Write; id = t.id; tuple = t.value }

    d : Raised
    d = record { what = happening.Delete; id = t.id; tuple = t.value }

-- more was raised
more_raised : (first es new more : List Raised) → es ≡ first ++ new → es ++ more ≡ first ++ (new ++ more)
more_raised first es new more is = ap (λ (l : List Raised). l ++ more) is ∙ append_assoc first new more

settled_books : (start : Plain) (ok : Bool) (tuple : ℕ) (s : Plain) → BooksOf start s → BooksOf start (settle_tuple ok (tuple_at s tuple) s)
settled_books start ok tuple s h = by_row ok (tuple_at s tuple) refl
  where
    left : (l : Last) (t : Entry) → tuple_at s tuple ≡ Some t → BooksOf start (tuple_ended l t s)
    left l t e = record {
      new = h.new ++ record { what = happening_of l; id = t.id; tuple = t.value } ∷ [];
      is = more_raised start.events s.events h.new (record { what = happening_of l; id = t.id; tuple = t.value } ∷ []) h.is;
      books = books_left start.tuples s.next l t s.tuples h.new (itself-tuple s tuple t e) h.books;
    }

    by_row : (ok : Bool) (o : Option Entry) → tuple_at s tuple ≡ o → BooksOf start (settle_tuple ok o s)
    by_row ok None e = h
    by_row true (Some t) e = left last.Taken t e
    by_row false (Some t) e = by_mark t.marked
      where
        by_mark : (b : Bool) → BooksOf start (cond {A = Plain} b (tuple_ended last.Canceled t s) (with_tuple t.id (λ t. record t { holder = None }) s))
        by_mark true = left last.Canceled t e
        by_mark false = record { new = h.new; is = h.is; books = books_changed start.tuples s.next t.id (λ t. record t { holder = None }) s.tuples h.new (λ t. refl) h.books }

pub books_keep : (start : Plain) (caller : ℕ) (event : Event) → Keeps caller event (BooksOf start)
books_keep start caller event = record {
  advances = λ s at h. record { new = h.new; is = h.is; books = h.books };
  ages = λ s sound h. record {
    new = h.new ++ map deleted (filter (expires s.clock) s.tuples);
    is = more_raised start.events s.events h.new (map deleted (filter (expires s.clock) s.tuples)) h.is;
    books = books_aged start.tuples s.next s.clock s.tuples h.new h.books;
  };
  writes = λ s value lease unshut h.
      let t : Entry = new_tuple s value lease in record {
        new = h.new ++ record { what = happening.Write; id = t.id; tuple = t.value } ∷ [];
        is = more_raised start.events s.events h.new (record { what = happening.Write; id = t.id; tuple = t.value } ∷ []) h.is;
        books = books_written start.tuples s.next t s.tuples h.new refl h.books;
      };
  writes_over = λ s value lease unshut h.
      let t : Entry = new_tuple s value lease in
      let w : List Raised = record { what = happening.Write; id = t.id; tuple = t.value } ∷ [] in
      let d : List Raised = record { what = happening.Delete; id = t.id; tuple = t.value } ∷ [] in record {
        new = (h.new ++ w) ++ d;
        is = more_raised start.events (s.events ++ w) (h.new ++ w) d (more_raised start.events s.events h.new w h.is);
        books = books_over start.tuples s.next t s.tuples h.new refl h.books;
      };
  reserves = λ s k pattern lease unshut h. record { new = h.new; is = h.is; books = books_more start.tuples s.next s.tuples h.new h.books };
  notifies = λ s e pattern lease unshut h. record { new = h.new; is = h.is; books = books_more start.tuples s.next s.tuples h.new h.books };
  tuple_leaves = λ l t s here isfree h. record {
    new = h.new ++ record { what = happening_of l; id = t.id; tuple = t.value } ∷ [];
    is = more_raised start.events s.events h.new (record { what = happening_of l; id = t.id; tuple = t.value } ∷ []) h.is;
    books = books_left start.tuples s.next l t s.tuples h.new here h.books;
  };
  tuple_leases = λ i f s k h. record { new = h.new; is = h.is; books = books_changed start.tuples s.next i f s.tuples h.new k.id h.books };
  tuple_marks = λ t holder s here isheld h. record { new = h.new; is = h.is; books = books_changed start.tuples s.next t.id (λ t. record t { marked = true }) s.tuples h.new (λ t. refl) h.books };
  request_leases = λ r f s there k may h. record { new = h.new; is = h.is; books = h.books };
  request_asks = λ i s h. record { new = h.new; is = h.is; books = h.books };
  request_marks = λ r s there is e h. record { new = h.new; is = h.is; books = h.books };
  request_parks = λ r s there res unmarked mine is h. record { new = h.new; is = h.is; books = h.books };
  request_answers = λ r o s there why h. record { new = h.new; is = h.is; books = h.books };
  request_ends = λ l r s there none mine of h. record { new = h.new; is = h.is; books = h.books };
  grants = λ r t s there here isfree why h. record { new = h.new; is = h.is; books = books_changed start.tuples s.next t.id (held_by r.id) s.tuples h.new (λ t. refl) h.books };
  settles = λ r tuple ok s there is mine e h. let g : BooksOf start (settle_tuple ok (tuple_at s tuple) s) = settled_books start ok tuple s h in record { new = g.new; is = g.is; books = g.books };
  notifier_changes = λ i f s k h. record { new = h.new; is = h.is; books = h.books };
  notifier_ends = λ l n s h. record { new = h.new; is = h.is; books = h.books };
  shuts = λ s unshut is h. record { new = h.new; is = h.is; books = h.books };
}

-- An id that was minted and names no tuple never names one again.

pub record Gone (id : ℕ) (s : Plain) : Type 0 where
  pub minted : id < s.next
  pub none : tuple_at s id ≡ None

none_map : (id : ℕ) (f : Entry → Entry) (ts : List Entry) → ((t : Entry) → (f t).id ≡ t.id) → row_of (λ t. t.id) id ts ≡ None → row_of (λ t. t.id) id (map f ts) ≡ None
none_map id f [] keeps e = refl
none_map id f (t ∷ ts) keeps e = grind (arith, nat_tests, keeps t, none_map id f ts keeps)

none_filter : (id : ℕ) (q : Entry → Bool) (ts : List Entry) → row_of (λ t. t.id) id ts ≡ None → row_of (λ t. t.id) id (filter q ts) ≡ None
none_filter id q [] e = refl
none_filter id q (t ∷ ts) e = grind (arith, nat_tests, none_filter id q ts)

none_push : (id : ℕ) (ts : List Entry) (t : Entry) → t.id ≢ id → row_of (λ t. t.id) id ts ≡ None → row_of (λ t. t.id) id (ts ++ t ∷ []) ≡ None
none_push id [] t ne e = grind (arith, nat_tests)
none_push id (x ∷ xs) t ne e = grind (arith, nat_tests, none_push id xs t)

none_changed : (id of : ℕ) (f : Entry → Entry) (ts : List Entry) → ((t : Entry) → (f t).id ≡ t.id) → row_of (λ t. t.id) id ts ≡ None → row_of (λ t. t.id) id (changed (λ t. t.id) of f ts) ≡ None
none_changed id of f ts keeps e = none_map id (λ t. if t.id == of then f t else t) ts (changed_id of f keeps) e

gone_settled : (id : ℕ) (ok : Bool) (o : Option Entry) (s : Plain) → Gone id s → Gone id (settle_tuple ok o s)
gone_settled id ok None s h = h
gone_settled id true (Some t) s h = record { minted = h.minted; none = none_filter id (λ x. not (x.id == t.id)) s.tuples h.none }
gone_settled id false (Some t) s h = by_mark t.marked
  where
    by_mark : (b : Bool) → Gone id (cond {A = Plain} b (tuple_ended last.Canceled t s) (with_tuple t.id (λ t. record t { holder = None }) s))
    by_mark true = record { minted = h.minted; none = none_filter id (λ x. not (x.id == t.id)) s.tuples h.none }
    by_mark false = record { minted = h.minted; none = none_changed id t.id (λ t. record t { holder = None }) s.tuples (λ t. refl) h.none }

above : (id n : ℕ) → id < n → n ≢ id
above id n h e = omega (arith, h, e)

pub gone_keeps : (id caller : ℕ) (event : Event) → Keeps caller event (Gone id)
gone_keeps id caller event = record {
  advances = λ s at h. record { minted = h.minted; none = h.none };
  ages = λ s sound h. record { minted = h.minted; none = none_map id (aged_tuple s.clock) (filter (λ t. not (expires s.clock t)) s.tuples) (aged_id s.clock) (none_filter id (λ t. not (expires s.clock t)) s.tuples h.none) };
  writes = λ s value lease unshut h. record { minted = omega (arith, h.minted); none = none_push id s.tuples (new_tuple s value lease) (above id s.next h.minted) h.none };
  writes_over = λ s value lease unshut h. record { minted = omega (arith, h.minted); none = h.none };
  reserves = λ s k pattern lease unshut h. record { minted = omega (arith, h.minted); none = h.none };
  notifies = λ s e pattern lease unshut h. record { minted = omega (arith, h.minted); none = h.none };
  tuple_leaves = λ l t s here isfree h. record { minted = h.minted; none = none_filter id (λ x. not (x.id == t.id)) s.tuples h.none };
  tuple_leases = λ i f s k h. record { minted = h.minted; none = none_changed id i f s.tuples k.id h.none };
  tuple_marks = λ t holder s here isheld h. record { minted = h.minted; none = none_changed id t.id (λ t. record t { marked = true }) s.tuples (λ t. refl) h.none };
  request_leases = λ r f s there k may h. record { minted = h.minted; none = h.none };
  request_asks = λ i s h. record { minted = h.minted; none = h.none };
  request_marks = λ r s there is e h. record { minted = h.minted; none = h.none };
  request_parks = λ r s there res unmarked mine is h. record { minted = h.minted; none = h.none };
  request_answers = λ r o s there why h. record { minted = h.minted; none = h.none };
  request_ends = λ l r s there none mine of h. record { minted = h.minted; none = h.none };
  grants = λ r t s there here isfree why h. record { minted = h.minted; none = none_changed id t.id (held_by r.id) s.tuples (λ t. refl) h.none };
  settles = λ r tuple ok s there is mine e h. let g = gone_settled id ok (tuple_at s tuple) s h in record { minted = g.minted; none = g.none };
  notifier_changes = λ i f s k h. record { minted = h.minted; none = h.none };
  notifier_ends = λ l n s h. record { minted = h.minted; none = h.none };
  shuts = λ s unshut is h. record { minted = h.minted; none = h.none };
}

-- The laws.

nothing_old : (first : List Raised) → drop (length first) first ≡ []
nothing_old [] = refl
nothing_old (e ∷ es) = nothing_old es

new_only : (first new : List Raised) → drop (length first) (first ++ new) ≡ new
new_only [] new = refl
new_only (e ∷ es) new = new_only es new

append_none : (es : List Raised) → es ≡ es ++ []
append_none [] = refl
append_none (e ∷ es) = ap (λ (l : List Raised). e ∷ l) (append_none es)

zeros : (n : ℕ) → n + 0 ≡ n
zeros n = omega arith

-- in a list of rising ids each names one row at most
there_above : (id : ℕ) (ts : List Entry) → list_all (λ t. ltb id t.id) ts ≡ true → there id ts ≡ 0
there_above id [] e = refl
there_above id (t ∷ ts) e = grind (arith, nat_tests, there_above id ts)

there_once : (id : ℕ) (ts : List Entry) → rising (λ t. t.id) ts ≡ true → there id ts ≤ 1
there_once id [] e = omega arith
there_once id (t ∷ ts) e = by_test (t.id == id) refl (there_once id ts (back _ _ e))
  where
    back : (a b : Bool) → (a && b) ≡ true → b ≡ true
    back a b e = grind arith

    same : (a b : ℕ) → a == b ≡ true → a ≡ b
    same a b e = grind (arith, nat_tests)

    by_test : (b : Bool) → t.id == id ≡ b → there id ts ≤ 1 → cond b 1 0 + there id ts ≤ 1
    by_test true is few =
        let none : there id ts ≡ 0 = there_above id ts (subst (λ (i : ℕ). list_all (λ t. ltb i t.id) ts ≡ true) (same t.id id is) (up _ _ e)) in
        omega (arith, none)
    by_test false is few = omega (arith, few)

there_below : (id next : ℕ) (ts : List Entry) → list_all (λ t. ltb t.id next) ts ≡ true → next ≤ id → there id ts ≡ 0
there_below id next [] e above = refl
there_below id next (t ∷ ts) e above = grind (arith, nat_tests, there_below id next ts)

pub books_start : (start : Plain) → Sound start → BooksOf start start
books_start start sound = record {
  new = [];
  is = append_none start.events;
  books = record {
    ids = sound.numbered.tuples;
    balanced = λ id. refl;
    once = λ id. subst (λ (n : ℕ). n ≤ 1) (sym (zeros (there id start.tuples))) (there_once id start.tuples (up _ _ sound.numbered.tuples));
    unwritten = λ id above. zeros (there id start.tuples) ∙ there_below id start.next start.tuples (back _ _ sound.numbered.tuples) above;
  };
}
  where
    back : (a b : Bool) → (a && b) ≡ true → b ≡ true
    back a b e = grind arith

pub books_legal : (start : Plain) (h : List Turn) → IsStart start → LegalFrom start h → BooksOf start (plain_from start h)
books_legal start h from legal = kept_from (BooksOf start) (books_keep start) start h legal from.sound (books_start start from.sound)

-- what was raised since
pub since_is : (start s : Plain) (b : BooksOf start s) → raised_since start s ≡ b.new
since_is start s b = ap (drop (length start.events)) b.is ∙ new_only start.events b.new

pub balanced : (start s : Plain) (id : ℕ) → BooksOf start s → Balanced start id s
balanced start s id b = record {
  balance = subst (λ (es : List Raised). there id start.tuples + writes id es ≡ there id s.tuples + (takes id es + deletes id es)) (sym (since_is start s b)) (b.books.balanced id);
  once = subst (λ (es : List Raised). there id start.tuples + writes id es ≤ 1) (sym (since_is start s b)) (b.books.once id);
}

pub leaves_few : (start s : Plain) (id : ℕ) → Balanced start id s → takes id (raised_since start s) + deletes id (raised_since start s) ≤ 1
leaves_few start s id b = few (there id start.tuples + writes id (raised_since start s)) (there id s.tuples) (takes id (raised_since start s) + deletes id (raised_since start s)) b.balance b.once
  where
    few : (a t l : ℕ) → a ≡ t + l → a ≤ 1 → l ≤ 1
    few a t l e le = omega (arith, e, le)

pub gone_legal : (start : Plain) (before later : List Turn) (id : ℕ) → IsStart start → LegalFrom start (before ++ later) → id < (plain_from start before).next → tuple_at (plain_from start before) id ≡ None → tuple_at (plain_from start (before ++ later)) id ≡ None
gone_legal start before later id from legal minted none =
    subst (λ (p : Plain). tuple_at p id ≡ None) (sym (plain_from-append start before later))
    (kept_from (Gone id) (gone_keeps id) (plain_from start before) later (LegalFrom-back start before later legal) (sound_before start before later from legal) (record { minted = minted; none = none })).none
