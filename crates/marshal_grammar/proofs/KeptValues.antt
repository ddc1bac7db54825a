-- The values that a dump spells fit, and are well kept and ranged.
use Rattle.std.proofs.Common.{◌≡◌, ℕ, zero, suc, ◌+◌, ◌^◌, ◌<◌, ◌≤◌, ◌⊎◌, inl, inr, List, [], ◌∷◌, length, map, All, Bool, true, false, cond, IsTrue, IsUtf8, ℤ, pos, negsuc, ◌-ℤ◌, ◌<ℤ◌, ◌≤ℤ◌, Option, Some, None, nat_lt, refl, sym, subst, arith}
use Rattle.std.proofs.lemmas.Option.{slice_get_within, get_or_from_slice_get}
use Rattle.std.proofs.lemmas.Bool.{leb-true}
use Rattle.std.proofs.lemmas.Int.{ints}
use Rattle.std.proofs.lemmas.List.Elements.{All-nil, All-cons, All-head, All-tail, All-get_or, All-set, All-push}
use Rattle.std.specs.Prelude.{slice_get, ◌-◌}
use Rattle.drb_tree.specs.declared.Code.TheVariants.{Binary}
use Rattle.drb_tree.specs.declared.Tree.{Tree}
use Rattle.drb_tree.specs.declared.Tree.TheViews.{roll-Tree}
use Rattle.drb_tree.specs.declared.Tree.TheOpen.{Tree-F}
use Rattle.drb_tree.specs.declared.Tree.TheFolds.{every-Tree, map-Tree}
use Rattle.drb_tree.specs.Sizes.{depth, nodes, nodes_step, total}
use Rattle.drb_tree.specs.Kept.{IsI128, Keeps, InRange, Small}
use Rattle.drb_tree.proofs.Everywhere.{Parts, every_roll, parts_weaker}
use Rattle.drb_tree.proofs.Depths.{NotDeeper, within_parts}
use Rattle.drb_tree.proofs.Sizes.{nodes_roll}
use Rattle.marshal_grammar.specs.Contexts.{Context}
use Rattle.marshal_grammar.specs.Grammar.{Grammar}
use Rattle.marshal_grammar.specs.Longs.{little}
use Rattle.marshal_grammar.specs.Values.{begins, ends, whole, values, simple, small_int, is_i128, signed, big_int, symbol_value, plain_text, marked_text, list_value, object_at, finished, link}
use Rattle.marshal_grammar.proofs.LongLists.{less_true, less_false}
use Rattle.marshal_grammar.proofs.ShortestLongs.{little_below}
use Rattle.marshal_grammar.proofs.Froms.{From, after, gives_from, refuses_from, must_then, becomes_then, context_then, here_then, byte_from, bytes_from, IsLong, long_from, count_from, string_from, nodes_from}
use Rattle.marshal_grammar.proofs.KeptSymbols.{Good, Finished, Known, Never, State, state_same, state_counted, state_fewer, encoding_from}

-- what is known of a context where n nodes were counted
abbrev pub Fine : ℕ → Context → Type 0
Fine n c = State Never [] n c

-- a good value that is at most so deep
pub record Part (room : ℕ) (v : Tree) : Type 0 where
  pub deep : depth v ≤ room
  pub good : Good v

-- a value, and the context after it
pub record Reads (room n : ℕ) (v : Tree) (d : Context) : Type 0 where
  pub part : Part room v
  pub fine : Fine (n + nodes v) d

-- a value of such parts
pub part_of : (room : ℕ) (l : Tree-F Tree) → Small l → Keeps l → InRange l → Parts (Part room) l → Part (suc room) (roll-Tree l)
part_of room l s k r h = record {
  deep = within_parts room l (parts_weaker (Part room) (NotDeeper room) (λ t e. e.deep) l h);
  good = record {
    small = every_roll Small l s (parts_weaker (Part room) (every-Tree Small) (λ t e. e.good.small) l h);
    kept = every_roll Keeps l k (parts_weaker (Part room) (every-Tree Keeps) (λ t e. e.good.kept) l h);
    ranged = every_roll InRange l r (parts_weaker (Part room) (every-Tree InRange) (λ t e. e.good.ranged) l h);
  };
}

-- a value that counts what it is said to
pub reads_of : {room n k : ℕ} {d : Context} (l : Tree-F Tree) → Small l → Keeps l → InRange l → Parts (Part room) l → nodes_step (map-Tree Tree ℕ nodes l) ≤ k → Fine (n + k) d → Reads (suc room) n (roll-Tree l) d
reads_of {room = room} {n = n} {k = k} l s k' r h e f = record { part = part_of room l s k' r h; fine = state_fewer (omega (arith, e, nodes_roll l)) f }

-- an object that begins
pub begins_from : {n : ℕ} {c : Context} → Fine n c → From begins c (λ k d. Fine n d)
begins_from {n = n} {c = c} h = context_then (becomes_then (gives_from (record { symbols = h.symbols; waiting = h.waiting; objects = All-push Finished c.objects None h.objects tt; least = h.least; most = h.most })))

-- and ends
pub ends_from : {room n k : ℕ} {v : Tree} {c : Context} → Reads room n v c → From (ends k v) c (Reads room n)
ends_from {k = k} {v = v} {c = c} h = becomes_then (gives_from (record { part = h.part; fine = record { symbols = h.fine.symbols; waiting = h.fine.waiting; objects = All-set Finished c.objects k (Some v) h.part.good h.fine.objects; least = h.fine.least; most = h.fine.most } }))

-- an object that begins and ends at once
pub whole_from : {room n : ℕ} {v : Tree} {c : Context} → Reads room n v c → From (whole v) c (Reads room n)
whole_from {v = v} {c = c} h = becomes_then (gives_from (record { part = h.part; fine = record { symbols = h.fine.symbols; waiting = h.fine.waiting; objects = All-push Finished c.objects (Some v) h.fine.objects h.part.good; least = h.fine.least; most = h.fine.most } }))

-- a value that counts one
pub simple_from : {room n at : ℕ} {c : Context} (l : Tree-F Tree) → Small l → Keeps l → InRange l → Parts (Part room) l → nodes_step (map-Tree Tree ℕ nodes l) ≤ 1 → Fine n c → From (simple at (roll-Tree l)) c (Reads (suc room) n)
simple_from l s k r p e h = after nodes_from (λ x d q. gives_from (reads_of l s k r p e (state_counted q h)))

power_small : (k : ℕ) → k ≤ 4 → 256 ^ k ≤ 4294967296
power_small zero h = omega arith
power_small (suc zero) h = omega arith
power_small (suc (suc zero)) h = omega arith
power_small (suc (suc (suc zero))) h = omega arith
power_small (suc (suc (suc (suc zero)))) h = omega arith
power_small (suc (suc (suc (suc (suc k))))) h = absurd (omega (arith, h))

more_case : (c : ℕ) (p q : Bool) → nat_lt c 5 ≡ p → nat_lt c 252 ≡ q → cond p c (cond q 0 (256 - c)) ≤ 4
more_case c true q e f = omega (arith, less_true c 5 e)
more_case c false true e f = omega arith
more_case c false false e f = omega (arith, less_false c 252 f)

between : (m k : ℕ) → m < 4294967296 → k ≤ 4294967296 → IsI128 (pos m -ℤ pos k)
between m k h l = (omega (arith, ints, l), omega (arith, ints, h))

long_case : (c m : ℕ) (p q r : Bool) → nat_lt c 252 ≡ r → c < 256 → m < 4294967296 → IsI128 (cond p (pos m) (cond q (pos (c - 5)) (cond r (pos c -ℤ pos 251) (pos m -ℤ pos (256 ^ (256 - c))))))
long_case c m true q r e h l = (omega (arith, ints), omega (arith, ints, l))
long_case c m false true r e h l = (omega (arith, ints), omega (arith, ints, h))
long_case c m false false true e h l = (omega (arith, ints), omega (arith, ints, h))
long_case c m false false false e h l =
    let k = power_small (256 - c) (omega (arith, less_false c 252 e)) in
    between m (256 ^ (256 - c)) l k

-- a long has 128 bits
pub long_small : (n : ℤ) → IsLong n → IsI128 n
long_small n ([], a, h) = absurd h
long_small n (c ∷ bs, a, h) =
    let few = more_case c (nat_lt c 5) (nat_lt c 252) refl refl in
    let b = little_below bs (All-tail (λ x. x < 256) c bs a) in
    let l : little bs < 4294967296 = omega (arith, b, power_small (length bs) (omega (arith, h.0, few))) in
    subst IsI128 (sym h.1) (long_case c (little bs) (nat_lt c 5) (nat_lt c 128) (nat_lt c 252) refl (All-head (λ x. x < 256) c bs a) l)

pos_less : (n m : ℕ) → n < m → pos n <ℤ pos m
pos_less n m h = omega (arith, ints, h)

negative_more : (n m : ℕ) → n < m → (pos 0 -ℤ pos m) ≤ℤ negsuc n
negative_more n m h = omega (arith, ints, h)

pub i128_of : (i : ℤ) → IsTrue (is_i128 i) → IsI128 i
i128_of (pos n) e = (omega arith, pos_less n (2 ^ 127) (less_true n (2 ^ 127) e))
i128_of (negsuc n) e = (negative_more n (2 ^ 127) (less_true n (2 ^ 127) e), omega arith)

pub small_int_from : {room n at : ℕ} {c : Context} → Fine n c → From (small_int at) c (Reads (suc room) n)
small_int_from h = after long_from (λ i e k. simple_from (Tree-F.Int i) tt tt (long_small i k.0) tt (omega arith) (state_same k.1 h))

pub big_int_from : {room n at : ℕ} {c : Context} → Fine n c → From (big_int at) c (Reads (suc room) n)
big_int_from {room = room} {n = n} h = here_then (after byte_from (λ sign d i. must_then (λ m. after count_from (λ k e j. after bytes_from (λ bs f q. must_then (λ w. after nodes_from (λ x g y.
    whole_from (reads_of (Tree-F.Int (signed sign bs)) tt tt (i128_of (signed sign bs) w) tt (omega arith) (state_counted y (state_same q.1 (state_same j (state_same i h))))))))))))

utf8_of : {s : List ℕ} → IsUtf8 s ⊎ ⊥ → IsUtf8 s
utf8_of (inl u) = u
utf8_of (inr x) = absurd x

pub symbol_utf8 : {s : List ℕ} → Known Never [] s → IsUtf8 s
symbol_utf8 k = utf8_of k.utf8

pub symbol_value_from : {room n at : ℕ} {c : Context} {g : Grammar (List ℕ)} → From g c (λ s d. Known Never [] s × Fine n d) → From (symbol_value at g) c (Reads (suc room) n)
symbol_value_from h = after h (λ s d k. after nodes_from (λ x e q. gives_from (reads_of (Tree-F.Sym s) tt (symbol_utf8 k.0) k.0.bytes tt (omega arith) (state_counted q k.1))))

pub plain_text_from : {room n at : ℕ} {c : Context} → Fine n c → From (plain_text at) c (Reads (suc room) n)
plain_text_from h = after string_from (λ s d k. after nodes_from (λ x e q. whole_from (reads_of (Tree-F.Text (record { bytes = s; code = Binary })) tt tt k.0 tt (omega arith) (state_counted q (state_same k.1 h)))))

pub marked_text_from : {room n at : ℕ} {c : Context} → Fine n c → From (marked_text at) c (Reads (suc room) n)
marked_text_from h = after string_from (λ s d k. after (encoding_from (state_same k.1 h)) (λ code f j. after nodes_from (λ x e q. whole_from (reads_of (Tree-F.Text (record { bytes = s; code = code })) tt tt k.0 tt (omega arith) (state_counted q j)))))

-- what a part gives, from each fine context
abbrev pub PartFrom : Grammar Tree → ℕ → Type 0
PartFrom part room = (n : ℕ) (c : Context) → Fine n c → From part c (Reads room n)

-- some values, and the context after them
pub record ReadsAll (room n : ℕ) (vs : List Tree) (d : Context) : Type 0 where
  pub parts : All (Part room) vs
  pub fine : Fine (n + total (map nodes vs)) d

pub values_from : {room : ℕ} {part : Grammar Tree} → PartFrom part room → (k n : ℕ) (c : Context) → Fine n c → From (values part k) c (ReadsAll room n)
values_from {room = room} p zero n c h = gives_from (record { parts = All-nil (Part room); fine = state_fewer (omega arith) h })
values_from {room = room} p (suc k) n c h = after (p n c h) (λ v d q. after (values_from p k (n + nodes v) d q.fine) (λ vs e r.
    gives_from (record { parts = All-cons (Part room) v vs q.part r.parts; fine = state_fewer (omega arith) r.fine })))

pub list_from : {room n at : ℕ} {part : Grammar Tree} {c : Context} → PartFrom part room → Fine n c → From (list_value part at) c (Reads (suc room) n)
list_from {n = n} p h = after count_from (λ k d i. after nodes_from (λ x e q. after (begins_from (state_counted q (state_same i h))) (λ o f j. after (values_from p k (n + 1) f j) (λ vs g r.
    ends_from (reads_of {k = 1 + total (map nodes vs)} (Tree-F.List vs) tt tt tt r.parts (omega arith) (state_fewer (omega arith) r.fine))))))

finished_at : {n : ℕ} {c : Context} (at i : ℕ) (o : Option (Option Tree)) → slice_get c.objects i ≡ o → Fine n c → From (finished at o) c (λ v d. Good v × Fine n d)
finished_at at i None e h = refuses_from
finished_at at i (Some None) e h = refuses_from
finished_at {c = c} at i (Some (Some v)) e h =
    let l = slice_get_within c.objects i (Some v) e in
    let g : Finished (Some v) = subst Finished (get_or_from_slice_get c.objects i (Some v) None e) (All-get_or Finished c.objects i None l h.objects) in
    gives_from (g, h)

finished_from : {n : ℕ} {c : Context} (at : ℕ) (i : ℤ) → Fine n c → From (finished at (object_at c i)) c (λ v d. Good v × Fine n d)
finished_from at (negsuc i) h = refuses_from
finished_from {c = c} at (pos i) h = finished_at at i (slice_get c.objects i) refl h

pub link_from : {room n at : ℕ} {c : Context} → Fine n c → From (link room at) c (Reads room n)
link_from {room = room} {at = at} h = after long_from (λ i d k. context_then (after (finished_from at i (state_same k.1 h)) (λ v e q. must_then (λ m. after nodes_from (λ x f r.
    gives_from (record { part = record { deep = leb-true (depth v) room m; good = q.0 }; fine = state_counted r q.1 }))))))
