-- The symbols that a dump spells are UTF-8, once the encodings that they wait for are read.
use Rattle.std.proofs.Common.{◌≡◌, ℕ, zero, suc, ◌+◌, ◌<◌, ◌≤◌, ◌⊎◌, inl, inr, List, [], ◌∷◌, ◌++◌, All, Bool, true, false, ◌&&◌, ◌||◌, IsTrue, IsUtf8, ℤ, pos, negsuc, Option, Some, None, refl, sym, subst, arith}
use Rattle.std.specs.Str.{is_utf8}
use Rattle.std.proofs.lemmas.Option.{slice_get_within, get_or_from_slice_get}
use Rattle.std.proofs.lemmas.List.Elements.{All-cons, All-head, All-tail, All-get_or, All-push, All-weaker}
use Rattle.std.proofs.lemmas.Str.{IsUtf8-from_ascii, IsUtf8-from_is_utf8}
use Rattle.std.specs.Prelude.{slice_get}
use Rattle.drb_tree.specs.declared.Code.{Code}
use Rattle.drb_tree.specs.declared.Code.TheVariants.{Binary, Utf8}
use Rattle.drb_tree.specs.declared.Tree.{Tree}
use Rattle.drb_tree.specs.declared.Tree.TheFolds.{every-Tree}
use Rattle.drb_tree.specs.Same.{all_ascii, same_code}
use Rattle.drb_tree.specs.Sizes.{heavy}
use Rattle.drb_tree.specs.Kept.{AreBytes, Keeps, InRange, Small, max_nodes}
use Rattle.marshal_grammar.specs.declared.kind.Kind.{Kind}
use Rattle.marshal_grammar.specs.declared.kind.Kind.TheVariants as kind
use Rattle.marshal_grammar.specs.Kinds.{kind_of}
use Rattle.marshal_grammar.specs.Contexts.{Context, past, add_symbol}
use Rattle.marshal_grammar.specs.Grammar.{Spells, InRounds}
use Rattle.marshal_grammar.specs.Symbols.{symbol_at, some_symbol, linked_symbol, plain_symbol, is_name, encoding_count, code_of, some_code, encoding_value, Waiting, ended, waits, marked_round, symbol_by, symbol_round, symbol, name, encoding_by, encoding, marked_symbol}
use Rattle.marshal_grammar.proofs.WrittenRemotes.{ascii_bytes}
use Rattle.marshal_grammar.proofs.Froms.{From, bytes_front, bytes_back, after, weaker, gives_from, refuses_from, must_then, becomes_then, context_then, here_then, just_then, Same, same_past, byte_from, long_from, count_from, string_from, Counted, nodes_from}

-- small, well kept and ranged, all the way down
pub record Good (v : Tree) : Type 0 where
  pub small : every-Tree Small v
  pub kept : every-Tree Keeps v
  pub ranged : every-Tree InRange v

-- an object that is finished is good
abbrev pub Finished : Option Tree → Type 0
Finished None = Unit {0}
Finished (Some v) = Good v

-- a symbol that waits for its encoding, or one of those that are set aside
abbrev pub Waits : (List ℕ → Type 0) → Waiting → List ℕ → Type 0
Waits U [] s = U s
Waits U (w ∷ ws) s = (s ≡ w.1) ⊎ Waits U ws s

-- a symbol that is UTF-8, or that waits
pub record Known (U : List ℕ → Type 0) (ws : Waiting) (s : List ℕ) : Type 0 where
  pub bytes : AreBytes s
  pub utf8 : IsUtf8 s ⊎ Waits U ws s

abbrev pub WaitingBytes : ℕ × List ℕ → Type 0
WaitingBytes w = AreBytes w.1

-- what is known of a context, where these symbols wait, and n nodes were counted
pub record State (U : List ℕ → Type 0) (ws : Waiting) (n : ℕ) (c : Context) : Type 0 where
  pub symbols : All (Known U ws) c.symbols
  pub waiting : All WaitingBytes ws
  pub objects : All Finished c.objects
  pub least : n ≤ c.nodes
  pub most : c.nodes ≤ max_nodes

-- no symbol
abbrev pub Never : List ℕ → Type 0
Never s = ⊥

pub state_same : {U : List ℕ → Type 0} {ws : Waiting} {n : ℕ} {c d : Context} → Same c d → State U ws n c → State U ws n d
state_same {U = U} {ws = ws} {n = n} {c = c} {d = d} e h = record {
  symbols = subst (All (Known U ws)) (sym e.symbols) h.symbols;
  waiting = h.waiting;
  objects = subst (All Finished) (sym e.objects) h.objects;
  least = omega (arith, e.nodes, h.least);
  most = omega (arith, e.nodes, h.most);
}

pub state_counted : {U : List ℕ → Type 0} {ws : Waiting} {n k : ℕ} {c d : Context} → Counted k c d → State U ws n c → State U ws (n + k) d
state_counted {U = U} {ws = ws} {n = n} {k = k} {c = c} {d = d} e h = record {
  symbols = subst (All (Known U ws)) (sym e.symbols) h.symbols;
  waiting = h.waiting;
  objects = subst (All Finished) (sym e.objects) h.objects;
  least = omega (arith, e.nodes, h.least);
  most = e.most;
}

pub state_fewer : {U : List ℕ → Type 0} {ws : Waiting} {m n : ℕ} {c : Context} → m ≤ n → State U ws n c → State U ws m c
state_fewer {m = m} {n = n} {c = c} e h = record { symbols = h.symbols; waiting = h.waiting; objects = h.objects; least = omega (arith, e, h.least); most = h.most }

add_state : {U : List ℕ → Type 0} {ws : Waiting} {n : ℕ} {c : Context} {s : List ℕ} → State U ws n c → Known U ws s → State U ws n (add_symbol s c)
add_state {U = U} {ws = ws} {c = c} {s = s} h k = record { symbols = All-push (Known U ws) c.symbols s h.symbols k; waiting = h.waiting; objects = h.objects; least = h.least; most = h.most }

-- the symbols known in one way are known in another
known_else : {U V : List ℕ → Type 0} {ws vs : Waiting} {n : ℕ} {c : Context} → All WaitingBytes vs → ((s : List ℕ) → Known U ws s → Known V vs s) → State U ws n c → State V vs n c
known_else {U = U} {V = V} {ws = ws} {vs = vs} {c = c} w f h = record { symbols = All-weaker (Known U ws) (Known V vs) f c.symbols h.symbols; waiting = w; objects = h.objects; least = h.least; most = h.most }

of_utf8 : {A B C : Type 0} → (A → C ⊎ B) → C ⊎ A → C ⊎ B
of_utf8 f (inl u) = inl u
of_utf8 f (inr w) = f w

known_more : {U : List ℕ → Type 0} (w : ℕ × List ℕ) (ws : Waiting) (s : List ℕ) → Known U ws s → Known U (w ∷ ws) s
known_more w ws s k = record { bytes = k.bytes; utf8 = of_utf8 (λ x. inr (inr x)) k.utf8 }

no_longer : (U : List ℕ → Type 0) (w : ℕ × List ℕ) (ws : Waiting) (s : List ℕ) → IsUtf8 w.1 → (s ≡ w.1) ⊎ Waits U ws s → IsUtf8 s ⊎ Waits U ws s
no_longer U w ws s u (inl e) = inl (subst IsUtf8 (sym e) u)
no_longer U w ws s u (inr x) = inr x

-- the last that waits is UTF-8
known_less : {U : List ℕ → Type 0} (w : ℕ × List ℕ) (ws : Waiting) (s : List ℕ) → IsUtf8 w.1 → Known U (w ∷ ws) s → Known U ws s
known_less {U = U} w ws s u k = record { bytes = k.bytes; utf8 = of_utf8 (no_longer U w ws s u) k.utf8 }

both : (a b : Bool) → IsTrue (a && b) → IsTrue a × IsTrue b
both true b e = (refl, e)
both false b e = absurd (let k : false ≡ true = e in cc)

name_case : (s : List ℕ) (code : Code) (a : Bool) → all_ascii s ≡ a → IsTrue (a || (same_code code Utf8 && is_utf8 s)) → IsUtf8 s
name_case s code true e h = IsUtf8-from_ascii s (ascii_bytes s e)
name_case s code false e h = IsUtf8-from_is_utf8 s (both (same_code code Utf8) (is_utf8 s) h).1

-- a name is UTF-8
pub name_utf8 : (s : List ℕ) (code : Code) → IsTrue (is_name s code) → IsUtf8 s
name_utf8 s code h = name_case s code (all_ascii s) refl h

at_number : {U : List ℕ → Type 0} {ws : Waiting} {n : ℕ} {c : Context} (at i : ℕ) (o : Option (List ℕ)) → slice_get c.symbols i ≡ o → State U ws n c → From (some_symbol at o) c (λ s d. Known U ws s × State U ws n d)
at_number at i None e h = refuses_from
at_number {U = U} {ws = ws} {c = c} at i (Some s) e h =
    let l = slice_get_within c.symbols i s e in
    gives_from (subst (Known U ws) (get_or_from_slice_get c.symbols i s [] e) (All-get_or (Known U ws) c.symbols i [] l h.symbols), h)

found : {U : List ℕ → Type 0} {ws : Waiting} {n : ℕ} {c : Context} (at : ℕ) (i : ℤ) → State U ws n c → From (some_symbol at (symbol_at c i)) c (λ s d. Known U ws s × State U ws n d)
found at (negsuc i) h = refuses_from
found {c = c} at (pos i) h = at_number at i (slice_get c.symbols i) refl h

linked_from : {U : List ℕ → Type 0} {ws : Waiting} {n at : ℕ} {c : Context} → State U ws n c → From (linked_symbol at) c (λ s d. Known U ws s × State U ws n d)
linked_from {at = at} h = after long_from (λ i e k. context_then (found at i (state_same k.1 h)))

plain_from : {U : List ℕ → Type 0} {ws : Waiting} {n at : ℕ} {c : Context} → State U ws n c → From (plain_symbol at) c (λ s d. Known U ws s × State U ws n d)
plain_from {U = U} {ws = ws} h = after string_from (λ s e k. becomes_then (must_then (λ m.
    let q : Known U ws s = record { bytes = k.0; utf8 = inl (IsUtf8-from_ascii s (ascii_bytes s m)) } in
    gives_from (q, add_state (state_same k.1 h) q))))

code_from : {c d : Context} (at : ℕ) (o : Option Code) → Same c d → From (some_code at o) d (λ code e. Same c e)
code_from at None h = refuses_from
code_from at (Some code) h = gives_from h

value_from : {c : Context} (at : ℕ) (s : List ℕ) → From (encoding_value at s) c (λ code d. Same c d)
value_from at s = must_then (λ m. after byte_from (λ b d h. code_from at (code_of b) h))

-- after a round: a symbol, or one more that waits
abbrev RoundPost : (List ℕ → Type 0) → ℕ → Waiting ⊎ List ℕ → Context → Type 0
RoundPost U n (inl ws) c = State U ws n c
RoundPost U n (inr s) c = Known U [] s × State U [] n c

ended_from : {U : List ℕ → Type 0} {n : ℕ} (ws : Waiting) (s : List ℕ) (c : Context) → State U ws n c → Known U ws s → From (ended ws s) c (RoundPost U n)
ended_from [] s c h k = gives_from (k, h)
ended_from {U = U} (w ∷ ws) s c h k = after (value_from w.0 s) (λ code e q. must_then (λ m.
    let u = name_utf8 w.1 code m in
    let b : AreBytes w.1 = All-head WaitingBytes w ws h.waiting in
    ended_from ws w.1 e (known_else (All-tail WaitingBytes w ws h.waiting) (λ x y. known_less w ws x u y) (state_same q h)) (record { bytes = b; utf8 = inl u })))

waits_from : {U : List ℕ → Type 0} {n : ℕ} (at : ℕ) (ws : Waiting) (s : List ℕ) (k : ℕ) (c : Context) → State U ((at, s) ∷ ws) n c → From (waits at ws s k) c (RoundPost U n)
waits_from at ws s zero c h = must_then (λ m.
    let u = name_utf8 s Binary m in
    let b : AreBytes s = All-head WaitingBytes (at, s) ws h.waiting in
    ended_from ws s c (known_else (All-tail WaitingBytes (at, s) ws h.waiting) (λ x y. known_less (at, s) ws x u y) h) (record { bytes = b; utf8 = inl u }))
waits_from at ws s (suc k) c h = gives_from h

count1_from : {at : ℕ} {c : Context} → From (encoding_count at) c (λ n d. Same c d)
count1_from = after count_from (λ n e h. must_then (λ m. gives_from h))

marked_from : {U : List ℕ → Type 0} {n : ℕ} (at : ℕ) (ws : Waiting) (c : Context) → State U ws n c → From (marked_round at ws) c (RoundPost U n)
marked_from {U = U} {n = n} at ws c h = here_then (after byte_from (λ b d i. must_then (λ m. after string_from (λ s e j. becomes_then (
    let g : State U ((at, s) ∷ ws) n e = known_else (All-cons WaitingBytes (at, s) ws j.0 h.waiting) (known_more (at, s) ws) (state_same j.1 (state_same i h)) in
    let f : State U ((at, s) ∷ ws) n (add_symbol s e) = add_state g (record { bytes = j.0; utf8 = inr (inl refl) }) in
    after count1_from (λ k f' q. waits_from at ws s k f' (state_same q f)))))))

by_from : {U : List ℕ → Type 0} {n : ℕ} (at : ℕ) (ws : Waiting) (b : ℕ) (o : Option Kind) (c : Context) → State U ws n c → From (symbol_by at ws b o) c (RoundPost U n)
by_from at ws b (Some kind.Symbol) c h = after (plain_from h) (λ s e k. ended_from ws s e k.1 k.0)
by_from at ws b (Some kind.SymbolLink) c h = after (linked_from h) (λ s e k. ended_from ws s e k.1 k.0)
by_from at ws b (Some kind.Marked) c h = marked_from at ws c h
by_from at ws b _ c h = refuses_from

round_from : {U : List ℕ → Type 0} {n : ℕ} (ws : Waiting) (b : ℕ) (c : Context) → State U ws n c → From (symbol_round ws b) c (RoundPost U n)
round_from ws b c h = just_then (by_from _ ws b (kind_of b) c h)

rounds_from : {U : List ℕ → Type 0} {n : ℕ} (k : ℕ) (ws : Waiting) (c : Context) (bs s : List ℕ) (d : Context) → State U ws n c → AreBytes bs
    → InRounds (λ t b. Spells (symbol_round t b)) k ws c bs s d → Known U [] s × State U [] n d
rounds_from zero ws c bs s d h a r = absurd r
rounds_from {U = U} {n = n} (suc k) ws c bs s d h a r =
    let m : AreBytes r.1 = All-tail (λ x. x < 256) r.0 r.1 (subst AreBytes r.2 a) in
    let g = round_from ws r.0 (past 1 c) (state_same (same_past 1 c (past 1 c) refl) h) in
    elim r.3 as (λ x. Known U [] s × State U [] n d) [
      | inl q ↦ g.holds r.1 (inr s) d m q
      | inr q ↦
          let b : AreBytes (q.1 ++ q.2) = subst AreBytes q.4 m in
          rounds_from k q.0 q.3 q.2 s d (g.holds q.1 (inl q.0) q.3 (bytes_front q.1 q.2 b) q.5) (bytes_back q.1 q.2 b) q.6
    ]

pub symbol_from : {U : List ℕ → Type 0} {n : ℕ} {c : Context} → State U [] n c → From symbol c (λ s d. Known U [] s × State U [] n d)
unfolding symbol
symbol_from {c = c} h = record { holds = λ bs s d a r. rounds_from r.0 [] c bs s d h a r.1 }

-- a class symbol, or the name of a field or variable
pub name_from : {n : ℕ} {c : Context} → State Never [] n c → From name c (λ s d. Known Never [] s × State Never [] (n + heavy s) d)
name_from h = here_then (after (symbol_from h) (λ s e k. after nodes_from (λ x f q. gives_from (k.0, state_counted q k.1))))

encoding_by_from : {U : List ℕ → Type 0} {n : ℕ} (at k : ℕ) {c : Context} → State U [] n c → From (encoding_by at k) c (λ code d. State U [] n d)
encoding_by_from at zero h = gives_from h
encoding_by_from at (suc k) h = after (symbol_from h) (λ s e q. weaker (value_from at s) (λ code d j. state_same j q.1))

pub encoding_from : {U : List ℕ → Type 0} {n at : ℕ} {c : Context} → State U [] n c → From (encoding at) c (λ code d. State U [] n d)
encoding_from {at = at} h = after count1_from (λ k e q. encoding_by_from at k (state_same q h))

pub plain_name : {n at : ℕ} {c : Context} → State Never [] n c → From (plain_symbol at) c (λ s d. Known Never [] s × State Never [] n d)
plain_name h = plain_from h

pub linked_name : {n at : ℕ} {c : Context} → State Never [] n c → From (linked_symbol at) c (λ s d. Known Never [] s × State Never [] n d)
linked_name h = linked_from h

-- one symbol is set aside until its encoding is read
aside : (s t : List ℕ) → Known Never [] t → Known (λ x. x ≡ s) [] t
aside s t k = record { bytes = k.bytes; utf8 = of_utf8 (λ x. absurd x) k.utf8 }

back_case : (s t : List ℕ) → IsUtf8 s → t ≡ s → IsUtf8 t ⊎ ⊥
back_case s t u e = inl (subst IsUtf8 (sym e) u)

back : (s t : List ℕ) → IsUtf8 s → Known (λ x. x ≡ s) [] t → Known Never [] t
back s t u k = record { bytes = k.bytes; utf8 = of_utf8 (back_case s t u) k.utf8 }

pub marked_name : {n at : ℕ} {c : Context} → State Never [] n c → From (marked_symbol at) c (λ s d. Known Never [] s × State Never [] n d)
marked_name {n = n} h = after string_from (λ s e k. becomes_then (
    let g : State (λ x. x ≡ s) [] n e = known_else h.waiting (aside s) (state_same k.1 h) in
    let f : State (λ x. x ≡ s) [] n (add_symbol s e) = add_state g (record { bytes = k.0; utf8 = inr refl }) in
    after (encoding_from f) (λ code d q. must_then (λ m.
    let u = name_utf8 s code m in
    gives_from (record { bytes = k.0; utf8 = inl u }, known_else h.waiting (λ t. back s t u) q)))))
