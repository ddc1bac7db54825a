-- The symbols that were read are UTF-8.
use Rattle.std.proofs.Common.{◌≡◌, ℕ, zero, suc, ◌<◌, ◌⊎◌, List, [], ◌∷◌, ◌++◌, Bool, true, false, ◌&&◌, ◌||◌, ℤ, pos, negsuc, Option, Some, None, Ok, refl, sym, subst, All, IsUtf8, nat_lt, bytes_eq, arith}
use Rattle.std.specs.Prelude.{slice_get, slice_index}
use Rattle.std.specs.Str.{is_utf8}
use Rattle.std.proofs.lemmas.Bool.Decides.{nat_tests}
use Rattle.std.proofs.lemmas.Str.{IsUtf8-from_ascii, IsUtf8-from_is_utf8}
use Rattle.std.proofs.lemmas.List.Elements.{All-append, All-cons, All-nil, All-get_or}
use Rattle.std.proofs.lemmas.Option.{get_or_from_slice_get, slice_get_within}
use Rattle.drb_tree.specs.declared.Code.{Code}
use Rattle.drb_tree.specs.declared.Code.TheVariants.{Binary, Utf8}
use Rattle.drb_tree.specs.declared.Remote.{Remote}
use Rattle.drb_tree.specs.declared.Tree.{Tree}
use Rattle.drb_tree.specs.Kept.{remote_class}
use Rattle.drb_tree.specs.Same.{all_ascii, same_code}
use Rattle.marshal_grammar.specs.declared.kind.Kind.{Kind}
use Rattle.marshal_grammar.specs.declared.kind.Kind.TheVariants as kind
use Rattle.marshal_grammar.specs.Contexts.{Context, begin_object}
use Rattle.marshal_grammar.specs.Counts.{count_nodes}
use Rattle.marshal_grammar.specs.Grammar.{Grammar, ◌>>=◌, ◌>>◌}
use Rattle.marshal_grammar.specs.Trees as tree
use Rattle.marshal_grammar.specs.Kinds.{kind_of}
use Rattle.marshal_grammar.specs.Symbols as G
use Rattle.marshal_grammar.specs.Values as V
use Rattle.marshal_grammar.specs.Dumps as D
use Rattle.marshal_read.specs.Fails.{read_at}
use Rattle.marshal_read.specs.State.{State, Named}
use Rattle.marshal_read.specs.Scopes.{reference_in, part_in}
use Rattle.marshal_read.proofs.Leading.{Symbols, Holds, Leads, Keeps, next_leads, weaker, so_leads, gives_leads, refuses_leads, must_leads, must_keeps, byte_keeps, bytes_keeps, long_keeps, context_keeps, context_leads, becomes_leads, within_keeps, EitherWay, rounds_lead, here_then, count_keeps, string_keeps, pair_count_keeps, count_nodes_keeps}

first_below : (b : ℕ) (rest : Bool) → (nat_lt b 128 && rest) ≡ true → b < 128
first_below b rest h = grind (arith, nat_tests)

rest_holds : (b rest : Bool) → (b && rest) ≡ true → rest ≡ true
rest_holds true rest h = h
rest_holds false rest h = cc

each_below : (bs : List ℕ) → all_ascii bs ≡ true → (i : ℕ) → slice_index bs i < 128
each_below [] h i = omega arith
each_below (b ∷ bs) h zero = first_below b (all_ascii bs) h
each_below (b ∷ bs) h (suc i) = each_below bs (rest_holds (nat_lt b 128) (all_ascii bs) h) i

pub ascii_utf8 : (bs : List ℕ) → all_ascii bs ≡ true → IsUtf8 bs
ascii_utf8 bs h = IsUtf8-from_ascii bs (each_below bs h)

name_case : (s : List ℕ) (a b : Bool) → all_ascii s ≡ a → a || (b && is_utf8 s) ≡ true → IsUtf8 s
name_case s true b e h = ascii_utf8 s e
name_case s false b e h = IsUtf8-from_is_utf8 s (rest_holds b (is_utf8 s) h)

pub name_utf8 : (s : List ℕ) (code : Code) → G.is_name s code ≡ true → IsUtf8 s
name_utf8 s code h = name_case s (all_ascii s) (same_code code Utf8) refl h

found_utf8 : (ss : Symbols) (i : ℕ) (s : List ℕ) → All IsUtf8 ss → slice_get ss i ≡ Some s → IsUtf8 s
found_utf8 ss i s h e = subst IsUtf8 (get_or_from_slice_get ss i s [] e) (All-get_or IsUtf8 ss i [] (slice_get_within ss i s e) h)

-- where W holds, each symbol is UTF-8
abbrev pub AllNamed : Type 0 → Symbols → Type 0
AllNamed W ss = W → All IsUtf8 ss

with_utf8 : (W : Type 0) (s : List ℕ) (ss : Symbols) → (W → All IsUtf8 ss) → W × IsUtf8 s → All IsUtf8 (ss ++ (s ∷ []))
with_utf8 W s ss h w = All-append IsUtf8 ss (s ∷ []) (h w.0) (All-cons IsUtf8 s [] w.1 (All-nil IsUtf8))

-- a symbol, and those of the table
abbrev pub NameRead : Type 0 → List ℕ → Symbols → Type 0
NameRead W s ss = (W → All IsUtf8 ss) × (W → IsUtf8 s)

plain_symbol_leads : (W : Type 0) (at : ℕ) → Leads (AllNamed W) (G.plain_symbol at) (NameRead W)
plain_symbol_leads W at =
    next_leads string_keeps (λ s. next_leads (becomes_leads {M = AllNamed (W × IsUtf8 s)} (λ c h. with_utf8 W s c.symbols h)) (λ _.
    must_leads (λ e. gives_leads (λ ss h. ((λ w. h (w, ascii_utf8 s e)), (λ w. ascii_utf8 s e))))))

found_in : (c : Context) (n : ℤ) (s : List ℕ) → All IsUtf8 c.symbols → G.symbol_at c n ≡ Some s → IsUtf8 s
found_in c (pos i) s h e = found_utf8 c.symbols i s h e
found_in c (negsuc i) s h e = absurd (cc)

found_leads : (W : Type 0) (at : ℕ) (c : Context) (n : ℤ) (o : Option (List ℕ)) → G.symbol_at c n ≡ o → Leads (λ ss. AllNamed W c.symbols × AllNamed W ss) (G.some_symbol at o) (NameRead W)
found_leads W at c n None e = refuses_leads
found_leads W at c n (Some s) e = gives_leads (λ ss h. (h.1, (λ w. found_in c n s (h.0 w) e)))

linked_symbol_leads : (W : Type 0) (at : ℕ) → Leads (AllNamed W) (G.linked_symbol at) (NameRead W)
linked_symbol_leads W at = next_leads long_keeps (λ n. next_leads context_leads (λ c. found_leads W at c n (G.symbol_at c n) refl))

encoding_count_keeps : (N : Symbols → Type 0) (at : ℕ) → Keeps N (G.encoding_count at)
encoding_count_keeps N at = next_leads count_keeps (λ n. must_leads (λ _. gives_leads (λ ss h. h)))

some_code_keeps : (N : Symbols → Type 0) (at : ℕ) (o : Option Code) → Keeps N (G.some_code at o)
some_code_keeps N at None = refuses_leads
some_code_keeps N at (Some code) = gives_leads (λ ss h. h)

encoding_value_keeps : (N : Symbols → Type 0) (at : ℕ) (e : List ℕ) → Keeps N (G.encoding_value at e)
encoding_value_keeps N at e = must_leads (λ _. next_leads byte_keeps (λ b. some_code_keeps N at (G.code_of b)))

-- W holds, and the symbols that wait are UTF-8
abbrev pub Waits : Type 0 → G.Waiting → Type 0
Waits W [] = W
Waits W (w ∷ ws) = Waits W ws × IsUtf8 w.1

-- after a round of a symbol
abbrev pub Round : Type 0 → G.Waiting ⊎ List ℕ → Symbols → Type 0
Round W = EitherWay (λ ws. AllNamed (Waits W ws)) (NameRead W)

ended_leads : (W : Type 0) (ws : G.Waiting) (s : List ℕ) → Leads (NameRead (Waits W ws) s) (G.ended ws s) (Round W)
ended_leads W [] s = gives_leads (λ ss h. h)
ended_leads W (w ∷ ws) s =
    next_leads (encoding_value_keeps (NameRead (Waits W (w ∷ ws)) s) w.0 s) (λ code. must_leads (λ e.
    weaker (NameRead (Waits W ws) w.1) (λ ss h. ((λ a. h.0 (a, name_utf8 w.1 code e)), (λ a. name_utf8 w.1 code e))) (ended_leads W ws w.1)))

waits_lead : (W : Type 0) (at : ℕ) (ws : G.Waiting) (s : List ℕ) (n : ℕ) → Leads (AllNamed (Waits W ws × IsUtf8 s)) (G.waits at ws s n) (Round W)
waits_lead W at ws s zero = must_leads (λ e. weaker (NameRead (Waits W ws) s) (λ ss h. ((λ a. h (a, name_utf8 s Binary e)), (λ a. name_utf8 s Binary e))) (ended_leads W ws s))
waits_lead W at ws s (suc n) = gives_leads (λ ss h. h)

marked_round_leads : (W : Type 0) (at : ℕ) (ws : G.Waiting) → Leads (AllNamed (Waits W ws)) (G.marked_round at ws) (Round W)
marked_round_leads W at ws =
    here_then (λ q. next_leads byte_keeps (λ b. must_leads (λ _. next_leads string_keeps (λ s.
    next_leads (becomes_leads {M = AllNamed (Waits W ws × IsUtf8 s)} (λ c h. with_utf8 (Waits W ws) s c.symbols h)) (λ _.
    next_leads (encoding_count_keeps (AllNamed (Waits W ws × IsUtf8 s)) at) (λ n. waits_lead W at ws s n))))))

symbol_by_leads : (W : Type 0) (at : ℕ) (ws : G.Waiting) (b : ℕ) (o : Option Kind) → Leads (AllNamed (Waits W ws)) (G.symbol_by at ws b o) (Round W)
symbol_by_leads W at ws b None = refuses_leads
symbol_by_leads W at ws b (Some kind.Nil) = refuses_leads
symbol_by_leads W at ws b (Some kind.True) = refuses_leads
symbol_by_leads W at ws b (Some kind.False) = refuses_leads
symbol_by_leads W at ws b (Some kind.Int) = refuses_leads
symbol_by_leads W at ws b (Some kind.Big) = refuses_leads
symbol_by_leads W at ws b (Some kind.Symbol) = next_leads (plain_symbol_leads (Waits W ws) at) (λ s. ended_leads W ws s)
symbol_by_leads W at ws b (Some kind.SymbolLink) = next_leads (linked_symbol_leads (Waits W ws) at) (λ s. ended_leads W ws s)
symbol_by_leads W at ws b (Some kind.Marked) = marked_round_leads W at ws
symbol_by_leads W at ws b (Some kind.Text) = refuses_leads
symbol_by_leads W at ws b (Some kind.List) = refuses_leads
symbol_by_leads W at ws b (Some kind.Hash) = refuses_leads
symbol_by_leads W at ws b (Some kind.HashWithDefault) = refuses_leads
symbol_by_leads W at ws b (Some kind.Class) = refuses_leads
symbol_by_leads W at ws b (Some kind.Module) = refuses_leads
symbol_by_leads W at ws b (Some kind.Object) = refuses_leads
symbol_by_leads W at ws b (Some kind.Struct) = refuses_leads
symbol_by_leads W at ws b (Some kind.Dumped) = refuses_leads
symbol_by_leads W at ws b (Some kind.Wrapped) = refuses_leads
symbol_by_leads W at ws b (Some kind.Link) = refuses_leads

symbol_round_leads : (W : Type 0) (ws : G.Waiting) (b : ℕ) → Leads (AllNamed (Waits W ws)) (G.symbol_round ws b) (Round W)
symbol_round_leads W ws b = next_leads (next_leads context_keeps (λ c. gives_leads (λ ss h. h))) (λ at. symbol_by_leads W at ws b (kind_of b))

symbol_leads : (W : Type 0) → Leads (AllNamed W) G.symbol (NameRead W)
unfolding G.symbol
symbol_leads W = rounds_lead (λ ws. AllNamed (Waits W ws)) (λ ws b. symbol_round_leads W ws b)

encoding_by_keeps : (W : Type 0) (at n : ℕ) → Keeps (AllNamed W) (G.encoding_by at n)
encoding_by_keeps W at zero = gives_leads (λ ss h. h)
encoding_by_keeps W at (suc n) = next_leads (symbol_leads W) (λ e. weaker (AllNamed W) (λ ss h. h.0) (encoding_value_keeps (AllNamed W) at e))

encoding_keeps : (W : Type 0) (at : ℕ) → Keeps (AllNamed W) (G.encoding at)
encoding_keeps W at = next_leads (encoding_count_keeps (AllNamed W) at) (λ n. encoding_by_keeps W at n)

-- a name, and the symbols
abbrev pub NameAmong : List ℕ → Symbols → Type 0
NameAmong s ss = All IsUtf8 ss × IsUtf8 s

plainly : {g : Grammar (List ℕ)} → Leads (AllNamed (Unit {0})) g (NameRead (Unit {0})) → Leads (All IsUtf8) g NameAmong
plainly h = weaker (AllNamed (Unit {0})) (λ ss k _. k) (so_leads (NameRead (Unit {0})) (λ s ss k. (k.0 tt, k.1 tt)) h)

pub plain_symbol_named : (at : ℕ) → Leads (All IsUtf8) (G.plain_symbol at) NameAmong
plain_symbol_named at = plainly (plain_symbol_leads (Unit {0}) at)

pub linked_symbol_named : (at : ℕ) → Leads (All IsUtf8) (G.linked_symbol at) NameAmong
linked_symbol_named at = plainly (linked_symbol_leads (Unit {0}) at)

pub marked_symbol_named : (at : ℕ) → Leads (All IsUtf8) (G.marked_symbol at) NameAmong
marked_symbol_named at =
    next_leads string_keeps (λ s. next_leads (becomes_leads {M = AllNamed (IsUtf8 s)} (λ c h u. All-append IsUtf8 c.symbols (s ∷ []) h (All-cons IsUtf8 s [] u (All-nil IsUtf8)))) (λ _.
    next_leads (encoding_keeps (IsUtf8 s) at) (λ code. must_leads (λ e. gives_leads (λ ss h. (h (name_utf8 s code e), name_utf8 s code e))))))

pub name_named : Leads (All IsUtf8) G.name NameAmong
name_named = here_then (λ at. next_leads (plainly (symbol_leads (Unit {0}))) (λ s. next_leads (count_nodes_keeps _ _) (λ _. gives_leads (λ ss h. h))))

-- the symbols stay UTF-8
abbrev pub Tame : {A : Type 0} → Grammar A → Type 0
Tame g = Keeps (All IsUtf8) g

encoding_tame : (at : ℕ) → Tame (G.encoding at)
encoding_tame at = weaker (AllNamed (Unit {0})) (λ ss k _. k) (so_leads (λ _ ss. AllNamed (Unit {0}) ss) (λ c ss k. k tt) (encoding_keeps (Unit {0}) at))

simple_tame : (at : ℕ) (v : Tree) → Tame (V.simple at v)
simple_tame at v = next_leads (count_nodes_keeps _ _) (λ _. gives_leads (λ ss h. h))

whole_tame : (v : Tree) → Tame (V.whole v)
whole_tame v = next_leads (becomes_leads (λ c h. h)) (λ _. gives_leads (λ ss h. h))

ends_tame : (k : ℕ) (v : Tree) → Tame (V.ends k v)
ends_tame k v = next_leads (becomes_leads (λ c h. h)) (λ _. gives_leads (λ ss h. h))

begins_tame : Tame V.begins
begins_tame = next_leads context_keeps (λ c. next_leads (becomes_leads (λ d h. h)) (λ _. gives_leads (λ ss h. h)))

-- so many nodes are counted, and an object begins
opened_tame : {A : Type 0} (at n : ℕ) (q : ℕ → Grammar A) → ((k : ℕ) → Tame (q k)) → Tame (count_nodes at n >> (V.begins >>= q))
opened_tame at n q h = next_leads (count_nodes_keeps _ _) (λ _. next_leads begins_tame h)

small_int_tame : (at : ℕ) → Tame (V.small_int at)
small_int_tame at = next_leads long_keeps (λ n. simple_tame at (tree.int n))

big_int_tame : (at : ℕ) → Tame (V.big_int at)
big_int_tame at =
    here_then (λ q. next_leads byte_keeps (λ sign. must_leads (λ _. next_leads count_keeps (λ n. next_leads bytes_keeps (λ bs. must_leads (λ _.
    next_leads (count_nodes_keeps _ _) (λ _. whole_tame (tree.int (V.signed sign bs)))))))))

symbol_value_tame : (at : ℕ) (g : Grammar (List ℕ)) → Leads (All IsUtf8) g NameAmong → Tame (V.symbol_value at g)
symbol_value_tame at g h = next_leads h (λ s. next_leads (count_nodes_keeps _ _) (λ _. gives_leads (λ ss k. k.0)))

plain_text_tame : (at : ℕ) → Tame (V.plain_text at)
plain_text_tame at = next_leads string_keeps (λ s. next_leads (count_nodes_keeps _ _) (λ _. whole_tame (tree.text s Binary)))

marked_text_tame : (at : ℕ) → Tame (V.marked_text at)
marked_text_tame at = next_leads string_keeps (λ s. next_leads (encoding_tame at) (λ code. next_leads (count_nodes_keeps _ _) (λ _. whole_tame (tree.text s code))))

named_value_tame : (form : List ℕ → Tree) (at : ℕ) → Tame (V.named_value form at)
named_value_tame form at = next_leads string_keeps (λ s. must_leads (λ _. next_leads (count_nodes_keeps _ _) (λ _. whole_tame (form s))))

pub values_tame : (part : Grammar Tree) (n : ℕ) → Tame part → Tame (V.values part n)
values_tame part zero h = gives_leads (λ ss k. k)
values_tame part (suc n) h = next_leads h (λ v. next_leads (values_tame part n h) (λ vs. gives_leads (λ ss k. k)))

pub pairs_tame : (part : Grammar Tree) (before : List (Tree × Tree)) (n : ℕ) → Tame part → Tame (V.pairs part before n)
pairs_tame part before zero h = gives_leads (λ ss k. k)
pairs_tame part before (suc n) h = here_then (λ at. next_leads h (λ k. must_leads (λ _. next_leads h (λ v. pairs_tame part (before ++ ((k, v) ∷ [])) n h))))

-- after a name
named_then : {A : Type 0} (q : List ℕ → Grammar A) → ((s : List ℕ) → Tame (q s)) → Tame (G.name >>= q)
named_then q h = next_leads name_named (λ s. weaker (All IsUtf8) (λ ss k. k.0) (h s))

pub fields_tame : (part : Grammar Tree) (before : List (List ℕ × Tree)) (n : ℕ) → Tame part → Tame (V.fields part before n)
fields_tame part before zero h = gives_leads (λ ss k. k)
fields_tame part before (suc n) h =
    here_then (λ at. named_then _ (λ s. must_leads (λ _. next_leads h (λ v. fields_tame part (before ++ ((s, v) ∷ [])) n h))))

list_value_tame : (part : Grammar Tree) (at : ℕ) → Tame part → Tame (V.list_value part at)
list_value_tame part at h = next_leads count_keeps (λ n. opened_tame at 1 _ (λ k. next_leads (values_tame part n h) (λ vs. ends_tame k (tree.list vs))))

hash_value_tame : (part : Grammar Tree) (at : ℕ) → Tame part → Tame (V.hash_value part at)
hash_value_tame part at h = next_leads pair_count_keeps (λ n. opened_tame at 1 _ (λ k. next_leads (pairs_tame part [] n h) (λ ps. ends_tame k (tree.hash ps None))))

default_hash_value_tame : (part : Grammar Tree) (at : ℕ) → Tame part → Tame (V.default_hash_value part at)
default_hash_value_tame part at h =
    next_leads pair_count_keeps (λ n. opened_tame at 1 _ (λ k. next_leads (pairs_tame part [] n h) (λ ps. next_leads h (λ d. ends_tame k (tree.hash ps (Some d))))))

fields_value_tame : (form : List ℕ → List (List ℕ × Tree) → Tree) (part : Grammar Tree) (at : ℕ) → Tame part → Tame (V.fields_value form part at)
fields_value_tame form part at h =
    named_then _ (λ c. next_leads pair_count_keeps (λ n. opened_tame at 1 _ (λ k. next_leads (fields_tame part [] n h) (λ fs. ends_tame k (form c fs)))))

wrapped_value_tame : (part : Grammar Tree) (at : ℕ) → Tame part → Tame (V.wrapped_value part at)
wrapped_value_tame part at h = named_then _ (λ c. opened_tame at 1 _ (λ k. next_leads h (λ v. ends_tame k (tree.wrapped c v))))

held_by_tame : (reference : Grammar Remote) (at : ℕ) (c s : List ℕ) (b : Bool) → Tame (V.held_by reference at c s b)
held_by_tame reference at c s true = next_leads within_keeps (λ r. gives_leads (λ ss k. k))
held_by_tame reference at c s false = gives_leads (λ ss k. k)

pub held_tame : (reference : Grammar Remote) (at : ℕ) → Tame (V.held reference at)
held_tame reference at = named_then _ (λ c. next_leads string_keeps (λ s. held_by_tame reference at c s (bytes_eq c remote_class)))

dumped_value_tame : (reference : Grammar Remote) (at : ℕ) → Tame (V.dumped_value reference at)
dumped_value_tame reference at = next_leads (held_tame reference at) (λ h. next_leads (count_nodes_keeps _ _) (λ _. whole_tame (V.held_value h [])))

marked_dumped_tame : (reference : Grammar Remote) (part : Grammar Tree) (at : ℕ) → Tame part → Tame (V.marked_dumped reference part at)
marked_dumped_tame reference part at t =
    next_leads (held_tame reference at) (λ h. next_leads pair_count_keeps (λ n. next_leads (count_nodes_keeps _ _) (λ _. next_leads (fields_tame part [] n t) (λ fs. whole_tame (V.held_value h fs)))))

finished_tame : (at : ℕ) (o : Option (Option Tree)) → Tame (V.finished at o)
finished_tame at None = refuses_leads
finished_tame at (Some None) = refuses_leads
finished_tame at (Some (Some v)) = gives_leads (λ ss k. k)

link_tame : (room at : ℕ) → Tame (V.link room at)
link_tame room at =
    next_leads long_keeps (λ n. next_leads context_keeps (λ c. next_leads (finished_tame at (V.object_at c n)) (λ v. must_leads (λ _. next_leads (count_nodes_keeps _ _) (λ _. gives_leads (λ ss k. k))))))

marked_by_tame : (reference : Grammar Remote) (part : Grammar Tree) (at q b : ℕ) (o : Option Kind) → Tame part → Tame (V.marked_by reference part at q b o)
marked_by_tame reference part at q b None t = refuses_leads
marked_by_tame reference part at q b (Some kind.Nil) t = refuses_leads
marked_by_tame reference part at q b (Some kind.True) t = refuses_leads
marked_by_tame reference part at q b (Some kind.False) t = refuses_leads
marked_by_tame reference part at q b (Some kind.Int) t = refuses_leads
marked_by_tame reference part at q b (Some kind.Big) t = refuses_leads
marked_by_tame reference part at q b (Some kind.Symbol) t = symbol_value_tame at (G.marked_symbol at) (marked_symbol_named at)
marked_by_tame reference part at q b (Some kind.SymbolLink) t = refuses_leads
marked_by_tame reference part at q b (Some kind.Marked) t = refuses_leads
marked_by_tame reference part at q b (Some kind.Text) t = marked_text_tame at
marked_by_tame reference part at q b (Some kind.List) t = refuses_leads
marked_by_tame reference part at q b (Some kind.Hash) t = refuses_leads
marked_by_tame reference part at q b (Some kind.HashWithDefault) t = refuses_leads
marked_by_tame reference part at q b (Some kind.Class) t = refuses_leads
marked_by_tame reference part at q b (Some kind.Module) t = refuses_leads
marked_by_tame reference part at q b (Some kind.Object) t = refuses_leads
marked_by_tame reference part at q b (Some kind.Struct) t = refuses_leads
marked_by_tame reference part at q b (Some kind.Dumped) t = marked_dumped_tame reference part at t
marked_by_tame reference part at q b (Some kind.Wrapped) t = refuses_leads
marked_by_tame reference part at q b (Some kind.Link) t = refuses_leads

marked_value_tame : (reference : Grammar Remote) (part : Grammar Tree) (at : ℕ) → Tame part → Tame (V.marked_value reference part at)
marked_value_tame reference part at t = here_then (λ q. next_leads byte_keeps (λ b. marked_by_tame reference part at q b (kind_of b) t))

body_tame : (reference : Grammar Remote) (part : Grammar Tree) (room : ℕ) (k : Kind) (at : ℕ) → Tame part → Tame (V.body reference part room k at)
unfolding V.body
body_tame reference part room kind.Nil at t = simple_tame at tree.nil
body_tame reference part room kind.True at t = simple_tame at (tree.bool true)
body_tame reference part room kind.False at t = simple_tame at (tree.bool false)
body_tame reference part room kind.Int at t = small_int_tame at
body_tame reference part room kind.Big at t = big_int_tame at
body_tame reference part room kind.Symbol at t = symbol_value_tame at (G.plain_symbol at) (plain_symbol_named at)
body_tame reference part room kind.SymbolLink at t = symbol_value_tame at (G.linked_symbol at) (linked_symbol_named at)
body_tame reference part room kind.Marked at t = marked_value_tame reference part at t
body_tame reference part room kind.Text at t = plain_text_tame at
body_tame reference part room kind.List at t = list_value_tame part at t
body_tame reference part room kind.Hash at t = hash_value_tame part at t
body_tame reference part room kind.HashWithDefault at t = default_hash_value_tame part at t
body_tame reference part room kind.Class at t = named_value_tame tree.class at
body_tame reference part room kind.Module at t = named_value_tame tree.module_named at
body_tame reference part room kind.Object at t = fields_value_tame tree.object part at t
body_tame reference part room kind.Struct at t = fields_value_tame tree.structure part at t
body_tame reference part room kind.Dumped at t = dumped_value_tame reference at
body_tame reference part room kind.Wrapped at t = wrapped_value_tame part at t
body_tame reference part room kind.Link at t = link_tame room at

too_deep_tame : (k : Kind) (at : ℕ) → Tame (V.too_deep k at)
too_deep_tame kind.Nil at = refuses_leads
too_deep_tame kind.True at = refuses_leads
too_deep_tame kind.False at = refuses_leads
too_deep_tame kind.Int at = refuses_leads
too_deep_tame kind.Big at = refuses_leads
too_deep_tame kind.Symbol at = refuses_leads
too_deep_tame kind.SymbolLink at = refuses_leads
too_deep_tame kind.Marked at = refuses_leads
too_deep_tame kind.Text at = refuses_leads
too_deep_tame kind.List at = refuses_leads
too_deep_tame kind.Hash at = refuses_leads
too_deep_tame kind.HashWithDefault at = refuses_leads
too_deep_tame kind.Class at = refuses_leads
too_deep_tame kind.Module at = refuses_leads
too_deep_tame kind.Object at = refuses_leads
too_deep_tame kind.Struct at = refuses_leads
too_deep_tame kind.Dumped at = refuses_leads
too_deep_tame kind.Wrapped at = refuses_leads
too_deep_tame kind.Link at = link_tame 0 at

typed_tame : (rest : Kind → ℕ → Grammar Tree) (at b : ℕ) (o : Option Kind) → ((k : Kind) (i : ℕ) → Tame (rest k i)) → Tame (V.typed rest at b o)
typed_tame rest at b None h = refuses_leads
typed_tame rest at b (Some k) h = h k at

by_type_tame : (rest : Kind → ℕ → Grammar Tree) → ((k : Kind) (i : ℕ) → Tame (rest k i)) → Tame (V.by_type rest)
by_type_tame rest h = here_then (λ at. next_leads byte_keeps (λ b. typed_tame rest at b (kind_of b) h))

pub value_tame : (reference : Grammar Remote) (room : ℕ) → Tame (V.value reference room)
unfolding V.value
value_tame reference zero = by_type_tame V.too_deep too_deep_tame
value_tame reference (suc room) = by_type_tame (V.body reference (V.value reference room) (suc room)) (λ k at. body_tame reference (V.value reference room) (suc room) k at (value_tame reference room))

pub version_tame : Tame D.version
version_tame = next_leads byte_keeps (λ major. must_leads (λ _. next_leads byte_keeps (λ minor. must_keeps)))

-- what was read, by what the reader says of it
pub read_leads : {A : Type 0} {P : A → Symbols → Type 0} {g : Grammar A} → Leads (All IsUtf8) g P → (s t : State) (x : A) → read_at g s ≡ Ok (x, t.seen, t.rest) → Named s → P x t.seen.symbols
read_leads {P = P} h s t x e n = subst (Holds P) e (h.so s.seen s.rest n)

pub part_tame : (nested : Bool) (room : ℕ) → Tame (part_in nested room)
part_tame nested room = value_tame (reference_in nested) room

-- the class that was read
pub class_utf8 : (s t : State) (x c : List ℕ) → read_at G.name s ≡ Ok (x, t.seen, t.rest) → c ≡ x → Named s → IsUtf8 c
class_utf8 s t x c e f n = subst IsUtf8 (sym f) (read_leads name_named s t x e n).1

-- one node is counted, and an object begins
pub opened_named : (at : ℕ) (b c e : State) → read_at (count_nodes at 1) b ≡ Ok (tt, c.seen, c.rest) → e ≡ record c { seen = begin_object c.seen } → Named b → Named e
opened_named at b c e h k n = subst Named (sym k) (read_leads (count_nodes_keeps at 1) b c tt h n)

-- a count before
pub begun_named : {size : Grammar ℕ} → Tame size → (at n : ℕ) (a b c e : State) → read_at size a ≡ Ok (n, b.seen, b.rest) → read_at (count_nodes at 1) b ≡ Ok (tt, c.seen, c.rest)
    → e ≡ record c { seen = begin_object c.seen } → Named a → Named e
begun_named h at n a b c e r k l m = opened_named at b c e k l (read_leads h a b n r m)
