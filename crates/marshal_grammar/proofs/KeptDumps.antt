-- What a dump spells fits, and is well kept and ranged.
use Rattle.std.proofs.Common.{◌≡◌, ℕ, zero, suc, ◌+◌, inl, inr, List, [], ◌∷◌, ◌++◌, Bool, true, false, IsUtf8, Option, Some, None, refl, sym, ◌∙◌, ap, subst, arith}
use Rattle.std.proofs.lemmas.List.Elements.{All-nil, All-head, All-tail}
use Rattle.std.proofs.lemmas.Slice.Eq.{bytes_eq-Decides}
use Rattle.std.specs.Prelude.{bytes_eq}
use Rattle.drb_tree.specs.declared.RefId.{RefId}
use Rattle.drb_tree.specs.declared.RefId.TheVariants as R
use Rattle.drb_tree.specs.declared.Remote.{Remote}
use Rattle.drb_tree.specs.declared.Text.{Text}
use Rattle.drb_tree.specs.declared.Tree.{Tree}
use Rattle.drb_tree.specs.declared.Tree.TheViews.{roll-Tree, out-Tree, roll-out-Tree}
use Rattle.drb_tree.specs.declared.Tree.TheOpen.{Tree-F}
use Rattle.drb_tree.specs.declared.Tree.TheFolds.{every-Tree}
use Rattle.drb_tree.specs.Sizes.{heavy, remote_nodes}
use Rattle.drb_tree.specs.Trees.{text_tree}
use Rattle.drb_tree.specs.Kept.{AreBytes, IdInRange, InRange, Within, id_tree, remote_list, remote_class, max_depth}
use Rattle.drb_tree.proofs.Everywhere.{every_level, every_parts}
use Rattle.marshal_grammar.specs.declared.kind.Kind.{Kind}
use Rattle.marshal_grammar.specs.declared.kind.Kind.TheVariants as kind
use Rattle.marshal_grammar.specs.declared.refusal.Why.{Why}
use Rattle.marshal_grammar.specs.declared.refusal.Why.TheVariants as why
use Rattle.marshal_grammar.specs.Kinds.{kind_of}
use Rattle.marshal_grammar.specs.Contexts.{Context, opening}
use Rattle.marshal_grammar.specs.Grammar.{Grammar, refuses, must, within, Spells}
use Rattle.marshal_grammar.specs.Trees.{id_of, with_id, remote_from, remote_of}
use Rattle.marshal_grammar.specs.Values.{Held, held_nodes, held_value, held_by, held, dumped_value, marked_dumped, marked_by, marked_value, body, too_deep, typed, value}
use Rattle.marshal_grammar.specs.Dumps.{version, dump_with, some_remote, reference, dump}
use Rattle.marshal_grammar.specs.Laws.{DumpsFit}
use Rattle.marshal_grammar.proofs.Froms.{From, bytes_front, after, gives_from, refuses_from, must_then, here_then, Same, byte_from, string_from, pair_count_from, nodes_from}
use Rattle.marshal_grammar.proofs.KeptSymbols.{Finished, Known, Never, WaitingBytes, state_same, state_counted, state_fewer, name_from, plain_name, linked_name, marked_name}
use Rattle.marshal_grammar.proofs.KeptValues.{Fine, Reads, reads_of, whole_from, simple_from, small_int_from, big_int_from, symbol_value_from, symbol_utf8, plain_text_from, marked_text_from, PartFrom, list_from, link_from}
use Rattle.marshal_grammar.proofs.KeptParts.{hash_from, default_from, field_nodes, ReadsFields, fields_from, no_fields, kept_fields, field_bytes, field_parts, object_from, struct_from, class_from, module_from, wrapped_from}

-- the list of a remote object fits, and its numbers are those of its types
pub record RemoteGood (r : Remote) : Type 0 where
  pub within : Within (remote_list r)
  pub uri : AreBytes r.uri.bytes
  pub id : IdInRange r.id

-- a piece of the grammar that spells such remote objects
abbrev pub SpellsRemotes : Grammar Remote → Type 0
SpellsRemotes g = (bs : List ℕ) (r : Remote) (d : Context) → AreBytes bs → Spells g opening bs r d → RemoteGood r

within_from : {g : Grammar Remote} {s : List ℕ} {w : Why} {at : ℕ} {c : Context} → SpellsRemotes g → AreBytes s → From (within g s w at) c (λ r d. RemoteGood r × Same c d)
within_from {s = s} {c = c} g a = record {
  holds = λ bs v d b x.
      let f = x.1 in
      let q : AreBytes (f.0 ++ f.1) = subst AreBytes f.4 a in
      (g f.0 v f.2 (bytes_front f.0 f.1 q) f.3, subst (Same c) (sym x.2) (record { symbols = refl; objects = refl; nodes = refl }));
}

-- what a `u` holds is good
abbrev HeldGood : Held → Type 0
HeldGood (inl r) = RemoteGood r
HeldGood (inr d) = IsUtf8 d.0 × AreBytes d.0 × AreBytes d.1 × (d.0 ≡ remote_class → ⊥)

-- what its class counts at least
abbrev held_class : Held → ℕ
held_class (inl r) = 1
held_class (inr d) = heavy d.0

-- what a `u` holds, and the context after it
record ReadsHeld (n : ℕ) (h : Held) (d : Context) : Type 0 where
  good : HeldGood h
  fine : Fine (n + held_class h) d

module _ (remotes : Grammar Remote) (spells : SpellsRemotes remotes) where
  held_by_from : {n : ℕ} {c : Context} (at : ℕ) (s bs : List ℕ) (b : Bool) → bytes_eq s remote_class ≡ b → Known Never [] s → AreBytes bs → Fine (n + heavy s) c → From (held_by remotes at s bs b) c (ReadsHeld n)
  held_by_from at s bs true e k a f = after (within_from spells a) (λ r d q. gives_from (record { good = q.0; fine = state_fewer (omega arith) (state_same q.1 f) }))
  held_by_from at s bs false e k a f = gives_from (record {
    good = (symbol_utf8 k, k.bytes, a, λ x. let t = (bytes_eq-Decides s remote_class).1 x in let y : true ≡ false = sym t ∙ e in absurd (cc));
    fine = f;
  })

  held_from : {n at : ℕ} {c : Context} → Fine n c → From (held remotes at) c (ReadsHeld n)
  held_from {at = at} h = after (name_from h) (λ s d i. after string_from (λ bs e j. held_by_from at s bs (bytes_eq s remote_class) refl i.0 j.0 (state_same j.1 i.1)))

  held_reads : {room n : ℕ} {d : Context} (h : Held) (fs : List (List ℕ × Tree)) → HeldGood h → ReadsFields room (n + held_class h + held_nodes h) 0 fs d → Reads (suc room) n (held_value h fs) d
  held_reads (inl r) fs g f = reads_of {k = remote_nodes r} (Tree-F.Remote r) g.within tt (g.uri, g.id) tt (omega arith) (state_fewer (omega arith) f.fine)
  held_reads (inr x) fs g f = reads_of {k = heavy x.0 + heavy x.1 + field_nodes fs} (Tree-F.Dumped x.0 x.1 fs) (omega (arith, f.few)) (g.0, g.3, kept_fields f) (g.1, g.2, field_bytes f) (field_parts f) (omega arith) (state_fewer (omega arith) f.fine)

  dumped_from : {room n at : ℕ} {c : Context} → Fine n c → From (dumped_value remotes at) c (Reads (suc room) n)
  dumped_from h = after (held_from h) (λ o d i. after nodes_from (λ x e q. whole_from (held_reads o [] i.good (no_fields (omega arith) (state_counted q i.fine)))))

  marked_dumped_from : {room n at : ℕ} {part : Grammar Tree} {c : Context} → PartFrom part room → Fine n c → From (marked_dumped remotes part at) c (Reads (suc room) n)
  marked_dumped_from {n = n} p h = after (held_from h) (λ o d i. after pair_count_from (λ k e j. after nodes_from (λ x f q. after (fields_from p k (n + held_class o + held_nodes o) [] f (no_fields j.0 (state_counted q (state_same j.1 i.fine)))) (λ fs g r. whole_from (held_reads o fs i.good r)))))

  marked_by_from : {room n : ℕ} {part : Grammar Tree} (at q b : ℕ) (o : Option Kind) {c : Context} → PartFrom part room → Fine n c → From (marked_by remotes part at q b o) c (Reads (suc room) n)
  marked_by_from at q b (Some kind.Text) p h = marked_text_from h
  marked_by_from at q b (Some kind.Symbol) p h = symbol_value_from (marked_name h)
  marked_by_from at q b (Some kind.Dumped) p h = marked_dumped_from p h
  marked_by_from at q b _ p h = refuses_from

  marked_value_from : {room n : ℕ} {part : Grammar Tree} (at : ℕ) {c : Context} → PartFrom part room → Fine n c → From (marked_value remotes part at) c (Reads (suc room) n)
  marked_value_from at {c = c} p h = here_then (after byte_from (λ b d q. marked_by_from at c.at b (kind_of b) p (state_same q h)))

  body_from : {room n : ℕ} {part : Grammar Tree} (k : Kind) (at : ℕ) {c : Context} → PartFrom part room → Fine n c → From (body remotes part (suc room) k at) c (Reads (suc room) n)
  unfolding body
  body_from kind.Nil at p h = simple_from Tree-F.Nil tt tt tt tt (omega arith) h
  body_from kind.True at p h = simple_from (Tree-F.Bool true) tt tt tt tt (omega arith) h
  body_from kind.False at p h = simple_from (Tree-F.Bool false) tt tt tt tt (omega arith) h
  body_from kind.Int at p h = small_int_from h
  body_from kind.Big at p h = big_int_from h
  body_from kind.Symbol at p h = symbol_value_from (plain_name h)
  body_from kind.SymbolLink at p h = symbol_value_from (linked_name h)
  body_from kind.Marked at p h = marked_value_from at p h
  body_from kind.Text at p h = plain_text_from h
  body_from kind.List at p h = list_from p h
  body_from kind.Hash at p h = hash_from p h
  body_from kind.HashWithDefault at p h = default_from p h
  body_from kind.Class at p h = class_from h
  body_from kind.Module at p h = module_from h
  body_from kind.Object at p h = object_from p h
  body_from kind.Struct at p h = struct_from p h
  body_from kind.Dumped at p h = dumped_from h
  body_from kind.Wrapped at p h = wrapped_from p h
  body_from kind.Link at p h = link_from h

  too_deep_from : {n : ℕ} (k : Kind) (at : ℕ) {c : Context} → Fine n c → From (too_deep k at) c (Reads 0 n)
  too_deep_from kind.Link at h = link_from h
  too_deep_from _ at h = refuses_from

  typed_from : {Q : Tree → Context → Type 0} (rest : Kind → ℕ → Grammar Tree) (at b : ℕ) (o : Option Kind) {c : Context} → ((k : Kind) → From (rest k at) c Q) → From (typed rest at b o) c Q
  typed_from rest at b None h = refuses_from
  typed_from rest at b (Some k) h = h k

  pub value_from : (room : ℕ) → PartFrom (value remotes room) room
  unfolding value
  value_from zero n c h = here_then (after byte_from (λ b d q. typed_from too_deep c.at b (kind_of b) (λ k. too_deep_from k c.at (state_same q h))))
  value_from (suc room) n c h = here_then (after byte_from (λ b d q. typed_from (body remotes (value remotes room) (suc room)) c.at b (kind_of b) (λ k. body_from k c.at (value_from room) (state_same q h))))

must_from : {b : Bool} {w : Why} {at : ℕ} {c d : Context} → Same d c → From (must b w at) c (λ x e. Same d e)
must_from {d = d} h = record { holds = λ bs v e a s. subst (Same d) (sym s.2) h }

version_from : {c : Context} → From version c (λ x d. Same c d)
version_from = after byte_from (λ b d h. must_then (λ m. after byte_from (λ b' e k. must_from (record { symbols = k.symbols ∙ h.symbols; objects = k.objects ∙ h.objects; nodes = k.nodes ∙ h.nodes }))))

opens : Fine 0 opening
opens = record { symbols = All-nil (Known Never []); waiting = All-nil WaitingBytes; objects = All-nil Finished; least = omega arith; most = omega arith }

pub dump_from : (remotes : Grammar Remote) → SpellsRemotes remotes → From (dump_with remotes) opening (Reads max_depth 0)
unfolding dump_with
dump_from remotes spells = after version_from (λ x d h. value_from remotes spells max_depth 0 d (state_same h opens))

id_back : (m : Tree-F Tree) (id : RefId) → id_of m ≡ Some id → id_tree id ≡ roll-Tree m
id_back Tree-F.Nil id e = let k : id ≡ R.Front = cc in ap id_tree k
id_back (Tree-F.Int i) id e = let k : id ≡ R.Number i = cc in ap id_tree k
id_back (Tree-F.Text t) id e = let k : id ≡ R.Text t = cc in ap id_tree k
id_back _ id e = absurd (cc)

with_back : (m : Tree-F Tree) (uri : Text) (o : Option RefId) (r : Remote) → id_of m ≡ o → with_id uri o ≡ Some r → (text_tree r.uri ≡ text_tree uri) × (id_tree r.id ≡ roll-Tree m)
with_back m uri None r e f = absurd (cc)
with_back m uri (Some id) r e f =
    let k : r ≡ record { uri = uri; id = id } = cc in
    (ap (λ (x : Remote). text_tree x.uri) k, ap (λ (x : Remote). id_tree x.id) k ∙ id_back m id e)

from_back : (m k : Tree-F Tree) (r : Remote) → remote_from m k ≡ Some r → (text_tree r.uri ≡ roll-Tree m) × (id_tree r.id ≡ roll-Tree k)
from_back (Tree-F.Text uri) k r e = with_back k uri (id_of k) r refl e
from_back _ k r e = absurd (cc)

-- the list that a remote object was found in
remote_back : (l : Tree-F Tree) (r : Remote) → remote_of l ≡ Some r → remote_list r ≡ roll-Tree l
remote_back (Tree-F.List (a ∷ b ∷ [])) r e =
    let h = from_back (out-Tree a) (out-Tree b) r e in
    ap (λ x. roll-Tree (Tree-F.List (x ∷ id_tree r.id ∷ []))) (h.0 ∙ roll-out-Tree a) ∙ ap (λ x. roll-Tree (Tree-F.List (a ∷ x ∷ []))) (h.1 ∙ roll-out-Tree b)
remote_back _ r e = absurd (cc)

id_ranged : (id : RefId) → every-Tree InRange (id_tree id) → IdInRange id
id_ranged R.Front h = tt
id_ranged (R.Number i) h = every_level InRange (Tree-F.Int i) h
id_ranged (R.Text t) h = every_level InRange (Tree-F.Text t) h

list_good : (r : Remote) (v : Tree) (d : Context) → remote_list r ≡ v → Reads max_depth 0 v d → RemoteGood r
list_good r v d e h =
    let g : Reads max_depth 0 (remote_list r) d = subst (λ x. Reads max_depth 0 x d) (sym e) h in
    let p = every_parts InRange (Tree-F.List (text_tree r.uri ∷ id_tree r.id ∷ [])) g.part.good.ranged in
    let q = All-tail (every-Tree InRange) (text_tree r.uri) (id_tree r.id ∷ []) p in
    record {
      within = (g.part.deep, omega (arith, g.fine.least, g.fine.most));
      uri = every_level InRange (Tree-F.Text r.uri) (All-head (every-Tree InRange) (text_tree r.uri) (id_tree r.id ∷ []) p);
      id = id_ranged r.id (All-head (every-Tree InRange) (id_tree r.id) [] q);
    }

some_from : (v : Tree) (o : Option Remote) (d : Context) → remote_of (out-Tree v) ≡ o → Reads max_depth 0 v d → From (some_remote o) d (λ r e. RemoteGood r)
some_from v None d e h = refuses_from
some_from v (Some r) d e h = gives_from (list_good r v d (remote_back (out-Tree v) r e ∙ roll-out-Tree v) h)

no_remotes : (w : Why) (at : ℕ) → SpellsRemotes (refuses w at)
no_remotes w at bs r d a s = absurd s

reference_from : From reference opening (λ r d. RemoteGood r)
unfolding reference
reference_from = after (dump_from (refuses why.BadReference 0) (no_remotes why.BadReference 0)) (λ v d h. some_from v (remote_of (out-Tree v)) d refl h)

pub dumps_fit : DumpsFit
unfolding dump
dumps_fit b v a s =
    let h = (dump_from reference reference_from.holds).holds b v s.0 a s.1 in
    (((h.part.deep, omega (arith, h.fine.least, h.fine.most)), h.part.good.small), h.part.good.kept, h.part.good.ranged)
