-- The laws of dumps.
use Rattle.std.proofs.Common.{◌≡◌, ℕ, ◌⊎◌, inl, inr, List, ◌++◌, Ok, Err, refl, ap, sym, ◌∙◌}
use Rattle.std.proofs.lemmas.List.{append_cancel_right}
use Rattle.drb_tree.specs.declared.Tree.{Tree}
use Rattle.marshal_grammar.specs.declared.refusal.Refusal.{Refusal}
use Rattle.marshal_grammar.specs.Contexts.{Context, opening}
use Rattle.marshal_grammar.specs.Reading.{Read, read}
use Rattle.marshal_grammar.specs.Dumps.{dump, dump_of}
use Rattle.marshal_grammar.specs.Laws.{HasDump, HasRefusal, SomeAnswer, NeverBoth, OneDump, OneRefusal, AnyRest, ReadsDumps, ReadsRefusals}
use Rattle.marshal_grammar.proofs.Results.{ok_is, err_is}
use Rattle.marshal_grammar.proofs.Complete.{complete}
use Rattle.marshal_grammar.proofs.Sound.{sound}
use Rattle.marshal_grammar.proofs.Refused.{met, found}

answer : (bs : List ℕ) (a : Read Tree) → dump_of bs ≡ a → HasDump bs ⊎ HasRefusal bs
answer bs (Ok r) e = let f = sound dump opening bs r e in inl (f.0, r.2, r.0, (r.1, f.1), f.2)
answer bs (Err r) e = inr (r.why, r.at, met dump opening bs r e)

pub some_answer : SomeAnswer
some_answer bs = answer bs (dump_of bs) refl

pub never_both : NeverBoth
never_both bs f g =
    let k = complete dump opening f.3.0 f.0 f.1 f.2 f.3.1 in
    let j = found dump opening bs (record { why = g.0; at = g.1 }) g.2 in
    let h = ap (read dump opening) f.4 in
    absurd (cc)

pub one_dump : OneDump
one_dump a b x y v w s t h =
    let f = complete dump opening s.0 a x v s.1 in
    let g = complete dump opening t.0 b y w t.1 in
    let k = ap (read dump opening) h in
    let q = ok_is (v, s.0, x) (w, t.0, y) (sym f ∙ k ∙ g) in
    let z : x ≡ y = ap (λ (r : Tree × Context × List ℕ). r.2) q in
    (append_cancel_right a b x (h ∙ ap (λ ys. b ++ ys) (sym z)), ap (λ (r : Tree × Context × List ℕ). r.0) q)

pub one_refusal : OneRefusal
one_refusal bs v w at there e f =
    let g = found dump opening bs (record { why = v; at = at }) e in
    let h = found dump opening bs (record { why = w; at = there }) f in
    let q = err_is _ _ (sym g ∙ h) in
    (ap (λ (r : Refusal). r.why) q, ap (λ (r : Refusal). r.at) q)

pub any_rest : AnyRest
any_rest b rest v s = (s.0, complete dump opening s.0 b rest v s.1)

pub reads_dumps : ReadsDumps
reads_dumps bs rest v d = (λ e. sound dump opening bs (v, d, rest) e, λ f. ap (read dump opening) f.2 ∙ complete dump opening d f.0 rest v f.1)

pub reads_refusals : ReadsRefusals
reads_refusals bs r = (λ e. met dump opening bs r e, λ m. found dump opening bs r m)
