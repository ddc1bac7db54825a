-- What is written of a value is a dump of it.
use Rattle.std.proofs.Common.{◌≡◌, [], Some, None, Ok, refl, ap, sym, ◌∙◌, arith, append-nil, subst}
use Rattle.drb_tree.specs.declared.Tree.{Tree}
use Rattle.drb_tree.specs.declared.Tree.TheViews.{roll-Tree}
use Rattle.drb_tree.specs.declared.Tree.TheOpen.{Tree-F}
use Rattle.drb_tree.specs.declared.Tree.TheFolds.{map-Tree, ind-Tree}
use Rattle.drb_tree.specs.Kept.{WellKept, Ranged, Fits}
use Rattle.marshal_grammar.specs.Contexts.{opening, past}
use Rattle.marshal_grammar.specs.Grammar.{Spells}
use Rattle.marshal_grammar.specs.Reading.{read}
use Rattle.marshal_grammar.specs.Dumps.{dump, dump_with, reference, Dump}
use Rattle.marshal_grammar.specs.Spelled.{spelled}
use Rattle.marshal_grammar.specs.Laws.{ReadsSpelled}
use Rattle.marshal_grammar.proofs.Sound.{sound}
use Rattle.marshal_grammar.proofs.Answering.{one_dump}
use Rattle.marshal_grammar.proofs.WrittenParts.{Written, Such}
use Rattle.marshal_grammar.proofs.WrittenForms.{list_written}
use Rattle.marshal_grammar.proofs.WrittenHashes.{hash_written, default_written}
use Rattle.marshal_grammar.proofs.WrittenObjects.{object_written, struct_written, wrapped_written}
use Rattle.marshal_grammar.proofs.WrittenDumped.{dumped_written}
use Rattle.marshal_grammar.proofs.WrittenBare.{nil_written, bool_written, int_written, sym_written, text_written, class_written, module_written}
use Rattle.marshal_grammar.proofs.WrittenRemotes.{remote_written}

go : (y : Tree-F (Such reference)) → Written reference (roll-Tree (map-Tree (Such reference) Tree (λ e. e.0) y))
go Tree-F.Nil = nil_written reference
go (Tree-F.Bool b) = bool_written reference b
go (Tree-F.Int i) = int_written reference i
go (Tree-F.Sym s) = sym_written reference s
go (Tree-F.Text t) = text_written reference t
go (Tree-F.List ys) = list_written reference ys
go (Tree-F.Hash qs None) = hash_written reference qs
go (Tree-F.Hash qs (Some y)) = default_written reference qs y
go (Tree-F.Class n) = class_written reference n
go (Tree-F.Module n) = module_written reference n
go (Tree-F.Object c fs) = object_written reference c fs
go (Tree-F.Struct c fs) = struct_written reference c fs
go (Tree-F.Dumped c bs fs) = dumped_written reference c bs fs
go (Tree-F.Wrapped c y) = wrapped_written reference c y
go (Tree-F.Remote r) = remote_written r

-- what is written of a value is read again
pub written : (t : Tree) → Written reference t
written = ind-Tree (Written reference) (λ x y is. subst (λ z. Written reference (roll-Tree z)) is (go y))

-- the written spelling of a value is a dump of it
pub spelled_dumps : (v : Tree) → WellKept v → Ranged v → Fits v → Dump (spelled v) v
unfolding dump dump_with
spelled_dumps v k r f =
    let c = past 1 (past 1 opening) in
    let g = written v (k, r, f.1) 128 c f.0.0 (omega arith) (omega (arith, f.0.1)) in
    let e : read dump opening (spelled v) ≡ Ok (v, g.0, []) = ap (read dump opening) (sym (append-nil (spelled v))) ∙ rw (g.1 []) refl in
    let s = sound dump opening (spelled v) (v, g.0, []) e in
    let q : s.0 ≡ spelled v = sym (append-nil s.0) ∙ sym s.2 in
    (g.0, subst (λ bs. Spells dump opening bs v g.0) q s.1)

pub reads_spelled : ReadsSpelled
reads_spelled v k r f =
    let d = spelled_dumps v k r f in
    (d, λ b rest tail w s e. let q = one_dump b (spelled v) tail rest w v s d (sym e) in q)
