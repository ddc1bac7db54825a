use Rattle.std.proofs.Common.{◌≡◌, ℕ, List, ◌++◌, length, drop, refl, sym, ◌∙◌, ap, append_assoc}
use Rattle.drb_tree.specs.declared.Tree.{Tree}
use Rattle.marshal_grammar.specs.Spelled.{spelled}
use Rattle.marshal_grammar.proofs.LongLists.{drop_seam}
use Rattle.marshal_grammar.proofs.RoundTrip.{reads_spelled}
use Rattle.marshal_write.specs.Laws.{ReadAgain}
use Rattle.marshal_write.proofs.laws.written_is_read_again.Goals as goal

-- what stands behind the bytes that were there
behind : (old new rest s : List ℕ) → new ≡ old ++ s → drop (length old) (new ++ rest) ≡ s ++ rest
behind old new rest s e = ap (λ (xs : List ℕ). drop (length old) (xs ++ rest)) e ∙ ap (drop (length old)) (append_assoc old s rest) ∙ drop_seam old (s ++ rest) (length old) refl

read_again : ReadAgain
read_again v old new rest f k e =
    let r = reads_spelled v k.0 k.1 f in
    let b = behind old new rest (spelled v) e in
    record {
      front = (rest, b);
      dump = r.0;
      only = λ c tail w d q. r.1 c rest tail w d (sym b ∙ q);
    }

pub returns : goal.returns
returns c = read_again
