-- What a dump is written as again, from what was read and what was written.
use Rattle.std.proofs.Common.{◌≡◌, ℕ, List, Result, Ok, Err, IfOk, Vec, Global}
use Rattle.drb_tree.specs.declared.Tree.{Tree}
use Rattle.marshal_grammar.specs.Spelled.{spelled}
use Rattle.marshal_read.specs.Dumps.{DumpOf}
use Rattle.marshal_show.specs.declared.rewrite.RewriteError.{RewriteError}
use Rattle.marshal_show.specs.Rewrites.{Rewrites}

-- the written spelling of the value that was read is what the dump is written as again
pub rewrites_of : (bs : List ℕ) (v : Tree) (n : ℕ) (r : Result (Vec ℕ Global) RewriteError) → DumpOf bs v n → IfOk r (λ out. out.items ≡ spelled v) → IfOk r (λ out. Rewrites bs out.items)
rewrites_of bs v n (Ok out) d w = (v, n, d, w)
rewrites_of bs v n (Err e) d w = w
