use Rattle.std.proofs.Common.{◌≡◌, false}
use Rattle.drb_tree.specs.Same.{all_ascii}
use Rattle.marshal_read.proofs.Names.{is_ok-utf8}
use Rattle.marshal_read.proofs.symbols.is_name.Goals as goal

pub returns-in-Utf8 : goal.returns-in-Utf8
returns-in-Utf8 c =
    let f : all_ascii c.args.bytes.now ≡ false = cc in
    rw (c.in-Utf8.is, f, c.is_ok.ensures.value) (is_ok-utf8 _ _ c.from_utf8.result c.args.bytes.now c.from_utf8.ensures.cases)
