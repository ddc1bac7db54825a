use Rattle.std.proofs.Common.{rules, ◌∷◌, [], Some}
use Rattle.std.proofs.lemmas.Bool.Decides.{Decides-eqb}
use Rattle.std.proofs.lemmas.Slice.Eq.{strip_suffix_is}
use Rattle.drb_ref.proofs.Cuts.{bracketed_is}
use Rattle.drb_ref.proofs.uris.is_bracketed.Goals as goal

pub returns-in-Some-strip_suffix : goal.returns-in-Some-strip_suffix
returns-in-Some-strip_suffix c =
    let closed = strip_suffix_is Decides-eqb c.in-Some.after.now (93 ∷ []) (Some c.in-Some-strip_suffix.number) c.in-Some-strip_suffix.ensures.cases in
    bracketed_is c.args.host.now c.in-Some.after.now c.in-Some-strip_suffix.number.now c.is_number.result (search rules) closed c.is_number.ensures
