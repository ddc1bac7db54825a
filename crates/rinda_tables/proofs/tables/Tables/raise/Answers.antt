use Rattle.std.proofs.Common.{◌∙◌, refl, sym, ap}
use Rattle.std.specs.Prelude.{map}
use Rattle.std.proofs.lemmas.Result.{on_ok_weaker}
use Rattle.rinda_notify.specs.Notes.{told}
use Rattle.rinda_tables.specs.Tabled.{ahead_of}
use Rattle.rinda_tables.proofs.Holding.{holds-raised}
use Rattle.rinda_tables.proofs.HoldingSame.{holds-same}
use Rattle.rinda_tables.proofs.tables.Tables.raise.Goals as goal

pub returns-clause-becomes : goal.returns-clause-becomes
returns-clause-becomes c = on_ok_weaker c.raise.result
    (λ ahead e is s h.
    let t = ahead_of c.args.self.now in
    holds-same _ _ _ (holds-raised s t c.args.what e h) refl refl refl refl refl (ahead ∙ ap (λ v. map (told c.args.what v) t.notes) (sym is)) (λ q. refl))
    c.raise.ensures.ahead
