use Rattle.std.proofs.Common.{refl, ap}
use Rattle.rinda_tables.specs.Tabled.{ahead_of}
use Rattle.rinda_tables.proofs.HoldingSame.{holds-same}
use Rattle.rinda_tables.proofs.tables.Tables.commit.Goals as goal

pub returns-clause-settles : goal.returns-clause-settles
returns-clause-settles c = record {
  ahead = λ s h. holds-same s (ahead_of c.args.self.now) _ h refl refl (ap (λ x. x.ahead) c.commit.ensures) (ap (λ x. x.ahead) c.commit-2.ensures) (ap (λ x. x.ahead) c.commit-3.ensures) (ap (λ x. x.ahead) c.commit-4.ensures) c.commit-5.ensures.ahead;
  list = λ s h. holds-same s (ahead_of c.args.self.now) _ h refl refl (ap (λ x. x.list) c.commit.ensures) (ap (λ x. x.list) c.commit-2.ensures) (ap (λ x. x.list) c.commit-3.ensures) (ap (λ x. x.list) c.commit-4.ensures) c.commit-5.ensures.list;
}
