use Rattle.std.proofs.Common.{◌≡◌, ◌∙◌, ℕ, Bool, true, false, Option, Some, None, refl}
use Rattle.std.specs.Prelude.{not, is_some, is_none}
use Rattle.rinda_cases.proofs.Nothings.{nobody-asked}
use Rattle.rinda_cases.proofs.quiet.asks_nobody.Goals as goal

unless-some : (next : Option ℕ) (b : Bool) → is_some next ≡ not b → b ≡ is_none next
unless-some None true e = refl
unless-some None false e = cc
unless-some (Some id) true e = cc
unless-some (Some id) false e = refl

pub returns : goal.returns
returns c = λ s sound h. unless-some c.next_ask.result c.is_none.result c.is_none.ensures ∙ nobody-asked s c.args.tables.now c.next_ask.result sound h c.next_ask.ensures
