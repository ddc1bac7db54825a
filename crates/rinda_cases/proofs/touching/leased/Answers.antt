use Rattle.std.proofs.Common.{◌≡◌, ◌∙◌, sym, ap}
use Rattle.drb_ids.specs.declared.object.Looked.TheVariants as looked
use Rattle.rinda_rules.specs.declared.plain.Entry.{Entry}
use Rattle.rinda_rules.specs.declared.plain.Request.{Request}
use Rattle.rinda_rules.proofs.Lists.{row_has_id}
use Rattle.rinda_effects.specs.Touches.{ATuple, ARequest, lease_touches}
use Rattle.rinda_tables.specs.Tabled.{ahead_of}
use Rattle.rinda_cases.proofs.Naming.{of-tuple, of-request}
use Rattle.rinda_cases.proofs.touching.leased.Goals as goal

pub returns-in-Live-Entry : goal.returns-in-Live-Entry
returns-in-Live-Entry c = λ s h. of-tuple (λ f. ATuple c.args.id ≡ lease_touches f) s (ahead_of c.args.tables.now) c.args.id h (sym (ap looked.Live c.in-Live-Entry.field-0-is) ∙ c.in-Live-Entry.ensures) (λ e there. ap ATuple (sym (row_has_id (λ (x : Entry). x.id) c.args.id s.tuples e there)))

pub returns-in-Live-Request : goal.returns-in-Live-Request
returns-in-Live-Request c = λ s h. of-request (λ f. ARequest c.args.id ≡ lease_touches f) s (ahead_of c.args.tables.now) c.args.id h (sym (ap looked.Live c.in-Live-Request.field-0-is) ∙ c.in-Live-Request.ensures) (λ r there. ap ARequest (sym (row_has_id (λ (x : Request). x.id) c.args.id s.requests r there)))
