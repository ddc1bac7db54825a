use Rattle.std.proofs.Common.{◌≡◌, ◌∙◌, ap, sym, ℕ, List, [], ◌∷◌, None, refl, arith}
use Rattle.std.specs.Option.{option_copied_mut}
use Rattle.std.specs.Map.{lookup, set_value}
use Rattle.std.specs.BTreeMap.{is_at}
use Rattle.std.specs.Ordering.{nat_cmp}
use Rattle.std.proofs.lemmas.Bool.Decides.{nat_tests}
use Rattle.drb_ids.specs.declared.object.Standing.{Standing}
use Rattle.drb_ids.proofs.table.set.Goals as goal

set_value-absent : (id : ℕ) (es : List (ℕ × Standing)) (w : Standing) → lookup (is_at (nat_cmp id)) es ≡ None → set_value (is_at (nat_cmp id)) es w ≡ es
set_value-absent id [] w e = refl
set_value-absent id (x ∷ es) w e = grind (arith, nat_tests, set_value-absent id es w)

pub returns-in_default : goal.returns-in_default
returns-in_default c = ap (λ m. m.entries) c.get_mut.follows.holds-at-none ∙ sym (set_value-absent c.args.id c.args.objects.now.entries c.args.standing (sym c.get_mut.ensures.value ∙ ap option_copied_mut c.in_default.is))
