use Rattle.std.proofs.Common.{◌≡◌, Ok, Err, slice_index, ap, ◌∙◌, subst, inl, inr}
use Rattle.drb_tree.specs.Trees.{list_tree}
use Rattle.marshal_grammar.specs.declared.refusal.Why.TheVariants.{BadType}
use Rattle.marshal_read.specs.declared.error.ReadError.TheVariants.{Refused, Memory}
use Rattle.drb_ref.specs.Blocks.{IsList}
use Rattle.drb_ref.proofs.Held.{given, refused, same_refusal, same_value}
use Rattle.drb_ref.proofs.blocks.read_array.Goals as goal

pub returns-in-Ok-clause-every_list : goal.returns-in-Ok-clause-every_list
returns-in-Ok-clause-every_list c items d =
    elim (c.read_dump.ensures.every_dump d.0 (list_tree items) d.1) [
      | inl q ↦
          let same : c.in-Ok.value ≡ list_tree items = same_value c.read_dump.result c.in-Ok.value (list_tree items) c.in-Ok.field-0-1 d.0 c.in-Ok.is q in
          let other = Refused (record { why = BadType (slice_index c.args.bytes.now 2); at = 2 }) in
          inl (given c.only_array.result c.in-Ok.value other c.only_array.ensures (items, same) ∙ ap Ok same)
      | inr q ↦ absurd (cc)
    ]

pub returns-in-Ok-clause-every_refusal : goal.returns-in-Ok-clause-every_refusal
returns-in-Ok-clause-every_refusal c why at d =
    elim d [
      | inl f ↦ elim (c.read_dump.ensures.every_refusal why at f) [ inl q ↦ absurd (cc) | inr q ↦ absurd (cc) ]
      | inr o ↦
          elim (c.read_dump.ensures.every_dump o.0.1 o.0.0 o.0.2) [
            | inl q ↦
                let same : c.in-Ok.value ≡ o.0.0 = same_value c.read_dump.result c.in-Ok.value o.0.0 c.in-Ok.field-0-1 o.0.1 c.in-Ok.is q in
                let other = Refused (record { why = BadType (slice_index c.args.bytes.now 2); at = 2 }) in
                inl (refused c.only_array.result c.in-Ok.value other c.only_array.ensures (λ l. o.0.3 (subst IsList same l))
                ∙ ap Err (same_refusal (BadType (slice_index c.args.bytes.now 2)) why 2 at o.1 o.2))
            | inr q ↦ absurd (cc)
          ]
    ]

pub returns-in-Err-clause-every_list : goal.returns-in-Err-clause-every_list
returns-in-Err-clause-every_list c items d =
    elim (c.read_dump.ensures.every_dump d.0 (list_tree items) d.1) [
      | inl q ↦ absurd (cc)
      | inr q ↦ let same : c.in-Err.error ≡ Memory = cc in inr (ap Err same)
    ]

pub returns-in-Err-clause-every_refusal : goal.returns-in-Err-clause-every_refusal
returns-in-Err-clause-every_refusal c why at d =
    elim d [
      | inl f ↦
          elim (c.read_dump.ensures.every_refusal why at f) [
            | inl q ↦ let same : c.in-Err.error ≡ Refused (record { why = why; at = at }) = cc in inl (ap Err same)
            | inr q ↦ let same : c.in-Err.error ≡ Memory = cc in inr (ap Err same)
          ]
      | inr o ↦
          elim (c.read_dump.ensures.every_dump o.0.1 o.0.0 o.0.2) [
            | inl q ↦ absurd (cc)
            | inr q ↦ let same : c.in-Err.error ≡ Memory = cc in inr (ap Err same)
          ]
    ]
