use Rattle.std.proofs.Common.{◌∙◌, List, map, refl, sym, ap, subst}
use Rattle.rinda_rules.specs.declared.row.TupleRow.{TupleRow}
use Rattle.rinda_rules.specs.declared.start.StartNote.{StartNote}
use Rattle.rinda_rules.specs.declared.start.StartLease.{StartLease}
use Rattle.drb_ids.specs.Ids.{Ids, StartsWith}
use Rattle.rinda_tables.specs.Starting.{live_in, tuple_by, note_by}
use Rattle.rinda_tables.proofs.Started.{holds-started}
use Rattle.rinda_tables.proofs.tables.Tables.start.Goals as goal

pub returns-clause-holds : goal.returns-clause-holds
returns-clause-holds c = λ s f sound.
    let start = c.args.start.now in (
      holds-started start s _ f sound refl refl
          (subst (λ (i : Ids). StartsWith start.next (live_in start) start.ended i) (sym (ap (λ x. x.ahead) c.in_ok-ids.ensures.stands)) c.in_ok-ids.ensures.starts)
          (ap (λ x. x.ahead) c.in_ok-tuples.ensures
          ∙ ap (λ (ls : List StartLease). map (tuple_by ls) c.as_slice-2.result.now) c.as_slice-leases.ensures
          ∙ ap (λ (rows : List TupleRow). map (tuple_by start.leases) rows) c.as_slice-2.ensures)
          (ap (λ x. x.ahead) c.new.ensures)
          (ap (λ x. x.ahead) c.in_ok-notes.ensures
          ∙ ap (λ (ls : List StartLease). map (note_by ls) c.as_slice.result.now) c.as_slice-leases.ensures
          ∙ ap (λ (notes : List StartNote). map (note_by start.leases) notes) c.as_slice.ensures)
          c.in_ok-deadlines.ensures.ahead,
      holds-started start s _ f sound refl refl
          c.in_ok-ids.ensures.starts
          (ap (λ x. x.list) c.in_ok-tuples.ensures
          ∙ ap (λ (ls : List StartLease). map (tuple_by ls) c.as_slice-2.result.now) c.as_slice-leases.ensures
          ∙ ap (λ (rows : List TupleRow). map (tuple_by start.leases) rows) c.as_slice-2.ensures)
          (ap (λ x. x.list) c.new.ensures)
          (ap (λ x. x.list) c.in_ok-notes.ensures
          ∙ ap (λ (ls : List StartLease). map (note_by ls) c.as_slice.result.now) c.as_slice-leases.ensures
          ∙ ap (λ (notes : List StartNote). map (note_by start.leases) notes) c.as_slice.ensures)
          c.in_ok-deadlines.ensures.list,
    )
