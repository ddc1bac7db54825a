use Rattle.std.proofs.Common.{◌≡◌, ℕ, ◌∙◌, List, [], ◌∷◌, ◌++◌, drop, length, Bool, true, false, rules, arith, Option, None, Some, Ok, Err, IfErr, sym, ap, subst}
use Rattle.std.specs.Prelude.{OnOk}
use Rattle.std.proofs.lemmas.Result.{err_from_is_err_and, IfOk-weaker}
use Rattle.drb_tree.specs.declared.Remote.{Remote}
use Rattle.drb_tree.specs.declared.Tree.{Tree}
use Rattle.drb_tree.specs.declared.Tree.TheViews.{out-Tree}
use Rattle.marshal_grammar.specs.Contexts.{opening}
use Rattle.marshal_grammar.specs.Dumps.{dump_with}
use Rattle.marshal_grammar.specs.Reading.{Read, read}
use Rattle.marshal_grammar.specs.Trees.{remote_of}
use Rattle.marshal_grammar.specs.Values.{values, pairs, fields}
use Rattle.marshal_read.specs.declared.steps.Step.{Step}
use Rattle.marshal_read.specs.State.{State}
use Rattle.marshal_read.specs.Making.{added, value_of, key_in, name_in}
use Rattle.marshal_read.specs.declared.error.Stop.{Stop}
use Rattle.marshal_read.specs.Fails.{Fails, read_at, error_of}
use Rattle.marshal_read.specs.Scopes.{reference_in, part_in, given}
use Rattle.marshal_grammar.specs.Trees.{list, hash, object, structure, wrapped}
use Rattle.marshal_grammar.specs.Values as V
use Rattle.marshal_read.specs.declared.steps.Step.TheVariants as S
use Rattle.marshal_read.specs.Making.{since, values_in, pairs_in, fields_in}
use Rattle.marshal_read.specs.Scopes.{held_is, held_steps, fields_form}
use Rattle.marshal_read.proofs.Adding.{list_ends, hash_ends, object_ends, struct_ends, wrapped_ends, default_ends, extends_then}
use Rattle.marshal_read.proofs.Holding.{held_ends}
use Rattle.marshal_read.proofs.Closed.{close_makes, close_adds, close_adds_by, close_read, list_read, hash_read, default_hash_read, fields_read, wrapped_read, marked_read, close_held, steps_of}
use Rattle.marshal_read.proofs.Opened.{opened, closed, untyped, missing, given_ok, given_err}
use Rattle.marshal_read.proofs.Loops.{values_begin, values_more, pairs_begin, pairs_more, pairs_double, pairs_failed_value, fields_more, fields_double, fields_failed_value}
use Rattle.marshal_read.proofs.Leading.{byte_keeps, count_keeps, pair_count_keeps, count_nodes_keeps}
use Rattle.marshal_read.proofs.Named.{part_tame, pairs_tame, held_tame, version_tame, class_utf8, opened_named, begun_named, read_leads, name_named}
use Rattle.marshal_read.proofs.reader.Reader.+read.Goals as goal

pub values-loop-init : goal.values-loop-init
values-loop-init t c = values_begin (part_in c.args.nested c.args.room) c.args.n c.args.self.now c.requires.named

pub values-loop-preserved : goal.values-loop-preserved
values-loop-preserved t c =
    values_more (read_at (values (part_in c.args.nested c.args.room) c.args.n) c.args.self.now) (part_in c.args.nested c.args.room) c.args.n c.loop.counter c.args.self.now.steps c.loop.self c.value.new.self (part_tame c.args.nested c.args.room) c.loop-test.true c.loop.invariant c.in_ok-value.ensures.ok c.in_ok-value.ensures.adds

pub value-body-requires : goal.value-body-requires
value-body-requires t c = (search rules, (omega arith, read_leads byte_keeps c.args.self.now c.byte.new.self _ c.in_ok-first.ensures.ok c.requires.named))

pub pairs-value-requires-in-loop : goal.pairs-value-requires-in-loop
pairs-value-requires-in-loop t c =
    (search rules, (omega arith, read_leads (part_tame c.args.nested c.args.room) c.loop.self c.value.new.self _ c.in_ok-value.ensures.ok c.loop.invariant.named))

pub fields-value-requires : goal.fields-value-requires
fields-value-requires t c = (search rules, (omega arith, (read_leads name_named c.loop.self c.name.new.self _ c.in_ok-name.ensures.ok c.loop.invariant.named).0))

pub list_value-values-requires : goal.list_value-values-requires
list_value-values-requires t c =
    (search rules, (omega arith, begun_named count_keeps c.args.at c.in_ok-n.n c.args.self.now c.count.new.self c.count_nodes.new.self c.begin_object.new.self c.in_ok-n.ensures.gives.ok c.in_ok-count_nodes.ensures.ok c.in_ok-begun.ensures.state c.requires.named))

pub hash_value-pairs-requires : goal.hash_value-pairs-requires
hash_value-pairs-requires t c =
    (search rules, (omega arith, begun_named pair_count_keeps c.args.at c.in_ok-n.n c.args.self.now c.pair_count.new.self c.count_nodes.new.self c.begin_object.new.self c.in_ok-n.ensures.ok c.in_ok-count_nodes.ensures.ok c.in_ok-begun.ensures.state c.requires.named))

pub default_hash_value-pairs-requires : goal.default_hash_value-pairs-requires
default_hash_value-pairs-requires t c =
    (search rules, (omega arith, begun_named pair_count_keeps c.args.at c.in_ok-n.n c.args.self.now c.pair_count.new.self c.count_nodes.new.self c.begin_object.new.self c.in_ok-n.ensures.ok c.in_ok-count_nodes.ensures.ok c.in_ok-begun.ensures.state c.requires.named))

pub default_hash_value-value-requires : goal.default_hash_value-value-requires
default_hash_value-value-requires t c =
    let n = begun_named pair_count_keeps c.args.at c.in_ok-n.n c.args.self.now c.pair_count.new.self c.count_nodes.new.self c.begin_object.new.self c.in_ok-n.ensures.ok c.in_ok-count_nodes.ensures.ok c.in_ok-begun.ensures.state c.requires.named in
    (search rules, (omega arith, read_leads (pairs_tame (part_in c.args.nested c.args.room) [] c.in_ok-n.n (part_tame c.args.nested c.args.room)) c.begin_object.new.self c.pairs.new.self _ c.in_ok-pairs.ensures.ok n))

pub fields_value-fields-requires : goal.fields_value-fields-requires
fields_value-fields-requires t c =
    let n = (read_leads name_named c.args.self.now c.name.new.self _ c.in_ok-name.ensures.ok c.requires.named).0 in
    (search rules, (omega arith, begun_named pair_count_keeps c.args.at c.in_ok-n.n c.name.new.self c.pair_count.new.self c.count_nodes.new.self c.begin_object.new.self c.in_ok-n.ensures.ok c.in_ok-count_nodes.ensures.ok c.in_ok-begun.ensures.state n))

pub wrapped_value-value-requires : goal.wrapped_value-value-requires
wrapped_value-value-requires t c =
    let n = (read_leads name_named c.args.self.now c.name.new.self _ c.in_ok-name.ensures.ok c.requires.named).0 in
    (search rules, (omega arith, opened_named c.args.at c.name.new.self c.count_nodes.new.self c.begin_object.new.self c.in_ok-count_nodes.ensures.ok c.in_ok-begun.ensures.state n))

pub marked_value-marked_symbol_value-requires : goal.marked_value-marked_symbol_value-requires
marked_value-marked_symbol_value-requires t c = read_leads byte_keeps c.args.self.now c.byte.new.self _ c.in_ok-mark.ensures.ok c.requires.named

pub marked_value-marked_dumped-requires : goal.marked_value-marked_dumped-requires
marked_value-marked_dumped-requires t c = (search rules, (omega arith, read_leads byte_keeps c.args.self.now c.byte.new.self _ c.in_ok-mark.ensures.ok c.requires.named))

pub marked_dumped-fields-requires : goal.marked_dumped-fields-requires
marked_dumped-fields-requires t c =
    let n = read_leads (held_tame (reference_in c.args.nested) c.args.at) c.args.self.now c.held.new.self _ c.in_ok-held.ensures.gives.ok c.requires.named in
    let m = read_leads pair_count_keeps c.held.new.self c.pair_count.new.self _ c.in_ok-variables.ensures.ok n in
    (search rules, (omega arith, read_leads (count_nodes_keeps _ _) c.pair_count.new.self c.count_nodes.new.self _ c.in_ok-count_nodes.ensures.ok m))

pub held-returns-then-ne-clause-foreign : goal.held-returns-then-ne-clause-foreign
held-returns-then-ne-clause-foreign t c = (search rules, class_utf8 c.args.self.now c.name.new.self c.in_ok-class.class.now c.of.result c.in_ok-class.ensures.ok c.of.ensures c.requires)

pub dump_with-value-requires : goal.dump_with-value-requires
dump_with-value-requires t c = (search rules, (omega arith, read_leads version_tame c.args.self.now c.version.new.self tt c.in_ok-version.ensures.ok c.requires))

pub value-returns-in_err-first : goal.value-returns-in_err-first
value-returns-in_err-first t c =
    let p = err_from_is_err_and c.from_residual.result c.from_residual.ensures.1 in
    rw (p.1, p.2) (record {
      ok = tt;
      adds = tt;
      err = missing (error_of c.in_err-first.field-0.0 c.byte.new.self.refused) c.args.nested c.args.room c.args.self.now c.in_err-first.ensures.err;
    })

pub value-returns-in_default : goal.value-returns-in_default
value-returns-in_default t c =
    rw (c.refuse.ensures.stop, c.refuse.ensures.refused) (record {
      ok = tt;
      adds = tt;
      err = untyped c.args.nested c.args.room c.in_ok-first.first c.at-at.result c.args.self.now c.byte.new.self c.at-at.ensures c.in_ok-first.ensures.ok (sym c.in_default.is ∙ c.kind_of.ensures);
    })

pub value-returns-then-room-eq0 : goal.value-returns-then-room-eq0
value-returns-then-room-eq0 t c =
    record {
      ok =
          let e = closed c.args.nested c.args.room c.in_ok-first.first c.in-Some.kind c.at-at.result c.args.self.now c.byte.new.self c.if-room-eq0.true c.at-at.ensures c.in_ok-first.ensures.ok (sym c.in-Some.is ∙ c.kind_of.ensures) in
          let P : Read Tree → Type 0 = λ q. OnOk c.too_deep.result (q ≡ Ok (added c.byte.new.self.steps c.too_deep.new.self.steps, c.too_deep.new.self.seen, c.too_deep.new.self.rest)) in
          let Q : List Step → Type 0 = λ ss. OnOk c.too_deep.result (read_at (part_in c.args.nested c.args.room) c.args.self.now ≡ Ok (added ss c.too_deep.new.self.steps, c.too_deep.new.self.seen, c.too_deep.new.self.rest)) in
          subst Q c.in_ok-first.ensures.kept (subst P (sym e) c.too_deep.ensures.ok);
      adds = search rules;
      err =
          let e = closed c.args.nested c.args.room c.in_ok-first.first c.in-Some.kind c.at-at.result c.args.self.now c.byte.new.self c.if-room-eq0.true c.at-at.ensures c.in_ok-first.ensures.ok (sym c.in-Some.is ∙ c.kind_of.ensures) in
          let P : Read Tree → Type 0 = λ q. IfErr c.too_deep.result (λ x. Fails (error_of x c.too_deep.new.self.refused) q) in
          subst P (sym e) c.too_deep.ensures.err;
    }

pub value-returns : goal.value-returns
value-returns t c =
    record {
      ok =
          let e = opened c.args.nested c.args.room c.in_ok-first.first c.in-Some.kind c.at-at.result c.args.self.now c.byte.new.self c.if-room-eq0.false c.at-at.ensures c.in_ok-first.ensures.ok (sym c.in-Some.is ∙ c.kind_of.ensures) in
          let P : Read Tree → Type 0 = λ q. OnOk c.body.result (q ≡ Ok (added c.byte.new.self.steps c.body.new.self.steps, c.body.new.self.seen, c.body.new.self.rest)) in
          let Q : List Step → Type 0 = λ ss. OnOk c.body.result (read_at (part_in c.args.nested c.args.room) c.args.self.now ≡ Ok (added ss c.body.new.self.steps, c.body.new.self.seen, c.body.new.self.rest)) in
          subst Q c.in_ok-first.ensures.kept (subst P (sym e) c.body.ensures.ok);
      adds = search rules;
      err =
          let e = opened c.args.nested c.args.room c.in_ok-first.first c.in-Some.kind c.at-at.result c.args.self.now c.byte.new.self c.if-room-eq0.false c.at-at.ensures c.in_ok-first.ensures.ok (sym c.in-Some.is ∙ c.kind_of.ensures) in
          let P : Read Tree → Type 0 = λ q. IfErr c.body.result (λ x. Fails (error_of x c.body.new.self.refused) q) in
          subst P (sym e) c.body.ensures.err;
    }

pub list_value-end-requires-clause-makes : goal.list_value-end-requires-clause-makes
list_value-end-requires-clause-makes t c =
    close_makes c.begin_object.new.self.steps c.values.new.self.steps c.in_ok-begun.begun.start (S.List c.in_ok-n.n) (list (values_in c.begin_object.new.self.steps c.values.new.self.steps)) (c.in_ok-begun.ensures.start ∙ ap length (steps_of c.count_nodes.new.self c.begin_object.new.self c.in_ok-begun.ensures.state))
    (list_ends (since c.begin_object.new.self.steps c.values.new.self.steps) c.in_ok-n.n c.in_ok-values.ensures.adds.holds)

pub list_value-returns : goal.list_value-returns
list_value-returns t c =
    record {
      ok =
          list_read (part_in c.args.nested c.args.room) c.args.at c.in_ok-n.n c.in_ok-begun.begun.number (values_in c.begin_object.new.self.steps c.values.new.self.steps) (Ok (added c.args.self.now.steps c.end.new.self.steps, c.end.new.self.seen, c.end.new.self.rest))
          c.args.self.now c.count.new.self c.count_nodes.new.self c.begin_object.new.self c.values.new.self
          c.in_ok-n.ensures.gives.ok c.in_ok-count_nodes.ensures.ok c.in_ok-begun.ensures.state c.in_ok-begun.ensures.number c.in_ok-values.ensures.ok
          (close_read c.in_ok-begun.begun.number c.in_ok-begun.begun.start c.args.self.now c.begin_object.new.self c.values.new.self c.end.new.self (S.List c.in_ok-n.n) (list (values_in c.begin_object.new.self.steps c.values.new.self.steps))
          (sym (c.in_ok-count_nodes.ensures.kept ∙ c.in_ok-n.ensures.gives.kept) ∙ steps_of c.count_nodes.new.self c.begin_object.new.self c.in_ok-begun.ensures.state) (c.in_ok-begun.ensures.start ∙ ap length (steps_of c.count_nodes.new.self c.begin_object.new.self c.in_ok-begun.ensures.state)) c.in_ok-values.ensures.adds.extends c.in_ok-end.ensures.steps
          (list_ends (since c.begin_object.new.self.steps c.values.new.self.steps) c.in_ok-n.n c.in_ok-values.ensures.adds.holds) c.in_ok-end.ensures.ok);
      adds =
          close_adds c.args.self.now.steps c.begin_object.new.self.steps c.values.new.self.steps c.end.new.self.steps (S.List c.in_ok-n.n) (list (values_in c.begin_object.new.self.steps c.values.new.self.steps))
          (sym (c.in_ok-count_nodes.ensures.kept ∙ c.in_ok-n.ensures.gives.kept) ∙ steps_of c.count_nodes.new.self c.begin_object.new.self c.in_ok-begun.ensures.state) c.in_ok-values.ensures.adds.extends c.in_ok-end.ensures.steps
          (list_ends (since c.begin_object.new.self.steps c.values.new.self.steps) c.in_ok-n.n c.in_ok-values.ensures.adds.holds);
      err = tt;
    }

pub hash_value-end-requires-clause-makes : goal.hash_value-end-requires-clause-makes
hash_value-end-requires-clause-makes t c =
    close_makes c.begin_object.new.self.steps c.pairs.new.self.steps c.in_ok-begun.begun.start (S.Hash c.in_ok-n.n) (hash (pairs_in c.begin_object.new.self.steps c.pairs.new.self.steps) None) (c.in_ok-begun.ensures.start ∙ ap length (steps_of c.count_nodes.new.self c.begin_object.new.self c.in_ok-begun.ensures.state))
    (hash_ends (since c.begin_object.new.self.steps c.pairs.new.self.steps) c.in_ok-n.n c.in_ok-pairs.ensures.adds.holds)

pub hash_value-returns : goal.hash_value-returns
hash_value-returns t c =
    record {
      ok =
          hash_read (part_in c.args.nested c.args.room) c.args.at c.in_ok-n.n c.in_ok-begun.begun.number (pairs_in c.begin_object.new.self.steps c.pairs.new.self.steps) (Ok (added c.args.self.now.steps c.end.new.self.steps, c.end.new.self.seen, c.end.new.self.rest))
          c.args.self.now c.pair_count.new.self c.count_nodes.new.self c.begin_object.new.self c.pairs.new.self
          c.in_ok-n.ensures.ok c.in_ok-count_nodes.ensures.ok c.in_ok-begun.ensures.state c.in_ok-begun.ensures.number c.in_ok-pairs.ensures.ok
          (close_read c.in_ok-begun.begun.number c.in_ok-begun.begun.start c.args.self.now c.begin_object.new.self c.pairs.new.self c.end.new.self (S.Hash c.in_ok-n.n) (hash (pairs_in c.begin_object.new.self.steps c.pairs.new.self.steps) None)
          (sym (c.in_ok-count_nodes.ensures.kept ∙ c.in_ok-n.ensures.kept) ∙ steps_of c.count_nodes.new.self c.begin_object.new.self c.in_ok-begun.ensures.state) (c.in_ok-begun.ensures.start ∙ ap length (steps_of c.count_nodes.new.self c.begin_object.new.self c.in_ok-begun.ensures.state)) c.in_ok-pairs.ensures.adds.extends c.in_ok-end.ensures.steps
          (hash_ends (since c.begin_object.new.self.steps c.pairs.new.self.steps) c.in_ok-n.n c.in_ok-pairs.ensures.adds.holds) c.in_ok-end.ensures.ok);
      adds =
          close_adds c.args.self.now.steps c.begin_object.new.self.steps c.pairs.new.self.steps c.end.new.self.steps (S.Hash c.in_ok-n.n) (hash (pairs_in c.begin_object.new.self.steps c.pairs.new.self.steps) None)
          (sym (c.in_ok-count_nodes.ensures.kept ∙ c.in_ok-n.ensures.kept) ∙ steps_of c.count_nodes.new.self c.begin_object.new.self c.in_ok-begun.ensures.state) c.in_ok-pairs.ensures.adds.extends c.in_ok-end.ensures.steps
          (hash_ends (since c.begin_object.new.self.steps c.pairs.new.self.steps) c.in_ok-n.n c.in_ok-pairs.ensures.adds.holds);
      err = tt;
    }

pub default_hash_value-end-requires-clause-makes : goal.default_hash_value-end-requires-clause-makes
default_hash_value-end-requires-clause-makes t c =
    close_makes c.begin_object.new.self.steps c.value.new.self.steps c.in_ok-begun.begun.start (S.HashWithDefault c.in_ok-n.n) (hash (pairs_in c.begin_object.new.self.steps c.pairs.new.self.steps) (Some (added c.pairs.new.self.steps c.value.new.self.steps))) (c.in_ok-begun.ensures.start ∙ ap length (steps_of c.count_nodes.new.self c.begin_object.new.self c.in_ok-begun.ensures.state))
    (default_ends c.begin_object.new.self.steps c.pairs.new.self.steps c.value.new.self.steps c.in_ok-n.n c.in_ok-pairs.ensures.adds c.in_ok-value.ensures.adds)

pub default_hash_value-returns : goal.default_hash_value-returns
default_hash_value-returns t c =
    record {
      ok =
          default_hash_read (part_in c.args.nested c.args.room) c.args.at c.in_ok-n.n c.in_ok-begun.begun.number (pairs_in c.begin_object.new.self.steps c.pairs.new.self.steps) (added c.pairs.new.self.steps c.value.new.self.steps) (Ok (added c.args.self.now.steps c.end.new.self.steps, c.end.new.self.seen, c.end.new.self.rest))
          c.args.self.now c.pair_count.new.self c.count_nodes.new.self c.begin_object.new.self c.pairs.new.self c.value.new.self
          c.in_ok-n.ensures.ok c.in_ok-count_nodes.ensures.ok c.in_ok-begun.ensures.state c.in_ok-begun.ensures.number c.in_ok-pairs.ensures.ok c.in_ok-value.ensures.ok
          (close_read c.in_ok-begun.begun.number c.in_ok-begun.begun.start c.args.self.now c.begin_object.new.self c.value.new.self c.end.new.self (S.HashWithDefault c.in_ok-n.n) (hash (pairs_in c.begin_object.new.self.steps c.pairs.new.self.steps) (Some (added c.pairs.new.self.steps c.value.new.self.steps)))
          (sym (c.in_ok-count_nodes.ensures.kept ∙ c.in_ok-n.ensures.kept) ∙ steps_of c.count_nodes.new.self c.begin_object.new.self c.in_ok-begun.ensures.state) (c.in_ok-begun.ensures.start ∙ ap length (steps_of c.count_nodes.new.self c.begin_object.new.self c.in_ok-begun.ensures.state)) (extends_then c.begin_object.new.self.steps c.pairs.new.self.steps c.value.new.self.steps c.in_ok-pairs.ensures.adds.extends c.in_ok-value.ensures.adds.extends) c.in_ok-end.ensures.steps
          (default_ends c.begin_object.new.self.steps c.pairs.new.self.steps c.value.new.self.steps c.in_ok-n.n c.in_ok-pairs.ensures.adds c.in_ok-value.ensures.adds) c.in_ok-end.ensures.ok);
      adds =
          close_adds c.args.self.now.steps c.begin_object.new.self.steps c.value.new.self.steps c.end.new.self.steps (S.HashWithDefault c.in_ok-n.n) (hash (pairs_in c.begin_object.new.self.steps c.pairs.new.self.steps) (Some (added c.pairs.new.self.steps c.value.new.self.steps)))
          (sym (c.in_ok-count_nodes.ensures.kept ∙ c.in_ok-n.ensures.kept) ∙ steps_of c.count_nodes.new.self c.begin_object.new.self c.in_ok-begun.ensures.state) (extends_then c.begin_object.new.self.steps c.pairs.new.self.steps c.value.new.self.steps c.in_ok-pairs.ensures.adds.extends c.in_ok-value.ensures.adds.extends) c.in_ok-end.ensures.steps
          (default_ends c.begin_object.new.self.steps c.pairs.new.self.steps c.value.new.self.steps c.in_ok-n.n c.in_ok-pairs.ensures.adds c.in_ok-value.ensures.adds);
      err = tt;
    }

pub fields_value-end-requires-clause-makes : goal.fields_value-end-requires-clause-makes
fields_value-end-requires-clause-makes t c =
    close_makes c.begin_object.new.self.steps c.fields.new.self.steps c.in_ok-begun.begun.start (S.Struct c.of-class.result c.in_ok-n.n) (structure c.of-class.result (fields_in c.begin_object.new.self.steps c.fields.new.self.steps)) (c.in_ok-begun.ensures.start ∙ ap length (steps_of c.count_nodes.new.self c.begin_object.new.self c.in_ok-begun.ensures.state))
    (struct_ends (since c.begin_object.new.self.steps c.fields.new.self.steps) c.of-class.result c.in_ok-n.n (class_utf8 c.args.self.now c.name.new.self c.in_ok-name.field-0.now c.of-class.result c.in_ok-name.ensures.ok c.of-class.ensures c.requires.named) c.in_ok-fields.ensures.adds.holds)

pub fields_value-returns-then-is_struct : goal.fields_value-returns-then-is_struct
fields_value-returns-then-is_struct t c =
    record {
      ok =
          let cls = c.in_ok-name.ensures.ok ∙ ap (λ (z : List ℕ). Ok (z, c.name.new.self.seen, c.name.new.self.rest)) (sym c.of-class.ensures) in
          let r : Read Tree = Ok (added c.args.self.now.steps c.end.new.self.steps, c.end.new.self.seen, c.end.new.self.rest) in
          let whole : read_at (V.fields_value (fields_form true) (part_in c.args.nested c.args.room) c.args.at) c.args.self.now ≡ r =
          fields_read true (part_in c.args.nested c.args.room) c.args.at c.in_ok-n.n c.in_ok-begun.begun.number c.of-class.result (fields_in c.begin_object.new.self.steps c.fields.new.self.steps) r
          c.args.self.now c.name.new.self c.pair_count.new.self c.count_nodes.new.self c.begin_object.new.self c.fields.new.self
          cls c.in_ok-n.ensures.ok c.in_ok-count_nodes.ensures.ok c.in_ok-begun.ensures.state c.in_ok-begun.ensures.number c.in_ok-fields.ensures.ok
          (close_read c.in_ok-begun.begun.number c.in_ok-begun.begun.start c.args.self.now c.begin_object.new.self c.fields.new.self c.end.new.self (S.Struct c.of-class.result c.in_ok-n.n) (structure c.of-class.result (fields_in c.begin_object.new.self.steps c.fields.new.self.steps))
          (sym (c.in_ok-count_nodes.ensures.kept ∙ c.in_ok-n.ensures.kept ∙ c.in_ok-name.ensures.kept) ∙ steps_of c.count_nodes.new.self c.begin_object.new.self c.in_ok-begun.ensures.state) (c.in_ok-begun.ensures.start ∙ ap length (steps_of c.count_nodes.new.self c.begin_object.new.self c.in_ok-begun.ensures.state)) c.in_ok-fields.ensures.adds.extends c.in_ok-end.ensures.steps
          (struct_ends (since c.begin_object.new.self.steps c.fields.new.self.steps) c.of-class.result c.in_ok-n.n (class_utf8 c.args.self.now c.name.new.self c.in_ok-name.field-0.now c.of-class.result c.in_ok-name.ensures.ok c.of-class.ensures c.requires.named) c.in_ok-fields.ensures.adds.holds) c.in_ok-end.ensures.ok) in
          subst (λ (b : Bool). read_at (V.fields_value (fields_form b) (part_in c.args.nested c.args.room) c.args.at) c.args.self.now ≡ r) (sym c.if-is_struct.true) whole;
      adds =
          close_adds c.args.self.now.steps c.begin_object.new.self.steps c.fields.new.self.steps c.end.new.self.steps (S.Struct c.of-class.result c.in_ok-n.n) (structure c.of-class.result (fields_in c.begin_object.new.self.steps c.fields.new.self.steps))
          (sym (c.in_ok-count_nodes.ensures.kept ∙ c.in_ok-n.ensures.kept ∙ c.in_ok-name.ensures.kept) ∙ steps_of c.count_nodes.new.self c.begin_object.new.self c.in_ok-begun.ensures.state) c.in_ok-fields.ensures.adds.extends c.in_ok-end.ensures.steps
          (struct_ends (since c.begin_object.new.self.steps c.fields.new.self.steps) c.of-class.result c.in_ok-n.n (class_utf8 c.args.self.now c.name.new.self c.in_ok-name.field-0.now c.of-class.result c.in_ok-name.ensures.ok c.of-class.ensures c.requires.named) c.in_ok-fields.ensures.adds.holds);
      err = tt;
    }

pub fields_value-end-requires-2-clause-makes : goal.fields_value-end-requires-2-clause-makes
fields_value-end-requires-2-clause-makes t c =
    close_makes c.begin_object.new.self.steps c.fields.new.self.steps c.in_ok-begun.begun.start (S.Object c.of-class.result c.in_ok-n.n) (object c.of-class.result (fields_in c.begin_object.new.self.steps c.fields.new.self.steps)) (c.in_ok-begun.ensures.start ∙ ap length (steps_of c.count_nodes.new.self c.begin_object.new.self c.in_ok-begun.ensures.state))
    (object_ends (since c.begin_object.new.self.steps c.fields.new.self.steps) c.of-class.result c.in_ok-n.n (class_utf8 c.args.self.now c.name.new.self c.in_ok-name.field-0.now c.of-class.result c.in_ok-name.ensures.ok c.of-class.ensures c.requires.named) c.in_ok-fields.ensures.adds.holds)

pub fields_value-returns : goal.fields_value-returns
fields_value-returns t c =
    record {
      ok =
          let cls = c.in_ok-name.ensures.ok ∙ ap (λ (z : List ℕ). Ok (z, c.name.new.self.seen, c.name.new.self.rest)) (sym c.of-class.ensures) in
          let r : Read Tree = Ok (added c.args.self.now.steps c.end-2.new.self.steps, c.end-2.new.self.seen, c.end-2.new.self.rest) in
          let whole : read_at (V.fields_value (fields_form false) (part_in c.args.nested c.args.room) c.args.at) c.args.self.now ≡ r =
          fields_read false (part_in c.args.nested c.args.room) c.args.at c.in_ok-n.n c.in_ok-begun.begun.number c.of-class.result (fields_in c.begin_object.new.self.steps c.fields.new.self.steps) r
          c.args.self.now c.name.new.self c.pair_count.new.self c.count_nodes.new.self c.begin_object.new.self c.fields.new.self
          cls c.in_ok-n.ensures.ok c.in_ok-count_nodes.ensures.ok c.in_ok-begun.ensures.state c.in_ok-begun.ensures.number c.in_ok-fields.ensures.ok
          (close_read c.in_ok-begun.begun.number c.in_ok-begun.begun.start c.args.self.now c.begin_object.new.self c.fields.new.self c.end-2.new.self (S.Object c.of-class.result c.in_ok-n.n) (object c.of-class.result (fields_in c.begin_object.new.self.steps c.fields.new.self.steps))
          (sym (c.in_ok-count_nodes.ensures.kept ∙ c.in_ok-n.ensures.kept ∙ c.in_ok-name.ensures.kept) ∙ steps_of c.count_nodes.new.self c.begin_object.new.self c.in_ok-begun.ensures.state) (c.in_ok-begun.ensures.start ∙ ap length (steps_of c.count_nodes.new.self c.begin_object.new.self c.in_ok-begun.ensures.state)) c.in_ok-fields.ensures.adds.extends c.in_ok-end-2.ensures.steps
          (object_ends (since c.begin_object.new.self.steps c.fields.new.self.steps) c.of-class.result c.in_ok-n.n (class_utf8 c.args.self.now c.name.new.self c.in_ok-name.field-0.now c.of-class.result c.in_ok-name.ensures.ok c.of-class.ensures c.requires.named) c.in_ok-fields.ensures.adds.holds) c.in_ok-end-2.ensures.ok) in
          subst (λ (b : Bool). read_at (V.fields_value (fields_form b) (part_in c.args.nested c.args.room) c.args.at) c.args.self.now ≡ r) (sym c.if-is_struct.false) whole;
      adds =
          close_adds c.args.self.now.steps c.begin_object.new.self.steps c.fields.new.self.steps c.end-2.new.self.steps (S.Object c.of-class.result c.in_ok-n.n) (object c.of-class.result (fields_in c.begin_object.new.self.steps c.fields.new.self.steps))
          (sym (c.in_ok-count_nodes.ensures.kept ∙ c.in_ok-n.ensures.kept ∙ c.in_ok-name.ensures.kept) ∙ steps_of c.count_nodes.new.self c.begin_object.new.self c.in_ok-begun.ensures.state) c.in_ok-fields.ensures.adds.extends c.in_ok-end-2.ensures.steps
          (object_ends (since c.begin_object.new.self.steps c.fields.new.self.steps) c.of-class.result c.in_ok-n.n (class_utf8 c.args.self.now c.name.new.self c.in_ok-name.field-0.now c.of-class.result c.in_ok-name.ensures.ok c.of-class.ensures c.requires.named) c.in_ok-fields.ensures.adds.holds);
      err = tt;
    }

pub wrapped_value-end-requires-clause-makes : goal.wrapped_value-end-requires-clause-makes
wrapped_value-end-requires-clause-makes t c =
    close_makes c.begin_object.new.self.steps c.value.new.self.steps c.in_ok-begun.begun.start (S.Wrapped c.of-class.result) (wrapped c.of-class.result (added c.begin_object.new.self.steps c.value.new.self.steps)) (c.in_ok-begun.ensures.start ∙ ap length (steps_of c.count_nodes.new.self c.begin_object.new.self c.in_ok-begun.ensures.state))
    (wrapped_ends (since c.begin_object.new.self.steps c.value.new.self.steps) c.of-class.result (class_utf8 c.args.self.now c.name.new.self c.in_ok-name.field-0.now c.of-class.result c.in_ok-name.ensures.ok c.of-class.ensures c.requires.named) c.in_ok-value.ensures.adds.makes)

pub wrapped_value-returns : goal.wrapped_value-returns
wrapped_value-returns t c =
    record {
      ok =
          let cls = c.in_ok-name.ensures.ok ∙ ap (λ (z : List ℕ). Ok (z, c.name.new.self.seen, c.name.new.self.rest)) (sym c.of-class.ensures) in
          wrapped_read (part_in c.args.nested c.args.room) c.args.at c.in_ok-begun.begun.number c.of-class.result (added c.begin_object.new.self.steps c.value.new.self.steps) (Ok (added c.args.self.now.steps c.end.new.self.steps, c.end.new.self.seen, c.end.new.self.rest))
          c.args.self.now c.name.new.self c.count_nodes.new.self c.begin_object.new.self c.value.new.self
          cls c.in_ok-count_nodes.ensures.ok c.in_ok-begun.ensures.state c.in_ok-begun.ensures.number c.in_ok-value.ensures.ok
          (close_read c.in_ok-begun.begun.number c.in_ok-begun.begun.start c.args.self.now c.begin_object.new.self c.value.new.self c.end.new.self (S.Wrapped c.of-class.result) (wrapped c.of-class.result (added c.begin_object.new.self.steps c.value.new.self.steps))
          (sym (c.in_ok-count_nodes.ensures.kept ∙ c.in_ok-name.ensures.kept) ∙ steps_of c.count_nodes.new.self c.begin_object.new.self c.in_ok-begun.ensures.state) (c.in_ok-begun.ensures.start ∙ ap length (steps_of c.count_nodes.new.self c.begin_object.new.self c.in_ok-begun.ensures.state)) c.in_ok-value.ensures.adds.extends c.in_ok-end.ensures.steps
          (wrapped_ends (since c.begin_object.new.self.steps c.value.new.self.steps) c.of-class.result (class_utf8 c.args.self.now c.name.new.self c.in_ok-name.field-0.now c.of-class.result c.in_ok-name.ensures.ok c.of-class.ensures c.requires.named) c.in_ok-value.ensures.adds.makes) c.in_ok-end.ensures.ok);
      adds =
          close_adds c.args.self.now.steps c.begin_object.new.self.steps c.value.new.self.steps c.end.new.self.steps (S.Wrapped c.of-class.result) (wrapped c.of-class.result (added c.begin_object.new.self.steps c.value.new.self.steps))
          (sym (c.in_ok-count_nodes.ensures.kept ∙ c.in_ok-name.ensures.kept) ∙ steps_of c.count_nodes.new.self c.begin_object.new.self c.in_ok-begun.ensures.state) c.in_ok-value.ensures.adds.extends c.in_ok-end.ensures.steps
          (wrapped_ends (since c.begin_object.new.self.steps c.value.new.self.steps) c.of-class.result (class_utf8 c.args.self.now c.name.new.self c.in_ok-name.field-0.now c.of-class.result c.in_ok-name.ensures.ok c.of-class.ensures c.requires.named) c.in_ok-value.ensures.adds.makes);
      err = tt;
    }

pub marked_dumped-returns : goal.marked_dumped-returns
marked_dumped-returns t c =
    let same = sym (c.in_ok-count_nodes.ensures.kept ∙ c.in_ok-variables.ensures.kept ∙ c.in_ok-held.ensures.gives.kept) in
    let ends = held_ends c.in_ok-held.held (since c.count_nodes.new.self.steps c.fields.new.self.steps) c.in_ok-variables.variables c.in_ok-held.ensures.foreign c.in_ok-fields.ensures.adds.holds in
    record {
      ok =
          marked_read (reference_in c.args.nested) (part_in c.args.nested c.args.room) c.args.at c.in_ok-variables.variables c.held_nodes.result (held_is c.in_ok-held.held) (fields_in c.count_nodes.new.self.steps c.fields.new.self.steps) (Ok (added c.args.self.now.steps c.held_value.new.self.steps, c.held_value.new.self.seen, c.held_value.new.self.rest))
          c.args.self.now c.held.new.self c.pair_count.new.self c.count_nodes.new.self c.fields.new.self
          c.in_ok-held.ensures.gives.ok c.in_ok-variables.ensures.ok c.held_nodes.ensures c.in_ok-count_nodes.ensures.ok c.in_ok-fields.ensures.ok
          (close_held (held_is c.in_ok-held.held) c.count_steps-start.result c.args.self.now c.count_nodes.new.self c.fields.new.self c.held_value.new.self (held_steps c.in_ok-held.held c.in_ok-variables.variables)
          c.count_steps-start.ensures same c.in_ok-fields.ensures.adds.extends c.in_ok-held_value.ensures.steps ends c.in_ok-held_value.ensures.ok);
      adds =
          close_adds_by c.args.self.now.steps c.count_nodes.new.self.steps c.fields.new.self.steps c.held_value.new.self.steps (held_steps c.in_ok-held.held c.in_ok-variables.variables)
          (V.held_value (held_is c.in_ok-held.held) (fields_in c.count_nodes.new.self.steps c.fields.new.self.steps))
          same c.in_ok-fields.ensures.adds.extends c.in_ok-held_value.ensures.steps ends;
      err = tt;
    }

pub pairs-loop-init : goal.pairs-loop-init
pairs-loop-init t c = pairs_begin (part_in c.args.nested c.args.room) c.args.n c.new-keys.result c.args.self.now c.new-keys.ensures c.requires.named

pub pairs-loop-preserved : goal.pairs-loop-preserved
pairs-loop-preserved t c =
    let d : false ≡ key_in c.in_ok-key.key c.loop.keys = sym c.if-has_key.false ∙ c.has_key.ensures ∙ ap (key_in c.in_ok-key.key) c.as_slice.ensures in
    rw c.in_ok-push.ensures.ok
    (pairs_more (read_at (pairs (part_in c.args.nested c.args.room) [] c.args.n) c.args.self.now) (part_in c.args.nested c.args.room) c.args.n c.loop.counter c.loop.keys c.args.self.now.steps c.loop.self c.value.new.self c.value-in-loop.new.self c.push-in-loop.new.self c.in_ok-key.key (part_tame c.args.nested c.args.room) c.loop-test.true c.loop.invariant
    c.in_ok-value.ensures.ok c.in_ok-value.ensures.adds (c.in_ok-key.ensures ∙ ap (λ (i : ℕ). value_of (drop i c.value.new.self.steps)) c.count_steps-start.ensures) d c.in_ok-value-2.ensures.ok c.in_ok-value-2.ensures.adds c.in_ok-push-2.ensures)

pub pairs-returns-then-has_key : goal.pairs-returns-then-has_key
pairs-returns-then-has_key t c =
    let d : true ≡ key_in c.in_ok-key.key c.loop.keys = sym c.if-has_key.true ∙ c.has_key.ensures ∙ ap (key_in c.in_ok-key.key) c.as_slice.ensures in
    rw (c.refuse.ensures.stop, c.refuse.ensures.refused, c.at-at.ensures) (record {
      ok = tt;
      adds = tt;
      err = pairs_double (read_at (pairs (part_in c.args.nested c.args.room) [] c.args.n) c.args.self.now) (part_in c.args.nested c.args.room) c.args.n c.loop.counter c.loop.keys c.args.self.now.steps c.loop.self c.value.new.self c.in_ok-key.key c.loop-test.true c.loop.invariant c.in_ok-value.ensures.ok (c.in_ok-key.ensures ∙ ap (λ (i : ℕ). value_of (drop i c.value.new.self.steps)) c.count_steps-start.ensures) d;
    })

pub pairs-returns-in_err-value-2 : goal.pairs-returns-in_err-value-2
pairs-returns-in_err-value-2 t c =
    let d : false ≡ key_in c.in_ok-key.key c.loop.keys = sym c.if-has_key.false ∙ c.has_key.ensures ∙ ap (key_in c.in_ok-key.key) c.as_slice.ensures in
    let p = err_from_is_err_and c.from_residual-in_err-value-2.result c.from_residual-in_err-value-2.ensures.1 in
    rw (p.1, p.2) (record {
      ok = tt;
      adds = tt;
      err = pairs_failed_value (error_of c.in_err-value-2.field-0.0 c.value-in-loop.new.self.refused) (read_at (pairs (part_in c.args.nested c.args.room) [] c.args.n) c.args.self.now) (part_in c.args.nested c.args.room) c.args.n c.loop.counter c.loop.keys c.args.self.now.steps c.loop.self c.value.new.self c.in_ok-key.key c.loop-test.true c.loop.invariant c.in_ok-value.ensures.ok (c.in_ok-key.ensures ∙ ap (λ (i : ℕ). value_of (drop i c.value.new.self.steps)) c.count_steps-start.ensures) d c.in_err-value-2.ensures.err;
    })

pub fields-loop-preserved : goal.fields-loop-preserved
fields-loop-preserved t c =
    let d : false ≡ name_in c.in_ok-name.name.now c.loop.names = sym c.if-has_name.false ∙ c.has_name.ensures ∙ ap (name_in c.in_ok-name.name.now) c.as_slice.ensures in
    rw (c.in_ok-push.ensures.ok, c.of.ensures)
    (fields_more (read_at (fields (part_in c.args.nested c.args.room) [] c.args.n) c.args.self.now) (part_in c.args.nested c.args.room) c.args.n c.loop.counter c.loop.names c.args.self.now.steps c.loop.self c.name.new.self c.value.new.self c.push-in-loop.new.self c.in_ok-name.name.now (part_tame c.args.nested c.args.room) c.loop-test.true c.loop.invariant
    c.in_ok-name.ensures.ok c.in_ok-name.ensures.kept d c.in_ok-value.ensures.ok c.in_ok-value.ensures.adds (c.in_ok-push-2.ensures ∙ ap (λ (z : List ℕ). record c.value.new.self { steps = c.value.new.self.steps ++ (S.Field z ∷ []) }) c.of-in-loop.ensures))

pub fields-returns-then-has_name : goal.fields-returns-then-has_name
fields-returns-then-has_name t c =
    let d : true ≡ name_in c.in_ok-name.name.now c.loop.names = sym c.if-has_name.true ∙ c.has_name.ensures ∙ ap (name_in c.in_ok-name.name.now) c.as_slice.ensures in
    rw (c.refuse.ensures.stop, c.refuse.ensures.refused, c.at-at.ensures) (record {
      ok = tt;
      adds = tt;
      err = fields_double (read_at (fields (part_in c.args.nested c.args.room) [] c.args.n) c.args.self.now) (part_in c.args.nested c.args.room) c.args.n c.loop.counter c.loop.names c.args.self.now.steps c.loop.self c.name.new.self c.in_ok-name.name.now c.loop-test.true c.loop.invariant c.in_ok-name.ensures.ok d;
    })

pub fields-returns-in_err-value : goal.fields-returns-in_err-value
fields-returns-in_err-value t c =
    let d : false ≡ name_in c.in_ok-name.name.now c.loop.names = sym c.if-has_name.false ∙ c.has_name.ensures ∙ ap (name_in c.in_ok-name.name.now) c.as_slice.ensures in
    let p = err_from_is_err_and c.from_residual-in_err-value.result c.from_residual-in_err-value.ensures.1 in
    rw (p.1, p.2) (record {
      ok = tt;
      adds = tt;
      err = fields_failed_value (error_of c.in_err-value.field-0.0 c.value.new.self.refused) (read_at (fields (part_in c.args.nested c.args.room) [] c.args.n) c.args.self.now) (part_in c.args.nested c.args.room) c.args.n c.loop.counter c.loop.names c.args.self.now.steps c.loop.self c.name.new.self c.in_ok-name.name.now c.loop-test.true c.loop.invariant c.in_ok-name.ensures.ok d c.in_err-value.ensures.err;
    })

pub remote_in-returns-in-Ok : goal.remote_in-returns-in-Ok
remote_in-returns-in-Ok t c =
    let e : c.in_ok-inner.inner.steps ≡ [] = ap (λ (z : State). z.steps) c.in_ok-inner.ensures in
    let s : read (dump_with (reference_in true)) opening c.args.bytes.now ≡ Ok (value_of c.dump_with.new.self.steps, c.dump_with.new.self.seen, c.dump_with.new.self.rest) =
    ap (λ (z : State). read_at (dump_with (reference_in true)) z) (sym c.in_ok-inner.ensures)
    ∙ c.in-Ok.ensures.ok
    ∙ ap (λ (ss : List Step). Ok (added ss c.dump_with.new.self.steps, c.dump_with.new.self.seen, c.dump_with.new.self.rest)) e in
    IfOk-weaker c.remote.result (λ (r : Option Remote). r ≡ remote_of (out-Tree (value_of c.dump_with.new.self.steps))) (λ (r : Option Remote). r ≡ given (read (reference_in c.args.nested) opening c.args.bytes.now))
    (λ r x. x ∙ given_ok c.args.nested c.args.bytes.now c.dump_with.new.self.rest (value_of c.dump_with.new.self.steps) c.dump_with.new.self.seen c.if-nested.false s)
    c.remote.ensures

pub remote_in-returns : goal.remote_in-returns
remote_in-returns t c =
    let F : Stop → Type 0 = λ e. Fails (error_of e c.dump_with.new.self.refused) (read_at (dump_with (reference_in true)) c.in_ok-inner.inner) in
    let h : read_at (dump_with (reference_in true)) c.in_ok-inner.inner ≡ Err c.dump_with.new.self.refused = subst F c.in-Err-Refused.field-0-is c.in-Err-Refused.ensures.err in
    let s : read (dump_with (reference_in true)) opening c.args.bytes.now ≡ Err c.dump_with.new.self.refused =
    ap (λ (z : State). read_at (dump_with (reference_in true)) z) (sym c.in_ok-inner.ensures) ∙ h in
    given_err c.args.nested c.args.bytes.now c.dump_with.new.self.refused c.if-nested.false s
