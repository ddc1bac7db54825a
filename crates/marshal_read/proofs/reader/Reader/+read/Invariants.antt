use Rattle.std.proofs.Common.{◌+◌, ◌*◌, ◌-◌, []}
use Rattle.marshal_grammar.specs.Values.{values, pairs, fields}
use Rattle.marshal_read.specs.Fails.{read_at}
use Rattle.marshal_read.specs.Scopes.{part_in}
use Rattle.marshal_read.proofs.Loops.{scope, ValuesSo, PairsSo, FieldsSo}
use Rattle.marshal_read.proofs.reader.Reader.+read.Given as goal

abbrev pub decreases-value : goal.decreases-value
decreases-value l = scope l.nested + (10 * l.room + 2)

abbrev pub decreases-body : goal.decreases-body
decreases-body l = scope l.nested + (10 * l.room + 11)

abbrev pub decreases-list_value : goal.decreases-list_value
decreases-list_value l = scope l.nested + (10 * l.room + 9)

abbrev pub decreases-hash_value : goal.decreases-hash_value
decreases-hash_value l = scope l.nested + (10 * l.room + 9)

abbrev pub decreases-default_hash_value : goal.decreases-default_hash_value
decreases-default_hash_value l = scope l.nested + (10 * l.room + 9)

abbrev pub decreases-fields_value : goal.decreases-fields_value
decreases-fields_value l = scope l.nested + (10 * l.room + 9)

abbrev pub decreases-wrapped_value : goal.decreases-wrapped_value
decreases-wrapped_value l = scope l.nested + (10 * l.room + 9)

abbrev pub decreases-marked_value : goal.decreases-marked_value
decreases-marked_value l = scope l.nested + (10 * l.room + 9)

abbrev pub decreases-marked_dumped : goal.decreases-marked_dumped
decreases-marked_dumped l = scope l.nested + (10 * l.room + 8)

abbrev pub decreases-dumped_value : goal.decreases-dumped_value
decreases-dumped_value l = scope l.nested + 6

abbrev pub decreases-held : goal.decreases-held
decreases-held l = scope l.nested + 4

abbrev pub decreases-remote_in : goal.decreases-remote_in
decreases-remote_in l = scope l.nested + 3

abbrev pub decreases-dump_with : goal.decreases-dump_with
decreases-dump_with l = scope l.nested + 1290

abbrev pub decreases-values : goal.decreases-values
decreases-values l = scope l.nested + (10 * l.room + 5)

abbrev pub decreases-pairs : goal.decreases-pairs
decreases-pairs l = scope l.nested + (10 * l.room + 5)

abbrev pub decreases-fields : goal.decreases-fields
decreases-fields l = scope l.nested + (10 * l.room + 5)

abbrev pub invariant-values-loop : goal.invariant-values-loop
invariant-values-loop l = ValuesSo (read_at (values (part_in l.nested l.room) l.n) l.initial.self) (part_in l.nested l.room) (l.n - l.counter) l.counter l.initial.self.steps l.self

abbrev pub invariant-pairs-loop : goal.invariant-pairs-loop
invariant-pairs-loop l = PairsSo (read_at (pairs (part_in l.nested l.room) [] l.n) l.initial.self) (part_in l.nested l.room) (l.n - l.counter) l.counter l.keys l.initial.self.steps l.self

abbrev pub invariant-fields-loop : goal.invariant-fields-loop
invariant-fields-loop l = FieldsSo (read_at (fields (part_in l.nested l.room) [] l.n) l.initial.self) (part_in l.nested l.room) (l.n - l.counter) l.counter l.names l.initial.self.steps l.self
