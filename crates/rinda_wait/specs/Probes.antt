-- The place of a request in the index, and the places where a tuple meets requests.
use Rattle.std.specs.Prelude.{ℕ, ◌+◌, ◌*◌, ◌/◌, Bool, Option, Some, None, if◌then◌else◌}
use Rattle.rinda_tuple.specs.declared.tuple.Tuple.{Tuple}
use Rattle.rinda_rules.specs.declared.plain.Request.{Request}
use Rattle.rinda_rules.specs.Space.{is_read}
use Rattle.rinda_marks.specs.declared.secret.Secret.{Secret}
use Rattle.rinda_marks.specs.Marks.{marks_of, fixed_by, best}
use Rattle.rinda_wait.specs.declared.probes.Probes.{Probes}

-- the last bit of a place says whether its requests read, the others are those of a mark, of 0 where there is no mark
abbrev pub place : Bool → Option ℕ → ℕ
place reads None = if reads then 1 else 0
place reads (Some mark) = mark / 2 * 2 + (if reads then 1 else 0)

-- the place of a request: that of the best mark that its template asks for
abbrev pub place_in : Secret → Request → ℕ
place_in secret r = place (is_read r.kind) (best (fixed_by secret r.pattern))

-- the place of a mark, if there is one
abbrev pub place_at : Bool → Option ℕ → Option ℕ
place_at reads None = None
place_at reads (Some mark) = Some (place reads (Some mark))

-- where a tuple meets those that read, or the others: at the places of its marks, and at that of no mark
abbrev pub probes : Secret → Tuple → Bool → Probes
probes secret tuple reads = record {
  any = Some (place reads None);
  first = place_at reads (marks_of secret tuple).first;
  both = place_at reads (marks_of secret tuple).second;
}
