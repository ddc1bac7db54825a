-- The steps of the forms that are kept most often.
use Rattle.std.specs.Prelude.{ℕ, ℤ, List, true, false}
use Rattle.drb_tree.specs.declared.Code.TheVariants.{Binary, Ascii, Utf8}
use Rattle.marshal_read.specs.declared.steps.Form.{Form}
use Rattle.marshal_read.specs.declared.steps.Form.TheVariants as form
use Rattle.marshal_read.specs.declared.steps.Step.{Step}
use Rattle.marshal_read.specs.declared.steps.Step.TheVariants as S

-- the step of a form, of a number, a count or bytes
abbrev pub step_of : Form → ℤ → ℕ → List ℕ → Step
step_of form.Nil i n s = S.Nil
step_of form.True i n s = S.Bool true
step_of form.False i n s = S.Bool false
step_of form.Int i n s = S.Int i
step_of form.Sym i n s = S.Sym s
step_of form.Binary i n s = S.Text s Binary
step_of form.Ascii i n s = S.Text s Ascii
step_of form.Utf8 i n s = S.Text s Utf8
step_of form.List i n s = S.List n
