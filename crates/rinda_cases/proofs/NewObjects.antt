-- What makes an object, by whether the space is shut and whether the tuple's time is over.
use Rattle.std.proofs.Common.{◌≡◌, ◌∙◌, ℕ, Bool, true, false, Option, refl, sym, ap}
use Rattle.std.specs.Prelude.{if◌then◌else◌}
use Rattle.rinda_tuple.specs.declared.tuple.Tuple.{Tuple}
use Rattle.rinda_tuple.specs.declared.lease.Lease.{Lease}
use Rattle.rinda_tuple.specs.Lives.{deadline}
use Rattle.rinda_rules.specs.declared.out.Out.{Out}
use Rattle.rinda_rules.specs.declared.out.Out.TheVariants as out
use Rattle.rinda_rules.specs.Space.{Plain, is_over}
use Rattle.rinda_rules.specs.Cases.{Outcome, answers, unless_shut, minted, written, write}
use Rattle.rinda_tables.specs.Holds.{Held, Holds}
use Rattle.rinda_tables.specs.Tabled.{new_entry}
use Rattle.rinda_cases.specs.Makes.{written_past}

-- a space that is shut takes nothing in
shut-by : (b : Bool) (s : Plain) (t : Held) (o : Outcome) → b ≡ true → Holds s t → (out.Shut ≡ (if b then answers s out.Shut else o).out) × Holds (if b then answers s out.Shut else o).after t
shut-by true s t o is h = (refl, h)
shut-by false s t o is h = cc

pub shut-out : (s : Plain) (t : Held) (o : Outcome) → Holds s t → t.shut ≡ true → (out.Shut ≡ (unless_shut s o).out) × Holds (unless_shut s o).after t
shut-out s t o h shut = shut-by s.shut s t o (sym h.shut ∙ shut) h

-- one that isn't shut does
in-by : (b : Bool) (s : Plain) (t : Held) (o : Outcome) (x : Out) → b ≡ false → x ≡ o.out → Holds o.after t → (x ≡ (if b then answers s out.Shut else o).out) × Holds (if b then answers s out.Shut else o).after t
in-by true s t o x is e h = cc
in-by false s t o x is e h = (e, h)

pub let-in : (s : Plain) (t b : Held) (o : Outcome) (x : Out) → Holds s t → t.shut ≡ false → x ≡ o.out → Holds o.after b → (x ≡ (unless_shut s o).out) × Holds (unless_shut s o).after b
let-in s t b o x h shut is after = in-by s.shut s b o x (sym h.shut ∙ shut) is after

-- a tuple that lasts is written
pub wrote-in : (s : Plain) (t b : Held) (value : Tuple) (lease : Lease) (d : Option ℕ) (id : ℕ) → Holds s t → t.shut ≡ false → d ≡ deadline lease.life t.clock → is_over t.clock d ≡ false → (id ≡ s.next) × Holds (written (new_entry s.next value d lease.renewer) (minted s)) b → (out.Entry id ≡ (write s value lease).out) × Holds (write s value lease).after b
wrote-in s t b value lease d id h shut is lasts w =
    let now : d ≡ deadline lease.life s.clock = is ∙ ap (deadline lease.life) h.clock in
    let not : is_over s.clock (deadline lease.life s.clock) ≡ false = sym (ap (is_over s.clock) now) ∙ sym (ap (λ n. is_over n d) h.clock) ∙ lasts in
    let-in s t b _ (out.Entry id) h shut (ap out.Entry w.0) (rw (not, ← now) w.1)

-- a tuple whose time is over is written
pub wrote-over : (s : Plain) (t b : Held) (value : Tuple) (lease : Lease) (d : Option ℕ) (id : ℕ) → Holds s t → t.shut ≡ false → d ≡ deadline lease.life t.clock → is_over t.clock d ≡ true → (id ≡ s.next) × Holds (written_past value s) b → (out.Entry id ≡ (write s value lease).out) × Holds (write s value lease).after b
wrote-over s t b value lease d id h shut is over w =
    let now : d ≡ deadline lease.life s.clock = is ∙ ap (deadline lease.life) h.clock in
    let past : is_over s.clock (deadline lease.life s.clock) ≡ true = sym (ap (is_over s.clock) now) ∙ sym (ap (λ n. is_over n d) h.clock) ∙ over in
    let-in s t b _ (out.Entry id) h shut (ap out.Entry w.0) (rw past w.1)
