-- How an answer is told.
use Rattle.std.proofs.Common.{◌≡◌, ℕ, ◌≤◌, List, [], ◌∷◌, ◌++◌, take, drop, Bool, true, false, refl, sym, ◌∙◌, ap, subst, append_assoc, arith}
use Rattle.std.proofs.lemmas.List.{take-append-drop, append-nil}
use Rattle.std.specs.Prelude.{None, Some, unwrap_or}
use Rattle.std.specs.declared.option.Option.{Option}
use Rattle.drb_outside.specs.Told.{Told, Rose}
use Rattle.drb_outside.specs.Telling.{told_as, told_same}
use Rattle.drb_packet.specs.Writes.{WritesAll}
use Rattle.rinda_proxy.specs.declared.status.Status.{Status}
use Rattle.rinda_proxy.specs.declared.status.Status.TheVariants.{Done, WriteFault, Memory}
use Rattle.rinda_proxy.specs.Commands.{End, whole, unprinted, lost, IsFront, Written}
use Rattle.rinda_proxy.specs.Parts.{TellsAs, Tells}

pub front_none : (text : List ℕ) → IsFront text []
front_none text = (text, refl)

front_take : (n : ℕ) (text : List ℕ) → IsFront text (take n text)
front_take n text = (drop n text, sym (take-append-drop n text))

-- all of it was printed, and it was the last
pub tells_whole : (d : Option Status) (text : List ℕ) (r : Option Status) (x y : Option (List ℕ)) (m n : ℕ) → m ≤ n → Told x y n (WritesAll true text) → r ≡ Some (unwrap_or d Done) → Tells true d text r x y m n
tells_whole d text r x y m n le h e = record { end = whole; ends = e; output = told_as (WritesAll true text) _ x y n (λ u v w. (text, w, refl)) h; later = le }

-- all of it was printed, and more may be asked
pub tells_more : (d : Option Status) (text : List ℕ) (x y : Option (List ℕ)) (m n : ℕ) → m ≤ n → Told x y n (WritesAll true text) → Tells false d text None x y m n
tells_more d text x y m n le h = record { end = whole; ends = refl; output = told_as (WritesAll true text) _ x y n (λ u v w. (text, w, refl)) h; later = le }

-- the output failed
pub tells_cut : (over : Bool) (d : Option Status) (text : List ℕ) (r : Option Status) (x y : Option (List ℕ)) (m n : ℕ) → m ≤ n → Told x y n (WritesAll false text) → Rose m n → r ≡ Some (unwrap_or d WriteFault) → Tells over d text r x y m n
tells_cut over d text r x y m n le h rose e = record { end = unprinted; ends = (rose, e); output = told_as (WritesAll false text) _ x y n (λ u v w. (take w.0 text, w.1, front_take w.0 text)) h; later = le }

-- there was no memory
pub tells_lost : (over : Bool) (d : Option Status) (text : List ℕ) (x : Option (List ℕ)) (m : ℕ) → Tells over d text (Some Memory) x x m m
tells_lost over d text x m = record { end = lost; ends = refl; output = told_same _ x m (λ u. ([], sym (append-nil u), front_none text)); later = omega arith }
