-- What is shown is read again: docs/TEXT.md, Showing.
use Rattle.std.specs.Prelude.{◌≡◌, Ok}
use Rattle.drb_tree.specs.declared.Tree.{Tree}
use Rattle.drb_tree.specs.Kept.{WellKept, Ranged, Fits}
use Rattle.drb_text.specs.Texts.{reading}
use Rattle.drb_text.specs.Shown.{shown}

-- the text of a value that fits, and that is well kept and ranged, is read as that value
abbrev pub ReadsShown : Type 0
ReadsShown = (v : Tree) → WellKept v → Ranged v → Fits v → reading (shown v) ≡ Ok v
