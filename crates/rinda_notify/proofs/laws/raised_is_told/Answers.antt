use Rattle.std.proofs.Common.{◌++◌, [], ◌∷◌}
use Rattle.rinda_rules.specs.Sound.{hears_within}
use Rattle.rinda_notify.specs.Notes.{note_of, told}
use Rattle.rinda_notify.proofs.Told.{each_seen, raised_is_told}
use Rattle.rinda_notify.proofs.laws.raised_is_told.Goals as goal

pub returns : goal.returns
returns c s e heard = each_seen (hears_within s.events) (note_of s.events) (note_of (s.events ++ e ∷ [])) (told e.what e.tuple) s.notifiers (raised_is_told s.events e) heard
