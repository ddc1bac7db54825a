-- What the keeper's clock has told.
use Rattle.std.proofs.Common.{◌≡◌, ℕ, ◌+◌, ◌≤◌, ◌<◌, List, [], ◌∷◌, ◌++◌, length, refl, sym, ap, ◌∙◌, arith, length-append}
use Rattle.std.specs.Prelude.{None, Some}
use Rattle.std.specs.declared.option.Option.{Option}
use Rattle.drb_outside.specs.Told.{Reads}
use Rattle.drb_session.specs.Clocks.{ReadsAll}
use Rattle.std.specs.Prelude.{Bool}
use Rattle.drb_packet.specs.declared.request.Limits.{Limits}
use Rattle.drb_session.specs.Runs.{Side}
use Rattle.drb_keeper.specs.declared.owed.Owed.{Owed}
use Rattle.drb_keeper.specs.declared.owed.KeeperEnd.{KeeperEnd}
use Rattle.drb_keeper.specs.Deeds.{ats_of}
use Rattle.drb_keeper.specs.Keeping.{Steps}
use Rattle.drb_serving.specs.Serving.{NotFewer, WasRead}

pub not_fewer_same : (a : Option (List ℕ)) → NotFewer a a
not_fewer_same None = tt
not_fewer_same (Some a) = omega arith

pub not_fewer_on : (a b c : Option (List ℕ)) → NotFewer a b → NotFewer b c → NotFewer a c
not_fewer_on None None None p q = tt
not_fewer_on None None (Some c) p q = absurd q
not_fewer_on None (Some b) c p q = absurd p
not_fewer_on (Some a) None None p q = tt
not_fewer_on (Some a) None (Some c) p q = absurd q
not_fewer_on (Some a) (Some b) None p q = tt
not_fewer_on (Some a) (Some b) (Some c) p q = omega (arith, p, q)

pub not_fewer_read : (a b : Option (List ℕ)) (at : ℕ) → Reads a b at → NotFewer a b
not_fewer_read None None at p = tt
not_fewer_read None (Some b) at p = absurd p
not_fewer_read (Some a) None at p = tt
not_fewer_read (Some a) (Some b) at p = omega (arith, ap (λ q. length q) p, length-append a (at ∷ []))

pub not_fewer_all : (a b : Option (List ℕ)) (ats : List ℕ) → ReadsAll a b ats → NotFewer a b
not_fewer_all None None ats p = tt
not_fewer_all None (Some b) ats p = absurd p
not_fewer_all (Some a) None ats p = tt
not_fewer_all (Some a) (Some b) ats p = omega (arith, ap (λ q. length q) p, length-append a ats)

pub not_fewer_stepped : (limits : Limits) (shut : Bool) (before after : Option Owed) (old new : Side) (end : KeeperEnd) → Steps limits shut before after old new end → NotFewer old.readings new.readings
not_fewer_stepped limits shut before after old new end h = not_fewer_all old.readings new.readings (ats_of h.deeds) h.reads

-- what was read before, and then one reading at least
pub was_read : (a b c : Option (List ℕ)) (ats : List ℕ) (last : ℕ) → NotFewer a b → ReadsAll b c (ats ++ last ∷ []) → WasRead a c
was_read None None None ats last p q = tt
was_read None None (Some c) ats last p q = absurd q
was_read None (Some b) c ats last p q = absurd p
was_read (Some a) None None ats last p q = tt
was_read (Some a) None (Some c) ats last p q = absurd q
was_read (Some a) (Some b) None ats last p q = tt
was_read (Some a) (Some b) (Some c) ats last p q = omega (arith, p, ap (λ l. length l) q, length-append b (ats ++ last ∷ []), length-append ats (last ∷ []))

pub was_read_on : (a b c : Option (List ℕ)) → NotFewer a b → WasRead b c → WasRead a c
was_read_on None None None p q = tt
was_read_on None None (Some c) p q = absurd q
was_read_on None (Some b) c p q = absurd p
was_read_on (Some a) None None p q = tt
was_read_on (Some a) None (Some c) p q = absurd q
was_read_on (Some a) (Some b) None p q = tt
was_read_on (Some a) (Some b) (Some c) p q = omega (arith, p, q)
