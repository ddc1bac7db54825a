-- A caller's pass, from call to call.
use Rattle.std.proofs.Common.{◌≡◌, ◌∙◌, List, [], ap, subst}
use Rattle.std.specs.Prelude.{Some}
use Rattle.drb_monitor.specs.Passes.{Site, Knowledge, IsPassOf, split_off, with_next_out}
use Rattle.rinda_rules.specs.declared.turn.Turn.{Turn}
use Rattle.rinda_space.specs.Entered.{Basis}
use Rattle.drb_session.specs.Passes.{Lawful, Sees, turns_by}
use Rattle.drb_shared.specs.Sharing.{shared, IsReady}

some_is : {A : Type 0} (x y : A) → Some x ≡ Some y → x ≡ y
some_is x y e = cc

both_are : (a b : Basis) → a.0 ≡ b.0 → a.1 ≡ b.1 → a ≡ b
both_are a b e f = ap (λ q. (q, a.1)) e ∙ ap (λ q. (b.0, q)) f

-- what whoever had the caller did leaves the pass ready
pub ready_after : (m m' : Site Basis) (k k' : Knowledge Turn Basis) (made : List Turn) → IsReady m k → IsPassOf m' k' → Sees (shared m.basis k) (shared m'.basis k') made → Lawful (shared m'.basis k') → IsReady m k'
ready_after m m' k k' made r of sees lawful =
    let same : k'.monitor ≡ k.monitor = some_is _ _ sees.beside in
    let basis : m'.basis ≡ m.basis = both_are m'.basis m.basis sees.start sees.cap in
    record {
      of = (same ∙ r.of.0, of.1 ∙ ap (λ q. Some q) basis);
      empty = r.empty;
      lawful = subst (λ (b : Basis). Lawful (shared b k')) basis lawful;
    }

-- a pass that was split off has no turns
pub ready_split : (m : Site Basis) (k : Knowledge Turn Basis) → IsReady m k → turns_by k.next k.seen ≡ [] → IsReady m (split_off k)
ready_split m k r fresh = record {
  of = r.of;
  empty = r.empty;
  lawful = record { origin = r.lawful.origin; starts = r.lawful.starts; legal = r.lawful.legal; own = fresh; few = r.lawful.few; short = r.lawful.short };
}

-- and the first one goes on
pub ready_next : (m : Site Basis) (k : Knowledge Turn Basis) → IsReady m k → IsReady m (with_next_out k)
ready_next m k r = record {
  of = r.of;
  empty = r.empty;
  lawful = record { origin = r.lawful.origin; starts = r.lawful.starts; legal = r.lawful.legal; own = r.lawful.own; few = r.lawful.few; short = r.lawful.short };
}
