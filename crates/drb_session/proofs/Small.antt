-- Laws on what a run does.
use Rattle.std.proofs.Common.{◌≡◌, ℕ, ◌≤◌, List, [], ◌∷◌, ◌++◌, map, refl, sym, ◌∙◌, ap, subst, append_assoc, arith, inl, inr}
use Rattle.std.proofs.lemmas.Grind.{common_steps}
use Rattle.std.specs.Prelude.{None, Some}
use Rattle.std.specs.declared.option.Option.{Option}
use Rattle.drb_outside.specs.Told.{Reads}
use Rattle.drb_outside.specs.Telling.{told_on, told_same, rose_in}
use Rattle.drb_outside.specs.Records.{Record}
use Rattle.rinda_rules.specs.declared.turn.Turn.{Turn}
use Rattle.drb_script.specs.Stands.{Action, turned, called}
use Rattle.drb_session.specs.Passes.{Pass, Sees}
use Rattle.drb_session.specs.Clocks.{Among, ReadsAll, ReadsFor}
use Rattle.drb_tree.specs.declared.Remote.{Remote}
use Rattle.drb_back.specs.declared.back.Back.{Back}
use Rattle.drb_dispatch.specs.declared.place.Place.{Place}
use Rattle.drb_script.specs.declared.next.Saying.{Saying}
use Rattle.drb_session.specs.Peers.{Caused}
use Rattle.drb_session.specs.Calls.{turns_of, ats_of, CallsAll, CausedAll}
use Rattle.drb_session.specs.Runs.{Side, side, Did}

pub nothing_more : {X : Type 0} (x : List X) → x ≡ x ++ []
nothing_more x = grind (arith, common_steps)

pub sees_same : (p : Pass) → Sees p p []
sees_same p = record { caller = refl; start = refl; cap = refl; beside = refl; mine = nothing_more p.mine; more = []; grown = nothing_more p.seen; known = omega arith; alone = λ h. nothing_more p.seen }

pub sees_on : (a b c : Pass) (xs ys : List Turn) → Sees a b xs → Sees b c ys → Sees a c (xs ++ ys)
sees_on a b c xs ys h k = record {
  caller = k.caller ∙ h.caller;
  start = k.start ∙ h.start;
  cap = k.cap ∙ h.cap;
  beside = k.beside ∙ h.beside;
  mine = k.mine ∙ ap (λ q. q ++ ys) h.mine ∙ append_assoc a.mine xs ys;
  more = h.more ++ k.more;
  grown = k.grown ∙ ap (λ q. q ++ k.more) h.grown ∙ append_assoc a.seen h.more k.more;
  known = omega (arith, h.known, k.known);
  alone = λ e. k.alone (h.beside ∙ e) ∙ ap (λ q. q ++ ys) (h.alone e) ∙ append_assoc a.seen xs ys;
}

among_more : (xs more ys : List ℕ) → Among xs ys → Among xs (more ++ ys)
among_more xs [] ys h = h
among_more [] (m ∷ more) ys h = tt
among_more (x ∷ xs) (m ∷ more) ys h = inr (among_more (x ∷ xs) more ys h)

pub among_on : (xs ys zs ws : List ℕ) → Among xs ys → Among zs ws → Among (xs ++ zs) (ys ++ ws)
among_on [] ys zs ws h k = among_more zs ys ws k
among_on (x ∷ xs) [] zs ws h k = absurd h
among_on (x ∷ xs) (y ∷ ys) zs ws h k = elim h [
  | inl e ↦ inl (e.0, among_on xs ys zs ws e.1 k)
  | inr e ↦ inr (among_on (x ∷ xs) ys zs ws e k)
]

reads_all_on : (a b c : Option (List ℕ)) (xs ys : List ℕ) → ReadsAll a b xs → ReadsAll b c ys → ReadsAll a c (xs ++ ys)
reads_all_on None None None xs ys h k = tt
reads_all_on None None (Some c) xs ys h k = absurd k
reads_all_on None (Some b) c xs ys h k = absurd h
reads_all_on (Some a) None None xs ys h k = grind (arith, common_steps)
reads_all_on (Some a) None (Some c) xs ys h k = absurd k
reads_all_on (Some a) (Some b) None xs ys h k = grind (arith, common_steps)
reads_all_on (Some a) (Some b) (Some c) xs ys h k = k ∙ ap (λ q. q ++ ys) h ∙ append_assoc a xs ys

reads_all_none : (a : Option (List ℕ)) → ReadsAll a a []
reads_all_none None = tt
reads_all_none (Some x) = nothing_more x

reads_all_one : (a b : Option (List ℕ)) (at : ℕ) → Reads a b at → ReadsAll a b (at ∷ [])
reads_all_one None None at h = tt
reads_all_one None (Some b) at h = absurd h
reads_all_one (Some a) None at h = h
reads_all_one (Some a) (Some b) at h = h

pub reads_none : (a : Option (List ℕ)) → ReadsFor a a []
reads_none a = record { readings = []; among = tt; gave = reads_all_none a }

pub reads_on : (a b c : Option (List ℕ)) (xs ys : List ℕ) → ReadsFor a b xs → ReadsFor b c ys → ReadsFor a c (xs ++ ys)
reads_on a b c xs ys h k = record {
  readings = h.readings ++ k.readings;
  among = among_on xs h.readings ys k.readings h.among k.among;
  gave = reads_all_on a b c h.readings k.readings h.gave k.gave;
}

-- a reading for a turn, or for none
pub reads_one : (a b : Option (List ℕ)) (at : ℕ) → Reads a b at → ReadsFor a b (at ∷ [])
reads_one a b at h = record { readings = at ∷ []; among = inl (refl, tt); gave = reads_all_one a b at h }

pub reads_spare : (a b : Option (List ℕ)) (at : ℕ) → Reads a b at → ReadsFor a b []
reads_spare a b at h = record { readings = at ∷ []; among = tt; gave = reads_all_one a b at h }

pub turns_on : (xs ys : List Action) → turns_of (xs ++ ys) ≡ turns_of xs ++ turns_of ys
turns_on [] ys = refl
turns_on (turned t ∷ xs) ys = ap (λ q. t ∷ q) (turns_on xs ys)
turns_on (called to saying back ∷ xs) ys = turns_on xs ys

pub ats_on : (xs ys : List Turn) → ats_of (xs ++ ys) ≡ ats_of xs ++ ats_of ys
ats_on [] ys = refl
ats_on (t ∷ xs) ys = ap (λ q. t.at ∷ q) (ats_on xs ys)

pub calls_on : (place : Place) (xs ys : List Action) (a b c : List Record) → CallsAll place xs a b → CallsAll place ys b c → CallsAll place (xs ++ ys) a c
calls_on place [] ys a b c h k = subst (λ (q : List Record). CallsAll place ys q c) h k
calls_on place (turned t ∷ xs) ys a b c h k = calls_on place xs ys a b c h k
calls_on place (called to saying back ∷ xs) ys a b c h k = (h.0, h.1, calls_on place xs ys h.0 b c h.2 k)

-- turns call nobody
pub no_calls : (place : Place) (turns : List Turn) (a : List Record) → CallsAll place (map turned turns) a a
no_calls place [] a = refl
no_calls place (t ∷ turns) a = no_calls place turns a

-- a cause in a part of the calls is one in all
caused_in : (place : Place) (a b c d : ℕ) (to : Remote) (saying : Saying) (back : Back) → a ≤ b → c ≤ d → Caused place b c to saying back → Caused place a d to saying back
caused_in place a b c d to saying back p q h = elim h [
  | inl none ↦ inl none
  | inr k ↦ inr (record {
    args = k.args;
    arguments = k.arguments;
    short = k.short;
    bad_uri = k.bad_uri;
    too_long = k.too_long;
    every_too_long = k.every_too_long;
    fault = λ f. rose_in a b c d p q (k.fault f);
  })
]

causes_in : (place : Place) (a b c d : ℕ) (xs : List Action) → a ≤ b → c ≤ d → CausedAll place b c xs → CausedAll place a d xs
causes_in place a b c d [] p q h = tt
causes_in place a b c d (turned t ∷ xs) p q h = causes_in place a b c d xs p q h
causes_in place a b c d (called to saying back ∷ xs) p q h = (caused_in place a b c d to saying back p q h.0, causes_in place a b c d xs p q h.1)

causes_both : (place : Place) (a b : ℕ) (xs ys : List Action) → CausedAll place a b xs → CausedAll place a b ys → CausedAll place a b (xs ++ ys)
causes_both place a b [] ys h k = k
causes_both place a b (turned t ∷ xs) ys h k = causes_both place a b xs ys h k
causes_both place a b (called to saying back ∷ xs) ys h k = (h.0, causes_both place a b xs ys h.1 k)

pub causes_on : (place : Place) (a b c : ℕ) (xs ys : List Action) → a ≤ b → b ≤ c → CausedAll place a b xs → CausedAll place b c ys → CausedAll place a c (xs ++ ys)
causes_on place a b c xs ys p q h k = causes_both place a c xs ys (causes_in place a a b c xs (omega arith) q h) (causes_in place a b c c ys p (omega arith) k)

no_causes : (place : Place) (a b : ℕ) (turns : List Turn) → CausedAll place a b (map turned turns)
no_causes place a b [] = tt
no_causes place a b (t ∷ turns) = no_causes place a b turns

pub turns_back : (turns : List Turn) → turns_of (map turned turns) ≡ turns
turns_back [] = refl
turns_back (t ∷ turns) = ap (λ q. t ∷ q) (turns_back turns)

-- nothing was done
pub did_none : (place : Place) (s : Side) → Did place s s []
did_none place s = record { sees = sees_same s.pass; reads = reads_none s.readings; calls = told_same (CallsAll place []) s.calls s.faults (λ x. refl); causes = tt; later = omega arith }

-- first these, and then those
pub did_on : (place : Place) (a b c : Side) (xs ys : List Action) → Did place a b xs → Did place b c ys → Did place a c (xs ++ ys)
did_on place a b c xs ys h k = record {
  sees = subst (λ (q : List Turn). Sees a.pass c.pass q) (sym (turns_on xs ys)) (sees_on a.pass b.pass c.pass (turns_of xs) (turns_of ys) h.sees k.sees);
  reads = subst (λ (q : List ℕ). ReadsFor a.readings c.readings q) (sym (ap (λ q. ats_of q) (turns_on xs ys) ∙ ats_on (turns_of xs) (turns_of ys))) (reads_on a.readings b.readings c.readings (ats_of (turns_of xs)) (ats_of (turns_of ys)) h.reads k.reads);
  calls = told_on (CallsAll place xs) (CallsAll place ys) (CallsAll place (xs ++ ys)) a.calls b.calls c.calls b.faults c.faults k.later (λ x y z p q. calls_on place xs ys x y z p q) h.calls k.calls;
  causes = causes_on place a.faults b.faults c.faults xs ys h.later k.later h.causes k.causes;
  later = omega (arith, h.later, k.later);
}

-- turns of one's own alone
pub did_turns : (place : Place) (n : ℕ) (p p' : Pass) (r r' : Option (List ℕ)) (c : Option (List Record)) (turns : List Turn) → Sees p p' turns → ReadsFor r r' (ats_of turns) → Did place (side p r c n) (side p' r' c n) (map turned turns)
did_turns place n p p' r r' c turns h k = record {
  sees = subst (λ (q : List Turn). Sees p p' q) (sym (turns_back turns)) h;
  reads = subst (λ (q : List Turn). ReadsFor r r' (ats_of q)) (sym (turns_back turns)) k;
  calls = told_same (CallsAll place (map turned turns)) c n (λ x. no_calls place turns x);
  causes = no_causes place n n turns;
  later = omega arith;
}
