-- What contracts see of a reader, as its tables change.
use Rattle.std.proofs.Common.{◌≡◌, ℕ, ◌≤◌, List, [], ◌∷◌, ◌++◌, length, drop, Option, Some, None, option_map, refl, sym, ap, arith, subst, length-append}
use Rattle.std.specs.Prelude.{zero, suc, slice_set, slice_get}
use Rattle.std.proofs.lemmas.List.{take-append-le, take_all}
use Rattle.drb_tree.specs.declared.Tree.{Tree}
use Rattle.marshal_grammar.specs.Contexts.{finish_object, add_object}
use Rattle.marshal_read.specs.declared.steps.Step.{Step}
use Rattle.marshal_read.specs.declared.reader.Reader.TheInside.{Inside}
use Rattle.marshal_read.specs.State.{State}
use Rattle.marshal_read.specs.Making.{value_of, MakesOne, cut, objects_at, Stands, ObjectsStand}
use Rattle.marshal_read.specs.View.{state_of, Sound}

-- the last step, replaced
pub replaced : (ss : List Step) (s t : Step) → slice_set (ss ++ (s ∷ [])) (length ss) t ≡ ss ++ (t ∷ [])
replaced [] s t = refl
replaced (r ∷ ss) s t = ap (λ (rs : List Step). r ∷ rs) (replaced ss s t)

-- steps that were there before stay
cut-append : (ss ts : List Step) (r : ℕ × ℕ) → r.1 ≤ length ss → cut r (ss ++ ts) ≡ cut r ss
cut-append ss ts r h = ap (drop r.0) (take-append-le r.1 ss ts h)

Stands-append : (ss ts : List Step) (r : ℕ × ℕ) → Stands ss r → Stands (ss ++ ts) r
Stands-append ss ts r h = record {
  ordered = h.ordered;
  within = omega (arith, h.within, length-append ss ts);
  makes = subst MakesOne (sym (cut-append ss ts r h.within)) h.makes;
}

ObjectsStand-append : (ss ts : List Step) (os : List (Option (ℕ × ℕ))) → ObjectsStand ss os → ObjectsStand (ss ++ ts) os
ObjectsStand-append ss ts [] h = tt
ObjectsStand-append ss ts (None ∷ os) h = ObjectsStand-append ss ts os h
ObjectsStand-append ss ts (Some r ∷ os) h = (Stands-append ss ts r h.0, ObjectsStand-append ss ts os h.1)

objects_at-append : (ss ts : List Step) (os : List (Option (ℕ × ℕ))) → ObjectsStand ss os → objects_at (ss ++ ts) os ≡ objects_at ss os
objects_at-append ss ts [] h = refl
objects_at-append ss ts (None ∷ os) h = ap (λ (xs : List (Option Tree)). None ∷ xs) (objects_at-append ss ts os h)
objects_at-append ss ts (Some r ∷ os) h = rw (cut-append ss ts r h.0.within, objects_at-append ss ts os h.1) refl

-- a further object
ObjectsStand-one : (ss : List Step) (os : List (Option (ℕ × ℕ))) (o : Option (ℕ × ℕ)) → ObjectsStand ss os → ObjectsStand ss (o ∷ []) → ObjectsStand ss (os ++ (o ∷ []))
ObjectsStand-one ss [] o h k = k
ObjectsStand-one ss (None ∷ os) o h k = ObjectsStand-one ss os o h k
ObjectsStand-one ss (Some r ∷ os) o h k = (h.0, ObjectsStand-one ss os o h.1 k)

objects_at-one : (ss : List Step) (os : List (Option (ℕ × ℕ))) (o : Option (ℕ × ℕ)) → objects_at ss (os ++ (o ∷ [])) ≡ objects_at ss os ++ (option_map (λ r. value_of (cut r ss)) o ∷ [])
objects_at-one ss [] o = refl
objects_at-one ss (p ∷ os) o = ap (λ (xs : List (Option Tree)). option_map (λ r. value_of (cut r ss)) p ∷ xs) (objects_at-one ss os o)

ObjectsStand-set : (ss : List Step) (os : List (Option (ℕ × ℕ))) (k : ℕ) (r : ℕ × ℕ) → ObjectsStand ss os → Stands ss r → ObjectsStand ss (slice_set os k (Some r))
ObjectsStand-set ss [] k r h s = h
ObjectsStand-set ss (None ∷ os) zero r h s = (s, h)
ObjectsStand-set ss (Some q ∷ os) zero r h s = (s, h.1)
ObjectsStand-set ss (None ∷ os) (suc k) r h s = ObjectsStand-set ss os k r h s
ObjectsStand-set ss (Some q ∷ os) (suc k) r h s = (h.0, ObjectsStand-set ss os k r h.1 s)

objects_at-set : (ss : List Step) (os : List (Option (ℕ × ℕ))) (k : ℕ) (r : ℕ × ℕ) → objects_at ss (slice_set os k (Some r)) ≡ slice_set (objects_at ss os) k (Some (value_of (cut r ss)))
objects_at-set ss [] k r = refl
objects_at-set ss (o ∷ os) zero r = refl
objects_at-set ss (o ∷ os) (suc k) r = ap (λ (xs : List (Option Tree)). option_map (λ q. value_of (cut q ss)) o ∷ xs) (objects_at-set ss os k r)

-- the steps up to the last
pub cut_to_end : (ss : List Step) (s e : ℕ) → e ≡ length ss → cut (s, e) ss ≡ drop s ss
cut_to_end ss s e h = ap (drop s) (take_all e ss (omega (arith, h)))

pub stands_to_end : (ss : List Step) (s e : ℕ) → e ≡ length ss → s ≤ length ss → MakesOne (drop s ss) → Stands ss (s, e)
stands_to_end ss s e h le m = record {
  ordered = omega (arith, h);
  within = omega (arith, h);
  makes = subst MakesOne (sym (cut_to_end ss s e h)) m;
}

pub steps_are : (a : Inside) (s : State) → state_of a ≡ s → a.steps ≡ s.steps
steps_are a s v = ap (λ (z : State). z.steps) v

pub pushed : (a : Inside) (s : State) (x : Step) → state_of a ≡ s → Sound a → state_of (record a { steps = a.steps ++ (x ∷ []) }) ≡ record s { steps = s.steps ++ (x ∷ []) }
pushed a s x v h = rw (objects_at-append a.steps (x ∷ []) a.objects h.objects, ← v) refl

pub pushed_sound : (a : Inside) (x : Step) → Sound a → Sound (record a { steps = a.steps ++ (x ∷ []) })
pushed_sound a x h = record { place = h.place; objects = ObjectsStand-append a.steps (x ∷ []) a.objects h.objects }

pub begun_sound : (a : Inside) → Sound a → Sound (record a { objects = a.objects ++ (None ∷ []) })
begun_sound a h = record { place = h.place; objects = ObjectsStand-one a.steps a.objects None h.objects tt }

pub begun_is : (a : Inside) → objects_at a.steps (a.objects ++ (None ∷ [])) ≡ objects_at a.steps a.objects ++ (None ∷ [])
begun_is a = objects_at-one a.steps a.objects None

pub finished_is : (a : Inside) (s : State) (k : ℕ) (b e : ℕ) → state_of a ≡ s → e ≡ length a.steps
    → state_of (record a { objects = slice_set a.objects k (Some (b, e)) }) ≡ record s { seen = finish_object k (value_of (drop b s.steps)) s.seen }
finished_is a s k b e v h = rw (objects_at-set a.steps a.objects k (b, e), cut_to_end a.steps b e h, ← v) refl

pub finished_sound : (a : Inside) (s : State) (k b e : ℕ) → state_of a ≡ s → e ≡ length a.steps → b ≤ length s.steps → MakesOne (drop b s.steps) → Sound a
    → Sound (record a { objects = slice_set a.objects k (Some (b, e)) })
finished_sound a s k b e v h le m snd = record {
  place = snd.place;
  objects = ObjectsStand-set a.steps a.objects k (b, e) snd.objects
      (stands_to_end a.steps b e h (omega (arith, ap length (steps_are a s v))) (subst (λ (ss : List Step). MakesOne (drop b ss)) (sym (steps_are a s v)) m));
}

pub added_is : (a : Inside) (s : State) (b e : ℕ) → state_of a ≡ s → e ≡ length a.steps
    → state_of (record a { objects = a.objects ++ (Some (b, e) ∷ []) }) ≡ record s { seen = add_object (value_of (drop b s.steps)) s.seen }
added_is a s b e v h = rw (objects_at-one a.steps a.objects (Some (b, e)), cut_to_end a.steps b e h, ← v) refl

pub added_sound : (a : Inside) (s : State) (b e : ℕ) → state_of a ≡ s → e ≡ length a.steps → b ≤ length s.steps → MakesOne (drop b s.steps) → Sound a
    → Sound (record a { objects = a.objects ++ (Some (b, e) ∷ []) })
added_sound a s b e v h le m snd = record {
  place = snd.place;
  objects = ObjectsStand-one a.steps a.objects (Some (b, e)) snd.objects
      (stands_to_end a.steps b e h (omega (arith, ap length (steps_are a s v))) (subst (λ (ss : List Step). MakesOne (drop b ss)) (sym (steps_are a s v)) m), tt);
}

-- a finished object is made by steps that are there
stands_at : (ss : List Step) (os : List (Option (ℕ × ℕ))) (k : ℕ) (r : ℕ × ℕ) → ObjectsStand ss os → slice_get os k ≡ Some (Some r) → Stands ss r
stands_at ss [] k r h e = absurd (cc)
stands_at ss (None ∷ os) zero r h e = absurd (cc)
stands_at ss (Some q ∷ os) zero r h e = let p : r ≡ q = cc in rw p h.0
stands_at ss (None ∷ os) (suc k) r h e = stands_at ss os k r h e
stands_at ss (Some q ∷ os) (suc k) r h e = stands_at ss os k r h.1 e

pub object_stands : (a : Inside) (s : State) (k : ℕ) (r : ℕ × ℕ) → state_of a ≡ s → Sound a → slice_get a.objects k ≡ Some (Some r) → Stands s.steps r
object_stands a s k r v h e = subst (λ (ss : List Step). Stands ss r) (steps_are a s v) (stands_at a.steps a.objects k r h.objects e)
