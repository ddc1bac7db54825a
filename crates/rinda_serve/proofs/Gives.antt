-- A request gets a tuple, by its kind.
use Rattle.std.proofs.Common.{◌≡◌, ℕ, Some, None, Result, Ok, Err}
use Rattle.std.specs.Prelude.{IfOk}
use Rattle.rinda_tuple.specs.Tuples.{value_of}
use Rattle.rinda_rules.specs.declared.event.Kind.TheVariants as kind
use Rattle.rinda_rules.specs.declared.object.Last.TheVariants as last
use Rattle.rinda_rules.specs.declared.out.Out.TheVariants as out
use Rattle.rinda_rules.specs.declared.row.RequestState.TheVariants as state
use Rattle.rinda_rules.specs.declared.plain.Entry.{Entry}
use Rattle.rinda_rules.specs.declared.plain.Request.{Request}
use Rattle.rinda_rules.specs.Space.{Plain}
use Rattle.rinda_rules.specs.Phases.{request_in, served_with, tuple_ended, with_tuple, held_by}
use Rattle.rinda_tables.specs.Holds.{Held, Holds}

pub given-read : (s : Plain) (r : Request) (t : Entry) (b : Held) (request : ℕ) → r.kind ≡ kind.Read → r.id ≡ request → Holds (request_in request (state.Answered (out.Answer (value_of t.value))) s) b → Holds (served_with r t s) b
given-read s r t b request k is h = rw (k, is) h

pub given-take : (s : Plain) (r : Request) (t : Entry) (b : Held) (request : ℕ) → r.kind ≡ kind.Take → r.id ≡ request → Holds (tuple_ended last.Taken t (request_in request (state.Answered (out.Answer (value_of t.value))) s)) b → Holds (served_with r t s) b
given-take s r t b request k is h = rw (k, is) h

pub given-move : (s : Plain) (r : Request) (t : Entry) (b : Held) (request tuple : ℕ) → r.kind ≡ kind.Move → r.id ≡ request → t.id ≡ tuple → Holds (request_in request (state.Granted tuple) (with_tuple tuple (held_by request) s)) b → Holds (served_with r t s) b
given-move s r t b request tuple k is here h = rw (k, is, here) h

-- What is read of rows.

pub some-same : {A : Type 0} (x y : A) → Some x ≡ Some y → x ≡ y
some-same x y e = cc

pub none-there : {A : Type 0} (x : A) → None ≡ Some x → ⊥
none-there x e = cc

pub if-ok-two : {X Y : Type 0} (r : Result X Y) (P Q S : X → Type 0) → ((x : X) → P x → Q x → S x) → IfOk r P → IfOk r Q → IfOk r S
if-ok-two (Ok x) P Q S f p q = f x p q
if-ok-two (Err e) P Q S f p q = tt
