-- Steps of a writer, one after the other.
use Rattle.std.proofs.Common.{◌≡◌, ℕ, ◌<◌, List, [], ◌++◌, length, append_assoc, length-append, sym, ap, refl, ◌∙◌, ◌-◌, append-nil, arith, Result, Ok, Err}
use Rattle.marshal_grammar.specs.Spelled.{Writing, these, ◌then◌, string_bytes_of, long_from}
use Rattle.marshal_write.specs.declared.error.WriteError.{WriteError}
use Rattle.marshal_write.specs.declared.error.WriteError.TheVariants.{TooLong}
use Rattle.marshal_write.specs.declared.writer.Writer.{Writer}
use Rattle.marshal_write.specs.Written.{Written, Stopped, Writes}

pub written_then : (u w : Writing) (a b c : Writer) → Written u a b → Written w b c → Written (u then w) a c
written_then u w a b c h k = record {
  bytes = k.bytes ∙ ap (λ (bs : List ℕ). bs ++ (w b.symbols).0) h.bytes ∙ append_assoc a.bytes.items (u a.symbols).0 (w b.symbols).0 ∙ ap (λ (s : List (List ℕ)). a.bytes.items ++ ((u a.symbols).0 ++ (w s).0)) h.symbols;
  symbols = k.symbols ∙ ap (λ (s : List (List ℕ)). (w s).1) h.symbols;
  limit = k.limit ∙ h.limit;
  within = λ i. omega (arith, h.within i, k.within (omega (arith, h.within i, h.limit)), h.limit);
}

-- it stops at the first step
pub stopped_first : (u w : Writing) (a b : Writer) (e : WriteError) → Stopped u a b e → Stopped (u then w) a b e
stopped_first u w a b e h = record {
  front = h.front;
  too_long = λ i. omega (arith, h.too_long i, length-append (u a.symbols).0 (w (u a.symbols).1).0);
}

-- it stops after the first step
pub stopped_then : (u w : Writing) (a b c : Writer) (e : WriteError) → Written u a b → Stopped w b c e → Stopped (u then w) a c e
stopped_then u w a b c e h k = record {
  front = ((u a.symbols).0 ++ k.front.0, k.front.1 ∙ ap (λ (bs : List ℕ). bs ++ k.front.0) h.bytes ∙ append_assoc a.bytes.items (u a.symbols).0 k.front.0);
  too_long = λ i. omega (arith, k.too_long i, h.limit, ap length h.bytes, length-append a.bytes.items (u a.symbols).0, length-append (u a.symbols).0 (w (u a.symbols).1).0, ap (λ (s : List (List ℕ)). length (w s).0) h.symbols);
}

-- two lists of bytes, one after the other
pub these_then : (a b : List ℕ) (s : List (List ℕ)) → (these a then these b) s ≡ these (a ++ b) s
these_then a b s = refl

-- only what is written from the symbols of `old` counts
pub written_as : (u w : Writing) (a b : Writer) → u a.symbols ≡ w a.symbols → Written u a b → Written w a b
written_as u w a b e h = record {
  bytes = h.bytes ∙ ap (λ (r : List ℕ × List (List ℕ)). a.bytes.items ++ r.0) e;
  symbols = h.symbols ∙ ap (λ (r : List ℕ × List (List ℕ)). r.1) e;
  limit = h.limit;
  within = h.within;
}

pub stopped_as : (u w : Writing) (a b : Writer) (e : WriteError) → u a.symbols ≡ w a.symbols → Stopped u a b e → Stopped w a b e
stopped_as u w a b e p h = record {
  front = h.front;
  too_long = λ i. omega (arith, h.too_long i, ap (λ (r : List ℕ × List (List ℕ)). length r.0) p);
}

-- a step, and what comes after it
pub writes_then : (u w : Writing) (a b c : Writer) (r : Result (Unit {0}) WriteError) → Written u a b → Writes w b c r → Writes (u then w) a c r
writes_then u w a b c (Ok x) h k = written_then u w a b c h k
writes_then u w a b c (Err e) h k = stopped_then u w a b c e h k

-- what is written otherwise
pub writes_as : (u w : Writing) (a b : Writer) (r : Result (Unit {0}) WriteError) → u a.symbols ≡ w a.symbols → Writes u a b r → Writes w a b r
writes_as u w a b (Ok x) p h = written_as u w a b p h
writes_as u w a b (Err e) p h = stopped_as u w a b e p h

-- a first step that gave up
pub gave_up_first : (u w : Writing) (a b : Writer) (e : WriteError) (r : Result (Unit {0}) WriteError) → r ≡ Err e → Stopped u a b e → Writes (u then w) a b r
gave_up_first u w a b e r p h = rw p (stopped_first u w a b e h)

-- a later step that gave up
pub gave_up_then : (u v w : Writing) (a b c : Writer) (e : WriteError) (r : Result (Unit {0}) WriteError) → r ≡ Err e → Written u a b → Stopped v b c e → Writes (u then (v then w)) a c r
gave_up_then u v w a b c e r p h k = rw p (stopped_then u (v then w) a b c e h (stopped_first v w b c e k))

-- a list of bytes that is too long by itself
pub inner_stopped : (bs : List ℕ) (b : Writer) (e : WriteError) (room : ℕ) → room ≡ b.limit - length b.bytes.items → (e ≡ TooLong → room < length bs) → Stopped (these (string_bytes_of bs)) b b e
inner_stopped bs b e room p h = record {
  front = ([], sym (append-nil b.bytes.items));
  too_long = λ i. omega (arith, h i, length-append (long_from (length bs)) bs);
}

-- the last of three steps gave up
pub gave_up_last : (u v w : Writing) (a b c d : Writer) (e : WriteError) (r : Result (Unit {0}) WriteError) → r ≡ Err e → Written u a b → Written v b c → Stopped w c d e → Writes (u then (v then w)) a d r
gave_up_last u v w a b c d e r p h k s = rw p (stopped_then u (v then w) a b d e h (stopped_then v w b c d e k s))

-- two lists of bytes, one after the other, are one
pub written_joined : (x y bs : List ℕ) (a b c : Writer) → x ++ y ≡ bs → Written (these x) a b → Written (these y) b c → Written (these bs) a c
written_joined x y bs a b c p h k = written_as (these x then these y) (these bs) a c (ap (λ (zs : List ℕ). these zs a.symbols) p) (written_then (these x) (these y) a b c h k)

pub stopped_joined : (x y bs : List ℕ) (a b c : Writer) (e : WriteError) → x ++ y ≡ bs → Written (these x) a b → Stopped (these y) b c e → Stopped (these bs) a c e
stopped_joined x y bs a b c e p h k = stopped_as (these x then these y) (these bs) a c e (ap (λ (zs : List ℕ). these zs a.symbols) p) (stopped_then (these x) (these y) a b c e h k)

-- the second half of a first step gave up
pub gave_up_joined : (x y bs : List ℕ) (w : Writing) (a b c : Writer) (e : WriteError) (r : Result (Unit {0}) WriteError) → r ≡ Err e → x ++ y ≡ bs → Written (these x) a b → Stopped (these y) b c e → Writes (these bs then w) a c r
gave_up_joined x y bs w a b c e r q p h k = gave_up_first (these bs) w a c e r q (stopped_joined x y bs a b c e p h k)

-- grouped otherwise
pub then_assoc : (u v w : Writing) (s : List (List ℕ)) → ((u then v) then w) s ≡ (u then (v then w)) s
then_assoc u v w s = ap (λ (bs : List ℕ). let r : List ℕ × List (List ℕ) = (bs, (w (v (u s).1).1).1) in r) (append_assoc (u s).0 (v (u s).1).0 (w (v (u s).1).1).0)

-- the third of four steps gave up
pub gave_up_third : (u v w x : Writing) (a b c d : Writer) (e : WriteError) (r : Result (Unit {0}) WriteError) → r ≡ Err e → Written u a b → Written v b c → Stopped w c d e → Writes (u then (v then (w then x))) a d r
gave_up_third u v w x a b c d e r p h k m = rw p (stopped_then u (v then (w then x)) a b d e h (stopped_then v (w then x) b c d e k (stopped_first w x c d e m)))

-- four steps, grouped otherwise
pub then_assoc_4 : (u v w x : Writing) (s : List (List ℕ)) → ((u then (v then w)) then x) s ≡ (u then (v then (w then x))) s
then_assoc_4 u v w x s = then_assoc u (v then w) x s ∙ ap (λ (r : List ℕ × List (List ℕ)). let q : List ℕ × List (List ℕ) = ((u s).0 ++ r.0, r.1) in q) (then_assoc v w x (u s).1)
