-- What is appended piece by piece.
use Rattle.std.proofs.Common.{ℕ, ◌≡◌, ◌≤◌, ◌<◌, ◌+◌, suc, zero, max, Bool, true, false, Option, Some, None, Result, Err, List, [], ◌∷◌, ◌++◌, length, map, drop, codes, refl, sym, ap, ◌∙◌, subst, arith, append_assoc, append-nil}
use Rattle.drb_tree.specs.declared.Tree.{Tree}
use Rattle.marshal_write.specs.declared.error.WriteError.{WriteError}
use Rattle.marshal_write.specs.declared.error.WriteError.TheVariants.{TooLong, Memory}
use Rattle.marshal_write.specs.Limits.{max_dump}
use Rattle.drb_text.specs.Puts.{Grows, Puts, Appends, Shows, GaveUp, MayShow}
use Rattle.drb_text.specs.Shown.{Piece, piece, ◌then◌, dump_piece, plain_or_dump}

pub grows_none : (old : List ℕ) → Grows old old
grows_none old = ([], sym (append-nil old))

pub grows_same : (old new : List ℕ) → new ≡ old → Grows old new
grows_same old new e = ([], e ∙ sym (append-nil old))

pub grows_by : (old new t : List ℕ) → new ≡ old ++ t → Grows old new
grows_by old new t e = (t, e)

pub grows_more : (old mid new : List ℕ) → Grows old mid → Grows mid new → Grows old new
grows_more old mid new f g = (f.0 ++ g.0, g.1 ∙ ap (λ (x : List ℕ). x ++ g.0) f.1 ∙ append_assoc old f.0 g.0)

-- bytes that were appended, as a piece
pub shows_bytes : (t old new : List ℕ) → new ≡ old ++ t → Shows (piece t) old new
shows_bytes t old new e = record { text = e; within = omega arith }

-- one piece behind the other
pub shows_then : (p q : Piece) (old mid new : List ℕ) → Shows p old mid → Shows q mid new → Shows (p then q) old new
shows_then p q old mid new f g = record {
  text = g.text ∙ ap (λ (x : List ℕ). x ++ q.text) f.text ∙ append_assoc old p.text q.text;
  within = omega (arith, f.within, g.within);
}

-- want of memory after such pieces
pub no_memory : (p : Piece) (old new : List ℕ) (e : WriteError) → Grows old new → e ≡ Memory → GaveUp p old new e
no_memory p old new e g m = record { front = g; too_long = λ l. absurd (cc) }

pub gave_up_first : (p q : Piece) (old new : List ℕ) (e : WriteError) → GaveUp p old new e → GaveUp (p then q) old new e
gave_up_first p q old new e f = record { front = f.front; too_long = λ l. let m = f.too_long l in omega arith }

pub gave_up_then : (p q : Piece) (old mid new : List ℕ) (e : WriteError) → Shows p old mid → GaveUp q mid new e → GaveUp (p then q) old new e
gave_up_then p q old mid new e f g = record {
  front = grows_more old mid new (p.text, f.text) g.front;
  too_long = λ l. let m = g.too_long l in omega arith;
}

-- Where pieces up to some are shown: what is there and the pieces still to come are the whole.
pub record Reaches (whole rest : Piece) (old now : List ℕ) : Type 0 where
  pub grows : Grows old now
  pub text : now ++ rest.text ≡ old ++ whole.text
  pub within : rest.longest ≤ max_dump → whole.longest ≤ max_dump
  pub longer : max_dump < rest.longest → max_dump < whole.longest

pub reaches_start : (p : Piece) (old : List ℕ) → Reaches p p old old
reaches_start p old = record { grows = grows_none old; text = refl; within = λ h. h; longer = λ h. h }

pub reaches_step : (whole p q : Piece) (old mid new : List ℕ) → Reaches whole (p then q) old mid → Shows p mid new → Reaches whole q old new
reaches_step whole p q old mid new r f = record {
  grows = grows_more old mid new r.grows (p.text, f.text);
  text = ap (λ (x : List ℕ). x ++ q.text) f.text ∙ append_assoc mid p.text q.text ∙ r.text;
  within = λ h. r.within (omega (arith, f.within, h));
  longer = λ h. r.longer (omega (arith, h));
}

pub reaches_end : (whole : Piece) (old now : List ℕ) → Reaches whole (piece []) old now → Shows whole old now
reaches_end whole old now r = record { text = sym (append-nil now) ∙ r.text; within = r.within (omega arith) }

pub reaches_gave_up : (whole p q : Piece) (old mid new : List ℕ) (e : WriteError) → Reaches whole (p then q) old mid → GaveUp p mid new e → GaveUp whole old new e
reaches_gave_up whole p q old mid new e r g = record {
  front = grows_more old mid new r.grows g.front;
  too_long = λ l. let m = g.too_long l in r.longer (omega (arith, m));
}

pub reaches_as : (whole p q : Piece) (old now : List ℕ) → p ≡ q → Reaches whole p old now → Reaches whole q old now
reaches_as whole p q old now e r = subst (λ (x : Piece). Reaches whole x old now) e r

-- the text of a value that has one of its own was appended
pub shows_put : (v : Tree) (t : Option (List ℕ)) (old new : List ℕ) (done : Bool) → Puts t old new done → done ≡ true → Shows (plain_or_dump v t) old new
shows_put v (Some t) old new done p e = shows_bytes t old new p.1
shows_put v None old new done p e = absurd (cc)

-- it has none
pub not_put : (v : Tree) (t : Option (List ℕ)) (old new : List ℕ) (done : Bool) → Puts t old new done → done ≡ false → (plain_or_dump v t ≡ dump_piece v) × (new ≡ old)
not_put v (Some t) old new done p e = absurd (cc)
not_put v None old new done p e = (refl, p.1)

-- an answer that is an error
pub may_give_up : (p : Piece) (old new : List ℕ) (e : WriteError) (r : Result (Unit {0}) WriteError) → r ≡ Err e → GaveUp p old new e → MayShow p old new r
may_give_up p old new e r i g = subst (λ (x : Result (Unit {0}) WriteError). MayShow p old new x) (sym i) g

pub appends_not : {E : Type 0} (t old new : List ℕ) (e : E) (r : Result (Unit {0}) E) → r ≡ Err e → Grows old new → Appends t old new r
appends_not {E} t old new e r i g = subst (λ (x : Result (Unit {0}) E). Appends t old new x) (sym i) g
