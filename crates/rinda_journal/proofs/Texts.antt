-- A text is read as its turn, and so no text is a front of another turn's.
use Rattle.std.proofs.Common.{◌≡◌, ℕ, List, ◌++◌, length, drop, sym, ◌∙◌, ap, arith}
use Rattle.std.specs.Prelude.{Some, Option}
use Rattle.std.proofs.lemmas.List.{append_cancel_left}
use Rattle.rinda_rules.specs.declared.turn.Turn.{Turn}
use Rattle.rinda_journal.specs.Texts.{turn_parts, turn_text, HasText, TurnKept}
use Rattle.rinda_journal.specs.Streams.{stream}
use Rattle.rinda_journal.specs.Reading.{turn_of, turn_in}
use Rattle.rinda_journal.specs.Laws.{OneTurn, OnePlace, SomeBytes}
use Rattle.rinda_journal.proofs.Streams.{stream_again}
use Rattle.rinda_journal.proofs.Again.{parts_again}

-- the text of a turn, whatever follows, is read as that turn
pub text_again : (t : Turn) (rest : List ℕ) → HasText t → TurnKept t → turn_in (turn_text t ++ rest) ≡ Some t
unfolding turn_in turn_text
text_again t rest h k = ap turn_of (stream_again (turn_parts t) rest h.fits k.parts) ∙ parts_again t (stream rest) h k

the_turn : (t u : Turn) → ◌≡◌ {A = Option Turn} (Some t) (Some u) → t ≡ u
the_turn t u e = cc

pub one_turn : OneTurn
one_turn t u x y h k i j e =
    let s : t ≡ u = the_turn t u (sym (text_again t x h k) ∙ ap turn_in e ∙ text_again u y i j) in
    (s, append_cancel_left (turn_text u) x y (ap (λ (w : Turn). turn_text w ++ x) (sym s) ∙ e))

pub one_place : OnePlace
one_place bytes at n m t u p q =
    let s = one_turn t u (drop n bytes) (drop m bytes) p.has p.kept q.has q.kept (sym p.here ∙ q.here) in
    let l : length (turn_text t) ≡ length (turn_text u) = ap (λ (w : Turn). length (turn_text w)) s.0 in
    (s.0, omega (arith, l, p.after, q.after))

pub some_bytes : SomeBytes
unfolding turn_text
some_bytes t = omega arith
