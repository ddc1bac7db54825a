use Rattle.std.proofs.Common.{rules, arith, ap, ℕ, List, ◌-◌, length, take, drop}
use Rattle.std.proofs.lemmas.List.{length-drop}
use Rattle.drb_text.specs.Texts.{text}
use Rattle.drb_text.proofs.Lists.{whole_slice, text_list_at, widened}
use Rattle.drb_text.proofs.texts.+texts.Goals as goal

pub read_at-returns : goal.read_at-returns
read_at-returns t c =
    let bs = c.args.bytes.now in
    let n = c.args.room in
    let rest = take (length bs - 1) (drop 1 bs) in
    let same = whole_slice bs in
    widened (λ r. r.0) (λ r. r.1.now) c.read_list.result (text n bs) _ bs rest
    (text_list_at n (n - 1) bs rest (search rules) (omega (arith, c.if-room-eq0.false)) same)
    (omega (arith, length-drop 1 bs, ap (λ (x : List ℕ). length x) same)) c.read_list.ensures
