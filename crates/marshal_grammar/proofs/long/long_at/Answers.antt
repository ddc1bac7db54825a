use Rattle.std.proofs.Common.{◌≡◌, ℕ, ◌+◌, ◌-◌, ◌≤◌, ◌∷◌, ℤ, List, length, drop, Some, sym, ◌∙◌, ap, refl, arith, rules, length-drop, to_z, of_z, w64}
use Rattle.std.proofs.lemmas.List.{take_all}
use Rattle.marshal_grammar.specs.Longs.{more_after}
use Rattle.marshal_grammar.proofs.LongLists.{drop_more, long_of_ok, long_at_is}
use Rattle.marshal_grammar.proofs.long.long_at.Goals as goal

pub returns-clause-reads : goal.returns-clause-reads
returns-clause-reads c =
    let s = c.args.bytes.now in
    let i = c.args.at in
    let first = c.in-Some.first.now in
    let more = c.in-Some.more.now in
    let e : drop i s ≡ first ∷ more = sym (take_all (length s - i) (drop i s) (omega (arith, length-drop i s))) ∙ c.in-Some.ensures.cases.0 in
    let n : c.more_after-n.result ≡ more_after first = c.more_after-n.ensures in
    let k : more_after first ≤ length more = omega (arith, n, c.if-more-n.false) in
    let v : to_z w64 (of_z w64 c.value_of.result) ≡ c.value_of.result = search rules in
    long_of_ok (drop i s) first more e k ∙ rw (← n) (ap (λ (r : ℤ × List ℕ). Some r) (rw (v, c.value_of.ensures, drop_more i c.more_after-n.result s first more e) refl))

pub returns-clause-exact : goal.returns-clause-exact
returns-clause-exact c =
    let s = c.args.bytes.now in
    let i = c.args.at in
    let e : drop i s ≡ c.in-Some.first.now ∷ c.in-Some.more.now = sym (take_all (length s - i) (drop i s) (omega (arith, length-drop i s))) ∙ c.in-Some.ensures.cases.0 in
    let k : i + 1 + c.more_after-n.result ≤ length s = omega (arith, ap length e, length-drop i s, c.if-more-n.false, c.requires) in
    long_at_is s i (i + 1 + c.more_after-n.result) (to_z w64 (of_z w64 c.value_of.result)) (returns-clause-reads c) (omega arith) k
