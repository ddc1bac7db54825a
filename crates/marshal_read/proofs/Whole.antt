-- What reading says of dumps and refusals.
use Rattle.std.proofs.Common.{◌≡◌, ℕ, ◌+◌, ◌-◌, ◌≤◌, ◌⊎◌, inl, inr, List, [], false, ◌++◌, length, take, drop, Result, Ok, Err, IfOk, refl, sym, ap, ◌∙◌, subst, arith, length-append, length-drop}
use Rattle.std.proofs.Math.Seq.{take-append_seam}
use Rattle.std.proofs.lemmas.List.{take-append-drop}
use Rattle.drb_tree.specs.declared.Tree.{Tree}
use Rattle.marshal_grammar.specs.declared.refusal.Why.{Why}
use Rattle.marshal_grammar.specs.declared.refusal.Why.TheVariants as why
use Rattle.marshal_grammar.specs.declared.refusal.Refusal.{Refusal}
use Rattle.marshal_grammar.specs.Contexts.{Context, opening}
use Rattle.marshal_grammar.specs.Reading.{read}
use Rattle.marshal_grammar.specs.Dumps.{dump, dump_with, reference, Dump, Refuses, dump_of}
use Rattle.marshal_grammar.proofs.Results.{ok_is, err_is}
use Rattle.marshal_grammar.proofs.Answering.{any_rest, reads_dumps, reads_refusals}
use Rattle.marshal_read.specs.declared.error.ReadError.{ReadError}
use Rattle.marshal_read.specs.declared.error.ReadError.TheVariants as error
use Rattle.marshal_read.specs.State.{State}
use Rattle.marshal_read.specs.Scopes.{reference_in}
use Rattle.marshal_read.proofs.Loops.{fails_same}
use Rattle.marshal_read.specs.Fails.{Fails, read_at}
use Rattle.marshal_read.specs.Dumps.{DumpOf}

-- a dump is read with references
pub dump_is : (bs : List ℕ) → dump_of bs ≡ read (dump_with reference) opening bs
unfolding dump
dump_is bs = refl

-- The answer says what reading gives, unless memory ran out.
abbrev pub So : List ℕ → Result (Tree × ℕ) ReadError → Type 0
So bs (Ok r) = (d : Context) × (rest : List ℕ) × (dump_of bs ≡ Ok (r.0, d, rest)) × (r.1 ≡ length bs - length rest)
So bs (Err e) = Fails e (dump_of bs)

spelled_front : (bs b rest : List ℕ) (v : Tree) (n : ℕ) → bs ≡ b ++ rest → n ≡ length bs - length rest → Dump b v → DumpOf bs v n
spelled_front bs b rest v n e k h =
    let l : length bs ≡ length b + length rest = ap length e ∙ length-append b rest in
    let m : n ≡ length b = omega arith in
    let t : take n bs ≡ b = ap (λ (j : ℕ). take j bs) m ∙ ap (take (length b)) e ∙ take-append_seam b rest in
    (omega arith, subst (λ (x : List ℕ). Dump x v) (sym t) h)

pub so_dump : (bs : List ℕ) (r : Result (Tree × ℕ) ReadError) → So bs r → IfOk r (λ x. DumpOf bs x.0 x.1)
so_dump bs (Ok x) h =
    let f = (reads_dumps bs h.1 x.0 h.0).0 h.2 in
    spelled_front bs f.0 h.1 x.0 x.1 f.2 h.3 (h.0, f.1)
so_dump bs (Err e) h = tt

pub so_refusal : (bs : List ℕ) (r : Result (Tree × ℕ) ReadError) → So bs r → (f : Refusal) → r ≡ Err (error.Refused f) → Refuses bs f.why f.at
so_refusal bs (Ok x) h f e = absurd (cc)
so_refusal bs (Err error.Memory) h f e = absurd (cc)
so_refusal bs (Err (error.Refused g)) h f e =
    let k : g ≡ f = cc in
    subst (λ (q : Refusal). Refuses bs q.why q.at) k ((reads_refusals bs g).0 h)

-- what reading gives, where some front is a dump
dump_read : (bs : List ℕ) (v : Tree) (n : ℕ) → DumpOf bs v n → (d : Context) × (dump_of bs ≡ Ok (v, d, drop n bs))
dump_read bs v n h =
    let f = any_rest (take n bs) (drop n bs) v h.1 in
    (f.0, subst (λ (x : List ℕ). dump_of x ≡ Ok (v, f.0, drop n bs)) (take-append-drop n bs) f.1)

pub so_every_dump : (bs : List ℕ) (r : Result (Tree × ℕ) ReadError) → So bs r → (n : ℕ) (v : Tree) → DumpOf bs v n → (r ≡ Ok (v, n)) ⊎ (r ≡ Err error.Memory)
so_every_dump bs (Err error.Memory) h n v k = inr refl
so_every_dump bs (Err (error.Refused g)) h n v k = let f = dump_read bs v n k in absurd (let a = f.1 in let b = h in cc)
so_every_dump bs (Ok x) h n v k =
    let f = dump_read bs v n k in
    let e = h.2 in
    let q = ok_is (x.0, h.0, h.1) (v, f.0, drop n bs) (sym e ∙ f.1) in
    let val : x.0 ≡ v = ap (λ (z : Tree × Context × List ℕ). z.0) q in
    let rest : h.1 ≡ drop n bs = ap (λ (z : Tree × Context × List ℕ). z.2) q in
    let size : x.1 ≡ n = omega (arith, h.3, ap length rest, length-drop n bs, k.0) in
    inl (ap (λ (z : Tree). Ok (z, x.1)) val ∙ ap (λ (z : ℕ). Ok (v, z)) size)

pub so_every_refusal : (bs : List ℕ) (r : Result (Tree × ℕ) ReadError) → So bs r → (w : Why) (at : ℕ) → Refuses bs w at
    → (r ≡ Err (error.Refused (record { why = w; at = at }))) ⊎ (r ≡ Err error.Memory)
so_every_refusal bs (Err error.Memory) h w at k = inr refl
so_every_refusal bs (Err (error.Refused g)) h w at k =
    let f = (reads_refusals bs (record { why = w; at = at })).1 k in
    let q = err_is _ _ (sym h ∙ f) in
    inl (ap (λ (z : Refusal). Err (error.Refused z)) q)
so_every_refusal bs (Ok x) h w at k =
    let f = (reads_refusals bs (record { why = w; at = at })).1 k in
    let e = h.2 in
    absurd (cc)

-- the reader at the front
abbrev pub start : List ℕ → State
start bs = record { rest = bs; seen = opening; steps = []; refused = record { why = why.Short; at = 0 } }

read_whole : (bs : List ℕ) (s : State) → s ≡ start bs → dump_of bs ≡ read_at (dump_with (reference_in false)) s
read_whole bs s h = dump_is bs ∙ sym (ap (λ (z : State). read_at (dump_with reference) z) h)

pub so_err : (bs : List ℕ) (s : State) (e : ReadError) → s ≡ start bs → Fails e (read_at (dump_with (reference_in false)) s) → So bs (Err e)
so_err bs s e h f = fails_same e (dump_of bs) (read_at (dump_with (reference_in false)) s) (read_whole bs s h) f

pub so_done : (bs : List ℕ) (s t : State) (v w : Tree) (left : ℕ) → s ≡ start bs → read_at (dump_with (reference_in false)) s ≡ Ok (v, t.seen, t.rest) → w ≡ v → left ≡ length t.rest → So bs (Ok (w, length bs - left))
so_done bs s t v w left h e k l = (
  t.seen,
  t.rest,
  read_whole bs s h ∙ e ∙ ap (λ (z : Tree). Ok (z, t.seen, t.rest)) (sym k),
  ap (λ (n : ℕ). length bs - n) l,
)

pub left_within : (bs : List ℕ) (s t : State) (v : Tree) (left : ℕ) → s ≡ start bs → read_at (dump_with (reference_in false)) s ≡ Ok (v, t.seen, t.rest) → left ≡ length t.rest → left ≤ length bs
left_within bs s t v left h e l =
    let f = (reads_dumps bs t.rest v t.seen).0 (read_whole bs s h ∙ e) in
    omega (arith, l, ap length f.2, length-append f.0 t.rest)
