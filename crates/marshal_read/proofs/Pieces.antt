-- Parts of values, one after the other.
use Rattle.std.proofs.Common.{◌≡◌, ℕ, suc, ◌+◌, ◌-◌, ◌<◌, ◌≤◌, List, [], ◌∷◌, ◌++◌, append_assoc, Bool, true, false, not, ◌||◌, Ok, Err, refl, ap, ◌∙◌, arith, bytes_eq}
use Rattle.std.proofs.lemmas.List.{append-nil}
use Rattle.drb_tree.specs.declared.Tree.{Tree}
use Rattle.drb_tree.specs.Same.{same}
use Rattle.drb_tree.specs.Kept.{has_key, has_name}
use Rattle.marshal_grammar.specs.declared.refusal.Why.TheVariants as why
use Rattle.marshal_grammar.specs.Contexts.{Context}
use Rattle.marshal_grammar.specs.Grammar.{Grammar, must, ◌>>=◌, ◌>>◌}
use Rattle.marshal_grammar.specs.Reading.{Read, read, next, refuse}
use Rattle.marshal_grammar.specs.Symbols.{name}
use Rattle.marshal_grammar.specs.Values.{values, pairs, fields}
use Rattle.marshal_read.specs.declared.error.ReadError.{ReadError}
use Rattle.marshal_read.specs.State.{State}
use Rattle.marshal_read.specs.Fails.{Fails, read_at}
use Rattle.marshal_read.specs.Making.{keys_of, key_in, names_of, name_in}
use Rattle.marshal_read.proofs.Followed.{then_ok, then_err, fails_as}

pub key_in-keys_of : (k : Tree) (ps : List (Tree × Tree)) → key_in k (keys_of ps) ≡ has_key k ps
key_in-keys_of k [] = refl
key_in-keys_of k (p ∷ ps) = ap (λ (b : Bool). same p.0 k || b) (key_in-keys_of k ps)

pub name_in-names_of : (n : List ℕ) (fs : List (List ℕ × Tree)) → name_in n (names_of fs) ≡ has_name n fs
name_in-names_of n [] = refl
name_in-names_of n (f ∷ fs) = ap (λ (b : Bool). bytes_eq f.0 n || b) (name_in-names_of n fs)

-- values that were read before others
abbrev pub with_front : List Tree → Read (List Tree) → Read (List Tree)
with_front front r = next r (λ vs c bs. Ok (front ++ vs, c, bs))

regroup : (front : List Tree) (v : Tree) (r : Read (List Tree)) → with_front front (next r (λ vs c bs. Ok (v ∷ vs, c, bs))) ≡ with_front (front ++ (v ∷ [])) r
regroup front v (Ok x) = ap (λ (vs : List Tree). Ok (vs, x.1, x.2)) (simp append_assoc)
regroup front v (Err f) = refl

values_rest : Grammar Tree → ℕ → Tree → Context → List ℕ → Read (List Tree)
values_rest part m v c bs = next (read (values part m) c bs) (λ vs d r. Ok (v ∷ vs, d, r))

pub values_go_on : (part : Grammar Tree) (front : List Tree) (n i : ℕ) (v : Tree) (s t : State) → i < n → read_at part s ≡ Ok (v, t.seen, t.rest)
    → with_front front (read_at (values part (n - i)) s) ≡ with_front (front ++ (v ∷ [])) (read_at (values part (n - (i + 1))) t)
unfolding values_rest
values_go_on part front n i v s t lt e =
    let k : n - i ≡ suc (n - (i + 1)) = omega arith in
    ap (λ (j : ℕ). with_front front (read_at (values part j) s)) k
    ∙ ap (with_front front) (then_ok (read_at part s) (values_rest part (n - (i + 1))) v t.seen t.rest e)
    ∙ regroup front v (read_at (values part (n - (i + 1))) t)

pub values_fail : (r : ReadError) (part : Grammar Tree) (front : List Tree) (n i : ℕ) (s : State) → i < n → Fails r (read_at part s)
    → Fails r (with_front front (read_at (values part (n - i)) s))
unfolding values_rest
values_fail r part front n i s lt f =
    let k : n - i ≡ suc (n - (i + 1)) = omega arith in
    fails_as r (read_at part s) (with_front front (read_at (values part (n - i)) s))
    (λ q e. ap (λ (j : ℕ). with_front front (read_at (values part j) s)) k ∙ ap (with_front front) (then_err (read_at part s) (values_rest part (n - (i + 1))) q e))
    f

pub values_end : (part : Grammar Tree) (front : List Tree) (n i : ℕ) (s : State) → n ≤ i → with_front front (read_at (values part (n - i)) s) ≡ Ok (front, s.seen, s.rest)
values_end part front n i s le =
    let k : n - i ≡ 0 = omega arith in
    ap (λ (j : ℕ). with_front front (read_at (values part j) s)) k ∙ ap (λ (vs : List Tree). Ok (vs, s.seen, s.rest)) (append-nil front)

-- after a key, where b says whether it was there before
pairs_with : Grammar Tree → List (Tree × Tree) → ℕ → ℕ → Bool → Tree → Context → List ℕ → Read (List (Tree × Tree))
pairs_with part before m at b key c bs = read (must (not b) why.DuplicateKey at >> (part >>= (λ v. pairs part (before ++ ((key, v) ∷ [])) m))) c bs

pairs_first : (part : Grammar Tree) (before : List (Tree × Tree)) (n i : ℕ) (b : Bool) (key : Tree) (s t : State) → i < n → read_at part s ≡ Ok (key, t.seen, t.rest)
    → has_key key before ≡ b → read_at (pairs part before (n - i)) s ≡ pairs_with part before (n - (i + 1)) s.seen.at b key t.seen t.rest
unfolding pairs_with
pairs_first part before n i b key s t lt e d =
    let k : n - i ≡ suc (n - (i + 1)) = omega arith in
    ap (λ (j : ℕ). read_at (pairs part before j) s) k
    ∙ then_ok (read_at part s) (λ x. pairs_with part before (n - (i + 1)) s.seen.at (has_key x before) x) key t.seen t.rest e
    ∙ ap (λ (z : Bool). pairs_with part before (n - (i + 1)) s.seen.at z key t.seen t.rest) d

pub pairs_fail_first : (r : ReadError) (part : Grammar Tree) (before : List (Tree × Tree)) (n i : ℕ) (s : State) → i < n → Fails r (read_at part s)
    → Fails r (read_at (pairs part before (n - i)) s)
unfolding pairs_with
pairs_fail_first r part before n i s lt f =
    let k : n - i ≡ suc (n - (i + 1)) = omega arith in
    fails_as r (read_at part s) (read_at (pairs part before (n - i)) s)
    (λ q e. ap (λ (j : ℕ). read_at (pairs part before j) s) k ∙ then_err (read_at part s) (λ x. pairs_with part before (n - (i + 1)) s.seen.at (has_key x before) x) q e)
    f

pub pairs_duplicate : (part : Grammar Tree) (before : List (Tree × Tree)) (n i : ℕ) (key : Tree) (s t : State) → i < n → read_at part s ≡ Ok (key, t.seen, t.rest)
    → has_key key before ≡ true → read_at (pairs part before (n - i)) s ≡ refuse why.DuplicateKey s.seen.at
unfolding pairs_with
pairs_duplicate part before n i key s t lt e d = pairs_first part before n i true key s t lt e d

pub pairs_fail_value : (r : ReadError) (part : Grammar Tree) (before : List (Tree × Tree)) (n i : ℕ) (key : Tree) (s t : State) → i < n → read_at part s ≡ Ok (key, t.seen, t.rest)
    → has_key key before ≡ false → Fails r (read_at part t) → Fails r (read_at (pairs part before (n - i)) s)
unfolding pairs_with
pairs_fail_value r part before n i key s t lt e d f =
    fails_as r (read_at part t) (read_at (pairs part before (n - i)) s)
    (λ q h. pairs_first part before n i false key s t lt e d ∙ then_err (read_at part t) (λ v. read (pairs part (before ++ ((key, v) ∷ [])) (n - (i + 1)))) q h)
    f

pub pairs_go_on : (part : Grammar Tree) (before : List (Tree × Tree)) (n i : ℕ) (key : Tree) (v : Tree) (s t u : State) → i < n → read_at part s ≡ Ok (key, t.seen, t.rest)
    → has_key key before ≡ false → read_at part t ≡ Ok (v, u.seen, u.rest)
    → read_at (pairs part before (n - i)) s ≡ read_at (pairs part (before ++ ((key, v) ∷ [])) (n - (i + 1))) u
unfolding pairs_with
pairs_go_on part before n i key v s t u lt e d h =
    pairs_first part before n i false key s t lt e d
    ∙ then_ok (read_at part t) (λ x. read (pairs part (before ++ ((key, x) ∷ [])) (n - (i + 1)))) v u.seen u.rest h

pub pairs_end : (part : Grammar Tree) (before : List (Tree × Tree)) (n i : ℕ) (s : State) → n ≤ i → read_at (pairs part before (n - i)) s ≡ Ok (before, s.seen, s.rest)
pairs_end part before n i s le =
    let k : n - i ≡ 0 = omega arith in
    ap (λ (j : ℕ). read_at (pairs part before j) s) k

-- after a name, where b says whether it was there before
fields_with : Grammar Tree → List (List ℕ × Tree) → ℕ → ℕ → Bool → List ℕ → Context → List ℕ → Read (List (List ℕ × Tree))
fields_with part before m at b key c bs = read (must (not b) why.DuplicateKey at >> (part >>= (λ v. fields part (before ++ ((key, v) ∷ [])) m))) c bs

fields_first : (part : Grammar Tree) (before : List (List ℕ × Tree)) (n i : ℕ) (b : Bool) (key : List ℕ) (s t : State) → i < n → read_at name s ≡ Ok (key, t.seen, t.rest)
    → has_name key before ≡ b → read_at (fields part before (n - i)) s ≡ fields_with part before (n - (i + 1)) s.seen.at b key t.seen t.rest
unfolding fields_with
fields_first part before n i b key s t lt e d =
    let k : n - i ≡ suc (n - (i + 1)) = omega arith in
    ap (λ (j : ℕ). read_at (fields part before j) s) k
    ∙ then_ok (read_at name s) (λ x. fields_with part before (n - (i + 1)) s.seen.at (has_name x before) x) key t.seen t.rest e
    ∙ ap (λ (z : Bool). fields_with part before (n - (i + 1)) s.seen.at z key t.seen t.rest) d

pub fields_fail_first : (r : ReadError) (part : Grammar Tree) (before : List (List ℕ × Tree)) (n i : ℕ) (s : State) → i < n → Fails r (read_at name s)
    → Fails r (read_at (fields part before (n - i)) s)
unfolding fields_with
fields_fail_first r part before n i s lt f =
    let k : n - i ≡ suc (n - (i + 1)) = omega arith in
    fails_as r (read_at name s) (read_at (fields part before (n - i)) s)
    (λ q e. ap (λ (j : ℕ). read_at (fields part before j) s) k ∙ then_err (read_at name s) (λ x. fields_with part before (n - (i + 1)) s.seen.at (has_name x before) x) q e)
    f

pub fields_duplicate : (part : Grammar Tree) (before : List (List ℕ × Tree)) (n i : ℕ) (key : List ℕ) (s t : State) → i < n → read_at name s ≡ Ok (key, t.seen, t.rest)
    → has_name key before ≡ true → read_at (fields part before (n - i)) s ≡ refuse why.DuplicateKey s.seen.at
unfolding fields_with
fields_duplicate part before n i key s t lt e d = fields_first part before n i true key s t lt e d

pub fields_fail_value : (r : ReadError) (part : Grammar Tree) (before : List (List ℕ × Tree)) (n i : ℕ) (key : List ℕ) (s t : State) → i < n → read_at name s ≡ Ok (key, t.seen, t.rest)
    → has_name key before ≡ false → Fails r (read_at part t) → Fails r (read_at (fields part before (n - i)) s)
unfolding fields_with
fields_fail_value r part before n i key s t lt e d f =
    fails_as r (read_at part t) (read_at (fields part before (n - i)) s)
    (λ q h. fields_first part before n i false key s t lt e d ∙ then_err (read_at part t) (λ v. read (fields part (before ++ ((key, v) ∷ [])) (n - (i + 1)))) q h)
    f

pub fields_go_on : (part : Grammar Tree) (before : List (List ℕ × Tree)) (n i : ℕ) (key : List ℕ) (v : Tree) (s t u : State) → i < n → read_at name s ≡ Ok (key, t.seen, t.rest)
    → has_name key before ≡ false → read_at part t ≡ Ok (v, u.seen, u.rest)
    → read_at (fields part before (n - i)) s ≡ read_at (fields part (before ++ ((key, v) ∷ [])) (n - (i + 1))) u
unfolding fields_with
fields_go_on part before n i key v s t u lt e d h =
    fields_first part before n i false key s t lt e d
    ∙ then_ok (read_at part t) (λ x. read (fields part (before ++ ((key, x) ∷ [])) (n - (i + 1)))) v u.seen u.rest h

pub fields_end : (part : Grammar Tree) (before : List (List ℕ × Tree)) (n i : ℕ) (s : State) → n ≤ i → read_at (fields part before (n - i)) s ≡ Ok (before, s.seen, s.rest)
fields_end part before n i s le =
    let k : n - i ≡ 0 = omega arith in
    ap (λ (j : ℕ). read_at (fields part before j) s) k
