-- What steps make behind others.
use Rattle.std.proofs.Common.{◌≡◌, ℕ, suc, ◌+◌, ◌-◌, ◌<◌, ◌≤◌, List, [], ◌∷◌, ◌++◌, length, take, drop, get_or, Some, None, refl, sym, ap, ◌∙◌, subst, append_assoc, append-nil, arith, length-append}
use Rattle.std.proofs.Math.Seq.{take-append-add, drop-append-add, drop-cons}
use Rattle.std.proofs.lemmas.List.{length-take-le, drop_all}
use Rattle.drb_tree.specs.declared.Tree.{Tree}
use Rattle.marshal_grammar.specs.Trees.{nil, bool, int, sym as symbol, text, list, hash, class, module_named, object, structure, dumped, wrapped, remote}
use Rattle.marshal_read.specs.declared.steps.Step.{Step}
use Rattle.marshal_read.specs.declared.steps.Step.TheVariants as S
use Rattle.marshal_read.specs.Making.{Made, nothing, single, without_last, the_last, last, put, put_for_fields, put_for_pairs, put_for_last, after, Applies, Leaf, after_all, AllApply, made, value_of, Makes, MakesOne}

pub without_last-join : {A : Type 0} (n : ℕ) (ys xs : List A) → n ≤ length xs → without_last n (ys ++ xs) ≡ ys ++ without_last n xs
without_last-join n ys xs h =
    let k : length (ys ++ xs) - n ≡ length ys + (length xs - n) = omega (arith, length-append ys xs) in
    ap (λ (i : ℕ). take i (ys ++ xs)) k ∙ take-append-add ys xs (length xs - n)

pub the_last-join : {A : Type 0} (n : ℕ) (ys xs : List A) → n ≤ length xs → the_last n (ys ++ xs) ≡ the_last n xs
the_last-join n ys xs h =
    let k : length (ys ++ xs) - n ≡ length ys + (length xs - n) = omega (arith, length-append ys xs) in
    ap (λ (i : ℕ). drop i (ys ++ xs)) k ∙ drop-append-add ys xs (length xs - n)

pub last-join : (ys xs : List Tree) → 1 ≤ length xs → last (ys ++ xs) ≡ last xs
last-join [] xs h = refl
last-join (y ∷ []) [] h = absurd (omega arith)
last-join (y ∷ []) (x ∷ xs) h = refl
last-join (y ∷ z ∷ ys) xs h = last-join (z ∷ ys) xs h

pub last-snoc : (xs : List Tree) (t : Tree) → last (xs ++ (t ∷ [])) ≡ t
last-snoc xs t = last-join xs (t ∷ []) (omega arith)

pub without_last-snoc : {A : Type 0} (xs : List A) (t : A) → without_last 1 (xs ++ (t ∷ [])) ≡ xs
without_last-snoc xs t = without_last-join 1 xs (t ∷ []) (omega arith) ∙ append-nil xs

pub the_last-all : {A : Type 0} (n : ℕ) (xs : List A) → n ≡ length xs → the_last n xs ≡ xs
the_last-all n xs e = let k : length xs - n ≡ 0 = omega (arith, e) in ap (λ (i : ℕ). drop i xs) k

pub without_last-all : {A : Type 0} (n : ℕ) (xs : List A) → n ≡ length xs → without_last n xs ≡ []
without_last-all n xs e = let k : length xs - n ≡ 0 = omega (arith, e) in ap (λ (i : ℕ). take i xs) k

pub length-without_last : {A : Type 0} (n : ℕ) (xs : List A) → length (without_last n xs) ≡ length xs - n
length-without_last n xs = length-take-le (length xs - n) xs (omega arith)

-- both, one behind the other
abbrev pub join : Made → Made → Made
join r m = record { values = r.values ++ m.values; pairs = r.pairs ++ m.pairs; fields = r.fields ++ m.fields }

of_values : Made → Made → List Tree → Made
of_values r m vs = record { values = vs; pairs = r.pairs ++ m.pairs; fields = r.fields ++ m.fields }

put-join : (r m : Made) (t : Tree) → put t (join r m) ≡ join r (put t m)
unfolding of_values
put-join r m t = ap (of_values r m) (append_assoc r.values m.values (t ∷ []))

put_for_fields-join : (r m : Made) (n : ℕ) (t : Tree) → n ≤ length m.fields → put_for_fields n t (join r m) ≡ join r (put_for_fields n t m)
put_for_fields-join r m n t h = rw (without_last-join n r.fields m.fields h, append_assoc r.values m.values (t ∷ [])) refl

put_for_pairs-join : (r m : Made) (n : ℕ) (t : Tree) → n ≤ length m.pairs → put_for_pairs n t (join r m) ≡ join r (put_for_pairs n t m)
put_for_pairs-join r m n t h = rw (without_last-join n r.pairs m.pairs h, append_assoc r.values m.values (t ∷ [])) refl

put_for_last-join : (r m : Made) (t : Tree) → 1 ≤ length m.values → put_for_last t (join r m) ≡ join r (put_for_last t m)
put_for_last-join r m t h = rw (without_last-join 1 r.values m.values h, append_assoc r.values (without_last 1 m.values) (t ∷ [])) refl

-- a step that finds what it takes takes nothing of what was there before
pub after-join : (r m : Made) (s : Step) → Applies m s → after (join r m) s ≡ join r (after m s)
after-join r m S.Nil h = put-join r m nil
after-join r m (S.Bool b) h = put-join r m (bool b)
after-join r m (S.Int i) h = put-join r m (int i)
after-join r m (S.Sym s) h = put-join r m (symbol s)
after-join r m (S.Text s code) h = put-join r m (text s code)
after-join r m (S.Class s) h = put-join r m (class s)
after-join r m (S.Module s) h = put-join r m (module_named s)
after-join r m (S.List n) h = rw (without_last-join n r.values m.values h, the_last-join n r.values m.values h, append_assoc r.values (without_last n m.values) (list (the_last n m.values) ∷ [])) refl
after-join r m S.Pair h =
    let k : 1 ≤ length m.values = omega (arith, h) in
    let l : 1 ≤ length (without_last 1 m.values) = omega (arith, h, length-without_last 1 m.values) in
    rw (without_last-join 1 r.values m.values k, without_last-join 1 r.values (without_last 1 m.values) l, last-join r.values m.values k, last-join r.values (without_last 1 m.values) l, append_assoc r.pairs m.pairs ((last (without_last 1 m.values), last m.values) ∷ [])) refl
after-join r m (S.Field s) h = rw (without_last-join 1 r.values m.values h.0, last-join r.values m.values h.0, append_assoc r.fields m.fields ((s, last m.values) ∷ [])) refl
after-join r m (S.Hash n) h = rw (the_last-join n r.pairs m.pairs h.0) (put_for_pairs-join r m n (hash (the_last n m.pairs) None) h.0)
after-join r m (S.HashWithDefault n) h =
    rw (without_last-join 1 r.values m.values h.0, last-join r.values m.values h.0, the_last-join n r.pairs m.pairs h.1, without_last-join n r.pairs m.pairs h.1, append_assoc r.values (without_last 1 m.values) (hash (the_last n m.pairs) (Some (last m.values)) ∷ [])) refl
after-join r m (S.Object c n) h = rw (the_last-join n r.fields m.fields h.0) (put_for_fields-join r m n (object c (the_last n m.fields)) h.0)
after-join r m (S.Struct c n) h = rw (the_last-join n r.fields m.fields h.0) (put_for_fields-join r m n (structure c (the_last n m.fields)) h.0)
after-join r m (S.Dumped x n) h = rw (the_last-join n r.fields m.fields h.0) (put_for_fields-join r m n (dumped x.class x.bytes (the_last n m.fields)) h.0)
after-join r m (S.Remote x) h = put-join r m (remote x)
after-join r m (S.Forget n) h = rw (without_last-join n r.fields m.fields h) refl
after-join r m (S.Wrapped c) h = rw (last-join r.values m.values h.0) (put_for_last-join r m (wrapped c (last m.values)) h.0)

pub Applies-join : (r m : Made) (s : Step) → Applies m s → Applies (join r m) s
Applies-join r m S.Nil h = tt
Applies-join r m (S.Bool b) h = tt
Applies-join r m (S.Int i) h = tt
Applies-join r m (S.Sym s) h = h
Applies-join r m (S.Text s code) h = tt
Applies-join r m (S.Class s) h = h
Applies-join r m (S.Module s) h = h
Applies-join r m (S.List n) h = omega (arith, h, length-append r.values m.values)
Applies-join r m S.Pair h = omega (arith, h, length-append r.values m.values)
Applies-join r m (S.Field s) h = (omega (arith, h.0, length-append r.values m.values), h.1)
Applies-join r m (S.Hash n) h = (omega (arith, h.0, length-append r.pairs m.pairs), rw (the_last-join n r.pairs m.pairs h.0) h.1)
Applies-join r m (S.HashWithDefault n) h = (omega (arith, h.0, length-append r.values m.values), omega (arith, h.1, length-append r.pairs m.pairs), rw (the_last-join n r.pairs m.pairs h.1) h.2)
Applies-join r m (S.Object c n) h = (omega (arith, h.0, length-append r.fields m.fields), rw (the_last-join n r.fields m.fields h.0) h.1, h.2)
Applies-join r m (S.Struct c n) h = (omega (arith, h.0, length-append r.fields m.fields), rw (the_last-join n r.fields m.fields h.0) h.1, h.2)
Applies-join r m (S.Dumped x n) h = (omega (arith, h.0, length-append r.fields m.fields), h.1, rw (the_last-join n r.fields m.fields h.0) h.2, h.3)
Applies-join r m (S.Remote x) h = tt
Applies-join r m (S.Forget n) h = omega (arith, h, length-append r.fields m.fields)
Applies-join r m (S.Wrapped c) h = (omega (arith, h.0, length-append r.values m.values), h.1)

pub after_all-join : (r m : Made) (ss : List Step) → AllApply m ss → after_all (join r m) ss ≡ join r (after_all m ss)
after_all-join r m [] h = refl
after_all-join r m (s ∷ ss) h = ap (λ (x : Made). after_all x ss) (after-join r m s h.0) ∙ after_all-join r (after m s) ss h.1

pub AllApply-join : (r m : Made) (ss : List Step) → AllApply m ss → AllApply (join r m) ss
AllApply-join r m [] h = tt
AllApply-join r m (s ∷ ss) h = (Applies-join r m s h.0, subst (λ (x : Made). AllApply x ss) (sym (after-join r m s h.0)) (AllApply-join r (after m s) ss h.1))

pub after_all-append : (m : Made) (a b : List Step) → after_all m (a ++ b) ≡ after_all (after_all m a) b
after_all-append m [] b = refl
after_all-append m (s ∷ a) b = after_all-append (after m s) a b

pub AllApply-append : (m : Made) (a b : List Step) → AllApply m a → AllApply (after_all m a) b → AllApply m (a ++ b)
AllApply-append m [] b h k = k
AllApply-append m (s ∷ a) b h k = (h.0, AllApply-append (after m s) a b h.1 k)

join-nothing : (r : Made) → join r nothing ≡ r
join-nothing r = rw (append-nil r.values, append-nil r.pairs, append-nil r.fields) refl

-- one behind the other
pub Makes-then : (a b : List Step) (m n : Made) → Makes a m → Makes b n → Makes (a ++ b) (join m n)
Makes-then a b m n h k =
    let w : after_all m b ≡ join m (made b) = ap (λ (x : Made). after_all x b) (sym (join-nothing m)) ∙ after_all-join m nothing b k.apply in
    let f : AllApply m b = subst (λ (x : Made). AllApply x b) (join-nothing m) (AllApply-join m nothing b k.apply) in
    record {
      apply = AllApply-append nothing a b h.apply (subst (λ (x : Made). AllApply x b) (sym h.is) f);
      is = after_all-append nothing a b ∙ ap (λ (x : Made). after_all x b) h.is ∙ w ∙ ap (join m) k.is;
    }

-- a step behind others
pub Makes-step : (a : List Step) (m : Made) (s : Step) → Makes a m → Applies m s → Makes (a ++ (s ∷ [])) (after m s)
Makes-step a m s h k = record {
  apply = AllApply-append nothing a (s ∷ []) h.apply (subst (λ (x : Made). Applies x s) (sym h.is) k, tt);
  is = after_all-append nothing a (s ∷ []) ∙ ap (λ (x : Made). after x s) h.is;
}

pub value_is : (ss : List Step) (t : Tree) → Makes ss (single t) → value_of ss ≡ t
value_is ss t h = ap (λ (m : Made). last m.values) h.is

pub makes_one : (ss : List Step) (t : Tree) → Makes ss (single t) → MakesOne ss
makes_one ss t h = subst (λ (x : Tree). Makes ss (single x)) (sym (value_is ss t h)) h

pub leaf_makes : (s : Step) → Leaf s → MakesOne (s ∷ [])
leaf_makes S.Nil h = record { apply = (tt, tt); is = refl }
leaf_makes (S.Bool b) h = record { apply = (tt, tt); is = refl }
leaf_makes (S.Int i) h = record { apply = (tt, tt); is = refl }
leaf_makes (S.Sym s) h = record { apply = (h, tt); is = refl }
leaf_makes (S.Text s code) h = record { apply = (tt, tt); is = refl }
leaf_makes (S.Class s) h = record { apply = (h, tt); is = refl }
leaf_makes (S.Module s) h = record { apply = (h, tt); is = refl }
leaf_makes (S.Remote x) h = record { apply = (tt, tt); is = refl }
leaf_makes (S.List _) h = elim h [ ]
leaf_makes S.Pair h = elim h [ ]
leaf_makes (S.Field _) h = elim h [ ]
leaf_makes (S.Hash _) h = elim h [ ]
leaf_makes (S.HashWithDefault _) h = elim h [ ]
leaf_makes (S.Object _ _) h = elim h [ ]
leaf_makes (S.Struct _ _) h = elim h [ ]
leaf_makes (S.Dumped _ _) h = elim h [ ]
leaf_makes (S.Forget _) h = elim h [ ]
leaf_makes (S.Wrapped _) h = elim h [ ]

-- the next of these steps
pub next_step : (ss : List Step) (i : ℕ) (s : Step) → i < length ss → s ≡ get_or ss i s → drop i ss ≡ s ∷ drop (i + 1) ss
next_step ss i s lt e =
    let k : suc i ≡ i + 1 = omega arith in
    drop-cons ss i s lt ∙ ap (λ (x : Step). x ∷ drop (suc i) ss) (sym e) ∙ ap (λ (j : ℕ). s ∷ drop j ss) k

pub past_last : (m : Made) (ss : List Step) (i : ℕ) → length ss ≤ i → after_all m (drop i ss) ≡ m
past_last m ss i le = ap (after_all m) (drop_all i ss le)

-- a value that was taken off the end
pub popped : (old new : List Tree) (t : Tree) → old ≡ new ++ (t ∷ []) → t ≡ last old
popped old new t e = sym (ap last e ∙ last-snoc new t)

-- nothing was there to be taken off
pub emptied : (old new : List Tree) (n : ℕ) → old ≡ new ++ [] → new ≡ take (n - 1) old → n ≡ 0 → old ≡ []
emptied old new n e f z =
    let k : n - 1 ≡ 0 = omega (arith, z) in
    e ∙ append-nil new ∙ f ∙ ap (λ (i : ℕ). take i old) k
