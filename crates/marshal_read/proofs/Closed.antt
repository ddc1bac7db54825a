-- A value with parts, read step by step.
use Rattle.std.proofs.Common.{◌≡◌, ℕ, List, [], ◌∷◌, ◌++◌, length, drop, Bool, Some, None, Ok, sym, ap, ◌∙◌, subst}
use Rattle.drb_tree.specs.declared.Tree.{Tree}
use Rattle.marshal_grammar.specs.Contexts.{begin_object}
use Rattle.marshal_grammar.specs.Grammar.{Grammar, ◌>>=◌, ◌>>◌}
use Rattle.marshal_grammar.specs.Counts.{count, pair_count, count_nodes}
use Rattle.marshal_grammar.specs.Symbols.{name}
use Rattle.marshal_grammar.specs.Reading.{Read, read}
use Rattle.marshal_grammar.specs.Trees.{list, hash, wrapped}
use Rattle.drb_tree.specs.declared.Remote.{Remote}
use Rattle.marshal_grammar.specs.Values.{Held, begins, ends, whole, values, pairs, fields, list_value, hash_value, default_hash_value, fields_value, wrapped_value, held, held_nodes, held_value, marked_dumped}
use Rattle.marshal_read.specs.declared.steps.Step.{Step}
use Rattle.marshal_read.specs.State.{State}
use Rattle.marshal_read.specs.Fails.{read_at}
use Rattle.marshal_read.specs.Scopes.{fields_form}
use Rattle.marshal_read.specs.Making.{single, made, value_of, Makes, MakesOne, since, added, fields_in, Extends, AddsOne}
use Rattle.marshal_read.proofs.Followed.{then_ok}
use Rattle.marshal_read.proofs.Making.{value_is, makes_one}
use Rattle.marshal_read.proofs.Adding.{closes, closes_by}

-- the last step, where the object has begun at `start`
pub close_makes : (es fs : List Step) (start : ℕ) (s : Step) (t : Tree) → start ≡ length es → Makes (since es fs ++ (s ∷ [])) (single t) → MakesOne (drop start fs ++ (s ∷ []))
close_makes es fs start s t h m = subst (λ (i : ℕ). MakesOne (drop i fs ++ (s ∷ []))) (sym h) (makes_one (since es fs ++ (s ∷ [])) t m)

close_value : (es fs : List Step) (start : ℕ) (s : Step) (t : Tree) → start ≡ length es → Makes (since es fs ++ (s ∷ [])) (single t) → value_of (drop start fs ++ (s ∷ [])) ≡ t
close_value es fs start s t h m = ap (λ (i : ℕ). value_of (drop i fs ++ (s ∷ []))) h ∙ value_is (since es fs ++ (s ∷ [])) t m

close_both : (xs es fs hs : List Step) (s : Step) (t : Tree) → xs ≡ es → Extends es fs → hs ≡ fs ++ (s ∷ []) → Makes (since es fs ++ (s ∷ [])) (single t) → (AddsOne xs hs) × (added xs hs ≡ t)
close_both xs es fs hs s t e x y m = subst (λ (zs : List Step). (AddsOne zs hs) × (added zs hs ≡ t)) (sym e) (closes es fs hs s t x y m)

pub close_adds : (xs es fs hs : List Step) (s : Step) (t : Tree) → xs ≡ es → Extends es fs → hs ≡ fs ++ (s ∷ []) → Makes (since es fs ++ (s ∷ [])) (single t) → AddsOne xs hs
close_adds xs es fs hs s t e x y m = (close_both xs es fs hs s t e x y m).0

-- the states before, after the object's beginning, after its parts and after its end
pub close_read : (k start : ℕ) (a e f h : State) (s : Step) (t : Tree) → a.steps ≡ e.steps → start ≡ length e.steps → Extends e.steps f.steps → h.steps ≡ f.steps ++ (s ∷ [])
    → Makes (since e.steps f.steps ++ (s ∷ [])) (single t)
    → read_at (ends k (value_of (drop start f.steps ++ (s ∷ [])))) f ≡ Ok (value_of (drop start f.steps ++ (s ∷ [])), h.seen, h.rest)
    → read_at (ends k t) f ≡ Ok (added a.steps h.steps, h.seen, h.rest)
close_read k start a e f h s t same st x y m r =
    let v = close_value e.steps f.steps start s t st m in
    let w = (close_both a.steps e.steps f.steps h.steps s t same x y m).1 in
    ap (λ (z : Tree). read_at (ends k z) f) (sym v) ∙ r ∙ ap (λ (z : Tree). Ok (z, h.seen, h.rest)) (v ∙ sym w)

-- one node is counted, and an object begins
begun : (rest : ℕ → Grammar Tree) (at k : ℕ) (b c e : State) → read_at (count_nodes at 1) b ≡ Ok (tt, c.seen, c.rest)
    → e ≡ record c { seen = begin_object c.seen } → k ≡ length c.seen.objects → read_at (count_nodes at 1 >> (begins >>= rest)) b ≡ read_at (rest k) e
begun rest at k b c e e2 e3 e4 =
    then_ok (read_at (count_nodes at 1) b) (λ (_ : Unit {0}). read (begins >>= rest)) tt c.seen c.rest e2
    ∙ ap (λ (z : State). read_at (rest (length c.seen.objects)) z) (sym e3)
    ∙ ap (λ (z : ℕ). read_at (rest z) e) (sym e4)

-- a count before
counted : (size : Grammar ℕ) (rest : ℕ → ℕ → Grammar Tree) (at n k : ℕ) (a b c e : State) → read_at size a ≡ Ok (n, b.seen, b.rest) → read_at (count_nodes at 1) b ≡ Ok (tt, c.seen, c.rest)
    → e ≡ record c { seen = begin_object c.seen } → k ≡ length c.seen.objects → read_at (size >>= (λ m. count_nodes at 1 >> (begins >>= rest m))) a ≡ read_at (rest n k) e
counted size rest at n k a b c e e1 e2 e3 e4 = then_ok (read_at size a) (λ m. read (count_nodes at 1 >> (begins >>= rest m))) n b.seen b.rest e1 ∙ begun (rest n) at k b c e e2 e3 e4

listed : Grammar Tree → ℕ → ℕ → Grammar Tree
listed part n k = values part n >>= (λ vs. ends k (list vs))

pub list_read : (part : Grammar Tree) (at n k : ℕ) (vs : List Tree) (r : Read Tree) (a b c e f : State)
    → read_at count a ≡ Ok (n, b.seen, b.rest) → read_at (count_nodes at 1) b ≡ Ok (tt, c.seen, c.rest) → e ≡ record c { seen = begin_object c.seen } → k ≡ length c.seen.objects
    → read_at (values part n) e ≡ Ok (vs, f.seen, f.rest) → read_at (ends k (list vs)) f ≡ r → read_at (list_value part at) a ≡ r
unfolding listed
list_read part at n k vs r a b c e f e1 e2 e3 e4 e5 e6 =
    counted count (listed part) at n k a b c e e1 e2 e3 e4
    ∙ then_ok (read_at (values part n) e) (λ x. read (ends k (list x))) vs f.seen f.rest e5
    ∙ e6

hashed : Grammar Tree → ℕ → ℕ → Grammar Tree
hashed part n k = pairs part [] n >>= (λ ps. ends k (hash ps None))

pub hash_read : (part : Grammar Tree) (at n k : ℕ) (ps : List (Tree × Tree)) (r : Read Tree) (a b c e f : State)
    → read_at pair_count a ≡ Ok (n, b.seen, b.rest) → read_at (count_nodes at 1) b ≡ Ok (tt, c.seen, c.rest) → e ≡ record c { seen = begin_object c.seen } → k ≡ length c.seen.objects
    → read_at (pairs part [] n) e ≡ Ok (ps, f.seen, f.rest) → read_at (ends k (hash ps None)) f ≡ r → read_at (hash_value part at) a ≡ r
unfolding hashed
hash_read part at n k ps r a b c e f e1 e2 e3 e4 e5 e6 =
    counted pair_count (hashed part) at n k a b c e e1 e2 e3 e4
    ∙ then_ok (read_at (pairs part [] n) e) (λ x. read (ends k (hash x None))) ps f.seen f.rest e5
    ∙ e6

-- the default, and the end
with_default : Grammar Tree → ℕ → List (Tree × Tree) → Grammar Tree
with_default part k ps = part >>= (λ d. ends k (hash ps (Some d)))

paired : Grammar Tree → ℕ → ℕ → Grammar Tree
unfolding with_default
paired part n k = pairs part [] n >>= with_default part k

pub default_hash_read : (part : Grammar Tree) (at n k : ℕ) (ps : List (Tree × Tree)) (d : Tree) (r : Read Tree) (a b c e f g : State)
    → read_at pair_count a ≡ Ok (n, b.seen, b.rest) → read_at (count_nodes at 1) b ≡ Ok (tt, c.seen, c.rest) → e ≡ record c { seen = begin_object c.seen } → k ≡ length c.seen.objects
    → read_at (pairs part [] n) e ≡ Ok (ps, f.seen, f.rest) → read_at part f ≡ Ok (d, g.seen, g.rest) → read_at (ends k (hash ps (Some d))) g ≡ r → read_at (default_hash_value part at) a ≡ r
unfolding with_default paired
default_hash_read part at n k ps d r a b c e f g e1 e2 e3 e4 e5 e6 e7 =
    counted pair_count (paired part) at n k a b c e e1 e2 e3 e4
    ∙ then_ok (read_at (pairs part [] n) e) (λ x. read (with_default part k x)) ps f.seen f.rest e5
    ∙ then_ok (read_at part f) (λ x. read (ends k (hash ps (Some x)))) d g.seen g.rest e6
    ∙ e7

fielded : Bool → Grammar Tree → List ℕ → ℕ → ℕ → Grammar Tree
fielded is_struct part cls n k = fields part [] n >>= (λ fs. ends k (fields_form is_struct cls fs))

pub fields_read : (is_struct : Bool) (part : Grammar Tree) (at n k : ℕ) (cls : List ℕ) (fs : List (List ℕ × Tree)) (r : Read Tree) (z a b c e f : State)
    → read_at name z ≡ Ok (cls, a.seen, a.rest)
    → read_at pair_count a ≡ Ok (n, b.seen, b.rest) → read_at (count_nodes at 1) b ≡ Ok (tt, c.seen, c.rest) → e ≡ record c { seen = begin_object c.seen } → k ≡ length c.seen.objects
    → read_at (fields part [] n) e ≡ Ok (fs, f.seen, f.rest) → read_at (ends k (fields_form is_struct cls fs)) f ≡ r → read_at (fields_value (fields_form is_struct) part at) z ≡ r
unfolding fielded
fields_read is_struct part at n k cls fs r z a b c e f e0 e1 e2 e3 e4 e5 e6 =
    then_ok (read_at name z) (λ x. read (pair_count >>= (λ m. count_nodes at 1 >> (begins >>= fielded is_struct part x m)))) cls a.seen a.rest e0
    ∙ counted pair_count (fielded is_struct part cls) at n k a b c e e1 e2 e3 e4
    ∙ then_ok (read_at (fields part [] n) e) (λ x. read (ends k (fields_form is_struct cls x))) fs f.seen f.rest e5
    ∙ e6

wrapped_by : Grammar Tree → List ℕ → ℕ → Grammar Tree
wrapped_by part cls k = part >>= (λ v. ends k (wrapped cls v))

pub wrapped_read : (part : Grammar Tree) (at k : ℕ) (cls : List ℕ) (v : Tree) (r : Read Tree) (z b c e f : State)
    → read_at name z ≡ Ok (cls, b.seen, b.rest)
    → read_at (count_nodes at 1) b ≡ Ok (tt, c.seen, c.rest) → e ≡ record c { seen = begin_object c.seen } → k ≡ length c.seen.objects
    → read_at part e ≡ Ok (v, f.seen, f.rest) → read_at (ends k (wrapped cls v)) f ≡ r → read_at (wrapped_value part at) z ≡ r
unfolding wrapped_by
wrapped_read part at k cls v r z b c e f e0 e2 e3 e4 e5 e6 =
    then_ok (read_at name z) (λ x. read (count_nodes at 1 >> (begins >>= wrapped_by part x))) cls b.seen b.rest e0
    ∙ begun (wrapped_by part cls) at k b c e e2 e3 e4
    ∙ then_ok (read_at part e) (λ x. read (ends k (wrapped cls x))) v f.seen f.rest e5
    ∙ e6

pub steps_of : (c e : State) → e ≡ record c { seen = begin_object c.seen } → c.steps ≡ e.steps
steps_of c e h = sym (ap (λ (s : State). s.steps) h)

pub close_adds_by : (xs es fs hs more : List Step) (t : Tree) → xs ≡ es → Extends es fs → hs ≡ fs ++ more → Makes (since es fs ++ more) (single t) → AddsOne xs hs
close_adds_by xs es fs hs more t e x y m = subst (λ (zs : List Step). AddsOne zs hs) (sym e) (closes_by es fs hs more t x y m).0

-- what is behind the class and the bytes of an `Iu`
held_rest : Grammar Tree → ℕ → Held → Grammar Tree
held_rest part at h = pair_count >>= (λ n. count_nodes at (held_nodes h) >> (fields part [] n >>= (λ fs. whole (held_value h fs))))

pub marked_read : (reference : Grammar Remote) (part : Grammar Tree) (at n k : ℕ) (h : Held) (fs : List (List ℕ × Tree)) (r : Read Tree) (a b c e f : State)
    → read_at (held reference at) a ≡ Ok (h, b.seen, b.rest) → read_at pair_count b ≡ Ok (n, c.seen, c.rest) → k ≡ held_nodes h → read_at (count_nodes at k) c ≡ Ok (tt, e.seen, e.rest)
    → read_at (fields part [] n) e ≡ Ok (fs, f.seen, f.rest) → read_at (whole (held_value h fs)) f ≡ r → read_at (marked_dumped reference part at) a ≡ r
unfolding held_rest
marked_read reference part at n k h fs r a b c e f e1 e2 e3 e4 e5 e6 =
    then_ok (read_at (held reference at) a) (λ x. read (held_rest part at x)) h b.seen b.rest e1
    ∙ then_ok (read_at pair_count b) (λ m. read (count_nodes at (held_nodes h) >> (fields part [] m >>= (λ ys. whole (held_value h ys))))) n c.seen c.rest e2
    ∙ then_ok (read_at (count_nodes at (held_nodes h)) c) (λ (_ : Unit {0}). read (fields part [] n >>= (λ ys. whole (held_value h ys)))) tt e.seen e.rest (ap (λ (i : ℕ). read_at (count_nodes at i) c) (sym e3) ∙ e4)
    ∙ then_ok (read_at (fields part [] n) e) (λ ys. read (whole (held_value h ys))) fs f.seen f.rest e5
    ∙ e6

-- its value at the end: the states before, before the variables, after them and after the end
pub close_held : (h : Held) (start : ℕ) (a e f g : State) (more : List Step) → start ≡ length a.steps → a.steps ≡ e.steps → Extends e.steps f.steps → g.steps ≡ f.steps ++ more
    → Makes (since e.steps f.steps ++ more) (single (held_value h (fields_in e.steps f.steps)))
    → read_at (whole (held_value h (made (drop start f.steps)).fields)) f ≡ Ok (value_of (drop start f.steps ++ more), g.seen, g.rest)
    → read_at (whole (held_value h (fields_in e.steps f.steps))) f ≡ Ok (added a.steps g.steps, g.seen, g.rest)
close_held h start a e f g more st same x y m r =
    let t : Tree = held_value h (fields_in e.steps f.steps) in
    let k : start ≡ length e.steps = st ∙ ap length same in
    let v : value_of (drop start f.steps ++ more) ≡ added a.steps g.steps =
    ap (λ (i : ℕ). value_of (drop i f.steps ++ more)) k ∙ value_is (since e.steps f.steps ++ more) t m ∙ sym (closes_by e.steps f.steps g.steps more t x y m).1 ∙ ap (λ (zs : List Step). added zs g.steps) (sym same) in
    ap (λ (i : ℕ). read_at (whole (held_value h (made (drop i f.steps)).fields)) f) (sym k) ∙ r ∙ ap (λ (z : Tree). Ok (z, g.seen, g.rest)) v
