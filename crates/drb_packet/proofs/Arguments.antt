-- Packets of arguments, one after the other.
use Rattle.std.proofs.Common.{◌≡◌, ℕ, suc, ◌+◌, ◌-◌, ◌<◌, ◌≤◌, List, [], ◌∷◌, ◌++◌, true, refl, sym, ◌∙◌, ap, subst, append_assoc, length, length-append, arith, true≢false}
use Rattle.std.proofs.lemmas.List.{append-nil}
use Rattle.std.specs.Prelude.{Ok, Err}
use Rattle.std.specs.declared.option.Option.{Option}
use Rattle.drb_tree.specs.declared.Tree.{Tree}
use Rattle.drb_outside.specs.Records.{Record}
use Rattle.drb_outside.specs.Changes.{ChangesBytes}
use Rattle.drb_outside.specs.Telling.{changes_on, changes_as, changes_none}
use Rattle.drb_packet.specs.declared.stop.Stop.{Stop}
use Rattle.drb_packet.specs.declared.stop.Stop.TheVariants as stop
use Rattle.drb_packet.specs.Parsers.{Parsed, holds, ended, refused, Parser, gives, on, ◌>>=◌, is_open}
use Rattle.drb_packet.specs.Packets.{further}
use Rattle.drb_packet.specs.Requests.{arguments}
use Rattle.drb_packet.specs.Reads.{Takes, Parses}

-- with these values before
abbrev before : List Tree → Parsed (List Tree) → Parsed (List Tree)
before vs (holds ws rest) = holds (vs ++ ws) rest
before vs ended = ended
before vs (refused why rest) = refused why rest

-- of n values these were read, and m are still to come
abbrev pub Comes : ℕ → ℕ → ℕ → List Tree → List ℕ → List ℕ → Type 0
Comes load n m vs left left' = (taken : List ℕ) × (left ≡ taken ++ left') × ((more : List ℕ) → arguments load n (taken ++ more) ≡ before vs (arguments load m more))

before_none : (q : Parsed (List Tree)) → q ≡ before [] q
before_none (holds ws rest) = refl
before_none ended = refl
before_none (refused why rest) = refl

before_one : (vs : List Tree) (v : Tree) (q : Parsed (List Tree)) → before vs (on q (λ ws. gives (v ∷ ws))) ≡ before (vs ++ v ∷ []) q
before_one vs v (holds ws rest) = ap (λ us. holds us rest) (sym (append_assoc vs (v ∷ []) ws))
before_one vs v ended = refl
before_one vs v (refused why rest) = refl

comes_first : (load n : ℕ) (x : List ℕ) → Comes load n n [] x x
comes_first load n x = ([], refl, λ more. before_none (arguments load n more))

comes_more : (load n m k : ℕ) (vs : List Tree) (v : Tree) (x y z : List ℕ) → k ≡ suc m → Comes load n k vs x y → Takes (further load) v y z → Comes load n m (vs ++ v ∷ []) x z
comes_more load n m k vs v x y z is c t = (
  c.0 ++ t.0,
  c.1 ∙ ap (λ q. c.0 ++ q) t.1 ∙ sym (append_assoc c.0 t.0 z),
  λ more. ap (λ q. arguments load n q) (append_assoc c.0 t.0 more) ∙ c.2 (t.0 ++ more) ∙ ap (λ j. before vs (arguments load j (t.0 ++ more))) is
      ∙ ap (λ q. before vs (on q (λ w. arguments load m >>= (λ ws. gives (w ∷ ws))))) (t.2 more) ∙ before_one vs v (arguments load m more),
)

comes_all : (load n k : ℕ) (vs : List Tree) (x y : List ℕ) → k ≡ 0 → Comes load n k vs x y → Takes (arguments load n) vs x y
comes_all load n k vs x y is c = (c.0, c.1, λ more. c.2 more ∙ ap (λ j. before vs (arguments load j more)) is ∙ ap (λ us. holds us more) (append-nil vs))

open_before : (vs : List Tree) (q : Parsed Tree) (f : Tree → Parser (List Tree)) → is_open q ≡ true → is_open (before vs (on q f)) ≡ true
open_before vs (holds w rest) f e = absurd (true≢false (sym e))
open_before vs ended f e = refl
open_before vs (refused why rest) f e = e

comes_stop : (load n m k : ℕ) (vs : List Tree) (e : Stop) (x y z : List ℕ) → k ≡ suc m → Comes load n k vs x y → Parses (further load) (Err e) y z → Parses (arguments load n) (Err e) x z
comes_stop load n m k vs stop.End x y z is c h = (ap (λ q. arguments load n q) c.1 ∙ c.2 y ∙ ap (λ j. before vs (arguments load j y)) is ∙ ap (λ q. before vs (on q (λ w. arguments load m >>= (λ ws. gives (w ∷ ws))))) h.0, h.1)
comes_stop load n m k vs (stop.Refused why) x y z is c h = ap (λ q. arguments load n q) c.1 ∙ c.2 y ∙ ap (λ j. before vs (arguments load j y)) is ∙ ap (λ q. before vs (on q (λ w. arguments load m >>= (λ ws. gives (w ∷ ws))))) h
comes_stop load n m k vs stop.ReadFault x y z is c h = (
  c.0 ++ h.0,
  c.1 ∙ ap (λ q. c.0 ++ q) h.1 ∙ sym (append_assoc c.0 h.0 z),
  ap is_open (c.2 h.0 ∙ ap (λ j. before vs (arguments load j h.0)) is) ∙ open_before vs (further load h.0) (λ w. arguments load m >>= (λ ws. gives (w ∷ ws))) h.2,
)
comes_stop load n m k vs stop.Memory x y z is c h = (c.0 ++ h.0, c.1 ∙ ap (λ q. c.0 ++ q) h.1 ∙ sym (append_assoc c.0 h.0 z))

-- The same over a source.

pub changes_first : {X : Type 0} (t : X → Option (List ℕ)) (k : X → List Record) (h f : X → ℕ) (a : X) (load n m : ℕ) (vs : List Tree) → vs ≡ [] → m ≡ n → ChangesBytes t k h f a a (Comes load n m vs)
changes_first t k h f a load n m vs none is = subst (λ j. ChangesBytes t k h f a a (Comes load n j vs)) (sym is) (subst (λ us. ChangesBytes t k h f a a (Comes load n n us)) (sym none) (changes_none t k h f a (Comes load n n []) (comes_first load n)))

pub changes_more : {X : Type 0} {t : X → Option (List ℕ)} {k : X → List Record} {h f : X → ℕ} {a b c : X} (load n m i : ℕ) (vs ws : List Tree) (v : Tree) → i ≡ suc m → ws ≡ vs ++ v ∷ [] → ChangesBytes t k h f a b (Comes load n i vs) → ChangesBytes t k h f b c (Parses (further load) (Ok v)) → ChangesBytes t k h f a c (Comes load n m ws)
changes_more {t = t} {k = k} {h = h} {f = f} {a = a} {c = c} load n m i vs ws v is new s u = subst (λ us. ChangesBytes t k h f a c (Comes load n m us)) (sym new)
    (changes_on (Comes load n i vs) (Parses (further load) (Ok v)) (Comes load n m (vs ++ v ∷ [])) (λ x y z d e. comes_more load n m i vs v x y z is d e) s u)

pub changes_all : {X : Type 0} {t : X → Option (List ℕ)} {k : X → List Record} {h f : X → ℕ} {a b : X} (load n i : ℕ) (vs : List Tree) → i ≡ 0 → ChangesBytes t k h f a b (Comes load n i vs) → ChangesBytes t k h f a b (Parses (arguments load n) (Ok vs))
changes_all load n i vs is s = changes_as (Comes load n i vs) (Parses (arguments load n) (Ok vs)) (λ x y d. comes_all load n i vs x y is d) s

pub changes_stopped : {X : Type 0} {t : X → Option (List ℕ)} {k : X → List Record} {h f : X → ℕ} {a b c : X} (load n m i : ℕ) (vs : List Tree) (e : Stop) → i ≡ suc m → ChangesBytes t k h f a b (Comes load n i vs) → ChangesBytes t k h f b c (Parses (further load) (Err e)) → ChangesBytes t k h f a c (Parses (arguments load n) (Err e))
changes_stopped load n m i vs e is s u = changes_on (Comes load n i vs) (Parses (further load) (Err e)) (Parses (arguments load n) (Err e)) (λ x y z d w. comes_stop load n m i vs e x y z is d w) s u

no_memory : (load n m i : ℕ) (vs : List Tree) (v : Tree) (x y z : List ℕ) → i ≡ suc m → Comes load n i vs x y → Takes (further load) v y z → Parses (arguments load n) (Err stop.Memory) x z
no_memory load n m i vs v x y z is c t = (c.0 ++ t.0, c.1 ∙ ap (λ q. c.0 ++ q) t.1 ∙ sym (append_assoc c.0 t.0 z))

-- memory ran out
pub changes_memory : {X : Type 0} {t : X → Option (List ℕ)} {k : X → List Record} {h f : X → ℕ} {a b c : X} (load n m i : ℕ) (vs : List Tree) (v : Tree) → i ≡ suc m → ChangesBytes t k h f a b (Comes load n i vs) → ChangesBytes t k h f b c (Parses (further load) (Ok v)) → ChangesBytes t k h f a c (Parses (arguments load n) (Err stop.Memory))
changes_memory load n m i vs v is s u = changes_on (Comes load n i vs) (Parses (further load) (Ok v)) (Parses (arguments load n) (Err stop.Memory)) (λ x y z d w. no_memory load n m i vs v x y z is d w) s u

-- one fewer is still to come
pub left_one : (n : ℕ) (vs ws : List Tree) (v : Tree) → ws ≡ vs ++ v ∷ [] → length vs < n → n - length vs ≡ suc (n - length ws)
left_one n vs ws v new lt = let e : length ws ≡ length vs + 1 = ap length new ∙ length-append vs (v ∷ []) in omega (arith, e)

pub one_within : (n : ℕ) (vs ws : List Tree) (v : Tree) → ws ≡ vs ++ v ∷ [] → length vs < n → length ws ≤ n
one_within n vs ws v new lt = let e : length ws ≡ length vs + 1 = ap length new ∙ length-append vs (v ∷ []) in omega (arith, e)

pub left_some : (n k : ℕ) → k < n → n - k ≡ suc (n - (k + 1))
left_some n k lt = omega arith
