-- One step of a reading after another.
use Rattle.std.proofs.Common.{◌≡◌, ℕ, List, ◌++◌, true, refl, sym, ◌∙◌, ap, append_assoc, true≢false}
use Rattle.std.specs.Prelude.{Ok, Err}
use Rattle.std.specs.declared.option.Option.{Option}
use Rattle.std.specs.declared.result.Result.{Result}
use Rattle.drb_tree.specs.declared.Tree.{Tree}
use Rattle.drb_outside.specs.Records.{Record}
use Rattle.drb_outside.specs.Changes.{ChangesBytes}
use Rattle.drb_outside.specs.Telling.{changes_on, changes_as}
use Rattle.drb_packet.specs.declared.refusal.PacketRefusal.TheVariants.{CutBetween}
use Rattle.drb_packet.specs.declared.stop.Stop.{Stop}
use Rattle.drb_packet.specs.declared.stop.Stop.TheVariants as stop
use Rattle.drb_packet.specs.Parsers.{Parsed, holds, ended, refused, Parser, on, ◌>>=◌, uncut, is_open}
use Rattle.drb_packet.specs.Packets.{packet, further}
use Rattle.drb_packet.specs.Reads.{Takes, Parses, Judges}

-- what was taken stands first in what was there
pub taken_at : {A : Type 0} (p : Parser A) (x : A) (a b : List ℕ) → Takes p x a b → p a ≡ holds x b
taken_at p x a b s = ap p s.1 ∙ s.2 b

open_on : {A B : Type 0} (q : Parsed A) (f : A → Parser B) → is_open q ≡ true → is_open (on q f) ≡ true
open_on (holds x rest) f e = absurd (true≢false (sym e))
open_on ended f e = refl
open_on (refused why rest) f e = e

fronts : (s t a b c : List ℕ) → a ≡ s ++ b → b ≡ t ++ c → a ≡ (s ++ t) ++ c
fronts s t a b c p q = p ∙ ap (λ r. s ++ r) q ∙ sym (append_assoc s t c)

pub reads_then : {A B : Type 0} (p : Parser A) (f : A → Parser B) (x : A) (r : Result B Stop) (a b c : List ℕ) → Takes p x a b → Parses (f x) r b c → Parses (p >>= f) r a c
reads_then p f x (Ok y) a b c s t = (s.0 ++ t.0, fronts s.0 t.0 a b c s.1 t.1, λ more. ap (λ q. on (p q) f) (append_assoc s.0 t.0 more) ∙ ap (λ q. on q f) (s.2 (t.0 ++ more)) ∙ t.2 more)
reads_then p f x (Err stop.End) a b c s t = (ap (λ q. on q f) (taken_at p x a b s) ∙ t.0, t.1)
reads_then p f x (Err (stop.Refused why)) a b c s t = ap (λ q. on q f) (taken_at p x a b s) ∙ t
reads_then p f x (Err stop.ReadFault) a b c s t = (s.0 ++ t.0, fronts s.0 t.0 a b c s.1 t.1, ap (λ q. is_open (on q f)) (s.2 t.0) ∙ t.2)
reads_then p f x (Err stop.Memory) a b c s t = (s.0 ++ t.0, fronts s.0 t.0 a b c s.1 t.1)

pub reads_stop : {A B : Type 0} (p : Parser A) (f : A → Parser B) (e : Stop) (a b : List ℕ) → Parses p (Err e) a b → Parses (p >>= f) (Err e) a b
reads_stop p f stop.End a b h = (ap (λ q. on q f) h.0, h.1)
reads_stop p f (stop.Refused why) a b h = ap (λ q. on q f) h
reads_stop p f stop.ReadFault a b h = (h.0, h.1, open_on (p h.0) f h.2)
reads_stop p f stop.Memory a b h = h

pub reads_judged : {A B : Type 0} (p : Parser A) (f : A → Parser B) (x : A) (r : Result B Stop) (a b : List ℕ) → Takes p x a b → Judges (f x) r → Parses (p >>= f) r a b
reads_judged p f x (Ok y) a b s j = (s.0, s.1, λ more. ap (λ q. on q f) (s.2 more) ∙ j more)
reads_judged p f x (Err stop.End) a b s j = absurd j
reads_judged p f x (Err (stop.Refused why)) a b s j = ap (λ q. on q f) (taken_at p x a b s) ∙ j b
reads_judged p f x (Err stop.ReadFault) a b s j = absurd j
reads_judged p f x (Err stop.Memory) a b s j = (s.0, s.1)

-- The same over a source.

pub changes_then : {A B : Type 0} {X : Type 0} {t : X → Option (List ℕ)} {k : X → List Record} {h f : X → ℕ} {a b c : X} (p : Parser A) (g : A → Parser B) (x : A) (r : Result B Stop) → ChangesBytes t k h f a b (Parses p (Ok x)) → ChangesBytes t k h f b c (Parses (g x) r) → ChangesBytes t k h f a c (Parses (p >>= g) r)
changes_then p g x r s u = changes_on (Parses p (Ok x)) (Parses (g x) r) (Parses (p >>= g) r) (λ d e i v w. reads_then p g x r d e i v w) s u

pub changes_stop : {A B : Type 0} {X : Type 0} {t : X → Option (List ℕ)} {k : X → List Record} {h f : X → ℕ} {a b : X} (p : Parser A) (g : A → Parser B) (e : Stop) → ChangesBytes t k h f a b (Parses p (Err e)) → ChangesBytes t k h f a b (Parses (p >>= g) (Err e))
changes_stop p g e s = changes_as (Parses p (Err e)) (Parses (p >>= g) (Err e)) (λ x y w. reads_stop p g e x y w) s

pub changes_judged : {A B : Type 0} {X : Type 0} {t : X → Option (List ℕ)} {k : X → List Record} {h f : X → ℕ} {a b : X} (p : Parser A) (g : A → Parser B) (x : A) (r : Result B Stop) → ChangesBytes t k h f a b (Parses p (Ok x)) → Judges (g x) r → ChangesBytes t k h f a b (Parses (p >>= g) r)
changes_judged p g x r s j = changes_as (Parses p (Ok x)) (Parses (p >>= g) r) (λ d e w. reads_judged p g x r d e w j) s

-- A packet that isn't the first.

open_uncut : {A : Type 0} (q : Parsed A) → is_open q ≡ true → is_open (uncut q) ≡ true
open_uncut (holds x rest) e = e
open_uncut ended e = refl
open_uncut (refused why rest) e = e

reads_uncut : (load : ℕ) (r : Result Tree Stop) (a b : List ℕ) → (r ≡ Err stop.End → ⊥) → Parses (packet load) r a b → Parses (further load) r a b
reads_uncut load (Ok x) a b never h = (h.0, h.1, λ more. ap (λ q. uncut q) (h.2 more))
reads_uncut load (Err stop.End) a b never h = absurd (never refl)
reads_uncut load (Err (stop.Refused why)) a b never h = ap (λ q. uncut q) h
reads_uncut load (Err stop.ReadFault) a b never h = (h.0, h.1, open_uncut (packet load h.0) h.2)
reads_uncut load (Err stop.Memory) a b never h = h

pub changes_uncut : {X : Type 0} {t : X → Option (List ℕ)} {k : X → List Record} {h f : X → ℕ} {a b : X} (load : ℕ) (r : Result Tree Stop) → (r ≡ Err stop.End → ⊥) → ChangesBytes t k h f a b (Parses (packet load) r) → ChangesBytes t k h f a b (Parses (further load) r)
changes_uncut load r never s = changes_as (Parses (packet load) r) (Parses (further load) r) (λ x y w. reads_uncut load r x y never w) s

reads_cut : (load : ℕ) (a b : List ℕ) → Parses (packet load) (Err stop.End) a b → further load a ≡ refused CutBetween b
reads_cut load a b h = ap (λ q. uncut q) h.0 ∙ ap (λ q. refused CutBetween q) (sym h.1)

pub changes_cut : {X : Type 0} {t : X → Option (List ℕ)} {k : X → List Record} {h f : X → ℕ} {a b : X} (load : ℕ) → ChangesBytes t k h f a b (Parses (packet load) (Err stop.End)) → ChangesBytes t k h f a b (Parses (further load) (Err (stop.Refused CutBetween)))
changes_cut load s = changes_as (Parses (packet load) (Err stop.End)) (Parses (further load) (Err (stop.Refused CutBetween))) (λ x y w. reads_cut load x y w) s
