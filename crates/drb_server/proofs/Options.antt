-- What the words of `drbts stdio` set, option by option.
use Rattle.std.proofs.Common.{◌≡◌, ◌∙◌, ℕ, ◌<◌, ◌≤◌, List, [], ◌∷◌, ◌++◌, map, length, Bool, true, false, Option, Some, None, IfSome, refl, sym, ap, subst, is_some, Bor, arith}
use Rattle.std.specs.Prelude.{◌↔◌, codes, option_to_list, option_copied, option_map, unwrap_or}
use Rattle.std.specs.Str.Parse.{AllDigits, digits_value}
use Rattle.drb_ref.specs.Uris.{IsUri}
use Rattle.drb_server.specs.Words.{Word, Setting, SpellAll, IsPlace, IsNumber, IsOnly, uris, caps, loads, Options, options, default_uri, default_turns, default_load, Means}
use Rattle.drb_server.specs.Words.Setting.{uri, max_turns, load_limit}
use Rattle.drb_server.specs.Named.{Named, named, Sets, Takes}

abbrev pub uri_name : Word
uri_name = codes "--uri"

abbrev pub turns_name : Word
turns_name = codes "--max-turns"

abbrev pub load_name : Word
load_name = codes "--load-limit"

-- The words of an option go first, and what it sets is set.

uri_goes : (n m : Option ℕ) (word : Word) (words : List Word) (o : Options) (settings : List Setting) → SpellAll settings (uri_name ∷ word ∷ words) → IsOnly default_uri (uris settings) o.uri → IsOnly default_turns (option_to_list n ++ caps settings) o.max_turns → IsOnly default_load (option_to_list m ++ loads settings) o.load_limit → Sets words (named (Some word) n m) o
uri_goes n m word words o [] s a b c = absurd (cc)
uri_goes n m word words o (uri u ∷ settings) s a b c = record { settings = settings; spell = s.1; uri = subst (λ (q : Word). IsOnly default_uri (q ∷ uris settings) o.uri) (sym s.0.1) a; turns = b; load = c }
uri_goes n m word words o (max_turns k ∷ settings) s a b c = let e : uri_name ≡ turns_name = s.0.0 in absurd (cc)
uri_goes n m word words o (load_limit k ∷ settings) s a b c = let e : uri_name ≡ load_name = s.0.0 in absurd (cc)

pub uri_taken : (r : Option (Bor Word)) (n m : Option ℕ) (word : Word) → is_some r ≡ false → IsPlace word → (words : List Word) (o : Options) → Sets (uri_name ∷ word ∷ words) (named (option_copied r) n m) o ↔ Sets words (named (Some word) n m) o
uri_taken None n m word e place words o = (
  (λ h. uri_goes n m word words o h.settings h.spell h.uri h.turns h.load),
  (λ h. record { settings = uri word ∷ h.settings; spell = ((refl, refl, place), h.spell); uri = h.uri; turns = h.turns; load = h.load }),
)
uri_taken (Some x) n m word e place words o = absurd (cc)

uri_again : (x : Word) (n m : Option ℕ) (word : Word) (words : List Word) (o : Options) (settings : List Setting) → SpellAll settings (uri_name ∷ word ∷ words) → IsOnly default_uri (x ∷ uris settings) o.uri → ⊥
uri_again x n m word words o [] s a = absurd (cc)
uri_again x n m word words o (uri u ∷ settings) s a = a
uri_again x n m word words o (max_turns k ∷ settings) s a = let e : uri_name ≡ turns_name = s.0.0 in absurd (cc)
uri_again x n m word words o (load_limit k ∷ settings) s a = let e : uri_name ≡ load_name = s.0.0 in absurd (cc)

pub uri_twice : (r : Option (Bor Word)) (n m : Option ℕ) (word : Word) → is_some r ≡ true → (words : List Word) (o : Options) → Sets (uri_name ∷ word ∷ words) (named (option_copied r) n m) o → ⊥
uri_twice None n m word e words o h = absurd (cc)
uri_twice (Some x) n m word e words o h = uri_again x.now n m word words o h.settings h.spell h.uri

no_place : (word : Word) (words : List Word) (settings : List Setting) → (IsPlace word → ⊥) → SpellAll settings (uri_name ∷ word ∷ words) → ⊥
no_place word words [] none s = absurd (cc)
no_place word words (uri u ∷ settings) none s = none (subst IsPlace (sym s.0.1) s.0.2)
no_place word words (max_turns k ∷ settings) none s = let e : uri_name ≡ turns_name = s.0.0 in absurd (cc)
no_place word words (load_limit k ∷ settings) none s = let e : uri_name ≡ load_name = s.0.0 in absurd (cc)

pub uri_refused : (before : Named) (word : Word) (b : Bool) → (b ≡ true → IsPlace word) × (IsPlace word → b ≡ true) → b ≡ false → (words : List Word) (o : Options) → Sets (uri_name ∷ word ∷ words) before o → ⊥
uri_refused before word b is e words o h = no_place word words h.settings (λ p. let t : b ≡ true = is.1 p in absurd (cc)) h.spell

turns_goes : (u : Option Word) (m : Option ℕ) (word : Word) (k : ℕ) (words : List Word) (o : Options) (settings : List Setting) → ((n : ℕ) → IsNumber 1 4000000 word n → Some k ≡ Some n) → SpellAll settings (turns_name ∷ word ∷ words) → IsOnly default_uri (option_to_list u ++ uris settings) o.uri → IsOnly default_turns (caps settings) o.max_turns → IsOnly default_load (option_to_list m ++ loads settings) o.load_limit → Sets words (named u (Some k) m) o
turns_goes u m word k words o [] every s a b c = absurd (cc)
turns_goes u m word k words o (uri x ∷ settings) every s a b c = let e : turns_name ≡ uri_name = s.0.0 in absurd (cc)
turns_goes u m word k words o (max_turns n ∷ settings) every s a b c = let same : Some k ≡ Some n = every n s.0.1 in record { settings = settings; spell = s.1; uri = a; turns = subst (λ (q : ℕ). IsOnly default_turns (q ∷ caps settings) o.max_turns) (cc) b; load = c }
turns_goes u m word k words o (load_limit n ∷ settings) every s a b c = let e : turns_name ≡ load_name = s.0.0 in absurd (cc)

no_turns : (word : Word) (words : List Word) (settings : List Setting) → ((n : ℕ) → IsNumber 1 4000000 word n → ⊥) → SpellAll settings (turns_name ∷ word ∷ words) → ⊥
no_turns word words [] none s = absurd (cc)
no_turns word words (uri x ∷ settings) none s = let e : turns_name ≡ uri_name = s.0.0 in absurd (cc)
no_turns word words (max_turns n ∷ settings) none s = none n s.0.1
no_turns word words (load_limit n ∷ settings) none s = let e : turns_name ≡ load_name = s.0.0 in absurd (cc)

pub turns_taken : (u : Option Word) (was m : Option ℕ) (word : Word) (r : Option ℕ) (b : Bool) → is_some was ≡ false → IfSome r (λ n. IsNumber 1 4000000 word n) → ((n : ℕ) → IsNumber 1 4000000 word n → r ≡ Some n) → b ≡ is_some r → Takes turns_name word (named u was m) (named u r m) b
turns_taken u (Some x) m word r b e is every f = absurd (cc)
turns_taken u None m word None b e is every f = subst (λ (q : Bool). Takes turns_name word (named u None m) (named u None m) q) (sym f) (λ words o h. no_turns word words h.settings (λ n p. let q : None ≡ Some n = every n p in absurd (cc)) h.spell)
turns_taken u None m word (Some k) b e is every f = subst (λ (q : Bool). Takes turns_name word (named u None m) (named u (Some k) m) q) (sym f) (λ words o. (
  (λ h. turns_goes u m word k words o h.settings every h.spell h.uri h.turns h.load),
  (λ h. record { settings = max_turns k ∷ h.settings; spell = ((refl, is), h.spell); uri = h.uri; turns = h.turns; load = h.load }),
))

turns_again : (x : ℕ) (word : Word) (words : List Word) (o : Options) (settings : List Setting) → SpellAll settings (turns_name ∷ word ∷ words) → IsOnly default_turns (x ∷ caps settings) o.max_turns → ⊥
turns_again x word words o [] s a = absurd (cc)
turns_again x word words o (uri u ∷ settings) s a = let e : turns_name ≡ uri_name = s.0.0 in absurd (cc)
turns_again x word words o (max_turns k ∷ settings) s a = a
turns_again x word words o (load_limit k ∷ settings) s a = let e : turns_name ≡ load_name = s.0.0 in absurd (cc)

pub turns_twice : (u : Option Word) (was m : Option ℕ) (word : Word) → is_some was ≡ true → (words : List Word) (o : Options) → Sets (turns_name ∷ word ∷ words) (named u was m) o → ⊥
turns_twice u None m word e words o h = absurd (cc)
turns_twice u (Some x) m word e words o h = turns_again x word words o h.settings h.spell h.turns

load_goes : (u : Option Word) (n : Option ℕ) (word : Word) (k : ℕ) (words : List Word) (o : Options) (settings : List Setting) → ((i : ℕ) → IsNumber 64 1073741823 word i → Some k ≡ Some i) → SpellAll settings (load_name ∷ word ∷ words) → IsOnly default_uri (option_to_list u ++ uris settings) o.uri → IsOnly default_turns (option_to_list n ++ caps settings) o.max_turns → IsOnly default_load (loads settings) o.load_limit → Sets words (named u n (Some k)) o
load_goes u n word k words o [] every s a b c = absurd (cc)
load_goes u n word k words o (uri x ∷ settings) every s a b c = let e : load_name ≡ uri_name = s.0.0 in absurd (cc)
load_goes u n word k words o (max_turns i ∷ settings) every s a b c = let e : load_name ≡ turns_name = s.0.0 in absurd (cc)
load_goes u n word k words o (load_limit i ∷ settings) every s a b c = let same : Some k ≡ Some i = every i s.0.1 in record { settings = settings; spell = s.1; uri = a; turns = b; load = subst (λ (q : ℕ). IsOnly default_load (q ∷ loads settings) o.load_limit) (cc) c }

no_load : (word : Word) (words : List Word) (settings : List Setting) → ((n : ℕ) → IsNumber 64 1073741823 word n → ⊥) → SpellAll settings (load_name ∷ word ∷ words) → ⊥
no_load word words [] none s = absurd (cc)
no_load word words (uri x ∷ settings) none s = let e : load_name ≡ uri_name = s.0.0 in absurd (cc)
no_load word words (max_turns n ∷ settings) none s = let e : load_name ≡ turns_name = s.0.0 in absurd (cc)
no_load word words (load_limit n ∷ settings) none s = none n s.0.1

pub load_taken : (u : Option Word) (n was : Option ℕ) (word : Word) (r : Option ℕ) (b : Bool) → is_some was ≡ false → IfSome r (λ k. IsNumber 64 1073741823 word k) → ((k : ℕ) → IsNumber 64 1073741823 word k → r ≡ Some k) → b ≡ is_some r → Takes load_name word (named u n was) (named u n r) b
load_taken u n (Some x) word r b e is every f = absurd (cc)
load_taken u n None word None b e is every f = subst (λ (q : Bool). Takes load_name word (named u n None) (named u n None) q) (sym f) (λ words o h. no_load word words h.settings (λ k p. let q : None ≡ Some k = every k p in absurd (cc)) h.spell)
load_taken u n None word (Some k) b e is every f = subst (λ (q : Bool). Takes load_name word (named u n None) (named u n (Some k)) q) (sym f) (λ words o. (
  (λ h. load_goes u n word k words o h.settings every h.spell h.uri h.turns h.load),
  (λ h. record { settings = load_limit k ∷ h.settings; spell = ((refl, is), h.spell); uri = h.uri; turns = h.turns; load = h.load }),
))

load_again : (x : ℕ) (word : Word) (words : List Word) (o : Options) (settings : List Setting) → SpellAll settings (load_name ∷ word ∷ words) → IsOnly default_load (x ∷ loads settings) o.load_limit → ⊥
load_again x word words o [] s a = absurd (cc)
load_again x word words o (uri u ∷ settings) s a = let e : load_name ≡ uri_name = s.0.0 in absurd (cc)
load_again x word words o (max_turns k ∷ settings) s a = let e : load_name ≡ turns_name = s.0.0 in absurd (cc)
load_again x word words o (load_limit k ∷ settings) s a = a

pub load_twice : (u : Option Word) (n was : Option ℕ) (word : Word) → is_some was ≡ true → (words : List Word) (o : Options) → Sets (load_name ∷ word ∷ words) (named u n was) o → ⊥
load_twice u n None word e words o h = absurd (cc)
load_twice u n (Some x) word e words o h = load_again x word words o h.settings h.spell h.load

-- a word that names no option
stranger : (name word : Word) (words : List Word) (settings : List Setting) → (name ≡ uri_name → ⊥) → (name ≡ turns_name → ⊥) → (name ≡ load_name → ⊥) → SpellAll settings (name ∷ word ∷ words) → ⊥
stranger name word words [] a b c s = absurd (cc)
stranger name word words (uri u ∷ settings) a b c s = a s.0.0
stranger name word words (max_turns k ∷ settings) a b c s = b s.0.0
stranger name word words (load_limit k ∷ settings) a b c s = c s.0.0

pub names_none : (before : Named) (name word : Word) (x y z : Bool) → (x ≡ true → name ≡ uri_name) × (name ≡ uri_name → x ≡ true) → (y ≡ true → name ≡ turns_name) × (name ≡ turns_name → y ≡ true) → (z ≡ true → name ≡ load_name) × (name ≡ load_name → z ≡ true) → x ≡ false → y ≡ false → z ≡ false → (words : List Word) (o : Options) → Sets (name ∷ word ∷ words) before o → ⊥
names_none before name word x y z a b c d e f words o h = stranger name word words h.settings (λ q. let t : x ≡ true = a.1 q in absurd (cc)) (λ q. let t : y ≡ true = b.1 q in absurd (cc)) (λ q. let t : z ≡ true = c.1 q in absurd (cc)) h.spell

pub named_so : (name other word : Word) (before after : Named) (b : Bool) → name ≡ other → Takes other word before after b → Takes name word before after b
named_so name other word before after b e t = subst (λ (q : Word). Takes q word before after b) (sym e) t

-- What is set where nothing more is named.

only_or : (default x : ℕ) (r : Option ℕ) → x ≡ unwrap_or r default → IsOnly default (option_to_list r ++ []) x
only_or default x None e = e
only_or default x (Some y) e = e

only_uri : (x : Word) (u : Option Word) → IsOnly default_uri (option_to_list u) x → IsOnly default_uri (option_to_list u ++ []) x
only_uri x None h = h
only_uri x (Some y) h = h

only_one : {A : Type 0} (default a b : A) (xs : List A) → IsOnly default xs a → IsOnly default xs b → a ≡ b
only_one default a b [] h k = h ∙ sym k
only_one default a b (x ∷ []) h k = h ∙ sym k
only_one default a b (x ∷ y ∷ more) h k = absurd h

same_options : (x x' : Word) (y y' z z' : ℕ) → x ≡ x' → y ≡ y' → z ≡ z' → options x y z ≡ options x' y' z'
same_options x x' y y' z z' a b c = ap (λ (q : Word). options q y z) a ∙ ap (λ (q : ℕ). options x' q z) b ∙ ap (λ (q : ℕ). options x' y' q) c

set_by : (u : Option Word) (n m : Option ℕ) (x : Word) (y z : ℕ) (o : Options) (settings : List Setting) → IsOnly default_uri (option_to_list u ++ []) x → IsOnly default_turns (option_to_list n ++ []) y → IsOnly default_load (option_to_list m ++ []) z → SpellAll settings [] → IsOnly default_uri (option_to_list u ++ uris settings) o.uri → IsOnly default_turns (option_to_list n ++ caps settings) o.max_turns → IsOnly default_load (option_to_list m ++ loads settings) o.load_limit → options x y z ≡ o
set_by u n m x y z o [] p q r s a b c = same_options x o.uri y o.max_turns z o.load_limit (only_one default_uri x o.uri (option_to_list u ++ []) p a) (only_one default_turns y o.max_turns (option_to_list n ++ []) q b) (only_one default_load z o.load_limit (option_to_list m ++ []) r c)
set_by u n m x y z o (s ∷ settings) p q r f a b c = absurd f

pub set_up : (u : Option Word) (n m : Option ℕ) (x : Word) (y z : ℕ) → IsOnly default_uri (option_to_list u) x → y ≡ unwrap_or n default_turns → z ≡ unwrap_or m default_load → (o : Options) → Sets [] (named u n m) o ↔ options x y z ≡ o
set_up u n m x y z a b c o =
    let p = only_uri x u a in
    let q = only_or default_turns y n b in
    let r = only_or default_load z m c in (
      (λ h. set_by u n m x y z o h.settings p q r h.spell h.uri h.turns h.load),
      (λ e. subst (λ (k : Options). Sets [] (named u n m) k) e (record { settings = []; spell = refl; uri = p; turns = q; load = r })),
    )

-- Numbers and uris.

pub place_is : (text word host : List ℕ) (port : ℕ) → text ≡ word → IsUri text host port → IsPlace word
place_is text word host port e h = (host, port, subst (λ (t : List ℕ). IsUri t host port) e h)

pub no_place_is : (text word : List ℕ) → text ≡ word → ((host : List ℕ) (port : ℕ) → IsUri text host port → ⊥) → IsPlace word → ⊥
no_place_is text word e none (host, port, h) = none host port (subst (λ (t : List ℕ). IsUri t host port) (sym e) h)

pub number_is : (word : Word) (v r : Option ℕ) (least greatest : ℕ) → length word ≤ 10 → AllDigits 10 word → IfSome v (λ n. (0 < length word) × (n ≡ digits_value 10 word)) → IfSome r (λ n. (v ≡ Some n) × (least ≤ n) × (n ≤ greatest)) → IfSome r (λ n. IsNumber least greatest word n)
number_is word v None least greatest l a h f = tt
number_is word v (Some n) least greatest l a h f =
    let g : (0 < length word) × (n ≡ digits_value 10 word) = subst (λ (o : Option ℕ). IfSome o (λ m. (0 < length word) × (m ≡ digits_value 10 word))) f.0 h in
    ((g.0, a), l, sym g.1, f.1, f.2)

tail_is : (x y : Word) (xs ys : List Word) → x ∷ xs ≡ y ∷ ys → ys ≡ xs
tail_is x y xs ys e = cc

head_is : (x y : Word) (xs ys : List Word) → x ∷ xs ≡ y ∷ ys → x ≡ y
head_is x y xs ys e = cc

-- Words that are read two by two.

pub step_on : {X : Type 0} (f : X → Word) (start before after : Named) (all rest behind : List X) (n w : X) (name word : Word) (b : Bool) → rest ≡ n ∷ w ∷ behind → name ≡ f n → word ≡ f w → Takes name word before after b → b ≡ true → ((o : Options) → Sets (map f all) start o ↔ Sets (map f rest) before o) → (o : Options) → Sets (map f all) start o ↔ Sets (map f behind) after o
step_on {X = X} f start before after all rest behind n w name word b e x y t is h o =
    let takes : (words : List Word) (q : Options) → Sets (name ∷ word ∷ words) before q ↔ Sets words after q = subst (λ (k : Bool). Takes name word before after k) is t in
    let same : map f rest ≡ name ∷ word ∷ map f behind = ap (λ (q : List X). map f q) e ∙ ap (λ (q : Word). q ∷ f w ∷ map f behind) (sym x) ∙ ap (λ (q : Word). name ∷ q ∷ map f behind) (sym y) in
    let both = takes (map f behind) o in (
      (λ k. both.0 (subst (λ (q : List Word). Sets q before o) same ((h o).0 k))),
      (λ k. (h o).1 (subst (λ (q : List Word). Sets q before o) (sym same) (both.1 k))),
    )

pub stop_at : {X : Type 0} (f : X → Word) (start before after : Named) (all rest behind : List X) (n w : X) (name word : Word) (b : Bool) → rest ≡ n ∷ w ∷ behind → name ≡ f n → word ≡ f w → Takes name word before after b → b ≡ false → ((o : Options) → Sets (map f all) start o ↔ Sets (map f rest) before o) → (o : Options) → Sets (map f all) start o → ⊥
stop_at {X = X} f start before after all rest behind n w name word b e x y t is h o k =
    let none : (words : List Word) (q : Options) → Sets (name ∷ word ∷ words) before q → ⊥ = subst (λ (k : Bool). Takes name word before after k) is t in
    let same : map f rest ≡ name ∷ word ∷ map f behind = ap (λ (q : List X). map f q) e ∙ ap (λ (q : Word). q ∷ f w ∷ map f behind) (sym x) ∙ ap (λ (q : Word). name ∷ q ∷ map f behind) (sym y) in
    none (map f behind) o (subst (λ (q : List Word). Sets q before o) same ((h o).0 k))

one_left : (name : Word) (settings : List Setting) → SpellAll settings (name ∷ []) → ⊥
one_left name [] s = absurd (cc)
one_left name (x ∷ settings) s = s

pub left_alone : {X : Type 0} (f : X → Word) (start before : Named) (all rest : List X) (n : X) → rest ≡ n ∷ [] → ((o : Options) → Sets (map f all) start o ↔ Sets (map f rest) before o) → (o : Options) → Sets (map f all) start o → ⊥
left_alone {X = X} f start before all rest n e h o k =
    let g : Sets (map f (n ∷ [])) before o = subst (λ (q : List X). Sets (map f q) before o) e ((h o).0 k) in
    one_left (f n) g.settings g.spell

pub all_read : {X : Type 0} (f : X → Word) (start before : Named) (all rest : List X) → rest ≡ [] → ((o : Options) → Sets (map f all) start o ↔ Sets (map f rest) before o) → (o : Options) → Sets (map f all) start o ↔ Sets [] before o
all_read {X = X} f start before all rest e h o = (
  (λ k. subst (λ (q : List X). Sets (map f q) before o) e ((h o).0 k)),
  (λ k. (h o).1 (subst (λ (q : List X). Sets (map f q) before o) (sym e) k)),
)

-- What is answered of the words.

pub none_is : (P : Options → Type 0) → ((o : Options) → P o → ⊥) → (o : Options) → P o ↔ None ≡ Some o
none_is P none o = ((λ p. absurd (none o p)), (λ q. absurd (cc)))

pub none_given : {A : Type 0} (f : A → Options) (r : Option A) (P : Options → Type 0) → r ≡ None → ((o : Options) → P o → ⊥) → (o : Options) → P o ↔ option_map f r ≡ Some o
none_given f None P e none o = none_is P none o
none_given f (Some x) P e none o = absurd (cc)

some_is : (x o : Options) → Some x ≡ Some o → x ≡ o
some_is x o e = cc

pub some_given : (x : Options) (P Q : Options → Type 0) → ((o : Options) → P o ↔ Q o) → ((o : Options) → Q o ↔ x ≡ o) → (o : Options) → P o ↔ Some x ≡ Some o
some_given x P Q h k o = ((λ p. ap (λ (q : Options). Some q) ((k o).0 ((h o).0 p))), (λ e. (h o).1 ((k o).1 (some_is x o e))))

pub both_on : {A B C : Type 0} → A ↔ B → B ↔ C → A ↔ C
both_on h k = ((λ a. k.0 (h.0 a)), (λ c. h.1 (k.1 c)))

pub empty_is : {X : Type 0} (xs : List X) → length xs ≡ 0 → xs ≡ []
empty_is [] e = refl
empty_is (x ∷ xs) e = absurd (omega arith)

-- The first word.

pub named_first : {X : Type 0} (f : X → Word) (words rest : List X) (n : X) (name : Word) → words ≡ n ∷ rest → name ≡ f n → name ≡ codes "stdio" → (o : Options) → Means (map f words) o ↔ Sets (map f rest) (named None None None) o
named_first {X = X} f words rest n name e x y o =
    let same : map f words ≡ f n ∷ map f rest = ap (λ (q : List X). map f q) e in (
      (λ h. let t : h.rest ≡ map f rest = tail_is (f n) (codes "stdio") (map f rest) h.rest (sym same ∙ h.begins) in record { settings = h.settings; spell = subst (λ (q : List Word). SpellAll h.settings q) t h.spell; uri = h.uri; turns = h.turns; load = h.load }),
      (λ h. record { settings = h.settings; rest = map f rest; begins = same ∙ ap (λ (q : Word). q ∷ map f rest) (sym x ∙ y); spell = h.spell; uri = h.uri; turns = h.turns; load = h.load }),
    )

pub other_first : {X : Type 0} (f : X → Word) (words rest : List X) (n : X) (name : Word) (b : Bool) → words ≡ n ∷ rest → name ≡ f n → (b ≡ true → name ≡ codes "stdio") × (name ≡ codes "stdio" → b ≡ true) → b ≡ false → (o : Options) → Means (map f words) o → ⊥
other_first {X = X} f words rest n name b e x is wrong o h =
    let same : map f words ≡ f n ∷ map f rest = ap (λ (q : List X). map f q) e in
    let t : b ≡ true = is.1 (x ∙ head_is (f n) (codes "stdio") (map f rest) h.rest (sym same ∙ h.begins)) in
    absurd (cc)

pub no_first : {X : Type 0} (f : X → Word) (words : List X) → words ≡ [] → (o : Options) → Means (map f words) o → ⊥
no_first {X = X} f words e o h = let t : [] ≡ codes "stdio" ∷ h.rest = ap (λ (q : List X). map f q) (sym e) ∙ h.begins in absurd (cc)
