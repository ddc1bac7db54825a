-- Where bytes don't decide what stands first, further bytes can make something else stand first.
--
-- Behind the end, a part of a size or a cut between two packets, bytes can follow that are refused for good. Behind a
-- part of a body, bytes can follow that make the body whole, and nothing behind it.
use Rattle.std.proofs.Common.{◌≡◌, ℕ, zero, suc, ◌-◌, ◌<◌, List, [], ◌∷◌, ◌++◌, length, length-append, take, drop, replicate, nat_lt, nat_le, Bool, true, false, if◌then◌else◌, refl, sym, ◌∙◌, ap, subst, append_assoc, arith, true≢false}
use Rattle.std.proofs.lemmas.Grind.{common_steps}
use Rattle.std.proofs.lemmas.Bool.Decides.{nat_tests}
use Rattle.std.proofs.lemmas.List.{append-nil}
use Rattle.std.specs.Prelude.{Ok, Err, pos, negsuc, None, Some}
use Rattle.byteorder.specs.Endian.{big_number}
use Rattle.std.specs.declared.option.Option.{Option}
use Rattle.drb_tree.specs.declared.Text.{Text}
use Rattle.drb_tree.specs.declared.Remote.{Remote}
use Rattle.drb_tree.specs.declared.Tree.{Tree}
use Rattle.drb_tree.specs.declared.Tree.TheViews.{out-Tree}
use Rattle.drb_tree.specs.declared.Tree.TheOpen.{Tree-F}
use Rattle.marshal_grammar.specs.Reading.{Read}
use Rattle.marshal_grammar.specs.Dumps.{dump, dump_with, dump_of}
use Rattle.drb_packet.specs.declared.refusal.PacketRefusal.{PacketRefusal}
use Rattle.drb_packet.specs.declared.refusal.PacketRefusal.TheVariants.{PrematureHeader, TooLarge, PrematureBody, Marshal, NotAName, NotACount, TooManyArguments, NotABlock, CutBetween}
use Rattle.drb_packet.specs.declared.request.Limits.{Limits}
use Rattle.drb_packet.specs.declared.request.Request.{Request}
use Rattle.drb_packet.specs.Parsers.{Parsed, holds, ended, refused, Parser, gives, refuses, on, ◌>>=◌, uncut, is_early, is_open}
use Rattle.drb_packet.specs.Packets.{small, packet_body, dumped, loaded, packet, further}
use Rattle.drb_packet.specs.Requests.{as_name, as_count, as_block, method_name, argument_count, arguments, block, next_request}
use Rattle.drb_packet.specs.Replies.{truth, next_reply}
use Rattle.drb_packet.specs.Laws.{first, Undecided, RequestsUndecided, RepliesUndecided}
use Rattle.drb_packet.proofs.Leaves.{body_whole}
use Rattle.drb_packet.proofs.Keeping.{Keeps, KeepsAt, keeps_packet, keeps_further, keeps_name, keeps_count, keeps_block, keeps_values}

abbrev is_body : PacketRefusal → Bool
is_body PrematureHeader = false
is_body (TooLarge n) = false
is_body PrematureBody = true
is_body (Marshal r) = false
is_body NotAName = false
is_body NotACount = false
is_body (TooManyArguments n) = false
is_body NotABlock = false
is_body CutBetween = false

-- a part of a body stands there
abbrev in_body : {A : Type 0} → Parsed A → Bool
in_body (holds a rest) = false
in_body ended = false
in_body (refused why rest) = is_body why

-- something stands first and nothing is behind it, or a refusal that isn't for a part of a body
abbrev Passed : {A : Type 0} → Parsed A → Type 0
Passed (holds a rest) = rest ≡ []
Passed ended = ⊥
Passed (refused why rest) = is_body why ≡ false

-- a refusal for good
abbrev Settled : {A : Type 0} → Parsed A → Type 0
Settled (holds a rest) = ⊥
Settled ended = ⊥
Settled (refused why rest) = is_early why ≡ false

abbrev Arrives : {A : Type 0} → Bool → Parsed A → Type 0
Arrives true q = Passed q
Arrives false q = Settled q

abbrev OpensAt : {A : Type 0} → Parser A → List ℕ → Parsed A → Type 0
OpensAt p bytes z = is_open z ≡ true → (more : List ℕ) × Arrives (in_body z) (p (bytes ++ more))

abbrev Opens : {A : Type 0} → Parser A → Type 0
Opens p = (bytes : List ℕ) → OpensAt p bytes (p bytes)

-- One after the other.

passed_on : {A B : Type 0} (q : Parsed A) (f : A → Parser B) → Passed q → ((a : A) → Passed (f a [])) → Passed (on q f)
passed_on (holds a rest) f h g = subst (λ r. Passed (f a r)) (sym h) (g a)
passed_on ended f h g = absurd h
passed_on (refused why rest) f h g = h

settled_on : {A B : Type 0} (q : Parsed A) (f : A → Parser B) → Settled q → Settled (on q f)
settled_on (holds a rest) f h = absurd h
settled_on ended f h = absurd h
settled_on (refused why rest) f h = h

arrives_on : {A B : Type 0} (b : Bool) (q : Parsed A) (f : A → Parser B) → Arrives b q → ((a : A) → Passed (f a [])) → Arrives b (on q f)
arrives_on true q f h g = passed_on q f h g
arrives_on false q f h g = settled_on q f h

further_on : {A B : Type 0} (p : Parser A) (f : A → Parser B) (a : A) (bytes rest taken more : List ℕ) → bytes ≡ taken ++ rest → ((m : List ℕ) → p (taken ++ m) ≡ holds a m) → (p >>= f) (bytes ++ more) ≡ f a (rest ++ more)
further_on p f a bytes rest taken more e h = ap (λ b. (p >>= f) b) (ap (λ q. q ++ more) e ∙ append_assoc taken rest more) ∙ ap (λ q. on q f) (h (rest ++ more))

opens_from : {A B : Type 0} (p : Parser A) (f : A → Parser B) (bytes : List ℕ) (z : Parsed A) → KeepsAt p bytes z → OpensAt p bytes z → ((a : A) → Opens (f a)) → ((a : A) → Passed (f a [])) → OpensAt (p >>= f) bytes (on z f)
opens_from p f bytes (holds a rest) k h g s opened =
    let m : (more : List ℕ) × Arrives (in_body (f a rest)) (f a (rest ++ more)) = g a rest opened in
    (m.0, subst (λ q. Arrives (in_body (f a rest)) q) (sym (further_on p f a bytes rest k.0 m.0 k.1 k.2)) m.1)
opens_from p f bytes ended k h g s opened =
    let m : (more : List ℕ) × Settled (p (bytes ++ more)) = h opened in
    (m.0, settled_on (p (bytes ++ m.0)) f m.1)
opens_from p f bytes (refused why rest) k h g s opened =
    let m : (more : List ℕ) × Arrives (is_body why) (p (bytes ++ more)) = h opened in
    (m.0, arrives_on (is_body why) (p (bytes ++ m.0)) f m.1 s)

opens_then : {A B : Type 0} (p : Parser A) (f : A → Parser B) → Keeps p → Opens p → ((a : A) → Opens (f a)) → ((a : A) → Passed (f a [])) → Opens (p >>= f)
opens_then p f k h g s bytes = opens_from p f bytes (p bytes) (k bytes) (h bytes) g s

-- What is decided without a byte.

opens_gives : {A : Type 0} (a : A) → Opens (gives a)
opens_gives a bytes e = absurd (true≢false (sym e))

opens_refuses : (A : Type 0) (why : PacketRefusal) → is_early why ≡ false → Opens (refuses {A = A} why)
opens_refuses A why early bytes e = absurd (true≢false (sym e ∙ early))

opens_as_name : (t : Tree-F Tree) → Opens (as_name t)
opens_as_name (Tree-F.Text t) = opens_gives t
opens_as_name _ = opens_refuses Text NotAName refl

passed_as_name : (t : Tree-F Tree) → Passed (as_name t [])
passed_as_name (Tree-F.Text t) = refl
passed_as_name _ = refl

few_opens : (b : Bool) (n : ℕ) → Opens (λ rest. (if b then gives n else refuses (TooManyArguments (pos n))) rest)
few_opens true n = opens_gives n
few_opens false n = opens_refuses ℕ (TooManyArguments (pos n)) refl

few_passed : (b : Bool) (n : ℕ) → Passed ((if b then gives n else refuses (TooManyArguments (pos n))) [])
few_passed true n = refl
few_passed false n = refl

opens_as_count : (most : ℕ) (t : Tree-F Tree) → Opens (as_count most t)
opens_as_count most (Tree-F.Int (pos n)) = few_opens (nat_le n most) n
opens_as_count most (Tree-F.Int (negsuc n)) = opens_refuses ℕ NotACount refl
opens_as_count most _ = opens_refuses ℕ NotACount refl

passed_as_count : (most : ℕ) (t : Tree-F Tree) → Passed (as_count most t [])
passed_as_count most (Tree-F.Int (pos n)) = few_passed (nat_le n most) n
passed_as_count most (Tree-F.Int (negsuc n)) = refl
passed_as_count most _ = refl

opens_as_block : (t : Tree-F Tree) → Opens (as_block t)
opens_as_block Tree-F.Nil = opens_gives {A = Option Remote} None
opens_as_block (Tree-F.Remote r) = opens_gives (Some r)
opens_as_block _ = opens_refuses (Option Remote) NotABlock refl

passed_as_block : (t : Tree-F Tree) → Passed (as_block t [])
passed_as_block Tree-F.Nil = refl
passed_as_block (Tree-F.Remote r) = refl
passed_as_block _ = refl

-- Zeros are no dump.

abbrev zeros : ℕ → List ℕ
zeros n = replicate n 0

abbrev is_refusal : Read Tree → Bool
is_refusal (Ok r) = false
is_refusal (Err w) = true

zeros_refused : (n : ℕ) → is_refusal (dump_of (zeros n)) ≡ true
unfolding dump dump_with
zeros_refused zero = refl
zeros_refused (suc n) = refl

settled_dumped : (r : Read Tree) (rest : List ℕ) → is_refusal r ≡ true → Settled (dumped r rest)
settled_dumped (Ok r) rest e = absurd (true≢false (sym e))
settled_dumped (Err w) rest e = refl

passed_dumped : (r : Read Tree) → Passed (dumped r [])
passed_dumped (Ok r) = refl
passed_dumped (Err w) = refl

open_dumped : (r : Read Tree) (rest : List ℕ) → is_open (dumped r rest) ≡ false
open_dumped (Ok r) rest = refl
open_dumped (Err w) rest = refl

zeros_whole : (n : ℕ) → packet_body n (zeros n) ≡ holds (zeros n) []
zeros_whole n =
    let l : length (zeros n) ≡ n = grind (arith, common_steps) in
    ap (λ b. packet_body n b) (sym (append-nil (zeros n))) ∙ body_whole n (zeros n) [] l

settled_zeros : (n : ℕ) → Settled (loaded n (zeros n))
settled_zeros n = subst (λ q. Settled (on q (λ b. dumped (dump_of b)))) (sym (zeros_whole n)) (settled_dumped (dump_of (zeros n)) [] (zeros_refused n))

sized_at : (load n : ℕ) (b : Bool) → nat_lt n load ≡ b → Settled (on (if b then holds n (zeros n) else refused (TooLarge n) (zeros n)) loaded)
sized_at load n true e = settled_zeros n
sized_at load n false e = refl

settled_size : (load n : ℕ) → Settled (on (small load n (zeros n)) loaded)
settled_size load n = sized_at load n (nat_lt n load) refl

-- A packet.

abbrev four : ℕ → ℕ → ℕ → ℕ → ℕ
four a b c d = big_number 4 (a ∷ b ∷ c ∷ d ∷ [])

-- a part of a body is made whole
whole_passed : (load n : ℕ) (rest : List ℕ) → nat_lt n load ≡ true → length rest < n → Passed (on (small load n (rest ++ zeros (n - length rest))) loaded)
whole_passed load n rest small_is lt =
    let z : length (zeros (n - length rest)) ≡ n - length rest = grind (arith, common_steps) in
    let l : length (rest ++ zeros (n - length rest)) ≡ n = length-append rest (zeros (n - length rest)) ∙ omega (arith, z, lt) in
    let all = rest ++ zeros (n - length rest) in
    let w : packet_body n all ≡ holds all [] = ap (λ b. packet_body n b) (sym (append-nil all)) ∙ body_whole n all [] l in
    subst (λ (b : Bool). Passed (on (if b then holds n all else refused (TooLarge n) all) loaded)) (sym small_is)
    (subst (λ q. Passed (on q (λ b. dumped (dump_of b)))) (sym w) (passed_dumped (dump_of all)))

body_opens : (load n : ℕ) (h rest : List ℕ) (s b : Bool) → ((more : List ℕ) → packet load (h ++ more) ≡ on (small load n more) loaded) → nat_lt n load ≡ true → nat_lt (length rest) n ≡ b → OpensAt (packet load) (h ++ rest) (on (if b then refused PrematureBody [] else holds (take n rest) (drop n rest)) (λ b. dumped (dump_of b)))
body_opens load n h rest s true is small_is e opened =
    let lt : length rest < n = grind (arith, nat_tests) in
    let all : packet load ((h ++ rest) ++ zeros (n - length rest)) ≡ on (small load n (rest ++ zeros (n - length rest))) loaded = ap (λ q. packet load q) (append_assoc h rest (zeros (n - length rest))) ∙ is (rest ++ zeros (n - length rest)) in
    (zeros (n - length rest), subst (λ q. Passed q) (sym all) (whole_passed load n rest small_is lt))
body_opens load n h rest s false is small_is e opened = absurd (true≢false (sym opened ∙ open_dumped (dump_of (take n rest)) (drop n rest)))

small_opens : (load n : ℕ) (h rest : List ℕ) (b : Bool) → ((more : List ℕ) → packet load (h ++ more) ≡ on (small load n more) loaded) → nat_lt n load ≡ b → OpensAt (packet load) (h ++ rest) (on (if b then holds n rest else refused (TooLarge n) rest) loaded)
small_opens load n h rest true is e opened = body_opens load n h rest true (nat_lt (length rest) n) is e refl opened
small_opens load n h rest false is e opened = absurd (true≢false (sym opened))

opens_packet : (load : ℕ) → Opens (packet load)
unfolding packet
opens_packet load [] opened = (0 ∷ 0 ∷ 0 ∷ 0 ∷ zeros (four 0 0 0 0), settled_size load (four 0 0 0 0))
opens_packet load (a ∷ []) opened = (0 ∷ 0 ∷ 0 ∷ zeros (four a 0 0 0), settled_size load (four a 0 0 0))
opens_packet load (a ∷ b ∷ []) opened = (0 ∷ 0 ∷ zeros (four a b 0 0), settled_size load (four a b 0 0))
opens_packet load (a ∷ b ∷ c ∷ []) opened = (0 ∷ zeros (four a b c 0), settled_size load (four a b c 0))
opens_packet load (a ∷ b ∷ c ∷ d ∷ rest) opened =
    small_opens load (four a b c d) (a ∷ b ∷ c ∷ d ∷ []) rest (nat_lt (four a b c d) load) (λ more. refl) refl opened

-- A packet that isn't the first.

passed_uncut : {A : Type 0} (q : Parsed A) → Passed q → Passed (uncut q)
passed_uncut (holds a rest) h = h
passed_uncut ended h = absurd h
passed_uncut (refused why rest) h = h

settled_uncut : {A : Type 0} (q : Parsed A) → Settled q → Settled (uncut q)
settled_uncut (holds a rest) h = absurd h
settled_uncut ended h = absurd h
settled_uncut (refused why rest) h = h

arrives_uncut : {A : Type 0} (b : Bool) (q : Parsed A) → Arrives b q → Arrives b (uncut q)
arrives_uncut true q h = passed_uncut q h
arrives_uncut false q h = settled_uncut q h

uncut_opens : {A : Type 0} (p : Parser A) (bytes : List ℕ) (z : Parsed A) → OpensAt p bytes z → OpensAt (λ b. uncut (p b)) bytes (uncut z)
uncut_opens p bytes (holds a rest) h opened = absurd (true≢false (sym opened))
uncut_opens p bytes ended h opened =
    let m : (more : List ℕ) × Settled (p (bytes ++ more)) = h refl in
    (m.0, settled_uncut (p (bytes ++ m.0)) m.1)
uncut_opens p bytes (refused why rest) h opened =
    let m : (more : List ℕ) × Arrives (is_body why) (p (bytes ++ more)) = h opened in
    (m.0, arrives_uncut (is_body why) (p (bytes ++ m.0)) m.1)

opens_further : (load : ℕ) → Opens (further load)
opens_further load bytes = uncut_opens (packet load) bytes (packet load bytes) (opens_packet load bytes)

passed_further : (load : ℕ) → Passed (further load [])
unfolding packet
passed_further load = refl

-- The parts of a request.

opens_name : (load : ℕ) → Opens (method_name load)
opens_name load = opens_then (further load) (λ v. as_name (out-Tree v)) (keeps_further load) (opens_further load) (λ v. opens_as_name (out-Tree v)) (λ v. passed_as_name (out-Tree v))

passed_name : (load : ℕ) → Passed (method_name load [])
passed_name load = passed_on (further load []) (λ v. as_name (out-Tree v)) (passed_further load) (λ v. passed_as_name (out-Tree v))

opens_count : (limits : Limits) → Opens (argument_count limits)
opens_count limits = opens_then (further limits.load) (λ v. as_count limits.args (out-Tree v)) (keeps_further limits.load) (opens_further limits.load) (λ v. opens_as_count limits.args (out-Tree v)) (λ v. passed_as_count limits.args (out-Tree v))

passed_count : (limits : Limits) → Passed (argument_count limits [])
passed_count limits = passed_on (further limits.load []) (λ v. as_count limits.args (out-Tree v)) (passed_further limits.load) (λ v. passed_as_count limits.args (out-Tree v))

opens_block : (load : ℕ) → Opens (block load)
opens_block load = opens_then (further load) (λ v. as_block (out-Tree v)) (keeps_further load) (opens_further load) (λ v. opens_as_block (out-Tree v)) (λ v. passed_as_block (out-Tree v))

passed_block : (load : ℕ) → Passed (block load [])
passed_block load = passed_on (further load []) (λ v. as_block (out-Tree v)) (passed_further load) (λ v. passed_as_block (out-Tree v))

passed_arguments : (load n : ℕ) → Passed (arguments load n [])
passed_arguments load zero = refl
passed_arguments load (suc n) = passed_on (further load []) (λ v. arguments load n >>= (λ vs. gives (v ∷ vs))) (passed_further load)
    (λ v. passed_on (arguments load n []) (λ vs. gives (v ∷ vs)) (passed_arguments load n) (λ vs. refl))

opens_arguments : (load n : ℕ) → Opens (arguments load n)
opens_arguments load zero = opens_gives {A = List Tree} []
opens_arguments load (suc n) = opens_then (further load) (λ v. arguments load n >>= (λ vs. gives (v ∷ vs))) (keeps_further load) (opens_further load)
    (λ v. opens_then (arguments load n) (λ vs. gives (v ∷ vs)) (keeps_values load n) (opens_arguments load n) (λ vs. opens_gives (v ∷ vs)) (λ vs. refl))
    (λ v. passed_on (arguments load n []) (λ vs. gives (v ∷ vs)) (passed_arguments load n) (λ vs. refl))

opens_request : (limits : Limits) → Opens (next_request limits)
unfolding next_request
opens_request limits = opens_then (packet limits.load) _ (keeps_packet limits.load) (opens_packet limits.load)
    (λ r. opens_then (method_name limits.load) _ (keeps_name limits.load) (opens_name limits.load)
    (λ t. opens_then (argument_count limits) _ (keeps_count limits) (opens_count limits)
    (λ n. opens_then (arguments limits.load n) _ (keeps_values limits.load n) (opens_arguments limits.load n)
    (λ vs. opens_then (block limits.load) _ (keeps_block limits.load) (opens_block limits.load)
    (λ b. opens_gives {A = Request} (record { reference = r; name = t; args = vs; block = b })) (λ b. refl))
    (λ vs. passed_on (block limits.load []) _ (passed_block limits.load) (λ b. refl)))
    (λ n. passed_on (arguments limits.load n []) _ (passed_arguments limits.load n) (λ vs. passed_on (block limits.load []) _ (passed_block limits.load) (λ b. refl))))
    (λ t. passed_on (argument_count limits []) _ (passed_count limits) (λ n. passed_on (arguments limits.load n []) _ (passed_arguments limits.load n) (λ vs. passed_on (block limits.load []) _ (passed_block limits.load) (λ b. refl)))))
    (λ r. passed_on (method_name limits.load []) _ (passed_name limits.load) (λ t. passed_on (argument_count limits []) _ (passed_count limits) (λ n. passed_on (arguments limits.load n []) _ (passed_arguments limits.load n) (λ vs. passed_on (block limits.load []) _ (passed_block limits.load) (λ b. refl)))))

opens_reply : (load : ℕ) → Opens (next_reply load)
unfolding next_reply
opens_reply load = opens_then (packet load) _ (keeps_packet load) (opens_packet load)
    (λ v. opens_then (further load) _ (keeps_further load) (opens_further load) (λ w. opens_gives {A = Bool × Tree} (truth (out-Tree v), w)) (λ w. refl))
    (λ v. passed_on (further load []) _ (passed_further load) (λ w. refl))

-- The law.

open_first : {A : Type 0} (q : Parsed A) → is_open (first q) ≡ is_open q
open_first (holds a rest) = refl
open_first ended = refl
open_first (refused why rest) = refl

body_first : {A : Type 0} (q : Parsed A) → in_body (first q) ≡ in_body q
body_first (holds a rest) = refl
body_first ended = refl
body_first (refused why rest) = refl

passed_body : {A : Type 0} (q : Parsed A) → Passed q → in_body q ≡ false
passed_body (holds a rest) h = refl
passed_body ended h = absurd h
passed_body (refused why rest) h = h

settled_open : {A : Type 0} (q : Parsed A) → Settled q → is_open q ≡ false
settled_open (holds a rest) h = absurd h
settled_open ended h = absurd h
settled_open (refused why rest) h = h

differs : {A : Type 0} (z q : Parsed A) (b : Bool) → in_body z ≡ b → is_open z ≡ true → Arrives b q → first q ≡ first z → ⊥
differs z q true e opened h same = true≢false (sym e ∙ sym (body_first z) ∙ ap in_body (sym same) ∙ body_first q ∙ passed_body q h)
differs z q false e opened h same = true≢false (sym opened ∙ sym (open_first z) ∙ ap is_open (sym same) ∙ open_first q ∙ settled_open q h)

undecided : {A : Type 0} (p : Parser A) → Opens p → Undecided p
undecided p h bytes opened =
    let m : (more : List ℕ) × Arrives (in_body (p bytes)) (p (bytes ++ more)) = h bytes opened in
    (m.0, differs (p bytes) (p (bytes ++ m.0)) (in_body (p bytes)) refl opened m.1)

pub requests_undecided : RequestsUndecided
requests_undecided limits = undecided (next_request limits) (opens_request limits)

pub replies_undecided : RepliesUndecided
replies_undecided load = undecided (next_reply load) (opens_reply load)
