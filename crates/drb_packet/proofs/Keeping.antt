-- What the definitions keep: what stands first is followed by the end of the bytes, and doesn't change with more bytes.
use Rattle.std.proofs.Common.{◌≡◌, ℕ, zero, suc, ◌≤◌, List, [], ◌∷◌, ◌++◌, length, take, drop, nat_lt, nat_le, Bool, true, false, if◌then◌else◌, refl, sym, ◌∙◌, ap, subst, append_assoc, arith, true≢false}
use Rattle.std.proofs.lemmas.Grind.{common_steps}
use Rattle.std.proofs.lemmas.Bool.Decides.{nat_tests}
use Rattle.std.proofs.lemmas.List.{append-nil, take-append-drop}
use Rattle.std.specs.Prelude.{Ok, Err, pos, negsuc, None, Some}
use Rattle.drb_tree.specs.declared.Tree.{Tree}
use Rattle.drb_tree.specs.declared.Tree.TheViews.{out-Tree}
use Rattle.drb_tree.specs.declared.Tree.TheOpen.{Tree-F}
use Rattle.marshal_grammar.specs.Reading.{Read}
use Rattle.marshal_grammar.specs.Dumps.{dump_of}
use Rattle.drb_packet.specs.declared.refusal.PacketRefusal.{PacketRefusal}
use Rattle.drb_packet.specs.declared.refusal.PacketRefusal.TheVariants.{TooLarge, PrematureBody, NotAName, NotACount, TooManyArguments, NotABlock}
use Rattle.byteorder.specs.Endian.{big_number}
use Rattle.drb_packet.specs.declared.request.Limits.{Limits}
use Rattle.drb_packet.specs.declared.request.Request.{Request}
use Rattle.drb_packet.specs.Parsers.{Parsed, holds, ended, refused, Parser, gives, refuses, on, ◌>>=◌, uncut, is_early, is_open}
use Rattle.drb_packet.specs.Packets.{small, size, packet_body, dumped, loaded, packet, further}
use Rattle.drb_packet.specs.Requests.{as_name, few, as_count, as_block, method_name, argument_count, arguments, block, next_request}
use Rattle.drb_packet.specs.Replies.{truth, next_reply}
use Rattle.drb_packet.specs.Reads.{Takes}
use Rattle.drb_packet.specs.Laws.{followed, AnyMore, Behind, RequestsAnyMore, RepliesAnyMore, RequestsBehind, RepliesBehind}
use Rattle.drb_packet.proofs.Leaves.{body_whole}

-- a refusal rests on these bytes, and unless they end too early it holds whatever follows them
abbrev pub Rests : {A : Type 0} → Parser A → PacketRefusal → List ℕ → List ℕ → Type 0
Rests p why bytes rest = (taken : List ℕ) × (bytes ≡ taken ++ rest) × (is_early why ≡ false → (more : List ℕ) → p (taken ++ more) ≡ refused why more)

abbrev pub KeepsAt : {A : Type 0} → Parser A → List ℕ → Parsed A → Type 0
KeepsAt p bytes (holds a rest) = Takes p a bytes rest
KeepsAt p bytes ended = Unit {0}
KeepsAt p bytes (refused why rest) = Rests p why bytes rest

abbrev pub Keeps : {A : Type 0} → Parser A → Type 0
Keeps p = (bytes : List ℕ) → KeepsAt p bytes (p bytes)

fronts : (s t a b c : List ℕ) → a ≡ s ++ b → b ≡ t ++ c → a ≡ (s ++ t) ++ c
fronts s t a b c p q = p ∙ ap (λ r. s ++ r) q ∙ sym (append_assoc s t c)

keeps_on : {A B : Type 0} (p : Parser A) (f : A → Parser B) (a : A) (bytes rest : List ℕ) (z : Parsed B) → Takes p a bytes rest → KeepsAt (f a) rest z → KeepsAt (p >>= f) bytes z
keeps_on p f a bytes rest (holds b behind) t k = (t.0 ++ k.0, fronts t.0 k.0 bytes rest behind t.1 k.1, λ more. ap (λ q. on (p q) f) (append_assoc t.0 k.0 more) ∙ ap (λ q. on q f) (t.2 (k.0 ++ more)) ∙ k.2 more)
keeps_on p f a bytes rest ended t k = tt
keeps_on p f a bytes rest (refused why behind) t k = (t.0 ++ k.0, fronts t.0 k.0 bytes rest behind t.1 k.1, λ e more. ap (λ q. on (p q) f) (append_assoc t.0 k.0 more) ∙ ap (λ q. on q f) (t.2 (k.0 ++ more)) ∙ k.2 e more)

keeps_from : {A B : Type 0} (p : Parser A) (f : A → Parser B) (bytes : List ℕ) (q : Parsed A) → ((a : A) → Keeps (f a)) → KeepsAt p bytes q → KeepsAt (p >>= f) bytes (on q f)
keeps_from p f bytes (holds a rest) g k = keeps_on p f a bytes rest (f a rest) k (g a rest)
keeps_from p f bytes ended g k = tt
keeps_from p f bytes (refused why rest) g k = (k.0, k.1, λ e more. ap (λ q. on q f) (k.2 e more))

keeps_then : {A B : Type 0} (p : Parser A) (f : A → Parser B) → Keeps p → ((a : A) → Keeps (f a)) → Keeps (p >>= f)
keeps_then p f h g bytes = keeps_from p f bytes (p bytes) g (h bytes)

keeps_gives : {A : Type 0} (a : A) → Keeps (gives a)
keeps_gives a bytes = ([], refl, λ more. refl)

keeps_refuses : {A : Type 0} (why : PacketRefusal) → Keeps (refuses {A = A} why)
keeps_refuses why bytes = ([], refl, λ e more. refl)

-- The leaves.

small_at : (b : Bool) (n : ℕ) → Keeps (λ rest. if b then holds n rest else refused (TooLarge n) rest)
small_at true n bytes = ([], refl, λ more. refl)
small_at false n bytes = ([], refl, λ e more. refl)

keeps_small : (load n : ℕ) → Keeps (small load n)
keeps_small load n = small_at (nat_lt n load) n

-- behind these bytes it is another reading
keeps_behind : {A : Type 0} (p q : Parser A) (h bytes rest : List ℕ) (z : Parsed A) → bytes ≡ h ++ rest → ((more : List ℕ) → p (h ++ more) ≡ q more) → KeepsAt q rest z → KeepsAt p bytes z
keeps_behind p q h bytes rest (holds a end) is same k = (h ++ k.0, fronts h k.0 bytes rest end is k.1, λ more. ap p (append_assoc h k.0 more) ∙ same (k.0 ++ more) ∙ k.2 more)
keeps_behind p q h bytes rest ended is same k = tt
keeps_behind p q h bytes rest (refused why end) is same k = (h ++ k.0, fronts h k.0 bytes rest end is k.1, λ e more. ap p (append_assoc h k.0 more) ∙ same (k.0 ++ more) ∙ k.2 e more)

keeps_size : (load : ℕ) → Keeps (size load)
keeps_size load [] = tt
keeps_size load (a ∷ []) = (a ∷ [], refl, λ e. absurd (true≢false e))
keeps_size load (a ∷ b ∷ []) = (a ∷ b ∷ [], refl, λ e. absurd (true≢false e))
keeps_size load (a ∷ b ∷ c ∷ []) = (a ∷ b ∷ c ∷ [], refl, λ e. absurd (true≢false e))
keeps_size load (a ∷ b ∷ c ∷ d ∷ rest) =
    let n = big_number 4 (a ∷ b ∷ c ∷ d ∷ []) in
    keeps_behind (size load) (small load n) (a ∷ b ∷ c ∷ d ∷ []) (a ∷ b ∷ c ∷ d ∷ rest) rest (small load n rest) refl (λ more. refl) (keeps_small load n rest)

body_at : (n : ℕ) (bytes : List ℕ) (b : Bool) → nat_lt (length bytes) n ≡ b → KeepsAt (packet_body n) bytes (if b then refused PrematureBody [] else holds (take n bytes) (drop n bytes))
body_at n bytes true e = (bytes, sym (append-nil bytes), λ e. absurd (true≢false e))
body_at n bytes false e =
    let long : n ≤ length bytes = grind (arith, nat_tests) in
    let full : length (take n bytes) ≡ n = grind (arith, common_steps) in
    (take n bytes, sym (take-append-drop n bytes), λ more. body_whole n (take n bytes) more full)

keeps_body : (n : ℕ) → Keeps (packet_body n)
keeps_body n bytes = body_at n bytes (nat_lt (length bytes) n) refl

keeps_dumped : (r : Read Tree) → Keeps (dumped r)
keeps_dumped (Ok r) bytes = ([], refl, λ more. refl)
keeps_dumped (Err refusal) bytes = ([], refl, λ e more. refl)

keeps_loaded : (n : ℕ) → Keeps (loaded n)
keeps_loaded n = keeps_then (packet_body n) (λ b. dumped (dump_of b)) (keeps_body n) (λ b. keeps_dumped (dump_of b))

pub keeps_packet : (load : ℕ) → Keeps (packet load)
unfolding packet
keeps_packet load = keeps_then (size load) loaded (keeps_size load) keeps_loaded

uncut_at : {A : Type 0} (p : Parser A) (bytes : List ℕ) (z : Parsed A) → KeepsAt p bytes z → KeepsAt (λ b. uncut (p b)) bytes (uncut z)
uncut_at p bytes (holds a rest) k = (k.0, k.1, λ more. ap (λ q. uncut q) (k.2 more))
uncut_at p bytes ended k = (bytes, sym (append-nil bytes), λ e. absurd (true≢false e))
uncut_at p bytes (refused why rest) k = (k.0, k.1, λ e more. ap (λ q. uncut q) (k.2 e more))

pub keeps_further : (load : ℕ) → Keeps (further load)
keeps_further load bytes = uncut_at (packet load) bytes (packet load bytes) (keeps_packet load bytes)

keeps_as_name : (t : Tree-F Tree) → Keeps (as_name t)
keeps_as_name (Tree-F.Text t) = keeps_gives t
keeps_as_name _ = keeps_refuses NotAName

few_at : (b : Bool) (n : ℕ) → Keeps (λ rest. (if b then gives n else refuses (TooManyArguments (pos n))) rest)
few_at true n bytes = ([], refl, λ more. refl)
few_at false n bytes = ([], refl, λ e more. refl)

keeps_few : (most n : ℕ) → Keeps (few most n)
keeps_few most n = few_at (nat_le n most) n

keeps_as_count : (most : ℕ) (t : Tree-F Tree) → Keeps (as_count most t)
keeps_as_count most (Tree-F.Int (pos n)) = keeps_few most n
keeps_as_count most (Tree-F.Int (negsuc n)) = keeps_refuses NotACount
keeps_as_count most _ = keeps_refuses NotACount

keeps_as_block : (t : Tree-F Tree) → Keeps (as_block t)
keeps_as_block Tree-F.Nil = keeps_gives None
keeps_as_block (Tree-F.Remote r) = keeps_gives (Some r)
keeps_as_block _ = keeps_refuses NotABlock

pub keeps_name : (load : ℕ) → Keeps (method_name load)
keeps_name load = keeps_then (further load) (λ v. as_name (out-Tree v)) (keeps_further load) (λ v. keeps_as_name (out-Tree v))

pub keeps_count : (limits : Limits) → Keeps (argument_count limits)
keeps_count limits = keeps_then (further limits.load) (λ v. as_count limits.args (out-Tree v)) (keeps_further limits.load) (λ v. keeps_as_count limits.args (out-Tree v))

pub keeps_block : (load : ℕ) → Keeps (block load)
keeps_block load = keeps_then (further load) (λ v. as_block (out-Tree v)) (keeps_further load) (λ v. keeps_as_block (out-Tree v))

pub keeps_values : (load n : ℕ) → Keeps (arguments load n)
keeps_values load zero = keeps_gives []
keeps_values load (suc n) = keeps_then (further load) (λ v. arguments load n >>= (λ vs. gives (v ∷ vs))) (keeps_further load)
    (λ v. keeps_then (arguments load n) (λ vs. gives (v ∷ vs)) (keeps_values load n) (λ vs. keeps_gives (v ∷ vs)))

pub keeps_request : (limits : Limits) → Keeps (next_request limits)
unfolding next_request
keeps_request limits = keeps_then (packet limits.load) _ (keeps_packet limits.load)
    (λ r. keeps_then (method_name limits.load) _ (keeps_name limits.load)
    (λ t. keeps_then (argument_count limits) _ (keeps_count limits)
    (λ n. keeps_then (arguments limits.load n) _ (keeps_values limits.load n)
    (λ vs. keeps_then (block limits.load) _ (keeps_block limits.load)
    (λ b. keeps_gives (record { reference = r; name = t; args = vs; block = b }))))))

pub keeps_reply : (load : ℕ) → Keeps (next_reply load)
unfolding next_reply
keeps_reply load = keeps_then (packet load) _ (keeps_packet load)
    (λ v. keeps_then (further load) _ (keeps_further load) (λ w. keeps_gives (truth (out-Tree v), w)))

-- The laws.

more_at : {A : Type 0} (p : Parser A) (bytes more : List ℕ) (z : Parsed A) → KeepsAt p bytes z → is_open z ≡ false → p (bytes ++ more) ≡ followed z more
more_at p bytes more (holds a rest) k e = ap p (ap (λ q. q ++ more) k.1 ∙ append_assoc k.0 rest more) ∙ k.2 (rest ++ more)
more_at p bytes more ended k e = absurd (true≢false e)
more_at p bytes more (refused why rest) k e = ap p (ap (λ q. q ++ more) k.1 ∙ append_assoc k.0 rest more) ∙ k.2 e (rest ++ more)

any_more : {A : Type 0} (p : Parser A) → Keeps p → AnyMore p
any_more p h bytes more e = more_at p bytes more (p bytes) (h bytes) e

pub requests_any_more : RequestsAnyMore
requests_any_more limits = any_more (next_request limits) (keeps_request limits)

pub replies_any_more : RepliesAnyMore
replies_any_more load = any_more (next_reply load) (keeps_reply load)

held_behind : {A : Type 0} (p : Parser A) (bytes rest : List ℕ) (a : A) → Keeps p → p bytes ≡ holds a rest → (b : List ℕ) × (bytes ≡ b ++ rest)
held_behind p bytes rest a h e =
    let k : KeepsAt p bytes (holds a rest) = subst (λ z. KeepsAt p bytes z) e (h bytes) in
    (k.0, k.1)

refused_behind : {A : Type 0} (p : Parser A) (bytes rest : List ℕ) (why : PacketRefusal) → Keeps p → p bytes ≡ refused why rest → (b : List ℕ) × (bytes ≡ b ++ rest)
refused_behind p bytes rest why h e =
    let k : KeepsAt p bytes (refused why rest) = subst (λ z. KeepsAt p bytes z) e (h bytes) in
    (k.0, k.1)

behind_all : {A : Type 0} (p : Parser A) → Keeps p → Behind p
behind_all p h bytes rest = (λ a e. held_behind p bytes rest a h e, λ why e. refused_behind p bytes rest why h e)

pub requests_behind : RequestsBehind
requests_behind limits = behind_all (next_request limits) (keeps_request limits)

pub replies_behind : RepliesBehind
replies_behind load = behind_all (next_reply load) (keeps_reply load)

whole_at : {A : Type 0} (p : Parser A) (bytes rest : List ℕ) (a : A) → Keeps p → p bytes ≡ holds a rest → Takes p a bytes rest
whole_at p bytes rest a h e = subst (λ z. KeepsAt p bytes z) e (h bytes)

-- a request takes bytes off the front, and stands first in them whatever follows
pub held_whole : (limits : Limits) (bytes rest : List ℕ) (r : Request) → next_request limits bytes ≡ holds r rest → Takes (next_request limits) r bytes rest
held_whole limits bytes rest r e = whole_at (next_request limits) bytes rest r (keeps_request limits) e
