-- Nothing stands first exactly where there are no bytes.
use Rattle.std.proofs.Common.{◌≡◌, ℕ, zero, suc, List, [], ◌∷◌, length, take, drop, nat_lt, nat_le, Bool, true, false, if◌then◌else◌, refl, sym, ◌∙◌, ap, true≢false}
use Rattle.std.specs.Prelude.{Ok, Err, pos, negsuc}
use Rattle.byteorder.specs.Endian.{big_number}
use Rattle.drb_tree.specs.declared.Tree.{Tree}
use Rattle.drb_tree.specs.declared.Tree.TheViews.{out-Tree}
use Rattle.drb_tree.specs.declared.Tree.TheOpen.{Tree-F}
use Rattle.marshal_grammar.specs.Reading.{Read}
use Rattle.marshal_grammar.specs.Dumps.{dump_of}
use Rattle.drb_packet.specs.declared.refusal.PacketRefusal.TheVariants.{TooLarge, PrematureBody, TooManyArguments}
use Rattle.drb_packet.specs.declared.request.Limits.{Limits}
use Rattle.drb_packet.specs.declared.request.Request.{Request}
use Rattle.drb_packet.specs.Parsers.{Parsed, holds, ended, refused, Parser, gives, refuses, on, ◌>>=◌, uncut}
use Rattle.drb_packet.specs.Packets.{small, packet_body, dumped, loaded, packet, further}
use Rattle.drb_packet.specs.Requests.{as_name, as_count, as_block, method_name, argument_count, arguments, block, next_request}
use Rattle.drb_packet.specs.Replies.{truth, next_reply}
use Rattle.drb_packet.specs.Laws.{RequestsEnd, RepliesEnd}

abbrev is_ended : {A : Type 0} → Parsed A → Bool
is_ended (holds a rest) = false
is_ended ended = true
is_ended (refused why rest) = false

-- it always finds something, or a refusal
abbrev Finds : {A : Type 0} → Parser A → Type 0
Finds p = (bytes : List ℕ) → is_ended (p bytes) ≡ false

finds_on : {A B : Type 0} (q : Parsed A) (f : A → Parser B) → is_ended q ≡ false → ((a : A) → Finds (f a)) → is_ended (on q f) ≡ false
finds_on (holds a rest) f e g = g a rest
finds_on ended f e g = e
finds_on (refused why rest) f e g = refl

finds_then : {A B : Type 0} (p : Parser A) (f : A → Parser B) → Finds p → ((a : A) → Finds (f a)) → Finds (p >>= f)
finds_then p f h g bytes = finds_on (p bytes) f (h bytes) g

finds_gives : {A : Type 0} (a : A) → Finds (gives a)
finds_gives a bytes = refl

finds_uncut : {A : Type 0} (q : Parsed A) → is_ended (uncut q) ≡ false
finds_uncut (holds a rest) = refl
finds_uncut ended = refl
finds_uncut (refused why rest) = refl

finds_further : (load : ℕ) → Finds (further load)
finds_further load bytes = finds_uncut (packet load bytes)

finds_as_name : (t : Tree-F Tree) → Finds (as_name t)
finds_as_name (Tree-F.Text t) bytes = refl
finds_as_name _ bytes = refl

few_at : (b : Bool) (n : ℕ) → Finds (λ rest. (if b then gives n else refuses (TooManyArguments (pos n))) rest)
few_at true n bytes = refl
few_at false n bytes = refl

finds_as_count : (most : ℕ) (t : Tree-F Tree) → Finds (as_count most t)
finds_as_count most (Tree-F.Int (pos n)) bytes = few_at (nat_le n most) n bytes
finds_as_count most (Tree-F.Int (negsuc n)) bytes = refl
finds_as_count most _ bytes = refl

finds_as_block : (t : Tree-F Tree) → Finds (as_block t)
finds_as_block Tree-F.Nil bytes = refl
finds_as_block (Tree-F.Remote r) bytes = refl
finds_as_block _ bytes = refl

finds_name : (load : ℕ) → Finds (method_name load)
finds_name load = finds_then (further load) (λ v. as_name (out-Tree v)) (finds_further load) (λ v. finds_as_name (out-Tree v))

finds_count : (limits : Limits) → Finds (argument_count limits)
finds_count limits = finds_then (further limits.load) (λ v. as_count limits.args (out-Tree v)) (finds_further limits.load) (λ v. finds_as_count limits.args (out-Tree v))

finds_block : (load : ℕ) → Finds (block load)
finds_block load = finds_then (further load) (λ v. as_block (out-Tree v)) (finds_further load) (λ v. finds_as_block (out-Tree v))

finds_values : (load n : ℕ) → Finds (arguments load n)
finds_values load zero bytes = refl
finds_values load (suc n) bytes = finds_then (further load) (λ v. arguments load n >>= (λ vs. gives (v ∷ vs))) (finds_further load)
    (λ v. finds_then (arguments load n) (λ vs. gives (v ∷ vs)) (finds_values load n) (λ vs. finds_gives (v ∷ vs))) bytes

-- The first packet.

small_at : (b : Bool) (n : ℕ) → Finds (λ rest. if b then holds n rest else refused (TooLarge n) rest)
small_at true n bytes = refl
small_at false n bytes = refl

body_at : (b : Bool) (n : ℕ) (bytes : List ℕ) → is_ended (if b then refused PrematureBody [] else holds (take n bytes) (drop n bytes)) ≡ false
body_at true n bytes = refl
body_at false n bytes = refl

finds_dumped : (r : Read Tree) → Finds (dumped r)
finds_dumped (Ok r) bytes = refl
finds_dumped (Err refusal) bytes = refl

finds_loaded : (n : ℕ) → Finds (loaded n)
finds_loaded n = finds_then (packet_body n) (λ b. dumped (dump_of b)) (λ bytes. body_at (nat_lt (length bytes) n) n bytes) (λ b. finds_dumped (dump_of b))

-- behind the first packet there is always something
first_ends : {A : Type 0} (load : ℕ) (f : Tree → Parser A) (bytes : List ℕ) → ((v : Tree) → Finds (f v)) → (packet load >>= f) bytes ≡ ended → bytes ≡ []
unfolding packet
first_ends load f [] g e = refl
first_ends load f (a ∷ []) g e = absurd (true≢false (sym (ap is_ended e)))
first_ends load f (a ∷ b ∷ []) g e = absurd (true≢false (sym (ap is_ended e)))
first_ends load f (a ∷ b ∷ c ∷ []) g e = absurd (true≢false (sym (ap is_ended e)))
first_ends load f (a ∷ b ∷ c ∷ d ∷ rest) g e =
    let n = big_number 4 (a ∷ b ∷ c ∷ d ∷ []) in
    let k = finds_on (on (small load n rest) loaded) f (finds_on (small load n rest) loaded (small_at (nat_lt n load) n rest) finds_loaded) g in
    absurd (true≢false (sym (ap is_ended e) ∙ k))

no_packet : {A : Type 0} (load : ℕ) (f : Tree → Parser A) (bytes : List ℕ) → bytes ≡ [] → (packet load >>= f) bytes ≡ ended
unfolding packet
no_packet load f bytes e = ap (λ q. (packet load >>= f) q) e

request_ends : (limits : Limits) (bytes : List ℕ) → next_request limits bytes ≡ ended → bytes ≡ []
unfolding next_request
request_ends limits bytes e = first_ends limits.load _ bytes
    (λ r. finds_then (method_name limits.load) _ (finds_name limits.load)
    (λ t. finds_then (argument_count limits) _ (finds_count limits)
    (λ n. finds_then (arguments limits.load n) _ (finds_values limits.load n)
    (λ vs. finds_then (block limits.load) _ (finds_block limits.load)
    (λ b. finds_gives {A = Request} (record { reference = r; name = t; args = vs; block = b })))))) e

no_request : (limits : Limits) (bytes : List ℕ) → bytes ≡ [] → next_request limits bytes ≡ ended
unfolding next_request
no_request limits bytes e = no_packet limits.load _ bytes e

pub requests_end : RequestsEnd
requests_end limits bytes = (request_ends limits bytes, no_request limits bytes)

reply_ends : (load : ℕ) (bytes : List ℕ) → next_reply load bytes ≡ ended → bytes ≡ []
unfolding next_reply
reply_ends load bytes e = first_ends load _ bytes (λ v. finds_then (further load) _ (finds_further load) (λ w. finds_gives {A = Bool × Tree} (truth (out-Tree v), w))) e

no_reply : (load : ℕ) (bytes : List ℕ) → bytes ≡ [] → next_reply load bytes ≡ ended
unfolding next_reply
no_reply load bytes e = no_packet load _ bytes e

pub replies_end : RepliesEnd
replies_end load bytes = (reply_ends load bytes, no_reply load bytes)
