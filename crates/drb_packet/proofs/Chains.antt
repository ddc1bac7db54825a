-- The packets of a request, and of a reply, one after the other.
use Rattle.std.proofs.Common.{◌≡◌, ℕ, List, Bool, refl, subst}
use Rattle.std.specs.Prelude.{Ok, Err}
use Rattle.std.specs.declared.option.Option.{Option}
use Rattle.std.specs.declared.result.Result.{Result}
use Rattle.drb_tree.specs.declared.Text.{Text}
use Rattle.drb_tree.specs.declared.Remote.{Remote}
use Rattle.drb_tree.specs.declared.Tree.{Tree}
use Rattle.drb_tree.specs.declared.Tree.TheViews.{out-Tree}
use Rattle.drb_outside.specs.Records.{Record}
use Rattle.drb_outside.specs.Changes.{ChangesBytes}
use Rattle.drb_packet.specs.declared.stop.Stop.{Stop}
use Rattle.drb_packet.specs.declared.request.Limits.{Limits}
use Rattle.drb_packet.specs.declared.request.Request.{Request}
use Rattle.drb_packet.specs.Parsers.{Parser, gives, ◌>>=◌}
use Rattle.drb_packet.specs.Packets.{packet, further}
use Rattle.drb_packet.specs.Requests.{method_name, argument_count, arguments, block, after_name, next_request}
use Rattle.drb_packet.specs.Replies.{truth, next_reply}
use Rattle.drb_packet.specs.Reads.{Parses}
use Rattle.drb_packet.proofs.Steps.{changes_then, changes_stop, changes_judged}

abbrev pub request : Tree → Text → List Tree → Option Remote → Request
request r t vs b = record { reference = r; name = t; args = vs; block = b }

-- what is still to come, behind the arguments, the count, the name and the reference
abbrev pub from_block : Limits → Tree → Text → List Tree → Parser Request
from_block limits r t vs = block limits.load >>= (λ b. gives (request r t vs b))

abbrev pub from_arguments : Limits → Tree → Text → ℕ → Parser Request
from_arguments limits r t n = arguments limits.load n >>= from_block limits r t

abbrev pub from_name : Limits → Tree → Parser Request
from_name limits r = method_name limits.load >>= after_name limits r

pub reference_stop : {X : Type 0} {t : X → Option (List ℕ)} {k : X → List Record} {h f : X → ℕ} {a b : X} (limits : Limits) (e : Stop) → ChangesBytes t k h f a b (Parses (packet limits.load) (Err e)) → ChangesBytes t k h f a b (Parses (next_request limits) (Err e))
unfolding next_request
reference_stop limits e s = changes_stop (packet limits.load) (from_name limits) e s

pub reference_then : {X : Type 0} {t : X → Option (List ℕ)} {k : X → List Record} {h f : X → ℕ} {a b c : X} (limits : Limits) (v : Tree) (r : Result Request Stop) → ChangesBytes t k h f a b (Parses (packet limits.load) (Ok v)) → ChangesBytes t k h f b c (Parses (from_name limits v) r) → ChangesBytes t k h f a c (Parses (next_request limits) r)
unfolding next_request
reference_then limits v r s u = changes_then (packet limits.load) (from_name limits) v r s u

pub name_stop : {X : Type 0} {t : X → Option (List ℕ)} {k : X → List Record} {h f : X → ℕ} {a b : X} (limits : Limits) (v : Tree) (e : Stop) → ChangesBytes t k h f a b (Parses (method_name limits.load) (Err e)) → ChangesBytes t k h f a b (Parses (from_name limits v) (Err e))
name_stop limits v e s = changes_stop (method_name limits.load) (after_name limits v) e s

pub name_then : {X : Type 0} {t : X → Option (List ℕ)} {k : X → List Record} {h f : X → ℕ} {a b c : X} (limits : Limits) (v : Tree) (n : Text) (r : Result Request Stop) → ChangesBytes t k h f a b (Parses (method_name limits.load) (Ok n)) → ChangesBytes t k h f b c (Parses (after_name limits v n) r) → ChangesBytes t k h f a c (Parses (from_name limits v) r)
name_then limits v n r s u = changes_then (method_name limits.load) (after_name limits v) n r s u

pub count_stop : {X : Type 0} {t : X → Option (List ℕ)} {k : X → List Record} {h f : X → ℕ} {a b : X} (limits : Limits) (v : Tree) (n : Text) (e : Stop) → ChangesBytes t k h f a b (Parses (argument_count limits) (Err e)) → ChangesBytes t k h f a b (Parses (after_name limits v n) (Err e))
count_stop limits v n e s = changes_stop (argument_count limits) (from_arguments limits v n) e s

pub count_then : {X : Type 0} {t : X → Option (List ℕ)} {k : X → List Record} {h f : X → ℕ} {a b c : X} (limits : Limits) (v : Tree) (n : Text) (i : ℕ) (r : Result Request Stop) → ChangesBytes t k h f a b (Parses (argument_count limits) (Ok i)) → ChangesBytes t k h f b c (Parses (from_arguments limits v n i) r) → ChangesBytes t k h f a c (Parses (after_name limits v n) r)
count_then limits v n i r s u = changes_then (argument_count limits) (from_arguments limits v n) i r s u

pub arguments_stop : {X : Type 0} {t : X → Option (List ℕ)} {k : X → List Record} {h f : X → ℕ} {a b : X} (limits : Limits) (v : Tree) (n : Text) (i : ℕ) (e : Stop) → ChangesBytes t k h f a b (Parses (arguments limits.load i) (Err e)) → ChangesBytes t k h f a b (Parses (from_arguments limits v n i) (Err e))
arguments_stop limits v n i e s = changes_stop (arguments limits.load i) (from_block limits v n) e s

pub arguments_then : {X : Type 0} {t : X → Option (List ℕ)} {k : X → List Record} {h f : X → ℕ} {a b c : X} (limits : Limits) (v : Tree) (n : Text) (i : ℕ) (vs : List Tree) (r : Result Request Stop) → ChangesBytes t k h f a b (Parses (arguments limits.load i) (Ok vs)) → ChangesBytes t k h f b c (Parses (from_block limits v n vs) r) → ChangesBytes t k h f a c (Parses (from_arguments limits v n i) r)
arguments_then limits v n i vs r s u = changes_then (arguments limits.load i) (from_block limits v n) vs r s u

pub block_stop : {X : Type 0} {t : X → Option (List ℕ)} {k : X → List Record} {h f : X → ℕ} {a b : X} (limits : Limits) (v : Tree) (n : Text) (vs : List Tree) (e : Stop) → ChangesBytes t k h f a b (Parses (block limits.load) (Err e)) → ChangesBytes t k h f a b (Parses (from_block limits v n vs) (Err e))
block_stop limits v n vs e s = changes_stop (block limits.load) (λ b. gives (request v n vs b)) e s

pub block_last : {X : Type 0} {t : X → Option (List ℕ)} {k : X → List Record} {h f : X → ℕ} {a b : X} (limits : Limits) (v : Tree) (n : Text) (vs : List Tree) (d : Option Remote) → ChangesBytes t k h f a b (Parses (block limits.load) (Ok d)) → ChangesBytes t k h f a b (Parses (from_block limits v n vs) (Ok (request v n vs d)))
block_last limits v n vs d s = changes_judged (block limits.load) (λ b. gives (request v n vs b)) d (Ok (request v n vs d)) s (λ rest. refl)

-- A reply.

abbrev pub from_result : ℕ → Bool → Parser (Bool × Tree)
from_result load ok = further load >>= (λ w. gives (ok, w))

pub success_stop : {X : Type 0} {t : X → Option (List ℕ)} {k : X → List Record} {h f : X → ℕ} {a b : X} (load : ℕ) (e : Stop) → ChangesBytes t k h f a b (Parses (packet load) (Err e)) → ChangesBytes t k h f a b (Parses (next_reply load) (Err e))
unfolding next_reply
success_stop load e s = changes_stop (packet load) (λ v. from_result load (truth (out-Tree v))) e s

pub success_then : {X : Type 0} {t : X → Option (List ℕ)} {k : X → List Record} {h f : X → ℕ} {a b c : X} (load : ℕ) (v : Tree) (r : Result (Bool × Tree) Stop) → ChangesBytes t k h f a b (Parses (packet load) (Ok v)) → ChangesBytes t k h f b c (Parses (from_result load (truth (out-Tree v))) r) → ChangesBytes t k h f a c (Parses (next_reply load) r)
unfolding next_reply
success_then load v r s u = changes_then (packet load) (λ v. from_result load (truth (out-Tree v))) v r s u

pub result_stop : {X : Type 0} {t : X → Option (List ℕ)} {k : X → List Record} {h f : X → ℕ} {a b : X} (load : ℕ) (ok : Bool) (e : Stop) → ChangesBytes t k h f a b (Parses (further load) (Err e)) → ChangesBytes t k h f a b (Parses (from_result load ok) (Err e))
result_stop load ok e s = changes_stop (further load) (λ w. gives {A = Bool × Tree} (ok, w)) e s

pub result_last : {X : Type 0} {t : X → Option (List ℕ)} {k : X → List Record} {h f : X → ℕ} {a b : X} (load : ℕ) (ok truth_is : Bool) (w : Tree) → ok ≡ truth_is → ChangesBytes t k h f a b (Parses (further load) (Ok w)) → ChangesBytes t k h f a b (Parses (from_result load truth_is) (Ok (ok, w)))
result_last {t = t} {k = k} {h = h} {f = f} {a = a} {b = b} load ok truth_is w is s = subst (λ (q : Bool). ChangesBytes t k h f a b (Parses (from_result load q) (Ok (ok, w)))) is
    (changes_judged (further load) (λ w. gives {A = Bool × Tree} (ok, w)) w (Ok (ok, w)) s (λ rest. refl))
