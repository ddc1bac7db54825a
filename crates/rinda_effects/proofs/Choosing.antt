-- Whether a Submit picks a match in its own case.
use Rattle.std.proofs.Common.{◌≡◌, ℕ, Bool, true, false, cond, ◌&&◌, List, [], ◌∷◌, Option, Some, None, refl, ◌∙◌, ap, arith}
use Rattle.std.specs.Prelude.{◌==◌}
use Rattle.std.specs.List.{list_any}
use Rattle.std.proofs.lemmas.Bool.Decides.{nat_tests}
use Rattle.rinda_rules.specs.declared.event.Event.TheVariants.{Submit}
use Rattle.rinda_rules.specs.declared.plain.Entry.{Entry}
use Rattle.rinda_rules.specs.declared.plain.Request.{Request}
use Rattle.rinda_rules.specs.Rows.{row_of}
use Rattle.rinda_rules.specs.Space.{Plain, Found, TheTuple, TheRequest, TheNotifier, HasEnded, IsRecycled, IsUnknown, found, tuple_at, request_at, is_reserved, has_match, may_have}
use Rattle.rinda_rules.specs.Phases.{is_match, may_have_row}
use Rattle.rinda_rules.specs.Steps.{chooser, matched}
use Rattle.rinda_rules.proofs.Finding.{request-found, found-request}

both : (a b : Bool) → a ≡ true → b ≡ true → (a && b) ≡ true
both a b e f = grind arith

any_at : (p : Entry → Bool) (id : ℕ) (ts : List Entry) (t : Entry) → row_of (λ t. t.id) id ts ≡ Some t → p t ≡ true → list_any p ts ≡ true
any_at p id [] t there e = cc
any_at p id (x ∷ ts) t there e = grind (arith, nat_tests, any_at p id ts t)

same_id : (a : ℕ) → a == a ≡ true
same_id a = grind (arith, nat_tests)

pub submit_chooses : (s : Plain) (caller id : ℕ) (r : Request) (t : Entry) → request_at s id ≡ Some r → r.caller == caller ≡ true → is_reserved r.state ≡ true → tuple_at s t.id ≡ Some t → may_have s.clock r t ≡ true → (chooser s caller (Submit id) ≡ Some r) × (is_match s r (record { request = r.id; tuple = t.id }) ≡ true)
submit_chooses s caller id r t there own reserved here may = (
  ap (matched s caller) (request-found s id r there)
      ∙ ap (λ (b : Bool). cond {A = Option Request} b (Some r) None) (both _ _ own (both _ _ reserved (any_at (may_have s.clock r) t.id s.tuples t here may))),
  both _ _ (same_id r.id) (ap (may_have_row s r) here ∙ may),
)

unmatched : (s : Plain) (caller id : ℕ) (f : Found) → found s id ≡ f → ((r : Request) → request_at s id ≡ Some r → (r.caller == caller && (is_reserved r.state && has_match s r)) ≡ false) → matched s caller f ≡ None
unmatched s caller id (TheRequest r) is h = ap (λ (b : Bool). cond {A = Option Request} b (Some r) None) (h r (found-request s id r is))
unmatched s caller id (TheTuple t) is h = refl
unmatched s caller id (TheNotifier n) is h = refl
unmatched s caller id (HasEnded k l) is h = refl
unmatched s caller id IsRecycled is h = refl
unmatched s caller id IsUnknown is h = refl

pub submit_chooses_none : (s : Plain) (caller id : ℕ) → ((r : Request) → request_at s id ≡ Some r → (r.caller == caller && (is_reserved r.state && has_match s r)) ≡ false) → chooser s caller (Submit id) ≡ None
submit_chooses_none s caller id h = unmatched s caller id (found s id) refl h
