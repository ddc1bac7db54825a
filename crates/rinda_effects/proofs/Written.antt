-- A Write where nothing is due.
use Rattle.std.proofs.Common.{◌≡◌, ℕ, Bool, true, false, cond, ◌&&◌, ltb, List, [], ◌∷◌, ◌++◌, Some, None, refl, sym, ◌∙◌, ap, subst, arith}
use Rattle.std.specs.List.{list_all}
use Rattle.std.proofs.lemmas.Bool.Decides.{nat_tests}
use Rattle.rinda_tuple.specs.declared.tuple.Tuple.{Tuple}
use Rattle.rinda_tuple.specs.declared.lease.Lease.{Lease}
use Rattle.rinda_rules.specs.declared.event.Event.TheVariants.{Write}
use Rattle.rinda_rules.specs.declared.out.Out.TheVariants as out
use Rattle.rinda_rules.specs.declared.turn.Pick.{Pick}
use Rattle.rinda_rules.specs.declared.turn.Turn.{Turn}
use Rattle.rinda_rules.specs.declared.plain.Entry.{Entry}
use Rattle.rinda_rules.specs.declared.plain.Request.{Request}
use Rattle.rinda_rules.specs.Rows.{row_of}
use Rattle.rinda_rules.specs.Space.{Plain, tuple_at, request_at}
use Rattle.rinda_rules.specs.Phases.{advanced, nothing_due, served_with}
use Rattle.rinda_rules.specs.Cases.{Outcome, answers, outcome, new_tuple, written, written_over, minted, write_tuple}
use Rattle.rinda_rules.specs.Steps.{found_by}
use Rattle.rinda_rules.specs.Legal.{plain_from}
use Rattle.rinda_rules.proofs.Sounding.{sound-advanced, sound-outcome}
use Rattle.rinda_rules.proofs.Outcomes.{chosen_none}
use Rattle.rinda_rules.specs.Sound.{Sound}
use Rattle.rinda_effects.specs.Touches.{ATuple}
use Rattle.rinda_effects.specs.Serves.{Readers, read_all, picks_of, takes, no_taker, reader_ids}
use Rattle.rinda_effects.specs.Turns.{Reached, Made, Comes, turn_of, left_by}
use Rattle.rinda_effects.specs.Quiet.{Lasts, with_tuple_of, write_turn, WriteIsRead, WriteIsTaken}
use Rattle.rinda_effects.proofs.Picking.{readers_in_order}
use Rattle.rinda_effects.proofs.Aged.{nothing_ages}
use Rattle.rinda_effects.proofs.Single.{quiet_is_unserved}
use Rattle.rinda_effects.proofs.Making.{reached_is_settled, read_makes_turn, take_makes_turn}

back : (a b : Bool) → (a && b) ≡ true → b ≡ true
back a b e = grind arith

no_nothing : (b : Bool) → (b && false) ≡ false
no_nothing b = grind arith

-- the event's own case adds the tuple
case_adds : (s : Plain) (caller : ℕ) (value : Tuple) (lease : Lease) → Lasts s value lease → outcome s caller (Write value lease) None ≡ answers (with_tuple_of s value lease) (out.Entry s.next)
case_adds s caller value lease h =
    ap (λ (b : Bool). cond {A = Outcome} b (answers s out.Shut) (answers (write_tuple s (new_tuple s value lease)) (out.Entry s.next))) h.unshut
    ∙ ap (λ (b : Bool). answers (cond {A = Plain} b (written_over (new_tuple s value lease) (minted s)) (written (new_tuple s value lease) (minted s))) (out.Entry s.next)) h.lasting

-- the last row is found
last_found : (ts : List Entry) (t : Entry) → list_all (λ x. ltb x.id t.id) ts ≡ true → row_of (λ t. t.id) t.id (ts ++ t ∷ []) ≡ Some t
last_found [] t low = grind (arith, nat_tests)
last_found (x ∷ ts) t low = grind (arith, nat_tests, last_found ts t)

module _ (start : Plain) (old : List Turn) (caller at : ℕ) (value : Tuple) (lease : Lease) (reached : Reached start old) (quiet : nothing_due (advanced (plain_from start old) at) ≡ true) (lasts : Lasts (advanced (plain_from start old) at) value lease) where
  abbrev now : Plain
  now = advanced (plain_from start old) at

  abbrev added : Entry
  added = new_tuple now value lease

  sound : Sound now
  sound = sound-advanced (plain_from start old) at (reached_is_settled start old reached).0

  found_is : found_by (plain_from start old) at ≡ now
  found_is = nothing_ages now quiet

  outcome_is : outcome (found_by (plain_from start old) at) caller (Write value lease) None ≡ answers (with_tuple_of now value lease) (out.Entry now.next)
  outcome_is = ap (λ (s : Plain). outcome s caller (Write value lease) None) found_is ∙ case_adds now caller value lease lasts

  left_is : left_by start old caller at (Write value lease) ≡ with_tuple_of now value lease
  left_is = quiet_is_unserved (plain_from start old) caller at (Write value lease) None quiet refl ∙ ap (λ (o : Outcome). o.after) (case_adds now caller value lease lasts)

  comes : Comes start old caller at (Write value lease) (ATuple added.id)
  comes = record { reached = reached; something = no_nothing (nothing_due now); chooses = refl; touches = ap (λ (s : Plain). ATuple s.next) found_is }

  added_sound : Sound (with_tuple_of now value lease)
  added_sound = subst (λ (o : Outcome). Sound o.after) (case_adds now caller value lease lasts) (sound-outcome now caller (Write value lease) None (chosen_none now (Write value lease)) sound)

  added_found : tuple_at (with_tuple_of now value lease) added.id ≡ Some added
  added_found = last_found now.tuples added (back _ _ sound.numbered.tuples)

  readers : Readers (with_tuple_of now value lease) added (reader_ids (with_tuple_of now value lease) added)
  readers = readers_in_order (with_tuple_of now value lease) added added_sound.numbered

  -- the turn and the space that it leaves, in these words
  in_words : (picks : List Pick) (leads : Plain → Plain) → Made start old (turn_of start old caller at (Write value lease) picks) (leads (left_by start old caller at (Write value lease))) → Made start old (write_turn now caller at value lease picks) (leads (with_tuple_of now value lease))
  in_words picks leads made =
      subst (λ (s : Plain). Made start old (write_turn now caller at value lease picks) (leads s)) left_is
      (subst (λ (o : Outcome). Made start old (record { caller = caller; at = at; event = Write value lease; out = o.out; picks = picks }) (leads (left_by start old caller at (Write value lease)))) outcome_is made)

  is_read : no_taker (with_tuple_of now value lease) added ≡ true → Made start old (write_turn now caller at value lease (picks_of added.id (reader_ids (with_tuple_of now value lease) added))) (read_all added (with_tuple_of now value lease))
  is_read free =
      let ids : List ℕ = reader_ids (with_tuple_of now value lease) added in
      in_words (picks_of added.id ids) (read_all added) (read_makes_turn start old caller at (Write value lease) added ids comes
      (subst (λ (s : Plain). tuple_at s added.id ≡ Some added) (sym left_is) added_found)
      (subst (λ (s : Plain). Readers s added ids) (sym left_is) readers)
      (subst (λ (s : Plain). no_taker s added ≡ true) (sym left_is) free))

  is_taken : (r : Request) → request_at (with_tuple_of now value lease) r.id ≡ Some r → takes (with_tuple_of now value lease).clock added r ≡ true → Made start old (write_turn now caller at value lease (picks_of added.id (reader_ids (with_tuple_of now value lease) added) ++ record { request = r.id; tuple = added.id } ∷ [])) (served_with r added (read_all added (with_tuple_of now value lease)))
  is_taken r there e =
      let ids : List ℕ = reader_ids (with_tuple_of now value lease) added in
      in_words (picks_of added.id ids ++ record { request = r.id; tuple = added.id } ∷ []) (λ s. served_with r added (read_all added s)) (take_makes_turn start old caller at (Write value lease) added ids r comes
      (subst (λ (s : Plain). tuple_at s added.id ≡ Some added) (sym left_is) added_found)
      (subst (λ (s : Plain). Readers s added ids) (sym left_is) readers)
      (subst (λ (s : Plain). request_at s r.id ≡ Some r) (sym left_is) there)
      (subst (λ (s : Plain). takes s.clock added r ≡ true) (sym left_is) e))

pub write_is_read : WriteIsRead
write_is_read start old caller at s value lease quiet lasts free =
    subst (λ (s : Plain). nothing_due s ≡ true → Lasts s value lease → no_taker (with_tuple_of s value lease) (new_tuple s value lease) ≡ true → Made start old (write_turn s caller at value lease (picks_of (new_tuple s value lease).id (reader_ids (with_tuple_of s value lease) (new_tuple s value lease)))) (read_all (new_tuple s value lease) (with_tuple_of s value lease))) (sym quiet.is_now)
    (λ due l f. is_read start old caller at value lease quiet.reached due l f) quiet.not_due lasts free

pub write_is_taken : WriteIsTaken
write_is_taken start old caller at s value lease r quiet lasts there e =
    subst (λ (s : Plain). nothing_due s ≡ true → Lasts s value lease → request_at (with_tuple_of s value lease) r.id ≡ Some r → takes (with_tuple_of s value lease).clock (new_tuple s value lease) r ≡ true → Made start old (write_turn s caller at value lease (picks_of (new_tuple s value lease).id (reader_ids (with_tuple_of s value lease) (new_tuple s value lease)) ++ record { request = r.id; tuple = (new_tuple s value lease).id } ∷ [])) (served_with r (new_tuple s value lease) (read_all (new_tuple s value lease) (with_tuple_of s value lease)))) (sym quiet.is_now)
    (λ due l there' e'. is_taken start old caller at value lease quiet.reached due l r there' e') quiet.not_due lasts there e
