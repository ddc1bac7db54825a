-- What follows from where a machine stands.
use Rattle.std.proofs.Common.{◌≡◌, List, [], ◌∷◌, ◌++◌, map, refl, sym, ◌∙◌, ap, subst, arith}
use Rattle.std.proofs.lemmas.Grind.{common_steps}
use Rattle.std.specs.Prelude.{Some}
use Rattle.drb_tree.specs.declared.Remote.{Remote}
use Rattle.rinda_rules.specs.declared.turn.Turn.{Turn}
use Rattle.rinda_rules.specs.declared.event.Event.{Event}
use Rattle.rinda_rules.specs.declared.out.Out.{Out}
use Rattle.drb_dispatch.specs.declared.call.Call.{Call}
use Rattle.drb_back.specs.declared.back.Back.{Back}
use Rattle.drb_script.specs.declared.patience.Patience.{Patience}
use Rattle.drb_script.specs.declared.reply.Reply.{Reply}
use Rattle.drb_script.specs.declared.reply.Reply.TheVariants as reply
use Rattle.drb_script.specs.declared.next.Saying.{Saying}
use Rattle.drb_script.specs.declared.next.Loose.{Loose}
use Rattle.drb_script.specs.declared.next.AfterTurn.{AfterTurn}
use Rattle.drb_script.specs.declared.next.AfterCall.{AfterCall}
use Rattle.drb_script.specs.declared.next.Next.{Next}
use Rattle.drb_script.specs.declared.next.Next.TheVariants as step
use Rattle.drb_script.specs.Acting.{Deed, makes, calls, Answer, Course, does, replied}
use Rattle.drb_script.specs.Scripts.{script}
use Rattle.drb_script.specs.Rest.{rest, Leaves, after_turn, after_back, loose_turn, loose_call, loose_next}
use Rattle.drb_script.specs.Stands.{Action, turned, called, deed_of, answer_of, doing, Goes, Script, IsBefore, IsLost, Leaving, clearing, Stops, Stands, TurnedTo, CalledTo}

answers_on : (actions : List Action) (a : Action) (more : List Answer) →
    map answer_of (actions ++ a ∷ []) ++ more ≡ map answer_of actions ++ (answer_of a ∷ more)
answers_on [] a more = refl
answers_on (x ∷ xs) a more = ap (λ q. answer_of x ∷ q) (answers_on xs a more)

deeds_on : (actions : List Action) (a : Action) (course : Course (Unit {0})) →
    doing (map deed_of actions) (does (deed_of a) course) ≡
    doing (map deed_of (actions ++ a ∷ [])) course
deeds_on [] a course = refl
deeds_on (x ∷ xs) a course = ap (λ q. does (deed_of x) q) (deeds_on xs a course)

-- one more action
one_more : (p : Patience) (call : Call) (actions : List Action) (a : Action) (next next' : Next) →
    ((more : List Answer) → rest p next (answer_of a ∷ more) ≡ does (deed_of a) (rest p next' more))
    →
    Stands p call actions next → Stands p call (actions ++ a ∷ []) next'
unfolding Stands
one_more p call actions a next next' e h more =
    ap (λ q. script p call q) (answers_on actions a more)
    ∙ h (answer_of a ∷ more)
    ∙ ap (λ q. doing (map deed_of actions) q) (e more)
    ∙ deeds_on actions a (rest p next' more)

pub stands_first : (p : Patience) (call : Call) (next : Next) →
    Leaves p next (script p call) → Stands p call [] next
unfolding Stands
stands_first p call next h more = sym (h more)

pub stands_turned : (p : Patience) (then : AfterTurn) (out : Out) (next : Next) →
    Leaves p next (after_turn p then out) → TurnedTo p then out next
stands_turned p then out next h call actions turn is =
    one_more p call actions (turned turn) (step.Turn turn.event then) next
    (λ more. ap (λ q. does (makes turn.event) q)
    (subst (λ (o : Out). after_turn p then o more ≡ rest p next more) (sym is) (sym (h more))))

pub stands_called : (p : Patience) (then : AfterCall) (to : Remote) (back : Back) (next : Next) →
    Leaves p next (after_back p then to back) → CalledTo p then to back next
stands_called p then to back next h call actions saying =
    one_more p call actions (called to saying back) (step.Call to saying then) next
    (λ more. ap (λ q. does (calls to saying) q) (sym (h more)))

nothing_more : {X : Type 0} (xs : List X) → xs ++ [] ≡ xs
nothing_more xs = grind (arith, common_steps)

-- with no further answer
pub at_end : (p : Patience) (call : Call) (actions : List Action) (next : Next) →
    Stands p call actions next → Goes p call actions (rest p next [])
unfolding Stands
at_end p call actions next h =
    subst (λ (q : List Answer). script p call q ≡ doing (map deed_of actions) (rest p next []))
    (nothing_more (map answer_of actions)) (h [])

pub stands_reply : (p : Patience) (call : Call) (actions : List Action) (r : Reply) →
    Stands p call actions (step.Reply r) → Script p call actions r
stands_reply p call actions r h = at_end p call actions (step.Reply r) h

pub stands_turn : (p : Patience) (call : Call) (actions : List Action) (e : Event)
    (then : AfterTurn) → Stands p call actions (step.Turn e then) →
    IsBefore p call actions (loose_turn then) (makes e)
stands_turn p call actions e then h = at_end p call actions (step.Turn e then) h

pub stands_call : (p : Patience) (call : Call) (actions : List Action) (to : Remote)
    (saying : Saying) (then : AfterCall) → Stands p call actions (step.Call to saying then) →
    IsBefore p call actions (loose_call then) (calls to saying)
stands_call p call actions to saying then h = at_end p call actions (step.Call to saying then) h

pub stands_lost : (p : Patience) (call : Call) (actions : List Action) (l : Loose) →
    Stands p call actions (step.Lost l) → IsLost p call actions l
stands_lost p call actions l h = at_end p call actions (step.Lost l) h

-- what the machine leaves behind is what the script does
leaving : (p : Patience) (next : Next) → Leaving (rest p next []) (loose_next next)
leaving p (step.Turn e then) = refl
leaving p (step.Call to saying then) = refl
leaving p (step.Reply r) = refl
leaving p (step.Lost l) = refl

pub may_stop : (p : Patience) (call : Call) (actions : List Action) (next : Next) →
    Stands p call actions next → Stops p call actions
may_stop p call actions next h = record {
  first = actions;
  more = [];
  course = rest p next [];
  loose = loose_next next;
  split = sym (nothing_more actions);
  goes = at_end p call actions next h;
  leaving = leaving p next;
  clears = tt;
}

pub may_clear : (p : Patience) (call : Call) (actions : List Action) (next : Next) (turn : Turn) →
    Stands p call actions next → clearing (loose_next next) ≡ Some turn.event →
    Stops p call (actions ++ turned turn ∷ [])
may_clear p call actions next turn h is = record {
  first = actions;
  more = turned turn ∷ [];
  course = rest p next [];
  loose = loose_next next;
  split = refl;
  goes = at_end p call actions next h;
  leaving = leaving p next;
  clears = is;
}

-- what follows the same deeds is the same
undone : (ds : List Deed) (c c' : Course (Unit {0})) → doing ds c ≡ doing ds c' → c ≡ c'
undone [] c c' e = e
undone (d ∷ ds) c c' e = undone ds c c' (after e)
  where
    after_of : Course (Unit {0}) → Course (Unit {0})
    after_of (does x q) = q
    after_of q = q

    after : does d (doing ds c) ≡ does d (doing ds c') → doing ds c ≡ doing ds c'
    after h = ap after_of h

abbrev reply_of : Course (Unit {0}) → Reply
reply_of (replied r rest) = r
reply_of q = reply.Nil

pub one_reply : (p : Patience) (call : Call) (actions : List Action) (r s : Reply) →
    Script p call actions r → Script p call actions s → r ≡ s
one_reply p call actions r s h k =
    ap reply_of (undone (map deed_of actions) (replied r []) (replied s []) (sym h ∙ k))
