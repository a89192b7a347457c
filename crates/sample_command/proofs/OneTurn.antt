-- A course with one turn more.
use Rattle.std.proofs.Common.{◌≡◌, ℕ, suc, ◌-◌, ◌<◌, max, arith, Bool, List, [], ◌++◌, append-nil, refl, sym, ◌∙◌, ap, subst}
use Rattle.std.specs.Prelude.{Option, Some, None, option_to_list}
use Rattle.bz_model.specs.declared.cell.Bounds.{Bounds}
use Rattle.bz_model.specs.declared.cell.Cell.{Cell}
use Rattle.bz_model.specs.Fraction.{Fraction}
use Rattle.bz_model.specs.Spec.{Spec}
use Rattle.bit_tape.specs.Tape.{TapeState, BelongsToShelf}
use Rattle.class_system.specs.declared.ids.ExprId.{ExprId}
use Rattle.class_system.specs.Sound.{IsSound}
use Rattle.object_store.specs.Tokens.{IsOf}
use Rattle.size_window.specs.declared.ending.Ending.{Ending as Told}
use Rattle.size_window.specs.declared.ending.Ending.TheVariants as told
use Rattle.size_window.specs.declared.ending.Straddle.{Straddle}
use Rattle.size_window.specs.declared.ending.Straddle.TheVariants as straddle
use Rattle.size_window.specs.declared.turned.Turned.{Turned as Answer}
use Rattle.size_window.specs.declared.turned.Turned.TheVariants as answer
use Rattle.size_window.specs.RunByBits.{Limits, Entry, Course, followed_by}
use Rattle.size_window.specs.Drawing.{DrawingState, DrawingBelongs, state_of, ending_of}
use Rattle.size_window.specs.Follows.{GoesIdeally}
use Rattle.size_window.specs.Trace.{TurnsContinue}
use Rattle.size_window.specs.Turn.{IsTurn, IsCountedTurn, told_entry, turns_by, turns_of, ending_by, TellsOpen, is_turn_fault, node_bits}
use Rattle.sample_command.specs.Drawn.{AreLinesOf, Lists, straddle_of}
use Rattle.sample_command.specs.Drawn as drawn
use Rattle.sample_command.specs.UnderWay.{IsCourseSoFar, HasCourse, CanTurn, IsAtEnd, has_failed, told_open}
use Rattle.sample_command.proofs.KeptObjects.{kept-is-of}

-- the lines of the entry that a turn kept, if it kept one
abbrev pub Appended : Spec → Option Entry → (more : List ℕ) → Type 0
Appended s None more = more ≡ []
Appended s (Some e) more = AreLinesOf s e more

-- What a turn of a drawing that goes on tells.
pub record TellsTurn (s : Spec) (x : Fraction) (F : ℕ) (table : (level node : ℕ) → Bounds) (limits : Limits) (told : Option (ℕ → Option Bool)) (d now : DrawingState) (start used : ℕ) (a : Answer) : Type 0 where
  pub law : TurnsContinue
  pub sound : IsSound s
  pub within : d.limits ≡ limits
  pub turn : IsTurn s x F table told d start a now used
  pub counted : IsCountedTurn d a now

-- the lists of entries and of their lines grow together
lists-on : (s : Spec) (entries : List Entry) (lines more : List ℕ) (o : Option Entry) → Lists s entries lines → Appended s o more → Lists s (entries ++ option_to_list o) (lines ++ more)
lists-on s entries lines more None l none = subst (λ es. Lists s es (lines ++ more)) (sym (append-nil entries)) (subst (Lists s entries) (sym (ap (λ m. lines ++ m) none ∙ append-nil lines)) l)
lists-on s entries lines more (Some e) l of = drawn.one_more entries e lines more l of refl refl

module _ (s : Spec) (x : Fraction) (F : ℕ) (table : (level node : ℕ) → Bounds) (limits : Limits) (told : Option (ℕ → Option Bool)) (d now : DrawingState) (start used : ℕ) (a : Answer) (h : TellsTurn s x F table limits told d now start used a) where
  goes-within : (c : Course) → c.state ≡ state_of d start → GoesIdeally s x limits c → GoesIdeally s x limits (followed_by c h.turn.turned)
  goes-within c at g = subst (λ l. GoesIdeally s x l (followed_by c h.turn.turned)) h.within (h.turn.goes c at (subst (λ l. GoesIdeally s x l c) (sym h.within) g))

  pub course-on : HasCourse s x limits d start → HasCourse s x limits now used
  course-on c = record { course = followed_by c.course h.turn.turned; state = h.turn.state; goes = goes-within c.course c.state c.goes }

  pub entry-is-of : (e : Entry) → HasCourse s x limits d start → told_entry a ≡ Some e → IsOf s 0 e.tokens
  entry-is-of e c is = kept-is-of s x limits c.course h.turn.turned e (goes-within c.course c.state c.goes).follows (h.turn.entry ∙ is)

  module _ (most : ℕ) (p : IsCourseSoFar s x F table limits told d start most) where
    -- the course after the turn
    pub so-far-on : IsCourseSoFar s x F table limits told now used (max most (node_bits d.waiting (used - start)))
    so-far-on = record {
      turns = suc p.turns;
      course = followed_by p.course h.turn.turned;
      drawing = h.law s h.sound x F table limits told p.turns d start most p.course p.drawing a now used h.turn h.counted;
    }

    -- its entries are those before the turn, and the one that the turn kept
    pub entries-on : so-far-on.course.entries ≡ p.course.entries ++ option_to_list (told_entry a)
    unfolding so-far-on
    entries-on = ap (λ o. p.course.entries ++ option_to_list o) h.turn.entry

    -- so are their lines
    pub lines-on : (lines more : List ℕ) → Lists s p.course.entries lines → Appended s (told_entry a) more → Lists s so-far-on.course.entries (lines ++ more)
    lines-on lines more l appended = subst (λ es. Lists s es (lines ++ more)) (sym entries-on) (lists-on s p.course.entries lines more (told_entry a) l appended)

-- the number that an ending tells, with these bounds
abbrev at_node : ExprId → Cell → (lo hi : ℕ) → Option Straddle
at_node node cell lo hi = Some (straddle.Node node cell lo hi)

-- the number that an ending tells has the bounds of the table
pub open-told : (table : (level node : ℕ) → Bounds) (e : Told) → TellsOpen table (answer.Finished e) → told_open e ≡ straddle_of table (ending_of e)
open-told table told.Done h = refl
open-told table told.TapeEnded h = refl
open-told table (told.Undecided (straddle.Node node cell lo hi)) h = ap (λ l. at_node node cell l hi) h.lower ∙ ap (at_node node cell (table 6 node.0).lo) h.upper
open-told table (told.Undecided (straddle.Label m cell)) h = refl
open-told table told.TurnLimit h = refl
open-told table told.ReadFault h = refl

-- the limits are the drawing's
count-same : (l limits : Limits) → l ≡ limits → l.count ≡ limits.count
count-same l limits e = ap (λ (k : Limits). k.count) e

turns-same : (l limits : Limits) → l ≡ limits → l.turns ≡ limits.turns
turns-same l limits e = ap (λ (k : Limits). k.turns) e

turns-none : (ending : Option Told) (e : Told) → ending ≡ None → e ≡ told.TurnLimit → turns_by ending (answer.Finished e) ≡ 0
turns-none ending e none is = ap (λ o. turns_by o (answer.Finished e)) none ∙ ap (λ f. turns_of f) is

turns-one : (ending : Option Told) (a : Answer) → ending ≡ None → turns_by None a ≡ 1 → turns_by ending a ≡ 1
turns-one ending a none one = ap (λ o. turns_by o a) none ∙ one

-- a drawing that ended in this turn has come to its end
pub at-end : (s : Spec) (x : Fraction) (contents : List ℕ → Option (List ℕ)) (table : (level node : ℕ) → Bounds) (limits : Limits) (d now : DrawingState) (tape : TapeState) (e : Told) → CanTurn s x contents limits d tape → IsCountedTurn d (answer.Finished e) now → ((answer.Finished e ≡ answer.Finished told.Done) → d.kept ≡ d.limits.count) → ((answer.Finished e ≡ answer.Finished told.TurnLimit) → d.turns ≡ d.limits.turns) → TellsOpen table (answer.Finished e) → IsAtEnd table limits now e
at-end s x contents table limits d now tape e can counted done turn_limit tells_open = record {
  ended = counted.ending;
  kept = λ is. let all = done (ap answer.Finished is) in let one = count-same d.limits limits can.within in let same = counted.kept in omega (arith, all, one, same);
  out_of_turns = λ is. let all = turn_limit (ap answer.Finished is) in let most = turns-same d.limits limits can.within in let same = counted.turns in let none = turns-none d.ending e can.goes_on is in omega (arith, all, most, same, none);
  open_is = open-told table e tells_open;
}

-- a drawing that goes on can make another turn
pub can-turn-on : (s : Spec) (x : Fraction) (F : ℕ) (table : (level node : ℕ) → Bounds) (limits : Limits) (told : Option (ℕ → Option Bool)) (contents : List ℕ → Option (List ℕ)) (d now : DrawingState) (before_tape tape : TapeState) (a : Answer) → TellsTurn s x F table limits told d now before_tape.used tape.used a → CanTurn s x contents limits d before_tape → turns_by None a ≡ 1 → ending_by d.ending a ≡ d.ending → DrawingBelongs s x now → BelongsToShelf contents tape → CanTurn s x contents limits now tape × (d.turns < now.turns)
can-turn-on s x F table limits told contents d now before_tape tape a h can one same belongs ahead = (
  record {
    sound = can.sound;
    belongs = belongs;
    within = h.counted.limits ∙ can.within;
    goes_on = h.counted.ending ∙ same ∙ can.goes_on;
    ahead = ahead;
    so_far = course-on s x F table limits told d now before_tape.used tape.used a h can.so_far;
  },
  let more = h.counted.turns in let by = turns-one d.ending a can.goes_on one in omega (arith, more, by),
)

-- a read failed in the turn exactly where the drawing ended with a failed read
pub same-fault : (before now : Option Told) (a : Answer) → before ≡ None → now ≡ ending_by before a → is_turn_fault a before ≡ has_failed now
same-fault before now a none is = ap (is_turn_fault a) none ∙ by a ∙ sym (ap has_failed (is ∙ ap (λ o. ending_by o a) none))
  where
    by : (a : Answer) → is_turn_fault a None ≡ has_failed (ending_by None a)
    by answer.Going = refl
    by (answer.Kept e) = refl
    by answer.OutOfMemory = refl
    by (answer.Finished told.Done) = refl
    by (answer.Finished told.TapeEnded) = refl
    by (answer.Finished (told.Undecided straddle)) = refl
    by (answer.Finished told.TurnLimit) = refl
    by (answer.Finished told.ReadFault) = refl
