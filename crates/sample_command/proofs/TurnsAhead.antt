-- Drawings under way, with turns more that were made ahead.
use Rattle.std.proofs.Common.{◌≡◌, ℕ, zero, suc, ◌-◌, ◌≤◌, max, Bool, false, List, [], append-nil, refl, sym, ◌∙◌, ap, subst, arith}
use Rattle.std.specs.Prelude.{Option, None, Some}
use Rattle.bz_model.specs.declared.cell.Bounds.{Bounds}
use Rattle.bz_model.specs.Fraction.{Fraction}
use Rattle.bz_model.specs.Spec.{Spec}
use Rattle.bit_tape.specs.Tape.{TapeState, BelongsToShelf, LeavesTape}
use Rattle.choice_draw.specs.Decision.{level_for}
use Rattle.class_system.specs.Sound.{IsSound}
use Rattle.size_window.specs.declared.ending.Ending.{Ending as Told}
use Rattle.size_window.specs.declared.turned.Turned.TheVariants as answer
use Rattle.size_window.specs.RunByBits.{Limits}
use Rattle.size_window.specs.Drawing.{DrawingState, DrawingBelongs}
use Rattle.size_window.specs.Trace.{TurnsContinue}
use Rattle.size_window.specs.Turn.{node_bits}
use Rattle.size_window.specs.Ahead.{IsGoing, Goes}
use Rattle.sample_command.specs.UnderWay.{HasCourse, CanTurn, IsAtEnd, IsUnderWay, DrawingGoesOn}
use Rattle.sample_command.proofs.OneTurn.{TellsTurn, course-on}
use Rattle.sample_command.proofs.Turns.{under-way-on}

-- a level that is raised already stays where it is
same-level : (raised bits given : ℕ) → given ≡ bits → level_for bits ≤ raised → raised ≡ max raised (level_for given)
same-level raised bits given is below = omega (arith, is, below)

module _ (law : TurnsContinue) (s : Spec) (sound : IsSound s) (x : Fraction) (F : ℕ) (table : (level node : ℕ) → Bounds) (limits : Limits) (told : Option (ℕ → Option Bool)) (raised : ℕ) where
  -- what such a turn tells
  tells : (d now : DrawingState) (start used : ℕ) → d.limits ≡ limits → IsGoing s x F table told raised d start now used → TellsTurn s x F table limits told d now start used answer.Going
  tells d now start used within g = record { law = law; sound = sound; within = within; turn = g.turn; counted = g.counted }

  -- it raises no level
  pub raises-none : (d now : DrawingState) (start used : ℕ) → IsGoing s x F table told raised d start now used → raised ≡ max raised (level_for (node_bits d.waiting (used - start)))
  raises-none d now start used g = same-level raised (used - start) (node_bits d.waiting (used - start)) (ap (λ w. node_bits w (used - start)) g.waiting) g.level

  -- What each turn within these limits carries on, turns one after the other carry on.
  pub carried-ahead : (P : DrawingState → ℕ → Type 0) → ((d now : DrawingState) (start used : ℕ) → IsGoing s x F table told raised d start now used → TellsTurn s x F table limits told d now start used answer.Going → P d start → P now used) → (n : ℕ) (d now : DrawingState) (start used : ℕ) → d.limits ≡ limits → Goes s x F table told raised n d start now used → P d start → (now.limits ≡ limits) × P now used
  carried-ahead P on zero d now start used within (same, place) p = (ap (λ (z : DrawingState). z.limits) same ∙ within, subst (λ z. P z used) (sym same) (subst (P d) (sym place) p))
  carried-ahead P on (suc n) d now start used within (mid, place, goes, last) p =
      let before = carried-ahead P on n d mid start place within goes p in
      (last.counted.limits ∙ before.0, on mid now place used last (tells mid now place used before.0 last) before.1)

  -- a drawing that is under way with this page is so after them
  pub under-way-ahead : (n : ℕ) (d now : DrawingState) (start used : ℕ) → d.limits ≡ limits → Goes s x F table told raised n d start now used → (header : List ℕ) (from at : Option (List ℕ)) (page : List ℕ) → IsUnderWay s x F table limits told d start raised header from at page → IsUnderWay s x F table limits told now used raised header from at page
  under-way-ahead n d now start used within goes header from at page p =
      (carried-ahead (λ z k. IsUnderWay s x F table limits told z k raised header from at page)
      (λ mid later place end g h q. subst (IsUnderWay s x F table limits told later end raised header from at) (append-nil page)
      (under-way-on s x F table limits told mid later place end answer.Going h raised raised (raises-none mid later place end g) header from at page q [] refl))
      n d now start used within goes p).1

  -- it can make another turn
  pub can-turn-ahead : (contents : List ℕ → Option (List ℕ)) (n : ℕ) (d now : DrawingState) (before tape : TapeState) → Goes s x F table told raised n d before.used now tape.used → CanTurn s x contents limits d before → DrawingBelongs s x now → BelongsToShelf contents tape → CanTurn s x contents limits now tape
  can-turn-ahead contents n d now before tape goes can belongs ahead =
      let on = carried-ahead (λ z k. (z.ending ≡ None) × HasCourse s x limits z k)
      (λ mid later place end g h q. (g.counted.ending ∙ q.0, course-on s x F table limits told mid later place end answer.Going h q.1))
      n d now before.used tape.used can.within goes (can.goes_on, can.so_far) in
      record { sound = can.sound; belongs = belongs; within = on.0; goes_on = on.1.0; ahead = ahead; so_far = on.1.1 }

-- one that goes on after turns that were made ahead has made more turns than before them
pub goes-on-ahead : (s : Spec) (x : Fraction) (table : (level node : ℕ) → Bounds) (contents : List ℕ → Option (List ℕ)) (limits : Limits) (before mid d : DrawingState) (tape : TapeState) (o : Option Told) → mid.limits ≡ limits → before.turns ≤ mid.turns → DrawingGoesOn s x table contents mid.limits mid d tape o → DrawingGoesOn s x table contents limits before d tape o
goes-on-ahead s x table contents limits before mid d tape None within more (can, turns) = (subst (λ l. CanTurn s x contents l d tape) within can, omega (arith, more, turns))
goes-on-ahead s x table contents limits before mid d tape (Some ending) within more end = subst (λ l. IsAtEnd table l d ending) within end

-- a drawing can turn within the limits that are its own
pub on-own-limits : (s : Spec) (x : Fraction) (contents : List ℕ → Option (List ℕ)) (limits : Limits) (d : DrawingState) (tape : TapeState) → CanTurn s x contents limits d tape → CanTurn s x contents d.limits d tape
on-own-limits s x contents limits d tape can = subst (λ l. CanTurn s x contents l d tape) (sym can.within) can

-- the shelf is not asked
pub leaves-ahead : {S : Type 0} (contents : S → List ℕ → Option (List ℕ)) (counts : S → List ℕ → ℕ) (shelf : S) (old new : TapeState) → new.source ≡ old.source → BelongsToShelf (contents shelf) new → LeavesTape contents counts false shelf shelf old new
leaves-ahead contents counts shelf old new source belongs = record { source = source; belongs = belongs; content = refl; faults = refl; seeded = λ seed is_seed. refl }
