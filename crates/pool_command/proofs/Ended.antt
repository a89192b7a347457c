-- A pool whose drawings have ended, and one so far, as the command tells of them.
use Rattle.std.proofs.Common.{◌≡◌, ℕ, ◌+◌, ◌-◌, ◌≤◌, arith, List, map, refl, sym, ap, subst, ◌∙◌}
use Rattle.std.specs.Prelude.{Option, Some}
use Rattle.bz_model.specs.Fraction.{ratio}
use Rattle.bit_tape.specs.Tape.{TapeSource, bits_of_source}
use Rattle.class_system.specs.Sound.{IsSound}
use Rattle.size_window.specs.declared.ending.Ending.{Ending as Told}
use Rattle.size_window.specs.declared.ending.Ending.TheVariants as told
use Rattle.size_window.specs.RunByBits.{RunState}
use Rattle.size_window.specs.Drawing.{AreLimits, ending_of}
use Rattle.size_window.specs.Turn.{entry_of, turns_of}
use Rattle.session_pool.specs.Member.{MemberState}
use Rattle.session_pool.specs.Interleaving.{Shared, shared_setting, EndedRightly}
use Rattle.call_stages.specs.Stages.{files}
use Rattle.sample_command.specs.Drawn.{Lists, closing_text}
use Rattle.sample_command.specs.UnderWay.{met, has_failed, IsCourseSoFar, IsAtEnd}
use Rattle.sample_command.proofs.AtTheEnd.{course-of, drawn-at-end, closing-is}
use Rattle.sample_command.proofs.OneTurn.{open-told}
use Rattle.sample_command.proofs.TapeEnds.{Chosen, EndLaws}
use Rattle.pool_command.specs.PoolCommand.{PoolSetting, PoolCourse, AreInCall, IsCourseIn, IsDrawnIn, table_of}
use Rattle.pool_command.specs.UnderWay.{AreMoments, IsMemberUnderWay, asked_until}
use Rattle.pool_command.specs.Schedule.{asks_to_end}
use Rattle.pool_command.specs.Pages.{closing_by}

-- what the drawings of a pool over a base share
abbrev pub shared_of : PoolSetting → (contents : List ℕ → Option (List ℕ)) → Shared
shared_of p contents = shared_setting p.setting.spec (ratio p.setting.num p.setting.den) p.setting.bits (table_of p) contents

-- a drawing is asked as often as its closing states
asks-are : (e : Told) (turns : ℕ) → asks_to_end (ending_of e) turns ≡ turns + (1 - turns_of e)
asks-are told.Done turns = omega arith
asks-are told.TapeEnded turns = omega arith
asks-are (told.Undecided straddle) turns = omega arith
asks-are told.TurnLimit turns = omega arith
asks-are told.ReadFault turns = omega arith

-- a drawing of a pool is one of the command
module _ (p : PoolSetting) (contents : List ℕ → Option (List ℕ)) (begun counts before : List ℕ → ℕ) (chosen : Chosen p.setting.spec p.setting.bits (table_of p)) (earlier : (other : List ℕ) → before other ≤ begun other) (m : MemberState) (most : ℕ) (h : IsMemberUnderWay (shared_of p contents) p.limits begun counts m most) (name : List ℕ) (source : m.tape.source ≡ TapeSource.Named name) where
  abbrev pub SoFarOver : TapeSource → Type 0
  SoFarOver s = IsCourseSoFar p.setting.spec (ratio p.setting.num p.setting.den) p.setting.bits (table_of p) p.limits (bits_of_source s contents) m.drawing m.tape.used most

  pub over-name : (q : SoFarOver (TapeSource.Named name)) × (q.course.entries ≡ map entry_of m.entries)
  over-name = subst (λ s. (q : SoFarOver s) × (q.course.entries ≡ map entry_of m.entries)) source (h.so_far, h.entries)

  pub met-between : AreMoments (TapeSource.Named name) (has_failed m.drawing.ending) begun counts
  met-between = subst (λ s. AreMoments s (has_failed m.drawing.ending) begun counts) source h.moments

  pub in-call : AreInCall (files contents before counts) met-between.before met-between.now
  in-call = record { since = λ other. let one = earlier other in let two = met-between.since other in omega (arith, one, two); until = met-between.until }

  abbrev pub course_of_member : PoolCourse
  course_of_member = record { course = over-name.0.course; most = most }

  -- so far
  pub course-in : IsCourseIn p (files contents before counts) name course_of_member
  course-in = record {
    before = met-between.before;
    now = met-between.now;
    moments = in-call;
    course = course-of p.setting.spec (ratio p.setting.num p.setting.den) p.setting.bits (table_of p) p.limits (met (TapeSource.Named name) contents met-between.before met-between.now) chosen m.drawing m.tape.used most over-name.0 met-between.reads;
  }

  module _ (e : Told) (is : m.drawing.ending ≡ Some e) (rightly : EndedRightly (shared_of p contents) p.limits m.tape.source begun counts m.drawing e) where
    pub at-end-of : IsAtEnd (table_of p) p.limits m.drawing e
    at-end-of = record {
      ended = is;
      kept = rightly.kept;
      out_of_turns = λ limit. (rightly.out_of_turns limit).1;
      open_is = open-told (table_of p) e rightly.left_open;
    }

    -- at its end
    pub drawn-in : EndLaws → IsSound p.setting.spec → AreLimits p.limits → (lines : List ℕ) → Lists p.setting.spec (map entry_of m.entries) lines → IsDrawnIn p (files contents before counts) name (record { so_far = course_of_member; ending = ending_of e; lines = lines })
    drawn-in laws sound are lines lists = record {
      before = met-between.before;
      now = met-between.now;
      moments = in-call;
      drawn = drawn-at-end p.setting.spec (ratio p.setting.num p.setting.den) p.setting.bits (table_of p) p.limits (met (TapeSource.Named name) contents met-between.before met-between.now) chosen m.drawing m.tape.used most over-name.0 laws sound are met-between.reads e at-end-of;
      lists = subst (λ es. Lists p.setting.spec es lines) (sym over-name.1) lists;
    }

    pub closing-same : closing_by m m.drawing.ending ≡ closing_text (table_of p) over-name.0.course (ending_of e)
    closing-same = ap (closing_by m) is ∙ closing-is p.setting.spec (ratio p.setting.num p.setting.den) p.setting.bits (table_of p) p.limits (met (TapeSource.Named name) contents met-between.before met-between.now) chosen m.drawing m.tape.used most over-name.0 e m.drawing.kept m.drawing.thrown m.tape.used m.drawing.turns at-end-of refl refl refl refl

    pub asks-same : asks_to_end (ending_of e) over-name.0.course.state.turns ≡ asked_until m.drawing m.drawing.ending
    asks-same = asks-are e over-name.0.course.state.turns ∙ ap (λ (st : RunState). st.turns + (1 - turns_of e)) over-name.0.drawing.state ∙ sym (ap (asked_until m.drawing) is)
