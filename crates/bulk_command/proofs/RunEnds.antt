-- Runs that begin, and what comes of one that has come to its end or was broken off.
use Rattle.std.proofs.Common.{◌≡◌, ℕ, ◌+◌, ◌≤◌, List, [], refl, sym, ◌∙◌, ap, subst, arith}
use Rattle.std.specs.Prelude.{Option}
use Rattle.bz_model.specs.declared.cell.Bounds.{Bounds}
use Rattle.bz_model.specs.Fraction.{Fraction, ratio}
use Rattle.bz_model.specs.Spec.{Spec}
use Rattle.bz_model.specs.WellFounded.{IsWellFounded}
use Rattle.bit_tape.specs.Tape.{TapeSource, CountsFault, bits_of_source}
use Rattle.choice_draw.specs.Decision.{level_for}
use Rattle.oracle_memo.specs.Levels.{level_bounds, cost_at}
use Rattle.rounded_map.specs.RoundedMap.{Setting, setting}
use Rattle.size_window.specs.declared.ending.Ending.{Ending as Told}
use Rattle.size_window.specs.RunByBits.{Limits, RunState, start}
use Rattle.class_system.specs.Sound.{IsSound}
use Rattle.size_window.specs.Drawing.{AreLimits, DrawingState, state_of, ending_of}
use Rattle.size_window.specs.Trace.{atoms_in, TracesStart}
use Rattle.size_window.proofs.Turning.{attempt-used}
use Rattle.call_stages.specs.Ends.{output, EndsBy}
use Rattle.call_stages.specs.Ends as ends
use Rattle.call_stages.specs.Outcomes.{Never, Says, MaySay}
use Rattle.call_stages.specs.Outcomes as outcomes
use Rattle.call_stages.specs.declared.status.Status.{Status}
use Rattle.call_stages.specs.Stages.{IsAccepted, Judged, Based}
use Rattle.call_stages.specs.Stages as stages
use Rattle.call_stages.proofs.Endings.{no_front, ends_on, ends_as, written_on}
use Rattle.call_stages.proofs.Staging.{judged_as}
use Rattle.sample_command.specs.Drawn.{IsCourse, ending_word, ending_status}
use Rattle.sample_command.specs.UnderWay.{has_failed, IsAtEnd}
use Rattle.sample_command.proofs.TapeEnds.{Chosen, EndLaws}
use Rattle.sample_command.proofs.AtTheEnd.{course-starts, course-of, drawn-at-end}
use Rattle.bulk_command.specs.BulkCommand.{bulk_limits, bulk_tape, bulk_line, course_line, BulkDrawn, CarriesBulk}
use Rattle.bulk_command.specs.BulkText.{classes_of, bulk_text}
use Rattle.bulk_command.specs.BulkCommand as bulk
use Rattle.bulk_command.specs.NoFiles.{empty_files, no_faults}
use Rattle.bulk_command.specs.Running.{IsRunning}

-- a run's limits are limits
pub bulk-limits : (n : ℕ) → 1 ≤ n → n ≤ 1000 → AreLimits (bulk_limits n)
bulk-limits n some few = record { window = omega arith; max = omega arith; some = omega arith; count = omega arith; some_turns = omega arith; turns = omega arith }

-- a run begins
pub starts-running : (law : TracesStart) (s : Spec) (x : Fraction) (F : ℕ) (table : (level node : ℕ) → Bounds) (limits : Limits) (source : TapeSource) (d : DrawingState) (used raised : ℕ) → used ≡ 0 → state_of d 0 ≡ start → d.limits ≡ limits → d.atoms ≡ 0 → raised ≡ 0 → IsRunning s x F table limits source d used raised
starts-running law s x F table limits source d used raised none at within atoms unraised = record {
  most = 0;
  so_far = course-starts law s x F table limits (bits_of_source source empty_files) d used none at within atoms;
  raised_is = unraised;
}

-- nothing was drawn, for want of memory
pub no-run : (n : ℕ) (t : Setting) (base : List ℕ) (o : Option (List ℕ)) (fb fa ticks : ℕ) → EndsBy (BulkDrawn n t base) (output o o fb fa ticks ticks) Status.OutOfMemory
no-run n t base o fb fa ticks = ends.out_of_memory refl (record { text = []; ticks = 0; is = bulk.no_memory (record { status_is = refl; text_is = refl; ticks_are = refl }); front = no_front o []; few = omega arith })

module _ (n : ℕ) (t : Setting) (base : List ℕ) (chosen : Chosen t.spec t.bits (level_bounds t base)) (d : DrawingState) (used raised : ℕ) (tb ta : ℕ) (few : ta ≤ tb + cost_at raised) (h : IsRunning t.spec (ratio t.num t.den) t.bits (level_bounds t base) (bulk_limits n) (TapeSource.Seeded n) d used raised) (reads : CountsFault (has_failed d.ending) (TapeSource.Seeded n) no_faults no_faults) where
  is-course : IsCourse t.spec (ratio t.num t.den) t.bits (level_bounds t base) (bulk_limits n) (bulk_tape n) h.so_far.course h.most
  is-course = course-of t.spec (ratio t.num t.den) t.bits (level_bounds t base) (bulk_limits n) (bulk_tape n) chosen d used h.most h.so_far reads

  few-given : ta ≤ tb + cost_at (level_for h.most)
  few-given = subst (λ k. ta ≤ tb + cost_at k) h.raised_is few

  -- memory ran out in a turn
  pub run-broken : (o : Option (List ℕ)) (fb fa : ℕ) → EndsBy (BulkDrawn n t base) (output o o fb fa tb ta) Status.OutOfMemory
  run-broken o fb fa = ends.out_of_memory refl (record {
    text = [];
    ticks = cost_at (level_for h.most);
    is = bulk.so_far h.so_far.course h.most is-course (record { status_is = refl; text_is = refl; ticks_are = refl });
    front = no_front o [];
    few = few-given;
  })

  module _ (e : Told) (end : IsAtEnd (level_bounds t base) (bulk_limits n) d e) (laws : EndLaws) (sound : IsSound t.spec) (are : AreLimits (bulk_limits n)) where
    -- the counts of the drawing are those of its course
    same-line : (word : List ℕ) (a b c k f g u v q r : ℕ) → a ≡ b → c ≡ k → f ≡ g → u ≡ v → q ≡ r → bulk_line n (classes_of n) word a c f u q ≡ bulk_line n (classes_of n) word b k g v r
    same-line word a b c k f g u v q r ab ck fg uv qr = cc

    line-is : (kept thrown atoms bits turns : ℕ) → kept ≡ d.kept → thrown ≡ d.thrown → atoms ≡ d.atoms → bits ≡ used → turns ≡ d.turns → bulk_line n (classes_of n) (ending_word (ending_of e)) kept thrown atoms bits turns ≡ course_line n h.so_far.course (ending_of e)
    line-is kept thrown atoms bits turns is_kept is_thrown are_atoms are_bits are_turns =
        let at = h.so_far.drawing.state in
        let c = h.so_far.course in
        let kept_at : c.state.kept ≡ d.kept = ap (λ (st : RunState). st.kept) at in
        let thrown_at : c.state.thrown ≡ d.thrown = ap (λ (st : RunState). st.thrown) at in
        let turns_at : c.state.turns ≡ d.turns = ap (λ (st : RunState). st.turns) at in
        let bits_at : c.state.attempt.used ≡ used = ap (λ (st : RunState). st.attempt.used) at ∙ attempt-used d.waiting d.session used in
        same-line (ending_word (ending_of e)) kept c.state.kept thrown c.state.thrown atoms (atoms_in c.entries) bits c.state.attempt.used turns c.state.turns (is_kept ∙ sym kept_at) (is_thrown ∙ sym thrown_at) (are_atoms ∙ h.so_far.drawing.atoms) (are_bits ∙ sym bits_at) (are_turns ∙ sym turns_at)

    -- what may be said of a run is an outcome of it
    is-drawn : (line : List ℕ) → line ≡ course_line n h.so_far.course (ending_of e) → (status : Status) (text : List ℕ) (ticks : ℕ) → MaySay (ending_status (ending_of e)) line 0 status text ticks → BulkDrawn n t base status text (cost_at (level_for h.most))
    is-drawn line is status text ticks (outcomes.says says) = bulk.ended h.so_far.course h.most (ending_of e) (drawn-at-end t.spec (ratio t.num t.den) t.bits (level_bounds t base) (bulk_limits n) (bulk_tape n) chosen d used h.most h.so_far laws sound are reads e end) (record { status_is = says.status_is; text_is = says.text_is ∙ is; ticks_are = refl })
    is-drawn line is status text ticks (outcomes.no_memory says) = bulk.so_far h.so_far.course h.most is-course (record { status_is = says.status_is; text_is = says.text_is; ticks_are = refl })

    -- a run ends with its line
    pub run-ends : (kept thrown atoms bits turns : ℕ) → kept ≡ d.kept → thrown ≡ d.thrown → atoms ≡ d.atoms → bits ≡ used → turns ≡ d.turns → (b a : Option (List ℕ)) (fb fa : ℕ) (result : Status) → EndsBy (MaySay (ending_status (ending_of e)) (bulk_line n (classes_of n) (ending_word (ending_of e)) kept thrown atoms bits turns) 0) (output b a fb fa 0 0) result → EndsBy (BulkDrawn n t base) (output b a fb fa tb ta) result
    run-ends kept thrown atoms bits turns is_kept is_thrown are_atoms are_bits are_turns b a fb fa result ended =
        let line = bulk_line n (classes_of n) (ending_word (ending_of e)) kept thrown atoms bits turns in
        ends_on (MaySay (ending_status (ending_of e)) line 0) (BulkDrawn n t base) b a fb fa 0 0 tb ta result
        (λ status text ticks p. (cost_at (level_for h.most), is-drawn line (line-is kept thrown atoms bits turns is_kept is_thrown are_atoms are_bits are_turns) status text ticks p, λ none. few-given)) ended

-- there was no memory for the specification
pub no-specification : (n F : ℕ) (o : Option (List ℕ)) (fb fa ticks : ℕ) → EndsBy (CarriesBulk n F) (output o o fb fa ticks ticks) Status.OutOfMemory
no-specification n F o fb fa ticks = ends.out_of_memory refl (record { text = []; ticks = 0; is = stages.no_memory (record { status_is = refl; text_is = refl; ticks_are = refl }); front = no_front o []; few = omega arith })

-- the specification was accepted, and what follows ends the call
pub goes-on : (n F : ℕ) (bytes : List ℕ) (s : Spec) (b a : Option (List ℕ)) (fb fa tb ta : ℕ) (result : Status) → bytes ≡ bulk_text n → IsAccepted bytes s → IsWellFounded s → EndsBy (Based (setting s 3 16 F) (BulkDrawn n (setting s 3 16 F))) (output b a fb fa tb ta) result → EndsBy (CarriesBulk n F) (output b a fb fa tb ta) result
goes-on n F bytes s b a fb fa tb ta result same accepted founded h =
    ends_as (Based (setting s 3 16 F) (BulkDrawn n (setting s 3 16 F))) (CarriesBulk n F) b a fb fa tb ta result
    (λ status text ticks p. stages.founded s (subst (λ z. IsAccepted z s) same accepted) founded p) h

-- it was refused
pub ends-refused : (n F : ℕ) (bytes : List ℕ) (said : Status) (text : List ℕ) (b a : Option (List ℕ)) (fb fa ticks : ℕ) (result : Status) → bytes ≡ bulk_text n → Judged (λ s. Never) bytes said text 0 → EndsBy (Says said text 0) (output b a fb fa 0 0) result → EndsBy (CarriesBulk n F) (output b a fb fa ticks ticks) result
ends-refused n F bytes said text b a fb fa ticks result same judged h =
    let next = λ (s : Spec). Based (setting s 3 16 F) (BulkDrawn n (setting s 3 16 F)) in
    written_on (CarriesBulk n F) b a fb fa ticks ticks result said text 0 h
    (judged_as (λ s. Never) next (bulk_text n) said text 0 (λ s never. absurd never) (subst (λ z. Judged (λ s. Never) z said text 0) same judged)) (omega arith)
