-- Drawings that begin, and what one that has come to its end or was broken off reports.
use Rattle.std.proofs.Common.{◌≡◌, ℕ, ◌+◌, ◌≤◌, Bool, List, [], ◌++◌, refl, sym, ◌∙◌, ap, subst, arith, append-nil, append_assoc}
use Rattle.std.specs.Prelude.{Option, Some, None, option_map}
use Rattle.bz_model.specs.declared.cell.Bounds.{Bounds}
use Rattle.bz_model.specs.Fraction.{Fraction}
use Rattle.bz_model.specs.Spec.{Spec}
use Rattle.bz_outside.specs.Outside.{Rose, Appends, AppendsFront}
use Rattle.bit_tape.specs.Tape.{TapeState, BelongsToShelf, CountsFault, bits_of_source}
use Rattle.choice_draw.specs.Decision.{level_for}
use Rattle.class_system.specs.Sound.{IsSound}
use Rattle.certificate.specs.declared.closing.Closing.{Closing}
use Rattle.certificate.specs.declared.closing.ClosingWord.{ClosingWord}
use Rattle.certificate.specs.Certificates as certificate
use Rattle.certificate.specs.Lines.{text_of}
use Rattle.size_window.specs.declared.ending.Ending.{Ending as Told}
use Rattle.size_window.specs.declared.ending.Ending.TheVariants as told
use Rattle.size_window.specs.declared.ending.Straddle.{Straddle}
use Rattle.size_window.specs.RunByBits.{Limits, RunState, Ending, start, at_start}
use Rattle.size_window.specs.Drawing.{AreLimits, DrawingState, DrawingBelongs, state_of, ending_of}
use Rattle.size_window.specs.Ideally.{chooser_of}
use Rattle.size_window.specs.Trace.{TracesStart}
use Rattle.size_window.proofs.Turning.{attempt-used}
use Rattle.size_window.proofs.Going.{goes-start}
use Rattle.well_founded.specs.EmptyObjects.{has_empty}
use Rattle.sample_command.specs.Drawn.{TapeMet, ended_by_fault, IsCourse, IsDrawn, Drawn, Lists, closing_text, straddle_of, closing_word, ending_status}
use Rattle.sample_command.specs.Drawn as drawn
use Rattle.call_stages.specs.Ends.{output, EndsBy, IsHeld}
use Rattle.call_stages.specs.Ends as ends
use Rattle.call_stages.specs.Outcomes.{Says, MaySay}
use Rattle.call_stages.specs.Outcomes as outcomes
use Rattle.sample_command.specs.UnderWay.{has_failed, IsCourseSoFar, CanTurn, IsAtEnd, IsUnderWay, IsBroken, told_open, told_closing}
use Rattle.call_stages.specs.Reports.{stop_status}
use Rattle.call_stages.specs.declared.report.Stop.{Stop}
use Rattle.call_stages.specs.declared.report.Stop.TheVariants as stop
use Rattle.call_stages.specs.declared.status.Status.{Status}
use Rattle.call_stages.proofs.Endings.{no_front}
use Rattle.call_stages.proofs.Held.{appends-both, front-both, front-more, front-whole, held-start}
use Rattle.sample_command.proofs.TapeEnds.{Chosen, EndLaws, all-used}

-- a drawing that starts hasn't ended
not-ended : (o : Option Told) → option_map ending_of o ≡ None → o ≡ None
not-ended None e = refl
not-ended (Some ending) e = absurd (cc)

-- A drawing in its starting state over an unread tape can make a turn, where its specification is
-- sound and both drawing and tape are as they belong.
pub starts : (s : Spec) (x : Fraction) → IsSound s → (contents : List ℕ → Option (List ℕ)) (limits : Limits) (d : DrawingState) (tape : TapeState) → tape.used ≡ 0 → state_of d 0 ≡ start → d.limits ≡ limits → DrawingBelongs s x d → BelongsToShelf contents tape → CanTurn s x contents limits d tape
starts s x sound contents limits d tape used at same belongs ahead = record {
  sound = sound;
  belongs = belongs;
  within = same;
  goes_on = not-ended d.ending (ap (λ (st : RunState). st.ending) at);
  ahead = ahead;
  so_far = record { course = at_start; state = sym at ∙ ap (state_of d) (sym used); goes = goes-start s x limits };
}

-- its trace starts with it
pub course-starts : (law : TracesStart) (s : Spec) (x : Fraction) (F : ℕ) (table : (level node : ℕ) → Bounds) (limits : Limits) (told : Option (ℕ → Option Bool)) (d : DrawingState) (used : ℕ) → used ≡ 0 → state_of d 0 ≡ start → d.limits ≡ limits → d.atoms ≡ 0 → IsCourseSoFar s x F table limits told d used 0
course-starts law s x F table limits told d used none at within atoms = subst (λ n. IsCourseSoFar s x F table limits told d n 0) (sym none) (record { turns = 0; course = at_start; drawing = law s x F table limits told d at within atoms })

-- a drawing is under way, its header held back
pub starts-under-way : (law : TracesStart) (s : Spec) (x : Fraction) (F : ℕ) (table : (level node : ℕ) → Bounds) (limits : Limits) (told : Option (ℕ → Option Bool)) (d : DrawingState) (used raised : ℕ) (header page : List ℕ) (o : Option (List ℕ)) → used ≡ 0 → state_of d 0 ≡ start → d.limits ≡ limits → d.atoms ≡ 0 → raised ≡ 0 → page ≡ header → IsUnderWay s x F table limits told d used raised header o o page
starts-under-way law s x F table limits told d used raised header page o none at within atoms unraised same = subst (λ n. IsUnderWay s x F table limits told d n raised header o o page) (sym none) (record {
  most = 0;
  so_far = record { turns = 0; course = at_start; drawing = law s x F table limits told d at within atoms };
  lines = [];
  lists = drawn.none refl refl;
  raised_is = unraised;
  held_is = held-start o page (header ++ []) (append-nil header ∙ sym same);
})

-- the ending that is told
done-told : (e : Told) → ending_of e ≡ Ending.Done → e ≡ told.Done
done-told told.Done is = refl
done-told told.TapeEnded is = absurd (cc)
done-told (told.Undecided straddle) is = absurd (cc)
done-told told.TurnLimit is = absurd (cc)
done-told told.ReadFault is = absurd (cc)

limit-told : (e : Told) → ending_of e ≡ Ending.TurnLimit → e ≡ told.TurnLimit
limit-told told.Done is = absurd (cc)
limit-told told.TapeEnded is = absurd (cc)
limit-told (told.Undecided straddle) is = absurd (cc)
limit-told told.TurnLimit is = refl
limit-told told.ReadFault is = absurd (cc)

-- a failed read that a course met is the one that its drawing met
same-fault : (o : Option Told) → has_failed o ≡ ended_by_fault (option_map ending_of o)
same-fault None = refl
same-fault (Some told.Done) = refl
same-fault (Some told.TapeEnded) = refl
same-fault (Some (told.Undecided straddle)) = refl
same-fault (Some told.TurnLimit) = refl
same-fault (Some told.ReadFault) = refl

-- a closing
abbrev closing : ClosingWord → Option Straddle → (kept thrown bits turns : ℕ) → Closing
closing word straddle kept thrown bits turns = record { word = word; straddle = straddle; kept = kept; thrown = thrown; bits = bits; turns = turns }

-- closings of equal counts
same-closing : (word : ClosingWord) (o p : Option Straddle) (k l m n u v r q : ℕ) → o ≡ p → k ≡ l → m ≡ n → u ≡ v → r ≡ q → closing word o k m u r ≡ closing word p l n v q
same-closing word o p k l m n u v r q a b c d e =
    ap (λ z. closing word z k m u r) a ∙ ap (λ z. closing word p z m u r) b ∙ ap (λ z. closing word p l z u r) c ∙ ap (λ z. closing word p l n z r) d ∙ ap (closing word p l n v) e

module _ (s : Spec) (x : Fraction) (F : ℕ) (table : (level node : ℕ) → Bounds) (limits : Limits) (t : TapeMet) (chosen : Chosen s F table) (d : DrawingState) (used most : ℕ) (h : IsCourseSoFar s x F table limits (bits_of_source t.source t.contents) d used most) where
  ending-is : h.course.state.ending ≡ option_map ending_of d.ending
  ending-is = ap (λ (st : RunState). st.ending) h.drawing.state

  used-is : h.course.state.attempt.used ≡ used
  used-is = ap (λ (st : RunState). st.attempt.used) h.drawing.state ∙ attempt-used d.waiting d.session used

  -- a course so far is one of which memory may run out, or a write fail
  pub course-of : CountsFault (has_failed d.ending) t.source t.before t.now → IsCourse s x F table limits t h.course most
  course-of reads =
      let trace = h.drawing.trace in
      record {
        follows = trace.goes.follows;
        given = trace.given;
        gave = trace.gave;
        ends = trace.ended;
        spells = trace.spells;
        turns = h.turns;
        faults = trace.faults;
        exact = λ tape have at. trace.exact tape have at (chooser_of s F table (has_empty s)) chosen;
        disturbed = trace.disturbed;
        reads = subst (λ b. CountsFault b t.source t.before t.now) (same-fault d.ending ∙ sym (ap ended_by_fault ending-is)) reads;
      }

  -- one that has come to its end is one that is drawn
  pub drawn-at-end : EndLaws → IsSound s → AreLimits limits → CountsFault (has_failed d.ending) t.source t.before t.now → (e : Told) → IsAtEnd table limits d e → IsDrawn s x F table limits t h.course most (ending_of e)
  drawn-at-end laws sound are reads e end =
      let at = h.drawing.state in
      let ended = ending-is ∙ ap (option_map ending_of) end.ended in
      record {
        course = course-of reads;
        ended = ended;
        kept = λ is. ap (λ (st : RunState). st.kept) at ∙ end.kept (done-told e is);
        out_of_turns = λ is. ap (λ (st : RunState). st.turns) at ∙ end.out_of_turns (limit-told e is);
        used_up = λ is. all-used laws s x F table limits sound chosen are h.turns most h.course (ended ∙ ap Some is) t.source t.contents h.drawing.trace;
      }

  -- the lines after the last object
  pub closing-is : (e : Told) (kept thrown bits turns : ℕ) → IsAtEnd table limits d e → kept ≡ d.kept → thrown ≡ d.thrown → bits ≡ used → turns ≡ d.turns → text_of (certificate.closing_lines (told_closing e kept thrown bits turns)) ≡ closing_text table h.course (ending_of e)
  closing-is e kept thrown bits turns end is_kept is_thrown are_bits are_turns =
      let at = h.drawing.state in
      let c = h.course in
      let kept_at : c.state.kept ≡ d.kept = ap (λ (st : RunState). st.kept) at in
      let thrown_at : c.state.thrown ≡ d.thrown = ap (λ (st : RunState). st.thrown) at in
      let turns_at : c.state.turns ≡ d.turns = ap (λ (st : RunState). st.turns) at in
      ap (λ (z : Closing). text_of (certificate.closing_lines z)) (same-closing (closing_word (ending_of e)) (told_open e) (straddle_of table (ending_of e)) kept c.state.kept thrown c.state.thrown bits c.state.attempt.used turns c.state.turns end.open_is (is_kept ∙ sym kept_at) (is_thrown ∙ sym thrown_at) (are_bits ∙ sym used-is) (are_turns ∙ sym turns_at))

-- a drawing that is under way, of which a prefix was written, may be broken off
pub broken-off : (s : Spec) (x : Fraction) (F : ℕ) (table : (level node : ℕ) → Bounds) (limits : Limits) (told : Option (ℕ → Option Bool)) (d : DrawingState) (used raised : ℕ) (header : List ℕ) (from now after : Option (List ℕ)) (page : List ℕ) (h : IsUnderWay s x F table limits told d used raised header from now page) → AppendsFront from after (header ++ h.lines) → IsBroken s x F table limits told d used raised header from after
broken-off s x F table limits told d used raised header from now after page h front = record {
  most = h.most;
  so_far = h.so_far;
  first = h.so_far.course.entries;
  others = [];
  entries = sym (append-nil h.so_far.course.entries);
  lines = h.lines;
  lists = h.lists;
  raised_is = h.raised_is;
  front = front;
}

-- what comes of a drawing that was broken off
module _ (cost : ℕ → ℕ) (s : Spec) (x : Fraction) (F : ℕ) (table : (level node : ℕ) → Bounds) (limits : Limits) (t : TapeMet) (chosen : Chosen s F table) (d : DrawingState) (used raised : ℕ) (header : List ℕ) (b a : Option (List ℕ)) (fb fa tb ta : ℕ) (h : IsBroken s x F table limits (bits_of_source t.source t.contents) d used raised header b a) (reads : CountsFault (has_failed d.ending) t.source t.before t.now) (few : ta ≤ tb + cost raised) where
  broken-begun : ends.IsBegun (Drawn cost header s x F table limits t) (output b a fb fa tb ta) Status.OutOfMemory
  broken-begun = record {
    text = header ++ h.lines;
    ticks = cost (level_for h.most);
    is = drawn.so_far h.so_far.course h.most h.first h.others h.lines (course-of s x F table limits t chosen d used h.most h.so_far reads) h.entries h.lists (record { status_is = refl; text_is = refl; ticks_are = refl });
    front = h.front;
    few = subst (λ n. ta ≤ tb + cost n) h.raised_is few;
  }

  pub ends-stopped : (broken : Stop) (result : Status) → result ≡ stop_status broken → (broken ≡ stop.WriteFault → Rose fb fa) → EndsBy (Drawn cost header s x F table limits t) (output b a fb fa tb ta) result
  ends-stopped stop.OutOfMemory result is rose = ends.out_of_memory is broken-begun
  ends-stopped stop.WriteFault result is rose = ends.write_failed Status.OutOfMemory is (rose refl) broken-begun

-- nothing was drawn, for want of memory
pub no-drawing : (cost : ℕ → ℕ) (s : Spec) (x : Fraction) (F : ℕ) (table : (level node : ℕ) → Bounds) (limits : Limits) (t : TapeMet) (header : List ℕ) (o : Option (List ℕ)) (fb fa ticks : ℕ) → EndsBy (Drawn cost header s x F table limits t) (output o o fb fa ticks ticks) Status.OutOfMemory
no-drawing cost s x F table limits t header o fb fa ticks = ends.out_of_memory refl (record { text = []; ticks = 0; is = drawn.no_memory (record { status_is = refl; text_is = refl; ticks_are = refl }); front = no_front o []; few = omega arith })

module _ (cost : ℕ → ℕ) (s : Spec) (x : Fraction) (F : ℕ) (table : (level node : ℕ) → Bounds) (limits : Limits) (t : TapeMet) (chosen : Chosen s F table) (d : DrawingState) (used raised : ℕ) (header : List ℕ) (b m : Option (List ℕ)) (page : List ℕ) (e : Told) (over : IsUnderWay s x F table limits (bits_of_source t.source t.contents) d used raised header b m page) (end : IsAtEnd table limits d e) (laws : EndLaws) (sound : IsSound s) (are : AreLimits limits) (reads : CountsFault (has_failed d.ending) t.source t.before t.now) (fb fm : ℕ) (writes : fb ≤ fm) (tb ta : ℕ) (few : ta ≤ tb + cost raised) (closing : List ℕ) (is_closing : closing ≡ closing_text table over.so_far.course (ending_of e)) where
  -- the steps are those that these bits ask for
  few-given : ta ≤ tb + cost (level_for over.most)
  few-given = subst (λ n. ta ≤ tb + cost n) over.raised_is few

  whole-text : over.held_is.sent ++ (page ++ closing) ≡ header ++ (over.lines ++ closing_text table over.so_far.course (ending_of e))
  whole-text =
      sym (append-twice over.held_is.sent page closing)
      ∙ ap (λ z. z ++ closing) (sym over.held_is.text_is)
      ∙ append-twice header over.lines closing
      ∙ ap (λ z. header ++ (over.lines ++ z)) is_closing
    where
      append-twice : (xs ys zs : List ℕ) → (xs ++ ys) ++ zs ≡ xs ++ (ys ++ zs)
      append-twice xs ys zs = append_assoc xs ys zs

  -- the whole drawing, with this status
  is-drawn : (status : Status) (text : List ℕ) → status ≡ ending_status (ending_of e) → text ≡ page ++ closing → Drawn cost header s x F table limits t status (over.held_is.sent ++ text) (cost (level_for over.most))
  is-drawn status text answered same = drawn.ended over.so_far.course over.most (ending_of e) over.lines (drawn-at-end s x F table limits t chosen d used over.most over.so_far laws sound are reads e end) over.lists (record { status_is = answered; text_is = ap (λ z. over.held_is.sent ++ z) same ∙ whole-text; ticks_are = refl })

  -- what was drawn, of which no closing was made
  is-so-far : (status : Status) → status ≡ Status.OutOfMemory → Drawn cost header s x F table limits t status (header ++ over.lines) (cost (level_for over.most))
  is-so-far status lacks = drawn.so_far over.so_far.course over.most over.so_far.course.entries [] over.lines (course-of s x F table limits t chosen d used over.most over.so_far reads) (sym (append-nil over.so_far.course.entries)) over.lists (record { status_is = lacks; text_is = refl; ticks_are = refl })

  text-so-far : (a : Option (List ℕ)) (text : List ℕ) → text ≡ [] → AppendsFront m a text → AppendsFront b a (header ++ over.lines)
  text-so-far a text empty front = subst (AppendsFront b a) (sym over.held_is.text_is) (front-more b a over.held_is.sent page (subst (AppendsFront b a) (append-nil over.held_is.sent) (front-both b m a over.held_is.sent [] over.held_is.appends (subst (AppendsFront m a) empty front))))

  begun : (a : Option (List ℕ)) (fa none : ℕ) (status : Status) → ends.IsBegun (MaySay (ending_status (ending_of e)) (page ++ closing) 0) (output m a fm fa 0 0) status → ends.IsBegun (Drawn cost header s x F table limits t) (output b a fb fa tb ta) status
  begun a fa none status h = go h.text h.ticks h.is h.front
    where
      go : (text : List ℕ) (ticks : ℕ) → MaySay (ending_status (ending_of e)) (page ++ closing) 0 status text ticks → AppendsFront m a text → ends.IsBegun (Drawn cost header s x F table limits t) (output b a fb fa tb ta) status
      go text ticks (outcomes.says says) front = record { text = over.held_is.sent ++ text; ticks = cost (level_for over.most); is = is-drawn status text says.status_is says.text_is; front = front-both b m a over.held_is.sent text over.held_is.appends front; few = few-given }
      go text ticks (outcomes.no_memory says) front = record { text = header ++ over.lines; ticks = cost (level_for over.most); is = is-so-far status says.status_is; front = text-so-far a text says.text_is front; few = few-given }

  -- the drawing ends with what is held back and its closing
  pub ends-drawn : (a : Option (List ℕ)) (fa : ℕ) (result : Status) → EndsBy (MaySay (ending_status (ending_of e)) (page ++ closing) 0) (output m a fm fa 0 0) result → EndsBy (Drawn cost header s x F table limits t) (output b a fb fa tb ta) result
  ends-drawn a fa result (ends.whole h) = go h.text h.ticks h.is h.appends
    where
      go : (text : List ℕ) (ticks : ℕ) → MaySay (ending_status (ending_of e)) (page ++ closing) 0 result text ticks → Appends m a text → EndsBy (Drawn cost header s x F table limits t) (output b a fb fa tb ta) result
      go text ticks (outcomes.says says) appends = ends.whole (record { text = over.held_is.sent ++ text; ticks = cost (level_for over.most); is = is-drawn result text says.status_is says.text_is; appends = appends-both b m a over.held_is.sent text over.held_is.appends appends; few = few-given })
      go text ticks (outcomes.no_memory says) appends = ends.out_of_memory says.status_is (record { text = header ++ over.lines; ticks = cost (level_for over.most); is = is-so-far Status.OutOfMemory refl; front = text-so-far a text says.text_is (front-whole m a text appends); few = few-given })
  ends-drawn a fa result (ends.out_of_memory is h) = ends.out_of_memory is (begun a fa 0 Status.OutOfMemory h)
  ends-drawn a fa result (ends.write_failed status is rose h) = ends.write_failed status is (let r = rose in omega (arith, writes, r)) (begun a fa 0 status h)
