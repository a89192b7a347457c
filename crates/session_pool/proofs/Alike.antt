-- Drawings of two pools: what makes them alike.
use Rattle.std.proofs.Common.{◌≡◌, ◌≢◌, ℕ, Bool, true, List, map, refl, sym, ◌∙◌, ap, subst}
use Rattle.std.specs.Prelude.{Option, Some, None, IsSome, is_some, option_map, slice_get}
use Rattle.std.proofs.lemmas.Option.{slice_get-map, same_Some}
use Rattle.bit_tape.specs.Tape.{TapeSource, bits_of_source}
use Rattle.shape_sampler.specs.Answer.{ChoosesBy}
use Rattle.shape_sampler.specs.Visit.{Chooser}
use Rattle.size_window.specs.declared.ending.Ending.{Ending as Told}
use Rattle.size_window.specs.declared.ending.Ending.TheVariants as told
use Rattle.size_window.specs.RunByBits as run
use Rattle.size_window.specs.RunByBits.{Limits, RunState, Course, after}
use Rattle.size_window.specs.Drawing.{ending_of}
use Rattle.size_window.specs.Trace.{atoms_in, IsTrace, CourseHasEnded, ToldTracesAreCourses, EndedTracesAreOne}
use Rattle.session_pool.specs.Member.{MemberState}
use Rattle.session_pool.specs.Pool.{sources_of}
use Rattle.session_pool.specs.Interleaving.{Shared, IsMemberAfter, AreAlikeWhere, how_often, AreAlikeMembers}

-- sources in one list of sources are the same
same-source : (sources : List TapeSource) (pool other : List MemberState) → sources_of pool ≡ sources → sources_of other ≡ sources → (number : ℕ) (m n : MemberState) → slice_get pool number ≡ Some m → slice_get other number ≡ Some n → m.tape.source ≡ n.tape.source
same-source sources pool other a b number m n at at_other =
    let source-of : MemberState → TapeSource = λ k. k.tape.source in
    let one : slice_get (map source-of pool) number ≡ Some m.tape.source = slice_get-map source-of pool number ∙ ap (option_map source-of) at in
    let two : slice_get (map source-of other) number ≡ Some n.tape.source = slice_get-map source-of other number ∙ ap (option_map source-of) at_other in
    same_Some m.tape.source n.tape.source (sym one ∙ (ap (λ ss. slice_get ss number) (a ∙ sym b) ∙ two))

-- where a course ended with a failed read, so did its drawing
failed-told : (o : Option Told) → option_map ending_of o ≡ Some run.Ending.ReadFault → o ≡ Some told.ReadFault
failed-told None e = absurd (cc)
failed-told (Some told.Done) e = absurd (cc)
failed-told (Some told.TapeEnded) e = absurd (cc)
failed-told (Some (told.Undecided straddle)) e = absurd (cc)
failed-told (Some told.TurnLimit) e = absurd (cc)
failed-told (Some told.ReadFault) e = refl

-- drawings with the same course are alike
alike-by : (w : Shared) (limits : Limits) (begun counts begun_then counts_then : List ℕ → ℕ) (turns others : ℕ) (m n : MemberState) (p : IsMemberAfter w limits begun counts turns m) (q : IsMemberAfter w limits begun_then counts_then others n) → p.course ≡ q.course → AreAlikeMembers m n
alike-by w limits begun counts begun_then counts_then turns others m n p q same = record {
  state = sym p.trace.state ∙ (ap (λ (c : Course). c.state) same ∙ q.trace.state);
  atoms = p.trace.atoms ∙ ap (λ (c : Course). atoms_in c.entries) same ∙ sym q.trace.atoms;
  entries = sym p.entries ∙ (ap (λ (c : Course). c.entries) same ∙ q.entries);
}

-- a drawing over a told tape that no failed read ended, with the trace of its course
record IsUndisturbed (w : Shared) (limits : Limits) (tape : ℕ → Option Bool) (turns : ℕ) (m : MemberState) (most : ℕ) (c : Course) : Type 0 where
  pub trace : IsTrace w.spec w.x w.F w.table limits (Some tape) turns most c
  pub never : c.state.ending ≢ Some run.Ending.ReadFault
  pub ending : c.state.ending ≡ option_map ending_of m.drawing.ending

undisturbed : (w : Shared) (limits : Limits) (begun counts : List ℕ → ℕ) (turns : ℕ) (m : MemberState) (p : IsMemberAfter w limits begun counts turns m) → m.drawing.ending ≢ Some told.ReadFault → (tape : ℕ → Option Bool) → bits_of_source m.tape.source w.contents ≡ Some tape → IsUndisturbed w limits tape turns m p.most p.course
undisturbed w limits begun counts turns m p never tape is =
    let ending : p.course.state.ending ≡ option_map ending_of m.drawing.ending = ap (λ (st : RunState). st.ending) p.trace.state in
    record {
      trace = subst (λ o. IsTrace w.spec w.x w.F w.table limits o turns p.most p.course) is p.trace.trace;
      never = λ failed. never (failed-told m.drawing.ending (sym ending ∙ failed));
      ending = ending;
    }

-- a drawing that ended has a course that ended
ended-some : (o : Option Told) → is_some o ≡ true → is_some (option_map ending_of o) ≡ true
ended-some None e = e
ended-some (Some ending) e = refl

has-ended : (w : Shared) (limits : Limits) (tape : ℕ → Option Bool) (turns : ℕ) (m : MemberState) (most : ℕ) (c : Course) → IsUndisturbed w limits tape turns m most c → IsSome m.drawing.ending → CourseHasEnded c
has-ended w limits tape turns m most c h some = record { ended = ap (λ (o : Option run.Ending). is_some o) h.ending ∙ ended-some m.drawing.ending some; undisturbed = h.never }

-- What makes the courses of two such drawings the same.
abbrev Suffices : ((times other_times : ℕ) → MemberState → MemberState → Type 0) → Type 0
Suffices Premise = (w : Shared) (limits : Limits) (tape : ℕ → Option Bool) (k : Chooser) → ChoosesBy w.spec w.F w.table k → (i j : ℕ) (m n : MemberState) (most other_most : ℕ) (c d : Course) → IsUndisturbed w limits tape i m most c → IsUndisturbed w limits tape j n other_most d → Premise i j m n → c ≡ d

alike-where : (Premise : (times other_times : ℕ) → MemberState → MemberState → Type 0) → Suffices Premise → AreAlikeWhere Premise
alike-where Premise suffices w limits sources c chooses begun counts turns pool p begun_then counts_then others other q number m n at at_other told never never_then premise = go (bits_of_source m.tape.source w.contents) refl told
  where
    go : (o : Option (ℕ → Option Bool)) → bits_of_source m.tape.source w.contents ≡ o → is_some o ≡ true → AreAlikeMembers m n
    go None is e = absurd (cc)
    go (Some tape) is e =
        let one = p.each number m at in
        let two = q.each number n at_other in
        let from = same-source sources pool other p.same_sources q.same_sources number m n at at_other in
        let is-other : bits_of_source n.tape.source w.contents ≡ Some tape = ap (λ s. bits_of_source s w.contents) (sym from) ∙ is in
        alike-by w limits begun counts begun_then counts_then (how_often number turns) (how_often number others) m n one two
        (suffices w limits tape c chooses (how_often number turns) (how_often number others) m n one.most two.most one.course two.course
        (undisturbed w limits begun counts (how_often number turns) m one never tape is)
        (undisturbed w limits begun_then counts_then (how_often number others) n two never_then tape is-other)
        premise)

-- If traces over told bits are courses, two drawings over such a tape named equally often, without
-- a failed read, are alike.
pub alike-named : ToldTracesAreCourses → AreAlikeWhere (λ i j m n. i ≡ j)
alike-named courses = alike-where (λ i j m n. i ≡ j) (λ w limits tape k by i j m n most other_most c d h g same.
    let one = courses w.spec w.x w.F w.table limits tape i most c h.trace h.never k by in
    let two = courses w.spec w.x w.F w.table limits tape j other_most d g.trace g.never k by in
    one.same ∙ ap (after (record { chooser = k; limits = limits; tape = tape }) (λ n. None)) same ∙ sym two.same)

-- If ended traces over told bits are one, two drawings over such a tape that ended, without a
-- failed read, are alike.
pub alike-ended : EndedTracesAreOne → AreAlikeWhere (λ i j m n. IsSome m.drawing.ending × IsSome n.drawing.ending)
alike-ended ended = alike-where (λ i j m n. IsSome m.drawing.ending × IsSome n.drawing.ending) (λ w limits tape k by i j m n most other_most c d h g both.
    (ended w.spec w.x w.F w.table limits tape k by i most c h.trace (has-ended w limits tape i m most c h both.0) j other_most d g.trace (has-ended w limits tape j n other_most d g both.1)).0)
