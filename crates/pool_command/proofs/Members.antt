-- A drawing of a pool with one turn more.
use Rattle.std.proofs.Common.{◌≡◌, ◌≢◌, ℕ, ◌+◌, ◌≤◌, max, arith, List, ◌++◌, append-nil, refl, sym, ◌∙◌, ap, subst}
use Rattle.std.specs.Prelude.{Bool, Option, Some, None, IfSome, map, option_to_list}
use Rattle.std.specs.List.{All}
use Rattle.std.proofs.lemmas.List.{map-append}
use Rattle.std.proofs.lemmas.List.Elements.{All-push}
use Rattle.bz_model.specs.Spec.{Mode}
use Rattle.bit_tape.specs.Tape.{TapeSource, CountsFault, bits_of_source}
use Rattle.class_system.specs.Sound.{IsSound}
use Rattle.size_window.specs.declared.ending.Ending.{Ending as Told}
use Rattle.size_window.specs.declared.ending.Ending.TheVariants as told
use Rattle.size_window.specs.declared.turned.Entry.{Entry}
use Rattle.size_window.specs.declared.turned.Turned.{Turned as Answer}
use Rattle.size_window.specs.declared.turned.Turned.TheVariants as answer
use Rattle.size_window.specs.RunByBits.{Limits}
use Rattle.size_window.specs.Trace.{TurnsContinue}
use Rattle.size_window.specs.Turn.{EntryHasLabels, IfKept, entry_of, told_entry, turns_by, turns_of, ending_by}
use Rattle.session_pool.specs.declared.pooled.Pooled.{Pooled}
use Rattle.session_pool.specs.Member.{MemberState, bits_to_nodes}
use Rattle.session_pool.specs.Turn.{IsMemberTurn, kept_in}
use Rattle.session_pool.specs.Interleaving.{Shared}
use Rattle.sample_command.specs.UnderWay.{IsCourseSoFar, has_failed}
use Rattle.sample_command.proofs.OneTurn.{TellsTurn, so-far-on, entries-on, same-fault}
use Rattle.pool_command.specs.UnderWay.{AreMoments, IsMemberUnderWay, CountsAsked, asked_until}

-- what an answer tells to be kept
kept-told : (a : Answer) → option_to_list (told_entry a) ≡ map entry_of (kept_in a)
kept-told answer.Going = refl
kept-told (answer.Kept e) = refl
kept-told (answer.Finished e) = refl
kept-told answer.OutOfMemory = refl

labels-on : (mode : Mode) (es : List Entry) (a : Answer) → All (EntryHasLabels mode) es → IfKept a (EntryHasLabels mode) → All (EntryHasLabels mode) (es ++ kept_in a)
labels-on mode es answer.Going all one = subst (All (EntryHasLabels mode)) (sym (append-nil es)) all
labels-on mode es (answer.Kept e) all one = All-push (EntryHasLabels mode) es e all one
labels-on mode es (answer.Finished e) all one = subst (All (EntryHasLabels mode)) (sym (append-nil es)) all
labels-on mode es answer.OutOfMemory all one = subst (All (EntryHasLabels mode)) (sym (append-nil es)) all

-- a turn after which the drawing goes on is counted
going-counts : (a : Answer) → a ≢ answer.OutOfMemory → ending_by None a ≡ None → turns_by None a ≡ 1
going-counts answer.Going made on = refl
going-counts (answer.Kept e) made on = refl
going-counts (answer.Finished e) made on = absurd (cc)
going-counts answer.OutOfMemory made on = absurd (made refl)

-- one that ends it was asked for once more than it had made turns
end-counts : (a : Answer) (e : Told) → ending_by None a ≡ Some e → turns_by None a ≡ turns_of e
end-counts answer.Going e is = absurd (cc)
end-counts (answer.Kept k) e is = absurd (cc)
end-counts (answer.Finished f) e is = let same : f ≡ e = cc in ap turns_of same
end-counts answer.OutOfMemory e is = absurd (cc)

few-turns : (e : Told) → turns_of e ≤ 1
few-turns told.Done = omega arith
few-turns told.TapeEnded = omega arith
few-turns (told.Undecided straddle) = omega arith
few-turns told.TurnLimit = omega arith
few-turns told.ReadFault = omega arith

-- a later moment is no earlier
pub moments-longer : (source : TapeSource) (failed : Bool) (begun counts later : List ℕ → ℕ) → ((name : List ℕ) → counts name ≤ later name) → AreMoments source failed begun counts → AreMoments source failed begun later
moments-longer source failed begun counts later grew p = record { before = p.before; now = p.now; since = p.since; until = λ name. let up = p.until name in let more = grew name in omega (arith, up, more); reads = p.reads }

-- A drawing under way stays so at later counts of failed reads, where no count is less than before.
pub member-longer : (w : Shared) (limits : Limits) (begun counts later : List ℕ → ℕ) (m : MemberState) (most : ℕ) → ((name : List ℕ) → counts name ≤ later name) → IsMemberUnderWay w limits begun counts m most → IsMemberUnderWay w limits begun later m most
member-longer w limits begun counts later m most grew p = record { so_far = p.so_far; entries = p.entries; labels = p.labels; moments = moments-longer m.tape.source (has_failed m.drawing.ending) begun counts later grew p.moments }

module _ (w : Shared) (before now : List ℕ → ℕ) (m later : MemberState) (pooled : Pooled) (h : IsMemberTurn w.spec w.x w.F w.table w.contents before now m pooled later) where
  -- how a turn of a drawing that goes on is counted
  pub counted-on : m.drawing.ending ≡ None → CountsAsked m.drawing.turns later.drawing.turns (asked_until later.drawing later.drawing.ending) later.drawing.ending
  counted-on going = go later.drawing.ending refl
    where
      turns-are : later.drawing.turns ≡ m.drawing.turns + turns_by None h.told
      turns-are = h.counted.turns ∙ ap (λ o. m.drawing.turns + turns_by o h.told) going

      ends-by : ending_by None h.told ≡ later.drawing.ending
      ends-by = sym (h.counted.ending ∙ ap (λ o. ending_by o h.told) going)

      go : (o : Option Told) → later.drawing.ending ≡ o → CountsAsked m.drawing.turns later.drawing.turns (asked_until later.drawing o) o
      go None is = turns-are ∙ ap (λ n. m.drawing.turns + n) (going-counts h.told h.made (ends-by ∙ is))
      go (Some e) is = let same = turns-are in let by = end-counts h.told e (ends-by ∙ is) in let one = few-turns e in omega (arith, same, by, one)

  module _ (limits : Limits) (most : ℕ) (law : TurnsContinue) (sound : IsSound w.spec) (begun : List ℕ → ℕ) (rose : (name : List ℕ) → begun name ≤ before name) (grew : (name : List ℕ) → before name ≤ now name) (p : IsMemberUnderWay w limits begun before m most) where
    tells : TellsTurn w.spec w.x w.F w.table limits (bits_of_source m.tape.source w.contents) m.drawing later.drawing m.tape.used later.tape.used h.told
    tells = record { law = law; sound = sound; within = p.so_far.drawing.within; turn = h.turn; counted = h.counted }

    abbrev later_most : ℕ
    later_most = max most (bits_to_nodes m later)

    abbrev on : IsCourseSoFar w.spec w.x w.F w.table limits (bits_of_source m.tape.source w.contents) later.drawing later.tape.used later_most
    on = so-far-on w.spec w.x w.F w.table limits (bits_of_source m.tape.source w.contents) m.drawing later.drawing m.tape.used later.tape.used h.told tells most p.so_far

    entries-are : on.course.entries ≡ map entry_of later.entries
    entries-are =
        entries-on w.spec w.x w.F w.table limits (bits_of_source m.tape.source w.contents) m.drawing later.drawing m.tape.used later.tape.used h.told tells most p.so_far
        ∙ ap (λ es. es ++ option_to_list (told_entry h.told)) p.entries
        ∙ ap (λ es. map entry_of m.entries ++ es) (kept-told h.told)
        ∙ sym (map-append entry_of m.entries (kept_in h.told))
        ∙ ap (map entry_of) (sym h.entries)

    labels-are : All (EntryHasLabels w.spec.mode) later.entries
    labels-are = subst (All (EntryHasLabels w.spec.mode)) (sym h.entries) (labels-on w.spec.mode m.entries h.told p.labels h.labels)

    -- the moments between which it met its tape
    moments-are : AreMoments later.tape.source (has_failed later.drawing.ending) begun now
    moments-are = go m.drawing.ending refl h.again
      where
        go : (o : Option Told) → m.drawing.ending ≡ o → IfSome o (λ ending. (h.told ≡ answer.Finished ending) × (later ≡ m)) → AreMoments later.tape.source (has_failed later.drawing.ending) begun now
        go (Some e) is again = subst (λ (k : MemberState). AreMoments k.tape.source (has_failed k.drawing.ending) begun now) (sym again.1) (moments-longer m.tape.source (has_failed m.drawing.ending) begun before now grew p.moments)
        go None is again = record {
          before = before;
          now = now;
          since = rose;
          until = λ name. omega arith;
          reads = subst (λ source. CountsFault (has_failed later.drawing.ending) source before now) (sym h.source) (subst (λ b. CountsFault b m.tape.source before now) (same-fault m.drawing.ending later.drawing.ending h.told is h.counted.ending) h.faults);
        }

    pub member-on : IsMemberUnderWay w limits begun now later later_most
    member-on =
        let moved = subst (λ source. (q : IsCourseSoFar w.spec w.x w.F w.table limits (bits_of_source source w.contents) later.drawing later.tape.used later_most) × (q.course.entries ≡ map entry_of later.entries)) (sym h.source) (on, entries-are) in
        record {
          so_far = moved.0;
          entries = moved.1;
          labels = labels-are;
          moments = moments-are;
        }
