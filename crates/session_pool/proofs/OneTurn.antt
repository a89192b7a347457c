-- A drawing of a pool after one turn more.
use Rattle.std.proofs.Common.{◌≡◌, ◌≢◌, ℕ, suc, ◌+◌, ◌-◌, ◌≤◌, max, arith, List, ◌++◌, refl, sym, ◌∙◌, ap, subst}
use Rattle.std.specs.Prelude.{Option, Some, None, IfSome, map, option_to_list}
use Rattle.std.proofs.lemmas.List.{map-append}
use Rattle.bit_tape.specs.Tape.{TapeSource, bits_of_source, HasFault}
use Rattle.size_window.specs.declared.ending.Ending.{Ending as Told}
use Rattle.size_window.specs.declared.ending.Ending.TheVariants as told
use Rattle.size_window.specs.declared.turned.Turned.{Turned as Answer}
use Rattle.size_window.specs.declared.turned.Turned.TheVariants as turned
use Rattle.size_window.specs.RunByBits.{Limits, followed_by}
use Rattle.size_window.specs.Drawing.{DrawingState}
use Rattle.size_window.specs.Turn.{told_entry, entry_of, kept_by, turns_by, turns_of, ending_by, node_bits}
use Rattle.size_window.specs.Trace.{HasTrace, TurnsContinueOf}
use Rattle.session_pool.specs.declared.pooled.Pooled.{Pooled}
use Rattle.session_pool.specs.Member.{MemberState}
use Rattle.session_pool.specs.Turn.{IsMemberTurn, AnswersRightly, kept_in}
use Rattle.session_pool.specs.Interleaving.{Shared, IsMemberAfter, WasAsked, EndedRightly}
use Rattle.session_pool.proofs.Failures.{fault-counted}

-- a read that failed in a while failed in every longer while
pub failed-within : (source : TapeSource) (first before now last : List ℕ → ℕ) → ((name : List ℕ) → first name ≤ before name) → ((name : List ℕ) → now name ≤ last name) → HasFault source before now → HasFault source first last
failed-within (TapeSource.Named name) first before now last earlier later rose = let e = earlier name in let l = later name in omega (arith, e, l, rose)
failed-within (TapeSource.Seeded seed) first before now last earlier later never = never

-- the entries that an answer tells
told-entries : (a : Answer) → option_to_list (told_entry a) ≡ map entry_of (kept_in a)
told-entries turned.Going = refl
told-entries (turned.Kept entry) = refl
told-entries (turned.Finished ending) = refl
told-entries turned.OutOfMemory = refl

at-most-one : (e : Told) → turns_of e ≤ 1
at-most-one told.Done = omega arith
at-most-one told.TapeEnded = omega arith
at-most-one (told.Undecided straddle) = omega arith
at-most-one told.TurnLimit = omega arith
at-most-one told.ReadFault = omega arith

-- a drawing that went on was asked for one turn more
asked-on : (n : ℕ) (d later : DrawingState) (a : Answer) → a ≢ turned.OutOfMemory → d.turns ≡ n → later.turns ≡ d.turns + turns_by None a → WasAsked (suc n) later (ending_by None a)
asked-on n d later turned.Going made at counted = omega (arith, at, counted)
asked-on n d later (turned.Kept entry) made at counted = omega (arith, at, counted)
asked-on n d later (turned.Finished ending) made at counted = let one = at-most-one ending in omega (arith, at, counted, one)
asked-on n d later turned.OutOfMemory made at counted = absurd (made refl)

-- one that had ended, too
asked-again : (n : ℕ) (d : DrawingState) (ending : Told) → WasAsked n d (Some ending) → WasAsked (suc n) d (Some ending)
asked-again n d ending asked = omega (arith, asked)

module _ (w : Shared) (limits : Limits) (begun before now : List ℕ → ℕ) (rose : (name : List ℕ) → begun name ≤ before name) (grew : (name : List ℕ) → before name ≤ now name) where
  -- what was right of an end stays right
  pub still-rightly : (source : TapeSource) (d : DrawingState) (ending : Told) → EndedRightly w limits source begun before d ending → EndedRightly w limits source begun now d ending
  still-rightly source d ending h = record {
    kept = h.kept;
    out_of_turns = h.out_of_turns;
    failed = λ e. failed-within source begun begun before now (λ name. omega arith) grew (h.failed e);
    left_open = h.left_open;
  }

  still-ended : (source : TapeSource) (d : DrawingState) (o : Option Told) → IfSome o (EndedRightly w limits source begun before d) → IfSome o (EndedRightly w limits source begun now d)
  still-ended source d None h = tt
  still-ended source d (Some ending) h = still-rightly source d ending h

  -- a drawing that makes no turn stands where it stood
  pub member-rests : (n : ℕ) (m : MemberState) → IsMemberAfter w limits begun before n m → IsMemberAfter w limits begun now n m
  member-rests n m h = record {
    most = h.most;
    course = h.course;
    trace = h.trace;
    entries = h.entries;
    asked = h.asked;
    ended = still-ended m.tape.source m.drawing m.drawing.ending h.ended;
  }

module _ (w : Shared) (limits : Limits) (begun before now : List ℕ → ℕ) (rose : (name : List ℕ) → begun name ≤ before name) (grew : (name : List ℕ) → before name ≤ now name) (m later : MemberState) (answer : Pooled) (h : IsMemberTurn w.spec w.x w.F w.table w.contents before now m answer later) (n : ℕ) (p : IsMemberAfter w limits begun before n m) (continues : TurnsContinueOf w.spec) where
  entries-now : p.course.entries ++ option_to_list h.turn.turned.entry ≡ map entry_of later.entries
  entries-now =
      let old : p.course.entries ++ option_to_list h.turn.turned.entry ≡ map entry_of m.entries ++ option_to_list h.turn.turned.entry = ap (λ es. es ++ option_to_list h.turn.turned.entry) p.entries in
      let kept : map entry_of m.entries ++ option_to_list h.turn.turned.entry ≡ map entry_of m.entries ++ map entry_of (kept_in h.told) = ap (λ o. map entry_of m.entries ++ option_to_list o) h.turn.entry ∙ ap (λ es. map entry_of m.entries ++ es) (told-entries h.told) in
      old ∙ (kept ∙ (sym (map-append entry_of m.entries (kept_in h.told)) ∙ ap (map entry_of) (sym h.entries)))

  asked-then : (o : Option Told) → m.drawing.ending ≡ o → WasAsked n m.drawing o → WasAsked (suc n) later.drawing later.drawing.ending
  asked-then None is asked = subst (WasAsked (suc n) later.drawing) (sym (h.counted.ending ∙ ap (λ o. ending_by o h.told) is)) (asked-on n m.drawing later.drawing h.told h.made asked (h.counted.turns ∙ ap (λ o. m.drawing.turns + turns_by o h.told) is))
  asked-then (Some ending) is asked =
      let (told-is, same) = subst (λ o. IfSome o (λ ending. (h.told ≡ turned.Finished ending) × (later ≡ m))) is h.again in
      subst (λ k. WasAsked (suc n) k.drawing k.drawing.ending) (sym same) (subst (WasAsked (suc n) m.drawing) (sym is) (asked-again n m.drawing ending asked))

  ended-on : (a : Answer) → AnswersRightly w.table m a → (a ≡ turned.Finished told.ReadFault → HasFault m.tape.source before now) → later.drawing.kept ≡ m.drawing.kept + kept_by a → later.drawing.turns ≡ m.drawing.turns + turns_by None a → IfSome (ending_by None a) (EndedRightly w limits m.tape.source begun now later.drawing)
  ended-on turned.Going rightly failed kept turns = tt
  ended-on (turned.Kept entry) rightly failed kept turns = tt
  ended-on turned.OutOfMemory rightly failed kept turns = tt
  ended-on (turned.Finished ending) rightly failed kept turns = record {
    kept = λ is. let all = rightly.done.0 (ap turned.Finished is) in let same = ap (λ (l : Limits). l.count) p.trace.within in omega (arith, all, same, kept);
    out_of_turns = λ is.
        let (fewer, last) = rightly.turn_limit.0 (ap turned.Finished is) in
        let none = ap turns_of is in
        let count = ap (λ (l : Limits). l.count) p.trace.within in
        let most = ap (λ (l : Limits). l.turns) p.trace.within in
        (λ e. fewer (omega (arith, e, kept, count)), omega (arith, last, none, most, turns));
    failed = λ is. failed-within m.tape.source begun before now now rose (λ name. omega arith) (failed (ap turned.Finished is));
    left_open = rightly.left_open;
  }

  ended-then : (o : Option Told) → m.drawing.ending ≡ o → IfSome o (EndedRightly w limits m.tape.source begun before m.drawing) → IfSome later.drawing.ending (EndedRightly w limits m.tape.source begun now later.drawing)
  ended-then None is old = subst (λ o. IfSome o (EndedRightly w limits m.tape.source begun now later.drawing)) (sym (h.counted.ending ∙ ap (λ o. ending_by o h.told) is)) (ended-on h.told (h.rightly is) (fault-counted m.tape.source before now m.drawing.ending h.told is h.faults) h.counted.kept (h.counted.turns ∙ ap (λ o. m.drawing.turns + turns_by o h.told) is))
  ended-then (Some ending) is old =
      let (told-is, same) = subst (λ o. IfSome o (λ ending. (h.told ≡ turned.Finished ending) × (later ≡ m))) is h.again in
      subst (λ k. IfSome k.drawing.ending (EndedRightly w limits m.tape.source begun now k.drawing)) (sym same) (subst (λ o. IfSome o (EndedRightly w limits m.tape.source begun now m.drawing)) (sym is) (still-rightly w limits begun before now rose grew m.tape.source m.drawing ending old))

  -- a drawing that makes a turn stands where one turn more leaves it alone
  pub member-turns : IsMemberAfter w limits begun now (suc n) later
  member-turns =
      let d = m.drawing in
      record {
        most = max p.most (node_bits d.waiting (later.tape.used - m.tape.used));
        course = followed_by p.course h.turn.turned;
        trace = subst (λ source. HasTrace w.spec w.x w.F w.table limits (bits_of_source source w.contents) (suc n) later.drawing later.tape.used (max p.most (node_bits d.waiting (later.tape.used - m.tape.used))) (followed_by p.course h.turn.turned)) (sym h.source)
            (continues w.x w.F w.table limits (bits_of_source m.tape.source w.contents) n d m.tape.used p.most p.course p.trace h.told later.drawing later.tape.used h.turn h.counted);
        entries = entries-now;
        asked = asked-then m.drawing.ending refl p.asked;
        ended = subst (λ source. IfSome later.drawing.ending (EndedRightly w limits source begun now later.drawing)) (sym h.source) (ended-then m.drawing.ending refl p.ended);
      }
