-- Each entry of a course is made again from the bits that its own cells spell.
use Rattle.std.proofs.Common.{◌≡◌, ◌≢◌, ℕ, zero, suc, ◌+◌, arith, Bool, true, false, cond, List, [], ◌∷◌, ◌++◌, length, append-nil, length-append, refl, sym, ◌∙◌, ap, subst}
use Rattle.std.specs.Prelude.{Option, Some, None, nat_eq, nat_lt, slice_get, option_to_list}
use Rattle.bz_model.specs.declared.cell.Cell.{Cell}
use Rattle.bz_model.specs.Spec.{Mode}
use Rattle.bz_model.specs.Cell.{spelled}
use Rattle.bit_tape.specs.Given.{HasBits}
use Rattle.bit_tape.proofs.GivenBits.{has_bits-first, has_bits-more}
use Rattle.object_store.specs.Tokens.{size_of}
use Rattle.choice_draw.specs.Draw.{bit_of}
use Rattle.labelling.specs.LabelsByBits.{Labelling, labelling}
use Rattle.labelling.proofs.SpelledLabels.{spelled-both}
use Rattle.labelling.proofs.DrawnAgain.{labels_are_drawn_again}
use Rattle.shape_sampler.specs.Visit.{Attempt, Visited, visit, visit_among, begun}
use Rattle.size_window.specs.RunByBits.{Sampling, RunState, Turned, Course, Entry, Ending, quiet, with_attempt, at_place, added, thrown_away, entry_made, kept_or_waits, went, visited, shape_turn, counted_turn, label_turn, labelled_with, cut_short, turn_unless, fault_place, after, ended}
use Rattle.size_window.specs.Redrawn.{visits, visited_next, HasLabelsAgain, IsRedrawn, IsRedrawnAlone, AreRedrawn}
use Rattle.size_window.proofs.Going.{all-more}
use Rattle.size_window.proofs.VisitsAgain.{at_used, ComesAgain, visit-again}

-- bits of a list, alone
has-shifted : (bits : ℕ → Option Bool) (other : ℕ → Option Bool) (place at : ℕ) (more : List Bool) → ((n : ℕ) → bits (place + n) ≡ other (at + n)) → HasBits other at more → HasBits bits place more
has-shifted bits other place at [] same have = tt
has-shifted bits other place at (b ∷ more) same have = (
  (let z : place ≡ place + 0 = omega arith in ap bits z) ∙ same 0 ∙ (let y : at + 0 ≡ at = omega arith in ap other y) ∙ have.0,
  has-shifted bits other (suc place) (suc at) more (λ n. (let z : suc place + n ≡ place + suc n = omega arith in ap bits z) ∙ same (suc n) ∙ (let y : at + suc n ≡ suc at + n = omega arith in ap other y)) have.1,
)

-- A list of bits, taken as a tape, has these bits from its first place on.
pub has-own : (bits : List Bool) → HasBits (slice_get bits) 0 bits
has-own [] = tt
has-own (b ∷ bits) = (refl, has-shifted (slice_get (b ∷ bits)) (slice_get bits) 1 0 bits (λ n. (let z : 1 + n ≡ suc n = omega arith in ap (slice_get (b ∷ bits)) z) ∙ (let y : n ≡ 0 + n = omega arith in ap (slice_get bits) y)) (has-own bits))

module _ (s : Sampling) where
  -- An attempt comes of visits from its beginning, wherever a tape has the bits of its cells.
  record Comes (a : Attempt) : Type 0 where
    pub by : (bits : ℕ → Option Bool) (start : ℕ) → HasBits bits start (spelled a.cells) → (n : ℕ) × (visits s.chooser (bit_of bits None) n (begun s.chooser.spec s.limits.max start) ≡ Visited.Went (at_used a (start + length (spelled a.cells))))

  comes-first : (used : ℕ) → Comes (begun s.chooser.spec s.limits.max used)
  comes-first used = record { by = λ bits start have. (0, ap (λ n. Visited.Went (begun s.chooser.spec s.limits.max n)) (let z : start ≡ start + 0 = omega arith in z)) }

  comes-on : (a b : Attempt) (e : ℕ) (rest : List ℕ) → a.pending ≡ e ∷ rest → Comes a → ComesAgain s.chooser (e ∷ rest) a b → Comes b
  comes-on a b e rest pending h again = record { by = by }
    where
      both : spelled b.cells ≡ spelled a.cells ++ spelled again.more
      both = ap spelled again.cells ∙ spelled-both a.cells again.more

      by : (bits : ℕ → Option Bool) (start : ℕ) → HasBits bits start (spelled b.cells) → (n : ℕ) × (visits s.chooser (bit_of bits None) n (begun s.chooser.spec s.limits.max start) ≡ Visited.Went (at_used b (start + length (spelled b.cells))))
      by bits start have =
          let all : HasBits bits start (spelled a.cells ++ spelled again.more) = subst (HasBits bits start) both have in
          let first = h.by bits start (has_bits-first bits start (spelled a.cells) (spelled again.more) all) in
          let middle : ℕ = start + length (spelled a.cells) in
          let next = again.again bits middle (has_bits-more bits start (spelled a.cells) (spelled again.more) all) in
          let count : middle + length (spelled again.more) ≡ start + length (spelled b.cells) = (let l = length-append (spelled a.cells) (spelled again.more) in let z : start + length (spelled a.cells) + length (spelled again.more) ≡ start + length (spelled a.cells ++ spelled again.more) = omega (arith, l) in z) ∙ ap (λ bs. start + length bs) (sym both) in (
            suc first.0,
            ap (visited_next s.chooser (bit_of bits None)) first.1
                ∙ ap (visit_among s.chooser (bit_of bits None) (at_used a middle)) pending
                ∙ next
                ∙ ap (λ n. Visited.Went (at_used b n)) count,
          )

  -- What holds of a state: an attempt under way, and a made shape that awaits its labels, come of visits.
  record Keeps (st : RunState) : Type 0 where
    pub pends : st.attempt.pending ≢ [] → Comes st.attempt
    pub waits : st.awaits ≡ true → Comes st.attempt × (st.attempt.pending ≡ [])
    pub labelled : st.awaits ≡ true → s.chooser.spec.mode ≡ Mode.Labelled

  -- What holds of a turn: the same of its state, and its entry is made again.
  abbrev KeptAgain : Option Entry → Type 0
  KeptAgain None = Unit {0}
  KeptAgain (Some e) = IsRedrawn s.chooser s.limits.max e

  record KeepsTurn (t : Turned) : Type 0 where
    pub state : Keeps t.state
    pub entry : KeptAgain t.entry

  -- at rest nothing is under way
  at-rest : (st : RunState) → st.attempt.pending ≡ [] → st.awaits ≡ false → Keeps st
  at-rest st none awaits = record { pends = λ some. absurd (some none); waits = λ is. let no : ⊥ = cc in absurd no; labelled = λ is. let no : ⊥ = cc in absurd no }

  under-way : (st : RunState) → st.awaits ≡ false → Comes st.attempt → Keeps st
  under-way st awaits h = record { pends = λ some. h; waits = λ is. let no : ⊥ = cc in absurd no; labelled = λ is. let no : ⊥ = cc in absurd no }

  -- a made shape without labels is made again
  unlabelled-again : (st : RunState) → s.chooser.spec.mode ≡ Mode.Unlabelled → Comes st.attempt → st.attempt.pending ≡ [] → IsRedrawn s.chooser s.limits.max (entry_made st [] [])
  unlabelled-again st plain h none = λ bits start have.
      let no_more : st.attempt.cells ++ [] ≡ st.attempt.cells = append-nil st.attempt.cells in
      let made = h.by bits start (subst (λ cs. HasBits bits start (spelled cs)) no_more have) in
      record {
        number = made.0;
        made = at_used st.attempt (start + length (spelled st.attempt.cells));
        comes = made.1;
        rests = none;
        tokens = refl;
        size = refl;
        labels = subst (λ m. HasLabelsAgain m bits (at_used st.attempt (start + length (spelled st.attempt.cells))) (entry_made st [] []) (start + length (spelled (st.attempt.cells ++ [])))) (sym plain)
            (refl, no_more, ap (λ cs. start + length (spelled cs)) (sym no_more));
      }

  -- with labels, too
  labelled-again : (st : RunState) (fault : Option ℕ) (labels : List ℕ) (cells : List Cell) (place : ℕ) → s.chooser.spec.mode ≡ Mode.Labelled → Comes st.attempt → st.attempt.pending ≡ [] → labelling (bit_of s.tape fault) (size_of st.attempt.tokens) st.attempt.used ≡ Labelling.Given labels cells place → IsRedrawn s.chooser s.limits.max (entry_made (at_place st place) labels cells)
  labelled-again st fault labels cells place mode h none drew = λ bits start have.
      let both : spelled (st.attempt.cells ++ cells) ≡ spelled st.attempt.cells ++ spelled cells = spelled-both st.attempt.cells cells in
      let all : HasBits bits start (spelled st.attempt.cells ++ spelled cells) = subst (HasBits bits start) both have in
      let middle : ℕ = start + length (spelled st.attempt.cells) in
      let made = h.by bits start (has_bits-first bits start (spelled st.attempt.cells) (spelled cells) all) in
      let again = labels_are_drawn_again s.tape fault (size_of st.attempt.tokens) st.attempt.used labels cells place drew bits middle (has_bits-more bits start (spelled st.attempt.cells) (spelled cells) all) in
      let count : middle + length (spelled cells) ≡ start + length (spelled (st.attempt.cells ++ cells)) = (let l = length-append (spelled st.attempt.cells) (spelled cells) in let z : start + length (spelled st.attempt.cells) + length (spelled cells) ≡ start + length (spelled st.attempt.cells ++ spelled cells) = omega (arith, l) in z) ∙ ap (λ bs. start + length bs) (sym both) in
      record {
        number = made.0;
        made = at_used st.attempt middle;
        comes = made.1;
        rests = none;
        tokens = refl;
        size = refl;
        labels = subst (λ m. HasLabelsAgain m bits (at_used st.attempt middle) (entry_made (at_place st place) labels cells) (start + length (spelled (st.attempt.cells ++ cells)))) (sym mode)
            (record { more = cells; cells = refl; given = again ∙ ap (Labelling.Given labels cells) count });
      }

  module _ (st : RunState) (keeps : Keeps st) where
    -- the drawing ends, and its attempt stays
    stays : (ending : Ending) (place : ℕ) → Keeps (ended st ending place)
    stays ending place = record {
      pends = λ some. let h = keeps.pends some in record { by = h.by };
      waits = λ is. let h = keeps.waits is in (record { by = h.0.by }, h.1);
      labelled = keeps.labelled;
    }

    stops : (ending : Ending) (place : ℕ) → KeepsTurn (quiet (ended st ending place))
    stops ending place = record { state = stays ending place; entry = tt }

    cut : (ending : Ending) (finished : List Cell) (place : ℕ) → KeepsTurn (cut_short st ending finished place)
    cut ending finished place = record { state = stays ending place; entry = tt }

    -- after a labelling
    label-keeps : (fault : Option ℕ) → st.awaits ≡ true → (l : Labelling) → labelling (bit_of s.tape fault) (size_of st.attempt.tokens) st.attempt.used ≡ l → KeepsTurn (labelled_with st l)
    label-keeps fault awaits (Labelling.Given labels cells place) drew = let h = keeps.waits awaits in record { state = at-rest _ refl refl; entry = labelled-again st fault labels cells place (keeps.labelled awaits) h.0 h.1 drew }
    label-keeps fault awaits (Labelling.Straddled m cell finished place) drew = cut _ finished place
    label-keeps fault awaits (Labelling.Ended finished place) drew = cut _ finished place
    label-keeps fault awaits (Labelling.Failed finished place) drew = cut _ finished place

    module _ (awaits : st.awaits ≡ false) where
      made-keeps : (a : Attempt) (finished : List Cell) (mode : Mode) → s.chooser.spec.mode ≡ mode → Comes a → a.pending ≡ [] → KeepsTurn (kept_or_waits mode (with_attempt st a) finished)
      made-keeps a finished Mode.Unlabelled is h none = record { state = at-rest _ refl refl; entry = unlabelled-again (with_attempt st a) is h none }
      made-keeps a finished Mode.Labelled is h none = record { state = record { pends = λ some. h; waits = λ w. (h, none); labelled = λ w. is }; entry = tt }

      shape-keeps : (a : Attempt) (finished : List Cell) (small : Bool) → Comes a → a.pending ≡ [] → KeepsTurn (cond small (record { state = thrown_away (with_attempt st a); entry = None; cells = finished }) (kept_or_waits s.chooser.spec.mode (with_attempt st a) finished))
      shape-keeps a finished true h none = record { state = at-rest _ refl refl; entry = tt }
      shape-keeps a finished false h none = made-keeps a finished s.chooser.spec.mode refl h none

      went-keeps : (a : Attempt) (finished : List Cell) (pending : List ℕ) → a.pending ≡ pending → Comes a → KeepsTurn (went s (with_attempt st a) pending finished)
      went-keeps a finished [] is h = shape-keeps a finished (nat_lt (size_of a.tokens) s.limits.min) h is
      went-keeps a finished (e ∷ es) is h = record { state = under-way _ awaits h; entry = tt }

      visited-keeps : (v : Visited) → ((a : Attempt) → v ≡ Visited.Went a → Comes a) → KeepsTurn (visited s st v)
      visited-keeps (Visited.Went a) comes = went-keeps a (added st.attempt.cells a.cells) a.pending refl (comes a refl)
      visited-keeps (Visited.Over a) comes = record { state = at-rest _ refl refl; entry = tt }
      visited-keeps (Visited.Straddled node cell) comes = stops _ (st.attempt.used + cell.b)
      visited-keeps (Visited.Ended place) comes = stops _ place
      visited-keeps (Visited.Failed place) comes = stops _ place

      turn-keeps : (fault : Option ℕ) (pending : List ℕ) → st.attempt.pending ≡ pending → KeepsTurn (shape_turn s (bit_of s.tape fault) st pending)
      turn-keeps fault [] is = record { state = under-way _ awaits (comes-first st.attempt.used); entry = tt }
      turn-keeps fault (e ∷ rest) is = visited-keeps (visit s.chooser (bit_of s.tape fault) st.attempt) (λ a went_there.
          comes-on st.attempt a e rest is (keeps.pends (λ none. let no : ⊥ = (let both : e ∷ rest ≡ [] = sym is ∙ none in cc) in absurd no))
          (visit-again s.chooser s.tape fault st.attempt e rest a (ap (visit_among s.chooser (bit_of s.tape fault) st.attempt) (sym is) ∙ went_there)))

    counted-keeps : (fault : Option ℕ) (awaits : Bool) → st.awaits ≡ awaits → KeepsTurn (cond awaits (label_turn (bit_of s.tape fault) st) (shape_turn s (bit_of s.tape fault) st st.attempt.pending))
    counted-keeps fault true is = label-keeps fault is (labelling (bit_of s.tape fault) (size_of st.attempt.tokens) st.attempt.used) refl
    counted-keeps fault false is = turn-keeps is fault st.attempt.pending refl

  -- a turn that is counted
  counted-on : (st : RunState) (fault : Option ℕ) → Keeps st → KeepsTurn (counted_turn s (bit_of s.tape (fault_place st fault)) (record st { turns = suc st.turns }))
  counted-on st fault keeps = counted-keeps (record st { turns = suc st.turns }) (record { pends = keeps.pends; waits = keeps.waits; labelled = keeps.labelled }) (fault_place st fault) st.awaits refl

  ends-or-counts : (st : RunState) (fault : Option ℕ) (all limit : Bool) → Keeps st → KeepsTurn (cond all (quiet (ended st Ending.Done st.attempt.used)) (cond limit (quiet (ended st Ending.TurnLimit st.attempt.used)) (counted_turn s (bit_of s.tape (fault_place st fault)) (record st { turns = suc st.turns }))))
  ends-or-counts st fault true limit keeps = stops st keeps Ending.Done st.attempt.used
  ends-or-counts st fault false true keeps = stops st keeps Ending.TurnLimit st.attempt.used
  ends-or-counts st fault false false keeps = counted-on st fault keeps

  unless-keeps : (st : RunState) (fault : Option ℕ) (o : Option Ending) → Keeps st → KeepsTurn (turn_unless s fault st o)
  unless-keeps st fault None keeps = ends-or-counts st fault (nat_eq st.kept s.limits.count) (nat_eq st.turns s.limits.turns) keeps
  unless-keeps st fault (Some ending) keeps = record { state = keeps; entry = tt }

  -- A course keeps these.
  record KeepsCourse (k : Course) : Type 0 where
    pub state : Keeps k.state
    pub entries : AreRedrawn s.chooser s.limits.max k.entries

  alone : (e : Entry) → IsRedrawn s.chooser s.limits.max e → IsRedrawn s.chooser s.limits.max e × IsRedrawnAlone s.chooser s.limits.max e
  alone e h = (h, h (slice_get (spelled e.cells)) 0 (has-own (spelled e.cells)))

  entries-on : (entries : List Entry) (o : Option Entry) → AreRedrawn s.chooser s.limits.max entries → KeptAgain o → AreRedrawn s.chooser s.limits.max (entries ++ option_to_list o)
  entries-on entries None h k = subst (AreRedrawn s.chooser s.limits.max) (sym (append-nil entries)) h
  entries-on entries (Some e) h k = all-more (λ d. IsRedrawn s.chooser s.limits.max d × IsRedrawnAlone s.chooser s.limits.max d) entries e h (alone e k)

  course-keeps : (faults : ℕ → Option ℕ) (n : ℕ) → KeepsCourse (after s faults n)
  course-keeps faults zero = record { state = at-rest _ refl refl; entries = tt }
  course-keeps faults (suc n) =
      let h = course-keeps faults n in
      let k = unless-keeps (after s faults n).state (faults n) (after s faults n).state.ending h.state in
      record { state = k.state; entries = entries-on (after s faults n).entries _ h.entries k.entry }

  pub course-redrawn : (faults : ℕ → Option ℕ) (n : ℕ) → AreRedrawn s.chooser s.limits.max (after s faults n).entries
  course-redrawn faults n = let h = course-keeps faults n in h.entries
