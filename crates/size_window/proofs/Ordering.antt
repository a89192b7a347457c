-- The entries of a course are in order.
use Rattle.std.proofs.Common.{◌≡◌, ◌≢◌, ℕ, zero, suc, ◌+◌, ◌-◌, ◌≤◌, arith, Bool, true, false, cond, List, [], ◌∷◌, ◌++◌, map, length, append-nil, length-append, refl, sym, ◌∙◌, ap, subst}
use Rattle.std.specs.Prelude.{Option, Some, None, nat_eq, nat_lt, option_to_list}
use Rattle.std.proofs.lemmas.Bool.{ltb-false}
use Rattle.std.proofs.lemmas.List.Sums.{sum_by-cons}
use Rattle.bz_model.specs.declared.cell.Cell.{Cell}
use Rattle.bz_model.specs.Spec.{Mode}
use Rattle.bz_model.specs.Cell.{spelled}
use Rattle.object_store.specs.Tokens.{size_of}
use Rattle.choice_draw.specs.Draw.{bit_of}
use Rattle.choice_draw.specs.LeastCell.{AreBetween}
use Rattle.labelling.specs.LabelsByBits.{Labelling, bits_in, labelling}
use Rattle.labelling.specs.Spelled.{AreSpelled, SpellsLabelling}
use Rattle.labelling.proofs.SpelledLabels.{labellings_spell, spelled-both}
use Rattle.labelling.proofs.DrawnAgain.{spelled-length}
use Rattle.shape_sampler.specs.Visit.{Attempt, Visited, visit}
use Rattle.size_window.specs.RunByBits.{Limits, Sampling, RunState, Turned, Course, Entry, Ending, quiet, with_attempt, at_place, added, thrown_away, entry_made, kept_or_waits, went, visited, shape_turn, counted_turn, label_turn, labelled_with, cut_short, turn_unless, fault_place, after, ended}
use Rattle.size_window.specs.InOrder.{IsNextEntry, AreInOrder, last_end, IsInOrder}
use Rattle.size_window.proofs.SpelledVisits.{AddsCells, SpellsVisit, visit-spells}
use Rattle.size_window.proofs.SizedVisits.{SizesVisit, visit-sizes}

-- cells spell as many bits as they have
bits-spelled : (cells : List Cell) → length (spelled cells) ≡ bits_in cells
bits-spelled [] = refl
bits-spelled (c ∷ cells) = spelled-length c cells ∙ ap (λ n. c.b + n) (bits-spelled cells) ∙ sym (sum_by-cons (λ b. b) c.b (map (λ (d : Cell). d.b) cells))

bits-both : (one two : List Cell) → bits_in (one ++ two) ≡ bits_in one + bits_in two
bits-both one two =
    sym (bits-spelled (one ++ two)) ∙ ap (λ bs. length bs) (spelled-both one two) ∙ length-append (spelled one) (spelled two)
    ∙ ap (λ n. n + length (spelled two)) (bits-spelled one) ∙ ap (λ n. bits_in one + n) (bits-spelled two)

-- the bits used after cells were drawn
used-more : (tape : ℕ → Option Bool) (start used : ℕ) (more : List Cell) → AreSpelled tape start more [] used → used ≡ start + bits_in more
used-more tape start used more h = h.up_to ∙ ap (λ n. start + n) (ap (λ bs. length bs) (append-nil (spelled more)) ∙ bits-spelled more)

-- The last number of entries; where there is none, a number.
abbrev last_number : (number : ℕ) → List Entry → ℕ
last_number number [] = number
last_number number (e ∷ es) = last_number e.number es

-- entries with one more at the end
order-more : (limits : Limits) (number place : ℕ) (es : List Entry) (e : Entry) → AreInOrder limits number place es → IsNextEntry limits (last_number number es) (last_end place es) e → AreInOrder limits number place (es ++ e ∷ [])
order-more limits number place [] e h k = (k, tt)
order-more limits number place (d ∷ es) e h k = (h.0, order-more limits d.number (d.place + bits_in d.cells) es e h.1 k)

last-end-more : (place : ℕ) (es : List Entry) (e : Entry) → last_end place (es ++ e ∷ []) ≡ e.place + bits_in e.cells
last-end-more place [] e = refl
last-end-more place (d ∷ es) e = last-end-more (d.place + bits_in d.cells) es e

last-number-more : (number : ℕ) (es : List Entry) (e : Entry) → last_number number (es ++ e ∷ []) ≡ e.number
last-number-more number [] e = refl
last-number-more number (d ∷ es) e = last-number-more d.number es e

module _ (s : Sampling) where
  -- The atoms of an attempt and the room left are the greatest size together.
  pub record Fits (a : Attempt) : Type 0 where
    pub same : size_of a.tokens + a.room ≡ s.limits.max

  -- What is under way fits, and a shape that awaits its labels is large enough.
  pub record KeepsSize (st : RunState) : Type 0 where
    pub pends : st.attempt.pending ≢ [] → Fits st.attempt
    pub waits : st.awaits ≡ true → Fits st.attempt × (s.limits.min ≤ size_of st.attempt.tokens)

  -- After a number and a place: the entry that a turn keeps is the next one, and the bits of the attempt under way begin after the last entry.
  abbrev KeptInOrder : (number place : ℕ) → RunState → Option Entry → Type 0
  KeptInOrder number place now None = (place + bits_in now.attempt.cells ≤ now.attempt.used) × (now.kept ≡ number)
  KeptInOrder number place now (Some e) = IsNextEntry s.limits number place e × (e.place + bits_in e.cells + bits_in now.attempt.cells ≤ now.attempt.used) × (now.kept ≡ suc number)

  record KeepsOrder (number place : ℕ) (t : Turned) : Type 0 where
    pub size : KeepsSize t.state
    pub order : KeptInOrder number place t.state t.entry

  at-rest : (st : RunState) → st.attempt.pending ≡ [] → st.awaits ≡ false → KeepsSize st
  at-rest st none awaits = record { pends = λ some. absurd (some none); waits = λ is. let no : ⊥ = cc in absurd no }

  under-way : (st : RunState) → st.awaits ≡ false → Fits st.attempt → KeepsSize st
  under-way st awaits h = record { pends = λ some. h; waits = λ is. let no : ⊥ = cc in absurd no }

  -- the entry of a state is the next one
  next-entry : (st : RunState) (labels : List ℕ) (cells : List Cell) (number place : ℕ) → st.kept ≡ number → Fits st.attempt → s.limits.min ≤ size_of st.attempt.tokens → place + bits_in (st.attempt.cells ++ cells) ≤ st.attempt.used → IsNextEntry s.limits number place (entry_made st labels cells)
  next-entry st labels cells number place kept fits least room = record {
    number_is = ap suc kept;
    begins = omega arith;
    size = refl;
    least = least;
    greatest = let f = fits.same in omega arith;
  }

  module _ (number place : ℕ) (st : RunState) (size : KeepsSize st) (kept : st.kept ≡ number) (placed : place + bits_in st.attempt.cells ≤ st.attempt.used) where
    -- the drawing ends, and its attempt stays
    stays : (ending : Ending) (later : ℕ) → KeepsSize (ended st ending later)
    stays ending later = record { pends = λ some. let h = size.pends some in record { same = h.same }; waits = λ is. let h = size.waits is in (record { same = h.0.same }, h.1) }

    stops : (ending : Ending) (later : ℕ) → st.attempt.used ≤ later → KeepsOrder number place (quiet (ended st ending later))
    stops ending later more = record { size = stays ending later; order = (omega arith, kept) }

    cut : (ending : Ending) (finished : List Cell) (later : ℕ) → st.attempt.used ≤ later → KeepsOrder number place (cut_short st ending finished later)
    cut ending finished later more = record { size = stays ending later; order = (omega arith, kept) }

    between : (later : ℕ) → AreBetween s.tape st.attempt.used later → st.attempt.used ≤ later
    between later h = let u = h.up_to in omega arith

    spelled-up : (later : ℕ) (cells : List Cell) (bits : List Bool) → AreSpelled s.tape st.attempt.used cells bits later → st.attempt.used ≤ later
    spelled-up later cells bits h = let u = h.up_to in omega arith

    -- after a labelling
    label-orders : st.awaits ≡ true → (l : Labelling) → SpellsLabelling s.tape st.attempt.used l → KeepsOrder number place (labelled_with st l)
    label-orders awaits (Labelling.Given labels cells later) h =
        let w = size.waits awaits in
        let used = used-more s.tape st.attempt.used later cells h in
        let all = bits-both st.attempt.cells cells in
        record {
          size = at-rest _ refl refl;
          order = (
            next-entry (at_place st later) labels cells number place kept (record { same = w.0.same }) w.1 (omega (arith, used, all)),
            (let z : later - bits_in (st.attempt.cells ++ cells) + bits_in (st.attempt.cells ++ cells) + 0 ≤ later = omega (arith, used, all) in z),
            ap suc kept,
          );
        }
    label-orders awaits (Labelling.Straddled m cell finished later) h = cut _ finished later (spelled-up later finished _ h.0)
    label-orders awaits (Labelling.Ended finished later) h = cut _ finished later (spelled-up later finished h.open_bits h.spelled_there)
    label-orders awaits (Labelling.Failed finished later) h = cut _ finished later (spelled-up later finished h.open_bits h.spelled_there)

    module _ (awaits : st.awaits ≡ false) where
      -- after a visit the bits of the attempt begin where they began
      still-placed : (a : Attempt) → AddsCells s.tape st.attempt a → place + bits_in a.cells ≤ a.used
      still-placed a h =
          let used = used-more s.tape st.attempt.used a.used h.more h.spelled_there in
          let all = ap bits_in h.cells ∙ bits-both st.attempt.cells h.more in
          omega (arith, used, all)

      thrown-orders : (a : Attempt) (finished : List Cell) → AddsCells s.tape st.attempt a → KeepsOrder number place (record { state = thrown_away (with_attempt st a); entry = None; cells = finished })
      thrown-orders a finished h = let p = still-placed a h in record { size = at-rest _ refl refl; order = ((let z : place + 0 ≤ a.used = omega arith in z), kept) }

      made-orders : (a : Attempt) (finished : List Cell) (mode : Mode) → AddsCells s.tape st.attempt a → Fits a → s.limits.min ≤ size_of a.tokens → KeepsOrder number place (kept_or_waits mode (with_attempt st a) finished)
      made-orders a finished Mode.Unlabelled h fits large =
          let p = still-placed a h in
          let none = ap bits_in (append-nil a.cells) in
          record {
            size = at-rest _ refl refl;
            order = (
              next-entry (with_attempt st a) [] [] number place kept fits large (omega (arith, p, none)),
              (let z : a.used - bits_in (a.cells ++ []) + bits_in (a.cells ++ []) + 0 ≤ a.used = omega (arith, p, none) in z),
              ap suc kept,
            );
          }
      made-orders a finished Mode.Labelled h fits large = record { size = record { pends = λ some. fits; waits = λ is. (fits, large) }; order = (still-placed a h, kept) }

      shape-orders : (a : Attempt) (finished : List Cell) (small : Bool) → nat_lt (size_of a.tokens) s.limits.min ≡ small → AddsCells s.tape st.attempt a → Fits a → KeepsOrder number place (cond small (record { state = thrown_away (with_attempt st a); entry = None; cells = finished }) (kept_or_waits s.chooser.spec.mode (with_attempt st a) finished))
      shape-orders a finished true is h fits = thrown-orders a finished h
      shape-orders a finished false is h fits = made-orders a finished s.chooser.spec.mode h fits (let k = ltb-false (size_of a.tokens) s.limits.min is in omega (arith, k))

      went-orders : (a : Attempt) (finished : List Cell) (pending : List ℕ) → AddsCells s.tape st.attempt a → Fits a → KeepsOrder number place (went s (with_attempt st a) pending finished)
      went-orders a finished [] h fits = shape-orders a finished (nat_lt (size_of a.tokens) s.limits.min) refl h fits
      went-orders a finished (e ∷ es) h fits = record { size = under-way _ awaits fits; order = (still-placed a h, kept) }

      visited-orders : (v : Visited) → SpellsVisit s.tape st.attempt v → SizesVisit st.attempt v → Fits st.attempt → KeepsOrder number place (visited s st v)
      visited-orders (Visited.Went a) h k fits = went-orders a (added st.attempt.cells a.cells) a.pending h (record { same = k.same ∙ fits.same })
      visited-orders (Visited.Over a) h k fits = thrown-orders a (added st.attempt.cells a.cells) h
      visited-orders (Visited.Straddled node cell) h k fits = stops _ (st.attempt.used + cell.b) (omega arith)
      visited-orders (Visited.Ended later) h k fits = stops _ later (between later h)
      visited-orders (Visited.Failed later) h k fits = stops _ later (between later h)

      turn-orders : (fault : Option ℕ) (pending : List ℕ) → st.attempt.pending ≡ pending → KeepsOrder number place (shape_turn s (bit_of s.tape fault) st pending)
      turn-orders fault [] is = record { size = under-way _ awaits (record { same = let z : 0 + s.limits.max ≡ s.limits.max = omega arith in z }); order = ((let z : place + 0 ≤ st.attempt.used = omega arith in z), kept) }
      turn-orders fault (e ∷ rest) is = visited-orders (visit s.chooser (bit_of s.tape fault) st.attempt) (visit-spells s.chooser s.tape fault st.attempt st.attempt.pending) (visit-sizes s.chooser (bit_of s.tape fault) st.attempt st.attempt.pending)
          (size.pends (λ none. let no : ⊥ = (let both : e ∷ rest ≡ [] = sym is ∙ none in cc) in absurd no))

    counted-orders : (fault : Option ℕ) (awaits : Bool) → st.awaits ≡ awaits → KeepsOrder number place (cond awaits (label_turn (bit_of s.tape fault) st) (shape_turn s (bit_of s.tape fault) st st.attempt.pending))
    counted-orders fault true is = label-orders is (labelling (bit_of s.tape fault) (size_of st.attempt.tokens) st.attempt.used) (labellings_spell s.tape fault (size_of st.attempt.tokens) st.attempt.used)
    counted-orders fault false is = turn-orders is fault st.attempt.pending refl

  -- a turn that is counted
  counted-on : (number place : ℕ) (st : RunState) (fault : Option ℕ) → KeepsSize st → st.kept ≡ number → place + bits_in st.attempt.cells ≤ st.attempt.used → KeepsOrder number place (counted_turn s (bit_of s.tape (fault_place st fault)) (record st { turns = suc st.turns }))
  counted-on number place st fault size kept placed = counted-orders number place (record st { turns = suc st.turns }) (record { pends = size.pends; waits = size.waits }) kept placed (fault_place st fault) st.awaits refl

  ends-or-counts : (number place : ℕ) (st : RunState) (fault : Option ℕ) (all limit : Bool) → KeepsSize st → st.kept ≡ number → place + bits_in st.attempt.cells ≤ st.attempt.used → KeepsOrder number place (cond all (quiet (ended st Ending.Done st.attempt.used)) (cond limit (quiet (ended st Ending.TurnLimit st.attempt.used)) (counted_turn s (bit_of s.tape (fault_place st fault)) (record st { turns = suc st.turns }))))
  ends-or-counts number place st fault true limit size kept placed = stops number place st size kept placed Ending.Done st.attempt.used (omega arith)
  ends-or-counts number place st fault false true size kept placed = stops number place st size kept placed Ending.TurnLimit st.attempt.used (omega arith)
  ends-or-counts number place st fault false false size kept placed = counted-on number place st fault size kept placed

  unless-orders : (number place : ℕ) (st : RunState) (fault : Option ℕ) (o : Option Ending) → KeepsSize st → st.kept ≡ number → place + bits_in st.attempt.cells ≤ st.attempt.used → KeepsOrder number place (turn_unless s fault st o)
  unless-orders number place st fault None size kept placed = ends-or-counts number place st fault (nat_eq st.kept s.limits.count) (nat_eq st.turns s.limits.turns) size kept placed
  unless-orders number place st fault (Some ending) size kept placed = record { size = size; order = (placed, kept) }

  -- What holds of a course.
  record OrderedCourse (k : Course) : Type 0 where
    pub size : KeepsSize k.state
    pub entries : AreInOrder s.limits 0 0 k.entries
    pub number : length k.entries ≡ k.state.kept
    pub last : k.state.kept ≡ last_number 0 k.entries
    pub placed : last_end 0 k.entries + bits_in k.state.attempt.cells ≤ k.state.attempt.used

  one-more : (entries : List Entry) (number place : ℕ) (t : Turned) (o : Option Entry) → t.entry ≡ o → AreInOrder s.limits 0 0 entries → length entries ≡ number → number ≡ last_number 0 entries → place ≡ last_end 0 entries → KeepsSize t.state → KeptInOrder number place t.state o → (all : List Cell) → OrderedCourse (record { state = t.state; entries = entries ++ option_to_list o; cells = all })
  one-more entries number place t None is h count last at size k all =
      let same : entries ++ [] ≡ entries = append-nil entries in
      record {
        size = size;
        entries = subst (AreInOrder s.limits 0 0) (sym same) h;
        number = ap (λ es. length es) same ∙ count ∙ sym k.1;
        last = k.1 ∙ last ∙ ap (last_number 0) (sym same);
        placed = subst (λ n. n + bits_in t.state.attempt.cells ≤ t.state.attempt.used) (at ∙ ap (last_end 0) (sym same)) k.0;
      }
  one-more entries number place t (Some e) is h count last at size k all =
      let next = subst (λ p. IsNextEntry s.limits (last_number 0 entries) p e) at (subst (λ n. IsNextEntry s.limits n place e) last k.0) in
      record {
        size = size;
        entries = order-more s.limits 0 0 entries e h next;
        number = let l = length-append entries (e ∷ []) in let kept = k.2 in let one : length (e ∷ []) ≡ 1 = refl in omega (arith, l, kept, count, one);
        last = k.2 ∙ sym k.0.number_is ∙ sym (last-number-more 0 entries e);
        placed = subst (λ n. n + bits_in t.state.attempt.cells ≤ t.state.attempt.used) (sym (last-end-more 0 entries e)) k.1;
      }

  course-ordered : (faults : ℕ → Option ℕ) (n : ℕ) → OrderedCourse (after s faults n)
  course-ordered faults zero = record { size = at-rest _ refl refl; entries = tt; number = refl; last = refl; placed = omega arith }
  course-ordered faults (suc n) =
      let c = after s faults n in
      let h = course-ordered faults n in
      let t = turn_unless s (faults n) c.state c.state.ending in
      let k = unless-orders c.state.kept (last_end 0 c.entries) c.state (faults n) c.state.ending h.size refl h.placed in
      one-more c.entries c.state.kept (last_end 0 c.entries) t t.entry refl h.entries h.number h.last refl k.size k.order (c.cells ++ t.cells)

  pub course-size : (faults : ℕ → Option ℕ) (n : ℕ) → KeepsSize (after s faults n).state
  course-size faults n = let h = course-ordered faults n in h.size

  pub course-in-order : (faults : ℕ → Option ℕ) (n : ℕ) → IsInOrder s.limits (after s faults n)
  course-in-order faults n = let h = course-ordered faults n in let p = h.placed in record { entries = h.entries; number = h.number; ends = omega arith }
