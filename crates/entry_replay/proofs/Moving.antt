-- What is made over one tape is made over every tape that has the bits of its cells.
use Rattle.std.proofs.Common.{◌≡◌, ℕ, zero, suc, ◌+◌, arith, Bool, List, [], ◌∷◌, ◌++◌, length, append-nil, length-append, refl, sym, ◌∙◌, ap, subst}
use Rattle.std.specs.Prelude.{Option, None}
use Rattle.bz_model.specs.declared.cell.Cell.{Cell}
use Rattle.bz_model.specs.Cell.{spelled}
use Rattle.bz_model.specs.Spec.{Mode}
use Rattle.bit_tape.specs.Given.{HasBits}
use Rattle.bit_tape.proofs.GivenBits.{has_bits-first, has_bits-more}
use Rattle.choice_draw.specs.Draw.{bit_of}
use Rattle.labelling.specs.LabelsByBits.{Labelling, labelling}
use Rattle.labelling.proofs.DrawnAgain.{labels_are_drawn_again}
use Rattle.labelling.proofs.SpelledLabels.{spelled-both}
use Rattle.object_store.specs.Tokens.{size_of}
use Rattle.shape_sampler.specs.Visit.{Chooser, Attempt, Visited, visit_among, begun}
use Rattle.size_window.specs.RunByBits.{Entry}
use Rattle.size_window.specs.Redrawn.{visits, visited_next, HasLabelsAgain, IsLabelledAgain, IsRedrawnAt}
use Rattle.size_window.proofs.VisitsAgain.{at_used, ComesAgain, visit-again}
use Rattle.entry_replay.specs.Replay.{IsMadeFrom, GetLabels}
use Rattle.entry_replay.proofs.Resting.{made-one}

went-is : (a b : Attempt) → Visited.Went a ≡ Visited.Went b → a ≡ b
went-is a b is = cc

-- the places after the bits of some cells, and of others after them
pub places : (start : ℕ) (own more : List Cell) (all : List Cell) → all ≡ own ++ more → start + length (spelled own) + length (spelled more) ≡ start + length (spelled all)
places start own more all is =
    let l = length-append (spelled own) (spelled more) in
    let z : start + length (spelled own) + length (spelled more) ≡ start + length (spelled own ++ spelled more) = omega (arith, l) in
    z ∙ ap (λ bs. start + length bs) (sym (ap spelled is ∙ spelled-both own more))

module _ (c : Chooser) (greatest : ℕ) where
  -- An attempt comes of visits from its beginning, wherever a tape has the bits of its cells.
  pub record Comes (a : Attempt) : Type 0 where
    pub by : (bits : ℕ → Option Bool) (start : ℕ) → HasBits bits start (spelled a.cells) → (n : ℕ) × (visits c (bit_of bits None) n (begun c.spec greatest start) ≡ Visited.Went (at_used a (start + length (spelled a.cells))))

  comes-first : (used : ℕ) → Comes (begun c.spec greatest used)
  comes-first used = record { by = λ bits start have. (0, ap (λ n. Visited.Went (begun c.spec greatest n)) (let z : start ≡ start + 0 = omega arith in z)) }

  comes-on : (a b : Attempt) (e : ℕ) (rest : List ℕ) → a.pending ≡ e ∷ rest → Comes a → ComesAgain c (e ∷ rest) a b → Comes b
  comes-on a b e rest pending h again = record { by = by }
    where
      both : spelled b.cells ≡ spelled a.cells ++ spelled again.more
      both = ap spelled again.cells ∙ spelled-both a.cells again.more

      by : (bits : ℕ → Option Bool) (start : ℕ) → HasBits bits start (spelled b.cells) → (n : ℕ) × (visits c (bit_of bits None) n (begun c.spec greatest start) ≡ Visited.Went (at_used b (start + length (spelled b.cells))))
      by bits start have =
          let all : HasBits bits start (spelled a.cells ++ spelled again.more) = subst (HasBits bits start) both have in
          let first = h.by bits start (has_bits-first bits start (spelled a.cells) (spelled again.more) all) in
          let middle : ℕ = start + length (spelled a.cells) in
          let next = again.again bits middle (has_bits-more bits start (spelled a.cells) (spelled again.more) all) in (
            suc first.0,
            ap (visited_next c (bit_of bits None)) first.1
                ∙ ap (visit_among c (bit_of bits None) (at_used a middle)) pending
                ∙ next
                ∙ ap (λ n. Visited.Went (at_used b n)) (places start a.cells again.more b.cells again.cells),
          )

  module _ (bits : ℕ → Option Bool) (start : ℕ) where
    among-comes : (b a : Attempt) (pending : List ℕ) → b.pending ≡ pending → Comes b → visit_among c (bit_of bits None) b pending ≡ Visited.Went a → Comes a
    among-comes b a [] none h is = subst Comes (went-is b a is) h
    among-comes b a (e ∷ rest) pending h is = comes-on b a e rest pending h (visit-again c bits None b e rest a is)

    next-comes : (v : Visited) (a : Attempt) → ((b : Attempt) → v ≡ Visited.Went b → Comes b) → visited_next c (bit_of bits None) v ≡ Visited.Went a → Comes a
    next-comes (Visited.Went b) a h is = among-comes b a b.pending refl (h b refl) is
    next-comes (Visited.Over b) a h is = let no : ⊥ = cc in absurd no
    next-comes (Visited.Straddled node cell) a h is = let no : ⊥ = cc in absurd no
    next-comes (Visited.Ended place) a h is = let no : ⊥ = cc in absurd no
    next-comes (Visited.Failed place) a h is = let no : ⊥ = cc in absurd no

    visits-come : (n : ℕ) (a : Attempt) → visits c (bit_of bits None) n (begun c.spec greatest start) ≡ Visited.Went a → Comes a
    visits-come zero a is = subst Comes (went-is (begun c.spec greatest start) a is) (comes-first start)
    visits-come (suc n) a is = next-comes (visits c (bit_of bits None) n (begun c.spec greatest start)) a (visits-come n) is

    -- an attempt that is made is made over every tape with its bits
    pub made-moves : (made : Attempt) → IsMadeFrom c greatest bits start made → (other : ℕ → Option Bool) (place : ℕ) → HasBits other place (spelled made.cells) → IsMadeFrom c greatest other place (at_used made (place + length (spelled made.cells)))
    made-moves made h other place have =
        let comes = visits-come h.number made h.comes in
        let again = comes.by other place have in
        record { number = again.0; comes = again.1; rests = h.rests }

    -- and used these bits
    pub made-used : (made : Attempt) → IsMadeFrom c greatest bits start made → HasBits bits start (spelled made.cells) → made.used ≡ start + length (spelled made.cells)
    made-used made h have = ap (λ (a : Attempt). a.used) (made-one c greatest bits start made (at_used made (start + length (spelled made.cells))) h (made-moves made h bits start have))

-- labels are drawn over every tape with the bits of their cells
pub get-moves : (mode : Mode) (bits : ℕ → Option Bool) (n at : ℕ) (labels : List ℕ) (more : List Cell) (end : ℕ) → GetLabels mode bits n at labels more end → (other : ℕ → Option Bool) (place : ℕ) → HasBits other place (spelled more) → GetLabels mode other n place labels more (place + length (spelled more))
get-moves Mode.Unlabelled bits n at labels more end h other place have = (h.0, h.1, ap (λ cs. place + length (spelled cs)) h.1 ∙ (let z : place + 0 ≡ place = omega arith in z))
get-moves Mode.Labelled bits n at labels more end h other place have = labels_are_drawn_again bits None n at labels more end h other place have

-- Labels, their cells and their end are these.
pub record SameLabels (labels others : List ℕ) (cells those : List Cell) (end there : ℕ) : Type 0 where
  pub labels_are : labels ≡ others
  pub cells_are : cells ≡ those
  pub end_is : end ≡ there

given-are : (labels others : List ℕ) (cells those : List Cell) (end there : ℕ) → Labelling.Given labels cells end ≡ Labelling.Given others those there → SameLabels labels others cells those end there
given-are labels others cells those end there is = record { labels_are = cc; cells_are = cc; end_is = cc }

-- labels are drawn in one way
pub get-one : (mode : Mode) (bits : ℕ → Option Bool) (n at : ℕ) (labels others : List ℕ) (cells those : List Cell) (end there : ℕ) → GetLabels mode bits n at labels cells end → GetLabels mode bits n at others those there → SameLabels labels others cells those end there
get-one Mode.Unlabelled bits n at labels others cells those end there h i = record { labels_are = h.0 ∙ sym i.0; cells_are = h.1 ∙ sym i.1; end_is = h.2 ∙ sym i.2 }
get-one Mode.Labelled bits n at labels others cells those end there h i = given-are labels others cells those end there (sym h ∙ i)

-- An entry is replayed: an attempt is made, and its atoms get the labels; the cells are those of both.
pub record IsReplayed (c : Chooser) (greatest : ℕ) (bits : ℕ → Option Bool) (start : ℕ) (e : Entry) : Type 0 where
  pub made : Attempt
  pub from : IsMadeFrom c greatest bits start made
  pub tokens : made.tokens ≡ e.tokens
  pub size : e.size ≡ size_of e.tokens
  pub more : List Cell
  pub cells : e.cells ≡ made.cells ++ more
  pub labels : GetLabels c.spec.mode bits (size_of made.tokens) made.used e.labels more (start + length (spelled e.cells))

module _ (c : Chooser) (greatest : ℕ) (bits : ℕ → Option Bool) (start : ℕ) (e : Entry) where
  from-labels : (mode : Mode) (made : Attempt) → IsMadeFrom c greatest bits start made → made.tokens ≡ e.tokens → e.size ≡ size_of e.tokens → c.spec.mode ≡ mode → HasLabelsAgain mode bits made e (start + length (spelled e.cells)) → IsReplayed c greatest bits start e
  from-labels Mode.Unlabelled made from tokens size is h = record {
    made = made;
    from = from;
    tokens = tokens;
    size = size;
    more = [];
    cells = h.1 ∙ sym (append-nil made.cells);
    labels = subst (λ m. GetLabels m bits (size_of made.tokens) made.used e.labels [] (start + length (spelled e.cells))) (sym is) (h.0, refl, sym h.2);
  }
  from-labels Mode.Labelled made from tokens size is h = record {
    made = made;
    from = from;
    tokens = tokens;
    size = size;
    more = h.more;
    cells = h.cells;
    labels = subst (λ m. GetLabels m bits (size_of made.tokens) made.used e.labels h.more (start + length (spelled e.cells))) (sym is) h.given;
  }

  -- an entry that is made again is replayed
  pub redrawn-replayed : IsRedrawnAt c greatest bits start e → IsReplayed c greatest bits start e
  redrawn-replayed h = from-labels c.spec.mode h.made (record { number = h.number; comes = h.comes; rests = h.rests }) h.tokens h.size refl h.labels

  to-labels : (mode : Mode) (made : Attempt) (more : List Cell) → e.cells ≡ made.cells ++ more → GetLabels mode bits (size_of made.tokens) made.used e.labels more (start + length (spelled e.cells)) → HasLabelsAgain mode bits made e (start + length (spelled e.cells))
  to-labels Mode.Unlabelled made more cells h = (h.0, cells ∙ ap (λ cs. made.cells ++ cs) h.1 ∙ append-nil made.cells, sym h.2)
  to-labels Mode.Labelled made more cells h = record { more = more; cells = cells; given = h }

  -- and the other way round
  pub replayed-redrawn : IsReplayed c greatest bits start e → IsRedrawnAt c greatest bits start e
  replayed-redrawn r = record {
    number = r.from.number;
    made = r.made;
    comes = r.from.comes;
    rests = r.from.rests;
    tokens = r.tokens;
    size = r.size;
    labels = to-labels c.spec.mode r.made r.more r.cells r.labels;
  }

  -- it is replayed over every tape with the bits of its cells
  pub replayed-moves : IsReplayed c greatest bits start e → (other : ℕ → Option Bool) (place : ℕ) → HasBits other place (spelled e.cells) → IsReplayed c greatest other place e
  replayed-moves r other place have =
      let both : HasBits other place (spelled r.made.cells ++ spelled r.more) = subst (HasBits other place) (ap spelled r.cells ∙ spelled-both r.made.cells r.more) have in
      let middle : ℕ = place + length (spelled r.made.cells) in
      record {
        made = at_used r.made middle;
        from = made-moves c greatest bits start r.made r.from other place (has_bits-first other place (spelled r.made.cells) (spelled r.more) both);
        tokens = r.tokens;
        size = r.size;
        more = r.more;
        cells = r.cells;
        labels = subst (GetLabels c.spec.mode other (size_of r.made.tokens) middle e.labels r.more) (places place r.made.cells r.more e.cells r.cells)
            (get-moves c.spec.mode bits (size_of r.made.tokens) r.made.used e.labels r.more (start + length (spelled e.cells)) r.labels other middle (has_bits-more other place (spelled r.made.cells) (spelled r.more) both));
      }
