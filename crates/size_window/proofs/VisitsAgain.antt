-- A visit is made again from the bits of the cells that it added, wherever a tape has them.
use Rattle.std.proofs.Common.{◌≡◌, ℕ, zero, suc, ◌+◌, arith, Bool, List, [], ◌∷◌, ◌++◌, length, append-nil, refl, sym, ◌∙◌, ap, subst}
use Rattle.std.specs.Prelude.{Option, Some, None}
use Rattle.bz_model.specs.declared.cell.Cell.{Cell}
use Rattle.bz_model.specs.Spec.{Node, node_at}
use Rattle.bz_model.specs.Cell.{spelled}
use Rattle.bit_tape.specs.Given.{HasBits}
use Rattle.choice_draw.specs.Decision.{Choice}
use Rattle.choice_draw.specs.Draw.{Draw, bit_of, draw}
use Rattle.labelling.proofs.DrawnAgain.{drawn-again, first-cell, spelled-length}
use Rattle.shape_sampler.specs.Visit.{Chooser, Attempt, Visited, visit_among, node_visited, after_draw, union_answered, counted_answered, room_for, atom_visited}

-- The attempt, with so many bits used.
abbrev pub at_used : Attempt → (used : ℕ) → Attempt
at_used a used = record a { used = used }

-- The attempt b comes of a by a visit that added these cells; over any tape that has their bits it comes so again.
pub record ComesAgain (c : Chooser) (pending : List ℕ) (a b : Attempt) : Type 0 where
  pub more : List Cell
  pub cells : b.cells ≡ a.cells ++ more
  pub again : (other : ℕ → Option Bool) (place : ℕ) → HasBits other place (spelled more) → visit_among c (bit_of other None) (at_used a place) pending ≡ Visited.Went (at_used b (place + length (spelled more)))

went-is : (v b : Attempt) → Visited.Went v ≡ Visited.Went b → v ≡ b
went-is v b is = cc

module _ (c : Chooser) (tape : ℕ → Option Bool) (fault : Option ℕ) (a : Attempt) (e : ℕ) (rest : List ℕ) where
  -- by a visit that draws nothing
  by-none : (seen : Option Node) (b : Attempt) → b.cells ≡ a.cells → ((other : ℕ → Option Bool) (place : ℕ) → node_visited c (bit_of other None) (at_used a place) e rest seen ≡ Visited.Went (at_used b place)) → node_at c.spec e ≡ seen → ComesAgain c (e ∷ rest) a b
  by-none seen b cells same at = record {
    more = [];
    cells = cells ∙ sym (append-nil a.cells);
    again = λ other place have. ap (node_visited c (bit_of other None) (at_used a place) e rest) at ∙ same other place ∙ ap (λ n. Visited.Went (at_used b n)) (let z : place ≡ place + 0 = omega arith in z);
  }

  -- by one that draws a cell
  by-cell : (seen : Option Node) (decide : Cell → Option Choice) (answered : Attempt → Choice → Cell → Visited) (choice : Choice) (cell : Cell) (b : Attempt)
      → ((other : ℕ → Option Bool) (place : ℕ) → node_visited c (bit_of other None) (at_used a place) e rest seen ≡ after_draw e (answered (at_used a place)) (draw decide (bit_of other None) place))
      → draw decide (bit_of tape fault) a.used ≡ Draw.Decided choice cell → b.cells ≡ a.cells ++ cell ∷ [] → ((place : ℕ) → answered (at_used a place) choice cell ≡ Visited.Went (at_used b (place + cell.b))) → node_at c.spec e ≡ seen → ComesAgain c (e ∷ rest) a b
  by-cell seen decide answered choice cell b draws drew cells means at = record {
    more = cell ∷ [];
    cells = cells;
    again = λ other place have.
        ap (node_visited c (bit_of other None) (at_used a place) e rest) at
        ∙ draws other place
        ∙ ap (after_draw e (answered (at_used a place))) (drawn-again decide tape fault a.used choice cell drew other place (first-cell other place cell [] have))
        ∙ means place
        ∙ ap (λ n. Visited.Went (at_used b (place + n))) (let l = spelled-length cell [] in let z : cell.b ≡ length (spelled (cell ∷ [])) = omega (arith, l) in z);
  }

  by-union : (parts : List ℕ) (b : Attempt) → node_at c.spec e ≡ Some (Node.Union parts) → (d : Draw Choice) → draw (c.decide e a.room) (bit_of tape fault) a.used ≡ d → after_draw e (union_answered a parts rest) d ≡ Visited.Went b → ComesAgain c (e ∷ rest) a b
  by-union parts b at (Draw.Decided (Choice.Take i) cell) drew is =
      subst (ComesAgain c (e ∷ rest) a) (went-is _ b is) (by-cell (Some (Node.Union parts)) (c.decide e a.room) (λ q. union_answered q parts rest) (Choice.Take i) cell _ (λ other place. refl) drew refl (λ place. refl) at)
  by-union parts b at (Draw.Decided Choice.Over cell) drew is = let no : ⊥ = cc in absurd no
  by-union parts b at (Draw.Straddled cell) drew is = let no : ⊥ = cc in absurd no
  by-union parts b at (Draw.Ended place) drew is = let no : ⊥ = cc in absurd no
  by-union parts b at (Draw.Failed place) drew is = let no : ⊥ = cc in absurd no

  by-count : (seen : Option Node) (part : ℕ) (b : Attempt) → ((other : ℕ → Option Bool) (place : ℕ) → node_visited c (bit_of other None) (at_used a place) e rest seen ≡ after_draw e (counted_answered (at_used a place) part rest) (draw (c.decide e (room_for c part a.room)) (bit_of other None) place)) → node_at c.spec e ≡ seen → (d : Draw Choice) → draw (c.decide e (room_for c part a.room)) (bit_of tape fault) a.used ≡ d → after_draw e (counted_answered a part rest) d ≡ Visited.Went b → ComesAgain c (e ∷ rest) a b
  by-count seen part b draws at (Draw.Decided (Choice.Take i) cell) drew is =
      subst (ComesAgain c (e ∷ rest) a) (went-is _ b is) (by-cell seen (c.decide e (room_for c part a.room)) (λ q. counted_answered q part rest) (Choice.Take i) cell _ draws drew refl (λ place. refl) at)
  by-count seen part b draws at (Draw.Decided Choice.Over cell) drew is = let no : ⊥ = cc in absurd no
  by-count seen part b draws at (Draw.Straddled cell) drew is = let no : ⊥ = cc in absurd no
  by-count seen part b draws at (Draw.Ended place) drew is = let no : ⊥ = cc in absurd no
  by-count seen part b draws at (Draw.Failed place) drew is = let no : ⊥ = cc in absurd no

  by-atom : (word : List ℕ) (b : Attempt) → node_at c.spec e ≡ Some (Node.Atom word) → (room : ℕ) → a.room ≡ room → atom_visited a rest room ≡ Visited.Went b → ComesAgain c (e ∷ rest) a b
  by-atom word b at zero left is = let no : ⊥ = cc in absurd no
  by-atom word b at (suc room) left is = subst (ComesAgain c (e ∷ rest) a) (went-is _ b is) (by-none (Some (Node.Atom word)) _ refl (λ other place. ap (atom_visited (at_used a place) rest) left) at)

  by-node : (b : Attempt) (seen : Option Node) → node_at c.spec e ≡ seen → node_visited c (bit_of tape fault) a e rest seen ≡ Visited.Went b → ComesAgain c (e ∷ rest) a b
  by-node b None at is = subst (ComesAgain c (e ∷ rest) a) (went-is _ b is) (by-none None _ refl (λ other place. refl) at)
  by-node b (Some (Node.Empty word)) at is = subst (ComesAgain c (e ∷ rest) a) (went-is _ b is) (by-none (Some (Node.Empty word)) _ refl (λ other place. refl) at)
  by-node b (Some (Node.Atom word)) at is = by-atom word b at a.room refl is
  by-node b (Some (Node.Class class)) at is = subst (ComesAgain c (e ∷ rest) a) (went-is _ b is) (by-none (Some (Node.Class class)) _ refl (λ other place. refl) at)
  by-node b (Some (Node.Union parts)) at is = by-union parts b at (draw (c.decide e a.room) (bit_of tape fault) a.used) refl is
  by-node b (Some (Node.Product parts)) at is = subst (ComesAgain c (e ∷ rest) a) (went-is _ b is) (by-none (Some (Node.Product parts)) _ refl (λ other place. refl) at)
  by-node b (Some (Node.Seq part)) at is = by-count (Some (Node.Seq part)) part b (λ other place. refl) at (draw (c.decide e (room_for c part a.room)) (bit_of tape fault) a.used) refl is
  by-node b (Some (Node.Set part)) at is = by-count (Some (Node.Set part)) part b (λ other place. refl) at (draw (c.decide e (room_for c part a.room)) (bit_of tape fault) a.used) refl is
  by-node b (Some (Node.Cyc part)) at is = by-count (Some (Node.Cyc part)) part b (λ other place. refl) at (draw (c.decide e (room_for c part a.room)) (bit_of tape fault) a.used) refl is

  pub visit-again : (b : Attempt) → visit_among c (bit_of tape fault) a (e ∷ rest) ≡ Visited.Went b → ComesAgain c (e ∷ rest) a b
  visit-again b is = by-node b (node_at c.spec e) refl is
