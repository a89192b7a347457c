-- The bits that a visit used are those that its cells spell.
use Rattle.std.proofs.Common.{◌≡◌, ℕ, zero, suc, ◌+◌, Bool, List, [], ◌∷◌, ◌++◌, append-nil, refl, sym, ◌∙◌, subst}
use Rattle.std.specs.Prelude.{Option, Some, None}
use Rattle.bz_model.specs.declared.cell.Cell.{Cell}
use Rattle.bz_model.specs.Spec.{Node, node_at}
use Rattle.bz_model.specs.Cell.{IsCell, bits_of}
use Rattle.bit_tape.specs.Given.{HasBits}
use Rattle.choice_draw.specs.Decision.{Choice}
use Rattle.choice_draw.specs.Draw.{Draw, bit_of, draw}
use Rattle.choice_draw.specs.LeastCell.{AreBetween, SpellsDraw}
use Rattle.choice_draw.proofs.SpelledDraws.{draws_spell}
use Rattle.labelling.specs.Spelled.{AreSpelled}
use Rattle.labelling.proofs.SpelledLabels.{spelled-none, spelled-one}
use Rattle.shape_sampler.specs.Visit.{Chooser, Attempt, Visited, visit_among, node_visited, after_draw, union_answered, counted_answered, room_for, atom_visited}

-- A visit added cells, which spell the bits that it used.
pub record AddsCells (tape : ℕ → Option Bool) (a now : Attempt) : Type 0 where
  pub more : List Cell
  pub cells : now.cells ≡ a.cells ++ more
  pub spelled_there : AreSpelled tape a.used more [] now.used

-- A number straddles: its cell's bits were used, of which there are 60.
pub record LeavesCell (tape : ℕ → Option Bool) (start : ℕ) (cell : Cell) : Type 0 where
  pub here : HasBits tape start (bits_of cell.b cell.k)
  pub all : cell.b ≡ 60

-- What a visit says of the tape's bits.
abbrev pub SpellsVisit : (tape : ℕ → Option Bool) → Attempt → Visited → Type 0
SpellsVisit tape a (Visited.Went now) = AddsCells tape a now
SpellsVisit tape a (Visited.Over now) = AddsCells tape a now
SpellsVisit tape a (Visited.Straddled node cell) = LeavesCell tape a.used cell
SpellsVisit tape a (Visited.Ended place) = AreBetween tape a.used place
SpellsVisit tape a (Visited.Failed place) = AreBetween tape a.used place

module _ (c : Chooser) (tape : ℕ → Option Bool) (fault : Option ℕ) (a : Attempt) where
  adds-none : (now : Attempt) → now.cells ≡ a.cells → now.used ≡ a.used → AddsCells tape a now
  adds-none now cells used = record { more = []; cells = cells ∙ sym (append-nil a.cells); spelled_there = subst (AreSpelled tape a.used [] []) (sym used) (spelled-none tape a.used) }

  adds-one : (cell : Cell) (now : Attempt) → now.cells ≡ a.cells ++ cell ∷ [] → now.used ≡ a.used + cell.b → HasBits tape a.used (bits_of cell.b cell.k) → IsCell cell.k cell.b → AddsCells tape a now
  adds-one cell now cells used here is_cell = record { more = cell ∷ []; cells = cells; spelled_there = subst (AreSpelled tape a.used (cell ∷ []) []) (sym used) (spelled-one tape a.used cell here is_cell) }

  module _ (e : ℕ) (rest : List ℕ) where
    atom-spells : (room : ℕ) → SpellsVisit tape a (atom_visited a rest room)
    atom-spells zero = adds-none _ refl refl
    atom-spells (suc room) = adds-none _ refl refl

    union-spells : (parts : List ℕ) (d : Draw Choice) → SpellsDraw tape a.used d → SpellsVisit tape a (after_draw e (union_answered a parts rest) d)
    union-spells parts (Draw.Decided (Choice.Take i) cell) h = adds-one cell _ refl refl h.0 h.1
    union-spells parts (Draw.Decided Choice.Over cell) h = adds-one cell _ refl refl h.0 h.1
    union-spells parts (Draw.Straddled cell) h = record { here = h.0; all = h.2 }
    union-spells parts (Draw.Ended place) h = h
    union-spells parts (Draw.Failed place) h = h

    counted-spells : (part : ℕ) (d : Draw Choice) → SpellsDraw tape a.used d → SpellsVisit tape a (after_draw e (counted_answered a part rest) d)
    counted-spells part (Draw.Decided (Choice.Take i) cell) h = adds-one cell _ refl refl h.0 h.1
    counted-spells part (Draw.Decided Choice.Over cell) h = adds-one cell _ refl refl h.0 h.1
    counted-spells part (Draw.Straddled cell) h = record { here = h.0; all = h.2 }
    counted-spells part (Draw.Ended place) h = h
    counted-spells part (Draw.Failed place) h = h

    node-spells : (node : Option Node) → SpellsVisit tape a (node_visited c (bit_of tape fault) a e rest node)
    node-spells None = adds-none _ refl refl
    node-spells (Some (Node.Empty word)) = adds-none _ refl refl
    node-spells (Some (Node.Atom word)) = atom-spells a.room
    node-spells (Some (Node.Class class)) = adds-none _ refl refl
    node-spells (Some (Node.Union parts)) = union-spells parts (draw (c.decide e a.room) (bit_of tape fault) a.used) (draws_spell (c.decide e a.room) tape fault a.used)
    node-spells (Some (Node.Product parts)) = adds-none _ refl refl
    node-spells (Some (Node.Seq part)) = counted-spells part (draw (c.decide e (room_for c part a.room)) (bit_of tape fault) a.used) (draws_spell (c.decide e (room_for c part a.room)) tape fault a.used)
    node-spells (Some (Node.Set part)) = counted-spells part (draw (c.decide e (room_for c part a.room)) (bit_of tape fault) a.used) (draws_spell (c.decide e (room_for c part a.room)) tape fault a.used)
    node-spells (Some (Node.Cyc part)) = counted-spells part (draw (c.decide e (room_for c part a.room)) (bit_of tape fault) a.used) (draws_spell (c.decide e (room_for c part a.room)) tape fault a.used)

  pub visit-spells : (pending : List ℕ) → SpellsVisit tape a (visit_among c (bit_of tape fault) a pending)
  visit-spells [] = adds-none a refl refl
  visit-spells (e ∷ rest) = node-spells e rest (node_at c.spec e)
