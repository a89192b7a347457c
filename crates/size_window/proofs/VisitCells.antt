-- What a visit leaves of an attempt: more cells after those before, and nodes of the specification pending.
use Rattle.std.proofs.Common.{◌≡◌, ℕ, zero, suc, ◌<◌, List, [], ◌∷◌, ◌++◌, length, Option, Some, None, refl, sym, ◌∙◌, ap, arith, append-nil}
use Rattle.std.specs.Prelude.{slice_get, slice_index, replicate}
use Rattle.bz_model.specs.declared.cell.Cell.{Cell}
use Rattle.bz_model.specs.Spec.{Node, node_at}
use Rattle.object_store.specs.Walk.{AllBelow}
use Rattle.class_system.specs.Sound.{IsSound}
use Rattle.class_system.specs.NodeOrder.{parts_of}
use Rattle.class_system.proofs.Soundness.{part_in_range, body_in_range}
use Rattle.choice_draw.specs.Decision.{Choice}
use Rattle.choice_draw.specs.Draw.{Bit, Draw, draw}
use Rattle.shape_sampler.specs.Visit.{Chooser, Attempt, Visited, node_visited, after_draw, union_answered, counted_answered, room_for, atom_visited}
use Rattle.size_window.specs.RunByBits.{added}

-- Cells after others are those added.
pub added-after : (before more : List Cell) → added before (before ++ more) ≡ more
added-after [] more = refl
added-after (c ∷ before) more = added-after before more

-- An attempt's cells are those before, and those added.
abbrev pub ExtendsCells : Attempt → Visited → Type 0
ExtendsCells a (Visited.Went b) = b.cells ≡ a.cells ++ added a.cells b.cells
ExtendsCells a (Visited.Over b) = b.cells ≡ a.cells ++ added a.cells b.cells
ExtendsCells a (Visited.Straddled node cell) = Unit {0}
ExtendsCells a (Visited.Ended place) = Unit {0}
ExtendsCells a (Visited.Failed place) = Unit {0}

-- Where cells begin with earlier cells, they are those, followed by the cells that were added to
-- them.
pub extended : (before more now : List Cell) → now ≡ before ++ more → now ≡ before ++ added before now
extended before more now e = e ∙ ap (λ m. before ++ m) (sym (ap (added before) e ∙ added-after before more))

same-cells : (before now : List Cell) → now ≡ before → now ≡ before ++ added before now
same-cells before now e = extended before [] now (e ∙ sym (append-nil before))

module _ (c : Chooser) (bit : ℕ → Bit) (a : Attempt) (e : ℕ) (rest : List ℕ) where
  atom-extends : (room : ℕ) → ExtendsCells a (atom_visited a rest room)
  atom-extends zero = same-cells a.cells a.cells refl
  atom-extends (suc room) = same-cells a.cells a.cells refl

  union-extends : (parts : List ℕ) (d : Draw Choice) → ExtendsCells a (after_draw e (union_answered a parts rest) d)
  union-extends parts (Draw.Decided (Choice.Take i) cell) = extended a.cells (cell ∷ []) (a.cells ++ cell ∷ []) refl
  union-extends parts (Draw.Decided Choice.Over cell) = extended a.cells (cell ∷ []) (a.cells ++ cell ∷ []) refl
  union-extends parts (Draw.Straddled cell) = tt
  union-extends parts (Draw.Ended place) = tt
  union-extends parts (Draw.Failed place) = tt

  counted-extends : (part : ℕ) (d : Draw Choice) → ExtendsCells a (after_draw e (counted_answered a part rest) d)
  counted-extends part (Draw.Decided (Choice.Take i) cell) = extended a.cells (cell ∷ []) (a.cells ++ cell ∷ []) refl
  counted-extends part (Draw.Decided Choice.Over cell) = extended a.cells (cell ∷ []) (a.cells ++ cell ∷ []) refl
  counted-extends part (Draw.Straddled cell) = tt
  counted-extends part (Draw.Ended place) = tt
  counted-extends part (Draw.Failed place) = tt

  pub node-extends : (node : Option Node) → ExtendsCells a (node_visited c bit a e rest node)
  node-extends None = same-cells a.cells a.cells refl
  node-extends (Some (Node.Empty word)) = same-cells a.cells a.cells refl
  node-extends (Some (Node.Atom word)) = atom-extends a.room
  node-extends (Some (Node.Class class)) = same-cells a.cells a.cells refl
  node-extends (Some (Node.Union parts)) = union-extends parts (draw (c.decide e a.room) bit a.used)
  node-extends (Some (Node.Product parts)) = same-cells a.cells a.cells refl
  node-extends (Some (Node.Seq part)) = counted-extends part (draw (c.decide e (room_for c part a.room)) bit a.used)
  node-extends (Some (Node.Set part)) = counted-extends part (draw (c.decide e (room_for c part a.room)) bit a.used)
  node-extends (Some (Node.Cyc part)) = counted-extends part (draw (c.decide e (room_for c part a.room)) bit a.used)

-- The nodes that are pending after a visit that went on are below a number.
abbrev pub PendsBelow : ℕ → Visited → Type 0
PendsBelow n (Visited.Went a) = AllBelow n a.pending
PendsBelow n (Visited.Over a) = Unit {0}
PendsBelow n (Visited.Straddled node cell) = Unit {0}
PendsBelow n (Visited.Ended place) = Unit {0}
PendsBelow n (Visited.Failed place) = Unit {0}

both-below : (n : ℕ) (es fs : List ℕ) → AllBelow n es → AllBelow n fs → AllBelow n (es ++ fs)
both-below n [] fs h k = k
both-below n (e ∷ es) fs h k = (h.0, both-below n es fs h.1 k)

each-below : (n : ℕ) (es : List ℕ) → ((i p : ℕ) → slice_get es i ≡ Some p → p < n) → AllBelow n es
each-below n [] h = tt
each-below n (e ∷ es) h = (h 0 e refl, each-below n es (λ i p at. h (suc i) p at))

repeated-below : (n part i : ℕ) → part < n → AllBelow n (replicate i part)
repeated-below n part zero h = tt
repeated-below n part (suc i) h = (h, repeated-below n part i h)

index-below : (n : ℕ) (es : List ℕ) (i : ℕ) → 0 < n → ((i p : ℕ) → slice_get es i ≡ Some p → p < n) → slice_index es i < n
index-below n [] i some h = some
index-below n (e ∷ es) zero some h = h 0 e refl
index-below n (e ∷ es) (suc i) some h = index-below n es i some (λ j p at. h (suc j) p at)

module _ (c : Chooser) (sound : IsSound c.spec) (bit : ℕ → Bit) (a : Attempt) (e : ℕ) (rest : List ℕ) (below : AllBelow (length c.spec.nodes) (e ∷ rest)) where
  some : 0 < length c.spec.nodes
  some = let h = below.0 in omega arith

  has-part : (node : Node) → node_at c.spec e ≡ Some node → (i p : ℕ) → slice_get (parts_of node) i ≡ Some p → p < length c.spec.nodes
  has-part node here i p at = part_in_range c.spec sound e p node here (record { place = i; is_there = at })

  union-pends : (parts : List ℕ) → node_at c.spec e ≡ Some (Node.Union parts) → (d : Draw Choice) → PendsBelow (length c.spec.nodes) (after_draw e (union_answered a parts rest) d)
  union-pends parts here (Draw.Decided (Choice.Take i) cell) = (index-below (length c.spec.nodes) parts i some (has-part (Node.Union parts) here), below.1)
  union-pends parts here (Draw.Decided Choice.Over cell) = tt
  union-pends parts here (Draw.Straddled cell) = tt
  union-pends parts here (Draw.Ended place) = tt
  union-pends parts here (Draw.Failed place) = tt

  counted-pends : (part : ℕ) → part < length c.spec.nodes → (d : Draw Choice) → PendsBelow (length c.spec.nodes) (after_draw e (counted_answered a part rest) d)
  counted-pends part h (Draw.Decided (Choice.Take i) cell) = both-below (length c.spec.nodes) (replicate i part) rest (repeated-below (length c.spec.nodes) part i h) below.1
  counted-pends part h (Draw.Decided Choice.Over cell) = tt
  counted-pends part h (Draw.Straddled cell) = tt
  counted-pends part h (Draw.Ended place) = tt
  counted-pends part h (Draw.Failed place) = tt

  atom-pends : (room : ℕ) → PendsBelow (length c.spec.nodes) (atom_visited a rest room)
  atom-pends zero = tt
  atom-pends (suc room) = below.1

  pub node-pends : (node : Node) → node_at c.spec e ≡ Some node → PendsBelow (length c.spec.nodes) (node_visited c bit a e rest (Some node))
  node-pends (Node.Empty word) here = below.1
  node-pends (Node.Atom word) here = atom-pends a.room
  node-pends (Node.Class class) here = (index-below (length c.spec.nodes) c.spec.bodies class some (λ i p at. body_in_range c.spec sound i p at), below.1)
  node-pends (Node.Union parts) here = union-pends parts here (draw (c.decide e a.room) bit a.used)
  node-pends (Node.Product parts) here = both-below (length c.spec.nodes) parts rest (each-below (length c.spec.nodes) parts (has-part (Node.Product parts) here)) below.1
  node-pends (Node.Seq part) here = counted-pends part (has-part (Node.Seq part) here 0 part refl) (draw (c.decide e (room_for c part a.room)) bit a.used)
  node-pends (Node.Set part) here = counted-pends part (has-part (Node.Set part) here 0 part refl) (draw (c.decide e (room_for c part a.room)) bit a.used)
  node-pends (Node.Cyc part) here = counted-pends part (has-part (Node.Cyc part) here 0 part refl) (draw (c.decide e (room_for c part a.room)) bit a.used)
