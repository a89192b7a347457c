-- A visit takes off the room what it adds of atoms.
use Rattle.std.proofs.Common.{◌≡◌, ℕ, zero, suc, ◌+◌, arith, List, ◌∷◌, [], refl}
use Rattle.std.specs.Prelude.{Option, Some, None}
use Rattle.bz_model.specs.Spec.{Node, node_at}
use Rattle.choice_draw.specs.Decision.{Choice}
use Rattle.choice_draw.specs.Draw.{Bit, Draw, draw}
use Rattle.object_store.specs.declared.token.Token.TheVariants as token
use Rattle.object_store.specs.Tokens.{size_of}
use Rattle.object_store.proofs.Sizes.{size_of-push}
use Rattle.shape_sampler.specs.Visit.{Chooser, Attempt, Visited, visit_among, node_visited, after_draw, union_answered, counted_answered, room_for, atom_visited}

-- The atoms of an attempt and the room left are those of another together.
pub record KeepsRoom (a now : Attempt) : Type 0 where
  pub same : size_of now.tokens + now.room ≡ size_of a.tokens + a.room

-- What a visit that goes on leaves of them.
abbrev pub SizesVisit : Attempt → Visited → Type 0
SizesVisit a (Visited.Went now) = KeepsRoom a now
SizesVisit a _ = Unit {0}

module _ (c : Chooser) (bit : ℕ → Bit) (a : Attempt) (e : ℕ) (rest : List ℕ) where
  atom-sizes : (room : ℕ) → a.room ≡ room → SizesVisit a (atom_visited a rest room)
  atom-sizes zero is = tt
  atom-sizes (suc room) is = record { same = let one = size_of-push a.tokens token.Dot in omega (arith, one, is) }

  union-sizes : (parts : List ℕ) (d : Draw Choice) → SizesVisit a (after_draw e (union_answered a parts rest) d)
  union-sizes parts (Draw.Decided (Choice.Take i) cell) = record { same = let none = size_of-push a.tokens (token.Pick i) in omega (arith, none) }
  union-sizes parts (Draw.Decided Choice.Over cell) = tt
  union-sizes parts (Draw.Straddled cell) = tt
  union-sizes parts (Draw.Ended place) = tt
  union-sizes parts (Draw.Failed place) = tt

  counted-sizes : (part : ℕ) (d : Draw Choice) → SizesVisit a (after_draw e (counted_answered a part rest) d)
  counted-sizes part (Draw.Decided (Choice.Take i) cell) = record { same = let none = size_of-push a.tokens (token.Count i) in omega (arith, none) }
  counted-sizes part (Draw.Decided Choice.Over cell) = tt
  counted-sizes part (Draw.Straddled cell) = tt
  counted-sizes part (Draw.Ended place) = tt
  counted-sizes part (Draw.Failed place) = tt

  node-sizes : (node : Option Node) → SizesVisit a (node_visited c bit a e rest node)
  node-sizes None = record { same = refl }
  node-sizes (Some (Node.Empty word)) = record { same = let none = size_of-push a.tokens token.Unit in omega (arith, none) }
  node-sizes (Some (Node.Atom word)) = atom-sizes a.room refl
  node-sizes (Some (Node.Class class)) = record { same = refl }
  node-sizes (Some (Node.Union parts)) = union-sizes parts (draw (c.decide e a.room) bit a.used)
  node-sizes (Some (Node.Product parts)) = record { same = refl }
  node-sizes (Some (Node.Seq part)) = counted-sizes part (draw (c.decide e (room_for c part a.room)) bit a.used)
  node-sizes (Some (Node.Set part)) = counted-sizes part (draw (c.decide e (room_for c part a.room)) bit a.used)
  node-sizes (Some (Node.Cyc part)) = counted-sizes part (draw (c.decide e (room_for c part a.room)) bit a.used)

-- A visit that goes on leaves the sum of the atoms made and the room left as it was.
pub visit-sizes : (c : Chooser) (bit : ℕ → Bit) (a : Attempt) (pending : List ℕ) → SizesVisit a (visit_among c bit a pending)
visit-sizes c bit a [] = record { same = refl }
visit-sizes c bit a (e ∷ rest) = node-sizes c bit a e rest (node_at c.spec e)
