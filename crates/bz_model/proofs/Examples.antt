-- The definitions at small objects: what a node has, measures, labels and cells, mostly by computation.
use Rattle.std.specs.Prelude.{◌≡◌, ℕ, zero, suc, ◌≤◌, ◌<◌, [], ◌∷◌, ◌*◌, ◌^◌, Some, Option}
use Rattle.std.proofs.Common.{refl, arith, lit≤, lit<}
use Rattle.bz_model.specs.Fraction.{whole}
use Rattle.bz_model.specs.Object.{Object, none, more, Belongs, HasWithin}
use Rattle.bz_model.specs.Object.Object.{Unit_, Dot, Pick, SeqOf}
use Rattle.bz_model.specs.Measures.{size, tree_nodes, weight, IsHeight}
use Rattle.bz_model.specs.WellFounded.{IsWellFounded}
use Rattle.bz_model.specs.Labels.{IdealLabels}
use Rattle.bz_model.specs.Cell.{IsInCell, spelled, bits_of_bytes}
use Rattle.bz_model.proofs.Rows.{one_bit, two_class, tree, ranged, nothing, leaf_tree, tree_of_four, marked_cycles, neutral_and_atom, half, quarter}

-- objects of a node

second_atom : Belongs one_bit 2 (Pick 1 Dot)
second_atom = (0, tt)

no_third_part : (h : ℕ) → HasWithin one_bit h (Some 2) (Pick 2 Dot) → ⊥
no_third_part zero b = b
no_third_part (suc h) b = b

no_bare_atom : (h : ℕ) → HasWithin one_bit h (Some 2) Dot → ⊥
no_bare_atom zero b = b
no_bare_atom (suc h) b = b

unfoldable pub pair_of_two_class : Belongs two_class 2 neutral_and_atom
pair_of_two_class = (1, (tt, (tt, tt)))

-- not with height 0, since both parts are references
not_without_reference : HasWithin two_class 0 (Some 2) neutral_and_atom → ⊥
not_without_reference b = b.0

pair_height : IsHeight two_class 2 neutral_and_atom 1
pair_height = record { within = (tt, (tt, tt)); least = none_less }
  where
    none_less : (j : ℕ) → j < 1 → ¬ (HasWithin two_class j (Some 2) neutral_and_atom)
    none_less zero h b = b.0
    none_less (suc j) h b = absurd (omega arith)

-- In T = Z * Set(T), the body of T has the root with no child with height at most h, for each h.
pub leaf_belongs : (h : ℕ) → HasWithin tree h (Some 3) leaf_tree
leaf_belongs zero = (tt, (((lit≤ tt, tt), tt), tt))
leaf_belongs (suc h) = (tt, (((lit≤ tt, tt), tt), tt))

unfoldable pub tree_belongs : Belongs tree 3 tree_of_four
tree_belongs = (2, (tt, (((lit≤ tt, tt), (leaf_belongs 1, ((tt, (((lit≤ tt, tt), (leaf_belongs 0, tt)), tt)), tt))), tt)))

-- ranges: two atoms are within >=2, one isn't; two aren't within <=1; three neutral ones are =3
two_atoms : Belongs ranged 1 (SeqOf (more Dot (more Dot none)))
two_atoms = (0, ((lit≤ tt, tt), (tt, (tt, tt))))

one_is_too_few : (h : ℕ) → HasWithin ranged h (Some 1) (SeqOf (more Dot none)) → ⊥
one_is_too_few zero b = let low : 2 ≤ 1 = b.0.0 in omega arith
one_is_too_few (suc h) b = let low : 2 ≤ 1 = b.0.0 in omega arith

two_are_too_many : (h : ℕ) → HasWithin ranged h (Some 3) (SeqOf (more Dot (more Dot none))) → ⊥
two_are_too_many zero b = let high : 2 ≤ 1 = b.0.1 in omega arith
two_are_too_many (suc h) b = let high : 2 ≤ 1 = b.0.1 in omega arith

three_neutral : Belongs ranged 5 (SeqOf (more Unit_ (more Unit_ (more Unit_ none))))
three_neutral = (0, ((lit≤ tt, lit≤ tt), (tt, (tt, (tt, tt)))))

-- C = C has no object, so it isn't well founded
nothing_there : (h : ℕ) (o : Object) → HasWithin nothing h (Some 0) o → ⊥
nothing_there zero o b = b
nothing_there (suc h) o b = nothing_there h o b

not_well_founded : IsWellFounded nothing → ⊥
not_well_founded w = let b = w.inhabited 0 0 refl in nothing_there b.1.0 b.0 b.1.1

-- measures

size_of_four : size tree_of_four ≡ 4
size_of_four = refl

nodes_of_four : tree_nodes tree_of_four ≡ 12
nodes_of_four = refl

-- (1/4)^4 / 2!
weight_of_four : ((weight quarter tree_of_four).num ≡ 1) × ((weight quarter tree_of_four).den ≡ 512)
weight_of_four = (refl, refl)

-- 1/2 * 1/2, and 1/3 for the cycle of three, and 1/2! for the set of two cycles
weight_of_marked : ((weight half marked_cycles).num ≡ 1) × ((weight half marked_cycles).den ≡ 24)
weight_of_marked = (refl, refl)

-- labels: the numbers of the cells 6/3, 0/1, 2/2 give 4 times 3/4, 3 times 0 and 2 times 1/2, rounded down

labels_of_four : IdealLabels 4 (record { num = 3; den = 4; positive = lit< tt } ∷ whole 0 ∷ half ∷ []) (4 ∷ 1 ∷ 3 ∷ 2 ∷ []) []
labels_of_four = (refl, (refl, (refl, (refl, refl))))

-- in the row, from the cells 2/2, 3/2, 0/1
labels_of_row : IdealLabels 4 (half ∷ record { num = 3; den = 4; positive = lit< tt } ∷ quarter ∷ []) (3 ∷ 4 ∷ 1 ∷ 2 ∷ []) []
labels_of_row = (refl, (refl, (refl, (refl, refl))))

one_label : IdealLabels 1 (half ∷ []) (1 ∷ []) (half ∷ [])
one_label = (refl, refl)

no_label : IdealLabels 0 (half ∷ []) [] (half ∷ [])
no_label = refl

not_in_order : IdealLabels 2 (half ∷ []) (1 ∷ 2 ∷ []) [] → ⊥
not_in_order h = let e : ◌≡◌ {A = Option ℕ} (Some 2) (Some 1) = h.0 in cc

-- cells and their bits

in_cell : IsInCell 3 2 (record { num = 3; den = 4; positive = lit< tt })
in_cell = record { from = lit≤ tt; to = lit< tt }

-- the end of a cell isn't in it
end_not_in_cell : IsInCell 0 1 half → ⊥
end_not_in_cell h = let high : 1 * 2 ^ 1 < 1 * 2 = h.to in absurd (omega arith)

not_in_cell : IsInCell 1 1 quarter → ⊥
not_in_cell h = let low : 1 * 4 ≤ 1 * 2 ^ 1 = h.from in absurd (omega arith)

row_bits : spelled (record { k = 62; b = 6 } ∷ record { k = 0; b = 1 } ∷ record { k = 6; b = 3 } ∷ record { k = 0; b = 1 } ∷ record { k = 2; b = 2 } ∷ record { k = 3; b = 2 } ∷ record { k = 0; b = 1 } ∷ []) ≡ bits_of_bytes (249 ∷ 150 ∷ [])
row_bits = refl
