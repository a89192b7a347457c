-- Texts of small objects: as they are printed, as they are read, and which are canonical.
use Rattle.std.specs.Prelude.{◌≡◌, ℕ, zero, suc, ◌≤◌, ◌<◌, [], ◌∷◌, codes, Some, slice_index_or}
use Rattle.std.specs.Fmt.{digits}
use Rattle.std.proofs.Common.{refl, arith, lit≤, lit<, ◌∙◌, ap}
use Rattle.bz_model.specs.Object.{Object, none, more, Belongs, HasWithin}
use Rattle.bz_model.specs.Object.Object.{Dot, Pick, Tuple, SetOf, CycOf}
use Rattle.bz_model.specs.Labels.{AreOneTo}
use Rattle.bz_model.specs.ObjectText.{object_text, text_within, Arrangement, IsObjectText, IsCanonicalText, HasLabels}
use Rattle.bz_model.specs.Spec.{Mode}
use Rattle.bz_model.proofs.Rows.{two_class, tree, marked, leaf_tree, tree_of_four, marked_cycles, neutral_and_atom}
use Rattle.bz_model.proofs.Examples.{pair_of_two_class, leaf_belongs, tree_belongs}

text_of_pair : object_text two_class 2 neutral_and_atom pair_of_two_class [] ≡ codes "(0.E 1.Z)"
unfolding digits pair_of_two_class
text_of_pair = refl

text_of_tree : object_text tree 3 tree_of_four tree_belongs (3 ∷ 4 ∷ 1 ∷ 2 ∷ []) ≡ codes "(Z#3 {(Z#1 {(Z#2 {})}) (Z#4 {})})"
unfolding digits tree_belongs
text_of_tree = refl

-- as the parts stand in the shape, 4 comes before 1
standing_text_of_tree : text_within Arrangement.AsItStands tree 2 (Some 3) tree_of_four (3 ∷ 4 ∷ 1 ∷ 2 ∷ []) ≡ codes "(Z#3 {(Z#4 {}) (Z#1 {(Z#2 {})})})"
unfolding digits
standing_text_of_tree = refl

-- the cycle of three begins at the atom with label 1, and the cycle without a label comes first
text_of_marked : text_within Arrangement.Canonical marked 3 (Some 2) marked_cycles (2 ∷ 1 ∷ []) ≡ codes "{<1.mark> <0.Z#1 1.mark 0.Z#2>}"
unfolding digits
text_of_marked = refl

-- reading: a cycle that begins at the label 2 is a text, and not a canonical one

abbrev crossed : Object
crossed = SetOf (more (CycOf (more (Pick 0 Dot) (more (Pick 0 Dot) none))) none)

crossed_belongs : Belongs marked 2 crossed
crossed_belongs = (1, ((lit≤ tt, tt), (((lit≤ tt, tt), (tt, (tt, tt))), tt)))

crossed_text : IsObjectText marked 2 (codes "{<0.Z#2 0.Z#1>}") crossed (2 ∷ 1 ∷ [])
unfolding digits crossed_belongs
crossed_text = record { belongs = crossed_belongs; labelled = (refl, ((lit≤ tt, lit≤ tt), ((lit≤ tt, lit≤ tt), tt))); spelled = refl }

crossed_needs_height : HasWithin marked 0 (Some 2) crossed → ⊥
crossed_needs_height b = b.1.0.1.0

crossed_printed_by : (h : ℕ) → text_within Arrangement.Canonical marked (suc h) (Some 2) crossed (2 ∷ 1 ∷ []) ≡ codes "{<0.Z#1 0.Z#2>}"
unfolding digits
crossed_printed_by h = refl

not_canonical : IsCanonicalText marked 2 (codes "{<0.Z#2 0.Z#1>}") crossed (2 ∷ 1 ∷ []) → ⊥
not_canonical c = go c.read.belongs.0 c.read.belongs.1 c.printed
  where
    go : (h : ℕ) → HasWithin marked h (Some 2) crossed → codes "{<0.Z#2 0.Z#1>}" ≡ text_within Arrangement.Canonical marked h (Some 2) crossed (2 ∷ 1 ∷ []) → ⊥
    go zero b e = crossed_needs_height b
    go (suc h) b e =
        let f : ◌≡◌ {A = ℕ} 50 49 = ap (λ bytes. slice_index_or bytes 6 0) (e ∙ crossed_printed_by h) in
        absurd (omega arith)

-- the labels 1 and 1 are read, and are no labels 1 to 2
twice_one : AreOneTo 2 (1 ∷ 1 ∷ []) → ⊥
twice_one a = a.distinct.0.0 refl

-- the label 0 isn't read
no_label_0 : HasLabels Mode.Labelled Dot (0 ∷ []) → ⊥
no_label_0 h = let low : 1 ≤ 0 = h.1.0.0 in omega arith

-- a tree as it is read back: its parts in canonical order
abbrev read_back : Object
read_back = Tuple (more Dot (more (SetOf (more (Tuple (more Dot (more (SetOf (more leaf_tree none)) none))) (more leaf_tree none))) none))

read_back_belongs : Belongs tree 3 read_back
read_back_belongs = (2, (tt, (((lit≤ tt, tt), ((tt, (((lit≤ tt, tt), (leaf_belongs 0, tt)), tt)), (leaf_belongs 1, tt))), tt)))

read_back_text : IsCanonicalText tree 3 (codes "(Z#3 {(Z#1 {(Z#2 {})}) (Z#4 {})})") read_back (3 ∷ 1 ∷ 2 ∷ 4 ∷ [])
unfolding digits read_back_belongs
read_back_text = record {
  read = record { belongs = read_back_belongs; labelled = (refl, ((lit≤ tt, lit≤ tt), ((lit≤ tt, lit≤ tt), ((lit≤ tt, lit≤ tt), ((lit≤ tt, lit≤ tt), tt))))); spelled = refl };
  labels_used = record {
    count = refl;
    within = ((lit≤ tt, lit≤ tt), ((lit≤ tt, lit≤ tt), ((lit≤ tt, lit≤ tt), ((lit≤ tt, lit≤ tt), tt))));
    distinct = (((λ e. absurd (apart 1 3 e (lit< tt))), ((λ e. absurd (apart 2 3 e (lit< tt))), ((λ e. absurd (above 4 3 e (lit< tt))), tt))), (((λ e. absurd (above 2 1 e (lit< tt))), ((λ e. absurd (above 4 1 e (lit< tt))), tt)), (((λ e. absurd (above 4 2 e (lit< tt))), tt), (tt, tt))));
  };
  printed = refl;
}
  where
    apart : (a b : ℕ) → a ≡ b → a < b → ⊥
    apart a b e h = omega arith

    above : (a b : ℕ) → a ≡ b → b < a → ⊥
    above a b e h = omega arith
