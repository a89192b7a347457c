-- Texts put together piece by piece.
use Rattle.std.proofs.Common.{◌≡◌, ℕ, ◌+◌, ◌<◌, ◌≤◌, zero, suc, List, [], ◌∷◌, ◌++◌, map, take, length, get_or, refl, sym, ap, ◌∙◌, append_assoc, append-nil, arith, Some, slice_get}
use Rattle.std.specs.Prelude.{unwrap_or, flat_map}
use Rattle.std.proofs.lemmas.Grind.{flat_map-append}
use Rattle.std.proofs.lemmas.Option.{slice_get_read, slice_get_within}
use Rattle.bz_model.specs.Spec.{Spec}
use Rattle.class_system.specs.NodeResults.{ranged_nodes}
use Rattle.class_system.specs.Sound.{IsSound}
use Rattle.class_system.specs.CanonicalText.{Shown, shown_at, separated, single, all_shown, node_shown}
use Rattle.class_system.proofs.Results.{take-at, length-node_results, length-zip}
use Rattle.class_system.proofs.Depths.{map-append_one}

-- One text more comes after a separator.
separated-append_one : (by t : List ℕ) (ts : List (List ℕ)) (u : List ℕ) → separated by ((t ∷ ts) ++ u ∷ []) ≡ (separated by (t ∷ ts) ++ by) ++ u
separated-append_one by t [] u = refl
separated-append_one by t (s ∷ ss) u = ap (λ r. (t ++ by) ++ r) (separated-append_one by s ss u) ∙ simp append_assoc

-- The first part has no separator before it.
pub joined-first : (by : List ℕ) (f : ℕ → List ℕ) (parts : List ℕ) (i part : ℕ) (text mid piece after : List ℕ) → i ≤ 0 → slice_get parts i ≡ Some part → text ≡ separated by (map f (take i parts)) → mid ≡ text → piece ≡ f part → after ≡ mid ++ piece → after ≡ separated by (map f (take (i + 1) parts))
joined-first by f parts zero part text mid piece after none at is_text is_mid is_piece is_after =
    is_after ∙ rw (is_mid, is_text, is_piece) (sym (ap (λ ps. separated by (map f ps)) (take-at parts zero part at)))
joined-first by f parts (suc i) part text mid piece after none at is_text is_mid is_piece is_after = absurd (omega arith)

-- Each further part has a separator before it.
pub joined-next : (by : List ℕ) (f : ℕ → List ℕ) (parts : List ℕ) (i part : ℕ) (text mid piece after : List ℕ) → 0 < i → slice_get parts i ≡ Some part → text ≡ separated by (map f (take i parts)) → mid ≡ text ++ by → piece ≡ f part → after ≡ mid ++ piece → after ≡ separated by (map f (take (i + 1) parts))
joined-next by f parts zero part text mid piece after some at is_text is_mid is_piece is_after = absurd (omega arith)
joined-next by f [] (suc i) part text mid piece after some at is_text is_mid is_piece is_after = absurd (omega (arith, slice_get_within [] (suc i) part at))
joined-next by f (q ∷ qs) (suc i) part text mid piece after some at is_text is_mid is_piece is_after =
    is_after ∙ rw (is_mid, is_text, is_piece) (sym (ap (λ ps. separated by (map f ps)) (take-at (q ∷ qs) (suc i) part at) ∙ ap (separated by) (map-append_one f (q ∷ take i qs) part) ∙ separated-append_one by (f q) (map f (take i qs)) (f part)))

-- What is shown of a node, where the code reads it.
pub shown-is : (shown : List Shown) (i : ℕ) (t : Shown) → i < length shown → t ≡ get_or shown i t → shown_at shown i ≡ t
shown-is shown i t within is = ap (λ o. unwrap_or o (single [])) (slice_get_read shown (length shown) i t refl within is)

-- One line more.
pub lines-more : {X : Type 0} (line : X → List ℕ) (xs : List X) (i : ℕ) (x : X) (head text after : List ℕ) → slice_get xs i ≡ Some x → text ≡ head ++ flat_map line (take i xs) → after ≡ text ++ line x → after ≡ head ++ flat_map line (take (i + 1) xs)
lines-more line xs i x head text after at is_text is_after =
    is_after ∙ rw (is_text, take-at xs i x at) (simp (flat_map-append, append_assoc, append-nil))

-- There is a text for each node.
pub length-all_shown : (s : Spec) → IsSound s → length (all_shown s) ≡ length s.nodes
length-all_shown s sound = length-node_results (node_shown s.names) [] (ranged_nodes s) ∙ omega (arith, length-zip s.nodes s.ranges sound.ranges.lengths)
