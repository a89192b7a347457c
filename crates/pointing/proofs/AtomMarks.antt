-- The marks of nodes and classes, as the code finds them.
use Rattle.std.proofs.Common.{◌≡◌, ℕ, zero, suc, ◌+◌, ◌<◌, ◌≤◌, List, [], ◌∷◌, ◌++◌, take, map, length, arith, refl, sym, ◌∙◌, ap, Bool, true, false, Some, slice_get, get_or}
use Rattle.std.specs.Prelude.{◌||◌}
use Rattle.std.specs.List.{list_any}
use Rattle.std.proofs.lemmas.List.{take_more, map-append}
use Rattle.bz_model.specs.Spec.{Spec, Node, Range, node_at}
use Rattle.class_system.specs.NodeResults.{ranged_nodes}
use Rattle.class_system.specs.Sound.{IsSound}
use Rattle.class_system.specs.Views.{number}
use Rattle.class_system.specs.declared.ids.ExprId.{ExprId}
use Rattle.class_system.proofs.Results.{length-node_results, length-zip, take-at}
use Rattle.class_system.proofs.Soundness.{has_range}
use Rattle.well_founded.specs.EmptyObjects.{answer_at}
use Rattle.pointing.specs.Forms.{Form, parts_from, found, node_form, all_forms}
use Rattle.pointing.specs.Atoms.{is_atomic, some_atomic}
use Rattle.pointing.specs.PointedForm.{how_many}
use Rattle.pointing.proofs.Reading.{result-at}

-- A mark of a list of marks is that of the form at the place.
pub mark-found : (cls : List Bool) (fs : List Form) (part : ℕ) → answer_at (map (is_atomic cls) fs) part ≡ is_atomic cls (found fs part)
mark-found cls [] part = refl
mark-found cls (f ∷ fs) zero = refl
mark-found cls (f ∷ fs) (suc part) = mark-found cls fs part

-- Whether some part is marked is whether some part's form has an atom.
pub some-marked : (cls : List Bool) (marks : List Bool) (fs : List Form) → marks ≡ map (is_atomic cls) fs → (parts : List ExprId) → list_any (λ part. answer_at marks part.0) parts ≡ some_atomic cls (parts_from (map (found fs) (map number parts)))
some-marked cls marks fs e [] = refl
some-marked cls marks fs e (p ∷ parts) =
    ap (λ z. z || list_any (λ part. answer_at marks part.0) parts) (ap (λ ms. answer_at ms p.0) e ∙ mark-found cls fs p.0) ∙ ap (λ z. is_atomic cls (found fs p.0) || z) (some-marked cls marks fs e parts)

-- One part more is counted.
pub count-more : (f : ℕ → Bool) (parts : List ExprId) (i : ℕ) (d : ExprId) → i < length parts → how_many (map f (map number (take (i + 1) parts))) ≡ how_many (map f (map number (take i parts))) + how_many (f (get_or parts i d).0 ∷ [])
count-more f parts i d lt = ap (λ ps. how_many (map f (map number ps))) (take_more parts i d lt) ∙ ap (λ ps. how_many (map f ps)) (map-append number (take i parts) (get_or parts i d ∷ [])) ∙ ap how_many (map-append f (map number (take i parts)) (number (get_or parts i d) ∷ [])) ∙ counted (map f (map number (take i parts))) (f (get_or parts i d).0)
  where
    counted : (bs : List Bool) (b : Bool) → how_many (bs ++ b ∷ []) ≡ how_many bs + how_many (b ∷ [])
    counted [] b = omega arith
    counted (true ∷ bs) b = let e : how_many (bs ++ b ∷ []) ≡ how_many bs + how_many (b ∷ []) = counted bs b in omega arith
    counted (false ∷ bs) b = counted bs b

-- The count is one more, or the same.
pub count-one : (b : Bool) → b ≡ true → how_many (b ∷ []) ≡ 1
count-one true e = refl
count-one false e = absurd (cc)

-- A list of one mark that is false has no true mark.
pub count-none : (b : Bool) → b ≡ false → how_many (b ∷ []) ≡ 0
count-none true e = absurd (cc)
count-none false e = refl

pub count-least : (bs : List Bool) → how_many bs ≤ length bs
count-least [] = omega arith
count-least (true ∷ bs) = omega (arith, count-least bs)
count-least (false ∷ bs) = omega (arith, count-least bs)

-- The form of each node is found.
pub form-there : (s : Spec) (sound : IsSound s) (e : ℕ) (n : Node) → node_at s e ≡ Some n → (r : Range) × (slice_get (all_forms s) e ≡ Some (node_form (take e (all_forms s)) n r))
form-there s sound e n at = let r = has_range s sound e n at in (r.0, result-at node_form s e n r.0 at r.1)

-- The marks so far, and one more.
pub marks-more : (s : Spec) (cls marks now : List Bool) (e : ℕ) (mark : Bool) (n : Node) → IsSound s → marks ≡ map (is_atomic cls) (take e (all_forms s)) → node_at s e ≡ Some n → now ≡ marks ++ mark ∷ []
    → ((before : List Form) (m : Node) (r : Range) → marks ≡ map (is_atomic cls) before → node_at s e ≡ Some m → mark ≡ is_atomic cls (node_form before m r))
    → now ≡ map (is_atomic cls) (take (e + 1) (all_forms s))
marks-more s cls marks now e mark n sound so_far at put is =
    let t = form-there s sound e n at in
    let g = node_form (take e (all_forms s)) n t.0 in
    put ∙ ap (λ ms. ms ++ mark ∷ []) so_far ∙ ap (λ z. map (is_atomic cls) (take e (all_forms s)) ++ z ∷ []) (is (take e (all_forms s)) n t.0 so_far at)
    ∙ sym (map-append (is_atomic cls) (take e (all_forms s)) (g ∷ [])) ∙ ap (map (is_atomic cls)) (sym (take-at (all_forms s) e g t.1))

-- There is a form for each node.
pub forms-count : (s : Spec) → IsSound s → length (all_forms s) ≡ length s.nodes
forms-count s sound = length-node_results node_form [] (ranged_nodes s) ∙ (let e = length-zip s.nodes s.ranges sound.ranges.lengths in omega arith)

-- The marks of the bodies are those of one more round.
pub round-marks : (s : Spec) (cls nodes : List Bool) → nodes ≡ map (is_atomic cls) (all_forms s) → (bodies : List ℕ) → map (answer_at nodes) bodies ≡ map (is_atomic cls) (map (found (all_forms s)) bodies)
round-marks s cls nodes e [] = refl
round-marks s cls nodes e (b ∷ bodies) = ap (λ z. z ∷ map (answer_at nodes) bodies) (ap (λ ms. answer_at ms b) e ∙ mark-found cls (all_forms s) b) ∙ ap (λ zs. is_atomic cls (found (all_forms s) b) ∷ zs) (round-marks s cls nodes e bodies)

-- One mark more is counted.
pub count-next : (bs : List Bool) (i : ℕ) → i < length bs → how_many (take (i + 1) bs) ≡ how_many (take i bs) + how_many (get_or bs i false ∷ [])
count-next bs i lt = ap how_many (take_more bs i false lt) ∙ counted-both (take i bs) (get_or bs i false)
  where
    counted-both : (cs : List Bool) (b : Bool) → how_many (cs ++ b ∷ []) ≡ how_many cs + how_many (b ∷ [])
    counted-both [] b = omega arith
    counted-both (true ∷ cs) b = let e : how_many (cs ++ b ∷ []) ≡ how_many cs + how_many (b ∷ []) = counted-both cs b in omega arith
    counted-both (false ∷ cs) b = counted-both cs b
