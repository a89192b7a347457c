-- What the stack tells after each kind of step.
use Rattle.std.proofs.Common.{◌≡◌, ℕ, zero, suc, ◌+◌, ◌-◌, ◌*◌, ◌<◌, ◌≤◌, List, [], ◌∷◌, ◌++◌, map, length, take, drop, get_or, Some, arith, refl, sym, ◌∙◌, ap, subst, add-one}
use Rattle.std.specs.Prelude.{sum_by}
use Rattle.std.specs.List.{AllByRecursion}
use Rattle.bz_model.specs.Spec.{Spec, Node, node_at}
use Rattle.class_system.specs.Views.{number}
use Rattle.class_system.specs.declared.ids.ExprId.{ExprId}
use Rattle.rank_tables.specs.Capped.{Tells}
use Rattle.rank_tables.specs.Grids.{Cells, cell, number_at, TellRow, AreSuffixes}
use Rattle.rank_tables.specs.RankSteps.{IsTold, TellStack, IsJoined}
use Rattle.rank_tables.specs.TableRule.{one_at, sum_below, tuples}
use Rattle.rank_tables.specs.Visits.{Visit, Told, whole_size, tuple_place, list_place, union_summands, product_parts, sequence_part, with_visit}
use Rattle.rank_tables.specs.declared.places_stack.Placed.{Placed}
use Rattle.rank_tables.specs.declared.rank_steps.Step.{Step}
use Rattle.rank_tables.proofs.Cells.{tells-itself}
use Rattle.rank_tables.proofs.Parting.{tail-row, last-part}
use Rattle.rank_tables.proofs.Suffixes.{nothing-before, drop-at}

record Halves (xs ys : List Placed) (told : List Told) : Type 0 where
  front : TellStack xs (take (length xs) told)
  back : TellStack ys (drop (length xs) told)

halves : (xs ys : List Placed) (told : List Told) → TellStack (xs ++ ys) told → Halves xs ys told
halves [] ys [] h = record { front = tt; back = h }
halves [] ys (q ∷ told) h = record { front = tt; back = h }
halves (x ∷ xs) ys [] h = elim h [ ]
halves (x ∷ xs) ys (q ∷ told) h = let k = halves xs ys told h.1 in record { front = (h.0, k.front); back = k.back }

module _ (s : Spec) (t : ℕ → ℕ → ℕ) where
  -- a leaf in front
  pub leaf-taken : (atoms : ℕ) (p : Placed) (old new : List Placed) → p.size ≡ atoms → Tells p.place 0 → new ≡ p ∷ old → (told : List Told) → TellStack old told → TellStack new (with_visit s t (Visit.Leaf atoms) told)
  leaf-taken atoms p old new size place put told h = subst (λ z. TellStack z (record { size = atoms; place = 0 } ∷ told)) (sym put) (record { size = size; place = place }, h)

  -- a pick changes the first
  pub pick-taken : (e option : ℕ) (parts : List ℕ) (part p : Placed) (old before new : List Placed) → old ≡ part ∷ before → new ≡ p ∷ before → node_at s e ≡ Some (Node.Union parts) → p.size ≡ part.size → ((y : ℕ) → Tells part.place y → Tells p.place (sum_by (λ q. t q part.size) (take option parts) + y)) → (told : List Told) → TellStack old told → TellStack new (with_visit s t (Visit.Picked e option) told)
  pick-taken e option parts part p old before new is put at size place told h = go told (subst (λ z. TellStack z told) is h)
    where
      go : (told : List Told) → TellStack (part ∷ before) told → TellStack new (with_visit s t (Visit.Picked e option) told)
      go [] k = elim k [ ]
      go (q ∷ qs) k = subst (λ z. TellStack z (with_visit s t (Visit.Picked e option) (q ∷ qs))) (sym put) (
        record {
          size = size ∙ (k.0).size;
          place = subst (λ n. Tells p.place (sum_by (λ z. t z n) (take option (union_summands (node_at s e))) + q.place)) (k.0).size
              (subst (λ ps. Tells p.place (sum_by (λ z. t z part.size) (take option ps) + q.place)) (sym (ap union_summands at)) (place q.place (k.0).place));
        },
        k.1,
      )

  -- a tuple takes its parts
  pub tuple-taken : (e : ℕ) (parts : List ℕ) (whole : Placed) (old objects before new : List Placed) → old ≡ objects ++ before → length objects ≡ length parts → new ≡ whole ∷ before → node_at s e ≡ Some (Node.Product parts) → ((told : List Told) → TellStack objects told → IsTold whole (record { size = whole_size told; place = tuple_place t parts told })) → (told : List Told) → TellStack old told → TellStack new (with_visit s t (Visit.Tupled e) told)
  tuple-taken e parts whole old objects before new is long put at h told k =
      let p = halves objects before told (subst (λ z. TellStack z told) is k) in
      subst (λ z. TellStack z (with_visit s t (Visit.Tupled e) told)) (sym put)
      (subst (λ ps. TellStack (whole ∷ before) (record { size = whole_size (take (length ps) told); place = tuple_place t ps (take (length ps) told) } ∷ drop (length ps) told)) (sym (ap product_parts at))
      (subst (λ n. IsTold whole (record { size = whole_size (take n told); place = tuple_place t parts (take n told) })) long (h (take (length objects) told) p.front), subst (λ n. TellStack before (drop n told)) long p.back))

  -- a list takes its parts
  pub list-taken : (e part parts : ℕ) (whole : Placed) (old objects before new : List Placed) → old ≡ objects ++ before → length objects ≡ parts → new ≡ whole ∷ before → node_at s e ≡ Some (Node.Seq part) → ((told : List Told) → TellStack objects told → IsTold whole (record { size = whole_size told; place = list_place t e part told })) → (told : List Told) → TellStack old told → TellStack new (with_visit s t (Visit.Listed e parts) told)
  list-taken e part parts whole old objects before new is long put at h told k =
      let p = halves objects before told (subst (λ z. TellStack z told) is k) in
      subst (λ z. TellStack z (with_visit s t (Visit.Listed e parts) told)) (sym put)
      (subst (λ q. TellStack (whole ∷ before) (record { size = whole_size (take parts told); place = list_place t e q (take parts told) } ∷ drop parts told)) (sym (ap sequence_part at))
      (subst (λ n. IsTold whole (record { size = whole_size (take n told); place = list_place t e part (take n told) })) long (h (take (length objects) told) p.front), subst (λ n. TellStack before (drop n told)) long p.back))

-- What some objects of a tuple's last parts make.
abbrev pub TupleTold : (t : ℕ → ℕ → ℕ) → List ℕ → List Placed → Placed → Type 0
TupleTold t es objects whole = (told : List Told) → TellStack objects told → IsTold whole (record { size = whole_size told; place = tuple_place t es told })

abbrev pub ListTold : (t : ℕ → ℕ → ℕ) → (e part : ℕ) → List Placed → Placed → Type 0
ListTold t e part objects whole = (told : List Told) → TellStack objects told → IsTold whole (record { size = whole_size told; place = list_place t e part told })

-- The last object alone.
pub tuple-single : (t : ℕ → ℕ → ℕ) (e : ℕ) (last : Placed) → TupleTold t (e ∷ []) (last ∷ []) last
tuple-single t e last [] h = elim h [ ]
tuple-single t e last (u ∷ us) h = go us h.1
  where
    go : (us : List Told) → TellStack [] us → IsTold last (record { size = whole_size (u ∷ us); place = tuple_place t (e ∷ []) (u ∷ us) })
    go (x ∷ us) k = elim k [ ]
    go [] k =
        let size : last.size ≡ u.size = (h.0).size in
        let none_before : sum_below u.size (λ j. t e j * one_at 0 (u.size + 0 - j)) ≡ 0 = nothing-before (t e) (u.size + 0) u.size (omega arith) in
        let one : u.place * one_at 0 0 ≡ u.place = (let z : u.place * 1 ≡ u.place = omega arith in z) in
        let same : u.place ≡ sum_below u.size (λ j. t e j * one_at 0 (u.size + 0 - j)) + u.place * one_at 0 0 + 0 = omega arith in
        record { size = omega arith; place = subst (Tells last.place) same (h.0).place }

-- One object more in front of a tuple's last ones.
pub tuple-joined : (counts tails : Cells) (ps es rest_parts : List ℕ) (i p q : ℕ) (first rest whole : Placed) (objects : List Placed) → IsJoined counts p tails q first rest whole → es ≡ drop (suc i) ps → drop (suc i) ps ≡ q ∷ rest_parts → ((m : ℕ) → m < counts.sizes → AreSuffixes (number_at counts) tails ps m) → TupleTold (number_at counts) es objects rest → TupleTold (number_at counts) (p ∷ es) (first ∷ objects) whole
tuple-joined counts tails ps es rest_parts i p q first rest whole objects k same is tells others [] h = elim h [ ]
tuple-joined counts tails ps es rest_parts i p q first rest whole objects k same is tells others (u ∷ us) h =
    let later = others us h.1 in
    let a : first.size ≡ u.size = (h.0).size in
    let b : rest.size ≡ whole_size us = later.size in
    let c : whole.size ≡ first.size + rest.size = k.size in
    let d : whole.size ≡ u.size + whole_size us = omega arith in
    let row : TellRow tails q whole.size (tuples (number_at counts) es) = subst (λ z. TellRow tails q whole.size (tuples (number_at counts) z)) (sym same) (tail-row (number_at counts) tails ps rest_parts (suc i) whole.size q is (λ m le. tells m (let f = k.fits in omega arith))) in
    record {
      size = d;
      place = subst (λ n. Tells whole.place (sum_below u.size (λ j. number_at counts p j * tuples (number_at counts) es (n - j)) + u.place * tuples (number_at counts) es (whole_size us) + tuple_place (number_at counts) es us)) d
          (subst (λ n. Tells whole.place (sum_below n (λ j. number_at counts p j * tuples (number_at counts) es (whole.size - j)) + u.place * tuples (number_at counts) es (whole_size us) + tuple_place (number_at counts) es us)) a
          (subst (λ n. Tells whole.place (sum_below first.size (λ j. number_at counts p j * tuples (number_at counts) es (whole.size - j)) + u.place * tuples (number_at counts) es n + tuple_place (number_at counts) es us)) b
          (k.place (number_at counts p) (tuples (number_at counts) es) u.place (tuple_place (number_at counts) es us) (λ j le. tells-itself (cell counts p j)) row (h.0).place later.place)));
    }

-- One object more in front of a list.
pub list-joined : (counts : Cells) (e part : ℕ) (first rest whole : Placed) (objects : List Placed) → IsJoined counts part counts e first rest whole → ListTold (number_at counts) e part objects rest → ListTold (number_at counts) e part (first ∷ objects) whole
list-joined counts e part first rest whole objects k others [] h = elim h [ ]
list-joined counts e part first rest whole objects k others (u ∷ us) h =
    let later = others us h.1 in
    let a : first.size ≡ u.size = (h.0).size in
    let b : rest.size ≡ whole_size us = later.size in
    let c : whole.size ≡ first.size + rest.size = k.size in
    let d : whole.size ≡ u.size + whole_size us = omega arith in
    record {
      size = d;
      place = subst (λ n. Tells whole.place (sum_below u.size (λ j. number_at counts part j * number_at counts e (n - j)) + u.place * number_at counts e (whole_size us) + list_place (number_at counts) e part us)) d
          (subst (λ n. Tells whole.place (sum_below n (λ j. number_at counts part j * number_at counts e (whole.size - j)) + u.place * number_at counts e (whole_size us) + list_place (number_at counts) e part us)) a
          (subst (λ n. Tells whole.place (sum_below first.size (λ j. number_at counts part j * number_at counts e (whole.size - j)) + u.place * number_at counts e n + list_place (number_at counts) e part us)) b
          (k.place (number_at counts part) (number_at counts e) u.place (list_place (number_at counts) e part us) (λ j le. tells-itself (cell counts part j)) (λ j le. tells-itself (cell counts e j)) (h.0).place later.place)));
    }

pub list-empty : (t : ℕ → ℕ → ℕ) (e part : ℕ) (p : Placed) → p.size ≡ 0 → Tells p.place 0 → ListTold t e part [] p
list-empty t e part p size place [] h = record { size = size; place = place }
list-empty t e part p size place (u ∷ us) h = elim h [ ]

-- A list from a place on.
pub drop-here : (xs : List Placed) (k : ℕ) (d : Placed) → k < length xs → drop k xs ≡ get_or xs k d ∷ drop (suc k) xs
drop-here [] k d lt = absurd (omega arith)
drop-here (x ∷ []) zero d lt = refl
drop-here (x ∷ y ∷ xs) zero d lt = refl
drop-here (x ∷ xs) (suc k) d lt = drop-here xs k d (let e : length (x ∷ xs) ≡ suc (length xs) = refl in omega arith)

pub drop-past : (xs : List Placed) (k : ℕ) → length xs ≤ k → drop k xs ≡ []
drop-past [] zero le = refl
drop-past [] (suc k) le = refl
drop-past (x ∷ xs) zero le = absurd (let e : length (x ∷ xs) ≡ suc (length xs) = refl in omega arith)
drop-past (x ∷ xs) (suc k) le = drop-past xs k (let e : length (x ∷ xs) ≡ suc (length xs) = refl in omega arith)

-- The last object is the tuple of the last part.
pub tuple-start : (t : ℕ → ℕ → ℕ) (parts : List ExprId) (objects : List Placed) (e : ExprId) (d : Placed) → 0 < length parts → length objects ≡ length parts → TupleTold t (drop (length parts - 1) (map number parts)) (drop (length parts - 1) objects) (get_or objects (length objects - 1) d)
tuple-start t parts objects e d some long =
    subst (λ es. TupleTold t es (drop (length parts - 1) objects) (get_or objects (length objects - 1) d)) (sym (last-part parts (length parts - 1) e refl some))
    (subst (λ n. TupleTold t ((get_or parts (length parts - 1) e).0 ∷ []) (drop n objects) (get_or objects (length objects - 1) d)) (let q : length objects - 1 ≡ length parts - 1 = omega arith in q)
    (subst (λ xs. TupleTold t ((get_or parts (length parts - 1) e).0 ∷ []) xs (get_or objects (length objects - 1) d)) (sym (drop-here objects (length objects - 1) d (omega arith) ∙ ap (λ z. get_or objects (length objects - 1) d ∷ z) (drop-past objects (suc (length objects - 1)) (omega arith))))
    (tuple-single t (get_or parts (length parts - 1) e).0 (get_or objects (length objects - 1) d))))

-- One object more of a tuple, by its place in the code's lists.
pub tuple-on : (counts tails : Cells) (parts : List ExprId) (objects : List Placed) (i : ℕ) (e : ExprId) (d rest whole : Placed) → 0 < i → i ≤ length parts - 1 → length objects ≡ length parts → IsJoined counts (get_or parts (i - 1) e).0 tails (get_or parts (i - 1 + 1) e).0 (get_or objects (i - 1) d) rest whole → ((m : ℕ) → m < counts.sizes → AreSuffixes (number_at counts) tails (map number parts) m) → TupleTold (number_at counts) (drop i (map number parts)) (drop i objects) rest → TupleTold (number_at counts) (drop (i - 1) (map number parts)) (drop (i - 1) objects) whole
tuple-on counts tails parts objects i e d rest whole some le long k tells others =
    subst (λ es. TupleTold (number_at counts) es (drop (i - 1) objects) whole) (sym (drop-at (i - 1) e parts (omega arith)))
    (subst (λ xs. TupleTold (number_at counts) ((get_or parts (i - 1) e).0 ∷ drop (suc (i - 1)) (map number parts)) xs whole) (sym (drop-here objects (i - 1) d (omega arith)))
    (tuple-joined counts tails (map number parts) (drop (suc (i - 1)) (map number parts)) (drop (suc (i - 1 + 1)) (map number parts)) (i - 1) (get_or parts (i - 1) e).0 (get_or parts (i - 1 + 1) e).0 (get_or objects (i - 1) d) rest whole (drop (suc (i - 1)) objects) k refl
    (ap (λ z. drop z (map number parts)) (sym (add-one (i - 1))) ∙ drop-at (i - 1 + 1) e parts (omega arith)) tells
    (subst (λ z. TupleTold (number_at counts) (drop z (map number parts)) (drop z objects) rest) (let q : i ≡ suc (i - 1) = omega arith in q) others)))

-- One object more in front of the last ones of a list: the joined size and place tell the list from
-- object i - 1 on.
pub list-on : (counts : Cells) (e part : ℕ) (objects : List Placed) (i : ℕ) (d rest whole : Placed) → 0 < i → i ≤ length objects → IsJoined counts part counts e (get_or objects (i - 1) d) rest whole → ListTold (number_at counts) e part (drop i objects) rest → ListTold (number_at counts) e part (drop (i - 1) objects) whole
list-on counts e part objects i d rest whole some le k others =
    subst (λ xs. ListTold (number_at counts) e part xs whole) (sym (drop-here objects (i - 1) d (omega arith)))
    (list-joined counts e part (get_or objects (i - 1) d) rest whole (drop (suc (i - 1)) objects) k
    (subst (λ z. ListTold (number_at counts) e part (drop z objects) rest) (let q : i ≡ suc (i - 1) = omega arith in q) others))

-- The first parts of a list of parts.
pub first-parts : (n k : ℕ) (xs : List ExprId) → AllByRecursion (λ p. p < n) (map number xs) → AllByRecursion (λ p. p < n) (map number (take k xs))
first-parts n zero [] h = tt
first-parts n zero (x ∷ xs) h = tt
first-parts n (suc k) [] h = tt
first-parts n (suc k) (x ∷ xs) h = (h.0, first-parts n k xs h.1)

-- Taking the first k parts and then their numbers is the same as taking the first k of the numbers.
pub map-take : (k : ℕ) (xs : List ExprId) → map number (take k xs) ≡ take k (map number xs)
map-take zero [] = refl
map-take zero (x ∷ xs) = refl
map-take (suc k) [] = refl
map-take (suc k) (x ∷ xs) = ap (λ z. x.0 ∷ z) (map-take k xs)

-- Dropping no element leaves a list of steps as it is.
pub drop-no_step : (xs : List Step) → drop 0 xs ≡ xs
drop-no_step [] = refl
drop-no_step (x ∷ xs) = refl
