-- A number of a tuple or a list comes apart into tasks for its objects, one object after the other.
use Rattle.std.proofs.Common.{◌≡◌, ℕ, zero, suc, ◌+◌, ◌-◌, ◌*◌, ◌<◌, ◌≤◌, List, [], ◌∷◌, ◌++◌, map, length, drop, get_or, replicate, arith, refl, sym, ◌∙◌, ap, subst, add-one}
use Rattle.bz_model.specs.Spec.{Spec}
use Rattle.bz_model.specs.Object.{Objects, none, more}
use Rattle.bz_model.specs.Measures.{size, sizes}
use Rattle.class_system.specs.Views.{number}
use Rattle.class_system.specs.declared.ids.ExprId.{ExprId}
use Rattle.rank_tables.specs.Capped.{Tells}
use Rattle.rank_tables.specs.Grids.{Cells, cell, number_at, TellRow, AreSuffixes}
use Rattle.rank_tables.specs.TableRule.{one_at, sum_below, tuples}
use Rattle.rank_tables.specs.Places.{IsTuplePlace, IsListPlace}
use Rattle.rank_tables.specs.Places as place
use Rattle.rank_tables.specs.Unranking.{IsSplit, AreTupleTasks, AreListTasks, told_of}
use Rattle.rank_tables.specs.Visits.{Told, whole_size, TellPlaces, AreTasks}
use Rattle.rank_tables.specs.declared.splits.Split.{Split}
use Rattle.rank_tables.specs.declared.tasks.Task.{Task}
use Rattle.rank_tables.proofs.Cells.{tells-itself}
use Rattle.rank_tables.proofs.Suffixes.{nothing-before, last-tuples, suffixes-drop, drop-at, drop-end}
use Rattle.rank_tables.proofs.SumTerms.{shifted}
use Rattle.rank_tables.proofs.Visited.{sizes-told}

-- The sizes of tasks that fit a list of parts and a size n add up to n.
pub tasks-whole : (t : ℕ → ℕ → ℕ) (es : List ℕ) (n : ℕ) (tasks : List Told) → AreTasks t es n tasks → whole_size tasks ≡ n
tasks-whole t [] n [] h = sym h
tasks-whole t (e ∷ es) n (p ∷ ps) h = let a = h.0 in let b = tasks-whole t es (n - p.size) ps h.2 in omega arith
tasks-whole t _ n _ h = elim h [ ]

module _ (s : Spec) (t : ℕ → ℕ → ℕ) where
  -- no object is left to be made
  pub tuple-none : (r : ℕ) → r ≡ 0 → AreTupleTasks s t [] 0 r []
  tuple-none r z = record { nodes = refl; fit = refl; placed = placed }
    where
      placed : (os : Objects) → TellPlaces s t [] os [] → IsTuplePlace s t [] os r
      placed none h = subst (IsTuplePlace s t [] none) (sym z) place.IsTuplePlace.done
      placed (more o os) h = elim h [ ]

  pub list-none : (e part r : ℕ) → r ≡ 0 → AreListTasks s t e part 0 r []
  list-none e part r z = record { nodes = refl; fit = refl; placed = placed }
    where
      placed : (os : Objects) → TellPlaces s t [] os [] → IsListPlace s t e part os r
      placed none h = subst (IsListPlace s t e part none) (sym z) place.IsListPlace.ended
      placed (more o os) h = elim h [ ]

  -- a task for the first object, before those for the others
  pub tuple-first : (es : List ℕ) (n r rest : ℕ) (task : Task) (us : List Task) → task.size ≤ n → task.number < t task.node.0 task.size → r ≡ sum_below task.size (λ i. t task.node.0 i * tuples t es (n - i)) + (task.number * tuples t es (n - task.size) + rest) → AreTupleTasks s t es (n - task.size) rest us → AreTupleTasks s t (task.node.0 ∷ es) n r (task ∷ us)
  tuple-first es n r rest task us le small eq k = record { nodes = ap (λ z. task.node.0 ∷ z) k.nodes; fit = (le, small, k.fit); placed = placed }
    where
      placed : (os : Objects) → TellPlaces s t (task.node.0 ∷ es) os (told_of task ∷ map told_of us) → IsTuplePlace s t (task.node.0 ∷ es) os r
      placed none h = elim h [ ]
      placed (more o os) h =
          let a : task.size ≡ size o = h.0 in
          let b : whole_size (map told_of us) ≡ sizes os = sizes-told s t es os (map told_of us) h.2 in
          let c : whole_size (map told_of us) ≡ n - task.size = tasks-whole t es (n - task.size) (map told_of us) k.fit in
          let m : n ≡ size o + sizes os = omega arith in
          let d : n - task.size ≡ sizes os = omega arith in
          place.IsTuplePlace.first task.number rest h.1 (k.placed os h.2)
          (eq ∙ (let z : sum_below task.size (λ i. t task.node.0 i * tuples t es (n - i)) + (task.number * tuples t es (n - task.size) + rest) ≡ sum_below task.size (λ i. t task.node.0 i * tuples t es (n - i)) + task.number * tuples t es (n - task.size) + rest = omega arith in z)
          ∙ ap (λ y. sum_below y (λ i. t task.node.0 i * tuples t es (n - i)) + task.number * tuples t es (n - task.size) + rest) a
          ∙ ap (λ y. sum_below (size o) (λ i. t task.node.0 i * tuples t es (y - i)) + task.number * tuples t es (n - task.size) + rest) m
          ∙ ap (λ y. sum_below (size o) (λ i. t task.node.0 i * tuples t es (size o + sizes os - i)) + task.number * tuples t es y + rest) d)

  pub list-first : (e n r rest : ℕ) (task : Task) (us : List Task) → task.size ≤ n → task.number < t task.node.0 task.size → r ≡ sum_below task.size (λ i. t task.node.0 i * t e (n - i)) + (task.number * t e (n - task.size) + rest) → AreListTasks s t e task.node.0 (n - task.size) rest us → AreListTasks s t e task.node.0 n r (task ∷ us)
  list-first e n r rest task us le small eq k = record { nodes = ap (λ z. task.node.0 ∷ z) k.nodes; fit = (le, small, k.fit); placed = placed }
    where
      placed : (os : Objects) → TellPlaces s t (task.node.0 ∷ replicate (length us) task.node.0) os (told_of task ∷ map told_of us) → IsListPlace s t e task.node.0 os r
      placed none h = elim h [ ]
      placed (more o os) h =
          let a : task.size ≡ size o = h.0 in
          let b : whole_size (map told_of us) ≡ sizes os = sizes-told s t (replicate (length us) task.node.0) os (map told_of us) h.2 in
          let c : whole_size (map told_of us) ≡ n - task.size = tasks-whole t (replicate (length us) task.node.0) (n - task.size) (map told_of us) k.fit in
          let m : n ≡ size o + sizes os = omega arith in
          let d : n - task.size ≡ sizes os = omega arith in
          place.IsListPlace.next task.number rest h.1 (k.placed os h.2)
          (eq ∙ (let z : sum_below task.size (λ i. t task.node.0 i * t e (n - i)) + (task.number * t e (n - task.size) + rest) ≡ sum_below task.size (λ i. t task.node.0 i * t e (n - i)) + task.number * t e (n - task.size) + rest = omega arith in z)
          ∙ ap (λ y. sum_below y (λ i. t task.node.0 i * t e (n - i)) + task.number * t e (n - task.size) + rest) a
          ∙ ap (λ y. sum_below (size o) (λ i. t task.node.0 i * t e (y - i)) + task.number * t e (n - task.size) + rest) m
          ∙ ap (λ y. sum_below (size o) (λ i. t task.node.0 i * t e (size o + sizes os - i)) + task.number * t e y + rest) d)

-- What is left of a tuple from its part i on: a size and a number, whose tasks make up the whole behind those so far.
pub record TupleSoFar (t : ℕ → ℕ → ℕ) (ps : List ℕ) (n r i left rest : ℕ) (tasks : List Task) : Type 0 where
  pub fits : left ≤ n
  pub small : rest < tuples t (drop i ps) left
  pub whole : (s : Spec) (us : List Task) → AreTupleTasks s t (drop i ps) left rest us → AreTupleTasks s t ps n r (tasks ++ us)

pub drop-none : (ps : List ℕ) → drop 0 ps ≡ ps
drop-none [] = refl
drop-none (p ∷ ps) = refl

append-one : (xs : List Task) (x : Task) (us : List Task) → (xs ++ x ∷ []) ++ us ≡ xs ++ x ∷ us
append-one [] x us = refl
append-one (y ∷ xs) x us = ap (λ z. y ∷ z) (append-one xs x us)

pub tuple-start : (t : ℕ → ℕ → ℕ) (ps : List ℕ) (n r : ℕ) → r < tuples t ps n → TupleSoFar t ps n r 0 n r []
tuple-start t ps n r small = record {
  fits = omega arith;
  small = subst (λ qs. r < tuples t qs n) (sym (drop-none ps)) small;
  whole = λ s us h. subst (λ qs. AreTupleTasks s t qs n r us) (drop-none ps) h;
}

-- One object more, told by a split of what is left, keeps the state of a tuple being taken apart,
-- and moves it on by one part.
pub tuple-further : (t : ℕ → ℕ → ℕ) (ps : List ℕ) (n r i left rest : ℕ) (tasks : List Task) (task : Task) (split : Split) → TupleSoFar t ps n r i left rest tasks → drop i ps ≡ task.node.0 ∷ drop (suc i) ps → task.size ≡ split.first → task.number ≡ split.place → IsSplit (t task.node.0) (tuples t (drop (suc i) ps)) left rest split → TupleSoFar t ps n r (suc i) (left - task.size) split.rest (tasks ++ task ∷ [])
tuple-further t ps n r i left rest tasks task split from is first at_place k = record {
  fits = let f = from.fits in omega arith;
  small = subst (λ z. split.rest < tuples t (drop (suc i) ps) (left - z)) (sym first) k.small_rest;
  whole = λ s us h. subst (AreTupleTasks s t ps n r) (sym (append-one tasks task us))
      (from.whole s (task ∷ us) (subst (λ qs. AreTupleTasks s t qs left rest (task ∷ us)) (sym is)
      (tuple-first s t (drop (suc i) ps) left rest split.rest task us
      (let w = k.within in omega arith)
      (subst (λ z. z < t task.node.0 task.size) (sym at_place) (subst (λ z. split.place < t task.node.0 z) (sym first) k.small))
      (subst (λ z. rest ≡ sum_below task.size (λ j. t task.node.0 j * tuples t (drop (suc i) ps) (left - j)) + (z * tuples t (drop (suc i) ps) (left - task.size) + split.rest)) (sym at_place)
      (subst (λ z. rest ≡ sum_below z (λ j. t task.node.0 j * tuples t (drop (suc i) ps) (left - j)) + (split.place * tuples t (drop (suc i) ps) (left - z) + split.rest)) (sym first) k.is))
      h)));
}

-- The last part takes what is left.
pub tuple-last : (s : Spec) (t : ℕ → ℕ → ℕ) (ps : List ℕ) (n r i left rest : ℕ) (tasks : List Task) (task : Task) → TupleSoFar t ps n r i left rest tasks → drop i ps ≡ task.node.0 ∷ [] → task.size ≡ left → task.number ≡ rest → AreTupleTasks s t ps n r (tasks ++ task ∷ [])
tuple-last s t ps n r i left rest tasks task from is size_is number_is =
    let small : rest < tuples t (task.node.0 ∷ []) left = subst (λ qs. rest < tuples t qs left) is from.small in
    let row : tuples t (task.node.0 ∷ []) left ≡ t task.node.0 left = last-tuples t task.node.0 left in
    let below : rest < t task.node.0 left = omega arith in
    let none_before : sum_below left (λ i. t task.node.0 i * tuples t [] (left - i)) ≡ 0 = nothing-before (t task.node.0) left left (omega arith) in
    let at_end : left - left ≡ 0 = omega arith in
    let one : rest * tuples t [] (left - left) ≡ rest * 1 = ap (λ z. rest * one_at 0 z) at_end in
    let once : rest * 1 ≡ rest = omega arith in
    let eq : rest ≡ sum_below left (λ i. t task.node.0 i * tuples t [] (left - i)) + (rest * tuples t [] (left - left) + 0) = omega arith in
    from.whole s (task ∷ []) (subst (λ qs. AreTupleTasks s t qs left rest (task ∷ [])) (sym is)
    (tuple-first s t [] left rest 0 task [] (omega arith)
    (subst (λ z. z < t task.node.0 task.size) (sym number_is) (subst (λ z. rest < t task.node.0 z) (sym size_is) below))
    (subst (λ z. rest ≡ sum_below task.size (λ i. t task.node.0 i * tuples t [] (left - i)) + (z * tuples t [] (left - task.size) + 0)) (sym number_is)
    (subst (λ z. rest ≡ sum_below z (λ i. t task.node.0 i * tuples t [] (left - i)) + (rest * tuples t [] (left - z) + 0)) (sym size_is) eq))
    (subst (λ z. AreTupleTasks s t [] z 0 []) (let q : 0 ≡ left - task.size = omega arith in q) (tuple-none s t 0 refl))))

-- What is left of a list.
pub record ListSoFar (t : ℕ → ℕ → ℕ) (e part n r left rest : ℕ) (tasks : List Task) : Type 0 where
  pub few : length tasks + left ≤ n
  pub small : rest < t e left
  pub whole : (s : Spec) (us : List Task) → AreListTasks s t e part left rest us → AreListTasks s t e part n r (tasks ++ us)

pub list-start : (t : ℕ → ℕ → ℕ) (e part n r : ℕ) → r < t e n → ListSoFar t e part n r n r []
list-start t e part n r small = record { few = let z : length {A = Task} [] ≡ 0 = refl in omega arith; small = small; whole = λ s us h. h }

-- The number of a list that isn't empty lies in a term of its sum.
pub list-sum : (t : ℕ → ℕ → ℕ) (e part n r : ℕ) → 0 < n → t e n ≡ one_at 0 n + sum_below n (λ j. t part (suc j) * t e (n - suc j)) → t part 0 ≡ 0 → r < t e n → r < sum_below (suc n) (λ j. t part j * t e (n - j))
list-sum t e part zero r some row none_there lt = absurd (omega arith)
list-sum t e part (suc n) r some row none_there lt =
    let z : one_at 0 (suc n) ≡ 0 = refl in
    let q : sum_below (suc (suc n)) (λ j. t part j * t e (suc n - j)) ≡ sum_below (suc n) (λ j. t part (suc j) * t e (suc n - suc j)) = shifted (λ j. t part j * t e (suc n - j)) (suc n) (ap (λ z. z * t e (suc n - 0)) none_there ∙ (let z : 0 * t e (suc n - 0) ≡ 0 = omega arith in z)) in
    omega arith

-- A first object has an atom.
pub first-some : (t : ℕ → ℕ → ℕ) (part q j : ℕ) → t part 0 ≡ 0 → q < t part j → 0 < j
first-some t part q zero none_there lt = absurd (omega arith)
first-some t part q (suc j) none_there lt = omega arith

length-one : (xs : List Task) (x : Task) → length (xs ++ x ∷ []) ≡ suc (length xs)
length-one [] x = refl
length-one (y ∷ xs) x = ap suc (length-one xs x)

-- One object more, told by a split of what is left, keeps the state of a list being taken apart,
-- where its part has no object of size 0.
pub list-further : (t : ℕ → ℕ → ℕ) (e n r left rest : ℕ) (tasks : List Task) (task : Task) (split : Split) → ListSoFar t e task.node.0 n r left rest tasks → t task.node.0 0 ≡ 0 → task.size ≡ split.first → task.number ≡ split.place → IsSplit (t task.node.0) (t e) left rest split → ListSoFar t e task.node.0 n r (left - task.size) split.rest (tasks ++ task ∷ [])
list-further t e n r left rest tasks task split from none_there first at_place k = record {
  few = let f = from.few in let some = first-some t task.node.0 split.place split.first none_there k.small in let w = k.within in let l = length-one tasks task in omega arith;
  small = subst (λ z. split.rest < t e (left - z)) (sym first) k.small_rest;
  whole = λ s us h. subst (AreListTasks s t e task.node.0 n r) (sym (append-one tasks task us))
      (from.whole s (task ∷ us)
      (list-first s t e left rest split.rest task us
      (let w = k.within in omega arith)
      (subst (λ z. z < t task.node.0 task.size) (sym at_place) (subst (λ z. split.place < t task.node.0 z) (sym first) k.small))
      (subst (λ z. rest ≡ sum_below task.size (λ j. t task.node.0 j * t e (left - j)) + (z * t e (left - task.size) + split.rest)) (sym at_place)
      (subst (λ z. rest ≡ sum_below z (λ j. t task.node.0 j * t e (left - j)) + (split.place * t e (left - z) + split.rest)) (sym first) k.is))
      h));
}

-- Nothing is left.
pub list-last : (s : Spec) (t : ℕ → ℕ → ℕ) (e part n r rest : ℕ) (tasks : List Task) → ListSoFar t e part n r 0 rest tasks → t e 0 ≡ one_at 0 0 + sum_below 0 (λ j. t part (suc j) * t e (0 - suc j)) → AreListTasks s t e part n r (tasks ++ [])
list-last s t e part n r rest tasks from row =
    let one : one_at 0 0 + sum_below 0 (λ j. t part (suc j) * t e (0 - suc j)) ≡ 1 = refl in
    let small = from.small in
    from.whole s [] (list-none s t e part rest (omega arith))

-- What the tails tell of the parts from a place on.
pub tail-row : (t : ℕ → ℕ → ℕ) (tails : Cells) (ps rest : List ℕ) (k n q : ℕ) → drop k ps ≡ q ∷ rest → ((m : ℕ) → m ≤ n → AreSuffixes t tails ps m) → TellRow tails q n (tuples t (drop k ps))
tail-row t tails ps rest k n q is h = λ j le. subst (λ z. Tells (cell tails q j) (tuples t z j)) (sym is) (let a : AreSuffixes t tails (q ∷ rest) j = subst (λ z. AreSuffixes t tails z j) is (suffixes-drop t tails k j ps (h j le)) in a.0)

-- The split of what is left of a tuple.
pub tuple-row : (counts tails : Cells) (parts : List ExprId) (n r i left rest : ℕ) (tasks : List Task) (split : Split) (d : ExprId) → TupleSoFar (number_at counts) (map number parts) n r i left rest tasks → i + 1 < length parts → ((m : ℕ) → m ≤ n → AreSuffixes (number_at counts) tails (map number parts) m)
    → ((f g : ℕ → ℕ) → TellRow counts (get_or parts i d).0 left f → TellRow tails (get_or parts (i + 1) d).0 left g → rest < sum_below (suc left) (λ j. f j * g (left - j)) → IsSplit f g left rest split)
    → IsSplit (number_at counts (get_or parts i d).0) (tuples (number_at counts) (drop (suc i) (map number parts))) left rest split
tuple-row counts tails parts n r i left rest tasks split d from lt tells h =
    h (number_at counts (get_or parts i d).0) (tuples (number_at counts) (drop (suc i) (map number parts)))
    (λ j le. tells-itself (cell counts (get_or parts i d).0 j))
    (tail-row (number_at counts) tails (map number parts) (drop (suc (i + 1)) (map number parts)) (suc i) left (get_or parts (i + 1) d).0 (ap (λ z. drop z (map number parts)) (sym (add-one i)) ∙ drop-at (i + 1) d parts lt) (λ m le. tells m (let f = from.fits in omega arith)))
    (subst (λ z. rest < tuples (number_at counts) z left) (drop-at i d parts (omega arith)) from.small)

-- The last part.
pub last-part : (parts : List ExprId) (i : ℕ) (d : ExprId) → i ≡ length parts - 1 → 0 < length parts → drop i (map number parts) ≡ (get_or parts (length parts - 1) d).0 ∷ []
last-part parts i d e some = ap (λ z. drop z (map number parts)) e ∙ drop-at (length parts - 1) d parts (omega arith) ∙ ap (λ z. (get_or parts (length parts - 1) d).0 ∷ z) (drop-end (suc (length parts - 1)) parts (omega arith))

-- The split of what is left of a list.
pub list-row : (counts : Cells) (e part n r left rest : ℕ) (tasks : List Task) (split : Split) → ListSoFar (number_at counts) e part n r left rest tasks → 0 < left → number_at counts part 0 ≡ 0 → ((m : ℕ) → m ≤ n → number_at counts e m ≡ one_at 0 m + sum_below m (λ j. number_at counts part (suc j) * number_at counts e (m - suc j)))
    → ((f g : ℕ → ℕ) → TellRow counts part left f → TellRow counts e left g → rest < sum_below (suc left) (λ j. f j * g (left - j)) → IsSplit f g left rest split)
    → IsSplit (number_at counts part) (number_at counts e) left rest split
list-row counts e part n r left rest tasks split from some none_there row h =
    h (number_at counts part) (number_at counts e) (λ j le. tells-itself (cell counts part j)) (λ j le. tells-itself (cell counts e j))
    (list-sum (number_at counts) e part left rest some (row left (let f = from.few in omega arith)) none_there from.small)
