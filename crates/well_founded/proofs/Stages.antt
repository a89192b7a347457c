-- As many computed rounds as there are classes give exactly the nodes that have an object of size 0.
use Rattle.std.proofs.Common.{◌≡◌, ℕ, zero, suc, ◌+◌, ◌<◌, ◌≤◌, ◌⊎◌, inl, inr, List, [], ◌∷◌, ◌++◌, length, map, Bool, true, false, Some, arith, refl, sym, ap, ◌∙◌, subst}
use Rattle.std.specs.Prelude.{zip, unwrap_or, replicate}
use Rattle.std.specs.List.{slice_get}
use Rattle.std.proofs.lemmas.Option.{slice_get_within}
use Rattle.bz_model.specs.Spec.{Spec, Node, Range, node_at, range_at, body_of}
use Rattle.bz_model.specs.Measures.{HasZero}
use Rattle.well_founded.specs.Foundedness.{HasEmpty}
use Rattle.well_founded.proofs.Orderly.{IsOrderly}
use Rattle.well_founded.specs.Rounds.{Gets}
use Rattle.class_system.specs.NodeResults.{node_results, ranged_nodes}
use Rattle.class_system.proofs.Results.{zip-at, length-node_results}
use Rattle.well_founded.specs.EmptyObjects.{iterated, answer_at, node_has_empty, nodes_with_empty, more_with_empty, classes_with_empty, has_empty}
use Rattle.well_founded.proofs.Least.{empty-belongs, belongs-empty}
use Rattle.well_founded.proofs.Rounds.{least-round, in-closed}
use Rattle.well_founded.specs.Marking.{IsMarked}
use Rattle.well_founded.proofs.Marks.{Holds, holds-more, mark-holds, holds-mark}

get-front : {V : Type 0} (xs ys : List V) (p : ℕ) → p < length xs → slice_get (xs ++ ys) p ≡ slice_get xs p
get-front [] ys p h = absurd (omega arith)
get-front (x ∷ xs) ys zero h = refl
get-front (x ∷ xs) ys (suc p) h = get-front xs ys p (omega arith)

get-end : {V : Type 0} (xs : List V) (v : V) → slice_get (xs ++ (v ∷ [])) (length xs) ≡ Some v
get-end [] v = refl
get-end (x ∷ xs) v = get-end xs v

length-end : {V : Type 0} (xs : List V) (v : V) → length (xs ++ (v ∷ [])) ≡ suc (length xs)
length-end [] v = refl
length-end (x ∷ xs) v = ap suc (length-end xs v)

get-there : {V : Type 0} (xs : List V) (i : ℕ) → i < length xs → (x : V) × (slice_get xs i ≡ Some x)
get-there [] i h = absurd (omega arith)
get-there (x ∷ xs) zero h = (x, refl)
get-there (x ∷ xs) (suc i) h = get-there xs i (omega arith)

-- The result at a place is made from the results before it.
module _ {V : Type 0} (result : List V → Node → Range → V) where
  results-kept : (before : List V) (rest : List (Node × Range)) (p : ℕ) → p < length before → slice_get (node_results result before rest) p ≡ slice_get before p
  results-kept before [] p h = refl
  results-kept before (x ∷ xs) p h =
      let v = result before x.0 x.1 in
      let n = length-end before v in
      results-kept (before ++ (v ∷ [])) xs p (omega arith) ∙ get-front before (v ∷ []) p h

  record At (final : List V) (e : ℕ) (x : Node × Range) : Type 0 where
    earlier : List V
    same : (p : ℕ) → p < e → slice_get final p ≡ slice_get earlier p
    here : slice_get final e ≡ Some (result earlier x.0 x.1)

  results-here : (before : List V) (y : Node × Range) (ys : List (Node × Range)) → At (node_results result before (y ∷ ys)) (length before) y
  results-here before y ys =
      let v = result before y.0 y.1 in
      let n = length-end before v in
      record {
        earlier = before;
        same = λ p h. results-kept (before ++ (v ∷ [])) ys p (omega arith) ∙ get-front before (v ∷ []) p h;
        here = results-kept (before ++ (v ∷ [])) ys (length before) (omega arith) ∙ get-end before v;
      }

  results-at : (before : List V) (rest : List (Node × Range)) (i : ℕ) (x : Node × Range) → slice_get rest i ≡ Some x → (e : ℕ) → e ≡ length before + i → At (node_results result before rest) e x
  results-at before [] i x g e q = absurd (cc)
  results-at before (y ∷ ys) zero x g e q =
      let same : y ≡ x = some-pair g in
      let place : length before ≡ e = omega arith in
      subst (λ z. At (node_results result before (y ∷ ys)) e z) same (subst (λ j. At (node_results result before (y ∷ ys)) j y) place (results-here before y ys))
    where
      some-pair : {a b : Node × Range} → Some a ≡ Some b → a ≡ b
      some-pair q = cc
  results-at before (y ∷ ys) (suc i) x g e q =
      let v = result before y.0 y.1 in
      let n = length-end before v in
      results-at (before ++ (v ∷ [])) ys i x g e (omega arith)

zip-parts : (xs : List Node) (ys : List Range) (i : ℕ) (z : Node × Range) → slice_get (zip xs ys) i ≡ Some z → (slice_get xs i ≡ Some z.0) × (slice_get ys i ≡ Some z.1)
zip-parts [] ys i z q = absurd (cc)
zip-parts (a ∷ xs) [] i z q = absurd (cc)
zip-parts (a ∷ xs) (b ∷ ys) zero z q = let e : ◌≡◌ {A = Node × Range} (a, b) z = cc in (ap (λ (w : Node × Range). Some w.0) e, ap (λ (w : Node × Range). Some w.1) e)
zip-parts (a ∷ xs) (b ∷ ys) (suc i) z q = zip-parts xs ys i z q

marked-within : (marks : List Bool) (i : ℕ) → IsMarked marks i → i < length marks
marked-within [] i h = absurd (cc)
marked-within (b ∷ bs) zero h = omega arith
marked-within (b ∷ bs) (suc i) h = let k = marked-within bs i h in omega arith

marked-map : (f : ℕ → Bool) (xs : List ℕ) (i x : ℕ) → slice_get xs i ≡ Some x → f x ≡ true → IsMarked (map f xs) i
marked-map f [] i x g h = absurd (cc)
marked-map f (y ∷ ys) zero x g h = let e : x ≡ y = cc in subst (λ z. f z ≡ true) e h
marked-map f (y ∷ ys) (suc i) x g h = marked-map f ys i x g h

map-marked : (f : ℕ → Bool) (xs : List ℕ) (i : ℕ) → IsMarked (map f xs) i → (x : ℕ) × (slice_get xs i ≡ Some x) × (f x ≡ true)
map-marked f [] i h = absurd (cc)
map-marked f (y ∷ ys) zero h = (y, refl, h)
map-marked f (y ∷ ys) (suc i) h = map-marked f ys i h

same-range : {a b : Range} → Some a ≡ Some b → a ≡ b
same-range q = cc

-- a class has what its body has
abbrev ByBody : Spec → (ℕ → Type 0) → ℕ → Type 0
ByBody s P c = (body : ℕ) × (body_of s c ≡ Some body) × P body

holds-gets : (s : Spec) (P : ℕ → Type 0) (e : ℕ) (n : Node) (r : Range) → range_at s e ≡ Some r → Holds (ByBody s P) P r n → Gets s ⊥ P e n
holds-gets s P e (Node.Empty w) r q h = tt
holds-gets s P e (Node.Atom w) r q h = h
holds-gets s P e (Node.Class c) r q h = h
holds-gets s P e (Node.Union parts) r q h = h
holds-gets s P e (Node.Product parts) r q h = h
holds-gets s P e (Node.Seq p) r q h = (r, q, h)
holds-gets s P e (Node.Set p) r q h = (r, q, h)
holds-gets s P e (Node.Cyc p) r q h = (r, q, h)

of-range : {P : Type 0} {a b : Range} → Some a ≡ Some b → (a.low ≡ 0) ⊎ P → (b.low ≡ 0) ⊎ P
of-range {P} q h = subst (λ x. (x.low ≡ 0) ⊎ P) (same-range q) h

gets-holds : (s : Spec) (P : ℕ → Type 0) (e : ℕ) (n : Node) (r : Range) → range_at s e ≡ Some r → Gets s ⊥ P e n → Holds (ByBody s P) P r n
gets-holds s P e (Node.Empty w) r q h = tt
gets-holds s P e (Node.Atom w) r q h = h
gets-holds s P e (Node.Class c) r q h = h
gets-holds s P e (Node.Union parts) r q h = h
gets-holds s P e (Node.Product parts) r q h = h
gets-holds s P e (Node.Seq p) r q h = of-range (sym h.1 ∙ q) h.2
gets-holds s P e (Node.Set p) r q h = of-range (sym h.1 ∙ q) h.2
gets-holds s P e (Node.Cyc p) r q h = of-range (sym h.1 ∙ q) h.2

-- a mark, with its rule
record Down (s : Spec) (cl : List Bool) (e : ℕ) : Type 0 where
  node : Node
  range : Range
  is_node : node_at s e ≡ Some node
  is_range : range_at s e ≡ Some range
  holds : Holds (IsMarked cl) (IsMarked (nodes_with_empty s cl)) range node

module _ (s : Spec) (sound : IsOrderly s) where
  marks_at : (cl : List Bool) (e : ℕ) (x : Node × Range) → slice_get (ranged_nodes s) e ≡ Some x → At (node_has_empty cl) (nodes_with_empty s cl) e x
  marks_at cl e x g = results-at (node_has_empty cl) [] (ranged_nodes s) e x g e (omega arith)

  down : (cl : List Bool) (e : ℕ) → IsMarked (nodes_with_empty s cl) e → Down s cl e
  down cl e m =
      let w = marked-within (nodes_with_empty s cl) e m in
      let l = length-node_results (node_has_empty cl) [] (ranged_nodes s) in
      let x = get-there (ranged_nodes s) e (omega arith) in
      let at_e = marks_at cl e x.0 x.1 in
      let both = zip-parts s.nodes s.ranges e x.0 x.1 in
      let here : node_has_empty cl at_e.earlier x.0.0 x.0.1 ≡ true = sym (ap (λ o. unwrap_or o false) at_e.here) ∙ m in
      record {
        node = x.0.0;
        range = x.0.1;
        is_node = both.0;
        is_range = both.1;
        holds = holds-more (IsMarked cl) (IsMarked cl) (IsMarked at_e.earlier) (IsMarked (nodes_with_empty s cl)) x.0.1 (λ c k. k) x.0.0 (λ part i h. ap (λ o. unwrap_or o false) (at_e.same part (sound.below e part x.0.0 both.0 i)) ∙ h) (mark-holds cl at_e.earlier x.0.0 x.0.1 here);
      }

  upward : (cl : List Bool) (e : ℕ) (n : Node) (r : Range) → node_at s e ≡ Some n → range_at s e ≡ Some r → Holds (IsMarked cl) (IsMarked (nodes_with_empty s cl)) r n → IsMarked (nodes_with_empty s cl) e
  upward cl e n r p q h =
      let at_e = marks_at cl e (n, r) (zip-at s.nodes s.ranges e n r p q) in
      ap (λ o. unwrap_or o false) at_e.here ∙ holds-mark cl at_e.earlier n r (holds-more (IsMarked cl) (IsMarked cl) (IsMarked (nodes_with_empty s cl)) (IsMarked at_e.earlier) r (λ c k. k) n (λ part i m. sym (ap (λ o. unwrap_or o false) (at_e.same part (sound.below e part n p i))) ∙ m) h)

  -- Marked nodes have an object of size 0, where marked classes do.
  marks-true : (cl : List Bool) → ((c : ℕ) → IsMarked cl c → ByBody s (HasEmpty s) c) → (k e : ℕ) → e < k → IsMarked (nodes_with_empty s cl) e → HasEmpty s e
  marks-true cl f zero e h m = absurd (omega arith)
  marks-true cl f (suc k) e h m =
      let d = down cl e m in
      least-round s ⊥ e d.node d.is_node (holds-gets s (HasEmpty s) e d.node d.range d.is_range (holds-more (IsMarked cl) (ByBody s (HasEmpty s)) (IsMarked (nodes_with_empty s cl)) (HasEmpty s) d.range f d.node (λ part i w. let lt = sound.below e part d.node d.is_node i in marks-true cl f k part (omega arith) w) d.holds))

  -- More marked classes mark more nodes.
  marks-more : (cl dl : List Bool) → ((c : ℕ) → IsMarked cl c → IsMarked dl c) → (k e : ℕ) → e < k → IsMarked (nodes_with_empty s cl) e → IsMarked (nodes_with_empty s dl) e
  marks-more cl dl f zero e h m = absurd (omega arith)
  marks-more cl dl f (suc k) e h m =
      let d = down cl e m in
      upward dl e d.node d.range d.is_node d.is_range (holds-more (IsMarked cl) (IsMarked dl) (IsMarked (nodes_with_empty s cl)) (IsMarked (nodes_with_empty s dl)) d.range f d.node (λ part i w. let lt = sound.below e part d.node d.is_node i in marks-more cl dl f k part (omega arith) w) d.holds)

-- each mark of one list is one of the other
data Below : List Bool → List Bool → Type 0 where
  nil : Below [] []
  cons : {a b : Bool} {as_ bs : List Bool} → (a ≡ true → b ≡ true) → Below as_ bs → Below (a ∷ as_) (b ∷ bs)

below-marked : {cl dl : List Bool} → Below cl dl → (i : ℕ) → IsMarked cl i → IsMarked dl i
below-marked Below.nil i h = absurd (cc)
below-marked (Below.cons f b) zero h = f h
below-marked (Below.cons f b) (suc i) h = below-marked b i h

below-map : (f g : ℕ → Bool) → ((x : ℕ) → f x ≡ true → g x ≡ true) → (xs : List ℕ) → Below (map f xs) (map g xs)
below-map f g h [] = Below.nil
below-map f g h (x ∷ xs) = Below.cons (h x) (below-map f g h xs)

below-none : (f : ℕ → Bool) (xs : List ℕ) → Below (replicate (length xs) false) (map f xs)
below-none f [] = Below.nil
below-none f (x ∷ xs) = Below.cons (λ e. absurd (cc)) (below-none f xs)

trues : List Bool → ℕ
trues [] = 0
trues (true ∷ bs) = suc (trues bs)
trues (false ∷ bs) = trues bs

below-same : {cl dl : List Bool} → Below cl dl → (cl ≡ dl) ⊎ (trues cl < trues dl)
unfolding trues
below-same Below.nil = inl refl
below-same (Below.cons {a = true} {b = true} {as_ = as_} {bs = bs} f b) = elim (below-same b) [ inl e ↦ inl (ap (λ (xs : List Bool). true ∷ xs) e) | inr lt ↦ inr (omega arith) ]
below-same (Below.cons {a = true} {b = false} {as_ = as_} {bs = bs} f b) = absurd (let h = f refl in cc)
below-same (Below.cons {a = false} {b = true} {as_ = as_} {bs = bs} f b) = elim (below-same b) [ inl e ↦ inr (let h = ap trues e in omega arith) | inr lt ↦ inr (omega arith) ]
below-same (Below.cons {a = false} {b = false} {as_ = as_} {bs = bs} f b) = elim (below-same b) [ inl e ↦ inl (ap (λ (xs : List Bool). false ∷ xs) e) | inr lt ↦ inr lt ]

trues-le : (cl : List Bool) → trues cl ≤ length cl
unfolding trues
trues-le [] = omega arith
trues-le (true ∷ bs) = let h = trues-le bs in omega arith
trues-le (false ∷ bs) = let h = trues-le bs in omega arith

all-marked : (cl : List Bool) → length cl ≤ trues cl → (i : ℕ) → i < length cl → IsMarked cl i
unfolding trues
all-marked [] h i lt = absurd (omega arith)
all-marked (true ∷ bs) h zero lt = refl
all-marked (true ∷ bs) h (suc i) lt = all-marked bs (omega arith) i (omega arith)
all-marked (false ∷ bs) h i lt = absurd (let k = trues-le bs in omega arith)

length-marks : (f : ℕ → Bool) (xs : List ℕ) → length (map f xs) ≡ length xs
length-marks f [] = refl
length-marks f (x ∷ xs) = ap suc (length-marks f xs)

length-none : (n : ℕ) → length (replicate n false) ≡ n
length-none zero = refl
length-none (suc n) = ap suc (length-none n)

none-marked : (n i : ℕ) → IsMarked (replicate n false) i → ⊥
none-marked zero i h = absurd (cc)
none-marked (suc n) zero h = absurd (cc)
none-marked (suc n) (suc i) h = none-marked n i h

module _ (s : Spec) (sound : IsOrderly s) where
  -- the classes marked after k rounds
  abbrev stage : ℕ → List Bool
  stage k = iterated (more_with_empty s) k (replicate (length s.bodies) false)

  more-below : (cl dl : List Bool) → Below cl dl → Below (more_with_empty s cl) (more_with_empty s dl)
  more-below cl dl b = below-map (answer_at (nodes_with_empty s cl)) (answer_at (nodes_with_empty s dl)) (λ e m. marks-more s sound cl dl (below-marked b) (suc e) e (omega arith) m) s.bodies

  rises : (k : ℕ) → Below (stage k) (stage (suc k))
  rises zero = below-none (answer_at (nodes_with_empty s (replicate (length s.bodies) false))) s.bodies
  rises (suc k) = more-below (stage k) (stage (suc k)) (rises k)

  stays-or : (k : ℕ) → (more_with_empty s (stage k) ≡ stage k) ⊎ (k ≤ trues (stage k))
  stays-or zero = inr (omega arith)
  stays-or (suc k) = elim (stays-or k) [
    | inl e ↦ inl (ap (more_with_empty s) e)
    | inr le ↦ elim (below-same (rises k)) [ inl e ↦ inl (ap (more_with_empty s) (sym e)) | inr lt ↦ inr (omega arith) ]
  ]

  stage-length : (k : ℕ) → length (stage k) ≡ length s.bodies
  stage-length zero = length-none (length s.bodies)
  stage-length (suc k) = length-marks (answer_at (nodes_with_empty s (stage k))) s.bodies

  stage-true : (k c : ℕ) → IsMarked (stage k) c → ByBody s (HasEmpty s) c
  stage-true zero c m = absurd (none-marked (length s.bodies) c m)
  stage-true (suc k) c m =
      let b = map-marked (answer_at (nodes_with_empty s (stage k))) s.bodies c m in
      (b.0, b.1, marks-true s sound (stage k) (stage-true k) (suc b.0) b.0 (omega arith) b.2)

  -- After as many rounds as there are classes no round marks more.
  settled : (c body : ℕ) → body_of s c ≡ Some body → IsMarked (nodes_with_empty s (classes_with_empty s)) body → IsMarked (classes_with_empty s) c
  settled c body q m = elim (stays-or (length s.bodies)) [
    | inl e ↦ subst (λ xs. IsMarked xs c) e (marked-map (answer_at (nodes_with_empty s (classes_with_empty s))) s.bodies c body q m)
    | inr le ↦ let l = stage-length (length s.bodies) in let w = slice_get_within s.bodies c body q in all-marked (classes_with_empty s) (omega arith) c (omega arith)
  ]

  -- A node is marked exactly where it has an object of size 0.
  pub marked-empty : (e : ℕ) → has_empty s e ≡ true → HasEmpty s e
  marked-empty e m = marks-true s sound (classes_with_empty s) (stage-true (length s.bodies)) (suc e) e (omega arith) m

  pub empty-marked : (e : ℕ) → HasEmpty s e → has_empty s e ≡ true
  empty-marked e h = in-closed s ⊥ (IsMarked (nodes_with_empty s (classes_with_empty s))) (record { round = λ e n q g. close e n q g }) h
    where
      close : (e : ℕ) (n : Node) → node_at s e ≡ Some n → Gets s ⊥ (IsMarked (nodes_with_empty s (classes_with_empty s))) e n → IsMarked (nodes_with_empty s (classes_with_empty s)) e
      close e n q g =
          let r = sound.ranged e n q in
          let marks = nodes_with_empty s (classes_with_empty s) in
          upward s sound (classes_with_empty s) e n r.0 q r.1 (holds-more (ByBody s (IsMarked marks)) (IsMarked (classes_with_empty s)) (IsMarked marks) (IsMarked marks) r.0 (λ c b. settled c b.0 b.1 b.2) n (λ part i m. m) (gets-holds s (IsMarked marks) e n r.0 r.1 g))

  pub marked-zero : (e : ℕ) → has_empty s e ≡ true → HasZero s e
  marked-zero e m = empty-belongs s sound e (marked-empty e m)

  pub zero-marked : (e : ℕ) → HasZero s e → has_empty s e ≡ true
  zero-marked e h = empty-marked e (belongs-empty s e h)
