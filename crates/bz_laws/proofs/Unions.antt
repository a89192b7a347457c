-- What a union has: the picks of its parts. Bounds of the parts bound the union and its objects up to an option.
use Rattle.std.proofs.Common.{◌≡◌, ℕ, zero, suc, ◌+◌, ◌<◌, ◌≤◌, ◌⊎◌, inl, inr, List, [], ◌∷◌, length, take, arith, refl, sym, ◌∙◌, ap, subst, Option, Some, None}
use Rattle.std.specs.Prelude.{slice_get}
use Rattle.std.proofs.Math.Seq.{take-length}
use Rattle.std.specs.List.{AllByRecursion}
use Rattle.bz_model.specs.Fraction.{Fraction, AtMost}
use Rattle.bz_model.specs.Spec.{Spec, Node, Range, node_at, range_at, node_of, range_of}
use Rattle.bz_model.specs.Object.{Object, Has, ClassHas, HasWithin, Belongs}
use Rattle.bz_model.specs.Measures.{weight}
use Rattle.bz_model.specs.Totals.{Above, Below, total_by}
use Rattle.bz_model.specs.Ideal.{option_of, Upto, IsGreatestOption}
use Rattle.bz_laws.proofs.Fractions.{AtMost-refl}
use Rattle.bz_laws.proofs.Samples.{AllByRecursion-weaker, above-either, below-either, above-none, below-none, above-along, below-along, AboveBy-weaker, BelowBy-weaker}
use Rattle.bz_laws.proofs.Nodes.{HasAt, HasUpto, ClassBelongs, known, unknown, belongs-has, belongs-of, upto-has, upto-of, above-has, below-has}

-- what was picked
abbrev pub unpick : Object → Object
unpick (Object.Pick i o) = o
unpick o = o

-- a part that may be missing has an object
abbrev pub HasPart : Spec → (ℕ → Object → Type 0) → Option ℕ → Object → Type 0
HasPart s R part o = Has s R (node_of s part) (range_of s part) o

-- a pick of option i whose part has the object
pub record IsPickOf (s : Spec) (R : ℕ → Object → Type 0) (part : Option ℕ) (i : ℕ) (o : Object) : Type 0 where
  pub form : o ≡ Object.Pick i (unpick o)
  pub part_has : HasPart s R part (unpick o)

-- a part below the length is there
pub part_there : (parts : List ℕ) (i : ℕ) → i < length parts → (p : ℕ) × (slice_get parts i ≡ Some p)
part_there [] i h = absurd (omega arith)
part_there (part ∷ parts) zero h = (part, refl)
part_there (part ∷ parts) (suc i) h = part_there parts i (omega arith)

-- there is none from the length on
pub part_missing : (parts : List ℕ) (i : ℕ) → length parts ≤ i → slice_get parts i ≡ None
part_missing [] i h = refl
part_missing (part ∷ parts) zero h = absurd (omega arith)
part_missing (part ∷ parts) (suc i) h = part_missing parts i (omega arith)

module _ (s : Spec) (R : ℕ → Object → Type 0) where
  -- a union's object is a pick
  pub has-union : (parts : List ℕ) (r : Option Range) (o : Object) → Has s R (Some (Node.Union parts)) r o → IsPickOf s R (slice_get parts (option_of o)) (option_of o) o
  has-union parts r Object.Unit_ h = elim h [ ]
  has-union parts r Object.Dot h = elim h [ ]
  has-union parts r (Object.Pick i o) h = record { form = refl; part_has = h }
  has-union parts r (Object.Tuple os) h = elim h [ ]
  has-union parts r (Object.SeqOf os) h = elim h [ ]
  has-union parts r (Object.SetOf os) h = elim h [ ]
  has-union parts r (Object.CycOf os) h = elim h [ ]

  -- its option is below its number of parts
  pub option-there : (parts : List ℕ) (r : Option Range) (o : Object) → Has s R (Some (Node.Union parts)) r o → option_of o < length parts
  option-there parts r o h =
      let p = has-union parts r o h in
      let out : length parts ≤ option_of o → ⊥ = λ le. let none_there : HasPart s R None (unpick o) = subst (λ q. HasPart s R q (unpick o)) (part_missing parts (option_of o) le) p.part_has in none_there in
      omega (arith, out)

  module _ (x : Fraction) where
    -- a bound of a part bounds its picks
    pub above-picks : (part i : ℕ) {f : Fraction} → Above x f (HasAt s R part) → Above x f (IsPickOf s R (Some part) i)
    above-picks part i up =
        above-along unpick (IsPickOf s R (Some part) i) (HasAt s R part) (λ o h. h.part_has) (λ a b p q eq. p.form ∙ ap (Object.Pick i) eq ∙ sym q.form) (weight x) (weight x)
        (λ o h. subst (λ p. AtMost (weight x p) (weight x (unpick o))) (sym h.form) (AtMost-refl (weight x (unpick o)))) up

    pub below-picks : (part i : ℕ) {f : Fraction} → Below x f (HasAt s R part) → Below x f (IsPickOf s R (Some part) i)
    below-picks part i down =
        below-along (Object.Pick i) (HasAt s R part) (IsPickOf s R (Some part) i) (λ o h. record { form = refl; part_has = h }) (λ a b p q eq. ap unpick eq) (weight x) (weight x)
        (λ o h. AtMost-refl (weight x o)) down

  -- a pick of one of these parts, which are numbered from i on
  abbrev pub IsPickFrom : ℕ → List ℕ → Object → Type 0
  IsPickFrom i [] o = ⊥
  IsPickFrom i (part ∷ parts) o = IsPickOf s R (Some part) i o ⊎ IsPickFrom (suc i) parts o

  option-from : (i : ℕ) (parts : List ℕ) (o : Object) → IsPickFrom i parts o → i ≤ option_of o
  option-from i [] o h = elim h [ ]
  option-from i (part ∷ parts) o (inl p) = let e : option_of o ≡ i = ap option_of p.form in omega arith
  option-from i (part ∷ parts) o (inr q) = let le = option-from (suc i) parts o q in omega arith

  -- bounds of the parts bound the picks of them all
  pub above-picks-from : (x : Fraction) (g : ℕ → Fraction) (i : ℕ) (parts : List ℕ) → AllByRecursion (λ p. Above x (g p) (HasAt s R p)) parts → Above x (total_by g parts) (IsPickFrom i parts)
  above-picks-from x g i [] h = above-none (λ o k. k)
  above-picks-from x g i (part ∷ parts) h = above-either (above-picks x part i h.0) (above-picks-from x g (suc i) parts h.1)

  pub below-picks-from : (x : Fraction) (g : ℕ → Fraction) (i : ℕ) (parts : List ℕ) → AllByRecursion (λ p. Below x (g p) (HasAt s R p)) parts → Below x (total_by g parts) (IsPickFrom i parts)
  below-picks-from x g i [] h = below-none
  below-picks-from x g i (part ∷ parts) h = below-either (λ o p q. let le = option-from (suc i) parts o q in let e : option_of o ≡ i = ap option_of p.form in absurd (omega arith)) (below-picks x part i h.0) (below-picks-from x g (suc i) parts h.1)

  -- a pick with an option below n is one of the first n parts
  pick-from : (i n j : ℕ) (parts : List ℕ) (o : Object) → IsPickOf s R (slice_get parts j) (i + j) o → j < n → IsPickFrom i (take n parts) o
  pick-from i n j [] o p le = absurd (let none_there : HasPart s R None (unpick o) = p.part_has in none_there)
  pick-from i zero j (part ∷ parts) o p le = absurd (omega arith)
  pick-from i (suc n) zero (part ∷ parts) o p le = inl (record { form = let e : i + 0 ≡ i = omega arith in subst (λ k. o ≡ Object.Pick k (unpick o)) e p.form; part_has = p.part_has })
  pick-from i (suc n) (suc j) (part ∷ parts) o p le = inr (pick-from (suc i) n j parts o (record { form = let e : i + suc j ≡ suc i + j = omega arith in subst (λ k. o ≡ Object.Pick k (unpick o)) e p.form; part_has = p.part_has }) (omega arith))

  -- and the other way round
  from-pick : (i n : ℕ) (parts : List ℕ) (o : Object) → IsPickFrom i (take n parts) o → (j : ℕ) × (j < n) × IsPickOf s R (slice_get parts j) (i + j) o
  from-pick i zero [] o h = elim h [ ]
  from-pick i zero (part ∷ parts) o h = elim h [ ]
  from-pick i (suc n) [] o h = elim h [ ]
  from-pick i (suc n) (part ∷ parts) o (inl p) = (0, omega arith, record { form = let e : i ≡ i + 0 = omega arith in subst (λ k. o ≡ Object.Pick k (unpick o)) e p.form; part_has = p.part_has })
  from-pick i (suc n) (part ∷ parts) o (inr q) =
      let r = from-pick (suc i) n parts o q in
      let le : r.0 < n = r.1 in
      (suc r.0, omega arith, record { form = let e : suc i + r.0 ≡ i + suc r.0 = omega arith in subst (λ k. o ≡ Object.Pick k (unpick o)) e r.2.form; part_has = r.2.part_has })

  module _ (x : Fraction) (e : ℕ) (parts : List ℕ) (node : node_at s e ≡ Some (Node.Union parts)) (g : ℕ → Fraction) where
    -- the first n options are those of the first n parts
    into-first : (n : ℕ) (o : Object) → HasAt s R e o → option_of o < n → IsPickFrom 0 (take n parts) o
    into-first n o b le = pick-from 0 n (option_of o) parts o (let eq : option_of o ≡ 0 + option_of o = omega arith in subst (λ k. IsPickOf s R (slice_get parts (option_of o)) k o) eq (has-union parts (range_at s e) o (known s R e node o b))) le

    from-first : (n : ℕ) (o : Object) → IsPickFrom 0 (take n parts) o → HasAt s R e o × (option_of o < n)
    from-first n o k =
        let r = from-pick 0 n parts o k in
        let eq : 0 + r.0 ≡ r.0 = omega arith in
        let form : o ≡ Object.Pick r.0 (unpick o) = subst (λ k. o ≡ Object.Pick k (unpick o)) eq r.2.form in
        let option : option_of o ≡ r.0 = ap option_of form in
        let le : r.0 < n = r.1 in
        (unknown s R e node o (subst (λ p. Has s R (Some (Node.Union parts)) (range_at s e) p) (sym form) r.2.part_has), omega arith)

    -- bounds of the first parts bound the objects up to an option
    pub above-upto-at : (i : ℕ) → AllByRecursion (λ p. Above x (g p) (HasAt s R p)) (take (suc i) parts) → Above x (total_by g (take (suc i) parts)) (HasUpto s R e i)
    above-upto-at i h = AboveBy-weaker (λ o b. into-first (suc i) o b.0 (let le = b.1 in omega arith)) (above-picks-from x g 0 (take (suc i) parts) h)

    pub below-upto-at : (i : ℕ) → AllByRecursion (λ p. Below x (g p) (HasAt s R p)) (take (suc i) parts) → Below x (total_by g (take (suc i) parts)) (HasUpto s R e i)
    below-upto-at i h = BelowBy-weaker (λ o k. let f = from-first (suc i) o k in let le = f.1 in (f.0, omega arith)) (below-picks-from x g 0 (take (suc i) parts) h)

    -- bounds of all parts bound the union
    pub above-union-at : AllByRecursion (λ p. Above x (g p) (HasAt s R p)) parts → Above x (total_by g parts) (HasAt s R e)
    above-union-at h = AboveBy-weaker (λ o b. subst (λ ps. IsPickFrom 0 ps o) (take-length parts) (into-first (length parts) o b (option-there parts (range_at s e) o (known s R e node o b)))) (above-picks-from x g 0 parts h)

    pub below-union-at : AllByRecursion (λ p. Below x (g p) (HasAt s R p)) parts → Below x (total_by g parts) (HasAt s R e)
    below-union-at h = BelowBy-weaker (λ o k. (from-first (length parts) o (subst (λ ps. IsPickFrom 0 ps o) (sym (take-length parts)) k)).0) (below-picks-from x g 0 parts h)

-- a part that may be missing has an object of some height
abbrev pub BelongsAt : Spec → Option ℕ → Object → Type 0
BelongsAt s part o = (h : ℕ) × HasWithin s h part o

-- a pick of a part's object is the union's
pub into-union : (s : Spec) (e : ℕ) (parts : List ℕ) → node_at s e ≡ Some (Node.Union parts) → (i : ℕ) (o : Object) → BelongsAt s (slice_get parts i) o → Belongs s e (Object.Pick i o)
into-union s e parts node i o b = (b.0, unknown s (ClassHas s b.0) e node (Object.Pick i o) b.1)

module _ (s : Spec) (x : Fraction) (e : ℕ) (parts : List ℕ) (node : node_at s e ≡ Some (Node.Union parts)) (g : ℕ → Fraction) where
  -- the same for what belongs to the union
  pub above-upto : (i : ℕ) → AllByRecursion (λ p. Above x (g p) (Belongs s p)) (take (suc i) parts) → Above x (total_by g (take (suc i) parts)) (Upto s e i)
  above-upto i h = AboveBy-weaker (upto-has s e i) (above-upto-at s (ClassBelongs s) x e parts node g i (AllByRecursion-weaker (λ p up. above-has s x p up) (take (suc i) parts) h))

  pub below-upto : (i : ℕ) → AllByRecursion (λ p. Below x (g p) (Belongs s p)) (take (suc i) parts) → Below x (total_by g (take (suc i) parts)) (Upto s e i)
  below-upto i h = BelowBy-weaker (upto-of s e i) (below-upto-at s (ClassBelongs s) x e parts node g i (AllByRecursion-weaker (λ p down. below-has s x p down) (take (suc i) parts) h))

  pub above-union : AllByRecursion (λ p. Above x (g p) (Belongs s p)) parts → Above x (total_by g parts) (Belongs s e)
  above-union h = AboveBy-weaker (belongs-has s e) (above-union-at s (ClassBelongs s) x e parts node g (AllByRecursion-weaker (λ p up. above-has s x p up) parts h))

  pub below-union : AllByRecursion (λ p. Below x (g p) (Belongs s p)) parts → Below x (total_by g parts) (Belongs s e)
  below-union h = BelowBy-weaker (belongs-of s e) (below-union-at s (ClassBelongs s) x e parts node g (AllByRecursion-weaker (λ p down. below-has s x p down) parts h))

module _ (s : Spec) (e : ℕ) (parts : List ℕ) (node : node_at s e ≡ Some (Node.Union parts)) where
  -- a union's option is below its number of parts
  pub option-in_range : (o : Object) → Belongs s e o → option_of o < length parts
  option-in_range o b = option-there s (ClassHas s b.0) parts (range_at s e) o (known s (ClassHas s b.0) e node o b.1)

  -- the last part is the greatest option, where it has an object
  pub last-greatest : (i part : ℕ) (o : Object) → length parts ≡ suc i → slice_get parts i ≡ Some part → Belongs s part o → IsGreatestOption s e i
  last-greatest i part o len at b = record {
    above = λ p k. let below = option-in_range p k in omega arith;
    witness = Object.Pick i o;
    belongs = into-union s e parts node i o (subst (λ q. BelongsAt s q o) (sym at) b);
    option = refl;
  }
