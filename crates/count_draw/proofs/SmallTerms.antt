-- Terms that have 64 bits: those up to a place do, where the numbers carried to them are small.
use Rattle.std.proofs.Common.{◌≡◌, ℕ, zero, suc, ◌+◌, ◌*◌, ◌^◌, ◌<◌, ◌≤◌, true, List, [], ◌∷◌, ◌++◌, length, take, arith, refl, ◌∙◌, ap, subst}
use Rattle.std.specs.List.{list_all}
use Rattle.std.proofs.Math.Nat.{div-le_of_le-mul, pow-le-pow_right}
use Rattle.std.proofs.lemmas.Nat.{mul-le}
use Rattle.std.proofs.lemmas.Bool.{le-leb, and_parts, and_from}
use Rattle.std.proofs.lemmas.List.Folds.{list_all-append}
use Rattle.fixed_enclosure.specs.Rounded.{greatest, fits, Side, quotient}
use Rattle.fixed_enclosure.proofs.Quotients.{quotient_up-least}
use Rattle.series_bounds.specs.Series.{Kind, carried_on, carried, term, terms, terms_from}

-- a quotient is at most w, to either side, where n is at most w times the divisor
quotient-le : (side : Side) (n d w : ℕ) → 0 < d → n ≤ w * d → quotient side n d ≤ w
quotient-le Side.Down n d w pos h = div-le_of_le-mul d (omega arith)
quotient-le Side.Up n d w pos h = quotient_up-least n d w pos h

part_nat : (c j w : ℕ) → c ≤ w → c ≤ w * suc j
part_nat c j w h = let grows : w * 1 ≤ w * suc j = mul-le w 1 w (suc j) (omega arith) (omega arith) in omega arith

-- a term is at most the number carried to it
pub term-small : (side : Side) (kind : Kind) (j c w : ℕ) → c ≤ w → term side kind j c ≤ w
term-small side Kind.Seq j c w h = h
term-small side Kind.Set j c w h = h
term-small side Kind.Cyc zero c w h = omega arith
term-small side Kind.Cyc (suc j) c w h = quotient-le side c (suc j) w (omega arith) (part_nat c j w h)

-- For f at most 56, 2^f is at most 2^63.
pub one-small : (f : ℕ) → f ≤ 56 → 2 ^ f ≤ 2 ^ 63
one-small f h = let less : 2 ^ f ≤ 2 ^ 56 = pow-le-pow_right (omega arith) h in omega arith

-- A list of n terms from a term on has length n.
pub length-terms : (side : Side) (kind : Kind) (f a n j c : ℕ) → length (terms_from side kind f a n j c) ≡ n
length-terms side kind f a zero j c = refl
length-terms side kind f a (suc n) j c = ap suc (length-terms side kind f a n (suc j) (carried_on side kind f a j c))

-- one term more stands at the end
pub terms-next : (side : Side) (kind : Kind) (f a n j last : ℕ) → last ≡ j + n → terms_from side kind f a (suc n) j (carried side kind f a j) ≡ terms_from side kind f a n j (carried side kind f a j) ++ term side kind last (carried side kind f a last) ∷ []
terms-next side kind f a zero j last same = let here : j ≡ last = omega arith in ap (λ l. term side kind l (carried side kind f a l) ∷ []) here
terms-next side kind f a (suc n) j last same = ap (λ ts. term side kind j (carried side kind f a j) ∷ ts) (terms-next side kind f a n (suc j) last (omega arith))

-- the first of numbers of 64 bits have 64 bits
pub fits-take : (n : ℕ) (ts : List ℕ) → list_all fits ts ≡ true → list_all fits (take n ts) ≡ true
fits-take zero ts h = refl
fits-take (suc n) [] h = refl
fits-take (suc n) (t ∷ ts) h = let both = and_parts (fits t) (list_all fits ts) h in and_from (fits t) (list_all fits (take n ts)) both.0 (fits-take n ts both.1)

one_fits : (t : ℕ) → t ≤ greatest → list_all fits (t ∷ []) ≡ true
one_fits t h = and_from (fits t) true (le-leb t greatest h) refl

module _ (side : Side) (kind : Kind) (f a : ℕ) where
  -- the terms up to this number have 64 bits
  abbrev pub AllFit : ℕ → Type 0
  AllFit i = list_all fits (terms side kind f a (suc i)) ≡ true

  pub fitting-first : f ≤ 56 → AllFit 0
  fitting-first h = let less = term-small side kind 0 (2 ^ f) (2 ^ f) (omega arith) in one_fits (term side kind 0 (2 ^ f)) (omega (arith, less, one-small f h))

  pub fitting-next : (i next power : ℕ) → next ≡ i + 1 → power ≡ carried side kind f a next → power ≤ 2 ^ 63 → AllFit i → AllFit next
  fitting-next i next power same is small before =
      let last : ℕ = term side kind next (carried side kind f a next) in
      let less : term side kind next (carried side kind f a next) ≤ 2 ^ 63 = term-small side kind next (carried side kind f a next) (2 ^ 63) (omega arith) in
      let earlier : list_all fits (terms side kind f a next) ≡ true = let one_more : suc i ≡ next = omega arith in subst (λ n. list_all fits (terms side kind f a n) ≡ true) one_more before in
      ap (list_all fits) (terms-next side kind f a next 0 next (omega arith))
      ∙ list_all-append fits (terms side kind f a next) (term side kind next (carried side kind f a next) ∷ [])
      ∙ and_from _ _ earlier (one_fits (term side kind next (carried side kind f a next)) (omega (arith, less)))
