-- Small choices, makings and runs: which option is ideal, what is made from which room, what is thrown away.
use Rattle.std.proofs.Common.{◌≡◌, ℕ, zero, suc, ◌≤◌, ◌<◌, inl, inr, List, [], ◌∷◌, ◌++◌, arith, refl, lit≤, Some, sym, ◌∙◌, subst, replicate}
use Rattle.bz_model.specs.Fraction.{Fraction, AtMost, plus, times, whole, one_in}
use Rattle.bz_model.specs.Spec.{Node, node_at}
use Rattle.bz_model.specs.Object.{Object, Objects, none, more, count, Belongs, HasWithin}
use Rattle.bz_model.specs.Object.Object.{Unit_, Dot, Pick, Tuple, SeqOf, SetOf, CycOf}
use Rattle.bz_model.specs.Measures.{HasZero, size}
use Rattle.bz_model.specs.Totals.{IsSample, total}
use Rattle.bz_model.specs.Ideal.{option_of, Before, Upto, IsIdealOption, IsGreatestOption}
use Rattle.bz_model.specs.Making.{Made, Just, Over, AllMade, All, AllOver, wrap_all, also, IsCounted, Makes, MakesEach, ClassMakes}
use Rattle.bz_model.specs.Making as making
use Rattle.bz_model.specs.Run.{IdealRun, Window}
use Rattle.bz_model.specs.Run as run
use Rattle.bz_model.proofs.Rows.{one_bit, ranged, single, neutral, half}

-- C = Z + Z: the first atom is up to option 0

first_upto : Upto one_bit 2 0 (Pick 0 Dot)
first_upto = ((0, tt), lit≤ tt)

only_first : (o : Object) → Upto one_bit 2 0 o → o ≡ Pick 0 Dot
only_first o u = go u.0.0 o u.0.1 u.1
  where
    go : (h : ℕ) (o : Object) → HasWithin one_bit h (Some 2) o → option_of o ≤ 0 → o ≡ Pick 0 Dot
    go h (Pick zero Dot) b le = refl
    go h (Pick zero Unit_) b le = elim b [ ]
    go h (Pick zero (Pick j p)) b le = elim b [ ]
    go h (Pick zero (Tuple os)) b le = elim b [ ]
    go h (Pick zero (SeqOf os)) b le = elim b [ ]
    go h (Pick zero (SetOf os)) b le = elim b [ ]
    go h (Pick zero (CycOf os)) b le = elim b [ ]
    go h (Pick (suc i) p) b le = absurd (omega arith)
    go h Unit_ b le = elim b [ ]
    go h Dot b le = elim b [ ]
    go h (Tuple os) b le = elim b [ ]
    go h (SeqOf os) b le = elim b [ ]
    go h (SetOf os) b le = elim b [ ]
    go h (CycOf os) b le = elim b [ ]

both_atoms : IsSample (Belongs one_bit 2) (Pick 0 Dot ∷ Pick 1 Dot ∷ [])
both_atoms = record { distinct = (((λ e. unlike e), tt), (tt, tt)); each = ((0, tt), ((0, tt), tt)) }
  where
    unlike : Pick 1 Dot ≡ Pick 0 Dot → ⊥
    unlike e = let k : ◌≡◌ {A = ℕ} 1 0 = cc in omega arith

-- at x = 1/2 the two atoms total 1 and the first 1/2, so 1/2 doesn't come before the end of option 0
half_not_before : Before one_bit half half 2 0 → ⊥
half_not_before b = go b.list b.sample (b.reached (Pick 0 Dot ∷ Pick 1 Dot ∷ []) both_atoms)
  where
    go : (os : List Object) → IsSample (Upto one_bit 2 0) os → AtMost (plus (times half (total half (Pick 0 Dot ∷ Pick 1 Dot ∷ []))) (one_in b.gap b.gap_pos)) (total half os) → ⊥
    go [] s h = let c = h.cross in let p = b.gap_pos in omega arith
    go (o ∷ []) s h =
        let e : o ≡ Pick 0 Dot = only_first o s.each.0 in
        let k = subst (λ q. AtMost (plus (times half (total half (Pick 0 Dot ∷ Pick 1 Dot ∷ []))) (one_in b.gap b.gap_pos)) (total half (q ∷ []))) e h in
        let c = k.cross in let p = b.gap_pos in omega arith
    go (o ∷ q ∷ os) s h = s.distinct.0.0 (only_first q s.each.1.0 ∙ sym (only_first o s.each.0))

-- the greatest option of Z + Z is 1, and not 5
five_not_greatest : IsGreatestOption one_bit 2 5 → ⊥
five_not_greatest g = go g.belongs.0 g.witness g.belongs.1 g.option
  where
    go : (h : ℕ) (o : Object) → HasWithin one_bit h (Some 2) o → option_of o ≡ 5 → ⊥
    go h (Pick zero o) b e = let k : ◌≡◌ {A = ℕ} 0 5 = e in omega arith
    go h (Pick (suc zero) o) b e = let k : ◌≡◌ {A = ℕ} 1 5 = e in omega arith
    go h (Pick (suc (suc i)) o) b e = b
    go h Unit_ b e = b
    go h Dot b e = b
    go h (Tuple os) b e = b
    go h (SeqOf os) b e = b
    go h (SetOf os) b e = b
    go h (CycOf os) b e = b

one_greatest : IsGreatestOption one_bit 2 1
one_greatest = record { above = λ o b. most b.0 o b.1; witness = Pick 1 Dot; belongs = (0, tt); option = refl }
  where
    most : (h : ℕ) (o : Object) → HasWithin one_bit h (Some 2) o → option_of o ≤ 1
    most h (Pick zero o) b = lit≤ tt
    most h (Pick (suc zero) o) b = lit≤ tt
    most h (Pick (suc (suc i)) o) b = elim b [ ]
    most h Unit_ b = elim b [ ]
    most h Dot b = elim b [ ]
    most h (Tuple os) b = elim b [ ]
    most h (SeqOf os) b = elim b [ ]
    most h (SetOf os) b = elim b [ ]
    most h (CycOf os) b = elim b [ ]

-- so the ideal option of 1/2 is 1, and the second atom is made from it
half_ideal : IsIdealOption one_bit half half 2 1
half_ideal = record { none_before = earlier; here = inr one_greatest }
  where
    earlier : (j : ℕ) → j < 1 → ¬ (Before one_bit half half 2 j)
    earlier zero lt b = half_not_before b
    earlier (suc j) lt b = absurd (omega arith)

second_made : Makes one_bit half 2 1000 (half ∷ []) (Just (Pick 1 Dot) 999) []
second_made = making.union (0 ∷ 1 ∷ []) 1 1 (Just Dot 999) refl half_ideal refl (making.atom [] refl) refl

-- without a number nothing is made
no_number : (m : Made) (left : List Fraction) → Makes one_bit half 2 1000 [] m left → ⊥
no_number m left (making.empty word e) = cc
no_number m left (making.atom word e) = cc
no_number m left (making.class c body e f k) = cc
no_number m left (making.product parts n e k f) = cc

-- C = Seq=1(Z): one atom is made at room 1, its one option being at most the room

none_of_none : (u : Fraction) → ¬ (Before single half u 1 0)
none_of_none u b = go b.list b.sample (b.reached [] (record { distinct = tt; each = tt }))
  where
    nothing_upto : (h : ℕ) (o : Object) → HasWithin single h (Some 1) o → option_of o ≤ 0 → ⊥
    nothing_upto h (SeqOf os) k le = let low : 1 ≤ count os = k.0.0 in let up : count os ≤ 0 = le in omega arith
    nothing_upto h Unit_ k le = k
    nothing_upto h Dot k le = k
    nothing_upto h (Pick j o) k le = k
    nothing_upto h (Tuple os) k le = k
    nothing_upto h (SetOf os) k le = k
    nothing_upto h (CycOf os) k le = k

    go : (os : List Object) → IsSample (Upto single 1 0) os → AtMost (plus (times u (whole 0)) (one_in b.gap b.gap_pos)) (total half os) → ⊥
    go [] s h = let c = h.cross in let p = u.positive in omega arith
    go (o ∷ os) s h = nothing_upto s.each.0.0.0 o s.each.0.0.1 s.each.0.1

single_ideal : (u : Fraction) → IsIdealOption single half u 1 1
single_ideal u = record { none_before = earlier; here = inr (record { above = λ o b. most b.0 o b.1; witness = SeqOf (more Dot none); belongs = (0, ((lit≤ tt, lit≤ tt), (tt, tt))); option = refl }) }
  where
    earlier : (j : ℕ) → j < 1 → ¬ (Before single half u 1 j)
    earlier zero lt b = none_of_none u b
    earlier (suc j) lt b = absurd (omega arith)

    most : (h : ℕ) (o : Object) → HasWithin single h (Some 1) o → option_of o ≤ 1
    most h (SeqOf os) b = let up : count os ≤ 1 = b.0.1 in omega arith
    most h Unit_ b = elim b [ ]
    most h Dot b = elim b [ ]
    most h (Pick j o) b = elim b [ ]
    most h (Tuple os) b = elim b [ ]
    most h (SetOf os) b = elim b [ ]
    most h (CycOf os) b = elim b [ ]

single_made : (u : Fraction) → Makes single half 1 1 (u ∷ []) (Just (SeqOf (more Dot none)) 0) []
single_made u = making.counted (Node.Seq 0) 0 1 SeqOf (All (more Dot none) 0) refl (refl, refl) (single_ideal u) (inl (lit≤ tt)) (making.first Dot 0 (All none 0) (making.atom [] refl) making.done refl) refl

-- F = Seq=3(E): at room 0 it isn't over, since the part has an object of size 0

neutral_each : (i : ℕ) {room : ℕ} {us left : List Fraction} (m : AllMade) → MakesEach ranged half (replicate i 4) room us m left → m ≡ AllOver → ⊥
neutral_each zero m making.done e = cc
neutral_each (suc i) m (making.over h) e = neutral_over h refl
  where
    neutral_over : {room : ℕ} {us left : List Fraction} {r : Made} → Makes ranged half 4 room us r left → r ≡ Over → ⊥
    neutral_over (making.empty word at) q = cc
    neutral_over (making.atom word at) q = cc
    neutral_over (making.no_room word at) q = cc
    neutral_over (making.class c body at of_class k) q = cc
    neutral_over (making.union parts j part n at ideal there k f) q = cc
    neutral_over (making.product parts n at k f) q = cc
    neutral_over (making.counted node part j form n at kind ideal small k f) q = let d : node ≡ Node.Empty [] = cc in let z : IsCounted (Node.Empty []) part form = subst (λ d. IsCounted d part form) d kind in z
    neutral_over (making.too_many node part form at kind never no_zero) q = let d : node ≡ Node.Empty [] = cc in let z : IsCounted (Node.Empty []) part form = subst (λ d. IsCounted d part form) d kind in z
neutral_each (suc i) m (making.first o between (All os r) h k f) e = cc
neutral_each (suc i) m (making.first o between AllOver h k f) e = neutral_each i AllOver k refl

counts_neutral : (node : Node) (part : ℕ) (form : Objects → Object) → node_at ranged 5 ≡ Some node → IsCounted node part form → part ≡ 4
counts_neutral node part form at kind = let d : node ≡ Node.Seq 4 = cc in let z : IsCounted (Node.Seq 4) part form = subst (λ d. IsCounted d part form) d kind in sym z.0

three_not_over : {us left : List Fraction} (r : Made) → Makes ranged half 5 0 us r left → r ≡ Over → ⊥
three_not_over r (making.empty word at) q = cc
three_not_over r (making.no_room word at) q = cc
three_not_over r (making.class c body at of_class k) q = cc
three_not_over r (making.union parts j part n at ideal there k f) q = cc
three_not_over r (making.product parts n at k f) q = cc
three_not_over r (making.counted node part j form (All os room) at kind ideal small k f) q = cc
three_not_over r (making.counted {us = us} {left = left} node part j form AllOver at kind ideal small k f) q = neutral_each j AllOver (subst (λ p. MakesEach ranged half (replicate j p) 0 us AllOver left) (counts_neutral node part form at kind) k) refl
three_not_over r (making.too_many node part form at kind never no_zero) q = no_zero (subst (HasZero ranged) (sym (counts_neutral node part form at kind)) (record { object = Unit_; belongs = (0, tt); no_atom = refl }))

-- C = E: an attempt of the least size isn't thrown away

abbrev any_size : Window
any_size = record { min = 0; max = 0; count = 1 }

neutral_makes : {room : ℕ} {us left : List Fraction} (m : Made) → Makes neutral half 0 room us m left → m ≡ Just Unit_ room
neutral_makes m (making.empty word at) = refl
neutral_makes m (making.atom word at) = cc
neutral_makes m (making.no_room word at) = cc
neutral_makes m (making.class c body at of_class k) = cc
neutral_makes m (making.union parts j part n at ideal there k f) = cc
neutral_makes m (making.product parts n at k f) = cc
neutral_makes m (making.counted node part j form n at kind ideal small k f) = absurd (let d : node ≡ Node.Empty [] = cc in let z : IsCounted (Node.Empty []) part form = subst (λ d. IsCounted d part form) d kind in z)
neutral_makes m (making.too_many node part form at kind never no_zero) = absurd (let d : node ≡ Node.Empty [] = cc in let z : IsCounted (Node.Empty []) part form = subst (λ d. IsCounted d part form) d kind in z)

class_makes : {room : ℕ} {us left : List Fraction} (m : Made) → ClassMakes neutral half 0 room us m left → m ≡ Just Unit_ room
class_makes {room} {us} {left} m k = let e : 0 ≡ k.0 = cc in neutral_makes m (subst (λ b. Makes neutral half b room us m left) (sym e) k.2)

not_empty : {A : Type 0} (xs : List A) (x : A) → [] ≡ xs ++ x ∷ [] → ⊥
not_empty [] x e = cc
not_empty (y ∷ xs) x e = cc

not_thrown : {us left : List Fraction} (thrown : ℕ) → IdealRun neutral half any_size us [] thrown left → thrown ≡ 1 → ⊥
not_thrown thrown run.start e = omega arith
not_thrown thrown (run.thrown_over h more_wanted k) e = let q : Over ≡ Just Unit_ 0 = class_makes Over k in cc
not_thrown thrown (run.thrown_small o room h more_wanted k small) e = let none_smaller : size o < 0 = small in omega arith
not_thrown thrown (run.keeps {kept = kept} o room labels h more_wanted k large labelled now_is) e = not_empty kept (record { object = o; labels = labels }) now_is
