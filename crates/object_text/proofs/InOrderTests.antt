-- The test whether an object stands in order tells just that.
use Rattle.std.proofs.Common.{◌≡◌, ℕ, zero, suc, ◌<◌, ◌≤◌, ◌⊎◌, inl, inr, min, List, [], ◌∷◌, take, drop, arith, refl, sym, ◌∙◌, ap, Bool, true, false, ◌&&◌, Option, Some, None}
use Rattle.std.specs.Prelude.{nat_le, nat_eq}
use Rattle.std.proofs.lemmas.Bool.Decides.{leb_tells, eqb_tells}
use Rattle.bz_model.specs.Object.{Object, Objects, none, more}
use Rattle.bz_model.specs.Object.Object.{Unit_, Dot, Pick, Tuple, SeqOf, SetOf, CycOf}
use Rattle.bz_model.specs.Measures.{size}
use Rattle.bz_model.specs.ObjectText.{lesser_label, least_label}
use Rattle.bz_laws.specs.InOrder.{leasts, IsRisingFrom, IsRising, BeginsWithLeast, StandsInOrder, AllStandInOrder}
use Rattle.bz_laws.proofs.Items.{lesser-assoc, lesser-zero}
use Rattle.object_text.specs.declared.parsed.Kind.{Kind}
use Rattle.object_text.specs.declared.parsed.Kind.TheVariants.{Sequence, Set, Cycle}
use Rattle.object_text.specs.Taken.{follows_mark, next_mark, in_order, parts_in_order}

-- What the mark says of the least labels of the parts that follow.
abbrev Follows : Kind → Option ℕ → List ℕ → Type 0
Follows Sequence mark ls = Unit {0}
Follows Set None ls = IsRising ls
Follows Set (Some a) ls = IsRisingFrom a ls
Follows Cycle None ls = BeginsWithLeast ls
Follows Cycle (Some a) ls = lesser_label a (least_label ls) ≡ a

-- Two tests of which both hold.
both-hold : (a b : Bool) → (a && b) ≡ true → (a ≡ true) × (b ≡ true)
both-hold true b h = (refl, h)
both-hold false b h = absurd (cc)

hold-both : (a b : Bool) → a ≡ true → b ≡ true → (a && b) ≡ true
hold-both true b h k = k
hold-both false b h k = absurd (cc)

le-holds : (a b : ℕ) (t : Bool) → ((t ≡ true) × (a ≤ b)) ⊎ ((t ≡ false) × (b < a)) → t ≡ true → a ≤ b
le-holds a b t (inl h) e = h.1
le-holds a b t (inr h) e = absurd (let f = h.0 in cc)

holds-le : (a b : ℕ) (t : Bool) → ((t ≡ true) × (a ≤ b)) ⊎ ((t ≡ false) × (b < a)) → a ≤ b → t ≡ true
holds-le a b t (inl h) l = h.0
holds-le a b t (inr h) l = absurd (let g = h.1 in omega arith)

eq-holds : (a b : ℕ) (t : Bool) → ((t ≡ true) × (a ≡ b)) ⊎ ((t ≡ false) × ¬ (a ≡ b)) → t ≡ true → a ≡ b
eq-holds a b t (inl h) e = h.1
eq-holds a b t (inr h) e = absurd (let f = h.0 in cc)

holds-eq : (a b : ℕ) (t : Bool) → ((t ≡ true) × (a ≡ b)) ⊎ ((t ≡ false) × ¬ (a ≡ b)) → a ≡ b → t ≡ true
holds-eq a b t (inl h) e = h.0
holds-eq a b t (inr h) e = absurd (h.1 e)

-- what is least of all is least of each
least-first : (a m n : ℕ) → lesser_label (lesser_label a m) n ≡ a → lesser_label a m ≡ a
least-first zero zero n e = refl
least-first zero (suc m) zero e = absurd (omega arith)
least-first zero (suc m) (suc n) e = absurd (omega arith)
least-first (suc a) zero n e = refl
least-first (suc a) (suc m) zero e = go (min (suc a) (suc m)) refl e
  where
    go : (k : ℕ) → min (suc a) (suc m) ≡ k → lesser_label k zero ≡ suc a → min (suc a) (suc m) ≡ suc a
    go zero q e = absurd (omega arith)
    go (suc k) q e = q ∙ e
least-first (suc a) (suc m) (suc n) e = go (min (suc a) (suc m)) refl e
  where
    go : (k : ℕ) → min (suc a) (suc m) ≡ k → lesser_label k (suc n) ≡ suc a → min (suc a) (suc m) ≡ suc a
    go zero q e = absurd (omega arith)
    go (suc k) q e = omega arith

follows-first : (a m : ℕ) (ls : List ℕ) → lesser_label a (least_label (m ∷ ls)) ≡ a → (lesser_label a m ≡ a) × (lesser_label a (least_label ls) ≡ a)
follows-first a m ls e =
    let whole : lesser_label (lesser_label a m) (least_label ls) ≡ a = lesser-assoc a m (least_label ls) ∙ e in
    let first = least-first a m (least_label ls) whole in
    (first, ap (λ z. lesser_label z (least_label ls)) (sym first) ∙ whole)

-- one part more
fits-follows : (kind : Kind) (mark : Option ℕ) (m : ℕ) (ls : List ℕ) → follows_mark kind mark m ≡ true → Follows kind (next_mark kind mark m) ls → Follows kind mark (m ∷ ls)
fits-follows Sequence mark m ls f k = tt
fits-follows Set None m ls f k = k
fits-follows Set (Some a) m ls f k = (le-holds a m (nat_le a m) (leb_tells a m) f, k)
fits-follows Cycle None m ls f k = sym k
fits-follows Cycle (Some a) m ls f k = sym (lesser-assoc a m (least_label ls)) ∙ ap (λ z. lesser_label z (least_label ls)) (eq-holds (lesser_label a m) a (nat_eq (lesser_label a m) a) (eqb_tells (lesser_label a m) a) f) ∙ k

follows-fits : (kind : Kind) (mark : Option ℕ) (m : ℕ) (ls : List ℕ) → Follows kind mark (m ∷ ls) → (follows_mark kind mark m ≡ true) × Follows kind (next_mark kind mark m) ls
follows-fits Sequence mark m ls k = (refl, tt)
follows-fits Set None m ls k = (refl, k)
follows-fits Set (Some a) m ls k = (holds-le a m (nat_le a m) (leb_tells a m) k.0, k.1)
follows-fits Cycle None m ls k = (refl, sym k)
follows-fits Cycle (Some a) m ls k =
    let f = follows-first a m ls k in
    (holds-eq (lesser_label a m) a (nat_eq (lesser_label a m) a) (eqb_tells (lesser_label a m) a) f.0, f.1)

mark-alone : (kind : Kind) (mark : Option ℕ) → Follows kind mark []
mark-alone Sequence mark = tt
mark-alone Set None = tt
mark-alone Set (Some a) = tt
mark-alone Cycle None = tt
mark-alone Cycle (Some a) = lesser-zero a

mutual
  pub test-stands : (o : Object) (l : List ℕ) → in_order o l ≡ true → StandsInOrder o l
  test-stands Unit_ l h = tt
  test-stands Dot l h = tt
  test-stands (Pick i o) l h = test-stands o l h
  test-stands (Tuple os) l h = (test-parts Sequence None os l h).1
  test-stands (SeqOf os) l h = (test-parts Sequence None os l h).1
  test-stands (SetOf os) l h = test-parts Set None os l h
  test-stands (CycOf os) l h = test-parts Cycle None os l h

  test-parts : (kind : Kind) (mark : Option ℕ) (os : Objects) (l : List ℕ) → parts_in_order kind mark os l ≡ true → Follows kind mark (leasts os l) × AllStandInOrder os l
  test-parts kind mark none l h = (mark-alone kind mark, tt)
  test-parts kind mark (more o os) l h =
      let a = both-hold (in_order o (take (size o) l)) _ h in
      let b = both-hold (follows_mark kind mark (least_label (take (size o) l))) _ a.1 in
      let r = test-parts kind (next_mark kind mark (least_label (take (size o) l))) os (drop (size o) l) b.1 in
      (fits-follows kind mark (least_label (take (size o) l)) (leasts os (drop (size o) l)) b.0 r.0, (test-stands o (take (size o) l) a.0, r.1))

mutual
  pub stands-test : (o : Object) (l : List ℕ) → StandsInOrder o l → in_order o l ≡ true
  stands-test Unit_ l h = refl
  stands-test Dot l h = refl
  stands-test (Pick i o) l h = stands-test o l h
  stands-test (Tuple os) l h = parts-test Sequence None os l tt h
  stands-test (SeqOf os) l h = parts-test Sequence None os l tt h
  stands-test (SetOf os) l h = parts-test Set None os l h.0 h.1
  stands-test (CycOf os) l h = parts-test Cycle None os l h.0 h.1

  parts-test : (kind : Kind) (mark : Option ℕ) (os : Objects) (l : List ℕ) → Follows kind mark (leasts os l) → AllStandInOrder os l → parts_in_order kind mark os l ≡ true
  parts-test kind mark none l f h = refl
  parts-test kind mark (more o os) l f h =
      let k = follows-fits kind mark (least_label (take (size o) l)) (leasts os (drop (size o) l)) f in
      hold-both (in_order o (take (size o) l)) _ (stands-test o (take (size o) l) h.0)
      (hold-both (follows_mark kind mark (least_label (take (size o) l))) _ k.0 (parts-test kind (next_mark kind mark (least_label (take (size o) l))) os (drop (size o) l) k.1 h.1))
