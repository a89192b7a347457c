-- From pass to pass at one size: what the classes have is reached, and a pass that changes nothing is settled.
use Rattle.std.proofs.Common.{◌≡◌, ℕ, zero, suc, ◌^◌, ◌<◌, ◌≤◌, ◌⊎◌, inl, inr, List, [], ◌∷◌, length, replicate, Option, Some, None, arith, refl, sym, ◌∙◌, ap, subst}
use Rattle.std.specs.Prelude.{slice_get, unwrap_or}
use Rattle.std.proofs.lemmas.Bool.{cases_lt}
use Rattle.std.proofs.lemmas.Option.{slice_get_past}
use Rattle.bz_model.specs.Spec.{Spec, Node, node_at, body_of}
use Rattle.bz_model.specs.Object.{Object}
use Rattle.bz_model.specs.Totals.{IsSample}
use Rattle.bz_laws.specs.Sound.{IsLaidOut}
use Rattle.rank_tables.specs.Capped.{Tells, IsSameUpTo, AreRows, AreCounted, IsOfClass, IsSettled}
use Rattle.rank_tables.specs.Filling.{count_of_class, IsPass, ChangesSize}
use Rattle.rank_tables.specs.Grids.{Cells, cell, number_of, number_at}
use Rattle.rank_tables.specs.TableRule.{rule, entry_of_body, entries, IsRankable}
use Rattle.rank_tables.proofs.Reached.{entries-reached}
use Rattle.rank_tables.proofs.Same.{rule-same}

abbrev cap : ℕ
cap = 2 ^ 128

-- Each class has, at this size, a list of distinct objects that reaches its number.
pub record AreReachedAt (s : Spec) (n : ℕ) (numbers : ℕ → ℕ) : Type 0 where
  pub list : ℕ → List Object
  pub sample : (c : ℕ) → IsSample (IsOfClass s c n) (list c)
  pub number : (c : ℕ) → IsSameUpTo cap (length (list c)) (numbers c)

-- At first no class has an object.
none-number : (k c : ℕ) → count_of_class (replicate k (Some 0)) c ≡ 0
none-number zero c = refl
none-number (suc k) zero = refl
none-number (suc k) (suc c) = none-number k c

-- At the start, when every class has the number 0 at size n, these numbers are reached, by empty
-- lists of objects.
pub none-reached : (s : Spec) (n k : ℕ) (classes : List (Option ℕ)) → classes ≡ replicate k (Some 0) → AreReachedAt s n (count_of_class classes)
none-reached s n k classes is = subst (λ z. AreReachedAt s n (count_of_class z)) (sym is) (record {
  list = λ c. [];
  sample = λ c. record { distinct = tt; each = tt };
  number = λ c. record { same = inl (sym (none-number k c)) };
})

entries-same : (s : Spec) (t u : ℕ → ℕ → ℕ) (n c : ℕ) → ((e : ℕ) → t e n ≡ u e n) → entries s t c n ≡ entries s u c n
entries-same s t u n c same = go (body_of s c)
  where
    go : (b : Option ℕ) → entry_of_body t b n ≡ entry_of_body u b n
    go None = refl
    go (Some body) = same body

same-relation : (a b x y : ℕ) → a ≡ x → b ≡ y → IsSameUpTo cap a b → IsSameUpTo cap x y
same-relation a b x y p q h = subst (λ z. IsSameUpTo cap z y) p (subst (IsSameUpTo cap a) q h)

-- What is settled stays so where no number up to the size was changed.
pub settled-same : (s : Spec) (t u : ℕ → ℕ → ℕ) (m : ℕ) → IsLaidOut s → ((e k : ℕ) → k ≤ m → t e k ≡ u e k) → IsSettled s cap m t → IsSettled s cap m u
settled-same s t u m laid_out same h = record {
  reached = record {
    list = h.reached.list;
    sample = h.reached.sample;
    number = λ c k le. same-relation (length (h.reached.list c k)) (entries s t c k) (length (h.reached.list c k)) (entries s u c k) refl (entries-same s t u k c (λ e. same e k le)) (h.reached.number c k le);
  };
  rows = record {
    rows = λ e k node le at. same-relation (rule (entries s t) t e node k) (t e k) (rule (entries s u) u e node k) (u e k)
        (rule-same (entries s t) (entries s u) t u e k node (laid_out.below e node at) (λ p j lt small. same p j (omega arith)) (λ j lt. same e j (omega arith)) (λ c. entries-same s t u k c (λ d. same d k le)))
        (same e k le) (h.rows.rows e k node le at);
  };
}

same-tells : (v : Option ℕ) (x : ℕ) → Tells v x → IsSameUpTo cap x (number_of v)
same-tells None x h = record { same = inr (h, omega arith) }
same-tells (Some k) x h = record { same = inl (sym h) }

-- One pass at size n, over settled lesser sizes and reached numbers of the classes.
module _ (s : Spec) (laid_out : IsLaidOut s) (rankable : IsRankable s) (n : ℕ) (rows tails : Cells) (classes : List (Option ℕ))
    (below : (m : ℕ) → m < n → IsSettled s cap m (number_at rows)) (here : AreReachedAt s n (count_of_class classes)) (pass : IsPass s classes rows tails n) where
  abbrev entry_by : (c m : ℕ) → (m < n) ⊎ (n ≤ m) → ℕ
  entry_by c m (inl lt) = entries s (number_at rows) c m
  entry_by c m (inr ge) = count_of_class classes c

  abbrev list_by : (c m : ℕ) → (m < n) ⊎ (n ≤ m) → List Object
  list_by c m (inl lt) = (below m lt).reached.list c m
  list_by c m (inr ge) = here.list c

  -- the classes' numbers: those of the bodies below the size, and those of the pass at it
  abbrev entry : ℕ → ℕ → ℕ
  entry c m = entry_by c m (cases_lt m n)

  entry-below : (c m : ℕ) → m < n → (d : (m < n) ⊎ (n ≤ m)) → entry_by c m d ≡ entries s (number_at rows) c m
  entry-below c m lt (inl k) = refl
  entry-below c m lt (inr ge) = absurd (omega arith)

  entry-here : (c : ℕ) → (d : (n < n) ⊎ (n ≤ n)) → entry_by c n d ≡ count_of_class classes c
  entry-here c (inl k) = absurd (omega arith)
  entry-here c (inr ge) = refl

  sample_by : (c m : ℕ) → m ≤ n → (d : (m < n) ⊎ (n ≤ m)) → IsSample (IsOfClass s c m) (list_by c m d)
  sample_by c m le (inl lt) = (below m lt).reached.sample c m (omega arith)
  sample_by c m le (inr ge) = let q : n ≡ m = omega arith in subst (λ z. IsSample (IsOfClass s c z) (here.list c)) q (here.sample c)

  number_by : (c m : ℕ) → m ≤ n → (d : (m < n) ⊎ (n ≤ m)) → IsSameUpTo cap (length (list_by c m d)) (entry_by c m d)
  number_by c m le (inl lt) = (below m lt).reached.number c m (omega arith)
  number_by c m le (inr ge) = here.number c

  are_reached : AreCounted s cap n entry
  are_reached = record { list = λ c m. list_by c m (cases_lt m n); sample = λ c m le. sample_by c m le (cases_lt m n); number = λ c m le. number_by c m le (cases_lt m n) }

  row_by : (e m : ℕ) (node : Node) → m ≤ n → node_at s e ≡ Some node → (m < n) ⊎ (n ≤ m) → IsSameUpTo cap (rule entry (number_at rows) e node m) (number_at rows e m)
  row_by e m node le at (inl lt) = same-relation (rule (entries s (number_at rows)) (number_at rows) e node m) (number_at rows e m) (rule entry (number_at rows) e node m) (number_at rows e m)
      (rule-same (entries s (number_at rows)) entry (number_at rows) (number_at rows) e m node (laid_out.below e node at) (λ p j k small. refl) (λ j k. refl) (λ c. sym (entry-below c m lt (cases_lt m n)))) refl
      ((below m lt).rows.rows e m node (omega arith) at)
  row_by e m node le at (inr ge) =
      let q : n ≡ m = omega arith in
      subst (λ z. IsSameUpTo cap (rule entry (number_at rows) e node z) (number_at rows e z)) q
      (same-relation (rule (λ c j. count_of_class classes c) (number_at rows) e node n) (number_at rows e n) (rule entry (number_at rows) e node n) (number_at rows e n)
      (rule-same (λ c j. count_of_class classes c) entry (number_at rows) (number_at rows) e n node (laid_out.below e node at) (λ p j k small. refl) (λ j k. refl) (λ c. sym (entry-here c (cases_lt n n)))) refl
      (same-tells (cell rows e n) (rule (λ c j. count_of_class classes c) (number_at rows) e node n) (pass.each_number e node at)))

  are_rows : AreRows s cap n entry (number_at rows)
  are_rows = record { rows = λ e m node le at. row_by e m node le at (cases_lt m n) }

  -- the bodies' numbers are reached
  pub next-reached : AreCounted s cap n (entries s (number_at rows))
  next-reached = entries-reached s cap n laid_out rankable entry (number_at rows) are_reached are_rows

  -- the classes take the bodies' numbers
  module _ (new : List (Option ℕ)) (long : length new ≡ length s.bodies) (taken : (c body : ℕ) → body_of s c ≡ Some body → slice_get new c ≡ Some (cell rows body n)) where
    taken-number : (c : ℕ) → entries s (number_at rows) c n ≡ count_of_class new c
    taken-number c = go (body_of s c) refl
      where
        go : (b : Option ℕ) → body_of s c ≡ b → entry_of_body (number_at rows) b n ≡ count_of_class new c
        go (Some body) at = sym (ap (λ o. number_of (unwrap_or o (Some 0))) (taken c body at))
        go None at = elim (cases_lt c (length new)) [
          | inl lt ↦ absurd (none_inside s.bodies c (omega arith) at)
          | inr ge ↦ sym (ap (λ o. number_of (unwrap_or o (Some 0))) (slice_get_past new c ge))
        ]
          where
            none_inside : (xs : List ℕ) (i : ℕ) → i < length xs → slice_get xs i ≡ None → ⊥
            none_inside [] i lt is = omega arith
            none_inside (x ∷ xs) zero lt is = absurd (cc)
            none_inside (x ∷ xs) (suc i) lt is = none_inside xs i (let k : length (x ∷ xs) ≡ suc (length xs) = refl in omega arith) is

    pub taken-reached : AreReachedAt s n (count_of_class new)
    taken-reached = record {
      list = λ c. next-reached.list c n;
      sample = λ c. next-reached.sample c n (omega arith);
      number = λ c. same-relation (length (next-reached.list c n)) (entries s (number_at rows) c n) (length (next-reached.list c n)) (count_of_class new c) refl (taken-number c) (next-reached.number c n (omega arith));
    }

    -- where they had them before, the size is settled
    pub pass-settled : new ≡ classes → IsSettled s cap n (number_at rows)
    pass-settled same = record {
      reached = next-reached;
      rows = record {
        rows = λ e m node le at. same-relation (rule entry (number_at rows) e node m) (number_at rows e m) (rule (entries s (number_at rows)) (number_at rows) e node m) (number_at rows e m)
            (rule-same entry (entries s (number_at rows)) (number_at rows) (number_at rows) e m node (laid_out.below e node at) (λ p j k small. refl) (λ j k. refl) (λ c. known c m le (cases_lt m n))) refl
            (are_rows.rows e m node le at);
      };
    }
      where
        known : (c m : ℕ) → m ≤ n → (d : (m < n) ⊎ (n ≤ m)) → entry_by c m d ≡ entries s (number_at rows) c m
        known c m le (inl lt) = refl
        known c m le (inr ge) = let q : n ≡ m = omega arith in subst (λ z. count_of_class classes c ≡ entries s (number_at rows) c z) q (ap (λ z. count_of_class z c) (sym same) ∙ sym (taken-number c))

-- The lesser sizes stay settled where one size alone is changed.
pub below-kept : (s : Spec) → IsLaidOut s → (n : ℕ) (old new : Cells) → n < old.sizes → ChangesSize n old new → ((m : ℕ) → m < n → IsSettled s cap m (number_at old)) → (m : ℕ) → m < n → IsSettled s cap m (number_at new)
below-kept s laid_out n old new fits changed h m lt = settled-same s (number_at old) (number_at new) m laid_out
    (λ e k le. ap number_of (sym (changed.others e k (omega arith) (λ same. let z : k ≡ n = same in omega arith)))) (h m lt)
