-- Rows closed one pivot after the other.
use Rattle.std.proofs.Common.{◌≡◌, ℕ, ◌+◌, get_or, ◌<◌, ◌≤◌, ◌⊎◌, ◌↔◌, inl, inr, List, length, Some, arith, refl, sym, ◌∙◌, subst}
use Rattle.std.specs.List.{slice_get}
use Rattle.std.proofs.Math.ListN.{set}
use Rattle.std.proofs.lemmas.Bool.{cases_lt}
use Rattle.std.proofs.lemmas.Option.{slice_get_within, slice_get-get_or}
use Rattle.well_founded.specs.declared.class_set.ClassSet.{ClassSet}
use Rattle.well_founded.specs.Ways.{IsIn, Points, Chain}
use Rattle.well_founded.proofs.Rows.{set-same, set-other, points-along, row-has}

-- The rows below i have got what the pivot has, where they have the pivot; the others are as they were.
pub record WidenedBelow (old new : List ClassSet) (pivot : ℕ) (through : ClassSet) (i : ℕ) : Type 0 where
  pub done : (c : ℕ) → c < i → (d : ℕ) → Points new c d ↔ (Points old c d ⊎ (Points old c pivot × IsIn through d))
  pub rest : (c : ℕ) → i ≤ c → slice_get new c ≡ slice_get old c

-- What the rows have is led to by the old ones, and is closed under the rows below k.
pub record ClosedTo (old new : List ClassSet) (k : ℕ) : Type 0 where
  pub kept : (c d : ℕ) → Points old c d → Points new c d
  pub led : (c d : ℕ) → Points new c d → Chain old c d
  pub closed : (c d e : ℕ) → d < k → Points new c d → Points new d e → Points new c e

-- Rows left as they are count as widened at a pivot below row 0.
pub passed-start : (old : List ClassSet) (pivot : ℕ) (through : ClassSet) → WidenedBelow old old pivot through 0
passed-start old pivot through = record { done = λ c lt d. absurd (omega arith); rest = λ c le. refl }

-- One more row.
module _ (old mid : List ClassSet) (pivot : ℕ) (through v none : ClassSet) (i : ℕ) (h : WidenedBelow old mid pivot through i) (within : i < length mid) (step : (d : ℕ) → IsIn v d ↔ (IsIn (get_or mid i none) d ⊎ (IsIn (get_or mid i none) pivot × IsIn through d))) where
  here : slice_get old i ≡ Some (get_or mid i none)
  here = sym (h.rest i (omega arith)) ∙ slice_get-get_or mid i none within

  at_row : (d : ℕ) → Points (set mid i v) i d ↔ (Points old i d ⊎ (Points old i pivot × IsIn through d))
  at_row d = (down, up)
    where
      down : Points (set mid i v) i d → Points old i d ⊎ (Points old i pivot × IsIn through d)
      down p = elim ((step d).0 (row-has (set mid i v) i d v (set-same mid i v within) p)) [
        | inl q ↦ inl (record { row = get_or mid i none; is_row = here; has = q })
        | inr q ↦ inr (record { row = get_or mid i none; is_row = here; has = q.0 }, q.1)
      ]

      up : Points old i d ⊎ (Points old i pivot × IsIn through d) → Points (set mid i v) i d
      up (inl p) = record { row = v; is_row = set-same mid i v within; has = (step d).1 (inl (row-has old i d (get_or mid i none) here p)) }
      up (inr p) = record { row = v; is_row = set-same mid i v within; has = (step d).1 (inr (row-has old i pivot (get_or mid i none) here p.0, p.1)) }

  earlier : (c : ℕ) → c < i → (d : ℕ) → Points (set mid i v) c d ↔ (Points old c d ⊎ (Points old c pivot × IsIn through d))
  earlier c lt d =
      let same = set-other mid i v c (λ e. omega arith) in
      (λ p. (h.done c lt d).0 (points-along (set mid i v) mid c d same p), λ p. points-along mid (set mid i v) c d (sym same) ((h.done c lt d).1 p))

  pub passed-more : WidenedBelow old (set mid i v) pivot through (i + 1)
  passed-more = record {
    done = λ c lt d. elim (cases_lt c i) [
      | inl less ↦ earlier c less d
      | inr more ↦ subst (λ x. Points (set mid i v) x d ↔ (Points old x d ⊎ (Points old x pivot × IsIn through d))) (same-number c i (omega arith)) (at_row d)
    ];
    rest = λ c le. set-other mid i v c (λ e. omega arith) ∙ h.rest c (omega arith);
  }
    where
      same-number : (a b : ℕ) → a ≡ b → b ≡ a
      same-number a b e = sym e

-- Where all rows are widened at a pivot, row c has d exactly where it had d before, or had the
-- pivot and the pivot's row had d.
pub passed-all : (old new : List ClassSet) (pivot : ℕ) (none : ClassSet) (i : ℕ) → length new ≤ i → pivot < length old → WidenedBelow old new pivot (get_or old pivot none) i → (length new ≡ length old) → (c d : ℕ) → Points new c d ↔ (Points old c d ⊎ (Points old c pivot × Points old pivot d))
passed-all old new pivot none i all within h len c d = (down, up)
  where
    here : slice_get old pivot ≡ Some (get_or old pivot none)
    here = slice_get-get_or old pivot none within

    down : Points new c d → Points old c d ⊎ (Points old c pivot × Points old pivot d)
    down p =
        let w = slice_get_within new c p.row p.is_row in
        elim ((h.done c (omega arith) d).0 p) [
          | inl q ↦ inl q
          | inr q ↦ inr (q.0, record { row = get_or old pivot none; is_row = here; has = q.1 })
        ]

    up : Points old c d ⊎ (Points old c pivot × Points old pivot d) → Points new c d
    up (inl p) = let w = slice_get_within old c p.row p.is_row in (h.done c (omega arith) d).1 (inl p)
    up (inr p) = let w = slice_get_within old c p.0.row p.0.is_row in (h.done c (omega arith) d).1 (inr (p.0, row-has old pivot d (get_or old pivot none) here p.1))

-- One more pivot.
pub chain-join : {rows : List ClassSet} {c d e : ℕ} → Chain rows c d → Chain rows d e → Chain rows c e
chain-join l (Chain.one p) = Chain.further l p
chain-join l (Chain.further m p) = Chain.further (chain-join l m) p

-- Where rows are closed under the rows below k, widening each row that has k by row k makes them
-- closed under those below k + 1.
pub closed-more : (old mid new : List ClassSet) (k : ℕ) → ClosedTo old mid k → ((c d : ℕ) → Points new c d ↔ (Points mid c d ⊎ (Points mid c k × Points mid k d))) → ClosedTo old new (k + 1)
closed-more old mid new k h step = record {
  kept = λ c d p. (step c d).1 (inl (h.kept c d p));
  led = λ c d p. elim ((step c d).0 p) [ inl q ↦ h.led c d q | inr q ↦ chain-join (h.led c k q.0) (h.led k d q.1) ];
  closed = λ c d e lt p q. elim (cases_lt d k) [ inl less ↦ below c d e less p q | inr more ↦ (let same : d ≡ k = omega arith in at_pivot c e (subst (λ x. Points new c x) same p) (subst (λ x. Points new x e) same q)) ];
}
  where
    -- a row has the pivot after the pass only if it had it before
    had : (c : ℕ) → Points new c k → Points mid c k
    had c p = elim ((step c k).0 p) [ inl q ↦ q | inr q ↦ q.0 ]

    -- and the pivot's row stays
    stays : (e : ℕ) → Points new k e → Points mid k e
    stays e p = elim ((step k e).0 p) [ inl q ↦ q | inr q ↦ q.1 ]

    at_pivot : (c e : ℕ) → Points new c k → Points new k e → Points new c e
    at_pivot c e p q = (step c e).1 (inr (had c p, stays e q))

    below : (c d e : ℕ) → d < k → Points new c d → Points new d e → Points new c e
    below c d e lt p q = elim ((step c d).0 p) [
      | inl a ↦ elim ((step d e).0 q) [
        | inl b ↦ (step c e).1 (inl (h.closed c d e lt a b))
        | inr b ↦ (step c e).1 (inr (h.closed c d k lt a b.0, b.1))
      ]
      | inr a ↦ elim ((step d e).0 q) [
        | inl b ↦ (step c e).1 (inr (a.0, h.closed k d e lt a.1 b))
        | inr b ↦ (step c e).1 (inr (a.0, b.1))
      ]
    ]

-- Rows left as they are count as closed under the rows below 0.
pub closed-start : (old : List ClassSet) → ClosedTo old old 0
closed-start old = record {
  kept = λ c d p. p;
  led = λ c d p. Chain.one p;
  closed = λ c d e lt p q. absurd (omega arith);
}

-- After the last pivot the rows have all that the old ones lead to.
pub closed-all : (old new : List ClassSet) (k : ℕ) → length new ≤ k → ClosedTo old new k → (c d : ℕ) → Points new c d ↔ Chain old c d
closed-all old new k all h c d = (h.led c d, up)
  where
    up : {d : ℕ} → Chain old c d → Points new c d
    up {d} (Chain.one p) = h.kept c d p
    up {d = e} (Chain.further {d = d} l p) =
        let q = h.kept d e p in
        let w = slice_get_within new d q.row q.is_row in
        h.closed c d e (omega arith) (up l) q
