-- Where the steps from class to class lead, from the sets of the classes' bodies.
use Rattle.std.proofs.Common.{◌≡◌, ℕ, suc, ◌+◌, ◌<◌, ◌≤◌, ◌↔◌, inl, inr, List, [], ◌∷◌, ◌++◌, length, map, get_or, Some, arith, refl, sym, ◌∙◌, subst, ap}
use Rattle.std.specs.List.{slice_get}
use Rattle.std.proofs.lemmas.Bool.{cases_lt}
use Rattle.std.proofs.lemmas.Option.{slice_get_within, same_Some}
use Rattle.bz_model.specs.Spec.{Spec}
use Rattle.class_system.specs.Views.{number}
use Rattle.class_system.specs.declared.ids.ExprId.{ExprId}
use Rattle.class_system.proofs.Results.{mapped-at}
use Rattle.well_founded.specs.declared.class_set.ClassSet.{ClassSet}
use Rattle.well_founded.specs.Foundedness.{Under, StepsTo, Leads}
use Rattle.well_founded.specs.Ways.{IsIn, Points, Chain, BodyPoints}
use Rattle.well_founded.proofs.Rows.{set-count, points-last, points-earlier}

-- A row for each of the first i bodies.
pub record RowsTo (sets : List ClassSet) (bodies : List ExprId) (rows : List ClassSet) (i : ℕ) : Type 0 where
  pub one_each : length rows ≡ i
  pub exact : (c d : ℕ) → c < i → Points rows c d ↔ BodyPoints sets (map number bodies) c d

pub rows-start : (sets : List ClassSet) (bodies : List ExprId) → RowsTo sets bodies [] 0
rows-start sets bodies = record { one_each = refl; exact = λ c d lt. absurd (omega arith) }

module _ (sets : List ClassSet) (bodies : List ExprId) (rows : List ClassSet) (set : ClassSet) (i : ℕ) (none : ExprId) (h : RowsTo sets bodies rows i) (within : i < length bodies) (step : (d : ℕ) → IsIn set d ↔ Points sets (number (get_or bodies i none)) d) where
  here : slice_get (map number bodies) i ≡ Some (number (get_or bodies i none))
  here = mapped-at number bodies i none within

  row-here : (d : ℕ) → Points (rows ++ (set ∷ [])) i d ↔ BodyPoints sets (map number bodies) i d
  row-here d =
      let last = subst (λ x. Points (rows ++ (set ∷ [])) x d ↔ IsIn set d) h.one_each (points-last rows set d) in (
        λ p. record { body = number (get_or bodies i none); is_body = here; points = (step d).0 (last.0 p) },
        λ b. last.1 ((step d).1 (subst (λ x. Points sets x d) (same_Some b.body (number (get_or bodies i none)) (sym b.is_body ∙ here)) b.points)),
      )

  pub rows-more : RowsTo sets bodies (rows ++ (set ∷ [])) (i + 1)
  rows-more = record {
    one_each = set-count rows set ∙ ap (λ n. n + 1) h.one_each;
    exact = λ c d lt. elim (cases_lt c i) [
      | inl less ↦ (let same = points-earlier rows set c d (let l = h.one_each in omega arith) in (λ p. (h.exact c d less).0 (same.0 p), λ b. same.1 ((h.exact c d less).1 b)))
      | inr more ↦ subst (λ x. Points (rows ++ (set ∷ [])) x d ↔ BodyPoints sets (map number bodies) x d) (same-number c (omega arith)) (row-here d)
    ];
  }
    where
      same-number : (c : ℕ) → c ≡ i → i ≡ c
      same-number c q = sym q

length-numbers : (bodies : List ExprId) → length (map number bodies) ≡ length bodies
length-numbers [] = refl
length-numbers (b ∷ bs) = ap suc (length-numbers bs)

-- Where there is a row for each body, row c has d exactly where the set of the body of class c has
-- d.
pub rows-all : (sets : List ClassSet) (bodies : List ExprId) (rows : List ClassSet) (i : ℕ) → length bodies ≤ i → RowsTo sets bodies rows i → (c d : ℕ) → Points rows c d ↔ BodyPoints sets (map number bodies) c d
rows-all sets bodies rows i all h c d = (
  λ p. (let w = slice_get_within rows c p.row p.is_row in let l = h.one_each in (h.exact c d (omega arith)).0 p),
  λ b. (let w = slice_get_within (map number bodies) c b.body b.is_body in let l = length-numbers bodies in (h.exact c d (omega arith)).1 b),
)

-- The rows are the steps, so that chains of rows are ways along steps.
pub chain-leads : (s : Spec) (sets rows new : List ClassSet) (bodies : List ExprId) → ((e d : ℕ) → Points sets e d ↔ Under s d e) → map number bodies ≡ s.bodies → ((c d : ℕ) → Points rows c d ↔ BodyPoints sets (map number bodies) c d) → ((c d : ℕ) → Points new c d ↔ Chain rows c d) → (c d : ℕ) → Points new c d ↔ Leads s c d
chain-leads s sets rows new bodies f same g closed c d = (λ p. down ((closed c d).0 p), λ l. (closed c d).1 (up l))
  where
    step : (c d : ℕ) → Points rows c d → StepsTo s c d
    step c d p = let b = (g c d).0 p in record { body = b.body; is_body = subst (λ xs. slice_get xs c ≡ Some b.body) same b.is_body; under = (f b.body d).0 b.points }

    row : (c d : ℕ) → StepsTo s c d → Points rows c d
    row c d t = (g c d).1 (record { body = t.body; is_body = subst (λ xs. slice_get xs c ≡ Some t.body) (sym same) t.is_body; points = (f t.body d).1 t.under })

    down : {d : ℕ} → Chain rows c d → Leads s c d
    down {d} (Chain.one p) = Leads.one (step c d p)
    down {d = e} (Chain.further {d = d} l p) = Leads.further (down l) (step d e p)

    up : {d : ℕ} → Leads s c d → Chain rows c d
    up {d} (Leads.one t) = Chain.one (row c d t)
    up {d = e} (Leads.further {d = d} l t) = Chain.further (up l) (row d e t)
