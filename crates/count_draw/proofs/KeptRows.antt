-- A row is one of a filling whatever its room.
use Rattle.std.proofs.Common.{◌≡◌, ℕ, sym, subst}
use Rattle.count_draw.specs.declared.prefix_sums.LowerRow.{LowerRow}
use Rattle.count_draw.specs.declared.prefix_sums.UpperRow.{UpperRow}
use Rattle.count_draw.specs.Table.{Filling}
use Rattle.count_draw.specs.Row.{IsLowerRow, IsUpperRow, roomless}

lower_roomless : (f : ℕ) (t : Filling) (row : LowerRow) → IsLowerRow f t row → IsLowerRow f (roomless t) row
lower_roomless f t row h = record {
  kept = record {
    many = h.kept.many;
    inside = h.kept.inside;
    stands = record { carried_to = h.kept.stands.carried_to; small = h.kept.stands.small; fitting = h.kept.stands.fitting; summed = h.kept.stands.summed };
    at = h.kept.at;
  };
  far = record { carried_to = h.far.carried_to; small = h.far.small; fitting = h.far.fitting; summed = h.far.summed };
}

upper_roomless : (f : ℕ) (t : Filling) (row : UpperRow) → IsUpperRow f t row → IsUpperRow f (roomless t) row
upper_roomless f t row h = record {
  kept = record {
    many = h.kept.many;
    inside = h.kept.inside;
    stands = record { carried_to = h.kept.stands.carried_to; small = h.kept.stands.small; fitting = h.kept.stands.fitting; summed = h.kept.stands.summed };
    at = h.kept.at;
  };
}

-- so it is one of what rows are kept for
pub lower-kept : (f bits : ℕ) (t filling : Filling) (row : LowerRow) → bits ≡ f → filling ≡ roomless t → IsLowerRow f t row → IsLowerRow bits filling row
lower-kept f bits t filling row same_bits same h = subst (λ b. IsLowerRow b filling row) (sym same_bits) (subst (λ (s : Filling). IsLowerRow f s row) (sym same) (lower_roomless f t row h))

-- A row of upper values for a filling is one for the filling with its room left out.
pub upper-kept : (f bits : ℕ) (t filling : Filling) (row : UpperRow) → bits ≡ f → filling ≡ roomless t → IsUpperRow f t row → IsUpperRow bits filling row
upper-kept f bits t filling row same_bits same h = subst (λ b. IsUpperRow b filling row) (sym same_bits) (subst (λ (s : Filling). IsUpperRow f s row) (sym same) (upper_roomless f t row h))
