-- How the sum of a derivative's terms runs, term by term, as the code makes it.
use Rattle.std.specs.Prelude.{ℕ, suc, ◌+◌, nat_lt, List, [], ◌∷◌, Option, None, if◌then◌else◌}
use Rattle.fixed_enclosure.specs.Rounded.{Side, fits, if_fits}
use Rattle.series_bounds.specs.Series.{Kind, terms}
use Rattle.rounded_map.specs.Derivative.{slope_kind, slope_term, slope_sum}

-- What the derivative adds for j parts from low on, p being the term j - 1: nothing before low.
abbrev pub slope_kept : Kind → (low j p : ℕ) → ℕ
slope_kept kind low j p = if nat_lt j low then 0 else slope_term kind j p

-- The sum s, with what the terms of a list add, the first for j parts. It has no value where a term
-- or the sum doesn't fit.
abbrev pub slope_run : Kind → (low j s : ℕ) → List ℕ → Option ℕ
slope_run kind low j s [] = if_fits s
slope_run kind low j s (p ∷ ps) = let further =
    slope_run kind low (suc j) (s + slope_kept kind low j p) ps in if fits p then further else None

-- The sum of what the derivative adds from low parts to high parts.
unfoldable pub slope_between : Kind → (f low high v : ℕ) → Option ℕ
slope_between kind f low high v = slope_sum kind low (terms Side.Up (slope_kind kind) f v high)
