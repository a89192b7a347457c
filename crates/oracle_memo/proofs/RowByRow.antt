-- Rows that are written one after another.
use Rattle.std.proofs.Common.{◌≡◌, ℕ, zero, suc, ◌+◌, ◌-◌, ◌*◌, ◌<◌, ◌≤◌, ◌≢◌, ◌⊎◌, min, max, cond, List, [], ◌∷◌, map, length, Option, Some, None, refl, sym, ap, ◌∙◌, arith, add-one, eq-eqb, inl, inr, ⊎_elim, get_or-set_other, get_or-set_same, below_more, set}
use Rattle.std.specs.Prelude.{slice_index, unwrap_or}
use Rattle.std.proofs.lemmas.Bool.{ne_eqb, cases_lt}
use Rattle.std.proofs.lemmas.Nat.{mul-add-lt}
use Rattle.bz_model.specs.declared.cell.Bounds.{Bounds}
use Rattle.fixed_enclosure.specs.Rounded.{greatest}
use Rattle.rounded_map.specs.RoundedMap.{Setting, value_at, values_down, values_up}
use Rattle.oracle_memo.specs.Levels.{level_down_from, level_up, lesser_value, bound_down_from, bound_up, level_bounds_from}
use Rattle.oracle_memo.specs.Memos.{widest_bounds, bounds_at, bounds_before, drawn_in, HasRows}

-- A row begins at 0, or after a whole row.
pub start-cases : (rows n start : ℕ) → start ≡ rows * n → (start ≡ 0) ⊎ (n ≤ start)
start-cases zero n start at = inl (omega arith)
start-cases (suc rows) n start at = inr (omega arith)

-- In the first row there are no bounds before, in the others those of the row before.
pub before-first : (table : List Bounds) (n start e : ℕ) → start ≡ 0 → bounds_before table n start e ≡ widest_bounds
before-first table n start e at = ap (λ b. cond b widest_bounds (bounds_at table (start - n + e))) (eq-eqb start 0 at)

pub before-later : (table : List Bounds) (n start e i : ℕ) → 0 < start → i ≡ start - n + e → bounds_before table n start e ≡ bounds_at table i
before-later table n start e i some at = ap (λ b. cond b widest_bounds (bounds_at table (start - n + e))) (ne_eqb start 0 (λ none. omega arith)) ∙ ap (bounds_at table) (sym at)

-- The bounds before a row stay where the places before it do.
pub before-same : (old new : List Bounds) (n start e : ℕ) → (start ≡ 0) ⊎ (n ≤ start) → e < n → ((i : ℕ) → i < start → bounds_at new i ≡ bounds_at old i) → bounds_before new n start e ≡ bounds_before old n start e
before-same old new n start e (inl at) within same = before-first new n start e at ∙ sym (before-first old n start e at)
before-same old new n start e (inr room) within same =
    before-later new n start e (start - n + e) (omega arith) refl ∙ same (start - n + e) (omega arith) ∙ sym (before-later old n start e (start - n + e) (omega arith) refl)

-- A row is written one place further.
pub written-more : (old table : List Bounds) (n start e : ℕ) (v : Bounds) (lows highs : List ℕ)
    → ((k : ℕ) → k < e → bounds_at table (start + k) ≡ drawn_in (bounds_before old n start k) (slice_index lows k) (slice_index highs k))
    → start + e < length table → v ≡ drawn_in (bounds_before old n start e) (slice_index lows e) (slice_index highs e)
    → (k : ℕ) → k < e + 1 → bounds_at (set table (start + e) v) (start + k) ≡ drawn_in (bounds_before old n start k) (slice_index lows k) (slice_index highs k)
written-more old table n start e v lows highs before room is =
    below_more (λ k. bounds_at (set table (start + e) v) (start + k) ≡ drawn_in (bounds_before old n start k) (slice_index lows k) (slice_index highs k)) e
    (λ k below. let other : start + k ≢ start + e = omega arith in get_or-set_other table (start + e) (start + k) v widest_bounds other ∙ before k below)
    (get_or-set_same table (start + e) v widest_bounds room ∙ is)

-- Where a table agrees with an old one before place start, it still does after a write at or past
-- start.
pub others-stay : (old table : List Bounds) (start e : ℕ) (v : Bounds) → ((i : ℕ) → i < start → bounds_at table i ≡ bounds_at old i) → (i : ℕ) → i < start → bounds_at (set table (start + e) v) i ≡ bounds_at old i
others-stay old table start e v same i below = let other : i ≢ start + e = omega arith in get_or-set_other table (start + e) i v widest_bounds other ∙ same i below

-- The bounds at a level, from those at the level before and the values.
value-copied : (highs : List ℕ) (e : ℕ) → e < length highs → value_at (map Some highs) e ≡ Some (slice_index highs e)
value-copied [] e within = absurd (omega arith)
value-copied (h ∷ highs) zero within = refl
value-copied (h ∷ highs) (suc e) within = value-copied highs e (omega arith)

upper-drawn : (g : ℕ) (o w : Option ℕ) (h : ℕ) → w ≡ Some h → h ≤ g → min (unwrap_or o g) h ≡ unwrap_or (lesser_value o w) g
upper-drawn g None w h is below = let least : min g h ≡ h = omega arith in least ∙ sym (ap (λ (v : Option ℕ). unwrap_or v g) is)
upper-drawn g (Some a) w h is below = sym (ap (λ (v : Option ℕ). unwrap_or (lesser_value (Some a) v) g) is)

module _ (t : Setting) (start_vector base : List ℕ) where
  next-bounds : (level e : ℕ) (lows highs : List ℕ) → lows ≡ values_down t (level_down_from t start_vector (suc level)) → map Some highs ≡ values_up t (level_up t base (suc level)) → e < length highs → slice_index highs e ≤ greatest → drawn_in (level_bounds_from t start_vector base level e) (slice_index lows e) (slice_index highs e) ≡ level_bounds_from t start_vector base (suc level) e
  unfolding bound_down_from bound_up
  next-bounds level e lows highs low high within fits =
      let lo : max (bound_down_from t start_vector level e) (slice_index lows e) ≡ bound_down_from t start_vector (suc level) e = ap (λ (vs : List ℕ). max (bound_down_from t start_vector level e) (slice_index vs e)) low in
      let there : value_at (values_up t (level_up t base (suc level))) e ≡ Some (slice_index highs e) = ap (λ (vs : List (Option ℕ)). value_at vs e) (sym high) ∙ value-copied highs e within in
      let hi : min (unwrap_or (bound_up t base level e) greatest) (slice_index highs e) ≡ unwrap_or (bound_up t base (suc level) e) greatest = upper-drawn greatest (bound_up t base level e) (value_at (values_up t (level_up t base (suc level))) e) (slice_index highs e) there fits in
      cc

  pub rows-none : (table : List Bounds) → HasRows t start_vector base 0 table
  rows-none table = record { at = λ row e below within. absurd (omega arith) }

  -- The bounds before a row are those of the level before.
  before-is : (levels n start e : ℕ) (table : List Bounds) → HasRows t start_vector base levels table → n ≡ length t.spec.nodes → start ≡ levels * n → e < n → bounds_before table n start e ≡ level_bounds_from t start_vector base levels e
  unfolding bound_down_from bound_up
  before-is zero n start e table rows nodes at within = before-first table n start e (omega arith)
  before-is (suc k) n start e table rows nodes at within =
      before-later table n start e (k * n + e) (omega arith) (omega arith)
      ∙ ap (λ (m : ℕ). bounds_at table (k * m + e)) nodes
      ∙ rows.at k e (omega arith) (omega arith)
      ∙ ap (λ (level : ℕ). level_bounds_from t start_vector base level e) (add-one k)

  pub rows-more : (levels more n start : ℕ) (table new : List Bounds) (lows highs : List ℕ)
      → HasRows t start_vector base levels table → more ≡ levels + 1 → n ≡ length t.spec.nodes → start ≡ levels * n
      → ((e : ℕ) → e < n → bounds_at new (start + e) ≡ drawn_in (bounds_before table n start e) (slice_index lows e) (slice_index highs e))
      → ((i : ℕ) → i < start → bounds_at new i ≡ bounds_at table i)
      → lows ≡ values_down t (level_down_from t start_vector more) → map Some highs ≡ values_up t (level_up t base more)
      → length highs ≡ n → ((e : ℕ) → slice_index highs e ≤ greatest) → HasRows t start_vector base more new
  rows-more levels more n start table new lows highs rows one nodes at written others low high lengths fits = record {
    at = λ row e below within.
        elim (cases row (omega arith)) [
          | inl earlier ↦
              let inside : row * n + e < n * levels = mul-add-lt row n e levels earlier (omega arith) in
              ap (λ (m : ℕ). bounds_at new (row * m + e)) (sym nodes) ∙ others (row * n + e) (omega arith) ∙ ap (λ (m : ℕ). bounds_at table (row * m + e)) nodes ∙ rows.at row e earlier within
          | inr last ↦
              let place : row * length t.spec.nodes + e ≡ start + e = ap (λ (m : ℕ). row * m + e) (sym nodes) ∙ ap (λ (l : ℕ). l * n + e) last ∙ ap (λ (m : ℕ). m + e) (sym at) in
              ap (bounds_at new) place ∙ written e (omega arith)
              ∙ ap (λ (b : Bounds). drawn_in b (slice_index lows e) (slice_index highs e)) (before-is levels n start e table rows nodes at (omega arith))
              ∙ next-bounds levels e lows highs (low ∙ ap (λ (m : ℕ). values_down t (level_down_from t start_vector m)) next) (high ∙ ap (λ (m : ℕ). values_up t (level_up t base m)) next) (omega arith) (fits e)
              ∙ ap (λ (m : ℕ). level_bounds_from t start_vector base m e) (sym next ∙ one ∙ ap (λ (l : ℕ). l + 1) (sym last))
        ];
  }
    where
      next : more ≡ suc levels
      next = omega arith

      cases : (row : ℕ) → row < levels + 1 → (row < levels) ⊎ (row ≡ levels)
      cases row below = ⊎_elim inl (λ least. inr (omega arith)) (cases_lt row levels)
