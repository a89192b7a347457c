-- An attempt that belongs still belongs after a visit, and what it made or overshot is ideal.
use Rattle.std.proofs.Common.{◌≡◌, ◌⊎◌, ℕ, zero, suc, ◌<◌, ◌≤◌, List, [], ◌∷◌, ◌++◌, length, replicate, subst, append-nil, Some, slice_get}
use Rattle.bz_model.specs.declared.cell.Cell.{Cell}
use Rattle.bz_model.specs.Fraction.{Fraction}
use Rattle.bz_model.specs.Spec.{Spec, Node, node_at, body_of}
use Rattle.bz_model.specs.Cell.{IsInCell}
use Rattle.bz_model.specs.Object.{Object, Objects}
use Rattle.bz_model.specs.Measures.{HasZero}
use Rattle.bz_model.specs.Ideal.{IsIdealOption}
use Rattle.bz_model.specs.Making.{IsCounted}
use Rattle.bz_laws.proofs.Samples.{AllByRecursion-append}
use Rattle.class_system.specs.Sound.{IsSound}
use Rattle.object_store.specs.declared.token.Token.{Token}
use Rattle.object_store.specs.declared.token.Token.TheVariants as token
use Rattle.object_store.specs.Walk.{AllBelow}
use Rattle.object_store.proofs.InRange.{body-below, union-parts, product-parts, replicate-below}
use Rattle.choice_draw.specs.IdealOfCell.{IsIdealOfCell, IsOverOfCell}
use Rattle.shape_sampler.specs.Visit.{Attempt, Visited, leaf_visited, atom_visited, with_pending, attempt_with_token, with_cell, given_up}
use Rattle.shape_sampler.specs.Belonging.{Belonging, Continues, IsIdealShape, IsIdealOver}
use Rattle.shape_sampler.proofs.Visits.{goes-on, is-over, empty-turns, atom-turns, atom-over, class-turns, product-turns, union-turns, counted-turns, counted-over}
use Rattle.shape_sampler.proofs.Shapes.{ideal-shape}

-- A visit that goes on leaves an attempt that belongs, and the ideal shape where nothing is pending; one that is over is ideally over.
abbrev pub IsIdealVisit : (s : Spec) (x : Fraction) (whole : ℕ) → Visited → Type 0
IsIdealVisit s x whole (Visited.Went a) = Belonging s x whole a × (a.pending ≡ [] → IsIdealShape s x whole a.tokens a.cells)
IsIdealVisit s x whole (Visited.Over a) = IsIdealOver s x whole a.cells
IsIdealVisit s x whole _ = Unit {0}

module _ (s : Spec) (x : Fraction) (whole : ℕ) where
  -- an attempt that goes on as ideal making does
  pub went : (a : Attempt) → AllBelow (length s.nodes) a.pending → Continues s x whole a.tokens a.cells a.room a.pending → IsIdealVisit s x whole (Visited.Went a)
  went a range g = (
    record { in_range = range; goes_on = λ some. g },
    λ none. ideal-shape s x whole a.tokens a.cells a.room (subst (Continues s x whole a.tokens a.cells a.room) none g),
  )

  module _ (a : Attempt) (b : Belonging s x whole a) (e : ℕ) (rest : List ℕ) (pending : a.pending ≡ e ∷ rest) where
    now : Continues s x whole a.tokens a.cells a.room (e ∷ rest)
    now = subst (Continues s x whole a.tokens a.cells a.room) pending (b.goes_on (λ none. let same = pending in cc))

    range : AllBelow (length s.nodes) (e ∷ rest)
    range = subst (AllBelow (length s.nodes)) pending b.in_range

    -- no cell is added
    no-cell : (tokens : List Token) (es : List ℕ) (room : ℕ) → Continues s x whole tokens (a.cells ++ []) room es → Continues s x whole tokens a.cells room es
    no-cell tokens es room g = subst (λ cs. Continues s x whole tokens cs room es) (append-nil a.cells) g

    -- no token is added either
    no-token : (es : List ℕ) (room : ℕ) → Continues s x whole (a.tokens ++ []) (a.cells ++ []) room es → Continues s x whole a.tokens a.cells room es
    no-token es room g = subst (λ ts. Continues s x whole ts a.cells room es) (append-nil a.tokens) (no-cell (a.tokens ++ []) es room g)

    pub ideal-leaf : (word : List ℕ) → node_at s e ≡ Some (Node.Empty word) → IsIdealVisit s x whole (leaf_visited a rest)
    ideal-leaf word at = went (with_pending (attempt_with_token a token.Unit) rest) range.1 (no-cell (a.tokens ++ token.Unit ∷ []) rest a.room (goes-on s x now (empty-turns s x e a.room rest word at)))

    pub ideal-atom : (word : List ℕ) → node_at s e ≡ Some (Node.Atom word) → (room : ℕ) → a.room ≡ room → IsIdealVisit s x whole (atom_visited a rest room)
    ideal-atom word at zero same = subst (IsIdealOver s x whole) (append-nil a.cells) (is-over s x (subst (λ r. Continues s x whole a.tokens a.cells r (e ∷ rest)) same now) (atom-over s x e rest word at))
    ideal-atom word at (suc room) same = went (record (with_pending (attempt_with_token a token.Dot) rest) { room = room }) range.1 (no-cell (a.tokens ++ token.Dot ∷ []) rest room (goes-on s x (subst (λ r. Continues s x whole a.tokens a.cells r (e ∷ rest)) same now) (atom-turns s x e room rest word at)))

    module _ (sound : IsSound s) where
      pub ideal-class : (c body : ℕ) → node_at s e ≡ Some (Node.Class c) → body_of s c ≡ Some body → IsIdealVisit s x whole (Visited.Went (with_pending a (body ∷ rest)))
      ideal-class c body at is_body = went (with_pending a (body ∷ rest)) (body-below s sound c body is_body, range.1) (no-token (body ∷ rest) a.room (goes-on s x now (class-turns s x e c body a.room rest at is_body)))

      pub ideal-product : (parts : List ℕ) → node_at s e ≡ Some (Node.Product parts) → IsIdealVisit s x whole (Visited.Went (with_pending a (parts ++ rest)))
      ideal-product parts at = went (with_pending a (parts ++ rest)) (AllByRecursion-append (λ n. n < length s.nodes) parts rest (product-parts s sound e parts at) range.1) (no-token (parts ++ rest) a.room (goes-on s x now (product-turns s x e a.room parts rest at)))

      pub ideal-union : (parts : List ℕ) (i part : ℕ) (cell : Cell) → node_at s e ≡ Some (Node.Union parts) → slice_get parts i ≡ Some part → ((u : Fraction) → IsInCell cell.k cell.b u → IsIdealOption s x u e i) → IsIdealVisit s x whole (Visited.Went (with_pending (attempt_with_token (with_cell a cell) (token.Pick i)) (part ∷ rest)))
      ideal-union parts i part cell at is_part ideal = went (with_pending (attempt_with_token (with_cell a cell) (token.Pick i)) (part ∷ rest)) (union-parts s sound e parts at i part is_part, range.1) (goes-on s x now (union-turns s x e i part a.room parts rest cell at is_part ideal))

    pub ideal-counted : (i part : ℕ) (node : Node) (form : Objects → Object) (cell : Cell) → node_at s e ≡ Some node → IsCounted node part form → part < length s.nodes → (i ≤ a.room) ⊎ HasZero s part → IsIdealOfCell s x e cell i → IsIdealVisit s x whole (Visited.Went (with_pending (attempt_with_token (with_cell a cell) (token.Count i)) (replicate i part ++ rest)))
    ideal-counted i part node form cell at is part_in small ideal = went (with_pending (attempt_with_token (with_cell a cell) (token.Count i)) (replicate i part ++ rest)) (AllByRecursion-append (λ n. n < length s.nodes) (replicate i part) rest (replicate-below (length s.nodes) i part part_in) range.1) (goes-on s x now (counted-turns s x e i part a.room node form rest cell at is small ideal))

    pub ideal-over : (part : ℕ) (node : Node) (form : Objects → Object) (cell : Cell) → node_at s e ≡ Some node → IsCounted node part form → ¬ (HasZero s part) → IsOverOfCell s x e cell a.room → IsIdealVisit s x whole (Visited.Over (given_up (with_cell a cell)))
    ideal-over part node form cell at is no_zero never = is-over s x now (counted-over s x e part a.room node form rest cell at is no_zero never)
