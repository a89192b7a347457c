-- The parts of a node, one after another, are in range where each is.
use Rattle.std.proofs.Common.{◌≡◌, ℕ, suc, ◌-◌, ◌<◌, List, [], ◌∷◌, map, length, get_or, take, drop, arith, ap, subst, sym}
use Rattle.std.proofs.lemmas.List.{take_all}
use Rattle.class_system.specs.Each.{Each}
use Rattle.class_system.specs.Views.{number}
use Rattle.class_system.specs.declared.ids.ExprId.{ExprId}
use Rattle.class_system.proofs.Results.{mapped-at}

-- Where each of some parts is below n and there is a part, the first part is below n.
pub first-in_range : (parts : List ExprId) (n : ℕ) → 0 < length parts → Each (λ p. p < n) (map number parts) → (get_or parts 0 (record { 0 = 0 })).0 < n
first-in_range parts n some each = each.at 0 _ (mapped-at number parts 0 (record { 0 = 0 }) some)

-- Where each of some parts is below n, the part at a place i within their number is below n.
pub part-in_range : (parts : List ExprId) (n i : ℕ) (d : ExprId) → i < length parts → Each (λ p. p < n) (map number parts) → (get_or parts i d).0 < n
part-in_range parts n i d within each = each.at i _ (mapped-at number parts i d within)

-- The parts after the first.
pub rest-in_range : (parts : List ExprId) (n i : ℕ) → i < length (take (length parts - 1) (drop 1 parts)) → Each (λ p. p < n) (map number parts) → (get_or (take (length parts - 1) (drop 1 parts)) i (record { 0 = 0 })).0 < n
rest-in_range [] n i within each = absurd (omega arith)
rest-in_range (p ∷ ps) n i within each =
    let same : take (length (p ∷ ps) - 1) ps ≡ ps = take_all (length (p ∷ ps) - 1) ps (omega arith) in
    let there : i < length ps = omega (arith, ap length same) in
    subst (λ (qs : List ExprId). (get_or qs i (record { 0 = 0 })).0 < n) (sym same) (each.at (suc i) _ (mapped-at number ps i (record { 0 = 0 }) there))
