-- A row of classes, each of which leads to whatever stands under a node: no class stands in it twice, so it isn't long.
use Rattle.std.proofs.Common.{◌≡◌, ℕ, ◌<◌, ◌≤◌, inl, inr, List, [], ◌∷◌, length, true, false, eqb, Some, sym, subst}
use Rattle.std.specs.List.{list_any, IsDistinct, AllByRecursion}
use Rattle.std.proofs.lemmas.Bool.Decides.{eqb_tells}
use Rattle.std.proofs.lemmas.Map.Keys.{IsDistinct-cons}
use Rattle.std.proofs.lemmas.Map.Steps.{length-le_from_distinct_below}
use Rattle.std.proofs.lemmas.Option.{slice_get_within}
use Rattle.bz_model.specs.Spec.{Spec, Node, node_at, body_of}
use Rattle.well_founded.specs.Foundedness.{Under, Leads}

-- the classes passed on the way to node e
pub data Chain (s : Spec) (e : ℕ) : List ℕ → Type 0 where
  start : Chain s e []
  after : {c : ℕ} {cs : List ℕ} (body : ℕ) → body_of s c ≡ Some body → ((d : ℕ) → Under s d e → Leads s c d) → AllByRecursion (λ y. eqb c y ≡ false) cs → Chain s e cs → Chain s e (c ∷ cs)

-- Where whatever class stands under node p stands under node e, a row of classes passed on the way
-- to e is one for p.
pub chain-down : {s : Spec} {e p : ℕ} → ((d : ℕ) → Under s d p → Under s d e) → {cs : List ℕ} → Chain s e cs → Chain s p cs
chain-down f Chain.start = Chain.start
chain-down f (Chain.after body b l a ch) = Chain.after body b (λ d u. l d (f d u)) a (chain-down f ch)

chain-further : {s : Spec} {e c body : ℕ} → node_at s e ≡ Some (Node.Class c) → body_of s c ≡ Some body → {cs : List ℕ} → Chain s e cs → Chain s body cs
chain-further q b Chain.start = Chain.start
chain-further {c = c} {body = body} q b (Chain.after x y l a ch) = Chain.after x y (λ d u. Leads.further (l c (Under.here q)) (record { body = body; is_body = b; under = u })) a (chain-further q b ch)

chain-apart : {s : Spec} {e c : ℕ} → ((d : ℕ) → ¬ (Leads s d d)) → node_at s e ≡ Some (Node.Class c) → {cs : List ℕ} → Chain s e cs → AllByRecursion (λ y. eqb c y ≡ false) cs
chain-apart never q Chain.start = tt
chain-apart {s} {c = c} never q (Chain.after {c = d} x y l a ch) = elim (eqb_tells c d) [
  | inl e ↦ absurd (never d (subst (λ z. Leads s d z) e.1 (l c (Under.here q))))
  | inr e ↦ (e.0, chain-apart never q ch)
]

-- a reference makes the row longer
pub chain-into : {s : Spec} {e c body : ℕ} → ((d : ℕ) → ¬ (Leads s d d)) → node_at s e ≡ Some (Node.Class c) → body_of s c ≡ Some body → {cs : List ℕ} → Chain s e cs → Chain s body (c ∷ cs)
chain-into {body = body} never q b ch = Chain.after body b (λ d u. Leads.one (record { body = body; is_body = b; under = u })) (chain-apart never q ch) (chain-further q b ch)

chain-distinct : {s : Spec} {e : ℕ} {cs : List ℕ} → Chain s e cs → IsDistinct eqb cs
unfolding IsDistinct
chain-distinct Chain.start = tt
chain-distinct (Chain.after {c = c} {cs = cs} x y l a ch) = IsDistinct-cons eqb c cs a (chain-distinct ch)

later : (q c : ℕ) (cs : List ℕ) → eqb q c ≡ false → list_any (eqb q) (c ∷ cs) ≡ true → list_any (eqb q) cs ≡ true
later q c cs e h = rw e at h

chain-below : {s : Spec} {e : ℕ} {cs : List ℕ} → Chain s e cs → (q : ℕ) → list_any (eqb q) cs ≡ true → q < length s.bodies
chain-below Chain.start q h = absurd (cc)
chain-below {s} (Chain.after {c = c} {cs = cs} x y l a ch) q h = elim (eqb_tells q c) [
  | inl e ↦ subst (λ z. z < length s.bodies) (sym e.1) (slice_get_within s.bodies c x y)
  | inr e ↦ chain-below ch q (later q c cs e.0 h)
]

-- A row of classes passed on the way to a node is no longer than there are classes.
pub chain-short : {s : Spec} {e : ℕ} {cs : List ℕ} → Chain s e cs → length cs ≤ length s.bodies
chain-short {s} {cs = cs} ch = length-le_from_distinct_below cs (length s.bodies) (chain-distinct ch) (chain-below ch)
