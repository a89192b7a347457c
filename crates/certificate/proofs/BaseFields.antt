-- The name and the value of a line of the base.
use Rattle.std.proofs.Common.{◌≡◌, ◌≢◌, ℕ, zero, suc, ◌<◌, ◌≤◌, true, List, [], ◌∷◌, ◌++◌, length, take, drop, get_or, arith, refl, sym, ◌∙◌, ap, subst}
use Rattle.std.specs.Prelude.{codes}
use Rattle.std.specs.List.{AllPass}
use Rattle.std.proofs.lemmas.List.{append_cancel_left}
use Rattle.class_system.specs.Words.{IsName, is_run_byte}
use Rattle.certificate.specs.Patterns.{filled, filled_from}
use Rattle.certificate.specs.Fields.{base_line}

-- a name has no space
no-space : (name : List ℕ) → AllPass is_run_byte name → (k : ℕ) → k < length name → get_or name k 0 ≢ 32
no-space name all k lt e = let t : is_run_byte (get_or name k 0) ≡ true = all k 0 lt in let f : is_run_byte 32 ≡ true = ap is_run_byte (sym e) ∙ t in absurd (cc)

value-begins : (value : ℕ) → (tail : List ℕ) × (filled (codes " #") (value ∷ []) ≡ 32 ∷ tail)
unfolding filled_from
value-begins value = (_, refl)

-- a text's first space follows a name
first-space : (name tail : List ℕ) (i : ℕ) → ((k : ℕ) → k < length name → get_or name k 0 ≢ 32) → i ≤ length (name ++ 32 ∷ tail) → (i < length (name ++ 32 ∷ tail) → get_or (name ++ 32 ∷ tail) i 0 ≡ 32) → ((k : ℕ) → k < i → get_or (name ++ 32 ∷ tail) k 0 ≢ 32) → i ≡ length name
first-space [] tail zero none within here before = refl
first-space [] tail (suc i) none within here before = absurd (before 0 (omega arith) refl)
first-space (x ∷ name) tail zero none within here before = absurd (none 0 (omega arith) (here (omega arith)))
first-space (x ∷ name) tail (suc i) none within here before = ap suc (first-space name tail i (λ k h. none (suc k) (omega arith)) (omega arith) (λ h. here (omega arith)) (λ k h. before (suc k) (omega arith)))

front-of : (name rest : List ℕ) → take (length name) (name ++ rest) ≡ name
front-of [] rest = refl
front-of (x ∷ name) rest = ap (λ t. x ∷ t) (front-of name rest)

behind : (name rest : List ℕ) → drop (length name) (name ++ rest) ≡ rest
behind [] rest = refl
behind (x ∷ name) rest = behind name rest

-- The parts of a line of the base.
pub base-parts : (line rest : List ℕ) (i : ℕ) → line ≡ codes "base " ++ rest → i ≤ length rest → ((k : ℕ) → k < i → get_or rest k 0 ≢ 32) → (i < length rest → get_or rest i 0 ≡ 32) → (name : List ℕ) (value : ℕ) → IsName name → line ≡ base_line name value → (take i rest ≡ name) × (drop i rest ≡ filled (codes " #") (value ∷ []))
base-parts line rest i e within before here name value is f = go (value-begins value)
  where
    whole : rest ≡ name ++ filled (codes " #") (value ∷ [])
    whole = append_cancel_left (codes "base ") rest (name ++ filled (codes " #") (value ∷ [])) (sym e ∙ f)

    go : (tail : List ℕ) × (filled (codes " #") (value ∷ []) ≡ 32 ∷ tail) → (take i rest ≡ name) × (drop i rest ≡ filled (codes " #") (value ∷ []))
    go (tail, t) =
        let u : rest ≡ name ++ 32 ∷ tail = whole ∙ ap (λ z. name ++ z) t in
        let at : i ≡ length name = first-space name tail i (no-space name is.run)
        (subst (λ z. i ≤ length z) u within) (subst (λ z. i < length z → get_or z i 0 ≡ 32) u here) (subst (λ z. (k : ℕ) → k < i → get_or z k 0 ≢ 32) u before) in (
          ap (λ k. take k rest) at ∙ ap (take (length name)) whole ∙ front-of name (filled (codes " #") (value ∷ [])),
          ap (λ k. drop k rest) at ∙ ap (drop (length name)) whole ∙ behind name (filled (codes " #") (value ∷ [])),
        )
