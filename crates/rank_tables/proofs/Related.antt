-- Counts that stand in a relation to a number, where the relation is passed on by sums and products: with "is" they are exact, with "is at most" they are bounded. So each law on a kind of node is proved once.
use Rattle.std.proofs.Common.{◌≡◌, ℕ, zero, suc, ◌+◌, ◌*◌, ◌<◌, ◌⊎◌, inl, inr, arith, refl, ◌∙◌, ap}
use Rattle.std.proofs.lemmas.Bool.{cases_lt}
use Rattle.rank_tables.specs.Counting.{HasCount}
use Rattle.rank_tables.specs.TableRule.{sum_below}
use Rattle.rank_tables.proofs.Counting.{count-none, count-one, count-either, count-pairs, count-same, count-along}

-- a relation that sums and products pass on
pub record PassesOn (Rel : ℕ → ℕ → Type 0) : Type 0 where
  pub zeros : Rel 0 0
  pub ones : Rel 1 1
  pub sums : (a b c d : ℕ) → Rel a b → Rel c d → Rel (a + c) (b + d)
  pub products : (a b c d : ℕ) → Rel a b → Rel c d → Rel (a * c) (b * d)

-- numbers that are equal pass on
pub same-passes : PassesOn (λ a b. a ≡ b)
same-passes = record {
  zeros = refl;
  ones = refl;
  sums = λ a b c d h k. ap (λ z. z + c) h ∙ ap (λ z. b + z) k;
  products = λ a b c d h k. ap (λ z. z * c) h ∙ ap (λ z. b * z) k;
}

-- the property has a count that is related to the number
pub record CountsAs (Rel : ℕ → ℕ → Type 0) {A : Type 0} (P : A → Type 0) (b : ℕ) : Type 0 where
  pub number : ℕ
  pub counted : HasCount P number
  pub related : Rel number b

-- A count related to b passes from a property to any other that it implies and that implies it.
pub as-same : (Rel : ℕ → ℕ → Type 0) {A : Type 0} (P Q : A → Type 0) {b : ℕ} → ((a : A) → P a → Q a) → ((a : A) → Q a → P a) → CountsAs Rel P b → CountsAs Rel Q b
as-same Rel P Q into back c = record { number = c.number; counted = count-same P Q into back c.counted; related = c.related }

-- A map from P onto Q that is injective on P takes a count of P related to b to a count of Q
-- related to b.
pub as-along : (Rel : ℕ → ℕ → Type 0) {A B : Type 0} (f : A → B) (P : A → Type 0) (Q : B → Type 0) {b : ℕ} → ((a : A) → P a → Q (f a)) → ((a b : A) → P a → P b → f a ≡ f b → a ≡ b) → ((b : B) → Q b → (a : A) × P a × (b ≡ f a)) → CountsAs Rel P b → CountsAs Rel Q b
as-along Rel f P Q into same onto c = record { number = c.number; counted = count-along f P Q into same onto c.counted; related = c.related }

module _ (Rel : ℕ → ℕ → Type 0) (keeps : PassesOn Rel) where
  pub as-none : {A : Type 0} (P : A → Type 0) → ((a : A) → P a → ⊥) → CountsAs Rel P 0
  as-none P never = record { number = 0; counted = count-none P never; related = keeps.zeros }

  pub as-one : {A : Type 0} (P : A → Type 0) (a : A) → P a → ((b : A) → P b → b ≡ a) → CountsAs Rel P 1
  as-one P a p only = record { number = 1; counted = count-one P a p only; related = keeps.ones }

  pub as-either : {A : Type 0} (P Q : A → Type 0) {b c : ℕ} → ((a : A) → P a → Q a → ⊥) → CountsAs Rel P b → CountsAs Rel Q c → CountsAs Rel (λ a. P a ⊎ Q a) (b + c)
  as-either P Q {b} {c} never x y = record { number = x.number + y.number; counted = count-either P Q never x.counted y.counted; related = keeps.sums x.number b y.number c x.related y.related }

  pub as-pairs : {A B : Type 0} (P : A → Type 0) (Q : B → Type 0) {b c : ℕ} → CountsAs Rel P b → CountsAs Rel Q c → CountsAs Rel (λ (p : A × B). P p.0 × Q p.1) (b * c)
  as-pairs P Q {b} {c} x y = record { number = x.number * y.number; counted = count-pairs P Q x.counted y.counted; related = keeps.products x.number b y.number c x.related y.related }

  -- a property with a number below n, counted number by number
  pub as-run : {A : Type 0} (key : A → ℕ) (P : A → Type 0) (f : ℕ → ℕ) (n : ℕ) → ((j : ℕ) → j < n → CountsAs Rel (λ a. P a × (key a ≡ j)) (f j)) → CountsAs Rel (λ a. P a × (key a < n)) (sum_below n f)
  as-run key P f zero each = as-none (λ a. P a × (key a < 0)) (λ a h. let lt = h.1 in omega arith)
  as-run key P f (suc n) each =
      as-same Rel (λ a. (P a × (key a < n)) ⊎ (P a × (key a ≡ n))) (λ a. P a × (key a < suc n))
      (λ a h. elim h [ inl k ↦ (k.0, let lt = k.1 in omega arith) | inr k ↦ (k.0, let e = k.1 in omega arith) ])
      (λ a h. let lt = h.1 in elim (cases_lt (key a) n) [ inl l ↦ inl (h.0, l) | inr g ↦ inr (h.0, let e : key a ≡ n = omega arith in e) ])
      (as-either (λ a. P a × (key a < n)) (λ a. P a × (key a ≡ n)) (λ a h k. let lt = h.1 in let e = k.1 in omega arith) (as-run key P f n (λ j lt. each j (omega arith))) (each n (omega arith)))
