-- Classes take the numbers of their bodies.
use Rattle.std.proofs.Common.{◌≡◌, ◌≢◌, ℕ, suc, ◌<◌, inl, inr, List, Option, Some, arith, sym, ◌∙◌, ap}
use Rattle.std.specs.Prelude.{slice_get}
use Rattle.std.proofs.lemmas.Bool.{cases_lt}
use Rattle.std.proofs.lemmas.Option.{same_Some}
use Rattle.bz_model.specs.Spec.{Spec, body_of}
use Rattle.rank_tables.specs.Grids.{Cells, cell}

-- One class more.
pub take-more : (s : Spec) (rows : Cells) (n c b : ℕ) (v : Option ℕ) (old new : List (Option ℕ)) → body_of s c ≡ Some b → v ≡ cell rows b n → slice_get new c ≡ Some v → ((k : ℕ) → k ≢ c → slice_get new k ≡ slice_get old k) → ((k body : ℕ) → k < c → body_of s k ≡ Some body → slice_get old k ≡ Some (cell rows body n)) → (k body : ℕ) → k < suc c → body_of s k ≡ Some body → slice_get new k ≡ Some (cell rows body n)
take-more s rows n c b v old new at is here others taken k body lt at_k = elim (cases_lt k c) [
  | inl less ↦ others k (λ same. let z : k ≡ c = same in omega arith) ∙ taken k body less at_k
  | inr ge ↦ (let q : c ≡ k = omega arith in
      let same : b ≡ body = same_Some b body (sym at ∙ ap (body_of s) q ∙ at_k) in
      ap (slice_get new) (sym q) ∙ here ∙ ap Some (is ∙ ap (λ z. cell rows z n) same))
]
