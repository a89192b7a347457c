-- Verdicts on tests that follow one another.
use Rattle.std.proofs.Common.{◌≡◌, ◌≢◌, ℕ, ◌⊎◌, inl, inr, List, [], ◌∷◌, ◌++◌, refl, sym, ◌∙◌}
use Rattle.std.specs.Prelude.{Result, Ok, Err, IfOk}
use Rattle.certificate.specs.declared.reason.Verdict.{Verdict}
use Rattle.certificate.specs.declared.reason.Verdict.TheVariants.{Valid, Invalid}
use Rattle.certificate.specs.Verdicts.{Check, FirstFails}

-- where the first tests pass, the further ones decide
pub passes-then : (first more : List Check) (v : Verdict) → FirstFails first Valid → FirstFails more v → FirstFails (first ++ more) v
passes-then [] more v h i = i
passes-then (c ∷ cs) more v (inl p) i = inl (p.0, passes-then cs more v p.1 i)
passes-then (c ∷ cs) more v (inr q) i = let no : ⊥ = (let e = q.1 in cc) in absurd no

-- where one of the first fails, it decides
pub fails-first : (first more : List Check) (v : Verdict) → FirstFails first v → v ≢ Valid → FirstFails (first ++ more) v
fails-first [] more v h n = absurd (n h)
fails-first (c ∷ cs) more v (inl p) n = inl (p.0, fails-first cs more v p.1 n)
fails-first (c ∷ cs) more v (inr q) n = inr q

-- tests have one verdict
pub one-verdict : (checks : List Check) (v w : Verdict) → FirstFails checks v → FirstFails checks w → v ≡ w
one-verdict [] v w h i = h ∙ sym i
one-verdict (c ∷ cs) v w (inl p) (inl q) = one-verdict cs v w p.1 q.1
one-verdict (c ∷ cs) v w (inl p) (inr q) = absurd (q.0 p.0)
one-verdict (c ∷ cs) v w (inr p) (inl q) = absurd (p.0 q.0)
one-verdict (c ∷ cs) v w (inr p) (inr q) = p.1 ∙ sym q.1

-- The tests of a certificate: of its lines before the base, of the names, of the values, of the entries and of the closing.
module _ (header names values entries closing : List Check) (v : Verdict) where
  pub at-header : FirstFails header v → v ≢ Valid → FirstFails (header ++ ((names ++ values) ++ (entries ++ closing))) v
  at-header h n = fails-first header ((names ++ values) ++ (entries ++ closing)) v h n

  pub at-names : FirstFails header Valid → FirstFails names v → v ≢ Valid → FirstFails (header ++ ((names ++ values) ++ (entries ++ closing))) v
  at-names a h n = passes-then header ((names ++ values) ++ (entries ++ closing)) v a (fails-first (names ++ values) (entries ++ closing) v (fails-first names values v h n) n)

  pub at-values : FirstFails header Valid → FirstFails names Valid → FirstFails values v → v ≢ Valid → FirstFails (header ++ ((names ++ values) ++ (entries ++ closing))) v
  at-values a b h n = passes-then header ((names ++ values) ++ (entries ++ closing)) v a (fails-first (names ++ values) (entries ++ closing) v (passes-then names values v b h) n)

  pub at-entries : FirstFails header Valid → FirstFails names Valid → FirstFails values Valid → FirstFails entries v → v ≢ Valid → FirstFails (header ++ ((names ++ values) ++ (entries ++ closing))) v
  at-entries a b c h n = passes-then header ((names ++ values) ++ (entries ++ closing)) v a (passes-then (names ++ values) (entries ++ closing) v (passes-then names values Valid b c) (fails-first entries closing v h n))

  pub at-closing : FirstFails header Valid → FirstFails names Valid → FirstFails values Valid → FirstFails entries Valid → FirstFails closing v → FirstFails (header ++ ((names ++ values) ++ (entries ++ closing))) v
  at-closing a b c d h = passes-then header ((names ++ values) ++ (entries ++ closing)) v a (passes-then (names ++ values) (entries ++ closing) v (passes-then names values Valid b c) (passes-then entries closing v d h))

  -- what follows the base
  pub at-rest : FirstFails header Valid → FirstFails names Valid → FirstFails values Valid → FirstFails (entries ++ closing) v → FirstFails (header ++ ((names ++ values) ++ (entries ++ closing))) v
  at-rest a b c h = passes-then header ((names ++ values) ++ (entries ++ closing)) v a (passes-then (names ++ values) (entries ++ closing) v (passes-then names values Valid b c) h)

-- what holds of a result that is there
pub ok-of : {A E : Type 0} (P Q : A → Type 0) → ((a : A) → P a → Q a) → (r : Result A E) → IfOk r P → IfOk r Q
ok-of P Q f (Ok a) h = f a h
ok-of P Q f (Err e) h = tt
