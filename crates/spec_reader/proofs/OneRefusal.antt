-- A text is refused for one reason, want of memory aside.
use Rattle.std.proofs.Common.{◌≡◌, ◌≢◌, ◌⊎◌, inl, inr, ℕ, slice_get, ◌≤◌, ◌<◌, List, [], ◌∷◌, ◌++◌, length, drop, position, not, Some, true, refl, sym, ◌∙◌, ap, subst, arith, append_assoc}
use Rattle.std.proofs.lemmas.List.{map-append}
use Rattle.bz_model.specs.Spec.{Spec}
use Rattle.class_system.specs.Limits.{TellsLimit}
use Rattle.class_system.specs.declared.limits.BuildFault.{BuildFault}
use Rattle.class_system.proofs.OneLimit.{one_limit}
use Rattle.spec_reader.specs.declared.tokens.Placed.{Placed}
use Rattle.spec_reader.specs.declared.fault.SpecFault.{SpecFault}
use Rattle.spec_reader.specs.Tokens.{tokens_of}
use Rattle.spec_reader.specs.Grammar.{IsText, Begins}
use Rattle.spec_reader.specs.Machine.{LinesBefore}
use Rattle.spec_reader.specs.Tables.{names_of}
use Rattle.spec_reader.specs.Faults.{first_fault}
use Rattle.spec_reader.specs.Bytes.{is_text}
use Rattle.spec_reader.specs.Reading.{plain_tokens, IsMisplaced, HasFirstFault, IsReadable, BreaksLimit, Refuses}
use Rattle.spec_reader.proofs.OneText.{same_read, all_text, text_not_misplaced, not_faulty, one_specification}

-- two ways to split one list at an element
splits : (xs ys : List Placed) (t u : Placed) (zs ws : List Placed) → xs ++ t ∷ zs ≡ ys ++ u ∷ ws → (t ≡ u) ⊎ (((q : List Placed) × (ys ≡ xs ++ t ∷ q)) ⊎ ((q : List Placed) × (xs ≡ ys ++ u ∷ q)))
splits [] [] t u zs ws e = inl (cc)
splits [] (y ∷ ys) t u zs ws e = let same : t ≡ y = cc in inr (inl (ys, ap (λ v. v ∷ ys) (sym same)))
splits (x ∷ xs) [] t u zs ws e = let same : x ≡ u = cc in inr (inr (xs, ap (λ v. v ∷ xs) same))
splits (x ∷ xs) (y ∷ ys) t u zs ws e =
    let heads : x ≡ y = cc in
    let tails : xs ++ t ∷ zs ≡ ys ++ u ∷ ws = cc in
    elim (splits xs ys t u zs ws tails) [
      | inl same ↦ inl same
      | inr other ↦ (elim other [ inl b ↦ inr (inl (b.0, ap (λ v. v ∷ ys) (sym heads) ∙ ap (λ vs. x ∷ vs) b.1)) | inr a ↦ inr (inr (a.0, ap (λ v. v ∷ xs) heads ∙ ap (λ vs. y ∷ vs) a.1)) ])
    ]

-- what begins a text begins with what begins one
begins_front : (ps qs : List Placed) → Begins (plain_tokens (ps ++ qs)) → Begins (plain_tokens ps)
begins_front ps qs b = record {
  further = plain_tokens qs ++ b.further;
  mode = b.mode;
  definitions = b.definitions;
  is_text = subst (λ us. IsText us b.mode b.definitions) (ap (λ us. us ++ b.further) (map-append (λ (t : Placed). t.token) ps qs) ∙ append_assoc (plain_tokens ps) (plain_tokens qs) b.further) b.is_text;
}

not_before : (xs ys q : List Placed) (t : Placed) → ys ≡ xs ++ t ∷ q → Begins (plain_tokens ys) → ¬ (¬ (Begins (plain_tokens (xs ++ t ∷ []))))
not_before xs ys q t e b n = n (begins_front (xs ++ t ∷ []) q (subst (λ us. Begins (plain_tokens us)) (e ∙ sym (append_assoc xs (t ∷ []) q)) b))

one_misplaced : (ts : List Placed) (line column line' column' : ℕ) → IsMisplaced ts line column → IsMisplaced ts line' column' → SpecFault.Syntax line column ≡ SpecFault.Syntax line' column'
one_misplaced ts line column line' column' a b =
    elim (splits a.before b.before a.token b.token a.behind b.behind (sym a.is_there ∙ b.is_there)) [
      | inl same ↦ (let lines : line ≡ line' = a.line_is ∙ ap (λ (t : Placed). t.line) same ∙ sym b.line_is in let columns : column ≡ column' = a.column_is ∙ ap (λ (t : Placed). t.column) same ∙ sym b.column_is in rw (lines, columns) refl)
      | inr other ↦ (elim other [ inl q ↦ absurd (not_before a.before b.before q.0 a.token q.1 b.begins a.ends) | inr q ↦ absurd (not_before b.before a.before q.0 b.token q.1 a.begins b.ends) ])
    ]

one_fault : (ts : List Placed) (f g : SpecFault) → HasFirstFault ts f → HasFirstFault ts g → f ≡ g
one_fault ts f g a b =
    let same = same_read (plain_tokens ts) a.mode b.mode a.definitions b.definitions a.is_text b.is_text in
    let first : first_fault b.mode (names_of b.definitions) [] true (drop 2 ts) ≡ Some f = subst (λ (q : LinesBefore). first_fault q.mode (names_of q.definitions) [] true (drop 2 ts) ≡ Some f) same a.first in
    let both : Some f ≡ Some g = sym first ∙ b.first in
    cc

-- what a text's refusal is, by its stage
data Stage (bytes : List ℕ) (f : SpecFault) : Type 0 where
  long : (len : ℕ) → f ≡ SpecFault.TooLong len → len ≡ length bytes → 65536 < length bytes → Stage bytes f
  no_text : (place : ℕ) → f ≡ SpecFault.NotText place → length bytes ≤ 65536 → position (λ b. not (is_text b)) bytes ≡ Some place → Stage bytes f
  no_syntax : (line column : ℕ) → f ≡ SpecFault.Syntax line column → IsReadable bytes → IsMisplaced (tokens_of bytes) line column → Stage bytes f
  naming : IsReadable bytes → HasFirstFault (tokens_of bytes) f → Stage bytes f
  limit : (fault : BuildFault) → f ≡ SpecFault.Limit fault → fault ≢ BuildFault.OutOfMemory → BreaksLimit bytes fault → Stage bytes f

stage_of : (bytes : List ℕ) (f : SpecFault) → f ≢ SpecFault.OutOfMemory → Refuses bytes f → Stage bytes f
stage_of bytes (SpecFault.TooLong len) n r = long len refl r.0 r.1
stage_of bytes (SpecFault.NotText place) n r = no_text place refl r.0 r.1
stage_of bytes (SpecFault.Syntax line column) n r = no_syntax line column refl r.0 r.1
stage_of bytes (SpecFault.Undefined line column) n r = naming r.0 r.1
stage_of bytes (SpecFault.Twice line) n r = naming r.0 r.1
stage_of bytes (SpecFault.NeedsLabels line column) n r = naming r.0 r.1
stage_of bytes (SpecFault.Limit (BuildFault.TooManyClasses k)) n r = limit (BuildFault.TooManyClasses k) refl (λ e. absurd (cc)) r
stage_of bytes (SpecFault.Limit (BuildFault.TooManyParts k)) n r = limit (BuildFault.TooManyParts k) refl (λ e. absurd (cc)) r
stage_of bytes (SpecFault.Limit (BuildFault.TooDeep k)) n r = limit (BuildFault.TooDeep k) refl (λ e. absurd (cc)) r
stage_of bytes (SpecFault.Limit (BuildFault.TooManyNodes k)) n r = limit (BuildFault.TooManyNodes k) refl (λ e. absurd (cc)) r
stage_of bytes (SpecFault.Limit BuildFault.OutOfMemory) n r = absurd r
stage_of bytes SpecFault.OutOfMemory n r = absurd (n refl)

same_stage : (bytes : List ℕ) (f g : SpecFault) → Stage bytes f → Stage bytes g → f ≡ g
same_stage bytes f g (long len e is much) (long len' e' is' much') = e ∙ ap (λ k. SpecFault.TooLong k) (is ∙ sym is') ∙ sym e'
same_stage bytes f g (long len e is much) (no_text place e' few p) = absurd (omega arith)
same_stage bytes f g (long len e is much) (no_syntax line column e' r m) = (let few = r.few in absurd (omega (arith, few)))
same_stage bytes f g (long len e is much) (naming r h) = (let few = r.few in absurd (omega (arith, few)))
same_stage bytes f g (long len e is much) (limit fault e' n b) = (let few = b.few in absurd (omega (arith, few)))
same_stage bytes f g (no_text place e few p) (long len' e' is' much') = absurd (omega arith)
same_stage bytes f g (no_text place e few p) (no_text place' e' few' p') =
    let both : Some place ≡ Some place' = sym p ∙ p' in
    let same : place ≡ place' = cc in
    e ∙ ap (λ k. SpecFault.NotText k) same ∙ sym e'
same_stage bytes f g (no_text place e few p) (no_syntax line column e' r m) = absurd (all_text bytes place r.all_text p)
same_stage bytes f g (no_text place e few p) (naming r h) = absurd (all_text bytes place r.all_text p)
same_stage bytes f g (no_text place e few p) (limit fault e' n b) = absurd (all_text bytes place b.stands.all_text p)
same_stage bytes f g (no_syntax line column e r m) (long len' e' is' much') = (let few = r.few in absurd (omega (arith, few)))
same_stage bytes f g (no_syntax line column e r m) (no_text place e' few p) = absurd (all_text bytes place r.all_text p)
same_stage bytes f g (no_syntax line column e r m) (no_syntax line' column' e' r' m') = e ∙ one_misplaced (tokens_of bytes) line column line' column' m m' ∙ sym e'
same_stage bytes f g (no_syntax line column e r m) (naming r' h) = absurd (text_not_misplaced (tokens_of bytes) h.mode h.definitions line column h.is_text m)
same_stage bytes f g (no_syntax line column e r m) (limit fault e' n b) = absurd (text_not_misplaced (tokens_of bytes) b.stands.stand_for.mode b.stands.stand_for.definitions line column b.stands.stand_for.is_text m)
same_stage bytes f g (naming r h) (long len' e' is' much') = (let few = r.few in absurd (omega (arith, few)))
same_stage bytes f g (naming r h) (no_text place e' few p) = absurd (all_text bytes place r.all_text p)
same_stage bytes f g (naming r h) (no_syntax line column e' r' m) = absurd (text_not_misplaced (tokens_of bytes) h.mode h.definitions line column h.is_text m)
same_stage bytes f g (naming r h) (naming r' h') = one_fault (tokens_of bytes) f g h h'
same_stage bytes f g (naming r h) (limit fault e' n b) = absurd (not_faulty (tokens_of bytes) b.specification f b.stands.stand_for h)
same_stage bytes f g (limit fault e n b) (long len' e' is' much') = (let few = b.few in absurd (omega (arith, few)))
same_stage bytes f g (limit fault e n b) (no_text place e' few p) = absurd (all_text bytes place b.stands.all_text p)
same_stage bytes f g (limit fault e n b) (no_syntax line column e' r m) = absurd (text_not_misplaced (tokens_of bytes) b.stands.stand_for.mode b.stands.stand_for.definitions line column b.stands.stand_for.is_text m)
same_stage bytes f g (limit fault e n b) (naming r h) = absurd (not_faulty (tokens_of bytes) b.specification g b.stands.stand_for h)
same_stage bytes f g (limit fault e n b) (limit fault' e' n' b') =
    let same : TellsLimit b.specification fault' = subst (λ s. TellsLimit s fault') (one_specification bytes b'.specification b.specification b'.stands b.stands) b'.tells in
    e ∙ ap (λ k. SpecFault.Limit k) (one_limit b.specification fault fault' n n' b.tells same) ∙ sym e'

-- a text has one reason of refusal, want of memory aside
pub one_refusal : (bytes : List ℕ) (f g : SpecFault) → f ≢ SpecFault.OutOfMemory → g ≢ SpecFault.OutOfMemory → Refuses bytes f → Refuses bytes g → f ≡ g
one_refusal bytes f g m n a b = same_stage bytes f g (stage_of bytes f m a) (stage_of bytes g n b)
