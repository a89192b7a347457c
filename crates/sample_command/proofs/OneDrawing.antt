-- A drawing over a tape that is known, of which no read failed, has one outcome.
use Rattle.std.proofs.Common.{◌≡◌, ◌≢◌, ℕ, List, [], ◌∷◌, ◌++◌, refl, sym, ap, subst, ◌∙◌}
use Rattle.std.specs.Prelude.{Bool, Option, Some, None, IfSome}
use Rattle.bz_model.specs.declared.cell.Bounds.{Bounds}
use Rattle.bz_model.specs.Fraction.{Fraction}
use Rattle.bz_model.specs.Spec.{Spec}
use Rattle.bit_tape.specs.Given.{HasBits}
use Rattle.bit_tape.specs.Tape.{bits_of_source, CountsFault}
use Rattle.bit_tape.proofs.Leaving.{fault-rose}
use Rattle.size_window.specs.RunByBits.{Limits, Course, Entry, Ending, after}
use Rattle.size_window.specs.Trace.{EndsAt}
use Rattle.sample_command.specs.Drawn.{TapeMet, HasFailed, ended_by_fault, sampling, IsCourse, IsDrawn, AreLinesOf, Lists, Drawn, closing_text, ending_status}
use Rattle.sample_command.specs.Drawn as drawn
use Rattle.call_stages.specs.Outcomes.{IsOne}
use Rattle.call_stages.specs.declared.status.Status.{Status}
use Rattle.sample_command.proofs.Courses.{one_end, unfailing}

-- a failing turn would be a read of the tape that failed
none-fails : (fault : Option ℕ) → ((given : ℕ) → fault ≡ Some given → ⊥) → fault ≡ None
none-fails None h = refl
none-fails (Some given) h = absurd (h given refl)

ending-of : (c d : Course) (e f : Ending) → c ≡ d → c.state.ending ≡ Some e → d.state.ending ≡ Some f → e ≡ f
ending-of c d e f same at_c at_d = cc

-- The course of some turns in which no read fails.
abbrev quiet_course : Spec → (F : ℕ) → ((level node : ℕ) → Bounds) → Limits → (ℕ → Option Bool) → (turns : ℕ) → Course
quiet_course s F table limits bits turns = after (sampling s F table limits bits) (λ n. None) turns

told-bits : (o : Option (ℕ → Option Bool)) (bits : ℕ → Option Bool) (P : (ℕ → Option Bool) → Type 0) → o ≡ Some bits → IfSome o P → P bits
told-bits o bits P e h = subst (λ z. IfSome z P) e h

module _ (s : Spec) (x : Fraction) (F : ℕ) (table : (level node : ℕ) → Bounds) (limits : Limits) (t : TapeMet) (bits : ℕ → Option Bool) (are_known : bits_of_source t.source t.contents ≡ Some bits) (calm : ¬ (HasFailed t)) where
  -- the course over a tape's bits is the undisturbed one
  is-quiet : (c : Course) (most : ℕ) (h : IsCourse s x F table limits t c most) → c ≡ quiet_course s F table limits bits h.turns
  is-quiet c most h =
      let sample = sampling s F table limits bits in
      let have = told-bits (bits_of_source t.source t.contents) bits (λ tape. HasBits tape 0 h.given) are_known h.gave.are_told in
      let over = h.exact bits have (told-bits (bits_of_source t.source t.contents) bits (EndsAt c.state.ending c.state.attempt.used) are_known h.ends) in
      over.same ∙ unfailing sample h.faults h.turns (λ k. none-fails (h.faults k) (λ before is. calm (fault-rose t.source t.before t.now (subst (λ o. CountsFault (ended_by_fault o) t.source t.before t.now) (h.disturbed k before is) h.reads))))

  -- a drawing that came to its end is the undisturbed one
  pub same-course : (c : Course) (most : ℕ) (d : Ending) → IsDrawn s x F table limits t c most d → (turns : ℕ) (e : Ending) → (quiet_course s F table limits bits turns).state.ending ≡ Some e → (c ≡ quiet_course s F table limits bits turns) × (d ≡ e)
  same-course c most d h turns e at_turns =
      let sample = sampling s F table limits bits in
      let quiet = is-quiet c most h.course in
      let same : c ≡ quiet_course s F table limits bits turns = quiet ∙ one_end sample (λ k. None) h.course.turns turns d e (subst (λ (k : Course). k.state.ending ≡ Some d) quiet h.ended) at_turns in
      (same, ending-of c (quiet_course s F table limits bits turns) d e same h.ended at_turns)

  -- two drawings that came to their ends
  pub one-course : (c e : Course) (most more : ℕ) (d f : Ending) → IsDrawn s x F table limits t c most d → IsDrawn s x F table limits t e more f → (c ≡ e) × (d ≡ f)
  one-course c e most more d f h k =
      let quiet = is-quiet e more k.course in
      let same = same-course c most d h k.course.turns f (subst (λ (z : Course). z.state.ending ≡ Some f) quiet k.ended) in
      (same.0 ∙ sym quiet, same.1)

-- lists with equal last elements
snoc-front : (a b : List Entry) (x y : Entry) → a ++ x ∷ [] ≡ b ++ y ∷ [] → (a ≡ b) × (x ≡ y)
snoc-front [] [] x y e = (refl, cc)
snoc-front [] (b ∷ []) x y e = absurd (cc)
snoc-front [] (b ∷ c ∷ bs) x y e = absurd (cc)
snoc-front (a ∷ []) [] x y e = absurd (cc)
snoc-front (a ∷ c ∷ as_) [] x y e = absurd (cc)
snoc-front (a ∷ as_) (b ∷ bs) x y e =
    let first : a ≡ b = cc in
    let rest : as_ ++ x ∷ [] ≡ bs ++ y ∷ [] = cc in
    let r = snoc-front as_ bs x y rest in
    (ap (λ z. z ∷ as_) first ∙ ap (λ zs. b ∷ zs) r.0, r.1)

no-snoc : (a : List Entry) (x : Entry) → a ++ x ∷ [] ≡ [] → ⊥
no-snoc [] x e = absurd (cc)
no-snoc (a ∷ as_) x e = absurd (cc)

-- an entry has one text
one-entry : (s : Spec) (a b : Entry) (l m : List ℕ) → a ≡ b → AreLinesOf s a l → AreLinesOf s b m → l ≡ m
one-entry s a b l m same h k = let here : AreLinesOf s b l = subst (λ e. AreLinesOf s e l) same h in here.same k.is_of ∙ sym (k.same k.is_of)

-- The same entries are listed by the same lines.
pub one-list : (s : Spec) (es fs : List Entry) (l m : List ℕ) → es ≡ fs → Lists s es l → Lists s fs m → l ≡ m
one-list s es fs l m same (drawn.none a b) (drawn.none c d) = b ∙ sym d
one-list s es fs l m same (drawn.none a b) (drawn.one_more before last front lines h of is text) = absurd (no-snoc before last (sym is ∙ sym same ∙ a))
one-list s es fs l m same (drawn.one_more before last front lines h of is text) (drawn.none c d) = absurd (no-snoc before last (sym is ∙ same ∙ c))
one-list s es fs l m same (drawn.one_more before last front lines h of is text) (drawn.one_more before_too last_too front_too lines_too k of_too is_too text_too) =
    let parts = snoc-front before before_too last last_too (sym is ∙ same ∙ is_too) in
    let fronts = one-list s before before_too front front_too parts.0 h k in
    let ends = one-entry s last last_too lines lines_too parts.1 of of_too in
    text ∙ ap (λ z. z ++ lines) fronts ∙ ap (λ z. front_too ++ z) ends ∙ sym text_too

module _ (cost : ℕ → ℕ) (header : List ℕ) (s : Spec) (x : Fraction) (F : ℕ) (table : (level node : ℕ) → Bounds) (limits : Limits) (t : TapeMet) (bits : ℕ → Option Bool) (are_known : bits_of_source t.source t.contents ≡ Some bits) (calm : ¬ (HasFailed t)) (status other : Status) (text others : List ℕ) (ticks more : ℕ) (m : status ≢ Status.OutOfMemory) (n : other ≢ Status.OutOfMemory) where
  drawn-twice : Drawn cost header s x F table limits t status text ticks → Drawn cost header s x F table limits t other others more → (status ≡ other) × (text ≡ others)
  drawn-twice (drawn.so_far course given first rest lines h e l says) q = absurd (m says.status_is)
  drawn-twice (drawn.no_memory says) q = absurd (m says.status_is)
  drawn-twice (drawn.ended c given d lines h l says) (drawn.so_far course given_too first rest lines_too k e l_too says_too) = absurd (n says_too.status_is)
  drawn-twice (drawn.ended c given d lines h l says) (drawn.no_memory says_too) = absurd (n says_too.status_is)
  drawn-twice (drawn.ended c given d lines h l says) (drawn.ended e given_too f lines_too k l_too says_too) =
      let same = one-course s x F table limits t bits are_known calm c e given given_too d f h k in
      let entries = one-list s c.entries e.entries lines lines_too (ap (λ (z : Course). z.entries) same.0) l l_too in (
        says.status_is ∙ ap ending_status same.1 ∙ sym says_too.status_is,
        says.text_is ∙ ap (λ z. header ++ (z ++ closing_text table c d)) entries ∙ ap (λ (z : Course). header ++ (lines_too ++ closing_text table z d)) same.0 ∙ ap (λ z. header ++ (lines_too ++ closing_text table e z)) same.1 ∙ sym says_too.text_is,
      )

-- A drawing over a tape whose bits are known, and of which no read failed in the call, has one
-- outcome, but for want of memory.
pub one-drawn : (cost : ℕ → ℕ) (header : List ℕ) (s : Spec) (x : Fraction) (F : ℕ) (table : (level node : ℕ) → Bounds) (limits : Limits) (t : TapeMet) (bits : ℕ → Option Bool) → bits_of_source t.source t.contents ≡ Some bits → ¬ (HasFailed t) → IsOne (Drawn cost header s x F table limits t)
one-drawn cost header s x F table limits t bits are_known calm = record { one = λ status other text others ticks more m n p q. drawn-twice cost header s x F table limits t bits are_known calm status other text others ticks more m n p q }
