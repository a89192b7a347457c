-- Lines of classes and of levels, one after another, and the class vectors that they tell.
use Rattle.std.proofs.Common.{◌≡◌, ℕ, suc, ◌+◌, max, List, [], ◌++◌, length, refl, sym, ap, ◌∙◌, arith, add-one, append_assoc, append-nil}
use Rattle.bz_model.specs.Spec.{Spec}
use Rattle.kleene_lower.specs.Lower.{zeros}
use Rattle.oracle_memo.specs.Levels.{level_down, level_down_from, level_up}
use Rattle.oracle_memo.specs.Memos.{Memory}
use Rattle.rounded_map.specs.RoundedMap.{Setting, setting}
use Rattle.boltz.specs.OracleCommand.{class_level, level_lines, level_after}
use Rattle.call_stages.specs.Lines.{lines_below}
use Rattle.call_stages.proofs.LinesBelow.{below_more}

-- a text to which the levels so far and the next one were appended
pub levels_more : (t : Setting) (base lower upper : List ℕ) (before : ℕ) (start text next : List ℕ) → text ≡ start ++ lines_below (level_after t base) before → lower ≡ level_down t (before + 1) → upper ≡ level_up t base (before + 1) → next ≡ text ++ lines_below (class_level t.spec (before + 1) lower upper) (length t.spec.bodies) → next ≡ start ++ lines_below (level_after t base) (before + 1)
levels_more t base lower upper before start text next text_is lower_is upper_is next_is =
    below_more (level_after t base) before start text next (lines_below (class_level t.spec (before + 1) lower upper) (length t.spec.bodies)) text_is
    (ap (λ v. lines_below (class_level t.spec (before + 1) v upper) (length t.spec.bodies)) lower_is
    ∙ ap (λ v. lines_below (class_level t.spec (before + 1) (level_down t (before + 1)) v) (length t.spec.bodies)) upper_is
    ∙ ap (λ k. level_lines t base k) (add-one before))
    next_is

-- the class vectors of a memo that is raised to a level
pub lower_told : (m now : Memory) (s : Spec) (F level : ℕ) (lower : List ℕ) → now ≡ record m { raised = level } → m.spec ≡ s → m.start ≡ zeros (setting s m.num m.den F) → lower ≡ level_down_from (setting now.spec now.num now.den F) now.start now.raised → lower ≡ level_down (setting s m.num m.den F) level
lower_told m now s F level lower raised same zero is =
    is ∙ ap (λ (k : Memory). level_down_from (setting k.spec k.num k.den F) k.start k.raised) raised ∙ ap (λ (r : Spec). level_down_from (setting r m.num m.den F) m.start level) same ∙ ap (λ (v : List ℕ). level_down_from (setting s m.num m.den F) v level) zero

-- The upper class vector of a memo of which only the level was raised is that of its old
-- specification, x and base at the new level.
pub upper_told : (m now : Memory) (s : Spec) (F level : ℕ) (upper : List ℕ) → now ≡ record m { raised = level } → m.spec ≡ s → upper ≡ level_up (setting now.spec now.num now.den F) now.base now.raised → upper ≡ level_up (setting s m.num m.den F) m.base level
upper_told m now s F level upper raised same is =
    is ∙ ap (λ (k : Memory). level_up (setting k.spec k.num k.den F) k.base k.raised) raised ∙ ap (λ (r : Spec). level_up (setting r m.num m.den F) m.base level) same

-- a memo that is raised from one level to the next
pub next_raised : (m old now : Memory) (before : ℕ) → old ≡ record m { raised = before } → now ≡ record old { raised = max old.raised (before + 1) } → now ≡ record m { raised = before + 1 }
next_raised m old now before same raised =
    let last : max before (before + 1) ≡ before + 1 = omega arith in
    raised ∙ ap (λ (k : Memory). record k { raised = max k.raised (before + 1) }) same ∙ ap (λ (r : ℕ). record m { raised = r }) last

-- A memo whose highest raised level is 0 stays the same when that level is set to 0.
pub none_raised : (m : Memory) → m.raised ≡ 0 → m ≡ record m { raised = 0 }
none_raised m is = ap (λ (r : ℕ). record m { raised = r }) is

-- A text that was put together from three is the three, one after another.
pub joined_three : (head levels last first second all : List ℕ) → first ≡ head → second ≡ first ++ levels → all ≡ second ++ last → all ≡ head ++ (levels ++ last)
joined_three head levels last first second all h l e =
    e ∙ ap (λ t. t ++ last) (l ∙ ap (λ f. f ++ levels) h) ∙ append_assoc head levels last

-- the levels over a memo that was made of a base
pub levels_of : (t : Setting) (base : List ℕ) (s : Spec) (m : Memory) → s ≡ t.spec → m ≡ record { spec = t.spec; num = t.num; den = t.den; start = zeros t; base = base; raised = 0 } → lines_below (level_after (setting s m.num m.den t.bits) m.base) 6 ≡ lines_below (level_after t base) 6
levels_of t base s m same made =
    ap (λ (r : Spec). lines_below (level_after (setting r m.num m.den t.bits) m.base) 6) same ∙ ap (λ (k : Memory). lines_below (level_after (setting t.spec k.num k.den t.bits) k.base) 6) made
