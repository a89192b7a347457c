-- The command `oracle`.
use Rattle.std.specs.Prelude.{ℕ, suc, List, ◌++◌, length, slice_index}
use Rattle.bz_model.specs.Spec.{Spec}
use Rattle.bz_model.specs.declared.fraction.Fraction.{Fraction}
use Rattle.oracle_memo.specs.Levels.{level_down, level_up, cost_at}
use Rattle.rounded_map.specs.RoundedMap.{Setting, setting}
use Rattle.certificate.specs.Headers.{bounded_lines}
use Rattle.certificate.specs.Lines.{text_of}
use Rattle.call_stages.specs.Lines.{class_name, level_line}
use Rattle.call_stages.specs.Lines.{lines_below, end_done_line}
use Rattle.call_stages.specs.Outcomes.{Outcome, MaySay}
use Rattle.call_stages.specs.Stages.{Files, Specified, Based}
use Rattle.call_stages.specs.declared.status.Status.{Status}

-- The line of a class at a level with these class vectors.
abbrev pub class_level : Spec → (level : ℕ) → (lower upper : List ℕ) → (class : ℕ) → List ℕ
class_level s level lower upper c =
    level_line level (class_name s c) (slice_index lower c) (slice_index upper c)

-- The lines of a level, one for each class: those of its lower and its upper class vector.
abbrev pub level_lines : Setting → (base : List ℕ) → (level : ℕ) → List ℕ
level_lines t base level =
    lines_below (class_level t.spec level (level_down t level) (level_up t base level))
    (length t.spec.bodies)

-- The lines of the level after n levels.
abbrev pub level_after : Setting → (base : List ℕ) → (n : ℕ) → List ℕ
level_after t base n = level_lines t base (suc n)

-- The lines of a certificate's header without its window, of which the last are those of the base;
-- the levels 1 to 6; and the last line.
abbrev pub bounded_text : Setting → (base : List ℕ) → List ℕ
bounded_text t base =
    text_of (bounded_lines t.spec t.num t.den t.bits base)
    ++ (lines_below (level_after t base) 6 ++ end_done_line)

-- The classes are bounded from a base: all six levels are raised and printed.
abbrev pub Bounded : Setting → (base : List ℕ) → Outcome
Bounded t base = MaySay Status.Done (bounded_text t base) (cost_at 6)

-- `oracle FILE X`: a specification is read and judged, a base is searched, and the classes are
-- bounded.
abbrev pub CarriesOracle : Files → (file : List ℕ) → Fraction → (F : ℕ) → Outcome
CarriesOracle f file x F =
    Specified f file (λ s. Based (setting s x.num x.den F) (Bounded (setting s x.num x.den F)))
