use Rattle.std.proofs.Common.{◌≡◌, ◌++◌, ◌∷◌, [], take}
use Rattle.std.specs.Prelude.{flat_map, zip}
use Rattle.class_system.specs.CanonicalText.{mode_word, class_line, all_shown}
use Rattle.class_system.proofs.canonical.print.Given as goal

-- the mode's line and those of the classes so far
abbrev pub invariant-loop-c : goal.invariant-loop-c
invariant-loop-c l = l.text.items ≡ mode_word l.draft.mode ++ 10 ∷ [] ++ flat_map (class_line (all_shown l.draft)) (take l.c (zip l.draft.names l.draft.bodies))
