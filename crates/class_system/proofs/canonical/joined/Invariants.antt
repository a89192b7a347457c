use Rattle.std.proofs.Common.{◌≡◌, map, take}
use Rattle.class_system.specs.Views.{number}
use Rattle.class_system.specs.CanonicalText.{part_text, separated, shown_at}
use Rattle.class_system.proofs.canonical.joined.Given as goal

-- the parts so far, with separators between them
abbrev pub invariant-loop-i : goal.invariant-loop-i
invariant-loop-i l = l.bytes.items ≡ separated l.separator (map (λ part. part_text l.form (shown_at l.before part)) (take l.i (map number l.parts)))
