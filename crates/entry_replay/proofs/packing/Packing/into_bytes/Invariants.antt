use Rattle.std.proofs.Common.{◌≡◌, ◌++◌, replicate}
use Rattle.std.specs.Prelude.{false}
use Rattle.entry_replay.proofs.packing.Packing.into_bytes.Given as goal

-- so many zeros were put
abbrev pub invariant-loop-zero : goal.invariant-loop-zero
invariant-loop-zero l = l.self ≡ l.initial.self ++ replicate l._zero false
