use Rattle.std.proofs.Common.{◌≡◌, ◌≤◌, ◌^◌, ◌++◌, length, arith, replicate, ◌∙◌, ap}
use Rattle.std.specs.Prelude.{false}
use Rattle.entry_replay.proofs.FileBits.{padded}
use Rattle.entry_replay.proofs.packing.Packing.into_bytes.Goals as goal

pub returns : goal.returns
returns c =
    let seven : c.loop-zero._zero ≡ 7 = omega (arith, c.loop-zero-test.false, c.loop-zero.auto._zero-end) in
    let few : length c.self-2.inside.bytes.items ≤ 2 ^ 60 = omega (arith, c.self-2.inside.bytes.ok, c.self-2.invariant.2) in
    padded c.args.self c.self-2.inside.bytes.items c.self-2.inside.count c.self-2.inside.last (c.self-2.view_is ∙ c.loop-zero.invariant ∙ ap (λ n. c.args.self ++ replicate n false) seven) (c.self-2.invariant.0) few
