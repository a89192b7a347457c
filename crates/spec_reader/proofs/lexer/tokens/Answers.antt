use Rattle.std.proofs.Common.{◌≡◌, ◌-◌, ap, length, take, drop, take_all, length-drop, arith}
use Rattle.spec_reader.proofs.Scanning.{so_far_kept, near_kept, from_one_kept}
use Rattle.spec_reader.proofs.lexer.tokens.Goals as goal

pub fronts-preserved : goal.fronts-preserved
fronts-preserved c =
    let bytes = c.args.bytes.now in
    let i = c.fronts.i in
    let spot = c.fronts.spot in
    let rest = take (length bytes - i) (drop i bytes) in
    let rest_is : rest ≡ drop i bytes = take_all _ _ (omega (arith, length-drop i bytes)) in
    let front = c.in_ok-front.front in
    let shorter = c.in_ok-front.ensures.within in
    let behind = c.in_ok-spot.ensures.behind in
    let count = c.further.ensures.exact in
    record {
      within = omega (arith, shorter, count, ap length rest_is, length-drop i bytes);
      near = near_kept i c.further.result spot c.in_ok-spot.spot front c.fronts.invariant.near c.fronts.invariant.from_one behind count;
      from_one = from_one_kept spot c.in_ok-spot.spot front c.fronts.invariant.from_one behind;
      so_far = so_far_kept bytes rest i c.further.result spot c.in_ok-spot.spot front _ c.fronts.tokens.items _ rest_is c.in_ok-front.ensures.exact shorter c.fronts.invariant.so_far c.in_ok-spot.ensures.made behind count;
    }
