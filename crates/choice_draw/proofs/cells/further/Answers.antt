-- The shifted number and the first further bits fit into 60 bits.
use Rattle.std.proofs.Common.{◌≡◌, ◌+◌, ◌-◌, ◌*◌, ◌/◌, ◌^◌, arith, ◌∙◌, ap}
use Rattle.choice_draw.proofs.FurtherCells.{further-below, further-most, further-kept}
use Rattle.choice_draw.proofs.cells.further.Goals as goal

pub overflow_add-result : goal.overflow_add-result
overflow_add-result c =
    let kept = further-kept c.args.cell c.args.word c.args.bits c.requires.total c.requires.cell.below in
    let below = further-below c.args.cell c.args.word c.args.bits c.requires.few (omega arith) c.requires.cell.below in
    let most = further-most c.args.cell c.args.word c.args.bits c.requires.total in
    let same : c.from.result / 2 ^ (16 - c.args.bits) ≡ c.args.word / 2 ^ (16 - c.args.bits) = ap (λ n. n / 2 ^ (16 - c.args.bits)) c.from.ensures in
    omega (arith, kept, below, most, same)

pub returns-clause-exact : goal.returns-clause-exact
returns-clause-exact c =
    let kept = further-kept c.args.cell c.args.word c.args.bits c.requires.total c.requires.cell.below in
    let same : c.from.result / 2 ^ (16 - c.args.bits) ≡ c.args.word / 2 ^ (16 - c.args.bits) = ap (λ n. n / 2 ^ (16 - c.args.bits)) c.from.ensures in
    ap (λ k. record { k = k + c.from.result / 2 ^ (16 - c.args.bits); b = c.args.cell.b + c.args.bits }) kept
    ∙ ap (λ w. record { k = c.args.cell.k * 2 ^ c.args.bits + w; b = c.args.cell.b + c.args.bits }) same

pub returns-clause-cell : goal.returns-clause-cell
returns-clause-cell c =
    let kept = further-kept c.args.cell c.args.word c.args.bits c.requires.total c.requires.cell.below in
    let below = further-below c.args.cell c.args.word c.args.bits c.requires.few (omega arith) c.requires.cell.below in
    let same : c.from.result / 2 ^ (16 - c.args.bits) ≡ c.args.word / 2 ^ (16 - c.args.bits) = ap (λ n. n / 2 ^ (16 - c.args.bits)) c.from.ensures in
    record {
      some_bits = let some = c.requires.cell.some_bits in omega arith;
      few_bits = c.requires.total;
      below = omega (arith, kept, below, same);
    }
