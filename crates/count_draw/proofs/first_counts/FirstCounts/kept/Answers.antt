-- What is kept for the first eleven bits is what their cell takes.
use Rattle.std.proofs.Common.{◌≡◌, ◌<◌, ◌≤◌, arith, sym, ap, subst}
use Rattle.std.proofs.lemmas.List.{get_or_read_under}
use Rattle.choice_draw.specs.KeptChoices.{first_of}
use Rattle.choice_draw.proofs.KeptBounds.{first_of-sixteen}
use Rattle.count_draw.specs.FirstCounts.{TakesAtRoom, choice_by, kept_at}
use Rattle.count_draw.proofs.first_counts.FirstCounts.kept.Goals as goal

pub returns-clause-takes : goal.returns-clause-takes
returns-clause-takes c =
    let eleven = c.from.result in
    let first = c.index-first.result.now in
    let within : eleven < 2048 = omega (arith, c.from.ensures) in
    let read : first ≡ kept_at c.self.inside.counts.items eleven = get_or_read_under c.self.inside.counts.items eleven 2048 first (record { count = 0; bits = 0 }) c.index-first.ensures within (sym c.self.invariant.many) in
    let same_bits : first.bits ≡ (kept_at c.self.inside.counts.items eleven).bits = ap (λ x. x.bits) read in
    let some : 0 < (kept_at c.self.inside.counts.items eleven).bits = let ne = c.if-bits-eq0.false in omega (arith, same_bits, ne, c.from-bits.ensures) in
    let takes : TakesAtRoom (choice_by c.args.self.now) (kept_at c.self.inside.counts.items eleven).count (first_of eleven (kept_at c.self.inside.counts.items eleven).bits) = subst (λ u. TakesAtRoom (choice_by u) (kept_at c.self.inside.counts.items eleven).count (first_of eleven (kept_at c.self.inside.counts.items eleven).bits)) c.self.view_is (c.self.invariant.at eleven some) in
    let here : TakesAtRoom (choice_by c.args.self.now) first.count (first_of eleven first.bits) = subst (λ x. TakesAtRoom (choice_by c.args.self.now) x.count (first_of eleven x.bits)) (sym read) takes in
    let few : first.bits ≤ 11 = here.takes.few in
    subst (λ k. TakesAtRoom (choice_by c.args.self.now) first.count (record { k = k; b = first.bits })) (first_of-sixteen c.args.ahead.word eleven first.bits few c.from.ensures) here
