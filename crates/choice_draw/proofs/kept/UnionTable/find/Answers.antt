-- What is kept for the first eleven bits is what their cell takes first.
use Rattle.std.proofs.Common.{◌≡◌, ◌-◌, ◌/◌, ◌^◌, ◌<◌, ◌≤◌, arith, sym, ◌∙◌, ap, subst}
use Rattle.std.proofs.lemmas.List.{get_or_read_under}
use Rattle.choice_draw.specs.KeptChoices.{TakesFirst, choice_by, first_of, kept_at}
use Rattle.choice_draw.proofs.KeptBounds.{first_of-sixteen}
use Rattle.choice_draw.proofs.kept.UnionTable.find.Goals as goal

pub returns-clause-takes : goal.returns-clause-takes
returns-clause-takes c =
    let eleven = c.from.result in
    let kept = kept_at c.self.inside.choices.items eleven in
    let within : eleven < 2048 = omega (arith, c.from.ensures) in
    let read : c.index-choice.result.now ≡ kept = get_or_read_under c.self.inside.choices.items eleven 2048 c.index-choice.result.now (record { option = 0; bits = 0 }) c.index-choice.ensures within (sym c.self.invariant.many) in
    let same_bits : c.from-bits.result ≡ kept.bits = c.from-bits.ensures ∙ ap (λ x. x.bits) read in
    let same_option : c.from-3.result ≡ kept.option = c.from-3.ensures ∙ ap (λ x. x.option) read in
    let some : 0 < kept.bits = let ne = c.if-bits-eq0.false in omega (arith, same_bits, ne) in
    let takes : TakesFirst (choice_by c.args.self.now) kept.option (first_of eleven kept.bits) = subst (λ u. TakesFirst (choice_by u) kept.option (first_of eleven kept.bits)) c.self.view_is (c.self.invariant.at eleven some) in
    let few : c.from-bits.result ≤ 11 = let most = takes.few in omega (arith, most, same_bits) in
    let same_cell : first_of eleven kept.bits ≡ record { k = c.from-2.result / 2 ^ (16 - c.from-bits.result); b = c.from-bits.result } =
    ap (first_of eleven) (sym same_bits) ∙ ap (λ k. record { k = k; b = c.from-bits.result }) (first_of-sixteen c.args.ahead.word eleven c.from-bits.result few c.from.ensures ∙ ap (λ n. n / 2 ^ (16 - c.from-bits.result)) (sym c.from-2.ensures)) in
    subst (λ n. TakesFirst (choice_by c.args.self.now) n (record { k = c.from-2.result / 2 ^ (16 - c.from-bits.result); b = c.from-bits.result })) (sym same_option) (subst (TakesFirst (choice_by c.args.self.now) kept.option) same_cell takes)
