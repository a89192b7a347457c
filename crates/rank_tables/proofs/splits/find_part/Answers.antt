use Rattle.std.proofs.Common.{◌≡◌, ◌+◌, ◌-◌, ◌^◌, map, take, get_or, arith, sym, ◌∙◌, ap, subst, add-one}
use Rattle.std.specs.Prelude.{sum_by}
use Rattle.class_system.specs.Views.{number}
use Rattle.class_system.proofs.Results.{mapped-at}
use Rattle.rank_tables.specs.Grids.{number_at, number_of}
use Rattle.rank_tables.specs.Unranking.{IsFound}
use Rattle.rank_tables.proofs.Cells.{part-small}
use Rattle.rank_tables.proofs.Suffixes.{mapped-length}
use Rattle.rank_tables.proofs.SumTerms.{take-sum, take-whole}
use Rattle.rank_tables.proofs.splits.find_part.Goals as goal
use Rattle.rank_tables.proofs.splits.find_part.Goals.{in_default-via-in-Some+else-count-more, in_default-via-in_default}

pub at-requires-clause-node : goal.at-requires-clause-node
at-requires-clause-node c = part-small _ c.loop-option.option _ c.args.parts.now c.loop-option-test.true c.requires.nodes

pub loop-option-preserved : goal.loop-option-preserved
loop-option-preserved c =
    let is : number_at c.args.counts.now (get_or c.args.parts.now c.loop-option.option (record { 0 = 0 })).0 c.args.n ≡ c.in-Some.count = ap number_of (sym c.at.ensures.exact ∙ c.in-Some.is) in
    let sum = take-sum (λ p. number_at c.args.counts.now p c.args.n) (map number c.args.parts.now) c.loop-option.option (get_or c.args.parts.now c.loop-option.option (record { 0 = 0 })).0 (mapped-at number c.args.parts.now c.loop-option.option (record { 0 = 0 }) c.loop-option-test.true) in
    let so_far = c.loop-option.invariant in
    let fits = c.if-count-more.true in
    subst (λ m. c.args.place ≡ sum_by (λ p. number_at c.args.counts.now p c.args.n) (take m (map number c.args.parts.now)) + (c.loop-option.more - c.in-Some.count)) (sym (add-one c.loop-option.option)) (omega arith)

pub returns-in_default : goal.returns-in_default
returns-in_default c = λ lt. subst (IsFound (λ p. number_at c.args.counts.now p c.args.n) (map number c.args.parts.now) c.args.place) (sym c.found_at.ensures) (record {
  part = (get_or c.args.parts.now c.loop-option.option (record { 0 = 0 })).0;
  is_part = mapped-at number c.args.parts.now c.loop-option.option (record { 0 = 0 }) c.loop-option-test.true;
  small = elim c.in_default.branch [
    | in_default-via-in-Some+else-count-more w ↦
        let is : number_at c.args.counts.now (get_or c.args.parts.now c.loop-option.option (record { 0 = 0 })).0 c.args.n ≡ w.in-Some.count = ap number_of (sym c.at.ensures.exact ∙ w.in-Some.is) in
        let past = w.if-count-more.false in
        omega arith
    | in_default-via-in_default w ↦
        let is : number_at c.args.counts.now (get_or c.args.parts.now c.loop-option.option (record { 0 = 0 })).0 c.args.n ≡ 2 ^ 128 = ap number_of (sym c.at.ensures.exact ∙ w.in_default.is) in
        let fits = c.loop-option.auto.more-fits in
        omega arith
  ];
  is = c.loop-option.invariant;
})

pub returns : goal.returns
returns c = λ lt.
    (let past = c.loop-option-test.false in
    let long = mapped-length c.args.parts.now in
    let all = subst (λ ps. c.args.place ≡ sum_by (λ p. number_at c.args.counts.now p c.args.n) ps + c.loop-option.more) (take-whole (map number c.args.parts.now) c.loop-option.option (omega arith)) c.loop-option.invariant in
    absurd (omega arith))
