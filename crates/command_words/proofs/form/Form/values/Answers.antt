use Rattle.std.proofs.Common.{refl, arith}
use Rattle.command_words.specs.declared.fault.ValueName.TheVariants as value
use Rattle.command_words.specs.Values as bad
use Rattle.command_words.specs.Views.{given_of, texts_in}
use Rattle.command_words.proofs.Made.{set-bits}
use Rattle.command_words.proofs.Refused.{fine_x, fine_more, fine_all, bad_first}
use Rattle.command_words.proofs.form.Form.values.Goals as goal

pub returns-in_err-x-clause-err : goal.returns-in_err-x-clause-err
returns-in_err-x-clause-err c =
    let name = c.args.self.now.name in
    let given = given_of c.args.self.now.given in
    bad_first c.from_residual.result c.in_err-x.field-0.0 name given value.X c.from_residual.ensures.1 c.in_err-x.ensures.cause c.in_err-x.ensures.refused (record { none = λ v lt. absurd (omega arith) })

pub returns-in_err-seed-clause-err : goal.returns-in_err-seed-clause-err
returns-in_err-seed-clause-err c =
    let name = c.args.self.now.name in
    let given = given_of c.args.self.now.given in
    let x = fine_x name given c.in_ok-x.x c.in_ok-x.ensures.ok in
    bad_first c.from_residual-in_err-seed.result c.in_err-seed.field-0.0 name given value.Seed c.from_residual-in_err-seed.ensures.1 c.in_err-seed.ensures.cause c.in_err-seed.ensures.refused x

pub returns-in_err-min-clause-err : goal.returns-in_err-min-clause-err
returns-in_err-min-clause-err c =
    let name = c.args.self.now.name in
    let given = given_of c.args.self.now.given in
    let x = fine_x name given c.in_ok-x.x c.in_ok-x.ensures.ok in
    let seed = fine_more name given value.Seed 0 c.in_ok-seed.seed x c.in_ok-seed.ensures.ok in
    bad_first c.from_residual-in_err-min.result c.in_err-min.field-0.0 name given value.Min c.from_residual-in_err-min.ensures.1 c.in_err-min.ensures.cause c.in_err-min.ensures.refused seed

pub returns-in_err-max-clause-err : goal.returns-in_err-max-clause-err
returns-in_err-max-clause-err c =
    let name = c.args.self.now.name in
    let given = given_of c.args.self.now.given in
    let x = fine_x name given c.in_ok-x.x c.in_ok-x.ensures.ok in
    let seed = fine_more name given value.Seed 0 c.in_ok-seed.seed x c.in_ok-seed.ensures.ok in
    let min = fine_more name given value.Min 0 c.in_ok-min.min seed c.in_ok-min.ensures.ok in
    bad_first c.from_residual-in_err-max.result c.in_err-max.field-0.0 name given value.Max c.from_residual-in_err-max.ensures.1 c.in_err-max.ensures.cause c.in_err-max.ensures.refused min

pub returns-in_err-count-clause-err : goal.returns-in_err-count-clause-err
returns-in_err-count-clause-err c =
    let name = c.args.self.now.name in
    let given = given_of c.args.self.now.given in
    let x = fine_x name given c.in_ok-x.x c.in_ok-x.ensures.ok in
    let seed = fine_more name given value.Seed 0 c.in_ok-seed.seed x c.in_ok-seed.ensures.ok in
    let min = fine_more name given value.Min 0 c.in_ok-min.min seed c.in_ok-min.ensures.ok in
    let max = fine_more name given value.Max 1000 c.in_ok-max.max min c.in_ok-max.ensures.ok in
    bad_first c.from_residual-in_err-count.result c.in_err-count.field-0.0 name given value.Count c.from_residual-in_err-count.ensures.1 c.in_err-count.ensures.cause c.in_err-count.ensures.refused max

pub returns-in_err-turns-clause-err : goal.returns-in_err-turns-clause-err
returns-in_err-turns-clause-err c =
    let name = c.args.self.now.name in
    let given = given_of c.args.self.now.given in
    let x = fine_x name given c.in_ok-x.x c.in_ok-x.ensures.ok in
    let seed = fine_more name given value.Seed 0 c.in_ok-seed.seed x c.in_ok-seed.ensures.ok in
    let min = fine_more name given value.Min 0 c.in_ok-min.min seed c.in_ok-min.ensures.ok in
    let max = fine_more name given value.Max 1000 c.in_ok-max.max min c.in_ok-max.ensures.ok in
    let count = fine_more name given value.Count 1 c.in_ok-count.count max c.in_ok-count.ensures.ok in
    bad_first c.from_residual-in_err-turns.result c.in_err-turns.field-0.0 name given value.Turns c.from_residual-in_err-turns.ensures.1 c.in_err-turns.ensures.cause c.in_err-turns.ensures.refused count

pub returns-in_err-fraction-clause-err : goal.returns-in_err-fraction-clause-err
returns-in_err-fraction-clause-err c =
    let name = c.args.self.now.name in
    let given = given_of c.args.self.now.given in
    let x = fine_x name given c.in_ok-x.x c.in_ok-x.ensures.ok in
    let seed = fine_more name given value.Seed 0 c.in_ok-seed.seed x c.in_ok-seed.ensures.ok in
    let min = fine_more name given value.Min 0 c.in_ok-min.min seed c.in_ok-min.ensures.ok in
    let max = fine_more name given value.Max 1000 c.in_ok-max.max min c.in_ok-max.ensures.ok in
    let count = fine_more name given value.Count 1 c.in_ok-count.count max c.in_ok-count.ensures.ok in
    let turns = fine_more name given value.Turns 1000000 c.in_ok-turns.turns count c.in_ok-turns.ensures.ok in
    bad_first c.from_residual-in_err-fraction.result c.in_err-fraction.field-0.0 name given value.Fraction c.from_residual-in_err-fraction.ensures.1 c.in_err-fraction.ensures.cause c.in_err-fraction.ensures.refused turns

pub returns-in_err-n-clause-err : goal.returns-in_err-n-clause-err
returns-in_err-n-clause-err c =
    let name = c.args.self.now.name in
    let given = given_of c.args.self.now.given in
    let x = fine_x name given c.in_ok-x.x c.in_ok-x.ensures.ok in
    let seed = fine_more name given value.Seed 0 c.in_ok-seed.seed x c.in_ok-seed.ensures.ok in
    let min = fine_more name given value.Min 0 c.in_ok-min.min seed c.in_ok-min.ensures.ok in
    let max = fine_more name given value.Max 1000 c.in_ok-max.max min c.in_ok-max.ensures.ok in
    let count = fine_more name given value.Count 1 c.in_ok-count.count max c.in_ok-count.ensures.ok in
    let turns = fine_more name given value.Turns 1000000 c.in_ok-turns.turns count c.in_ok-turns.ensures.ok in
    let fraction = fine_more name given value.Fraction 48 c.in_ok-fraction.fraction turns c.in_ok-fraction.ensures.ok in
    bad_first c.from_residual-in_err-n.result c.in_err-n.field-0.0 name given value.N c.from_residual-in_err-n.ensures.1 c.in_err-n.ensures.cause c.in_err-n.ensures.refused fraction

pub returns-in_err-rank-clause-err : goal.returns-in_err-rank-clause-err
returns-in_err-rank-clause-err c =
    let name = c.args.self.now.name in
    let given = given_of c.args.self.now.given in
    let x = fine_x name given c.in_ok-x.x c.in_ok-x.ensures.ok in
    let seed = fine_more name given value.Seed 0 c.in_ok-seed.seed x c.in_ok-seed.ensures.ok in
    let min = fine_more name given value.Min 0 c.in_ok-min.min seed c.in_ok-min.ensures.ok in
    let max = fine_more name given value.Max 1000 c.in_ok-max.max min c.in_ok-max.ensures.ok in
    let count = fine_more name given value.Count 1 c.in_ok-count.count max c.in_ok-count.ensures.ok in
    let turns = fine_more name given value.Turns 1000000 c.in_ok-turns.turns count c.in_ok-turns.ensures.ok in
    let fraction = fine_more name given value.Fraction 48 c.in_ok-fraction.fraction turns c.in_ok-fraction.ensures.ok in
    let n = fine_more name given value.N 0 c.in_ok-n.n fraction c.in_ok-n.ensures.ok in
    bad_first c.from_residual-in_err-rank.result c.in_err-rank.field-0.0 name given value.Rank c.from_residual-in_err-rank.ensures.1 c.in_err-rank.ensures.cause c.in_err-rank.ensures.refused n

pub returns-then-max-min-clause-err : goal.returns-then-max-min-clause-err
returns-then-max-min-clause-err c =
    let name = c.args.self.now.name in
    let given = given_of c.args.self.now.given in
    let x = fine_x name given c.in_ok-x.x c.in_ok-x.ensures.ok in
    let seed = fine_more name given value.Seed 0 c.in_ok-seed.seed x c.in_ok-seed.ensures.ok in
    let min = fine_more name given value.Min 0 c.in_ok-min.min seed c.in_ok-min.ensures.ok in
    let max = fine_more name given value.Max 1000 c.in_ok-max.max min c.in_ok-max.ensures.ok in
    let count = fine_more name given value.Count 1 c.in_ok-count.count max c.in_ok-count.ensures.ok in
    let turns = fine_more name given value.Turns 1000000 c.in_ok-turns.turns count c.in_ok-turns.ensures.ok in
    let fraction = fine_more name given value.Fraction 48 c.in_ok-fraction.fraction turns c.in_ok-fraction.ensures.ok in
    let n = fine_more name given value.N 0 c.in_ok-n.n fraction c.in_ok-n.ensures.ok in
    let rank = fine_more name given value.Rank 0 c.in_ok-rank.rank n c.in_ok-rank.ensures.ok in
    record {
      refused = value.Min;
      is = refl;
      bad = bad.empty (record { none_refused = fine_all name given rank; min = c.in_ok-min.min; max = c.in_ok-max.max; is_min = c.in_ok-min.ensures.ok; is_max = c.in_ok-max.ensures.ok; above = c.if-max-min.true });
    }

-- the fraction bits are 40, 48 or 52
pub of-requires : goal.of-requires
of-requires c = set-bits c.args.self.now.name (texts_in c.args.self.now value.Fraction) c.in_ok-fraction.fraction c.in_ok-fraction.ensures.ok
