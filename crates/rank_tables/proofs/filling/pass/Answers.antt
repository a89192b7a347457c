use Rattle.std.proofs.Common.{length, arith, sym, add-one, subst, inl, inr}
use Rattle.std.proofs.lemmas.Option.{slice_get_within, slice_get_past}
use Rattle.std.proofs.lemmas.Bool.{cases_lt}
use Rattle.rank_tables.specs.Grids.{number_at, AreSuffixes}
use Rattle.rank_tables.specs.Visits.{product_parts}
use Rattle.rank_tables.proofs.Passed.{PassedTo, lesser-kept, pass-more}
use Rattle.rank_tables.proofs.filling.pass.Goals as goal

pub number_of_node-number-requires-clause-lesser : goal.number_of_node-number-requires-clause-lesser
number_of_node-number-requires-clause-lesser c = λ m lt. lesser-kept c.args.system.now c.args.rows.now c.args.tails.now c.loop-e.rows c.loop-e.tails c.args.n m c.loop-e.invariant.in_rows c.loop-e.invariant.in_tails c.requires.rows.inside c.requires.tails.inside lt (c.requires.lesser m lt) c.loop-e.e

pub returns-clause-passed : goal.returns-clause-passed
returns-clause-passed c =
    let past = c.loop-e-test.false in
    let all = c.node_count-e-end.ensures.count in
    record {
      each_number = λ e node at. c.loop-e.invariant.numbers e node (let k = slice_get_within c.args.system.now.nodes e node at in omega arith) at;
      each_tail = λ e. elim (cases_lt e (length c.args.system.now.nodes)) [
        | inl lt ↦ c.loop-e.invariant.rests e (omega arith)
        | inr ge ↦ subst (λ o. AreSuffixes (number_at c.loop-e.rows) c.loop-e.tails (product_parts o) c.args.n) (sym (slice_get_past c.args.system.now.nodes e ge)) tt
      ];
    }

pub loop-e-preserved : goal.loop-e-preserved
loop-e-preserved c =
    subst (PassedTo c.args.system.now c.args.classes.now c.args.rows.now c.args.tails.now c.put.new.self c.number_of_node-number.new.tails c.args.n) (sym (add-one c.loop-e.e))
    (pass-more c.args.system.now c.known.ensures.sound c.args.classes.now c.args.rows.now c.args.tails.now c.loop-e.rows c.loop-e.tails c.put.new.self c.number_of_node-number.new.tails c.args.n c.loop-e.e c.number_of_node-number.result
    c.requires.rows.inside c.requires.tails.inside c.loop-e.invariant c.number_of_node-number.ensures.number c.number_of_node-number.ensures.tails c.number_of_node-number.ensures.nodes c.number_of_node-number.ensures.sizes c.number_of_node-number.ensures.others
    c.put.ensures.nodes c.put.ensures.sizes c.put.ensures.here c.put.ensures.others)
