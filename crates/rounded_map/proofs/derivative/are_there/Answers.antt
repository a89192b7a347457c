use Rattle.std.proofs.Common.{◌≡◌, map, length, arith, sym, ◌∙◌, below_more}
use Rattle.std.proofs.lemmas.List.{length-map}
use Rattle.class_system.specs.Views.{number}
use Rattle.rounded_map.specs.Derivative.{dual_at}
use Rattle.rounded_map.proofs.PartsListed.{part-in_range}
use Rattle.rounded_map.proofs.Entries.{body_value}
use Rattle.rounded_map.proofs.Replaced.{all-there, one-missing, not_there, both_ways}
use Rattle.rounded_map.proofs.derivative.are_there.Goals as goal

pub bounds-derivatives-bodies : goal.bounds-derivatives-bodies
bounds-derivatives-bodies c = part-in_range c.args.bodies.now _ c.loop-c.c _ (omega arith) c.requires.bodies

pub returns-then-is_none-clause-missing : goal.returns-then-is_none-clause-missing
returns-then-is_none-clause-missing c = λ no.
    let us = map (dual_at c.args.derivatives.now) (map number c.args.bodies.now) in
    let same : length us ≡ length c.args.bodies.now = length-map (map number c.args.bodies.now) (dual_at c.args.derivatives.now) ∙ length-map c.args.bodies.now number in
    let value = body_value (dual_at c.args.derivatives.now) c.args.bodies.now c.loop-c.c (record { 0 = 0 }) (omega arith) in
    one-missing us c.loop-c.c (omega arith) (value ∙ sym c.add_hi.ensures ∙ not_there _ c.if-is_none.ensures)

pub loop-c-preserved : goal.loop-c-preserved
loop-c-preserved c =
    let value = body_value (dual_at c.args.derivatives.now) c.args.bodies.now c.loop-c.c (record { 0 = 0 }) (omega arith) in
    below_more _ _ c.loop-c.invariant (λ none. both_ways _ c.if-is_none.ensures (c.add_hi.ensures ∙ sym value ∙ none))

pub returns-clause-there : goal.returns-clause-there
returns-clause-there c = λ yes_all.
    let us = map (dual_at c.args.derivatives.now) (map number c.args.bodies.now) in
    let same : length us ≡ length c.args.bodies.now = length-map (map number c.args.bodies.now) (dual_at c.args.derivatives.now) ∙ length-map c.args.bodies.now number in
    all-there us (λ p below. c.loop-c.invariant p (omega arith))
