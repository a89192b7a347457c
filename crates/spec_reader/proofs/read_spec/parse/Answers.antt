use Rattle.std.proofs.Common.{[], true, length, refl, ap, subst, arith}
use Rattle.bz_model.specs.Spec.{Spec}
use Rattle.class_system.specs.Views.{spec_mode, number}
use Rattle.spec_reader.specs.Machine.{Lines}
use Rattle.spec_reader.specs.Reading.{plain_tokens}
use Rattle.spec_reader.specs.Faults.{with_names, line_names}
use Rattle.spec_reader.specs.Building.{kept_in_sums, outer_kept, MachineStopsAt}
use Rattle.std.proofs.Common.{map}
use Rattle.spec_reader.proofs.Parsing.{begins_so, parsed, few_names}
use Rattle.spec_reader.proofs.read_spec.parse.Goals as goal

pub take_all-requires-clause-few_names : goal.take_all-requires-clause-few_names
take_all-requires-clause-few_names c = omega (arith, ap (λ (d : Spec). length d.names) c.in-Ok.ensures.named, few_names c.args.lines.now)

pub returns-in-Ok-Some-clause-stops : goal.returns-in-Ok-Some-clause-stops
returns-in-Ok-Some-clause-stops c =
    let lines = c.args.lines.now in
    let mode = spec_mode c.args.mode in
    let names = with_names [] (line_names true (plain_tokens lines)) in
    let from = Lines (record { mode = mode; definitions = [] }) in
    let begun = begins_so mode lines (kept_in_sums (record { draft = c.in-Ok.draft; frame = c.new-frame.result; outers = c.new-outers.result })) c.in-Ok.ensures.named (ap (λ es. map number es) c.new-frame.ensures.products) (ap (λ es. map number es) c.new-frame.ensures.factors) (ap (λ os. map outer_kept os) c.new-outers.ensures.items) in
    subst (λ o. MachineStopsAt names from lines o c.take_all.new.self.expects (kept_in_sums c.take_all.new.self.sums)) c.in-Ok-Some.field-0-is (c.in-Ok-Some.ensures.read names from begun)

pub returns-in-Ok-None-clause-ok : goal.returns-in-Ok-None-clause-ok
returns-in-Ok-None-clause-ok c =
    let lines = c.args.lines.now in
    let mode = spec_mode c.args.mode in
    let names = with_names [] (line_names true (plain_tokens lines)) in
    let from = Lines (record { mode = mode; definitions = [] }) in
    let begun = begins_so mode lines (kept_in_sums (record { draft = c.in-Ok.draft; frame = c.new-frame.result; outers = c.new-outers.result })) c.in-Ok.ensures.named (ap (λ es. map number es) c.new-frame.ensures.products) (ap (λ es. map number es) c.new-frame.ensures.factors) (ap (λ os. map outer_kept os) c.new-outers.ensures.items) in
    parsed mode lines names c.take_all.new.self.expects (kept_in_sums c.take_all.new.self.sums) c.requires.ended refl
    (subst (λ o. MachineStopsAt names from lines o c.take_all.new.self.expects (kept_in_sums c.take_all.new.self.sums)) c.in-Ok-None.field-0-is (c.in-Ok-None.ensures.read names from begun))
