use Rattle.std.proofs.Common.{◌≡◌, ◌-◌, take, drop, length, take_all, length-drop, ap, arith}
use Rattle.class_system.specs.Views.{spec_mode}
use Rattle.spec_reader.proofs.Parsing.{ended_rest}
use Rattle.spec_reader.proofs.Texts.{stands, faulty, few_parsed, stop_of}
use Rattle.spec_reader.proofs.read_spec.read_tokens.Goals as goal

pub parse-requires-clause-ended : goal.parse-requires-clause-ended
parse-requires-clause-ended c =
    let ts = c.args.tokens.now in
    let lines = take (length ts - 2) (drop 2 ts) in
    let rest : lines ≡ drop 2 ts = take_all _ _ (omega (arith, length-drop 2 ts)) in
    ended_rest ts lines _ c.requires.ended c.in-Ok.ensures.long c.in-Ok.ensures.mode rest

pub stop_fault-requires-clause-stops : goal.stop_fault-requires-clause-stops
stop_fault-requires-clause-stops c =
    let ts = c.args.tokens.now in
    let lines = take (length ts - 2) (drop 2 ts) in
    let rest : lines ≡ drop 2 ts = take_all _ _ (omega (arith, length-drop 2 ts)) in
    stop_of ts lines (spec_mode c.in-Ok.mode) _ c.in-Ok.ensures.long c.in-Ok.ensures.mode rest c.in-Err-parse.ensures.stops

pub first_fault-requires : goal.first_fault-requires
first_fault-requires c =
    let ts = c.args.tokens.now in
    let lines = take (length ts - 2) (drop 2 ts) in
    let rest : lines ≡ drop 2 ts = take_all _ _ (omega (arith, length-drop 2 ts)) in
    record { few = omega (arith, few_parsed (spec_mode c.in-Ok.mode) lines c.in-Ok-parse.draft c.in-Ok-parse.ensures.ok, ap length rest, length-drop 2 ts) }

pub returns-in-Ok-None-clause-ok : goal.returns-in-Ok-None-clause-ok
returns-in-Ok-None-clause-ok c =
    let ts = c.args.tokens.now in
    let lines = take (length ts - 2) (drop 2 ts) in
    let rest : lines ≡ drop 2 ts = take_all _ _ (omega (arith, length-drop 2 ts)) in
    stands ts lines (spec_mode c.in-Ok.mode) c.in-Ok-parse.draft c.in-Ok-None.field-0 c.in-Ok.ensures.long c.in-Ok.ensures.mode rest c.in-Ok-parse.ensures.ok c.in-Ok-None.ensures.exact c.in-Ok-None.field-0-is

pub returns-in-Ok-Some-clause-fault : goal.returns-in-Ok-Some-clause-fault
returns-in-Ok-Some-clause-fault c =
    let ts = c.args.tokens.now in
    let lines = take (length ts - 2) (drop 2 ts) in
    let rest : lines ≡ drop 2 ts = take_all _ _ (omega (arith, length-drop 2 ts)) in
    faulty ts lines (spec_mode c.in-Ok.mode) c.in-Ok-parse.draft c.in-Ok-Some.field-0 c.in-Ok-Some.fault c.in-Ok.ensures.long c.in-Ok.ensures.mode rest c.in-Ok-parse.ensures.ok c.in-Ok-Some.ensures.exact c.in-Ok-Some.field-0-is
