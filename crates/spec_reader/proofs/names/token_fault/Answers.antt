use Rattle.std.proofs.Common.{true, false, sym}
use Rattle.spec_reader.proofs.NamesSeen.{among_found, among_missing, fault_of_first, fault_of_other}
use Rattle.spec_reader.proofs.names.token_fault.Goals as goal

pub returns-in-Some : goal.returns-in-Some
returns-in-Some c =
    let d = c.args.draft.now in
    let p = c.args.placed.now in
    let seen = c.args.seen.now in
    let w = c.in-Name.name in
    record { exact = sym (fault_of_first d.mode d.names seen c.args.starts p.token w true p.line p.column c.in-Name.is c.if-starts.true (among_found seen w c.in-Some.field-0 c.in-Some.ensures.found)) }

pub returns-in-None : goal.returns-in-None
returns-in-None c =
    let d = c.args.draft.now in
    let p = c.args.placed.now in
    let seen = c.args.seen.now in
    let w = c.in-Name.name in
    record { exact = sym (fault_of_first d.mode d.names seen c.args.starts p.token w false p.line p.column c.in-Name.is c.if-starts.true (among_missing seen w c.in-None.ensures.missing)) }

pub returns-in-Some-class_of : goal.returns-in-Some-class_of
returns-in-Some-class_of c =
    let d = c.args.draft.now in
    let p = c.args.placed.now in
    let w = c.in-Name-2.name in
    record { exact = sym (fault_of_other d.mode d.names c.args.seen.now c.args.starts p.token w true p.line p.column c.in-Name-2.is c.if-starts.false (among_found d.names w c.in-Some-class_of.field-0.0 c.in-Some-class_of.ensures.found)) }

pub returns-in-None-class_of : goal.returns-in-None-class_of
returns-in-None-class_of c =
    let d = c.args.draft.now in
    let p = c.args.placed.now in
    let w = c.in-Name-2.name in
    record { exact = sym (fault_of_other d.mode d.names c.args.seen.now c.args.starts p.token w false p.line p.column c.in-Name-2.is c.if-starts.false (among_missing d.names w c.in-None-class_of.ensures.missing)) }
