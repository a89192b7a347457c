use Rattle.std.proofs.Common.{◌-◌, length, take, drop, sym, ◌∙◌, take_all, length-drop, arith}
use Rattle.spec_reader.proofs.Fronts.{front_read}
use Rattle.spec_reader.proofs.lexer.front_of.Goals as goal

pub returns-then-is_run_byte-clause-exact : goal.returns-then-is_run_byte-clause-exact
returns-then-is_run_byte-clause-exact c =
    let bytes = c.args.bytes.now in
    let n = c.run_length-more.result in
    let rest = take (length bytes - 1) (drop 1 bytes) in
    front_read bytes rest (take (length rest - n) (drop n rest)) n c.run_front.result c.requires c.if-b-eq10.false (sym c.is_blank.ensures.exact ∙ c.if-is_blank.false) c.if-b-eq35.false (sym c.is_run_byte.ensures.exact ∙ c.if-is_run_byte.true) (take_all _ _ (omega (arith, length-drop 1 bytes))) (take_all _ _ (omega (arith, length-drop n rest))) c.run_length-more.ensures.exact c.run_front.ensures.exact
