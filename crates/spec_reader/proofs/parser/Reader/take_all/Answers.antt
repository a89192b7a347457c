use Rattle.std.proofs.Common.{take, subst, sym, ◌∙◌, arith}
use Rattle.spec_reader.specs.Machine.{run, step}
use Rattle.spec_reader.specs.Reading.{plain_tokens}
use Rattle.spec_reader.specs.Building.{kept_in_sums, Represents, LeadsOrFails}
use Rattle.spec_reader.proofs.Taking.{represented, run_one_more}
use Rattle.spec_reader.proofs.parser.Reader.take_all.Goals as goal

pub returns-then-not-branch : goal.returns-then-not-branch
returns-then-not-branch c = record {
  read = λ names s r.
      let i = c.loop-i.i in
      let tokens = c.args.tokens.now in
      let before = run s (plain_tokens (take i tokens)) in
      let here = c.loop-i.invariant.so_far names s r in
      let led = c.in_ok-take.ensures.read names before here in
      let token = c.index-tokens-i.result in
      let fails = subst (λ b. LeadsOrFails names (step before token.token) b c.take.new.self.expects (kept_in_sums c.take.new.self.sums)) c.if-not-branch.true led in
      record { within = c.loop-i-test.true; goes_on = represented names before c.loop-i.self.expects (kept_in_sums c.loop-i.self.sums) here; fails = run_one_more s tokens i token c.loop-i-test.true c.index-tokens-i.is ∙ fails };
}

pub loop-i-preserved : goal.loop-i-preserved
loop-i-preserved c = record {
  few = omega (arith, c.in_ok-take.ensures.few);
  same_names = c.in_ok-take.ensures.names ∙ c.loop-i.invariant.same_names;
  so_far = λ names s r.
      let i = c.loop-i.i in
      let tokens = c.args.tokens.now in
      let before = run s (plain_tokens (take i tokens)) in
      let led = c.in_ok-take.ensures.read names before (c.loop-i.invariant.so_far names s r) in
      let token = c.index-tokens-i.result in
      let goes_on = subst (λ b. LeadsOrFails names (step before token.token) b c.take.new.self.expects (kept_in_sums c.take.new.self.sums)) c.if-not-branch.false led in
      subst (λ q. Represents names q c.take.new.self.expects (kept_in_sums c.take.new.self.sums)) (sym (run_one_more s tokens i token c.loop-i-test.true c.index-tokens-i.is)) goes_on;
}
