-- One token is printed, with its label.
use Rattle.std.proofs.Common.{◌<◌, ◌+◌, length, drop, get_or, arith, sym, ◌∙◌, subst}
use Rattle.object_store.specs.Tokens.{token_size}
use Rattle.object_store.specs.declared.token.Token.TheVariants as token
use Rattle.object_text.specs.Printing.{Prints, PrintsObject, IsFront}
use Rattle.object_text.proofs.LabelParts.{drop-drop}
use Rattle.object_text.proofs.Ways.{token-there, token-next, label-next, label-read, one-atom}
use Rattle.object_text.proofs.walk.print_all.Goals as goal

pub print_token-requires-clause-next : goal.print_token-requires-clause-next
print_token-requires-clause-next c =
    let front = subst (IsFront c.args.system.now c.loop-e.todos c.loop-e.output c.descend.new.todos c.descend.new.output) c.in-Some.is c.in_ok-e.ensures.front in
    let prints = front.goes.on c.requires.printed.whole (drop c.loop-e.place c.args.tokens.now) (drop c.loop-e.used c.args.labels.now) (c.loop-e.invariant.on c.requires.printed.whole c.requires.printed.prints) in
    let here = token-next c.args.system.now c.in-Some.e.0 c.loop-e.place c.args.tokens.now (drop c.loop-e.used c.args.labels.now) c.descend.new.output (Prints c.args.system.now c.requires.printed.whole c.descend.new.todos) (token.Pick 0) front.has_token prints in
    record {
      rest = drop (c.loop-e.place + 1) c.args.tokens.now;
      labels = drop c.loop-e.used c.args.labels.now;
      is_label = label-next c.args.labels.now c.loop-e.used ∙ label-read c.args.labels.now c.loop-e.used c.get.result c.get.ensures.lookup.3 ∙ sym c.copied-label.ensures;
      wholly = record { whole = c.requires.printed.whole; prints = subst (λ ts. PrintsObject c.args.system.now c.in-Some.e.0 (Prints c.args.system.now c.requires.printed.whole c.descend.new.todos) ts (drop c.loop-e.used c.args.labels.now) c.descend.new.output) here prints };
    }

pub loop-e-preserved : goal.loop-e-preserved
loop-e-preserved c =
    let front = subst (IsFront c.args.system.now c.loop-e.todos c.loop-e.output c.descend.new.todos c.descend.new.output) c.in-Some.is c.in_ok-e.ensures.front in
    let first = front.goes.on c.requires.printed.whole (drop c.loop-e.place c.args.tokens.now) (drop c.loop-e.used c.args.labels.now) (c.loop-e.invariant.on c.requires.printed.whole c.requires.printed.prints) in
    let within : c.loop-e.place < length c.args.tokens.now = token-there c.args.system.now c.in-Some.e.0 c.loop-e.place c.args.tokens.now (drop c.loop-e.used c.args.labels.now) c.descend.new.output (Prints c.args.system.now c.requires.printed.whole c.descend.new.todos) front.has_token first in
    let atoms = c.atoms.ensures in
    let few = one-atom (get_or c.args.tokens.now c.loop-e.place (token.Pick 0)) in
    record {
      within = omega arith;
      few = let before = c.loop-e.invariant.few in omega (arith, atoms, few);
      on = λ whole p.
          let prints = front.goes.on whole (drop c.loop-e.place c.args.tokens.now) (drop c.loop-e.used c.args.labels.now) (c.loop-e.invariant.on whole p) in
          let here = token-next c.args.system.now c.in-Some.e.0 c.loop-e.place c.args.tokens.now (drop c.loop-e.used c.args.labels.now) c.descend.new.output (Prints c.args.system.now whole c.descend.new.todos) (token.Pick 0) front.has_token prints in
          subst (λ n. Prints c.args.system.now whole c.print_token.new.todos (drop (c.loop-e.place + 1) c.args.tokens.now) (drop (c.loop-e.used + n) c.args.labels.now) c.print_token.new.output) (sym c.atoms.ensures)
          (subst (λ ls. Prints c.args.system.now whole c.print_token.new.todos (drop (c.loop-e.place + 1) c.args.tokens.now) ls c.print_token.new.output) (sym (drop-drop c.loop-e.used (token_size (get_or c.args.tokens.now c.loop-e.place (token.Pick 0))) c.args.labels.now))
          (c.in_ok-print_token.ensures.takes.on whole (drop (c.loop-e.place + 1) c.args.tokens.now) (drop c.loop-e.used c.args.labels.now)
          (label-next c.args.labels.now c.loop-e.used ∙ label-read c.args.labels.now c.loop-e.used c.get.result c.get.ensures.lookup.3 ∙ sym c.copied-label.ensures)
          (subst (λ ts. PrintsObject c.args.system.now c.in-Some.e.0 (Prints c.args.system.now whole c.descend.new.todos) ts (drop c.loop-e.used c.args.labels.now) c.descend.new.output) here prints)));
    }
