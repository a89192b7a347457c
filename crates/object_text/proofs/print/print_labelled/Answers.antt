-- The body's object is all that is printed.
use Rattle.bz_model.specs.ObjectText.{object_text}
use Rattle.object_text.proofs.Tokens.{of-start, takes-all, none-unlabelled}
use Rattle.object_text.proofs.print.print_labelled.Goals as goal

pub print_all-requires-clause-unlabelled : goal.print_all-requires-clause-unlabelled
print_all-requires-clause-unlabelled c = none-unlabelled c.args.system.now.mode c.args.shape.now.items c.args.labels.now c.requires.labels

pub print_all-requires-clause-printed : goal.print_all-requires-clause-printed
print_all-requires-clause-printed c = record {
  whole = object_text c.args.system.now c.requires.is_of.body c.requires.is_of.object c.requires.is_of.belongs c.args.labels.now;
  prints = of-start c.args.system.now c.args.c.0 c.args.shape.now.items c.tokens-tokens.result.now c.requires.is_of c.args.labels.now (takes-all c.args.system.now c.args.c.0 c.args.shape.now.items c.args.labels.now c.args.system.now.mode c.requires.labels c.requires.is_of) c.body.result c.body.ensures.body c.push_one.new.self c.new-todos.result c.in_ok-output.output c.new-todos.ensures c.in_ok-push_one.ensures c.tokens-tokens.ensures c.in_ok-output.ensures;
}

pub returns : goal.returns
returns c = record {
  text = λ of. let done = c.in_ok-print_all.ensures (object_text c.args.system.now of.body of.object of.belongs c.args.labels.now)
      (of-start c.args.system.now c.args.c.0 c.args.shape.now.items c.tokens-tokens.result.now of c.args.labels.now (takes-all c.args.system.now c.args.c.0 c.args.shape.now.items c.args.labels.now c.args.system.now.mode c.requires.labels of) c.body.result c.body.ensures.body c.push_one.new.self c.new-todos.result c.in_ok-output.output c.new-todos.ensures c.in_ok-push_one.ensures c.tokens-tokens.ensures c.in_ok-output.ensures) in
      let told = c.into_text.ensures in cc;
}
