use Rattle.std.proofs.Common.{sym, subst}
use Rattle.pointing.specs.Building.{IsLayout}
use Rattle.pointing.proofs.Layouts.{on-both, choice-few, choice-many}
use Rattle.pointing.proofs.layout.Layout.choice.Goals as goal

pub returns-then-n-lt2 : goal.returns-then-n-lt2
returns-then-n-lt2 c = record {
  laid = λ names fs is. subst (λ z. IsLayout names z c.args.self.now) (sym (choice-few c.args.n fs c.if-n-lt2.true)) is;
}

pub returns-else-n-lt2 : goal.returns-else-n-lt2
returns-else-n-lt2 c = record {
  laid = on-both c.union.result c.union.ensures.laid c.union.ensures.laid (λ laid again names fs is. subst (λ z. IsLayout names z c.union.new.self) (sym (choice-many c.args.n fs c.if-n-lt2.false)) (laid names fs is));
}
