use Rattle.std.proofs.Common.{◌∷◌, [], subst}
use Rattle.pointing.specs.Unmarking.{SameReading, with_dues}
use Rattle.pointing.specs.declared.dues.Due.TheVariants as due
use Rattle.pointing.proofs.Layouts.{on-both}
use Rattle.pointing.proofs.UnmarkWalk.{read-after}
use Rattle.pointing.proofs.unmarking.Unmarking.visit.Goals as goal

pub returns-in-Some-Copied : goal.returns-in-Some-Copied
returns-in-Some-Copied c = record {
  read = on-both c.copy.result c.copy.ensures.read c.copy.ensures.read (λ read again.
      read-after c.args.system.now c.args.pointed.now c.args.e.0 c.args.visit c.args.self.now (with_dues (due.Copied c.in-Some-Copied.objects ∷ []) c.next_due.new.self) c.copy.new.self (subst (λ d. SameReading c.args.self.now (with_dues (d ∷ []) c.next_due.new.self)) c.in-Some-Copied.field-0-is c.in-Some-Copied.ensures.same) (read c.args.system.now));
}

pub returns-in-Some-Split : goal.returns-in-Some-Split
returns-in-Some-Split c = record {
  read = on-both c.read_first.result c.read_first.ensures.read c.read_first.ensures.read (λ read again.
      read-after c.args.system.now c.args.pointed.now c.args.e.0 c.args.visit c.args.self.now (with_dues (due.Split c.in-Some-Split.part ∷ []) c.next_due.new.self) c.read_first.new.self (subst (λ d. SameReading c.args.self.now (with_dues (d ∷ []) c.next_due.new.self)) c.in-Some-Split.field-0-is c.in-Some-Split.ensures.same) (read c.args.system.now c.args.pointed.now c.args.e.0));
}

pub returns-in-Some-Last : goal.returns-in-Some-Last
returns-in-Some-Last c = record {
  read = on-both c.read_last.result c.read_last.ensures.read c.read_last.ensures.read (λ read again.
      read-after c.args.system.now c.args.pointed.now c.args.e.0 c.args.visit c.args.self.now (with_dues (due.Last c.in-Some-Last.place c.in-Some-Last.before ∷ []) c.next_due.new.self) c.read_last.new.self (subst (λ d. SameReading c.args.self.now (with_dues (d ∷ []) c.next_due.new.self)) c.in-Some-Last.field-0-is c.in-Some-Last.ensures.same) (read c.args.system.now c.args.pointed.now c.args.e.0));
}
