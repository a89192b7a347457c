use Rattle.std.proofs.Common.{◌↔◌, ℕ, List, Bool, subst, sym}
use Rattle.well_founded.specs.declared.class_set.ClassSet.{ClassSet}
use Rattle.well_founded.specs.Foundedness.{Leads}
use Rattle.well_founded.specs.Marking.{AreMarked}
use Rattle.well_founded.specs.Ways.{Points}
use Rattle.well_founded.proofs.Judged.{marked-some, marked-zero, founded-by}
use Rattle.well_founded.proofs.examination.judge.Goals as goal

pub first_without_object-requires-clause-some : goal.first_without_object-requires-clause-some
first_without_object-requires-clause-some c = subst (λ (xs : List Bool). AreMarked c.args.system.now (Unit {0}) xs) (sym c.deref.ensures.value) (marked-some _ _ c.in_ok-some.ensures)

pub first_repeat-requires-clause-zero : goal.first_repeat-requires-clause-zero
first_repeat-requires-clause-zero c = subst (λ (xs : List Bool). AreMarked c.args.system.now ⊥ xs) (sym c.deref-2.ensures.value) (marked-zero _ _ c.in_ok-zero.ensures)

pub leads-requires-clause-zero : goal.leads-requires-clause-zero
leads-requires-clause-zero c = subst (λ (xs : List Bool). AreMarked c.args.system.now ⊥ xs) (sym c.deref-3.ensures.value) (marked-zero _ _ c.in_ok-zero.ensures)

pub returns-clause-ok : goal.returns-clause-ok
returns-clause-ok c =
    let leads = subst (λ (xs : List ClassSet). (e d : ℕ) → Points xs e d ↔ Leads c.args.system.now e d) (sym c.deref-4.ensures.value) c.in_ok-rows.ensures.exact in
    founded-by _ _ _ c.requires.sound c.in_default.ensures.none c.in_default-first_repeat.ensures.none leads c.in_default-first_round.ensures.none (marked-zero _ _ c.in_ok-zero.ensures)
