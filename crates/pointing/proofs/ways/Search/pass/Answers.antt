use Rattle.std.proofs.Common.{inl, inr, refl, ◌∙◌, ap, subst}
use Rattle.bz_model.specs.Object.Object.{SeqOf, SetOf, CycOf}
use Rattle.bz_model.specs.Spec.{Node}
use Rattle.object_store.specs.Waiting.{Shows}
use Rattle.pointing.specs.Ways.{level_opened}
use Rattle.pointing.proofs.Searches.{tuple-passed, list-passed}
use Rattle.pointing.proofs.ways.Search.pass.Goals as goal

pub returns-in_ok-open-in-Product : goal.returns-in_ok-open-in-Product
returns-in_ok-open-in-Product c = record {
  passed = record {
    on = λ es os ts fs us shows lt.
        tuple-passed c.args.system.now c.args.e.0 es os ts fs us c.args.self.now.levels c.args.self.now.before lt c.parts_of.result (record { levels = c.open.new.self; before = c.self.inside.before })
        (c.in_ok-open-in-Product.ensures.opened ∙ ap (λ l. level_opened c.parts_of.result l.levels) c.self.view_is) (ap (λ l. l.before) c.self.view_is) c.parts_of.ensures.exact
        (subst (λ v. Shows c.args.system.now c.args.e.0 es os ts v fs us) c.in-Product.is shows);
  };
}

pub returns-in_ok-open-in-Seq : goal.returns-in_ok-open-in-Seq
returns-in_ok-open-in-Seq c =
    let s = c.args.system.now in
    let e = c.args.e.0 in
    let old = c.args.self.now in
    let parts = c.in-Seq.parts in
    let opens = c.in_ok-open-in-Seq.ensures.opened ∙ ap (λ l. level_opened parts l.levels) c.self.view_is in
    let same = ap (λ l. l.before) c.self.view_is in
    record {
      passed = record {
        on = λ es os ts fs us shows lt. elim c.in-Seq.is [
          | inl k ↦ list-passed s e es os ts fs us old.levels old.before lt Node.Seq SeqOf parts k.0.0 (record { levels = c.open-in-Seq.new.self; before = c.self.inside.before }) opens same (λ ps. refl) (λ ps. refl) (subst (λ v. Shows s e es os ts v fs us) k.1 shows)
          | inr others ↦ elim others [
            | inl k ↦ list-passed s e es os ts fs us old.levels old.before lt Node.Set SetOf parts k.0.0 (record { levels = c.open-in-Seq.new.self; before = c.self.inside.before }) opens same (λ ps. refl) (λ ps. refl) (subst (λ v. Shows s e es os ts v fs us) k.1 shows)
            | inr k ↦ list-passed s e es os ts fs us old.levels old.before lt Node.Cyc CycOf parts k.0.0 (record { levels = c.open-in-Seq.new.self; before = c.self.inside.before }) opens same (λ ps. refl) (λ ps. refl) (subst (λ v. Shows s e es os ts v fs us) k.1 shows)
          ]
        ];
      };
    }
