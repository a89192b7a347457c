use Rattle.std.proofs.Common.{◌∷◌, [], sym, ap, subst}
use Rattle.pointing.specs.Unmarking.{Unmarking, LeadsTo, with_dues, HasRead}
use Rattle.pointing.specs.declared.dues.Due.TheVariants as due
use Rattle.pointing.proofs.UnmarkWalk.{read-resolved}
use Rattle.pointing.proofs.unmarking.Unmarking.unmark.Goals as goal

pub returns-in_ok-unmark_atom-in-Atom : goal.returns-in_ok-unmark_atom-in-Atom
returns-in_ok-unmark_atom-in-Atom c =
    let s = c.args.system.now in
    let p = c.args.pointed.now in
    let e = c.args.e.0 in
    let middle : Unmarking = record { dues = c.self.inside.dues; written = c.resolve.new.written.items; told = c.self.inside.told } in
    record {
      read = read-resolved s p c.args.node c.in_ok-now.now e c.args.visit c.args.self.now middle c.unmark_atom.new.self
          (subst (λ z. LeadsTo s c.args.node.0 c.in_ok-now.now.0 z.written c.resolve.new.written.items) c.self.view_is c.in_ok-now.ensures.leads)
          (ap (λ z. z.dues) c.self.view_is) (ap (λ z. z.told) c.self.view_is)
          (subst (λ v. HasRead s p e v (with_dues (due.Marked c.in_ok-now.now ∷ []) middle) c.unmark_atom.new.self) (sym c.in-Atom.is) (c.in_ok-unmark_atom-in-Atom.ensures.read p e));
    }

pub returns-in_ok-unmark_pick-in-Union : goal.returns-in_ok-unmark_pick-in-Union
returns-in_ok-unmark_pick-in-Union c =
    let s = c.args.system.now in
    let p = c.args.pointed.now in
    let e = c.args.e.0 in
    let middle : Unmarking = record { dues = c.self.inside.dues; written = c.resolve.new.written.items; told = c.self.inside.told } in
    record {
      read = read-resolved s p c.args.node c.in_ok-now.now e c.args.visit c.args.self.now middle c.unmark_pick.new.self
          (subst (λ z. LeadsTo s c.args.node.0 c.in_ok-now.now.0 z.written c.resolve.new.written.items) c.self.view_is c.in_ok-now.ensures.leads)
          (ap (λ z. z.dues) c.self.view_is) (ap (λ z. z.told) c.self.view_is)
          (subst (λ v. HasRead s p e v (with_dues (due.Marked c.in_ok-now.now ∷ []) middle) c.unmark_pick.new.self) (sym c.in-Union.is) (c.in_ok-unmark_pick-in-Union.ensures.read p e c.in-Union.field-1));
    }
