use Rattle.std.proofs.Common.{◌≡◌, ◌∙◌, ◌+◌, ◌-◌, ◌*◌, ℕ, List, length, subst, ap, sym, refl, arith}
use Rattle.bz_model.specs.Spec.{Spec}
use Rattle.bz_model.specs.declared.cell.Bounds.{Bounds}
use Rattle.kleene_lower.proofs.Advance.{one_per_class}
use Rattle.rounded_map.specs.RoundedMap.{setting}
use Rattle.oracle_memo.specs.Levels.{sweeps_at}
use Rattle.oracle_memo.specs.Memos.{Memory, HasRows}
use Rattle.oracle_memo.proofs.Raising.{length-level_up, sweeps-rise, written-whole, upper-next, fixed-next, lower-before, lower-next, lows-next, highs-next}
use Rattle.oracle_memo.proofs.RowByRow.{start-cases, rows-more}
use Rattle.oracle_memo.proofs.memo.Memo.raise_next.Goals as goal

pub sweep_on-requires-clause-one_per_class : goal.sweep_on-requires-clause-one_per_class
sweep_on-requires-clause-one_per_class g c =
    let m = c.self.inside in
    ap length c.deref_mut.ensures.value ∙ ap length c.self.invariant.upper_is ∙ length-level_up (setting m.founded.now m.x.num m.x.den g.row.F) m.base m.raised c.self.invariant.post_fixed
    ∙ ap (λ (s : Spec). length s.bodies) (sym c.system-system.ensures.system)

pub eval_lo-requires-clause-one_per_class : goal.eval_lo-requires-clause-one_per_class
eval_lo-requires-clause-one_per_class g c =
    let m = c.self.inside in
    ap length c.values.ensures.entries ∙ one_per_class (setting c.system-system.result.now m.x.num m.x.den g.row.F) m.start.items c.advance_to.new.self (c.advance_to.ensures.same m.start.items (lower-before c.system-system.result.now m.founded.now m.x.num m.x.den g.row.F c.system-system.ensures.system m.start.items m.lower c.self.invariant.lower_is))

pub eval_there-requires-clause-post_fixed : goal.eval_there-requires-clause-post_fixed
eval_there-requires-clause-post_fixed g c =
    let m = c.self.inside in
    fixed-next c.system-system.result.now m.founded.now m.x.num m.x.den g.row.F c.system-system.ensures.system m.base c.deref.result.now (m.raised + 1) (omega (arith, c.self.invariant.bits.0)) c.self.invariant.post_fixed
    (upper-next c.system-system.result.now m.founded.now m.x.num m.x.den g.row.F c.system-system.ensures.system m.base m.upper.items c.deref_mut.result.now c.sweep_on.new.classes c.deref.result.now m.raised (m.raised + 1) (c.sweeps_to-sweeps.result - c.sweeps_to.result) c.self.invariant.upper_is c.deref_mut.ensures.value c.sweep_on.ensures.swept
    (c.deref.ensures.value ∙ written-whole _ _ _ (omega arith)) (omega (arith, sweeps-rise m.raised)))

pub eval_there-requires-clause-one_per_class : goal.eval_there-requires-clause-one_per_class
eval_there-requires-clause-one_per_class g c =
    let m = c.self.inside in
    ap length
    (upper-next c.system-system.result.now m.founded.now m.x.num m.x.den g.row.F c.system-system.ensures.system m.base m.upper.items c.deref_mut.result.now c.sweep_on.new.classes c.deref.result.now m.raised (m.raised + 1) (c.sweeps_to-sweeps.result - c.sweeps_to.result) c.self.invariant.upper_is c.deref_mut.ensures.value c.sweep_on.ensures.swept
    (c.deref.ensures.value ∙ written-whole _ _ _ (omega arith)) (omega (arith, sweeps-rise m.raised)))
    ∙ length-level_up (setting m.founded.now m.x.num m.x.den g.row.F) m.base (m.raised + 1) c.self.invariant.post_fixed
    ∙ ap (λ (s : Spec). length s.bodies) (sym c.system-system.ensures.system)

pub invariant_of-self : goal.invariant_of-self
invariant_of-self g c =
    let m = c.self.inside in
    let same = c.system-system.ensures.system in
    let t = setting m.founded.now m.x.num m.x.den g.row.F in
    let more = m.raised + 1 in
    let before : m.raised ≡ c.args.self.now.raised = ap (λ (v : Memory). v.raised) c.self.view_is in
    let after = c.advance_to.ensures.same m.start.items (lower-before c.system-system.result.now m.founded.now m.x.num m.x.den g.row.F same m.start.items m.lower c.self.invariant.lower_is) in
    let done : c.advance_to.new.self.done ≡ sweeps_at more = c.advance_to.ensures.done ∙ c.sweeps_to-sweeps.ensures.sweeps in
    let upper = upper-next c.system-system.result.now m.founded.now m.x.num m.x.den g.row.F same m.base m.upper.items c.deref_mut.result.now c.sweep_on.new.classes c.deref.result.now m.raised more (c.sweeps_to-sweeps.result - c.sweeps_to.result) c.self.invariant.upper_is c.deref_mut.ensures.value c.sweep_on.ensures.swept
    (c.deref.ensures.value ∙ written-whole _ _ _ (omega arith)) (omega (arith, sweeps-rise m.raised)) in
    let lows = lows-next c.system-system.result.now m.founded.now m.x.num m.x.den g.row.F same m.start.items c.advance_to.new.self c.values.result.now c.eval_lo.new.nodes c.deref-2.result.now more after done c.values.ensures.entries c.eval_lo.ensures.values
    (c.deref-2.ensures.value ∙ written-whole _ _ _ (omega arith)) in
    let highs = highs-next c.system-system.result.now m.founded.now m.x.num m.x.den g.row.F same m.base c.deref.result.now c.eval_there.new.nodes c.deref-3.result.now more upper c.eval_there.ensures.values
    (c.deref-3.ensures.value ∙ written-whole _ _ _ (omega arith)) in
    record {
      bits = c.self.invariant.bits;
      post_fixed = c.self.invariant.post_fixed;
      reached = c.self.invariant.reached;
      few_levels = omega (arith, c.requires.below);
      few_nodes = c.self.invariant.few_nodes;
      lower_is = lower-next c.system-system.result.now m.founded.now m.x.num m.x.den g.row.F same m.start.items c.advance_to.new.self after;
      lower_done = done;
      upper_is = sym c.deref.ensures.value ∙ upper;
      rows = subst (λ (bs : List Bounds). HasRows t m.start.items m.base more bs) (sym (written-whole _ c.write_row.new.table _ (omega arith)))
          (rows-more t m.start.items m.base m.raised more (length c.deref-2.result.now) _ c.deref_mut-5.result.now c.write_row.new.table c.deref-2.result.now c.deref-3.result.now
          (subst (λ (bs : List Bounds). HasRows t m.start.items m.base m.raised bs) (sym c.deref_mut-5.ensures.value) c.self.invariant.rows)
          refl (c.deref-2.ensures.len ∙ c.self.invariant.low_values)
          (ap (λ (l : ℕ). l * c.len.result) c.from.ensures ∙ ap (λ (w : ℕ). m.raised * w) (c.len.ensures ∙ sym c.deref-2.ensures.len))
          c.write_row.ensures.written c.write_row.ensures.others lows highs
          (c.deref-3.ensures.len ∙ c.self.invariant.high_values ∙ sym (c.deref-2.ensures.len ∙ c.self.invariant.low_values)) c.write_row.ensures.fits);
      room = ap length (written-whole _ c.write_row.new.table _ (omega arith)) ∙ c.write_row.auto.table ∙ ap length c.deref_mut-5.ensures.value ∙ c.self.invariant.room;
      low_values = c.self.invariant.low_values;
      high_values = c.self.invariant.high_values;
    }

pub advance_to-requires : goal.advance_to-requires
advance_to-requires g c =
    let m = c.self.inside in
    let before = lower-before c.system-system.result.now m.founded.now m.x.num m.x.den g.row.F c.system-system.ensures.system m.start.items m.lower c.self.invariant.lower_is in
    (omega arith, (c.self.invariant.bits, (one_per_class (setting c.system-system.result.now m.x.num m.x.den g.row.F) m.start.items m.lower before, (before.room, omega (arith, sweeps-rise m.raised, c.self.invariant.lower_done, c.sweeps_to-sweeps.ensures.sweeps)))))

pub write_row-requires-clause-before : goal.write_row-requires-clause-before
write_row-requires-clause-before g c =
    let m = c.self.inside in
    start-cases m.raised (length c.deref-2.result.now) _ (ap (λ (l : ℕ). l * c.len.result) c.from.ensures ∙ ap (λ (w : ℕ). m.raised * w) (c.len.ensures ∙ sym c.deref-2.ensures.len))
