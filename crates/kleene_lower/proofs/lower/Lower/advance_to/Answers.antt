use Rattle.std.proofs.Common.{◌≡◌, ◌-◌, length, ◌∙◌, ap, sym, arith}
use Rattle.rounded_map.specs.RoundedMap.{setting, repeated, sweep_down}
use Rattle.kleene_lower.specs.Lower.{Sweeps}
use Rattle.kleene_lower.proofs.Advance.{advanced, length-swept, written-whole}
use Rattle.kleene_lower.proofs.lower.Lower.advance_to.Goals as goal

pub sweep_on-requires-clause-one_per_class : goal.sweep_on-requires-clause-one_per_class
sweep_on-requires-clause-one_per_class g c =
    ap length (c.deref_mut.ensures.value ∙ ap (λ (v : Sweeps). v.entries) c.self.view_is) ∙ c.requires.one_per_class

pub returns-clause-same : goal.returns-clause-same
returns-clause-same g c = λ start same.
    let t = setting c.args.system.now c.args.x.num c.args.x.den g.row.F in
    let further = c.args.sweeps - c.self.inside.sweeps in
    let done : c.self.inside.sweeps ≡ c.args.self.now.done = ap (λ (v : Sweeps). v.done) c.self.view_is in
    let entries : c.deref_mut.result.now ≡ c.args.self.now.entries = c.deref_mut.ensures.value ∙ ap (λ (v : Sweeps). v.entries) c.self.view_is in
    advanced t start c.args.self.now _ further same
    (written-whole _ _ _ (omega arith) ∙ c.sweep_on.ensures.swept ∙ ap (repeated (sweep_down t) further) entries)
    (ap (λ (v : Sweeps). v.room) c.self.view_is)
    (omega arith)

pub returns-clause-length : goal.returns-clause-length
returns-clause-length g c =
    let t = setting c.args.system.now c.args.x.num c.args.x.den g.row.F in
    let further = c.args.sweeps - c.self.inside.sweeps in
    let entries : c.deref_mut.result.now ≡ c.args.self.now.entries = c.deref_mut.ensures.value ∙ ap (λ (v : Sweeps). v.entries) c.self.view_is in
    ap length (written-whole _ _ _ (omega arith) ∙ c.sweep_on.ensures.swept ∙ ap (repeated (sweep_down t) further) entries)
    ∙ length-swept t c.args.self.now.entries further c.requires.one_per_class ∙ sym c.requires.one_per_class
