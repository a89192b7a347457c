use Rattle.std.proofs.Common.{◌≡◌, ◌∙◌, List, ℕ, length, replicate, subst, sym, ap, arith}
use Rattle.std.proofs.Math.ListN.{length-replicate}
use Rattle.std.proofs.lemmas.List.{length-map}
use Rattle.bz_model.specs.Fraction.{ratio}
use Rattle.bz_model.specs.Spec.{Spec}
use Rattle.class_system.specs.Views.{number}
use Rattle.class_system.specs.Sound.{IsSound}
use Rattle.rounded_map.specs.Bounding.{AreBelow}
use Rattle.rounded_map.proofs.Bounding.{sweeps-reached-at}
use Rattle.oracle_memo.proofs.memo.Memo.make.Goals as goal

pub from_start-requires : goal.from_start-requires
from_start-requires g c =
    let s = c.args.founded.now in
    let count : length c.bodies.result.now ≡ length s.bodies = sym (length-map c.bodies.result.now number) ∙ ap length c.bodies.ensures.bodies ∙ ap (λ (r : Spec). length r.bodies) c.system-system.ensures.system in
    let items : c.in_ok-start.start.items ≡ replicate (length s.bodies) 0 = c.in_ok-start.ensures.items_if_clones_equal (λ y h. h) ∙ ap (λ (n : ℕ). replicate n 0) count in
    let sound : IsSound s = subst IsSound c.system-system.ensures.system c.known.ensures.sound in
    let below : AreBelow s (ratio c.args.x.num c.args.x.den) g.row.F (replicate (length s.bodies) 0) = sweeps-reached-at s c.args.x.num c.args.x.den g.row.F 0 sound c.args.x.den_in_limits.0 in
    (omega arith, (omega arith, (c.requires.fraction_bits, (c.requires.belongs, (ap length items ∙ length-replicate (length s.bodies) 0, subst (λ v. AreBelow s (ratio c.args.x.num c.args.x.den) g.row.F v) (sym items) below)))))
