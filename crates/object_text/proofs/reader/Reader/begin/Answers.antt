-- The beginning of an object, by the kind of its node.
use Rattle.std.proofs.Common.{◌≡◌, ◌∙◌, sym, ap, map, Some, arith}
use Rattle.std.proofs.lemmas.List.{length-map}
use Rattle.std.proofs.lemmas.Result.{IfOk-weaker, MatchResult-weaker}
use Rattle.bz_model.specs.Spec.{Node, node_at}
use Rattle.class_system.specs.Views.{spec_node, spec_range, number}
use Rattle.object_text.specs.declared.parsed.Kind.TheVariants.{Sequence, Set, Cycle}
use Rattle.object_text.specs.Scanning.{Faults}
use Rattle.object_text.specs.Expected.{Comes}
use Rattle.object_text.specs.States.{state}
use Rattle.object_text.proofs.Stops.{stops-weaker}
use Rattle.object_text.proofs.Moving.{neutral-moves, neutral-faults, atom-moves, atom-faults}
use Rattle.object_text.proofs.MovingParts.{option-moves, option-faults, product-moves, product-faults-of, some-parts, few-parts}
use Rattle.object_text.proofs.MovingLists.{list-moves, list-faults}
use Rattle.object_text.proofs.MovingOn.{list-facts}
use Rattle.object_text.proofs.reader.Reader.begin.Goals as goal

pub option-requires-clause-some : goal.option-requires-clause-some
option-requires-clause-some c =
    let at : node_at c.args.system.now c.args.e.0 ≡ Some (Node.Union (map number c.items.result.now)) = c.node.ensures.node ∙ ap (λ n. Some (spec_node n)) c.in-Union.is ∙ ap (λ ps. Some (Node.Union (map number ps))) (sym c.items.ensures.items) in
    omega (arith, c.known.ensures.sound.parts.at c.args.e.0 (Node.Union (map number c.items.result.now)) at, length-map c.items.result.now number)

pub option-requires-clause-few : goal.option-requires-clause-few
option-requires-clause-few c =
    let at : node_at c.args.system.now c.args.e.0 ≡ Some (Node.Union (map number c.items.result.now)) = c.node.ensures.node ∙ ap (λ n. Some (spec_node n)) c.in-Union.is ∙ ap (λ ps. Some (Node.Union (map number ps))) (sym c.items.ensures.items) in
    let few = (c.known.ensures.limits.parts.at c.args.e.0 (Node.Union (map number c.items.result.now)) at).few in
    omega (arith, few, length-map c.items.result.now number)

pub product-requires : goal.product-requires
product-requires c =
    let at : node_at c.args.system.now c.args.e.0 ≡ Some (Node.Product (map number c.items-in-Product.result.now)) = c.node.ensures.node ∙ ap (λ n. Some (spec_node n)) c.in-Product.is ∙ ap (λ ps. Some (Node.Product (map number ps))) (sym c.items-in-Product.ensures.items) in
    record { some = omega (arith, c.known.ensures.sound.parts.at c.args.e.0 (Node.Product (map number c.items-in-Product.result.now)) at, length-map c.items-in-Product.result.now number) }

pub returns-in-Empty-clause-ok : goal.returns-in-Empty-clause-ok
returns-in-Empty-clause-ok c =
    let at : node_at c.args.system.now c.args.e.0 ≡ Some (Node.Empty c.bytes.result.now) = c.node.ensures.node ∙ ap (λ n. Some (spec_node n)) c.in-Empty.is ∙ ap (λ w. Some (Node.Empty w)) (sym c.bytes.ensures) in
    IfOk-weaker c.neutral.result _ _ (λ x h. neutral-moves c.args.system.now c.known.ensures.sound c.known.ensures.limits c.requires.objects c.args.e c.args.text.now x.1.now (state c.args.self.now) c.requires.can_come c.bytes.result.now at x.0 (state c.neutral.new.self) h) c.neutral.ensures.ok

pub returns-in-Empty-clause-stop : goal.returns-in-Empty-clause-stop
returns-in-Empty-clause-stop c =
    let at : node_at c.args.system.now c.args.e.0 ≡ Some (Node.Empty c.bytes.result.now) = c.node.ensures.node ∙ ap (λ n. Some (spec_node n)) c.in-Empty.is ∙ ap (λ w. Some (Node.Empty w)) (sym c.bytes.ensures) in
    MatchResult-weaker c.neutral.result c.neutral.ensures.stop (λ x h. h) (λ s h. stops-weaker _ (Faults (Comes c.args.system.now (Some c.args.e) c.args.self.now.stack c.args.self.now.taken) c.args.text.now) (λ left k. neutral-faults c.args.system.now c.known.ensures.sound c.known.ensures.limits c.requires.objects c.args.e c.args.text.now c.args.text.now (state c.args.self.now) c.requires.can_come c.bytes.result.now at left k) s h)

pub returns-in-Atom-clause-ok : goal.returns-in-Atom-clause-ok
returns-in-Atom-clause-ok c =
    let at : node_at c.args.system.now c.args.e.0 ≡ Some (Node.Atom c.bytes-in-Atom.result.now) = c.node.ensures.node ∙ ap (λ n. Some (spec_node n)) c.in-Atom.is ∙ ap (λ w. Some (Node.Atom w)) (sym c.bytes-in-Atom.ensures) in
    IfOk-weaker c.atom.result _ _ (λ x h. atom-moves c.args.system.now c.known.ensures.sound c.known.ensures.limits c.requires.objects c.args.e c.args.text.now x.1.now (state c.args.self.now) c.requires.can_come c.bytes-in-Atom.result.now at c.mode.result c.mode.ensures.mode x.0 (state c.atom.new.self) h) c.atom.ensures.ok

pub returns-in-Atom-clause-stop : goal.returns-in-Atom-clause-stop
returns-in-Atom-clause-stop c =
    let at : node_at c.args.system.now c.args.e.0 ≡ Some (Node.Atom c.bytes-in-Atom.result.now) = c.node.ensures.node ∙ ap (λ n. Some (spec_node n)) c.in-Atom.is ∙ ap (λ w. Some (Node.Atom w)) (sym c.bytes-in-Atom.ensures) in
    MatchResult-weaker c.atom.result c.atom.ensures.stop (λ x h. h) (λ s h. stops-weaker _ (Faults (Comes c.args.system.now (Some c.args.e) c.args.self.now.stack c.args.self.now.taken) c.args.text.now) (λ left k. atom-faults c.args.system.now c.known.ensures.sound c.known.ensures.limits c.requires.objects c.args.e c.args.text.now c.args.text.now (state c.args.self.now) c.requires.can_come c.bytes-in-Atom.result.now at c.mode.result c.mode.ensures.mode left k) s h)

pub returns-in-Union-clause-ok : goal.returns-in-Union-clause-ok
returns-in-Union-clause-ok c =
    let at : node_at c.args.system.now c.args.e.0 ≡ Some (Node.Union (map number c.items.result.now)) = c.node.ensures.node ∙ ap (λ n. Some (spec_node n)) c.in-Union.is ∙ ap (λ ps. Some (Node.Union (map number ps))) (sym c.items.ensures.items) in
    IfOk-weaker c.option.result _ _ (λ x h. option-moves c.args.system.now c.known.ensures.sound c.known.ensures.limits c.requires.objects c.args.e c.args.text.now x.1.now (state c.args.self.now) c.requires.can_come c.items.result.now at (some-parts c.items.result.now (c.known.ensures.sound.parts.at c.args.e.0 (Node.Union (map number c.items.result.now)) at)) (few-parts c.items.result.now (c.known.ensures.limits.parts.at c.args.e.0 (Node.Union (map number c.items.result.now)) at).few) x.0 (state c.option.new.self) h) c.option.ensures.ok

pub returns-in-Union-clause-stop : goal.returns-in-Union-clause-stop
returns-in-Union-clause-stop c =
    let at : node_at c.args.system.now c.args.e.0 ≡ Some (Node.Union (map number c.items.result.now)) = c.node.ensures.node ∙ ap (λ n. Some (spec_node n)) c.in-Union.is ∙ ap (λ ps. Some (Node.Union (map number ps))) (sym c.items.ensures.items) in
    MatchResult-weaker c.option.result c.option.ensures.stop (λ x h. h) (λ s h. stops-weaker _ (Faults (Comes c.args.system.now (Some c.args.e) c.args.self.now.stack c.args.self.now.taken) c.args.text.now) (λ left k. option-faults c.args.system.now c.known.ensures.sound c.known.ensures.limits c.requires.objects c.args.e c.args.text.now c.args.text.now (state c.args.self.now) c.requires.can_come c.items.result.now at (some-parts c.items.result.now (c.known.ensures.sound.parts.at c.args.e.0 (Node.Union (map number c.items.result.now)) at)) (few-parts c.items.result.now (c.known.ensures.limits.parts.at c.args.e.0 (Node.Union (map number c.items.result.now)) at).few) left k) s h)

pub returns-in-Product-clause-ok : goal.returns-in-Product-clause-ok
returns-in-Product-clause-ok c =
    let at : node_at c.args.system.now c.args.e.0 ≡ Some (Node.Product (map number c.items-in-Product.result.now)) = c.node.ensures.node ∙ ap (λ n. Some (spec_node n)) c.in-Product.is ∙ ap (λ ps. Some (Node.Product (map number ps))) (sym c.items-in-Product.ensures.items) in
    IfOk-weaker c.product.result _ _ (λ x h. product-moves c.args.system.now c.known.ensures.sound c.known.ensures.limits c.requires.objects c.args.e c.args.text.now x.1.now (state c.args.self.now) c.requires.can_come h.first h.later (at ∙ ap (λ ps. Some (Node.Product (map number ps))) h.parts_are) x.0 (state c.product.new.self) h.split h.first_next h.taken h.stack) c.product.ensures.ok

pub returns-in-Product-clause-stop : goal.returns-in-Product-clause-stop
returns-in-Product-clause-stop c =
    let at : node_at c.args.system.now c.args.e.0 ≡ Some (Node.Product (map number c.items-in-Product.result.now)) = c.node.ensures.node ∙ ap (λ n. Some (spec_node n)) c.in-Product.is ∙ ap (λ ps. Some (Node.Product (map number ps))) (sym c.items-in-Product.ensures.items) in
    MatchResult-weaker c.product.result c.product.ensures.stop (λ x h. h) (λ s h. stops-weaker _ (Faults (Comes c.args.system.now (Some c.args.e) c.args.self.now.stack c.args.self.now.taken) c.args.text.now) (λ left k. product-faults-of c.args.system.now c.known.ensures.sound c.known.ensures.limits c.requires.objects c.args.e c.args.text.now c.args.text.now (state c.args.self.now) c.requires.can_come c.items-in-Product.result.now at left k) s h)

pub returns-in-Seq-clause-ok : goal.returns-in-Seq-clause-ok
returns-in-Seq-clause-ok c =
    let at : node_at c.args.system.now c.args.e.0 ≡ Some (Node.Seq c.in-Seq.part.0) = c.node.ensures.node ∙ ap (λ n. Some (spec_node n)) c.in-Seq.is in
    IfOk-weaker c.list.result _ _ (λ x h. list-moves c.args.system.now c.known.ensures.sound c.known.ensures.limits c.requires.objects c.args.text.now x.1.now (state c.args.self.now) c.requires.can_come c.args.e Sequence c.in-Seq.part c.range.result at c.range.ensures.range (list-facts c.args.system.now c.known.ensures.sound c.args.e.0 Sequence c.in-Seq.part.0 (spec_range c.range.result) at c.range.ensures.range).below (list-facts c.args.system.now c.known.ensures.sound c.args.e.0 Sequence c.in-Seq.part.0 (spec_range c.range.result) at c.range.ensures.range).some (list-facts c.args.system.now c.known.ensures.sound c.args.e.0 Sequence c.in-Seq.part.0 (spec_range c.range.result) at c.range.ensures.range).one c.requires.small x.0 (state c.list.new.self) h) c.list.ensures.ok

pub returns-in-Seq-clause-stop : goal.returns-in-Seq-clause-stop
returns-in-Seq-clause-stop c =
    let at : node_at c.args.system.now c.args.e.0 ≡ Some (Node.Seq c.in-Seq.part.0) = c.node.ensures.node ∙ ap (λ n. Some (spec_node n)) c.in-Seq.is in
    MatchResult-weaker c.list.result c.list.ensures.stop (λ x h. h) (λ s h. stops-weaker _ (Faults (Comes c.args.system.now (Some c.args.e) c.args.self.now.stack c.args.self.now.taken) c.args.text.now) (λ left k. list-faults c.args.system.now c.known.ensures.sound c.known.ensures.limits c.requires.objects c.args.text.now c.args.text.now (state c.args.self.now) c.requires.can_come c.args.e Sequence c.in-Seq.part c.range.result at c.range.ensures.range (list-facts c.args.system.now c.known.ensures.sound c.args.e.0 Sequence c.in-Seq.part.0 (spec_range c.range.result) at c.range.ensures.range).below (list-facts c.args.system.now c.known.ensures.sound c.args.e.0 Sequence c.in-Seq.part.0 (spec_range c.range.result) at c.range.ensures.range).some (list-facts c.args.system.now c.known.ensures.sound c.args.e.0 Sequence c.in-Seq.part.0 (spec_range c.range.result) at c.range.ensures.range).one c.requires.small left k) s h)

pub returns-in-Set-clause-ok : goal.returns-in-Set-clause-ok
returns-in-Set-clause-ok c =
    let at : node_at c.args.system.now c.args.e.0 ≡ Some (Node.Set c.in-Set.part.0) = c.node.ensures.node ∙ ap (λ n. Some (spec_node n)) c.in-Set.is in
    IfOk-weaker c.list-in-Set.result _ _ (λ x h. list-moves c.args.system.now c.known.ensures.sound c.known.ensures.limits c.requires.objects c.args.text.now x.1.now (state c.args.self.now) c.requires.can_come c.args.e Set c.in-Set.part c.range-in-Set.result at c.range-in-Set.ensures.range (list-facts c.args.system.now c.known.ensures.sound c.args.e.0 Set c.in-Set.part.0 (spec_range c.range-in-Set.result) at c.range-in-Set.ensures.range).below (list-facts c.args.system.now c.known.ensures.sound c.args.e.0 Set c.in-Set.part.0 (spec_range c.range-in-Set.result) at c.range-in-Set.ensures.range).some (list-facts c.args.system.now c.known.ensures.sound c.args.e.0 Set c.in-Set.part.0 (spec_range c.range-in-Set.result) at c.range-in-Set.ensures.range).one c.requires.small x.0 (state c.list-in-Set.new.self) h) c.list-in-Set.ensures.ok

pub returns-in-Set-clause-stop : goal.returns-in-Set-clause-stop
returns-in-Set-clause-stop c =
    let at : node_at c.args.system.now c.args.e.0 ≡ Some (Node.Set c.in-Set.part.0) = c.node.ensures.node ∙ ap (λ n. Some (spec_node n)) c.in-Set.is in
    MatchResult-weaker c.list-in-Set.result c.list-in-Set.ensures.stop (λ x h. h) (λ s h. stops-weaker _ (Faults (Comes c.args.system.now (Some c.args.e) c.args.self.now.stack c.args.self.now.taken) c.args.text.now) (λ left k. list-faults c.args.system.now c.known.ensures.sound c.known.ensures.limits c.requires.objects c.args.text.now c.args.text.now (state c.args.self.now) c.requires.can_come c.args.e Set c.in-Set.part c.range-in-Set.result at c.range-in-Set.ensures.range (list-facts c.args.system.now c.known.ensures.sound c.args.e.0 Set c.in-Set.part.0 (spec_range c.range-in-Set.result) at c.range-in-Set.ensures.range).below (list-facts c.args.system.now c.known.ensures.sound c.args.e.0 Set c.in-Set.part.0 (spec_range c.range-in-Set.result) at c.range-in-Set.ensures.range).some (list-facts c.args.system.now c.known.ensures.sound c.args.e.0 Set c.in-Set.part.0 (spec_range c.range-in-Set.result) at c.range-in-Set.ensures.range).one c.requires.small left k) s h)

pub returns-in-Cyc-clause-ok : goal.returns-in-Cyc-clause-ok
returns-in-Cyc-clause-ok c =
    let at : node_at c.args.system.now c.args.e.0 ≡ Some (Node.Cyc c.in-Cyc.part.0) = c.node.ensures.node ∙ ap (λ n. Some (spec_node n)) c.in-Cyc.is in
    IfOk-weaker c.list-in-Cyc.result _ _ (λ x h. list-moves c.args.system.now c.known.ensures.sound c.known.ensures.limits c.requires.objects c.args.text.now x.1.now (state c.args.self.now) c.requires.can_come c.args.e Cycle c.in-Cyc.part c.range-in-Cyc.result at c.range-in-Cyc.ensures.range (list-facts c.args.system.now c.known.ensures.sound c.args.e.0 Cycle c.in-Cyc.part.0 (spec_range c.range-in-Cyc.result) at c.range-in-Cyc.ensures.range).below (list-facts c.args.system.now c.known.ensures.sound c.args.e.0 Cycle c.in-Cyc.part.0 (spec_range c.range-in-Cyc.result) at c.range-in-Cyc.ensures.range).some (list-facts c.args.system.now c.known.ensures.sound c.args.e.0 Cycle c.in-Cyc.part.0 (spec_range c.range-in-Cyc.result) at c.range-in-Cyc.ensures.range).one c.requires.small x.0 (state c.list-in-Cyc.new.self) h) c.list-in-Cyc.ensures.ok

pub returns-in-Cyc-clause-stop : goal.returns-in-Cyc-clause-stop
returns-in-Cyc-clause-stop c =
    let at : node_at c.args.system.now c.args.e.0 ≡ Some (Node.Cyc c.in-Cyc.part.0) = c.node.ensures.node ∙ ap (λ n. Some (spec_node n)) c.in-Cyc.is in
    MatchResult-weaker c.list-in-Cyc.result c.list-in-Cyc.ensures.stop (λ x h. h) (λ s h. stops-weaker _ (Faults (Comes c.args.system.now (Some c.args.e) c.args.self.now.stack c.args.self.now.taken) c.args.text.now) (λ left k. list-faults c.args.system.now c.known.ensures.sound c.known.ensures.limits c.requires.objects c.args.text.now c.args.text.now (state c.args.self.now) c.requires.can_come c.args.e Cycle c.in-Cyc.part c.range-in-Cyc.result at c.range-in-Cyc.ensures.range (list-facts c.args.system.now c.known.ensures.sound c.args.e.0 Cycle c.in-Cyc.part.0 (spec_range c.range-in-Cyc.result) at c.range-in-Cyc.ensures.range).below (list-facts c.args.system.now c.known.ensures.sound c.args.e.0 Cycle c.in-Cyc.part.0 (spec_range c.range-in-Cyc.result) at c.range-in-Cyc.ensures.range).some (list-facts c.args.system.now c.known.ensures.sound c.args.e.0 Cycle c.in-Cyc.part.0 (spec_range c.range-in-Cyc.result) at c.range-in-Cyc.ensures.range).one c.requires.small left k) s h)
