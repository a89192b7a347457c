use Rattle.std.proofs.Common.{◌++◌, ◌∷◌, [], arith, sym, ◌∙◌, ap, append-nil, length}
use Rattle.std.proofs.lemmas.List.{length-take-le, length-map}
use Rattle.bz_model.specs.Spec.{node_at}
use Rattle.object_store.specs.Seen.{parts_at}
use Rattle.object_store.specs.declared.token.Token.TheVariants as token
use Rattle.class_system.specs.Views.{number}
use Rattle.pointing.specs.Atoms.{is_atomic_node}
use Rattle.pointing.specs.Marking.{choices, choice_at}
use Rattle.pointing.proofs.Chosen.{choices-counted, choice-counted, one-pick, some-pick}
use Rattle.pointing.proofs.marking.Writing.choose.Goals as goal

pub overflow_cast-count_marked : goal.overflow_cast-count_marked
overflow_cast-count_marked c =
    let limit = (c.known.ensures.limits.parts.at c.args.e.0 _ c.node.ensures.node).few in
    let same = ap length (sym c.parts-parts.ensures.parts) ∙ length-map c.parts-parts.result.now number in
    let cut = length-take-le c.min.result c.parts-parts.result.now (let m = c.min.ensures in omega arith) in
    let m = c.min.ensures in
    let few = c.count_marked-then-count_marked-ne1.ensures.few in
    omega arith

pub returns-in_ok-push-clause-written : goal.returns-in_ok-push-clause-written
returns-in_ok-push-clause-written c =
    let s = c.args.system.now in
    let has = is_atomic_node s in
    let ps = parts_at (node_at s c.args.e.0) in
    let parts = c.parts-parts.ensures.parts ∙ ap parts_at (sym c.node.ensures.node) in
    let n = choices-counted s c.args.atomic.now ps c.parts-parts.result.now c.count_marked.result c.requires.atomic parts c.count_marked.ensures.count in
    let m = c.min.ensures in
    let i = choice-counted s c.args.atomic.now ps c.parts-parts.result.now c.min.result c.args.place c.count_marked-then-count_marked-ne1.result c.requires.atomic parts (λ le. omega arith) (λ le. omega arith) c.count_marked-then-count_marked-ne1.ensures.count in
    c.in_ok-push.ensures.ok ∙ ap (λ z. z ++ token.Pick c.count_marked-then-count_marked-ne1.result ∷ []) (ap (λ z. z.written) c.self.view_is)
    ∙ ap (λ z. c.args.self.now.written ++ token.Pick z ∷ []) i
    ∙ ap (λ z. c.args.self.now.written ++ z) (sym (some-pick (choices has ps) (choice_at has ps c.args.place) (λ e. c.if-count_marked-ne1.true (n ∙ e))))

pub returns-else-count_marked-ne1-clause-written : goal.returns-else-count_marked-ne1-clause-written
returns-else-count_marked-ne1-clause-written c =
    let s = c.args.system.now in
    let has = is_atomic_node s in
    let ps = parts_at (node_at s c.args.e.0) in
    let parts = c.parts-parts.ensures.parts ∙ ap parts_at (sym c.node.ensures.node) in
    let n = choices-counted s c.args.atomic.now ps c.parts-parts.result.now c.count_marked.result c.requires.atomic parts c.count_marked.ensures.count in
    sym (append-nil c.args.self.now.written) ∙ ap (λ z. c.args.self.now.written ++ z) (sym (one-pick (choices has ps) (choice_at has ps c.args.place) (sym n ∙ c.if-count_marked-ne1.false)))
