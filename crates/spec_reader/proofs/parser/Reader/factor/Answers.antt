use Rattle.std.proofs.Common.{ap, subst, sym, ◌∙◌}
use Rattle.bz_model.specs.Spec.{Spec, Node}
use Rattle.spec_reader.specs.Grammar.{Term}
use Rattle.spec_reader.specs.Machine.{Want, with_one_more, step}
use Rattle.spec_reader.specs.Tables.{class_number}
use Rattle.spec_reader.specs.Building.{IsLeaf, empty_is, atom_is, class_is}
use Rattle.spec_reader.proofs.parser.Reader.factor.Goals as goal

pub returns-in_ok-leaf-in-Empty-clause-read : goal.returns-in_ok-leaf-in-Empty-clause-read
returns-in_ok-leaf-in-Empty-clause-read c names p s =
    let w = c.in-Empty.word in
    let word_is = c.in_ok-word-in-Empty.ensures ∙ c.bytes.ensures in
    (with_one_more p (Term.empty w), ap (λ t. step (Want p) t) c.in-Empty.is, c.in_ok-leaf-in-Empty.ensures.read names p (Term.empty w) (subst (λ v. IsLeaf names (Term.empty w) (Node.Empty v)) (sym word_is) (empty_is w)) s)

pub returns-in_ok-leaf-in-Atom-clause-read : goal.returns-in_ok-leaf-in-Atom-clause-read
returns-in_ok-leaf-in-Atom-clause-read c names p s =
    let w = c.in-Atom.word in
    let word_is = c.in_ok-word-in-Atom.ensures ∙ c.bytes-in-Atom.ensures in
    (with_one_more p (Term.atom w), ap (λ t. step (Want p) t) c.in-Atom.is, c.in_ok-leaf-in-Atom.ensures.read names p (Term.atom w) (subst (λ v. IsLeaf names (Term.atom w) (Node.Atom v)) (sym word_is) (atom_is w)) s)

pub returns-in_ok-leaf-in-Name-clause-read : goal.returns-in_ok-leaf-in-Name-clause-read
returns-in_ok-leaf-in-Name-clause-read c names p s =
    let w = c.in-Name.name in
    let class_is_so = c.class_number-class.ensures.exact ∙ ap (λ (d : Spec). class_number d.names w) s.draft_is in
    (with_one_more p (Term.class w), ap (λ t. step (Want p) t) c.in-Name.is, c.in_ok-leaf-in-Name.ensures.read names p (Term.class w) (subst (λ i. IsLeaf names (Term.class w) (Node.Class i)) (sym class_is_so) (class_is w)) s)
