-- A name, a space and a number, or not.
use Rattle.std.proofs.Common.{◌∷◌, [], ◌∙◌, sym, subst}
use Rattle.class_system.specs.Words.{IsName}
use Rattle.certificate.proofs.Numerals.{rest-of}
use Rattle.certificate.proofs.CellFields.{one-small}
use Rattle.certificate.proofs.BaseFields.{base-parts}
use Rattle.certificate.proofs.fields.base_of.Goals as goal

pub returns-then-not-is_name-clause-none : goal.returns-then-not-is_name-clause-none
returns-then-not-is_name-clause-none c = λ name value is small e.
    let p = base-parts c.args.line.now c.in_ok-rest.rest.now c.before_space-end.result c.in_ok-rest.ensures.found c.before_space-end.ensures.within c.before_space-end.ensures.before c.before_space-end.ensures.here name value is e in
    absurd (let t = c.if-not-is_name.ensures.1 (subst IsName (sym p.0) is) in cc)

pub returns-then-not-read_whole-clause-none : goal.returns-then-not-read_whole-clause-none
returns-then-not-read_whole-clause-none c = λ name value is small e.
    let p = base-parts c.args.line.now c.in_ok-rest.rest.now c.before_space-end.result c.in_ok-rest.ensures.found c.before_space-end.ensures.within c.before_space-end.ensures.before c.before_space-end.ensures.here name value is e in
    absurd (let t = c.if-not-read_whole.ensures.none (value ∷ []) (one-small value small) (rest-of c.in_ok-rest.rest.now c.before_space-end.result ∙ p.1) in cc)
