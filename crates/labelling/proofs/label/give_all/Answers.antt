-- Each number names a label, and the labelling goes on; where none does, it ends as its bits say.
use Rattle.std.proofs.Common.{◌≡◌, ◌+◌, ◌-◌, ◌++◌, length, remove, false, true, sym, ◌∙◌, ap, subst, arith}
use Rattle.std.proofs.lemmas.List.Edits.{length-remove}
use Rattle.std.specs.List.{AllByRecursion}
use Rattle.bz_model.specs.Cell.{IsCell}
use Rattle.bit_tape.specs.Tape.{bits_of_source}
use Rattle.bit_tape.proofs.Leaving.{leaves-none, leaves-more}
use Rattle.labelling.specs.Answer.{AreIdealLabels}
use Rattle.labelling.specs.LabelsByBits.{bits_in}
use Rattle.labelling.specs.Progress.{one_given}
use Rattle.labelling.proofs.Numbers.{length-numbers, length-more, bits_in-more, bits_in-few, each-more}
use Rattle.labelling.proofs.Naming.{NamesIdeally, names-first, names-on, names-done}
use Rattle.labelling.proofs.GivenLabels.{IsGivenSoFar, given-first, given-on, given-straddles, given-ended, given-failed, given-done}
use Rattle.labelling.proofs.label.give_all.Goals as goal

pub atoms-init : goal.atoms-init
atoms-init g c =
    let begun = c.requires.begun in
    record {
      few = omega arith;
      some = λ any. any;
      remaining = ap (λ p. length p.remaining) begun ∙ length-numbers 1 c.args.n;
      cells = ap (λ p. length p.cells) begun ∙ (let e : 0 ≡ c.args.n - c.args.n = omega arith in e);
      each = subst (λ p. AllByRecursion (λ d. IsCell d.k d.b) p.cells) (sym begun) tt;
      used = (let e : c.args.tape.now.used ≡ c.args.tape.now.used + 0 = omega arith in e) ∙ ap (λ p. c.args.tape.now.used + bits_in p.cells) (sym begun);
      names = subst (λ p. NamesIdeally c.args.n p) (sym begun) (names-first c.args.n);
      goes = subst (λ p. IsGivenSoFar (bits_of_source c.args.tape.now.source (g.S.Shelf.content c.args.shelf.now)) c.args.n c.args.tape.now.used c.args.n p c.args.tape.now.used) (sym begun)
          (given-first (bits_of_source c.args.tape.now.source (g.S.Shelf.content c.args.shelf.now)) c.args.n c.args.tape.now.used);
      tape = leaves-none g.S.Shelf.content g.S.Shelf.faults c.args.shelf.now c.args.tape.now c.requires.belongs;
    }

pub returns-in-Straddles-clause-labelled : goal.returns-in-Straddles-clause-labelled
returns-in-Straddles-clause-labelled g c =
    let kept = c.atoms.invariant in
    let told = rw (kept.tape.source, kept.tape.content) at c.in-Straddles.ensures.drawn in
    given-straddles (bits_of_source c.args.tape.now.source (g.S.Shelf.content c.args.shelf.now)) c.args.n c.args.tape.now.used c.atoms.m c.atoms.progress c.atoms.tape.used kept.goes kept.used c.atoms-test.true c.in-Straddles.cell c.draw_whole.new.tape.used told

pub returns-in-Straddles-clause-tape : goal.returns-in-Straddles-clause-tape
returns-in-Straddles-clause-tape g c = leaves-more g.S.Shelf.content g.S.Shelf.faults false c.args.shelf.now c.atoms.shelf c.draw_whole.new.shelf c.args.tape.now c.atoms.tape c.draw_whole.new.tape c.atoms.invariant.tape c.in-Straddles.ensures.tape

pub returns-in-Straddles-clause-used : goal.returns-in-Straddles-clause-used
returns-in-Straddles-clause-used g c =
    let kept = c.atoms.invariant in
    let few = bits_in-few c.atoms.progress.cells kept.each in
    (omega (arith, c.in-Straddles.ensures.drawn.uses), omega (arith, c.in-Straddles.ensures.drawn.uses, c.in-Straddles.ensures.drawn.cell))

pub returns-in-Ended-clause-labelled : goal.returns-in-Ended-clause-labelled
returns-in-Ended-clause-labelled g c =
    let kept = c.atoms.invariant in
    let told = rw (kept.tape.source, kept.tape.content) at c.in-Ended.ensures.drawn in
    given-ended (bits_of_source c.args.tape.now.source (g.S.Shelf.content c.args.shelf.now)) c.args.n c.args.tape.now.used c.atoms.m c.atoms.progress c.atoms.tape.used kept.goes kept.used c.atoms-test.true c.draw_whole.new.tape.used told

pub returns-in-Ended-clause-tape : goal.returns-in-Ended-clause-tape
returns-in-Ended-clause-tape g c = leaves-more g.S.Shelf.content g.S.Shelf.faults false c.args.shelf.now c.atoms.shelf c.draw_whole.new.shelf c.args.tape.now c.atoms.tape c.draw_whole.new.tape c.atoms.invariant.tape c.in-Ended.ensures.tape

pub returns-in-Ended-clause-used : goal.returns-in-Ended-clause-used
returns-in-Ended-clause-used g c =
    let kept = c.atoms.invariant in
    let few = bits_in-few c.atoms.progress.cells kept.each in
    (omega (arith, c.in-Ended.ensures.drawn.uses), omega (arith, c.in-Ended.ensures.drawn.uses))

pub returns-in-ReadFault-clause-labelled : goal.returns-in-ReadFault-clause-labelled
returns-in-ReadFault-clause-labelled g c =
    let kept = c.atoms.invariant in
    let told = rw (kept.tape.source, kept.tape.content) at c.in-ReadFault.ensures.drawn in
    given-failed (bits_of_source c.args.tape.now.source (g.S.Shelf.content c.args.shelf.now)) c.args.n c.args.tape.now.used c.atoms.m c.atoms.progress c.atoms.tape.used kept.goes kept.used c.atoms-test.true c.draw_whole.new.tape.used told

pub returns-in-ReadFault-clause-tape : goal.returns-in-ReadFault-clause-tape
returns-in-ReadFault-clause-tape g c = leaves-more g.S.Shelf.content g.S.Shelf.faults true c.args.shelf.now c.atoms.shelf c.draw_whole.new.shelf c.args.tape.now c.atoms.tape c.draw_whole.new.tape c.atoms.invariant.tape c.in-ReadFault.ensures.tape

pub returns-in-ReadFault-clause-used : goal.returns-in-ReadFault-clause-used
returns-in-ReadFault-clause-used g c =
    let kept = c.atoms.invariant in
    let few = bits_in-few c.atoms.progress.cells kept.each in
    (omega (arith, c.in-ReadFault.ensures.drawn.uses), omega (arith, c.in-ReadFault.ensures.drawn.uses))

pub atoms-preserved : goal.atoms-preserved
atoms-preserved g c =
    let kept = c.atoms.invariant in
    let told = rw (kept.tape.source, kept.tape.content) at c.in-Value.ensures.drawn in
    let next = one_given c.atoms.progress c.in-Value.value c.in-Value.cell in
    let now : c.give.new.self ≡ next = c.give.ensures in
    let below = c.in-Value.ensures.below in
    let taken = length-remove c.atoms.progress.remaining c.in-Value.value (omega arith) in
    let more = length-more c.atoms.progress.cells c.in-Value.cell in
    let bits = bits_in-more c.atoms.progress.cells c.in-Value.cell in
    record {
      few = omega arith;
      some = λ any. omega arith;
      remaining = ap (λ p. length p.remaining) now ∙ (let e : length (remove c.atoms.progress.remaining c.in-Value.value) ≡ c.atoms.m - 1 = omega arith in e);
      cells = ap (λ p. length p.cells) now ∙ (let e : length next.cells ≡ c.args.n - (c.atoms.m - 1) = omega arith in e);
      each = subst (λ p. AllByRecursion (λ d. IsCell d.k d.b) p.cells) (sym now) (each-more (λ d. IsCell d.k d.b) c.atoms.progress.cells c.in-Value.cell kept.each c.in-Value.ensures.drawn.cell);
      used = (let e : c.draw_whole.new.tape.used ≡ c.args.tape.now.used + bits_in next.cells = omega (arith, c.in-Value.ensures.drawn.uses) in e) ∙ ap (λ p. c.args.tape.now.used + bits_in p.cells) (sym now);
      names = subst (λ p. NamesIdeally c.args.n p) (sym now) (names-on c.args.n c.atoms.m c.in-Value.value c.atoms.progress c.in-Value.cell kept.names kept.remaining c.atoms-test.true below c.in-Value.ensures.decided);
      goes = subst (λ p. IsGivenSoFar (bits_of_source c.args.tape.now.source (g.S.Shelf.content c.args.shelf.now)) c.args.n c.args.tape.now.used (c.atoms.m - 1) p c.draw_whole.new.tape.used) (sym now)
          (given-on (bits_of_source c.args.tape.now.source (g.S.Shelf.content c.args.shelf.now)) c.args.n c.args.tape.now.used c.atoms.m c.atoms.progress c.atoms.tape.used kept.goes kept.used c.atoms-test.true c.in-Value.value c.in-Value.cell c.draw_whole.new.tape.used told);
      tape = leaves-more g.S.Shelf.content g.S.Shelf.faults false c.args.shelf.now c.atoms.shelf c.draw_whole.new.shelf c.args.tape.now c.atoms.tape c.draw_whole.new.tape kept.tape c.in-Value.ensures.tape;
    }

pub returns-clause-labelled : goal.returns-clause-labelled
returns-clause-labelled g c =
    let kept = c.atoms.invariant in
    given-done (bits_of_source c.args.tape.now.source (g.S.Shelf.content c.args.shelf.now)) c.args.n c.args.tape.now.used c.atoms.m c.atoms.progress c.atoms.tape.used kept.goes kept.used (omega arith) kept.remaining c.finish-labels.result.0 c.finish-labels.result.1 c.finish-labels.ensures.labels c.finish-labels.ensures.cells

pub returns-clause-ideal : goal.returns-clause-ideal
returns-clause-ideal g c =
    let kept = c.atoms.invariant in
    let all = names-done c.args.n c.atoms.progress kept.names (omega arith) in
    subst (λ ls. AreIdealLabels c.args.n ls c.finish-labels.result.1.items) (sym c.finish-labels.ensures.labels) (subst (λ cs. AreIdealLabels c.args.n (c.atoms.progress.given ++ c.atoms.progress.remaining) cs) (sym c.finish-labels.ensures.cells) all)

pub returns-clause-used : goal.returns-clause-used
returns-clause-used g c =
    let kept = c.atoms.invariant in
    let few = bits_in-few c.atoms.progress.cells kept.each in
    (omega arith, omega arith)
