use Rattle.std.proofs.Common.{get_or, refl, sym, subst, ◌∙◌, arith, below_more}
use Rattle.std.proofs.lemmas.List.{get_or_default}
use Rattle.command_words.specs.Words.{IsPrintable}
use Rattle.command_words.proofs.form.are_printable.Goals as goal

pub returns-then-not-is_printable : goal.returns-then-not-is_printable
returns-then-not-is_printable c = (
  λ e. absurd (cc),
  λ all.
      let here = all c.loop-word.word-index c.word-item.result (omega arith) in
      let yes = c.is_printable.ensures.1 (subst IsPrintable (sym c.word-item.is ∙ sym c.bytes.ensures) here) in
      let no = c.if-not-is_printable.true in
      absurd (cc),
)

pub loop-word-preserved : goal.loop-word-preserved
loop-word-preserved c = λ k d lt.
    let here : IsPrintable (get_or c.args.words.now c.loop-word.word-index d) =
    subst IsPrintable (c.bytes.ensures ∙ c.word-item.is ∙ get_or_default c.args.words.now c.loop-word.word-index c.word-item.result d (omega arith)) (c.is_printable.ensures.0 c.if-not-is_printable.false) in
    below_more (λ i. IsPrintable (get_or c.args.words.now i d)) c.loop-word.word-index (λ i h. c.loop-word.invariant i d h) here k lt

pub returns : goal.returns
returns c = (λ e k d lt. c.loop-word.invariant k d (omega arith), λ all. refl)
