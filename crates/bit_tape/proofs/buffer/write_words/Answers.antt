-- Each turn writes the word after those that stand.
use Rattle.std.proofs.Common.{◌≡◌, ◌+◌, rules, arith, ap, ◌∙◌}
use Rattle.std.proofs.lemmas.Slice.{overwrites}
use Rattle.std.specs.Int.{w32, to_be_bytes}
use Rattle.bit_tape.specs.Bits.{seed_word}
use Rattle.bit_tape.proofs.HeldWords.{first_bytes-more}
use Rattle.bit_tape.proofs.buffer.write_words.Goals as goal

pub loop-i-preserved : goal.loop-i-preserved
loop-i-preserved c =
    let word : c.next-word.result ≡ seed_word c.args.words.now.seed (c.args.words.now.place + c.loop-i.i) = c.next-word.ensures.word ∙ ap (λ w. seed_word w.seed w.place) c.loop-i.invariant.words in
    record {
      length = search (rules, overwrites);
      each = first_bytes-more c.args.words.now.seed c.args.words.now.place c.loop-i.i _ c.loop-i.bytes c.copy_from_slice.new.self c.loop-i.invariant.each (omega arith) (c.copy_from_slice.ensures.after ∙ c.to_be_bytes.ensures ∙ ap (to_be_bytes w32) word);
      words = search rules;
    }
