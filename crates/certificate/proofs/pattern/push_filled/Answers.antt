-- Byte by byte.
use Rattle.std.proofs.Common.{◌≡◌, ◌≢◌, ◌+◌, ◌<◌, ◌++◌, ◌∷◌, [], length, drop, decimal, get_or, arith, sym, ◌∙◌, ap, append_assoc, append-nil}
use Rattle.certificate.specs.Patterns.{filled_from}
use Rattle.certificate.proofs.Filling.{sign-at, byte-at, end-at, sign-places-at, byte-places-at}
use Rattle.certificate.proofs.pattern.push_filled.Goals as goal
use Rattle.certificate.proofs.pattern.push_filled.Goals.{then-byte-eq35+in_ok-push_number, else-byte-eq35+in_ok-push_byte}

pub loop-byte-preserved : goal.loop-byte-preserved
loop-byte-preserved c =
    let p = c.args.pattern.now in
    let i = c.loop-byte.byte-index in
    let ns = c.args.numbers.now in
    let j = c.loop-byte.next in
    let text = c.loop-byte.text.items in
    elim c.if-byte-eq35.branch [
      | then-byte-eq35+in_ok-push_number w ↦
          let lt : i < length p = c.loop-byte-test.true in
          let s : get_or p i 0 ≡ 35 = w.if-byte-eq35.true in
          let e = sign-places-at p i lt s in
          record {
            whole = ap (λ t. t.items ++ filled_from (drop (i + 1) p) ns c.if-byte-eq35.next) w.text-is
                ∙ ap (λ k. w.push_number.new.text.items ++ filled_from (drop (i + 1) p) ns k) w.next-is
                ∙ ap (λ t. t ++ filled_from (drop (i + 1) p) ns (j + 1)) w.in_ok-push_number.ensures.ok
                ∙ append_assoc text (decimal (get_or ns j 0)) (filled_from (drop (i + 1) p) ns (j + 1))
                ∙ ap (λ t. text ++ t) (sym (sign-at p ns i j lt s)) ∙ c.loop-byte.invariant.whole;
            room = let n = w.next-is in let r = c.loop-byte.invariant.room in omega arith;
          }
      | else-byte-eq35+in_ok-push_byte w ↦
          let lt : i < length p = c.loop-byte-test.true in
          let s : get_or p i 0 ≢ 35 = w.if-byte-eq35.false in
          let e = byte-places-at p i lt s in
          record {
            whole = ap (λ t. t.items ++ filled_from (drop (i + 1) p) ns c.if-byte-eq35.next) w.text-is
                ∙ ap (λ k. w.push_byte.new.text.items ++ filled_from (drop (i + 1) p) ns k) w.next-is
                ∙ ap (λ t. t ++ filled_from (drop (i + 1) p) ns j) w.in_ok-push_byte.ensures.ok
                ∙ append_assoc text (get_or p i 0 ∷ []) (filled_from (drop (i + 1) p) ns j)
                ∙ ap (λ t. text ++ t) (sym (byte-at p ns i j lt s)) ∙ c.loop-byte.invariant.whole;
            room = let n = w.next-is in let r = c.loop-byte.invariant.room in omega arith;
          }
    ]

pub returns : goal.returns
returns c =
    let text = c.loop-byte.text.items in
    sym (append-nil text) ∙ ap (λ t. text ++ t) (sym (end-at c.args.pattern.now c.args.numbers.now c.loop-byte.byte-index c.loop-byte.next (omega arith))) ∙ c.loop-byte.invariant.whole
