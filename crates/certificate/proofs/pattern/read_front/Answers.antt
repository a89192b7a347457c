-- Byte by byte.
use Rattle.std.proofs.Common.{◌≡◌, ◌≢◌, ◌≤◌, ◌<◌, length, get_or, arith, sym, subst}
use Rattle.std.proofs.lemmas.List.{length-set}
use Rattle.certificate.proofs.Filling.{reads-start, reads-byte, reads-number, no-byte, no-number-at, all-read, all-passed, sign-places-at, byte-places-at, apart-at, small-set}
use Rattle.certificate.proofs.Numerals.{none-first, some-first}
use Rattle.certificate.proofs.pattern.read_front.Goals as goal
use Rattle.certificate.proofs.pattern.read_front.Goals.{then-byte-eq35+in_ok-n, else-byte-eq35+in_ok-rest}

pub returns-in_err-n-clause-none : goal.returns-in_err-n-clause-none
returns-in_err-n-clause-none c = rw c.from_residual.ensures (no-number-at c.args.pattern.now c.args.text.now c.loop-byte.byte-index c.loop-byte.next c.loop-byte.numbers c.loop-byte.rest.now c.loop-byte-test.true c.if-byte-eq35.true c.loop-byte.invariant.apart c.loop-byte.invariant.reads c.in_err-n.ensures.none)

pub returns-in_err-rest-clause-none : goal.returns-in_err-rest-clause-none
returns-in_err-rest-clause-none c = rw c.from_residual-in_err-rest.ensures (no-byte c.args.pattern.now c.args.text.now c.loop-byte.byte-index c.loop-byte.next c.loop-byte.numbers c.loop-byte.rest.now c.loop-byte-test.true c.if-byte-eq35.false c.loop-byte.invariant.reads c.in_err-rest.ensures.none)

pub loop-byte-preserved : goal.loop-byte-preserved
loop-byte-preserved c =
    let p = c.args.pattern.now in
    let i = c.loop-byte.byte-index in
    let j = c.loop-byte.next in
    let lt : i < length p = c.loop-byte-test.true in
    elim c.if-byte-eq35.branch [
      | then-byte-eq35+in_ok-n w ↦
          let s : get_or p i 0 ≡ 35 = w.if-byte-eq35.true in
          let e = sign-places-at p i lt s in
          let n = w.in_ok-n.n in
          let room = c.loop-byte.invariant.room in
          rw (w.numbers-is, w.next-is, w.rest-is) (record {
            reads = reads-number p c.args.text.now i j c.loop-byte.numbers c.loop-byte.rest.now w.in_ok-n.left.now n lt s c.loop-byte.invariant.apart (omega arith) w.in_ok-n.ensures.found c.loop-byte.invariant.reads;
            room = omega (arith, length-set c.loop-byte.numbers j n);
            small = small-set c.loop-byte.numbers j n w.in_ok-n.ensures.found.small c.loop-byte.invariant.small;
            apart = apart-at p i lt c.loop-byte.invariant.apart;
          })
      | else-byte-eq35+in_ok-rest w ↦
          let s : get_or p i 0 ≢ 35 = w.if-byte-eq35.false in
          let e = byte-places-at p i lt s in
          let room = c.loop-byte.invariant.room in
          rw (w.numbers-is, w.next-is, w.rest-is) (record {
            reads = reads-byte p c.args.text.now i j c.loop-byte.numbers c.loop-byte.rest.now w.in_ok-rest.rest.now lt s w.in_ok-rest.ensures.found c.loop-byte.invariant.reads;
            room = omega arith;
            small = c.loop-byte.invariant.small;
            apart = apart-at p i lt c.loop-byte.invariant.apart;
          })
    ]

pub loop-byte-init : goal.loop-byte-init
loop-byte-init c = record {
  reads = reads-start c.args.pattern.now c.args.text.now c.args.numbers.now;
  room = omega arith;
  small = record { each = λ k. omega (arith, c.type_inv.numbers k) };
  apart = c.requires.apart;
}

pub returns-then-digits-eq0-clause-found : goal.returns-then-digits-eq0-clause-found
returns-then-digits-eq0-clause-found c =
    all-read c.args.pattern.now c.args.text.now c.loop-byte.byte-index c.loop-byte.next c.loop-byte.numbers c.loop-byte.rest.now (omega arith) c.loop-byte.invariant.small (none-first c.loop-byte.rest.now (λ lt d. c.digits.ensures.ends (omega arith) (subst (λ k. (48 ≤ get_or c.loop-byte.rest.now k 0) × (get_or c.loop-byte.rest.now k 0 ≤ 57)) (sym c.if-digits-eq0.true) d))) c.loop-byte.invariant.reads

pub returns-else-digits-eq0-clause-none : goal.returns-else-digits-eq0-clause-none
returns-else-digits-eq0-clause-none c =
    all-passed c.args.pattern.now c.args.text.now c.loop-byte.byte-index c.loop-byte.next c.loop-byte.numbers c.loop-byte.rest.now (omega arith) (some-first c.loop-byte.rest.now (let w = c.digits.ensures.within in omega arith) (c.digits.ensures.digits 0 (omega arith))) c.loop-byte.invariant.reads
