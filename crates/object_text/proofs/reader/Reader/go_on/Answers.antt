-- What stands behind an object, by what is expected.
use Rattle.std.proofs.Common.{◌∷◌, sym, subst, length, Some, None, arith}
use Rattle.std.proofs.lemmas.Result.{IfOk-weaker, MatchResult-weaker, err_from_is_err_and}
use Rattle.object_text.specs.declared.parse_stack.Expected.TheVariants as expected
use Rattle.object_text.specs.Scanning.{Faults, StopsAt}
use Rattle.object_text.specs.Expected.{Comes, AllCanCome, Moves}
use Rattle.object_text.specs.States.{state}
use Rattle.object_text.proofs.Stops.{stops-weaker}
use Rattle.object_text.proofs.MovingLists.{further-moves, further-faults}
use Rattle.object_text.proofs.MovingOn.{close-moves, close-faults, part-moves, part-faults}
use Rattle.object_text.proofs.reader.Reader.go_on.Goals as goal

pub returns-in_err-read_byte-in-Close-clause-stop : goal.returns-in_err-read_byte-in-Close-clause-stop
returns-in_err-read_byte-in-Close-clause-stop c =
    let p = err_from_is_err_and c.from_residual.result c.from_residual.ensures.1 in
    let can = subst (λ x. AllCanCome c.args.system.now (length c.args.text.now) (x ∷ c.args.self.now.stack)) c.in-Close.is c.requires.can_come in
    rw (p.1, p.2) (subst (λ x. StopsAt (Faults (Comes c.args.system.now None (x ∷ c.args.self.now.stack) c.args.self.now.taken) c.args.text.now) c.in_err-read_byte-in-Close.field-0.0) (sym c.in-Close.is)
    (stops-weaker _ (Faults (Comes c.args.system.now None (expected.Close ∷ c.args.self.now.stack) c.args.self.now.taken) c.args.text.now) (λ left h. close-faults c.args.system.now c.requires.objects c.args.text.now c.args.text.now c.args.self.now.stack c.args.self.now.taken can.1 left h.0 h.1) c.in_err-read_byte-in-Close.field-0.0 c.in_err-read_byte-in-Close.ensures.stop))

pub returns-in_err-read_byte-in-Part-clause-stop : goal.returns-in_err-read_byte-in-Part-clause-stop
returns-in_err-read_byte-in-Part-clause-stop c =
    let p = err_from_is_err_and c.from_residual-in_err-read_byte-in-Part.result c.from_residual-in_err-read_byte-in-Part.ensures.1 in
    let can = subst (λ x. AllCanCome c.args.system.now (length c.args.text.now) (x ∷ c.args.self.now.stack)) c.in-Part.is c.requires.can_come in
    rw (p.1, p.2) (subst (λ x. StopsAt (Faults (Comes c.args.system.now None (x ∷ c.args.self.now.stack) c.args.self.now.taken) c.args.text.now) c.in_err-read_byte-in-Part.field-0.0) (sym c.in-Part.is)
    (stops-weaker _ (Faults (Comes c.args.system.now None (expected.Part c.in-Part.e ∷ c.args.self.now.stack) c.args.self.now.taken) c.args.text.now) (λ left h. part-faults c.args.system.now c.requires.objects c.args.text.now c.args.text.now c.args.self.now.stack c.args.self.now.taken can.1 c.in-Part.e can.0 left h.0 h.1) c.in_err-read_byte-in-Part.field-0.0 c.in_err-read_byte-in-Part.ensures.stop))

pub further-requires : goal.further-requires
further-requires c =
    let can = subst (λ x. AllCanCome c.args.system.now (length c.args.text.now) (x ∷ c.args.self.now.stack)) c.in-Further.is c.requires.can_come in
    let few = can.0.few in record { few = omega arith }

pub returns-in_ok-read_byte-in-Close-clause-ok : goal.returns-in_ok-read_byte-in-Close-clause-ok
returns-in_ok-read_byte-in-Close-clause-ok c =
    let can = subst (λ x. AllCanCome c.args.system.now (length c.args.text.now) (x ∷ c.args.self.now.stack)) c.in-Close.is c.requires.can_come in
    subst (λ x. Moves c.args.system.now (Comes c.args.system.now None (x ∷ c.args.self.now.stack) c.args.self.now.taken) c.args.text.now None c.args.self.now.stack c.args.self.now.taken c.in_ok-read_byte-in-Close.field-0.now) (sym c.in-Close.is)
    (close-moves c.args.system.now c.requires.objects c.args.text.now c.in_ok-read_byte-in-Close.field-0.now c.args.self.now.stack c.args.self.now.taken can.1 c.in_ok-read_byte-in-Close.ensures.ok)

pub returns-in_ok-read_byte-in-Part-clause-ok : goal.returns-in_ok-read_byte-in-Part-clause-ok
returns-in_ok-read_byte-in-Part-clause-ok c =
    let can = subst (λ x. AllCanCome c.args.system.now (length c.args.text.now) (x ∷ c.args.self.now.stack)) c.in-Part.is c.requires.can_come in
    subst (λ x. Moves c.args.system.now (Comes c.args.system.now None (x ∷ c.args.self.now.stack) c.args.self.now.taken) c.args.text.now (Some c.in-Part.e) c.args.self.now.stack c.args.self.now.taken c.in_ok-read_byte-in-Part.field-0.now) (sym c.in-Part.is)
    (part-moves c.args.system.now c.requires.objects c.args.text.now c.in_ok-read_byte-in-Part.field-0.now c.args.self.now.stack c.args.self.now.taken can.1 c.in-Part.e can.0 c.in_ok-read_byte-in-Part.ensures.ok)

pub returns-in-Further-clause-ok : goal.returns-in-Further-clause-ok
returns-in-Further-clause-ok c =
    let can = subst (λ x. AllCanCome c.args.system.now (length c.args.text.now) (x ∷ c.args.self.now.stack)) c.in-Further.is c.requires.can_come in
    IfOk-weaker c.further.result _ _
    (λ x h. subst (λ y. Moves c.args.system.now (Comes c.args.system.now None (y ∷ c.args.self.now.stack) c.args.self.now.taken) c.args.text.now x.0 c.further.new.self.stack c.further.new.self.taken x.1.now) (sym c.in-Further.is)
    (further-moves c.args.system.now c.known.ensures.sound c.known.ensures.limits c.requires.objects c.args.text.now x.1.now (state c.args.self.now) can.1 c.in-Further.counted can.0.part_below can.0.few can.0.range_some can.0.below_high x.0 (state c.further.new.self) h))
    c.further.ensures.ok

pub returns-in-Further-clause-stop : goal.returns-in-Further-clause-stop
returns-in-Further-clause-stop c =
    let can = subst (λ x. AllCanCome c.args.system.now (length c.args.text.now) (x ∷ c.args.self.now.stack)) c.in-Further.is c.requires.can_come in
    MatchResult-weaker c.further.result c.further.ensures.stop (λ x h. h)
    (λ s h. subst (λ y. StopsAt (Faults (Comes c.args.system.now None (y ∷ c.args.self.now.stack) c.args.self.now.taken) c.args.text.now) s) (sym c.in-Further.is)
    (stops-weaker _ (Faults (Comes c.args.system.now None (expected.Further c.in-Further.counted ∷ c.args.self.now.stack) c.args.self.now.taken) c.args.text.now)
    (λ left k. further-faults c.args.system.now c.known.ensures.sound c.known.ensures.limits c.requires.objects c.args.text.now c.args.text.now (state c.args.self.now) can.1 c.in-Further.counted can.0.part_below can.0.few can.0.range_some can.0.below_high left k) s h))
