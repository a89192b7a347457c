use Rattle.std.proofs.Common.{◌≡◌, ◌+◌, ◌*◌, [], ◌∷◌, ◌++◌, arith, refl, ◌∙◌, ap}
use Rattle.bz_model.specs.Cell.{bits_of, bits_of_bytes}
use Rattle.entry_replay.proofs.FileBits.{bit-more, byte-full}
use Rattle.entry_replay.proofs.packing.Packing.push.Goals as goal

pub returns-then-self-lt7 : goal.returns-then-self-lt7
returns-then-self-lt7 c =
    bit-more (bits_of_bytes c.self.inside.bytes.items) c.self.inside.count c.self.inside.last (2 * c.self.inside.last + c.number_of.result) c.number_of.result c.args.bit refl c.number_of.ensures.number
    ∙ ap (λ bs. bs ++ c.args.bit ∷ []) c.self.view_is

pub returns : goal.returns
returns c =
    let full : c.self.inside.count ≡ 7 = omega (arith, c.self.invariant, c.if-self-lt7.false) in
    ap (λ bs. bits_of_bytes bs ++ []) c.in_ok-push.ensures.items
    ∙ byte-full c.self.inside.bytes.items c.self.inside.count c.self.inside.last (2 * c.self.inside.last + c.number_of.result) c.number_of.result c.args.bit refl c.number_of.ensures.number full
    ∙ ap (λ bs. bs ++ c.args.bit ∷ []) c.self.view_is
