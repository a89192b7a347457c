use Rattle.std.proofs.Common.{◌≡◌, ◌<◌, arith, ap, ◌∙◌, sym, length, get_or, ◌++◌, [], ◌∷◌, slice_get, refl, Some}
use Rattle.std.specs.Prelude.{zip, flat_map}
use Rattle.std.proofs.lemmas.List.{take_all}
use Rattle.class_system.specs.CanonicalText.{class_line, all_shown, shown_at, mode_word}
use Rattle.class_system.proofs.Soundness.{body_listed}
use Rattle.class_system.proofs.Results.{zip-at, length-zip_le}
use Rattle.class_system.proofs.Texts.{lines-more, shown-is, length-all_shown}
use Rattle.class_system.proofs.canonical.print.Goals as goal

pub index-body-requires : goal.index-body-requires
index-body-requires c =
    let in_range : c.loop-c.c < length c.args.draft.now.names = omega (arith, ap length c.names-names.ensures.names) in
    let listed = body_listed c.args.draft.now c.requires.sound c.bodies-bodies.result.now c.loop-c.c (record { 0 = 0 }) c.bodies-bodies.ensures.bodies in_range in
    let all : length c.in_ok-shown.shown.items ≡ length c.args.draft.now.nodes = ap length c.in_ok-shown.ensures.shown ∙ length-all_shown c.args.draft.now c.requires.sound in
    omega (arith, listed.in_range, all, c.in_ok-shown.shown.ok)

pub loop-c-preserved : goal.loop-c-preserved
loop-c-preserved c =
    let in_range : c.loop-c.c < length c.args.draft.now.names = omega (arith, ap length c.names-names.ensures.names) in
    let listed = body_listed c.args.draft.now c.requires.sound c.bodies-bodies.result.now c.loop-c.c (record { 0 = 0 }) c.bodies-bodies.ensures.bodies in_range in
    let all : length c.in_ok-shown.shown.items ≡ length c.args.draft.now.nodes = ap length c.in_ok-shown.ensures.shown ∙ length-all_shown c.args.draft.now c.requires.sound in
    let name : slice_get c.args.draft.now.names c.loop-c.c ≡ Some c.bytes.result.now = ap (λ names. slice_get names c.loop-c.c) (sym c.names-names.ensures.names) ∙ c.name.ensures.name ∙ ap Some (sym c.bytes.ensures) in
    let body : shown_at (all_shown c.args.draft.now) (get_or c.bodies-bodies.result.now c.loop-c.c (record { 0 = 0 })).0 ≡ c.index-body.result.now = ap (λ shown. shown_at shown (get_or c.bodies-bodies.result.now c.loop-c.c (record { 0 = 0 })).0) (sym c.in_ok-shown.ensures.shown) ∙ shown-is c.in_ok-shown.shown.items _ c.index-body.result.now (omega (arith, listed.in_range, all)) c.index-body.ensures in
    lines-more (class_line (all_shown c.args.draft.now)) (zip c.args.draft.now.names c.args.draft.now.bodies) c.loop-c.c _ (mode_word c.args.draft.now.mode ++ 10 ∷ []) c.loop-c.text.items _ (zip-at c.args.draft.now.names c.args.draft.now.bodies c.loop-c.c _ _ name listed.is_body) c.loop-c.invariant
    (c.in_ok-push_class.ensures.line ∙ rw body refl)

pub returns : goal.returns
returns c = record {
  text = c.loop-c.invariant ∙ ap (λ ps. mode_word c.args.draft.now.mode ++ 10 ∷ [] ++ flat_map (class_line (all_shown c.args.draft.now)) ps)
      (take_all c.loop-c.c (zip c.args.draft.now.names c.args.draft.now.bodies) (omega (arith, c.loop-c-test.false, length-zip_le c.args.draft.now.names c.args.draft.now.bodies, ap length c.names-names.ensures.names)));
}
