use Rattle.std.proofs.Common.{◌≡◌, ℕ, List, ◌++◌, ◌∙◌, ap, length, replicate, subst, sym, arith}
use Rattle.bz_model.specs.Spec.{Spec}
use Rattle.oracle_memo.specs.Memos.{Memory}
use Rattle.rounded_map.specs.RoundedMap.{setting, IsPostFixed}
use Rattle.boltz.specs.OracleCommand.{level_after}
use Rattle.certificate.specs.Headers.{bounded_lines}
use Rattle.certificate.specs.Lines.{text_of}
use Rattle.call_stages.specs.Lines.{lines_below, end_done_line}
use Rattle.boltz.proofs.Bounding.{joined_three, levels_of}
use Rattle.boltz.proofs.oracle.base_and_levels.Goals as goal

-- no level is raised, and the lower sweeps start from zero
pub append_levels-requires : goal.append_levels-requires
append_levels-requires g c =
    let made = c.in_ok-memo.ensures.made in
    let same = c.system-system.ensures.system in
    let zero : c.in_ok-memo.memo.start ≡ replicate (length c.system-system.result.now.bodies) 0 =
    ap (λ (m : Memory). m.start) made ∙ ap (λ (s : Spec). replicate (length s.bodies) 0) (sym same) in
    let fixed = subst (λ (s : Spec). IsPostFixed (setting s c.args.x.num c.args.x.den g.row.F) c.args.base) (sym same) c.requires.post_fixed in (
      omega arith,
      (c.requires.fraction_bits, (ap (λ (m : Memory). m.spec) made ∙ sym same, (ap (λ (m : Memory). m.raised) made, (zero, subst (λ (m : Memory). IsPostFixed (setting c.system-system.result.now m.num m.den g.row.F) m.base) (sym made) fixed)))),
    )

-- the header and the base, the levels and the last line are told
pub returns-clause-text : goal.returns-clause-text
returns-clause-text g c =
    let t = setting c.args.founded.now c.args.x.num c.args.x.den g.row.F in
    let same = c.system-system.ensures.system in
    let first = c.in_ok-text.text.items in
    let header : first ≡ text_of (bounded_lines t.spec t.num t.den t.bits c.args.base) =
    c.in_ok-text.ensures
    ∙ ap (λ (s : Spec). text_of (bounded_lines s t.num t.den t.bits c.values.result.now)) same
    ∙ ap (λ (entries : List ℕ). text_of (bounded_lines t.spec t.num t.den t.bits entries)) c.values.ensures.entries in
    joined_three (text_of (bounded_lines t.spec t.num t.den t.bits c.args.base)) (lines_below (level_after t c.args.base) 6) end_done_line first c.append_levels.new.text.items c.extend_from_slice.new.self.items header
    (c.in_ok-append_levels.ensures.text ∙ ap (λ l. first ++ l) (levels_of t c.args.base c.system-system.result.now c.in_ok-memo.memo same c.in_ok-memo.ensures.made))
    c.in_ok-extend_from_slice.ensures.items
