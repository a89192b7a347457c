use Rattle.std.proofs.Common.{◌≡◌, subst}
use Rattle.std.specs.Prelude.{Some}
use Rattle.bz_model.specs.Spec.{Spec, body_of}
use Rattle.class_system.specs.Sound.{IsSound}
use Rattle.rank_commands.proofs.Pages.{body_has_row, counts_printed, counts_joined}
use Rattle.rank_commands.proofs.count.counts.Goals as goal

-- the body of the first class has a row
pub append_counts-requires-clause-node : goal.append_counts-requires-clause-node
append_counts-requires-clause-node c =
    let sound = subst IsSound c.system-system.ensures.system c.known.ensures.sound in
    body_has_row c.args.founded.now sound c.args.n c.args.tables.now c.requires.tables c.body.result.0 (subst (λ (k : Spec). body_of k 0 ≡ Some c.body.result.0) c.system-system.ensures.system c.body.ensures.body)

-- the counts are printed
pub returns : goal.returns
returns c =
    let sound = subst IsSound c.system-system.ensures.system c.known.ensures.sound in
    counts_printed c.args.founded.now sound c.args.n c.args.tables.now c.requires.tables c.body.result.0 c.extend_from_slice.new.self.items (subst (λ (k : Spec). body_of k 0 ≡ Some c.body.result.0) c.system-system.ensures.system c.body.ensures.body) (counts_joined _ _ c.args.n _ _ c.new-text.ensures.items c.in_ok-append_counts.ensures c.in_ok-extend_from_slice.ensures.items)
