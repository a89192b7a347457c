use Rattle.std.proofs.Common.{◌≡◌, sym, subst}
use Rattle.std.specs.Prelude.{Some}
use Rattle.bz_model.specs.Spec.{Spec, body_of}
use Rattle.object_store.specs.Tokens.{size_of}
use Rattle.rank_tables.specs.RankOrder.{IsCount}
use Rattle.rank_commands.specs.RankCommand.{rank_text}
use Rattle.rank_commands.proofs.Pages.{rank_printed}
use Rattle.rank_commands.proofs.rank.rank_of.Goals as goal

-- the rank and the count are those of the object
pub returns : goal.returns
returns c =
    let s = c.args.founded.now in
    let tokens = c.args.shape.now.items in
    let count = c.count-count.result in
    let is = subst (λ (k : Spec). body_of k 0 ≡ Some c.body.result.0) c.system-system.ensures.system c.body.ensures.body in
    let counted = subst (λ n. IsCount s c.body.result.0 n count) c.size.ensures (c.count-count.ensures.count s (size_of tokens) c.requires.tables) in
    rank_printed s tokens c.body.result.0 count c.in_ok-rank.rank c.into_bytes.result.items is counted c.in_ok-rank.ensures.rank (subst (λ v. v.items ≡ rank_text c.in_ok-rank.rank count) (sym c.into_bytes.ensures.value) c.in_ok-text.ensures)
