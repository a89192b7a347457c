-- What std's stable sort gives.
use Rattle.std.proofs.Common.{rules, ◌∙◌, ap}
use Rattle.std.proofs.lemmas.Result.{on_ok_weaker}
use Rattle.std.proofs.lemmas.List.Sorted.{IsNonDecreasingBy-from_sort_by_key}
use Rattle.smallvec.proofs.SmallVecLemmas.{items-with_items}
use Rattle.bz_model.specs.ObjectText.{in_order}
use Rattle.object_text.proofs.StableOrder.{stable-in_order, stable-by, least_at}
use Rattle.object_text.proofs.output.sort.Goals as goal

pub returns : goal.returns
returns c = rw (items-with_items c.args.parts.now c.sort_by_key.new.self (search rules))
    (on_ok_weaker c.sort_by_key.result (λ sorted. stable-in_order c.deref_mut.result.now c.sort_by_key.new.self (IsNonDecreasingBy-from_sort_by_key least_at _ sorted (λ a r q k. search rules)) (stable-by _ _ c.sort_by_key.ensures.stable (λ a r q k. search rules)) ∙ ap in_order c.deref_mut.ensures.value) c.sort_by_key.ensures.sorted)
