use Rattle.std.proofs.Common.{◌∙◌, sym, ap, append-nil}
use Rattle.call_stages.proofs.refusals.no_upper.Goals as goal

-- no proposal is told
pub loop-proposal-init : goal.loop-proposal-init
loop-proposal-init g c = ap (λ v. v.items) c.into_bytes-text.ensures.value ∙ c.in_ok-no_upper_head.ensures ∙ sym (append-nil _)
