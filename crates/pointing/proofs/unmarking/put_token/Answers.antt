use Rattle.std.proofs.Common.{slice_set, ◌∙◌, ap}
use Rattle.std.proofs.lemmas.List.{set_at}
use Rattle.pointing.proofs.unmarking.put_token.Goals as goal

pub returns : goal.returns
returns c = record { put = λ front tail kept is at. ap (λ z. slice_set z c.args.place c.args.token) is ∙ set_at front kept tail c.args.token c.args.place at }
