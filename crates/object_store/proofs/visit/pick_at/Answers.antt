-- The part at the option's place.
use Rattle.std.proofs.Common.{drop, rules, ap, ◌∙◌, option_map, length, refl}
use Rattle.std.proofs.lemmas.Option.{slice_get-map, slice_get_read}
use Rattle.class_system.specs.Views.{number}
use Rattle.object_store.proofs.visit.pick_at.Goals as goal

pub returns-clause-pick : goal.returns-clause-pick
returns-clause-pick c =
    let h = c.in-Some.ensures.lookup in
    let there = slice_get_read c.args.parts.now (length c.args.parts.now) c.in-Some-Pick.option c.in-Some.part.now refl h.3.0 h.1 in
    record {
      later = drop 1 c.args.tokens.now;
      is_part = slice_get-map number c.args.parts.now c.in-Some-Pick.option ∙ ap (option_map number) there;
      is_token = search rules;
    }
