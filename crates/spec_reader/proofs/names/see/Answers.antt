use Rattle.std.proofs.Common.{◌≡◌, [], ◌∷◌, ◌++◌, ap, sym, subst, ◌∙◌, OnOk}
use Rattle.spec_reader.specs.Faults.{with_names}
use Rattle.spec_reader.proofs.NamesSeen.{one_found, one_missing, defined_name}
use Rattle.spec_reader.proofs.names.see.Goals as goal

pub returns-in-Some : goal.returns-in-Some
returns-in-Some c =
    let seen = c.args.seen.now in
    record { names = sym (ap (λ ws. with_names seen ws) (defined_name c.args.starts c.args.token.now c.in-Name.name c.in-Name.is c.if-starts.true) ∙ one_found seen c.in-Name.name c.in-Some.field-0 c.in-Some.ensures.found) }

pub returns-in_ok-from_bytes-in-None : goal.returns-in_ok-from_bytes-in-None
returns-in_ok-from_bytes-in-None c =
    let seen = c.args.seen.now in
    let w = c.in-Name.name in
    let word_is = c.in_ok-from_bytes-in-None.ensures ∙ c.bytes.ensures in
    let names_are = ap (λ ws. with_names seen ws) (defined_name c.args.starts c.args.token.now w c.in-Name.is c.if-starts.true) ∙ one_missing seen w c.in-None.ensures.missing in
    record { names = subst (λ ws. OnOk c.push.result (c.push.new.self ≡ ws)) (ap (λ v. seen ++ v ∷ []) word_is ∙ sym names_are) c.push.ensures.ok }
