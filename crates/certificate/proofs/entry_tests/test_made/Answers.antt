-- The size and the text of what was made.
use Rattle.std.proofs.Common.{◌≡◌, ◌+◌, inl, inr, refl, sym, ◌∙◌, ap, subst}
use Rattle.bz_model.specs.ObjectText.{object_text}
use Rattle.object_store.specs.Tokens.{IsOf, size_of}
use Rattle.certificate.specs.Checks.{IsSizedEntry}
use Rattle.certificate.proofs.Tests.{not-true, is-true}
use Rattle.certificate.proofs.entry_tests.test_made.Goals as goal

pub returns-then-not-is_sized : goal.returns-then-not-is_sized
returns-then-not-is_sized c = inr (subst (λ n. ¬ (IsSizedEntry c.args.window.least c.args.window.greatest n c.args.entry.now)) c.size.ensures (not-true c.if-not-is_sized.true c.is_sized.ensures), refl)

pub returns-then-not-is_same : goal.returns-then-not-is_same
returns-then-not-is_same c =
    let sized = subst (λ n. IsSizedEntry c.args.window.least c.args.window.greatest n c.args.entry.now) c.size.ensures (is-true c.if-not-is_sized.false c.is_sized.ensures) in
    let text = subst (λ ls. (of : IsOf c.args.founded.now 0 c.args.made.now.shape.items) → c.in_ok-text.text.items ≡ object_text c.args.founded.now of.body of.object of.belongs ls) c.items.ensures.items (subst (λ s. (of : IsOf s 0 c.args.made.now.shape.items) → c.in_ok-text.text.items ≡ object_text s of.body of.object of.belongs c.items.result.now) c.system-system.ensures.system c.in_ok-text.ensures.text) in
    inl (sized, inr ((λ t. c.is_same.ensures.other c.if-not-is_same.true (c.as_slice.ensures.value ∙ text t.is_of ∙ sym (t.text_is t.is_of) ∙ sym c.bytes.ensures)), refl))

pub returns : goal.returns
returns c =
    let sized = subst (λ n. IsSizedEntry c.args.window.least c.args.window.greatest n c.args.entry.now) c.size.ensures (is-true c.if-not-is_sized.false c.is_sized.ensures) in
    let text = subst (λ ls. (of : IsOf c.args.founded.now 0 c.args.made.now.shape.items) → c.in_ok-text.text.items ≡ object_text c.args.founded.now of.body of.object of.belongs ls) c.items.ensures.items (subst (λ s. (of : IsOf s 0 c.args.made.now.shape.items) → c.in_ok-text.text.items ≡ object_text s of.body of.object of.belongs c.items.result.now) c.system-system.ensures.system c.in_ok-text.ensures.text) in
    inl (sized, inl (record { is_of = c.requires.is_of; text_is = λ of. sym c.bytes.ensures ∙ sym (c.is_same.ensures.same c.if-not-is_same.false) ∙ c.as_slice.ensures.value ∙ text of }, refl))
