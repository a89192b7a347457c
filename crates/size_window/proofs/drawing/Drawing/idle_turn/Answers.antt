-- The ways in which a turn needs no bit.
use Rattle.std.proofs.Common.{◌≡◌, ◌≢◌, Bool, true, false, [], Option, Some, None, refl, sym, ◌∙◌, ap, subst}
use Rattle.std.specs.Prelude.{option_map}
use Rattle.std.specs.Option.{is_some}
use Rattle.size_window.specs.declared.finished_shape.Made.{Made}
use Rattle.size_window.specs.Drawing.{DrawingState, shape_of}
use Rattle.size_window.specs.Turn.{GoesOn}
use Rattle.size_window.specs.Turn as turning
use Rattle.size_window.proofs.Belonging.{none-pending}
use Rattle.size_window.proofs.drawing.Drawing.idle_turn.Goals as goal

-- where a test answers whether a shape waits
none-waits : (o : Option Made) (b : Bool) → b ≡ is_some o → b ≡ false → option_map shape_of o ≡ None
none-waits None b is h = refl
none-waits (Some m) b is h = absurd (let no : ⊥ = cc in no)

one-waits : (o : Option Made) (b : Bool) → b ≡ is_some o → b ≡ true → option_map shape_of o ≢ None
one-waits None b is h none = let no : ⊥ = cc in no
one-waits (Some m) b is h none = let no : ⊥ = cc in no

pub returns-in-Some : goal.returns-in-Some
returns-in-Some c = turning.again c.in-Some.ending (ap (λ (d : DrawingState). d.ending) (sym c.self.view_is) ∙ c.in-Some.is) refl refl

pub returns-then-is_some : goal.returns-then-is_some
returns-then-is_some c =
    let v = c.self.view_is in
    turning.labels
    (record {
      going = ap (λ (d : DrawingState). d.ending) (sym v) ∙ c.in_default.is;
      fewer = subst (λ (d : DrawingState). d.kept ≢ d.limits.count) v c.if-self.false;
      more = subst (λ (d : DrawingState). d.turns ≢ d.limits.turns) v c.if-self-2.false;
    })
    (subst (λ (d : DrawingState). d.waiting ≢ None) v (one-waits c.self.inside.waiting _ c.is_some.ensures c.if-is_some.true))
    refl refl

pub returns-in-Ok : goal.returns-in-Ok
returns-in-Ok c =
    let v = c.self.view_is in
    turning.begins
    (record {
      going = ap (λ (d : DrawingState). d.ending) (sym v) ∙ c.in_default.is;
      fewer = subst (λ (d : DrawingState). d.kept ≢ d.limits.count) v c.if-self.false;
      more = subst (λ (d : DrawingState). d.turns ≢ d.limits.turns) v c.if-self-2.false;
    })
    (subst (λ (d : DrawingState). d.waiting ≡ None) v (none-waits c.self.inside.waiting _ c.is_some.ensures c.if-is_some.false))
    (subst (λ (d : DrawingState). d.session.pending ≡ []) v (none-pending _ _ c.if-pending.false c.pending.ensures))
    refl c.in-Ok.ensures.ok

pub returns-in-Err : goal.returns-in-Err
returns-in-Err c =
    let v = c.self.view_is in
    turning.no_memory
    (record {
      going = ap (λ (d : DrawingState). d.ending) (sym v) ∙ c.in_default.is;
      fewer = subst (λ (d : DrawingState). d.kept ≢ d.limits.count) v c.if-self.false;
      more = subst (λ (d : DrawingState). d.turns ≢ d.limits.turns) v c.if-self-2.false;
    })
    (subst (λ (d : DrawingState). d.waiting ≡ None) v (none-waits c.self.inside.waiting _ c.is_some.ensures c.if-is_some.false))
    (subst (λ (d : DrawingState). d.session.pending ≡ []) v (none-pending _ _ c.if-pending.false c.pending.ensures))
    refl c.in-Err.ensures.err
