-- A pre-fixed vector below a post-fixed one, with weights that contract there, is Below but for one unit.
use Rattle.std.proofs.Common.{◌≡◌, ℕ, ◌-◌, ◌<◌, ◌≤◌, max, List, sum, length, sym, ap, subst, arith, Option, Some}
use Rattle.std.specs.Prelude.{slice_index, is_some, IsTrue}
use Rattle.bz_model.specs.Fraction.{Fraction, AtMost, units, ratio}
use Rattle.bz_model.specs.Spec.{Spec, body_of}
use Rattle.bz_model.specs.Object.{Belongs}
use Rattle.bz_model.specs.Totals.{Above, Below}
use Rattle.class_system.specs.Sound.{IsSound}
use Rattle.fixed_enclosure.specs.UpperValues.{AreAtMost}
use Rattle.series_bounds.proofs.Fractions.{units-mono}
use Rattle.rounded_map.specs.RoundedMap.{Setting, setting, amount, value_at, values_down, values_up, IsPostFixed}
use Rattle.rounded_map.specs.Bounding.{AreBelow}
use Rattle.rounded_map.specs.Derivative.{derivatives_up}
use Rattle.rounded_map.proofs.LaidOut.{laid_out}
use Rattle.rounded_map.proofs.Covering.{up, told, down, values-cover, values-reached}
use Rattle.rounded_map.proofs.Bounding.{values-above, post_fixed-above}
use Rattle.rounded_map.proofs.EachValued.{each-value}
use Rattle.rounded_map.proofs.MapMonotone.{at_most-at}
use Rattle.fast_lower.proofs.Ordered.{values-ordered}
use Rattle.fast_lower.proofs.Contracts.{contraction-below}
use Rattle.fast_lower.proofs.Derivatives.{derivatives-cover}
use Rattle.fast_lower.specs.Contraction.{IsPreFixed, IsContracting, one_unit_off}
use Rattle.fast_lower.proofs.ClassByClass.{entry-most, slope-below, entry-within_sum, entry-off}

module _ (s : Spec) (x : Fraction) (F : ℕ) (upper low weights : List ℕ) (sound : IsSound s) (fixed : IsPostFixed (setting s x.num x.den F) upper) (most : AreAtMost low upper) (pre_fixed : IsPreFixed (setting s x.num x.den F) low) (contracting : IsContracting (setting s x.num x.den F) upper weights) where
  abbrev t : Setting
  t = setting s x.num x.den F

  abbrev high_values : List (Option ℕ)
  high_values = values_up t upper

  abbrev slopes : List (Option ℕ)
  slopes = derivatives_up t high_values weights

  value-above : (e : ℕ) → e < length s.nodes → Above x (up F high_values e) (Belongs s e)
  value-above e within =
      let v = each-value s x F sound upper fixed e within in
      subst (λ w. Above x (units F w) (Belongs s e)) (sym (ap amount v.1)) ((values-above s x F sound upper (post_fixed-above s x F sound upper fixed)).at e v.0 v.1)

  value-told : (e : ℕ) → e < length s.nodes → IsTrue (told F high_values e)
  value-told e within = ap is_some (each-value s x F sound upper fixed e within).1

  values-less : (e : ℕ) → e < length s.nodes → AtMost (down F (values_down t low) e) (up F high_values e)
  values-less e within =
      values-ordered s (laid_out s sound).below x (λ c. units F (slice_index low c)) (λ c. units F (slice_index upper c)) (down F (values_down t low)) (up F high_values) (told F high_values) (values-reached s x F low sound) (values-cover s x F upper sound)
      (λ c. units-mono F (at_most-at low upper c most)) e within (value-told e within)

  slope-told : (c body : ℕ) → body_of s c ≡ Some body → IsTrue (told F slopes body)
  slope-told c body at = ap is_some (slope-below slopes s.bodies weights contracting.each c body at).is_there

  slope-less : (c body : ℕ) → body_of s c ≡ Some body → AtMost (up F slopes body) (units F (slice_index weights c - 1))
  slope-less c body at =
      let h = slope-below slopes s.bodies weights contracting.each c body at in
      units-mono F (let same : amount (value_at slopes body) ≡ h.slope = ap amount h.is_there in let below = h.less in omega arith)

  some-weight : (c body : ℕ) → body_of s c ≡ Some body → 0 < slice_index weights c
  some-weight c body at = let below = (slope-below slopes s.bodies weights contracting.each c body at).less in omega arith

  entry-below : (c body : ℕ) → body_of s c ≡ Some body → Below x (units F (slice_index low c - 1)) (Belongs s body)
  entry-below =
      contraction-below s x (laid_out s sound) (told F slopes) F (slice_index low) (slice_index weights) (down F (values_down t low)) (up F high_values) (up F slopes) (values-reached s x F low sound) (derivatives-cover t sound high_values weights) value-above values-less slope-told
      (λ c body at. units-mono F (entry-most (values_down t low) s.bodies low pre_fixed.each c body at)) slope-less some-weight (sum weights) (sum low) (λ c. let h = entry-within_sum weights c in omega arith) (λ c. entry-within_sum low c)

  -- Each entry less one unit is Below for its class.
  pub contracted-below : AreBelow s x F (one_unit_off low)
  contracted-below = record {
    at = λ c body at. subst (λ v. Below x (units F v) (Belongs s body)) (sym (entry-off low c)) (entry-below c body at);
  }

-- The same at the parts of a fraction, of which the denominator is at least 1.
at_least_one : (d : ℕ) → 1 ≤ d → d ≡ max d 1
at_least_one d h = omega arith

-- A pre-fixed vector at most a post-fixed one, with contracting weights there and a sound
-- specification, is below the classes' totals once a unit is taken off.
pub contracted-below-at : (s : Spec) (num den F : ℕ) (upper low weights : List ℕ) → IsSound s → 1 ≤ den → IsPostFixed (setting s num den F) upper → AreAtMost low upper → IsPreFixed (setting s num den F) low → IsContracting (setting s num den F) upper weights → AreBelow s (ratio num den) F (one_unit_off low)
contracted-below-at s num den F upper low weights sound positive fixed most pre_fixed contracting =
    let same = at_least_one den positive in
    contracted-below s (ratio num den) F upper low weights sound
    (subst (λ d. IsPostFixed (setting s num d F) upper) same fixed) most
    (subst (λ d. IsPreFixed (setting s num d F) low) same pre_fixed)
    (subst (λ d. IsContracting (setting s num d F) upper weights) same contracting)
