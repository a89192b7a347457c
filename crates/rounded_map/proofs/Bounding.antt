-- What the rounded map's values bound, and what they are reached by.
use Rattle.std.proofs.Common.{◌≡◌, ℕ, zero, suc, ◌<◌, ◌≤◌, List, [], ◌∷◌, length, map, max, refl, sym, ap, subst, ◌∙◌, arith, Option, Some, None, replicate, slice_get, Result, Ok, Err}
use Rattle.std.specs.Prelude.{slice_index, is_some, IsTrue, OnOk}
use Rattle.std.proofs.lemmas.List.{length-map}
use Rattle.std.proofs.Math.ListN.{length-replicate}
use Rattle.std.proofs.lemmas.Option.{slice_get_within, same_Some}
use Rattle.bz_model.specs.Fraction.{Fraction, units, ratio}
use Rattle.bz_model.specs.Spec.{Spec, body_of}
use Rattle.bz_model.specs.Object.{HasWithin, Belongs}
use Rattle.bz_model.specs.Totals.{Above, Below}
use Rattle.bz_laws.proofs.Bounds.{below-max, above-min}
use Rattle.bz_laws.proofs.Sweeps.{below-zero}
use Rattle.bz_laws.proofs.Values.{covers-belongs, covers-height, covers-height_zero, reached-belongs, post_fixed-entries}
use Rattle.class_system.specs.Sound.{IsSound}
use Rattle.class_system.proofs.Soundness.{body_in_range}
use Rattle.fixed_enclosure.specs.UpperValues.{IsNoGreater, AreNoGreater}
use Rattle.series_bounds.proofs.Fractions.{units-mono}
use Rattle.rounded_map.specs.RoundedMap.{Setting, setting, amount, value_at, at_each, lesser, repeated, values_down, values_up, bodies_down, sweep_down, sweep_up, IsPostFixed}
use Rattle.rounded_map.specs.Bounding.{AreAbove, AreAboveWithin, AreBelow, ValuesAbove, ValuesAboveWithin, ValuesBelow}
use Rattle.rounded_map.proofs.LaidOut.{laid_out}
use Rattle.rounded_map.proofs.Covering.{told, up, down, values-cover, values-reached}

module _ (s : Spec) (x : Fraction) (F : ℕ) (sound : IsSound s) (classes : List ℕ) where
  abbrev vs : List (Option ℕ)
  vs = values_up (setting s x.num x.den F) classes

  abbrev entry : ℕ → Fraction
  entry c = units F (slice_index classes c)

  -- the number of a value that is there
  at-value : (P : Fraction → Type 0) (e v : ℕ) → value_at vs e ≡ Some v → P (up F vs e) → P (units F v)
  at-value P e v there h = subst (λ w. P (units F w)) (ap amount there) h

  told-value : (e v : ℕ) → value_at vs e ≡ Some v → IsTrue (told F vs e)
  told-value e v there = ap is_some there

  pub values-above : AreAbove s x F classes → ValuesAbove s x F vs
  values-above entries = record {
    at = λ e v there. at-value (λ f. Above x f (Belongs s e)) e v there (covers-belongs s (laid_out s sound).below x entry (up F vs) (told F vs) (values-cover s x F classes sound) entries.at e (told-value e v there));
  }

  pub values-above-within : (h : ℕ) → AreAboveWithin s x F h classes → ValuesAboveWithin s x F (suc h) vs
  values-above-within h entries = record {
    at = λ e v there. at-value (λ f. Above x f (HasWithin s (suc h) (Some e))) e v there (covers-height s (laid_out s sound).below x entry (up F vs) (told F vs) (values-cover s x F classes sound) h entries.at e (told-value e v there));
  }

  pub values-above-zero : ValuesAboveWithin s x F 0 vs
  values-above-zero = record {
    at = λ e v there. at-value (λ f. Above x f (HasWithin s 0 (Some e))) e v there (covers-height_zero s (laid_out s sound).below x entry (up F vs) (told F vs) (values-cover s x F classes sound) e (told-value e v there));
  }

  pub values-below : AreBelow s x F classes → ValuesBelow s x F (values_down (setting s x.num x.den F) classes)
  values-below entries = record {
    at = λ e within. reached-belongs s (laid_out s sound).below x entry (down F (values_down (setting s x.num x.den F) classes)) (values-reached s x F classes sound) (laid_out s sound).classes entries.at e within;
  }

-- The value of a class's body is there and at most its entry, where the bodies' values are no greater than the entries.
pub record IsBodyWithin (vs : List (Option ℕ)) (classes : List ℕ) (c body : ℕ) : Type 0 where
  pub value : ℕ
  pub is_there : value_at vs body ≡ Some value
  pub within : value ≤ slice_index classes c

-- Where the bodies' values are no greater than the entries, each class's body has a value, at most
-- the class's entry.
pub body-within : (vs : List (Option ℕ)) (bodies classes : List ℕ) → AreNoGreater (map (value_at vs) bodies) (map Some classes) → (c body : ℕ) → slice_get bodies c ≡ Some body → IsBodyWithin vs classes c body
body-within vs [] classes each c body at = absurd (omega (arith, slice_get_within [] c body at))
body-within vs (b ∷ bodies) [] each c body at = absurd each
body-within vs (b ∷ bodies) (n ∷ classes) each zero body at = first (value_at vs b) refl each.0
  where
    first : (o : Option ℕ) → value_at vs b ≡ o → IsNoGreater o (Some n) → IsBodyWithin vs (n ∷ classes) 0 body
    first None is h = absurd h
    first (Some v) is h = record { value = v; is_there = ap (value_at vs) (sym (same_Some b body at)) ∙ is; within = h }
body-within vs (b ∷ bodies) (n ∷ classes) each (suc c) body at =
    let h = body-within vs bodies classes each.1 c body at in
    record { value = h.value; is_there = h.is_there; within = h.within }

module _ (s : Spec) (x : Fraction) (F : ℕ) (sound : IsSound s) where
  -- a post-fixed vector bounds every total
  pub post_fixed-above : (classes : List ℕ) → IsPostFixed (setting s x.num x.den F) classes → AreAbove s x F classes
  post_fixed-above classes fixed = record {
    at = post_fixed-entries s (laid_out s sound).below x (entry s x F sound classes) (up F (vs s x F sound classes)) (told F (vs s x F sound classes)) (values-cover s x F classes sound)
        (λ c body at. let h = body-within (vs s x F sound classes) s.bodies classes fixed.each c body at in ap is_some h.is_there)
        (λ c body at. let h = body-within (vs s x F sound classes) s.bodies classes fixed.each c body at in units-mono F (let same : amount (value_at (vs s x F sound classes) body) ≡ h.value = ap amount h.is_there in omega (arith, h.within)));
  }

-- The entry of a class after an upper sweep of it.
swept-entry : (vs : List (Option ℕ)) (bodies classes : List ℕ) (c body : ℕ) → slice_get bodies c ≡ Some body → c < length classes → slice_index (at_each lesser classes (map (value_at vs) bodies)) c ≡ lesser (slice_index classes c) (value_at vs body)
swept-entry vs bodies [] c body at within = absurd (omega arith)
swept-entry vs [] (n ∷ classes) c body at within = absurd (omega (arith, slice_get_within [] c body at))
swept-entry vs (b ∷ bodies) (n ∷ classes) zero body at within = ap (λ (d : ℕ). lesser n (value_at vs d)) (same_Some b body at)
swept-entry vs (b ∷ bodies) (n ∷ classes) (suc c) body at within = swept-entry vs bodies classes c body at (omega arith)

raised-entry : (vs bodies classes : List ℕ) (c body : ℕ) → slice_get bodies c ≡ Some body → c < length classes → slice_index (at_each max classes (map (slice_index vs) bodies)) c ≡ max (slice_index classes c) (slice_index vs body)
raised-entry vs bodies [] c body at within = absurd (omega arith)
raised-entry vs [] (n ∷ classes) c body at within = absurd (omega (arith, slice_get_within [] c body at))
raised-entry vs (b ∷ bodies) (n ∷ classes) zero body at within = ap (λ (d : ℕ). max n (slice_index vs d)) (same_Some b body at)
raised-entry vs (b ∷ bodies) (n ∷ classes) (suc c) body at within = raised-entry vs bodies classes c body at (omega arith)

module _ (s : Spec) (x : Fraction) (F : ℕ) (sound : IsSound s) (classes : List ℕ) (lengths : length classes ≡ length s.bodies) where
  -- an upper sweep keeps bounds
  pub sweep-above : AreAbove s x F classes → AreAbove s x F (sweep_up (setting s x.num x.den F) classes)
  sweep-above entries = record {
    at = λ c body at.
        subst (λ v. Above x (units F v) (Belongs s body)) (sym (swept-entry (vs s x F sound classes) s.bodies classes c body at (omega (arith, slice_get_within s.bodies c body at))))
        (go c body at (value_at (vs s x F sound classes) body) refl);
  }
    where
      go : (c body : ℕ) → body_of s c ≡ Some body → (o : Option ℕ) → value_at (values_up (setting s x.num x.den F) classes) body ≡ o → Above x (units F (lesser (slice_index classes c) o)) (Belongs s body)
      go c body at None is = entries.at c body at
      go c body at (Some v) is = above-min x F (slice_index classes c) v (Belongs s body) (entries.at c body at) ((values-above s x F sound classes entries).at body v is)

  -- a lower sweep keeps what is reached
  pub sweep-below : AreBelow s x F classes → AreBelow s x F (sweep_down (setting s x.num x.den F) classes)
  sweep-below entries = record {
    at = λ c body at.
        let values = values_down (setting s x.num x.den F) classes in
        subst (λ v. Below x (units F v) (Belongs s body)) (sym (raised-entry values s.bodies classes c body at (omega (arith, slice_get_within s.bodies c body at))))
        (below-max x F (slice_index classes c) (slice_index values body) (Belongs s body) (entries.at c body at) ((values-below s x F sound classes entries).at body (body_in_range s sound c body at)));
  }

-- A sweep has an entry for each class.
pub length-at_each : {A B C : Type 0} (g : A → B → C) (xs : List A) (ys : List B) → length ys ≡ length xs → length (at_each g xs ys) ≡ length xs
length-at_each g [] ys e = refl
length-at_each g (x ∷ xs) [] e = absurd (omega arith)
length-at_each g (x ∷ xs) (y ∷ ys) e = let rest : length (at_each g xs ys) ≡ length xs = length-at_each g xs ys (omega arith) in omega arith

-- Zeros are reached by the empty list.
zero-at : (m c : ℕ) → slice_index (replicate m 0) c ≡ 0
zero-at zero c = refl
zero-at (suc m) zero = refl
zero-at (suc m) (suc c) = zero-at m c

-- Lower sweeps from zero, and how many entries they have.
abbrev pub lower_sweeps : (s : Spec) (x : Fraction) (F n : ℕ) → List ℕ
lower_sweeps s x F n = repeated (sweep_down (setting s x.num x.den F)) n (replicate (length s.bodies) 0)

-- Any number of lower sweeps from zeros leaves one entry for each class.
pub length-lower_sweeps : (t : Setting) (n : ℕ) → length (repeated (sweep_down t) n (replicate (length t.spec.bodies) 0)) ≡ length t.spec.bodies
length-lower_sweeps t zero = length-replicate (length t.spec.bodies) 0
length-lower_sweeps t (suc n) =
    let v = repeated (sweep_down t) n (replicate (length t.spec.bodies) 0) in
    let before : length v ≡ length t.spec.bodies = length-lower_sweeps t n in
    length-at_each max v (bodies_down t (values_down t v)) (length-map t.spec.bodies (slice_index (values_down t v)) ∙ sym before) ∙ before

-- The entries of lower sweeps from zero are reached.
pub sweeps-reached : (s : Spec) (x : Fraction) (F : ℕ) → IsSound s → (n : ℕ) → AreBelow s x F (lower_sweeps s x F n)
sweeps-reached s x F sound zero = record {
  at = λ c body at. subst (λ v. Below x (units F v) (Belongs s body)) (sym (zero-at (length s.bodies) c)) (below-zero x F (Belongs s body));
}
sweeps-reached s x F sound (suc n) = sweep-below s x F sound (lower_sweeps s x F n) (length-lower_sweeps (setting s x.num x.den F) n) (sweeps-reached s x F sound n)

-- Where an answer is Ok, what follows from what then holds.
pub on_ok : {V E P Q : Type 0} (r : Result V E) → OnOk r P → (P → Q) → OnOk r Q
on_ok (Ok v) h f = f h
on_ok (Err e) h f = h

-- A fraction within the limits is the ratio of its parts.
pub post_fixed-at : (s : Spec) (num den F : ℕ) (classes : List ℕ) → IsSound s → 1 ≤ den → IsPostFixed (setting s num den F) classes → AreAbove s (ratio num den) F classes
post_fixed-at s num den F classes sound positive fixed =
    post_fixed-above s (ratio num den) F sound classes (subst (λ d. IsPostFixed (setting s num d F) classes) (least den positive) fixed)
  where
    least : (d : ℕ) → 1 ≤ d → d ≡ max d 1
    least d h = omega arith

-- The test of the bodies' values, as the code finds them.
pub post_fixed-found : (t : Setting) (classes : List ℕ) (values : List (Option ℕ)) (bodies : List ℕ) → values ≡ values_up t classes → bodies ≡ t.spec.bodies → AreNoGreater (map (value_at values) bodies) (map Some classes) → IsPostFixed t classes
post_fixed-found t classes values bodies values_are bodies_are h = record {
  each =
      subst (λ (us : List (Option ℕ)). AreNoGreater (map (value_at us) t.spec.bodies) (map Some classes)) values_are
      (subst (λ (bs : List ℕ). AreNoGreater (map (value_at values) bs) (map Some classes)) bodies_are h);
}

-- At a fraction within the limits the ratio of its parts has these parts.
at_least_one : (d : ℕ) → 1 ≤ d → max d 1 ≡ d
at_least_one d h = omega arith

-- In a sound specification, the entries after any number of lower sweeps from zeros are lower
-- bounds of their classes.
pub sweeps-reached-at : (s : Spec) (num den F n : ℕ) → IsSound s → 1 ≤ den → AreBelow s (ratio num den) F (repeated (sweep_down (setting s num den F)) n (replicate (length s.bodies) 0))
sweeps-reached-at s num den F n sound positive =
    subst (λ d. AreBelow s (ratio num den) F (repeated (sweep_down (setting s num d F)) n (replicate (length s.bodies) 0))) (at_least_one den positive) (sweeps-reached s (ratio num den) F sound n)

-- In a sound specification, the lower values from entries that are lower bounds of their classes
-- bound each node from below.
pub values-below-at : (s : Spec) (num den F : ℕ) (classes values : List ℕ) → IsSound s → 1 ≤ den → values ≡ values_down (setting s num den F) classes → AreBelow s (ratio num den) F classes → ValuesBelow s (ratio num den) F values
values-below-at s num den F classes values sound positive are entries =
    subst (λ vs. ValuesBelow s (ratio num den) F vs) (sym are)
    (subst (λ d. ValuesBelow s (ratio num den) F (values_down (setting s num d F) classes)) (at_least_one den positive) (values-below s (ratio num den) F sound classes entries))

-- In a sound specification, the upper values from entries that are upper bounds of their classes
-- bound each node from above.
pub values-above-at : (s : Spec) (num den F : ℕ) (classes : List ℕ) (values : List (Option ℕ)) → IsSound s → 1 ≤ den → values ≡ values_up (setting s num den F) classes → AreAbove s (ratio num den) F classes → ValuesAbove s (ratio num den) F values
values-above-at s num den F classes values sound positive are entries =
    subst (λ (vs : List (Option ℕ)). ValuesAbove s (ratio num den) F vs) (sym are)
    (subst (λ d. ValuesAbove s (ratio num den) F (values_up (setting s num d F) classes)) (at_least_one den positive) (values-above s (ratio num den) F sound classes entries))

-- In a sound specification, a lower sweep of one entry per class, each a lower bound of its class,
-- gives lower bounds again.
pub sweep-below-at : (s : Spec) (num den F : ℕ) (classes swept : List ℕ) → IsSound s → 1 ≤ den → length classes ≡ length s.bodies → swept ≡ sweep_down (setting s num den F) classes → AreBelow s (ratio num den) F classes → AreBelow s (ratio num den) F swept
sweep-below-at s num den F classes swept sound positive lengths is entries =
    subst (λ vs. AreBelow s (ratio num den) F vs) (sym is)
    (subst (λ d. AreBelow s (ratio num den) F (sweep_down (setting s num d F) classes)) (at_least_one den positive) (sweep-below s (ratio num den) F sound classes lengths entries))

-- In a sound specification, an upper sweep of one entry per class, each an upper bound of its
-- class, gives upper bounds again.
pub sweep-above-at : (s : Spec) (num den F : ℕ) (classes swept : List ℕ) → IsSound s → 1 ≤ den → length classes ≡ length s.bodies → swept ≡ sweep_up (setting s num den F) classes → AreAbove s (ratio num den) F classes → AreAbove s (ratio num den) F swept
sweep-above-at s num den F classes swept sound positive lengths is entries =
    subst (λ vs. AreAbove s (ratio num den) F vs) (sym is)
    (subst (λ d. AreAbove s (ratio num den) F (sweep_up (setting s num d F) classes)) (at_least_one den positive) (sweep-above s (ratio num den) F sound classes lengths entries))
