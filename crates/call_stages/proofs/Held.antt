-- Texts of which a part was written and the rest is held back.
use Rattle.std.proofs.Common.{◌≡◌, ℕ, ◌+◌, ◌≤◌, List, [], ◌++◌, length, take, refl, sym, ap, subst, ◌∙◌, arith, append-nil, append_assoc}
use Rattle.std.specs.Prelude.{Option, Some, None, option_map}
use Rattle.std.proofs.Math.Seq.{take-append-add, take-length}
use Rattle.std.proofs.lemmas.List.{take-append-le, length-append}
use Rattle.bz_outside.specs.Outside.{Appends, AppendsFront}
use Rattle.call_stages.specs.Ends.{IsHeld}

-- what is written after something else
appended-twice : (o : Option (List ℕ)) (xs ys : List ℕ) → option_map (λ w. w ++ ys) (option_map (λ w. w ++ xs) o) ≡ option_map (λ w. w ++ (xs ++ ys)) o
appended-twice None xs ys = refl
appended-twice (Some w) xs ys = ap Some (append_assoc w xs ys)

-- A sink to which xs was appended and then ys has had xs followed by ys appended.
pub appends-both : (b m a : Option (List ℕ)) (xs ys : List ℕ) → Appends b m xs → Appends m a ys → Appends b a (xs ++ ys)
appends-both b m a xs ys h k = record { told = k.told ∙ ap (λ o. option_map (λ w. w ++ ys) o) h.told ∙ appended-twice b xs ys }

-- A sink to which xs was appended and then a front of ys has had a front of xs followed by ys
-- appended.
pub front-both : (b m a : Option (List ℕ)) (xs ys : List ℕ) → Appends b m xs → AppendsFront m a ys → AppendsFront b a (xs ++ ys)
front-both b m a xs ys h k = record {
  count = length xs + k.count;
  within = let n = length-append xs ys in let w = k.within in omega (arith, n, w);
  front = subst (Appends b a) (sym (take-append-add xs ys k.count)) (appends-both b m a xs (take k.count ys) h k.front);
}

-- a prefix of a text is one of a longer text
pub front-more : (b a : Option (List ℕ)) (xs ys : List ℕ) → AppendsFront b a xs → AppendsFront b a (xs ++ ys)
front-more b a xs ys h = record {
  count = h.count;
  within = let n = length-append xs ys in let w = h.within in omega (arith, n, w);
  front = subst (Appends b a) (sym (take-append-le h.count xs ys h.within)) h.front;
}

-- a whole text is a prefix of itself
pub front-whole : (b a : Option (List ℕ)) (xs : List ℕ) → Appends b a xs → AppendsFront b a xs
front-whole b a xs h = record { count = length xs; within = omega arith; front = subst (Appends b a) (sym (take-length xs)) h }

appends-nothing : (o : Option (List ℕ)) → Appends o o []
appends-nothing None = record { told = refl }
appends-nothing (Some w) = record { told = ap Some (sym (append-nil w)) }

-- nothing is written, and the whole text is held back
pub held-start : (o : Option (List ℕ)) (page text : List ℕ) → text ≡ page → IsHeld o o page text
held-start o page text same = record { sent = []; appends = appends-nothing o; text_is = same }

-- more is held back
pub held-more : (start now : Option (List ℕ)) (page text more : List ℕ) → IsHeld start now page text → IsHeld start now (page ++ more) (text ++ more)
held-more start now page text more h = record { sent = h.sent; appends = h.appends; text_is = ap (λ t. t ++ more) h.text_is ∙ append_assoc h.sent page more }

-- what was held back is written
pub held_sent : (start now after : Option (List ℕ)) (page text none : List ℕ) → none ≡ [] → Appends now after page → IsHeld start now page text → IsHeld start after none text
held_sent start now after page text none empty put h = record {
  sent = h.sent ++ page;
  appends = appends-both start now after h.sent page h.appends put;
  text_is = h.text_is ∙ sym (append-nil (h.sent ++ page)) ∙ ap (λ p. (h.sent ++ page) ++ p) (sym empty);
}

-- a prefix of it is
pub held_cut : (start now after : Option (List ℕ)) (page text : List ℕ) → AppendsFront now after page → IsHeld start now page text → AppendsFront start after text
held_cut start now after page text put h = subst (AppendsFront start after) (sym h.text_is) (front-both start now after h.sent page h.appends put)

-- what was written until then is a prefix
pub held-front : (start now : Option (List ℕ)) (page text : List ℕ) → IsHeld start now page text → AppendsFront start now text
held-front start now page text h = subst (AppendsFront start now) (sym h.text_is) (front-more start now h.sent page (front-whole start now h.sent h.appends))
