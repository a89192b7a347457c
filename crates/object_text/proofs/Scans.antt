-- Steps and faults of reading: how they follow one another, and those of words and numbers.
use Rattle.std.proofs.Common.{◌≡◌, ℕ, ◌≤◌, List, [], ◌∷◌, ◌++◌, length, arith, refl, sym, ◌∙◌, ap, subst, append_assoc, append-nil, decimal}
use Rattle.std.proofs.lemmas.List.{append_cancel_left}
use Rattle.object_text.specs.Taken.{Taken}
use Rattle.object_text.specs.Scanning.{Word, Number, IsOther, DiffersFrom, BeginsWithNumber, HasNoNumber, BeginsLike, Steps, Accepts, CantGoOn, Faults}
use Rattle.object_text.proofs.Digits.{HasNoDigit, cons-same, one-number, no-number, no-number-end}

-- what goes on likewise
like-same : (xs : List ℕ) → BeginsLike xs xs
like-same [] = refl
like-same (x ∷ xs) = (xs, refl)

like-split : (xs bs more : List ℕ) (b : ℕ) → BeginsLike (xs ++ b ∷ bs) (xs ++ b ∷ more)
like-split [] bs more b = (more, refl)
like-split (x ∷ xs) bs more b = (xs ++ b ∷ more, refl)

like-front : (front rest other : List ℕ) → BeginsLike rest other → BeginsLike (front ++ rest) (front ++ other)
like-front [] rest other h = h
like-front (x ∷ front) rest other h = (front ++ other, refl)

module _ (A B : Taken → List ℕ → Type 0) where
  -- a fault behind a step is a fault of the whole
  pub faults-through : (text rest : List ℕ) (left : ℕ) → Steps A B text rest → Faults B rest left → Faults A text left
  faults-through text rest left h f = record {
    front = h.front ++ f.front;
    back = f.back;
    split = h.split ∙ ap (λ t. h.front ++ t) f.split ∙ sym (append_assoc h.front f.front f.back);
    count = f.count;
    more = f.more;
    goes_on = record { whole = f.goes_on.whole; reads = subst (A f.goes_on.whole) (sym (append_assoc h.front f.front f.more)) (h.back f.goes_on.whole (f.front ++ f.more) f.goes_on.reads) };
    stops = go f.back f.split f.stops;
  }
    where
      go : (back : List ℕ) → rest ≡ f.front ++ back → CantGoOn B f.front back → CantGoOn A (h.front ++ f.front) back
      go [] e n = λ a. n (record { whole = a.whole; reads = h.forth a.whole f.front (subst (λ t. BeginsLike t f.front) (sym (e ∙ append-nil f.front)) (like-same f.front)) a.reads })
      go (b ∷ back) e n = λ more a. n more (record { whole = a.whole; reads = h.forth a.whole (f.front ++ b ∷ more) (subst (λ t. BeginsLike t (f.front ++ b ∷ more)) (sym e) (like-split f.front back more b)) (subst (A a.whole) (append_assoc h.front f.front (b ∷ more)) a.reads) })

  -- nothing is taken off where the same can be read
  pub steps-same : (text : List ℕ) → ((whole : Taken) (other : List ℕ) → B whole other → A whole other) → ((whole : Taken) (other : List ℕ) → A whole other → B whole other) → Steps A B text text
  steps-same text back forth = record { front = []; split = refl; back = back; forth = λ whole other like. forth whole other }

-- one step after the other
pub steps-then : (A B C : Taken → List ℕ → Type 0) (text mid rest : List ℕ) → Steps A B text mid → Steps B C mid rest → Steps A C text rest
steps-then A B C text mid rest h k = record {
  front = h.front ++ k.front;
  split = h.split ∙ ap (λ t. h.front ++ t) k.split ∙ sym (append_assoc h.front k.front rest);
  back = λ whole other n. subst (A whole) (sym (append_assoc h.front k.front other)) (h.back whole (k.front ++ other) (k.back whole other n));
  forth = λ whole other like n. k.forth whole other like (h.forth whole (k.front ++ other) (subst (λ t. BeginsLike t (k.front ++ other)) (sym k.split) (like-front k.front rest other like)) (subst (A whole) (append_assoc h.front k.front other) n));
}

-- a fault at the first byte
pub faults-here : (A : Taken → List ℕ → Type 0) (text more : List ℕ) (left : ℕ) → left ≡ length text → Accepts A more → CantGoOn A [] text → Faults A text left
faults-here A text more left e a n = record { front = []; back = text; split = refl; count = sym e; more = more; goes_on = a; stops = n }

module _ (word : List ℕ) (Later : Taken → List ℕ → Type 0) where
  abbrev pub WordThen : Taken → List ℕ → Type 0
  WordThen = λ whole text. Word word (Later whole) text

  pub word-steps : (text rest : List ℕ) → text ≡ word ++ rest → Steps WordThen Later text rest
  word-steps text rest e = record {
    front = word;
    split = e;
    back = λ whole other n. record { rest = other; split = refl; later = n };
    forth = λ whole other like w. subst (Later whole) (sym (append_cancel_left word other w.rest w.split)) w.later;
  }

  pub word-faults : (text more : List ℕ) (left : ℕ) → DiffersFrom word text left → Accepts Later more → Faults WordThen text left
  word-faults text more left d a = record {
    front = d.same;
    back = d.back;
    split = d.text_is;
    count = d.count;
    more = d.byte ∷ (d.others ++ more);
    goes_on = record { whole = a.whole; reads = record { rest = more; split = sym (append_assoc d.same (d.byte ∷ d.others) more) ∙ ap (λ w. w ++ more) (sym d.word_is); later = a.reads } };
    stops = go d.back d.differs;
  }
    where
      told : (whole : Taken) (other : List ℕ) (w : WordThen whole other) → other ≡ d.same ++ (d.byte ∷ (d.others ++ w.rest))
      told whole other w = w.split ∙ ap (λ z. z ++ w.rest) d.word_is ∙ append_assoc d.same (d.byte ∷ d.others) w.rest

      go : (back : List ℕ) → IsOther d.byte back → CantGoOn WordThen d.same back
      go [] o = λ k. absurd (let e = append_cancel_left d.same [] (d.byte ∷ (d.others ++ k.reads.rest)) (append-nil d.same ∙ told k.whole d.same k.reads) in cc)
      go (b ∷ back) o = λ other k. o (cons-same b d.byte other (d.others ++ k.reads.rest) (append_cancel_left d.same (b ∷ other) (d.byte ∷ (d.others ++ k.reads.rest)) (told k.whole (d.same ++ b ∷ other) k.reads))).0

-- a word of one byte
pub byte-differs : (byte : ℕ) (text : List ℕ) (left : ℕ) → left ≡ length text → IsOther byte text → DiffersFrom (byte ∷ []) text left
byte-differs byte text left e o = record { same = []; byte = byte; others = []; back = text; word_is = refl; text_is = refl; count = sym e; differs = o }

module _ (low most : ℕ) (Later : Taken → ℕ → List ℕ → Type 0) (small : most ≤ 1000000) where
  abbrev pub NumberThen : Taken → List ℕ → Type 0
  NumberThen = λ whole text. Number low most (Later whole) text

  pub number-steps : (text rest : List ℕ) (n : ℕ) → BeginsWithNumber low most text n rest → ((whole : Taken) (k : ℕ) (other : List ℕ) → Later whole k other → HasNoDigit other) → Steps NumberThen (λ whole other. Later whole n other) text rest
  number-steps text rest n b none = record {
    front = decimal n;
    split = b.split;
    back = λ whole other k. record { number = n; least = b.least; greatest = b.greatest; rest = other; split = refl; later = k };
    forth = λ whole other like k.
        let one = one-number most n k.number rest other k.rest small b.greatest k.greatest b.longest like (none whole k.number k.rest k.later) k.split in
        subst (Later whole n) (sym one.1) (subst (λ m. Later whole m k.rest) (sym one.0) k.later);
  }

  pub number-faults : (text more : List ℕ) (left : ℕ) → low ≤ 1 → low ≤ most → left ≡ length text → HasNoNumber low most text → Accepts (λ whole other. Later whole low other) more → Faults NumberThen text left
  number-faults text more left one some e none a =
      faults-here NumberThen text (decimal low ++ more) left e
      (record { whole = a.whole; reads = record { number = low; least = omega arith; greatest = some; rest = more; split = refl; later = a.reads } })
      (go text none)
    where
      go : (text : List ℕ) → HasNoNumber low most text → CantGoOn NumberThen [] text
      go [] none = λ k. let r = k.reads in no-number-end r.number (let g = r.greatest in omega arith) r.rest r.split
      go (b ∷ text) none = λ other k. let r = k.reads in no-number low most r.number one r.least r.greatest small b text other r.rest none r.split
