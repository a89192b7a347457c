-- Labels that are free one after the other are 1 to their number, each once.
use Rattle.std.proofs.Common.{◌≡◌, ◌≢◌, ◌↔◌, ℕ, zero, suc, ◌+◌, ◌-◌, ◌<◌, ◌≤◌, Bool, true, false, List, [], ◌∷◌, length, get_or, arith, refl, sym, ◌∙◌, ap, subst, replicate, drop}
use Rattle.std.proofs.Math.ListN.{length-set}
use Rattle.std.specs.List.{AllByRecursion}
use Rattle.std.proofs.lemmas.List.{get_or-set_same, get_or-set_other, drop_more}
use Rattle.bz_model.specs.Labels.{AreOneTo}
use Rattle.bz_model.specs.Totals.{IsDistinct}
use Rattle.object_text.specs.Marks.{IsFree, marked, AreFree}

abbrev Within : ℕ → List ℕ → Type 0
Within n labels = AllByRecursion (λ label. (1 ≤ label) × (label ≤ n)) labels

abbrev Unmarked : List Bool → List ℕ → Type 0
Unmarked seen labels = AllByRecursion (λ label. get_or seen (label - 1) false ≡ false) labels

abbrev Others : ℕ → List ℕ → Type 0
Others a labels = AllByRecursion (λ label. label ≢ a) labels

length-marked : (seen : List Bool) (label : ℕ) → length (marked seen label) ≡ length seen
length-marked seen label = length-set seen (label - 1) true

true_or_false : true ≡ false → ⊥
true_or_false e = cc

-- a label that is marked later isn't the one before
others-of : (seen : List Bool) (label : ℕ) (labels : List ℕ) → 1 ≤ label → label ≤ length seen → Unmarked (marked seen label) labels → Others label labels
others-of seen label [] a b h = tt
others-of seen label (x ∷ labels) a b h = (λ e. true_or_false (sym (get_or-set_same seen (label - 1) true false (omega arith)) ∙ ap (λ z. get_or (marked seen label) (z - 1) false) (sym e) ∙ h.0), others-of seen label labels a b h.1)

unmarked-before : (seen : List Bool) (label : ℕ) (labels : List ℕ) → 1 ≤ label → Within (length seen) labels → Others label labels → Unmarked (marked seen label) labels → Unmarked seen labels
unmarked-before seen label [] a w o h = tt
unmarked-before seen label (x ∷ labels) a w o h =
    let from = w.0.0 in
    let other : x - 1 ≢ label - 1 = λ e. o.0 (omega (arith, from)) in
    (sym (get_or-set_other seen (label - 1) (x - 1) true false other) ∙ h.0, unmarked-before seen label labels a w.1 o.1 h.1)

unmarked-after : (seen : List Bool) (label : ℕ) (labels : List ℕ) → 1 ≤ label → Within (length seen) labels → Others label labels → Unmarked seen labels → Unmarked (marked seen label) labels
unmarked-after seen label [] a w o h = tt
unmarked-after seen label (x ∷ labels) a w o h =
    let from = w.0.0 in
    let other : x - 1 ≢ label - 1 = λ e. o.0 (omega (arith, from)) in
    (get_or-set_other seen (label - 1) (x - 1) true false other ∙ h.0, unmarked-after seen label labels a w.1 o.1 h.1)

record Told (seen : List Bool) (labels : List ℕ) : Type 0 where
  within : Within (length seen) labels
  distinct : IsDistinct labels
  unmarked : Unmarked seen labels

told : (seen : List Bool) (labels : List ℕ) → AreFree seen labels → Told seen labels
told seen [] h = record { within = tt; distinct = tt; unmarked = tt }
told seen (label ∷ labels) h =
    let f = h.0 in
    let t = told (marked seen label) labels h.1 in
    let within : Within (length seen) labels = subst (λ n. Within n labels) (length-marked seen label) t.within in
    let others = others-of seen label labels f.from_one f.to_length t.unmarked in
    record {
      within = ((f.from_one, f.to_length), within);
      distinct = (others, t.distinct);
      unmarked = (f.unmarked, unmarked-before seen label labels f.from_one within others t.unmarked);
    }

free : (seen : List Bool) (labels : List ℕ) → Told seen labels → AreFree seen labels
free seen [] t = tt
free seen (label ∷ labels) t =
    let w = t.within.0 in (
      record { from_one = w.0; to_length = w.1; unmarked = t.unmarked.0 },
      free (marked seen label) labels (record {
        within = subst (λ n. Within n labels) (sym (length-marked seen label)) t.within.1;
        distinct = t.distinct.1;
        unmarked = unmarked-after seen label labels w.0 t.within.1 t.distinct.0 t.unmarked.1;
      }),
    )

none-marked : (n k : ℕ) → get_or (replicate n false) k false ≡ false
none-marked zero k = refl
none-marked (suc n) zero = refl
none-marked (suc n) (suc k) = none-marked n k

all-unmarked : (n : ℕ) (labels : List ℕ) → Unmarked (replicate n false) labels
all-unmarked n [] = tt
all-unmarked n (label ∷ labels) = (none-marked n (label - 1), all-unmarked n labels)

length-none : (n : ℕ) → length (replicate n false) ≡ n
length-none zero = refl
length-none (suc n) = ap suc (length-none n)

-- with no mark set before
pub one_to-free : (labels : List ℕ) → AreFree (replicate (length labels) false) labels ↔ AreOneTo (length labels) labels
one_to-free labels = (
  λ h. let t = told (replicate (length labels) false) labels h in record { count = refl; within = subst (λ n. Within n labels) (length-none (length labels)) t.within; distinct = t.distinct },
  λ h. free (replicate (length labels) false) labels (record { within = subst (λ n. Within n labels) (sym (length-none (length labels))) h.within; distinct = h.distinct; unmarked = all-unmarked (length labels) labels }),
)

-- the labels from a place on are free just where all are
pub record Marking (start : List Bool) (labels : List ℕ) (place : ℕ) (seen : List Bool) : Type 0 where
  pub to : AreFree start labels → AreFree seen (drop place labels)
  pub from : AreFree seen (drop place labels) → AreFree start labels

module _ (start : List Bool) (labels : List ℕ) (place : ℕ) (seen : List Bool) (within : place < length labels) (m : Marking start labels place seen) where
  here : drop place labels ≡ get_or labels place 0 ∷ drop (place + 1) labels
  here = drop_more labels place 0 within

  pub marking-on : (now : List Bool) → IsFree seen (get_or labels place 0) × (now ≡ marked seen (get_or labels place 0)) → Marking start labels (place + 1) now
  marking-on now h = record {
    to = λ f. subst (λ s. AreFree s (drop (place + 1) labels)) (sym h.1) (subst (AreFree seen) here (m.to f)).1;
    from = λ f. m.from (subst (AreFree seen) (sym here) (h.0, subst (λ s. AreFree s (drop (place + 1) labels)) h.1 f));
  }

  pub marking-ends : ¬ (IsFree seen (get_or labels place 0)) → ¬ (AreFree start labels)
  marking-ends n f = n (subst (AreFree seen) here (m.to f)).0

-- Before any label is marked, the labels from place 0 on are free just where all are.
pub marking-start : (start : List Bool) (labels : List ℕ) → Marking start labels 0 start
marking-start start labels = record { to = λ f. f; from = λ f. f }

free-end : (seen : List Bool) (labels : List ℕ) (place : ℕ) → length labels ≤ place → AreFree seen (drop place labels)
free-end seen [] zero h = tt
free-end seen [] (suc place) h = tt
free-end seen (l ∷ labels) zero h = absurd (omega arith)
free-end seen (l ∷ labels) (suc place) h = free-end seen labels place (omega arith)

-- If the labels from a place on are free just where all are, and the place is past the last label,
-- then all are free.
pub marking-over : (start : List Bool) (labels : List ℕ) (place : ℕ) (seen : List Bool) → length labels ≤ place → Marking start labels place seen → AreFree start labels
marking-over start labels place seen h m = m.from (free-end seen labels place h)
