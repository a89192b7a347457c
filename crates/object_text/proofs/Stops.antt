-- Where reading stops.
use Rattle.std.proofs.Common.{◌≡◌, ℕ, ◌+◌, ◌<◌, List, ◌++◌, length, get_or, take, drop, sym, ◌∙◌, ap}
use Rattle.std.proofs.lemmas.List.{take-append-drop, drop_more}
use Rattle.object_text.specs.declared.scan.Stop.{Stop}
use Rattle.object_text.specs.declared.scan.Stop.TheVariants as stop
use Rattle.object_text.specs.Scanning.{IsOther, DiffersFrom, StopsAt}

-- If P implies Q at each number of bytes left, then where a stop fulfils P it fulfils Q.
pub stops-weaker : (P Q : ℕ → Type 0) → ((left : ℕ) → P left → Q left) → (s : Stop) → StopsAt P s → StopsAt Q s
stops-weaker P Q f (stop.At left) h = f left h
stops-weaker P Q f stop.OutOfMemory h = tt

-- a word's byte at a place is missing
pub differs-at : (word text rest : List ℕ) (i left : ℕ) → i < length word → text ≡ take i word ++ rest → (left ≡ length rest) × IsOther (get_or word i 0) rest → DiffersFrom word text left
differs-at word text rest i left within e h = record {
  same = take i word;
  byte = get_or word i 0;
  others = drop (i + 1) word;
  back = rest;
  word_is = sym (take-append-drop i word) ∙ ap (λ w. take i word ++ w) (drop_more word i 0 within);
  text_is = e;
  count = sym h.0;
  differs = h.1;
}
