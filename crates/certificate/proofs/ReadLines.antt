-- Why a line is none of a kind.
use Rattle.std.specs.Prelude.{codes, IfNone, Option, Some, None, Ok}
use Rattle.std.proofs.Common.{◌≡◌, ◌≢◌, ℕ, ◌^◌, ◌<◌, Bool, true, false, List, [], ◌∷◌, ◌++◌, get_or, arith, refl, sym, ◌∙◌, ap, subst, ◌⊎◌, inl, inr}
use Rattle.bz_model.specs.Number.{IsPart}
use Rattle.bz_model.specs.Cell.{IsCell}
use Rattle.bz_model.specs.declared.cell.Cell.{Cell}
use Rattle.class_system.specs.declared.draft.Mode.{Mode}
use Rattle.class_system.specs.declared.draft.Mode.TheVariants as mode
use Rattle.class_system.specs.declared.ids.ExprId.{ExprId}
use Rattle.size_window.specs.declared.ending.Straddle.{Straddle}
use Rattle.size_window.specs.declared.ending.Straddle.TheVariants as straddle
use Rattle.certificate.specs.declared.closing.ClosingWord.{ClosingWord}
use Rattle.certificate.specs.declared.closing.ClosingWord.TheVariants.{Done, TapeEnded, Undecided, TurnLimit, ReadFault}
use Rattle.certificate.specs.Certificates.{IsOpen}
use Rattle.certificate.specs.Patterns.{filled, filled_from, places, is_apart, AreSmall}
use Rattle.certificate.specs.Lines.{version_line, mode_line, x_line, fraction_line, open_line, end_line}
use Rattle.certificate.specs.Ranges.{IsSmall, OpenInRange}
use Rattle.std.proofs.lemmas.List.{append_cancel_left}
use Rattle.hex.specs.Hex.{encode_lower, decode_sized}
use Rattle.hex.proofs.HexLemmas.{decode_sized-encode_lower}
use Rattle.certificate.specs.Fields.{IsDigest, spec_line}
use Rattle.certificate.proofs.Filling.{one-line}
use Rattle.certificate.proofs.StageLines.{no-numbers, small1, small2, version-small, node-small, label-small}

same : (p line ns ms : List ℕ) → is_apart p ≡ true → AreSmall ns × (line ≡ filled p ns) → AreSmall ms → line ≡ filled p ms → (k : ℕ) → k < places p → get_or ns k 0 ≡ get_or ms k 0
same p line ns ms a f s e = one-line p ns ms a f.0 s (sym f.1 ∙ e)

-- The number of a line is no version.
pub no-version : (line ns : List ℕ) → AreSmall ns × (line ≡ filled (codes "boltzmann #") ns) → get_or ns 0 0 ≢ 1 → get_or ns 0 0 ≢ 2 → (v : ℕ) → (v ≡ 1) ⊎ (v ≡ 2) → line ≢ version_line v
no-version line ns f a b v h e = cases h (same (codes "boltzmann #") line ns (v ∷ []) refl f (small1 v (version-small v h)) e 0 (omega arith))
  where
    cases : (v ≡ 1) ⊎ (v ≡ 2) → get_or ns 0 0 ≡ v → ⊥
    cases (inl is) e = a (e ∙ is)
    cases (inr is) e = b (e ∙ is)

-- The numbers of a line are no parts of x.
pub no-x : (line ns : List ℕ) → AreSmall ns × (line ≡ filled (codes "x #/#") ns) → (IsPart (get_or ns 0 0) → IsPart (get_or ns 1 0) → ⊥) → (num den : ℕ) → IsPart num → IsPart den → line ≢ x_line num den
no-x line ns f none n d is are e =
    let s = small2 n d (let h = is.1 in omega arith) (let h = are.1 in omega arith) in
    let o = same (codes "x #/#") line ns (n ∷ d ∷ []) refl f s e in
    none (subst IsPart (sym (o 0 (omega arith))) is) (subst IsPart (sym (o 1 (omega arith))) are)

-- The number of a line is above those of 32 bits.
pub no-fraction : (line ns : List ℕ) → AreSmall ns × (line ≡ filled (codes "fraction #") ns) → 4294967295 < get_or ns 0 0 → (bits : ℕ) → bits < 2 ^ 32 → line ≢ fraction_line bits
no-fraction line ns f high bits h e = let o : get_or ns 0 0 ≡ bits = same (codes "fraction #") line ns (bits ∷ []) refl f (small1 bits (omega arith)) e 0 (omega arith) in omega arith

-- A pattern without number signs is its own text.
pub unlabelled-text : (ns : List ℕ) → filled (codes "mode unlabelled") ns ≡ codes "mode unlabelled"
unfolding filled_from
unlabelled-text ns = refl

-- The line of the labelled mode has no number sign, so filled with any numbers it is its own text.
pub labelled-text : (ns : List ℕ) → filled (codes "mode labelled") ns ≡ codes "mode labelled"
unfolding filled_from
labelled-text ns = refl

-- A line that is that of neither mode is that of none.
pub no-mode : (line : List ℕ) → line ≢ codes "mode unlabelled" → line ≢ codes "mode labelled" → (m : Mode) → line ≢ mode_line m
no-mode line a b mode.Unlabelled e = a e
no-mode line a b mode.Labelled e = b e

-- A line is that of the mode where the pattern is said to fit then.
pub fits-unlabelled : (line : List ℕ) (b : Bool) → ((others : List ℕ) → AreSmall others → line ≡ filled (codes "mode unlabelled") others → b ≡ true) → b ≡ false → line ≢ codes "mode unlabelled"
fits-unlabelled line b h f e = let t : b ≡ true = h [] no-numbers (e ∙ sym (unlabelled-text [])) in absurd (cc)

-- Where a test that is true of the labelled mode's line with any numbers is false for a line, the
-- line isn't that of the labelled mode.
pub fits-labelled : (line : List ℕ) (b : Bool) → ((others : List ℕ) → AreSmall others → line ≡ filled (codes "mode labelled") others → b ≡ true) → b ≡ false → line ≢ codes "mode labelled"
fits-labelled line b h f e = let t : b ≡ true = h [] no-numbers (e ∙ sym (labelled-text [])) in absurd (cc)

-- The numbers of a line are none of a number left open at a node.
pub no-node : (line ns : List ℕ) → AreSmall ns × (line ≡ filled (codes "undecided node # cell #/# within # #") ns) → (get_or ns 0 0 < 2 ^ 32 → IsCell (get_or ns 1 0) (get_or ns 2 0) → get_or ns 2 0 ≡ 60 → ⊥) → (node : ExprId) (cell : Cell) (lo hi : ℕ) → IsOpen (straddle.Node node cell lo hi) → OpenInRange (straddle.Node node cell lo hi) → line ≢ open_line (straddle.Node node cell lo hi)
no-node line ns f none node cell lo hi is r e =
    let o = same (codes "undecided node # cell #/# within # #") line ns (node.0 ∷ cell.k ∷ cell.b ∷ lo ∷ hi ∷ []) refl f (node-small node.0 cell.k cell.b lo hi r.0 is.0 r.1 r.2) e in
    let n : get_or ns 0 0 ≡ node.0 = o 0 (omega arith) in
    let k : get_or ns 1 0 ≡ cell.k = o 1 (omega arith) in
    let b : get_or ns 2 0 ≡ cell.b = o 2 (omega arith) in
    let low = r.0 in
    none (omega arith) (subst (λ z. IsCell z (get_or ns 2 0)) (sym k) (subst (λ z. IsCell cell.k z) (sym b) is.0)) (b ∙ is.1)

-- The numbers of a line are none of a number left open for a label.
pub no-label : (line ns : List ℕ) → AreSmall ns × (line ≡ filled (codes "undecided label # cell #/#") ns) → (IsCell (get_or ns 1 0) (get_or ns 2 0) → get_or ns 2 0 ≡ 60 → ⊥) → (m : ℕ) (cell : Cell) → IsOpen (straddle.Label m cell) → OpenInRange (straddle.Label m cell) → line ≢ open_line (straddle.Label m cell)
no-label line ns f none m cell is r e =
    let o = same (codes "undecided label # cell #/#") line ns (m ∷ cell.k ∷ cell.b ∷ []) refl f (label-small m cell.k cell.b r is.0) e in
    let k : get_or ns 1 0 ≡ cell.k = o 1 (omega arith) in
    let b : get_or ns 2 0 ≡ cell.b = o 2 (omega arith) in
    none (subst (λ z. IsCell z (get_or ns 2 0)) (sym k) (subst (λ z. IsCell cell.k z) (sym b) is.0)) (b ∙ is.1)

-- A line that is none of a number left open at a node and none for a label is none.
pub no-open : (line : List ℕ) → ((node : ExprId) (cell : Cell) (lo hi : ℕ) → IsOpen (straddle.Node node cell lo hi) → OpenInRange (straddle.Node node cell lo hi) → line ≢ open_line (straddle.Node node cell lo hi)) → ((m : ℕ) (cell : Cell) → IsOpen (straddle.Label m cell) → OpenInRange (straddle.Label m cell) → line ≢ open_line (straddle.Label m cell)) → (s : Straddle) → IsOpen s → OpenInRange s → line ≢ open_line s
no-open line a b (straddle.Node node cell lo hi) is r e = a node cell lo hi is r e
no-open line a b (straddle.Label m cell) is r e = b m cell is r e

-- The same of what a search for a label gave.
pub no-open-left : (line : List ℕ) → ((node : ExprId) (cell : Cell) (lo hi : ℕ) → IsOpen (straddle.Node node cell lo hi) → OpenInRange (straddle.Node node cell lo hi) → line ≢ open_line (straddle.Node node cell lo hi)) → (o : Option Straddle) → IfNone o ((m : ℕ) (cell : Cell) → IsOpen (straddle.Label m cell) → OpenInRange (straddle.Label m cell) → line ≢ open_line (straddle.Label m cell)) → IfNone o ((s : Straddle) → IsOpen s → OpenInRange s → line ≢ open_line s)
no-open-left line a None b = λ s is r e. no-open line a b s is r e
no-open-left line a (Some s) b = tt

-- No last line with this word.
abbrev pub NoEnd : List ℕ → ClosingWord → Type 0
NoEnd line word = (kept thrown bits turns : ℕ) → IsSmall kept → IsSmall thrown → IsSmall bits → IsSmall turns → line ≢ end_line word kept thrown bits turns

-- A line that is no last line with any of the five words is none.
pub no-end : {A : Type 0} (line : List ℕ) (o : Option A) → NoEnd line Done → NoEnd line TapeEnded → NoEnd line Undecided → NoEnd line TurnLimit → IfNone o (NoEnd line ReadFault) → IfNone o ((word : ClosingWord) (kept thrown bits turns : ℕ) → IsSmall kept → IsSmall thrown → IsSmall bits → IsSmall turns → line ≢ end_line word kept thrown bits turns)
no-end line (Some x) a b c d e = tt
no-end line None a b c d e = λ word. each word
  where
    each : (word : ClosingWord) → NoEnd line word
    each Done = a
    each TapeEnded = b
    each Undecided = c
    each TurnLimit = d
    each ReadFault = e

-- The numbers of a filled pattern, one by one.
pub node-text : (ns : List ℕ) → filled (codes "undecided node # cell #/# within # #") ns ≡ filled (codes "undecided node # cell #/# within # #") (get_or ns 0 0 ∷ get_or ns 1 0 ∷ get_or ns 2 0 ∷ get_or ns 3 0 ∷ get_or ns 4 0 ∷ [])
unfolding filled_from
node-text ns = refl

-- The line of a label left undecided takes only the first three of the numbers it is filled with.
pub label-text : (ns : List ℕ) → filled (codes "undecided label # cell #/#") ns ≡ filled (codes "undecided label # cell #/#") (get_or ns 0 0 ∷ get_or ns 1 0 ∷ get_or ns 2 0 ∷ [])
unfolding filled_from
label-text ns = refl

-- A line of a digest decodes to it.
pub decodes : (line text digest : List ℕ) → line ≡ codes "spec " ++ text → IsDigest digest → line ≡ spec_line digest → (text ≡ encode_lower digest) × (decode_sized text 32 ≡ Ok digest)
decodes line text digest e is f =
    let same : text ≡ encode_lower digest = append_cancel_left (codes "spec ") text (encode_lower digest) (sym e ∙ f) in
    (same, ap (λ t. decode_sized t 32) same ∙ decode_sized-encode_lower digest 32 is.count is.each)
