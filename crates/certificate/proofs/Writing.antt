-- Lines put one after the other.
use Rattle.std.proofs.Common.{◌≡◌, ℕ, zero, suc, ◌+◌, ◌<◌, List, [], ◌∷◌, ◌++◌, length, take, get_or, arith, refl, sym, ◌∙◌, ap, append_assoc, append-nil, add-one, decimal, Some}
use Rattle.std.specs.Prelude.{slice_get, codes}
use Rattle.bz_model.specs.declared.cell.Cell.{Cell}
use Rattle.certificate.specs.declared.certificate.Header.{Header}
use Rattle.certificate.specs.Patterns.{filled, filled_from}
use Rattle.certificate.specs.Fields.{cell_field}
use Rattle.certificate.specs.Lines.{Line, text_of, whole_line}
use Rattle.certificate.specs.Certificates.{spec_lines, base_lines, lines_below_version, lines_above_window, lines_without_window}

-- The text of two lists of lines one after the other is the text of the first and then that of the
-- second.
pub text-append : (xs ys : List Line) → text_of (xs ++ ys) ≡ text_of xs ++ text_of ys
text-append [] ys = refl
text-append (x ∷ xs) ys = ap (λ t. whole_line x ++ t) (text-append xs ys) ∙ sym (append_assoc (whole_line x) (text_of xs) (text_of ys))

-- The lines of a header above its window follow one another.
pub above-joined : (h : Header) (t0 t1 t2 t3 t4 : List ℕ) → t1 ≡ t0 ++ whole_line (Line.InMode h.mode)
    → t2 ≡ t1 ++ text_of (spec_lines h.digest) → t3 ≡ t2 ++ whole_line (Line.X h.x.num h.x.den)
    → t4 ≡ t3 ++ whole_line (Line.Fraction h.fraction) → t4 ≡ t0 ++ text_of (lines_above_window h)
above-joined h t0 t1 t2 t3 t4 e1 e2 e3 e4 =
    let m = whole_line (Line.InMode h.mode) in
    let d = text_of (spec_lines h.digest) in
    let x = whole_line (Line.X h.x.num h.x.den) in
    let f = whole_line (Line.Fraction h.fraction) in
    let tail = text-append (spec_lines h.digest) (Line.X h.x.num h.x.den ∷ Line.Fraction h.fraction ∷ []) in
    joined t0 t1 t2 t3 t4 m d x f e1 e2 e3 e4 ∙ ap (λ t. t0 ++ (m ++ (d ++ (x ++ t)))) (sym (append-nil f)) ∙ ap (λ t. t0 ++ (m ++ t)) (sym tail)
  where
    joined : (t0 t1 t2 t3 t4 m d x f : List ℕ) → t1 ≡ t0 ++ m → t2 ≡ t1 ++ d → t3 ≡ t2 ++ x → t4 ≡ t3 ++ f → t4 ≡ t0 ++ (m ++ (d ++ (x ++ f)))
    joined t0 t1 t2 t3 t4 m d x f e1 e2 e3 e4 =
        e4 ∙ ap (λ t. t ++ f) e3 ∙ append_assoc t2 x f ∙ ap (λ t. t ++ (x ++ f)) e2
        ∙ append_assoc t1 d (x ++ f) ∙ ap (λ t. t ++ (d ++ (x ++ f))) e1 ∙ append_assoc t0 m (d ++ (x ++ f))

-- three texts after a text
three-after : (t0 t1 t2 t3 a b c : List ℕ) → t1 ≡ t0 ++ a → t2 ≡ t1 ++ b → t3 ≡ t2 ++ c → t3 ≡ t0 ++ (a ++ (b ++ c))
three-after t0 t1 t2 t3 a b c e1 e2 e3 = e3 ∙ ap (λ t. t ++ c) e2 ∙ append_assoc t1 b c ∙ ap (λ t. t ++ (b ++ c)) e1 ∙ append_assoc t0 a (b ++ c)

-- The lines of a header below its first follow one another.
pub below-joined : (h : Header) (t0 t1 t2 t3 : List ℕ) → t1 ≡ t0 ++ text_of (lines_above_window h)
    → t2 ≡ t1 ++ whole_line (Line.Window h.min h.max) → t3 ≡ t2 ++ text_of (base_lines h.names h.base)
    → t3 ≡ t0 ++ text_of (lines_below_version h)
below-joined h t0 t1 t2 t3 e1 e2 e3 =
    let above = lines_above_window h in
    let rest = Line.Window h.min h.max ∷ base_lines h.names h.base in
    three-after t0 t1 t2 t3 (text_of above) (whole_line (Line.Window h.min h.max)) (text_of (base_lines h.names h.base)) e1 e2 e3
    ∙ ap (λ t. t0 ++ t) (sym (text-append above rest))
    ∙ ap (λ ls. t0 ++ (whole_line (Line.InMode h.mode) ++ text_of ls)) (append_assoc (spec_lines h.digest) (Line.X h.x.num h.x.den ∷ Line.Fraction h.fraction ∷ []) rest)

-- The lines of a header without its window follow one another.
pub without-joined : (h : Header) (t0 t1 t2 t3 : List ℕ) → t0 ≡ [] → t1 ≡ t0 ++ whole_line (Line.Version h.version)
    → t2 ≡ t1 ++ text_of (lines_above_window h) → t3 ≡ t2 ++ text_of (base_lines h.names h.base)
    → t3 ≡ text_of (lines_without_window h)
without-joined h t0 t1 t2 t3 e0 e1 e2 e3 =
    let above = lines_above_window h in
    let base = base_lines h.names h.base in
    let v = whole_line (Line.Version h.version) in
    three-after t0 t1 t2 t3 v (text_of above) (text_of base) e1 e2 e3
    ∙ ap (λ t. t ++ (v ++ (text_of above ++ text_of base))) e0
    ∙ ap (λ t. v ++ t) (sym (text-append above base))

-- one class more
base-more : (names : List (List ℕ)) (base : List ℕ) (i : ℕ) (name : List ℕ) → slice_get names i ≡ Some name → i < length base → base_lines (take (suc i) names) (take (suc i) base) ≡ base_lines (take i names) (take i base) ++ Line.Base name (get_or base i 0) ∷ []
base-more [] base i name e lt = absurd (let f = e in cc)
base-more (n ∷ names) [] i name e lt = absurd (omega arith)
base-more (n ∷ names) (v ∷ base) zero name e lt = let same : n ≡ name = cc in ap (λ z. Line.Base z v ∷ []) same
base-more (n ∷ names) (v ∷ base) (suc i) name e lt = ap (λ t. Line.Base n v ∷ t) (base-more names base i name e (omega arith))

-- Writing the line of class i after the lines of the classes before it, piece by piece, gives the
-- lines of the base up to class i.
pub base-step : (names : List (List ℕ)) (base : List ℕ) (i : ℕ) (name start t t1 t2 t3 : List ℕ) → t ≡ start ++ text_of (base_lines (take i names) (take i base)) → slice_get names i ≡ Some name → i < length base → t1 ≡ t ++ codes "base " → t2 ≡ t1 ++ name → t3 ≡ t2 ++ (filled (codes " #") (get_or base i 0 ∷ []) ++ 10 ∷ []) → t3 ≡ start ++ text_of (base_lines (take (i + 1) names) (take (i + 1) base))
base-step names base i name start t t1 t2 t3 e at lt e1 e2 e3 =
    let field = filled (codes " #") (get_or base i 0 ∷ []) in
    let line = Line.Base name (get_or base i 0) in
    let before = base_lines (take i names) (take i base) in
    let whole : t3 ≡ t ++ whole_line line =
    e3 ∙ ap (λ u. u ++ (field ++ 10 ∷ [])) (e2 ∙ ap (λ u. u ++ name) e1) ∙ joined t (codes "base ") name field in
    whole ∙ ap (λ u. u ++ whole_line line) e ∙ append_assoc start (text_of before) (whole_line line)
    ∙ ap (λ u. start ++ (text_of before ++ u)) (sym (append-nil (whole_line line))) ∙ ap (λ u. start ++ u) (sym (text-append before (line ∷ [])))
    ∙ ap (λ u. start ++ text_of u) (sym (base-more names base i name at lt)) ∙ rw (add-one i) refl
  where
    joined : (t a n f : List ℕ) → ((t ++ a) ++ n) ++ (f ++ 10 ∷ []) ≡ t ++ ((a ++ (n ++ f)) ++ 10 ∷ [])
    joined t a n f = simp append_assoc

-- A space, a number, a slash and a number after a text are the field of a cell with these numbers.
pub cell-put : (c : Cell) (t t1 t2 t3 t4 : List ℕ) → t1 ≡ t ++ 32 ∷ [] → t2 ≡ t1 ++ decimal c.k → t3 ≡ t2 ++ 47 ∷ [] → t4 ≡ t3 ++ decimal c.b → t4 ≡ t ++ cell_field c
unfolding filled_from
cell-put c t t1 t2 t3 t4 e1 e2 e3 e4 =
    e4 ∙ ap (λ u. u ++ decimal c.b) (e3 ∙ ap (λ u. u ++ 47 ∷ []) (e2 ∙ ap (λ u. u ++ decimal c.k) e1)) ∙ joined t (decimal c.k) (decimal c.b)
    ∙ ap (λ u. t ++ 32 ∷ (decimal c.k ++ 47 ∷ u)) (sym (append-nil (decimal c.b)))
  where
    joined : (t k b : List ℕ) → (((t ++ 32 ∷ []) ++ k) ++ 47 ∷ []) ++ b ≡ t ++ 32 ∷ (k ++ 47 ∷ b)
    joined t k b = simp append_assoc
