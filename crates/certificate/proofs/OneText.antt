-- One text has one certificate, and at most one first bad line.
use Rattle.std.specs.Prelude.{codes, flat_map, nat_eq, if◌then◌else◌}
use Rattle.std.proofs.Common.{◌≡◌, ℕ, ◌<◌, true, List, [], ◌∷◌, ◌++◌, length, get_or, arith, refl, sym, ◌∙◌, ap, subst, append_assoc}
use Rattle.std.specs.List.{AllByRecursion}
use Rattle.std.proofs.lemmas.List.{append_cancel_left}
use Rattle.std.proofs.lemmas.Fmt.{decimal_injective}
use Rattle.hex.specs.Hex.{encode_lower}
use Rattle.bz_model.specs.declared.cell.Cell.{Cell}
use Rattle.class_system.specs.declared.draft.Mode.{Mode}
use Rattle.class_system.specs.declared.draft.Mode.TheVariants as mode
use Rattle.class_system.specs.declared.ids.ExprId.{ExprId}
use Rattle.size_window.specs.declared.ending.Straddle.{Straddle}
use Rattle.size_window.specs.declared.ending.Straddle.TheVariants as straddle
use Rattle.certificate.specs.declared.certificate.Certificate.{Certificate}
use Rattle.certificate.specs.declared.closing.ClosingWord.{ClosingWord}
use Rattle.certificate.specs.declared.closing.ClosingWord.TheVariants.{Done, TapeEnded, Undecided, TurnLimit, ReadFault}
use Rattle.certificate.specs.Patterns.{filled_from, places, is_apart}
use Rattle.bz_model.specs.Cell.{AreCells}
use Rattle.certificate.specs.Fields.{IsDigest, cell_field, spec_line}
use Rattle.certificate.specs.Lines.{Line, line_text, text_of, mode_line, object_line, open_line, end_line, end_pattern}
use Rattle.certificate.specs.Certificates.{IsCertificate, IsOpen, certificate_lines}
use Rattle.certificate.specs.Ranges.{IsSmall, CertificateInRange, OpenInRange}
use Rattle.certificate.specs.Reading.{IsTextOf, BeginsOne, HasNoFeed, with_line_feeds, IsFirstBad}
use Rattle.certificate.specs.Stages.{Stage, May, Way}
use Rattle.certificate.proofs.Filling.{one-line}
use Rattle.certificate.proofs.CellFields.{one-cell, no-digit-after, field-begins}
use Rattle.certificate.proofs.Feeds.{one-cut}
use Rattle.certificate.proofs.StageLines.{small1, small2, small3, small4, node-small, label-small, version-small, one-version, one-base, one-next, no-base-head, differ, object-head, open-head, end-head, line-no-feed}
use Rattle.certificate.proofs.ReadLines.{decodes}
use Rattle.certificate.proofs.CertificateWays.{way-of}
use Rattle.certificate.proofs.FirstBad.{whole-then}

-- ---- lines with one text are one

one-mode : (m n : Mode) → mode_line m ≡ mode_line n → m ≡ n
one-mode mode.Unlabelled mode.Unlabelled e = refl
one-mode mode.Labelled mode.Labelled e = refl
one-mode mode.Unlabelled mode.Labelled e = absurd (cc)
one-mode mode.Labelled mode.Unlabelled e = absurd (cc)

one-digest : (d k : List ℕ) → IsDigest d → IsDigest k → spec_line d ≡ spec_line k → d ≡ k
one-digest d k is are e =
    let left = (decodes (spec_line d) (encode_lower d) d refl is refl).1 in
    let right = (decodes (spec_line d) (encode_lower d) k refl are e).1 in
    cc (left, right)

one-cells : (cs ds : List Cell) → AreCells cs → AreCells ds → flat_map cell_field cs ≡ flat_map cell_field ds → cs ≡ ds
one-cells [] [] is are e = refl
one-cells [] (d ∷ ds) is are e = absurd (let f = field-begins d (flat_map cell_field ds) in let g : [] ≡ 32 ∷ f.0 = e ∙ f.1 in cc)
one-cells (c ∷ cs) [] is are e = absurd (let f = field-begins c (flat_map cell_field cs) in let g : 32 ∷ f.0 ≡ [] = sym f.1 ∙ e in cc)
one-cells (c ∷ cs) (d ∷ ds) is are e =
    let one = one-cell (flat_map cell_field (c ∷ cs)) c d (flat_map cell_field cs) (flat_map cell_field ds) is.0 are.0 (no-digit-after cs) (no-digit-after ds) refl e in
    let later = one-cells cs ds is.1 are.1 one.1 in
    ap (λ z. z ∷ cs) one.0 ∙ ap (λ zs. d ∷ zs) later

node-letter : (node : ExprId) (c : Cell) (lo hi : ℕ) → get_or (open_line (straddle.Node node c lo hi)) 10 0 ≡ 110
unfolding filled_from
node-letter node c lo hi = refl

label-letter : (m : ℕ) (c : Cell) → get_or (open_line (straddle.Label m c)) 10 0 ≡ 108
unfolding filled_from
label-letter m c = refl

one-open : (s t : Straddle) → IsOpen s → OpenInRange s → IsOpen t → OpenInRange t → open_line s ≡ open_line t → s ≡ t
one-open (straddle.Node node c lo hi) (straddle.Node other d low high) is r are q e =
    let o = one-line (codes "undecided node # cell #/# within # #") (node.0 ∷ c.k ∷ c.b ∷ lo ∷ hi ∷ []) (other.0 ∷ d.k ∷ d.b ∷ low ∷ high ∷ []) refl (node-small node.0 c.k c.b lo hi r.0 is.0 r.1 r.2) (node-small other.0 d.k d.b low high q.0 are.0 q.1 q.2) e in
    same (o 0 (omega arith)) (o 1 (omega arith)) (o 2 (omega arith)) (o 3 (omega arith)) (o 4 (omega arith))
  where
    same : node.0 ≡ other.0 → c.k ≡ d.k → c.b ≡ d.b → lo ≡ low → hi ≡ high → straddle.Node node c lo hi ≡ straddle.Node other d low high
    same n k b l h =
        let at_node : ℕ → Straddle = λ z. straddle.Node (record { 0 = z }) c lo hi in
        let at_k : ℕ → Straddle = λ z. straddle.Node other (record { k = z; b = c.b }) lo hi in
        let at_b : ℕ → Straddle = λ z. straddle.Node other (record { k = d.k; b = z }) lo hi in
        ap at_node n ∙ ap at_k k ∙ ap at_b b ∙ ap (λ z. straddle.Node other d z hi) l ∙ ap (λ z. straddle.Node other d low z) h
one-open (straddle.Label m c) (straddle.Label n d) is r are q e =
    let o = one-line (codes "undecided label # cell #/#") (m ∷ c.k ∷ c.b ∷ []) (n ∷ d.k ∷ d.b ∷ []) refl (label-small m c.k c.b r is.0) (label-small n d.k d.b q are.0) e in
    same (o 0 (omega arith)) (o 1 (omega arith)) (o 2 (omega arith))
  where
    same : m ≡ n → c.k ≡ d.k → c.b ≡ d.b → straddle.Label m c ≡ straddle.Label n d
    same l k b =
        let at_k : ℕ → Straddle = λ z. straddle.Label n (record { k = z; b = c.b }) in
        let at_b : ℕ → Straddle = λ z. straddle.Label n (record { k = d.k; b = z }) in
        ap (λ z. straddle.Label z c) l ∙ ap at_k k ∙ ap at_b b
one-open (straddle.Node node c lo hi) (straddle.Label n d) is r are q e = let f = node-letter node c lo hi in let g = label-letter n d in let h = ap (λ t. get_or t 10 0) e in absurd (omega arith)
one-open (straddle.Label m c) (straddle.Node other d low high) is r are q e = let f = label-letter m c in let g = node-letter other d low high in let h = ap (λ t. get_or t 10 0) e in absurd (omega arith)

-- The words of two last lines with one text: all letters but those of two of the words differ at one place.
second-letter : (word : ClosingWord) → ℕ
second-letter Done = 111
second-letter TapeEnded = 97
second-letter Undecided = 110
second-letter TurnLimit = 117
second-letter ReadFault = 101

second-at : (word : ClosingWord) (kept thrown bits turns : ℕ) → get_or (end_line word kept thrown bits turns) 5 0 ≡ second-letter word
unfolding filled_from second-letter
second-at Done kept thrown bits turns = refl
second-at TapeEnded kept thrown bits turns = refl
second-at Undecided kept thrown bits turns = refl
second-at TurnLimit kept thrown bits turns = refl
second-at ReadFault kept thrown bits turns = refl

word-of : ℕ → ClosingWord
word-of n = if nat_eq n 111 then Done else if nat_eq n 97 then TapeEnded else if nat_eq n 110 then Undecided else if nat_eq n 117 then TurnLimit else ReadFault

word-back : (word : ClosingWord) → word-of (second-letter word) ≡ word
unfolding word-of second-letter
word-back Done = refl
word-back TapeEnded = refl
word-back Undecided = refl
word-back TurnLimit = refl
word-back ReadFault = refl

one-end : (word other : ClosingWord) (k t b u l v c w : ℕ) → IsSmall k → IsSmall t → IsSmall b → IsSmall u → IsSmall l → IsSmall v → IsSmall c → IsSmall w → end_line word k t b u ≡ end_line other l v c w → Line.End word k t b u ≡ Line.End other l v c w
one-end word other k t b u l v c w hk ht hb hu hl hv hc hw e =
    let same : word ≡ other = sym (word-back word) ∙ ap word-of (sym (second-at word k t b u) ∙ ap (λ x. get_or x 5 0) e ∙ second-at other l v c w) ∙ word-back other in
    let o = one-line (end_pattern other) (k ∷ t ∷ b ∷ u ∷ []) (l ∷ v ∷ c ∷ w ∷ []) (apart other) (small4 k t b u hk ht hb hu) (small4 l v c w hl hv hc hw) (ap (λ z. end_line z k t b u) (sym same) ∙ e) in
    all same (at other o 0 (omega arith)) (at other o 1 (omega arith)) (at other o 2 (omega arith)) (at other o 3 (omega arith))
  where
    apart : (word : ClosingWord) → is_apart (end_pattern word) ≡ true
    apart Done = refl
    apart TapeEnded = refl
    apart Undecided = refl
    apart TurnLimit = refl
    apart ReadFault = refl

    four : (word : ClosingWord) → places (end_pattern word) ≡ 4
    four Done = refl
    four TapeEnded = refl
    four Undecided = refl
    four TurnLimit = refl
    four ReadFault = refl

    at : (word : ClosingWord) → ((i : ℕ) → i < places (end_pattern word) → get_or (k ∷ t ∷ b ∷ u ∷ []) i 0 ≡ get_or (l ∷ v ∷ c ∷ w ∷ []) i 0) → (i : ℕ) → i < 4 → get_or (k ∷ t ∷ b ∷ u ∷ []) i 0 ≡ get_or (l ∷ v ∷ c ∷ w ∷ []) i 0
    at word o i lt = o i (subst (λ n. i < n) (sym (four word)) lt)

    all : word ≡ other → k ≡ l → t ≡ v → b ≡ c → u ≡ w → Line.End word k t b u ≡ Line.End other l v c w
    all x p q r s = ap (λ z. Line.End z k t b u) x ∙ ap (λ z. Line.End other z t b u) p ∙ ap (λ z. Line.End other l z b u) q ∙ ap (λ z. Line.End other l v z u) r ∙ ap (λ z. Line.End other l v c z) s

-- Two lines that may follow the base and have one text are one.
one-of-object : {l k : Line} {next last : Stage} → May Stage.AtObject l next → May Stage.AtObject k last → line_text l ≡ line_text k → l ≡ k
one-of-object (May.object {number = n} {place = p} {size = s} a b c) (May.object {number = m} {place = q} {size = t} d f g) e =
    let o = one-line (codes "object # at # size #") (n ∷ p ∷ s ∷ []) (m ∷ q ∷ t ∷ []) refl (small3 n p s a b c) (small3 m q t d f g) e in
    let x : n ≡ m = o 0 (omega arith) in
    let y : p ≡ q = o 1 (omega arith) in
    let z : s ≡ t = o 2 (omega arith) in
    ap (λ v. Line.Object v p s) x ∙ ap (λ v. Line.Object m v s) y ∙ ap (λ v. Line.Object m q v) z
one-of-object (May.left_open {straddle = s} is r) (May.left_open {straddle = t} are q) e = ap Line.Open (one-open s t is r are q e)
one-of-object (May.end {word = word} {kept = k} {thrown = t} {bits = b} {turns = u} ne hk ht hb hu) (May.end {word = other} {kept = l} {thrown = v} {bits = c} {turns = w} me hl hv hc hw) e = one-end word other k t b u l v c w hk ht hb hu hl hv hc hw e
one-of-object (May.object {number = n} {place = p} {size = s} a b c) (May.left_open {straddle = t} is r) e = absurd (differ (object_line n p s) (open_line t) 111 117 (object-head n p s) (open-head t) (omega arith) e)
one-of-object (May.object {number = n} {place = p} {size = s} a b c) (May.end {word = word} {kept = k} {thrown = t} {bits = d} {turns = u} ne hk ht hb hu) e = absurd (differ (object_line n p s) (end_line word k t d u) 111 101 (object-head n p s) (end-head word k t d u) (omega arith) e)
one-of-object (May.left_open {straddle = t} is r) (May.object {number = n} {place = p} {size = s} a b c) e = absurd (differ (open_line t) (object_line n p s) 117 111 (open-head t) (object-head n p s) (omega arith) e)
one-of-object (May.left_open {straddle = s} is r) (May.end {word = word} {kept = k} {thrown = t} {bits = d} {turns = u} ne hk ht hb hu) e = absurd (differ (open_line s) (end_line word k t d u) 117 101 (open-head s) (end-head word k t d u) (omega arith) e)
one-of-object (May.end {word = word} {kept = k} {thrown = t} {bits = d} {turns = u} ne hk ht hb hu) (May.object {number = n} {place = p} {size = s} a b c) e = absurd (differ (end_line word k t d u) (object_line n p s) 101 111 (end-head word k t d u) (object-head n p s) (omega arith) e)
one-of-object (May.end {word = word} {kept = k} {thrown = t} {bits = d} {turns = u} ne hk ht hb hu) (May.left_open {straddle = s} is r) e = absurd (differ (end_line word k t d u) (open_line s) 101 117 (end-head word k t d u) (open-head s) (omega arith) e)

-- Two lines that may stand next and have one text are one.
one-of : {stage : Stage} {l k : Line} {next last : Stage} → May stage l next → May stage k last → line_text l ≡ line_text k → l ≡ k
one-of (May.version {v = v} h) (May.version {v = w} k) e = ap Line.Version (one-version v w (version-small v h) (version-small w k) e)
one-of (May.mode {m = m}) (May.mode {m = n}) e = ap Line.InMode (one-mode m n e)
one-of (May.digest {d = d} is) (May.digest {d = k} are) e = ap Line.Spec (one-digest d k is are e)
one-of (May.x {n = n} {d = d} a b) (May.x {n = m} {d = k} c f) e =
    let o = one-line (codes "x #/#") (n ∷ d ∷ []) (m ∷ k ∷ []) refl (small2 n d (let h = a.1 in omega arith) (let h = b.1 in omega arith)) (small2 m k (let h = c.1 in omega arith) (let h = f.1 in omega arith)) e in
    let x : n ≡ m = o 0 (omega arith) in
    let y : d ≡ k = o 1 (omega arith) in
    ap (λ v. Line.X v d) x ∙ ap (λ v. Line.X m v) y
one-of (May.fraction {f = a} h) (May.fraction {f = b} k) e = ap Line.Fraction (one-line (codes "fraction #") (a ∷ []) (b ∷ []) refl (small1 a (omega arith)) (small1 b (omega arith)) e 0 (omega arith))
one-of (May.window {min = a} {max = b} h k) (May.window {min = c} {max = d} m n) e =
    let o = one-line (codes "window # #") (a ∷ b ∷ []) (c ∷ d ∷ []) refl (small2 a b h k) (small2 c d m n) e in
    let x : a ≡ c = o 0 (omega arith) in
    let y : b ≡ d = o 1 (omega arith) in
    ap (λ v. Line.Window v b) x ∙ ap (λ v. Line.Window c v) y
one-of (May.base {name = n} {value = v} is missing h) (May.base {name = m} {value = w} are gone k) e =
    let o = one-base n m v w is are e in
    let y : v ≡ w = decimal_injective v w h k o.1 in
    ap (λ z. Line.Base z v) o.0 ∙ ap (λ z. Line.Base m z) y
one-of (May.base is missing h) (May.last_base m) e = absurd (no-base-head m (ap (λ t. get_or t 0 0) (sym e)))
one-of (May.last_base m) (May.base is missing h) e = absurd (no-base-head m (ap (λ t. get_or t 0 0) e))
one-of (May.last_base m) (May.last_base n) e = one-of-object m n e
one-of (May.object h k l) n e = one-of-object (May.object h k l) n e
one-of (May.left_open h r) n e = one-of-object (May.left_open h r) n e
one-of (May.end ne k t b u) n e = one-of-object (May.end ne k t b u) n e
one-of (May.text {text = s} h) (May.text {text = t} k) e = ap Line.Text (append_cancel_left (codes "text ") s t e)
one-of (May.cells {cells = cs} is) (May.cells {cells = ds} are) e = ap Line.Cells (one-cells cs ds is are (append_cancel_left (codes "cells") (flat_map cell_field cs) (flat_map cell_field ds) e))
one-of (May.undecided {kept = k} {thrown = t} {bits = b} {turns = u} hk ht hb hu) (May.undecided {kept = l} {thrown = v} {bits = c} {turns = w} hl hv hc hw) e = one-end Undecided Undecided k t b u l v c w hk ht hb hu hl hv hc hw e

-- Two whole ways with one text are one.
one-way : {from : Stage} {ls ms : List Line} → Way from ls Stage.Over → Way from ms Stage.Over → text_of ls ≡ text_of ms → ls ≡ ms
one-way Way.stay Way.stay e = refl
one-way Way.stay (Way.go m w) e = elim m [ ]
one-way (Way.go m w) Way.stay e = elim m [ ]
one-way (Way.go {line = l} {lines = ls} m v) (Way.go {line = k} {lines = ms} n w) e =
    let cut = one-cut (line_text l) (line_text k) (text_of ls) (text_of ms) (line-no-feed m) (line-no-feed n) (sym (whole-then l (text_of ls)) ∙ e ∙ whole-then k (text_of ms)) in
    let later = one-way v (subst (λ s. Way s ms Stage.Over) (sym (one-next m n cut.0)) w) cut.1 in
    ap (λ z. z ∷ ls) (one-of m n cut.0) ∙ ap (λ zs. k ∷ zs) later

-- Certificates with one text have the same lines.
pub same-lines : (a b : Certificate) → IsCertificate a → CertificateInRange a → IsCertificate b → CertificateInRange b → text_of (certificate_lines a) ≡ text_of (certificate_lines b) → certificate_lines a ≡ certificate_lines b
same-lines a b is r are q e = one-way (way-of a is r) (way-of b are q) e

-- ---- one first bad line

-- Where fewer lines stand before the rest, the next of the other's lines is the first of the rest.
later-line : (xs ys : List (List ℕ)) (p q : List ℕ) → AllByRecursion HasNoFeed xs → AllByRecursion HasNoFeed ys → with_line_feeds xs ++ p ≡ with_line_feeds ys ++ q → length xs < length ys → (here after more : List ℕ) × HasNoFeed here × (p ≡ here ++ 10 ∷ after) × (with_line_feeds ys ≡ (with_line_feeds xs ++ (here ++ 10 ∷ [])) ++ more)
later-line [] [] p q h k e lt = absurd (omega arith)
later-line [] (y ∷ ys) p q h k e lt = (y, with_line_feeds ys ++ q, with_line_feeds ys, k.0, e ∙ append_assoc (y ++ 10 ∷ []) (with_line_feeds ys) q ∙ append_assoc y (10 ∷ []) (with_line_feeds ys ++ q), refl)
later-line (x ∷ xs) [] p q h k e lt = absurd (omega arith)
later-line (x ∷ xs) (y ∷ ys) p q h k e lt =
    let cut = one-cut x y (with_line_feeds xs ++ p) (with_line_feeds ys ++ q) h.0 k.0 (sym (split x (with_line_feeds xs) p) ∙ e ∙ split y (with_line_feeds ys) q) in
    let l = later-line xs ys p q h.1 k.1 cut.1 (omega arith) in
    let front = with_line_feeds xs ++ (l.0 ++ 10 ∷ []) in
    (l.0, l.1, l.2, l.3, l.4, ap (λ z. (z ++ 10 ∷ []) ++ with_line_feeds ys) (sym cut.0) ∙ ap (λ t. (x ++ 10 ∷ []) ++ t) l.5 ∙ sym (append_assoc (x ++ 10 ∷ []) front l.2) ∙ ap (λ t. t ++ l.2) (sym (append_assoc (x ++ 10 ∷ []) (with_line_feeds xs) (l.0 ++ 10 ∷ []))))
  where
    split : (x e p : List ℕ) → ((x ++ 10 ∷ []) ++ e) ++ p ≡ x ++ 10 ∷ (e ++ p)
    split x e p = append_assoc (x ++ 10 ∷ []) e p ∙ append_assoc x (10 ∷ []) (e ++ p)

-- What begins a text that begins one begins one.
begins-less : (front more : List ℕ) → BeginsOne (front ++ more) → BeginsOne front
begins-less front more b = record { whole = b.whole; rest = more ++ b.rest; is = subst (λ t. IsTextOf t b.whole) (append_assoc front more b.rest) b.is }

not-later : (bytes : List ℕ) (m n : ℕ) → IsFirstBad bytes m → IsFirstBad bytes n → ¬ (m < n)
not-later bytes m n a b lt =
    let at = a.place in
    let too = b.place in
    let l = later-line a.before b.before a.rest b.rest a.lines b.lines (sym a.split ∙ b.split) (omega arith) in
    a.bad l.0 l.1 l.3 l.4 (begins-less (with_line_feeds a.before ++ (l.0 ++ 10 ∷ [])) l.2 (subst BeginsOne l.5 b.begins))

-- A text has at most one first bad line.
pub one-bad : (bytes : List ℕ) (m n : ℕ) → IsFirstBad bytes m → IsFirstBad bytes n → m ≡ n
one-bad bytes m n a b = let x = not-later bytes m n a b in let y = not-later bytes n m b a in omega arith
