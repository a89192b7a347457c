-- Certificates are the ways from the first line to the last.
use Rattle.std.specs.Prelude.{flat_map}
use Rattle.std.proofs.Common.{◌≡◌, ◌≢◌, ℕ, suc, ◌^◌, ◌<◌, List, [], ◌∷◌, ◌++◌, length, Option, Some, None, arith, refl, sym, ◌∙◌, ap, subst, append_assoc, append-nil, ◌⊎◌, inl, inr}
use Rattle.std.specs.List.{AllByRecursion}
use Rattle.bz_model.specs.Number.{IsPart}
use Rattle.class_system.specs.declared.draft.Mode.{Mode}
use Rattle.class_system.specs.Distinct.{AreDistinct}
use Rattle.class_system.specs.Words.{IsName}
use Rattle.size_window.specs.declared.ending.Straddle.{Straddle}
use Rattle.certificate.specs.declared.certificate.Header.{Header}
use Rattle.certificate.specs.declared.certificate.CertEntry.{CertEntry}
use Rattle.certificate.specs.declared.certificate.Certificate.{Certificate}
use Rattle.certificate.specs.declared.closing.Closing.{Closing}
use Rattle.certificate.specs.declared.closing.ClosingWord.{ClosingWord}
use Rattle.certificate.specs.declared.closing.ClosingWord.TheVariants.{Done, TapeEnded, Undecided, TurnLimit, ReadFault}
use Rattle.certificate.specs.Lines.{Line}
use Rattle.certificate.specs.Certificates.{IsCertificate, FitsVersion, FitsHeader, FitsEntry, FitsWord, FitsClosing, spec_lines, base_lines, header_lines, entry_lines, open_lines, closing_lines, certificate_lines}
use Rattle.certificate.specs.Ranges.{IsSmall, CertificateInRange, HeaderInRange, EntryInRange, MaybeOpenInRange, ClosingInRange}
use Rattle.certificate.specs.Stages.{Stage, May, Way, after_mode}
use Rattle.certificate.proofs.Distinct.{missing-before, distinct-more, none-distinct}

-- Ways one after the other are a way.
pub way-append : {from mid to : Stage} {ls ms : List Line} → Way from ls mid → Way mid ms to → Way from (ls ++ ms) to
way-append Way.stay w = w
way-append (Way.go m v) w = Way.go m (way-append v w)

-- A way behind the base is one from the base on.
pub from-base : {ls : List Line} (names : List (List ℕ)) → Way Stage.AtObject ls Stage.Over → Way (Stage.AtBase names) ls Stage.Over
from-base names (Way.go m w) = Way.go (May.last_base m) w

-- ---- from certificates to ways

digest-way : (v : ℕ) (d : Option (List ℕ)) → FitsVersion v d → Way (after_mode v) (spec_lines d) Stage.AtX
digest-way v None e = subst (λ k. Way (after_mode k) [] Stage.AtX) (sym e) Way.stay
digest-way v (Some d) (e, is) = subst (λ k. Way (after_mode k) (Line.Spec d ∷ []) Stage.AtX) (sym e) (Way.go (May.digest is) Way.stay)

version-fits : (v : ℕ) (d : Option (List ℕ)) → FitsVersion v d → (v ≡ 1) ⊎ (v ≡ 2)
version-fits v None e = inl e
version-fits v (Some d) (e, is) = inr e

bases-way : (before names : List (List ℕ)) (base : List ℕ) → length base ≡ length names → AllByRecursion IsName names → AreDistinct (before ++ names) → AllByRecursion IsSmall base → Way (Stage.AtBase before) (base_lines names base) (Stage.AtBase (before ++ names))
bases-way before [] [] e are d s = subst (λ n. Way (Stage.AtBase before) [] (Stage.AtBase n)) (sym (append-nil before)) Way.stay
bases-way before [] (v ∷ base) e are d s = absurd (omega arith)
bases-way before (n ∷ names) [] e are d s = absurd (omega arith)
bases-way before (n ∷ names) (v ∷ base) e are d s =
    let same : (before ++ n ∷ []) ++ names ≡ before ++ n ∷ names = append_assoc before (n ∷ []) names in
    Way.go (May.base are.0 (missing-before before names n d) s.0)
    (subst (λ t. Way (Stage.AtBase (before ++ n ∷ [])) (base_lines names base) (Stage.AtBase t)) same
    (bases-way (before ++ n ∷ []) names base (omega arith) are.1 (subst AreDistinct (sym same) d) s.1))

entries-way : (es : List CertEntry) → AllByRecursion FitsEntry es → AllByRecursion EntryInRange es → Way Stage.AtObject (flat_map entry_lines es) Stage.AtObject
entries-way [] f r = Way.stay
entries-way (e ∷ es) f r = Way.go (May.object r.0.number r.0.place r.0.size) (Way.go (May.text f.0.text) (Way.go (May.cells f.0.cells) (entries-way es f.1 r.1)))

word-way : (word : ClosingWord) (s : Option Straddle) (kept thrown bits turns : ℕ) → FitsWord word s → MaybeOpenInRange s → IsSmall kept → IsSmall thrown → IsSmall bits → IsSmall turns → Way Stage.AtObject (open_lines s ++ Line.End word kept thrown bits turns ∷ []) Stage.Over
word-way Undecided (Some s) kept thrown bits turns f r k t b u = Way.go (May.left_open f r) (Way.go (May.undecided k t b u) Way.stay)
word-way Undecided None kept thrown bits turns f r k t b u = absurd f
word-way Done None kept thrown bits turns f r k t b u = Way.go (May.end (λ e. cc) k t b u) Way.stay
word-way TapeEnded None kept thrown bits turns f r k t b u = Way.go (May.end (λ e. cc) k t b u) Way.stay
word-way TurnLimit None kept thrown bits turns f r k t b u = Way.go (May.end (λ e. cc) k t b u) Way.stay
word-way ReadFault None kept thrown bits turns f r k t b u = Way.go (May.end (λ e. cc) k t b u) Way.stay
word-way Done (Some s) kept thrown bits turns f r k t b u = absurd f
word-way TapeEnded (Some s) kept thrown bits turns f r k t b u = absurd f
word-way TurnLimit (Some s) kept thrown bits turns f r k t b u = absurd f
word-way ReadFault (Some s) kept thrown bits turns f r k t b u = absurd f

header-way : (h : Header) → FitsHeader h → IsPart h.x.num → IsPart h.x.den → AllByRecursion IsName h.names → AreDistinct h.names → HeaderInRange h → Way Stage.AtVersion (header_lines h) (Stage.AtBase h.names)
header-way h f n d are distinct r =
    Way.go (May.version (version-fits h.version h.digest f.version)) (Way.go May.mode (way-append (digest-way h.version h.digest f.version)
    (Way.go (May.x n d) (Way.go (May.fraction r.fraction) (Way.go (May.window r.min r.max) (bases-way [] h.names h.base f.one_each are distinct r.base))))))

-- A certificate's lines are a way from the first line to the last.
pub way-of : (c : Certificate) → IsCertificate c → CertificateInRange c → Way Stage.AtVersion (certificate_lines c) Stage.Over
way-of c is r =
    way-append (header-way c.header is.header is.num is.den is.names is.distinct r.header)
    (from-base c.header.names (way-append (entries-way c.entries is.entries r.entries)
    (word-way c.closing.word c.closing.straddle c.closing.kept c.closing.thrown c.closing.bits c.closing.turns is.closing r.closing.left_open r.closing.kept r.closing.thrown r.closing.bits r.closing.turns)))

-- ---- from ways to certificates

-- What a way shows of a closing.
record ClosingShown (c : Closing) : Type 0 where
  fits : FitsClosing c
  in_range : ClosingInRange c

end-fits : (word : ClosingWord) → word ≢ Undecided → FitsWord word None
end-fits Done ne = tt
end-fits TapeEnded ne = tt
end-fits Undecided ne = absurd (ne refl)
end-fits TurnLimit ne = tt
end-fits ReadFault ne = tt

closing-shown : (c : Closing) → Way Stage.AtObject (closing_lines c) Stage.Over → ClosingShown c
closing-shown c w = shown c.word c.straddle c.kept c.thrown c.bits c.turns w
  where
    shown : (word : ClosingWord) (s : Option Straddle) (kept thrown bits turns : ℕ) → Way Stage.AtObject (open_lines s ++ Line.End word kept thrown bits turns ∷ []) Stage.Over → ClosingShown (record { word = word; straddle = s; kept = kept; thrown = thrown; bits = bits; turns = turns })
    shown word None kept thrown bits turns (Way.go (May.end ne k t b u) w) = record { fits = end-fits word ne; in_range = record { left_open = tt; kept = k; thrown = t; bits = b; turns = u } }
    shown word (Some s) kept thrown bits turns (Way.go (May.left_open f r) (Way.go (May.undecided k t b u) w)) = record { fits = f; in_range = record { left_open = r; kept = k; thrown = t; bits = b; turns = u } }

-- What a way shows of the entries and the closing.
record TailShown (es : List CertEntry) (c : Closing) : Type 0 where
  entries : AllByRecursion FitsEntry es
  in_range : AllByRecursion EntryInRange es
  closing : ClosingShown c

tail-shown : (es : List CertEntry) (c : Closing) → Way Stage.AtObject (flat_map entry_lines es ++ closing_lines c) Stage.Over → TailShown es c
tail-shown [] c w = record { entries = tt; in_range = tt; closing = closing-shown c w }
tail-shown (e ∷ es) c (Way.go (May.object n p s) (Way.go (May.text t) (Way.go (May.cells k) w))) =
    let later = tail-shown es c w in
    record {
      entries = (record { text = t; cells = k }, later.entries);
      in_range = (record { number = n; place = p; size = s }, later.in_range);
      closing = later.closing;
    }

-- Behind the base a way goes on with no line of it.
behind-base : (names : List (List ℕ)) (es : List CertEntry) (c : Closing) → Way (Stage.AtBase names) (flat_map entry_lines es ++ closing_lines c) Stage.Over → Way Stage.AtObject (flat_map entry_lines es ++ closing_lines c) Stage.Over
behind-base names [] c w = behind c.straddle w
  where
    behind : (s : Option Straddle) → Way (Stage.AtBase names) (open_lines s ++ Line.End c.word c.kept c.thrown c.bits c.turns ∷ []) Stage.Over → Way Stage.AtObject (open_lines s ++ Line.End c.word c.kept c.thrown c.bits c.turns ∷ []) Stage.Over
    behind None (Way.go (May.last_base m) w) = Way.go m w
    behind (Some s) (Way.go (May.last_base m) w) = Way.go m w
behind-base names (e ∷ es) c (Way.go (May.last_base m) w) = Way.go m w

-- What a way shows of the base, and how it goes on.
record BasesShown (before names : List (List ℕ)) (base : List ℕ) (tail : List Line) : Type 0 where
  names_are : AllByRecursion IsName names
  distinct : AreDistinct (before ++ names)
  small : AllByRecursion IsSmall base
  rest : Way (Stage.AtBase (before ++ names)) tail Stage.Over

bases-shown : (before names : List (List ℕ)) (base : List ℕ) (tail : List Line) → length base ≡ length names → AreDistinct before → Way (Stage.AtBase before) (base_lines names base ++ tail) Stage.Over → BasesShown before names base tail
bases-shown before [] [] tail e d w = record {
  names_are = tt;
  distinct = subst AreDistinct (sym (append-nil before)) d;
  small = tt;
  rest = subst (λ n. Way (Stage.AtBase n) tail Stage.Over) (sym (append-nil before)) w;
}
bases-shown before [] (v ∷ base) tail e d w = absurd (omega arith)
bases-shown before (n ∷ names) [] tail e d w = absurd (omega arith)
bases-shown before (n ∷ names) (v ∷ base) tail e d (Way.go (May.last_base m) w) = elim m [ ]
bases-shown before (n ∷ names) (v ∷ base) tail e d (Way.go (May.base is missing h) w) =
    let later = bases-shown (before ++ n ∷ []) names base tail (omega arith) (distinct-more before n d missing) w in
    let same : (before ++ n ∷ []) ++ names ≡ before ++ n ∷ names = append_assoc before (n ∷ []) names in
    record {
      names_are = (is, later.names_are);
      distinct = subst AreDistinct same later.distinct;
      small = (h, later.small);
      rest = subst (λ k. Way (Stage.AtBase k) tail Stage.Over) same later.rest;
    }

-- What a way shows of the settings, and how it goes on.
record SettingsShown (v : ℕ) (digest : Option (List ℕ)) (num den fraction min max : ℕ) (tail : List Line) : Type 0 where
  version : FitsVersion v digest
  num_is : IsPart num
  den_is : IsPart den
  fraction_is : fraction < 2 ^ 32
  min_is : IsSmall min
  max_is : IsSmall max
  rest : Way (Stage.AtBase []) tail Stage.Over

settings-shown : (v : ℕ) (m : Mode) (digest : Option (List ℕ)) (num den fraction min max : ℕ) (tail : List Line) → Way Stage.AtVersion (Line.Version v ∷ Line.InMode m ∷ (spec_lines digest ++ (Line.X num den ∷ Line.Fraction fraction ∷ Line.Window min max ∷ tail))) Stage.Over → SettingsShown v digest num den fraction min max tail
settings-shown v m digest num den fraction min max tail (Way.go (May.version h) (Way.go May.mode w)) = by_version digest h w
  where
    from_x : (d : Option (List ℕ)) → FitsVersion v d → Way Stage.AtX (Line.X num den ∷ Line.Fraction fraction ∷ Line.Window min max ∷ tail) Stage.Over → SettingsShown v d num den fraction min max tail
    from_x d f (Way.go (May.x n k) (Way.go (May.fraction g) (Way.go (May.window a b) w))) = record { version = f; num_is = n; den_is = k; fraction_is = g; min_is = a; max_is = b; rest = w }

    first : Way Stage.AtX (spec_lines None ++ (Line.X num den ∷ Line.Fraction fraction ∷ Line.Window min max ∷ tail)) Stage.Over → v ≡ 1 → SettingsShown v None num den fraction min max tail
    first w e = from_x None e w

    second : (d : List ℕ) → Way Stage.AtDigest (Line.Spec d ∷ Line.X num den ∷ Line.Fraction fraction ∷ Line.Window min max ∷ tail) Stage.Over → v ≡ 2 → SettingsShown v (Some d) num den fraction min max tail
    second d (Way.go (May.digest is) w) e = from_x (Some d) (e, is) w

    no_first : (d : List ℕ) → Way Stage.AtX (Line.Spec d ∷ Line.X num den ∷ Line.Fraction fraction ∷ Line.Window min max ∷ tail) Stage.Over → ⊥
    no_first d (Way.go n w) = elim n [ ]

    no_second : Way Stage.AtDigest (Line.X num den ∷ Line.Fraction fraction ∷ Line.Window min max ∷ tail) Stage.Over → ⊥
    no_second (Way.go n w) = elim n [ ]

    by_version : (d : Option (List ℕ)) → (v ≡ 1) ⊎ (v ≡ 2) → Way (after_mode v) (spec_lines d ++ (Line.X num den ∷ Line.Fraction fraction ∷ Line.Window min max ∷ tail)) Stage.Over → SettingsShown v d num den fraction min max tail
    by_version None (inl e) w = first (subst (λ k. Way (after_mode k) (Line.X num den ∷ Line.Fraction fraction ∷ Line.Window min max ∷ tail) Stage.Over) e w) e
    by_version None (inr e) w = absurd (no_second (subst (λ k. Way (after_mode k) (Line.X num den ∷ Line.Fraction fraction ∷ Line.Window min max ∷ tail) Stage.Over) e w))
    by_version (Some d) (inl e) w = absurd (no_first d (subst (λ k. Way (after_mode k) (Line.Spec d ∷ Line.X num den ∷ Line.Fraction fraction ∷ Line.Window min max ∷ tail) Stage.Over) e w))
    by_version (Some d) (inr e) w = second d (subst (λ k. Way (after_mode k) (Line.Spec d ∷ Line.X num den ∷ Line.Fraction fraction ∷ Line.Window min max ∷ tail) Stage.Over) e w) e

-- Where its lines are a way from the first line to the last, and it has one value of the base for each name, it is a certificate in range.
pub of-way : (c : Certificate) → length c.header.base ≡ length c.header.names → Way Stage.AtVersion (certificate_lines c) Stage.Over → IsCertificate c × CertificateInRange c
of-way c one w =
    let h = c.header in
    let tail = flat_map entry_lines c.entries ++ closing_lines c.closing in
    let regrouped : certificate_lines c ≡ Line.Version h.version ∷ Line.InMode h.mode ∷ (spec_lines h.digest ++ (Line.X h.x.num h.x.den ∷ Line.Fraction h.fraction ∷ Line.Window h.min h.max ∷ (base_lines h.names h.base ++ tail))) =
    ap (λ t. Line.Version h.version ∷ Line.InMode h.mode ∷ t) (append_assoc (spec_lines h.digest) (Line.X h.x.num h.x.den ∷ Line.Fraction h.fraction ∷ Line.Window h.min h.max ∷ base_lines h.names h.base) tail) in
    let s = settings-shown h.version h.mode h.digest h.x.num h.x.den h.fraction h.min h.max (base_lines h.names h.base ++ tail) (subst (λ ls. Way Stage.AtVersion ls Stage.Over) regrouped w) in
    let b = bases-shown [] h.names h.base tail one none-distinct s.rest in
    let t = tail-shown c.entries c.closing (behind-base h.names c.entries c.closing b.rest) in (
      record {
        header = record { version = s.version; one_each = one };
        num = s.num_is;
        den = s.den_is;
        names = b.names_are;
        distinct = b.distinct;
        entries = t.entries;
        closing = t.closing.fits;
      },
      record {
        header = record { fraction = s.fraction_is; min = s.min_is; max = s.max_is; base = b.small };
        entries = t.in_range;
        closing = t.closing.in_range;
      },
    )

-- The entries and the closing that a way's lines are those of.
record Tail (ls : List Line) : Type 0 where
  entries : List CertEntry
  closing : Closing
  lines : flat_map entry_lines entries ++ closing_lines closing ≡ ls

tail-of : {ls : List Line} → Way Stage.AtObject ls Stage.Over → Tail ls
tail-of (Way.go (May.object {number = n} {place = p} {size = s} a b c) (Way.go (May.text {text = t} d) (Way.go (May.cells {cells = k} f) w))) =
    let later = tail-of w in
    record {
      entries = record { number = n; place = p; size = s; text = t; cells = record { items = k; spare = 0 } } ∷ later.entries;
      closing = later.closing;
      lines = ap (λ ls. Line.Object n p s ∷ Line.Text t ∷ Line.Cells k ∷ ls) later.lines;
    }
tail-of (Way.go (May.left_open {straddle = s} f r) (Way.go (May.undecided {kept = k} {thrown = t} {bits = b} {turns = u} a c d e) Way.stay)) = record {
  entries = [];
  closing = record { word = Undecided; straddle = Some s; kept = k; thrown = t; bits = b; turns = u };
  lines = refl;
}
tail-of (Way.go (May.left_open f r) (Way.go (May.undecided a c d e) (Way.go m w))) = elim m [ ]
tail-of (Way.go (May.end {word = word} {kept = k} {thrown = t} {bits = b} {turns = u} ne a c d e) Way.stay) = record {
  entries = [];
  closing = record { word = word; straddle = None; kept = k; thrown = t; bits = b; turns = u };
  lines = refl;
}
tail-of (Way.go (May.end ne a c d e) (Way.go m w)) = elim m [ ]

-- The base and what follows it that a way's lines are those of.
record Bases (ls : List Line) : Type 0 where
  names : List (List ℕ)
  base : List ℕ
  one : length base ≡ length names
  tail : List Line
  rest : Tail tail
  lines : base_lines names base ++ tail ≡ ls

bases-of : {before : List (List ℕ)} {ls : List Line} → Way (Stage.AtBase before) ls Stage.Over → Bases ls
bases-of (Way.go {line = l} {lines = ls} (May.last_base m) w) = record { names = []; base = []; one = refl; tail = l ∷ ls; rest = tail-of (Way.go m w); lines = refl }
bases-of (Way.go (May.base {name = n} {value = v} is missing h) w) =
    let later = bases-of w in
    record { names = n ∷ later.names; base = v ∷ later.base; one = ap suc later.one; tail = later.tail; rest = later.rest; lines = ap (λ ls. Line.Base n v ∷ ls) later.lines }

-- A certificate whose lines are these, with one value of the base for each name.
record Whole (ls : List Line) : Type 0 where
  certificate : Certificate
  one : length certificate.header.base ≡ length certificate.header.names
  lines : certificate_lines certificate ≡ ls

whole-of : {ls : List Line} (v : ℕ) (m : Mode) (digest : Option (List ℕ)) → Way Stage.AtX ls Stage.Over → Whole (Line.Version v ∷ Line.InMode m ∷ (spec_lines digest ++ ls))
whole-of v m digest (Way.go (May.x {n = n} {d = d} a b) (Way.go (May.fraction {f = f} g) (Way.go {lines = ls} (May.window {min = min} {max = max} h k) w))) =
    let s = bases-of w in
    record {
      certificate = record {
        header = record { version = v; mode = m; digest = digest; x = record { num = n; den = d; num_in_limits = a; den_in_limits = b }; fraction = f; min = min; max = max; names = s.names; base = s.base };
        entries = s.rest.entries;
        closing = s.rest.closing;
      };
      one = s.one;
      lines = ap (λ t. Line.Version v ∷ Line.InMode m ∷ t)
          (append_assoc (spec_lines digest) (Line.X n d ∷ Line.Fraction f ∷ Line.Window min max ∷ base_lines s.names s.base) (flat_map entry_lines s.rest.entries ++ closing_lines s.rest.closing)
          ∙ ap (λ t. spec_lines digest ++ (Line.X n d ∷ Line.Fraction f ∷ Line.Window min max ∷ t)) (ap (λ t. base_lines s.names s.base ++ t) s.rest.lines ∙ s.lines));
    }

lines-of : {ls : List Line} → Way Stage.AtVersion ls Stage.Over → Whole ls
lines-of (Way.go (May.version {v = v} h) (Way.go {lines = ls} (May.mode {m = m}) w)) = by_version h w
  where
    second : {ms : List Line} → Way Stage.AtDigest ms Stage.Over → Whole (Line.Version v ∷ Line.InMode m ∷ ms)
    second (Way.go (May.digest {d = d} is) w) = whole-of v m (Some d) w

    by_version : (v ≡ 1) ⊎ (v ≡ 2) → Way (after_mode v) ls Stage.Over → Whole (Line.Version v ∷ Line.InMode m ∷ ls)
    by_version (inl e) w = whole-of v m None (subst (λ k. Way (after_mode k) ls Stage.Over) e w)
    by_version (inr e) w = second (subst (λ k. Way (after_mode k) ls Stage.Over) e w)

-- The lines of each way from the first line to the last are those of a certificate.
pub certificate-of : {ls : List Line} → Way Stage.AtVersion ls Stage.Over → (c : Certificate) × IsCertificate c × CertificateInRange c × (certificate_lines c ≡ ls)
certificate-of w =
    let c = lines-of w in
    let is = of-way c.certificate c.one (subst (λ ls. Way Stage.AtVersion ls Stage.Over) (sym c.lines) w) in
    (c.certificate, is.0, is.1, c.lines)
