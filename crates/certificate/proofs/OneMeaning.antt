-- Certificates with one text say the same.
use Rattle.std.specs.Prelude.{flat_map, Option, Some, None}
use Rattle.std.proofs.Common.{◌≡◌, ℕ, List, [], ◌∷◌, ◌++◌, length, refl, sym, ◌∙◌, ap, subst, append_assoc}
use Rattle.std.proofs.Math.Bridge.{le_prop}
use Rattle.bz_model.specs.declared.fraction.Fraction.{Fraction}
use Rattle.bz_model.specs.Number.{IsPart}
use Rattle.class_system.specs.declared.draft.Mode.{Mode}
use Rattle.size_window.specs.declared.ending.Straddle.{Straddle}
use Rattle.certificate.specs.declared.certificate.CertEntry.{CertEntry}
use Rattle.certificate.specs.declared.certificate.Certificate.{Certificate}
use Rattle.certificate.specs.declared.certificate.Header.{Header}
use Rattle.certificate.specs.declared.closing.Closing.{Closing}
use Rattle.certificate.specs.declared.closing.ClosingWord.{ClosingWord}
use Rattle.certificate.specs.Lines.{Line}
use Rattle.certificate.specs.Certificates.{IsCertificate, spec_lines, base_lines, header_lines, entry_lines, open_lines, closing_lines, certificate_lines}
use Rattle.certificate.specs.Reading.{IsTextOf}
use Rattle.certificate.specs.Alike.{SayTheSame, AreAlike}
use Rattle.certificate.proofs.OneText.{same-lines}

-- the first of two lists that are the same
first-same : (l k : Line) (ls ks : List Line) → l ∷ ls ≡ k ∷ ks → (l ≡ k) × (ls ≡ ks)
first-same l k ls ks e = (cc, cc)

three-same : (a b c d f g : Line) (ls ks : List Line) → a ∷ b ∷ c ∷ ls ≡ d ∷ f ∷ g ∷ ks → (a ≡ d) × (b ≡ f) × (c ≡ g) × (ls ≡ ks)
three-same a b c d f g ls ks e = (cc, cc, cc, cc)

-- ---- the closing

end-same : (word other : ClosingWord) (k t b u l v c w : ℕ) → Line.End word k t b u ≡ Line.End other l v c w → (word ≡ other) × (k ≡ l) × (t ≡ v) × (b ≡ c) × (u ≡ w)
end-same word other k t b u l v c w e = (cc, cc, cc, cc, cc)

closing-lines-same : (s t : Option Straddle) (l k : Line) → open_lines s ++ l ∷ [] ≡ open_lines t ++ k ∷ [] → ((x : Straddle) → l ≡ Line.Open x → ⊥) → ((x : Straddle) → k ≡ Line.Open x → ⊥) → (s ≡ t) × (l ≡ k)
closing-lines-same None None l k e n m = (refl, (first-same l k [] [] e).0)
closing-lines-same (Some x) (Some y) l k e n m =
    let f = first-same (Line.Open x) (Line.Open y) (l ∷ []) (k ∷ []) e in
    let o : Line.Open x ≡ Line.Open y = f.0 in
    let same : x ≡ y = cc in
    (ap Some same, (first-same l k [] [] f.1).0)
closing-lines-same None (Some y) l k e n m = absurd (n y (first-same l (Line.Open y) [] (k ∷ []) e).0)
closing-lines-same (Some x) None l k e n m = absurd (m x (sym (first-same (Line.Open x) k (l ∷ []) [] e).0))

make-closing : ClosingWord → Option Straddle → (kept thrown bits turns : ℕ) → Closing
make-closing word straddle kept thrown bits turns = record { word = word; straddle = straddle; kept = kept; thrown = thrown; bits = bits; turns = turns }

made-closing : (c : Closing) → make-closing c.word c.straddle c.kept c.thrown c.bits c.turns ≡ c
unfolding make-closing
made-closing c = refl

same-closing : (c d : Closing) → closing_lines c ≡ closing_lines d → c ≡ d
same-closing c d e =
    let l = closing-lines-same c.straddle d.straddle (Line.End c.word c.kept c.thrown c.bits c.turns) (Line.End d.word d.kept d.thrown d.bits d.turns) e (λ x h. absurd (cc)) (λ x h. absurd (cc)) in
    let f = end-same c.word d.word c.kept c.thrown c.bits c.turns d.kept d.thrown d.bits d.turns l.1 in
    let straddle : c.straddle ≡ d.straddle = l.0 in
    let word : c.word ≡ d.word = f.0 in
    let kept : c.kept ≡ d.kept = f.1 in
    let thrown : c.thrown ≡ d.thrown = f.2 in
    let bits : c.bits ≡ d.bits = f.3 in
    let turns : c.turns ≡ d.turns = f.4 in
    let whole : make-closing c.word c.straddle c.kept c.thrown c.bits c.turns ≡ make-closing d.word d.straddle d.kept d.thrown d.bits d.turns = cc in
    sym (made-closing c) ∙ whole ∙ made-closing d

-- ---- the entries

object-same : (n p s m q t : ℕ) → Line.Object n p s ≡ Line.Object m q t → (n ≡ m) × (p ≡ q) × (s ≡ t)
object-same n p s m q t e = (cc, cc, cc)

-- no closing begins with an object
not-object : (s : Option Straddle) (l : Line) (ls : List Line) (n p z : ℕ) → ((n p z : ℕ) → l ≡ Line.Object n p z → ⊥) → open_lines s ++ l ∷ [] ≡ Line.Object n p z ∷ ls → ⊥
not-object None l ls n p z other e = other n p z (first-same l (Line.Object n p z) [] ls e).0
not-object (Some x) l ls n p z other e =
    let f : Line.Open x ≡ Line.Object n p z = (first-same (Line.Open x) (Line.Object n p z) (l ∷ []) ls e).0 in
    cc

same-rest : (es fs : List CertEntry) (c d : Closing) → flat_map entry_lines es ++ closing_lines c ≡ flat_map entry_lines fs ++ closing_lines d → SayTheSame es fs × (c ≡ d)
same-rest [] [] c d e = (tt, same-closing c d e)
same-rest [] (f ∷ fs) c d e = absurd (not-object c.straddle (Line.End c.word c.kept c.thrown c.bits c.turns) (Line.Text f.text ∷ Line.Cells f.cells.items ∷ (flat_map entry_lines fs ++ closing_lines d)) f.number f.place f.size (λ n p z h. absurd (cc)) e)
same-rest (e ∷ es) [] c d q = absurd (not-object d.straddle (Line.End d.word d.kept d.thrown d.bits d.turns) (Line.Text e.text ∷ Line.Cells e.cells.items ∷ (flat_map entry_lines es ++ closing_lines c)) e.number e.place e.size (λ n p z h. absurd (cc)) (sym q))
same-rest (e ∷ es) (f ∷ fs) c d q =
    let t = three-same (Line.Object e.number e.place e.size) (Line.Text e.text) (Line.Cells e.cells.items) (Line.Object f.number f.place f.size) (Line.Text f.text) (Line.Cells f.cells.items) (flat_map entry_lines es ++ closing_lines c) (flat_map entry_lines fs ++ closing_lines d) q in
    let o = object-same e.number e.place e.size f.number f.place f.size t.0 in
    let text_too : Line.Text e.text ≡ Line.Text f.text = t.1 in
    let cells_too : Line.Cells e.cells.items ≡ Line.Cells f.cells.items = t.2 in
    let later = same-rest es fs c d t.3 in
    ((record { number = o.0; place = o.1; size = o.2; text = cc; cells = cc }, later.0), later.1)

-- ---- the header

names-in : List Line → List (List ℕ)
names-in (Line.Base name value ∷ ls) = name ∷ names-in ls
names-in ls = []

values-in : List Line → List ℕ
values-in (Line.Base name value ∷ ls) = value ∷ values-in ls
values-in ls = []

behind-base : List Line → List Line
behind-base (Line.Base name value ∷ ls) = behind-base ls
behind-base ls = ls

-- No line of a base comes first.
record HasNoBaseFirst (ls : List Line) : Type 0 where
  names : names-in ls ≡ []
  values : values-in ls ≡ []
  behind : behind-base ls ≡ ls

rest-no-base : (es : List CertEntry) (c : Closing) → HasNoBaseFirst (flat_map entry_lines es ++ closing_lines c)
unfolding names-in values-in behind-base
rest-no-base (e ∷ es) c = record { names = refl; values = refl; behind = refl }
rest-no-base [] c = closing-no-base c.straddle c.word c.kept c.thrown c.bits c.turns
  where
    closing-no-base : (s : Option Straddle) (word : ClosingWord) (k t b u : ℕ) → HasNoBaseFirst (open_lines s ++ Line.End word k t b u ∷ [])
    closing-no-base None word k t b u = record { names = refl; values = refl; behind = refl }
    closing-no-base (Some x) word k t b u = record { names = refl; values = refl; behind = refl }

base-parts : (names : List (List ℕ)) (base : List ℕ) (rest : List Line) → length base ≡ length names → HasNoBaseFirst rest → (names-in (base_lines names base ++ rest) ≡ names) × (values-in (base_lines names base ++ rest) ≡ base) × (behind-base (base_lines names base ++ rest) ≡ rest)
unfolding names-in values-in behind-base
base-parts [] [] rest e lacks = (lacks.names, lacks.values, lacks.behind)
base-parts [] (v ∷ base) rest e lacks = absurd (cc)
base-parts (n ∷ names) [] rest e lacks = absurd (cc)
base-parts (n ∷ names) (v ∷ base) rest e lacks =
    let later = base-parts names base rest (let h : length (v ∷ base) ≡ length (n ∷ names) = e in cc) lacks in
    (ap (λ ns. n ∷ ns) later.0, ap (λ vs. v ∷ vs) later.1, later.2)

same-base : (ns ms : List (List ℕ)) (vs ws : List ℕ) (rest more : List Line) → length vs ≡ length ns → length ws ≡ length ms → HasNoBaseFirst rest → HasNoBaseFirst more → base_lines ns vs ++ rest ≡ base_lines ms ws ++ more → (ns ≡ ms) × (vs ≡ ws) × (rest ≡ more)
same-base ns ms vs ws rest more l k h i e =
    let a = base-parts ns vs rest l h in
    let b = base-parts ms ws more k i in
    (sym a.0 ∙ ap names-in e ∙ b.0, sym a.1 ∙ ap values-in e ∙ b.1, sym a.2 ∙ ap behind-base e ∙ b.2)

limits-same : (n d f min max m k g low high : ℕ) (ls ks : List Line) → Line.X n d ∷ Line.Fraction f ∷ Line.Window min max ∷ ls ≡ Line.X m k ∷ Line.Fraction g ∷ Line.Window low high ∷ ks → (n ≡ m) × (d ≡ k) × (f ≡ g) × (min ≡ low) × (max ≡ high) × (ls ≡ ks)
limits-same n d f min max m k g low high ls ks e =
    let t = three-same (Line.X n d) (Line.Fraction f) (Line.Window min max) (Line.X m k) (Line.Fraction g) (Line.Window low high) ls ks e in
    let x : Line.X n d ≡ Line.X m k = t.0 in
    let y : Line.Fraction f ≡ Line.Fraction g = t.1 in
    let z : Line.Window min max ≡ Line.Window low high = t.2 in
    (cc, cc, cc, cc, cc, t.3)

-- The digest's line is there in both or in none.
digest-same : (s t : Option (List ℕ)) (n d m k : ℕ) (ls ks : List Line) → spec_lines s ++ Line.X n d ∷ ls ≡ spec_lines t ++ Line.X m k ∷ ks → (s ≡ t) × (Line.X n d ∷ ls ≡ Line.X m k ∷ ks)
digest-same None None n d m k ls ks e = (refl, e)
digest-same (Some a) (Some b) n d m k ls ks e =
    let f = first-same (Line.Spec a) (Line.Spec b) (Line.X n d ∷ ls) (Line.X m k ∷ ks) e in
    let o : Line.Spec a ≡ Line.Spec b = f.0 in
    let same : a ≡ b = cc in
    (ap Some same, f.1)
digest-same None (Some b) n d m k ls ks e = let f : Line.X n d ≡ Line.Spec b = (first-same (Line.X n d) (Line.Spec b) ls (Line.X m k ∷ ks) e).0 in absurd (cc)
digest-same (Some a) None n d m k ls ks e = let f : Line.Spec a ≡ Line.X m k = (first-same (Line.Spec a) (Line.X m k) (Line.X n d ∷ ls) ks e).0 in absurd (cc)

-- a fraction is known by its parts
part-prop : (n : ℕ) → IsProp (IsPart n)
part-prop n = hlevel (le_prop)

abbrev fraction-of : (num den : ℕ) → IsPart num → IsPart den → Fraction
fraction-of num den num_in_limits den_in_limits = record { num = num; den = den; num_in_limits = num_in_limits; den_in_limits = den_in_limits }

same-num : (n m den : ℕ) → n ≡ m → (a : IsPart n) (b : IsPart m) (c : IsPart den) → fraction-of n den a c ≡ fraction-of m den b c
same-num n m den e a b c = subst (λ k. (h : IsPart k) → fraction-of n den a c ≡ fraction-of k den h c) e (λ h. ap (λ t. fraction-of n den t c) (part-prop n a h)) b

same-den : (num n m : ℕ) → n ≡ m → (a : IsPart num) (b : IsPart n) (c : IsPart m) → fraction-of num n a b ≡ fraction-of num m a c
same-den num n m e a b c = subst (λ k. (h : IsPart k) → fraction-of num n a b ≡ fraction-of num k a h) e (λ h. ap (λ t. fraction-of num n a t) (part-prop n b h)) c

same-fraction : (x y : Fraction) → x.num ≡ y.num → x.den ≡ y.den → x ≡ y
same-fraction x y num den = same-num x.num y.num x.den num x.num_in_limits y.num_in_limits x.den_in_limits ∙ same-den y.num x.den y.den den y.num_in_limits x.den_in_limits y.den_in_limits

make-header : (version : ℕ) → Mode → Option (List ℕ) → Fraction → (fraction min max : ℕ) → List (List ℕ) → List ℕ → Header
make-header version mode digest x fraction min max names base = record { version = version; mode = mode; digest = digest; x = x; fraction = fraction; min = min; max = max; names = names; base = base }

made-header : (h : Header) → make-header h.version h.mode h.digest h.x h.fraction h.min h.max h.names h.base ≡ h
unfolding make-header
made-header h = refl

-- the lines of a header with those that follow it
header-then : (h : Header) (rest : List Line) → header_lines h ++ rest ≡ Line.Version h.version ∷ Line.InMode h.mode ∷ (spec_lines h.digest ++ (Line.X h.x.num h.x.den ∷ Line.Fraction h.fraction ∷ Line.Window h.min h.max ∷ (base_lines h.names h.base ++ rest)))
header-then h rest = ap (λ ls. Line.Version h.version ∷ Line.InMode h.mode ∷ ls) (append_assoc (spec_lines h.digest) (Line.X h.x.num h.x.den ∷ Line.Fraction h.fraction ∷ Line.Window h.min h.max ∷ base_lines h.names h.base) rest)

same-header : (h k : Header) (rest more : List Line) → length h.base ≡ length h.names → length k.base ≡ length k.names → HasNoBaseFirst rest → HasNoBaseFirst more → header_lines h ++ rest ≡ header_lines k ++ more → (h ≡ k) × (rest ≡ more)
same-header h k rest more l m lacks lacks_too e =
    let behind : Header → List Line → List Line = λ g ls. Line.Fraction g.fraction ∷ Line.Window g.min g.max ∷ (base_lines g.names g.base ++ ls) in
    let tail : Header → List Line → List Line = λ g ls. spec_lines g.digest ++ (Line.X g.x.num g.x.den ∷ behind g ls) in
    let whole : Line.Version h.version ∷ Line.InMode h.mode ∷ tail h rest ≡ Line.Version k.version ∷ Line.InMode k.mode ∷ tail k more = sym (header-then h rest) ∙ e ∙ header-then k more in
    let one = first-same (Line.Version h.version) (Line.Version k.version) (Line.InMode h.mode ∷ tail h rest) (Line.InMode k.mode ∷ tail k more) whole in
    let two = first-same (Line.InMode h.mode) (Line.InMode k.mode) (tail h rest) (tail k more) one.1 in
    let three = digest-same h.digest k.digest h.x.num h.x.den k.x.num k.x.den (behind h rest) (behind k more) two.1 in
    let four = limits-same h.x.num h.x.den h.fraction h.min h.max k.x.num k.x.den k.fraction k.min k.max (base_lines h.names h.base ++ rest) (base_lines k.names k.base ++ more) three.1 in
    let five = same-base h.names k.names h.base k.base rest more l m lacks lacks_too four.5 in
    let a : Line.Version h.version ≡ Line.Version k.version = one.0 in
    let b : Line.InMode h.mode ≡ Line.InMode k.mode = two.0 in
    let version : h.version ≡ k.version = cc in
    let mode : h.mode ≡ k.mode = cc in
    let digest : h.digest ≡ k.digest = three.0 in
    let x : h.x ≡ k.x = same-fraction h.x k.x four.0 four.1 in
    let fraction : h.fraction ≡ k.fraction = four.2 in
    let min : h.min ≡ k.min = four.3 in
    let max : h.max ≡ k.max = four.4 in
    let names : h.names ≡ k.names = five.0 in
    let base : h.base ≡ k.base = five.1 in
    let all : make-header h.version h.mode h.digest h.x h.fraction h.min h.max h.names h.base ≡ make-header k.version k.mode k.digest k.x k.fraction k.min k.max k.names k.base = cc in
    (sym (made-header h) ∙ all ∙ made-header k, five.2)

-- Certificates with the same lines are alike.
lines-alike : (a b : Certificate) → IsCertificate a → IsCertificate b → certificate_lines a ≡ certificate_lines b → AreAlike a b
lines-alike a b is are e =
    let h = same-header a.header b.header (flat_map entry_lines a.entries ++ closing_lines a.closing) (flat_map entry_lines b.entries ++ closing_lines b.closing) is.header.one_each are.header.one_each (rest-no-base a.entries a.closing) (rest-no-base b.entries b.closing) e in
    let r = same-rest a.entries b.entries a.closing b.closing h.1 in
    record { header = h.0; entries = r.0; closing = r.1 }

-- Certificates with one text are alike.
pub texts-alike : (bytes : List ℕ) (a b : Certificate) → IsTextOf bytes a → IsTextOf bytes b → AreAlike a b
texts-alike bytes a b is are = lines-alike a b is.is are.is (same-lines a b is.is is.in_range are.is are.in_range (sym is.text ∙ are.text))
