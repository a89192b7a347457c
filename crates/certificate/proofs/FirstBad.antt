-- Lines that pass one after the other, and the first bad line where they get stuck.
use Rattle.std.specs.Prelude.{map}
use Rattle.std.proofs.Common.{◌≡◌, ◌≢◌, ℕ, suc, List, [], ◌∷◌, ◌++◌, length, refl, sym, ◌∙◌, ap, subst, append_assoc, append-nil}
use Rattle.std.specs.List.{AllByRecursion}
use Rattle.certificate.specs.declared.certificate.Certificate.{Certificate}
use Rattle.certificate.specs.Lines.{Line, line_text, whole_line, text_of}
use Rattle.certificate.specs.Certificates.{certificate_lines}
use Rattle.certificate.specs.Reading.{IsTextOf, BeginsOne, HasNoFeed, with_line_feeds, IsFirstBad}
use Rattle.certificate.specs.Stages.{Stage, May, Way, Passes, IsStuck, Fails}
use Rattle.certificate.proofs.Feeds.{one-cut}
use Rattle.certificate.proofs.StageLines.{line-no-feed, one-next}
use Rattle.certificate.proofs.Writing.{text-append}
use Rattle.certificate.proofs.Completions.{completes}
use Rattle.certificate.proofs.CertificateWays.{way-append, way-of, certificate-of}

-- A line with its line feed, and what follows it.
pub whole-then : (l : Line) (rest : List ℕ) → whole_line l ++ rest ≡ line_text l ++ 10 ∷ rest
whole-then l rest = append_assoc (line_text l) (10 ∷ []) rest

-- One line passes.
pub passes-one : {from to : Stage} {l : Line} (text rest : List ℕ) → May from l to → text ≡ whole_line l ++ rest → Passes from text (l ∷ []) to rest
passes-one {l = l} text rest m e = record { way = Way.go m Way.stay; split = e ∙ ap (λ t. t ++ rest) (sym (append-nil (whole_line l))) }

-- Lines pass one after the other.
pub passes-more : {from mid to : Stage} (text between rest : List ℕ) (ls ms : List Line) → Passes from text ls mid between → Passes mid between ms to rest → Passes from text (ls ++ ms) to rest
passes-more text between rest ls ms p q = record {
  way = way-append p.way q.way;
  split = p.split ∙ ap (λ t. text_of ls ++ t) q.split ∙ sym (append_assoc (text_of ls) (text_of ms) rest) ∙ ap (λ t. t ++ rest) (sym (text-append ls ms));
}

-- Behind lines that pass, a failure is one of the whole.
pub fails-more : {from mid : Stage} (text between left : List ℕ) (ls : List Line) → Passes from text ls mid between → Fails mid between left → Fails from text left
fails-more text between left ls p f = record { lines = ls ++ f.lines; stage = f.stage; passes = passes-more text between left ls f.lines p f.passes; stuck = f.stuck }

-- It fails at once where it is stuck.
pub fails-here : {from : Stage} (text : List ℕ) → IsStuck from text → Fails from text text
fails-here {from} text s = record { lines = []; stage = from; passes = record { way = Way.stay; split = refl }; stuck = s }

-- It fails behind lines that pass where it is stuck there.
pub fails-behind : {from mid : Stage} (text left : List ℕ) (ls : List Line) → Passes from text ls mid left → IsStuck mid left → Fails from text left
fails-behind text left ls p s = fails-more text left left ls p (fails-here left s)

-- What is left of a whole way's text behind lines that pass is the text of a whole way.
pub left-over : {from mid : Stage} {ls all : List Line} → Way from ls mid → Way from all Stage.Over → (rest : List ℕ) → text_of all ≡ text_of ls ++ rest → (more : List Line) × Way mid more Stage.Over × (text_of more ≡ rest)
left-over {all = all} Way.stay w rest e = (all, w, e)
left-over (Way.go m v) Way.stay rest e = elim m [ ]
left-over (Way.go {line = l} {lines = ls} m v) (Way.go {line = k} {lines = all} n w) rest e =
    let f : line_text l ++ 10 ∷ (text_of ls ++ rest) ≡ line_text k ++ 10 ∷ text_of all =
    sym (whole-then l (text_of ls ++ rest)) ∙ sym (append_assoc (whole_line l) (text_of ls) rest) ∙ sym e ∙ whole-then k (text_of all) in
    let cut = one-cut (line_text l) (line_text k) (text_of ls ++ rest) (text_of all) (line-no-feed m) (line-no-feed n) f in
    left-over v (subst (λ s. Way s all Stage.Over) (sym (one-next m n cut.0)) w) rest (sym cut.1)

-- Where it is stuck no whole way's text is left.
stuck-left : {from : Stage} {more : List Line} (left : List ℕ) → IsStuck from left → Way from more Stage.Over → text_of more ≡ left → ⊥
stuck-left left s Way.stay e = s.unfinished refl (sym e)
stuck-left left s (Way.go {next = next} {line = l} {lines = ls} m w) e = s.line l next (text_of ls) m (sym e)

-- A line with its line feed is not empty.
pub not-nothing : (here rest : List ℕ) → [] ≢ here ++ 10 ∷ rest
not-nothing [] rest e = cc
not-nothing (b ∷ here) rest e = cc

-- Where it is stuck no whole way's text begins with the line in front.
stuck-line : {from : Stage} {more : List Line} (left here after rest : List ℕ) → IsStuck from left → Way from more Stage.Over → HasNoFeed here → left ≡ here ++ 10 ∷ after → text_of more ≡ here ++ 10 ∷ rest → ⊥
stuck-line left here after rest s Way.stay h f e = absurd (not-nothing here rest e)
stuck-line left here after rest s (Way.go {next = next} {line = l} {lines = ls} m w) h f e =
    let cut = one-cut (line_text l) here (text_of ls) rest (line-no-feed m) h (sym (whole-then l (text_of ls)) ∙ e) in
    s.line l next after m (f ∙ ap (λ t. t ++ 10 ∷ after) (sym cut.0) ∙ sym (whole-then l after))

-- The texts of lines, each ended by a line feed.
ended-texts : (ls : List Line) → text_of ls ≡ with_line_feeds (map line_text ls)
ended-texts [] = refl
ended-texts (l ∷ ls) = ap (λ t. whole_line l ++ t) (ended-texts ls)

texts-no-feed : {from to : Stage} {ls : List Line} → Way from ls to → AllByRecursion HasNoFeed (map line_text ls)
texts-no-feed Way.stay = tt
texts-no-feed (Way.go m w) = (line-no-feed m, texts-no-feed w)

length-texts : (ls : List Line) → length ls ≡ length (map line_text ls)
length-texts [] = refl
length-texts (l ∷ ls) = ap suc (length-texts ls)

-- Lines that pass begin a certificate.
begins : {to : Stage} (ls : List Line) → Way Stage.AtVersion ls to → BeginsOne (text_of ls)
begins {to} ls v =
    let more = completes to in
    let c = certificate-of (way-append v more.1) in
    record { whole = c.0; rest = text_of more.0; is = record { is = c.1; in_range = c.2; text = sym (text-append ls more.0) ∙ ap text_of (sym c.3) } }

-- The first bad line is the one behind the lines that pass.
pub first-bad : (bytes left : List ℕ) (line : ℕ) (f : Fails Stage.AtVersion bytes left) → line ≡ suc (length f.lines) → IsFirstBad bytes line
first-bad bytes left line f place = record {
  before = map line_text f.lines;
  rest = left;
  split = f.passes.split ∙ ap (λ t. t ++ left) (ended-texts f.lines);
  lines = texts-no-feed f.passes.way;
  place = place ∙ ap suc (length-texts f.lines);
  begins = subst BeginsOne (ended-texts f.lines) (begins f.lines f.passes.way);
  bad = λ here after h e b. bad here after h e b;
  none = λ c t. none c t;
}
  where
    none : (c : Certificate) → ¬ (IsTextOf bytes c)
    none c t =
        let o = left-over f.passes.way (way-of c t.is t.in_range) left (sym t.text ∙ f.passes.split) in
        stuck-left left f.stuck o.1 o.2

    bad : (here after : List ℕ) → HasNoFeed here → left ≡ here ++ 10 ∷ after → ¬ (BeginsOne (with_line_feeds (map line_text f.lines) ++ (here ++ 10 ∷ [])))
    bad here after h e b =
        let front = with_line_feeds (map line_text f.lines) in
        let split : text_of (certificate_lines b.whole) ≡ text_of f.lines ++ (here ++ 10 ∷ b.rest) =
        sym b.is.text ∙ append_assoc front (here ++ 10 ∷ []) b.rest ∙ ap (λ t. front ++ t) (append_assoc here (10 ∷ []) b.rest) ∙ ap (λ t. t ++ (here ++ 10 ∷ b.rest)) (sym (ended-texts f.lines)) in
        let o = left-over f.passes.way (way-of b.whole b.is.is b.is.in_range) (here ++ 10 ∷ b.rest) split in
        stuck-line left here after b.rest f.stuck o.1 h e o.2
