-- Which tokens begin a text: those that the machine hasn't failed at.
use Rattle.std.proofs.Common.{◌≡◌, ◌≢◌, ℕ, List, [], ◌∷◌, ◌++◌, refl, sym, ◌∙◌, ap, codes}
use Rattle.bz_model.specs.Spec.{Mode}
use Rattle.spec_reader.specs.declared.tokens.Token.{Token}
use Rattle.spec_reader.specs.Grammar.{Term, Definition, Begins, sum_of, without_bound}
use Rattle.spec_reader.specs.Machine.{Frame, over, wrapped, Outer, LinesBefore, Place, ReaderState, Start, Moded, Lines, Named, Want, Counts, Signed, Bounded, Have, Done, Failed, with_factor, finished_products, with_one_more, parenthesis_opened, sum_begun, range_by, step, run}
use Rattle.spec_reader.proofs.MachineReads.{reads}
use Rattle.spec_reader.proofs.MachineAccepts.{accepts}

-- From a state the machine reads tokens ts followed by us as it reads ts, and then us from where it
-- has come.
pub run-append : (s : ReaderState) (ts us : List Token) → run s (ts ++ us) ≡ run (run s ts) us
run-append s [] us = refl
run-append s (t ∷ ts) us = run-append (step s t) ts us

-- what failed stays failed
pub run-failed : (ts : List Token) → run Failed ts ≡ Failed
run-failed [] = refl
run-failed (t ∷ ts) = run-failed ts

-- the tokens that close a sum, its line and the text
abbrev closing : List Outer → List Token
closing [] = Token.LineEnd ∷ Token.TextEnd ∷ []
closing (o ∷ os) = Token.Close ∷ closing os

-- the tokens that end a text from a state
abbrev ending : ReaderState → List Token
ending Start = Token.Name (codes "unlabelled") ∷ Token.LineEnd ∷ Token.Name (codes "A") ∷ Token.Exactly ∷ Token.Atom [] ∷ closing []
ending (Moded m) = Token.LineEnd ∷ Token.Name (codes "A") ∷ Token.Exactly ∷ Token.Atom [] ∷ closing []
ending (Lines b) = Token.Name (codes "A") ∷ Token.Exactly ∷ Token.Atom [] ∷ closing []
ending (Named b w) = Token.Exactly ∷ Token.Atom [] ∷ closing []
ending (Want p) = Token.Atom [] ∷ closing p.outers
ending (Counts p c) = Token.Open ∷ Token.Atom [] ∷ Token.Close ∷ closing p.outers
ending (Signed p c s) = Token.Number 1 ∷ Token.Open ∷ Token.Atom [] ∷ Token.Close ∷ closing p.outers
ending (Bounded p c r) = Token.Open ∷ Token.Atom [] ∷ Token.Close ∷ closing p.outers
ending (Have p) = closing p.outers
ending (Done b) = []
ending Failed = []

record IsDone (s : ReaderState) : Type 0 where
  before : LinesBefore
  is : s ≡ Done before

text_ends : (m : Mode) (ds : List Definition) (d : Definition) → IsDone (run (Lines (record { mode = m; definitions = ds ++ d ∷ [] })) (Token.TextEnd ∷ []))
text_ends m [] d = record { before = record { mode = m; definitions = d ∷ [] }; is = refl }
text_ends m (e ∷ ds) d = record { before = record { mode = m; definitions = e ∷ ds ++ d ∷ [] }; is = refl }

closes : (b : LinesBefore) (w : List ℕ) (f : Frame) (os : List Outer) → IsDone (run (Have (record { before = b; name = w; frame = f; outers = os })) (closing os))
closes b w f [] = text_ends b.mode b.definitions (record { name = w; body = sum_of (finished_products f) })
closes b w f (o ∷ os) = closes b w (with_factor o.frame (wrapped o.wrap (sum_of (finished_products f)))) os

closes_at : (p : Place) → IsDone (run (Have p) (closing p.outers))
closes_at p = closes p.before p.name p.frame p.outers

ends : (s : ReaderState) → s ≢ Failed → IsDone (run s (ending s))
ends Start h = record { before = _; is = refl }
ends (Moded m) h = record { before = _; is = refl }
ends (Lines b) h = closes_at (with_one_more (sum_begun b (codes "A")) (Term.atom []))
ends (Named b w) h = closes_at (with_one_more (sum_begun b w) (Term.atom []))
ends (Want p) h = closes_at (with_one_more p (Term.atom []))
ends (Counts p c) h = closes_at (with_one_more (parenthesis_opened p (over c (without_bound c))) (Term.atom []))
ends (Signed p c s) h = closes_at (with_one_more (parenthesis_opened p (over c (range_by c s 1))) (Term.atom []))
ends (Bounded p c r) h = closes_at (with_one_more (parenthesis_opened p (over c r)) (Term.atom []))
ends (Have p) h = closes_at p
ends (Done b) h = record { before = b; is = refl }
ends Failed h = absurd (h refl)

-- where the machine hasn't failed, some text begins so
pub may_go_on : (ts : List Token) → run Start ts ≢ Failed → Begins ts
may_go_on ts h =
    let d = ends (run Start ts) h in
    record {
      further = ending (run Start ts);
      mode = d.before.mode;
      definitions = d.before.definitions;
      is_text = accepts (ts ++ ending (run Start ts)) d.before.mode d.before.definitions (run-append Start ts (ending (run Start ts)) ∙ d.is);
    }

-- where it has failed, none does
pub must_stop : (ts : List Token) → run Start ts ≡ Failed → ¬ (Begins ts)
must_stop ts e b =
    let done = sym (reads b.is_text) ∙ run-append Start ts b.further ∙ ap (λ s. run s b.further) e ∙ run-failed b.further in
    absurd (cc done)
