-- One token after another.
use Rattle.std.proofs.Common.{◌≡◌, ◌≢◌, ℕ, zero, suc, ◌+◌, ◌<◌, Bool, List, [], ◌∷◌, length, take, get_or, refl, sym, ◌∙◌, ap, subst, arith}
use Rattle.spec_reader.specs.declared.tokens.Token.{Token}
use Rattle.spec_reader.specs.declared.tokens.Placed.{Placed}
use Rattle.spec_reader.specs.declared.sums.Expects.{Expects}
use Rattle.spec_reader.specs.Machine.{ReaderState, Lines, Named, Want, Counts, Signed, Bounded, Have, Done, Failed, LinesBefore, step, run}
use Rattle.spec_reader.specs.Reading.{plain_tokens}
use Rattle.spec_reader.specs.Building.{KeptSoFar, Represents, LeadsOrFails}

-- a state that another is stands for it
pub leads_along : (names : List (List ℕ)) (s r : ReaderState) (t : Token) (b : Bool) (e : Expects) (k : KeptSoFar) → s ≡ r → LeadsOrFails names (step r t) b e k → LeadsOrFails names (step s t) b e k
leads_along names s r t b e k same h = subst (λ q. LeadsOrFails names (step q t) b e k) (sym same) h

-- behind the end of the text nothing stands
pub done_fails : (b : LinesBefore) (t : Token) → step (Done b) t ≡ Failed
done_fails b (Token.Name w) = refl
done_fails b (Token.Empty w) = refl
done_fails b (Token.Atom w) = refl
done_fails b (Token.Counted c) = refl
done_fails b (Token.Number k) = refl
done_fails b Token.AtLeast = refl
done_fails b Token.AtMost = refl
done_fails b Token.Exactly = refl
done_fails b Token.Plus = refl
done_fails b Token.Star = refl
done_fails b Token.Open = refl
done_fails b Token.Close = refl
done_fails b Token.LineEnd = refl
done_fails b Token.TextEnd = refl
done_fails b Token.Bad = refl

pub nothing_fails : (s : ReaderState) (b : LinesBefore) (t : Token) → s ≡ Done b → step s t ≡ Failed
nothing_fails s b t e = ap (λ q. step q t) e ∙ done_fails b t

-- what is represented hasn't failed
pub represented : (names : List (List ℕ)) (s : ReaderState) (e : Expects) (k : KeptSoFar) → Represents names s e k → s ≢ Failed
represented names s Expects.Line k r f = let h : Lines r.0 ≡ Failed = sym r.1 ∙ f in absurd (cc)
represented names s Expects.Equals k r f = let h : Named r.0 r.1 ≡ Failed = sym r.2 ∙ f in absurd (cc)
represented names s Expects.Factor k r f = let h : Want r.0 ≡ Failed = sym r.1 ∙ f in absurd (cc)
represented names s (Expects.Count c) k r f = let h : Counts r.0 c ≡ Failed = sym r.1 ∙ f in absurd (cc)
represented names s (Expects.Number c sign) k r f = let h : Signed r.0 c sign ≡ Failed = sym r.1 ∙ f in absurd (cc)
represented names s (Expects.Open c range) k r f = let h : Bounded r.0 c _ ≡ Failed = sym r.1 ∙ f in absurd (cc)
represented names s Expects.Joint k r f = let h : Have r.0 ≡ Failed = sym r.1 ∙ f in absurd (cc)
represented names s Expects.Nothing k r f = let h : Done r.0 ≡ Failed = sym r.1 ∙ f in absurd (cc)

-- the token at a place, behind those before it
pub run_one_more : (s : ReaderState) (ts : List Placed) (i : ℕ) (t : Placed) → i < length ts → t ≡ get_or ts i t → run s (plain_tokens (take (i + 1) ts)) ≡ step (run s (plain_tokens (take i ts))) t.token
run_one_more s [] i t h e = absurd (omega arith)
run_one_more s (u ∷ ts) zero t h e = ap (λ (q : Placed). step s q.token) (sym e)
run_one_more s (u ∷ ts) (suc i) t h e =
    let lt : i < length ts = omega arith in
    let next : suc i + 1 ≡ suc (i + 1) = omega arith in
    ap (λ n. run s (plain_tokens (take n (u ∷ ts)))) next ∙ run_one_more (step s u.token) ts i t lt e
