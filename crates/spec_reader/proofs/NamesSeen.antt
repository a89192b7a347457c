-- Names that are defined: what a look-up tells, and one token after another.
use Rattle.std.proofs.Common.{◌≡◌, ◌≢◌, ℕ, zero, suc, ◌+◌, ◌<◌, Bool, true, false, ◌||◌, if◌then◌else◌, List, [], ◌∷◌, ◌++◌, length, drop, get_or, Some, None, slice_get, refl, sym, ◌∙◌, ap, arith}
use Rattle.class_system.specs.Distinct.{IsMissing}
use Rattle.bz_model.specs.Spec.{Mode}
use Rattle.spec_reader.specs.declared.tokens.Token.{Token}
use Rattle.spec_reader.specs.declared.tokens.Placed.{Placed}
use Rattle.spec_reader.specs.declared.fault.SpecFault.{SpecFault}
use Rattle.spec_reader.specs.Tokens.{is_same}
use Rattle.spec_reader.specs.Reading.{plain_tokens}
use Rattle.spec_reader.specs.Faults.{is_among, with_names, defined_by, line_names, ends_line, fault_at, first_fault, twice, undefined}
use Rattle.spec_reader.proofs.ClassNumbers.{same_is, other_is}

-- A word that stands at some place of the names is among them by the test.
pub among_found : (names : List (List ℕ)) (w : List ℕ) (i : ℕ) → slice_get names i ≡ Some w → is_among names w ≡ true
among_found [] w i e = absurd (cc)
among_found (n ∷ ns) w zero e =
    let same : n ≡ w = cc in
    rw (same_is n w same) refl
among_found (n ∷ ns) w (suc i) e = either (is_same n w) (is_among ns w) (among_found ns w i e)
  where
    either : (a b : Bool) → b ≡ true → (a || b) ≡ true
    either true b e = refl
    either false b e = e

-- A word that is missing among the names isn't among them by the test.
pub among_missing : (names : List (List ℕ)) (w : List ℕ) → IsMissing w names → is_among names w ≡ false
among_missing [] w m = refl
among_missing (n ∷ ns) w m =
    let here : n ≢ w = λ e. m.nowhere 0 (ap Some e) in
    let later : IsMissing w ns = record { nowhere = λ i. m.nowhere (suc i) } in
    rw (other_is n w here) (among_missing ns w later)

-- Adding a word that stands among the names already leaves the names as they are.
pub one_found : (names : List (List ℕ)) (w : List ℕ) (i : ℕ) → slice_get names i ≡ Some w → with_names names (w ∷ []) ≡ names
one_found names w i e = rw (among_found names w i e) refl

-- Adding a word that is missing among the names puts it at their end.
pub one_missing : (names : List (List ℕ)) (w : List ℕ) → IsMissing w names → with_names names (w ∷ []) ≡ names ++ w ∷ []
one_missing names w m = rw (among_missing names w m) refl

pub with_names-append : (names ws us : List (List ℕ)) → with_names names (ws ++ us) ≡ with_names (with_names names ws) us
with_names-append names [] us = refl
with_names-append names (w ∷ ws) us = with_names-append (if is_among names w then names else names ++ w ∷ []) ws us

drop_here : (ts : List Placed) (i : ℕ) (t : Placed) → i < length ts → t ≡ get_or ts i t → drop i ts ≡ t ∷ drop (i + 1) ts
drop_here [] i t h e = absurd (omega arith)
drop_here (u ∷ ts) zero t h e = ap (λ v. v ∷ ts) (sym e)
drop_here (u ∷ ts) (suc i) t h e =
    let lt : i < length ts = omega arith in
    let next : suc (i + 1) ≡ suc i + 1 = omega arith in
    drop_here ts i t lt e ∙ ap (λ n. t ∷ drop n (u ∷ ts)) next

-- the names of the lines to come, behind one token more
pub names_step : (names now : List (List ℕ)) (starts : Bool) (ts : List Placed) (i : ℕ) (t : Placed) → i < length ts → t ≡ get_or ts i t → now ≡ with_names names (defined_by starts t.token) → with_names now (line_names (ends_line t.token) (plain_tokens (drop (i + 1) ts))) ≡ with_names names (line_names starts (plain_tokens (drop i ts)))
names_step names now starts ts i t h e now_is = rw (now_is, drop_here ts i t h e) (sym (with_names-append names (defined_by starts t.token) (line_names (ends_line t.token) (plain_tokens (drop (i + 1) ts)))))

-- the first fault from a token on that has none
pub fault_step : (m : Mode) (defined seen now : List (List ℕ)) (starts : Bool) (ts : List Placed) (i : ℕ) (t : Placed) → i < length ts → t ≡ get_or ts i t → fault_at m defined seen starts t.token t.line t.column ≡ None → now ≡ with_names seen (defined_by starts t.token) → first_fault m defined seen starts (drop i ts) ≡ first_fault m defined now (ends_line t.token) (drop (i + 1) ts)
fault_step m defined seen now starts ts i t h e none now_is = rw (drop_here ts i t h e, none, now_is) refl

-- the first fault from a token on that has one
pub fault_here : (m : Mode) (defined seen : List (List ℕ)) (starts : Bool) (ts : List Placed) (i : ℕ) (t : Placed) (f : SpecFault) → i < length ts → t ≡ get_or ts i t → fault_at m defined seen starts t.token t.line t.column ≡ Some f → first_fault m defined seen starts (drop i ts) ≡ Some f
fault_here m defined seen starts ts i t f h e some = rw (drop_here ts i t h e, some) refl

-- the fault of a name that begins a line
pub fault_of_first : (m : Mode) (defined seen : List (List ℕ)) (starts : Bool) (t : Token) (w : List ℕ) (b : Bool) (line column : ℕ) → t ≡ Token.Name w → starts ≡ true → is_among seen w ≡ b → fault_at m defined seen starts t line column ≡ twice b line
fault_of_first m defined seen starts t w b line column t_is starts_is among = rw (t_is, starts_is, among) refl

-- the fault of a name in a sum
pub fault_of_other : (m : Mode) (defined seen : List (List ℕ)) (starts : Bool) (t : Token) (w : List ℕ) (b : Bool) (line column : ℕ) → t ≡ Token.Name w → starts ≡ false → is_among defined w ≡ b → fault_at m defined seen starts t line column ≡ undefined b line column
fault_of_other m defined seen starts t w b line column t_is starts_is among = rw (t_is, starts_is, among) refl

-- the name that a token defines
pub defined_name : (starts : Bool) (t : Token) (w : List ℕ) → t ≡ Token.Name w → starts ≡ true → defined_by starts t ≡ w ∷ []
defined_name starts t w t_is starts_is = rw (t_is, starts_is) refl
