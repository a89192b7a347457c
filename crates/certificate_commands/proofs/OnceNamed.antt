-- A text that stands for a specification names no class twice.
use Rattle.std.proofs.Common.{◌≡◌, ℕ, suc, ◌+◌, ◌≤◌, arith, Bool, true, false, cond, List, [], ◌∷◌, ◌++◌, length, length-append, append_assoc, append-nil, refl, sym, ◌∙◌, ap, subst, Some, drop}
use Rattle.std.specs.Prelude.{slice_get}
use Rattle.std.specs.List.{AllByRecursion}
use Rattle.bz_model.specs.Spec.{Spec}
use Rattle.class_system.specs.Distinct.{IsMissing, AreDistinct}
use Rattle.class_system.specs.Sound.{IsSound}
use Rattle.class_system.specs.Words.{IsName}
use Rattle.class_system.proofs.Growth.{AreDistinct-more}
use Rattle.spec_reader.specs.Faults.{is_among, with_names, line_names}
use Rattle.spec_reader.specs.Reading.{plain_tokens, Grammar}
use Rattle.spec_reader.specs.Tables.{names_of}
use Rattle.spec_reader.specs.Tokens.{tokens_of}
use Rattle.spec_reader.proofs.Faulting.{no_twice}
use Rattle.spec_reader.proofs.Lexical.{are_lexical}
use Rattle.spec_reader.proofs.NamesSeen.{among_found}
use Rattle.spec_reader.proofs.Parsing.{text_names, plain-drop_two}
use Rattle.spec_reader.proofs.Sounds.{stands_sound}

-- names that were there before are left out
few-with : (names ws : List (List ℕ)) → length (with_names names ws) ≤ length names + length ws
few-with names [] = omega arith
few-with names (w ∷ ws) = by (is_among names w) (few-with names ws) (few-with (names ++ w ∷ []) ws)
  where
    by : (b : Bool) → length (with_names names ws) ≤ length names + length ws → length (with_names (names ++ w ∷ []) ws) ≤ length (names ++ w ∷ []) + length ws → length (with_names (cond b names (names ++ w ∷ [])) ws) ≤ length names + suc (length ws)
    by true h k = omega (arith, h)
    by false h k = omega (arith, k, length-append names (w ∷ []))

-- where none is left out, the names differ
all-differ : (names ws : List (List ℕ)) → AreDistinct names → with_names names ws ≡ names ++ ws → AreDistinct (names ++ ws)
all-differ names [] d e = subst AreDistinct (sym (append-nil names)) d
all-differ names (w ∷ ws) d e = by (is_among names w) refl e (all-differ (names ++ w ∷ []) ws)
  where
    missing : is_among names w ≡ false → IsMissing w names
    missing out = record { nowhere = λ i at. let found = among_found names w i at in let no : true ≡ false = sym found ∙ out in absurd (cc) }

    by : (b : Bool) → is_among names w ≡ b → with_names (cond b names (names ++ w ∷ [])) ws ≡ names ++ (w ∷ ws) → (AreDistinct (names ++ w ∷ []) → with_names (names ++ w ∷ []) ws ≡ (names ++ w ∷ []) ++ ws → AreDistinct ((names ++ w ∷ []) ++ ws)) → AreDistinct (names ++ (w ∷ ws))
    by true is same on =
        let few = few-with names ws in
        let long = ap (λ ns. length ns) same in
        let both = length-append names (w ∷ ws) in
        absurd (omega (arith, few, long, both))
    by false is same on = subst AreDistinct (append_assoc names (w ∷ []) ws) (on (AreDistinct-more names w d (missing is)) (same ∙ sym (append_assoc names (w ∷ []) ws)))

none-twice : AreDistinct []
none-twice = record { once = λ i j name at_i at_j. absurd (cc) }

-- a text that stands for a specification names each class once
pub names-once : (bytes : List ℕ) (s : Spec) → Grammar bytes s → AreDistinct s.names
names-once bytes s g =
    let f = g.stand_for in
    let ts = tokens_of bytes in
    let names : line_names true (plain_tokens (drop 2 ts)) ≡ names_of f.definitions = ap (λ us. line_names true us) (plain-drop_two ts) ∙ text_names f.is_text in
    let all = no_twice f.mode (names_of f.definitions) [] true (drop 2 ts) f.no_fault in
    let differ = all-differ [] (line_names true (plain_tokens (drop 2 ts))) none-twice all in
    subst AreDistinct (names ∙ ap (λ (t : Spec). t.names) (sym f.tables_are)) differ

-- and its tables are sound
pub is-sound : (bytes : List ℕ) (s : Spec) → Grammar bytes s → IsSound s
is-sound bytes s g = stands_sound (tokens_of bytes) s (are_lexical bytes) g.stand_for

each-name : (names : List (List ℕ)) → ((i : ℕ) (w : List ℕ) → slice_get names i ≡ Some w → IsName w) → AllByRecursion IsName names
each-name [] h = tt
each-name (w ∷ ws) h = (h 0 w refl, each-name ws (λ i v at. h (suc i) v at))

-- each name of a sound specification has the form of a name
pub all-names : (s : Spec) → IsSound s → AllByRecursion IsName s.names
all-names s sound = each-name s.names sound.names.at
