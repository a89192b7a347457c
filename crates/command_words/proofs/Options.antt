-- Values of options, kept by the options' numbers.
use Rattle.std.proofs.Common.{◌≡◌, ◌≢◌, ℕ, ◌<◌, List, [], ◌∷◌, ◌++◌, ◌==◌, if◌then◌else◌, length, get_or, set, Option, Some, None, Bor, refl, sym, ◌∙◌, ap, lit<, eq-eqb, get_or-set_same, get_or-set_other, arith, inl, inr}
use Rattle.std.proofs.lemmas.Bool.{cases_eq, ne_eqb}
use Rattle.std.proofs.lemmas.List.{append-nil}
use Rattle.std.specs.Option.{option_copied, option_to_list}
use Rattle.command_words.specs.declared.names.OptionName.{OptionName}
use Rattle.command_words.specs.declared.names.OptionName.TheVariants.{Tape, Seed, Min, Max, Count, Turns, Fraction}
use Rattle.command_words.specs.Words.{Argument, option_number, values_of}

-- an option's number is below 7
pub option_number-lt : (o : OptionName) → option_number o < 7
option_number-lt Tape = lit< tt
option_number-lt Seed = lit< tt
option_number-lt Min = lit< tt
option_number-lt Max = lit< tt
option_number-lt Count = lit< tt
option_number-lt Turns = lit< tt
option_number-lt Fraction = lit< tt

-- The option with a number.
abbrev option_numbered : ℕ → OptionName
option_numbered n = if n == 0 then Tape else (if n == 1 then Seed else (if n == 2 then Min else (if n == 3 then Max else (if n == 4 then Count else (if n == 5 then Turns else Fraction)))))

option_numbered-number : (o : OptionName) → option_numbered (option_number o) ≡ o
option_numbered-number Tape = refl
option_numbered-number Seed = refl
option_numbered-number Min = refl
option_numbered-number Max = refl
option_numbered-number Count = refl
option_numbered-number Turns = refl
option_numbered-number Fraction = refl

-- no two options have one number
pub option_number-injective : (o p : OptionName) → option_number o ≡ option_number p → o ≡ p
option_number-injective o p e = sym (option_numbered-number o) ∙ ap option_numbered e ∙ option_numbered-number p

-- what a table of values keeps for an option
abbrev pub kept : List (Option (Bor (List ℕ))) → OptionName → List (List ℕ)
kept table o = option_to_list (option_copied (get_or table (option_number o) None))

-- a value set where there was none is added to what the table keeps
pub kept-set : (table : List (Option (Bor (List ℕ)))) (o : OptionName) (place : ℕ) (v : Bor (List ℕ)) → length table ≡ 7 → place ≡ option_number o → kept table o ≡ [] → (asked : OptionName) → kept (set table place (Some v)) asked ≡ kept table asked ++ values_of (Argument.Setting o v.now ∷ []) asked
kept-set table o place v long at free asked =
    elim (cases_eq (option_number o) (option_number asked)) [
      | inl same ↦
          let within : place < length table = omega (arith, option_number-lt o) in
          let now : kept (set table place (Some v)) asked ≡ v.now ∷ [] = rw (← same) (rw (← at) (rw (get_or-set_same table place (Some v) None) refl)) in
          let before : kept table asked ≡ [] = rw (← same) free in
          rw (before, eq-eqb (option_number o) (option_number asked) same) now
      | inr other ↦
          let apart : option_number asked ≢ place = λ e. other (sym (e ∙ at)) in
          rw (get_or-set_other table place (option_number asked) (Some v) None apart, ne_eqb (option_number o) (option_number asked) other) (sym (append-nil (kept table asked)))
    ]
