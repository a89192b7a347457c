-- A draw under way over the bits that it was given: how it goes on, and how it ends.
use Rattle.std.proofs.Common.{◌≡◌, ℕ, Bool, suc, ◌+◌, ◌^◌, ◌<◌, List, [], ◌∷◌, ◌++◌, Option, Some, None, arith, refl, sym, subst, ap}
use Rattle.std.specs.Prelude.{IfSome}
use Rattle.bz_model.specs.declared.cell.Cell.{Cell}
use Rattle.bz_model.specs.Cell.{IsCell}
use Rattle.bit_tape.specs.Given.{HasBits, Gave}
use Rattle.bit_tape.proofs.GivenBits.{has_bits-first, has_bits-more, gave-none, gave-append, gave-one}
use Rattle.choice_draw.specs.Draw.{Draw, halved, draw, bit_of}
use Rattle.choice_draw.specs.Answer.{IsDraw}
use Rattle.choice_draw.proofs.ToldDraws.{on_any}
use Rattle.choice_draw.proofs.DrawsOn.{DrawsOn, whole_cell, draws-first, draws-on, draws-decided, draws-ended, draws-failed, draws-straddled}

-- the draw was given these bits, and over every tape that has them there it goes on from this cell and place
pub record IsUnderWay {A : Type 0} (decide : Cell → Option A) (told : Option (ℕ → Option Bool)) (start : ℕ) (cell : Cell) (place : ℕ) : Type 0 where
  pub given : List Bool
  pub gave : Gave told start place given
  pub goes : (bits : ℕ → Option Bool) → HasBits bits start given → DrawsOn decide bits start cell place

module _ {A : Type 0} (decide : Cell → Option A) (told : Option (ℕ → Option Bool)) (start : ℕ) where
  pub draw-begins : IsUnderWay decide told start whole_cell start
  draw-begins = record { given = []; gave = gave-none told start; goes = λ bits have. draws-first decide bits start }

  module _ (cell : Cell) (used : ℕ) (way : IsUnderWay decide told start cell used) where
    -- the bits given so far, and one more, that a tape has
    bit_there : (bits : ℕ → Option Bool) (v : Bool) → HasBits bits start (way.given ++ v ∷ []) → bits used ≡ Some v
    bit_there bits v have = subst (λ n. bits n ≡ Some v) (sym way.gave.count) (has_bits-more bits start way.given (v ∷ []) have).0

    -- a bit that decides nothing leads on
    pub draw-on : (v : Bool) (half : Cell) (after : ℕ) → cell.b < 60 → IfSome told (λ bits. bits used ≡ Some v) → half ≡ halved cell v → after ≡ used + 1 → decide half ≡ None → IsUnderWay decide told start half after
    draw-on v half after more there is_half is_after undecided = record {
      given = way.given ++ v ∷ [];
      gave = gave-append told start used after way.given (v ∷ []) way.gave (gave-one told used after v is_after there);
      goes = λ bits have. subst (λ h. DrawsOn decide bits start h after) (sym is_half) (subst (λ n. DrawsOn decide bits start (halved cell v) n) (let e : suc used ≡ after = omega arith in e)
          (draws-on decide bits start cell used (way.goes bits (has_bits-first bits start way.given (v ∷ []) have)) v more (bit_there bits v have) (subst (λ h. decide h ≡ None) is_half undecided)));
    }

    -- a bit that decides ends the draw
    pub draw-decides : (v : Bool) (half : Cell) (answer : A) (after : ℕ) → cell.b < 60 → used ≡ start + cell.b → IfSome told (λ bits. bits used ≡ Some v) → half ≡ halved cell v → IsCell half.k half.b → after ≡ used + 1 → decide half ≡ Some answer → IsDraw decide told start after (Draw.Decided answer half)
    draw-decides v half answer after more so_far there is_half is_cell is_after decided = record {
      given = way.given ++ v ∷ [];
      gave = gave-append told start used after way.given (v ∷ []) way.gave (gave-one told used after v is_after there);
      ended = on_any told (λ bits. tt);
      exact = λ bits have ends. subst (λ h. Draw.Decided answer h ≡ draw decide (bit_of bits None) start) (sym is_half)
          (sym (draws-decided decide bits start cell used (way.goes bits (has_bits-first bits start way.given (v ∷ []) have)) v answer more (bit_there bits v have) (subst (λ h. decide h ≡ Some answer) is_half decided)));
      cell = is_cell;
      uses = let b : half.b ≡ suc cell.b = ap (λ h. h.b) is_half in omega arith;
    }

    -- so does the tape's end
    pub draw-ends : (after : ℕ) → cell.b < 60 → used ≡ start + cell.b → IfSome told (λ bits. bits used ≡ None) → after ≡ used → IsDraw decide told start after (Draw.Ended after)
    draw-ends after more so_far there is_after = subst (λ n. IsDraw decide told start n (Draw.Ended n)) (sym is_after) (record {
      given = way.given;
      gave = way.gave;
      ended = there;
      exact = λ bits have ends. sym (draws-ended decide bits start cell used (way.goes bits have) more ends);
      cell = tt;
      uses = (refl, omega arith, omega arith);
    })

    -- and a shelf that fails
    pub draw-fails : (after : ℕ) → cell.b < 60 → used ≡ start + cell.b → after ≡ used → IsDraw decide told start after (Draw.Failed after)
    draw-fails after more so_far is_after = subst (λ n. IsDraw decide told start n (Draw.Failed n)) (sym is_after) (record {
      given = way.given;
      gave = way.gave;
      ended = on_any told (λ bits. tt);
      exact = λ bits have ends. sym (draws-failed decide bits start cell used (way.goes bits have) more);
      cell = tt;
      uses = (refl, omega arith, omega arith);
    })

    -- and 60 bits that decide nothing
    pub draw-straddles : cell.b ≡ 60 → cell.k < 2 ^ cell.b → used ≡ start + cell.b → IsDraw decide told start used (Draw.Straddled cell)
    draw-straddles all below so_far = record {
      given = way.given;
      gave = way.gave;
      ended = on_any told (λ bits. tt);
      exact = λ bits have ends. sym (draws-straddled decide bits start cell used (way.goes bits have) all);
      cell = (record { some_bits = omega arith; few_bits = omega arith; below = below }, all);
      uses = so_far;
    }
