-- Runs under way, with one turn more.
use Rattle.std.proofs.Common.{◌≡◌, ℕ, ◌-◌, max, subst, sym}
use Rattle.bz_model.specs.declared.cell.Bounds.{Bounds}
use Rattle.bz_model.specs.Fraction.{Fraction}
use Rattle.bz_model.specs.Spec.{Spec}
use Rattle.bit_tape.specs.Tape.{TapeSource, bits_of_source}
use Rattle.choice_draw.specs.Decision.{level_for}
use Rattle.size_window.specs.declared.turned.Turned.{Turned as Answer}
use Rattle.size_window.specs.RunByBits.{Limits}
use Rattle.size_window.specs.Drawing.{DrawingState}
use Rattle.size_window.specs.Turn.{node_bits}
use Rattle.size_window.specs.Trace.{TurnsContinue}
use Rattle.size_window.specs.Ahead.{Goes}
use Rattle.size_window.specs.declared.turned.Turned.TheVariants as answer
use Rattle.class_system.specs.Sound.{IsSound}
use Rattle.sample_command.proofs.OneTurn.{TellsTurn, so-far-on}
use Rattle.sample_command.proofs.Turns.{raised-for}
use Rattle.sample_command.proofs.TurnsAhead.{carried-ahead, raises-none}
use Rattle.bulk_command.specs.NoFiles.{empty_files}
use Rattle.bulk_command.specs.Running.{IsRunning}

-- a run is under way still
pub running-on : (s : Spec) (x : Fraction) (F : ℕ) (table : (level node : ℕ) → Bounds) (limits : Limits) (source : TapeSource) (d now : DrawingState) (start used : ℕ) (a : Answer) → TellsTurn s x F table limits (bits_of_source source empty_files) d now start used a → (raised raised_now : ℕ) → raised_now ≡ max raised (level_for (node_bits d.waiting (used - start))) → IsRunning s x F table limits source d start raised → IsRunning s x F table limits source now used raised_now
running-on s x F table limits source d now start used a h raised raised_now raises p = record {
  most = max p.most (node_bits d.waiting (used - start));
  so_far = so-far-on s x F table limits (bits_of_source source empty_files) d now start used a h p.most p.so_far;
  raised_is = raised-for raised raised_now p.most (node_bits d.waiting (used - start)) p.raised_is raises;
}

-- one with turns that were made ahead is so too
pub running-ahead : (law : TurnsContinue) (s : Spec) (sound : IsSound s) (x : Fraction) (F : ℕ) (table : (level node : ℕ) → Bounds) (limits : Limits) (source : TapeSource) (raised n : ℕ) (d now : DrawingState) (start used : ℕ) → d.limits ≡ limits → Goes s x F table (bits_of_source source empty_files) raised n d start now used → IsRunning s x F table limits source d start raised → IsRunning s x F table limits source now used raised
running-ahead law s sound x F table limits source raised n d now start used within goes p =
    let told = bits_of_source source empty_files in
    (carried-ahead law s sound x F table limits told raised (λ z k. IsRunning s x F table limits source z k raised)
    (λ mid later place end g h q. running-on s x F table limits source mid later place end answer.Going h raised raised (raises-none law s sound x F table limits told raised mid later place end g) q)
    n d now start used within goes p).1

-- one whose drawing, tape and levels are the same is so too
pub still-running : (s : Spec) (x : Fraction) (F : ℕ) (table : (level node : ℕ) → Bounds) (limits : Limits) (source : TapeSource) (d now : DrawingState) (used later raised raised_now : ℕ) → now ≡ d → later ≡ used → raised_now ≡ raised → IsRunning s x F table limits source d used raised → IsRunning s x F table limits source now later raised_now
still-running s x F table limits source d now used later raised raised_now a b c h =
    subst (λ z. IsRunning s x F table limits source z later raised_now) (sym a) (subst (λ z. IsRunning s x F table limits source d z raised_now) (sym b) (subst (λ z. IsRunning s x F table limits source d used z) (sym c) h))

-- what holds over equal numbers, tables, limits and tapes holds
pub moved-four : (P : Fraction → ((level node : ℕ) → Bounds) → Limits → TapeSource → Type 0) (x y : Fraction) (t u : (level node : ℕ) → Bounds) (l m : Limits) (s r : TapeSource) → y ≡ x → u ≡ t → m ≡ l → r ≡ s → P y u m r → P x t l s
moved-four P x y t u l m s r ex et el es h =
    subst (λ a. P a t l s) ex (subst (λ a. P y a l s) et (subst (λ a. P y u a s) el (subst (λ a. P y u m a) es h)))
