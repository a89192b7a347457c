-- What two schedules of one pool have in common.
use Rattle.std.specs.Prelude.{◌≡◌, ℕ, List, ◌++◌}
use Rattle.call_stages.specs.declared.status.Status.{Status}
use Rattle.pool_command.specs.Schedule.{order_of}
use Rattle.pool_command.specs.PoolCommand.{PoolSetting, PoolDrawing, drawings_text, order_line}
use Rattle.pool_command.specs.PoolCommand.{pool_end_line, asks_of}

-- By two schedules n drawings end with one status, and their texts differ in the line of the order
-- alone: it is the function of each schedule's bytes and of the drawings' closings.
pub record AreOverOne (p : PoolSetting) (n : ℕ) (schedule other_schedule : List ℕ)
    (status other : Status) (text others : List ℕ) : Type 0 where
  pub drawings : ℕ → PoolDrawing
  pub status_is : status ≡ other
  pub text_is : text ≡ drawings_text p n drawings
      ++ (order_line (order_of (asks_of drawings) n schedule) ++ pool_end_line)
  pub others_are : others ≡ drawings_text p n drawings
      ++ (order_line (order_of (asks_of drawings) n other_schedule) ++ pool_end_line)
