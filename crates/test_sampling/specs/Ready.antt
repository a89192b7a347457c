-- Pools that can make turns.
use Rattle.std.specs.Prelude.{◌≡◌, ℕ, List, length, Option}
use Rattle.bz_model.specs.Fraction.{Fraction}
use Rattle.bz_model.specs.Spec.{Spec}
use Rattle.session_pool.specs.Member.{MemberState}
use Rattle.session_pool.specs.Pool.{PoolBelongs, TapesBelong, tapes_of}

-- A pool of three drawings that belongs, with its tapes.
pub record IsReady (s : Spec) (x : Fraction) (contents : List ℕ
    → Option (List ℕ)) (pool : List MemberState) : Type 0 where
  pub three : length pool ≡ 3
  pub drawings : PoolBelongs s x pool
  pub tapes : TapesBelong contents (tapes_of pool)
