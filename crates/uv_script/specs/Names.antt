-- What the names of every script meet.
use Rattle.std.specs.Prelude.{◌≢◌, ℕ, ◌≤◌, List, length, All, AllPairs}
use Rattle.uv_script.specs.Limits.{MOST_NAMES}
use Rattle.uv_script.specs.Words.{IsName}

-- names that no two are the same of, and no more than there may be
pub record AreNames (names : List (List ℕ)) : Type 0 where
  pub each : All IsName names
  pub distinct : AllPairs (λ a b. a ≢ b) names
  pub few : length names ≤ MOST_NAMES
