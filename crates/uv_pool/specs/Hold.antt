-- The contents, and whether there is room.
use Rattle.std.specs.Prelude.{Bool}
use Rattle.uv_pool.specs.Contents.{Contents}

-- the contents; whether one more entry takes no memory and is below the limit
pub record Hold : Type 0 where
  pub contents : Contents
  pub room : Bool
