-- What contracts see of a result that stands for a command.
use Rattle.std.specs.Prelude.{ℕ}
use Rattle.hs_world.specs.Reads.{ReadList}

pub record KeptData : Type 0 where
  pub number : ℕ
  pub reads : ReadList
