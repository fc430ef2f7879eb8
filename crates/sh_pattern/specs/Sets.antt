-- What a bracket expression lists (POSIX.1-2017, XBD 9.3.5, with `!` in place of `^`).
use Rattle.std.specs.Prelude.{Bool, List}
use Rattle.sh_pattern.specs.declared.item.ByteRange.{ByteRange}

pub record Bracket : Type 0 where
  -- it takes the bytes that are in none of the ranges
  pub negated : Bool
  pub ranges : List ByteRange
