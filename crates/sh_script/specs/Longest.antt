-- How long a text may be.
use Rattle.std.specs.Prelude.{ℕ}

-- how many bytes a text may have
abbrev pub longest : ℕ
longest = 1048576
