-- The delimiters in turn.
use Rattle.std.specs.Prelude.{ℕ, List, Option}
use Rattle.util_text.specs.declared.delimiters.Delimiters.{Delimiters}

abbrev pub turns : Delimiters → List (Option ℕ)
turns delimiters = delimiters.items.items
