-- What calls of the code say while they read a here-document's delimiter.
use Rattle.std.specs.Prelude.{◌≡◌, ◌<◌, ℕ, Bool, List, [], ◌∷◌, ◌++◌, length, Result, Ok, Err}
use Rattle.sh_lexer.specs.declared.read.LexError.{LexError}
use Rattle.sh_lexer.specs.declared.read.LexError.TheVariants as error
use Rattle.sh_lexer.specs.declared.delimiter.Within.{Within}
use Rattle.sh_lexer.specs.declared.delimiter.Within.TheVariants as within
use Rattle.sh_lexer.specs.declared.delimiter.Turn.{Turn}
use Rattle.sh_lexer.specs.declared.delimiter.Turn.TheVariants as turn
use Rattle.sh_lexer.specs.Cut.{Delimited, delimited, not_delimited, in_delimiter, in_single, in_double}

-- a delimiter from a place in it on
abbrev pub delimiter_from : Within → List ℕ → Bool → List ℕ → Delimited
delimiter_from within.Word x q t = in_delimiter x q t
delimiter_from within.Single x q t = in_single x t
delimiter_from within.Double x q t = in_double x t

abbrev pub IsTurn : Result Turn LexError → Within → Bool → List ℕ → Type 0
IsTurn (Ok turn.Finish) w q t = (x : List ℕ) → delimiter_from w x q t ≡ delimited x q t
IsTurn (Ok (turn.Go v p r)) w q t = (x : List ℕ) → delimiter_from w x q t ≡ delimiter_from v x p r.now
IsTurn (Ok (turn.Take b p r)) w q t = (x : List ℕ) → delimiter_from w x q t ≡ delimiter_from w (x ++ b ∷ []) p r.now
IsTurn (Err error.Memory) w q t = ⊥
IsTurn (Err error.End) w q t = ⊥
IsTurn (Err (error.Bad f)) w q t = (x : List ℕ) → delimiter_from w x q t ≡ not_delimited f

-- A turn leaves less.
abbrev pub TurnsOn : Result Turn LexError → List ℕ → Type 0
TurnsOn (Ok turn.Finish) t = Unit {0}
TurnsOn (Ok (turn.Go v p r)) t = length r.now < length t
TurnsOn (Ok (turn.Take b p r)) t = length r.now < length t
TurnsOn (Err e) t = Unit {0}
