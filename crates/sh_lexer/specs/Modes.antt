-- How a token is read follows from the one before it and from how that was read.
use Rattle.std.specs.Prelude.{ℕ, Bool, List}
use Rattle.sh_lexer.specs.declared.token.Token.{Token}
use Rattle.sh_lexer.specs.declared.token.Token.TheVariants as token
use Rattle.sh_lexer.specs.declared.token.Op.{Op}
use Rattle.sh_lexer.specs.declared.token.Op.TheVariants as op
use Rattle.sh_lexer.specs.declared.token.Bit.{Bit}
use Rattle.sh_lexer.specs.declared.token.Bit.TheVariants as bit
use Rattle.sh_lexer.specs.declared.token.Opener.{Opener}
use Rattle.sh_lexer.specs.declared.token.Opener.TheVariants as opener
use Rattle.sh_lexer.specs.declared.token.End.{End}
use Rattle.sh_lexer.specs.declared.token.End.TheVariants as end
use Rattle.sh_lexer.specs.declared.token.Mode.{Mode}
use Rattle.sh_lexer.specs.declared.token.Mode.TheVariants as mode

-- how a word goes on that began in this mode
abbrev pub inside : Mode → Mode
inside mode.Command = mode.Word
inside mode.Prefix = mode.Word
inside mode.Arguments = mode.Word
inside mode.Pattern = mode.Word
inside mode.Delimiter = mode.Word
inside m = m

abbrev pub after_op : Op → Mode
after_op op.Case = mode.Arguments
after_op op.For = mode.Arguments
after_op op.In = mode.Arguments
after_op op.PipePattern = mode.Arguments
after_op op.DoubleSemi = mode.Pattern
after_op op.CaseIn = mode.Pattern
after_op op.OpenPattern = mode.Pattern
after_op o = mode.Command

abbrev pub after_bit : Mode → Bit → Mode
after_bit m (bit.Sum x n) = mode.Arith n
after_bit m b = inside m

abbrev pub after_opener : Opener → Mode
after_opener opener.Double = mode.Quotes
after_opener (opener.Braces x o c q) = mode.Braces q
after_opener opener.Command = mode.Command
after_opener opener.Arith = mode.Arith 0
after_opener opener.Backquote = mode.Command

abbrev pub mode_after : Mode → Token → Mode
mode_after m (token.Operator o) = after_op o
mode_after m (token.Part b) = after_bit m b
mode_after m (token.Param x l) = inside m
mode_after m (token.Open o n) = after_opener o
mode_after m (token.End e n) = n
mode_after m (token.Assign x) = mode.Word
mode_after m (token.Redirect fd o) = mode.Arguments
mode_after m (token.Here fd s) = mode.Delimiter
mode_after m (token.Delimiter x q n) = n
mode_after m token.Body = mode.Body
mode_after m (token.Verbatim x n) = n
mode_after m (token.Function x) = mode.Arguments

-- How a token that is seen may be read. Where the grammar says how to go on after it, each way is a token of its own.
pub data Reads : Token → Token → Type 0 where
  as_seen : {t : Token} → Reads t t
  ends : {e : End} {m n : Mode} → Reads (token.End e m) (token.End e n)
  ends_list : {n : Mode} → Reads (token.Operator op.Close) (token.End end.List n)
  delimits : {x : List ℕ} {q : Bool} {m n : Mode} → Reads (token.Delimiter x q m) (token.Delimiter x q n)
  is_body : {x : List ℕ} {m n : Mode} → Reads (token.Verbatim x m) (token.Verbatim x n)
  opens_pattern : Reads (token.Operator op.Open) (token.Operator op.OpenPattern)
  parts_patterns : Reads (token.Operator op.Pipe) (token.Operator op.PipePattern)
  in_of_case : Reads (token.Operator op.In) (token.Operator op.CaseIn)
