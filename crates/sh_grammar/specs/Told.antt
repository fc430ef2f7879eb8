-- Which of the tokens that a seen one may be is taken in a state.
use Rattle.std.specs.Prelude.{List, [], ◌∷◌}
use Rattle.sh_lexer.specs.declared.token.Token.{Token}
use Rattle.sh_lexer.specs.declared.token.Token.TheVariants as token
use Rattle.sh_lexer.specs.declared.token.Op.{Op}
use Rattle.sh_lexer.specs.declared.token.Op.TheVariants as op
use Rattle.sh_lexer.specs.declared.token.End.{End}
use Rattle.sh_lexer.specs.declared.token.End.TheVariants as end
use Rattle.sh_lexer.specs.declared.token.Mode.{Mode}
use Rattle.sh_lexer.specs.declared.token.Mode.TheVariants as mode
use Rattle.sh_grammar.specs.declared.state.Due.{Due}
use Rattle.sh_grammar.specs.declared.state.Gap.TheVariants as gap
use Rattle.sh_grammar.specs.declared.state.Now.{Now}
use Rattle.sh_grammar.specs.declared.state.Now.TheVariants as now
use Rattle.sh_grammar.specs.declared.state.Below.{Below}
use Rattle.sh_grammar.specs.declared.state.Below.TheVariants as below
use Rattle.sh_grammar.specs.Draft.{cut_mode}
use Rattle.sh_grammar.specs.Machine.{gap_mode, host_mode}

-- how a word goes on after the list that is being read
abbrev pub list_mode : List Below → Mode
list_mode [] = mode.Command
list_mode (below.Pipe p ∷ b) = list_mode b
list_mode (below.Function x n ∷ b) = list_mode b
list_mode (below.Command ps m n ∷ b) = m
list_mode (below.Backquote ps m n ∷ b) = m
list_mode (f ∷ b) = mode.Command

-- how the next token is read after the parts that are being read
abbrev pub parts_mode : Below → Mode
parts_mode (below.Argument c) = mode.Arguments
parts_mode (below.Assign x c) = mode.Prefix
parts_mode (below.Redirect fd o h) = host_mode h
parts_mode (below.ForWord x ws) = mode.Arguments
parts_mode (below.Pattern c ws) = mode.Arguments
parts_mode (below.Double ps m) = m
parts_mode (below.Braces ps x o c m) = m
parts_mode (below.Arith ps m) = m
parts_mode (below.Body n hs g) = cut_mode (gap_mode g) hs
parts_mode f = mode.Command

abbrev pub top_mode : List Below → Mode
top_mode [] = mode.Command
top_mode (f ∷ b) = parts_mode f

-- the mode of a newline, before bodies
abbrev pub newline_mode : Now → Mode
newline_mode (now.Gap g) = gap_mode g
newline_mode n = mode.Command

abbrev pub other_end_mode : Now → List Below → Mode
other_end_mode (now.Parts ps) b = top_mode b
other_end_mode n b = list_mode b

-- the mode after an end
abbrev pub end_mode : Now → List Below → List Due → End → Mode
end_mode n b due end.Newline = cut_mode (newline_mode n) due
end_mode (now.ForName x) b due end.Word = mode.Command
end_mode n b due e = other_end_mode n b

abbrev pub due_mode : Now → Mode
due_mode (now.Due h hs g) = cut_mode (gap_mode g) hs
due_mode n = mode.Command

abbrev pub delimiter_mode : Now → Mode
delimiter_mode (now.Delimiter fd strip h) = host_mode h
delimiter_mode n = mode.Command

-- what a `)` ends
abbrev pub list_close : List Below → Token
list_close [] = token.Operator op.Close
list_close (below.Pipe p ∷ b) = list_close b
list_close (below.Function x n ∷ b) = list_close b
list_close (below.Command ps m n ∷ b) = token.End end.List m
list_close (f ∷ b) = token.Operator op.Close

abbrev pub close : Now → List Below → Token
close (now.Named x) b = token.Operator op.Close
close (now.Patterns c ws) b = token.Operator op.Close
close n b = list_close b

abbrev pub open_op : Now → Op
open_op (now.Gap (gap.Arms c)) = op.OpenPattern
open_op n = op.Open

abbrev pub pipe_op : Now → Op
pipe_op (now.Patterns c ws) = op.PipePattern
pipe_op n = op.Pipe

abbrev pub in_op : Now → Op
in_op (now.Gap (gap.In w)) = op.CaseIn
in_op n = op.In

abbrev pub told_op : Now → List Below → Op → Token
told_op n b op.Close = close n b
told_op n b op.Open = token.Operator (open_op n)
told_op n b op.Pipe = token.Operator (pipe_op n)
told_op n b op.In = token.Operator (in_op n)
told_op n b o = token.Operator o

abbrev pub told : Now → List Below → List Due → Token → Token
told n b due (token.Operator o) = told_op n b o
told n b due (token.End e m) = token.End e (end_mode n b due e)
told n b due (token.Delimiter x q m) = token.Delimiter x q (delimiter_mode n)
told n b due (token.Verbatim x m) = token.Verbatim x (due_mode n)
told n b due t = t
