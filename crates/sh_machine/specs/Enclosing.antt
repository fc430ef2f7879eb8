-- What the innermost list was opened for.
use Rattle.std.specs.Prelude.{Bool, true, false, cond, List, [], ◌∷◌, Option, Some, None}
use Rattle.sh_lexer.specs.declared.token.Token.{Token}
use Rattle.sh_lexer.specs.declared.token.Token.TheVariants as token
use Rattle.sh_lexer.specs.declared.token.Op.TheVariants as op
use Rattle.sh_lexer.specs.declared.token.End.TheVariants as end
use Rattle.sh_lexer.specs.declared.token.Mode.{Mode}
use Rattle.sh_lexer.specs.declared.token.Mode.TheVariants as mode
use Rattle.sh_grammar.specs.declared.state.Below.{Below}
use Rattle.sh_grammar.specs.declared.state.Below.TheVariants as below

-- a pipeline and a function's definition stand in the list that is being read
abbrev pub in_list : Below → Bool
in_list (below.Pipe p) = true
in_list (below.Function x n) = true
in_list f = false

abbrev pub list_frame : List Below → Option Below
list_frame [] = None
list_frame (f ∷ b) = cond (in_list f) (list_frame b) (Some f)

-- how a word goes on after the list
abbrev pub mode_in : Option Below → Mode
mode_in None = mode.Command
mode_in (Some (below.Command ps m n)) = m
mode_in (Some (below.Backquote ps m n)) = m
mode_in (Some f) = mode.Command

-- what a `)` ends
abbrev pub close_in : Option Below → Token
close_in None = token.Operator op.Close
close_in (Some (below.Command ps m n)) = token.End end.List m
close_in (Some f) = token.Operator op.Close
