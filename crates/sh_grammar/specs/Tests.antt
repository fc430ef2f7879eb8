-- Tests of tokens.
use Rattle.std.specs.Prelude.{ℕ, Bool, true, false, ◌&&◌, ◌==◌}
use Rattle.std.specs.Str.{bytes_eq}
use Rattle.sh_lexer.specs.declared.token.Token.{Token}
use Rattle.sh_lexer.specs.declared.token.Token.TheVariants as token
use Rattle.sh_lexer.specs.declared.token.Op.{Op}
use Rattle.sh_lexer.specs.declared.token.Op.TheVariants as op
use Rattle.sh_lexer.specs.declared.token.End.{End}
use Rattle.sh_lexer.specs.declared.token.End.TheVariants as end
use Rattle.sh_lexer.specs.declared.token.Here.{Here}
use Rattle.sh_lexer.specs.declared.token.Mode.{Mode}
use Rattle.sh_lexer.specs.declared.token.Mode.TheVariants as mode

abbrev pub same_bool : Bool → Bool → Bool
same_bool true b = b
same_bool false true = false
same_bool false false = true

abbrev pub same_here : Here → Here → Bool
same_here a b = bytes_eq a.delimiter b.delimiter && (same_bool a.strip b.strip && same_bool a.quoted b.quoted)

abbrev pub same_mode : Mode → Mode → Bool
same_mode mode.Command mode.Command = true
same_mode mode.Prefix mode.Prefix = true
same_mode mode.Arguments mode.Arguments = true
same_mode mode.Pattern mode.Pattern = true
same_mode mode.Word mode.Word = true
same_mode mode.Quotes mode.Quotes = true
same_mode (mode.Braces a) (mode.Braces b) = same_bool a b
same_mode (mode.Arith a) (mode.Arith b) = a == b
same_mode mode.Body mode.Body = true
same_mode mode.Delimiter mode.Delimiter = true
same_mode (mode.Cut a) (mode.Cut b) = same_here a b
same_mode m n = false

abbrev pub end_code : End → ℕ
end_code end.Word = 0
end_code end.Quote = 1
end_code end.Brace = 2
end_code end.Arith = 3
end_code end.List = 4
end_code end.Text = 5
end_code end.Newline = 6

abbrev pub op_code : Op → ℕ
op_code op.AndIf = 0
op_code op.OrIf = 1
op_code op.Semi = 2
op_code op.DoubleSemi = 3
op_code op.Pipe = 4
op_code op.PipePattern = 5
op_code op.Open = 6
op_code op.OpenPattern = 7
op_code op.Close = 8
op_code op.Bang = 9
op_code op.LeftBrace = 10
op_code op.RightBrace = 11
op_code op.Case = 12
op_code op.Do = 13
op_code op.Done = 14
op_code op.Elif = 15
op_code op.Else = 16
op_code op.Esac = 17
op_code op.Fi = 18
op_code op.For = 19
op_code op.If = 20
op_code op.In = 21
op_code op.CaseIn = 22
op_code op.Then = 23
op_code op.Until = 24
op_code op.While = 25

abbrev pub is_op : Op → Token → Bool
is_op o (token.Operator p) = op_code o == op_code p
is_op o t = false

abbrev pub is_end : End → Mode → Token → Bool
is_end e m (token.End f n) = end_code e == end_code f && same_mode m n
is_end e m t = false

-- an operator that may end a list
abbrev pub ends_list : Op → Bool
ends_list op.RightBrace = true
ends_list op.Close = true
ends_list op.Then = true
ends_list op.Elif = true
ends_list op.Else = true
ends_list op.Fi = true
ends_list op.Do = true
ends_list op.Done = true
ends_list op.DoubleSemi = true
ends_list op.Esac = true
ends_list o = false
