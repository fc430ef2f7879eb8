-- How tokens are written. A token that stands between words has a blank behind it, so that nothing runs into it; what belongs
-- to a word has none.
use Rattle.std.specs.Prelude.{ℕ, Bool, true, false, ◌==◌, ◌||◌, List, [], ◌∷◌, ◌++◌, Option, Some, None, codes, if◌then◌else◌}
use Rattle.sh_syntax.specs.declared.tree.ParamOp.{ParamOp}
use Rattle.sh_syntax.specs.declared.tree.ParamOp.TheVariants as param_op
use Rattle.sh_syntax.specs.declared.tree.RedirOp.{RedirOp}
use Rattle.sh_syntax.specs.declared.tree.RedirOp.TheVariants as redir_op
use Rattle.sh_lexer.specs.declared.token.Token.{Token}
use Rattle.sh_lexer.specs.declared.token.Token.TheVariants as token
use Rattle.sh_lexer.specs.declared.token.Op.{Op}
use Rattle.sh_lexer.specs.declared.token.Op.TheVariants as op
use Rattle.sh_lexer.specs.declared.token.Bit.{Bit}
use Rattle.sh_lexer.specs.declared.token.Bit.TheVariants as bit
use Rattle.sh_lexer.specs.declared.token.Opener.{Opener}
use Rattle.sh_lexer.specs.declared.token.Opener.TheVariants as opener
use Rattle.sh_lexer.specs.declared.token.End.{End}
use Rattle.sh_lexer.specs.declared.token.End.TheVariants as end
use Rattle.sh_lexer.specs.Lexes.{Source, source}

-- ---- operators (POSIX.1-2017, XCU 2.4, 2.10.2)

abbrev pub op_text : Op → List ℕ
op_text op.AndIf = codes "&&"
op_text op.OrIf = codes "||"
op_text op.Semi = codes ";"
op_text op.DoubleSemi = codes ";;"
op_text op.Pipe = codes "|"
op_text op.PipePattern = codes "|"
op_text op.Open = codes "("
op_text op.OpenPattern = codes "("
op_text op.Close = codes ")"
op_text op.Bang = codes "!"
op_text op.LeftBrace = codes "{"
op_text op.RightBrace = codes "}"
op_text op.Case = codes "case"
op_text op.Do = codes "do"
op_text op.Done = codes "done"
op_text op.Elif = codes "elif"
op_text op.Else = codes "else"
op_text op.Esac = codes "esac"
op_text op.Fi = codes "fi"
op_text op.For = codes "for"
op_text op.If = codes "if"
op_text op.In = codes "in"
op_text op.CaseIn = codes "in"
op_text op.Then = codes "then"
op_text op.Until = codes "until"
op_text op.While = codes "while"

-- ---- redirections (XCU 2.7)

abbrev pub redir_text : RedirOp → List ℕ
redir_text redir_op.Read = codes "<"
redir_text redir_op.Write = codes ">"
redir_text redir_op.Clobber = codes ">|"
redir_text redir_op.Append = codes ">>"
redir_text redir_op.DupIn = codes "<&"
redir_text redir_op.DupOut = codes ">&"
redir_text redir_op.Here = codes "<<"

-- the descriptor that is meant where none is written
abbrev pub usual_descriptor : RedirOp → ℕ
usual_descriptor redir_op.Read = 0
usual_descriptor redir_op.DupIn = 0
usual_descriptor redir_op.Here = 0
usual_descriptor o = 1

-- the digit of a descriptor; there are three
abbrev pub digit_of : ℕ → ℕ
digit_of fd = if fd == 0 then 48 else (if fd == 1 then 49 else 50)

-- one digit, or none
abbrev pub descriptor_text : ℕ → RedirOp → List ℕ
descriptor_text fd o = if fd == usual_descriptor o then [] else digit_of fd ∷ []

abbrev pub here_text : Bool → List ℕ
here_text true = codes "<<-"
here_text false = codes "<<"

-- ---- parts of words (XCU 2.2, 2.6.2)

abbrev pub bit_text : Bit → List ℕ
bit_text (bit.Piece x) = x
bit_text (bit.Sum x n) = x
bit_text (bit.Escaped b) = 92 ∷ b ∷ []
bit_text (bit.Single x) = 39 ∷ x ++ 39 ∷ []
bit_text (bit.Value x) = 36 ∷ x

abbrev pub colon_text : Bool → List ℕ
colon_text true = 58 ∷ []
colon_text false = []

abbrev pub param_op_text : ParamOp → List ℕ
param_op_text param_op.Value = []
param_op_text param_op.Length = []
param_op_text param_op.Default = 45 ∷ []
param_op_text param_op.Assign = 61 ∷ []
param_op_text param_op.Error = 63 ∷ []
param_op_text param_op.Alternative = 43 ∷ []
param_op_text param_op.SmallSuffix = 37 ∷ []
param_op_text param_op.LargeSuffix = 37 ∷ 37 ∷ []
param_op_text param_op.SmallPrefix = 35 ∷ []
param_op_text param_op.LargePrefix = 35 ∷ 35 ∷ []

-- `${x}` or `${#x}`
abbrev pub param_text : List ℕ → Bool → List ℕ
param_text x true = codes "${#" ++ x ++ 125 ∷ []
param_text x false = codes "${" ++ x ++ 125 ∷ []

abbrev pub opener_text : Opener → List ℕ
opener_text opener.Double = 34 ∷ []
opener_text (opener.Braces x o colon quoted) = codes "${" ++ x ++ (colon_text colon ++ param_op_text o)
opener_text opener.Command = codes "$("
opener_text opener.Arith = codes "$(("
opener_text opener.Backquote = 96 ∷ []

abbrev pub end_text : End → List ℕ
end_text end.Word = []
end_text end.Quote = 34 ∷ []
end_text end.Brace = 125 ∷ []
end_text end.Arith = codes "))"
end_text end.List = 41 ∷ []
end_text end.Text = []
end_text end.Newline = 10 ∷ []

-- ---- what stands behind a token

-- a blank before a text that isn't empty
abbrev pub gap : List ℕ → List ℕ
gap [] = []
gap (b ∷ r) = 32 ∷ b ∷ r

abbrev pub opener_left : Opener → List ℕ → List ℕ
opener_left opener.Command c = 32 ∷ c
opener_left o c = c

abbrev pub end_left : End → List ℕ → List ℕ
end_left end.Word c = gap c
end_left e c = c

-- the text that is left when the token has been read, where c is the text of the tokens after it
abbrev pub left : Token → List ℕ → List ℕ
left (token.Operator o) c = 32 ∷ c
left (token.Redirect fd o) c = 32 ∷ c
left (token.Here fd strip) c = 32 ∷ c
left (token.Function x) c = 32 ∷ c
left (token.Open o m) c = opener_left o c
left (token.End e m) c = end_left e c
left t c = c

abbrev pub token_text : Token → List ℕ
token_text (token.Operator o) = op_text o
token_text (token.Part b) = bit_text b
token_text (token.Param x l) = param_text x l
token_text (token.Open o m) = opener_text o
token_text (token.End e m) = end_text e
token_text (token.Assign x) = x ++ 61 ∷ []
token_text (token.Redirect fd o) = descriptor_text fd o ++ redir_text o
token_text (token.Here fd strip) = descriptor_text fd redir_op.Here ++ here_text strip
token_text (token.Function x) = x
token_text t = []

abbrev pub written : Token → List ℕ → List ℕ
written t c = token_text t ++ left t c

-- ---- backquotes (XCU 2.6.3)

abbrev pub guard_text : ℕ → List ℕ
guard_text b = if b == 92 || b == 96 then 92 ∷ b ∷ [] else b ∷ []

-- a text with a backslash before each backquote and backslash in it
unfoldable pub guarded : List ℕ → List ℕ
guarded [] = []
guarded (b ∷ r) = guard_text b ++ guarded r

-- The text in backquotes has been written, and the one round it: what stands before both.
abbrev pub in_backquotes : List ℕ → List (Option (List ℕ)) → Source
in_backquotes x [] = source (96 ∷ guarded x ++ 96 ∷ []) []
in_backquotes x (None ∷ outer) = source (96 ∷ guarded x ++ 96 ∷ []) outer
in_backquotes x (Some r ∷ outer) = source (96 ∷ guarded x ++ 96 ∷ r) outer

-- ---- lists of tokens

-- The text ends: what was written stands round it.
abbrev pub end_of : Source → Source
end_of s = source [] (Some s.text ∷ s.outer)

-- the text with one more token in front
abbrev pub before : Token → Source → Source
before (token.End end.Text m) s = end_of s
before (token.Open opener.Backquote m) s = in_backquotes s.text s.outer
before t s = source (written t s.text) s.outer

abbrev pub onto : List Token → Source → Source
onto [] s = s
onto (t ∷ ts) s = before t (onto ts s)

-- The tokens as a text, and what stands round it where they begin in a text in backquotes.
abbrev pub source_of : List Token → Source
source_of ts = onto ts (source [] [])
