-- One token, by cases on the bytes (POSIX.1-2017, XCU 2.2 and 2.3).
use Rattle.std.specs.Prelude.{ℕ, Bool, true, false, not, ◌&&◌, ◌||◌, ◌==◌, ◌+◌, pred, nat_le, List, [], ◌∷◌, Option, Some, None, if◌then◌else◌, codes}
use Rattle.std.specs.Str.{bytes_eq}
use Rattle.sh_syntax.specs.declared.fault.Fault.{Fault}
use Rattle.sh_syntax.specs.declared.fault.Fault.TheVariants.{Nul, Unexpected, Unclosed, BadParameter}
use Rattle.sh_syntax.specs.declared.fault.Opening.TheVariants as opening
use Rattle.sh_syntax.specs.declared.tree.ParamOp.{ParamOp}
use Rattle.sh_syntax.specs.declared.tree.ParamOp.TheVariants as param_op
use Rattle.sh_syntax.specs.declared.tree.RedirOp.{RedirOp}
use Rattle.sh_syntax.specs.declared.tree.RedirOp.TheVariants as redir_op
use Rattle.sh_lexer.specs.declared.token.Token.{Token}
use Rattle.sh_lexer.specs.declared.token.Token.TheVariants as token
use Rattle.sh_lexer.specs.declared.token.Op.{Op}
use Rattle.sh_lexer.specs.declared.token.Op.TheVariants as op
use Rattle.sh_lexer.specs.declared.token.Bit.TheVariants as bit
use Rattle.sh_lexer.specs.declared.token.Opener.TheVariants as opener
use Rattle.sh_lexer.specs.declared.token.End.{End}
use Rattle.sh_lexer.specs.declared.token.End.TheVariants as end
use Rattle.sh_lexer.specs.declared.token.Here.{Here}
use Rattle.sh_lexer.specs.declared.token.Mode.{Mode}
use Rattle.sh_lexer.specs.declared.token.Mode.TheVariants as mode
use Rattle.sh_lexer.specs.Bytes.{is_digit, begins_name, in_name, is_name, ends_word, plain, quoted_plain, braces_plain, quoted_braces_plain, body_plain, peel, skip, piece, single, has_nul, number, joins, special}
use Rattle.sh_lexer.specs.Cut.{backquoted, body_of, Delimited, delimited, not_delimited, in_delimiter}

-- a token and the bytes after it; or one after which a text that was cut out is read first, and what follows that text, unless
-- its end is missing; or the end of the text; or why no token can be formed
pub data Lexed : Type 0 where
  got : Token → List ℕ → Lexed
  opens : Token → List ℕ → Option (List ℕ) → Lexed
  done : Lexed
  bad : Fault → Lexed

-- an end, whose next mode the grammar says
abbrev pub ends : End → List ℕ → Lexed
ends e r = got (token.End e mode.Command) r

abbrev pub plain_text : List ℕ × List ℕ → Lexed
plain_text p = got (token.Part (bit.Piece p.0)) p.1

abbrev pub begins_nul : List ℕ → Bool
begins_nul [] = false
begins_nul (b ∷ r) = b == 0

-- plain bytes that may be newlines: with a NUL behind them they are no token
abbrev pub quoted_text : List ℕ × List ℕ → Lexed
quoted_text p = if begins_nul p.1 then bad Nul else plain_text p

-- a byte that stands for itself though others like it don't
abbrev pub alone : ℕ → List ℕ → Lexed
alone b r = got (token.Part (bit.Piece (b ∷ []))) r

-- ---- parameters (XCU 2.5, 2.6.2)

-- the word of `${x-` is read as in double quotes where the expansion is
abbrev pub is_quoted : Mode → Bool
is_quoted mode.Quotes = true
is_quoted (mode.Braces q) = q
is_quoted (mode.Arith n) = true
is_quoted mode.Body = true
is_quoted m = false

abbrev pub braces : Mode → List ℕ → ParamOp → Bool → Bool → List ℕ → Lexed
braces m x o colon quoted r = got (token.Open (opener.Braces x o colon quoted) m) r

-- after the `:` of an operator
abbrev pub colon_op : Mode → List ℕ → List ℕ → Lexed
colon_op m x [] = bad (Unclosed opening.Braces)
colon_op m x (b ∷ r) =
    if b == 45 then braces m x param_op.Default true (is_quoted m) r else (
    if b == 61 then braces m x param_op.Assign true (is_quoted m) r else (
    if b == 63 then braces m x param_op.Error true (is_quoted m) r else (
    if b == 43 then braces m x param_op.Alternative true (is_quoted m) r else (
    if b == 0 then bad Nul else bad BadParameter))))

-- after a `%` or `#`, which may be doubled
abbrev pub doubled : Mode → List ℕ → ℕ → ParamOp → ParamOp → List ℕ → Lexed
doubled m x c small large [] = braces m x small false false []
doubled m x c small large (b ∷ r) = if b == c then braces m x large false false r else braces m x small false false (b ∷ r)

-- after the name in braces
unfoldable pub param_op_at : Mode → List ℕ → List ℕ → Lexed
param_op_at m x [] = bad (Unclosed opening.Braces)
param_op_at m x (b ∷ r) =
    if b == 125 then got (token.Param x false) r else (
    if b == 58 then colon_op m x (peel r) else (
    if b == 45 then braces m x param_op.Default false (is_quoted m) r else (
    if b == 61 then braces m x param_op.Assign false (is_quoted m) r else (
    if b == 63 then braces m x param_op.Error false (is_quoted m) r else (
    if b == 43 then braces m x param_op.Alternative false (is_quoted m) r else (
    if b == 37 then doubled m x 37 param_op.SmallSuffix param_op.LargeSuffix (peel r) else (
    if b == 35 then doubled m x 35 param_op.SmallPrefix param_op.LargePrefix (peel r) else (
    if b == 0 then bad Nul else bad BadParameter))))))))

-- after the name in `${#x`
abbrev pub length_end : List ℕ → List ℕ → Lexed
length_end x [] = bad (Unclosed opening.Braces)
length_end x (b ∷ r) = if b == 125 then got (token.Param x true) r else (if b == 0 then bad Nul else bad BadParameter)

-- the digits of a positional parameter begin with no zero
abbrev pub positional : List ℕ → Bool
positional [] = false
positional (b ∷ r) = not (b == 48)

abbrev pub length_digits : List ℕ × List ℕ → Lexed
length_digits p = if positional p.0 then length_end p.0 p.1 else bad BadParameter

abbrev pub length_name : List ℕ × List ℕ → Lexed
length_name p = length_end p.0 p.1

-- after `${#`: the length of a parameter, or the parameter `#`
unfoldable pub hash : Mode → List ℕ → Lexed
hash m [] = bad (Unclosed opening.Braces)
hash m (b ∷ r) =
    if begins_name b then length_name (piece in_name (b ∷ r)) else (
    if is_digit b then length_digits (piece is_digit (b ∷ r)) else param_op_at m (35 ∷ []) (b ∷ r))

abbrev pub zero_alone : List ℕ → Bool
zero_alone [] = false
zero_alone (b ∷ []) = true
zero_alone (b ∷ c ∷ r) = false

abbrev pub digits_param : Mode → List ℕ × List ℕ → Lexed
digits_param m p = if positional p.0 || zero_alone p.0 then param_op_at m p.0 p.1 else bad BadParameter

abbrev pub name_param : Mode → List ℕ × List ℕ → Lexed
name_param m p = param_op_at m p.0 p.1

-- `@`, `*` and `?`
abbrev pub special_parameter : ℕ → Bool
special_parameter b = b == 64 || b == 42 || b == 63

-- after `${`
unfoldable pub in_braces : Mode → List ℕ → Lexed
in_braces m [] = bad (Unclosed opening.Braces)
in_braces m (b ∷ r) =
    if begins_name b then name_param m (piece in_name (b ∷ r)) else (
    if is_digit b then digits_param m (piece is_digit (b ∷ r)) else (
    if b == 35 then hash m (peel r) else (
    if special_parameter b then param_op_at m (b ∷ []) (peel r) else (
    if b == 0 then bad Nul else bad BadParameter))))

-- after `$(`
abbrev pub parenthesis : Mode → List ℕ → Lexed
parenthesis m [] = got (token.Open opener.Command m) []
parenthesis m (b ∷ r) = if b == 40 then got (token.Open opener.Arith m) r else got (token.Open opener.Command m) (b ∷ r)

abbrev pub value : List ℕ × List ℕ → Lexed
value p = got (token.Part (bit.Value p.0)) p.1

-- `$$`, `$!` and `$-` aren't known
abbrev pub unknown_parameter : ℕ → Bool
unknown_parameter b = b == 36 || b == 33 || b == 45

-- after a `$`, in a word that goes on in this mode
unfoldable pub dollar : Mode → List ℕ → Lexed
dollar m [] = alone 36 []
dollar m (b ∷ r) =
    if b == 40 then parenthesis m (peel r) else (
    if b == 123 then in_braces m (peel r) else (
    if begins_name b then value (piece in_name (b ∷ r)) else (
    if is_digit b || special_parameter b || b == 35 then value (b ∷ [], r) else (
    if unknown_parameter b then bad BadParameter else alone 36 (b ∷ r)))))

-- ---- quoting (XCU 2.2)

abbrev pub single_text : Option (List ℕ × List ℕ) → Lexed
single_text None = bad (Unclosed opening.Single)
single_text (Some p) = if has_nul p.0 then bad Nul else got (token.Part (bit.Single p.0)) p.1

-- After a backslash. At the very end of the text it stands for itself.
abbrev pub escaped : List ℕ → Lexed
escaped [] = alone 92 []
escaped (b ∷ r) = if b == 0 then bad Nul else got (token.Part (bit.Escaped b)) r

-- after a backslash that quotes only some bytes
abbrev pub escaped_if : (ℕ → Bool) → List ℕ → Lexed
escaped_if p [] = alone 92 []
escaped_if p (b ∷ r) = if p b then got (token.Part (bit.Escaped b)) r else alone 92 (b ∷ r)

-- `$`, backquote and backslash
abbrev pub escapable : ℕ → Bool
escapable b = b == 36 || b == 92 || b == 96

-- and `"`
abbrev pub quotes_escapable : ℕ → Bool
quotes_escapable b = escapable b || b == 34

-- and `}`
abbrev pub braces_escapable : ℕ → Bool
braces_escapable b = quotes_escapable b || b == 125

abbrev pub backquote : Mode → List ℕ × Option (List ℕ) → Lexed
backquote m p = opens (token.Open opener.Backquote m) p.0 p.1

-- NUL, `$`, backquote and backslash, in a word that goes on in this mode
unfoldable pub special_at : Mode → (List ℕ → Lexed) → ℕ → List ℕ → Lexed
special_at m backslash b r =
    if b == 36 then dollar m (peel r) else (
    if b == 96 then backquote m (backquoted r) else (
    if b == 92 then backslash r else bad Nul))

-- plain bytes, where the first byte begins a piece of them
unfoldable pub text_if : (ℕ → Bool) → List ℕ → Lexed
text_if p [] = bad Unexpected
text_if p (b ∷ r) = if p b then quoted_text (piece p (b ∷ r)) else bad Unexpected

-- a part of a word, where quotes quote
unfoldable pub bit_at : Mode → (ℕ → Bool) → List ℕ → Lexed
bit_at m p [] = bad Unexpected
bit_at m p (b ∷ r) =
    if special b then special_at m escaped b r else (
    if b == 39 then single_text (single r) else (
    if b == 34 then got (token.Open opener.Double m) r else (
    text_if p (b ∷ r))))

unfoldable pub in_word : List ℕ → Lexed
in_word t = if ends_word t then ends end.Word t else bit_at mode.Word plain t

unfoldable pub in_quotes : List ℕ → Lexed
in_quotes [] = done
in_quotes (b ∷ r) =
    if special b then special_at mode.Quotes (escaped_if quotes_escapable) b r else (
    if b == 34 then ends end.Quote r else quoted_text (piece quoted_plain (b ∷ r)))

-- the word of `${x-`
unfoldable pub in_plain_braces : List ℕ → Lexed
in_plain_braces [] = done
in_plain_braces (b ∷ r) = if b == 125 then ends end.Brace r else bit_at (mode.Braces false) braces_plain (b ∷ r)

unfoldable pub in_quoted_braces : List ℕ → Lexed
in_quoted_braces [] = done
in_quoted_braces (b ∷ r) =
    if special b then special_at (mode.Braces true) (escaped_if braces_escapable) b r else (
    if b == 125 then ends end.Brace r else (
    if b == 34 then got (token.Open opener.Double (mode.Braces true)) r else quoted_text (piece quoted_braces_plain (b ∷ r))))

abbrev pub in_word_of : Bool → List ℕ → Lexed
in_word_of true t = in_quoted_braces t
in_word_of false t = in_plain_braces t

-- ---- arithmetic (XCU 2.6.4)

abbrev pub closes : List ℕ → Bool
closes [] = false
closes (b ∷ r) = b == 41

abbrev pub sum_onto : ℕ → List ℕ × ℕ × List ℕ → List ℕ × ℕ × List ℕ
sum_onto b p = (b ∷ p.0, p.1, p.2)

abbrev pub close_bracket : ℕ → ℕ
close_bracket n = pred n

-- Plain bytes with so many brackets open before them, how many are open after them, and the text after that. Where none is
-- open a `)` ends the expression if another follows, and else stands for itself.
unfoldable pub sum : ℕ → List ℕ → List ℕ × ℕ × List ℕ
sum n [] = ([], n, [])
sum n (b ∷ []) = elim (special b) [ true ↦ ([], n, b ∷ []) | false ↦ (b ∷ [], n, []) ]
sum n (b ∷ c ∷ r) = elim (joins b c) [
  | true ↦ sum n r
  | false ↦ elim (special b) [
    | true ↦ ([], n, b ∷ c ∷ r)
    | false ↦ elim (b == 40) [
      | true ↦ sum_onto b (sum (n + 1) (c ∷ r))
      | false ↦ elim (b == 41 && (n == 0 && closes (peel (c ∷ r)))) [
        | true ↦ ([], n, b ∷ c ∷ r)
        | false ↦ elim (b == 41) [ true ↦ sum_onto b (sum (close_bracket n) (c ∷ r)) | false ↦ sum_onto b (sum n (c ∷ r)) ]
      ]
    ]
  ]
]

abbrev pub sum_text : List ℕ × ℕ × List ℕ → Lexed
sum_text p = if begins_nul p.2 then bad Nul else got (token.Part (bit.Sum p.0 p.1)) p.2

abbrev pub after_first : List ℕ → List ℕ
after_first [] = []
after_first (b ∷ r) = r

unfoldable pub in_arith : ℕ → List ℕ → Lexed
in_arith n [] = done
in_arith n (b ∷ r) =
    if special b then special_at (mode.Arith n) (escaped_if escapable) b r else (
    if b == 41 && (n == 0 && closes (peel r)) then ends end.Arith (after_first (peel r)) else sum_text (sum n (b ∷ r)))

-- ---- here-documents (XCU 2.7.4)

unfoldable pub in_body : List ℕ → Lexed
in_body [] = done
in_body (b ∷ r) =
    if special b then special_at mode.Body (escaped_if escapable) b r else quoted_text (piece body_plain (b ∷ r))

abbrev pub verbatim : List ℕ × List ℕ → Lexed
verbatim p = if has_nul p.0 then bad Nul else got (token.Verbatim p.0 mode.Command) p.1

abbrev pub cut : Here → Option (List ℕ × List ℕ) → Lexed
cut h None = bad (Unclosed opening.Here)
cut h (Some p) = if h.quoted then verbatim p else opens token.Body p.0 (Some p.1)

abbrev pub delimiter_text : Delimited → Lexed
delimiter_text (delimited x q r) = got (token.Delimiter x q mode.Command) r
delimiter_text (not_delimited f) = bad f

-- ---- operators (XCU 2.10.2)

-- after an operator's first byte, where a second one makes it another operator
abbrev pub two : ℕ → Lexed → Op → List ℕ → Lexed
two c first second [] = first
two c first second (b ∷ r) = if b == c then got (token.Operator second) r else first

abbrev pub operator : Op → List ℕ → Lexed
operator o r = got (token.Operator o) r

abbrev pub redirect : ℕ → RedirOp → List ℕ → Lexed
redirect fd o r = got (token.Redirect fd o) r

-- after `<<`
abbrev pub here : ℕ → List ℕ → Lexed
here fd [] = got (token.Here fd false) []
here fd (b ∷ r) = if b == 45 then got (token.Here fd true) r else got (token.Here fd false) (b ∷ r)

-- after `<`
unfoldable pub less : ℕ → List ℕ → Lexed
less fd [] = redirect fd redir_op.Read []
less fd (b ∷ r) =
    if b == 60 then here fd (peel r) else (
    if b == 38 then redirect fd redir_op.DupIn r else (
    if b == 62 then bad Unexpected else redirect fd redir_op.Read (b ∷ r)))

-- after `>`
unfoldable pub greater : ℕ → List ℕ → Lexed
greater fd [] = redirect fd redir_op.Write []
greater fd (b ∷ r) =
    if b == 62 then redirect fd redir_op.Append r else (
    if b == 38 then redirect fd redir_op.DupOut r else (
    if b == 124 then redirect fd redir_op.Clobber r else redirect fd redir_op.Write (b ∷ r)))

-- Digits directly before `<` or `>` are the number of a descriptor (XCU 2.7).
abbrev pub numbered : Lexed → ℕ → List ℕ → Lexed
numbered word n [] = word
numbered word n (b ∷ r) =
    if b == 60 then (if nat_le n 2 then less n (peel r) else bad Unexpected) else (
    if b == 62 then (if nat_le n 2 then greater n (peel r) else bad Unexpected) else word)

abbrev pub numbered_text : Lexed → List ℕ × List ℕ → Lexed
numbered_text word p = numbered word (number 0 p.0) p.1

-- ---- the first piece of a word

abbrev pub reserved : List ℕ → Option Op
reserved w =
    if bytes_eq w (codes "!") then Some op.Bang else (
    if bytes_eq w (codes "{") then Some op.LeftBrace else (
    if bytes_eq w (codes "}") then Some op.RightBrace else (
    if bytes_eq w (codes "case") then Some op.Case else (
    if bytes_eq w (codes "do") then Some op.Do else (
    if bytes_eq w (codes "done") then Some op.Done else (
    if bytes_eq w (codes "elif") then Some op.Elif else (
    if bytes_eq w (codes "else") then Some op.Else else (
    if bytes_eq w (codes "esac") then Some op.Esac else (
    if bytes_eq w (codes "fi") then Some op.Fi else (
    if bytes_eq w (codes "for") then Some op.For else (
    if bytes_eq w (codes "if") then Some op.If else (
    if bytes_eq w (codes "in") then Some op.In else (
    if bytes_eq w (codes "then") then Some op.Then else (
    if bytes_eq w (codes "until") then Some op.Until else (
    if bytes_eq w (codes "while") then Some op.While else None)))))))))))))))

-- special built-in utilities (XCU 2.14), whose names are no functions'
abbrev pub special_builtin : List ℕ → Bool
special_builtin w = bytes_eq w (codes ":") || bytes_eq w (codes "break") || bytes_eq w (codes "continue") || bytes_eq w (codes "exit") || bytes_eq w (codes "export")
    || bytes_eq w (codes "readonly") || bytes_eq w (codes "return") || bytes_eq w (codes "set") || bytes_eq w (codes "shift") || bytes_eq w (codes "unset")

abbrev pub opens_parenthesis : List ℕ → Bool
opens_parenthesis [] = false
opens_parenthesis (b ∷ r) = b == 40

-- a word that is a function's name, with a `(` after it
abbrev pub function_or_text : List ℕ × List ℕ → Lexed
function_or_text p =
    if is_name p.0 && (not (special_builtin p.0) && opens_parenthesis (skip p.1)) then got (token.Function p.0) p.1 else plain_text p

abbrev pub reserved_or_text : Option Op → List ℕ × List ℕ → Lexed
reserved_or_text None p = function_or_text p
reserved_or_text (Some o) p = got (token.Operator o) p.1

-- the first word of a command, unless more of it follows
abbrev pub command_text : List ℕ × List ℕ → Lexed
command_text p = if ends_word p.1 then reserved_or_text (reserved p.0) p else plain_text p

-- the first pattern of an arm
abbrev pub pattern_text : List ℕ × List ℕ → Lexed
pattern_text p = if ends_word p.1 && bytes_eq p.0 (codes "esac") then got (token.Operator op.Esac) p.1 else plain_text p

-- a name with `=` behind it
abbrev pub assigned : Lexed → List ℕ → List ℕ → Lexed
assigned word x [] = word
assigned word x (b ∷ r) = if b == 61 then got (token.Assign x) r else word

abbrev pub assigned_text : Lexed → List ℕ × List ℕ → Lexed
assigned_text word p = if is_name p.0 then assigned word p.0 p.1 else word

abbrev pub word_at : Mode → List ℕ → Lexed
word_at mode.Command t = assigned_text (command_text (piece plain t)) (piece in_name t)
word_at mode.Prefix t = assigned_text (plain_text (piece plain t)) (piece in_name t)
word_at mode.Pattern t = pattern_text (piece plain t)
word_at m t = plain_text (piece plain t)

-- plain bytes between words
unfoldable pub plain_at : Mode → ℕ → List ℕ → Lexed
plain_at m b r = if is_digit b then numbered_text (word_at m (b ∷ r)) (piece is_digit (b ∷ r)) else word_at m (b ∷ r)

-- ---- between words

unfoldable pub between : Mode → List ℕ → Lexed
between m [] = done
between m (b ∷ r) =
    if b == 10 then ends end.Newline r else (
    if b == 59 then two 59 (operator op.Semi (peel r)) op.DoubleSemi (peel r) else (
    if b == 38 then two 38 (bad Unexpected) op.AndIf (peel r) else (
    if b == 124 then two 124 (operator op.Pipe (peel r)) op.OrIf (peel r) else (
    if b == 40 then operator op.Open r else (
    if b == 41 then operator op.Close r else (
    if b == 60 then less 0 (peel r) else (
    if b == 62 then greater 1 (peel r) else (
    if plain b then plain_at m b r else bit_at mode.Word plain (b ∷ r)))))))))

unfoldable pub delimiter : List ℕ → Lexed
delimiter t = if ends_word t then between mode.Arguments t else delimiter_text (in_delimiter [] false t)

-- where the next token begins
abbrev pub start : Mode → List ℕ → List ℕ
start mode.Command t = skip t
start mode.Prefix t = skip t
start mode.Arguments t = skip t
start mode.Pattern t = skip t
start mode.Delimiter t = skip t
start (mode.Cut h) t = t
start m t = peel t

-- a token at this place
abbrev pub token_at : Mode → List ℕ → Lexed
token_at mode.Word t = in_word t
token_at mode.Quotes t = in_quotes t
token_at (mode.Braces q) t = in_word_of q t
token_at (mode.Arith n) t = in_arith n t
token_at mode.Body t = in_body t
token_at mode.Delimiter t = delimiter t
token_at (mode.Cut h) t = cut h (body_of h [] [] t)
token_at m t = between m t

abbrev pub lex : Mode → List ℕ → Lexed
lex m t = token_at m (start m t)
