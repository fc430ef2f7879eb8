-- Tokens, texts that are cut out, and lines.
use Rattle.std.proofs.Common.{◌≡◌, true, false, [], ◌∷◌, Some, refl}
use Rattle.std.specs.Prelude.{codes}
use Rattle.sh_syntax.specs.declared.fault.Fault.TheVariants.{Unexpected, BadParameter}
use Rattle.sh_syntax.specs.declared.tree.RedirOp.TheVariants as redir_op
use Rattle.sh_lexer.specs.declared.token.Token.TheVariants as token
use Rattle.sh_lexer.specs.declared.token.Op.TheVariants as op
use Rattle.sh_lexer.specs.declared.token.Bit.TheVariants as bit
use Rattle.sh_lexer.specs.declared.token.End.TheVariants as end
use Rattle.sh_lexer.specs.declared.token.Here.{Here}
use Rattle.sh_lexer.specs.declared.token.Mode.TheVariants as mode
use Rattle.sh_lexer.specs.declared.place.How.TheVariants as how
use Rattle.sh_lexer.specs.Bytes.{piece, peel, skip, special, number}
use Rattle.sh_lexer.specs.Cut.{backquoted, body_of, in_delimiter, in_single, delimited}
use Rattle.sh_lexer.specs.Lex.{got, bad, lex, sum, between, plain_at, greater, special_at, dollar, in_braces, bit_at, in_word, in_arith}
use Rattle.sh_lexer.specs.Trail as trail
use Rattle.sh_lexer.specs.Trail.{Trail, beginning, moved, line_of, size, source_of, left}

-- ---- tokens

reserved_word : lex mode.Command (codes " if x") ≡ got (token.Operator op.If) (codes " x")
unfolding skip between plain_at piece special
reserved_word = refl

no_reserved_word : lex mode.Arguments (codes "if") ≡ got (token.Part (bit.Piece (codes "if"))) []
unfolding skip between plain_at piece special
no_reserved_word = refl

assignment : lex mode.Prefix (codes "x=1") ≡ got (token.Assign (codes "x")) (codes "1")
unfolding skip between plain_at piece special
assignment = refl

descriptor : lex mode.Arguments (codes "02>f") ≡ got (token.Redirect 2 redir_op.Write) (codes "f")
unfolding skip between plain_at piece special number greater peel
descriptor = refl

descriptor_above : lex mode.Arguments (codes "3>f") ≡ bad Unexpected
unfolding skip between plain_at piece special number
descriptor_above = refl

bad_parameter : lex mode.Word (codes "${01}") ≡ bad BadParameter
unfolding peel in_word bit_at special special_at dollar in_braces piece
bad_parameter = refl

arithmetic_ends : lex (mode.Arith 0) (codes "))") ≡ got (token.End end.Arith mode.Command) []
unfolding peel in_arith special
arithmetic_ends = refl

brackets_are_counted : sum 0 (codes "(1))") ≡ (codes "(1))", 0, [])
unfolding sum special peel
brackets_are_counted = refl

-- ---- texts that are cut out

inside_backquotes : backquoted (codes "a\\`b\\c`d") ≡ (codes "a`b\\c", Some (codes "d"))
unfolding backquoted
inside_backquotes = refl

delimiter_is_quoted : in_delimiter [] false (codes "E'F' x") ≡ delimited (codes "EF") true (codes " x")
unfolding in_delimiter in_single
delimiter_is_quoted = refl

here : Here
here = record { delimiter = codes "E"; strip = false; quoted = false }

lines_are_joined_first : body_of here [] [] (codes "a\\\nb\nE\nx") ≡ Some (codes "ab\n", codes "x")
unfolding body_of here
lines_are_joined_first = refl

-- ---- lines

third_byte : trail.origin (how.Body false) 2 (codes "a\\\nb\nE\n") ≡ codes "\nE\n"
unfolding trail.in_body
third_byte = refl

behind_joined_lines : trail.origin (how.Body false) 1 (codes "a\\\nb\nE\n") ≡ codes "b\nE\n"
unfolding trail.in_body
behind_joined_lines = refl

behind_a_tab : trail.origin (how.Body true) 2 (codes "a\n\tb\n") ≡ codes "b\n"
unfolding trail.in_body
behind_a_tab = refl

behind_a_backslash_that_goes : trail.origin how.Backquotes 2 (codes "a\\`b`") ≡ codes "b`"
unfolding trail.in_backquotes
behind_a_backslash_that_goes = refl

in_a_text_cut_out : trail.line_in (codes "c\nd") 2 (record { text = codes "a\n`c\nd`"; at = 7; ends = true; cutting = record { how = how.Backquotes; start = 3 } } ∷ []) ≡ 3
unfolding trail.in_backquotes
in_a_text_cut_out = refl
