-- Tokens as texts.
use Rattle.std.proofs.Common.{◌≡◌, ℕ, true, false, List, [], ◌∷◌, refl}
use Rattle.std.specs.Prelude.{codes}
use Rattle.sh_syntax.specs.declared.tree.ParamOp.TheVariants as param_op
use Rattle.sh_syntax.specs.declared.tree.RedirOp.TheVariants as redir_op
use Rattle.sh_lexer.specs.declared.token.Token.{Token}
use Rattle.sh_lexer.specs.declared.token.Token.TheVariants as token
use Rattle.sh_lexer.specs.declared.token.Op.TheVariants as op
use Rattle.sh_lexer.specs.declared.token.Bit.TheVariants as bit
use Rattle.sh_lexer.specs.declared.token.Opener.TheVariants as opener
use Rattle.sh_lexer.specs.declared.token.End.TheVariants as end
use Rattle.sh_lexer.specs.declared.token.Mode.TheVariants as mode
use Rattle.sh_spell.specs.Layout.{source_of, guarded}

abbrev text : List Token → List ℕ
text ts = (source_of ts).text

abbrev piece : List ℕ → Token
piece x = token.Part (bit.Piece x)

abbrev end_word : Token
end_word = token.End end.Word mode.Arguments

commands : text (piece (codes "echo") ∷ end_word ∷ piece (codes "a") ∷ end_word ∷ token.Operator op.Semi ∷ piece (codes "b") ∷ end_word ∷ []) ≡ codes "echo a ; b"
commands = refl

subshell : text (token.Operator op.Open ∷ piece (codes "a") ∷ end_word ∷ token.Operator op.Close ∷ token.Redirect 2 redir_op.DupOut ∷ piece (codes "1") ∷ end_word ∷ []) ≡ codes "( a ) 2>& 1"
subshell = refl

usual_descriptors : text (token.Redirect 1 redir_op.Append ∷ piece (codes "f") ∷ end_word ∷ token.Redirect 1 redir_op.Read ∷ piece (codes "g") ∷ end_word ∷ []) ≡ codes ">> f 1< g"
usual_descriptors = refl

assignment : text (token.Assign (codes "x") ∷ token.Part (bit.Single (codes "a b")) ∷ token.Part (bit.Escaped 36) ∷ token.End end.Word mode.Prefix ∷ []) ≡ codes "x='a b'\\$"
assignment = refl

parameters : text (token.Param (codes "x") true ∷ token.Part (bit.Value (codes "y")) ∷ token.Open (opener.Braces (codes "z") param_op.LargeSuffix false false) mode.Word ∷ piece (codes "w")
    ∷ token.End end.Brace mode.Word ∷ end_word ∷ []) ≡ codes "${#x}$y${z%%w}"
parameters = refl

with_colon : text (token.Open (opener.Braces (codes "z") param_op.Default true false) mode.Word ∷ token.End end.Brace mode.Word ∷ end_word ∷ []) ≡ codes "${z:-}"
with_colon = refl

substitutions : text (token.Open opener.Command mode.Word ∷ token.Operator op.Open ∷ piece (codes "a") ∷ end_word ∷ token.Operator op.Close ∷ token.End end.List mode.Word
    ∷ token.Open opener.Arith mode.Word ∷ token.Part (bit.Sum (codes "1") 0) ∷ token.End end.Arith mode.Word ∷ end_word ∷ []) ≡ codes "$( ( a ) )$((1))"
substitutions = refl

quotes : text (token.Open opener.Double mode.Word ∷ piece (codes "a b") ∷ token.End end.Quote mode.Word ∷ end_word ∷ token.End end.Newline mode.Command ∷ piece (codes "c") ∷ end_word ∷ [])
    ≡ codes "\"a b\" \nc"
quotes = refl

-- A backslash at the end of the text in backquotes stands for itself there.
backquotes : text (token.Open opener.Backquote mode.Word ∷ piece (codes "a") ∷ piece (codes "\\") ∷ end_word ∷ token.End end.Text mode.Word ∷ piece (codes "b") ∷ end_word ∷ []) ≡ codes "`a\\\\`b"
unfolding guarded
backquotes = refl
