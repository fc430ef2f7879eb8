-- Which tokens begin or end a text in backquotes.
use Rattle.sh_lexer.specs.declared.token.Token.{Token}
use Rattle.sh_lexer.specs.declared.token.Token.TheVariants as token
use Rattle.sh_lexer.specs.declared.token.Opener.{Opener}
use Rattle.sh_lexer.specs.declared.token.Opener.TheVariants as opener
use Rattle.sh_lexer.specs.declared.token.End.{End}
use Rattle.sh_lexer.specs.declared.token.End.TheVariants as end
use Rattle.sh_spell.specs.declared.turn.Turn.{Turn}
use Rattle.sh_spell.specs.declared.turn.Turn.TheVariants as turn

abbrev pub opener_turn_of : Opener → Turn
opener_turn_of opener.Backquote = turn.Begins
opener_turn_of o = turn.Stands

abbrev pub end_turn_of : End → Turn
end_turn_of end.Text = turn.Ends
end_turn_of e = turn.Stands

abbrev pub turn_of : Token → Turn
turn_of (token.Open o m) = opener_turn_of o
turn_of (token.End e m) = end_turn_of e
turn_of t = turn.Stands
