-- Which of the tokens that a seen one may be is taken in a state.
use Rattle.sh_lexer.specs.declared.token.Token.{Token}
use Rattle.sh_grammar.specs.Machine.{State}
use Rattle.sh_grammar.specs.Told.{told}

abbrev pub taken : State → Token → Token
taken st t = told st.now st.below st.script.due t
