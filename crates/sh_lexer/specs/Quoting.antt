-- Which bytes a backslash quotes (XCU 2.2.1, 2.2.3).
use Rattle.std.specs.Prelude.{ℕ, Bool, true, List}
use Rattle.sh_lexer.specs.declared.lex.Quoting.{Quoting}
use Rattle.sh_lexer.specs.declared.lex.Quoting.TheVariants as quoting
use Rattle.sh_lexer.specs.Lex.{Lexed, escaped, escaped_if, escapable, quotes_escapable, braces_escapable}

abbrev pub escapes : Quoting → ℕ → Bool
escapes quoting.All b = true
escapes quoting.Body b = escapable b
escapes quoting.Quotes b = quotes_escapable b
escapes quoting.Braces b = braces_escapable b

abbrev pub backslash : Quoting → List ℕ → Lexed
backslash quoting.All t = escaped t
backslash quoting.Body t = escaped_if escapable t
backslash quoting.Quotes t = escaped_if quotes_escapable t
backslash quoting.Braces t = escaped_if braces_escapable t
