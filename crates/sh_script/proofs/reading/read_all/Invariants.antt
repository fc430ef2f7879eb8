use Rattle.sh_lexer.specs.Trail.{source_of}
use Rattle.sh_grammar.specs.Grammar.{max_nesting}
use Rattle.sh_script.proofs.Stands.{Stands, measure}
use Rattle.sh_script.proofs.reading.read_all.Given as goal

abbrev pub invariant-tokens : goal.invariant-tokens
invariant-tokens l = Stands max_nesting l.fn.text l.reader

abbrev pub decreases-tokens : goal.decreases-tokens
decreases-tokens l = measure (source_of l.reader.lexer) l.reader.machine
