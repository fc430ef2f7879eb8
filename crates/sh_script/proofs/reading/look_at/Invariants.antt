use Rattle.std.proofs.Common.{◌≡◌}
use Rattle.sh_lexer.specs.Trail.{source_of}
use Rattle.sh_script.specs.Turns.{nesting, reader_at, looked}
use Rattle.sh_script.proofs.Stands.{Stands, measure}
use Rattle.sh_script.proofs.reading.look_at.Given as goal

abbrev pub invariant-tokens : goal.invariant-tokens
invariant-tokens l = record {
  stands : Stands (nesting l.fn.one_more) l.fn.text l.reader;
  same : looked l.left l.reader ≡ looked l.fn.number (reader_at (nesting l.fn.one_more) l.fn.text);
}

abbrev pub decreases-tokens : goal.decreases-tokens
decreases-tokens l = measure (source_of l.reader.lexer) l.reader.machine
