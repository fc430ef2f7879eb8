use Rattle.std.proofs.Common.{arith}
use Rattle.sh_grammar.specs.Grammar.{max_nesting}
use Rattle.sh_script.proofs.Stands.{stands-begin, stands-within, stands-few, moved-on, moved-smaller, read-halt}
use Rattle.sh_script.proofs.reading.read_all.Goals as goal

pub tokens-init : goal.tokens-init
tokens-init c =
    let b = c.in_ok-reader.ensures in stands-begin max_nesting c.args.text c.in_ok-reader.reader (omega arith) c.requires b.reader b.numbered b.counted

pub next_token-requires-clause-numbered : goal.next_token-requires-clause-numbered
next_token-requires-clause-numbered c = c.tokens.invariant.numbered

pub next_token-requires-clause-counted : goal.next_token-requires-clause-counted
next_token-requires-clause-counted c = stands-within max_nesting c.args.text c.tokens.reader c.tokens.invariant

pub next_token-requires-clause-few : goal.next_token-requires-clause-few
next_token-requires-clause-few c = stands-few max_nesting c.args.text c.tokens.reader c.tokens.invariant

pub tokens-smaller : goal.tokens-smaller
tokens-smaller c =
    let n = c.in_ok-lexer in
    moved-smaller c.tokens.reader n.lexer n.next c.in-More.machine c.in-More.mode c.in-More.openings n.ensures.lexer n.ensures.advance c.in-More.is

pub tokens-preserved : goal.tokens-preserved
tokens-preserved c =
    let n = c.in_ok-lexer in
    moved-on max_nesting c.args.text c.tokens.reader n.lexer n.next c.in-More.machine c.in-More.mode c.in-More.openings c.tokens.invariant n.ensures.lexer n.ensures.advance c.in-More.is

pub returns-in-Halts : goal.returns-in-Halts
returns-in-Halts c =
    let n = c.in_ok-lexer in read-halt c.args.text c.tokens.reader n.next c.in-Halts.halt c.tokens.invariant n.ensures.advance c.in-Halts.is
