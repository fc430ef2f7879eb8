use Rattle.std.proofs.Common.{sym}
use Rattle.sh_lexer.proofs.Sums.{taken_at}
use Rattle.sh_lexer.proofs.arith.plain_of_sum.Goals as goal

pub returns-clause-reads : goal.returns-clause-reads
returns-clause-reads c = λ unjoined.
    let e = taken_at c.args.count c.args.b c.args.rest.now unjoined c.requires (sym c.if-ends_at.ensures) in cc (e, c.in_ok-open_after.ensures.ok)
