use Rattle.std.proofs.Common.{rules, ◌≡◌, get_or}
use Rattle.sh_lexer.proofs.Sums.{joined_at}
use Rattle.sh_lexer.proofs.arith.first_of_sum.Goals as goal

pub returns-in-92-clause-reads : goal.returns-in-92-clause-reads
returns-in-92-clause-reads c =
    let p : get_or c.args.text.now 0 0 ≡ 92 = search rules in
    let q : get_or c.args.text.now 1 0 ≡ 10 = search rules in
    joined_at c.args.count c.args.text.now c.in-92.len_at_least p q
