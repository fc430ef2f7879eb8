use Rattle.std.proofs.Common.{sym, ◌∙◌, arith}
use Rattle.sh_pattern.proofs.Tables.{closes-table}
use Rattle.sh_pattern.proofs.bracket.closes.Goals as goal

pub returns-else-plain : goal.returns-else-plain
returns-else-plain c =
    closes-table c.args.closed.now c.args.text.now c.in-Some.rest.now c.in-Some.first.now c.at.result c.more.result c.in-Some.ensures.cases.0
    c.requires (sym c.plain.ensures ∙ c.if-plain.false) c.at.ensures.element c.more.ensures (omega (arith, c.at.ensures.within, c.more.ensures))
