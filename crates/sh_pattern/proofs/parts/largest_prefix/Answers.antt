use Rattle.std.proofs.Common.{sym, ◌∙◌, length, arith}
use Rattle.sh_pattern.specs.Match.{matches_prefix}
use Rattle.sh_pattern.proofs.Greatest.{greatest, none-greatest}
use Rattle.sh_pattern.proofs.parts.largest_prefix.Goals as goal

pub returns-then-matches : goal.returns-then-matches
returns-then-matches c =
    greatest (matches_prefix c.args.pattern.now c.args.bytes.now) (length c.args.bytes.now) c.loop-after.after (sym c.matches.ensures ∙ c.if-matches.true) c.loop-after.invariant

pub returns : goal.returns
returns c = none-greatest (matches_prefix c.args.pattern.now c.args.bytes.now) (length c.args.bytes.now) c.loop-after.after (omega arith) c.loop-after.invariant
