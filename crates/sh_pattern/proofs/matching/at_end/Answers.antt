use Rattle.std.proofs.Common.{sym, ◌∙◌, ap}
use Rattle.sh_pattern.specs.Match.{matched}
use Rattle.sh_pattern.proofs.Stars.{too-short, only-end}
use Rattle.sh_pattern.proofs.matching.at_end.Goals as goal

pub returns-then-bytes-items-clause-here : goal.returns-then-bytes-items-clause-here
returns-then-bytes-items-clause-here c = sym (too-short c.args.items.now c.args.bytes.now c.requires c.if-bytes-items.true)

pub returns-clause-here : goal.returns-clause-here
returns-clause-here c =
    c.front.ensures.here
    ∙ ap (matched c.args.items.now) c.split_at.ensures.back
    ∙ sym (only-end c.args.items.now c.args.bytes.now c.requires c.if-bytes-items.false)
