use Rattle.std.proofs.Common.{sym, ◌∙◌}
use Rattle.util_print.proofs.Named.{all_behind, found}
use Rattle.util_print.proofs.naming.behind_slash.Goals as goal

pub returns-in-Some : goal.returns-in-Some
returns-in-Some c = c.split_at.ensures.back ∙ sym (found c.args.text.now c.in-Some.at c.in-Some.ensures.0 c.in-Some.ensures.1).1

pub returns-in-None : goal.returns-in-None
returns-in-None c = sym (all_behind c.args.text.now c.in-None.ensures)
