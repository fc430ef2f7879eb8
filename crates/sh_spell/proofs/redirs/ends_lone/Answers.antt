use Rattle.std.proofs.Common.{◌∙◌, sym, ap}
use Rattle.sh_spell.specs.Scripts.{ends_lone}
use Rattle.sh_spell.proofs.Numbered.{ends-last}
use Rattle.sh_spell.proofs.redirs.ends_lone.Goals as goal

pub returns-in-Some : goal.returns-in-Some
returns-in-Some c = c.is_lone.ensures ∙ (sym (ends-last c.in-Some.field-0-1.now c.in-Some.last.now) ∙ ap ends_lone (sym c.in-Some.ensures.cases.0))
