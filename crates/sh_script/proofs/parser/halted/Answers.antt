use Rattle.std.proofs.Common.{List, subst, sym, ap, ◌∙◌}
use Rattle.sh_grammar.specs.Machine.{State}
use Rattle.sh_machine.specs.Numbered.{Numbered}
use Rattle.sh_script.specs.declared.reading.Halt.{Halt}
use Rattle.sh_script.specs.Readings.{IsRead}
use Rattle.sh_script.proofs.Parsed.{ends-answer, read-numbered, refusal}
use Rattle.sh_script.proofs.parser.halted.Goals as goal

pub ended-requires-clause-numbered : goal.ended-requires-clause-numbered
ended-requires-clause-numbered c =
    read-numbered c.args.text.now c.in-Ended.machine c.in-Ended.openings (subst (λ (h : Halt). IsRead c.args.text.now h) c.in-Ended.is c.requires.read)

pub returns-in-Ended : goal.returns-in-Ended
returns-in-Ended c =
    ends-answer c.args.text.now c.in-Ended.machine c.in-Ended.openings _ (subst (λ (h : Halt). IsRead c.args.text.now h) c.in-Ended.is c.requires.read) c.ended.ensures

pub returns-in_ok-refused-in-Stopped : goal.returns-in_ok-refused-in-Stopped
returns-in_ok-refused-in-Stopped c =
    refusal c.args.text.now c.in-Stopped.stop c.in-Stopped.openings _ (subst (λ (h : Halt). IsRead c.args.text.now h) c.in-Stopped.is c.requires.read) c.in_ok-refused-in-Stopped.ensures
