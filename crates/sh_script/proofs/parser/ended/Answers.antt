use Rattle.std.proofs.Common.{sym, ◌∙◌}
use Rattle.sh_script.proofs.Parsed.{ends-early}
use Rattle.sh_script.proofs.parser.ended.Goals as goal

pub finish-requires : goal.finish-requires
finish-requires c = c.requires.numbered

pub returns-in-Some : goal.returns-in-Some
returns-in-Some c = sym c.in_ok-script.ensures ∙ c.in-Some.is

pub returns-in_ok-named-in-None : goal.returns-in_ok-named-in-None
returns-in_ok-named-in-None c =
    ends-early c.args.machine c.args.text.now c.args.openings _ (sym c.in_ok-script.ensures ∙ c.in-None.is) c.in_ok-named-in-None.ensures
