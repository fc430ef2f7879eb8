use Rattle.std.proofs.Common.{rules, ◌≡◌}
use Rattle.std.specs.Prelude.{IfOk}
use Rattle.sh_spell.specs.Scripts.{script_text}
use Rattle.sh_spell.proofs.Guards.{if_ok}
use Rattle.sh_spell.proofs.Stacked.{spelled}
use Rattle.sh_spell.proofs.script.spell.Goals as goal

pub returns-clause-spells : goal.returns-clause-spells
returns-clause-spells c =
    let w : IfOk c.into_text.result (λ text. text ≡ script_text c.args.script.now) = search rules in
    if_ok _ _ _ w (λ text e. spelled c.args.script.now text e)
