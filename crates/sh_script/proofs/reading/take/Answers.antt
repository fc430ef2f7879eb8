use Rattle.std.proofs.Common.{ap, sym, ◌∙◌}
use Rattle.sh_lexer.specs.declared.token.Token.{Token}
use Rattle.sh_grammar.specs.Machine.{step}
use Rattle.sh_script.proofs.Stands.{takes-told}
use Rattle.sh_script.proofs.reading.take.Goals as goal

pub step-requires-clause-numbered : goal.step-requires-clause-numbered
step-requires-clause-numbered c = c.requires.numbered

pub step-requires-clause-counted : goal.step-requires-clause-counted
step-requires-clause-counted c = c.requires.counted

pub after-requires : goal.after-requires
after-requires c = c.requires.few

pub returns-in-Some : goal.returns-in-Some
returns-in-Some c =
    takes-told _ _ c.args.machine c.in-Some.next c.args.mode _ c.args.openings c.args.seen _ _ _ c.in-Ok.ensures c.change_of-change.ensures c.more.ensures c.after-in-Some.ensures
    c.in_ok-next.ensures.state c.in-Some.is c.in-Ok-mode_after.ensures c.in_ok-next.ensures.numbered c.in_ok-next.ensures.counted
