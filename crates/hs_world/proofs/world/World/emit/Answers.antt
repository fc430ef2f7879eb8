use Rattle.std.proofs.Common.{sym, ◌∙◌}
use Rattle.std.proofs.lemmas.Result.{on_ok_weaker}
use Rattle.hs_world.proofs.Emits.{emit_file}
use Rattle.hs_world.proofs.world.World.emit.Goals as goal

pub returns-in-Some-clause-ok : goal.returns-in-Some-clause-ok
returns-in-Some-clause-ok c = on_ok_weaker c.append.result (λ e. e ∙ emit_file c.args.fd c.args.text.now c.args.self.now c.in-Some.path (sym c.in-Some.is ∙ c.in_ok-path.ensures)) c.append.ensures.ok
