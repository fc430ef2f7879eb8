use Rattle.std.proofs.Common.{◌∙◌}
use Rattle.std.proofs.lemmas.Result.{on_ok_weaker}
use Rattle.sh_split.proofs.SoFar.{so_far-end}
use Rattle.sh_split.proofs.splitter.Splitter.end.Goals as goal

pub returns-clause-ended : goal.returns-clause-ended
returns-clause-ended c =
    on_ok_weaker c.push.result (λ e. λ fs.
    so_far-end c.args.self.now.fields c.push.new.self c.args.self.now.field c.replace-field.result c.replace-field.new.dest fs e c.replace-field.ensures.value (c.replace-field.ensures.after ∙ c.new.ensures)) c.push.ensures.ok
