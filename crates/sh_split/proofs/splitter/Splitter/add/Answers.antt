use Rattle.sh_split.proofs.SoFar.{so_far-add}
use Rattle.sh_split.proofs.splitter.Splitter.add.Goals as goal

pub returns-clause-added : goal.returns-clause-added
returns-clause-added c = λ fs. so_far-add c.args.self.now.fields c.args.self.now.field c.push.new.self (c.args.byte, c.args.quoted) fs c.in_ok-push.ensures.ok
