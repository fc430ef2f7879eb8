use Rattle.std.proofs.Common.{arith}
use Rattle.sh_machine.proofs.Begun.{all-kept, set_long}
use Rattle.sh_machine.proofs.draft.end_leaf.Goals as goal

pub returns-clause-keeps : goal.returns-clause-keeps
returns-clause-keeps c = λ b h. all-kept b c.args.draft.now _ (record {
  lists = omega arith;
  leaves = set_long _ _ _ _ c.set.ensures;
  bodies = omega arith;
  heres = omega arith;
}) h
