use Rattle.std.proofs.Common.{arith}
use Rattle.sh_machine.proofs.Begun.{all-kept, push_long}
use Rattle.sh_machine.proofs.draft.begin_leaf.Goals as goal

pub returns-clause-keeps : goal.returns-clause-keeps
returns-clause-keeps c = λ b h. all-kept b c.args.draft.now _ (record {
  lists = omega arith;
  leaves = push_long _ _ _ c.in_ok-push.ensures.ok;
  bodies = omega arith;
  heres = omega arith;
}) h
