use Rattle.std.proofs.Common.{◌≡◌, ◌++◌, drop}
use Rattle.sh_param.proofs.fields.append.Given as goal

abbrev pub invariant-loop-field : goal.invariant-loop-field
invariant-loop-field l = l.fields ++ drop l.field-index l.more ≡ l.fn.fields ++ l.more
