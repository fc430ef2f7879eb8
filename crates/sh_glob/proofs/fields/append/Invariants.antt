use Rattle.std.proofs.Common.{◌≡◌, ◌++◌, take}
use Rattle.sh_glob.proofs.fields.append.Given as goal

abbrev pub invariant-loop-text : goal.invariant-loop-text
invariant-loop-text l = l.all ≡ l.fn.list ++ take l.text-index l.more
