use Rattle.std.proofs.Common.{◌≡◌, take}
use Rattle.std.specs.List.{filter}
use Rattle.sh_glob.specs.Parts.{takes}
use Rattle.sh_glob.proofs.walk.taken_of.Given as goal

abbrev pub invariant-loop-name : goal.invariant-loop-name
invariant-loop-name l = l.choices ≡ filter (takes l.pattern) (take l.name-index l.names)
