use Rattle.std.proofs.Common.{◌≡◌, ◌++◌, take}
use Rattle.std.specs.List.{flat_map}
use Rattle.sh_glob.specs.Places.{on_by}
use Rattle.sh_glob.proofs.walk.go_on_by.Given as goal

abbrev pub invariant-loop-choice : goal.invariant-loop-choice
invariant-loop-choice l = l.all ≡ l.fn.places ++ flat_map (on_by l.before l.from) (take l.choice-index l.choices)
