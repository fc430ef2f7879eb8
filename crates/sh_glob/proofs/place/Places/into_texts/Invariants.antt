use Rattle.std.proofs.Common.{◌≡◌}
use Rattle.sh_glob.specs.Texts.{in_order, texts}
use Rattle.sh_glob.proofs.place.Places.into_texts.Given as goal

abbrev pub invariant-loop-place : goal.invariant-loop-place
invariant-loop-place l = l.sorted.keys ≡ in_order (texts l.yielded)
