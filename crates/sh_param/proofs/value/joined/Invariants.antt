use Rattle.std.proofs.Common.{◌≡◌, ◌++◌, drop}
use Rattle.std.specs.Prelude.{cond}
use Rattle.sh_param.specs.Values.{behind, joined}
use Rattle.sh_param.proofs.value.joined.Given as goal

abbrev pub invariant-loop-text : goal.invariant-loop-text
invariant-loop-text l = l.all ++ cond l.first (joined l.separator (drop l.text-index l.texts)) (behind l.separator (drop l.text-index l.texts)) ≡ joined l.separator l.texts
