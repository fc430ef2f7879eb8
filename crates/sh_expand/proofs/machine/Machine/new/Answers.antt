use Rattle.std.proofs.Common.{◌≡◌, ℕ, ◌+◌, ◌<◌, ◌≤◌, Bool, true, false, List, [], ◌∷◌, ◌++◌, map, refl, sym, ap, ◌∙◌, subst, arith}
use Rattle.std.specs.Prelude.{Option, Some, None, Result, Ok, Err}
use Rattle.sh_expand.proofs.Steps.{first_word}
use Rattle.sh_expand.proofs.machine.Machine.new.Goals as goal

pub returns : goal.returns
returns c = first_word _ _ _ c.args.word.now c.args.words.now c.args.context _ _ c.of-base.ensures c.as_slice.ensures c.new.ensures c.new-2.ensures
