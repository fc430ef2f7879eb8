use Rattle.std.proofs.Common.{◌≡◌, ℕ, ◌+◌, ◌<◌, ◌≤◌, Bool, true, false, List, [], ◌∷◌, ◌++◌, map, refl, sym, ap, ◌∙◌, subst, arith}
use Rattle.std.specs.Prelude.{Option, Some, None, Result, Ok, Err}
use Rattle.sh_syntax.specs.declared.tree.Part.{Part}
use Rattle.sh_param.specs.Parts.{parts_mean}
use Rattle.sh_expand.specs.Rest.{after_word, behind_parts, means, next_of, opens_mean, part_plan, rest_of, waiting_of}
use Rattle.sh_expand.specs.Weights.{open_weight, opens_weight, part_weight, parts_weight, weight, words_weight}
use Rattle.sh_expand.proofs.machine.Machine.begin_word.Goals as goal

pub returns-clause-rest : goal.returns-clause-rest
returns-clause-rest c =
    let x = c.args.self.now in
    ap (λ (ps : List Part). parts_mean x.base true (means ps) x.pieces (behind_parts x)) c.as_slice-self.ensures

pub returns-clause-weighs : goal.returns-clause-weighs
returns-clause-weighs c =
    let e : parts_weight c.as_slice-self.result.now ≡ parts_weight c.args.word.now.parts = ap parts_weight c.as_slice-self.ensures in
    omega (arith, e)
