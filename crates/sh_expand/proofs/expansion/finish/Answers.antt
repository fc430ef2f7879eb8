use Rattle.std.proofs.Common.{◌≡◌, ℕ, ◌+◌, ◌<◌, ◌≤◌, Bool, true, false, List, [], ◌∷◌, ◌++◌, map, refl, sym, ap, ◌∙◌, subst, arith}
use Rattle.std.specs.Prelude.{Option, Some, None, Result, Ok, Err}
use Rattle.sh_param.specs.Pieces.{expanded_all, split_fields, whole_fields}
use Rattle.sh_param.specs.Words.{ended as ended_in, plan_of, plan_with, word_parts}
use Rattle.sh_expand.proofs.Steps.{gives_acts, not_split}
use Rattle.sh_expand.proofs.expansion.finish.Goals as goal

pub returns-in_ok-fields-in_default : goal.returns-in_ok-fields-in_default
returns-in_ok-fields-in_default g c =
    let ps = c.args.pieces.now in
    gives_acts g.B.Base.seen (ended_in c.args.context ps) c.in_ok-fields-in_default.fields (whole_fields ps) c.args.view.now (not_split c.args.context ps c.in_default.not-Command) (c.in_ok-fields-in_default.ensures ∙ ap whole_fields c.as_slice.ensures)
