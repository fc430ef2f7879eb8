use Rattle.std.proofs.Common.{◌≡◌, ℕ, ◌+◌, ◌<◌, ◌≤◌, Bool, true, false, List, [], ◌∷◌, ◌++◌, map, refl, sym, ap, ◌∙◌, subst, arith}
use Rattle.std.specs.Prelude.{Option, Some, None, Result, Ok, Err}
use Rattle.hs_world.specs.World.{WorldData}
use Rattle.hs_view.specs.Steps.{nothing}
use Rattle.hs_view.specs.declared.halt.Halt.TheVariants as halt
use Rattle.hs_view.proofs.Acting.{acts_memory}
use Rattle.sh_param.specs.Lookups.{ifs_of}
use Rattle.sh_param.specs.Pieces.{expanded_all, split_fields, whole_fields}
use Rattle.sh_param.specs.Plans.{Plan, fields, first, gives}
use Rattle.sh_param.specs.Words.{ended as ended_in, plan_of, plan_with, word_parts}
use Rattle.sh_param.specs.declared.mode.Context.TheVariants as context
use Rattle.sh_expand.proofs.Moving.{done_then, loops_then, same_plan, undone}
use Rattle.sh_expand.proofs.Steps.{ends_on, gives_acts}
use Rattle.sh_expand.proofs.expansion.finish_split.Goals as goal

pub returns-in_err-ifs : goal.returns-in_err-ifs
returns-in_err-ifs g c =
    let ps = c.args.pieces.now in
    ends_on g.B.Base.seen (ended_in context.Command ps) c.args.view.now c.ifs_of.new.view c.in_err-ifs.field-0.0 c.from_residual.result c.from_residual.ensures.0 c.from_residual.ensures.1
    (undone g.B.Base.seen (λ (w : WorldData). nothing (ifs_of w) w) (λ (ifs : Option (List ℕ)). gives (split_fields ifs ps)) c.args.view.now c.ifs_of.new.view c.in_err-ifs.field-0.0 c.in_err-ifs.ensures)

pub returns-in_err-fields : goal.returns-in_err-fields
returns-in_err-fields g c =
    let ps = c.args.pieces.now in
    let x = c.in_ok-ifs.ifs in
    let b = c.ifs_of.new.view in
    let l = done_then g.B.Base.seen (λ (w : WorldData). nothing (ifs_of w) w) (λ (ifs : Option (List ℕ)). gives (split_fields ifs ps)) c.args.view.now b x c.in_ok-ifs.ensures in
    ends_on g.B.Base.seen (ended_in context.Command ps) c.args.view.now b halt.NoMemory c.from_residual-in_err-fields.result c.from_residual-in_err-fields.ensures.0 c.from_residual-in_err-fields.ensures.1
    (l.on b (Err halt.NoMemory) (acts_memory g.B.Base.seen (first (gives (split_fields x ps))) b))

pub returns : goal.returns
returns g c =
    let ps = c.args.pieces.now in
    let x = c.in_ok-ifs.ifs in
    let b = c.ifs_of.new.view in
    let l = done_then g.B.Base.seen (λ (w : WorldData). nothing (ifs_of w) w) (λ (ifs : Option (List ℕ)). gives (split_fields ifs ps)) c.args.view.now b x c.in_ok-ifs.ensures in
    let fs = c.in_ok-fields.fields in
    l.on b (Ok (fields fs)) (gives_acts g.B.Base.seen (gives (split_fields x ps)) fs (split_fields x ps) b refl c.in_ok-fields.ensures)
