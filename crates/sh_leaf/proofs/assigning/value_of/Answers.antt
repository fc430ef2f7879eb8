use Rattle.std.proofs.Common.{List, [], ◌∷◌, subst}
use Rattle.std.specs.Prelude.{Ok, Err}
use Rattle.hs_view.specs.Acts.{Acts}
use Rattle.sh_syntax.specs.declared.tree.Word.{Word}
use Rattle.sh_leaf.proofs.Coming.{came_failed, came_halt, came_on}
use Rattle.sh_param.specs.declared.mode.Context.TheVariants as context
use Rattle.sh_leaf.specs.Assigning.{value_told}
use Rattle.sh_leaf.specs.Expanding.{fields_of}
use Rattle.sh_leaf.proofs.assigning.value_of.Goals as goal

pub returns-in_err-came : goal.returns-in_err-came
returns-in_err-came g c =
    came_halt g.B.Base.seen (fields_of (c.args.word.now ∷ []) context.Assign c.args.status) (value_told) c.args.view.now c.fields_of.new.view c.in_err-came.field-0.0 _ c.from_residual.ensures.0 c.from_residual.ensures.1 (subst (λ (ws : List Word). Acts g.B.Base.seen (fields_of ws context.Assign c.args.status) c.args.view.now c.fields_of.new.view (Err c.in_err-came.field-0.0)) c.from_ref.ensures.value c.in_err-came.ensures)

pub returns-in-Ok : goal.returns-in-Ok
returns-in-Ok g c =
    came_on g.B.Base.seen (fields_of (c.args.word.now ∷ []) context.Assign c.args.status) (value_told) c.args.view.now c.fields_of.new.view c.value_told.new.view c.in_ok-came.came c.in-Ok.fields _ (subst (λ (ws : List Word). Acts g.B.Base.seen (fields_of ws context.Assign c.args.status) c.args.view.now c.fields_of.new.view (Ok c.in_ok-came.came)) c.from_ref.ensures.value c.in_ok-came.ensures) c.in-Ok.is c.value_told.ensures

pub returns-in-Err : goal.returns-in-Err
returns-in-Err g c = came_failed g.B.Base.seen (fields_of (c.args.word.now ∷ []) context.Assign c.args.status) (value_told) c.args.view.now c.fields_of.new.view c.in_ok-came.came c.in-Err.why (subst (λ (ws : List Word). Acts g.B.Base.seen (fields_of ws context.Assign c.args.status) c.args.view.now c.fields_of.new.view (Ok c.in_ok-came.came)) c.from_ref.ensures.value c.in_ok-came.ensures) c.in-Err.is
