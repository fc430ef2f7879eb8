use Rattle.std.proofs.Common.{[], sym, ap, ◌∙◌, refl, subst}
use Rattle.std.specs.Prelude.{Ok, Err, slice_get}
use Rattle.std.specs.Arc.{arc_value}
use Rattle.sh_syntax.specs.declared.tree.Script.{Script}
use Rattle.hs_view.specs.Acts.{Acts}
use Rattle.sh_leaf.specs.Command.{leaf_done}
use Rattle.sh_leaf.specs.Head.{leaf_under}
use Rattle.sh_leaf.proofs.Heads.{done_as, halts_as, head_done, head_halts, head_turnless}
use Rattle.sh_leaf.proofs.head.do_head_leaf.Goals as goal

pub returns-then-fuel-eq0-clause-halts : goal.returns-then-fuel-eq0-clause-halts
returns-then-fuel-eq0-clause-halts g c = λ w t.
    halts_as g.B.Base.seen (leaf_under (arc_value c.args.script.now) c.args.number c.args.fuel w) w _ c.args.base _ c.args.base _ [] _ _ refl (c.halted.ensures.base ∙ c.new-view.ensures.base)
    (c.halted.ensures.effects ∙ c.new-view.ensures.effects) c.halted.ensures.halt
    (head_turnless g.B.Base.seen (arc_value c.args.script.now) c.args.number c.args.fuel c.args.base w c.if-fuel-eq0.true t)

pub returns-in-Ok-clause-done : goal.returns-in-Ok-clause-done
returns-in-Ok-clause-done g c = λ w t.
    done_as g.B.Base.seen (leaf_under (arc_value c.args.script.now) c.args.number c.args.fuel w) c.args.fuel.turns w _ c.new-view.result.base _ c.run_command.new.view.base _ _ (sym c.new-view.ensures.base)
    c.ended.ensures.base c.ended.ensures.left
    (head_done g.B.Base.seen (arc_value c.args.script.now) c.args.number c.args.fuel c.new-view.result c.run_command.new.view c.in-Ok.outcome w
    (ap (λ (b : g.row.B.Denot). (g.B.Base.seen.tells b).writes) c.new-view.ensures.base ∙ c.requires.writes) c.new-view.ensures.effects c.if-fuel-eq0.false
    (ap (λ (b : g.row.B.Denot). (g.B.Base.seen.tells b).world) c.new-view.ensures.base ∙ t)
    (subst (λ (s : Script). Acts g.B.Base.seen (leaf_done (slice_get s.leaves c.args.number)) c.new-view.result c.run_command.new.view (Ok c.in-Ok.outcome)) c.deref.ensures c.in-Ok.ensures))

pub returns-in-Err-clause-halts : goal.returns-in-Err-clause-halts
returns-in-Err-clause-halts g c = λ w t.
    halts_as g.B.Base.seen (leaf_under (arc_value c.args.script.now) c.args.number c.args.fuel w) w _ c.new-view.result.base _ c.run_command.new.view.base _ _ _ c.in-Err.halt (sym c.new-view.ensures.base)
    c.halted-in-Err.ensures.base c.halted-in-Err.ensures.effects c.halted-in-Err.ensures.halt
    (head_halts g.B.Base.seen (arc_value c.args.script.now) c.args.number c.args.fuel c.new-view.result c.run_command.new.view c.in-Err.halt w
    (ap (λ (b : g.row.B.Denot). (g.B.Base.seen.tells b).writes) c.new-view.ensures.base ∙ c.requires.writes) c.new-view.ensures.effects c.if-fuel-eq0.false
    (ap (λ (b : g.row.B.Denot). (g.B.Base.seen.tells b).world) c.new-view.ensures.base ∙ t)
    (subst (λ (s : Script). Acts g.B.Base.seen (leaf_done (slice_get s.leaves c.args.number)) c.new-view.result c.run_command.new.view (Err c.in-Err.halt)) c.deref.ensures c.in-Err.ensures))
