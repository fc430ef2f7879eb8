use native.Mathlib.Omega.{arith}
use Rattle.std.proofs.Common.{◌≡◌, ap, ◌∙◌, subst}
use Rattle.std.specs.Prelude.{Ok, Err, slice_get}
use Rattle.std.specs.Arc.{arc_value}
use Rattle.sh_syntax.specs.declared.tree.Script.{Script}
use Rattle.hs_view.specs.Acts.{Acts}
use Rattle.sh_leaf.specs.Command.{leaf_done}
use Rattle.sh_leaf.proofs.Leaves.{done_first, halts_acts, halts_memory, halts_turnless}
use Rattle.sh_leaf.proofs.leaf.do_leaf.Goals as goal

pub returns-then-fuel-eq0-clause-halts : goal.returns-then-fuel-eq0-clause-halts
returns-then-fuel-eq0-clause-halts g c =
    halts_turnless (arc_value c.args.script.now) c.args.number c.args.fuel _ _ _ c.if-fuel-eq0.true (c.halted.ensures.effects ∙ c.new-view.ensures.effects) c.halted.ensures.halt

pub returns-in_default-clause-halts : goal.returns-in_default-clause-halts
returns-in_default-clause-halts g c =
    halts_memory (arc_value c.args.script.now) c.args.number c.args.fuel _ _ _ (c.halted-in_default.ensures.effects ∙ c.new-view.ensures.effects) c.halted-in_default.ensures.halt

pub returns-in-Err-clause-halts : goal.returns-in-Err-clause-halts
returns-in-Err-clause-halts g c =
    halts_acts g.B.Base.seen (arc_value c.args.script.now) c.args.number c.args.fuel c.new-view.result c.run_command.new.view _ _ c.in-Err.halt _ (ap (λ (b : g.row.B.Denot). (g.B.Base.seen.tells b).writes) c.new-view.ensures.base ∙ c.requires.writes) c.new-view.ensures.effects c.if-fuel-eq0.false
    c.halted-in-Err.ensures.reads c.halted-in-Err.ensures.effects c.halted-in-Err.ensures.halt
    (subst (λ (s : Script). Acts g.B.Base.seen (leaf_done (slice_get s.leaves c.args.number)) c.new-view.result c.run_command.new.view (Err c.in-Err.halt)) c.deref.ensures c.in-Err.ensures)

pub recorded-requires-clause-done : goal.recorded-requires-clause-done
recorded-requires-clause-done g c = λ w t p.
    let same : arc_value c.in-Ok.kept ≡ arc_value c.args.script.now = grind arith in
    ap (λ (s : Script). leaf_done (slice_get s.leaves c.args.number) w) same
    ∙ done_first g.B.Base.seen (leaf_done (slice_get (arc_value c.args.script.now).leaves c.args.number)) c.new-view.result c.run_command.new.view c.in-Ok-run_command.outcome w
    (ap (λ (b : g.row.B.Denot). (g.B.Base.seen.tells b).writes) c.new-view.ensures.base ∙ c.requires.writes) c.new-view.ensures.effects
    (subst (λ (s : Script). Acts g.B.Base.seen (leaf_done (slice_get s.leaves c.args.number)) c.new-view.result c.run_command.new.view (Ok c.in-Ok-run_command.outcome)) c.deref.ensures c.in-Ok-run_command.ensures) t p
