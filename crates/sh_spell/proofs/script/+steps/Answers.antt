use Rattle.std.proofs.Common.{◌≡◌, ◌-◌, List, ◌++◌, ◌∙◌, ap, arith}
use Rattle.sh_spell.specs.Seen.{seen}
use Rattle.sh_spell.specs.Steps.{Step, part_steps, list_steps}
use Rattle.sh_spell.proofs.Stacked.{on_ok, last-step, list-none, part-none, list-written, part-written}
use Rattle.sh_spell.proofs.script.+steps.Goals as goal

pub write_list-returns-then-levels-eq0 : goal.write_list-returns-then-levels-eq0
write_list-returns-then-levels-eq0 t c = list-none c.args.script.now c.args.levels c.args.number c.args.out.now (omega arith)

pub write_list-returns : goal.write_list-returns
write_list-returns t c =
    let s = c.args.script.now in
    let e : c.push_list.new.steps ≡ list_steps s c.args.number = c.in_ok-push_list.ensures ∙ ap (λ (z : List Step). z ++ list_steps s c.args.number) c.new-steps.ensures in
    on_ok _ _ _ c.write_steps.ensures (λ h. list-written s c.args.levels (c.args.levels - 1) c.args.number c.push_list.new.steps c.args.out.now c.write_steps.new.out (omega arith) e h)

pub write_part-returns-then-levels-eq0 : goal.write_part-returns-then-levels-eq0
write_part-returns-then-levels-eq0 t c = part-none c.args.script.now c.args.levels c.args.part.now c.args.out.now (omega arith)

pub write_part-returns : goal.write_part-returns
write_part-returns t c =
    let s = c.args.script.now in
    let e : c.push_part.new.steps ≡ part_steps c.args.part.now = c.in_ok-push_part.ensures ∙ ap (λ (z : List Step). z ++ part_steps c.args.part.now) c.new-steps.ensures in
    on_ok _ _ _ c.write_steps.ensures (λ h. part-written s c.args.levels (c.args.levels - 1) c.args.part.now c.push_part.new.steps c.args.out.now c.write_steps.new.out (omega arith) e h)

pub write_steps-steps-preserved : goal.write_steps-steps-preserved
write_steps-steps-preserved t c =
    last-step c.args.script.now c.args.levels c.pop.new.self c.steps.left (seen c.in-Some.step) c.steps.out c.write_step.new.out _ c.in-Some.ensures c.in_ok-write_step.ensures c.steps.invariant
