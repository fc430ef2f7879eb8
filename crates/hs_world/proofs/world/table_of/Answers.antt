use Rattle.std.proofs.Common.{ap, sym, ◌∙◌}
use Rattle.hs_world.proofs.Stacks.{inserted, inserted-push, inserted-all}
use Rattle.hs_world.proofs.world.table_of.Goals as goal

pub loop-name-init : goal.loop-name-init
loop-name-init c = ap (λ m. inserted m c.args.vars.items) c.new-table.ensures ∙ inserted-all c.args.vars.items

pub loop-name-preserved : goal.loop-name-preserved
loop-name-preserved c =
    ap (λ m. inserted m c.pop.new.self.items) c.in_ok-insert.ensures.ok
    ∙ sym (inserted-push c.loop-name.table c.pop.new.self.items (c.in-Some.name, c.in-Some.var))
    ∙ ap (inserted c.loop-name.table) (sym c.in-Some.ensures.items)
    ∙ c.loop-name.invariant
