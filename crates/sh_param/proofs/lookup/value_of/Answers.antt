use Rattle.std.proofs.Common.{true, false, length, sym, ap, ◌∙◌}
use Rattle.hs_world.specs.World.{WorldData}
use Rattle.hs_view.specs.Steps.{nothing}
use Rattle.hs_view.proofs.Acting.{acts_answer, acts_as}
use Rattle.sh_param.specs.Lookups.{one_or_unset, positional, text_of, value_by, value_of}
use Rattle.sh_param.specs.Values.{digits}
use Rattle.sh_param.specs.Kinds.{kind_of, number}
use Rattle.sh_param.specs.declared.kind.Kind.{Kind}
use Rattle.sh_param.specs.declared.value.ParamValue.{ParamValue}
use Rattle.sh_param.specs.declared.value.ParamValue.TheVariants.{One, Each}
use Rattle.sh_param.proofs.lookup.value_of.Goals as goal

pub returns-in-At : goal.returns-in-At
returns-in-At g c =
    acts_as g.B.Base.seen (λ (w : WorldData). nothing (Each false w.params) w) (λ (w : WorldData). nothing (value_of c.args.status c.args.name.now w) w) c.args.view.now c.each.new.view c.each.result
    (λ u s. ap (λ (k : Kind). nothing (value_by k c.args.status c.args.name.now u) u) (sym c.in-At.is ∙ c.kind_of.ensures ∙ ap kind_of c.as_slice.ensures)) c.each.ensures

pub returns-in-Star : goal.returns-in-Star
returns-in-Star g c =
    acts_as g.B.Base.seen (λ (w : WorldData). nothing (Each true w.params) w) (λ (w : WorldData). nothing (value_of c.args.status c.args.name.now w) w) c.args.view.now c.each-in-Star.new.view c.each-in-Star.result
    (λ u s. ap (λ (k : Kind). nothing (value_by k c.args.status c.args.name.now u) u) (sym c.in-Star.is ∙ c.kind_of.ensures ∙ ap kind_of c.as_slice.ensures)) c.each-in-Star.ensures

pub returns-in-Count : goal.returns-in-Count
returns-in-Count g c =
    acts_as g.B.Base.seen (λ (w : WorldData). nothing (One (digits (length w.params))) w) (λ (w : WorldData). nothing (value_of c.args.status c.args.name.now w) w) c.args.view.now c.count.new.view c.count.result
    (λ u s. ap (λ (k : Kind). nothing (value_by k c.args.status c.args.name.now u) u) (sym c.in-Count.is ∙ c.kind_of.ensures ∙ ap kind_of c.as_slice.ensures)) c.count.ensures

pub returns-in-Position : goal.returns-in-Position
returns-in-Position g c =
    acts_as g.B.Base.seen (λ (w : WorldData). nothing (positional (number 0 c.args.name.now) w.zero w.params) w) (λ (w : WorldData). nothing (value_of c.args.status c.args.name.now w) w) c.args.view.now c.positional.new.view c.positional.result
    (λ u s. ap (λ (k : Kind). nothing (value_by k c.args.status c.args.name.now u) u) (sym c.in-Position.is ∙ c.kind_of.ensures ∙ ap kind_of c.as_slice.ensures)) c.positional.ensures

pub returns-in-Variable : goal.returns-in-Variable
returns-in-Variable g c =
    acts_as g.B.Base.seen (λ (w : WorldData). nothing (one_or_unset (text_of c.args.name.now w)) w) (λ (w : WorldData). nothing (value_of c.args.status c.args.name.now w) w) c.args.view.now c.variable.new.view c.variable.result
    (λ u s. ap (λ (k : Kind). nothing (value_by k c.args.status c.args.name.now u) u) (sym c.in-Variable.is ∙ c.kind_of.ensures ∙ ap kind_of c.as_slice.ensures)) c.variable.ensures

pub returns-in_ok-value-in-Status : goal.returns-in_ok-value-in-Status
returns-in_ok-value-in-Status g c =
    acts_answer g.B.Base.seen (λ (w : WorldData). nothing (value_of c.args.status c.args.name.now w) w) c.args.view.now c.in_ok-value-in-Status.value
    (λ u s.
    ap (λ (k : Kind). nothing (value_by k c.args.status c.args.name.now u) u) (ap kind_of (sym c.as_slice.ensures) ∙ sym c.kind_of.ensures ∙ c.in-Status.is)
    ∙ ap (λ (v : ParamValue). nothing v u) (sym c.in_ok-value-in-Status.ensures))
