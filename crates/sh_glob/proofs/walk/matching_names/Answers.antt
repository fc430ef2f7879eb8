use Rattle.std.proofs.Common.{List, ℕ, sym, ap, refl, ◌∙◌}
use Rattle.hs_world.specs.Files.{names_of}
use Rattle.hs_world.specs.World.{WorldData}
use Rattle.hs_view.specs.Steps.{nothing}
use Rattle.hs_view.proofs.Acting.{acts_memory_on, acts_on, acts_read, acts_read_then, acts_unread}
use Rattle.sh_glob.specs.Places.{taken}
use Rattle.sh_glob.proofs.walk.matching_names.Goals as goal

pub returns-in_err-names : goal.returns-in_err-names
returns-in_err-names g c =
    let e = c.in_err-names.ensures in
    let m = λ (w : WorldData). nothing (taken c.args.pattern.now (names_of w.tree c.args.at.now)) w in
    acts_on g.B.Base.seen m c.args.view.now c.names.new.self c.in_err-names.field-0.0 _ c.from_residual.ensures.0 c.from_residual.ensures.1
    (acts_unread g.B.Base.seen m c.args.view.now c.names.new.self c.in_err-names.field-0.0 (record { effects = e.effects; keeps = e.keeps; fault = e.fault; trace = e.trace; through = e.through; spent = e.spent; outside = e.outside }) e.world)

pub returns-in_err-choices : goal.returns-in_err-choices
returns-in_err-choices g c =
    let e = c.in_ok-names.ensures in
    let m = λ (w : WorldData). nothing (taken c.args.pattern.now (names_of w.tree c.args.at.now)) w in
    acts_read_then g.B.Base.seen m m c.args.view.now c.names.new.self c.names.new.self _ _ (record { effects = e.effects; keeps = e.keeps; fault = e.fault; trace = e.trace; through = e.through; spent = e.spent; outside = e.outside }) (λ u s. refl)
    (acts_memory_on g.B.Base.seen m c.names.new.self _ c.from_residual-in_err-choices.ensures.0 c.from_residual-in_err-choices.ensures.1)

pub returns : goal.returns
returns g c =
    let e = c.in_ok-names.ensures in
    acts_read g.B.Base.seen (λ (w : WorldData). nothing (taken c.args.pattern.now (names_of w.tree c.args.at.now)) w) c.args.view.now c.names.new.self _ c.in_ok-choices.choices (record { effects = e.effects; keeps = e.keeps; fault = e.fault; trace = e.trace; through = e.through; spent = e.spent; outside = e.outside })
    (λ u s. ap (λ (l : List (List ℕ)). nothing l u) (ap (taken c.args.pattern.now) (e.answer u s) ∙ sym c.in_ok-choices.ensures))
