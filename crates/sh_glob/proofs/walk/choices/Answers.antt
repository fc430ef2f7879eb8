use Rattle.std.proofs.Common.{sym, ap}
use Rattle.hs_world.specs.Files.{names_of}
use Rattle.hs_world.specs.World.{WorldData}
use Rattle.hs_view.specs.Steps.{nothing}
use Rattle.hs_view.proofs.Acting.{acts_as}
use Rattle.sh_glob.specs.declared.part.Part.{Part}
use Rattle.sh_glob.specs.Places.{choices, is_there, one_if, taken}
use Rattle.sh_glob.proofs.walk.choices.Goals as goal

pub returns-in-Literal : goal.returns-in-Literal
returns-in-Literal g c =
    let at = c.args.at.now in
    let x = c.in-Literal.bytes in
    acts_as g.B.Base.seen (λ (w : WorldData). nothing (one_if (is_there w.tree at x) x) w) (λ (w : WorldData). nothing (choices w.tree at c.args.part.now) w) c.args.view.now c.itself.new.view c.itself.result
    (λ u s. ap (λ (p : Part). nothing (choices u.tree at p) u) (sym c.in-Literal.is)) c.itself.ensures

pub returns-in-Glob : goal.returns-in-Glob
returns-in-Glob g c =
    let at = c.args.at.now in
    acts_as g.B.Base.seen (λ (w : WorldData). nothing (taken c.in-Glob.pattern (names_of w.tree at)) w) (λ (w : WorldData). nothing (choices w.tree at c.args.part.now) w) c.args.view.now c.matching_names.new.view c.matching_names.result
    (λ u s. ap (λ (p : Part). nothing (choices u.tree at p) u) (sym c.in-Glob.is)) c.matching_names.ensures
