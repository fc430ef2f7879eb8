use Rattle.std.proofs.Common.{List, ℕ, sym, ap, ◌∙◌}
use Rattle.hs_world.specs.World.{WorldData}
use Rattle.hs_view.specs.Steps.{nothing}
use Rattle.hs_view.proofs.Acting.{acts_answer, acts_as, acts_memory_on}
use Rattle.sh_glob.specs.Parts.{is_pattern}
use Rattle.sh_glob.specs.Paths.{field_paths, pattern_paths}
use Rattle.sh_glob.proofs.Found.{of_pattern, of_plain}
use Rattle.sh_glob.proofs.fields.field_paths.Goals as goal

pub returns-then-is_pattern : goal.returns-then-is_pattern
returns-then-is_pattern g c =
    let field = c.args.field.now in
    acts_as g.B.Base.seen (λ (w : WorldData). nothing (pattern_paths w field) w) (λ (w : WorldData). nothing (field_paths w field) w) c.args.view.now c.pattern_paths.new.view c.pattern_paths.result
    (λ u s. ap (λ (l : List (List ℕ)). nothing l u) (sym (of_pattern u field (ap is_pattern (sym c.as_slice.ensures) ∙ sym c.is_pattern.ensures ∙ c.if-is_pattern.true)))) c.pattern_paths.ensures

pub returns-in_err-list : goal.returns-in_err-list
returns-in_err-list g c =
    acts_memory_on g.B.Base.seen (λ (w : WorldData). nothing (field_paths w c.args.field.now) w) c.args.view.now _ c.from_residual.ensures.0 c.from_residual.ensures.1

pub returns : goal.returns
returns g c =
    let field = c.args.field.now in
    acts_answer g.B.Base.seen (λ (w : WorldData). nothing (field_paths w field) w) c.args.view.now c.in_ok-list.list
    (λ u s. ap (λ (l : List (List ℕ)). nothing l u) (of_plain u field (ap is_pattern (sym c.as_slice.ensures) ∙ sym c.is_pattern.ensures ∙ c.if-is_pattern.false) ∙ sym c.in_ok-list.ensures))
