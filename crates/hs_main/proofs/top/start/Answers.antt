use Rattle.std.proofs.Common.{◌≡◌, T, Err, subst, sym, ap, ◌∙◌}
use Rattle.hs_world.specs.declared.world.Limit.TheVariants.{Bytes, Tree}
use Rattle.hs_world.specs.declared.world.WorldErr.TheVariants.{Full}
use Rattle.hs_main.proofs.top.start.Goals as goal

pub unreachable-requires : goal.unreachable-requires
unreachable-requires c =
    elim c.in-Err-Full.field-0-0 as (λ l. c.new.result ≡ Err (Full l) → ⊥) [
      | Bytes ↦ c.new.ensures.bytes
      | Tree ↦ λ h. subst T (sym (c.new.ensures.full.0 h) ∙ c.requires.within) tt
    ] (c.in-Err-Full.is ∙ ap Err c.in-Err-Full.field-0-is)
