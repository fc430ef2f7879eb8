use Rattle.std.proofs.Common.{◌-◌, ◌∙◌, arith, length-set, ap}
use Rattle.sh_pattern.specs.Items.{closes}
use Rattle.sh_pattern.proofs.Tables.{IsClosings-behind, one-place}
use Rattle.sh_pattern.proofs.bracket.closings.Goals as goal

pub closes-here-requires : goal.closes-here-requires
closes-here-requires c =
    rw (c.split_at-in-places.ensures.back, c.as_slice.ensures.value, c.split_at.ensures.back)
    (IsClosings-behind (c.places.at - 1) c.places.closed.items c.args.text.now (omega arith) c.places.invariant.len
    (λ k h l. c.places.invariant.each k (omega arith) l))

pub places-preserved : goal.places-preserved
places-preserved c = record {
  within = omega arith;
  len = length-set c.places.closed.items (c.places.at - 1) c.closes-here.result ∙ c.places.invariant.len;
  each = one-place (c.places.at - 1) c.places.closed.items c.args.text.now c.closes-here.result (omega (arith, c.places.invariant.len))
      (c.closes-here.ensures ∙ ap closes c.split_at.ensures.back)
      (λ k h l. c.places.invariant.each k (omega arith) l);
}
