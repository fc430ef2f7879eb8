use Rattle.std.proofs.Common.{◌∙◌, ◌∷◌, [], ap, length, reverse, arith}
use Rattle.std.proofs.lemmas.List.{length-append}
use Rattle.hs_world.specs.Tables.{ends_of}
use Rattle.hs_world.proofs.Stacks.{ends_push}
use Rattle.hs_world.proofs.tables.ends.Goals as goal

pub loop-descriptor-preserved : goal.loop-descriptor-preserved
loop-descriptor-preserved c =
    let ts = c.args.table.now ∷ reverse c.args.below.now in
    record {
      so_far = ends_push c.loop-descriptor.items.items c.push.new.self.items c.in_ok-to_route.field-0 c.loop-descriptor.descriptor ts (ends_of ts)
          c.in_ok-push.ensures.items (c.in_ok-to_route.ensures ∙ c.seen_end.ensures) c.loop-descriptor-test.true c.loop-descriptor.invariant.so_far;
      count = omega (arith, ap length c.in_ok-push.ensures.items, length-append c.loop-descriptor.items.items (c.in_ok-to_route.field-0 ∷ []), c.loop-descriptor.invariant.count);
      low = omega arith;
      high = omega arith;
    }
