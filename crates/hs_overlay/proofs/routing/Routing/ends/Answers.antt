use Rattle.std.proofs.Common.{rules, ◌≡◌, ◌∷◌, [], ap, sym, ◌∙◌, false, length, reverse, arith}
use Rattle.std.specs.Prelude.{Some}
use Rattle.std.proofs.lemmas.List.{length-append}
use Rattle.hs_overlay.specs.Routing.{seen_over, ends_over}
use Rattle.hs_overlay.proofs.Gathered.{gathered-more}
use Rattle.hs_overlay.proofs.routing.Routing.ends.Goals as goal

pub loop-descriptor-preserved : goal.loop-descriptor-preserved
loop-descriptor-preserved c =
    let r = c.args.self.now in
    let d = c.loop-descriptor.descriptor in
    let slice : c.as_slice.result.now ≡ c.self.inside.pushed.items = search rules in
    let seen : seen_over false d r.pushed r.base ≡ Some c.in-Some.route =
    sym (ap (λ v. seen_over false d v.pushed v.base) c.self.view_is)
    ∙ ap (λ ts. seen_over false d (reverse ts) c.self.inside.base) (sym slice)
    ∙ sym c.seen_over-end.ensures
    ∙ sym c.in_ok-route.ensures
    ∙ c.in-Some.is in
    record {
      so_far = gathered-more c.loop-descriptor.items.items c.push.new.self.items r d c.in-Some.route (ends_over 9 1 r) c.loop-descriptor-test.true seen c.in_ok-push-in-Some.ensures.items c.loop-descriptor.invariant.so_far;
      count = omega (arith, ap length c.in_ok-push-in-Some.ensures.items, length-append c.loop-descriptor.items.items (c.in-Some.route ∷ []), c.loop-descriptor.invariant.count);
      low = omega arith;
      high = omega arith;
    }
