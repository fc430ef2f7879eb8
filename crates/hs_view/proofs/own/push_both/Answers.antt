use Rattle.std.proofs.Common.{◌≡◌, [], ◌∷◌, ap, ◌∙◌, arith, length, ◌-◌}
use Rattle.std.proofs.lemmas.List.{length-append}
use Rattle.hs_view.proofs.Putting.{last_is, written-by}
use Rattle.hs_view.proofs.own.push_both.Goals as goal

pub returns-then-is_err-clause-written : goal.returns-then-is_err-clause-written
returns-then-is_err-clause-written g c =
    let n = ap length (c.as_slice.ensures ∙ c.in_ok-push.ensures.ok) ∙ length-append c.args.effects.now (c.args.effect ∷ []) in
    let k : length c.as_slice.result.now - 1 ≡ length c.args.effects.now = omega (arith, n) in
    let e = last_is c.args.effects.now _ c.args.effect c.index-as_slice-last.result _ (c.as_slice-2.ensures ∙ c.in_ok-push.ensures.ok) k c.index-as_slice-last.is in
    let p = c.push-pushed.ensures in
    written-by g.B.Base.seen c.args.effect c.index-as_slice-last.result _ _ _ e c.requires.writes p.ok p.made p.err p.full p.asked p.writes p.runs p.later p.fault p.spent p.turns p.frames p.trace p.outside

pub returns-else-is_err-clause-written : goal.returns-else-is_err-clause-written
returns-else-is_err-clause-written g c =
    let n = ap length (c.as_slice.ensures ∙ c.in_ok-push.ensures.ok) ∙ length-append c.args.effects.now (c.args.effect ∷ []) in
    let k : length c.as_slice.result.now - 1 ≡ length c.args.effects.now = omega (arith, n) in
    let e = last_is c.args.effects.now _ c.args.effect c.index-as_slice-last.result _ (c.as_slice-2.ensures ∙ c.in_ok-push.ensures.ok) k c.index-as_slice-last.is in
    let p = c.push-pushed.ensures in
    written-by g.B.Base.seen c.args.effect c.index-as_slice-last.result _ _ _ e c.requires.writes p.ok p.made p.err p.full p.asked p.writes p.runs p.later p.fault p.spent p.turns p.frames p.trace p.outside
