use Rattle.std.proofs.Common.{List, ℕ, ◌+◌, ◌-◌, ◌^◌, get_or, drop, sym, ap, ◌∙◌, arith}
use Rattle.std.specs.Prelude.{min}
use Rattle.std.proofs.lemmas.List.{at_drop_more, at_drop_all}
use Rattle.sh_param.specs.Kinds.{number}
use Rattle.sh_param.proofs.Numbers.{number_step}
use Rattle.sh_param.proofs.kind.position.Goals as goal

pub loop-byte-preserved : goal.loop-byte-preserved
loop-byte-preserved c =
    let n = c.loop-byte.number in
    let i = c.loop-byte.byte-index in
    let m = 2 ^ 128 - 1 in
    let name = c.args.name.now in
    let rest = drop (i + 1) name in (
      ap (λ (x : ℕ). min (number x rest) m) c.more-number.ensures
          ∙ number_step m n (get_or name i 0) rest
          ∙ sym (at_drop_more (λ (r : List ℕ). min (number n r) m) name i 0 c.loop-byte-test.true)
          ∙ c.loop-byte.invariant.0,
      omega (arith, c.more-number.ensures),
    )

pub returns : goal.returns
returns c =
    let n = c.loop-byte.number in
    let e = at_drop_all (λ (r : List ℕ). min (number n r) (2 ^ 128 - 1)) c.args.name.now c.loop-byte.byte-index c.loop-byte-test.false in
    omega (arith, e, c.loop-byte.invariant.0, c.loop-byte.invariant.1)
