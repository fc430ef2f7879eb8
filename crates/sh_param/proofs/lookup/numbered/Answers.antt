use Rattle.std.proofs.Common.{◌≡◌, ℕ, ◌^◌, ◌<◌, ltb, List, length, sym, ap, ◌∙◌, arith}
use Rattle.std.proofs.lemmas.Bool.{ltb-true}
use Rattle.sh_param.specs.Lookups.{positional}
use Rattle.sh_param.proofs.Places.{unset_at}
use Rattle.sh_param.proofs.lookup.numbered.Goals as goal

pub returns-then-is_behind : goal.returns-then-is_behind
returns-then-is_behind c =
    λ n e.
    let fewer : length c.args.texts.now < c.args.number =
    ltb-true (length c.args.texts.now) c.args.number (ap (λ (ts : List (List ℕ)). ltb (length ts) c.args.number) (sym c.as_slice.ensures) ∙ sym c.is_behind.ensures.behind ∙ c.if-is_behind.true) in
    sym (unset_at n c.args.zero c.args.texts.now (omega (arith, e, fewer)))

pub returns : goal.returns
returns c =
    λ n e.
    let below : c.args.number < 2 ^ 64 = c.is_behind.ensures.within c.if-is_behind.false in
    let same : c.args.number ≡ n = omega (arith, e, below) in
    c.in_ok-value.ensures ∙ ap (λ (k : ℕ). positional k c.args.zero c.args.texts.now) same
