use Rattle.std.proofs.Common.{rules, ◌≡◌, ◌++◌, ◌∙◌, List, ℕ, length, ap, sym, reverse}
use Rattle.sh_spell.specs.Layout.{guarded}
use Rattle.sh_spell.proofs.Guards.{guarded-reverse, all-guarded}
use Rattle.sh_spell.proofs.sheet.put_guarded.Goals as goal

pub bytes-preserved : goal.bytes-preserved
bytes-preserved c =
    ap (λ (z : List ℕ). guarded (reverse c.in-Some.rest.now) ++ z) c.in_ok-put_guarded_byte.ensures
    ∙ (guarded-reverse c.in-Some.byte.now c.in-Some.rest.now c.bytes.out
    ∙ (ap (λ (z : List ℕ). guarded (reverse z) ++ c.bytes.out) (sym c.in-Some.ensures.cases.0) ∙ c.bytes.invariant))

pub returns : goal.returns
returns c = let e : length c.bytes.left.now ≡ 0 = search rules in all-guarded _ _ _ e c.bytes.invariant
