use Rattle.std.proofs.Common.{◌-◌, ap, ◌∙◌, length, drop, reverse}
use Rattle.hs_overlay.specs.Inputs.{InputsData}
use Rattle.hs_overlay.proofs.Piles.{kept_pile}
use Rattle.hs_overlay.proofs.inputs.Inputs.keep.Goals as goal

pub returns : goal.returns
returns c =
    let kept = ap reverse c.truncate.ensures.items ∙ kept_pile c.args.inputs c.self.inside.pushed.items in
    (λ i. record { pushed = kept i; base = c.self.inside.base }) ∙ ap (λ (v : InputsData). record v { pushed = drop (length v.pushed - c.args.inputs) v.pushed }) c.self.view_is
