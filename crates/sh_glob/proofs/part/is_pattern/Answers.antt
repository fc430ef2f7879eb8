use Rattle.std.proofs.Common.{◌+◌, Bool, drop, sym, ap, ◌∙◌}
use Rattle.std.specs.List.{list_any}
use Rattle.sh_pattern.specs.Items.{unescaped}
use Rattle.sh_glob.specs.Parts.{is_special}
use Rattle.sh_glob.proofs.Specials.{special_found, special_step}
use Rattle.sh_glob.proofs.part.is_pattern.Goals as goal

pub loop-symbol-preserved : goal.loop-symbol-preserved
loop-symbol-preserved c =
    let text = c.args.text.now in
    let i = c.loop-symbol.symbol-index in
    let e = c.loop-symbol.escaped in
    c.loop-symbol.invariant ∙ special_step text i e c.loop-symbol-test.true (sym c.is_special_here.ensures ∙ c.if-is_special_here.false)
    ∙ ap (λ (b : Bool). list_any is_special (unescaped b (drop (i + 1) text))) (sym c.escapes-escaped.ensures)

pub returns-then-is_special_here : goal.returns-then-is_special_here
returns-then-is_special_here c =
    sym (c.loop-symbol.invariant ∙ special_found c.args.text.now c.loop-symbol.symbol-index c.loop-symbol.escaped c.loop-symbol-test.true (sym c.is_special_here.ensures ∙ c.if-is_special_here.true))
