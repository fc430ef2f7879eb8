use Rattle.std.proofs.Common.{◌≡◌, List, ℕ, [], ◌∷◌, sym, ap, ◌∙◌}
use Rattle.std.specs.Prelude.{codes}
use Rattle.std.specs.Cmp.Lexicographic.{bytes_decides}
use Rattle.hs_main.proofs.Tops.{two-words}
use Rattle.hs_main.proofs.top.script_text.Goals as goal

pub returns-then-eq : goal.returns-then-eq
returns-then-eq c =
    let option : c.option-item.result ≡ codes "-c" = sym c.as_slice.ensures ∙ (bytes_decides _ _).0 (sym c.if-eq.ensures) ∙ c.as_slice-2.ensures in
    two-words _ _ _ c.in-len2.len_at_least c.in-len2.len_below c.option-item.is c.text-item.is ∙ ap (λ (x : List ℕ). x ∷ c.text-item.result ∷ []) option
