use Rattle.std.proofs.Common.{◌≡◌, ℕ, true, List, [], ◌∷◌, length, refl, arith}
use Rattle.sh_spell.specs.Scripts.{needs_braces}
use Rattle.sh_spell.proofs.value.needs_braces.Goals as goal

no_name : (x c : List ℕ) → length x ≡ 0 → true ≡ needs_braces x c
no_name [] c e = refl
no_name (b ∷ x) c e = absurd (omega arith)

pub returns-in-empty : goal.returns-in-empty
returns-in-empty c = no_name c.args.name.now c.args.text.now (omega arith)
