-- What `grep` searches.
use Rattle.std.proofs.Common.{◌≡◌, ℕ, Bool, true, false, List, [], ◌∷◌, length, refl, sym, ap, eqb, arith}
use Rattle.std.specs.Prelude.{codes}
use Rattle.std.proofs.lemmas.Bool.{eqb-true}
use Rattle.hs_world.specs.World.{WorldData}
use Rattle.util_common.specs.Operands.{or_input, refused}
use Rattle.util_common.specs.declared.messages.Why.TheVariants.{MissingOperand}
use Rattle.util_lines.specs.Selecting.{found_by, is_several, operands_searched, words_searched}
use Rattle.util_lines.specs.declared.fixed_lines.Flags.{Flags}
use Rattle.util_lines.specs.declared.fixed_lines.Search.{Search}

pub no_files : (search : Search) (files : List (List ℕ)) (w : WorldData) → eqb (length files) 0 ≡ true
    → words_searched search false (found_by false false) (or_input []) w ≡ words_searched search (is_several files) (found_by false false) (or_input files) w
no_files search [] w h = refl
no_files search (f ∷ fs) w h = absurd (omega (arith, eqb-true (length (f ∷ fs)) 0 h))

pub some_files : (search : Search) (files : List (List ℕ)) (several : Bool) (w : WorldData) → eqb (length files) 0 ≡ false → several ≡ is_several files
    → words_searched search several (found_by false false) files w ≡ words_searched search (is_several files) (found_by false false) (or_input files) w
some_files search [] several w h e = absurd cc
some_files search (f ∷ fs) several w h e = ap (λ (b : Bool). words_searched search b (found_by false false) (f ∷ fs) w) e

pub no_operand : (flags : Flags) (operands : List (List ℕ)) (w : WorldData) → length operands ≡ 0 → refused (codes "grep") MissingOperand w ≡ operands_searched flags operands w
no_operand flags [] w h = refl
no_operand flags (o ∷ os) w h = absurd (omega arith)
