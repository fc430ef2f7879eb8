-- How much of an expansion is left, in parts and words: each step leaves less.
use Rattle.std.specs.Prelude.{ℕ, ◌+◌, List, [], ◌∷◌, Option, Some, None}
use Rattle.sh_syntax.specs.declared.tree.Part.{Part, fold-Part}
use Rattle.sh_syntax.specs.declared.tree.Part.TheOpen as open_part
use Rattle.sh_syntax.specs.declared.tree.Part.TheOpen.{Part-F, Word-F}
use Rattle.sh_syntax.specs.declared.tree.Word.{Word}
use Rattle.sh_expand.specs.declared.machine.Machine.{Machine}
use Rattle.sh_expand.specs.declared.open.Open.{Open}
use Rattle.sh_expand.specs.declared.open.Open.TheVariants as open_variant

abbrev pub total : List ℕ → ℕ
total [] = 0
total (n ∷ ns) = n + total ns

abbrev pub total_in : Option (List ℕ) → ℕ
total_in None = 0
total_in (Some ns) = total ns

abbrev pub layer_weight : Part-F ℕ (List ℕ) → ℕ
layer_weight p = elim p [
  | open_part.Plain t ↦ 1
  | open_part.Single t ↦ 1
  | open_part.Escaped b ↦ 1
  | open_part.Double parts ↦ total parts + 2
  | open_part.Param name o colon word ↦ total_in word + 2
  | open_part.Command n ↦ 1
  | open_part.Arith word ↦ total word + 2
]

abbrev pub parts_in : Word-F ℕ (List ℕ) → List ℕ
parts_in w = w.parts

abbrev pub part_weight : Part → ℕ
part_weight p = fold-Part ℕ (List ℕ) layer_weight parts_in p

abbrev pub parts_weight : List Part → ℕ
parts_weight [] = 0
parts_weight (p ∷ ps) = part_weight p + parts_weight ps

abbrev pub word_weight : Option Word → ℕ
word_weight None = 0
word_weight (Some w) = parts_weight w.parts

abbrev pub words_weight : List Word → ℕ
words_weight [] = 0
words_weight (w ∷ ws) = parts_weight w.parts + 1 + words_weight ws

-- what is open has the parts behind it
abbrev pub open_weight : Open → ℕ
open_weight (open_variant.Within p) = parts_weight p.parts.now + 1
open_weight (open_variant.Assign name p ps) = parts_weight p.parts.now + 1
open_weight (open_variant.Error name) = 1
open_weight (open_variant.Trim o v p ps) = parts_weight p.parts.now + 1
open_weight (open_variant.Sum p ps) = parts_weight p.parts.now + 1

abbrev pub opens_weight : List Open → ℕ
opens_weight [] = 0
opens_weight (o ∷ os) = open_weight o + opens_weight os

abbrev pub weight : Machine → ℕ
weight x = parts_weight x.parts.now + opens_weight x.open + words_weight x.words.now
