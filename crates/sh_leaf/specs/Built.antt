-- Which scripts are built: simple commands one after another, whose words and assignments have no command substitution at any depth, each
-- with the plain name of a utility that is built as its first word, if it has words.
use Rattle.std.specs.Prelude.{ℕ, Bool, true, false, not, ◌&&◌, List, [], ◌∷◌, Option, None, Some, is_some}
use Rattle.std.specs.List.{list_all}
use Rattle.sh_syntax.specs.declared.tree.Part.{Part, fold-Part}
use Rattle.sh_syntax.specs.declared.tree.Part.TheOpen as open_part
use Rattle.sh_syntax.specs.declared.tree.Part.TheOpen.{Part-F, Word-F}
use Rattle.sh_syntax.specs.declared.tree.Part.{Plain}
use Rattle.sh_syntax.specs.declared.tree.Word.{Word}
use Rattle.sh_syntax.specs.declared.tree.Command.{Command}
use Rattle.sh_syntax.specs.declared.tree.Command.TheVariants.{Simple}
use Rattle.sh_syntax.specs.declared.tree.Pipeline.{Pipeline}
use Rattle.sh_syntax.specs.declared.tree.AndOr.{AndOr}
use Rattle.sh_syntax.specs.declared.tree.List as tree
use Rattle.sh_syntax.specs.declared.tree.Redir.{Redir}
use Rattle.sh_syntax.specs.declared.tree.Script.{Script}
use Rattle.sh_leaf.specs.Utilities.{named}

abbrev pub is_none : {A : Type 0} → List A → Bool
is_none [] = true
is_none (_ ∷ _) = false

-- ---- words

abbrev pub all_true : List Bool → Bool
all_true [] = true
all_true (b ∷ bs) = b && all_true bs

abbrev pub all_true_in : Option (List Bool) → Bool
all_true_in None = true
all_true_in (Some bs) = all_true bs

-- by what is so of the parts inside
abbrev pub layer_built : Part-F Bool (List Bool) → Bool
layer_built p = elim p [
  | open_part.Plain t ↦ true
  | open_part.Single t ↦ true
  | open_part.Escaped b ↦ true
  | open_part.Double parts ↦ all_true parts
  | open_part.Param name o colon word ↦ all_true_in word
  | open_part.Command n ↦ false
  | open_part.Arith word ↦ all_true word
]

abbrev pub parts_in : Word-F Bool (List Bool) → List Bool
parts_in w = w.parts

abbrev pub is_built_part : Part → Bool
is_built_part p = fold-Part Bool (List Bool) layer_built parts_in p

abbrev pub is_built_word : Word → Bool
is_built_word word = list_all is_built_part word.parts

abbrev pub is_built_operand : Option Word → Bool
is_built_operand None = true
is_built_operand (Some word) = is_built_word word

abbrev pub is_known_part : Part → Bool
is_known_part (Plain bytes) = is_some (named bytes)
is_known_part _ = false

abbrev pub is_known_name : List Part → Bool
is_known_name [] = false
is_known_name (p ∷ []) = is_known_part p
is_known_name (_ ∷ _ ∷ _) = false

-- The first word is written plain, and is the name of a utility.
abbrev pub are_built_words : List Word → Bool
are_built_words [] = true
are_built_words (name ∷ args) = is_known_name name.parts && list_all is_built_word args

-- ---- commands

abbrev pub is_built_assign : List ℕ × Word → Bool
is_built_assign a = is_built_word a.1

-- no redirection stands beside the words
abbrev pub is_built_simple : List (List ℕ × Word) → List Word → List Redir → Bool
is_built_simple assigns words redirs = list_all is_built_assign assigns && are_built_words words && is_none redirs

abbrev pub is_built_command : Command → Bool
is_built_command (Simple assigns words redirs) = is_built_simple assigns words redirs
is_built_command _ = false

-- one command, without `!`
abbrev pub is_alone : List Command → Bool
is_alone [] = false
is_alone (c ∷ []) = is_built_command c
is_alone (_ ∷ _ ∷ _) = false

abbrev pub is_built_pipeline : Pipeline → Bool
is_built_pipeline p = not p.bang && is_alone p.stages

-- Nothing is joined by `&&` or `||`.
abbrev pub is_unjoined : AndOr → Bool
is_unjoined x = is_none x.rest

abbrev pub is_sequence : tree.List → Bool
is_sequence list = list_all is_unjoined list.items

abbrev pub is_built : Script → Bool
is_built script = list_all is_sequence script.lists && is_none script.bodies && list_all is_built_pipeline script.leaves
