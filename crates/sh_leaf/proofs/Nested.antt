-- Whether a part has no command substitution, by the parts in it.
use Rattle.std.proofs.Common.{◌≡◌, ℕ, Bool, true, false, List, [], ◌∷◌, map, refl, ap, ◌∙◌}
use Rattle.std.specs.Prelude.{◌&&◌, Option, Some, None, option_map}
use Rattle.std.specs.List.{list_all}
use Rattle.sh_syntax.specs.declared.tree.Part.{Part, Plain, Single, Escaped, Double, Param, Command, Arith}
use Rattle.sh_syntax.specs.declared.tree.ParamOp.{ParamOp}
use Rattle.sh_syntax.specs.declared.tree.Word.{Word}
use Rattle.sh_expand.proofs.Folds.{fold_arith, fold_command, fold_double, fold_escaped, fold_param, fold_plain, fold_single}
use Rattle.sh_leaf.specs.Built.{all_true, all_true_in, is_built_operand, is_built_part, is_built_word, layer_built, parts_in}

all_built : (ps : List Part) → all_true (map is_built_part ps) ≡ list_all is_built_part ps
all_built [] = refl
all_built (p ∷ ps) = ap (λ (b : Bool). is_built_part p && b) (all_built ps)

operand_built : (w : Option Word) → all_true_in (option_map (λ (v : Word). parts_in (record { parts = map is_built_part v.parts })) w) ≡ is_built_operand w
operand_built None = refl
operand_built (Some w) = all_built w.parts

pub plain_built : (t : List ℕ) → is_built_part (Plain t) ≡ true
plain_built t = fold_plain Bool (List Bool) layer_built parts_in t

pub single_built : (t : List ℕ) → is_built_part (Single t) ≡ true
single_built t = fold_single Bool (List Bool) layer_built parts_in t

pub escaped_built : (b : ℕ) → is_built_part (Escaped b) ≡ true
escaped_built b = fold_escaped Bool (List Bool) layer_built parts_in b

pub double_built : (ps : List Part) → is_built_part (Double ps) ≡ list_all is_built_part ps
double_built ps = fold_double Bool (List Bool) layer_built parts_in ps ∙ all_built ps

pub param_built : (x : List ℕ) (o : ParamOp) (c : Bool) (w : Option Word) → is_built_part (Param x o c w) ≡ is_built_operand w
param_built x o c w = fold_param Bool (List Bool) layer_built parts_in x o c w ∙ operand_built w

pub command_built : (n : ℕ) → is_built_part (Command n) ≡ false
command_built n = fold_command Bool (List Bool) layer_built parts_in n

pub arith_built : (w : Word) → is_built_part (Arith w) ≡ is_built_word w
arith_built w = fold_arith Bool (List Bool) layer_built parts_in w ∙ all_built w.parts
