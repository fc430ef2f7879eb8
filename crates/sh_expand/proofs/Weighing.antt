-- How much each kind of part weighs.
use Rattle.std.proofs.Common.{◌≡◌, ℕ, ◌+◌, Bool, List, [], ◌∷◌, map, refl, ap, ◌∙◌}
use Rattle.std.specs.Prelude.{Option, Some, None}
use Rattle.sh_syntax.specs.declared.tree.Part.{Part, Double, Param, Arith}
use Rattle.sh_syntax.specs.declared.tree.Word.{Word}
use Rattle.sh_syntax.specs.declared.tree.ParamOp.{ParamOp}
use Rattle.sh_expand.specs.Weights.{layer_weight, part_weight, parts_in, parts_weight, total, word_weight}
use Rattle.sh_expand.proofs.Folds.{fold_double, fold_param, fold_arith}

total_weight : (ps : List Part) → total (map part_weight ps) ≡ parts_weight ps
total_weight [] = refl
total_weight (p ∷ ps) = ap (λ (n : ℕ). part_weight p + n) (total_weight ps)

pub weight_double : (ps : List Part) → part_weight (Double ps) ≡ parts_weight ps + 2
weight_double ps = fold_double ℕ (List ℕ) layer_weight parts_in ps ∙ ap (λ (n : ℕ). n + 2) (total_weight ps)

pub weight_arith : (w : Word) → part_weight (Arith w) ≡ parts_weight w.parts + 2
weight_arith w = fold_arith ℕ (List ℕ) layer_weight parts_in w ∙ ap (λ (n : ℕ). n + 2) (total_weight w.parts)

pub weight_param : (x : List ℕ) (o : ParamOp) (c : Bool) (w : Option Word) → part_weight (Param x o c w) ≡ word_weight w + 2
weight_param x o c None = fold_param ℕ (List ℕ) layer_weight parts_in x o c None
weight_param x o c (Some w) = fold_param ℕ (List ℕ) layer_weight parts_in x o c (Some w) ∙ ap (λ (n : ℕ). n + 2) (total_weight w.parts)
