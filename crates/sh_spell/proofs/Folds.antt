-- The first list of each kind of part, and of parts one after another.
use Rattle.std.proofs.Common.{◌≡◌, ℕ, Bool, List, sym, ap, ◌∙◌}
use Rattle.std.specs.Prelude.{Option, Some, None}
use Rattle.sh_syntax.specs.declared.tree.Part.{Part, Plain, Single, Escaped, Double, Param, Command, Arith, fold-Part, fold-roll-Part}
use Rattle.sh_syntax.specs.declared.tree.Part.TheVariants.{rolls-Plain, rolls-Single, rolls-Escaped, rolls-Double, rolls-Param, rolls-Command, rolls-Arith}
use Rattle.sh_syntax.specs.declared.tree.Part.TheOpen as open_part
use Rattle.sh_syntax.specs.declared.tree.Part.TheOpen.{Part-F, Word-F}
use Rattle.sh_syntax.specs.declared.tree.Word.{Word, fold-Word, fold_out-Word}
use Rattle.sh_syntax.specs.declared.tree.ParamOp.{ParamOp}
use Rattle.sh_spell.specs.Scripts.{layer_list, inner_list, part_list, parts_list, word_list, operand_list}

abbrev L : Type 0
L = Option ℕ

pub list-plain : (x : List ℕ) → part_list (Plain x) ≡ None
list-plain x = sym (ap (fold-Part L L layer_list inner_list) (rolls-Plain x)) ∙ fold-roll-Part L L layer_list inner_list (open_part.Plain x)

pub list-single : (x : List ℕ) → part_list (Single x) ≡ None
list-single x = sym (ap (fold-Part L L layer_list inner_list) (rolls-Single x)) ∙ fold-roll-Part L L layer_list inner_list (open_part.Single x)

pub list-escaped : (b : ℕ) → part_list (Escaped b) ≡ None
list-escaped b = sym (ap (fold-Part L L layer_list inner_list) (rolls-Escaped b)) ∙ fold-roll-Part L L layer_list inner_list (open_part.Escaped b)

pub list-command : (n : ℕ) → part_list (Command n) ≡ Some n
list-command n = sym (ap (fold-Part L L layer_list inner_list) (rolls-Command n)) ∙ fold-roll-Part L L layer_list inner_list (open_part.Command n)

pub list-double : (ps : List Part) → part_list (Double ps) ≡ parts_list ps
list-double ps = sym (ap (fold-Part L L layer_list inner_list) (rolls-Double ps)) ∙ fold-roll-Part L L layer_list inner_list (open_part.Double ps)

inner : (w : Word) → fold-Word L L layer_list inner_list w ≡ word_list w
inner w = fold_out-Word L L layer_list inner_list w

pub list-arith : (w : Word) → part_list (Arith w) ≡ word_list w
list-arith w = sym (ap (fold-Part L L layer_list inner_list) (rolls-Arith w)) ∙ (fold-roll-Part L L layer_list inner_list (open_part.Arith w) ∙ inner w)

pub list-param : (x : List ℕ) (o : ParamOp) (c : Bool) (w : Option Word) → part_list (Param x o c w) ≡ operand_list w
list-param x o c None = sym (ap (fold-Part L L layer_list inner_list) (rolls-Param x o c None)) ∙ fold-roll-Part L L layer_list inner_list (open_part.Param x o c None)
list-param x o c (Some w) =
    sym (ap (fold-Part L L layer_list inner_list) (rolls-Param x o c (Some w))) ∙ (fold-roll-Part L L layer_list inner_list (open_part.Param x o c (Some w)) ∙ inner w)
