-- The meaning of each kind of part.
use Rattle.std.proofs.Common.{◌≡◌, ℕ, Bool, false, ◌&&◌, List, [], ◌∷◌, ◌++◌, ap}
use Rattle.std.specs.Prelude.{Option, Some, None}
use Rattle.sh_split.specs.declared.mark.Mark.TheVariants.{Quoted}
use Rattle.sh_syntax.specs.declared.tree.Part.{Part, Plain, Single, Escaped, Double, Param, Command, Arith}
use Rattle.sh_syntax.specs.declared.tree.Word.{Word}
use Rattle.sh_syntax.specs.declared.tree.ParamOp.{ParamOp}
use Rattle.sh_param.specs.Lookups.{with_text}
use Rattle.sh_param.specs.Parts.{Meaning, double_means, follow_of, is_at_byte, is_value, meaning, opened, other, output_means, param_means, parts_of, plain, single_pieces, sum_means}
use Rattle.sh_param.specs.Plans.{after}
use Rattle.sh_param.specs.Tildes.{starts_after}
use Rattle.sh_param.specs.declared.piece.Piece.TheVariants as piece
use Rattle.sh_expand.specs.Rest.{means, meaning_plan, next_of, part_plan, with_start, words_of}
use Rattle.sh_expand.specs.Sums.{sums}
use Rattle.sh_expand.specs.declared.machine.Machine.{Machine}
use Rattle.sh_expand.proofs.Folds.{fold_plain, fold_single, fold_escaped, fold_double, fold_param, fold_command, fold_arith}

-- ---- meanings

pub meaning_plain : (t : List ℕ) → meaning sums (Plain t) ≡ plain t
meaning_plain t = fold_plain Meaning (List Meaning) (opened sums) parts_of t

pub meaning_single : (t : List ℕ) → meaning sums (Single t) ≡ other false (λ m ps k. k (ps ++ single_pieces t))
meaning_single t = fold_single Meaning (List Meaning) (opened sums) parts_of t

pub meaning_escaped : (b : ℕ) → meaning sums (Escaped b) ≡ other false (λ m ps k. k (ps ++ piece.Mark (Quoted b) ∷ []))
meaning_escaped b = fold_escaped Meaning (List Meaning) (opened sums) parts_of b

pub meaning_double : (ps : List Part) → meaning sums (Double ps) ≡ other false (double_means (means ps))
meaning_double ps = fold_double Meaning (List Meaning) (opened sums) parts_of ps

pub meaning_param : (x : List ℕ) (o : ParamOp) (c : Bool) (w : Option Word) → meaning sums (Param x o c w) ≡ other (is_value o && is_at_byte x) (param_means x o c (words_of w))
meaning_param x o c None = fold_param Meaning (List Meaning) (opened sums) parts_of x o c None
meaning_param x o c (Some w) = fold_param Meaning (List Meaning) (opened sums) parts_of x o c (Some w)

pub meaning_command : (n : ℕ) → meaning sums (Command n) ≡ other false (output_means n)
meaning_command n = fold_command Meaning (List Meaning) (opened sums) parts_of n

pub meaning_arith : (w : Word) → meaning sums (Arith w) ≡ other false (λ m ps k. sum_means sums m (means w.parts) ps k)
meaning_arith w = fold_arith Meaning (List Meaning) (opened sums) parts_of w

-- ---- what is to be done for a part, and then for those that come next

pub plan_plain : (t : List ℕ) (x : Machine) → part_plan (Plain t) x ≡ after (with_text x.mode x.start (follow_of (means x.parts.now)) t x.pieces) (next_of (with_start (starts_after x.mode x.start t) x))
plan_plain t x = ap (λ (m : Meaning). meaning_plan m x) (meaning_plain t)

pub plan_single : (t : List ℕ) (x : Machine) → part_plan (Single t) x ≡ next_of (with_start false x) (x.pieces ++ single_pieces t)
plan_single t x = ap (λ (m : Meaning). meaning_plan m x) (meaning_single t)

pub plan_escaped : (b : ℕ) (x : Machine) → part_plan (Escaped b) x ≡ next_of (with_start false x) (x.pieces ++ piece.Mark (Quoted b) ∷ [])
plan_escaped b x = ap (λ (m : Meaning). meaning_plan m x) (meaning_escaped b)

pub plan_double : (ps : List Part) (x : Machine) → part_plan (Double ps) x ≡ double_means (means ps) x.mode x.pieces (next_of (with_start false x))
plan_double ps x = ap (λ (m : Meaning). meaning_plan m x) (meaning_double ps)

pub plan_param : (y : List ℕ) (o : ParamOp) (c : Bool) (w : Option Word) (x : Machine) → part_plan (Param y o c w) x ≡ param_means y o c (words_of w) x.mode x.pieces (next_of (with_start false x))
plan_param y o c w x = ap (λ (m : Meaning). meaning_plan m x) (meaning_param y o c w)

pub plan_command : (n : ℕ) (x : Machine) → part_plan (Command n) x ≡ output_means n x.mode x.pieces (next_of (with_start false x))
plan_command n x = ap (λ (m : Meaning). meaning_plan m x) (meaning_command n)

pub plan_arith : (w : Word) (x : Machine) → part_plan (Arith w) x ≡ sum_means sums x.mode (means w.parts) x.pieces (next_of (with_start false x))
plan_arith w x = ap (λ (m : Meaning). meaning_plan m x) (meaning_arith w)
