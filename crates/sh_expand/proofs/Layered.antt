-- What a part does hangs on the shell alone, as far as the parts in it do.
use Rattle.std.proofs.Common.{◌≡◌, ℕ, ℤ, Bool, true, false, not, List, [], ◌∷◌, ◌++◌, map, refl, sym, ap, ◌∙◌, subst}
use Rattle.std.specs.Prelude.{Option, Some, None, Result, Ok, Err, codes}
use Rattle.std.specs.FinMap.{get, insert}
use Rattle.hs_world.specs.World.{WorldData, Applied, Apply}
use Rattle.hs_world.specs.declared.effect.Effect.{Effect}
use Rattle.hs_world.specs.declared.effect.Effect.TheVariants.{SetVar}
use Rattle.hs_world.specs.declared.var.Var.{Var}
use Rattle.hs_view.specs.Acts.{answering}
use Rattle.hs_view.specs.Steps.{Done}
use Rattle.sh_arith.specs.Grammar.{Tree}
use Rattle.sh_arith.specs.Names.{Assignment}
use Rattle.sh_arith.specs.Trees.{tree_of}
use Rattle.sh_arith.specs.Value.{Ended, evaluate, stopped, value}
use Rattle.sh_syntax.specs.declared.tree.Part.TheOpen as open_part
use Rattle.sh_syntax.specs.declared.tree.Part.TheOpen.{Part-F}
use Rattle.sh_syntax.specs.declared.tree.ParamOp.{ParamOp}
use Rattle.sh_syntax.specs.declared.tree.ParamOp.TheVariants as op
use Rattle.sh_sum.specs.Sums.{sum_of, summed, table_of}
use Rattle.sh_sum.specs.declared.sum.Sum.{Sum}
use Rattle.sh_param.specs.Kinds.{kind_of}
use Rattle.sh_param.specs.Messages.{message}
use Rattle.sh_param.specs.Modes.{quoted, sum}
use Rattle.sh_param.specs.Outputs.{substituted}
use Rattle.sh_param.specs.Parts.{Meaning, Next, after_sum, is_variable, opened, param_means, put_value, quotes_of, size_means, sum_means, value_means, variable_means, word_of}
use Rattle.sh_param.specs.Pieces.{bytes_of, expanded_all}
use Rattle.sh_param.specs.Plans.{after, fails}
use Rattle.sh_param.specs.Values.{size_text}
use Rattle.sh_param.specs.declared.mode.Mode.{Mode}
use Rattle.sh_param.specs.declared.piece.Piece.{Piece}
use Rattle.sh_expand.specs.Shells.{LooksAtShell, SameShell}
use Rattle.sh_expand.specs.Sums.{shown, sums}
use Rattle.sh_expand.proofs.Looks.{EachLooks, MeaningLooks, NextLooks, look_looks, parts_look, put_looks, text_looks}
use Rattle.sh_expand.proofs.Operations.{alternative_looks, default_looks, error_looks, if_looks, trim_looks, variable_looks, word_looks}

-- ---- parameters

pub param_looks : (name : List ℕ) (o : ParamOp) (colon : Bool) (word : List Meaning) (m : Mode) (ps : List Piece) (k : Next) → EachLooks word → NextLooks k → LooksAtShell (param_means name o colon word m ps k)
param_looks name op.Value colon word m ps k e l = look_looks m name (λ v. put_value m v ps k) (λ v. put_looks m v ps k l)
param_looks name op.Length colon word m ps k e l = look_looks m name (λ v. k (ps ++ expanded_all m (size_text v))) (λ v. l (ps ++ expanded_all m (size_text v)))
param_looks name op.Default colon word m ps k e l = default_looks m name colon word ps k e l
param_looks name op.Assign colon word m ps k e l =
    if_looks (is_variable (kind_of name)) (variable_means m name colon word ps k) (fails (message name (codes "cannot assign"))) (variable_looks m name colon word ps k e l) tt
param_looks name op.Error colon word m ps k e l = error_looks m name colon word ps k e l
param_looks name op.Alternative colon word m ps k e l = alternative_looks m name colon word ps k e l
param_looks name op.SmallSuffix colon word m ps k e l = trim_looks op.SmallSuffix m name word ps k e l
param_looks name op.LargeSuffix colon word m ps k e l = trim_looks op.LargeSuffix m name word ps k e l
param_looks name op.SmallPrefix colon word m ps k e l = trim_looks op.SmallPrefix m name word ps k e l
param_looks name op.LargePrefix colon word m ps k e l = trim_looks op.LargePrefix m name word ps k e l

-- ---- arithmetic

sets_shell : (f : Assignment → Var) (made : List Assignment) (u v : WorldData) → SameShell u v → SameShell (Applied (map (λ a. SetVar a.name (f a)) made) u) (Applied (map (λ a. SetVar a.name (f a)) made) v)
sets_shell f [] u v s = s
sets_shell f (a ∷ made) u v s =
    sets_shell f made (Apply (SetVar a.name (f a)) u) (Apply (SetVar a.name (f a)) v) (record { vars = ap (λ x. insert x a.name (f a)) s.vars; zero = s.zero; params = s.params })

summed_shell : (w : WorldData) (e : Ended) (u v : WorldData) → SameShell u v → SameShell (Applied (summed w e).effects u) (Applied (summed w e).effects v)
summed_shell w (value n t) u v s = sets_shell _ t.made u v s
summed_shell w (stopped c t) u v s = sets_shell _ t.made u v s

sum_shell : (w : WorldData) (t : Option Tree) (u v : WorldData) → SameShell u v → SameShell (Applied (sum_of t w).effects u) (Applied (sum_of t w).effects v)
sum_shell w None u v s = s
sum_shell w (Some t) u v s = summed_shell w (evaluate t (table_of w)) u v s

sum_same : (t : Option Tree) (u v : WorldData) → SameShell u v → sum_of t u ≡ sum_of t v
sum_same None u v s = refl
sum_same (Some t) u v s = ap (λ x. sum_of (Some t) (record u { vars = x })) s.vars

sums_same : (bytes : List ℕ) (u v : WorldData) → SameShell u v → sums bytes u ≡ sums bytes v
sums_same bytes u v s = ap (λ (d : Done Sum). answering shown d) (sum_same (tree_of bytes) u v s)

sum_next : (m : Mode) (ps : List Piece) (k : Next) (r : Result (List ℕ) (List ℕ)) → NextLooks k → LooksAtShell (after_sum m ps k r)
sum_next m ps k (Ok n) l = l (ps ++ expanded_all m n)
sum_next m ps k (Err why) l = tt

pub sum_looks : (m : Mode) (bytes : List ℕ) (ps : List Piece) (k : Next) → NextLooks k → LooksAtShell (after (sums bytes) (after_sum m ps k))
sum_looks m bytes ps k l = (
  λ u v s. let e = sums_same bytes u v s in
      record {
        effects = λ i. (e i).effects;
        later = λ i. after_sum m ps k (e i).answer;
        shell = subst (λ (es : List Effect). SameShell (Applied (sums bytes u).effects u) (Applied es v)) (λ i. (e i).effects) (sum_shell u (tree_of bytes) u v s);
      },
  λ u. sum_next m ps k (sums bytes u).answer l,
)

-- ---- each kind of part

abbrev pub InnerLook : Part-F Meaning (List Meaning) → Type 0
InnerLook p = elim p [
  | open_part.Plain t ↦ Unit {0}
  | open_part.Single t ↦ Unit {0}
  | open_part.Escaped b ↦ Unit {0}
  | open_part.Double parts ↦ EachLooks parts
  | open_part.Param name o colon word ↦ EachLooks (word_of word)
  | open_part.Command n ↦ Unit {0}
  | open_part.Arith word ↦ EachLooks word
]

pub layer_looks : (p : Part-F Meaning (List Meaning)) → InnerLook p → MeaningLooks (opened sums p)
layer_looks (open_part.Plain t) e = λ m start f ps k l. text_looks m start f t ps k l
layer_looks (open_part.Single t) e = λ m start f ps k l. l _
layer_looks (open_part.Escaped b) e = λ m start f ps k l. l _
layer_looks (open_part.Double parts) e = λ m start f ps k l. parts_look (quoted m) false parts (ps ++ quotes_of parts) k e l
layer_looks (open_part.Param name o colon word) e = λ m start f ps k l. param_looks name o colon (word_of word) m ps k e l
layer_looks (open_part.Command n) e = λ m start f ps k l out. l (ps ++ expanded_all m (substituted out))
layer_looks (open_part.Arith word) e = λ m start f ps k l. word_looks (sum m) word [] (λ qs. after (sums (bytes_of qs)) (after_sum m ps k)) e (λ qs. sum_looks m (bytes_of qs) ps k l)
