-- What a fold makes of each kind of part.
use Rattle.std.proofs.Common.{◌≡◌, ℕ, Bool, List, map, sym, ap, ◌∙◌}
use Rattle.std.specs.Prelude.{Option, Some, None, option_map}
use Rattle.sh_syntax.specs.declared.tree.Part.{Part, Plain, Single, Escaped, Double, Param, Command, Arith, fold-Part, fold-roll-Part}
use Rattle.sh_syntax.specs.declared.tree.Part.TheVariants.{rolls-Plain, rolls-Single, rolls-Escaped, rolls-Double, rolls-Param, rolls-Command, rolls-Arith}
use Rattle.sh_syntax.specs.declared.tree.Part.TheOpen as open_part
use Rattle.sh_syntax.specs.declared.tree.Part.TheOpen.{Part-F, Word-F}
use Rattle.sh_syntax.specs.declared.tree.Word.{Word, fold-Word, fold_out-Word}
use Rattle.sh_syntax.specs.declared.tree.ParamOp.{ParamOp}

module _ (A B : Type 0) (f : Part-F A B → A) (g : Word-F A B → B) where
  pub fold_plain : (t : List ℕ) → fold-Part A B f g (Plain t) ≡ f (open_part.Plain t)
  fold_plain t = sym (ap (fold-Part A B f g) (rolls-Plain t)) ∙ fold-roll-Part A B f g (open_part.Plain t)

  pub fold_single : (t : List ℕ) → fold-Part A B f g (Single t) ≡ f (open_part.Single t)
  fold_single t = sym (ap (fold-Part A B f g) (rolls-Single t)) ∙ fold-roll-Part A B f g (open_part.Single t)

  pub fold_escaped : (b : ℕ) → fold-Part A B f g (Escaped b) ≡ f (open_part.Escaped b)
  fold_escaped b = sym (ap (fold-Part A B f g) (rolls-Escaped b)) ∙ fold-roll-Part A B f g (open_part.Escaped b)

  pub fold_command : (n : ℕ) → fold-Part A B f g (Command n) ≡ f (open_part.Command n)
  fold_command n = sym (ap (fold-Part A B f g) (rolls-Command n)) ∙ fold-roll-Part A B f g (open_part.Command n)

  pub fold_double : (ps : List Part) → fold-Part A B f g (Double ps) ≡ f (open_part.Double (map (fold-Part A B f g) ps))
  fold_double ps = sym (ap (fold-Part A B f g) (rolls-Double ps)) ∙ fold-roll-Part A B f g (open_part.Double ps)

  pub fold_word : (w : Word) → fold-Word A B f g w ≡ g (record { parts = map (fold-Part A B f g) w.parts })
  fold_word w = fold_out-Word A B f g w

  pub fold_arith : (w : Word) → fold-Part A B f g (Arith w) ≡ f (open_part.Arith (g (record { parts = map (fold-Part A B f g) w.parts })))
  fold_arith w = sym (ap (fold-Part A B f g) (rolls-Arith w)) ∙ fold-roll-Part A B f g (open_part.Arith w) ∙ ap (λ (b : B). f (open_part.Arith b)) (fold_word w)

  pub fold_param : (x : List ℕ) (o : ParamOp) (c : Bool) (w : Option Word)
      → fold-Part A B f g (Param x o c w) ≡ f (open_part.Param x o c (option_map (λ (v : Word). g (record { parts = map (fold-Part A B f g) v.parts })) w))
  fold_param x o c None = sym (ap (fold-Part A B f g) (rolls-Param x o c None)) ∙ fold-roll-Part A B f g (open_part.Param x o c None)
  fold_param x o c (Some w) =
      sym (ap (fold-Part A B f g) (rolls-Param x o c (Some w)))
      ∙ fold-roll-Part A B f g (open_part.Param x o c (Some w))
      ∙ ap (λ (b : B). f (open_part.Param x o c (Some b))) (fold_word w)
