-- Each effect of an expansion is valid where it comes.
use Rattle.std.proofs.Common.{ℕ, List, [], ◌∷◌, map, sym, ap, ◌∙◌, subst}
use Rattle.std.specs.Prelude.{Some, None}
use Rattle.hs_world.specs.World.{WorldData, AllValid}
use Rattle.sh_syntax.specs.declared.tree.Part.{Part, ind-Part, map-Part, roll-Part, fold-roll-Part}
use Rattle.sh_syntax.specs.declared.tree.Part.TheOpen as open_part
use Rattle.sh_syntax.specs.declared.tree.Part.TheOpen.{Part-F}
use Rattle.sh_syntax.specs.declared.tree.Word.{Word}
use Rattle.sh_param.specs.Modes.{mode_of}
use Rattle.sh_param.specs.Parts.{Meaning, meaning, opened, parts_of}
use Rattle.sh_param.specs.Words.{ended, expand, plan_with, word_parts}
use Rattle.sh_param.specs.declared.mode.Context.{Context}
use Rattle.sh_expand.specs.Sums.{sums}
use Rattle.sh_expand.proofs.Folds.{fold_word}
use Rattle.sh_leaf.proofs.Planned.{EachValid, MeaningValid, WordsValid, ended_valid, expanded_valid, layer_valid, words_valid}

each_valid : {S : Type 0} (ys : List S) (v : S → Part) → ((s : S) → MeaningValid (meaning sums (v s))) → EachValid (map (meaning sums) (map v ys))
each_valid [] v ok = tt
each_valid (y ∷ ys) v ok = (ok y, each_valid ys v ok)

layer_step : {S T : Type 0} (y : Part-F S T) (v : S → Part) (w : T → Word) → ((s : S) → MeaningValid (meaning sums (v s))) → ((t : T) → EachValid (map (meaning sums) (w t).parts))
    → MeaningValid (meaning sums (roll-Part (map-Part S T Part Word v w y)))
layer_step (open_part.Plain t) v w a b = subst MeaningValid (sym (fold-roll-Part Meaning (List Meaning) (opened sums) parts_of (open_part.Plain t))) (layer_valid (open_part.Plain t) tt)
layer_step (open_part.Single t) v w a b = subst MeaningValid (sym (fold-roll-Part Meaning (List Meaning) (opened sums) parts_of (open_part.Single t))) (layer_valid (open_part.Single t) tt)
layer_step (open_part.Escaped t) v w a b = subst MeaningValid (sym (fold-roll-Part Meaning (List Meaning) (opened sums) parts_of (open_part.Escaped t))) (layer_valid (open_part.Escaped t) tt)
layer_step (open_part.Double ys) v w a b =
    subst MeaningValid (sym (fold-roll-Part Meaning (List Meaning) (opened sums) parts_of (open_part.Double (map v ys)))) (layer_valid (open_part.Double (map (meaning sums) (map v ys))) (each_valid ys v a))
layer_step (open_part.Param x o c None) v w a b =
    subst MeaningValid (sym (fold-roll-Part Meaning (List Meaning) (opened sums) parts_of (open_part.Param x o c None))) (layer_valid (open_part.Param x o c None) tt)
layer_step (open_part.Param x o c (Some t)) v w a b =
    subst MeaningValid
    (sym (fold-roll-Part Meaning (List Meaning) (opened sums) parts_of (open_part.Param x o c (Some (w t))) ∙ ap (λ (ms : List Meaning). opened sums (open_part.Param x o c (Some ms))) (fold_word Meaning (List Meaning) (opened sums) parts_of (w t))))
    (layer_valid (open_part.Param x o c (Some (map (meaning sums) (w t).parts))) (b t))
layer_step (open_part.Command n) v w a b = subst MeaningValid (sym (fold-roll-Part Meaning (List Meaning) (opened sums) parts_of (open_part.Command n))) (layer_valid (open_part.Command n) tt)
layer_step (open_part.Arith t) v w a b =
    subst MeaningValid
    (sym (fold-roll-Part Meaning (List Meaning) (opened sums) parts_of (open_part.Arith (w t)) ∙ ap (λ (ms : List Meaning). opened sums (open_part.Arith ms)) (fold_word Meaning (List Meaning) (opened sums) parts_of (w t))))
    (layer_valid (open_part.Arith (map (meaning sums) (w t).parts)) (b t))

part_valid : (p : Part) → MeaningValid (meaning sums p)
part_valid p =
    ind-Part (λ q. MeaningValid (meaning sums q)) (λ x. EachValid (map (meaning sums) x.parts))
    (λ x y e. subst (λ z. MeaningValid (meaning sums (roll-Part z))) e (layer_step y (λ s. s.0) (λ t. t.0) (λ s. s.1) (λ t. t.1)))
    (λ x y e. subst (λ z. EachValid (map (meaning sums) z.parts)) e (each_valid y.parts (λ s. s.0) (λ s. s.1)))
    p

parts_valid : (ps : List Part) → EachValid (map (meaning sums) ps)
parts_valid [] = tt
parts_valid (p ∷ ps) = (part_valid p, parts_valid ps)

all_valid : (ws : List Word) → WordsValid (map (word_parts sums) ws)
all_valid [] = tt
all_valid (w ∷ ws) = (parts_valid w.parts, all_valid ws)

pub expand_valid : (words : List Word) (c : Context) (status : ℕ) (outs : List (List ℕ)) (w : WorldData) → AllValid (expand sums words c (Some status) outs w).effects w
expand_valid words c status outs w =
    expanded_valid (plan_with (map (word_parts sums) words) c status) (words_valid (mode_of c status) (map (word_parts sums) words) [] (ended c) (all_valid words) (ended_valid c)) outs w
