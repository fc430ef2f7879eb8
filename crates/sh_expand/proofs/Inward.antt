-- What words do hangs on the shell alone.
use Rattle.std.proofs.Common.{◌≡◌, ℕ, Bool, List, [], ◌∷◌, map, refl, sym, ap, ◌∙◌, subst}
use Rattle.std.specs.Prelude.{Option, Some, None}
use Rattle.sh_syntax.specs.declared.tree.Part.{Part, ind-Part, map-Part, roll-Part, fold-roll-Part}
use Rattle.sh_syntax.specs.declared.tree.Part.TheOpen as open_part
use Rattle.sh_syntax.specs.declared.tree.Part.TheOpen.{Part-F}
use Rattle.sh_syntax.specs.declared.tree.Word.{Word}
use Rattle.sh_param.specs.Modes.{mode_of}
use Rattle.sh_param.specs.Parts.{Meaning, meaning, opened, parts_of}
use Rattle.sh_param.specs.Words.{ended, plan_with, word_parts}
use Rattle.sh_param.specs.declared.mode.Context.{Context}
use Rattle.sh_expand.specs.Shells.{AreWordsInTurn, LooksAtShell}
use Rattle.sh_expand.specs.Sums.{sums}
use Rattle.sh_expand.proofs.Folds.{fold_word}
use Rattle.sh_expand.proofs.Layered.{layer_looks}
use Rattle.sh_expand.proofs.Looks.{EachLooks, MeaningLooks, WordsLook, ended_looks, words_look}
use Rattle.sh_expand.proofs.Shells.{in_turn}

each_looks : {S : Type 0} (ys : List S) (v : S → Part) → ((s : S) → MeaningLooks (meaning sums (v s))) → EachLooks (map (meaning sums) (map v ys))
each_looks [] v ok = tt
each_looks (y ∷ ys) v ok = (ok y, each_looks ys v ok)

layer_step : {S T : Type 0} (y : Part-F S T) (v : S → Part) (w : T → Word) → ((s : S) → MeaningLooks (meaning sums (v s))) → ((t : T) → EachLooks (map (meaning sums) (w t).parts))
    → MeaningLooks (meaning sums (roll-Part (map-Part S T Part Word v w y)))
layer_step (open_part.Plain t) v w a b = subst MeaningLooks (sym (fold-roll-Part Meaning (List Meaning) (opened sums) parts_of (open_part.Plain t))) (layer_looks (open_part.Plain t) tt)
layer_step (open_part.Single t) v w a b = subst MeaningLooks (sym (fold-roll-Part Meaning (List Meaning) (opened sums) parts_of (open_part.Single t))) (layer_looks (open_part.Single t) tt)
layer_step (open_part.Escaped t) v w a b = subst MeaningLooks (sym (fold-roll-Part Meaning (List Meaning) (opened sums) parts_of (open_part.Escaped t))) (layer_looks (open_part.Escaped t) tt)
layer_step (open_part.Double ys) v w a b =
    subst MeaningLooks (sym (fold-roll-Part Meaning (List Meaning) (opened sums) parts_of (open_part.Double (map v ys)))) (layer_looks (open_part.Double (map (meaning sums) (map v ys))) (each_looks ys v a))
layer_step (open_part.Param x o c None) v w a b =
    subst MeaningLooks (sym (fold-roll-Part Meaning (List Meaning) (opened sums) parts_of (open_part.Param x o c None))) (layer_looks (open_part.Param x o c None) tt)
layer_step (open_part.Param x o c (Some t)) v w a b =
    subst MeaningLooks
    (sym (fold-roll-Part Meaning (List Meaning) (opened sums) parts_of (open_part.Param x o c (Some (w t))) ∙ ap (λ (ms : List Meaning). opened sums (open_part.Param x o c (Some ms))) (fold_word Meaning (List Meaning) (opened sums) parts_of (w t))))
    (layer_looks (open_part.Param x o c (Some (map (meaning sums) (w t).parts))) (b t))
layer_step (open_part.Command n) v w a b = subst MeaningLooks (sym (fold-roll-Part Meaning (List Meaning) (opened sums) parts_of (open_part.Command n))) (layer_looks (open_part.Command n) tt)
layer_step (open_part.Arith t) v w a b =
    subst MeaningLooks
    (sym (fold-roll-Part Meaning (List Meaning) (opened sums) parts_of (open_part.Arith (w t)) ∙ ap (λ (ms : List Meaning). opened sums (open_part.Arith ms)) (fold_word Meaning (List Meaning) (opened sums) parts_of (w t))))
    (layer_looks (open_part.Arith (map (meaning sums) (w t).parts)) (b t))

pub part_looks : (p : Part) → MeaningLooks (meaning sums p)
part_looks p =
    ind-Part (λ q. MeaningLooks (meaning sums q)) (λ x. EachLooks (map (meaning sums) x.parts))
    (λ x y e. subst (λ z. MeaningLooks (meaning sums (roll-Part z))) e (layer_step y (λ s. s.0) (λ t. t.0) (λ s. s.1) (λ t. t.1)))
    (λ x y e. subst (λ z. EachLooks (map (meaning sums) z.parts)) e (each_looks y.parts (λ s. s.0) (λ s. s.1)))
    p

parts_looks : (ps : List Part) → EachLooks (map (meaning sums) ps)
parts_looks [] = tt
parts_looks (p ∷ ps) = (part_looks p, parts_looks ps)

words_looks : (ws : List Word) → WordsLook (map (word_parts sums) ws)
words_looks [] = tt
words_looks (w ∷ ws) = (parts_looks w.parts, words_looks ws)

-- the plan of words, where the status that `$?` gives is known
pub plan_looks : (words : List Word) (c : Context) (status : ℕ) → LooksAtShell (plan_with (map (word_parts sums) words) c status)
plan_looks words c status = words_look (mode_of c status) (map (word_parts sums) words) [] (ended c) (words_looks words) (ended_looks c)

-- Without a status it is that of the state at the beginning.
pub words_in_turn : AreWordsInTurn
words_in_turn words c (Some n) outs w es e t = in_turn (plan_with (map (word_parts sums) words) c n) (plan_looks words c n) outs w es e t
words_in_turn words c None [] w es e t = in_turn (plan_with (map (word_parts sums) words) c w.status) (plan_looks words c w.status) [] w es e t
words_in_turn words c None (o ∷ outs) w es e t =
    in_turn (plan_with (map (word_parts sums) words) c w.status) (plan_looks words c w.status) (o ∷ outs) w es e
    (record { list = t.list; later = t.later; reached = t.reached; next = t.next; same = t.same; own = t.own; is = t.is; on = t.on })
