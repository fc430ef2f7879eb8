-- The line of `wc`, count by count.
use Rattle.std.proofs.Common.{◌≡◌, ℕ, Bool, true, false, List, [], ◌∷◌, ◌++◌, refl, sym, ◌∙◌, ap, append_assoc, append-nil}
use Rattle.std.specs.Prelude.{◌||◌, decimal}
use Rattle.std.specs.List.{join_with_byte}
use Rattle.util_text.specs.declared.counting.Counts.{Counts}
use Rattle.util_text.specs.declared.chosen.Chosen.{Chosen}
use Rattle.util_text.specs.Wc.{where_chosen, shown, written}

joined : (l w b : Bool) (nl nw nb : ℕ) →
    shown false l nl ++ (shown l w nw ++ shown (l || w) b nb) ≡ join_with_byte 32 (where_chosen l nl ++ (where_chosen w nw ++ where_chosen b nb))
joined true true true nl nw nb = refl
joined true true false nl nw nb = ap (λ (u : List ℕ). decimal nl ++ u) (append-nil (32 ∷ decimal nw))
joined true false true nl nw nb = refl
joined true false false nl nw nb = append-nil (decimal nl)
joined false true true nl nw nb = refl
joined false true false nl nw nb = append-nil (decimal nw)
joined false false true nl nw nb = refl
joined false false false nl nw nb = refl

pub written-done : (old one two three : List ℕ) (chosen : Chosen) (counts : Counts) → one ≡ old ++ shown false chosen.lines counts.lines →
    two ≡ one ++ shown chosen.lines chosen.words counts.words → three ≡ two ++ shown (chosen.lines || chosen.words) chosen.bytes counts.bytes →
    three ≡ old ++ written chosen counts
written-done old one two three chosen counts first second third =
    let a = shown false chosen.lines counts.lines in
    let b = shown chosen.lines chosen.words counts.words in
    let c = shown (chosen.lines || chosen.words) chosen.bytes counts.bytes in
    third
    ∙ ap (λ (u : List ℕ). u ++ c) (second ∙ ap (λ (u : List ℕ). u ++ b) first)
    ∙ append_assoc (old ++ a) b c
    ∙ append_assoc old a (b ++ c)
    ∙ ap (λ (u : List ℕ). old ++ u) (joined chosen.lines chosen.words chosen.bytes counts.lines counts.words counts.bytes)
