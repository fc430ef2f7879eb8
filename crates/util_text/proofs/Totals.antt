-- The last line of `wc`.
use Rattle.std.proofs.Common.{◌≡◌, ℕ, ◌+◌, ◌<◌, ◌≤◌, ◌^◌, Bool, true, false, List, [], ◌∷◌, ◌++◌, length, refl, sym, ap, ◌∙◌, arith}
use Rattle.std.specs.List.{All}
use Rattle.std.proofs.lemmas.List.{length_push}
use Rattle.std.specs.Prelude.{Some, codes}
use Rattle.hs_world.specs.World.{WorldData, Applied}
use Rattle.hs_world.specs.declared.effect.Fd.TheVariants.{One}
use Rattle.hs_view.specs.Acts.{then_by}
use Rattle.hs_view.specs.Steps.{Done}
use Rattle.util_common.specs.Operands.{Progress, Writer, content_taken, content_written, emitted, none_yet, operand_written, operands_written, or_input, progress_of}
use Rattle.util_common.specs.declared.content.Content.{Content}
use Rattle.util_common.specs.declared.content.Content.TheVariants.{Bytes, Refused}
use Rattle.util_text.specs.Counting.{capped, total, without_words}
use Rattle.util_text.specs.Tallying.{has_words, sum_written, total_written}
use Rattle.util_text.specs.declared.counting.Counts.{Counts}
use Rattle.util_text.specs.declared.chosen.Chosen.{Chosen}
use Rattle.util_text.proofs.Tallied.{line_without_words, total_fits}

-- ---- no more contents are read than there are operands

one_content : (utility : List ℕ) (text : Writer) (p : Progress) (word : List ℕ) (content : Content) (w : WorldData) → length (content_written utility text p word content w).answer.contents ≤ length p.contents + 1
one_content utility text p word (Bytes bytes) w = omega (arith, length_push p.contents bytes)
one_content utility text p word (Refused why) w = omega arith

few_contents : (utility : List ℕ) (text : Writer) (p : Progress) (words : List (List ℕ)) (w : WorldData) → length (operands_written utility text p words w).answer.contents ≤ length p.contents + length words
few_contents utility text p [] w = omega arith
few_contents utility text p (word ∷ words) w =
    let taken = content_taken word w in
    let next = (operand_written utility text p word w).answer in
    let one = one_content utility text p word taken.answer (Applied taken.effects w) in
    omega (arith, one, few_contents utility text next words (Applied (operand_written utility text p word w).effects w))

few_words : (operands : List (List ℕ)) → length (or_input operands) ≤ length operands + 1
few_words [] = omega arith
few_words (word ∷ words) = omega arith

pub few_read : (utility : List ℕ) (text : Writer) (operands words : List (List ℕ)) (w : WorldData) → words ≡ operands → length words < 2 ^ 63 → length (operands_written utility text none_yet (or_input operands) w).answer.contents ≤ 2 ^ 63
few_read utility text operands words w e h =
    let same : length words ≡ length operands = ap (λ (x : List (List ℕ)). length x) e in
    omega (arith, same, h, few_words operands, few_contents utility text none_yet (or_input operands) w)

totalled : (d : Done Progress) (contents : List (List ℕ)) (status : ℕ) → progress_of contents status ≡ d.answer → All (λ (x : List ℕ). length x < 2 ^ 63) contents → length d.answer.contents ≤ 2 ^ 63
    → capped (total contents) ≡ total d.answer.contents
totalled d contents status told short few =
    let same : contents ≡ d.answer.contents = ap (λ (p : Progress). p.contents) told in
    let len : length contents ≡ length d.answer.contents = ap (λ (x : List (List ℕ)). length x) same in
    total_fits contents short (omega (arith, len, few)) ∙ ap total same

-- what was summed is the sum over what was read
pub total_told : (d : Done Progress) (chosen : Chosen) (several : Bool) (sum : Counts) (contents : List (List ℕ)) (status : ℕ) (u : WorldData) → progress_of contents status ≡ d.answer → sum ≡ capped (total contents)
    → All (λ (x : List ℕ). length x < 2 ^ 63) contents → length d.answer.contents ≤ 2 ^ 63 → then_by d (λ p. sum_written chosen several sum p.status) u ≡ then_by d (total_written chosen several) u
total_told d chosen several sum contents status u told is short few =
    ap (λ (s : Counts). then_by d (λ p. sum_written chosen several s p.status) u) (is ∙ totalled d contents status told short few)

-- ---- where no words are written

-- a sum is written as it is without its words
sum_without_words : (chosen : Chosen) (several : Bool) (sum : Counts) (status : ℕ) (w : WorldData) → has_words chosen ≡ false → sum_written chosen several (without_words sum) status w ≡ sum_written chosen several sum status w
sum_without_words chosen true sum status w h = ap (λ (t : List ℕ). emitted One t status w) (line_without_words chosen sum (Some (codes "total")) h)
sum_without_words chosen false sum status w h = refl

pub lines_told : (d : Done Progress) (chosen : Chosen) (several : Bool) (sum : Counts) (contents : List (List ℕ)) (status : ℕ) (u : WorldData) → has_words chosen ≡ false → progress_of contents status ≡ d.answer
    → sum ≡ without_words (capped (total contents)) → All (λ (x : List ℕ). length x < 2 ^ 63) contents → length d.answer.contents ≤ 2 ^ 63 → then_by d (λ p. sum_written chosen several sum p.status) u ≡ then_by d (total_written chosen several) u
lines_told d chosen several sum contents status u h told is short few =
    let whole = total d.answer.contents in
    ap (λ (s : Counts). then_by d (λ p. sum_written chosen several s p.status) u) (is ∙ ap without_words (totalled d contents status told short few))
    ∙ ap (λ (x : Done ℕ). record { effects = d.effects ++ x.effects; answer = x.answer }) (sum_without_words chosen several whole d.answer.status (Applied d.effects u) h)
