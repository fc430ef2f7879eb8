-- The sums of `wc`.
use Rattle.std.proofs.Common.{◌≡◌, ℕ, zero, suc, ◌+◌, ◌*◌, ◌-◌, ◌^◌, ◌<◌, ◌≤◌, min, Bool, true, false, List, [], ◌∷◌, ◌++◌, Option, length, get_or, refl, sym, ap, ◌∙◌, cond, not, arith}
use Rattle.std.specs.Prelude.{◌&&◌, ◌==◌}
use Rattle.std.specs.List.{All, join_with_byte, sum_by}
use Rattle.std.proofs.lemmas.List.{length_push}
use Rattle.std.proofs.lemmas.List.Elements.{All-append}
use Rattle.std.proofs.lemmas.List.Sums.{sum_by_push, sum_by-le}
use Rattle.util_text.specs.Counting.{newline, newlines, words, is_space, ends_word, counts, total, plus, capped, without_words}
use Rattle.util_text.specs.Tallying.{has_words}
use Rattle.util_text.specs.Wc.{counts_line, named, or_all, where_chosen}
use Rattle.util_text.specs.declared.chosen.Chosen.{Chosen}
use Rattle.util_text.specs.declared.counting.Counts.{Counts}

abbrev pub made : ℕ → ℕ → ℕ → Counts
made l w b = record { lines = l; words = w; bytes = b }

same_counts : (l w b l' w' b' : ℕ) → l ≡ l' → w ≡ w' → b ≡ b' → made l w b ≡ made l' w' b'
same_counts l w b l' w' b' el ew eb = ap (λ (x : ℕ). made x w b) el ∙ ap (λ (x : ℕ). made l' x b) ew ∙ ap (λ (x : ℕ). made l' w' x) eb

-- one text more
more_total : (before : List (List ℕ)) (content : List ℕ) → total (before ++ content ∷ []) ≡ plus (total before) (counts content)
more_total before content =
    same_counts _ _ _ _ _ _ (sum_by_push newlines before content) (sum_by_push words before content) (sum_by_push length before content)

capped_twice : (m n x : ℕ) → x ≡ min m (2 ^ 128 - 1) → min (x + n) (2 ^ 128 - 1) ≡ min (m + n) (2 ^ 128 - 1)
capped_twice m n x e = omega arith

pub sum_more : (sum : Counts) (before : List (List ℕ)) (content bytes : List ℕ) (one more : Counts) → sum ≡ capped (total before) → bytes ≡ content → one ≡ counts bytes → more ≡ capped (plus sum one)
    → more ≡ capped (total (before ++ content ∷ []))
sum_more sum before content bytes one more s b o m =
    let k = counts content in
    m
    ∙ ap (λ (x : Counts). capped (plus sum x)) (o ∙ ap counts b)
    ∙ same_counts _ _ _ _ _ _ (capped_twice (total before).lines k.lines sum.lines (ap (λ (x : Counts). x.lines) s))
    (capped_twice (total before).words k.words sum.words (ap (λ (x : Counts). x.words) s)) (capped_twice (total before).bytes k.bytes sum.bytes (ap (λ (x : Counts). x.bytes) s))
    ∙ ap capped (sym (more_total before content))

-- ---- words that are not written are not counted

unwritten : (written : Bool) (m n : ℕ) → written ≡ false → where_chosen written m ≡ where_chosen written n
unwritten written m n h = ap (λ (b : Bool). where_chosen b m) h ∙ ap (λ (b : Bool). where_chosen b n) (sym h)

pub line_without_words : (chosen : Chosen) (counts : Counts) (name : Option (List ℕ)) → has_words chosen ≡ false → counts_line chosen (without_words counts) name ≡ counts_line chosen counts name
line_without_words chosen counts name h =
    let all = or_all chosen in
    ap (λ (words : List (List ℕ)). join_with_byte 32 (where_chosen all.lines counts.lines ++ (words ++ where_chosen all.bytes counts.bytes)) ++ named name) (unwritten all.words 0 counts.words h)

no_words : (x : ℕ) → x ≡ 0 → min (x + 0) (2 ^ 128 - 1) ≡ 0
no_words x e = omega arith

pub lines_more : (sum : Counts) (before : List (List ℕ)) (content bytes : List ℕ) (one more : Counts) → sum ≡ without_words (capped (total before)) → bytes ≡ content → one ≡ without_words (counts bytes) → more ≡ capped (plus sum one)
    → more ≡ without_words (capped (total (before ++ content ∷ [])))
lines_more sum before content bytes one more s b o m =
    let k = counts content in
    m
    ∙ ap (λ (x : Counts). capped (plus sum x)) (o ∙ ap (λ (x : List ℕ). without_words (counts x)) b)
    ∙ same_counts _ _ _ _ _ _ (capped_twice (total before).lines k.lines sum.lines (ap (λ (x : Counts). x.lines) s))
    (no_words sum.words (ap (λ (x : Counts). x.words) s)) (capped_twice (total before).bytes k.bytes sum.bytes (ap (λ (x : Counts). x.bytes) s))
    ∙ ap (λ (x : Counts). without_words (capped x)) (sym (more_total before content))

short_one : (content : List ℕ) → length content < 2 ^ 63 → All (λ (x : List ℕ). length x < 2 ^ 63) (content ∷ [])
short_one content h zero d l = h
short_one content h (suc k) d l = absurd (omega arith)

pub short_none : All (λ (x : List ℕ). length x < 2 ^ 63) []
short_none k d l = absurd (omega arith)

pub short_more : (before : List (List ℕ)) (content bytes : List ℕ) → bytes ≡ content → length bytes < 2 ^ 63 → All (λ (x : List ℕ). length x < 2 ^ 63) before → All (λ (x : List ℕ). length x < 2 ^ 63) (before ++ content ∷ [])
short_more before content bytes e h all =
    let len : length bytes ≡ length content = ap (λ (x : List ℕ). length x) e in
    let short : length content < 2 ^ 63 = omega arith in
    All-append (λ (x : List ℕ). length x < 2 ^ 63) before (content ∷ []) all (short_one content short)

-- ---- no count is greater than the greatest one

one_at_most : (c : Bool) (m n k : ℕ) → m ≡ cond c 1 0 → n ≤ k → m + n ≤ suc k
one_at_most true m n k e h = omega arith
one_at_most false m n k e h = omega arith

few_newlines : (text : List ℕ) → newlines text ≤ length text
few_newlines [] = omega arith
few_newlines (b ∷ bs) = one_at_most (b == 10) (newline b) (newlines bs) (length bs) refl (few_newlines bs)

few_words : (text : List ℕ) → words text ≤ length text
few_words [] = omega arith
few_words (b ∷ bs) = one_at_most (not (is_space b) && ends_word bs) (cond (not (is_space b) && ends_word bs) 1 0) (words bs) (length bs) refl (few_words bs)

all_few : (f : List ℕ → ℕ) → ((text : List ℕ) → f text ≤ length text) → (texts : List (List ℕ)) → All (λ (x : List ℕ). length x < 2 ^ 63) texts → All (λ (x : List ℕ). f x ≤ 2 ^ 63) texts
all_few f few texts all = λ k d l. omega (arith, few (get_or texts k d), all k d l)

sum_fits : (f : List ℕ → ℕ) → ((text : List ℕ) → f text ≤ length text) → (texts : List (List ℕ)) → All (λ (x : List ℕ). length x < 2 ^ 63) texts → length texts ≤ 2 ^ 63 → min (sum_by f texts) (2 ^ 128 - 1) ≡ sum_by f texts
sum_fits f few texts all h = omega (arith, sum_by-le f (2 ^ 63) texts (all_few f few texts all), h)

same_length : (text : List ℕ) → length text ≤ length text
same_length text = omega arith

pub total_fits : (texts : List (List ℕ)) → All (λ (x : List ℕ). length x < 2 ^ 63) texts → length texts ≤ 2 ^ 63 → capped (total texts) ≡ total texts
total_fits texts all h = same_counts _ _ _ _ _ _ (sum_fits newlines few_newlines texts all h) (sum_fits words few_words texts all h) (sum_fits (λ (x : List ℕ). length x) same_length texts all h)
