-- `grep` (POSIX.1-2017, XCU, `grep`) with `-F`: the lines of the operands in which one of the patterns occurs.
use Rattle.std.specs.Prelude.{ℕ, Bool, true, false, ◌&&◌, ◌||◌, List, [], ◌∷◌, ◌++◌, Option, Result, Ok, Err, codes, if◌then◌else◌}
use Rattle.hs_world.specs.World.{WorldData}
use Rattle.hs_world.specs.declared.effect.Effect.TheVariants.{Emit}
use Rattle.hs_world.specs.declared.effect.Fd.TheVariants.{One, Two}
use Rattle.hs_view.specs.Acts.{answering, only, then_by}
use Rattle.hs_view.specs.Steps.{Done, nothing}
use Rattle.util_common.specs.Messages.{message_on}
use Rattle.util_common.specs.Operands.{content_taken, or_input, refused}
use Rattle.util_common.specs.Words.{is_given, words_of}
use Rattle.util_common.specs.declared.content.Content.{Content}
use Rattle.util_common.specs.declared.content.Content.TheVariants.{Bytes, Refused}
use Rattle.util_common.specs.declared.messages.Why.{Why}
use Rattle.util_common.specs.declared.messages.Why.TheVariants.{MissingOperand, OnlyFixed}
use Rattle.util_lines.specs.FixedLines.{folded, has_selected, report}
use Rattle.util_lines.specs.declared.fixed_lines.Flags.{Flags}
use Rattle.util_lines.specs.declared.fixed_lines.Search.{Search}
use Rattle.util_lines.specs.declared.selecting.Found.{Found}
use Rattle.util_opts.specs.declared.options.Options.{Options}

-- `-F`, `-c`, `-i`, `-n`, `-q`, `-v` and `-x`
abbrev pub grep_options : List (ℕ × Bool)
grep_options = (70, false) ∷ (99, false) ∷ (105, false) ∷ (110, false) ∷ (113, false) ∷ (118, false) ∷ (120, false) ∷ []

abbrev pub flags_by : List (ℕ × Option (List ℕ)) → Flags
flags_by given = record {
  folds = is_given 105 given;
  inverts = is_given 118 given;
  whole = is_given 120 given;
  counts = is_given 99 given;
  numbers = is_given 110 given;
  quiet = is_given 113 given;
}

abbrev pub search_of : Flags → List ℕ → Search
search_of flags patterns = record { flags = flags; patterns = folded flags.folds patterns }

-- ---- one operand

-- the name of a file stands before its lines where there are several
abbrev pub prefix_of : Bool → List ℕ → List ℕ
prefix_of several name = if several then name ++ 58 ∷ [] else []

abbrev pub text_of : Search → Bool → List ℕ → List ℕ → List ℕ
text_of search several name content = report search.flags search.patterns (prefix_of several name) content

abbrev pub found_by : Bool → Bool → Found
found_by selected refused = record { selected = selected; refused = refused }

abbrev pub content_searched : Search → Bool → List ℕ → Found → Content → WorldData → Done Found
content_searched search several word found (Bytes bytes) w =
    only (Emit One (text_of search several word bytes)) (found_by (found.selected || has_selected search.flags search.patterns bytes) found.refused) w
content_searched search several word found (Refused why) w = only (Emit Two (message_on (codes "grep") word why)) (found_by found.selected true) w

abbrev pub operand_searched : Search → Bool → List ℕ → Found → WorldData → Done Found
operand_searched search several word found w = then_by (content_taken word w) (content_searched search several word found) w

-- ---- all operands

abbrev pub words_searched : Search → Bool → Found → List (List ℕ) → WorldData → Done Found
words_searched search several found [] w = nothing found w
words_searched search several found (word ∷ words) w = then_by (operand_searched search several word found w) (λ next. words_searched search several next words) w

-- 0 where a line is selected, else 1; 2 where an operand was refused, but not with `-q` and a selected line
abbrev pub status_of : Bool → Found → ℕ
status_of quiet found =
    if found.refused then (if quiet && found.selected then 0 else 2)
    else (if found.selected then 0 else 1)

abbrev pub is_several : List (List ℕ) → Bool
is_several [] = false
is_several (x ∷ []) = false
is_several (x ∷ y ∷ r) = true

abbrev pub files_searched : Search → List (List ℕ) → WorldData → Done ℕ
files_searched search files w = answering (status_of search.flags.quiet) (words_searched search (is_several files) (found_by false false) (or_input files) w)

-- The first operand has the patterns, the others are files.
abbrev pub operands_searched : Flags → List (List ℕ) → WorldData → Done ℕ
operands_searched flags [] w = refused (codes "grep") MissingOperand w
operands_searched flags (patterns ∷ files) w = files_searched (search_of flags patterns) files w

abbrev pub grep_of : Bool → Flags → List (List ℕ) → WorldData → Done ℕ
grep_of true flags operands w = operands_searched flags operands w
grep_of false flags operands w = refused (codes "grep") OnlyFixed w

abbrev pub grep_by : Result Options Why → WorldData → Done ℕ
grep_by (Ok options) w = grep_of (is_given 70 options.given) (flags_by options.given) options.operands w
grep_by (Err why) w = refused (codes "grep") why w

abbrev pub grep : List (List ℕ) → WorldData → Done ℕ
grep args w = grep_by (words_of grep_options args) w
