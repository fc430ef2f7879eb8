-- What `grep -F` makes of texts and words.
use Rattle.std.proofs.Common.{◌≡◌, ℕ, Bool, true, false, List, [], ◌∷◌, ◌++◌, refl, codes}
use Rattle.std.specs.Prelude.{decimal}
use Rattle.hs_world.specs.World.{WorldData}
use Rattle.util_common.specs.Operands.{refused}
use Rattle.util_common.specs.declared.messages.Why.TheVariants.{MissingOperand, OnlyFixed, UnknownOption}
use Rattle.util_lines.specs.FixedLines.{folded, has_selected, occurs, patterns_of, report}
use Rattle.util_lines.specs.Selecting.{files_searched, found_by, grep, prefix_of, search_of, status_of}
use Rattle.util_lines.specs.declared.fixed_lines.Flags.{Flags}

abbrev plain : Flags
plain = record { folds = false; inverts = false; whole = false; counts = false; numbers = false; quiet = false }

abbrev folding : Flags
folding = record { folds = true; inverts = false; whole = false; counts = false; numbers = false; quiet = false }

abbrev others : Flags
others = record { folds = false; inverts = true; whole = false; counts = false; numbers = false; quiet = false }

abbrev whole_lines : Flags
whole_lines = record { folds = false; inverts = false; whole = true; counts = false; numbers = false; quiet = false }

abbrev numbered : Flags
numbered = record { folds = false; inverts = false; whole = false; counts = false; numbers = true; quiet = false }

-- `-c`, beside which `-n` does nothing
abbrev counted : Flags
counted = record { folds = false; inverts = false; whole = false; counts = true; numbers = true; quiet = false }

-- `-q`, beside which `-c` does nothing
abbrev silent : Flags
silent = record { folds = false; inverts = false; whole = false; counts = true; numbers = false; quiet = true }

-- what is written for these patterns
abbrev written : Flags → List ℕ → List ℕ → List ℕ → List ℕ
written flags patterns prefix text = report flags (folded flags.folds patterns) prefix text

-- ---- patterns

no_bytes : patterns_of [] ≡ [] ∷ []
no_bytes = refl

-- a newline at the end adds no empty pattern, and one before it does
last_newline : patterns_of (codes "a\n") ≡ codes "a" ∷ []
last_newline = refl

one_newline : patterns_of (codes "\n") ≡ [] ∷ []
one_newline = refl

between : patterns_of (codes "a\n\nb") ≡ codes "a" ∷ [] ∷ codes "b" ∷ []
between = refl

inside : occurs (codes "aab") (codes "xaaab") ≡ true
inside = refl

apart : occurs (codes "ab") (codes "a b") ≡ false
apart = refl

-- ---- what is written

several_patterns : written plain (codes "b\nd") [] (codes "abc\nx\nd") ≡ codes "abc\nd\n"
several_patterns = refl

-- an empty pattern is in each line
all_lines : written plain [] [] (codes "a\n\nb") ≡ codes "a\n\nb\n"
all_lines = refl

empty_lines : written whole_lines [] [] (codes "a\n\nb") ≡ codes "\n"
empty_lines = refl

no_part : written whole_lines (codes "ab") [] (codes "abc\nab\nxab") ≡ codes "ab\n"
no_part = refl

any_case : written folding (codes "aB") [] (codes "xAbx\nba\n") ≡ codes "xAbx\n"
any_case = refl

the_others : written others (codes "a\nb") [] (codes "a\nc\nb\n") ≡ codes "c\n"
the_others = refl

count : written counted (codes "a") (prefix_of true (codes "f")) (codes "a\nb\naa\n") ≡ codes "f:" ++ (decimal 2 ++ codes "\n")
count = refl

nothing_written : written silent (codes "a") [] (codes "a\n") ≡ []
nothing_written = refl

-- without a line none is selected, also with `-v`
no_line : has_selected others (codes "a") [] ≡ false
no_line = refl

-- ---- the status

one_found : status_of false (found_by true false) ≡ 0
one_found = refl

none_found : status_of false (found_by false false) ≡ 1
none_found = refl

found_and_refused : status_of false (found_by true true) ≡ 2
found_and_refused = refl

quietly_found : status_of true (found_by true true) ≡ 0
quietly_found = refl

quietly_refused : status_of true (found_by false true) ≡ 2
quietly_refused = refl

-- ---- words

not_fixed : (w : WorldData) → grep [] w ≡ refused (codes "grep") OnlyFixed w
not_fixed w = refl

no_patterns : (w : WorldData) → grep (codes "-Fc" ∷ []) w ≡ refused (codes "grep") MissingOperand w
no_patterns w = refl

no_such_option : (w : WorldData) → grep (codes "-Fl" ∷ codes "a" ∷ []) w ≡ refused (codes "grep") (UnknownOption 108) w
no_such_option w = refl

-- the first operand has the patterns, and options end there
two_files : (w : WorldData) → grep (codes "-vF" ∷ codes "a" ∷ codes "-n" ∷ codes "f" ∷ []) w ≡ files_searched (search_of others (codes "a")) (codes "-n" ∷ codes "f" ∷ []) w
two_files w = refl
