-- The utilities that are built (POSIX.1-2017, XCU 4): their names, and what each does.
use Rattle.std.specs.Prelude.{ℕ, List, [], ◌∷◌, Option, None, Some, if◌then◌else◌, nat_eq, codes}
use Rattle.std.specs.Option.{option_or}
use Rattle.std.specs.Cmp.Lexicographic.{pointwise}
use Rattle.hs_world.specs.World.{WorldData}
use Rattle.hs_view.specs.Steps.{Done, nothing}
use Rattle.util_lines.specs.Comparing.{comm_command}
use Rattle.util_lines.specs.Selecting.{grep}
use Rattle.util_lines.specs.Sorting.{sort_command}
use Rattle.util_lines.specs.Translating.{tr}
use Rattle.util_lines.specs.Uniquing.{uniq_command}
use Rattle.util_print.specs.Components.{basename, dirname}
use Rattle.util_print.specs.Echo.{echo}
use Rattle.util_print.specs.Folder.{pwd}
use Rattle.util_print.specs.Printf.{printf}
use Rattle.util_test.specs.Constant.{false_, true_}
use Rattle.util_test.specs.Testing.{bracket, test_}
use Rattle.util_text.specs.Cat.{cat}
use Rattle.util_text.specs.Head.{head}
use Rattle.util_text.specs.Pasting.{paste_command}
use Rattle.util_text.specs.Slicing.{cut_command}
use Rattle.util_text.specs.Tailing.{tail_command}
use Rattle.util_text.specs.Tallying.{wc}
use Rattle.util_text.specs.Teeing.{tee}
use Rattle.util_text.specs.Wrapping.{fold_command}
use Rattle.sh_leaf.specs.declared.utility.Utility.{Utility}
use Rattle.sh_leaf.specs.declared.utility.Utility.TheVariants.{Basename, Bracket, Cat, Comm, Cut, Dirname, Echo, False, Fold, Grep, Head, Paste, Printf, Pwd, Sort, Tail, Tee, Test, Tr, True, Uniq, Wc}

-- ---- names, as the crates have them

abbrev pub print_names : List (List ℕ × Utility)
print_names =
    (codes "basename", Basename)
    ∷ (codes "dirname", Dirname)
    ∷ (codes "echo", Echo)
    ∷ (codes "printf", Printf)
    ∷ (codes "pwd", Pwd)
    ∷ []

abbrev pub text_names : List (List ℕ × Utility)
text_names =
    (codes "cat", Cat)
    ∷ (codes "cut", Cut)
    ∷ (codes "fold", Fold)
    ∷ (codes "head", Head)
    ∷ (codes "paste", Paste)
    ∷ (codes "tail", Tail)
    ∷ (codes "tee", Tee)
    ∷ (codes "wc", Wc)
    ∷ []

abbrev pub line_names : List (List ℕ × Utility)
line_names =
    (codes "comm", Comm)
    ∷ (codes "grep", Grep)
    ∷ (codes "sort", Sort)
    ∷ (codes "tr", Tr)
    ∷ (codes "uniq", Uniq)
    ∷ []

abbrev pub test_names : List (List ℕ × Utility)
test_names =
    (codes "[", Bracket)
    ∷ (codes "false", False)
    ∷ (codes "test", Test)
    ∷ (codes "true", True)
    ∷ []

-- what stands beside this name
abbrev pub beside : List ℕ → List (List ℕ × Utility) → Option Utility
beside name [] = None
beside name (entry ∷ more) = if pointwise nat_eq name entry.0 then Some entry.1 else beside name more

abbrev pub named : List ℕ → Option Utility
named name = option_or (option_or (option_or (beside name print_names) (beside name text_names)) (beside name line_names)) (beside name test_names)

abbrev pub does : Utility → List (List ℕ) → WorldData → Done ℕ
does Basename args w = basename args w
does Bracket args w = bracket args w
does Cat args w = cat args w
does Comm args w = comm_command args w
does Cut args w = cut_command args w
does Dirname args w = dirname args w
does Echo args w = echo args w
does False args w = false_ args w
does Fold args w = fold_command args w
does Grep args w = grep args w
does Head args w = head args w
does Paste args w = paste_command args w
does Printf args w = printf args w
does Pwd args w = pwd args w
does Sort args w = sort_command args w
does Tail args w = tail_command args w
does Tee args w = tee args w
does Test args w = test_ args w
does Tr args w = tr args w
does True args w = true_ args w
does Uniq args w = uniq_command args w
does Wc args w = wc args w

-- A command whose name is not built does nothing, and has the status of one that is not found (XCU 2.8.2). No script with one is built.
abbrev pub found : Option Utility → List (List ℕ) → WorldData → Done ℕ
found None args w = nothing 127 w
found (Some utility) args w = does utility args w
