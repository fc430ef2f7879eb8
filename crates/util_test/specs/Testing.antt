-- `test` and `[` (POSIX.1-2017, XCU, `test`).
use Rattle.std.specs.Prelude.{ℕ, Bool, true, false, not, List, [], ◌∷◌, Option, None, Some, option_map, codes, if◌then◌else◌}
use Rattle.hs_world.specs.Files.{Files, bytes_of, entry_at, kind_of}
use Rattle.hs_world.specs.Paths.{Path, resolve}
use Rattle.hs_world.specs.World.{WorldData}
use Rattle.hs_world.specs.declared.entry.Entry.{Entry}
use Rattle.hs_world.specs.declared.entry.Kind.{Kind}
use Rattle.hs_world.specs.declared.entry.Kind.TheVariants as kind
use Rattle.hs_view.specs.Steps.{Done, nothing}
use Rattle.util_common.specs.Operands.{refused}
use Rattle.util_common.specs.declared.messages.Why.TheVariants.{BadExpression}
use Rattle.util_test.specs.Expressions.{asked}
use Rattle.util_test.specs.Operators.{is_word}
use Rattle.util_test.specs.declared.expression.Asked.{Asked}
use Rattle.util_test.specs.declared.expression.Asked.TheVariants.{Known, Has, Lacks}
use Rattle.util_test.specs.declared.expression.Property.{Property}
use Rattle.util_test.specs.declared.expression.Property.TheVariants.{Is, HasBytes}
use Rattle.util_test.specs.declared.expression.Sort.{Sort}
use Rattle.util_test.specs.declared.expression.Sort.TheVariants.{Any, File, Folder}

-- ---- paths

abbrev pub is_sort : Sort → Kind → Bool
is_sort Any kind.Absent = false
is_sort Any kind.File = true
is_sort Any kind.Dir = true
is_sort Any kind.Other = true
is_sort File kind.File = true
is_sort File kind.Dir = false
is_sort File kind.Other = false
is_sort File kind.Absent = false
is_sort Folder kind.Dir = true
is_sort Folder kind.File = false
is_sort Folder kind.Other = false
is_sort Folder kind.Absent = false

abbrev pub has_bytes : Option (List ℕ) → Bool
has_bytes None = false
has_bytes (Some []) = false
has_bytes (Some (b ∷ bs)) = true

abbrev pub has : Property → Option Entry → Bool
has (Is sort) entry = is_sort sort (kind_of entry)
has HasBytes entry = has_bytes (bytes_of entry)

-- A word that is no path names nothing.
abbrev pub entry_in : Files → Option Path → Option Entry
entry_in tree None = None
entry_in tree (Some path) = entry_at tree path

abbrev pub has_named : Property → List ℕ → WorldData → Bool
has_named property word w = has property (entry_in w.tree (resolve w.cwd word))

-- ---- answers

abbrev pub holds : Asked → WorldData → Bool
holds (Known answer) w = answer
holds (Has property word) w = has_named property word w
holds (Lacks property word) w = not (has_named property word w)

abbrev pub status_of : Bool → ℕ
status_of true = 0
status_of false = 1

abbrev pub told : List ℕ → Option Asked → WorldData → Done ℕ
told utility None w = refused utility BadExpression w
told utility (Some asked) w = nothing (status_of (holds asked w)) w

abbrev pub tested : List ℕ → List (List ℕ) → WorldData → Done ℕ
tested utility words w = told utility (asked words) w

abbrev pub test_ : List (List ℕ) → WorldData → Done ℕ
test_ args w = tested (codes "test") args w

-- ---- `[`, whose last word is `]`

abbrev pub closed : List ℕ → List (List ℕ) → Option (List (List ℕ))
closed last front = if is_word (codes "]") last then Some front else None

-- the words before it
abbrev pub bracketed : List (List ℕ) → Option (List (List ℕ))
bracketed [] = None
bracketed (word ∷ []) = closed word []
bracketed (word ∷ next ∷ more) = option_map (λ words. word ∷ words) (bracketed (next ∷ more))

abbrev pub bracketed_told : Option (List (List ℕ)) → WorldData → Done ℕ
bracketed_told None w = refused (codes "[") BadExpression w
bracketed_told (Some words) w = tested (codes "[") words w

abbrev pub bracket : List (List ℕ) → WorldData → Done ℕ
bracket args w = bracketed_told (bracketed args) w
