-- Texts, and what the utilities make of them.
use Rattle.std.proofs.Common.{◌≡◌, ℕ, Bool, true, false, List, [], ◌∷◌, ◌++◌, refl, codes}
use Rattle.std.specs.Prelude.{Ok, Err, decimal}
use Rattle.hs_world.specs.World.{WorldData}
use Rattle.hs_world.specs.Paths.{Path}
use Rattle.hs_world.specs.declared.effect.Effect.TheVariants.{Put}
use Rattle.hs_world.specs.declared.entry.Kind.TheVariants as kind
use Rattle.hs_view.specs.Steps.{nothing}
use Rattle.util_common.specs.Operands.{refused}
use Rattle.util_common.specs.declared.messages.Why.TheVariants.{Excluding, ExtraOperand, IsFolder, MissingOperand}
use Rattle.util_lines.specs.Comparing.{comm_command, contents_compared}
use Rattle.util_lines.specs.Filing.{written_at}
use Rattle.util_lines.specs.Merging.{comm}
use Rattle.util_lines.specs.Orders.{sort}
use Rattle.util_lines.specs.Runs.{uniq}
use Rattle.util_lines.specs.Splitting.{lines}
use Rattle.util_lines.specs.Uniquing.{uniq_command}
use Rattle.util_lines.specs.declared.merging.Columns.{Columns}
use Rattle.util_lines.specs.declared.ordering.Sorting.{Sorting}
use Rattle.util_lines.specs.declared.runs.Mode.TheVariants.{All, Counted, Repeated, Single}

-- a last piece without a newline is a line
last_piece : lines (codes "a\n\nb") ≡ codes "a" ∷ [] ∷ codes "b" ∷ []
last_piece = refl

-- ---- uniq

-- runs that are apart stay apart
apart : uniq All (codes "a\na\nb\na") ≡ codes "a\nb\na\n"
apart = refl

how_many : uniq Counted (codes "a\na\nb\n") ≡ decimal 2 ++ codes " a\n" ++ (decimal 1 ++ codes " b\n" ++ [])
how_many = refl

several : uniq Repeated (codes "a\na\nb\n") ≡ codes "a\n"
several = refl

alone : uniq Single (codes "a\na\nb\n") ≡ codes "b\n"
alone = refl

two_modes : (w : WorldData) → uniq_command (codes "-cd" ∷ codes "f" ∷ []) w ≡ refused (codes "uniq") Excluding w
two_modes w = refl

third : (w : WorldData) → uniq_command (codes "f" ∷ codes "g" ∷ codes "h" ∷ []) w ≡ refused (codes "uniq") ExtraOperand w
third w = refl

made : (path : Path) (text : List ℕ) → written_at kind.Absent true path text ≡ Ok (Put path text)
made path text = refl

onto_folder : (path : Path) (text : List ℕ) → written_at kind.Dir true path text ≡ Err IsFolder
onto_folder path text = refl

-- ---- comm

abbrev all_columns : Columns
all_columns = record { first = true; second = true; both = true }

abbrev no_first : Columns
no_first = record { first = false; second = true; both = true }

three_columns : comm all_columns (codes "a\nb\n") (codes "b\nc\n") ≡ codes "a\n\t\tb\n\tc\n"
three_columns = refl

-- with a column its tab is left out
less_tabs : comm no_first (codes "a\nb\n") (codes "b\nc\n") ≡ codes "\tb\nc\n"
less_tabs = refl

-- The front lines alone are compared, also where the texts are in no order.
no_order : comm all_columns (codes "b\na\n") (codes "a\nb\n") ≡ codes "\ta\n\t\tb\na\n"
no_order = refl

one_content : (w : WorldData) → contents_compared all_columns (codes "a\n" ∷ []) 1 w ≡ nothing 1 w
one_content w = refl

second_missing : (w : WorldData) → comm_command (codes "-12" ∷ codes "f" ∷ []) w ≡ refused (codes "comm") MissingOperand w
second_missing w = refl

-- ---- sort

abbrev sorting : Bool → Bool → Bool → Sorting
sorting numeric reverse unique = record { numeric = numeric; reverse = reverse; unique = unique }

by_bytes : sort (sorting false false false) (codes "10\n9\n09" ∷ codes "1\n" ∷ []) ≡ codes "09\n1\n10\n9\n"
by_bytes = refl

-- equal numbers go by the whole line
by_number : sort (sorting true false false) (codes "10\n9\n09\n" ∷ []) ≡ codes "09\n9\n10\n"
by_number = refl

-- the first of equal numbers
first_of_equal : sort (sorting true false true) (codes "10\n9\n09\n" ∷ []) ≡ codes "9\n10\n"
first_of_equal = refl

-- the same lines, the other way round
other_way : sort (sorting true true true) (codes "10\n9\n09\n" ∷ []) ≡ codes "10\n9\n"
other_way = refl

fractions : sort (sorting true false false) (codes "1.5\n-1\n1.25\n.5\n-10\n" ∷ []) ≡ codes "-10\n-1\n.5\n1.25\n1.5\n"
fractions = refl

-- no digit counts as 0
zeros : sort (sorting true false true) (codes "x\n0\n-0\n\n-.00\n" ∷ []) ≡ codes "x\n"
zeros = refl
