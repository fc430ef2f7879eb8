-- Texts, and what the utilities make of them.
use Rattle.std.proofs.Common.{◌≡◌, ℕ, true, false, List, [], ◌∷◌, ◌++◌, None, Some, Ok, Err, refl, codes}
use Rattle.std.specs.Prelude.{decimal}
use Rattle.std.specs.List.{join_with_byte}
use Rattle.hs_world.specs.World.{WorldData}
use Rattle.hs_world.specs.declared.effect.Effect.TheVariants.{Append, Emit, Put, SetInput}
use Rattle.hs_world.specs.declared.effect.Fd.TheVariants.{One}
use Rattle.hs_world.specs.Paths.{Path}
use Rattle.hs_world.specs.declared.entry.Kind.TheVariants as kind
use Rattle.util_common.specs.Operands.{dash, emitted, progress_of, refused}
use Rattle.util_common.specs.declared.messages.Why.TheVariants.{BadList, Excluding, IsFolder, MissingOperand, NoSuchFolder}
use Rattle.util_text.specs.declared.ends.Ends.TheVariants.{Last, From}
use Rattle.util_text.specs.Count.{number}
use Rattle.util_text.specs.Counting.{counts, total}
use Rattle.util_text.specs.Fold.{fold}
use Rattle.util_text.specs.Lines.{lines, pieces, first_lines, last_lines, lines_from}
use Rattle.util_text.specs.Cut.{cut_fields}
use Rattle.util_text.specs.Paste.{delimiters_of, paste, serial}
use Rattle.util_text.specs.Pasting.{gathered_written, paste_of}
use Rattle.util_text.specs.Places.{list_of, selects}
use Rattle.util_text.specs.Slicing.{wanted}
use Rattle.util_text.specs.declared.column.Column.TheVariants.{File, Input}
use Rattle.util_text.specs.declared.slicing.Items.TheVariants.{Bytes, Fields}
use Rattle.util_text.specs.Tail.{ends_of}
use Rattle.util_text.specs.Teeing.{input_copied, written_at}
use Rattle.util_text.specs.Tallying.{tallies, total_written}
use Rattle.util_text.specs.declared.chosen.Chosen.{Chosen}

-- a last piece without a newline is a line
last_piece : lines (codes "a\n\nb") ≡ codes "a" ∷ [] ∷ codes "b" ∷ []
last_piece = refl

last_newline : lines (codes "a\n") ≡ codes "a" ∷ []
last_newline = refl

with_newlines : pieces (codes "a\n\nb") ≡ codes "a\n" ∷ codes "\n" ∷ codes "b" ∷ []
with_newlines = refl

nothing : lines [] ≡ []
nothing = refl

two_first : first_lines 2 (codes "a\nb\nc\n") ≡ codes "a\nb\n"
two_first = refl

-- what has no newline gets none
two_last : last_lines 2 (codes "a\nb\nc") ≡ codes "b\nc"
two_last = refl

from_two : lines_from 2 (codes "a\nb\nc\n") ≡ codes "b\nc\n"
from_two = refl

from_zero : lines_from 0 (codes "a\nb") ≡ codes "a\nb"
from_zero = refl

plus : ends_of (codes "+02") ≡ Some (From 2)
plus = refl

minus : ends_of (codes "-2") ≡ Some (Last 2)
minus = refl

two_signs : ends_of (codes "+-2") ≡ None
two_signs = refl

long_number : number (codes "100000000000000000000") ≡ Some 100000000000000000000
long_number = refl

no_digit : number (codes "1a") ≡ None
no_digit = refl

counted : counts (codes " a\tbc\n\nd") ≡ record { lines = 2; words = 3; bytes = 8 }
counted = refl

-- a cut needs a byte behind it
cut : fold 2 (codes "abcd\ne") ≡ codes "ab\ncd\ne\n"
cut = refl

empty_line : fold 2 (codes "\n") ≡ codes "\n"
empty_line = refl

-- ---- wc

abbrev lines_only : Chosen
lines_only = record { lines = true; words = false; bytes = false }

abbrev none_chosen : Chosen
none_chosen = record { lines = false; words = false; bytes = false }

named_line : tallies none_chosen true [] (codes "f") (codes "a b\nc") ≡ join_with_byte 32 (decimal 1 ∷ decimal 3 ∷ decimal 5 ∷ []) ++ codes " f\n"
named_line = refl

-- standard input that no operand names
plain_line : tallies lines_only false [] (codes "-") (codes "a b\n") ≡ decimal 1 ++ codes "\n"
plain_line = refl

summed : total (codes "a b\n" ∷ codes "c" ∷ []) ≡ record { lines = 1; words = 3; bytes = 5 }
summed = refl

-- the sum is written behind the lines of the operands, and the status stays
total_line : (w : WorldData) → total_written lines_only true (progress_of (codes "a\n" ∷ codes "b\nc\n" ∷ []) 1) w ≡ record { effects = Emit One (decimal 3 ++ codes " total\n") ∷ []; answer = 1 }
total_line w = refl

single_line : (w : WorldData) → total_written lines_only false (progress_of (codes "a\n" ∷ []) 0) w ≡ record { effects = []; answer = 0 }
single_line w = refl

-- ---- cut

list_order : list_of (codes "3,1-2") ≡ Some (record { low = 3; high = Some 3 } ∷ record { low = 1; high = Some 2 } ∷ [])
list_order = refl

-- the fields come in the order of the line
line_order : cut_fields (λ place. selects (record { low = 3; high = Some 3 } ∷ record { low = 1; high = Some 1 } ∷ []) place) 58 false (codes "a:b:c\nd") ≡ codes "a:c\nd\n"
line_order = refl

-- a line without delimiter does not pass
only_fields : cut_fields (λ place. selects (record { low = 2; high = None } ∷ []) place) 58 true (codes "a:b:c\nd") ≡ codes "b:c\n"
only_fields = refl

by_tabs : wanted ((102, Some (codes "2")) ∷ (115, None) ∷ []) ≡ Ok (Fields 9 true, record { low = 2; high = Some 2 } ∷ [])
by_tabs = refl

-- the last value of an option counts
last_list : wanted ((98, Some (codes "1")) ∷ (98, Some (codes "2-")) ∷ []) ≡ Ok (Bytes, record { low = 2; high = None } ∷ [])
last_list = refl

two_lists : wanted ((98, Some (codes "1")) ∷ (102, Some (codes "2")) ∷ []) ≡ Err Excluding
two_lists = refl

bytes_with_delimiter : wanted ((98, Some (codes "0")) ∷ (100, Some (codes ":")) ∷ []) ≡ Err Excluding
bytes_with_delimiter = refl

no_list : wanted ((100, Some (codes ":")) ∷ []) ≡ Err MissingOperand
no_list = refl

long_delimiter : wanted ((102, Some (codes "1")) ∷ (100, Some (codes "ab")) ∷ []) ≡ Err BadList
long_delimiter = refl

-- ---- paste

ended_file : paste (Some 58 ∷ []) (File (lines (codes "1\n2\n")) ∷ File (lines (codes "x\n")) ∷ []) [] ≡ codes "1:x\n2:\n"
ended_file = refl

-- the delimiters in turn, and anew for each line
in_turn : paste (Some 58 ∷ Some 59 ∷ []) (File (lines (codes "a\nb\n")) ∷ File (lines (codes "c\nd\n")) ∷ File (lines (codes "e\nf\n")) ∷ []) [] ≡ codes "a:c;e\nb:d;f\n"
in_turn = refl

lines_in_turn : paste (Some 58 ∷ []) (Input ∷ Input ∷ []) (lines (codes "1\n2\n3\n")) ≡ codes "1:2\n3:\n"
lines_in_turn = refl

one_each : serial (Some 58 ∷ Some 59 ∷ []) (codes "a\nb\n\nc") ≡ codes "a:b;:c\n"
one_each = refl

no_lines : serial (Some 58 ∷ []) [] ≡ codes "\n"
no_lines = refl

known_escapes : delimiters_of (codes ":\\n\\t\\\\\\0") ≡ Some (Some 58 ∷ Some 10 ∷ Some 9 ∷ Some 92 ∷ None ∷ [])
known_escapes = refl

other_escape : delimiters_of (codes "\\a") ≡ None
other_escape = refl

half_escape : delimiters_of (codes ":\\") ≡ None
half_escape = refl

no_delimiter : delimiters_of [] ≡ None
no_delimiter = refl

-- what the first `-` found is for all of them
two_dashes : gathered_written (Some 58 ∷ []) (dash ∷ dash ∷ []) (codes "1\n2\n" ∷ [] ∷ []) 0 ≡ emitted One (codes "1:2\n") 0
two_dashes = refl

after_refusal : (w : WorldData) → gathered_written (Some 58 ∷ []) (codes "f" ∷ codes "g" ∷ []) (codes "1\n" ∷ []) 1 w ≡ record { effects = []; answer = 1 }
after_refusal w = refl

list_first : (w : WorldData) → paste_of false [] None w ≡ refused (codes "paste") BadList w
list_first w = refl

-- ---- tee

-- standard input is used up, and written before any file
input_first : (w : WorldData) → input_copied false [] w ≡ record { effects = SetInput [] ∷ Emit One w.input ∷ []; answer = 0 }
input_first w = refl

anew : (path : Path) (text : List ℕ) → written_at false kind.File true path text ≡ Ok (Put path text)
anew path text = refl

behind : (path : Path) (text : List ℕ) → written_at true kind.File true path text ≡ Ok (Append path text)
behind path text = refl

-- with `-a` too a file is made where there is none
made : (path : Path) (text : List ℕ) → written_at true kind.Absent true path text ≡ Ok (Put path text)
made path text = refl

nowhere : (path : Path) (text : List ℕ) → written_at false kind.Absent false path text ≡ Err NoSuchFolder
nowhere path text = refl

onto_folder : (path : Path) (text : List ℕ) → written_at true kind.Dir true path text ≡ Err IsFolder
onto_folder path text = refl
