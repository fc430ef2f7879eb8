-- `cut` (POSIX.1-2017, XCU, `cut`): the bytes or the fields of lines that a list selects.
use Rattle.std.specs.Prelude.{◌≡◌, ℕ, Bool, true, false, List, [], ◌∷◌, Option, Some, None, Result, Ok, Err, codes}
use Rattle.hs_world.specs.World.{WorldData}
use Rattle.hs_view.specs.Acts.{answering}
use Rattle.hs_view.specs.Steps.{Done}
use Rattle.util_common.specs.Operands.{Writer, none_yet, operands_written, or_input, refused, status_of}
use Rattle.util_common.specs.Words.{is_given, last_value, words_of}
use Rattle.util_common.specs.declared.messages.Why.{Why}
use Rattle.util_common.specs.declared.messages.Why.TheVariants.{BadList, Excluding, MissingOperand}
use Rattle.util_opts.specs.declared.options.Options.{Options}
use Rattle.util_text.specs.Cut.{cut_bytes, cut_fields}
use Rattle.util_text.specs.Places.{Range, list_of, selects}
use Rattle.util_text.specs.Selected.{Selects}
use Rattle.util_text.specs.declared.slicing.Cuts.{Cuts}
use Rattle.util_text.specs.declared.slicing.Items.{Items}
use Rattle.util_text.specs.declared.slicing.Items.TheVariants.{Bytes, Fields}

-- `-b` and `-c` take a list of bytes, `-f` one of fields, `-d` a delimiter; with `-s` only lines that have it are written.
abbrev pub cut_options : List (ℕ × Bool)
cut_options = (98, true) ∷ (99, true) ∷ (100, true) ∷ (102, true) ∷ (115, false) ∷ []

-- the one list that is given by `-b`, `-c` or `-f`, and whether it is one of fields
abbrev pub list_given : Option (List ℕ) → Option (List ℕ) → Option (List ℕ) → Result (Bool × List ℕ) Why
list_given None None None = Err MissingOperand
list_given None None (Some list) = Ok (true, list)
list_given None (Some list) None = Ok (false, list)
list_given None (Some list) (Some other) = Err Excluding
list_given (Some list) None None = Ok (false, list)
list_given (Some list) None (Some other) = Err Excluding
list_given (Some list) (Some other) fields = Err Excluding

abbrev pub one_byte : List ℕ → Option ℕ
one_byte [] = None
one_byte (b ∷ []) = Some b
one_byte (b ∷ c ∷ r) = None

-- a tab, where no delimiter is given
abbrev pub delimiter_of : Option (List ℕ) → Option ℕ
delimiter_of None = Some 9
delimiter_of (Some word) = one_byte word

abbrev pub fields_by : Option ℕ → Bool → Result Items Why
fields_by None only = Err BadList
fields_by (Some d) only = Ok (Fields d only)

-- `-d` and `-s` are for fields alone
abbrev pub bytes_by : Option (List ℕ) → Bool → Result Items Why
bytes_by None false = Ok Bytes
bytes_by None true = Err Excluding
bytes_by (Some d) only = Err Excluding

-- the items that the list has the places of
abbrev pub items_by : Bool → Option (List ℕ) → Bool → Result Items Why
items_by true d only = fields_by (delimiter_of d) only
items_by false d only = bytes_by d only

abbrev pub with_ranges : Items → Option (List Range) → Result (Items × List Range) Why
with_ranges items None = Err BadList
with_ranges items (Some ranges) = Ok (items, ranges)

abbrev pub wanted_with : List ℕ → Result Items Why → Result (Items × List Range) Why
wanted_with list (Ok items) = with_ranges items (list_of list)
wanted_with list (Err why) = Err why

abbrev pub wanted_of : Option (List ℕ) → Bool → Result (Bool × List ℕ) Why → Result (Items × List Range) Why
wanted_of d only (Ok list) = wanted_with list.1 (items_by list.0 d only)
wanted_of d only (Err why) = Err why

-- what is cut, by the options: first whether they agree, then the delimiter, then the list
abbrev pub wanted : List (ℕ × Option (List ℕ)) → Result (Items × List Range) Why
wanted given = wanted_of (last_value 100 given) (is_given 115 given) (list_given (last_value 98 given) (last_value 99 given) (last_value 102 given))

abbrev pub cut_text : Items → List Range → List ℕ → List ℕ
cut_text Bytes ranges content = cut_bytes (λ place. selects ranges place) content
cut_text (Fields d only) ranges content = cut_fields (λ place. selects ranges place) d only content

abbrev pub cuts : Items → List Range → Writer
cuts items ranges before word content = cut_text items ranges content

abbrev pub cuts_written : Items → List Range → List (List ℕ) → WorldData → Done ℕ
cuts_written items ranges operands w = answering status_of (operands_written (codes "cut") (cuts items ranges) none_yet (or_input operands) w)

abbrev pub cut_of : List (List ℕ) → Result (Items × List Range) Why → WorldData → Done ℕ
cut_of operands (Ok cut) w = cuts_written cut.0 cut.1 operands w
cut_of operands (Err why) w = refused (codes "cut") why w

abbrev pub cut_by : Result Options Why → WorldData → Done ℕ
cut_by (Ok options) w = cut_of options.operands (wanted options.given) w
cut_by (Err why) w = refused (codes "cut") why w

abbrev pub cut_command : List (List ℕ) → WorldData → Done ℕ
cut_command args w = cut_by (words_of cut_options args) w

-- ---- what the code keeps of it

-- The filter writes so.
pub record Slicing (filter : Cuts) (text : Writer) : Type 0 where
  pub exact : List Range
  pub stands : Selects filter.selection exact
  pub is : text ≡ cuts filter.items exact
