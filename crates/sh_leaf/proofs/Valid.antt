-- What utilities do is valid where it comes, in every state.
use Rattle.std.proofs.Common.{◌≡◌, ℕ, zero, suc, Bool, true, false, List, [], ◌∷◌, refl, sym, ap}
use Rattle.std.specs.Prelude.{Option, Some, None, Result, Ok, Err, codes, if◌then◌else◌}
use Rattle.hs_world.specs.Files.{entry_at, is_dir, is_file, kind_of}
use Rattle.hs_world.specs.Paths.{Path, parent, resolve}
use Rattle.hs_world.specs.World.{WorldData, AllValid}
use Rattle.hs_world.specs.declared.effect.Fd.TheVariants.{One}
use Rattle.hs_world.specs.declared.entry.Entry.{Entry}
use Rattle.hs_world.specs.declared.entry.Entry.TheVariants.{File, Dir, Other}
use Rattle.hs_view.specs.Acts.{answering}
use Rattle.util_common.specs.Operands.{content_in, content_taken, dash, emitted, input_read, none_yet, operands_written, or_input, refused, status_of}
use Rattle.util_common.specs.Words.{is_given, last_value, words_of}
use Rattle.util_common.specs.declared.content.Content.{Content}
use Rattle.util_common.specs.declared.content.Content.TheVariants.{Bytes, Refused}
use Rattle.util_common.specs.declared.messages.Why.{Why}
use Rattle.util_common.specs.declared.messages.Why.TheVariants.{ExtraOperand}
use Rattle.util_opts.specs.declared.options.Options.{Options}
use Rattle.util_lines.proofs.Filed as filed
use Rattle.util_lines.specs.Comparing.{columns_by, comm_by, comm_options, contents_compared, files_compared, merge_written}
use Rattle.util_lines.specs.Filing as filing
use Rattle.util_lines.specs.Gathering as gathering
use Rattle.util_lines.specs.Selecting as selecting
use Rattle.util_lines.specs.Sorting.{sort_by, sort_options, sorted_written, sorting_by}
use Rattle.util_lines.specs.Translating as translating
use Rattle.util_lines.specs.Translating.{asked_by, image_written, tr_by, tr_of, tr_options}
use Rattle.util_lines.specs.Uniquing.{contents_written, files_uniqued, input_uniqued, mode_by, runs_written, text_written, uniq_by, uniq_of, uniq_options}
use Rattle.util_lines.specs.Runs.{uniq}
use Rattle.util_lines.specs.Transliterate.{Job}
use Rattle.util_lines.specs.declared.fixed_lines.Flags.{Flags}
use Rattle.util_lines.specs.declared.fixed_lines.Search.{Search}
use Rattle.util_lines.specs.declared.gathering.Gathered as lines
use Rattle.util_lines.specs.declared.merging.Columns.{Columns}
use Rattle.util_lines.specs.declared.runs.Mode.{Mode}
use Rattle.util_lines.specs.declared.selecting.Found.{Found}
use Rattle.util_print.specs.Components.{basename_by, basename_of, dirname_by, dirname_of, line_written, no_options}
use Rattle.util_print.specs.Printf as printing
use Rattle.util_print.specs.Shown.{all_parts, bad_words, written}
use Rattle.util_print.specs.declared.format.Part.{Part}
use Rattle.util_print.specs.Formats.{parts}
use Rattle.util_print.specs.Folder.{folder_written, has_words, pwd_by}
use Rattle.util_test.specs.Expressions.{asked}
use Rattle.util_test.specs.Testing as testing
use Rattle.util_test.specs.Testing.{bracketed, bracketed_told}
use Rattle.util_test.specs.declared.expression.Asked.{Asked}
use Rattle.util_text.proofs.Teed.{put_valid}
use Rattle.util_text.specs.Cat.{cat_by, cat_options, unchanged}
use Rattle.util_text.specs.Gathering.{content_gathered, none_gathered, operand_gathered, operands_gathered}
use Rattle.util_text.specs.Head.{head_by, head_of, head_options, heads, is_several, lines_wanted}
use Rattle.util_text.specs.Pasting.{columns_written, delimiters_wanted, gathered_written, lines_written, operands_pasted, paste_by, paste_of, paste_options, serials}
use Rattle.util_text.specs.Places.{Range}
use Rattle.util_text.specs.Slicing.{cut_by, cut_of, cut_options, cuts, wanted}
use Rattle.util_text.specs.Tailing.{ends_wanted, tail_by, tail_of, tail_options, tails}
use Rattle.util_text.specs.Tallying.{chosen_by, has_operand, sum_written, tallies, total_written, wc_by, wc_options}
use Rattle.util_text.specs.Counting.{total}
use Rattle.util_text.specs.Teeing.{copied, file_written, files_written, is_free, made_in, path_written, tee_by, tee_options, told, written_at}
use Rattle.util_text.specs.Wrapping.{fold_by, fold_of, fold_options, folds, width_wanted}
use Rattle.util_text.specs.declared.chosen.Chosen.{Chosen}
use Rattle.util_text.specs.declared.counting.Counts.{Counts}
use Rattle.util_text.specs.declared.ends.Ends.{Ends}
use Rattle.util_text.specs.declared.gathering.Gathered.{Gathered}
use Rattle.util_text.specs.declared.slicing.Items.{Items}
use Rattle.sh_leaf.proofs.Operands.{Valid, filters_valid, operands_valid, taken_by, valid_then}
use Rattle.sh_leaf.specs.Utilities.{does, found}
use Rattle.sh_leaf.specs.declared.utility.Utility.{Utility}
use Rattle.sh_leaf.specs.declared.utility.Utility.TheVariants.{Basename, Bracket, Cat, Comm, Cut, Dirname, Echo, False, Fold, Grep, Head, Paste, Printf, Pwd, Sort, Tail, Tee, Test, Tr, True, Uniq, Wc}

-- ---- filters, which write one text for each operand

cat_valid : (words : Result Options Why) → Valid (cat_by words)
cat_valid (Ok options) w = filters_valid (codes "cat") unchanged options.operands w
cat_valid (Err why) w = (refl, tt)

head_of_valid : (operands : List (List ℕ)) (n : Option ℕ) → Valid (head_of operands n)
head_of_valid operands None w = (refl, tt)
head_of_valid operands (Some n) w = filters_valid (codes "head") (heads n (is_several operands)) operands w

head_valid : (words : Result Options Why) → Valid (head_by words)
head_valid (Ok options) w = head_of_valid options.operands (lines_wanted (last_value 110 options.given)) w
head_valid (Err why) w = (refl, tt)

tails_valid : (ends : Ends) (operands : List (List ℕ)) (several : Bool) (w : WorldData)
    → AllValid (if several then refused (codes "tail") ExtraOperand w else answering status_of (operands_written (codes "tail") (tails ends) none_yet (or_input operands) w)).effects w
tails_valid ends operands true w = (refl, tt)
tails_valid ends operands false w = filters_valid (codes "tail") (tails ends) operands w

tail_of_valid : (operands : List (List ℕ)) (ends : Option Ends) → Valid (tail_of operands ends)
tail_of_valid operands None w = (refl, tt)
tail_of_valid operands (Some ends) w = tails_valid ends operands (is_several operands) w

tail_valid : (words : Result Options Why) → Valid (tail_by words)
tail_valid (Ok options) w = tail_of_valid options.operands (ends_wanted (last_value 110 options.given)) w
tail_valid (Err why) w = (refl, tt)

fold_of_valid : (operands : List (List ℕ)) (n : Option ℕ) → Valid (fold_of operands n)
fold_of_valid operands None w = (refl, tt)
fold_of_valid operands (Some n) w = filters_valid (codes "fold") (folds n) operands w

fold_valid : (words : Result Options Why) → Valid (fold_by words)
fold_valid (Ok options) w = fold_of_valid options.operands (width_wanted (last_value 119 options.given)) w
fold_valid (Err why) w = (refl, tt)

cut_of_valid : (operands : List (List ℕ)) (cut : Result (Items × List Range) Why) → Valid (cut_of operands cut)
cut_of_valid operands (Ok cut) w = filters_valid (codes "cut") (cuts cut.0 cut.1) operands w
cut_of_valid operands (Err why) w = (refl, tt)

cut_valid : (words : Result Options Why) → Valid (cut_by words)
cut_valid (Ok options) w = cut_of_valid options.operands (wanted options.given) w
cut_valid (Err why) w = (refl, tt)

sum_valid : (chosen : Chosen) (several : Bool) (sum : Counts) (status : ℕ) → Valid (sum_written chosen several sum status)
sum_valid chosen false sum status w = tt
sum_valid chosen true sum status w = (refl, tt)

wc_valid : (words : Result Options Why) → Valid (wc_by words)
wc_valid (Ok options) w =
    let chosen : Chosen = chosen_by options.given in
    let several : Bool = is_several options.operands in
    let text = tallies chosen (has_operand options.operands) in
    valid_then (operands_written (codes "wc") text none_yet (or_input options.operands)) (total_written chosen several) (filters_valid (codes "wc") text options.operands) (λ read u. sum_valid chosen several (total read.contents) read.status u) w
wc_valid (Err why) w = (refl, tt)

-- ---- paste, which may read all operands before it writes

gathered_by : (so_far : Gathered) (word : List ℕ) (content : Content) → Valid (content_gathered (codes "paste") so_far word content)
gathered_by so_far word (Bytes bytes) w = tt
gathered_by so_far word (Refused why) w = (refl, tt)

one_gathered : (so_far : Gathered) (word : List ℕ) → Valid (operand_gathered (codes "paste") so_far word)
one_gathered so_far word =
    valid_then (content_taken word) (content_gathered (codes "paste") so_far word) (λ w. taken_by _ (content_in w.tree (resolve w.cwd word)) w) (gathered_by so_far word)

all_gathered : (so_far : Gathered) (words : List (List ℕ)) → Valid (operands_gathered (codes "paste") so_far words)
all_gathered so_far [] w = tt
all_gathered so_far (word ∷ words) w =
    valid_then (operand_gathered (codes "paste") so_far word) (λ next. operands_gathered (codes "paste") next words) (one_gathered so_far word) (λ next. all_gathered next words) w

rows_valid : (ds : List (Option ℕ)) (words contents : List (List ℕ)) (status : ℕ) → Valid (gathered_written ds words contents status)
rows_valid ds words contents zero w = (refl, tt)
rows_valid ds words contents (suc n) w = tt

columns_valid : (ds : List (Option ℕ)) (words : List (List ℕ)) → Valid (columns_written ds words)
columns_valid ds words =
    valid_then (operands_gathered (codes "paste") none_gathered words) (λ read. gathered_written ds words read.contents read.status) (all_gathered none_gathered words) (λ read. rows_valid ds words read.contents read.status)

lines_valid : (apart : Bool) (ds : List (Option ℕ)) (words : List (List ℕ)) → Valid (lines_written apart ds words)
lines_valid true ds words w = operands_valid (codes "paste") (serials ds) none_yet words w
lines_valid false ds words w = columns_valid ds words w

pasted_valid : (apart : Bool) (ds : List (Option ℕ)) (words : List (List ℕ)) → Valid (operands_pasted apart ds words)
pasted_valid apart ds [] w = (refl, tt)
pasted_valid apart ds (word ∷ words) w = lines_valid apart ds (word ∷ words) w

paste_of_valid : (apart : Bool) (operands : List (List ℕ)) (ds : Option (List (Option ℕ))) → Valid (paste_of apart operands ds)
paste_of_valid apart operands None w = (refl, tt)
paste_of_valid apart operands (Some ds) w = pasted_valid apart ds operands w

paste_valid : (words : Result Options Why) → Valid (paste_by words)
paste_valid (Ok options) w = paste_of_valid (is_given 115 options.given) options.operands (delimiters_wanted (last_value 100 options.given)) w
paste_valid (Err why) w = (refl, tt)

-- ---- tee, which makes files

made_valid : (folder : Bool) (path : Path) (text word : List ℕ) (status : ℕ) (w : WorldData) → folder ≡ is_dir (entry_at w.tree (parent path)) → is_free (entry_at w.tree path) ≡ true → AllValid (told word status (made_in folder path text) w).effects w
made_valid true path text word status w e free = (put_valid path text w (sym e) free, tt)
made_valid false path text word status w e free = (refl, tt)

-- by what is at the path
at_valid : (append : Bool) (entry : Option Entry) (folder : Bool) (path : Path) (text word : List ℕ) (status : ℕ) (w : WorldData) → entry ≡ entry_at w.tree path → folder ≡ is_dir (entry_at w.tree (parent path))
    → AllValid (told word status (written_at append (kind_of entry) folder path text) w).effects w
at_valid append None folder path text word status w is e = made_valid folder path text word status w e (sym (ap is_free is))
at_valid true (Some (File bytes)) folder path text word status w is e = (sym (ap is_file is), tt)
at_valid false (Some (File bytes)) folder path text word status w is e = made_valid folder path text word status w e (sym (ap is_free is))
at_valid append (Some Dir) folder path text word status w is e = (refl, tt)
at_valid append (Some Other) folder path text word status w is e = (refl, tt)

path_valid : (append : Bool) (text word : List ℕ) (status : ℕ) (path : Option Path) → Valid (path_written append text word status path)
path_valid append text word status None w = (refl, tt)
path_valid append text word status (Some path) w = at_valid append (entry_at w.tree path) (is_dir (entry_at w.tree (parent path))) path text word status w refl refl

files_valid : (append : Bool) (text : List ℕ) (status : ℕ) (words : List (List ℕ)) → Valid (files_written append text status words)
files_valid append text status [] w = tt
files_valid append text status (word ∷ words) w =
    valid_then (file_written append text word status) (λ next. files_written append text next words) (λ u. path_valid append text word status (resolve u.cwd word) u) (λ next. files_valid append text next words) w

copied_valid : (append : Bool) (words : List (List ℕ)) (text : List ℕ) → Valid (copied append words text)
copied_valid append words text w = valid_then (emitted One text 0) (λ status. files_written append text status words) (λ u. (refl, tt)) (λ status. files_valid append text status words) w

tee_valid : (words : Result Options Why) → Valid (tee_by words)
tee_valid (Ok options) w =
    let append : Bool = is_given 97 options.given in
    valid_then input_read (copied append options.operands) (λ u. (refl, tt)) (copied_valid append options.operands) w
tee_valid (Err why) w = (refl, tt)

-- ---- one line, or none

line_valid : (utility : List ℕ) (line : Result (List ℕ) Why) → Valid (line_written utility line)
line_valid utility (Ok line) w = (refl, tt)
line_valid utility (Err why) w = (refl, tt)

basename_valid : (words : Result Options Why) → Valid (basename_by words)
basename_valid (Ok options) w = line_valid (codes "basename") (basename_of options.operands) w
basename_valid (Err why) w = (refl, tt)

dirname_valid : (words : Result Options Why) → Valid (dirname_by words)
dirname_valid (Ok options) w = line_valid (codes "dirname") (dirname_of options.operands) w
dirname_valid (Err why) w = (refl, tt)

folder_valid : (has : Bool) (w : WorldData) → AllValid (if has then refused (codes "pwd") ExtraOperand w else folder_written w).effects w
folder_valid true w = (refl, tt)
folder_valid false w = (refl, tt)

pwd_valid : (words : Result Options Why) → Valid (pwd_by words)
pwd_valid (Ok options) w = folder_valid (has_words options.operands) w
pwd_valid (Err why) w = (refl, tt)

-- a message for each bad number, and then the text
complained_valid : (words : List (List ℕ)) (text : List ℕ) (status : ℕ) → Valid (printing.told words text status)
complained_valid [] text status w = (refl, tt)
complained_valid (word ∷ words) text status w = valid_then (printing.complained word) (λ next. printing.told words text next) (λ u. (refl, tt)) (λ next. complained_valid words text next) w

printed_valid : (ps : List Part) (words : List (List ℕ)) → Valid (printing.printed ps words)
printed_valid ps words w = complained_valid (bad_words ps words) (written ps words) 0 w

printf_valid : (ps : Option (List Part)) (words : List (List ℕ)) → Valid (printing.printf_by ps words)
printf_valid None words w = (refl, tt)
printf_valid (Some ps) words w = printed_valid (all_parts ps words) words w

printf_of_valid : (words : List (List ℕ)) → Valid (printing.printf_of words)
printf_of_valid [] w = (refl, tt)
printf_of_valid (format ∷ words) w = printf_valid (parts format) words w

told_valid : (utility : List ℕ) (asked : Option Asked) → Valid (testing.told utility asked)
told_valid utility None w = (refl, tt)
told_valid utility (Some asked) w = tt

bracket_valid : (words : Option (List (List ℕ))) → Valid (bracketed_told words)
bracket_valid None w = (refl, tt)
bracket_valid (Some words) w = told_valid (codes "[") (asked words) w

-- ---- lines of operands that are all read before anything is written

line_gathered : (utility : List ℕ) (bad : ℕ) (so_far : lines.Gathered) (word : List ℕ) (content : Content) → Valid (gathering.content_gathered utility bad so_far word content)
line_gathered utility bad so_far word (Bytes bytes) w = tt
line_gathered utility bad so_far word (Refused why) w = (refl, tt)

operand_lines : (utility : List ℕ) (bad : ℕ) (so_far : lines.Gathered) (word : List ℕ) → Valid (gathering.operand_gathered utility bad so_far word)
operand_lines utility bad so_far word =
    valid_then (content_taken word) (gathering.content_gathered utility bad so_far word) (λ w. taken_by _ (content_in w.tree (resolve w.cwd word)) w) (line_gathered utility bad so_far word)

lines_gathered : (utility : List ℕ) (bad : ℕ) (so_far : lines.Gathered) (words : List (List ℕ)) → Valid (gathering.operands_gathered utility bad so_far words)
lines_gathered utility bad so_far [] w = tt
lines_gathered utility bad so_far (word ∷ words) w =
    valid_then (gathering.operand_gathered utility bad so_far word) (λ next. gathering.operands_gathered utility bad next words) (operand_lines utility bad so_far word) (λ next. lines_gathered utility bad next words) w

sort_valid : (words : Result Options Why) → Valid (sort_by words)
sort_valid (Ok options) w =
    valid_then (gathering.operands_gathered (codes "sort") 2 gathering.none_yet (or_input options.operands)) (sorted_written (sorting_by options.given)) (lines_gathered (codes "sort") 2 gathering.none_yet (or_input options.operands)) (λ read u. (refl, tt)) w
sort_valid (Err why) w = (refl, tt)

two_valid : (columns : Columns) (contents : List (List ℕ)) (status : ℕ) → Valid (contents_compared columns contents status)
two_valid columns [] status w = tt
two_valid columns (one ∷ []) status w = tt
two_valid columns (one ∷ two ∷ more) status w = (refl, tt)

compared_valid : (columns : Columns) (words : List (List ℕ)) → Valid (files_compared columns words)
compared_valid columns [] w = (refl, tt)
compared_valid columns (one ∷ []) w = (refl, tt)
compared_valid columns (one ∷ two ∷ []) w =
    valid_then (gathering.operands_gathered (codes "comm") 1 gathering.none_yet (one ∷ two ∷ [])) (merge_written columns) (lines_gathered (codes "comm") 1 gathering.none_yet (one ∷ two ∷ [])) (λ read. two_valid columns read.contents read.status) w
compared_valid columns (one ∷ two ∷ third ∷ more) w = (refl, tt)

comm_valid : (words : Result Options Why) → Valid (comm_by words)
comm_valid (Ok options) w = compared_valid (columns_by options.given) options.operands w
comm_valid (Err why) w = (refl, tt)

-- a file that uniq makes, by what is at its path
output_made : (folder : Bool) (path : Path) (text word : List ℕ) (status : ℕ) (w : WorldData) → folder ≡ is_dir (entry_at w.tree (parent path)) → filing.is_free (entry_at w.tree path) ≡ true → AllValid (filing.told word status (filing.made_in folder path text) w).effects w
output_made true path text word status w e free = (filed.put_valid path text w (sym e) free, tt)
output_made false path text word status w e free = (refl, tt)

output_at : (entry : Option Entry) (folder : Bool) (path : Path) (text word : List ℕ) (status : ℕ) (w : WorldData) → entry ≡ entry_at w.tree path → folder ≡ is_dir (entry_at w.tree (parent path))
    → AllValid (filing.told word status (filing.written_at (kind_of entry) folder path text) w).effects w
output_at None folder path text word status w is e = output_made folder path text word status w e (sym (ap filing.is_free is))
output_at (Some (File bytes)) folder path text word status w is e = output_made folder path text word status w e (sym (ap filing.is_free is))
output_at (Some Dir) folder path text word status w is e = (refl, tt)
output_at (Some Other) folder path text word status w is e = (refl, tt)

output_valid : (text word : List ℕ) (status : ℕ) (path : Option Path) → Valid (filing.path_written text word status path)
output_valid text word status None w = (refl, tt)
output_valid text word status (Some path) w = output_at (entry_at w.tree path) (is_dir (entry_at w.tree (parent path))) path text word status w refl refl

text_valid : (output : Option (List ℕ)) (text : List ℕ) (status : ℕ) → Valid (text_written output text status)
text_valid None text status w = (refl, tt)
text_valid (Some word) text status w = output_valid text word status (resolve w.cwd word) w

runs_valid : (mode : Mode) (output : Option (List ℕ)) (contents : List (List ℕ)) (status : ℕ) → Valid (contents_written mode output contents status)
runs_valid mode output [] status w = tt
runs_valid mode output (content ∷ more) status w = text_valid output (uniq mode content) status w

input_valid : (mode : Mode) (input : List (List ℕ)) (output : Option (List ℕ)) → Valid (input_uniqued mode input output)
input_valid mode input output =
    valid_then (gathering.operands_gathered (codes "uniq") 1 gathering.none_yet input) (runs_written mode output) (lines_gathered (codes "uniq") 1 gathering.none_yet input) (λ read. runs_valid mode output read.contents read.status)

uniqued_valid : (mode : Mode) (operands : List (List ℕ)) → Valid (files_uniqued mode operands)
uniqued_valid mode [] w = input_valid mode (dash ∷ []) None w
uniqued_valid mode (input ∷ []) w = input_valid mode (input ∷ []) None w
uniqued_valid mode (input ∷ output ∷ []) w = input_valid mode (input ∷ []) (Some output) w
uniqued_valid mode (input ∷ output ∷ third ∷ more) w = (refl, tt)

uniq_of_valid : (mode : Option Mode) (operands : List (List ℕ)) → Valid (uniq_of mode operands)
uniq_of_valid None operands w = (refl, tt)
uniq_of_valid (Some mode) operands w = uniqued_valid mode operands w

uniq_valid : (words : Result Options Why) → Valid (uniq_by words)
uniq_valid (Ok options) w = uniq_of_valid (mode_by options.given) options.operands w
uniq_valid (Err why) w = (refl, tt)

-- ---- grep, which writes for each operand in turn

content_searched : (search : Search) (several : Bool) (word : List ℕ) (found : Found) (content : Content) → Valid (selecting.content_searched search several word found content)
content_searched search several word found (Bytes bytes) w = (refl, tt)
content_searched search several word found (Refused why) w = (refl, tt)

operand_searched : (search : Search) (several : Bool) (word : List ℕ) (found : Found) → Valid (selecting.operand_searched search several word found)
operand_searched search several word found =
    valid_then (content_taken word) (selecting.content_searched search several word found) (λ w. taken_by _ (content_in w.tree (resolve w.cwd word)) w) (content_searched search several word found)

words_searched : (search : Search) (several : Bool) (found : Found) (words : List (List ℕ)) → Valid (selecting.words_searched search several found words)
words_searched search several found [] w = tt
words_searched search several found (word ∷ words) w =
    valid_then (selecting.operand_searched search several word found) (λ next. selecting.words_searched search several next words) (operand_searched search several word found) (λ next. words_searched search several next words) w

searched_valid : (flags : Flags) (operands : List (List ℕ)) → Valid (selecting.operands_searched flags operands)
searched_valid flags [] w = (refl, tt)
searched_valid flags (patterns ∷ files) w = words_searched (selecting.search_of flags patterns) (selecting.is_several files) (selecting.found_by false false) (or_input files) w

grep_of_valid : (fixed : Bool) (flags : Flags) (operands : List (List ℕ)) → Valid (selecting.grep_of fixed flags operands)
grep_of_valid true flags operands w = searched_valid flags operands w
grep_of_valid false flags operands w = (refl, tt)

grep_valid : (words : Result Options Why) → Valid (selecting.grep_by words)
grep_valid (Ok options) w = grep_of_valid (is_given 70 options.given) (selecting.flags_by options.given) options.operands w
grep_valid (Err why) w = (refl, tt)

-- ---- tr, which reads standard input alone

tr_of_valid : (job : Result Job Why) → Valid (tr_of job)
tr_of_valid (Ok job) w = valid_then input_read (image_written job) (λ u. (refl, tt)) (λ text u. (refl, tt)) w
tr_of_valid (Err why) w = (refl, tt)

tr_valid : (words : Result Options Why) → Valid (tr_by words)
tr_valid (Ok options) w = tr_of_valid (translating.wanted (asked_by options.given) options.operands) w
tr_valid (Err why) w = (refl, tt)

-- ---- utilities

does_valid : (utility : Utility) (args : List (List ℕ)) → Valid (does utility args)
does_valid Basename args w = basename_valid (words_of no_options args) w
does_valid Bracket args w = bracket_valid (bracketed args) w
does_valid Cat args w = cat_valid (words_of cat_options args) w
does_valid Comm args w = comm_valid (words_of comm_options args) w
does_valid Cut args w = cut_valid (words_of cut_options args) w
does_valid Dirname args w = dirname_valid (words_of no_options args) w
does_valid Echo args w = (refl, tt)
does_valid False args w = tt
does_valid Fold args w = fold_valid (words_of fold_options args) w
does_valid Grep args w = grep_valid (words_of selecting.grep_options args) w
does_valid Head args w = head_valid (words_of head_options args) w
does_valid Paste args w = paste_valid (words_of paste_options args) w
does_valid Printf args w = printf_of_valid (printing.without_dashes args) w
does_valid Pwd args w = pwd_valid (words_of no_options args) w
does_valid Sort args w = sort_valid (words_of sort_options args) w
does_valid Tail args w = tail_valid (words_of tail_options args) w
does_valid Tee args w = tee_valid (words_of tee_options args) w
does_valid Test args w = told_valid (codes "test") (asked args) w
does_valid Tr args w = tr_valid (words_of tr_options args) w
does_valid True args w = tt
does_valid Uniq args w = uniq_valid (words_of uniq_options args) w
does_valid Wc args w = wc_valid (words_of wc_options args) w

pub found_valid : (utility : Option Utility) (args : List (List ℕ)) → Valid (found utility args)
found_valid None args w = tt
found_valid (Some utility) args w = does_valid utility args w
