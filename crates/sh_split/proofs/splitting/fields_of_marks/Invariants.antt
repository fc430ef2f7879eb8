use Rattle.std.proofs.Common.{drop}
use Rattle.std.specs.Prelude.{option_copied}
use Rattle.sh_split.specs.Fields.{fields_of, ifs_bytes}
use Rattle.sh_split.proofs.SoFar.{Splits}
use Rattle.sh_split.proofs.splitting.fields_of_marks.Given as goal

abbrev pub invariant-loop-mark : goal.invariant-loop-mark
invariant-loop-mark l = Splits (ifs_bytes (option_copied l.ifs)) (fields_of (option_copied l.ifs) l.marks) l.splitter.fields l.splitter.field l.splitter.place (drop l.mark-index l.marks)
