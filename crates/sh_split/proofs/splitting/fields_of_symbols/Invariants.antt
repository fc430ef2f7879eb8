use Rattle.std.proofs.Common.{drop, map}
use Rattle.std.specs.Prelude.{option_copied}
use Rattle.sh_split.specs.Fields.{ifs_bytes, mark_of, split}
use Rattle.sh_split.proofs.SoFar.{Splits}
use Rattle.sh_split.proofs.splitting.fields_of_symbols.Given as goal

abbrev pub invariant-loop-symbol : goal.invariant-loop-symbol
invariant-loop-symbol l = Splits (ifs_bytes (option_copied l.ifs)) (split (option_copied l.ifs) l.symbols) l.splitter.fields l.splitter.field l.splitter.place (map mark_of (drop l.symbol-index l.symbols))
