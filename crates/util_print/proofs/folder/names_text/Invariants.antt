use Rattle.std.proofs.Common.{◌≡◌, ◌++◌, drop}
use Rattle.util_print.specs.Folder.{names_text}
use Rattle.util_print.proofs.folder.names_text.Given as goal

abbrev pub invariant-names : goal.invariant-names
invariant-names l = l.text ++ names_text (drop l.name-index l.names) ≡ names_text l.names
