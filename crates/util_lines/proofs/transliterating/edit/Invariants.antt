use Rattle.std.proofs.Common.{◌≡◌, ◌++◌, drop}
use Rattle.util_lines.specs.Transliterate.{Job, StandFor, transliterated}
use Rattle.util_lines.proofs.Squeezed.{left_of}
use Rattle.util_lines.proofs.transliterating.edit.Given as goal

abbrev pub invariant-bytes : goal.invariant-bytes
invariant-bytes l = (job : Job) → StandFor l.tables job → l.out.items ++ left_of job l.last (drop l.byte-index l.text) ≡ transliterated job l.text
