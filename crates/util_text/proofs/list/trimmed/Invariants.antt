use Rattle.std.proofs.Common.{◌≡◌, ◌++◌, drop}
use Rattle.util_text.proofs.Trims.{trim}
use Rattle.util_text.proofs.list.trimmed.Given as goal

abbrev pub invariant-spans : goal.invariant-spans
invariant-spans l = trim 0 l.spans ≡ l.kept.items ++ trim l.end (drop l.span-index l.spans)
