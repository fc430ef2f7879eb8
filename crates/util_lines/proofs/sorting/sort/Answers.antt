use Rattle.std.proofs.Common.{refl}
use Rattle.std.specs.Prelude.{codes}
use Rattle.util_common.specs.Words.{words_of}
use Rattle.util_common.proofs.Refusing.{blamed}
use Rattle.util_lines.specs.Sorting.{sort_by, sort_command, sort_options}
use Rattle.util_lines.proofs.sorting.sort.Goals as goal

pub returns-in-Err : goal.returns-in-Err
returns-in-Err g c =
    c.refuse_words.ensures (sort_command c.args.args.now) (blamed sort_by (codes "sort") c.in-Err.err (words_of sort_options c.args.args.now) (λ why w. refl) c.in-Err.ensures)
