use Rattle.std.proofs.Common.{refl}
use Rattle.std.specs.Prelude.{codes}
use Rattle.util_common.specs.Words.{words_of}
use Rattle.util_common.proofs.Refusing.{blamed}
use Rattle.util_lines.specs.Uniquing.{uniq_by, uniq_command, uniq_options}
use Rattle.util_lines.proofs.uniquing.uniq.Goals as goal

pub returns-in-Err : goal.returns-in-Err
returns-in-Err g c =
    c.refuse_words.ensures (uniq_command c.args.args.now) (blamed uniq_by (codes "uniq") c.in-Err.err (words_of uniq_options c.args.args.now) (λ why w. refl) c.in-Err.ensures)
