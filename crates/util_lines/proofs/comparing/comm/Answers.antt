use Rattle.std.proofs.Common.{refl}
use Rattle.std.specs.Prelude.{codes}
use Rattle.util_common.specs.Words.{words_of}
use Rattle.util_common.proofs.Refusing.{blamed}
use Rattle.util_lines.specs.Comparing.{comm_by, comm_command, comm_options}
use Rattle.util_lines.proofs.comparing.comm.Goals as goal

pub returns-in-Err : goal.returns-in-Err
returns-in-Err g c =
    c.refuse_words.ensures (comm_command c.args.args.now) (blamed comm_by (codes "comm") c.in-Err.err (words_of comm_options c.args.args.now) (λ why w. refl) c.in-Err.ensures)
