use Rattle.std.proofs.Common.{refl}
use Rattle.std.specs.Prelude.{codes}
use Rattle.util_common.specs.Words.{words_of}
use Rattle.util_common.proofs.Refusing.{blamed}
use Rattle.util_text.specs.Teeing.{tee, tee_by, tee_options}
use Rattle.util_text.proofs.teeing.tee.Goals as goal

pub returns-in-Err : goal.returns-in-Err
returns-in-Err g c =
    c.refuse_words.ensures (tee c.args.args.now) (blamed tee_by (codes "tee") c.in-Err.err (words_of tee_options c.args.args.now) (λ why w. refl) c.in-Err.ensures)
