use Rattle.std.proofs.Common.{sym, subst}
use Rattle.hs_view.proofs.Acting.{acts_as, acts_memory}
use Rattle.util_common.specs.Operands.{refused}
use Rattle.util_common.specs.Words.{Blames}
use Rattle.util_common.specs.declared.words.WordErr.{WordErr}
use Rattle.util_common.proofs.words.refuse_words.Goals as goal

pub returns-in-Refused : goal.returns-in-Refused
returns-in-Refused g c = λ m b.
    let known = subst (λ (e : WordErr). Blames e c.args.utility.now m) c.in-Refused.is b in
    acts_as g.B.Base.seen (refused c.args.utility.now c.in-Refused.why) m c.args.view.now c.refuse.new.view c.refuse.result (λ u s. sym (known u)) c.refuse.ensures

pub returns-in-NoMemory : goal.returns-in-NoMemory
returns-in-NoMemory g c = λ m b. acts_memory g.B.Base.seen m c.args.view.now
