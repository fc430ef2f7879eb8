use Rattle.std.proofs.Common.{refl}
use Rattle.hs_view.proofs.Acting.{acts_as}
use Rattle.sh_sum.specs.Turns.{one_done}
use Rattle.sh_sum.proofs.Doing.{nameless_on, read_on, store_on}
use Rattle.sh_sum.proofs.turning.one.Goals as goal

pub returns-in-Read-clause-acts : goal.returns-in-Read-clause-acts
returns-in-Read-clause-acts g c =
    acts_as g.B.Base.seen _ (one_done c.args.instr.now c.args.values) c.args.view.now c.do_read.new.view c.do_read.result (λ u s. read_on c.args.instr.now _ _ c.args.values u c.in-Read.is) c.do_read.ensures.acts

pub returns-in-Store-clause-acts : goal.returns-in-Store-clause-acts
returns-in-Store-clause-acts g c =
    acts_as g.B.Base.seen _ (one_done c.args.instr.now c.args.values) c.args.view.now c.do_store.new.view c.do_store.result (λ u s. store_on c.args.instr.now _ _ _ c.args.values u c.in-Store.is) c.do_store.ensures.acts

pub returns-in-Number-clause-acts : goal.returns-in-Number-clause-acts
returns-in-Number-clause-acts g c =
    acts_as g.B.Base.seen _ (one_done c.args.instr.now c.args.values) c.args.view.now c.do_plain.new.view c.do_plain.result (λ u s. nameless_on c.args.instr.now _ c.args.values u c.in-Number.is refl) c.do_plain.ensures.acts

pub returns-in-Sign-clause-acts : goal.returns-in-Sign-clause-acts
returns-in-Sign-clause-acts g c =
    acts_as g.B.Base.seen _ (one_done c.args.instr.now c.args.values) c.args.view.now c.do_plain-in-Sign.new.view c.do_plain-in-Sign.result (λ u s. nameless_on c.args.instr.now _ c.args.values u c.in-Sign.is refl) c.do_plain-in-Sign.ensures.acts

pub returns-in-Math-clause-acts : goal.returns-in-Math-clause-acts
returns-in-Math-clause-acts g c =
    acts_as g.B.Base.seen _ (one_done c.args.instr.now c.args.values) c.args.view.now c.do_plain-in-Math.new.view c.do_plain-in-Math.result (λ u s. nameless_on c.args.instr.now _ c.args.values u c.in-Math.is refl) c.do_plain-in-Math.ensures.acts

pub returns-in-Begin-clause-acts : goal.returns-in-Begin-clause-acts
returns-in-Begin-clause-acts g c =
    acts_as g.B.Base.seen _ (one_done c.args.instr.now c.args.values) c.args.view.now c.do_plain-in-Begin.new.view c.do_plain-in-Begin.result (λ u s. nameless_on c.args.instr.now _ c.args.values u c.in-Begin.is refl) c.do_plain-in-Begin.ensures.acts

pub returns-in-Otherwise-clause-acts : goal.returns-in-Otherwise-clause-acts
returns-in-Otherwise-clause-acts g c =
    acts_as g.B.Base.seen _ (one_done c.args.instr.now c.args.values) c.args.view.now c.do_plain-in-Otherwise.new.view c.do_plain-in-Otherwise.result (λ u s. nameless_on c.args.instr.now _ c.args.values u c.in-Otherwise.is refl) c.do_plain-in-Otherwise.ensures.acts

pub returns-in-End-clause-acts : goal.returns-in-End-clause-acts
returns-in-End-clause-acts g c =
    acts_as g.B.Base.seen _ (one_done c.args.instr.now c.args.values) c.args.view.now c.do_plain-in-End.new.view c.do_plain-in-End.result (λ u s. nameless_on c.args.instr.now _ c.args.values u c.in-End.is refl) c.do_plain-in-End.ensures.acts
