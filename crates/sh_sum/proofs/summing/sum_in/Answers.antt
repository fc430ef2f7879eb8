use Rattle.std.proofs.Common.{[], Err, ap, subst, ◌∙◌}
use Rattle.std.specs.Prelude.{Option}
use Rattle.hs_view.proofs.Acting.{acts_answer, acts_as, acts_memory}
use Rattle.sh_arith.specs.declared.reading.ReadErr.{ReadErr}
use Rattle.sh_arith.specs.Compiled.{Reads}
use Rattle.sh_arith.specs.Exec.{going}
use Rattle.sh_arith.specs.Grammar.{Tree}
use Rattle.sh_arith.proofs.Trees.{no-tree, read-tree, trees-spelled}
use Rattle.sh_sum.specs.Sums.{sum_done, sum_of}
use Rattle.sh_sum.specs.Turns.{rest_done}
use Rattle.sh_sum.specs.declared.sum.Sum.TheVariants.{Bad}
use Rattle.sh_sum.proofs.Stepping.{sum_is}
use Rattle.sh_sum.proofs.summing.sum_in.Goals as goal

pub returns-in-Ok : goal.returns-in-Ok
returns-in-Ok g c =
    let code = c.as_slice.result.now in
    let text = c.args.text.now in
    let k = c.in-Ok.ensures in
    record {
      acts = acts_as g.B.Base.seen (rest_done code (going [])) (sum_done text) c.args.view.now c.run_all.new.view c.run_all.result (λ u s. sum_is text code k.tree u (read-tree c.in-Ok.code text k) (c.as_slice.ensures ∙ k.same)) c.run_all.ensures;
      trees = trees-spelled;
    }

pub returns-in-Err-Bad : goal.returns-in-Err-Bad
returns-in-Err-Bad g c =
    let text = c.args.text.now in
    let n = subst (λ (x : ReadErr). Reads (Err x) text) c.in-Err-Bad.field-0-is c.in-Err-Bad.ensures in
    record {
      acts = acts_answer g.B.Base.seen (sum_done text) c.args.view.now Bad (λ u s. ap (λ (o : Option Tree). sum_of o u) (no-tree _ text n));
      trees = trees-spelled;
    }

pub returns-in-Err-Memory : goal.returns-in-Err-Memory
returns-in-Err-Memory g c = record { acts = acts_memory g.B.Base.seen (sum_done c.args.text.now) c.args.view.now; trees = trees-spelled }
