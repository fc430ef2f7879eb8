use Rattle.std.proofs.Common.{◌≡◌, ℕ, [], ◌∷◌, ◌++◌, arith}
use Rattle.std.proofs.lemmas.Result.{on_ok_weaker}
use Rattle.util_text.specs.Count.{StandsFor}
use Rattle.util_text.specs.Fold.{fold_line}
use Rattle.util_text.proofs.Buffers.{keeps_written}
use Rattle.util_text.proofs.Folds.{fold-step, fold-done}
use Rattle.util_text.proofs.folding.fold_line.Goals as goal

pub cuts-preserved : goal.cuts-preserved
cuts-preserved c =
    let old = c.args.out.now.items in
    let out = c.cuts.out.items in
    let new = c.write_line.new.out.items in
    let part = c.split_at.result.0.now in
    let more = c.split_at.result.1.now in
    record {
      kept = keeps_written old out (part ++ 10 ∷ []) new c.cuts.invariant.kept c.in_ok-write_line.ensures.ok;
      written = fold-step c.args.width out new (old ++ fold_line c.args.width c.args.line.now) c.cuts.rest.now part more c.requires c.cuts-test.true
          c.split_at.ensures.front c.split_at.ensures.back c.cuts.invariant.written c.in_ok-write_line.ensures.ok;
    }

pub returns-clause-ok : goal.returns-clause-ok
returns-clause-ok c =
    let old = c.args.out.now.items in
    let out = c.cuts.out.items in
    let new = c.write_line-2.new.out.items in
    let done : new ≡ out ++ (c.cuts.rest.now ++ 10 ∷ []) → (n : ℕ) → StandsFor c.args.width n → new ≡ old ++ fold_line n c.args.line.now =
    λ written n stands. fold-done c.args.width n out new old c.cuts.rest.now c.args.line.now (omega arith) (omega arith) stands c.cuts.invariant.written written in
    on_ok_weaker c.write_line-2.result done c.write_line-2.ensures.ok
