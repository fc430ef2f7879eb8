use Rattle.std.proofs.Common.{◌≡◌, ◌||◌, ◌++◌}
use Rattle.std.proofs.lemmas.Result.{on_ok_weaker}
use Rattle.util_text.specs.Wc.{shown, written}
use Rattle.util_text.proofs.Lined.{written-done}
use Rattle.util_text.proofs.chosen.write_chosen.Goals as goal

pub returns-clause-ok : goal.returns-clause-ok
returns-clause-ok c =
    let old = c.args.out.now.items in
    let two = c.write_count-2.new.out.items in
    let new = c.write_count-3.new.out.items in
    let chosen = c.args.chosen.now in
    let counts = c.args.counts.now in
    let done : new ≡ two ++ shown (chosen.lines || chosen.words) chosen.bytes counts.bytes → new ≡ old ++ written chosen counts =
    λ third. written-done old c.write_count.new.out.items two new chosen counts c.in_ok-write_count.ensures.ok c.in_ok-write_count-2.ensures.ok third in
    on_ok_weaker c.write_count-3.result done c.write_count-3.ensures.ok
