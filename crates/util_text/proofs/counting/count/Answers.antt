use Rattle.std.proofs.Common.{drop, arith}
use Rattle.std.proofs.lemmas.List.{drop_all}
use Rattle.util_text.proofs.Words.{counts-done}
use Rattle.util_text.proofs.counting.count.Goals as goal

pub returns : goal.returns
returns c =
    let text = c.args.text.now in
    counts-done text (drop c.bytes.byte-index text) c.bytes.lines c.bytes.words c.bytes.inside (drop_all c.bytes.byte-index text (omega arith))
    c.bytes.invariant.lines c.bytes.invariant.words
