use Rattle.util_text.specs.declared.ends.Ends.TheVariants.{Last, From}
use Rattle.util_text.proofs.Signs.{ends-plus, ends-minus, ends-plain}
use Rattle.util_text.proofs.ends.read_ends.Goals as goal

pub returns-in_ok-read_count-in-Some-clause-ok : goal.returns-in_ok-read_count-in-Some-clause-ok
returns-in_ok-read_count-in-Some-clause-ok c =
    let read = c.in_ok-read_count-in-Some.ensures.ok in
    let plus = c.in-Some.ensures in
    (From read.0, ends-plus c.args.word.now c.in-Some.number.now read.0 plus.0 plus.1 read.1, read.2)

pub returns-in_ok-read_count-in-Some-behind-clause-ok : goal.returns-in_ok-read_count-in-Some-behind-clause-ok
returns-in_ok-read_count-in-Some-behind-clause-ok c =
    let read = c.in_ok-read_count-in-Some-behind.ensures.ok in
    let minus = c.in-Some-behind.ensures in
    (Last read.0, ends-minus c.args.word.now c.in-Some-behind.number.now read.0 c.in-None.ensures minus.0 minus.1 read.1, read.2)

pub returns-in_ok-read_count-in-None-behind-clause-ok : goal.returns-in_ok-read_count-in-None-behind-clause-ok
returns-in_ok-read_count-in-None-behind-clause-ok c =
    let read = c.in_ok-read_count-in-None-behind.ensures.ok in
    (Last read.0, ends-plain c.args.word.now read.0 c.in-None.ensures c.in-None-behind.ensures read.1, read.2)
