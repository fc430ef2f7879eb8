use Rattle.std.proofs.Common.{vec_len, arith}
use Rattle.util_print.proofs.Padded.{filled}
use Rattle.util_print.proofs.printing.fill.Goals as goal

pub returns-in-Some : goal.returns-in-Some
returns-in-Some c =
    let old = c.args.out.now in
    filled c.resize.result old.items c.resize.new.self.items c.in-Some.len c.args.count (vec_len old) c.args.byte (omega (arith, c.in-Some.ensures, c.len.ensures)) (omega (arith, old.ok.0)) c.resize.ensures.items
