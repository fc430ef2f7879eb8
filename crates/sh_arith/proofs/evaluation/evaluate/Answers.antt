use Rattle.std.proofs.Common.{Err, refl, subst}
use Rattle.sh_arith.specs.declared.reading.ReadErr.{ReadErr}
use Rattle.sh_arith.specs.Answers.{seen_by, no_memory}
use Rattle.sh_arith.specs.Compiled.{Reads}
use Rattle.sh_arith.proofs.Ends.{read_error, evaluated_code}
use Rattle.sh_arith.proofs.evaluation.evaluate.Goals as goal

pub returns-in-Ok : goal.returns-in-Ok
returns-in-Ok g c =
    let seen = seen_by g.N.Names.agrees g.N.Names.get_halts g.N.Names.unmade_halts g.N.Names.made_halts in
    evaluated_code seen c.args.text.now c.in-Ok.code c.as_slice.result.now c.run_all.result c.args.names.now c.run_all.new.names c.as_slice.ensures c.in-Ok.ensures c.run_all.ensures.says c.run_all.ensures.caused

pub returns-in-Err-Bad : goal.returns-in-Err-Bad
returns-in-Err-Bad g c =
    let seen = seen_by g.N.Names.agrees g.N.Names.get_halts g.N.Names.unmade_halts g.N.Names.made_halts in
    let e = subst (λ (x : ReadErr). Reads (Err x) c.args.text.now) c.in-Err-Bad.field-0-is c.in-Err-Bad.ensures in
    rw c.in-Err-Bad.place-is (read_error seen c.args.text.now c.in-Err-Bad.place c.args.names.now e)

pub returns-in-Err-Memory : goal.returns-in-Err-Memory
returns-in-Err-Memory g c = no_memory refl
