use Rattle.std.proofs.Common.{eqb}
use Rattle.util_text.proofs.Fields.{part_found, part_missing, any_found, any_missing}
use Rattle.util_text.proofs.part.split_field.Goals as goal

pub returns-in-Some-clause-field : goal.returns-in-Some-clause-field
returns-in-Some-clause-field c =
    part_found (λ b. eqb b c.args.delimiter) c.args.line.now c.split_at.result.0.now c.split_at-in-Some.result.1.now c.in-Some.at
    c.in-Some.ensures.0 c.in-Some.ensures.1 c.split_at.ensures.front c.split_at-in-Some.ensures.back

pub returns-in-Some-clause-found : goal.returns-in-Some-clause-found
returns-in-Some-clause-found c = any_found (λ b. eqb b c.args.delimiter) c.args.line.now c.in-Some.at c.in-Some.ensures.0 c.in-Some.ensures.1

pub returns-in-None-clause-field : goal.returns-in-None-clause-field
returns-in-None-clause-field c = part_missing (λ b. eqb b c.args.delimiter) c.args.line.now c.in-None.ensures

pub returns-in-None-clause-found : goal.returns-in-None-clause-found
returns-in-None-clause-found c = any_missing (λ b. eqb b c.args.delimiter) c.args.line.now c.in-None.ensures
