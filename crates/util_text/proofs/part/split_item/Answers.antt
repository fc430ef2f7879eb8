use Rattle.util_text.specs.Places.{is_separator}
use Rattle.util_text.proofs.Fields.{part_found, part_missing}
use Rattle.util_text.proofs.part.split_item.Goals as goal

pub returns-in-Some-clause-item : goal.returns-in-Some-clause-item
returns-in-Some-clause-item c =
    part_found (λ b. is_separator b) c.args.list.now c.split_at.result.0.now c.split_at-in-Some.result.1.now c.in-Some.at
    c.in-Some.ensures.0 c.in-Some.ensures.1 c.split_at.ensures.front c.split_at-in-Some.ensures.back

pub returns-in-None-clause-item : goal.returns-in-None-clause-item
returns-in-None-clause-item c = part_missing (λ b. is_separator b) c.args.list.now c.in-None.ensures
