use Rattle.util_text.proofs.Pieces.{pieces_found, pieces_missing}
use Rattle.util_text.proofs.line.line_len.Goals as goal

pub returns-in-Some-clause-line : goal.returns-in-Some-clause-line
returns-in-Some-clause-line c = λ h. pieces_found c.args.text.now c.in-Some.at c.in-Some.ensures.0 c.in-Some.ensures.1

pub returns-in-None-clause-line : goal.returns-in-None-clause-line
returns-in-None-clause-line c = λ h. pieces_missing c.args.text.now c.in-None.ensures h
