use Rattle.util_text.proofs.Headed.{headed, not_first}
use Rattle.util_text.proofs.heading.HeadsFilter.filter.Goals as goal

pub returns-clause-text : goal.returns-clause-text
returns-clause-text c = λ text before h.
    headed c.args.self.now text before c.args.word.now c.args.content c.as_slice.result.now c.in_ok-out.out c.first_lines.result.now h c.in_ok-out.ensures c.first_lines.ensures c.as_slice.ensures

pub returns-clause-behind : goal.returns-clause-behind
returns-clause-behind c = λ text before h. record { exact = h.exact; stands = h.stands; is = h.is; first = not_first before c.args.content }
