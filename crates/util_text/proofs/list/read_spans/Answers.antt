use Rattle.std.proofs.Common.{sym, ◌∙◌, ap}
use Rattle.std.specs.Prelude.{option_copied}
use Rattle.util_text.specs.Parts.{parts}
use Rattle.util_text.specs.Places.{is_separator, list_of}
use Rattle.util_text.proofs.Ranges.{all_of-spans, spans-none, spans-done, ranges-none}
use Rattle.util_text.proofs.list.read_spans.Goals as goal

pub returns-in-None-clause-fault : goal.returns-in-None-clause-fault
returns-in-None-clause-fault c =
    let word = c.args.word.now in
    ranges-none (list_of word)
    (sym (all_of-spans (parts (λ b. is_separator b) word))
    ∙ spans-none (λ b. is_separator b) word c.in-Some.list.now c.split_item.result.0.now (option_copied c.items.rest) (option_copied c.split_item.result.1)
    c.items.spans.items c.items.invariant (ap option_copied c.in-Some.is) c.split_item.ensures.item c.in-None.ensures)

pub returns-clause-ok : goal.returns-clause-ok
returns-clause-ok c =
    let word = c.args.word.now in
    sym (all_of-spans (parts (λ b. is_separator b) word))
    ∙ c.items.invariant
    ∙ spans-done (λ b. is_separator b) (option_copied c.items.rest) c.items.spans.items (ap option_copied c.in_default.is)
