use Rattle.std.proofs.Common.{sym, ◌∙◌, arith}
use Rattle.util_lines.proofs.Plain.{both_ok, plain}
use Rattle.util_lines.proofs.transliterating.transliterate.Goals as goal

pub returns : goal.returns
returns c =
    both_ok c.translate.result _ _ _
    (λ out e fits job stands. plain c.args.tables.now job c.args.text.now out.items stands (sym c.has_members.ensures ∙ c.if-has_members.false) (sym c.has_members-else-has_members.ensures ∙ c.if-has_members-2.false) (λ i. omega (arith, c.type_inv.text i)) fits e)
    c.translate.ensures.images c.translate.ensures.bytes
