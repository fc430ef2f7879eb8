use Rattle.std.proofs.Common.{Bool, List, ℕ, sym, ap, ◌∙◌}
use Rattle.std.specs.Prelude.{Ok, codes}
use Rattle.hs_view.proofs.Acting.{acts_as}
use Rattle.util_common.specs.Operands.{refused}
use Rattle.util_common.specs.declared.messages.Why.TheVariants.{OnlyFixed}
use Rattle.util_lines.specs.Selecting.{flags_by, grep_by, grep_of, operands_searched}
use Rattle.util_lines.specs.declared.fixed_lines.Flags.{Flags}
use Rattle.util_lines.proofs.selecting.grep_words.Goals as goal

pub returns-then-not-fixed : goal.returns-then-not-fixed
returns-then-not-fixed g c =
    let words = c.args.words in
    acts_as g.B.Base.seen (refused (codes "grep") OnlyFixed) (grep_by (Ok words)) c.args.view.now c.refuse.new.view c.refuse.result
    (λ u s. ap (λ (b : Bool). grep_of b (flags_by words.given) words.operands u) (sym c.if-not-fixed.true ∙ c.is_given-fixed.ensures)) c.refuse.ensures

pub returns : goal.returns
returns g c =
    let words = c.args.words in
    acts_as g.B.Base.seen (operands_searched c.flags_by-flags.result c.as_slice.result.now) (grep_by (Ok words)) c.args.view.now c.search_operands.new.view c.search_operands.result
    (λ u s.
    ap (λ (f : Flags). operands_searched f c.as_slice.result.now u) c.flags_by-flags.ensures
    ∙ ap (λ (o : List (List ℕ)). operands_searched (flags_by words.given) o u) c.as_slice.ensures
    ∙ ap (λ (b : Bool). grep_of b (flags_by words.given) words.operands u) (sym c.if-not-fixed.false ∙ c.is_given-fixed.ensures)) c.search_operands.ensures
