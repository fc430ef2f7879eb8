use Rattle.std.proofs.Common.{[], false, sym, ◌∙◌}
use Rattle.hs_view.proofs.Acting.{acts_as}
use Rattle.util_common.specs.Operands.{or_input}
use Rattle.util_lines.specs.Selecting.{found_by, is_several, words_searched}
use Rattle.util_lines.proofs.Searched.{no_files, some_files}
use Rattle.util_lines.proofs.selecting.search_or_input.Goals as goal

pub returns-then-is_empty : goal.returns-then-is_empty
returns-then-is_empty g c =
    acts_as g.B.Base.seen (words_searched c.args.search.now false (found_by false false) (or_input [])) (words_searched c.args.search.now (is_several c.args.files.now) (found_by false false) (or_input c.args.files.now))
    c.args.view.now c.search_input.new.view c.search_input.result (λ u s. no_files c.args.search.now c.args.files.now u (sym c.is_empty.ensures ∙ c.if-is_empty.true)) c.search_input.ensures

pub returns : goal.returns
returns g c =
    acts_as g.B.Base.seen (words_searched c.args.search.now c.is_several.result (found_by false false) c.args.files.now) (words_searched c.args.search.now (is_several c.args.files.now) (found_by false false) (or_input c.args.files.now))
    c.args.view.now c.search_words.new.view c.search_words.result (λ u s. some_files c.args.search.now c.args.files.now c.is_several.result u (sym c.is_empty.ensures ∙ c.if-is_empty.false) c.is_several.ensures) c.search_words.ensures
