use Rattle.std.proofs.Common.{ℕ, false, sym, subst}
use Rattle.std.specs.Prelude.{Ok}
use Rattle.hs_view.specs.Acts.{Acts}
use Rattle.hs_view.proofs.Acting.{acts_answering, acts_answering_halt, acts_on}
use Rattle.util_common.specs.Operands.{or_input}
use Rattle.util_lines.specs.Selecting.{files_searched, found_by, is_several, status_of, words_searched}
use Rattle.util_lines.proofs.selecting.search_files.Goals as goal

pub returns-in_err-found : goal.returns-in_err-found
returns-in_err-found g c =
    let search = c.args.search.now in
    let files = c.args.files.now in
    let h = c.in_err-found.field-0.0 in
    let next = c.search_or_input.new.view in
    acts_on g.B.Base.seen (files_searched search files) c.args.view.now next h _ c.from_residual.ensures.0 c.from_residual.ensures.1
    (acts_answering_halt g.B.Base.seen (status_of search.flags.quiet) (words_searched search (is_several files) (found_by false false) (or_input files)) c.args.view.now next h c.in_err-found.ensures)

pub returns : goal.returns
returns g c =
    let search = c.args.search.now in
    let files = c.args.files.now in
    let next = c.search_or_input.new.view in
    subst (λ (n : ℕ). Acts g.B.Base.seen (files_searched search files) c.args.view.now next (Ok n)) (sym c.status.ensures)
    (acts_answering g.B.Base.seen (status_of search.flags.quiet) (words_searched search (is_several files) (found_by false false) (or_input files)) c.args.view.now next c.in_ok-found.found c.in_ok-found.ensures)
