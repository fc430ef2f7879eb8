use Rattle.std.proofs.Common.{ap}
use Rattle.hs_view.proofs.Acting.{acts_as, acts_memory_on}
use Rattle.util_lines.specs.Selecting.{files_searched, search_of}
use Rattle.util_lines.specs.declared.fixed_lines.Search.{Search}
use Rattle.util_lines.proofs.selecting.search_for.Goals as goal

pub returns-in_err-search : goal.returns-in_err-search
returns-in_err-search g c = acts_memory_on g.B.Base.seen (files_searched (search_of c.args.flags c.args.patterns.now) c.args.files.now) c.args.view.now _ c.from_residual.ensures.0 c.from_residual.ensures.1

pub returns : goal.returns
returns g c =
    acts_as g.B.Base.seen (files_searched c.in_ok-search.search c.args.files.now) (files_searched (search_of c.args.flags c.args.patterns.now) c.args.files.now) c.args.view.now c.search_files.new.view c.search_files.result
    (λ u s. ap (λ (x : Search). files_searched x c.args.files.now u) c.in_ok-search.ensures) c.search_files.ensures
