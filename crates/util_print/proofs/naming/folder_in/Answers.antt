use Rattle.std.proofs.Common.{ap, ◌∙◌}
use Rattle.util_print.specs.Naming.{or_slash, without_slashes}
use Rattle.util_print.proofs.Named.{folder_found, folder_missing, long}
use Rattle.util_print.proofs.naming.folder_in.Goals as goal

pub returns-in-Some : goal.returns-in-Some
returns-in-Some c =
    c.or_slash.ensures
    ∙ ap or_slash (c.without_slashes.ensures ∙ ap without_slashes c.split_at.ensures.front)
    ∙ folder_found c.args.path.now c.in-Some.at c.in-Some.ensures.0 c.in-Some.ensures.1

pub returns-in-None : goal.returns-in-None
returns-in-None c = folder_missing c.args.path.now (long c.args.path.now c.is_empty.result c.is_empty.ensures c.if-is_empty.false) c.in-None.ensures
