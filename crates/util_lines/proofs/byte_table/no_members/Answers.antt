use Rattle.std.proofs.Common.{false}
use Rattle.std.proofs.lemmas.List.{get_or-replicate}
use Rattle.util_lines.proofs.byte_table.no_members.Goals as goal

pub returns : goal.returns
returns c b l = get_or-replicate 256 b false false l
