use Rattle.std.specs.Prelude.{None}
use Rattle.std.proofs.lemmas.List.{get_or-replicate}
use Rattle.util_lines.proofs.byte_table.no_images.Goals as goal

pub returns : goal.returns
returns c b l = get_or-replicate 256 b None None l
