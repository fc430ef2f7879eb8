use Rattle.hs_main.proofs.Tops.{parsed-of}
use Rattle.hs_main.proofs.top.parsed.Goals as goal

pub returns : goal.returns
returns c = parsed-of _ _ c.parse.ensures.too_long c.parse.ensures.answers
