use Rattle.std.proofs.Common.{◌≡◌, ◌+◌, ◌<◌, ◌^◌, drop}
use Rattle.hs_view.specs.Size.{capped, texts_size}
use Rattle.hs_view.proofs.size.texts_size.Given as goal

abbrev pub invariant-loop-text : goal.invariant-loop-text
invariant-loop-text l = record {
  sum : capped (l.size + texts_size (drop l.text-index l.texts)) ≡ capped (texts_size l.texts);
  fits : l.size < 2 ^ 128;
}
