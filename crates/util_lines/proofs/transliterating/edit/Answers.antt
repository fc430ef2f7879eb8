use Rattle.std.proofs.Common.{◌+◌, drop, get_or, refl, arith}
use Rattle.std.proofs.lemmas.List.{drop_all}
use Rattle.util_lines.specs.Transliterate.{transliterated}
use Rattle.util_lines.proofs.Hand.{at_hand}
use Rattle.util_lines.proofs.Squeezed.{all_done, byte_done}
use Rattle.util_lines.proofs.transliterating.edit.Goals as goal

pub bytes-preserved : goal.bytes-preserved
bytes-preserved c = λ job s.
    let text = c.args.text.now in
    let i = c.bytes.byte-index in
    byte_done job c.bytes.last c.put_for-image.result c.or-last.result (get_or text i 0) (drop i text) (drop (i + 1) text) c.bytes.out.items c.push_some.new.out.items (transliterated job text)
    (at_hand text i (get_or text i 0) c.bytes-test.true refl) (c.put_for-image.ensures job s) c.or-last.ensures c.in_ok-push_some.ensures (c.bytes.invariant job s)

pub returns : goal.returns
returns c = λ job s.
    all_done job c.bytes.last (drop c.bytes.byte-index c.args.text.now) c.bytes.out.items (transliterated job c.args.text.now) (drop_all c.bytes.byte-index c.args.text.now (omega (arith, c.bytes-test.false))) (c.bytes.invariant job s)
