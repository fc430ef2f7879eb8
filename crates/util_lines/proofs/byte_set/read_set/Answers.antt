use Rattle.util_lines.specs.ByteSet.{set_of}
use Rattle.util_lines.proofs.ByteSets.{element_read}
use Rattle.util_lines.proofs.byte_set.read_set.Goals as goal

pub elements-preserved : goal.elements-preserved
elements-preserved c =
    let (bytes, is, put) = c.in_ok-push_element.ensures.ok in
    element_read (set_of c.args.word.now) c.elements.set.items c.push_element.new.out.items bytes c.elements.rest.now c.in-Some.after.now c.split_at.result.1.now c.in-Some.first.now
    c.at-element.result.0 c.at-element.result.1 c.elements.invariant c.in-Some.ensures.cases.0 c.at-element.ensures.element is put c.split_at.ensures.back
