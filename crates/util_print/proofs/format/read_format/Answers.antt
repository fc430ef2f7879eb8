use Rattle.std.proofs.Common.{sym, ◌∙◌}
use Rattle.std.proofs.lemmas.List.{nil_from_length}
use Rattle.util_print.specs.Formats.{parts_behind}
use Rattle.util_print.proofs.Parsed.{part_bad, part_end, part_more, part_shorter, prefixed_none}
use Rattle.util_print.proofs.format.read_format.Goals as goal

pub parts-init : goal.parts-init
parts-init c = prefixed_none c.new-parts.result.items (parts_behind 0 c.args.format.now) c.new-parts.ensures.items

pub parts-preserved : goal.parts-preserved
parts-preserved c =
    let part = c.in-Some-part_at in
    part_more c.parts.parts.items c.push_part.new.parts.items c.parts.rest.now c.in-Some.behind.now c.behind_bytes-rest.result.now c.in-Some.first.now part.len part.part _
    c.in-Some.ensures.cases.0 (sym c.part_at.ensures ∙ part.is) c.in_ok-push_part.ensures c.behind_bytes-rest.ensures c.parts.invariant

pub parts-smaller : goal.parts-smaller
parts-smaller c = part_shorter c.parts.rest.now c.in-Some.behind.now c.behind_bytes-rest.result.now c.in-Some.first.now c.in-Some-part_at.len c.in-Some.ensures.cases.0 c.behind_bytes-rest.ensures

pub returns-in_default-part_at : goal.returns-in_default-part_at
returns-in_default-part_at c =
    part_bad c.parts.parts.items c.parts.rest.now c.in-Some.behind.now c.in-Some.first.now _ c.in-Some.ensures.cases.0 (sym c.part_at.ensures ∙ c.in_default-part_at.is) c.parts.invariant

pub returns : goal.returns
returns c = part_end c.parts.parts.items c.parts.rest.now _ (nil_from_length c.parts.rest.now c.in_default.ensures.cases) c.parts.invariant
