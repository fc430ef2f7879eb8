-- Parts of parts.
use Rattle.std.proofs.Common.{◌≡◌, ℕ, ◌+◌, ◌-◌, ◌≤◌, List, length, take, drop, sym, ap, ◌∙◌, arith}
use Rattle.std.specs.Prelude.{Option, None, Some}
use Rattle.std.proofs.lemmas.List.{drop-drop, drop-take, length-drop, length-take-le, take-take}
use Rattle.hs_text.specs.Blocks.{end_of, part_of, start_of}
use Rattle.hs_text.specs.declared.block.Part.{Part}

part_of_part : (from len m s : ℕ) (items : List ℕ) → from + len ≤ m → take len (drop from (take m (drop s items))) ≡ take len (drop (s + from) items)
part_of_part from len m s items h =
    let e : m ≡ from + (m - from) = omega arith in
    ap (λ (n : ℕ). take len (drop from (take n (drop s items)))) e
    ∙ ap (take len) (drop-take from (m - from) (drop s items))
    ∙ take-take len (m - from) (drop from (drop s items)) (omega arith)
    ∙ ap (take len) (drop-drop from s items)

pub shared_part : (part : Option Part) (items : List ℕ) (start from len : ℕ) → start ≡ start_of part + from → end_of part ≤ length items → from + len ≤ length (part_of part items)
    → take len (drop start items) ≡ take len (drop from (part_of part items))
shared_part None items start from len e w h = ap (λ (n : ℕ). take len (drop n items)) (omega (arith, e))
shared_part (Some part) items start from len e w h =
    let whole : length (take part.len (drop part.start items)) ≡ part.len = length-take-le part.len (drop part.start items) (omega (arith, length-drop part.start items, w)) in
    ap (λ (n : ℕ). take len (drop n items)) e ∙ sym (part_of_part from len part.len part.start items (omega (arith, whole, h)))
