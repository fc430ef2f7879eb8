-- What a selection selects.
use Rattle.std.specs.Prelude.{◌≡◌, ℕ, ◌^◌, ◌<◌, ◌≤◌, List}
use Rattle.util_text.specs.declared.places.Selection.{Selection}
use Rattle.util_text.specs.declared.places.Span.{Span}
use Rattle.util_text.specs.Places.{Range, selects}
use Rattle.util_text.specs.Spans.{in_spans}

-- its places, as spans in order
abbrev pub shown : Selection → List Span
shown selection = selection.spans.items

-- It has the places of these ranges; no line has a byte or a field past the place 2 ^ 63.
abbrev pub Selects : Selection → List Range → Type 0
Selects selection ranges = (place : ℕ) → 0 < place → place ≤ 2 ^ 63 → in_spans (shown selection) place ≡ selects ranges place
