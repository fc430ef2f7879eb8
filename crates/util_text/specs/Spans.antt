-- Ranges of places as counts: the greatest count is no end, since no line has so many bytes.
use Rattle.std.specs.Prelude.{◌≡◌, ℕ, ◌-◌, ◌^◌, ◌≤◌, min, Bool, true, ◌&&◌, nat_le, nat_lt, List, [], ◌∷◌, Option, None, Some}
use Rattle.std.specs.List.{list_any}
use Rattle.util_text.specs.declared.places.Span.{Span}
use Rattle.util_text.specs.Places.{Range}

abbrev pub end_of : Option ℕ → ℕ
end_of None = 2 ^ 64 - 1
end_of (Some n) = min n (2 ^ 64 - 1)

abbrev pub span_of : Range → Span
span_of r = record { low = min r.low (2 ^ 64 - 1); high = end_of r.high }

abbrev pub in_span : Span → ℕ → Bool
in_span s place = nat_le s.low place && nat_le place s.high

abbrev pub in_spans : List Span → ℕ → Bool
in_spans spans place = list_any (λ s. in_span s place) spans

-- each has a place, and they stand in order behind this place, each behind the one before it
abbrev pub is_apart : ℕ → List Span → Bool
is_apart behind [] = true
is_apart behind (s ∷ more) = nat_lt behind s.low && (nat_le s.low s.high && is_apart s.high more)

-- their first places do not fall, and none stands before this place
abbrev pub Ascend : ℕ → List Span → Type 0
Ascend least [] = Unit {0}
Ascend least (s ∷ more) = (least ≤ s.low) × Ascend s.low more

-- in order, each behind the one before it, and none ends before this place
abbrev pub Reach : ℕ → List Span → Type 0
Reach place [] = Unit {0}
Reach place (s ∷ more) = (place ≤ s.high) × (s.low ≤ s.high) × (is_apart s.high more ≡ true)
