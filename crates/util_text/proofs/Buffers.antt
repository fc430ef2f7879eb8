-- Bytes that stay in front.
use Rattle.std.proofs.Common.{◌≡◌, ℕ, ◌≤◌, min, List, ◌++◌, length, take, sym, ◌∙◌, ap, arith, length-take}
use Rattle.std.proofs.lemmas.List.{take_all, take-take, take-append-le}
use Rattle.util_text.specs.Buffer.{Keeps}

within : (old out : List ℕ) → Keeps old out → length old ≤ length out
within old out kept = omega (arith, length-take (length old) out, ap (λ (u : List ℕ). length u) kept)

pub keeps_self : (old : List ℕ) → Keeps old old
keeps_self old = take_all (length old) old (omega arith)

pub keeps_more : (old out more : List ℕ) → Keeps old out → Keeps old (out ++ more)
keeps_more old out more kept = take-append-le (length old) out more (within old out kept) ∙ kept

pub keeps_then : (old out new : List ℕ) → Keeps old out → Keeps out new → Keeps old new
keeps_then old out new kept more =
    sym (take-take (length old) (length out) new (within old out kept)) ∙ ap (λ (u : List ℕ). take (length old) u) more ∙ kept

pub keeps_written : (old out more new : List ℕ) → Keeps old out → new ≡ out ++ more → Keeps old new
keeps_written old out more new kept written = ap (λ (u : List ℕ). take (length old) u) written ∙ keeps_more old out more kept
