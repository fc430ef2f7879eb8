-- What calls of the code say while they read the body of a here-document.
use Rattle.std.specs.Prelude.{◌≡◌, ◌<◌, ℕ, Bool, true, false, List, [], ◌∷◌, ◌++◌, length, Option, Some, None, Result, Ok, Err}
use Rattle.std.specs.Borrow.{Bor}
use Rattle.sh_lexer.specs.declared.read.LexError.{LexError}
use Rattle.sh_lexer.specs.declared.read.LexError.TheVariants as error
use Rattle.sh_lexer.specs.declared.token.Here.{Here}
use Rattle.sh_lexer.specs.declared.body.Front.{Front}
use Rattle.sh_lexer.specs.declared.body.Front.TheVariants as front
use Rattle.sh_lexer.specs.Cut.{body_of, line_ends, pair}

-- what stands at the front of what is left of a body, after a part of a line
abbrev pub IsFront : Front → Here → List ℕ → List ℕ → Type 0
IsFront front.Finish h line t = t ≡ []
IsFront (front.Newline r) h line t = (body : List ℕ) → body_of h body line t ≡ line_ends h body line r.now (body_of h (body ++ line ++ 10 ∷ []) [] r.now)
IsFront (front.Skip r) h line t = (body : List ℕ) → body_of h body line t ≡ body_of h body line r.now
IsFront (front.Pair b r) h line t = (body : List ℕ) → body_of h body line t ≡ body_of h body (line ++ pair 92 b) r.now
IsFront (front.Byte b r) h line t = (body : List ℕ) → body_of h body line t ≡ body_of h body (line ++ b ∷ []) r.now

-- Whether the line before the end of the text is the delimiter.
abbrev pub EndsBody : Bool → Here → List ℕ → Type 0
EndsBody true h line = (body : List ℕ) → body_of h body line [] ≡ Some (body, [])
EndsBody false h line = (body : List ℕ) → body_of h body line [] ≡ None

-- It leaves less.
abbrev pub Passes : Front → List ℕ → Type 0
Passes front.Finish t = Unit {0}
Passes (front.Newline r) t = length r.now < length t
Passes (front.Skip r) t = length r.now < length t
Passes (front.Pair b r) t = length r.now < length t
Passes (front.Byte b r) t = length r.now < length t

-- a body, and the text after the line that ends it
abbrev pub IsBody : Result (Option (List ℕ × Bor (List ℕ))) LexError → Option (List ℕ × List ℕ) → Type 0
IsBody (Ok (Some p)) l = l ≡ Some (p.0, p.1.now)
IsBody (Ok None) l = l ≡ None
IsBody (Err error.Memory) l = Unit {0}
IsBody (Err error.End) l = ⊥
IsBody (Err (error.Bad f)) l = ⊥
