-- What calls of the code say.
use Rattle.std.specs.Prelude.{◌≡◌, ℕ, Bool, true, List, Option, Some, None, Result, Ok, Err}
use Rattle.std.specs.Borrow.{Bor}
use Rattle.std.specs.declared.alloc.AllocError.{AllocError}
use Rattle.sh_lexer.specs.declared.read.LexError.{LexError}
use Rattle.sh_lexer.specs.declared.read.LexError.TheVariants as error
use Rattle.sh_lexer.specs.declared.read.Read.{Read}
use Rattle.sh_lexer.specs.declared.read.Read.TheVariants as read
use Rattle.sh_lexer.specs.Cut.{Delimited, delimited, not_delimited, in_delimiter}
use Rattle.sh_lexer.specs.Lex.{Lexed, got, opens, done, bad}

-- the next token, unless memory runs out
abbrev pub Gives : Result Read LexError → Lexed → Type 0
Gives (Ok (read.Token t r)) l = l ≡ got t r.now
Gives (Ok (read.Cut t x (Some r))) l = l ≡ opens t x (Some r.now)
Gives (Ok (read.Cut t x None)) l = l ≡ opens t x None
Gives (Err error.Memory) l = Unit {0}
Gives (Err error.End) l = l ≡ done
Gives (Err (error.Bad f)) l = l ≡ bad f

-- bytes, and the text after them
abbrev pub IsPair : Result (List ℕ × Bor (List ℕ)) AllocError → List ℕ × List ℕ → Type 0
IsPair (Ok p) l = (p.0, p.1.now) ≡ l
IsPair (Err e) l = Unit {0}

abbrev pub IsSingle : Result (Option (List ℕ × Bor (List ℕ))) AllocError → Option (List ℕ × List ℕ) → Type 0
IsSingle (Ok (Some p)) l = l ≡ Some (p.0, p.1.now)
IsSingle (Ok None) l = l ≡ None
IsSingle (Err e) l = Unit {0}

-- what stands in backquotes, and the text after it, where it ends
abbrev pub Cuts : List ℕ → Option (Bor (List ℕ)) → List ℕ × Option (List ℕ) → Type 0
Cuts x (Some r) l = l ≡ (x, Some r.now)
Cuts x None l = l ≡ (x, None)

abbrev pub IsCut : Result (List ℕ × Option (Bor (List ℕ))) AllocError → List ℕ × Option (List ℕ) → Type 0
IsCut (Ok p) l = Cuts p.0 p.1 l
IsCut (Err e) l = Unit {0}

-- After a quoted part of a delimiter the rest of it goes on.
abbrev pub GoesOn : Result (Bor (List ℕ)) LexError → List ℕ → Delimited → Type 0
GoesOn (Ok r) x l = l ≡ in_delimiter x true r.now
GoesOn (Err error.Memory) x l = Unit {0}
GoesOn (Err error.End) x l = ⊥
GoesOn (Err (error.Bad f)) x l = l ≡ not_delimited f

-- a delimiter, whether any part was quoted, and the text after it
abbrev pub IsDelimited : Result (List ℕ × Bool × Bor (List ℕ)) LexError → Delimited → Type 0
IsDelimited (Ok p) l = l ≡ delimited p.0 p.1 p.2.now
IsDelimited (Err error.Memory) l = Unit {0}
IsDelimited (Err error.End) l = ⊥
IsDelimited (Err (error.Bad f)) l = l ≡ not_delimited f
