-- What comes next, by offsets.
use Rattle.std.specs.Prelude.{◌≡◌, ◌-◌, ℕ, true, false, List, [], ◌∷◌, length, Option, Some, None, Result, Ok, Err}
use Rattle.sh_lexer.specs.declared.read.LexError.{LexError}
use Rattle.sh_lexer.specs.declared.read.LexError.TheVariants as error
use Rattle.sh_lexer.specs.declared.place.Outer.{Outer}
use Rattle.sh_lexer.specs.declared.place.Cutting.{Cutting}
use Rattle.sh_lexer.specs.declared.lexer.Seen.{Seen}
use Rattle.sh_lexer.specs.declared.lexer.Seen.TheVariants as seen
use Rattle.sh_syntax.specs.declared.fault.Fault.TheVariants.{Unclosed}
use Rattle.sh_syntax.specs.declared.fault.Opening.TheVariants as opening
use Rattle.sh_lexer.specs.declared.token.Token.{Token}
use Rattle.sh_lexer.specs.declared.token.Token.TheVariants as token
use Rattle.sh_lexer.specs.declared.token.End.TheVariants as end
use Rattle.sh_lexer.specs.declared.token.Mode.TheVariants as mode
use Rattle.sh_lexer.specs.Trail.{Trail, ended_by}
use Rattle.sh_lexer.specs.Lex.{Lexed, got, opens, done, bad}

abbrev pub IsSeen : Result Seen LexError → Lexed → List ℕ → Type 0
IsSeen (Ok (seen.Token k a)) l w = (r : List ℕ) × (l ≡ got k r) × (a ≡ length w - length r)
IsSeen (Ok (seen.Cut k x (Some a))) l w = (r : List ℕ) × (l ≡ opens k x (Some r)) × (a ≡ length w - length r)
IsSeen (Ok (seen.Cut k x None)) l w = l ≡ opens k x None
IsSeen (Err error.Memory) l w = Unit {0}
IsSeen (Err error.End) l w = l ≡ done
IsSeen (Err (error.Bad f)) l w = l ≡ bad f

abbrev pub IsCutFrom : Outer → List ℕ → Option ℕ → Cutting → Type 0
IsCutFrom o t (Some a) c = o ≡ record { text = t; at = a; ends = true; cutting = c }
IsCutFrom o t None c = o ≡ record { text = t; at = length t; ends = false; cutting = c }

-- A text is cut out of the one that is read.
abbrev pub Opens : Result (Unit {0}) LexError → Trail → Trail → List ℕ → Option ℕ → Cutting → Type 0
Opens (Ok u) old new x after c = (o : Outer) × IsCutFrom o old.whole after c × (new ≡ record { whole = x; at = 0; outer = o ∷ old.outer; last = old.last; closed = old.closed })
Opens (Err error.Memory) old new x after c = new ≡ old
Opens (Err error.End) old new x after c = ⊥
Opens (Err (error.Bad f)) old new x after c = ⊥

-- what comes at the end of a text that was cut out of these, the nearest one first
abbrev pub Closes : Result Token LexError → List Outer → Type 0
Closes (Ok k) [] = ⊥
Closes (Ok k) (o ∷ os) = (k ≡ token.End end.Text mode.Command) × (o.ends ≡ true)
Closes (Err error.Memory) os = ⊥
Closes (Err error.End) [] = Unit {0}
Closes (Err error.End) (o ∷ os) = ⊥
Closes (Err (error.Bad f)) [] = ⊥
Closes (Err (error.Bad f)) (o ∷ os) = (f ≡ Unclosed opening.Backquote) × (o.ends ≡ false)

-- what the end of a text leaves
abbrev pub Ends : Result Token LexError → Trail → Trail → Type 0
Ends (Ok k) old new = new ≡ ended_by old.last old old.outer
Ends (Err e) old new = new ≡ old
