-- What calls of the code say of the first piece of a word.
use Rattle.std.specs.Prelude.{◌≡◌, ◌≤◌, ◌<◌, ℕ, Bool, true, false, nat_le, List, ◌∷◌, Option, Some, None, Result, Ok, Err, if◌then◌else◌}
use Rattle.sh_lexer.specs.declared.read.LexError.{LexError}
use Rattle.sh_lexer.specs.declared.read.Read.{Read}
use Rattle.sh_lexer.specs.Gives.{Gives}
use Rattle.sh_lexer.specs.Lex.{Lexed, bad, less, greater, plain_at, bit_at}
use Rattle.sh_lexer.specs.Bytes.{peel, plain}
use Rattle.sh_lexer.specs.declared.token.Mode.{Mode}
use Rattle.sh_lexer.specs.declared.token.Mode.TheVariants as mode
use Rattle.sh_syntax.specs.declared.fault.Fault.TheVariants.{Unexpected}

-- The number is that of one of the three descriptors that a redirection may name, or it is above them.
abbrev pub IsDescriptor : Option ℕ → ℕ → Type 0
IsDescriptor (Some fd) n = (n ≡ fd) × fd ≤ 2
IsDescriptor None n = 2 < n

-- A token that takes the place of a word, whatever the word is; or there is none, and it is the word.
abbrev pub ReadsOr : Result (Option Read) LexError → (Lexed → Lexed) → Type 0
ReadsOr (Ok (Some r)) f = (word : Lexed) → Gives (Ok r) (f word)
ReadsOr (Ok None) f = (word : Lexed) → f word ≡ word
ReadsOr (Err e) f = (word : Lexed) → Gives (Err e) (f word)

-- a redirection of a descriptor: what comes after its `<` or `>`
abbrev pub Redirects : Result Read LexError → ℕ → Bool → List ℕ → Type 0
Redirects r n false t = Gives r (if nat_le n 2 then less n (peel t) else bad Unexpected)
Redirects r n true t = Gives r (if nat_le n 2 then greater n (peel t) else bad Unexpected)

-- between words, a byte that begins no operator
abbrev pub word_between : Mode → ℕ → List ℕ → Lexed
word_between m b r = if plain b then plain_at m b r else bit_at mode.Word plain (b ∷ r)
