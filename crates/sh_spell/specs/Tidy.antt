-- Tokens that can be written.
use Rattle.std.specs.Prelude.{List, [], ◌∷◌, ◌⊎◌}
use Rattle.sh_lexer.specs.declared.token.Token.{Token}
use Rattle.sh_lexer.specs.declared.token.Token.TheVariants as token
use Rattle.sh_lexer.specs.declared.token.End.TheVariants as end
use Rattle.sh_lexer.specs.declared.token.Mode.{Mode}
use Rattle.sh_lexer.specs.declared.token.Mode.TheVariants as mode
use Rattle.sh_lexer.specs.Modes.{mode_after}

-- how tokens in words are read
abbrev pub IsInWord : Mode → Type 0
IsInWord mode.Word = Unit {0}
IsInWord mode.Quotes = Unit {0}
IsInWord (mode.Braces q) = Unit {0}
IsInWord (mode.Arith n) = Unit {0}
IsInWord mode.Body = Unit {0}
IsInWord m = ⊥

-- how tokens between words are read
abbrev pub IsBetween : Mode → Type 0
IsBetween mode.Command = Unit {0}
IsBetween mode.Prefix = Unit {0}
IsBetween mode.Arguments = Unit {0}
IsBetween mode.Pattern = Unit {0}
IsBetween m = ⊥

abbrev pub IsKnown : Mode → Type 0
IsKnown m = IsBetween m ⊎ IsInWord m

-- Here-documents apart, and what is read otherwise than the grammar wants.
abbrev pub IsUsual : Mode → Token → Type 0
IsUsual m (token.End end.Word n) = IsBetween n
IsUsual m (token.End end.Newline n) = IsBetween n
IsUsual m (token.End end.Text n) = IsBetween m
IsUsual m (token.End end.List n) = IsBetween m
IsUsual m (token.Here fd s) = ⊥
IsUsual m (token.Delimiter x q n) = ⊥
IsUsual m token.Body = ⊥
IsUsual m (token.Verbatim x n) = ⊥
IsUsual m t = Unit {0}

-- The modes and tokens are those of a script without here-documents.
abbrev pub IsTidy : Mode → List Token → Type 0
IsTidy m [] = IsBetween m
IsTidy m (t ∷ ts) = IsKnown m × IsUsual m t × IsTidy (mode_after m t) ts

-- No here-document begins.
abbrev pub IsNoHere : Token → Type 0
IsNoHere (token.Here fd s) = ⊥
IsNoHere t = Unit {0}

abbrev pub HasNoHere : List Token → Type 0
HasNoHere [] = Unit {0}
HasNoHere (t ∷ ts) = IsNoHere t × HasNoHere ts
