-- Texts of which is known how to write them.
use Rattle.std.specs.Prelude.{List, [], ◌∷◌}
use Rattle.sh_lexer.specs.declared.token.Token.{Token}
use Rattle.sh_lexer.specs.declared.token.Token.TheVariants as token
use Rattle.sh_lexer.specs.declared.token.Opener.TheVariants as opener

-- Neither a here-document nor a text in backquotes begins.
abbrev pub IsPlain : Token → Type 0
IsPlain (token.Here fd s) = ⊥
IsPlain (token.Open opener.Backquote m) = ⊥
IsPlain t = Unit {0}

abbrev pub ArePlain : List Token → Type 0
ArePlain [] = Unit {0}
ArePlain (t ∷ ts) = IsPlain t × ArePlain ts
