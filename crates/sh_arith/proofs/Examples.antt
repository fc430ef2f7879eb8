-- Constants, expressions and their values.
use Rattle.std.proofs.Common.{◌≡◌, ℕ, true, false, pos, negsuc, List, [], ◌∷◌, Some, None, refl}
use Rattle.std.specs.Prelude.{codes}
use Rattle.std.specs.Fmt.{signed_decimal}
use Rattle.std.specs.Int.{int_wrap}
use Rattle.sh_arith.specs.declared.token.Math.TheVariants as math
use Rattle.sh_arith.specs.declared.token.Logic.TheVariants.{Both}
use Rattle.sh_arith.specs.declared.token.Op.TheVariants as op
use Rattle.sh_arith.specs.declared.token.Token.{Token}
use Rattle.sh_arith.specs.declared.token.Token.TheVariants.{Number, Name, Operator}
use Rattle.sh_arith.specs.Grammar.{Tree, number, binary, logic, assign, Spells}
use Rattle.sh_arith.specs.Lex.{Lexes}
use Rattle.sh_arith.specs.Machine.{run, start, emit}
use Rattle.sh_arith.specs.Names.{Table, to}
use Rattle.sh_arith.specs.Number.{constant, number_of}
use Rattle.sh_arith.specs.Told.{table_of}
use Rattle.sh_arith.specs.Value.{evaluate, value, stopped, fault, by_zero, bad_shift, tried}
use Rattle.sh_arith.proofs.Sound.{sound}

-- ---- constants and values of names

octal : constant (codes "017") ≡ Some 15
octal = refl

no_octal : constant (codes "08") ≡ None
no_octal = refl

hexadecimal : constant (codes "0xfF") ≡ Some 255
hexadecimal = refl

with_blanks : number_of (codes " -12 ") ≡ Some (negsuc 11)
with_blanks = refl

no_value : number_of (codes "1 2") ≡ None
no_value = refl

-- ---- from bytes to a tree

abbrev text : List ℕ
text = codes "a=b=3"

abbrev tokens : List Token
tokens = Name 0 (codes "a") ∷ Operator (op.Assign None) ∷ Name 2 (codes "b") ∷ Operator (op.Assign None) ∷ Number (pos 3) ∷ []

abbrev tree : Tree
tree = assign None 0 (codes "a") (assign None 2 (codes "b") (number (pos 3)))

lexed : Lexes 5 text tokens
lexed = (_, refl, (_, refl, (_, refl, (_, refl, (_, refl, refl)))))

to_the_right : run start tokens ≡ Some (emit tree [])
to_the_right = refl

spelled : (t : Tree) × Spells t text
spelled = let s = sound tokens (emit tree []) to_the_right in (s.tree, record { tokens = tokens; lexed = lexed; parsed = s.parsed })

-- `1-2-3` groups to the left
to_the_left : run start (Number (pos 1) ∷ Operator (op.Math math.Minus) ∷ Number (pos 2) ∷ Operator (op.Math math.Minus) ∷ Number (pos 3) ∷ [])
    ≡ Some (emit (binary math.Minus (binary math.Minus (number (pos 1)) (number (pos 2))) (number (pos 3))) [])
to_the_left = refl

-- `1+` ends too early
too_early : run start (Number (pos 1) ∷ Operator (op.Math math.Plus) ∷ []) ≡ None
too_early = refl

-- ---- values, where no name is set

abbrev none : Table
none = record { value = λ x. None; read_only = λ x. false; made = [] }

shifted : evaluate (binary math.Left (number (pos 1)) (number (pos 62))) none ≡ value (pos 4611686018427387904) none
shifted = refl

too_far : evaluate (binary math.Left (number (pos 1)) (number (pos 64))) none ≡ stopped (fault bad_shift) none
too_far = refl

by_nothing : evaluate (binary math.Over (number (pos 1)) (number (pos 0))) none ≡ stopped (fault by_zero) none
by_nothing = refl

wraps : evaluate (binary math.Plus (number (pos 9223372036854775807)) (number (pos 1))) none ≡ value (negsuc 9223372036854775807) none
unfolding int_wrap
wraps = refl

least_quotient : evaluate (binary math.Over (number (negsuc 9223372036854775807)) (number (negsuc 0))) none ≡ value (negsuc 9223372036854775807) none
least_quotient = refl

least_remainder : evaluate (binary math.Modulo (number (negsuc 9223372036854775807)) (number (negsuc 0))) none ≡ value (pos 0) none
least_remainder = refl

-- what is not needed isn't evaluated
skipped : evaluate (logic Both (number (pos 0)) (assign None 3 (codes "a") (number (pos 9)))) none ≡ value (pos 0) none
skipped = refl

as_one : evaluate (logic Both (number (pos 2)) (number (pos 3))) none ≡ value (pos 1) none
as_one = refl

made : tried (evaluate tree none) ≡ to (codes "b") (pos 3) ∷ to (codes "a") (pos 3) ∷ []
made = refl

-- ---- the table that the tests' names tell: "a" is 5 at the start, "r" is 7 and read only, and then "a" is 3, and 4

read_only_told : (table_of ((codes "a", codes "5") ∷ (codes "r", codes "7") ∷ []) (codes "r" ∷ []) []).read_only (codes "r") ≡ true
read_only_told = refl

first_told : (table_of ((codes "a", codes "5") ∷ (codes "r", codes "7") ∷ []) (codes "r" ∷ []) []).value (codes "a") ≡ Some (codes "5")
first_told = refl

newest_told : (table_of ((codes "a", codes "5") ∷ []) [] ((codes "a", pos 3) ∷ (codes "a", pos 4) ∷ [])).value (codes "a") ≡ Some (signed_decimal (pos 4))
newest_told = refl

made_told : (table_of [] [] ((codes "a", pos 3) ∷ (codes "a", pos 4) ∷ [])).made ≡ to (codes "a") (pos 3) ∷ to (codes "a") (pos 4) ∷ []
made_told = refl
