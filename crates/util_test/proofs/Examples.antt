-- Expressions of `test`, and what they ask.
use Rattle.std.proofs.Common.{◌≡◌, true, false, [], ◌∷◌, None, Some, refl, codes}
use Rattle.std.specs.Prelude.{pos, negsuc}
use Rattle.util_test.specs.Expressions.{asked}
use Rattle.util_test.specs.Numbers.{number}
use Rattle.util_test.specs.Testing.{bracketed}
use Rattle.util_test.specs.declared.expression.Asked.TheVariants.{Known, Has, Lacks}
use Rattle.util_test.specs.declared.expression.Property.TheVariants.{Is, HasBytes}
use Rattle.util_test.specs.declared.expression.Sort.TheVariants.{Any, Folder}

no_words : asked [] ≡ Some (Known false)
no_words = refl

-- one word is no operator
lone_operator : asked (codes "-n" ∷ []) ≡ Some (Known true)
lone_operator = refl

empty_word : asked (codes "-z" ∷ [] ∷ []) ≡ Some (Known true)
empty_word = refl

a_folder : asked (codes "-d" ∷ codes "d" ∷ []) ≡ Some (Has (Is Folder) (codes "d"))
a_folder = refl

-- what stands in the middle comes before `!`
middle_first : asked (codes "!" ∷ codes "=" ∷ codes "!" ∷ []) ≡ Some (Known true)
middle_first = refl

not_there : asked (codes "!" ∷ codes "-e" ∷ codes "f" ∷ []) ≡ Some (Lacks (Is Any) (codes "f"))
not_there = refl

twice_negated : asked (codes "!" ∷ codes "!" ∷ codes "-s" ∷ codes "f" ∷ []) ≡ Some (Has HasBytes (codes "f"))
twice_negated = refl

as_numbers : asked (codes "10" ∷ codes "-gt" ∷ codes "9" ∷ []) ≡ Some (Known true)
as_numbers = refl

no_number : asked (codes "1" ∷ codes "-eq" ∷ codes "1x" ∷ []) ≡ None
no_number = refl

five_words : asked (codes "a" ∷ codes "=" ∷ codes "a" ∷ codes "=" ∷ codes "a" ∷ []) ≡ None
five_words = refl

least : number (codes "-9223372036854775808") ≡ Some (negsuc 9223372036854775807)
least = refl

past_least : number (codes "-9223372036854775809") ≡ None
past_least = refl

greatest : number (codes "+9223372036854775807") ≡ Some (pos 9223372036854775807)
greatest = refl

past_greatest : number (codes "9223372036854775808") ≡ None
past_greatest = refl

closed : bracketed (codes "a" ∷ codes "]" ∷ []) ≡ Some (codes "a" ∷ [])
closed = refl

not_closed : bracketed (codes "]" ∷ codes "a" ∷ []) ≡ None
not_closed = refl
