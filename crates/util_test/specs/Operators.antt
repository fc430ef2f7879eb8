-- What compares two words (POSIX.1-2017, XCU, `test`).
use Rattle.std.specs.Prelude.{ℕ, Bool, not, nat_eq, List, Option, None, Some, option_map, codes, if◌then◌else◌}
use Rattle.std.specs.Cmp.Lexicographic.{pointwise}
use Rattle.std.specs.Ordering.{is_eq, is_ne, is_gt, is_ge, is_lt, is_le}
use Rattle.util_test.specs.Numbers.{order}
use Rattle.util_test.specs.declared.operator.Operator.{Operator}
use Rattle.util_test.specs.declared.operator.Operator.TheVariants.{Same, Differs, Equal, Unequal, Greater, GreaterOrEqual, Less, LessOrEqual}

abbrev pub is_word : List ℕ → List ℕ → Bool
is_word text word = pointwise nat_eq word text

abbrev pub number_operator : List ℕ → Option Operator
number_operator word =
    if is_word (codes "-eq") word then Some Equal
    else (if is_word (codes "-ne") word then Some Unequal
    else (if is_word (codes "-gt") word then Some Greater
    else (if is_word (codes "-ge") word then Some GreaterOrEqual
    else (if is_word (codes "-lt") word then Some Less
    else (if is_word (codes "-le") word then Some LessOrEqual
    else None)))))

abbrev pub operator : List ℕ → Option Operator
operator word =
    if is_word (codes "=") word then Some Same
    else (if is_word (codes "!=") word then Some Differs
    else number_operator word)

-- the answer, where the words write what is compared
abbrev pub compared : Operator → List ℕ → List ℕ → Option Bool
compared Same a b = Some (is_word a b)
compared Differs a b = Some (not (is_word a b))
compared Equal a b = option_map is_eq (order a b)
compared Unequal a b = option_map is_ne (order a b)
compared Greater a b = option_map is_gt (order a b)
compared GreaterOrEqual a b = option_map is_ge (order a b)
compared Less a b = option_map is_lt (order a b)
compared LessOrEqual a b = option_map is_le (order a b)
