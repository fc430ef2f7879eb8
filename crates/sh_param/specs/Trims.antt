-- Prefixes and suffixes that are removed from values (POSIX.1-2017, XCU 2.6.2).
use Rattle.std.specs.Prelude.{ℕ, zero, suc, ◌+◌, ◌-◌, Bool, true, false, List, [], ◌∷◌, length, take, drop, Option, Some, None, if◌then◌else◌}
use Rattle.sh_pattern.specs.Items.{items_of}
use Rattle.sh_pattern.specs.Match.{matches_prefix, matches_suffix}
use Rattle.sh_pattern.specs.declared.item.Item.{Item}
use Rattle.sh_syntax.specs.declared.tree.ParamOp.{ParamOp}
use Rattle.sh_syntax.specs.declared.tree.ParamOp.TheVariants as op
use Rattle.sh_param.specs.declared.value.ParamValue.{ParamValue}
use Rattle.sh_param.specs.declared.value.ParamValue.TheVariants.{Unset, One, Each}

-- the first number for which the test holds, among this one and so many behind it
abbrev pub least_from : (ℕ → Bool) → ℕ → ℕ → Option ℕ
least_from test k zero = if test k then Some k else None
least_from test k (suc n) = if test k then Some k else least_from test (k + 1) n

abbrev pub least : (ℕ → Bool) → ℕ → Option ℕ
least test last = least_from test 0 last

abbrev pub greatest : (ℕ → Bool) → ℕ → Option ℕ
greatest test zero = if test 0 then Some 0 else None
greatest test (suc n) = if test (suc n) then Some (suc n) else greatest test n

-- how long the part is that is removed, where one matches
abbrev pub part_of : ParamOp → List Item → List ℕ → Option ℕ
part_of op.SmallPrefix items t = least (matches_prefix items t) (length t)
part_of op.LargePrefix items t = greatest (matches_prefix items t) (length t)
part_of op.SmallSuffix items t = least (matches_suffix items t) (length t)
part_of op.LargeSuffix items t = greatest (matches_suffix items t) (length t)
part_of _ items t = None

abbrev pub is_prefix : ParamOp → Bool
is_prefix op.SmallPrefix = true
is_prefix op.LargePrefix = true
is_prefix _ = false

-- a text without a part of this length
abbrev pub without : Bool → Option ℕ → List ℕ → List ℕ
without front None t = t
without front (Some n) t = if front then drop n t else take (length t - n) t

abbrev pub trim : ParamOp → List Item → List ℕ → List ℕ
trim o items t = without (is_prefix o) (part_of o items t) t

abbrev pub trim_all : ParamOp → List Item → List (List ℕ) → List (List ℕ)
trim_all o items [] = []
trim_all o items (t ∷ ts) = trim o items t ∷ trim_all o items ts

abbrev pub trim_value : ParamOp → List Item → ParamValue → ParamValue
trim_value o items Unset = Unset
trim_value o items (One t) = One (trim o items t)
trim_value o items (Each star ts) = Each star (trim_all o items ts)

-- the value without the part that this field matches, as a pattern; of `@` and `*` each parameter
abbrev pub trimmed : ParamOp → List (ℕ × Bool) → ParamValue → ParamValue
trimmed o field v = trim_value o (items_of field) v
