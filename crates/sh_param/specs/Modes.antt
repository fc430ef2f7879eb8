-- Where a part of a word stands, and what that makes of its bytes (POSIX.1-2017, XCU 2.2, 2.6).
use Rattle.std.specs.Prelude.{ℕ, Bool, true, false, if◌then◌else◌}
use Rattle.sh_split.specs.declared.mark.Mark.{Mark}
use Rattle.sh_split.specs.declared.mark.Mark.TheVariants.{Expanded, Written, Quoted}
use Rattle.sh_param.specs.declared.mode.Context.{Context}
use Rattle.sh_param.specs.declared.mode.Context.TheVariants.{Command, Assign}
use Rattle.sh_param.specs.declared.mode.Mode.{Mode}

abbrev pub is_split : Context → Bool
is_split Command = true
is_split _ = false

abbrev pub is_assigned : Context → Bool
is_assigned Assign = true
is_assigned _ = false

-- a whole word
abbrev pub mode_of : Context → ℕ → Mode
mode_of c status = record { quoted = false; written = true; colons = is_assigned c; splits = is_split c; status = status }

-- within double quotes
abbrev pub quoted : Mode → Mode
quoted m = record m { quoted = true; colons = false }

-- The word of `${x-w}` and `${x+w}`: its unquoted bytes count as results (XCU 2.6.2, 2.6.5).
abbrev pub operand : Mode → Mode
operand m = record m { written = false }

-- a word that becomes one text: that of `${x=w}` and `${x?w}`
abbrev pub text : Mode → Mode
text m = record m { written = false; splits = false }

-- The word of `${x%w}` and its kin. Quotes round the whole expansion don't quote it (XCU 2.6.2).
abbrev pub pattern : Mode → Mode
pattern m = record m { quoted = false; written = false; colons = false; splits = false }

-- an arithmetic expression, which is expanded as if it were in double quotes (XCU 2.6.4)
abbrev pub sum : Mode → Mode
sum m = record m { quoted = true; written = false; colons = false; splits = false }

-- a byte that an expansion gave
abbrev pub expanded : Mode → ℕ → Mark
expanded m b = if m.quoted then Quoted b else Expanded b

-- a byte that stands for itself
abbrev pub literal : Mode → ℕ → Mark
literal m b = if m.quoted then Quoted b else (if m.written then Written b else Expanded b)
