-- Messages of utilities (POSIX.1-2017, XCU 1.4, STDERR, leaves their text open).
use Rattle.std.specs.Prelude.{ℕ, List, [], ◌∷◌, ◌++◌, codes}
use Rattle.util_common.specs.declared.messages.Why.{Why}
use Rattle.util_common.specs.declared.messages.Why.TheVariants.{NoSuchFile, IsFolder, OtherKind, BadName, NoSuchFolder, BadNumber, BadList, BadSet, BadFormat, BadExpression, UnknownOption, NeedsValue, Excluding, MissingOperand, ExtraOperand, OnlyFixed}

abbrev pub why_text : Why → List ℕ
why_text NoSuchFile = codes "no such file"
why_text IsFolder = codes "is a folder"
why_text OtherKind = codes "other kind"
why_text BadName = codes "bad name"
why_text NoSuchFolder = codes "no such folder"
why_text BadNumber = codes "bad number"
why_text BadList = codes "bad list"
why_text BadSet = codes "bad set"
why_text BadFormat = codes "bad format"
why_text BadExpression = codes "bad expression"
why_text (UnknownOption b) = codes "unknown option -" ++ b ∷ []
why_text (NeedsValue b) = codes "option -" ++ b ∷ codes " needs a value"
why_text Excluding = codes "options exclude each other"
why_text MissingOperand = codes "missing operand"
why_text ExtraOperand = codes "extra operand"
why_text OnlyFixed = codes "only -F"

-- `hs: WHO: WHY` and a newline
abbrev pub message : List ℕ → Why → List ℕ
message who why = codes "hs: " ++ (who ++ (codes ": " ++ (why_text why ++ 10 ∷ [])))

-- `hs: UTILITY: OPERAND: WHY` and a newline
abbrev pub message_on : List ℕ → List ℕ → Why → List ℕ
message_on utility operand why = message (utility ++ (codes ": " ++ operand)) why
