-- What is open in the tokens of a script, and which opening a text blames that ends too early. Tokens are numbered from 0 on.
use Rattle.std.specs.Prelude.{ℕ, Bool, true, false, ◌+◌, nat_lt, List, [], ◌∷◌, ◌++◌, Option, Some, None, if◌then◌else◌}
use Rattle.sh_syntax.specs.declared.fault.Fault.{Fault}
use Rattle.sh_syntax.specs.declared.fault.Fault.TheVariants.{Unexpected, Unclosed}
use Rattle.sh_syntax.specs.declared.fault.Opening.{Opening}
use Rattle.sh_syntax.specs.declared.fault.Opening.TheVariants as opening
use Rattle.sh_lexer.specs.declared.token.Token.{Token}
use Rattle.sh_lexer.specs.declared.token.Token.TheVariants as token
use Rattle.sh_lexer.specs.declared.token.Opener.{Opener}
use Rattle.sh_lexer.specs.declared.token.Opener.TheVariants as opener
use Rattle.sh_lexer.specs.declared.token.End.{End}
use Rattle.sh_lexer.specs.declared.token.End.TheVariants as end
use Rattle.sh_script.specs.declared.openings.Mark.{Mark}
use Rattle.sh_script.specs.declared.openings.Mark.TheVariants as mark
use Rattle.sh_script.specs.declared.openings.Change.{Change}
use Rattle.sh_script.specs.declared.openings.Change.TheVariants as change
use Rattle.sh_script.specs.declared.openings.Openings.{Openings}
use Rattle.sh_script.specs.declared.openings.Stop.{Stop}
use Rattle.sh_script.specs.declared.openings.Stop.TheVariants as stop

abbrev pub opening_of : Opener → Opening
opening_of opener.Double = opening.Double
opening_of (opener.Braces x o c q) = opening.Braces
opening_of opener.Command = opening.Command
opening_of opener.Arith = opening.Arith
opening_of opener.Backquote = opening.Backquote

abbrev pub end_change : End → Change
end_change end.Word = change.Nothing
end_change end.Newline = change.Newline
end_change end.Text = change.EndsText
end_change e = change.Closes

-- what a token changes
abbrev pub change_of : Token → Change
change_of (token.Open o m) = change.Opens (opening_of o)
change_of (token.End e m) = end_change e
change_of (token.Here fd strip) = change.Operator
change_of (token.Delimiter x q m) = change.Delimiter
change_of token.Body = change.Body
change_of (token.Verbatim x m) = change.Verbatim
change_of t = change.Nothing

abbrev pub rest_of : {A : Type 0} → List A → List A
rest_of [] = []
rest_of (x ∷ xs) = xs

-- without the count
abbrev pub changed : Change → Openings → Openings
changed (change.Opens o) p = record p { marks = mark.Opened o p.count ∷ p.marks }
changed change.Closes p = record p { marks = rest_of p.marks }
changed change.EndsText p = record p { marks = rest_of p.marks }
changed change.Newline p = record p { due = []; coming = p.due ++ p.coming }
changed change.Operator p = record p { operator = p.count }
changed change.Delimiter p = record p { due = p.due ++ p.operator ∷ [] }
changed change.Body p = record p { marks = mark.Body ∷ p.marks; coming = rest_of p.coming }
changed change.Verbatim p = record p { coming = rest_of p.coming }
changed change.Nothing p = p

abbrev pub counted : Openings → Openings
counted p = record p { count = p.count + 1 }

abbrev pub after_token : Token → Openings → Openings
after_token t p = counted (changed (change_of t) p)

abbrev pub none_open : Openings
none_open = record { count = 0; marks = []; operator = 0; due = []; coming = [] }

abbrev pub opened_from : Openings → List Token → Openings
opened_from p [] = p
opened_from p (t ∷ ts) = opened_from (after_token t p) ts

-- after these tokens
abbrev pub opened_after : List Token → Openings
opened_after ts = opened_from none_open ts

-- ---- which one is blamed

abbrev pub later : Option ℕ → ℕ → ℕ
later None n = n
later (Some m) n = if nat_lt m n then n else m

-- the greatest number
abbrev pub latest : Option ℕ → List ℕ → Option ℕ
latest o [] = o
latest o (n ∷ ns) = latest (Some (later o n)) ns

-- the last operator of a here-document whose body has not come
abbrev pub last_here : Openings → Option ℕ
last_here p = latest None (p.due ++ p.coming)

abbrev pub top : List Mark → Option (Opening × ℕ)
top [] = None
top (mark.Opened o n ∷ ms) = Some (o, n)
top (mark.Body ∷ ms) = None

-- what was opened in a text that was cut out, where it ends
abbrev pub inner : Option (Opening × ℕ) → Option (Opening × ℕ)
inner None = None
inner (Some (opening.Backquote, n)) = None
inner (Some o) = Some o

-- Of an opening and a here-document without its end the last one. A here-document counts as opened after all else on the line of
-- its operator. The function gives the line of a token.
abbrev pub last_opened : (ℕ → ℕ) → Option ℕ → Option (Opening × ℕ) → Option (Opening × ℕ)
last_opened line None o = o
last_opened line (Some h) None = Some (opening.Here, h)
last_opened line (Some h) (Some o) = if nat_lt (line h) (line o.1) then Some o else Some (opening.Here, h)

abbrev pub blamed_on : ℕ → Option (Opening × ℕ) → Fault × ℕ
blamed_on n None = (Unexpected, n)
blamed_on n (Some o) = (Unclosed o.0, o.1)

-- where a text that was cut out ends
abbrev pub in_text : (ℕ → ℕ) → Openings → Option (Opening × ℕ) → Fault × ℕ
in_text line p None = (Unexpected, p.count)
in_text line p (Some o) = blamed_on p.count (last_opened line (last_here p) (Some o))

-- The lexer reads a quote or `${x` as a whole, so that one without its end is the token itself.
abbrev pub unclosed : Openings → Opening → Option (Opening × ℕ)
unclosed p opening.Backquote = top p.marks
unclosed p opening.Here = top p.marks
unclosed p o = Some (o, p.count)

abbrev pub bad_fault : (ℕ → ℕ) → Openings → Fault → Fault × ℕ
bad_fault line p (Unclosed o) = blamed_on p.count (last_opened line (last_here p) (unclosed p o))
bad_fault line p f = (f, p.count)

-- the fault, and the number of the token on whose line it is
abbrev pub blamed : (ℕ → ℕ) → Openings → Stop → Fault × ℕ
blamed line p stop.Refused = (Unexpected, p.count)
blamed line p stop.EndOfText = in_text line p (inner (top p.marks))
blamed line p (stop.Bad f) = bad_fault line p f
blamed line p stop.End = blamed_on p.count (last_opened line (last_here p) (top p.marks))
