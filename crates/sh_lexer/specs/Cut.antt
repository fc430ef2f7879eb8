-- Texts that are cut out of a text, to be read by themselves.
use Rattle.std.specs.Prelude.{ℕ, Bool, true, false, not, ◌&&◌, ◌||◌, ◌==◌, List, [], ◌∷◌, ◌++◌, Option, Some, None, if◌then◌else◌}
use Rattle.std.specs.Str.{bytes_eq}
use Rattle.sh_syntax.specs.declared.fault.Fault.{Fault}
use Rattle.sh_syntax.specs.declared.fault.Fault.TheVariants.{Nul, Unclosed}
use Rattle.sh_syntax.specs.declared.fault.Opening.TheVariants as opening
use Rattle.sh_lexer.specs.declared.token.Here.{Here}
use Rattle.sh_lexer.specs.Bytes.{joins, ends_word}

-- ---- backquotes (POSIX.1-2017, XCU 2.6.3)

-- A backslash quotes these, and goes.
abbrev pub unquoted_in_backquotes : ℕ → Bool
unquoted_in_backquotes b = b == 36 || b == 92 || b == 96

-- Up to the next backquote without a backslash before it: the text between, and what comes after it, where it comes.
abbrev pub text_onto : List ℕ → List ℕ × Option (List ℕ) → List ℕ × Option (List ℕ)
text_onto x p = (x ++ p.0, p.1)

unfoldable pub backquoted : List ℕ → List ℕ × Option (List ℕ)
backquoted [] = ([], None)
backquoted (b ∷ []) = elim (b == 96) [ true ↦ ([], Some []) | false ↦ (b ∷ [], None) ]
backquoted (b ∷ c ∷ r) = elim (b == 96) [
  | true ↦ ([], Some (c ∷ r))
  | false ↦ elim (b == 92) [
    | true ↦ elim (unquoted_in_backquotes c) [ true ↦ text_onto (c ∷ []) (backquoted r) | false ↦ text_onto (b ∷ c ∷ []) (backquoted r) ]
    | false ↦ text_onto (b ∷ []) (backquoted (c ∷ r))
  ]
]

-- ---- bodies of here-documents (XCU 2.7.4)

-- The line is complete.
abbrev pub line_ends : Here → List ℕ → List ℕ → List ℕ → Option (List ℕ × List ℕ) → Option (List ℕ × List ℕ)
line_ends h body line rest more = if bytes_eq line h.delimiter then Some (body, rest) else more

-- the last line, without its newline
abbrev pub last_line : Here → List ℕ → List ℕ → Option (List ℕ × List ℕ)
last_line h body [] = None
last_line h body (b ∷ line) = if bytes_eq (b ∷ line) h.delimiter then Some (body, []) else None

-- a tab that is dropped
abbrev pub stripped : Here → List ℕ → ℕ → Bool
stripped h [] b = h.strip && b == 9
stripped h (c ∷ line) b = false

abbrev pub pair : ℕ → ℕ → List ℕ
pair b c = b ∷ c ∷ []

-- After the lines of the body so far and a part of the next line: the whole body, and the text after the line that is the
-- delimiter. Where the delimiter wasn't quoted, lines are joined first, and a backslash keeps the byte behind it from joining.
unfoldable pub body_of : Here → List ℕ → List ℕ → List ℕ → Option (List ℕ × List ℕ)
body_of h body line [] = last_line h body line
body_of h body line (b ∷ []) = elim (b == 10) [
  | true ↦ line_ends h body line [] None
  | false ↦ elim (stripped h line b) [ true ↦ last_line h body line | false ↦ last_line h body (line ++ b ∷ []) ]
]
body_of h body line (b ∷ c ∷ r) = elim (b == 10) [
  | true ↦ elim (bytes_eq line h.delimiter) [ true ↦ Some (body, c ∷ r) | false ↦ body_of h (body ++ line ++ b ∷ []) [] (c ∷ r) ]
  | false ↦ elim (stripped h line b) [
    | true ↦ body_of h body line (c ∷ r)
    | false ↦ elim (b == 92 && not h.quoted) [
      | true ↦ elim (c == 10) [ true ↦ body_of h body line r | false ↦ body_of h body (line ++ pair b c) r ]
      | false ↦ body_of h body (line ++ b ∷ []) (c ∷ r)
    ]
  ]
]

-- ---- delimiters of here-documents

-- a delimiter without its quotes, whether any part was quoted, and the text after it
pub data Delimited : Type 0 where
  delimited : List ℕ → Bool → List ℕ → Delimited
  not_delimited : Fault → Delimited

-- what is quoted by a backslash in double quotes
abbrev pub quotable : ℕ → Bool
quotable b = b == 34 || b == 36 || b == 92 || b == 96

-- In single quotes, in double quotes and outside, after the bytes so far. `$` and backquotes are plain bytes.
unfoldable mutual
  pub in_single : List ℕ → List ℕ → Delimited
  in_single x [] = not_delimited (Unclosed opening.Single)
  in_single x (b ∷ r) = elim (b == 39) [
    | true ↦ in_delimiter x true r
    | false ↦ elim (b == 0) [ true ↦ not_delimited Nul | false ↦ in_single (x ++ b ∷ []) r ]
  ]

  pub in_double : List ℕ → List ℕ → Delimited
  in_double x [] = not_delimited (Unclosed opening.Double)
  in_double x (b ∷ []) = elim (b == 34) [ true ↦ delimited x true [] | false ↦ elim (b == 0) [ true ↦ not_delimited Nul | false ↦ not_delimited (Unclosed opening.Double) ] ]
  in_double x (b ∷ c ∷ r) = elim (b == 34) [
    | true ↦ in_delimiter x true (c ∷ r)
    | false ↦ elim (b == 0) [
      | true ↦ not_delimited Nul
      | false ↦ elim (joins b c) [
        | true ↦ in_double x r
        | false ↦ elim (b == 92 && quotable c) [ true ↦ in_double (x ++ c ∷ []) r | false ↦ in_double (x ++ b ∷ []) (c ∷ r) ]
      ]
    ]
  ]

  pub in_delimiter : List ℕ → Bool → List ℕ → Delimited
  in_delimiter x q [] = delimited x q []
  in_delimiter x q (b ∷ []) = elim (ends_word (b ∷ [])) [
    | true ↦ delimited x q (b ∷ [])
    | false ↦ elim (b == 39) [
      | true ↦ not_delimited (Unclosed opening.Single)
      | false ↦ elim (b == 34) [ true ↦ not_delimited (Unclosed opening.Double) | false ↦ elim (b == 0) [ true ↦ not_delimited Nul | false ↦ delimited (x ++ b ∷ []) q [] ] ]
    ]
  ]
  in_delimiter x q (b ∷ c ∷ r) = elim (ends_word (b ∷ c ∷ r)) [
    | true ↦ delimited x q (b ∷ c ∷ r)
    | false ↦ elim (b == 39) [
      | true ↦ in_single x (c ∷ r)
      | false ↦ elim (b == 34) [
        | true ↦ in_double x (c ∷ r)
        | false ↦ elim (b == 0) [
          | true ↦ not_delimited Nul
          | false ↦ elim (joins b c) [
            | true ↦ in_delimiter x q r
            | false ↦ elim (b == 92) [
              | true ↦ elim (c == 0) [ true ↦ not_delimited Nul | false ↦ in_delimiter (x ++ c ∷ []) true r ]
              | false ↦ in_delimiter (x ++ b ∷ []) q (c ∷ r)
            ]
          ]
        ]
      ]
    ]
  ]
