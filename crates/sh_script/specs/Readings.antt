-- What calls of the code say of one more token.
use Rattle.std.specs.Prelude.{◌≡◌, ◌+◌, ◌≤◌, ℕ, suc, Bool, true, false, List, Some, None, Result, Ok, Err}
use Rattle.std.specs.declared.alloc.AllocError.{AllocError}
use Rattle.sh_syntax.specs.declared.fault.Fault.{Fault}
use Rattle.sh_syntax.specs.declared.fault.Fault.TheVariants.{TooDeep}
use Rattle.sh_syntax.specs.declared.tree.Script.{Script}
use Rattle.sh_lexer.specs.declared.read.LexError.{LexError}
use Rattle.sh_lexer.specs.declared.read.LexError.TheVariants as error
use Rattle.sh_lexer.specs.declared.token.Token.{Token}
use Rattle.sh_lexer.specs.declared.token.Mode.{Mode}
use Rattle.sh_lexer.specs.Modes.{mode_after}
use Rattle.sh_lexer.specs.Lexes.{Source, found, ended, wrong, next}
use Rattle.sh_lexer.specs.Trail.{source_of, size, least}
use Rattle.sh_grammar.specs.Grammar.{max_nesting}
use Rattle.sh_grammar.specs.Machine.{State, step, accept}
use Rattle.sh_machine.specs.Taken.{taken}
use Rattle.sh_machine.specs.Numbered.{Numbered, Within}
use Rattle.sh_script.specs.declared.openings.Openings.{Openings}
use Rattle.sh_script.specs.declared.openings.Stop.{Stop}
use Rattle.sh_script.specs.declared.openings.Stop.TheVariants as stop
use Rattle.sh_script.specs.declared.reading.Reader.{Reader}
use Rattle.sh_script.specs.declared.reading.Halt.{Halt}
use Rattle.sh_script.specs.declared.reading.Halt.TheVariants as halt
use Rattle.sh_script.specs.declared.reading.Advance.{Advance}
use Rattle.sh_script.specs.declared.reading.Advance.TheVariants as advance
use Rattle.sh_script.specs.declared.error.ParseErr.{ParseErr}
use Rattle.sh_script.specs.declared.error.ParseErr.TheVariants as parse_err
use Rattle.sh_script.specs.Openings.{after_token, blamed}
use Rattle.sh_script.specs.Turns.{ends_text, refused_at, lexer_after, reader_at, looked, line_again, After}

-- ---- a token that is seen

-- It is taken.
pub record Goes (old : State) (m : Mode) (o : Openings) (seen : Token) (st : State) (after : Mode) (p : Openings) : Type 0 where
  pub step : step old (taken old seen) ≡ Some st
  pub mode : after ≡ mode_after m (taken old seen)
  pub openings : p ≡ after_token (taken old seen) o
  pub numbered : Numbered st
  pub counted : (k : ℕ) → Within k old → Within (suc k) st

-- It is refused.
pub record IsRefused (old : State) (o : Openings) (seen : Token) (s : Stop) (p : Openings) : Type 0 where
  pub none : step old (taken old seen) ≡ None
  pub stop : s ≡ refused_at (ends_text seen)
  pub openings : p ≡ o

abbrev pub Takes : Result Advance AllocError → State → Mode → Openings → Token → Type 0
Takes (Ok (advance.More st after p)) old m o seen = Goes old m o seen st after p
Takes (Ok (advance.Halts (halt.Stopped s p))) old m o seen = IsRefused old o seen s p
Takes (Ok (advance.Halts (halt.Ended st p))) old m o seen = ⊥
Takes (Err e) old m o seen = Unit {0}

abbrev pub IsMore : Result Advance AllocError → State → Mode → Result Openings AllocError → Type 0
IsMore (Ok a) st m (Ok o) = a ≡ advance.More st m o
IsMore (Ok a) st m (Err e) = ⊥
IsMore (Err e) st m o = Unit {0}

-- ---- a reader

pub record Advances (r : Reader) (st : State) (m : Mode) (o : Openings) : Type 0 where
  pub seen : Token
  pub is_found : next r.mode (source_of r.lexer) ≡ found seen (source_of (lexer_after r))
  pub smaller : size (source_of (lexer_after r)) + least seen ≤ size (source_of r.lexer)
  pub goes : Goes r.machine r.mode r.openings seen st m o

-- why nothing more is taken
pub data Stopped (r : Reader) (s : Stop) (p : Openings) : Type 0 where
  not_taken : {seen : Token} → next r.mode (source_of r.lexer) ≡ found seen (source_of (lexer_after r)) → IsRefused r.machine r.openings seen s p → Stopped r s p
  no_token : {f : Fault} → next r.mode (source_of r.lexer) ≡ wrong f → s ≡ stop.Bad f → p ≡ r.openings → Stopped r s p

pub record Ended (r : Reader) (st : State) (p : Openings) : Type 0 where
  pub is_ended : next r.mode (source_of r.lexer) ≡ ended
  pub machine : st ≡ r.machine
  pub openings : p ≡ r.openings

abbrev pub Halted : Reader → Halt → Type 0
Halted r (halt.Ended st p) = Ended r st p
Halted r (halt.Stopped s p) = Stopped r s p

abbrev pub IsAdvance : Reader → Advance → Type 0
IsAdvance r (advance.More st m o) = Advances r st m o
IsAdvance r (advance.Halts h) = Halted r h

-- ---- errors and whole readings

abbrev pub HaltOf : Result Halt AllocError → LexError → State → Openings → Type 0
HaltOf (Ok h) error.Memory st p = ⊥
HaltOf (Ok h) error.End st p = h ≡ halt.Ended st p
HaltOf (Ok h) (error.Bad f) st p = h ≡ halt.Stopped (stop.Bad f) p
HaltOf (Err e) x st p = Unit {0}

-- The reading of the text halts so.
pub record IsRead (text : List ℕ) (h : Halt) : Type 0 where
  pub tokens : List Token
  pub reader : Reader
  pub after : After max_nesting text tokens reader
  pub numbered : Numbered reader.machine
  pub halted : Halted reader h

-- the fault and its line, as they are found
abbrev pub IsFault : ParseErr → List ℕ → Openings → Stop → Type 0
IsFault (parse_err.Syntax line f) text p s = (f ≡ (blamed (line_again text) p s).0) × (line ≡ line_again text (blamed (line_again text) p s).1)
IsFault parse_err.NoMemory text p s = ⊥

-- where a token is refused: it is too deep if it is taken with room for one more opening
abbrev pub IsRefusal : ParseErr → Bool → ℕ → List ℕ → Openings → Stop → Type 0
IsRefusal (parse_err.Syntax line f) true l text p s = (f ≡ TooDeep) × (line ≡ l)
IsRefusal parse_err.NoMemory true l text p s = ⊥
IsRefusal e false l text p s = IsFault e text p s

abbrev pub Refuses : ParseErr → List ℕ → Openings → Stop → Type 0
Refuses e text p s = let l = looked p.count (reader_at (suc max_nesting) text) in IsRefusal e l.1 l.0 text p s

-- where the text ends
abbrev pub Ends : Result Script ParseErr → State → List ℕ → Openings → Type 0
Ends (Ok s) st text p = accept st ≡ Some s
Ends (Err parse_err.NoMemory) st text p = Unit {0}
Ends (Err e) st text p = (accept st ≡ None) × IsFault e text p stop.End
