-- What a whole reading says of the text.
use Rattle.std.proofs.Common.{◌≡◌, ℕ, suc, Bool, true, false, List, [], Option, Some, None, Result, Ok, Err, IfOk, refl, sym, ap, subst, ◌∙◌}
use Rattle.std.specs.declared.alloc.AllocError.{AllocError}
use Rattle.sh_syntax.specs.declared.fault.Fault.{Fault}
use Rattle.sh_syntax.specs.declared.fault.Fault.TheVariants.{TooDeep}
use Rattle.sh_syntax.specs.declared.tree.Script.{Script}
use Rattle.sh_lexer.specs.declared.token.Token.{Token}
use Rattle.sh_lexer.specs.Lexes.{source, next, ended}
use Rattle.sh_lexer.specs.Trail.{source_of}
use Rattle.sh_grammar.specs.Grammar.{max_nesting}
use Rattle.sh_grammar.specs.Spells.{Spells}
use Rattle.sh_grammar.specs.Machine.{State, accept}
use Rattle.sh_machine.specs.Numbered.{Numbered}
use Rattle.sh_script.specs.declared.openings.Openings.{Openings}
use Rattle.sh_script.specs.declared.openings.Stop.{Stop}
use Rattle.sh_script.specs.declared.openings.Stop.TheVariants as stop
use Rattle.sh_script.specs.declared.reading.Reader.{Reader}
use Rattle.sh_script.specs.declared.reading.Halt.TheVariants as halt
use Rattle.sh_script.specs.declared.error.ParseErr.{ParseErr}
use Rattle.sh_script.specs.declared.error.ParseErr.TheVariants as err
use Rattle.sh_script.specs.Answers.{IsScript, IsBad, Answers}
use Rattle.sh_script.specs.FirstBad.{FirstBad}
use Rattle.sh_script.specs.Openings.{blamed}
use Rattle.sh_script.specs.Turns.{reader_at, looked, line_again, After}
use Rattle.sh_script.specs.Readings.{Ended, Stopped, IsRead, IsFault, IsRefusal, Refuses, Ends}
use Rattle.sh_script.proofs.Text.{Known, known-spells, known-only}
use Rattle.sh_script.proofs.Turns.{Here, here}
use Rattle.sh_script.proofs.Bad.{ended-bad, stopped-bad, too-deep-bad}
use Rattle.sh_script.proofs.Only.{one-bad, bad-none}

known : (text : List ℕ) (ts : List Token) (r : Reader) → After max_nesting text ts r → Known (source text []) r.mode (source_of r.lexer) r.machine
known text ts r a = let h = here max_nesting text ts r a in record { tokens = ts; front = h.front; reached = h.reached; mode = h.mode }

-- The text ends with a script.
pub whole : (text : List ℕ) (st : State) (p : Openings) (s : Script) → IsRead text (halt.Ended st p) → accept st ≡ Some s → IsScript s text
whole text st p s x e =
    let k = known text x.tokens x.reader x.after in
    let f : accept x.reader.machine ≡ Some s = ap accept (sym x.halted.machine) ∙ e in
    record {
      spelled = known-spells text x.reader.mode (source_of x.reader.lexer) x.reader.machine s k x.halted.is_ended f;
      only = known-only text x.reader.mode (source_of x.reader.lexer) x.reader.machine s k x.halted.is_ended f;
    }

is-bad : (text : List ℕ) (f : Fault) (line : ℕ) → FirstBad text f line → IsBad f line text
is-bad text f line b = record { bad = b; only = λ g k c. one-bad text g f k line c b; none = λ u p. bad-none text f line u b p }

at-fault : (text : List ℕ) (f g : Fault) (line k : ℕ) → f ≡ g → line ≡ k → FirstBad text g k → IsBad f line text
at-fault text f g line k e h b = is-bad text f line (subst (λ (x : Fault). FirstBad text x line) (sym e) (subst (λ (n : ℕ). FirstBad text g n) (sym h) b))

-- It ends too early.
pub early : (text : List ℕ) (st : State) (p : Openings) (e : ParseErr) → IsRead text (halt.Ended st p) → accept st ≡ None → IsFault e text p stop.End → Answers (Err e) text
early text st p (err.Syntax line f) x n h = at-fault text f _ line _ h.0 h.1 (ended-bad text x.tokens x.reader st p x.after x.halted n)
early text st p err.NoMemory x n h = tt

-- A token is refused, or there is none.
refused-by : (text : List ℕ) (s : Stop) (p : Openings) (e : ParseErr) (taken : Bool) (l : ℕ) → IsRead text (halt.Stopped s p) →
    looked p.count (reader_at (suc max_nesting) text) ≡ (l, taken) → IsRefusal e taken l text p s → Answers (Err e) text
refused-by text s p (err.Syntax line f) true l x k h = at-fault text f TooDeep line l h.0 h.1 (too-deep-bad text x.tokens x.reader s p l x.after x.halted k)
refused-by text s p (err.Syntax line f) false l x k h = at-fault text f _ line _ h.0 h.1 (stopped-bad text x.tokens x.reader s p l x.after x.halted k)
refused-by text s p err.NoMemory taken l x k h = tt

pub refusal : (text : List ℕ) (s : Stop) (p : Openings) (e : ParseErr) → IsRead text (halt.Stopped s p) → Refuses e text p s → Answers (Err e) text
refusal text s p e x h = let l = looked p.count (reader_at (suc max_nesting) text) in refused-by text s p e l.1 l.0 x refl h

pub ends-answer : (text : List ℕ) (st : State) (p : Openings) (r : Result Script ParseErr) → IsRead text (halt.Ended st p) → Ends r st text p → Answers r text
ends-answer text st p (Ok s) x h = whole text st p s x h
ends-answer text st p (Err (err.Syntax line f)) x h = early text st p (err.Syntax line f) x h.0 h.1
ends-answer text st p (Err err.NoMemory) x h = tt

-- where the text ends early
pub ends-early : (st : State) (text : List ℕ) (p : Openings) (e : ParseErr) → accept st ≡ None → IsFault e text p stop.End → Ends (Err e) st text p
ends-early st text p (err.Syntax line f) n h = (n, h)
ends-early st text p err.NoMemory n h = tt

pub read-numbered : (text : List ℕ) (st : State) (p : Openings) → IsRead text (halt.Ended st p) → Numbered st
read-numbered text st p x = subst (λ (y : State). Numbered y) (sym x.halted.machine) x.numbered

-- what was found with room for one more opening
pub looked-is : (number n : ℕ) (t text : List ℕ) (line : ℕ) (b taken : Bool) → ◌≡◌ {A = ℕ × Bool} (line, taken) (looked number (reader_at (suc max_nesting) t)) →
    number ≡ n → t ≡ text → taken ≡ b → looked n (reader_at (suc max_nesting) text) ≡ (line, b)
looked-is number n t text line b taken e f g h =
    ap (λ (x : ℕ). looked x (reader_at (suc max_nesting) text)) (sym f) ∙ ap (λ (x : List ℕ). looked number (reader_at (suc max_nesting) x)) (sym g)
    ∙ sym e ∙ ap (λ (x : Bool). (line, x)) h

pub refuses-deep : (text : List ℕ) (p : Openings) (s : Stop) (line : ℕ) → looked p.count (reader_at (suc max_nesting) text) ≡ (line, true) →
    Refuses (err.Syntax line TooDeep) text p s
refuses-deep text p s line e = subst (λ (l : ℕ × Bool). IsRefusal (err.Syntax line TooDeep) l.1 l.0 text p s) (sym e) (refl, refl)

refuses-fault : (text : List ℕ) (p : Openings) (s : Stop) (line : ℕ) (e : ParseErr) → looked p.count (reader_at (suc max_nesting) text) ≡ (line, false) →
    IsFault e text p s → Refuses e text p s
refuses-fault text p s line (err.Syntax l f) k h = subst (λ (x : ℕ × Bool). IsRefusal (err.Syntax l f) x.1 x.0 text p s) (sym k) h
refuses-fault text p s line err.NoMemory k h = absurd h

pub refuses-all : (r : Result ParseErr AllocError) (text : List ℕ) (p : Openings) (s : Stop) (line : ℕ) → looked p.count (reader_at (suc max_nesting) text) ≡ (line, false) →
    IfOk r (λ e. IsFault e text p s) → IfOk r (λ e. Refuses e text p s)
refuses-all (Ok e) text p s line k h = refuses-fault text p s line e k h
refuses-all (Err e) text p s line k h = tt
