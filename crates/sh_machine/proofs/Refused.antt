-- What the machine refuses, where one form of a token or of what is open is ruled out.
use Rattle.std.proofs.Common.{◌≡◌, ℕ, Bool, List, [], ◌∷◌, Option, Some, None, refl}
use Rattle.sh_syntax.specs.declared.tree.Command.{Command}
use Rattle.sh_syntax.specs.declared.tree.Compound.{Compound}
use Rattle.sh_syntax.specs.declared.tree.Redir.{Redir}
use Rattle.sh_lexer.specs.declared.token.Token.{Token}
use Rattle.sh_lexer.specs.declared.token.Token.TheVariants as token
use Rattle.sh_lexer.specs.declared.token.Mode.{Mode}
use Rattle.sh_grammar.specs.declared.state.Draft.{Draft}
use Rattle.sh_grammar.specs.declared.state.Pipe.{Pipe}
use Rattle.sh_grammar.specs.declared.state.Host.{Host}
use Rattle.sh_grammar.specs.declared.state.Gap.{Gap}
use Rattle.sh_grammar.specs.declared.state.Simple.{Simple}
use Rattle.sh_grammar.specs.declared.state.Now.{Now}
use Rattle.sh_grammar.specs.declared.state.Now.TheVariants as now
use Rattle.sh_grammar.specs.declared.state.Below.{Below}
use Rattle.sh_grammar.specs.declared.state.Below.TheVariants as below
use Rattle.sh_grammar.specs.Machine as machine

pub delimiter_refused : (fd : ℕ) (strip : Bool) (h : Host) (b : List Below) (d : ℕ) (s : Draft) (t : Token) →
    ((x : List ℕ) (q : Bool) (m : Mode) → t ≡ token.Delimiter x q m → ⊥) → machine.delimiter fd strip h b d s t ≡ None
delimiter_refused fd strip h b d s (token.Delimiter x q m) e = absurd (e x q m refl)
delimiter_refused fd strip h b d s t e = refl

pub command_refused : (c : Command) (f : Below) (b : List Below) (d : ℕ) (s : Draft) (t : Token) →
    ((x : List ℕ) (n : ℕ) → f ≡ below.Function x n → ⊥) → ((p : Pipe) → f ≡ below.Pipe p → ⊥) → machine.command_ended c (f ∷ b) d s t ≡ None
command_refused c (below.Function x n) b d s t e g = absurd (e x n refl)
command_refused c (below.Pipe p) b d s t e g = absurd (g p refl)
command_refused c f b d s t e g = refl

pub end_refused : (n : Now) (b : List Below) (s : Draft) → ((g : Gap) → n ≡ now.Gap g → ⊥) → ((c : Simple) → n ≡ now.Elements c → ⊥) →
    ((x : Compound) (rs : List Redir) → n ≡ now.Redirs x rs → ⊥) → None ≡ machine.accept_now n b s
end_refused (now.Gap g) b s e f h = absurd (e g refl)
end_refused (now.Elements c) b s e f h = absurd (f c refl)
end_refused (now.Redirs x rs) b s e f h = absurd (h x rs refl)
end_refused n b s e f h = refl
