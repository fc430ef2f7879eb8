-- Tokens are those of one script at most.
use Rattle.std.proofs.Common.{◌≡◌, ℕ, List, Some, sym, ◌∙◌}
use Rattle.sh_syntax.specs.declared.tree.Script.{Script}
use Rattle.sh_lexer.specs.declared.token.Token.{Token}
use Rattle.sh_grammar.specs.Grammar.{ParsesWithin}
use Rattle.sh_grammar.proofs.Complete.{complete}

injected : (s u : Script) → Some s ≡ Some u → s ≡ u
injected s u e = cc

pub unique : {d : ℕ} {s u : Script} {ts : List Token} → ParsesWithin d s ts → ParsesWithin d u ts → s ≡ u
unique {d} {s} {u} p q = injected s u (sym (complete p) ∙ complete q)
