-- Operators and reserved words that are written are read again, whatever comes behind them.
use Rattle.std.proofs.Common.{◌≡◌, ℕ, List, [], ◌∷◌, ◌++◌, refl, ap, ◌∙◌}
use Rattle.sh_lexer.specs.declared.token.Token.{Token}
use Rattle.sh_lexer.specs.declared.token.Token.TheVariants as token
use Rattle.sh_lexer.specs.declared.token.Op.{Op}
use Rattle.sh_lexer.specs.declared.token.Op.TheVariants as op
use Rattle.sh_lexer.specs.declared.token.End.TheVariants as end
use Rattle.sh_lexer.specs.declared.token.Mode.{Mode}
use Rattle.sh_lexer.specs.declared.token.Mode.TheVariants as mode
use Rattle.sh_lexer.specs.Bytes.{skip, piece, special}
use Rattle.sh_lexer.specs.Modes.{Reads, as_seen, ends_list, parts_patterns, in_of_case, after_op}
use Rattle.sh_lexer.specs.Lex as spec
use Rattle.sh_syntax.specs.declared.fault.Fault.TheVariants.{Unexpected}
use Rattle.sh_lexer.specs.Lex.{Lexed, got, bad, lex}
use Rattle.sh_lexer.specs.Lexes.{Lexes, source, in_source}
use Rattle.sh_spell.specs.Layout.{op_text}
use Rattle.sh_spell.specs.Tidy.{IsBetween}
use Rattle.sh_spell.proofs.Runs.{apart}
use Rattle.sh_spell.proofs.Redirects.{blank-peel, byte-peel}
use Rattle.sh_spell.proofs.Steps.{behind_blank}
use Rattle.sh_spell.proofs.Whole.{lex-at}

-- what is read wherever a word may begin
abbrev pub IsSign : Op → Type 0
IsSign op.AndIf = Unit {0}
IsSign op.OrIf = Unit {0}
IsSign op.Semi = Unit {0}
IsSign op.DoubleSemi = Unit {0}
IsSign op.Pipe = Unit {0}
IsSign op.Open = Unit {0}
IsSign op.Close = Unit {0}
IsSign o = ⊥

-- what is read where a command may begin
abbrev pub IsReserved : Op → Type 0
IsReserved op.Bang = Unit {0}
IsReserved op.LeftBrace = Unit {0}
IsReserved op.RightBrace = Unit {0}
IsReserved op.Case = Unit {0}
IsReserved op.Do = Unit {0}
IsReserved op.Done = Unit {0}
IsReserved op.Elif = Unit {0}
IsReserved op.Else = Unit {0}
IsReserved op.Esac = Unit {0}
IsReserved op.Fi = Unit {0}
IsReserved op.For = Unit {0}
IsReserved op.If = Unit {0}
IsReserved op.In = Unit {0}
IsReserved op.Then = Unit {0}
IsReserved op.Until = Unit {0}
IsReserved op.While = Unit {0}
IsReserved o = ⊥

sign-at : (m : Mode) (o : Op) (c : List ℕ) → IsBetween m → IsSign o → lex m (op_text o ++ 32 ∷ c) ≡ got (token.Operator o) (32 ∷ c)
unfolding spec.between
sign-at m op.AndIf c i s = lex-at m 38 (38 ∷ 32 ∷ c) i (refl, refl, apart 38 (38 ∷ 32 ∷ c) refl) ∙ ap (spec.two 38 (bad Unexpected) op.AndIf) (byte-peel 38 (32 ∷ c) refl)
sign-at m op.OrIf c i s = lex-at m 124 (124 ∷ 32 ∷ c) i (refl, refl, apart 124 (124 ∷ 32 ∷ c) refl) ∙ ap (λ t. spec.two 124 (spec.operator op.Pipe t) op.OrIf t) (byte-peel 124 (32 ∷ c) refl)
sign-at m op.Semi c i s = lex-at m 59 (32 ∷ c) i (refl, refl, apart 59 (32 ∷ c) refl) ∙ ap (λ t. spec.two 59 (spec.operator op.Semi t) op.DoubleSemi t) (blank-peel c)
sign-at m op.DoubleSemi c i s = lex-at m 59 (59 ∷ 32 ∷ c) i (refl, refl, apart 59 (59 ∷ 32 ∷ c) refl) ∙ ap (λ t. spec.two 59 (spec.operator op.Semi t) op.DoubleSemi t) (byte-peel 59 (32 ∷ c) refl)
sign-at m op.Pipe c i s = lex-at m 124 (32 ∷ c) i (refl, refl, apart 124 (32 ∷ c) refl) ∙ ap (λ t. spec.two 124 (spec.operator op.Pipe t) op.OrIf t) (blank-peel c)
sign-at m op.Open c i s = lex-at m 40 (32 ∷ c) i (refl, refl, apart 40 (32 ∷ c) refl)
sign-at m op.Close c i s = lex-at m 41 (32 ∷ c) i (refl, refl, apart 41 (32 ∷ c) refl)
sign-at m o c i s = absurd s

reserved-at : (o : Op) (c : List ℕ) → IsReserved o → lex mode.Command (op_text o ++ 32 ∷ c) ≡ got (token.Operator o) (32 ∷ c)
unfolding skip spec.between spec.plain_at piece special
reserved-at op.Bang [] s = refl
reserved-at op.LeftBrace [] s = refl
reserved-at op.RightBrace [] s = refl
reserved-at op.Case [] s = refl
reserved-at op.Do [] s = refl
reserved-at op.Done [] s = refl
reserved-at op.Elif [] s = refl
reserved-at op.Else [] s = refl
reserved-at op.Esac [] s = refl
reserved-at op.Fi [] s = refl
reserved-at op.For [] s = refl
reserved-at op.If [] s = refl
reserved-at op.In [] s = refl
reserved-at op.Then [] s = refl
reserved-at op.Until [] s = refl
reserved-at op.While [] s = refl
reserved-at op.Bang (b ∷ c) s = refl
reserved-at op.LeftBrace (b ∷ c) s = refl
reserved-at op.RightBrace (b ∷ c) s = refl
reserved-at op.Case (b ∷ c) s = refl
reserved-at op.Do (b ∷ c) s = refl
reserved-at op.Done (b ∷ c) s = refl
reserved-at op.Elif (b ∷ c) s = refl
reserved-at op.Else (b ∷ c) s = refl
reserved-at op.Esac (b ∷ c) s = refl
reserved-at op.Fi (b ∷ c) s = refl
reserved-at op.For (b ∷ c) s = refl
reserved-at op.If (b ∷ c) s = refl
reserved-at op.In (b ∷ c) s = refl
reserved-at op.Then (b ∷ c) s = refl
reserved-at op.Until (b ∷ c) s = refl
reserved-at op.While (b ∷ c) s = refl
reserved-at o c s = absurd s

esac-at : (c : List ℕ) → lex mode.Pattern (op_text op.Esac ++ 32 ∷ c) ≡ got (token.Operator op.Esac) (32 ∷ c)
unfolding skip spec.between spec.plain_at piece special
esac-at [] = refl
esac-at (b ∷ c) = refl

op-between : (o : Op) → IsBetween (after_op o)
op-between op.Case = tt
op-between op.For = tt
op-between op.In = tt
op-between op.PipePattern = tt
op-between op.DoubleSemi = tt
op-between op.CaseIn = tt
op-between op.OpenPattern = tt
op-between o = tt

one-op : (m : Mode) (t : List ℕ) (o k : Op) (c : List ℕ) (ts : List Token) → lex m t ≡ got (token.Operator o) (32 ∷ c) → Reads (token.Operator o) (token.Operator k) → Lexes (after_op k) (source c []) ts →
    Lexes m (source t []) (token.Operator k ∷ ts)
one-op m t o k c ts e r h = (token.Operator o, source (32 ∷ c) [], ap (in_source []) e, r, behind_blank (after_op k) c [] ts (op-between k) h)

pub sign : (m : Mode) (o : Op) (c : List ℕ) (ts : List Token) → IsBetween m → IsSign o → Lexes (after_op o) (source c []) ts → Lexes m (source (op_text o ++ 32 ∷ c) []) (token.Operator o ∷ ts)
sign m o c ts i s h = one-op m (op_text o ++ 32 ∷ c) o o c ts (sign-at m o c i s) as_seen h

pub reserved : (o : Op) (c : List ℕ) (ts : List Token) → IsReserved o → Lexes (after_op o) (source c []) ts → Lexes mode.Command (source (op_text o ++ 32 ∷ c) []) (token.Operator o ∷ ts)
reserved o c ts s h = one-op mode.Command (op_text o ++ 32 ∷ c) o o c ts (reserved-at o c s) as_seen h

pub pattern_bar : (m : Mode) (c : List ℕ) (ts : List Token) → IsBetween m → Lexes mode.Arguments (source c []) ts → Lexes m (source (op_text op.PipePattern ++ 32 ∷ c) []) (token.Operator op.PipePattern ∷ ts)
pattern_bar m c ts i h = one-op m (op_text op.Pipe ++ 32 ∷ c) op.Pipe op.PipePattern c ts (sign-at m op.Pipe c i tt) parts_patterns h

pub in_of : (c : List ℕ) (ts : List Token) → Lexes mode.Pattern (source c []) ts → Lexes mode.Command (source (op_text op.CaseIn ++ 32 ∷ c) []) (token.Operator op.CaseIn ∷ ts)
in_of c ts h = one-op mode.Command (op_text op.In ++ 32 ∷ c) op.In op.CaseIn c ts (reserved-at op.In c tt) in_of_case h

pub esac : (c : List ℕ) (ts : List Token) → Lexes mode.Command (source c []) ts → Lexes mode.Pattern (source (op_text op.Esac ++ 32 ∷ c) []) (token.Operator op.Esac ∷ ts)
esac c ts h = one-op mode.Pattern (op_text op.Esac ++ 32 ∷ c) op.Esac op.Esac c ts (esac-at c) as_seen h

-- the `)` at the end of a substitution
pub list_end : (m n : Mode) (c : List ℕ) (ts : List Token) → IsBetween m → Lexes n (source c []) ts → Lexes m (source (41 ∷ c) []) (token.End end.List n ∷ ts)
unfolding spec.between
list_end m n c ts i h = (token.Operator op.Close, source c [], ap (in_source []) (lex-at m 41 c i (refl, refl, apart 41 c refl)), ends_list, h)
