-- What the tests of tokens say.
use Rattle.std.proofs.Common.{◌≡◌, ℕ, Bool, true, false, ◌&&◌, ◌==◌, if◌then◌else◌, List, refl, sym, ◌∙◌, ap}
use Rattle.std.proofs.lemmas.Slice.Eq.{bytes_eq-Decides}
use Rattle.std.proofs.lemmas.Bool.{eq-eqb, eqb-true}
use Rattle.sh_lexer.specs.declared.token.Token.{Token}
use Rattle.sh_lexer.specs.declared.token.Token.TheVariants as token
use Rattle.sh_lexer.specs.declared.token.Op.{Op}
use Rattle.sh_lexer.specs.declared.token.Op.TheVariants as op
use Rattle.sh_lexer.specs.declared.token.End.{End}
use Rattle.sh_lexer.specs.declared.token.End.TheVariants as end
use Rattle.sh_lexer.specs.declared.token.Here.{Here}
use Rattle.sh_lexer.specs.declared.token.Mode.{Mode}
use Rattle.sh_lexer.specs.declared.token.Mode.TheVariants as mode
use Rattle.sh_grammar.specs.Tests.{same_bool, same_here, same_mode, end_code, op_code, is_op, is_end}

both : (a b : Bool) → (a && b) ≡ true → (a ≡ true) × (b ≡ true)
both true b e = (refl, e)
both false b e = absurd cc

both-true : (a b : Bool) → a ≡ true → b ≡ true → (a && b) ≡ true
both-true true b e f = f
both-true false b e f = absurd cc

same_bool-refl : (a : Bool) → same_bool a a ≡ true
same_bool-refl true = refl
same_bool-refl false = refl

same_bool-is : (a b : Bool) → same_bool a b ≡ true → a ≡ b
same_bool-is true true e = refl
same_bool-is false false e = refl
same_bool-is true false e = absurd cc
same_bool-is false true e = absurd cc

same_here-refl : (a : Here) → same_here a a ≡ true
same_here-refl a = both-true _ _ ((bytes_eq-Decides a.delimiter a.delimiter).1 refl) (both-true _ _ (same_bool-refl a.strip) (same_bool-refl a.quoted))

abbrev here : List ℕ → Bool → Bool → Here
here x p q = record { delimiter = x; strip = p; quoted = q }

here-is : (a b : Here) → a.delimiter ≡ b.delimiter → a.strip ≡ b.strip → a.quoted ≡ b.quoted → a ≡ b
here-is a b e f g =
    ap (λ x. here x a.strip a.quoted) e ∙ (ap (λ x. here b.delimiter x a.quoted) f ∙ ap (here b.delimiter b.strip) g)

same_here-is : (a b : Here) → same_here a b ≡ true → a ≡ b
same_here-is a b e =
    let k = both _ _ e in let l = both _ _ k.1 in
    here-is a b ((bytes_eq-Decides a.delimiter b.delimiter).0 k.0) (same_bool-is _ _ l.0) (same_bool-is _ _ l.1)

pub same_mode-refl : (m : Mode) → same_mode m m ≡ true
same_mode-refl mode.Command = refl
same_mode-refl mode.Prefix = refl
same_mode-refl mode.Arguments = refl
same_mode-refl mode.Pattern = refl
same_mode-refl mode.Word = refl
same_mode-refl mode.Quotes = refl
same_mode-refl (mode.Braces a) = same_bool-refl a
same_mode-refl (mode.Arith a) = eq-eqb a a refl
same_mode-refl mode.Body = refl
same_mode-refl mode.Delimiter = refl
same_mode-refl (mode.Cut a) = same_here-refl a

pub same_mode-is : (m n : Mode) → same_mode m n ≡ true → m ≡ n
same_mode-is mode.Command mode.Command e = refl
same_mode-is mode.Prefix mode.Prefix e = refl
same_mode-is mode.Arguments mode.Arguments e = refl
same_mode-is mode.Pattern mode.Pattern e = refl
same_mode-is mode.Word mode.Word e = refl
same_mode-is mode.Quotes mode.Quotes e = refl
same_mode-is (mode.Braces a) (mode.Braces b) e = ap mode.Braces (same_bool-is a b e)
same_mode-is (mode.Arith a) (mode.Arith b) e = ap mode.Arith (eqb-true a b e)
same_mode-is mode.Body mode.Body e = refl
same_mode-is mode.Delimiter mode.Delimiter e = refl
same_mode-is (mode.Cut a) (mode.Cut b) e = ap mode.Cut (same_here-is a b e)
same_mode-is m n e = absurd cc

pub same_mode-at : (m n : Mode) → m ≡ n → same_mode m n ≡ true
same_mode-at m n e = ap (same_mode m) (sym e) ∙ same_mode-refl m

abbrev op_of : ℕ → Op
op_of n = if n == 0 then op.AndIf else (if n == 1 then op.OrIf else (if n == 2 then op.Semi else (if n == 3 then op.DoubleSemi else (if n == 4 then op.Pipe else (if n == 5 then op.PipePattern else (if n == 6 then op.Open else (if n == 7 then op.OpenPattern else (if n == 8 then op.Close else (if n == 9 then op.Bang else (if n == 10 then op.LeftBrace else (if n == 11 then op.RightBrace else (if n == 12 then op.Case else (if n == 13 then op.Do else (if n == 14 then op.Done else (if n == 15 then op.Elif else (if n == 16 then op.Else else (if n == 17 then op.Esac else (if n == 18 then op.Fi else (if n == 19 then op.For else (if n == 20 then op.If else (if n == 21 then op.In else (if n == 22 then op.CaseIn else (if n == 23 then op.Then else (if n == 24 then op.Until else (op.While)))))))))))))))))))))))))

abbrev end_of : ℕ → End
end_of n = if n == 0 then end.Word else (if n == 1 then end.Quote else (if n == 2 then end.Brace else (if n == 3 then end.Arith else (if n == 4 then end.List else (if n == 5 then end.Text else (end.Newline))))))

op_of-code : (o : Op) → op_of (op_code o) ≡ o
op_of-code op.AndIf = refl
op_of-code op.OrIf = refl
op_of-code op.Semi = refl
op_of-code op.DoubleSemi = refl
op_of-code op.Pipe = refl
op_of-code op.PipePattern = refl
op_of-code op.Open = refl
op_of-code op.OpenPattern = refl
op_of-code op.Close = refl
op_of-code op.Bang = refl
op_of-code op.LeftBrace = refl
op_of-code op.RightBrace = refl
op_of-code op.Case = refl
op_of-code op.Do = refl
op_of-code op.Done = refl
op_of-code op.Elif = refl
op_of-code op.Else = refl
op_of-code op.Esac = refl
op_of-code op.Fi = refl
op_of-code op.For = refl
op_of-code op.If = refl
op_of-code op.In = refl
op_of-code op.CaseIn = refl
op_of-code op.Then = refl
op_of-code op.Until = refl
op_of-code op.While = refl

end_of-code : (e : End) → end_of (end_code e) ≡ e
end_of-code end.Word = refl
end_of-code end.Quote = refl
end_of-code end.Brace = refl
end_of-code end.Arith = refl
end_of-code end.List = refl
end_of-code end.Text = refl
end_of-code end.Newline = refl

pub is_op-is : (o : Op) (t : Token) → is_op o t ≡ true → t ≡ token.Operator o
is_op-is o (token.Operator p) e = ap token.Operator (sym (op_of-code p) ∙ (ap op_of (sym (eqb-true (op_code o) (op_code p) e)) ∙ op_of-code o))
is_op-is o t e = absurd cc

pub is_end-is : (x : End) (m : Mode) (t : Token) → is_end x m t ≡ true → t ≡ token.End x m
is_end-is x m (token.End y n) e =
    let k = both _ _ e in
    let f : y ≡ x = sym (end_of-code y) ∙ (ap end_of (sym (eqb-true (end_code x) (end_code y) k.0)) ∙ end_of-code x) in
    let g = same_mode-is m n k.1 in ap (λ (z : End). token.End z n) f ∙ ap (token.End x) (sym g)
is_end-is x m t e = absurd cc

pub is_end-at : (x : End) (m n : Mode) → m ≡ n → is_end x m (token.End x n) ≡ true
is_end-at x m n e = both-true _ _ (eq-eqb (end_code x) (end_code x) refl) (same_mode-at m n e)
