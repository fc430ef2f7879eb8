use Rattle.std.proofs.Common.{◌-◌, length, Option, Ok, Err, sym, subst, ◌∙◌, arith}
use Rattle.sh_arith.specs.declared.instr.Now.{Now}
use Rattle.sh_arith.specs.declared.token.LexError.{LexError}
use Rattle.sh_arith.specs.Lex.{Gives, token_at}
use Rattle.sh_arith.specs.Machine.{step_now}
use Rattle.sh_arith.specs.Steps.{Steps}
use Rattle.sh_arith.proofs.Text.{known-start, known-next, known-bad, known-refused, known-unended, known-whole, known-room, lexed-here, none-here, smaller-here}
use Rattle.sh_arith.proofs.reading.read.Goals as goal

pub tokens-init : goal.tokens-init
tokens-init c = record {
  within = omega arith;
  known = rw (c.new.ensures, c.new-2.ensures) (known-start _);
}

pub returns-in-Err-Bad : goal.returns-in-Err-Bad
returns-in-Err-Bad c =
    let e = subst (λ (x : LexError). Gives (Err x) (token_at (length c.args.text.now - length c.skip-here.result.now) c.skip-here.result.now)) c.in-Err-Bad.field-0-is c.in-Err-Bad.ensures in
    none-here c.args.text.now c.tokens.left.now c.skip-here.result.now c.skip-here.ensures.text (known-bad c.args.text.now c.tokens.left.now c.tokens.now c.tokens.rest c.tokens.invariant.known (lexed-here c.args.text.now c.tokens.left.now c.skip-here.result.now _ c.skip-here.ensures.text e))

pub returns-in-Some : goal.returns-in-Some
returns-in-Some c =
    let e = subst (λ (x : LexError). Gives (Err x) (token_at (length c.args.text.now - length c.skip-here.result.now) c.skip-here.result.now)) c.in-Err-End.field-0-is c.in-Err-End.ensures in
    known-whole c.args.text.now c.tokens.left.now c.tokens.now c.tokens.rest _ c.tokens.invariant.known (lexed-here c.args.text.now c.tokens.left.now c.skip-here.result.now _ c.skip-here.ensures.text e) (sym c.in_ok-code-in-Err-End.ensures ∙ c.in-Some.is)

pub returns-in-None : goal.returns-in-None
returns-in-None c =
    let e = subst (λ (x : LexError). Gives (Err x) (token_at (length c.args.text.now - length c.skip-here.result.now) c.skip-here.result.now)) c.in-Err-End.field-0-is c.in-Err-End.ensures in
    known-unended c.args.text.now c.tokens.left.now c.tokens.now c.tokens.rest c.tokens.invariant.known (lexed-here c.args.text.now c.tokens.left.now c.skip-here.result.now _ c.skip-here.ensures.text e) (sym c.in_ok-code-in-Err-End.ensures ∙ c.in-None.is)

pub step-requires : goal.step-requires
step-requires c = omega (arith, known-room _ _ _ _ c.tokens.invariant.known)

pub tokens-smaller : goal.tokens-smaller
tokens-smaller c = smaller-here _ c.skip-here.result.now c.tokens.left.now c.in-Ok.found.1.now _ c.in-Ok.ensures c.skip-here.ensures.within

pub tokens-preserved : goal.tokens-preserved
tokens-preserved c =
    let s = subst (λ (o : Option Now). Steps (Ok o) c.step.new.rest (step_now c.tokens.now c.tokens.rest c.in-Ok.found.0)) c.in-Some-2.is c.in_ok-then.ensures in
    let h = smaller-here _ c.skip-here.result.now c.tokens.left.now c.in-Ok.found.1.now _ c.in-Ok.ensures c.skip-here.ensures.within in
    record {
      within = omega (arith, h, c.tokens.invariant.within);
      known = known-next c.args.text.now c.tokens.left.now c.tokens.now c.tokens.rest _ _ _ _ c.tokens.invariant.known (lexed-here c.args.text.now c.tokens.left.now c.skip-here.result.now _ c.skip-here.ensures.text c.in-Ok.ensures) s;
    }

pub returns-in-None-2 : goal.returns-in-None-2
returns-in-None-2 c =
    let s = subst (λ (o : Option Now). Steps (Ok o) c.step.new.rest (step_now c.tokens.now c.tokens.rest c.in-Ok.found.0)) c.in-None-2.is c.in_ok-then.ensures in
    none-here c.args.text.now c.tokens.left.now c.skip-here.result.now c.skip-here.ensures.text (known-refused c.args.text.now c.tokens.left.now c.tokens.now c.tokens.rest _ _ c.tokens.invariant.known (lexed-here c.args.text.now c.tokens.left.now c.skip-here.result.now _ c.skip-here.ensures.text c.in-Ok.ensures) s)
