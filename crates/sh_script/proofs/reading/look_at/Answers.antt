use Rattle.std.proofs.Common.{◌≡◌, ℕ, suc, sym, ap, subst, refl, ◌∙◌, arith}
use Rattle.sh_lexer.specs.Trail.{line_of}
use Rattle.sh_machine.specs.Numbered.{Within}
use Rattle.sh_script.specs.declared.reading.Reader.{Reader}
use Rattle.sh_script.specs.Turns.{nesting, reader_at, looked}
use Rattle.sh_script.proofs.Stands.{stands-begin, stands-within, stands-few, nesting-few, moved-on, moved-smaller, looked-last, looked-next, looked-halt}
use Rattle.sh_script.proofs.reading.look_at.Goals as goal

pub tokens-init : goal.tokens-init
tokens-init c =
    let b = c.in_ok-reader.ensures in
    let d = c.nesting.ensures in
    let e = b.reader ∙ ap (λ (n : ℕ). reader_at n c.args.text) d in
    record {
      stands = stands-begin (nesting c.args.one_more) c.args.text c.in_ok-reader.reader (nesting-few c.args.one_more) c.requires e b.numbered
          (subst (λ (n : ℕ). Within (suc n) c.in_ok-reader.reader.machine) d b.counted);
      same = ap (λ (r : Reader). looked c.args.number r) e;
    }

pub next_token-requires-clause-numbered : goal.next_token-requires-clause-numbered
next_token-requires-clause-numbered c = c.tokens.invariant.stands.numbered

pub next_token-requires-clause-counted : goal.next_token-requires-clause-counted
next_token-requires-clause-counted c = stands-within (nesting c.args.one_more) c.args.text c.tokens.reader c.tokens.invariant.stands

pub next_token-requires-clause-few : goal.next_token-requires-clause-few
next_token-requires-clause-few c = stands-few (nesting c.args.one_more) c.args.text c.tokens.reader c.tokens.invariant.stands

pub returns-then-left-eq0 : goal.returns-then-left-eq0
returns-then-left-eq0 c =
    let n = c.in_ok-lexer in
    looked-last c.tokens.left c.last_line-line.result c.tokens.reader n.lexer n.next c.in-More.machine c.in-More.mode c.in-More.openings (omega arith)
    c.last_line-line.ensures n.ensures.lexer n.ensures.advance c.in-More.is ∙ c.tokens.invariant.same

pub tokens-smaller : goal.tokens-smaller
tokens-smaller c =
    let n = c.in_ok-lexer in
    moved-smaller c.tokens.reader n.lexer n.next c.in-More.machine c.in-More.mode c.in-More.openings n.ensures.lexer n.ensures.advance c.in-More.is

pub tokens-preserved : goal.tokens-preserved
tokens-preserved c =
    let n = c.in_ok-lexer in
    record {
      stands = moved-on (nesting c.args.one_more) c.args.text c.tokens.reader n.lexer n.next c.in-More.machine c.in-More.mode c.in-More.openings c.tokens.invariant.stands
          n.ensures.lexer n.ensures.advance c.in-More.is;
      same = looked-next c.tokens.left c.tokens.reader n.lexer n.next c.in-More.machine c.in-More.mode c.in-More.openings (omega arith)
          n.ensures.lexer n.ensures.advance c.in-More.is ∙ c.tokens.invariant.same;
    }

pub returns-in-Halts : goal.returns-in-Halts
returns-in-Halts c =
    let n = c.in_ok-lexer in
    looked-halt c.tokens.left c.last_line-line-in-Halts.result c.tokens.reader n.lexer n.next c.in-Halts.halt
    c.last_line-line-in-Halts.ensures n.ensures.lexer n.ensures.advance c.in-Halts.is ∙ c.tokens.invariant.same
