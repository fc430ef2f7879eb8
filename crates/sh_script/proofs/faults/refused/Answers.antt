use Rattle.std.proofs.Common.{◌≡◌, ◌≤◌, ℕ, suc, Bool, true, false, List, length, ap, subst, sym, arith}
use Rattle.sh_grammar.specs.Grammar.{max_nesting}
use Rattle.sh_script.specs.Longest.{longest}
use Rattle.sh_script.specs.Turns.{reader_at, looked}
use Rattle.sh_script.proofs.Lines.{lines_few}
use Rattle.sh_script.proofs.Parsed.{looked-is, refuses-deep, refuses-all}
use Rattle.sh_script.proofs.faults.refused.Goals as goal

pub look_at-requires : goal.look_at-requires
look_at-requires c = subst (λ (t : List ℕ). length t ≤ longest) (sym c.in_ok-clone.ensures.cases) c.requires

pub overflow_cast-result : goal.overflow_cast-result
overflow_cast-result c =
    let t = c.in_ok-clone.field-0 in
    let h : length t ≤ longest = subst (λ (u : List ℕ). length u ≤ longest) (sym c.in_ok-clone.ensures.cases) c.requires in
    let e : c.in_ok-line.line ≡ (looked c.count.result (reader_at (suc max_nesting) t)).0 = ap (λ (x : ℕ × Bool). x.0) c.in_ok-line.ensures in
    omega (arith, e, lines_few t c.count.result (suc max_nesting) h)

pub returns-then-taken : goal.returns-then-taken
returns-then-taken c =
    refuses-deep c.args.text.now c.args.openings c.args.stop c.in_ok-line.line
    (looked-is c.count.result c.args.openings.count c.in_ok-clone.field-0 c.args.text.now c.in_ok-line.line true c.in_ok-line.taken c.in_ok-line.ensures
    c.count.ensures c.in_ok-clone.ensures.cases c.if-taken.true)

pub returns : goal.returns
returns c =
    refuses-all c.named.result c.args.text.now c.args.openings c.args.stop c.in_ok-line.line
    (looked-is c.count.result c.args.openings.count c.in_ok-clone.field-0 c.args.text.now c.in_ok-line.line false c.in_ok-line.taken c.in_ok-line.ensures
    c.count.ensures c.in_ok-clone.ensures.cases c.if-taken.false) c.named.ensures
