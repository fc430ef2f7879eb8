use Rattle.std.proofs.Common.{◌≡◌, ◌≤◌, ℕ, Bool, List, length, ap, subst, sym, ◌∙◌, arith}
use Rattle.sh_grammar.specs.Grammar.{max_nesting}
use Rattle.sh_script.specs.Longest.{longest}
use Rattle.sh_script.specs.Turns.{reader_at, looked}
use Rattle.sh_script.proofs.Lines.{lines_few}
use Rattle.sh_script.proofs.faults.line_of.Goals as goal

pub look_at-requires : goal.look_at-requires
look_at-requires c = subst (λ (t : List ℕ). length t ≤ longest) (sym c.in_ok-clone.ensures.cases) c.requires

pub overflow_cast-result : goal.overflow_cast-result
overflow_cast-result c =
    let t = c.in_ok-clone.field-0 in
    let h : length t ≤ longest = subst (λ (u : List ℕ). length u ≤ longest) (sym c.in_ok-clone.ensures.cases) c.requires in
    let e : c.in_ok-line.line ≡ (looked c.args.number (reader_at max_nesting t)).0 = ap (λ (x : ℕ × Bool). x.0) c.in_ok-line.ensures in
    omega (arith, e, lines_few t c.args.number max_nesting h)

pub returns : goal.returns
returns c =
    ap (λ (x : ℕ × Bool). x.0) c.in_ok-line.ensures ∙ ap (λ (t : List ℕ). (looked c.args.number (reader_at max_nesting t)).0) c.in_ok-clone.ensures.cases
