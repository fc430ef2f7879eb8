use Rattle.std.proofs.Common.{◌≡◌, w64, refl, ap, ◌∙◌}
use Rattle.std.proofs.lemmas.Int.{to_z-of_z}
use Rattle.sh_arith.specs.Told.{listed}
use Rattle.sh_arith.proofs.Told.{stays, unmade-stays, one-is-made}
use Rattle.sh_arith.proofs.tests.ToldNames.set.Goals as goal

pub returns-then-listed-clause-sets : goal.returns-then-listed-clause-sets
returns-then-listed-clause-sets c = λ w e.
    let s = c.args.self.now in
    let l : c.listed.result ≡ listed s.read_only.items c.args.name.now = c.listed.ensures ∙ ap (λ xs. listed xs c.args.name.now) c.deref.ensures.value in
    stays _ _ s.values.items s.read_only.items s.made.items c.args.name.now c.args.value w c.listed.result e l c.if-listed.true

pub returns-in_err-name-clause-sets : goal.returns-in_err-name-clause-sets
returns-in_err-name-clause-sets c = λ w e.
    let s = c.args.self.now in
    unmade-stays _ _ s.values.items s.read_only.items s.made.items s.made.items c.args.name.now c.args.value w c.from_residual.result e refl c.from_residual.ensures.0 (λ h. tt)

pub returns-in_err-push-clause-sets : goal.returns-in_err-push-clause-sets
returns-in_err-push-clause-sets c = λ w e.
    let s = c.args.self.now in
    unmade-stays _ _ s.values.items s.read_only.items s.made.items c.push.new.self.items c.args.name.now c.args.value w c.from_residual-in_err-push.result
    e c.in_err-push.ensures.items c.from_residual-in_err-push.ensures.0 (λ h. tt)

pub returns-clause-sets : goal.returns-clause-sets
returns-clause-sets c = λ w e.
    let s = c.args.self.now in
    let l : c.listed.result ≡ listed s.read_only.items c.args.name.now = c.listed.ensures ∙ ap (λ xs. listed xs c.args.name.now) c.deref.ensures.value in
    one-is-made _ _ s.values.items s.read_only.items s.made.items c.push.new.self.items c.args.name.now c.in_ok-name.name c.args.value _ w c.listed.result
    e c.in_ok-push.ensures.items (to_z-of_z w64 c.args.value c.ranges.value) c.in_ok-name.ensures l c.if-listed.false
