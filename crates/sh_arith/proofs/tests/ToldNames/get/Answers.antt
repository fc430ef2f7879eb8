use Rattle.std.proofs.Common.{◌≡◌, rules, None, w64, to_z, of_z, ap, ◌∙◌}
use Rattle.std.specs.Fmt.{signed_decimal}
use Rattle.std.proofs.lemmas.Result.{IfOk-weaker}
use Rattle.sh_arith.specs.Told.{value_in, newest}
use Rattle.sh_arith.proofs.Told.{some-value, no-newest}
use Rattle.sh_arith.proofs.tests.ToldNames.get.Goals as goal

pub returns-in_ok-value-in-Some-clause-value : goal.returns-in_ok-value-in-Some-clause-value
returns-in_ok-value-in-Some-clause-value c = λ w e.
    let s = c.args.self.now in
    let n : c.newest.result ≡ newest None s.made.items c.args.name.now = c.newest.ensures ∙ ap (λ ms. newest None ms c.args.name.now) c.deref.ensures.value in
    let z : to_z w64 (of_z w64 c.in-Some.number) ≡ c.in-Some.number = search rules in
    some-value s.values.items s.read_only.items s.made.items c.args.name.now w c.newest.result c.in-Some.number c.in_ok-value-in-Some.value e n c.in-Some.is (c.in_ok-value-in-Some.ensures ∙ ap signed_decimal z)

pub returns-in-None-clause-value : goal.returns-in-None-clause-value
returns-in-None-clause-value c = λ w e.
    let s = c.args.self.now in
    let n : c.newest.result ≡ newest None s.made.items c.args.name.now = c.newest.ensures ∙ ap (λ ms. newest None ms c.args.name.now) c.deref.ensures.value in
    let i = ap (λ xs. value_in xs c.args.name.now) c.deref-in-None.ensures.value ∙ no-newest s.values.items s.read_only.items s.made.items c.args.name.now w c.newest.result e n c.in-None.is in
    IfOk-weaker c.value_in.result _ _ (λ value same. same ∙ i) c.value_in.ensures
