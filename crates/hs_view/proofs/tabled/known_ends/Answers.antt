use Rattle.std.proofs.Common.{◌≡◌, sym, ◌∙◌}
use Rattle.std.specs.Prelude.{None}
use Rattle.hs_world.specs.declared.loc.Loc.TheVariants as loc
use Rattle.hs_view.specs.Known.{ends_in, ends_or}
use Rattle.hs_view.proofs.Sounds.{if_more}
use Rattle.hs_view.proofs.Tables.{no-ends, the-ends}
use Rattle.hs_view.proofs.tabled.known_ends.Goals as goal

pub returns-in-None : goal.returns-in-None
returns-in-None c = sym (no-ends c.args.reads.now c.in-None.ensures)

pub returns-in-Some : goal.returns-in-Some
returns-in-Some c =
    if_more c.ends_of.result (λ x. x ≡ ends_or loc.Ends c.in-Some.value.now None) (λ x. x ≡ ends_in c.args.reads.now) (λ x e. e ∙ sym (the-ends c.args.reads.now c.in-Some.value.now c.as_slice-fresh.ensures.fresh c.in-Some.ensures))
    c.ends_of.ensures
