use Rattle.std.proofs.Common.{Bool, true, sym, ap, ◌∙◌}
use Rattle.hs_world.specs.Files.{entry_at, is_dir}
use Rattle.hs_world.specs.World.{WorldData}
use Rattle.hs_view.specs.Steps.{nothing}
use Rattle.hs_view.proofs.Acting.{acts_answer, acts_on, acts_read, acts_unread}
use Rattle.sh_glob.specs.Places.{is_folder_kind}
use Rattle.sh_glob.proofs.Found.{empty_list, folder_kind, root_folder}
use Rattle.sh_glob.proofs.walk.is_folder.Goals as goal

pub returns-then-is_empty : goal.returns-then-is_empty
returns-then-is_empty g c =
    let at = c.args.at.now in
    acts_answer g.B.Base.seen (λ (w : WorldData). nothing (is_dir (entry_at w.tree at)) w) c.args.view.now true
    (λ u s. ap (λ (b : Bool). nothing b u) (root_folder u.tree at (sym c.names.ensures.names ∙ empty_list c.names.result.now (sym c.is_empty.ensures ∙ c.if-is_empty.true))))

pub returns-in_err-kind : goal.returns-in_err-kind
returns-in_err-kind g c =
    let e = c.in_err-kind.ensures in
    let m = λ (w : WorldData). nothing (is_dir (entry_at w.tree c.args.at.now)) w in
    acts_on g.B.Base.seen m c.args.view.now c.kind.new.self c.in_err-kind.field-0.0 _ c.from_residual.ensures.0 c.from_residual.ensures.1
    (acts_unread g.B.Base.seen m c.args.view.now c.kind.new.self c.in_err-kind.field-0.0 (record { effects = e.effects; keeps = e.keeps; fault = e.fault; trace = e.trace; through = e.through; spent = e.spent; outside = e.outside }) e.world)

pub returns : goal.returns
returns g c =
    let e = c.in_ok-kind.ensures in
    acts_read g.B.Base.seen (λ (w : WorldData). nothing (is_dir (entry_at w.tree c.args.at.now)) w) c.args.view.now c.kind.new.self _ c.is_folder_kind.result (record { effects = e.effects; keeps = e.keeps; fault = e.fault; trace = e.trace; through = e.through; spent = e.spent; outside = e.outside })
    (λ u s. ap (λ (b : Bool). nothing b u) (folder_kind (entry_at u.tree c.args.at.now) ∙ ap is_folder_kind (e.answer u s) ∙ sym c.is_folder_kind.ensures))
