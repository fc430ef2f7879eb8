use Rattle.std.proofs.Common.{ap, ◌∙◌}
use Rattle.hs_world.specs.Files.{bytes_of, entry_at}
use Rattle.hs_world.specs.World.{WorldData}
use Rattle.hs_view.specs.Steps.{nothing}
use Rattle.hs_view.proofs.Acting.{acts_on, acts_read, acts_read_then, acts_unread}
use Rattle.util_common.specs.Operands.{bytes_content, content_of}
use Rattle.util_common.specs.declared.content.Content.{Content}
use Rattle.util_common.specs.declared.content.Content.TheVariants.{Refused}
use Rattle.util_common.specs.declared.messages.Why.TheVariants.{NoSuchFile, IsFolder, OtherKind}
use Rattle.util_common.proofs.Filters.{file_content, folder_content, other_content, no_content}
use Rattle.util_common.proofs.content.content_at.Goals as goal

pub returns-in_err-kind : goal.returns-in_err-kind
returns-in_err-kind g c =
    let e = c.in_err-kind.ensures in
    let m = λ (w : WorldData). nothing (content_of (entry_at w.tree c.args.path.now)) w in
    acts_on g.B.Base.seen m c.args.view.now c.kind.new.self c.in_err-kind.field-0.0 _ c.from_residual.ensures.0 c.from_residual.ensures.1
    (acts_unread g.B.Base.seen m c.args.view.now c.kind.new.self c.in_err-kind.field-0.0 (record { effects = e.effects; keeps = e.keeps; fault = e.fault; trace = e.trace; through = e.through; spent = e.spent; outside = e.outside }) e.world)

pub returns-in-File : goal.returns-in-File
returns-in-File g c =
    let e = c.in_ok-kind.ensures in
    let p = c.args.path.now in
    acts_read_then g.B.Base.seen (λ (w : WorldData). nothing (bytes_content (bytes_of (entry_at w.tree p))) w) (λ (w : WorldData). nothing (content_of (entry_at w.tree p)) w) c.args.view.now c.kind.new.self c.bytes_at.new.view _ c.bytes_at.result
    (record { effects = e.effects; keeps = e.keeps; fault = e.fault; trace = e.trace; through = e.through; spent = e.spent; outside = e.outside }) (λ u s. ap (λ (x : Content). nothing x u) (file_content (entry_at u.tree p) (e.answer u s ∙ c.in-File.is))) c.bytes_at.ensures

pub returns-in-Dir : goal.returns-in-Dir
returns-in-Dir g c =
    let e = c.in_ok-kind.ensures in
    acts_read g.B.Base.seen (λ (w : WorldData). nothing (content_of (entry_at w.tree c.args.path.now)) w) c.args.view.now c.kind.new.self _ (Refused IsFolder) (record { effects = e.effects; keeps = e.keeps; fault = e.fault; trace = e.trace; through = e.through; spent = e.spent; outside = e.outside })
    (λ u s. ap (λ (x : Content). nothing x u) (folder_content (entry_at u.tree c.args.path.now) (e.answer u s ∙ c.in-Dir.is)))

pub returns-in-Other : goal.returns-in-Other
returns-in-Other g c =
    let e = c.in_ok-kind.ensures in
    acts_read g.B.Base.seen (λ (w : WorldData). nothing (content_of (entry_at w.tree c.args.path.now)) w) c.args.view.now c.kind.new.self _ (Refused OtherKind) (record { effects = e.effects; keeps = e.keeps; fault = e.fault; trace = e.trace; through = e.through; spent = e.spent; outside = e.outside })
    (λ u s. ap (λ (x : Content). nothing x u) (other_content (entry_at u.tree c.args.path.now) (e.answer u s ∙ c.in-Other.is)))

pub returns-in-Absent : goal.returns-in-Absent
returns-in-Absent g c =
    let e = c.in_ok-kind.ensures in
    acts_read g.B.Base.seen (λ (w : WorldData). nothing (content_of (entry_at w.tree c.args.path.now)) w) c.args.view.now c.kind.new.self _ (Refused NoSuchFile) (record { effects = e.effects; keeps = e.keeps; fault = e.fault; trace = e.trace; through = e.through; spent = e.spent; outside = e.outside })
    (λ u s. ap (λ (x : Content). nothing x u) (no_content (entry_at u.tree c.args.path.now) (e.answer u s ∙ c.in-Absent.is)))
