use Rattle.std.proofs.Common.{◌≡◌, true, sym, ap, ◌∙◌}
use Rattle.std.specs.Prelude.{Some, codes}
use Rattle.hs_world.specs.Files.{entry_at, is_dir}
use Rattle.hs_world.specs.Paths.{parent}
use Rattle.hs_world.specs.World.{WorldData}
use Rattle.hs_world.specs.declared.effect.Fd.TheVariants.{Two}
use Rattle.hs_world.specs.declared.entry.Kind.{Kind}
use Rattle.hs_view.specs.declared.halt.Halt.{Halt}
use Rattle.hs_view.proofs.Acting.{acts_on, acts_read_then, acts_unread}
use Rattle.util_common.specs.Messages.{message_on}
use Rattle.util_common.specs.Operands.{emitted}
use Rattle.util_common.specs.declared.messages.Why.TheVariants.{IsFolder, OtherKind}
use Rattle.util_lines.specs.Filing.{is_free, made_in, path_written, told, written_at}
use Rattle.util_lines.proofs.Filed.{absent_free, file_free, file_kind, told_now}
use Rattle.util_lines.proofs.filing.write_at.Goals as goal

pub returns-in_err-kind : goal.returns-in_err-kind
returns-in_err-kind g c =
    let e = c.in_err-kind.ensures in
    let m = path_written c.args.output.now.text c.args.word.now c.args.output.now.status (Some c.args.path.now) in
    acts_on g.B.Base.seen m c.args.view.now c.kind.new.self c.in_err-kind.field-0.0 _ c.from_residual.ensures.0 c.from_residual.ensures.1
    (acts_unread g.B.Base.seen m c.args.view.now c.kind.new.self c.in_err-kind.field-0.0 (record { effects = e.effects; keeps = e.keeps; fault = e.fault; trace = e.trace; through = e.through; spent = e.spent; outside = e.outside }) e.world)

pub make_file-requires : goal.make_file-requires
make_file-requires g c =
    let e = c.in_ok-kind.ensures in
    let path = c.args.path.now in
    record {
      free = told_now {H = Halt} g.B.Base.seen c.args.view.now c.kind.new.self c.in_ok-kind.field-0 (λ (v : WorldData). is_free (entry_at v.tree path) ≡ true) e.keeps e.effects
          (λ v t. file_free (entry_at v.tree path) (file_kind (entry_at v.tree path) (e.answer v t ∙ c.in-File.is)));
    }

pub make_file-requires-in-Absent : goal.make_file-requires-in-Absent
make_file-requires-in-Absent g c =
    let e = c.in_ok-kind.ensures in
    let path = c.args.path.now in
    record {
      free = told_now {H = Halt} g.B.Base.seen c.args.view.now c.kind.new.self c.in_ok-kind.field-0 (λ (v : WorldData). is_free (entry_at v.tree path) ≡ true) e.keeps e.effects
          (λ v t. absent_free (entry_at v.tree path) (e.answer v t ∙ c.in-Absent.is));
    }

pub returns-in-File : goal.returns-in-File
returns-in-File g c =
    let e = c.in_ok-kind.ensures in
    let path = c.args.path.now in
    let output = c.args.output.now in
    let word = c.args.word.now in
    acts_read_then g.B.Base.seen (λ (w : WorldData). told word c.args.output.now.status (made_in (is_dir (entry_at w.tree (parent path))) path output.text) w) (path_written output.text word c.args.output.now.status (Some path)) c.args.view.now c.kind.new.self c.make_file.new.view _ c.make_file.result
    (record { effects = e.effects; keeps = e.keeps; fault = e.fault; trace = e.trace; through = e.through; spent = e.spent; outside = e.outside })
    (λ u s. ap (λ (k : Kind). told word c.args.output.now.status (written_at k (is_dir (entry_at u.tree (parent path))) path output.text) u) (sym (e.answer u s ∙ c.in-File.is))) c.make_file.ensures

pub returns-in-Absent : goal.returns-in-Absent
returns-in-Absent g c =
    let e = c.in_ok-kind.ensures in
    let path = c.args.path.now in
    let output = c.args.output.now in
    let word = c.args.word.now in
    acts_read_then g.B.Base.seen (λ (w : WorldData). told word c.args.output.now.status (made_in (is_dir (entry_at w.tree (parent path))) path output.text) w) (path_written output.text word c.args.output.now.status (Some path)) c.args.view.now c.kind.new.self c.make_file-in-Absent.new.view _ c.make_file-in-Absent.result
    (record { effects = e.effects; keeps = e.keeps; fault = e.fault; trace = e.trace; through = e.through; spent = e.spent; outside = e.outside })
    (λ u s. ap (λ (k : Kind). told word c.args.output.now.status (written_at k (is_dir (entry_at u.tree (parent path))) path output.text) u) (sym (e.answer u s ∙ c.in-Absent.is))) c.make_file-in-Absent.ensures

pub returns-in-Dir : goal.returns-in-Dir
returns-in-Dir g c =
    let e = c.in_ok-kind.ensures in
    let path = c.args.path.now in
    let output = c.args.output.now in
    let word = c.args.word.now in
    acts_read_then g.B.Base.seen (emitted Two (message_on (codes "uniq") word IsFolder) 1) (path_written output.text word c.args.output.now.status (Some path)) c.args.view.now c.kind.new.self c.write_message.new.view _ c.write_message.result
    (record { effects = e.effects; keeps = e.keeps; fault = e.fault; trace = e.trace; through = e.through; spent = e.spent; outside = e.outside })
    (λ u s. ap (λ (k : Kind). told word c.args.output.now.status (written_at k (is_dir (entry_at u.tree (parent path))) path output.text) u) (sym (e.answer u s ∙ c.in-Dir.is))) c.write_message.ensures

pub returns-in-Other : goal.returns-in-Other
returns-in-Other g c =
    let e = c.in_ok-kind.ensures in
    let path = c.args.path.now in
    let output = c.args.output.now in
    let word = c.args.word.now in
    acts_read_then g.B.Base.seen (emitted Two (message_on (codes "uniq") word OtherKind) 1) (path_written output.text word c.args.output.now.status (Some path)) c.args.view.now c.kind.new.self c.write_message-in-Other.new.view _ c.write_message-in-Other.result
    (record { effects = e.effects; keeps = e.keeps; fault = e.fault; trace = e.trace; through = e.through; spent = e.spent; outside = e.outside })
    (λ u s. ap (λ (k : Kind). told word c.args.output.now.status (written_at k (is_dir (entry_at u.tree (parent path))) path output.text) u) (sym (e.answer u s ∙ c.in-Other.is))) c.write_message-in-Other.ensures
