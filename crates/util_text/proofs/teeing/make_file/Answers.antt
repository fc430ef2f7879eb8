use Rattle.std.proofs.Common.{◌≡◌, Bool, true, false, sym, ap, rules}
use Rattle.std.specs.Prelude.{codes}
use Rattle.hs_world.specs.Files.{entry_at, is_dir}
use Rattle.hs_world.specs.Paths.{parent}
use Rattle.hs_world.specs.World.{WorldData}
use Rattle.hs_world.specs.declared.effect.Effect.TheVariants.{Put}
use Rattle.hs_world.specs.declared.effect.Fd.TheVariants.{Two}
use Rattle.hs_view.specs.Acts.{only}
use Rattle.hs_view.specs.declared.halt.Halt.{Halt}
use Rattle.hs_view.proofs.Acting.{acts_memory_on, acts_on, acts_read_then, acts_unread}
use Rattle.util_common.specs.Messages.{message_on}
use Rattle.util_common.specs.Operands.{emitted}
use Rattle.util_common.specs.declared.messages.Why.TheVariants.{NoSuchFolder}
use Rattle.util_text.specs.Teeing.{is_free, made_in, told}
use Rattle.util_text.proofs.Teed.{folder_told, kept_now, put_valid, told_now}
use Rattle.util_text.proofs.teeing.make_file.Goals as goal

pub returns-in_err-kind : goal.returns-in_err-kind
returns-in_err-kind g c =
    let e = c.in_err-kind.ensures in
    let path = c.args.path.now in
    let m = λ (w : WorldData). told c.args.word.now c.args.status (made_in (is_dir (entry_at w.tree (parent path))) path c.args.copied.now.text) w in
    acts_on g.B.Base.seen m c.args.view.now c.kind.new.self c.in_err-kind.field-0.0 _ c.from_residual-in_err-kind.ensures.0 c.from_residual-in_err-kind.ensures.1
    (acts_unread g.B.Base.seen m c.args.view.now c.kind.new.self c.in_err-kind.field-0.0 (record { effects = e.effects; keeps = e.keeps; fault = e.fault; trace = e.trace; through = e.through; spent = e.spent; outside = e.outside }) e.world)

pub put_file-requires : goal.put_file-requires
put_file-requires g c =
    let e = c.in_ok-kind.ensures in
    let folder : c.in_ok-folder.folder ≡ c.args.path.now = search rules in
    let path = c.args.path.now in
    let a = c.args.view.now in
    let b = c.kind.new.self in
    record {
      valid = λ u s.
          put_valid path c.args.copied.now.text u
          (told_now {H = Halt} g.B.Base.seen a b c.in_ok-kind.kind (λ (v : WorldData). is_dir (entry_at v.tree (parent path)) ≡ true) e.keeps e.effects
          (λ v t. folder_told path c.in_ok-folder.folder c.pop.new.self c.in_ok-kind.kind c.is_folder.result true v c.pop.ensures folder (e.answer v t) c.is_folder.ensures c.if-is_folder.true) u s)
          (kept_now {H = Halt} g.B.Base.seen a b c.in_ok-kind.kind (λ (v : WorldData). is_free (entry_at v.tree path) ≡ true) e.keeps e.effects c.requires.free u s);
    }

pub returns-then-is_folder : goal.returns-then-is_folder
returns-then-is_folder g c =
    let e = c.in_ok-kind.ensures in
    let folder : c.in_ok-folder.folder ≡ c.args.path.now = search rules in
    let path = c.args.path.now in
    let text = c.args.copied.now.text in
    acts_read_then g.B.Base.seen (only (Put path text) c.args.status) (λ (w : WorldData). told c.args.word.now c.args.status (made_in (is_dir (entry_at w.tree (parent path))) path text) w) c.args.view.now c.kind.new.self c.put_file.new.view _ c.put_file.result
    (record { effects = e.effects; keeps = e.keeps; fault = e.fault; trace = e.trace; through = e.through; spent = e.spent; outside = e.outside })
    (λ u s.
    ap (λ (d : Bool). told c.args.word.now c.args.status (made_in d path text) u)
    (sym (folder_told path c.in_ok-folder.folder c.pop.new.self c.in_ok-kind.kind c.is_folder.result true u c.pop.ensures folder (e.answer u s) c.is_folder.ensures c.if-is_folder.true))) c.put_file.ensures

pub returns : goal.returns
returns g c =
    let e = c.in_ok-kind.ensures in
    let folder : c.in_ok-folder.folder ≡ c.args.path.now = search rules in
    let path = c.args.path.now in
    let text = c.args.copied.now.text in
    acts_read_then g.B.Base.seen (emitted Two (message_on (codes "tee") c.args.word.now NoSuchFolder) 1) (λ (w : WorldData). told c.args.word.now c.args.status (made_in (is_dir (entry_at w.tree (parent path))) path text) w) c.args.view.now c.kind.new.self
    c.write_message.new.view _ c.write_message.result
    (record { effects = e.effects; keeps = e.keeps; fault = e.fault; trace = e.trace; through = e.through; spent = e.spent; outside = e.outside })
    (λ u s.
    ap (λ (d : Bool). told c.args.word.now c.args.status (made_in d path text) u)
    (sym (folder_told path c.in_ok-folder.folder c.pop.new.self c.in_ok-kind.kind c.is_folder.result false u c.pop.ensures folder (e.answer u s) c.is_folder.ensures c.if-is_folder.false))) c.write_message.ensures

pub returns-in_err-folder : goal.returns-in_err-folder
returns-in_err-folder g c = acts_memory_on g.B.Base.seen _ c.args.view.now _ c.from_residual.ensures.0 c.from_residual.ensures.1
