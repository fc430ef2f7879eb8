use Rattle.std.proofs.Common.{Bool, sym, ap}
use Rattle.hs_world.specs.Files.{entry_at, is_dir}
use Rattle.hs_world.specs.Paths.{parent}
use Rattle.hs_world.specs.World.{WorldData}
use Rattle.hs_world.specs.declared.effect.Effect.TheVariants.{Append}
use Rattle.hs_view.specs.Acts.{only}
use Rattle.hs_view.proofs.Acting.{acts_as}
use Rattle.util_text.specs.Teeing.{told, written_over}
use Rattle.util_text.proofs.teeing.write_over.Goals as goal

pub returns-then-copied : goal.returns-then-copied
returns-then-copied g c =
    let path = c.args.path.now in
    let copied = c.args.copied.now in
    acts_as g.B.Base.seen (only (Append path copied.text) c.args.status) (λ (w : WorldData). told c.args.word.now c.args.status (written_over copied.append (is_dir (entry_at w.tree (parent path))) path copied.text) w) c.args.view.now
    c.append_file.new.view c.append_file.result (λ u s. ap (λ (b : Bool). told c.args.word.now c.args.status (written_over b (is_dir (entry_at u.tree (parent path))) path copied.text) u) (sym c.if-copied.true)) c.append_file.ensures
