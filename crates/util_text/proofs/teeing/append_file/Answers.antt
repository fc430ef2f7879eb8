use Rattle.std.proofs.Common.{◌≡◌, List, ℕ, [], ◌∷◌, sym, ap, ◌∙◌, rules}
use Rattle.hs_world.specs.Paths.{Path}
use Rattle.hs_world.specs.declared.effect.Effect.TheVariants.{Append}
use Rattle.hs_view.specs.Acts.{only}
use Rattle.hs_view.proofs.Acting.{acts_memory_on, acts_on, acts_unput}
use Rattle.util_text.proofs.teeing.append_file.Goals as goal

pub returns-in_err-put : goal.returns-in_err-put
returns-in_err-put g c =
    let f = c.in_err-put.ensures in
    let path = c.in_ok-path.path in
    let text = c.args.copied.now.text in
    let same : path ≡ c.args.path.now = search rules in
    let m = only (Append c.args.path.now text) c.args.status in
    acts_on g.B.Base.seen m c.args.view.now c.put.new.self c.in_err-put.field-0.0 _ c.from_residual-in_err-put.ensures.0 c.from_residual-in_err-put.ensures.1
    (acts_unput g.B.Base.seen m c.args.view.now c.put.new.self (Append path c.in_ok-text.text) c.in_err-put.field-0.0 (record { reads = f.reads; effects = f.effects; keeps = f.keeps; left = f.left; full = f.full; fault = f.fault; trace = f.trace; through = f.through; spent = f.spent; long = f.long; tree = f.tree; turns = f.turns; frames = f.frames; outside = f.outside })
    (λ u. ap (λ (p : Path). Append p text ∷ []) (sym same) ∙ ap (λ (t : List ℕ). Append path t ∷ []) (sym c.in_ok-text.ensures.cases)))

pub returns-in_err-path : goal.returns-in_err-path
returns-in_err-path g c = acts_memory_on g.B.Base.seen _ c.args.view.now _ c.from_residual.ensures.0 c.from_residual.ensures.1
