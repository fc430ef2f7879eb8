use Rattle.std.proofs.Common.{◌≡◌, Bool, subst, ℕ, ◌+◌, false, List, drop, map}
use Rattle.std.specs.Prelude.{IfOk, option_copied}
use Rattle.sh_split.specs.Fields.{ifs_bytes, mark_of, split}
use Rattle.sh_split.proofs.SoFar.{no_symbol, splits_end, splits_start, splits_step, symbol_next}
use Rattle.sh_split.proofs.splitting.fields_of_symbols.Goals as goal

pub loop-symbol-init : goal.loop-symbol-init
loop-symbol-init c =
    splits_start (ifs_bytes (option_copied c.args.ifs)) c.new-splitter.result.fields c.new-splitter.result.field c.new-splitter.result.place (map mark_of c.args.symbols.now) c.new-splitter.ensures.fields c.new-splitter.ensures.field
    c.new-splitter.ensures.place

pub loop-symbol-preserved : goal.loop-symbol-preserved
loop-symbol-preserved c =
    let ifs = ifs_bytes (option_copied c.args.ifs) in
    let field = c.args.symbols.now in
    let i = c.loop-symbol.symbol-index in
    let s = c.loop-symbol.splitter in
    let t = c.take.new.self in
    let rest = map mark_of (drop (i + 1) field) in
    splits_step ifs (split (option_copied c.args.ifs) field) s.fields t.fields s.field t.field s.place t.place c.mark_of.result rest (map mark_of (drop i field))
    (symbol_next field i (0, false) c.mark_of.result c.loop-symbol-test.true c.mark_of.ensures) c.loop-symbol.invariant
    (c.in_ok-take.ensures.taken rest ifs c.separators-table.ensures) c.in_ok-take.ensures.idle

pub take-requires : goal.take-requires
take-requires c = record { idle = c.loop-symbol.invariant.idle }

pub finish-requires : goal.finish-requires
finish-requires c = record { idle = c.loop-symbol.invariant.idle }

pub returns : goal.returns
returns c =
    let field = c.args.symbols.now in
    let s = c.loop-symbol.splitter in
    subst (λ (w : List (List (ℕ × Bool))). IfOk c.finish.result (λ fs. fs ≡ w)) (splits_end (ifs_bytes (option_copied c.args.ifs)) (split (option_copied c.args.ifs) field) s.fields s.field s.place (map mark_of (drop c.loop-symbol.symbol-index field)) (no_symbol field c.loop-symbol.symbol-index c.loop-symbol-test.false) c.loop-symbol.invariant) c.finish.ensures
