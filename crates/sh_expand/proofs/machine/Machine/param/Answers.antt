use Rattle.std.proofs.Common.{refl}
use Rattle.sh_syntax.specs.declared.tree.ParamOp.TheVariants as op
use Rattle.sh_expand.specs.Rest.{rest_of}
use Rattle.sh_expand.proofs.Operators.{param_moves, trim_moves}
use Rattle.sh_expand.proofs.machine.Machine.param.Goals as goal

pub returns-in-Value-clause-moves : goal.returns-in-Value-clause-moves
returns-in-Value-clause-moves g c = param_moves g.B.Base.seen c.args.self.now c.args.name.now c.args.op op.Value c.args.colon c.args.word.now (rest_of c.value.new.self) c.args.view.now c.value.new.view c.value.result c.quietly.result c.in-Value.is c.quietly.ensures c.value.ensures.moves

pub returns-in-Length-clause-moves : goal.returns-in-Length-clause-moves
returns-in-Length-clause-moves g c = param_moves g.B.Base.seen c.args.self.now c.args.name.now c.args.op op.Length c.args.colon c.args.word.now (rest_of c.size.new.self) c.args.view.now c.size.new.view c.size.result c.quietly-in-Length.result c.in-Length.is c.quietly-in-Length.ensures c.size.ensures.moves

pub returns-in-Default-clause-moves : goal.returns-in-Default-clause-moves
returns-in-Default-clause-moves g c = param_moves g.B.Base.seen c.args.self.now c.args.name.now c.args.op op.Default c.args.colon c.args.word.now (rest_of c.default.new.self) c.args.view.now c.default.new.view c.default.result c.quietly-in-Default.result c.in-Default.is c.quietly-in-Default.ensures c.default.ensures.moves

pub returns-in-Alternative-clause-moves : goal.returns-in-Alternative-clause-moves
returns-in-Alternative-clause-moves g c = param_moves g.B.Base.seen c.args.self.now c.args.name.now c.args.op op.Alternative c.args.colon c.args.word.now (rest_of c.alternative.new.self) c.args.view.now c.alternative.new.view c.alternative.result c.quietly-in-Alternative.result c.in-Alternative.is c.quietly-in-Alternative.ensures c.alternative.ensures.moves

pub returns-in-SmallSuffix-clause-moves : goal.returns-in-SmallSuffix-clause-moves
returns-in-SmallSuffix-clause-moves g c = trim_moves g.B.Base.seen c.args.self.now c.args.name.now c.args.op op.SmallSuffix c.args.colon c.args.word.now (rest_of c.trim.new.self) c.args.view.now c.trim.new.view c.trim.result c.quietly-in-SmallSuffix.result refl c.in-SmallSuffix.is c.quietly-in-SmallSuffix.ensures c.trim.ensures.moves

pub returns-in-LargeSuffix-clause-moves : goal.returns-in-LargeSuffix-clause-moves
returns-in-LargeSuffix-clause-moves g c = trim_moves g.B.Base.seen c.args.self.now c.args.name.now c.args.op op.LargeSuffix c.args.colon c.args.word.now (rest_of c.trim-in-LargeSuffix.new.self) c.args.view.now c.trim-in-LargeSuffix.new.view c.trim-in-LargeSuffix.result c.quietly-in-LargeSuffix.result refl c.in-LargeSuffix.is c.quietly-in-LargeSuffix.ensures c.trim-in-LargeSuffix.ensures.moves

pub returns-in-SmallPrefix-clause-moves : goal.returns-in-SmallPrefix-clause-moves
returns-in-SmallPrefix-clause-moves g c = trim_moves g.B.Base.seen c.args.self.now c.args.name.now c.args.op op.SmallPrefix c.args.colon c.args.word.now (rest_of c.trim-in-SmallPrefix.new.self) c.args.view.now c.trim-in-SmallPrefix.new.view c.trim-in-SmallPrefix.result c.quietly-in-SmallPrefix.result refl c.in-SmallPrefix.is c.quietly-in-SmallPrefix.ensures c.trim-in-SmallPrefix.ensures.moves

pub returns-in-LargePrefix-clause-moves : goal.returns-in-LargePrefix-clause-moves
returns-in-LargePrefix-clause-moves g c = trim_moves g.B.Base.seen c.args.self.now c.args.name.now c.args.op op.LargePrefix c.args.colon c.args.word.now (rest_of c.trim-in-LargePrefix.new.self) c.args.view.now c.trim-in-LargePrefix.new.view c.trim-in-LargePrefix.result c.quietly-in-LargePrefix.result refl c.in-LargePrefix.is c.quietly-in-LargePrefix.ensures c.trim-in-LargePrefix.ensures.moves
