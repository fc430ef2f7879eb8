-- One operand of `tail`, or several.
use Rattle.std.proofs.Common.{◌≡◌, ℕ, Bool, true, false, List, sym, ap}
use Rattle.std.specs.Prelude.{codes, if◌then◌else◌}
use Rattle.hs_world.specs.World.{WorldData}
use Rattle.hs_view.specs.Acts.{answering}
use Rattle.util_common.specs.Operands.{none_yet, operands_written, or_input, refused, status_of}
use Rattle.util_common.specs.declared.messages.Why.TheVariants.{ExtraOperand}
use Rattle.util_text.specs.Head.{is_several}
use Rattle.util_text.specs.Tailing.{tails, tails_written}
use Rattle.util_text.specs.declared.ends.Ends.{Ends}

pub several_tails : (exact : Ends) (operands : List (List ℕ)) (u : WorldData) → is_several operands ≡ true → refused (codes "tail") ExtraOperand u ≡ tails_written exact operands u
several_tails exact operands u h = ap (λ (b : Bool). if b then refused (codes "tail") ExtraOperand u else answering status_of (operands_written (codes "tail") (tails exact) none_yet (or_input operands) u)) (sym h)

pub single_tail : (exact : Ends) (operands : List (List ℕ)) (u : WorldData) → is_several operands ≡ false → answering status_of (operands_written (codes "tail") (tails exact) none_yet (or_input operands) u) ≡ tails_written exact operands u
single_tail exact operands u h = ap (λ (b : Bool). if b then refused (codes "tail") ExtraOperand u else answering status_of (operands_written (codes "tail") (tails exact) none_yet (or_input operands) u)) (sym h)
