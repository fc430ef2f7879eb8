-- States in which all that is open has begun, and how much has begun.
use Rattle.std.specs.Prelude.{ℕ, List, length, ◌<◌, ◌≤◌}
use Rattle.sh_grammar.specs.declared.state.Draft.{Draft}
use Rattle.sh_grammar.specs.declared.state.Below.{Below}
use Rattle.sh_grammar.specs.Machine.{State}
use Rattle.sh_machine.specs.Numbers.{DueBegun, AllBegun, NowBegun}

pub record Numbered (st : State) : Type 0 where
  -- the whole script's list
  pub whole : 0 < length st.script.script.lists
  pub now : NowBegun st.now st.script
  pub below : AllBegun st.below st.script
  pub due : DueBegun st.script.due st.script

-- no more than k of each has begun, and no more than k things may still be opened
pub record Within (k : ℕ) (st : State) : Type 0 where
  pub lists : length st.script.script.lists ≤ k
  pub leaves : length st.script.script.leaves ≤ k
  pub bodies : length st.script.script.bodies ≤ k
  pub heres : length st.script.heres ≤ k
  pub room : st.room ≤ k

-- what has begun in one draft has begun in the other
abbrev pub KeepsBegun : Draft → Draft → Type 0
KeepsBegun s t = (b : List Below) → AllBegun b s → AllBegun b t
