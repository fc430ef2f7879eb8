-- What a step of an expansion does to a view.
use Rattle.std.specs.Prelude.{◌≡◌, ℕ, List, Option, Some, None, Result, Ok, Err, option_map}
use Rattle.std.specs.declared.alloc.AllocError.{AllocError}
use Rattle.hs_view.specs.Acts.{Acts, Loops}
use Rattle.hs_view.specs.Seen.{Shows}
use Rattle.hs_view.specs.View.{Viewed}
use Rattle.hs_view.specs.declared.halt.Halt.{Halt}
use Rattle.hs_view.specs.declared.halt.Halt.TheVariants.{NoMemory}
use Rattle.sh_param.specs.Plans.{Plan, fails, Reached, fields, failed, stopped, first, told}
use Rattle.sh_param.specs.declared.answer.Expanded.{Expanded}
use Rattle.sh_param.specs.declared.answer.Expanded.TheVariants as answer

-- Whoever does what is left now, has done what was left before.
abbrev pub Moved : {B A : Type 0} → Shows B → Plan → Plan → Viewed B → Viewed B → Result A Halt → Type 0
Moved seen before now old new (Ok x) = Loops seen (first before) (first now) old new
Moved seen before now old new (Err h) = Acts seen (first before) old new (Err h)

-- the same, where there may be a message that ends the expansion
abbrev pub Tried : {B : Type 0} → Shows B → Plan → Plan → Viewed B → Viewed B → Result (Option (List ℕ)) Halt → Type 0
Tried seen before now old new (Ok None) = Loops seen (first before) (first now) old new
Tried seen before now old new (Ok (Some why)) = Acts seen (first before) old new (Ok (failed why))
Tried seen before now old new (Err h) = Acts seen (first before) old new (Err h)

-- what is to be done with the output that is waited for
abbrev pub GoesOn : Reached → (List ℕ → Plan) → Type 0
GoesOn (fields fs) later = Unit {0}
GoesOn (failed why) later = Unit {0}
GoesOn (stopped n k) later = later ≡ k

-- the next list is reached, or the end
pub record Arrives {B : Type 0} (seen : Shows B) (before : Plan) (later : List ℕ → Plan) (old new : Viewed B) (e : Expanded) : Type 0 where
  pub reached : Reached
  pub is : told reached ≡ e
  pub acts : Acts seen (first before) old new (Ok reached)
  pub on : GoesOn reached later

abbrev pub Stepped : {B : Type 0} → Shows B → Plan → Plan → (List ℕ → Plan) → Viewed B → Viewed B → Result (Option Expanded) Halt → Type 0
Stepped seen before now later old new (Ok None) = Loops seen (first before) (first now) old new
Stepped seen before now later old new (Ok (Some e)) = Arrives seen before later old new e
Stepped seen before now later old new (Err h) = Acts seen (first before) old new (Err h)

-- the same of a whole call, which always arrives
abbrev pub Called : {B : Type 0} → Shows B → Plan → (List ℕ → Plan) → Viewed B → Viewed B → Result Expanded Halt → Type 0
Called seen before later old new (Ok e) = Arrives seen before later old new e
Called seen before later old new (Err h) = Acts seen (first before) old new (Err h)

-- The plan goes on so, or fails with this message.
abbrev pub IsErrorWord : {E : Type 0} → Plan → Plan → Result (Option (List ℕ)) E → Type 0
IsErrorWord before now (Ok None) = now ≡ before
IsErrorWord before now (Ok (Some why)) = before ≡ fails why
IsErrorWord before now (Err h) = Unit {0}

-- ---- answers of a step

-- without an answer yet
abbrev pub goes_on : {A : Type 0} → Result (Unit {0}) Halt → Result (Option A) Halt
goes_on (Ok x) = Ok None
goes_on (Err h) = Err h

-- the same where nothing but memory can be wanting
abbrev pub in_memory : {A : Type 0} → Result (Unit {0}) AllocError → Result (Option A) Halt
in_memory (Ok x) = Ok None
in_memory (Err e) = Err NoMemory

-- a message as an answer
abbrev pub told_of : Result (Option (List ℕ)) Halt → Result (Option Expanded) Halt
told_of (Ok why) = Ok (option_map answer.Error why)
told_of (Err h) = Err h
