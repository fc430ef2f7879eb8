-- What writing one effect through to the streams comes to.
use Rattle.std.specs.Prelude.{◌≡◌, ◌⊎◌, ℕ, List, [], Option, None, Result, Ok, Err}
use Rattle.hs_world.specs.declared.effect.Effect.{Effect}
use Rattle.hs_world.specs.declared.effect.Effect.TheVariants.{Emit}
use Rattle.hs_world.specs.declared.effect.Fd.{Fd}
use Rattle.hs_world.specs.declared.effect.Fd.TheVariants.{One, Two}
use Rattle.hs_world.specs.World.{WorldData, sent, sent_by, stream_of}
use Rattle.hs_outside.specs.Streams.{appended}
use Rattle.hs_outside.specs.declared.outside.Failed.{Failed}
use Rattle.hs_outside.specs.declared.outside.Failed.TheVariants.{NoMemory, Fault}
use Rattle.hs_drive.specs.Commit.{Streams, IsCutOn}

-- the stream that the effect writes to
abbrev pub target_of : Effect → WorldData → Option Fd
target_of (Emit fd text) w = stream_of fd w
target_of _ w = None

-- what it writes there
abbrev pub text_of : Effect → List ℕ
text_of (Emit fd text) = text
text_of _ = []

-- the streams with a text for this one of them
abbrev pub with_text : Option Fd → List ℕ → Streams → Streams
with_text to text s = record { out = appended s.out (sent_by to One text); err = appended s.err (sent_by to Two text) }

abbrev pub Writes : (out err : Type 0) → Option Fd → List ℕ → Streams → Streams → Result (Unit {0}) Failed → Type 0
Writes out err to text old new (Ok u) = new ≡ with_text to text old
Writes out err to text old new (Err Fault) =
    (out × IsCutOn One old (with_text to text old) new (sent_by to One text)) ⊎ (err × IsCutOn Two old (with_text to text old) new (sent_by to Two text))
Writes out err to text old new (Err NoMemory) =
    IsCutOn One old (with_text to text old) new (sent_by to One text) ⊎ IsCutOn Two old (with_text to text old) new (sent_by to Two text)

abbrev pub written_by : Effect → WorldData → Streams → Streams
written_by e w s = record { out = appended s.out (sent One e w); err = appended s.err (sent Two e w) }
