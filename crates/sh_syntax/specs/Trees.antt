use Rattle.std.specs.Prelude.{List}
use Rattle.sh_syntax.specs.declared.tree.Part.{Part}
use Rattle.sh_syntax.specs.declared.tree.Word.{Word}

abbrev pub word : List Part → Word
word parts = record { parts = parts }
