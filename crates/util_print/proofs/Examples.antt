-- Paths that are written, and their parts.
use Rattle.std.proofs.Common.{◌≡◌, [], ◌∷◌, refl, codes}
use Rattle.std.specs.Prelude.{Ok, Err}
use Rattle.util_common.specs.declared.messages.Why.TheVariants.{ExtraOperand, MissingOperand}
use Rattle.util_print.specs.Components.{basename_of, dirname_of}
use Rattle.util_print.specs.Folder.{path_line}
use Rattle.util_print.specs.Naming.{folder_of, name_of, without_suffix}

with_suffix : basename_of (codes "/a/b.c" ∷ codes ".c" ∷ []) ≡ Ok (codes "b\n")
with_suffix = refl

folder : dirname_of (codes "/a/b.c" ∷ []) ≡ Ok (codes "/a\n")
folder = refl

no_operand : basename_of [] ≡ Err MissingOperand
no_operand = refl

two_paths : dirname_of (codes "a" ∷ codes "b" ∷ []) ≡ Err ExtraOperand
two_paths = refl

root_name : name_of (codes "//") ≡ codes "/"
root_name = refl

root_folder : folder_of (codes "//") ≡ codes "/"
root_folder = refl

empty_name : name_of [] ≡ []
empty_name = refl

empty_folder : folder_of [] ≡ codes "."
empty_folder = refl

-- slashes at the end aside
name_of_folder : name_of (codes "//a//b//") ≡ codes "b"
name_of_folder = refl

folder_of_folder : folder_of (codes "//a//b//") ≡ codes "//a"
folder_of_folder = refl

in_the_root : folder_of (codes "/a/") ≡ codes "/"
in_the_root = refl

no_slash : folder_of (codes "a/") ≡ codes "."
no_slash = refl

all_suffix : without_suffix (codes ".c") (codes ".c") ≡ codes ".c"
all_suffix = refl

other_suffix : without_suffix (codes "xb.c") (codes "b.c") ≡ codes "b.c"
other_suffix = refl

root : path_line [] ≡ codes "/\n"
root = refl

deeper : path_line (codes "a" ∷ codes "b" ∷ []) ≡ codes "/a/b\n"
deeper = refl
