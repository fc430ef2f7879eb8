-- The texts of places in order, as they come.
use Rattle.std.proofs.Common.{◌≡◌, ℕ, List, [], ◌∷◌, ◌++◌, refl}
use Rattle.std.specs.BTreeSet.{insert_key}
use Rattle.std.specs.List.{fold}
use Rattle.hs_world.specs.Names.{name_cmp}
use Rattle.sh_glob.specs.Texts.{in_order, texts}
use Rattle.sh_glob.specs.declared.place.Place.{Place}

fold_more : (keys : List (List ℕ)) (ps : List Place) (p : Place) → fold (insert_key name_cmp) keys (texts (ps ++ p ∷ [])) ≡ insert_key name_cmp (fold (insert_key name_cmp) keys (texts ps)) p.text
fold_more keys [] p = refl
fold_more keys (q ∷ ps) p = fold_more (insert_key name_cmp keys q.text) ps p

pub in_order_more : (ps : List Place) (p : Place) → in_order (texts (ps ++ p ∷ [])) ≡ insert_key name_cmp (in_order (texts ps)) p.text
in_order_more ps p = fold_more [] ps p
