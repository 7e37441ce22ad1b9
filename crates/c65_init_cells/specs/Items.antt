-- The items of an initialiser list, in their order (C90 6.5.7).
use Rattle.std.specs.Prelude.{List, [], ◌∷◌}
use Rattle.c65_base.specs.declared.refusal.Pos.{Pos}
use Rattle.c65_tree.specs.Trees.{InitTree, value, list, InitList, no_inits, and_init}

-- the items of a list, and others behind them
abbrev pub items_before : InitList → List InitTree → List InitTree
items_before no_inits xs = xs
items_before (and_init is i) xs = items_before is (i ∷ xs)

abbrev pub items_of : InitList → List InitTree
items_of is = items_before is []

-- the place of an initialiser
abbrev pub place_of : InitTree → Pos
place_of (value p e) = p
place_of (list p is) = p

-- the place of the first item
abbrev pub first_place : List InitTree → Pos
first_place [] = record { file = 0; line = 0 }
first_place (i ∷ is) = place_of i
