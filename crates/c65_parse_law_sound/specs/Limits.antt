-- What was read is within the limit of depth, which is 256.
use Rattle.std.specs.Prelude.{◌≡◌, ◌≤◌, ℕ, List, Ok}
use Rattle.c65_scan.specs.declared.token.Token.{Token}
use Rattle.c65_tree.specs.Depth.{expr_depth, specifiers_depth, declarator_depth, type_depth}
use Rattle.c65_parse_names.specs.Scopes.{Blocks}
use Rattle.c65_parse.specs.declared.frame.Sort.{Sort}
use Rattle.c65_parse.specs.Reading.{Answer, expr_read, specifiers_read, declarator_read, type_read}

abbrev pub AreWithin : (limit : ℕ) → {Tree : Type 0} → (Tree → ℕ) → (Blocks → List Token → Answer Tree) → Type 0
AreWithin limit {Tree} depth read = (scope : Blocks) (tokens : List Token) (tree : Tree) (rest : List Token) (behind : Blocks) → read scope tokens ≡ Ok (tree, rest, behind) → depth tree ≤ limit

abbrev pub ExprsAreWithin : Type 0
ExprsAreWithin = (limit : ℕ) (least : ℕ) → AreWithin limit expr_depth (expr_read limit least)

abbrev pub SpecifiersAreWithin : Type 0
SpecifiersAreWithin = (limit : ℕ) → 1 ≤ limit → AreWithin limit specifiers_depth (specifiers_read limit)

abbrev pub DeclaratorsAreWithin : Type 0
DeclaratorsAreWithin = (limit : ℕ) → 1 ≤ limit → (sort : Sort) → AreWithin limit declarator_depth (declarator_read limit sort)

abbrev pub TypesAreWithin : Type 0
TypesAreWithin = (limit : ℕ) → 1 ≤ limit → AreWithin limit type_depth (type_read limit)
