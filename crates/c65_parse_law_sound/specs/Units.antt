-- A unit that was read is one that the grammar derives from the unit's tokens.
use Rattle.std.specs.Prelude.{◌≡◌, ◌≤◌, ℕ, List, [], ◌∷◌, Ok}
use Rattle.c65_scan.specs.declared.token.Token.{Token}
use Rattle.c65_scan.specs.declared.token.TokenKind.TheVariants as kinds
use Rattle.c65_tree.specs.Trees as t
use Rattle.c65_decl.specs.Units.{unit_read}
use Rattle.c65_parse_grammar.specs.Readings.{units, IsUnitWithin}

-- the last token is the unit's end, and no other one is
abbrev pub EndsOnce : List Token → Type 0
EndsOnce [] = ⊥
EndsOnce (tok ∷ []) = tok.kind ≡ kinds.End
EndsOnce (tok ∷ next ∷ ts) = (tok.kind ≡ kinds.End → ⊥) × EndsOnce (next ∷ ts)

-- C90 6.7
abbrev pub UnitsAreDerived : Type 0
UnitsAreDerived = (limit : ℕ) (tokens : List Token) (unit : t.UnitTree) → EndsOnce tokens → unit_read limit tokens ≡ Ok unit → units unit tokens

-- and within the limit of depth
abbrev pub UnitsAreUnits : Type 0
UnitsAreUnits = (limit : ℕ) → 1 ≤ limit → (tokens : List Token) (unit : t.UnitTree) → EndsOnce tokens → unit_read limit tokens ≡ Ok unit → IsUnitWithin limit tokens unit
