-- What the parser answers of a unit, exactly: the only unit that the tokens are, or the first token with which no unit
-- goes on, or that the unit is deeper than the limit.
use Rattle.std.specs.Prelude.{◌≡◌, List, Result, Ok, Err}
use Rattle.c65_base.specs.declared.refusal.Size.TheVariants.{Depth}
use Rattle.c65_base.specs.declared.refusal.Refusal.{Refusal}
use Rattle.c65_base.specs.declared.refusal.Refusal.TheVariants as refusals
use Rattle.c65_scan.specs.declared.token.Token.{Token}
use Rattle.c65_tree.specs.Trees as t
use Rattle.c65_parse_grammar.specs.Readings.{code_of, units, IsUnit, IsNoUnit, IsTooDeepUnit}

-- no other unit has these tokens, however deep
abbrev pub IsOnlyUnit : List Token → t.UnitTree → Type 0
IsOnlyUnit tokens unit = IsUnit tokens unit × ((other : t.UnitTree) → units other tokens → other ≡ unit)

-- unless memory ran out
abbrev pub ReadsUnit : {X : Type 0} → List Token → (X → t.UnitTree) → Result X Refusal → Type 0
ReadsUnit tokens view (Ok x) = IsOnlyUnit tokens (view x)
ReadsUnit tokens view (Err refusals.OutOfMemory) = Unit {0}
ReadsUnit tokens view (Err (refusals.At code pos)) = (next : Token) × (code ≡ code_of next.kind) × (pos ≡ next.pos) × IsNoUnit tokens next
ReadsUnit tokens view (Err (refusals.TooLarge size value)) = (size ≡ Depth) × (value ≡ 257) × IsTooDeepUnit tokens
ReadsUnit tokens view (Err _) = ⊥
