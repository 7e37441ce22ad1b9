-- Which names are types, block by block, the innermost first. A block begins as the one round it stands.
use Rattle.std.specs.Prelude.{List, [], ◌∷◌, Bool, false, nat_eq, if◌then◌else◌}
use Rattle.c65_base.specs.declared.names.Name.{Name}

abbrev pub Blocks : Type 0
Blocks = List (Name → Bool)

-- what the nearest declaration made the name
abbrev pub is_type_in : Blocks → Name → Bool
is_type_in [] n = false
is_type_in (block ∷ blocks) n = block n

abbrev pub opened : Blocks → Blocks
opened [] = []
opened (block ∷ blocks) = block ∷ block ∷ blocks

-- the block that is open longest stays
abbrev pub closed : Blocks → Blocks
closed [] = []
closed (block ∷ []) = block ∷ []
closed (block ∷ outer ∷ blocks) = outer ∷ blocks

abbrev pub with_kind : (Name → Bool) → Name → Bool → Name → Bool
with_kind block name is_type n = if nat_eq n.0 name.0 then is_type else block n

abbrev pub with_declared : Name → Bool → Blocks → Blocks
with_declared name is_type [] = []
with_declared name is_type (block ∷ blocks) = with_kind block name is_type ∷ blocks
