-- How the code keeps a scope: for each name the kinds of its declarations in force, and for each block its names.
use Rattle.std.specs.Prelude.{ℕ, zero, suc, List, [], ◌∷◌, reverse, Bool, false, nat_eq, if◌then◌else◌}
use Rattle.std.specs.Prelude.{Vec}
use Rattle.std.specs.declared.alloc.Global.{Global}
use Rattle.c65_base.specs.declared.names.Name.{Name}
use Rattle.c65_parse_names.specs.declared.scope.Scope.{Scope}
use Rattle.c65_parse_names.specs.Scopes

-- the kinds that declarations made each name, the nearest first
abbrev pub Stacks : Type 0
Stacks = Name → List Bool

abbrev pub stack_at : List (Vec Bool Global) → ℕ → List Bool
stack_at [] n = []
stack_at (kinds ∷ rest) zero = reverse kinds.items
stack_at (kinds ∷ rest) (suc n) = stack_at rest n

abbrev pub stacks_of : List (Vec Bool Global) → Stacks
stacks_of kinds n = stack_at kinds n.0

abbrev pub head_or : Bool → List Bool → Bool
head_or b [] = b
head_or b (c ∷ cs) = c

abbrev pub tail_of : List Bool → List Bool
tail_of [] = []
tail_of (b ∷ bs) = bs

abbrev pub with_kind_of : Stacks → Name → Bool → Stacks
with_kind_of stacks name is_type n = if nat_eq n.0 name.0 then is_type ∷ stacks n else stacks n

abbrev pub without_kind_of : Stacks → Name → Stacks
without_kind_of stacks name n = if nat_eq n.0 name.0 then tail_of (stacks n) else stacks n

-- without what a block declared, the last declaration first
abbrev pub without_block : List Name → Stacks → Stacks
without_block [] stacks = stacks
without_block (name ∷ names) stacks = without_kind_of (without_block names stacks) name

abbrev pub kinds_of : Stacks → Name → Bool
kinds_of stacks n = head_or false (stacks n)

-- the blocks round the innermost one
abbrev pub outer_of : List (Vec Name Global) → Stacks → Scopes.Blocks
outer_of [] stacks = []
outer_of (block ∷ blocks) stacks = kinds_of (without_block block.items stacks) ∷ outer_of blocks (without_block block.items stacks)

abbrev pub scope_of : Scope → Scopes.Blocks
scope_of s = kinds_of (stacks_of s.kinds.items) ∷ outer_of (reverse s.blocks.items) (stacks_of s.kinds.items)

abbrev pub no_types : Name → Bool
no_types n = false
