-- Hide sets: which macros may no longer replace a token. A set is the test for its members.
use Rattle.std.specs.Prelude.{◌≡◌, ℕ, zero, suc, ◌≤◌, List, [], ◌∷◌, ◌++◌, Bool, false, ◌==◌, ◌&&◌, ◌||◌, Some, slice_index_or, slice_get}
use Rattle.std.specs.List.{list_any}
use Rattle.c65_base.specs.declared.names.Name.{Name}
use Rattle.c65_macro.specs.declared.sets.Node.{Node}

abbrev pub Set : Type 0
Set = ℕ → Bool

abbrev pub none : Set
none n = false

-- with one more name
abbrev pub with_name : ℕ → Set → Set
with_name name set n = (name == n) || set n

-- the names that are in both
abbrev pub both : Set → Set → Set
both a b n = a n && b n

-- the names that are in one of them
abbrev pub either : Set → Set → Set
either a b n = a n || b n

-- the set of a number: 0 has no names
abbrev pub set_at : List Set → ℕ → Set
set_at sets zero = none
set_at sets (suc k) = slice_index_or sets k none

-- the sets by number from 1 on: for each node one that has a name more than an earlier one
abbrev pub sets_from : List Set → List Node → List Set
sets_from sets [] = sets
sets_from sets (node ∷ nodes) = sets_from (sets ++ with_name node.name.0 (set_at sets node.rest.0) ∷ []) nodes

-- the set of a number, by the nodes
abbrev pub set_of : List Node → ℕ → Set
set_of nodes k = set_at (sets_from [] nodes) k

-- what was there stays, and more may follow
abbrev pub Extends : {A : Type 0} → List A → List A → Type 0
Extends {A} old new = (more : List A) × (new ≡ old ++ more)

-- each node goes on with an earlier set
abbrev pub IsLinked : List Node → Type 0
IsLinked nodes = (k : ℕ) (node : Node) → slice_get nodes k ≡ Some node → node.rest.0 ≤ k

-- a name that is not among the seen ones is no node's
abbrev pub IsSeen : List Name → List Node → Type 0
IsSeen seen nodes = (name : ℕ) → list_any (λ n. name == n.0) seen ≡ false → list_any (λ node. node.name.0 == name) nodes ≡ false
