-- The declarations of one name space (C90 6.1.2.1): what each name means now, and what each declaration
-- hides, the latest first. Where a block ends, its names mean what they meant before it.
use Rattle.std.specs.Prelude.{ℕ, zero, suc, List, [], ◌∷◌, reverse, Bool, false, Option, Some, None, slice_get, ◌==◌, if◌then◌else◌}
use Rattle.c65_base.specs.declared.names.Name.{Name}
use Rattle.c65_elab_scope.specs.declared.meaning.Meaning.{Meaning}
use Rattle.c65_elab_scope.specs.declared.meaning.Meaning.TheVariants as m
use Rattle.c65_elab_scope.specs.declared.meaning.Bound.{Bound}
use Rattle.c65_elab_scope.specs.declared.table.Hidden.{Hidden}
use Rattle.c65_elab_scope.specs.declared.table.Table.{Table}

pub record TableTy : Type 0 where
  pub current : List (Option Bound)
  pub hidden : List Hidden

abbrev pub table_of : Table → TableTy
table_of t = record { current = t.current.items; hidden = reverse t.hidden.items }

abbrev pub no_names : TableTy
no_names = record { current = []; hidden = [] }

-- the same object or function
abbrev pub same_meaning : Meaning → Meaning → Bool
same_meaning (m.Object i) (m.Object j) = i == j
same_meaning (m.Func i) (m.Func j) = i == j
same_meaning _ _ = false

abbrev pub flat : {A : Type 0} → Option (Option A) → Option A
flat None = None
flat (Some x) = x

-- what the nearest declaration made of a name
abbrev pub found : TableTy → Name → Option Bound
found t n = flat (slice_get t.current n.0)

-- where it was declared in this very block
abbrev pub own : ℕ → Option Bound → Option Meaning
own block None = None
own block (Some b) = if b.block == block then Some b.meaning else None

abbrev pub found_in : TableTy → Name → ℕ → Option Meaning
found_in t n block = own block (found t n)

-- room for the item at this place
abbrev pub grown : {A : Type 0} → List (Option A) → ℕ → List (Option A)
grown [] zero = None ∷ []
grown [] (suc n) = None ∷ grown [] n
grown (x ∷ xs) zero = x ∷ xs
grown (x ∷ xs) (suc n) = x ∷ grown xs n

abbrev pub replaced : {A : Type 0} → List A → ℕ → A → List A
replaced [] n v = []
replaced (x ∷ xs) zero v = v ∷ xs
replaced (x ∷ xs) (suc n) v = x ∷ replaced xs n v

abbrev pub bound_in : List (Option Bound) → Name → Bound → List (Option Bound)
bound_in xs n b = replaced (grown xs n.0) n.0 (Some b)

-- a declaration in a block
abbrev pub bound : TableTy → Name → Meaning → ℕ → TableTy
bound t n m block = record { current = bound_in t.current n (record { meaning = m; block = block }); hidden = record { name = n; block = block; hides = found t n } ∷ t.hidden }

-- the latest declaration is of this block
abbrev pub ends_in : ℕ → List Hidden → Bool
ends_in block [] = false
ends_in block (h ∷ hs) = h.block == block

-- the latest declaration taken back
abbrev pub undone_in : List (Option Bound) → List Hidden → TableTy
undone_in xs [] = record { current = xs; hidden = [] }
undone_in xs (h ∷ hs) = record { current = replaced xs h.name.0 h.hides; hidden = hs }

abbrev pub undone : TableTy → TableTy
undone t = undone_in t.current t.hidden

-- the declarations of a block, which are the latest, taken back
abbrev pub closed_in : ℕ → List (Option Bound) → List Hidden → TableTy
closed_in block xs [] = record { current = xs; hidden = [] }
closed_in block xs (h ∷ hs) = if h.block == block then closed_in block (replaced xs h.name.0 h.hides) hs else record { current = xs; hidden = h ∷ hs }

abbrev pub closed_table : ℕ → TableTy → TableTy
closed_table block t = closed_in block t.current t.hidden
