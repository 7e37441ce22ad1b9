-- Laws of the table of macros.
use Rattle.std.proofs.Common.{◌≡◌, [], ◌∷◌, ◌++◌, length, Bool, true, false, Option, Some, None, refl, suc, option_map, Ok, Err}
use Rattle.std.specs.Prelude.{is_some, ◌==◌, if◌then◌else◌}
use Rattle.std.proofs.lemmas.Bool.{eqb-true}
use Rattle.c65_base.specs.declared.refusal.Pos.{Pos}
use Rattle.c65_base.specs.declared.refusal.Size.TheVariants as sizes
use Rattle.c65_base.specs.Limits.{limit_of}
use Rattle.c65_base.specs.Answers.{large}
use Rattle.c65_macro.specs.declared.item.Macro.{Macro}
use Rattle.c65_macro.specs.Table.{Table, or_else}
use Rattle.c65_macro.specs.Definitions.{added}

pub or_else-none : {A : Type 0} (a b : Option A) → is_some a ≡ false → or_else a b ≡ b
or_else-none None b h = refl
or_else-none (Some x) b h = absurd cc

pub or_else-some : {A : Type 0} (a b : Option A) → is_some a ≡ true → is_some (or_else a b) ≡ true
or_else-some None b h = absurd cc
or_else-some (Some x) b h = refl

-- what is known of no macro was not found
pub not_mapped : {A B : Type 0} (f : A → B) (o : Option A) → option_map f o ≡ None → o ≡ None
not_mapped f None h = refl
not_mapped f (Some x) h = absurd cc

-- a macro of a new name goes last
pub added-new : (table : Table) (item : Macro) (place : Pos) → (length table.defined ≡ limit_of sizes.Macros → ⊥) → added table item place None ≡ Ok (record table { defined = table.defined ++ (item.name, item) ∷ [] })
added-new table item place h = by (length table.defined == limit_of sizes.Macros) refl
  where
    by : (b : Bool) → (length table.defined == limit_of sizes.Macros) ≡ b → (if b then Err (large sizes.Macros (suc (limit_of sizes.Macros))) else Ok (record table { defined = table.defined ++ (item.name, item) ∷ [] })) ≡ Ok (record table { defined = table.defined ++ (item.name, item) ∷ [] })
    by true e = absurd (h (eqb-true (length table.defined) (limit_of sizes.Macros) e))
    by false e = refl
