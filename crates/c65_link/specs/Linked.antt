-- The image of a code, or why there is none.
use Rattle.std.specs.Prelude.{◌≡◌, ℕ, ◌+◌, ◌-◌, Bool, true, false, if◌then◌else◌, nat_lt, List, [], ◌∷◌, ◌++◌, Option, Some, None, Result, Ok, Err, slice_index}
use Rattle.c65_base.specs.declared.options.Cpu.{Cpu}
use Rattle.c65_base.specs.declared.options.Cpu.TheVariants.{Nmos}
use Rattle.c65_base.specs.declared.refusal.LinkKind.{LinkKind}
use Rattle.c65_base.specs.declared.refusal.LinkKind.TheVariants.{Undefined}
use Rattle.c65_base.specs.declared.refusal.Size.TheVariants as sizes
use Rattle.c65_base.specs.declared.refusal.Refusal.{Refusal}
use Rattle.c65_base.specs.declared.refusal.Refusal.TheVariants as refusals
use Rattle.c65_base.specs.Limits.{limit_of}
use Rattle.c65_mach.specs.declared.image.Image.{Image}
use Rattle.c65_code.specs.declared.routine.Routine.{Routine}
use Rattle.c65_code.specs.declared.routine.Routine.TheVariants.{Start, StartArgs}
use Rattle.c65_code.specs.declared.code.Code.{Code}
use Rattle.c65_code.specs.Placement.{program_start}
use Rattle.c65_link.specs.declared.symbols.Target.{Target}
use Rattle.c65_link.specs.Runtime.{Chosen, no_marks, with_calls, routine_lines, chosen_by}
use Rattle.c65_link.specs.Symbols.{targets_of, main_in, missing_of, with_code_uses}
use Rattle.c65_link.specs.Layouts.{Layout, layout_of}
use Rattle.c65_link.specs.Bytes.{Written, Tables, with_lines, with_functions, with_routines, data_bytes}

-- why a code has no image: a used symbol without a body, or a number of bytes above the limit
pub data Fault : Type 0 where
  undefined : List ℕ → Fault
  large : ℕ → Fault

abbrev pub entry_of : Code → Routine
entry_of code = if code.main_args then StartArgs else Start

-- the routines that are used, directly or by others, the entry not counted
abbrev pub parts_of : Code → List Target → List Routine
parts_of code targets = (chosen_by (record { marks = with_code_uses code targets (with_calls no_marks (routine_lines (entry_of code))); parts = [] })).parts

abbrev pub or_zero : Option ℕ → ℕ
or_zero None = 0
or_zero (Some i) = i

abbrev pub main_address : Code → Layout → ℕ
main_address code layout = slice_index layout.symbols (or_zero (main_in code.symbols 0))

abbrev pub tables_of : Layout → Tables
tables_of layout = record { symbols = layout.symbols; routines = layout.routines }

-- in a routine's lines symbol 0 is main
abbrev pub routine_tables : Code → Layout → Tables
routine_tables code layout = record { symbols = main_address code layout ∷ []; routines = layout.routines }

-- the entry, the functions, the routines and the data
abbrev pub payload_by : Code → Tables → Tables → Routine → List Routine → List ℕ
payload_by code tables routine_tables entry parts = (with_routines routine_tables (with_functions tables (with_lines routine_tables (record { bytes = []; at = program_start }) (routine_lines entry)) code.functions) parts).bytes ++ data_bytes tables.symbols code.datums

abbrev pub payload_of : Code → Layout → Routine → List Routine → List ℕ
payload_of code layout entry parts = payload_by code (tables_of layout) (routine_tables code layout) entry parts

abbrev pub image_of : List ℕ → Image
image_of payload = record { cpu = Nmos; sp = 0; load = program_start; reset = program_start; payload = payload }

-- the image, unless code, data and zero data together pass the limit
abbrev pub fitted : Code → Routine → List Routine → Layout → Result Image Fault
fitted code entry parts layout = if nat_lt (limit_of sizes.Image) (layout.at - program_start) then Err (large (layout.at - program_start)) else Ok (image_of (payload_of code layout entry parts))

abbrev pub placed : Code → List Target → List Routine → Result Image Fault
placed code targets parts = fitted code (entry_of code) parts (layout_of code targets (entry_of code) parts)

abbrev pub named_or_placed : Code → List Target → Option (List ℕ) → Result Image Fault
named_or_placed code targets (Some name) = Err (undefined name)
named_or_placed code targets None = placed code targets (parts_of code targets)

abbrev pub linked : Code → Result Image Fault
linked code = named_or_placed code (targets_of code) (missing_of code (targets_of code))

-- the same image for this processor
abbrev pub image_for : Cpu → Result Image Fault → Result Image Fault
image_for cpu (Ok image) = Ok (record image { cpu = cpu })
image_for cpu (Err fault) = Err fault

abbrev pub linked_for : Cpu → Code → Result Image Fault
linked_for cpu code = image_for cpu (linked code)

-- the refusal is the definition's fault, or want of memory
abbrev pub FailsAs : LinkKind → List ℕ → Result Image Fault → Type 0
FailsAs Undefined name y = y ≡ Err (undefined name)
FailsAs _ name y = ⊥

abbrev pub Fails : Refusal → Result Image Fault → Type 0
Fails refusals.OutOfMemory y = Unit {0}
Fails (refusals.Link kind name) y = FailsAs kind name y
Fails (refusals.TooLarge sizes.Image value) y = y ≡ Err (large value)
Fails _ y = ⊥

-- what was answered is what the definition gives, unless memory ran out
abbrev pub Gives : Result Image Refusal → Result Image Fault → Type 0
Gives (Ok image) y = y ≡ Ok image
Gives (Err e) y = Fails e y
