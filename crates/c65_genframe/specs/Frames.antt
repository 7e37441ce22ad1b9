-- Frames: where the objects of a function stand, and what its entry and its end do about them (docs/MACHINE.md, "Calls").
use Rattle.std.specs.Prelude.{ℕ, ◌+◌, ◌-◌, ◌*◌, min, ◌||◌, ◌&&◌, Bool, true, false, nat_lt, nat_le, if◌then◌else◌, List, [], ◌∷◌, length, take, Option, None, Some, option_map, slice_get, Result, Ok, Err}
use Rattle.c65_base.specs.declared.refusal.Size.TheVariants as sizes
use Rattle.c65_base.specs.Answers.{Fault, large}
use Rattle.c65_ctype.specs.Trees.{Ty, Fn, fn, unknown, known}
use Rattle.c65_ctype.specs.Views.{types_of}
use Rattle.c65_csem.specs.declared.items.Parts.{Parts}
use Rattle.c65_csem.specs.Trees.{Stmt, FuncTy}
use Rattle.c65_csem.specs.Places.{is_fixed_object}
use Rattle.c65_csem.specs.Views.{func_of}
use Rattle.c65_csem_need.specs.Needs.{greatest_need}
use Rattle.c65_genframe.specs.declared.modes.Modes.{Modes}
use Rattle.c65_genframe.specs.declared.home.Home.{Home}
use Rattle.c65_genframe.specs.declared.home.Home.TheVariants.{Bank, Soft}
use Rattle.c65_genframe.specs.declared.home.Moved.{Moved}
use Rattle.c65_genframe.specs.declared.home.Arrival.{Arrival}
use Rattle.c65_genframe.specs.declared.home.Arrival.TheVariants.{Passed, Pushed, Kept}
use Rattle.c65_genframe.specs.Objects.{locals_of}
use Rattle.c65_genframe.specs.Sizes.{object_in, object_bytes, slot_bytes, bank_bytes, bytes_or}
use Rattle.c65_genframe.specs.Marks.{lowest, all_marks}
use Rattle.c65_genframe.specs.Places.{Places, none_placed, placed_all}
use Rattle.c65_genframe.specs.Arrivals.{slots, Arrivals, arrived}

-- What a frame is seen as: the parts of its program; the homes of objects, the first of which is that of the object
-- with number low; the parameters that move from the software stack to regbank; whether the byte at sp holds the
-- number of bytes that the call pushed; how many bytes of regbank are taken, lowest first; how many bytes at sp the
-- entry takes, beside those of regbank that are taken; how many bytes of parameters stand on the software
-- stack above these; how many bytes of the last parameter arrive in registers; and for how many bytes of the software
-- stack the entry asks, where it checks the stacks.
pub record Framed : Type 0 where
  pub parts : Parts
  pub low : ℕ
  pub homes : List (Option Home)
  pub moved : List Moved
  pub variadic : Bool
  pub bank : ℕ
  pub soft : ℕ
  pub stacked : ℕ
  pub last : Arrival
  pub check : Option ℕ

-- ---- functions

abbrev pub is_variadic : Fn → Bool
is_variadic (fn q ps variadic cdecl) = variadic

-- all parameters go on the software stack
abbrev pub takes_stack : Fn → Bool
takes_stack (fn q ps variadic cdecl) = variadic || cdecl

abbrev pub has_prototype : Fn → Bool
has_prototype (fn q unknown variadic cdecl) = false
has_prototype (fn q (known qs) variadic cdecl) = true

-- the parameter that arrives in registers
abbrev pub register_param : FuncTy → Option ℕ
register_param f = if takes_stack f.ty then None else slice_get f.params (length f.params - 1)

-- ---- homes

abbrev pub flat : Option (Option Home) → Option Home
flat None = None
flat (Some home) = home

abbrev pub home_at : ℕ → List (Option Home) → ℕ → Option Home
home_at low homes i = if nat_le low i then flat (slice_get homes (i - low)) else None

-- ---- the check of the stacks

-- the bytes that an object takes of the frame: none where it has one place for the whole run
abbrev pub framed_bytes : Parts → ℕ → ℕ
framed_bytes parts i = if is_fixed_object (object_in parts i) then 0 else object_bytes (types_of parts.types) (object_in parts i)

-- the bytes of objects
abbrev pub all_bytes : Parts → List ℕ → ℕ
all_bytes parts [] = 0
all_bytes parts (i ∷ objects) = framed_bytes parts i + all_bytes parts objects

abbrev pub waiting_in : Option Stmt → ℕ
waiting_in None = 0
waiting_in (Some body) = greatest_need body

-- ---- the frame of a function

-- how a parameter that arrives in registers comes to its home
abbrev pub arrival_at : Parts → Bool → ℕ → Option Home → Arrival
arrival_at parts prototype i (Some (Bank bank)) = Kept bank (bank_bytes true (object_in parts i))
arrival_at parts prototype i home = Pushed (slot_bytes (types_of parts.types) prototype (object_in parts i))

abbrev pub arrival : Parts → Bool → ℕ → List (Option Home) → Option ℕ → Arrival
arrival parts prototype low homes None = Passed
arrival parts prototype low homes (Some i) = arrival_at parts prototype i (home_at low homes i)

-- such a parameter never comes to the software stack
abbrev pub is_kept : Arrival → Bool
is_kept (Kept bank bytes) = true
is_kept _ = false

abbrev pub last_bytes : Parts → Bool → Option ℕ → ℕ
last_bytes parts prototype None = 0
last_bytes parts prototype (Some i) = slot_bytes (types_of parts.types) prototype (object_in parts i)

-- What a call takes of the software stack beside the bytes that its caller pushed, at most 65,535: its objects, six bytes, eight
-- for each value that waits at once, and the parameter that arrives in registers.
abbrev pub asked_bytes : Parts → FuncTy → ℕ
asked_bytes parts f = min (all_bytes parts (locals_of f) + 6 + 8 * waiting_in f.body + last_bytes parts (has_prototype f.ty) (register_param f)) 65535

abbrev pub check_of : Parts → Modes → FuncTy → Option ℕ
check_of parts modes f = if modes.checked then Some (asked_bytes parts f) else None

abbrev pub without_last : Bool → List ℕ → List ℕ
without_last false params = params
without_last true params = take (length params - 1) params

abbrev pub bytes_without : Bool → ℕ → ℕ → ℕ
bytes_without false passed last = passed
bytes_without true passed last = passed - last

-- as many bytes of regbank are saved as are taken
abbrev pub saved_bytes : ℕ → ℕ
saved_bytes bank = if nat_lt bank 6 then bank else 6

abbrev pub first_arrivals : Places → ℕ → Arrivals
first_arrivals p stacked = record { homes = p.homes; moved = []; left = stacked }

abbrev pub arranged : Parts → Option ℕ → FuncTy → ℕ → ℕ → Places → Arrival → Framed
arranged parts check f low passed p last =
    let prototype = has_prototype f.ty in
    let stacked = bytes_without (is_kept last) passed (last_bytes parts prototype (register_param f)) in
    let a = arrived parts prototype low (p.soft + saved_bytes p.bank) (without_last (is_kept last) f.params) (first_arrivals p stacked) in
    record { parts = parts; low = low; homes = a.homes; moved = a.moved; variadic = is_variadic f.ty; bank = p.bank; soft = p.soft; stacked = stacked; last = last; check = check }

abbrev pub settled : Parts → Option ℕ → FuncTy → ℕ → ℕ → Places → Framed
settled parts check f low passed p = arranged parts check f low passed p (arrival parts (has_prototype f.ty) low p.homes (register_param f))

abbrev pub limited : Parts → Option ℕ → FuncTy → ℕ → ℕ → Places → Result Framed Fault
limited parts check f low passed p = if nat_lt 1024 p.total then Err (large sizes.Frame p.total) else Ok (settled parts check f low passed p)

abbrev pub passed_bytes : Parts → FuncTy → ℕ
passed_bytes parts f = slots parts (has_prototype f.ty) f.params 0

-- the objects in the order of their numbers
abbrev pub placed_in : Parts → Modes → FuncTy → Places
placed_in parts modes f =
    placed_all parts modes (lowest (locals_of f) f.params) (all_marks (locals_of f) f.params) (none_placed (is_variadic f.ty) (passed_bytes parts f))

abbrev pub frame_of : Parts → Modes → FuncTy → Result Framed Fault
frame_of parts modes f = limited parts (check_of parts modes f) f (lowest (locals_of f) f.params) (passed_bytes parts f) (placed_in parts modes f)

abbrev pub frame_in : Parts → Modes → Option FuncTy → Result Framed Fault
frame_in parts modes None = Err (large sizes.Frame 0)
frame_in parts modes (Some f) = frame_of parts modes f

-- the frame of a function, by its number
abbrev pub frame_at : Parts → Modes → ℕ → Result Framed Fault
frame_at parts modes func = frame_in parts modes (option_map func_of (slice_get parts.funcs.items func))

-- ---- what a frame tells

abbrev pub home_of : Framed → ℕ → Option Home
home_of f i = home_at f.low f.homes i

abbrev pub lies_above : ℕ → Option Home → Bool
lies_above soft (Some (Soft offset)) = nat_le soft offset
lies_above soft _ = false

-- a parameter of a variadic function, which lies higher by the bytes of the call's further arguments
abbrev pub is_raised : Framed → ℕ → Bool
is_raised f i = f.variadic && lies_above f.soft (home_of f i)

-- the bytes of a type, 0 where it has no size
abbrev pub type_bytes : Framed → Ty → ℕ
type_bytes f t = bytes_or (types_of f.parts.types) t 0
