-- The states from which a program may start: main is called with the data as placed (docs/MEANING.md, "The start").
use Rattle.std.specs.Prelude.{◌≡◌, ℕ, ◌+◌, ◌-◌, ◌*◌, ◌<◌, ◌≤◌, Bool, true, false, List, [], ◌∷◌, Some, None, slice_get, length, codes}
use Rattle.c65_code.specs.declared.code.Code.{Code}
use Rattle.c65_code.specs.declared.code.Symbol.{Symbol}
use Rattle.c65_code.specs.declared.code.Datum.{Datum}
use Rattle.c65_code.specs.LineState.{Bytes, word_at, State, sp_of, ax_of, IsBytes}
use Rattle.c65_code.specs.Placement.{Placement, stack_end, IsDatumOf, initial_byte, cells_size, size_of_datum}

-- the symbol of main
abbrev pub IsMain : Code → ℕ → Type 0
IsMain code main = (symbol : Symbol) × (slice_get code.symbols main ≡ Some symbol) × (symbol.spelling ≡ codes "_main")

-- a text and the zero byte behind it
abbrev pub IsTextAt : Bytes → ℕ → List ℕ → Type 0
IsTextAt m at [] = m at ≡ 0
IsTextAt m at (byte ∷ bytes) = (m at ≡ byte) × IsTextAt m (at + 1) bytes

-- The arguments lie one below the other, each with its address in the list, which 0 ends; `lowest` is where the last one lies.
abbrev pub AreLaid : Bytes → List (List ℕ) → ℕ → ℕ → ℕ → Type 0
AreLaid m [] at from lowest = (word_at m at ≡ 0) × (lowest ≡ from)
AreLaid m (arg ∷ args) at from lowest =
    let start = from - (length arg + 1) in
    (word_at m at ≡ start) × IsTextAt m start arg × AreLaid m args (at + 2) start lowest

-- where the list of so many arguments begins
abbrev pub list_start : ℕ → ℕ
list_start count = stack_end - 2 * (count + 1)

-- main is called with the argument list on the software stack, argc pushed below it, and argv in AX
pub record HasArguments (args : List (List ℕ)) (t : State) : Type 0 where
  pub argc : word_at t.mem (sp_of t) ≡ length args
  pub argv : ax_of t ≡ list_start (length args)
  pub laid : AreLaid t.mem args (list_start (length args)) (list_start (length args)) (sp_of t + 2)

abbrev pub IsMainCalled : Bool → List (List ℕ) → State → Type 0
IsMainCalled true args t = HasArguments args t
IsMainCalled false args t = sp_of t ≡ stack_end

-- a state at main's first line; what is not said here may be anything
pub record IsStart (code : Code) (place : Placement) (args : List (List ℕ)) (given : List ℕ) (t : State) : Type 0 where
  pub called : IsMainCalled code.main_args args t
  pub data_placed : (i k v : ℕ) (datum : Datum) → IsDatumOf code i datum → initial_byte place datum k ≡ Some v → t.mem (place.address datum.sym.0 + k) ≡ v
  pub zeros_placed : (i k : ℕ) (datum : Datum) → IsDatumOf code i datum → cells_size datum.cells ≤ k → k < size_of_datum datum → t.mem (place.address datum.sym.0 + k) ≡ 0
  pub pushed : t.pushed ≡ []
  pub frames : t.frames ≡ []
  pub input : t.input ≡ given
  pub output : t.output ≡ []
  pub ended : t.ended ≡ None
  pub bytes : IsBytes t
