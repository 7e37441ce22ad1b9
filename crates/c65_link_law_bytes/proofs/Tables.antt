-- The addresses of symbols and of routines are of two bytes.
use Rattle.std.proofs.Common.{ℕ, zero, suc, ◌+◌, ◌%◌, ◌<◌, List, [], ◌∷◌, ◌++◌, replicate, slice_index, slice_set, length, arith}
use Rattle.c65_code.specs.declared.line.Sym.{Sym}
use Rattle.c65_code.specs.declared.code.Code.{Code}
use Rattle.c65_code.specs.declared.code.Datum.{Datum}
use Rattle.c65_code.specs.declared.code.DatumKind.{DatumKind}
use Rattle.c65_code.specs.declared.code.DatumKind.TheVariants.{Data, Const, Zero}
use Rattle.c65_code.specs.declared.routine.Routine.{Routine}
use Rattle.c65_code.specs.declared.routine.Routine.TheVariants as routines
use Rattle.c65_code.specs.Numbering.{number_of}
use Rattle.c65_code.specs.Segments.{Segment}
use Rattle.c65_link.specs.declared.symbols.Target.{Target}
use Rattle.c65_link.specs.declared.symbols.Target.TheVariants.{Nowhere, Own, Runtime}
use Rattle.c65_link.specs.Layouts.{Layout, hook_addresses, empty_layout, with_lines, with_function, with_functions, with_routine, with_routines, with_target, with_targets, with_datum, with_data, with_zeros, with_all_data, with_all_zeros, cells_end}
use Rattle.c65_link.specs.Runtime.{routine_lines}
use Rattle.c65_link.specs.Linked.{entry_of}
use Rattle.c65_link.specs.Symbols.{targets_of}
use Rattle.c65_link_law.specs.Placed.{layout_in, routines_in}

abbrev pub AreWords : List ℕ → Type 0
AreWords xs = (k : ℕ) → slice_index xs k < 65536

zeros_are : (n : ℕ) → AreWords (replicate n 0)
zeros_are zero k = omega arith
zeros_are (suc n) zero = omega arith
zeros_are (suc n) (suc k) = zeros_are n k

joined : (xs ys : List ℕ) → AreWords xs → AreWords ys → AreWords (xs ++ ys)
joined [] ys h k i = k i
joined (x ∷ xs) ys h k zero = h zero
joined (x ∷ xs) ys h k (suc i) = joined xs ys (λ j. h (suc j)) k i

put : (xs : List ℕ) (i v : ℕ) → AreWords xs → v < 65536 → AreWords (slice_set xs i v)
put [] i v h less k = h k
put (x ∷ xs) zero v h less zero = less
put (x ∷ xs) zero v h less (suc k) = h (suc k)
put (x ∷ xs) (suc i) v h less zero = h zero
put (x ∷ xs) (suc i) v h less (suc k) = put xs i v (λ j. h (suc j)) less k

hooks_are : AreWords hook_addresses
hooks_are zero = omega arith
hooks_are (suc zero) = omega arith
hooks_are (suc (suc zero)) = omega arith
hooks_are (suc (suc (suc zero))) = omega arith
hooks_are (suc (suc (suc (suc zero)))) = omega arith
hooks_are (suc (suc (suc (suc (suc zero))))) = omega arith
hooks_are (suc (suc (suc (suc (suc (suc k)))))) = omega arith

pub record HasWords (layout : Layout) : Type 0 where
  pub symbols : AreWords layout.symbols
  pub routines : AreWords layout.routines

symbol_put : (layout : Layout) (i v : ℕ) → HasWords layout → v < 65536 → HasWords (record layout { symbols = slice_set layout.symbols i v })
symbol_put layout i v h less = record { symbols = put layout.symbols i v h.symbols less; routines = h.routines }

-- another address comes next
moved : (layout : Layout) (at : ℕ) → HasWords layout → HasWords (record layout { at = at })
moved layout at h = record { symbols = h.symbols; routines = h.routines }

functions_put : (fs : List (Sym × Segment)) (layout : Layout) → HasWords layout → HasWords (with_functions layout fs)
functions_put [] layout h = h
functions_put (f ∷ fs) layout h =
    let one : HasWords (with_function layout f) = record { symbols = put layout.symbols f.0.0 (layout.at % 65536) h.symbols (omega arith); routines = h.routines } in
    functions_put fs (with_function layout f) one

routines_put : (rs : List Routine) (layout : Layout) → HasWords layout → HasWords (with_routines layout rs)
routines_put [] layout h = h
routines_put (r ∷ rs) layout h =
    let one : HasWords (with_routine layout r) = record { symbols = h.symbols; routines = put layout.routines (number_of r) (layout.at % 65536) h.routines (omega arith) } in
    routines_put rs (with_routine layout r) one

target_put : (target : Target) (layout : Layout) (i : ℕ) → HasWords layout → HasWords (with_target layout i target)
target_put Nowhere layout i h = h
target_put Own layout i h = h
target_put (Runtime f) layout i h = symbol_put layout i (slice_index layout.routines (number_of (routines.Library f))) h (h.routines (number_of (routines.Library f)))

targets_put : (targets : List Target) (layout : Layout) (i : ℕ) → HasWords layout → HasWords (with_targets layout i targets)
targets_put [] layout i h = h
targets_put (target ∷ targets) layout i h = targets_put targets (with_target layout i target) (i + 1) (target_put target layout i h)

datum_put : (layout : Layout) (datum : Datum) (size : ℕ) → HasWords layout → HasWords (with_datum layout datum size)
datum_put layout datum size h = record { symbols = put layout.symbols datum.sym.0 (layout.at % 65536) h.symbols (omega arith); routines = h.routines }

data_put : (kind : DatumKind) (layout : Layout) (datum : Datum) → HasWords layout → HasWords (with_data kind layout datum)
data_put Zero layout datum h = h
data_put Data layout datum h = datum_put layout datum (cells_end 0 datum.cells) h
data_put Const layout datum h = datum_put layout datum (cells_end 0 datum.cells) h

zeros_put : (kind : DatumKind) (layout : Layout) (datum : Datum) → HasWords layout → HasWords (with_zeros kind layout datum)
zeros_put Zero layout datum h = datum_put layout datum datum.zeros h
zeros_put Data layout datum h = h
zeros_put Const layout datum h = h

all_data_put : (datums : List Datum) (layout : Layout) → HasWords layout → HasWords (with_all_data layout datums)
all_data_put [] layout h = h
all_data_put (datum ∷ datums) layout h = all_data_put datums (with_data datum.kind layout datum) (data_put datum.kind layout datum h)

all_zeros_put : (datums : List Datum) (layout : Layout) → HasWords layout → HasWords (with_all_zeros layout datums)
all_zeros_put [] layout h = h
all_zeros_put (datum ∷ datums) layout h = all_zeros_put datums (with_zeros datum.kind layout datum) (zeros_put datum.kind layout datum h)

empty_words : (count : ℕ) → HasWords (empty_layout count)
empty_words count = record { symbols = zeros_are count; routines = joined (replicate 117 0) hook_addresses (zeros_are 117) hooks_are }

pub layout_words : (code : Code) → HasWords (layout_in code)
layout_words code =
    let begun : Layout = with_lines (empty_layout (length code.symbols)) (routine_lines (entry_of code)) in
    let first : HasWords begun = (let e = empty_words (length code.symbols) in record { symbols = e.symbols; routines = e.routines }) in
    let functions : HasWords (with_functions begun code.functions) = functions_put code.functions begun first in
    let all : HasWords (with_routines (with_functions begun code.functions) (routines_in code)) = routines_put (routines_in code) (with_functions begun code.functions) functions in
    let named : HasWords (with_targets (with_routines (with_functions begun code.functions) (routines_in code)) 0 (targets_of code)) = targets_put (targets_of code) (with_routines (with_functions begun code.functions) (routines_in code)) 0 all in
    all_zeros_put code.datums (with_all_data (with_targets (with_routines (with_functions begun code.functions) (routines_in code)) 0 (targets_of code)) code.datums)
    (all_data_put code.datums (with_targets (with_routines (with_functions begun code.functions) (routines_in code)) 0 (targets_of code)) named)
