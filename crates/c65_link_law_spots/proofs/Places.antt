-- The addresses that the linker gives are a placement.
use Rattle.std.proofs.Common.{◌≡◌, Ok, ℕ, zero, suc, ◌+◌, ◌-◌, ◌<◌, ◌≤◌, ◌^◌, ◌%◌, ◌/◌, ◌⊎◌, inl, inr, ◌&&◌, Bool, true, false, nat_le, nat_lt, if◌then◌else◌, List, [], ◌∷◌, ◌++◌, codes, take, Option, Some, None, length, slice_get, slice_index, refl, ap, sym, ◌∙◌, arith, ltb-true}
use Rattle.std.specs.List.{list_any}
use Rattle.std.proofs.lemmas.Bool.{cases_order, or_cases, or_left, or_right, and_parts, and_from, false_from_ne_true, both_ways, le-leb, leb-true, lt-ltb}
use Rattle.std.proofs.lemmas.List.{length-append}
use Rattle.std.proofs.lemmas.Option.{slice_get_within}
use Rattle.c65_base.specs.declared.options.Cpu.{Cpu}
use Rattle.c65_base.specs.declared.library.Library.{Library}
use Rattle.c65_base.specs.Library.{library_name}
use Rattle.c65_mach.specs.declared.image.Image.{Image}
use Rattle.c65_code.specs.declared.routine.Routine.{Routine}
use Rattle.c65_code.specs.declared.routine.Routine.TheVariants as routines
use Rattle.c65_code.specs.declared.line.Sym.{Sym}
use Rattle.c65_code.specs.declared.code.Code.{Code}
use Rattle.c65_code.specs.declared.code.Datum.{Datum}
use Rattle.c65_code.specs.declared.code.DatumKind.{DatumKind}
use Rattle.c65_code.specs.declared.code.DatumKind.TheVariants.{Data, Const, Zero}
use Rattle.c65_code.specs.declared.code.DataCell.{DataCell}
use Rattle.c65_code.specs.declared.code.DataCell.TheVariants.{Byte, Address}
use Rattle.c65_code.specs.Placement.{Placement, cell_bytes, bytes_of_cells, cell_size, cells_size, size_of_datum, IsIn, initial_byte, IsDatumOf, IsFunction, program_start, stack_start}
use Rattle.c65_code.specs.Segments.{Segment}
use Rattle.c65_link.specs.Linked.{linked_for}
use Rattle.c65_link_law.specs.Placed.{first_address, address_of, routines_in}
use Rattle.c65_link_law_spots.specs.Places.{address_in, code_end, is_in, is_const, constant_at, addresses_in, place_in}
use Rattle.c65_link_law_spots.specs.Sound.{IsSound}
use Rattle.c65_link_law_spots.specs.Laws.{PlacesArePlacements}
use Rattle.c65_link_law_spots.proofs.Sums.{none_there, same_there, sums, Room, room, ordered}
use Rattle.c65_link_law_spots.proofs.Numbers.{map_there}
use Rattle.c65_link_law_spots.proofs.Targets.{IsMade, made}
use Rattle.c65_link_law_spots.proofs.Laid.{file_size, blank_size, IsStored, stored_or_zero, as_data, as_const, all_zeros_leave, Only, data_lead, zeros_lead, file_size_is, blank_size_is}
use Rattle.c65_link_law_spots.proofs.Spots.{named, filled, named_wide, filled_wide, files, blanks, data_end, Ends, ends, FunctionAt, function_stands, function_once, RoutineAt, routine_stands, routine_once, segment_full, Stood, own, library, stood}

-- Data

-- a datum lies among the data of the file or among the zeros behind it
pub data Lies (end data_end : ℕ) (files blanks : List ℕ) (kind : DatumKind) (i a size : ℕ) : Type 0 where
  in_file : IsStored kind → a ≡ sums end (take i files) → a + size ≡ sums end (take (suc i) files) → end ≤ a → a + size ≤ data_end → Lies end data_end files blanks kind i a size
  behind : kind ≡ Zero → a ≡ sums data_end (take i blanks) → a + size ≡ sums data_end (take (suc i) blanks) → data_end ≤ a → a + size ≤ sums data_end blanks → Lies end data_end files blanks kind i a size

lies_apart : (end data_end : ℕ) (files blanks : List ℕ) (one other : DatumKind) (i j a c m n b : ℕ) → end ≤ 2 ^ 64 - 1 → data_end ≤ 2 ^ 64 - 1 → Lies end data_end files blanks one i a m → Lies end data_end files blanks other j c n → a ≤ b → b < a + m → c ≤ b → b < c + n → i ≡ j
lies_apart end data_end files blanks one other i j a c m n b h g (in_file k is to low high) (in_file k2 is2 to2 low2 high2) from upto from2 upto2 = by (cases_order i j)
  where
    by : (i ≡ j) ⊎ ((i < j) ⊎ (j < i)) → i ≡ j
    by (inl e) = e
    by (inr (inl l)) = let o = ordered files end (suc i) j h (omega (arith, l)) in absurd (omega (arith, o, to, is2, upto, from2))
    by (inr (inr l)) = let o = ordered files end (suc j) i h (omega (arith, l)) in absurd (omega (arith, o, to2, is, upto2, from))
lies_apart end data_end files blanks one other i j a c m n b h g (behind k is to low high) (behind k2 is2 to2 low2 high2) from upto from2 upto2 = by (cases_order i j)
  where
    by : (i ≡ j) ⊎ ((i < j) ⊎ (j < i)) → i ≡ j
    by (inl e) = e
    by (inr (inl l)) = let o = ordered blanks data_end (suc i) j g (omega (arith, l)) in absurd (omega (arith, o, to, is2, upto, from2))
    by (inr (inr l)) = let o = ordered blanks data_end (suc j) i g (omega (arith, l)) in absurd (omega (arith, o, to2, is, upto2, from))
lies_apart end data_end files blanks one other i j a c m n b h g (in_file k is to low high) (behind k2 is2 to2 low2 high2) from upto from2 upto2 = absurd (omega (arith, high, upto, low2, from2))
lies_apart end data_end files blanks one other i j a c m n b h g (behind k is to low high) (in_file k2 is2 to2 low2 high2) from upto from2 upto2 = absurd (omega (arith, low, from, high2, upto2))

abbrev pub LiesIn : Code → ℕ → Datum → Type 0
LiesIn code i d = Lies (code_end code) (data_end code) (files code) (blanks code) d.kind i (address_in code d.sym.0) (size_of_datum d)

only_there : (code : Code) (i : ℕ) (d : Datum) → IsSound code → IsDatumOf code i d → Only code.datums d.sym.0 i
only_there code i d s here j e there same = s.writable.own_datum j i e d there here same

zero_stored : {P : Type 0} (kind : DatumKind) → IsStored kind → kind ≡ Zero → P
zero_stored Data as_data e = absurd cc
zero_stored Const as_const e = absurd cc
zero_stored Zero h e = elim h [ ]

pub lies : (code : Code) (i : ℕ) (d : Datum) → IsSound code → Ends code → IsDatumOf code i d → LiesIn code i d
lies code i d s e here = by (stored_or_zero d.kind)
  where
    inside : d.sym.0 < length code.symbols
    inside = s.writable.datum_known i d here

    same_kind : (j : ℕ) (x : Datum) → slice_get code.datums j ≡ Some x → x.sym.0 ≡ d.sym.0 → x ≡ d
    same_kind j x there same = same_there x d (sym there ∙ ap (slice_get code.datums) (only_there code i d s here j x there same) ∙ here)

    by : IsStored d.kind ⊎ (d.kind ≡ Zero) → LiesIn code i d
    by (inl stored) =
        let there : slice_get (files code) i ≡ Some (file_size d) = map_there file_size code.datums i d here in
        let first = e.stored in let second = e.zeros in let last = e.all in
        let r : Room (code_end code) (files code) i (file_size d) = room (files code) (code_end code) i (file_size d) (omega (arith, first, second, last)) (omega (arith, second, last)) there in
        let from = r.from in let stop = r.end in let to = r.to in
        let size : file_size d ≡ size_of_datum d = file_size_is d.kind d.cells d.zeros stored (s.writable.shaped i d here) (omega (arith, from, stop, to, second, last)) in
        let wide = named_wide code in
        let named_at = e.named_at in
        let lead : slice_index (filled code).symbols d.sym.0 ≡ sums (named code).at (take i (files code)) % 65536 = data_lead code.datums (named code) i d here stored (omega (arith, named_at, first, second, last)) (omega (arith, inside, wide)) (only_there code i d s here) in
        let kept : address_in code d.sym.0 ≡ slice_index (filled code).symbols d.sym.0 = all_zeros_leave code.datums (filled code) d.sym.0 (λ j x at k same. zero_stored d.kind stored (ap (λ (y : Datum). y.kind) (sym (same_kind j x at same)) ∙ k)) in
        let moved : sums (named code).at (take i (files code)) ≡ sums (code_end code) (take i (files code)) = ap (λ (n : ℕ). sums n (take i (files code))) named_at in
        let is : address_in code d.sym.0 ≡ sums (code_end code) (take i (files code)) = omega (arith, lead, kept, moved, stop, to, second, last) in
        in_file stored is (omega (arith, is, stop, size)) (omega (arith, is, from)) (omega (arith, is, stop, size, to))
    by (inr blank) =
        let there : slice_get (blanks code) i ≡ Some (blank_size d) = map_there blank_size code.datums i d here in
        let first = e.stored in let second = e.zeros in let last = e.all in
        let r : Room (data_end code) (blanks code) i (blank_size d) = room (blanks code) (data_end code) i (blank_size d) (omega (arith, second, last)) (omega (arith, last)) there in
        let from = r.from in let stop = r.end in let to = r.to in
        let size : blank_size d ≡ size_of_datum d = blank_size_is d.kind d.cells d.zeros blank (s.writable.shaped i d here) in
        let wide = filled_wide code in
        let filled_at = e.filled_at in
        let lead : address_in code d.sym.0 ≡ sums (filled code).at (take i (blanks code)) % 65536 = zeros_lead code.datums (filled code) i d here blank (omega (arith, filled_at, second, last)) (omega (arith, inside, wide)) (only_there code i d s here) in
        let moved : sums (filled code).at (take i (blanks code)) ≡ sums (data_end code) (take i (blanks code)) = ap (λ (n : ℕ). sums n (take i (blanks code))) filled_at in
        let is : address_in code d.sym.0 ≡ sums (data_end code) (take i (blanks code)) = omega (arith, lead, moved, stop, to, last) in
        behind blank is (omega (arith, is, stop, size)) (omega (arith, is, from)) (omega (arith, is, stop, size, to))

-- between the end of the code and the software stack
pub record Within (code : Code) (d : Datum) : Type 0 where
  pub from : code_end code ≤ address_in code d.sym.0
  pub to : address_in code d.sym.0 + size_of_datum d ≤ stack_start

pub within : (code : Code) (i : ℕ) (d : Datum) → Ends code → LiesIn code i d → Within code d
within code i d e (in_file k is to low high) = let second = e.zeros in let last = e.all in record { from = low; to = omega (arith, high, second, last) }
within code i d e (behind k is to low high) = let first = e.stored in let last = e.all in record { from = omega (arith, first, low); to = omega (arith, high, last) }

pub datums_apart : (code : Code) (i j b : ℕ) (d x : Datum) → IsSound code → Ends code → IsDatumOf code i d → IsDatumOf code j x → IsIn (place_in code) d b → IsIn (place_in code) x b → i ≡ j
datums_apart code i j b d x s e here there in_d in_x =
    let first = e.stored in let second = e.zeros in let last = e.all in
    lies_apart (code_end code) (data_end code) (files code) (blanks code) d.kind x.kind i j (address_in code d.sym.0) (address_in code x.sym.0) (size_of_datum d) (size_of_datum x) b (omega (arith, first, second, last)) (omega (arith, second, last))
    (lies code i d s e here) (lies code j x s e there) in_d.from in_d.to in_x.from in_x.to

-- Which addresses are data

is_in_from : (code : Code) (d : Datum) (b : ℕ) → IsIn (place_in code) d b → is_in (address_in code) b d ≡ true
is_in_from code d b h = and_from (nat_le (address_in code d.sym.0) b) (nat_lt b (address_in code d.sym.0 + size_of_datum d)) (le-leb (address_in code d.sym.0) b h.from) (lt-ltb b (address_in code d.sym.0 + size_of_datum d) h.to)

is_in_to : (code : Code) (d : Datum) (b : ℕ) → is_in (address_in code) b d ≡ true → IsIn (place_in code) d b
is_in_to code d b h =
    let parts = and_parts (nat_le (address_in code d.sym.0) b) (nat_lt b (address_in code d.sym.0 + size_of_datum d)) h in
    record { from = leb-true (address_in code d.sym.0) b parts.0; to = ltb-true b (address_in code d.sym.0 + size_of_datum d) parts.1 }

any_from : {A : Type 0} (p : A → Bool) (xs : List A) (i : ℕ) (x : A) → slice_get xs i ≡ Some x → p x ≡ true → list_any p xs ≡ true
any_from p [] i x here h = none_there x here
any_from p (y ∷ xs) zero x here h = or_left (p y) (list_any p xs) (ap p (same_there y x here) ∙ h)
any_from p (y ∷ xs) (suc i) x here h = or_right (p y) (list_any p xs) (any_from p xs i x here h)

any_to : {A : Type 0} (p : A → Bool) (xs : List A) → list_any p xs ≡ true → (i : ℕ) × (x : A) × (slice_get xs i ≡ Some x) × (p x ≡ true)
any_to p [] h = absurd cc
any_to {A} p (y ∷ xs) h = by (or_cases (p y) (list_any p xs) h) (any_to p xs)
  where
    by : (p y ≡ true) ⊎ (list_any p xs ≡ true) → (list_any p xs ≡ true → (i : ℕ) × (x : A) × (slice_get xs i ≡ Some x) × (p x ≡ true)) → (i : ℕ) × (x : A) × (slice_get (y ∷ xs) i ≡ Some x) × (p x ≡ true)
    by (inl e) rest = (0, y, refl, e)
    by (inr e) rest = let r = rest e in (suc r.0, r.1, r.2, r.3)

-- Functions

code_is_no_data : (code : Code) (b : ℕ) → IsSound code → Ends code → b < code_end code → (place_in code).is_data b ≡ false
code_is_no_data code b s e l = false_from_ne_true (list_any (is_in (address_in code) b) code.datums) (λ h.
    let d = any_to (is_in (address_in code) b) code.datums h in
    let w : Within code d.1 = within code d.0 d.1 e (lies code d.0 d.1 s e d.2) in
    let at = is_in_to code d.1 b d.3 in
    let from = at.from in let low = w.from in
    omega (arith, l, from, low))

-- the address of a function's symbol lies in the code, behind the start
pub record InCode (code : Code) (f : ℕ) : Type 0 where
  pub from : first_address code ≤ address_in code f
  pub to : address_in code f < code_end code

in_code : (code : Code) (f : ℕ) → IsSound code → Ends code → Stood code f → InCode code f
in_code code f s e (own k g here is) =
    let at : FunctionAt code k g = function_stands code k g s e here in
    let full = segment_full g.1.lines (s.segment k g here) in
    let address : address_in code f ≡ address_of code k = ap (address_in code) (sym is) ∙ at.address in
    let second = e.routines in let from = at.from in let to = at.to in
    record { from = omega (arith, address, from); to = omega (arith, address, to, full, second) }
in_code code f s e (library k l symbol there spelling here address) =
    let at : RoutineAt code k (routines.Library l) = routine_stands code k (routines.Library l) e here in
    let second = e.functions in let from = at.from in let to = at.to in let full = at.full in
    record { from = omega (arith, address, second, from); to = omega (arith, address, to, full) }

same_library : (l m : Library) → ◌≡◌ {A = Option Routine} (Some (routines.Library l)) (Some (routines.Library m)) → l ≡ m
same_library l m h = cc

own_address : (code : Code) (f g : ℕ) → IsSound code → Ends code → Stood code f → Stood code g → address_in code f ≡ address_in code g → f ≡ g
own_address code f g s e (own k x here is) (own m y there is2) same =
    let a : FunctionAt code k x = function_stands code k x s e here in
    let b : FunctionAt code m y = function_stands code m y s e there in
    let place : k ≡ m = function_once code k m x y s e here there (sym a.address ∙ ap (address_in code) is ∙ same ∙ ap (address_in code) (sym is2) ∙ b.address) in
    let unit : x ≡ y = same_there x y (sym here ∙ ap (slice_get code.functions) place ∙ there) in
    sym is ∙ ap (λ (z : Sym × Segment). z.0.0) unit ∙ is2
own_address code f g s e (library k l a there spelling here at) (library m n b there2 spelling2 here2 at2) same =
    let place : k ≡ m = routine_once code k m (routines.Library l) (routines.Library n) e here here2 (sym at ∙ same ∙ at2) in
    let one : l ≡ n = same_library l n (sym here ∙ ap (slice_get (routines_in code)) place ∙ here2) in
    s.writable.own_spelling f g a b there there2 (spelling ∙ ap (λ (x : Library). codes "_" ++ library_name x) one ∙ sym spelling2)
own_address code f g s e (own k x here is) (library m n b there spelling here2 at2) same =
    let a : FunctionAt code k x = function_stands code k x s e here in
    let full = segment_full x.1.lines (s.segment k x here) in
    let r : RoutineAt code m (routines.Library n) = routine_stands code m (routines.Library n) e here2 in
    let address : address_in code f ≡ address_of code k = ap (address_in code) (sym is) ∙ a.address in
    let to = a.to in let from = r.from in
    absurd (omega (arith, address, at2, same, to, full, from))
own_address code f g s e (library m n b there spelling here2 at2) (own k x here is) same =
    let a : FunctionAt code k x = function_stands code k x s e here in
    let full = segment_full x.1.lines (s.segment k x here) in
    let r : RoutineAt code m (routines.Library n) = routine_stands code m (routines.Library n) e here2 in
    let address : address_in code g ≡ address_of code k = ap (address_in code) (sym is) ∙ a.address in
    let to = a.to in let from = r.from in
    absurd (omega (arith, address, at2, same, to, full, from))

-- Const bytes

cell_same : (p q : Placement) (cell : DataCell) → p.address ≡ q.address → cell_bytes p cell ≡ cell_bytes q cell
cell_same p q (Byte v) h = refl
cell_same p q (Address sym offset) h = ap (λ (f : ℕ → ℕ). ((f sym.0 + offset) % 65536 % 256) ∷ ((f sym.0 + offset) % 65536 / 256) ∷ []) h

cells_same : (p q : Placement) (cells : List DataCell) → p.address ≡ q.address → bytes_of_cells p cells ≡ bytes_of_cells q cells
cells_same p q [] h = refl
cells_same p q (c ∷ cells) h = ap (λ (xs : List ℕ). xs ++ bytes_of_cells p cells) (cell_same p q c h) ∙ ap (λ (xs : List ℕ). cell_bytes q c ++ xs) (cells_same p q cells h)

cell_length : (p : Placement) (cell : DataCell) → length (cell_bytes p cell) ≡ cell_size cell
cell_length p (Byte v) = refl
cell_length p (Address sym offset) = refl

pub cells_length : (p : Placement) (cells : List DataCell) → length (bytes_of_cells p cells) ≡ cells_size cells
cells_length p [] = refl
cells_length p (c ∷ cells) =
    let both = length-append (cell_bytes p c) (bytes_of_cells p cells) in
    let first = cell_length p c in let rest = cells_length p cells in
    omega (arith, both, first, rest)

initial_same : (code : Code) (d : Datum) (k : ℕ) → initial_byte (addresses_in code) d k ≡ initial_byte (place_in code) d k
initial_same code d k = ap (λ (xs : List ℕ). slice_get xs k) (cells_same (addresses_in code) (place_in code) d.cells refl)

const_true : (kind : DatumKind) → kind ≡ Const → is_const kind ≡ true
const_true Const e = refl
const_true Data e = absurd cc
const_true Zero e = absurd cc

const_from : (kind : DatumKind) → is_const kind ≡ true → kind ≡ Const
const_from Const e = refl
const_from Data e = absurd cc
const_from Zero e = absurd cc

-- the first const object that an address lies in, or none
pub data Held (code : Code) (ds : List Datum) (b : ℕ) : Type 0 where
  held : (i : ℕ) (d : Datum) → slice_get ds i ≡ Some d → d.kind ≡ Const → IsIn (place_in code) d b → constant_at (addresses_in code) ds b ≡ initial_byte (addresses_in code) d (b - address_in code d.sym.0) → Held code ds b
  free : constant_at (addresses_in code) ds b ≡ None → ((i : ℕ) (d : Datum) → slice_get ds i ≡ Some d → d.kind ≡ Const → IsIn (place_in code) d b → ⊥) → Held code ds b

pub holds : (code : Code) (ds : List Datum) (b : ℕ) → Held code ds b
holds code [] b = free refl (λ i d here k h. none_there d here)
holds code (x ∷ ds) b = by (is_const x.kind && is_in (address_in code) b x) refl (holds code ds b)
  where
    test : Bool
    test = is_const x.kind && is_in (address_in code) b x

    gap : (is_const x.kind && is_in (address_in code) b x) ≡ false → ((i : ℕ) (d : Datum) → slice_get ds i ≡ Some d → d.kind ≡ Const → IsIn (place_in code) d b → ⊥) → (i : ℕ) (d : Datum) → slice_get (x ∷ ds) i ≡ Some d → d.kind ≡ Const → IsIn (place_in code) d b → ⊥
    gap e none zero d here k h =
        let same : x ≡ d = same_there x d here in
        both_ways (is_const x.kind && is_in (address_in code) b x) e
        (and_from (is_const x.kind) (is_in (address_in code) b x) (const_true x.kind (ap (λ (y : Datum). y.kind) same ∙ k)) (ap (is_in (address_in code) b) same ∙ is_in_from code d b h))
    gap e none (suc i) d here k h = none i d here k h

    by : (t : Bool) → (is_const x.kind && is_in (address_in code) b x) ≡ t → Held code ds b → Held code (x ∷ ds) b
    by true e rest =
        let parts = and_parts (is_const x.kind) (is_in (address_in code) b x) e in
        held 0 x refl (const_from x.kind parts.0) (is_in_to code x b parts.1) (ap (λ (t : Bool). if t then initial_byte (addresses_in code) x (b - address_in code x.sym.0) else constant_at (addresses_in code) ds b) e)
    by false e (held i d here k h is) = held (suc i) d here k h (ap (λ (t : Bool). if t then initial_byte (addresses_in code) x (b - address_in code x.sym.0) else constant_at (addresses_in code) ds b) e ∙ is)
    by false e (free is none) = free (ap (λ (t : Bool). if t then initial_byte (addresses_in code) x (b - address_in code x.sym.0) else constant_at (addresses_in code) ds b) e ∙ is) (gap e none)

constant_in : (code : Code) (i k v : ℕ) (d : Datum) → IsSound code → Ends code → IsDatumOf code i d → d.kind ≡ Const → initial_byte (place_in code) d k ≡ Some v → constant_at (addresses_in code) code.datums (address_in code d.sym.0 + k) ≡ Some v
constant_in code i k v d s e here const is = by (holds code code.datums (address_in code d.sym.0 + k))
  where
    inside : IsIn (place_in code) d (address_in code d.sym.0 + k)
    inside =
        let l = slice_get_within (bytes_of_cells (place_in code) d.cells) k v is in
        let n = cells_length (place_in code) d.cells in
        record { from = omega arith; to = omega (arith, l, n) }

    by : Held code code.datums (address_in code d.sym.0 + k) → constant_at (addresses_in code) code.datums (address_in code d.sym.0 + k) ≡ Some v
    by (free none nothing) = absurd (nothing i d here const inside)
    by (held j x there c h at) =
        let place : j ≡ i = datums_apart code j i (address_in code d.sym.0 + k) x d s e there here h inside in
        let same : x ≡ d = same_there x d (sym there ∙ ap (slice_get code.datums) place ∙ here) in
        let back : address_in code d.sym.0 + k - address_in code d.sym.0 ≡ k = omega arith in
        at ∙ ap (λ (y : Datum). initial_byte (addresses_in code) y (address_in code d.sym.0 + k - address_in code y.sym.0)) same ∙ ap (initial_byte (addresses_in code) d) back ∙ initial_same code d k ∙ is

constant_of : (code : Code) (b v : ℕ) → constant_at (addresses_in code) code.datums b ≡ Some v → (i : ℕ) × (k : ℕ) × (d : Datum) × IsDatumOf code i d × (d.kind ≡ Const) × (b ≡ address_in code d.sym.0 + k) × (initial_byte (place_in code) d k ≡ Some v)
constant_of code b v h = by (holds code code.datums b)
  where
    by : Held code code.datums b → (i : ℕ) × (k : ℕ) × (d : Datum) × IsDatumOf code i d × (d.kind ≡ Const) × (b ≡ address_in code d.sym.0 + k) × (initial_byte (place_in code) d k ≡ Some v)
    by (free none nothing) = none_there v (sym none ∙ h)
    by (held i d here c inside at) =
        let from = inside.from in
        let back : b ≡ address_in code d.sym.0 + (b - address_in code d.sym.0) = omega (arith, from) in
        (i, b - address_in code d.sym.0, d, here, c, back, sym (initial_same code d (b - address_in code d.sym.0)) ∙ sym at ∙ h)

pub places_are_placements : PlacesArePlacements
places_are_placements code cpu image s linked_is =
    let m : IsMade code image = made code cpu image linked_is in
    let e : Ends code = ends code m.plain m.is in
    let stood_at = λ (f : ℕ) (h : IsFunction code f). stood code m.plain f s m.is m.missing h in
    record {
      low = λ i d here. (let w : Within code d = within code i d e (lies code i d s e here) in let from = w.from in let first = e.first in let second = e.functions in let third = e.routines in omega (arith, from, first, second, third));
      high = λ i d here. (within code i d e (lies code i d s e here)).to;
      apart = λ i j b d x here there in_d in_x. datums_apart code i j b d x s e here there in_d in_x;
      data_in = λ i b d here h. any_from (is_in (address_in code) b) code.datums i d here (is_in_from code d b h);
      data_of = λ b h. (let d = any_to (is_in (address_in code) b) code.datums h in (d.0, d.1, d.2, is_in_to code d.1 b d.3));
      function_low = λ f h. (let c : InCode code f = in_code code f s e (stood_at f h) in let from = c.from in let first = e.first in omega (arith, from, first));
      function_high = λ f h. (let c : InCode code f = in_code code f s e (stood_at f h) in let to = c.to in let first = e.stored in let second = e.zeros in let last = e.all in omega (arith, to, first, second, last));
      function_outside = λ f h. code_is_no_data code (address_in code f) s e (in_code code f s e (stood_at f h)).to;
      function_own = λ f g h k same. own_address code f g s e (stood_at f h) (stood_at g k) same;
      constant_in = λ i k v d here const is. constant_in code i k v d s e here const is;
      constant_of = λ b v h. constant_of code b v h;
    }

-- functions and data have their addresses behind the start
pub record AreBehindStart (code : Code) : Type 0 where
  pub function : (f : ℕ) → IsFunction code f → first_address code ≤ address_in code f
  pub datum : (i : ℕ) (d : Datum) → IsDatumOf code i d → first_address code ≤ address_in code d.sym.0

pub all_behind_start : (code : Code) (cpu : Cpu) (image : Image) → IsSound code → linked_for cpu code ≡ Ok image → AreBehindStart code
all_behind_start code cpu image s linked_is =
    let m : IsMade code image = made code cpu image linked_is in
    let e : Ends code = ends code m.plain m.is in
    record {
      function = λ f h. (let c : InCode code f = in_code code f s e (stood code m.plain f s m.is m.missing h) in c.from);
      datum = λ i d here. (let w : Within code d = within code i d e (lies code i d s e here) in let from = w.from in let second = e.functions in let third = e.routines in omega (arith, from, second, third));
    }
