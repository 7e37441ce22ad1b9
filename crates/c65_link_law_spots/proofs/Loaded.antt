-- What memory has when a run of an image begins.
use Rattle.std.proofs.Common.{◌≡◌, ℕ, zero, suc, ◌+◌, ◌-◌, ◌<◌, ◌≤◌, ◌^◌, ◌⊎◌, inl, inr, Bool, true, false, nat_lt, if◌then◌else◌, List, [], ◌∷◌, ◌++◌, map, take, replicate, Option, Some, None, Result, Ok, Err, length, slice_get, slice_index, refl, ap, sym, ◌∙◌, subst, arith}
use Rattle.std.proofs.lemmas.Bool.{cases_lt}
use Rattle.std.proofs.lemmas.List.{length-append, length-replicate, get_or-take, get_or-append_right, get_or_append_left, get_or_past}
use Rattle.std.proofs.lemmas.Option.{slice_get_within}
use Rattle.c65_base.specs.declared.options.Cpu.{Cpu}
use Rattle.c65_mach.specs.declared.image.Image.{Image}
use Rattle.c65_mach.specs.State.{read, loaded_memory}
use Rattle.c65_code.specs.declared.routine.Routine.{Routine}
use Rattle.c65_code.specs.declared.line.Sym.{Sym}
use Rattle.c65_code.specs.declared.line.Line.{Line}
use Rattle.c65_code.specs.declared.code.Code.{Code}
use Rattle.c65_code.specs.declared.code.Datum.{Datum}
use Rattle.c65_code.specs.declared.code.DatumKind.{DatumKind}
use Rattle.c65_code.specs.declared.code.DatumKind.TheVariants.{Data, Const, Zero}
use Rattle.c65_code.specs.declared.code.DataCell.{DataCell}
use Rattle.c65_code.specs.declared.code.DataCell.TheVariants.{Byte, Address}
use Rattle.c65_code.specs.Placement.{cell_bytes, bytes_of_cells, cells_size, size_of_datum, initial_byte, IsDatumOf, program_start}
use Rattle.c65_code.specs.Segments.{Segment}
use Rattle.c65_code.specs.Writable.{IsShaped as IsShapedDatum}
use Rattle.c65_link.specs.Bodies.{body_of, plus}
use Rattle.c65_link.specs.Bytes.{Written, Tables, with_lines, with_functions, with_routines, cells_bytes, datum_bytes, data_bytes}
use Rattle.c65_link.specs.Runtime.{routine_lines}
use Rattle.c65_link.specs.Symbols.{targets_of, missing_of}
use Rattle.c65_link.specs.Linked.{Fault, large, entry_of, image_of, named_or_placed, linked, image_for, linked_for, tables_of, routine_tables}
use Rattle.c65_link_law.specs.Coded.{Memory, Stands}
use Rattle.c65_link_law.specs.Placed.{behind, first_address, behind_routines, routines_in, layout_in}
use Rattle.c65_link_law.proofs.Sizes.{plus_most}
use Rattle.c65_link_law.proofs.Lines.{stands_split}
use Rattle.c65_link_law.proofs.Placed.{Grows, behind_grows, routines_reach, file_of, Fits, one_bytes, one_length}
use Rattle.c65_link_law_spots.specs.Places.{address_in, code_end, place_in}
use Rattle.c65_link_law_spots.specs.Laws.{DataAreLoaded}
use Rattle.c65_link_law_spots.proofs.Sums.{none_there, same_there, sums, sums_grow}
use Rattle.c65_link_law_spots.proofs.Targets.{IsMade, made}
use Rattle.c65_link_law_spots.proofs.Laid.{IsStored, as_data, as_const, stored_size, file_size, cells_exact, no_cells}
use Rattle.c65_link_law_spots.proofs.Spots.{Ends, ends, files, data_end}
use Rattle.c65_link_law_spots.proofs.Places.{in_file, behind as behind_file, LiesIn, lies, cells_length}

-- The image's other words

shape_by : (b : Bool) (at : ℕ) (payload : List ℕ) (plain : Image) → (if b then Err (large (at - 512)) else Ok (image_of payload)) ≡ Ok plain → plain ≡ image_of payload
shape_by true at payload plain h = absurd cc
shape_by false at payload plain h = cc

shape : (code : Code) (o : Option (List ℕ)) (plain : Image) → named_or_placed code (targets_of code) o ≡ Ok plain → plain ≡ image_of (file_of code)
shape code (Some name) plain h = absurd cc
shape code None plain h = shape_by (nat_lt 62960 ((layout_in code).at - 512)) (layout_in code).at (file_of code) plain h

-- an image that was linked is loaded at $0200 and begins there
pub record IsShaped (code : Code) (cpu : Cpu) (image : Image) : Type 0 where
  pub cpu_is : image.cpu ≡ cpu
  pub sp : image.sp ≡ 0
  pub load : image.load ≡ program_start
  pub reset : image.reset ≡ program_start
  pub payload : image.payload ≡ file_of code

pub shaped : (code : Code) (cpu : Cpu) (image : Image) → linked_for cpu code ≡ Ok image → IsShaped code cpu image
shaped code cpu image h = by (linked code) refl h
  where
    by : (r : Result Image Fault) → linked code ≡ r → image_for cpu r ≡ Ok image → IsShaped code cpu image
    by (Err fault) e g = absurd cc
    by (Ok plain) e g =
        let same : ◌≡◌ {A = Image} (record plain { cpu = cpu }) image = cc in
        let is : plain ≡ image_of (file_of code) = shape code (missing_of code (targets_of code)) plain e in
        record {
          cpu_is = ap (λ (i : Image). i.cpu) (sym same);
          sp = ap (λ (i : Image). i.sp) (sym same) ∙ ap (λ (i : Image). i.sp) is;
          load = ap (λ (i : Image). i.load) (sym same) ∙ ap (λ (i : Image). i.load) is;
          reset = ap (λ (i : Image). i.reset) (sym same) ∙ ap (λ (i : Image). i.reset) is;
          payload = ap (λ (i : Image). i.payload) (sym same) ∙ ap (λ (i : Image). i.payload) is;
        }

-- Memory as it is loaded

zero_anywhere : (n i : ℕ) → slice_index (replicate n 0) i ≡ 0
zero_anywhere zero i = refl
zero_anywhere (suc n) zero = refl
zero_anywhere (suc n) (suc i) = zero_anywhere n i

behind_zeros : (n k : ℕ) (bytes : List ℕ) → slice_index (bytes ++ replicate n 0) k ≡ slice_index bytes k
behind_zeros n k bytes = by (cases_lt k (length bytes))
  where
    by : (k < length bytes) ⊎ (length bytes ≤ k) → slice_index (bytes ++ replicate n 0) k ≡ slice_index bytes k
    by (inl l) = get_or_append_left bytes (replicate n 0) 0 k l
    by (inr past) = get_or-append_right bytes (replicate n 0) (length bytes) k 0 refl past ∙ zero_anywhere n (k - length bytes) ∙ sym (get_or_past bytes k 0 past)

loaded_byte : (n load k : ℕ) (bytes : List ℕ) → load + k < n → slice_index (take n (replicate load 0 ++ (bytes ++ replicate n 0))) (load + k) ≡ slice_index bytes k
loaded_byte n load k bytes l =
    let back : load + k - load ≡ k = omega arith in
    get_or-take n (replicate load 0 ++ (bytes ++ replicate n 0)) (load + k) 0 l
    ∙ get_or-append_right (replicate load 0) (bytes ++ replicate n 0) load (load + k) 0 (length-replicate load 0) (omega arith)
    ∙ ap (slice_index (bytes ++ replicate n 0)) back
    ∙ behind_zeros n k bytes

pub read_loaded : (image : Image) (k : ℕ) → image.load ≡ program_start → program_start + k < 65536 → read (loaded_memory image) (program_start + k) ≡ slice_index image.payload k
read_loaded image k load l =
    subst (λ (at : ℕ). read (loaded_memory image) (at + k) ≡ slice_index image.payload k) load (loaded_byte 65536 image.load k image.payload (omega (arith, load, l)))

-- bytes that stand below an end
stands_below : (xs : List ℕ) (m : Memory) (at : ℕ) → ((k : ℕ) → k < length xs → m (at + k) ≡ slice_index xs k) → Stands m at xs
stands_below [] m at h = tt
stands_below (x ∷ xs) m at h =
    (ap m (let e : at ≡ at + 0 = omega arith in e) ∙ h 0 (omega arith), stands_below xs m (at + 1) (λ k l. ap m (let e : at + 1 + k ≡ at + suc k = omega arith in e) ∙ h (suc k) (omega (arith, l))))

stands_get : (xs : List ℕ) (m : Memory) (at k v : ℕ) → Stands m at xs → slice_get xs k ≡ Some v → m (at + k) ≡ v
stands_get [] m at k v h here = none_there v here
stands_get (x ∷ xs) m at zero v h here = ap m (let e : at + 0 ≡ at = omega arith in e) ∙ h.0 ∙ same_there x v here
stands_get (x ∷ xs) m at (suc k) v h here = ap m (let e : at + suc k ≡ at + 1 + k = omega arith in e) ∙ stands_get xs m (at + 1) k v h.1 here

-- The file's bytes are as many as the addresses say

abbrev Even : Written → Type 0
Even w = w.at ≡ program_start + length w.bytes

even_lines : (tables : Tables) (w : Written) (lines : List Line) → Even w → (with_lines tables w lines).at ≤ 65535 → Even (with_lines tables w lines)
even_lines tables w lines h low =
    let size : ℕ = (body_of lines).size in
    let room : Fits w.at size = record { sum = omega (arith, low); low = omega (arith, low) } in
    let here : w.at + length (one_bytes tables w.at lines) ≡ plus w.at size = one_length lines tables w.at room in
    let both : length (w.bytes ++ one_bytes tables w.at lines) ≡ length w.bytes + length (one_bytes tables w.at lines) = length-append w.bytes (one_bytes tables w.at lines) in
    omega (arith, here, both, h)

even_functions : (fs : List (Sym × Segment)) (tables : Tables) (w : Written) → Even w → behind w.at fs ≤ 65535 → Even (with_functions tables w fs)
even_functions [] tables w h low = h
even_functions (f ∷ fs) tables w h low =
    let n : ℕ = plus w.at (body_of f.1.lines).size in
    let g : Grows n (behind n fs) = behind_grows fs n (plus_most w.at (body_of f.1.lines).size) in
    let least = g.least in
    even_functions fs tables (with_lines tables w f.1.lines) (even_lines tables w f.1.lines h (omega (arith, least, low))) low

even_routines : (rs : List Routine) (tables : Tables) (w : Written) → Even w → behind_routines w.at rs ≤ 65535 → Even (with_routines tables w rs)
even_routines [] tables w h low = h
even_routines (r ∷ rs) tables w h low =
    let n : ℕ = plus w.at (body_of (routine_lines r)).size in
    let g : Grows n (behind_routines n rs) = routines_reach rs n (plus_most w.at (body_of (routine_lines r)).size) in
    let least = g.least in
    even_routines rs tables (with_lines tables w (routine_lines r)) (even_lines tables w (routine_lines r) h (omega (arith, least, low))) low

functions_at : (fs : List (Sym × Segment)) (tables : Tables) (w : Written) → (with_functions tables w fs).at ≡ behind w.at fs
functions_at [] tables w = refl
functions_at (f ∷ fs) tables w = functions_at fs tables (with_lines tables w f.1.lines)

routines_at : (rs : List Routine) (tables : Tables) (w : Written) → (with_routines tables w rs).at ≡ behind_routines w.at rs
routines_at [] tables w = refl
routines_at (r ∷ rs) tables w = routines_at rs tables (with_lines tables w (routine_lines r))

-- the code's bytes end where it ends
code_length : (code : Code) → Ends code → program_start + length (with_routines (routine_tables code (layout_in code)) (with_functions (tables_of (layout_in code)) (with_lines (routine_tables code (layout_in code)) (record { bytes = []; at = program_start }) (routine_lines (entry_of code))) code.functions) (routines_in code)).bytes ≡ code_end code
code_length code e =
    let tables : Tables = tables_of (layout_in code) in
    let own : Tables = routine_tables code (layout_in code) in
    let lines : List Line = routine_lines (entry_of code) in
    let begun : Written = with_lines own (record { bytes = []; at = program_start }) lines in
    let coded : Written = with_functions tables begun code.functions in
    let all : Written = with_routines own coded (routines_in code) in
    let first = e.functions in let second = e.routines in let third = e.stored in let fourth = e.zeros in let last = e.all in
    let one : Even begun = even_lines own (record { bytes = []; at = program_start }) lines (omega arith) (omega (arith, first, second, third, fourth, last)) in
    let two : Even coded = even_functions code.functions tables begun one (omega (arith, second, third, fourth, last)) in
    let coded_at : coded.at ≡ behind (first_address code) code.functions = functions_at code.functions tables begun in
    let all_at : all.at ≡ code_end code = routines_at (routines_in code) own coded ∙ ap (λ (n : ℕ). behind_routines n (routines_in code)) coded_at in
    let moved : behind_routines coded.at (routines_in code) ≡ code_end code = ap (λ (n : ℕ). behind_routines n (routines_in code)) coded_at in
    let three : Even all = even_routines (routines_in code) own coded two (omega (arith, moved, third, fourth, last)) in
    sym three ∙ all_at

-- the data begin where the code ends
data_begin : (code : Code) (m : Memory) → Ends code → Stands m program_start (file_of code) → Stands m (code_end code) (data_bytes (layout_in code).symbols code.datums)
data_begin code m e stands =
    let tables : Tables = tables_of (layout_in code) in
    let own : Tables = routine_tables code (layout_in code) in
    let lines : List Line = routine_lines (entry_of code) in
    let begun : Written = with_lines own (record { bytes = []; at = program_start }) lines in
    let coded : Written = with_functions tables begun code.functions in
    let all : Written = with_routines own coded (routines_in code) in
    let whole = stands_split all.bytes (data_bytes tables.symbols code.datums) m program_start stands in
    let place : program_start + length all.bytes ≡ code_end code = code_length code e in
    subst (λ (n : ℕ). Stands m n (data_bytes tables.symbols code.datums)) place whole.1

-- One datum's bytes

linked_cells : (code : Code) (cells : List DataCell) → cells_bytes (layout_in code).symbols cells ≡ bytes_of_cells (place_in code) cells
linked_cells code [] = refl
linked_cells code (Byte v ∷ cells) = ap (λ (xs : List ℕ). v ∷ xs) (linked_cells code cells)
linked_cells code (Address s o ∷ cells) = ap (λ (xs : List ℕ). cell_bytes (place_in code) (Address s o) ++ xs) (linked_cells code cells)

bytes_length : (code : Code) (kind : DatumKind) (cells : List DataCell) → stored_size kind cells ≤ 65535 → length (datum_bytes (layout_in code).symbols kind cells) ≡ stored_size kind cells
bytes_length code Data cells low = ap length (linked_cells code cells) ∙ cells_length (place_in code) cells ∙ (let e = cells_exact cells 0 (omega arith) low in omega (arith, e))
bytes_length code Const cells low = ap length (linked_cells code cells) ∙ cells_length (place_in code) cells ∙ (let e = cells_exact cells 0 (omega arith) low in omega (arith, e))
bytes_length code Zero cells low = refl

datum_stands : (ds : List Datum) (code : Code) (m : Memory) (at i : ℕ) (d : Datum) → at ≤ 2 ^ 64 - 1 → sums at (map file_size ds) ≤ 65535 → Stands m at (data_bytes (layout_in code).symbols ds) → slice_get ds i ≡ Some d
    → Stands m (sums at (take i (map file_size ds))) (datum_bytes (layout_in code).symbols d.kind d.cells)
datum_stands [] code m at i d h low stands here = none_there d here
datum_stands (e ∷ ds) code m at zero d h low stands here =
    let parts = stands_split (datum_bytes (layout_in code).symbols e.kind e.cells) (data_bytes (layout_in code).symbols ds) m at stands in
    subst (λ (x : Datum). Stands m at (datum_bytes (layout_in code).symbols x.kind x.cells)) (same_there e d here) parts.0
datum_stands (e ∷ ds) code m at (suc i) d h low stands here =
    let parts = stands_split (datum_bytes (layout_in code).symbols e.kind e.cells) (data_bytes (layout_in code).symbols ds) m at stands in
    let g : Grows (plus at (file_size e)) (sums (plus at (file_size e)) (map file_size ds)) = sums_grow (map file_size ds) (plus at (file_size e)) (plus_most at (file_size e)) in
    let least = g.least in
    let long : length (datum_bytes (layout_in code).symbols e.kind e.cells) ≡ file_size e = bytes_length code e.kind e.cells (omega (arith, least, low)) in
    let place : at + length (datum_bytes (layout_in code).symbols e.kind e.cells) ≡ plus at (file_size e) = omega (arith, long, least, low) in
    datum_stands ds code m (plus at (file_size e)) i d (plus_most at (file_size e)) low (subst (λ (n : ℕ). Stands m n (data_bytes (layout_in code).symbols ds)) place parts.1) here

stored_bytes : (code : Code) (kind : DatumKind) (cells : List DataCell) (k v : ℕ) → (kind ≡ Zero → length cells ≡ 0) → slice_get (bytes_of_cells (place_in code) cells) k ≡ Some v → slice_get (datum_bytes (layout_in code).symbols kind cells) k ≡ Some v
stored_bytes code Data cells k v blank h = ap (λ (xs : List ℕ). slice_get xs k) (linked_cells code cells) ∙ h
stored_bytes code Const cells k v blank h = ap (λ (xs : List ℕ). slice_get xs k) (linked_cells code cells) ∙ h
stored_bytes code Zero [] k v blank h = h
stored_bytes code Zero (c ∷ cells) k v blank h = (let e = blank refl in absurd (omega (arith, e)))

zero_cells : (kind : DatumKind) (cells : List DataCell) (blank : ℕ) → kind ≡ Zero → IsShapedDatum kind (length cells) blank → length cells ≡ 0
zero_cells Zero cells blank e h = h
zero_cells Data cells blank e h = absurd cc
zero_cells Const cells blank e h = absurd cc

no_blank : (kind : DatumKind) (cells : List DataCell) (blank : ℕ) → IsStored kind → IsShapedDatum kind (length cells) blank → blank ≡ 0
no_blank Data cells blank as_data h = h.1
no_blank Const cells blank as_const h = h.1
no_blank Zero cells blank stored h = elim stored [ ]

data_length : (ds : List Datum) (code : Code) (at : ℕ) → at ≤ 2 ^ 64 - 1 → sums at (map file_size ds) ≤ 65535 → at + length (data_bytes (layout_in code).symbols ds) ≡ sums at (map file_size ds)
data_length [] code at h low = omega arith
data_length (e ∷ ds) code at h low =
    let g : Grows (plus at (file_size e)) (sums (plus at (file_size e)) (map file_size ds)) = sums_grow (map file_size ds) (plus at (file_size e)) (plus_most at (file_size e)) in
    let least = g.least in
    let long : length (datum_bytes (layout_in code).symbols e.kind e.cells) ≡ file_size e = bytes_length code e.kind e.cells (omega (arith, least, low)) in
    let both : length (datum_bytes (layout_in code).symbols e.kind e.cells ++ data_bytes (layout_in code).symbols ds) ≡ length (datum_bytes (layout_in code).symbols e.kind e.cells) + length (data_bytes (layout_in code).symbols ds) = length-append (datum_bytes (layout_in code).symbols e.kind e.cells) (data_bytes (layout_in code).symbols ds) in
    let rest = data_length ds code (plus at (file_size e)) (plus_most at (file_size e)) low in
    omega (arith, long, both, rest, least, low)

-- the file ends where the data of the file end
pub file_end : (code : Code) → Ends code → program_start + length (file_of code) ≡ data_end code
file_end code e =
    let tables : Tables = tables_of (layout_in code) in
    let own : Tables = routine_tables code (layout_in code) in
    let all : Written = with_routines own (with_functions tables (with_lines own (record { bytes = []; at = program_start }) (routine_lines (entry_of code))) code.functions) (routines_in code) in
    let place : program_start + length all.bytes ≡ code_end code = code_length code e in
    let both : length (all.bytes ++ data_bytes tables.symbols code.datums) ≡ length all.bytes + length (data_bytes tables.symbols code.datums) = length-append all.bytes (data_bytes tables.symbols code.datums) in
    let third = e.stored in let fourth = e.zeros in let last = e.all in
    let rest = data_length code.datums code (code_end code) (omega (arith, third, fourth, last)) (omega (arith, fourth, last)) in
    omega (arith, place, both, rest)

-- All data

get_past : (xs : List ℕ) (k : ℕ) → length xs ≤ k → slice_index xs k ≡ 0
get_past xs k h = get_or_past xs k 0 h

pub file_loaded : (code : Code) (cpu : Cpu) (image : Image) → Ends code → linked_for cpu code ≡ Ok image → Stands (read (loaded_memory image)) program_start image.payload
file_loaded code cpu image e linked_is =
    let s : IsShaped code cpu image = shaped code cpu image linked_is in
    let long = file_end code e in let fourth = e.zeros in let last = e.all in
    let same : length image.payload ≡ length (file_of code) = ap length s.payload in
    stands_below image.payload (read (loaded_memory image)) program_start (λ k l. read_loaded image k s.load (omega (arith, l, same, long, fourth, last)))

pub data_are_loaded : DataAreLoaded
data_are_loaded code cpu image s linked_is =
    record {
      stored = λ i k v d here is. stored_at i k v d here is (lies code i d s e here);
      zeros = λ i k d here low high. zero_at i k d here low high (lies code i d s e here);
      file = file_loaded code cpu image e linked_is;
    }
  where
    e : Ends code
    e = (let m : IsMade code image = made code cpu image linked_is in ends code m.plain m.is)

    it : IsShaped code cpu image
    it = shaped code cpu image linked_is

    there : Stands (read (loaded_memory image)) program_start (file_of code)
    there = subst (λ (bytes : List ℕ). Stands (read (loaded_memory image)) program_start bytes) it.payload (file_loaded code cpu image e linked_is)

    begin : Stands (read (loaded_memory image)) (code_end code) (data_bytes (layout_in code).symbols code.datums)
    begin = data_begin code (read (loaded_memory image)) e there

    stored_at : (i k v : ℕ) (d : Datum) → IsDatumOf code i d → initial_byte (place_in code) d k ≡ Some v → LiesIn code i d → read (loaded_memory image) (address_in code d.sym.0 + k) ≡ v
    stored_at i k v d here is (in_file stored address to low high) =
        let third = e.stored in let fourth = e.zeros in let last = e.all in
        let bytes : Stands (read (loaded_memory image)) (sums (code_end code) (take i (files code))) (datum_bytes (layout_in code).symbols d.kind d.cells) =
        datum_stands code.datums code (read (loaded_memory image)) (code_end code) i d (omega (arith, third, fourth, last)) (omega (arith, fourth, last)) begin here in
        stands_get (datum_bytes (layout_in code).symbols d.kind d.cells) (read (loaded_memory image)) (address_in code d.sym.0) k v
        (subst (λ (n : ℕ). Stands (read (loaded_memory image)) n (datum_bytes (layout_in code).symbols d.kind d.cells)) (sym address) bytes)
        (stored_bytes code d.kind d.cells k v (λ z. zero_cells d.kind d.cells d.zeros z (s.writable.shaped i d here)) is)
    stored_at i k v d here is (behind_file blank address to low high) =
        let none = zero_cells d.kind d.cells d.zeros blank (s.writable.shaped i d here) in
        let l = slice_get_within (bytes_of_cells (place_in code) d.cells) k v is in
        let n = cells_length (place_in code) d.cells in
        let z = no_cells d.cells none in
        absurd (omega (arith, l, n, z))

    zero_at : (i k : ℕ) (d : Datum) → IsDatumOf code i d → cells_size d.cells ≤ k → k < size_of_datum d → LiesIn code i d → read (loaded_memory image) (address_in code d.sym.0 + k) ≡ 0
    zero_at i k d here low high (in_file stored address to from upto) =
        let none = no_blank d.kind d.cells d.zeros stored (s.writable.shaped i d here) in
        absurd (omega (arith, low, high, none))
    zero_at i k d here low high (behind_file blank address to from upto) =
        let long = file_end code e in let last = e.all in let first = e.first in let second = e.functions in let third = e.routines in let fourth = e.stored in
        let same : length image.payload ≡ length (file_of code) = ap length it.payload in
        let place : address_in code d.sym.0 + k ≡ program_start + (address_in code d.sym.0 + k - program_start) = omega (arith, from, long) in
        let inside : program_start + (address_in code d.sym.0 + k - program_start) < 65536 = omega (arith, from, long, upto, high, last) in
        ap (read (loaded_memory image)) place
        ∙ read_loaded image (address_in code d.sym.0 + k - program_start) it.load inside
        ∙ get_past image.payload (address_in code d.sym.0 + k - program_start) (omega (arith, same, long, from))
