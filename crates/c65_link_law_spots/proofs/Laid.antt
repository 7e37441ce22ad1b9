-- Where the layout puts data.
use Rattle.std.proofs.Common.{◌≡◌, ℕ, zero, suc, ◌+◌, ◌-◌, ◌<◌, ◌≤◌, ◌^◌, ◌%◌, ◌⊎◌, inl, inr, List, [], ◌∷◌, map, take, Some, length, slice_get, slice_index, refl, ap, sym, ◌∙◌, subst, arith}
use Rattle.std.proofs.lemmas.List.{get_or-set_same, get_or-set_other, length-set}
use Rattle.c65_code.specs.declared.code.Datum.{Datum}
use Rattle.c65_code.specs.declared.code.DatumKind.{DatumKind}
use Rattle.c65_code.specs.declared.code.DatumKind.TheVariants.{Data, Const, Zero}
use Rattle.c65_code.specs.declared.code.DataCell.{DataCell}
use Rattle.c65_code.specs.Placement.{cell_size, cells_size}
use Rattle.c65_code.specs.Writable.{IsShaped}
use Rattle.c65_link.specs.Bodies.{plus}
use Rattle.c65_link.specs.Layouts.{Layout, with_data, with_zeros, with_all_data, with_all_zeros, cells_end}
use Rattle.c65_link_law.proofs.Sizes.{plus_grows, plus_most}
use Rattle.c65_link_law_spots.proofs.Sums.{none_there, same_there, sums}

-- how many bytes of the file a datum has, and how many behind it

abbrev pub stored_size : DatumKind → List DataCell → ℕ
stored_size Zero cells = 0
stored_size _ cells = cells_end 0 cells

abbrev pub zero_size : DatumKind → ℕ → ℕ
zero_size Zero blank = blank
zero_size _ blank = 0

abbrev pub file_size : Datum → ℕ
file_size datum = stored_size datum.kind datum.cells

abbrev pub blank_size : Datum → ℕ
blank_size datum = zero_size datum.kind datum.zeros

pub data IsStored : DatumKind → Type 0 where
  as_data : IsStored Data
  as_const : IsStored Const

pub stored_or_zero : (kind : DatumKind) → IsStored kind ⊎ (kind ≡ Zero)
stored_or_zero Data = inl as_data
stored_or_zero Const = inl as_const
stored_or_zero Zero = inr refl

-- One datum

data_at : (kind : DatumKind) (layout : Layout) (datum : Datum) → layout.at ≤ 2 ^ 64 - 1 → (with_data kind layout datum).at ≡ plus layout.at (stored_size kind datum.cells)
data_at Data layout datum h = refl
data_at Const layout datum h = refl
data_at Zero layout datum h = omega (arith, h)

zeros_at : (kind : DatumKind) (layout : Layout) (datum : Datum) → layout.at ≤ 2 ^ 64 - 1 → (with_zeros kind layout datum).at ≡ plus layout.at (zero_size kind datum.zeros)
zeros_at Data layout datum h = omega (arith, h)
zeros_at Const layout datum h = omega (arith, h)
zeros_at Zero layout datum h = refl

data_wide : (kind : DatumKind) (layout : Layout) (datum : Datum) → length (with_data kind layout datum).symbols ≡ length layout.symbols
data_wide Data layout datum = length-set layout.symbols datum.sym.0 _
data_wide Const layout datum = length-set layout.symbols datum.sym.0 _
data_wide Zero layout datum = refl

zeros_wide : (kind : DatumKind) (layout : Layout) (datum : Datum) → length (with_zeros kind layout datum).symbols ≡ length layout.symbols
zeros_wide Data layout datum = refl
zeros_wide Const layout datum = refl
zeros_wide Zero layout datum = length-set layout.symbols datum.sym.0 _

data_routines : (kind : DatumKind) (layout : Layout) (datum : Datum) → (with_data kind layout datum).routines ≡ layout.routines
data_routines Data layout datum = refl
data_routines Const layout datum = refl
data_routines Zero layout datum = refl

zeros_routines : (kind : DatumKind) (layout : Layout) (datum : Datum) → (with_zeros kind layout datum).routines ≡ layout.routines
zeros_routines Data layout datum = refl
zeros_routines Const layout datum = refl
zeros_routines Zero layout datum = refl

data_leaves : (kind : DatumKind) (layout : Layout) (datum : Datum) (n : ℕ) → (n ≡ datum.sym.0 → ⊥) → slice_index (with_data kind layout datum).symbols n ≡ slice_index layout.symbols n
data_leaves Data layout datum n h = get_or-set_other layout.symbols datum.sym.0 n _ 0 h
data_leaves Const layout datum n h = get_or-set_other layout.symbols datum.sym.0 n _ 0 h
data_leaves Zero layout datum n h = refl

zeros_leave : (kind : DatumKind) (layout : Layout) (datum : Datum) (n : ℕ) → (kind ≡ Zero → n ≡ datum.sym.0 → ⊥) → slice_index (with_zeros kind layout datum).symbols n ≡ slice_index layout.symbols n
zeros_leave Data layout datum n h = refl
zeros_leave Const layout datum n h = refl
zeros_leave Zero layout datum n h = get_or-set_other layout.symbols datum.sym.0 n _ 0 (h refl)

data_put : (kind : DatumKind) (layout : Layout) (datum : Datum) → IsStored kind → datum.sym.0 < length layout.symbols → slice_index (with_data kind layout datum).symbols datum.sym.0 ≡ layout.at % 65536
data_put Data layout datum as_data inside = get_or-set_same layout.symbols datum.sym.0 (layout.at % 65536) 0 inside
data_put Const layout datum as_const inside = get_or-set_same layout.symbols datum.sym.0 (layout.at % 65536) 0 inside
data_put Zero layout datum stored inside = elim stored [ ]

zeros_put : (kind : DatumKind) (layout : Layout) (datum : Datum) → kind ≡ Zero → datum.sym.0 < length layout.symbols → slice_index (with_zeros kind layout datum).symbols datum.sym.0 ≡ layout.at % 65536
zeros_put Zero layout datum e inside = get_or-set_same layout.symbols datum.sym.0 (layout.at % 65536) 0 inside
zeros_put Data layout datum e inside = absurd cc
zeros_put Const layout datum e inside = absurd cc

-- All data

pub all_data_at : (ds : List Datum) (layout : Layout) → layout.at ≤ 2 ^ 64 - 1 → (with_all_data layout ds).at ≡ sums layout.at (map file_size ds)
all_data_at [] layout h = refl
all_data_at (d ∷ ds) layout h =
    let here : (with_data d.kind layout d).at ≡ plus layout.at (file_size d) = data_at d.kind layout d h in
    all_data_at ds (with_data d.kind layout d) (let m = plus_most layout.at (file_size d) in omega (arith, here, m)) ∙ ap (λ (n : ℕ). sums n (map file_size ds)) here

pub all_zeros_at : (ds : List Datum) (layout : Layout) → layout.at ≤ 2 ^ 64 - 1 → (with_all_zeros layout ds).at ≡ sums layout.at (map blank_size ds)
all_zeros_at [] layout h = refl
all_zeros_at (d ∷ ds) layout h =
    let here : (with_zeros d.kind layout d).at ≡ plus layout.at (blank_size d) = zeros_at d.kind layout d h in
    all_zeros_at ds (with_zeros d.kind layout d) (let m = plus_most layout.at (blank_size d) in omega (arith, here, m)) ∙ ap (λ (n : ℕ). sums n (map blank_size ds)) here

pub all_data_wide : (ds : List Datum) (layout : Layout) → length (with_all_data layout ds).symbols ≡ length layout.symbols
all_data_wide [] layout = refl
all_data_wide (d ∷ ds) layout = all_data_wide ds (with_data d.kind layout d) ∙ data_wide d.kind layout d

pub all_data_routines : (ds : List Datum) (layout : Layout) → (with_all_data layout ds).routines ≡ layout.routines
all_data_routines [] layout = refl
all_data_routines (d ∷ ds) layout = all_data_routines ds (with_data d.kind layout d) ∙ data_routines d.kind layout d

pub all_zeros_routines : (ds : List Datum) (layout : Layout) → (with_all_zeros layout ds).routines ≡ layout.routines
all_zeros_routines [] layout = refl
all_zeros_routines (d ∷ ds) layout = all_zeros_routines ds (with_zeros d.kind layout d) ∙ zeros_routines d.kind layout d

-- a symbol that no datum has
pub all_data_leave : (ds : List Datum) (layout : Layout) (n : ℕ) → ((j : ℕ) (e : Datum) → slice_get ds j ≡ Some e → e.sym.0 ≡ n → ⊥) → slice_index (with_all_data layout ds).symbols n ≡ slice_index layout.symbols n
all_data_leave [] layout n h = refl
all_data_leave (d ∷ ds) layout n h = all_data_leave ds (with_data d.kind layout d) n (λ j. h (suc j)) ∙ data_leaves d.kind layout d n (λ e. h 0 d refl (sym e))

-- a symbol that no datum of zeros has
pub all_zeros_leave : (ds : List Datum) (layout : Layout) (n : ℕ) → ((j : ℕ) (e : Datum) → slice_get ds j ≡ Some e → e.kind ≡ Zero → e.sym.0 ≡ n → ⊥) → slice_index (with_all_zeros layout ds).symbols n ≡ slice_index layout.symbols n
all_zeros_leave [] layout n h = refl
all_zeros_leave (d ∷ ds) layout n h = all_zeros_leave ds (with_zeros d.kind layout d) n (λ j. h (suc j)) ∙ zeros_leave d.kind layout d n (λ k e. h 0 d refl k (sym e))

-- only the i-th datum has the number
abbrev pub Only : List Datum → ℕ → ℕ → Type 0
Only ds n i = (j : ℕ) (e : Datum) → slice_get ds j ≡ Some e → e.sym.0 ≡ n → j ≡ i

no_suc : (j : ℕ) → suc j ≡ 0 → ⊥
no_suc j e = omega (arith, e)

less : (i j : ℕ) → suc i ≡ suc j → i ≡ j
less i j e = omega (arith, e)

pub data_lead : (ds : List Datum) (layout : Layout) (i : ℕ) (d : Datum) → slice_get ds i ≡ Some d → IsStored d.kind → layout.at ≤ 2 ^ 64 - 1 → d.sym.0 < length layout.symbols → Only ds d.sym.0 i
    → slice_index (with_all_data layout ds).symbols d.sym.0 ≡ sums layout.at (take i (map file_size ds)) % 65536
data_lead [] layout i d here stored h inside only = none_there d here
data_lead (e ∷ ds) layout zero d here stored h inside only =
    let same : e ≡ d = same_there e d here in
    let put : slice_index (with_data d.kind layout d).symbols d.sym.0 ≡ layout.at % 65536 = data_put d.kind layout d stored inside in
    all_data_leave ds (with_data e.kind layout e) d.sym.0 (λ j x at is. no_suc j (only (suc j) x at is))
    ∙ subst (λ (x : Datum). slice_index (with_data x.kind layout x).symbols d.sym.0 ≡ layout.at % 65536) (sym same) put
data_lead (e ∷ ds) layout (suc i) d here stored h inside only =
    let at : (with_data e.kind layout e).at ≡ plus layout.at (file_size e) = data_at e.kind layout e h in
    let wide = data_wide e.kind layout e in
    let most = plus_most layout.at (file_size e) in
    data_lead ds (with_data e.kind layout e) i d here stored (omega (arith, at, most)) (omega (arith, inside, wide)) (λ j x there is. less j i (only (suc j) x there is))
    ∙ ap (λ (n : ℕ). sums n (take i (map file_size ds)) % 65536) at

pub zeros_lead : (ds : List Datum) (layout : Layout) (i : ℕ) (d : Datum) → slice_get ds i ≡ Some d → d.kind ≡ Zero → layout.at ≤ 2 ^ 64 - 1 → d.sym.0 < length layout.symbols → Only ds d.sym.0 i
    → slice_index (with_all_zeros layout ds).symbols d.sym.0 ≡ sums layout.at (take i (map blank_size ds)) % 65536
zeros_lead [] layout i d here blank h inside only = none_there d here
zeros_lead (e ∷ ds) layout zero d here blank h inside only =
    let same : e ≡ d = same_there e d here in
    let put : slice_index (with_zeros d.kind layout d).symbols d.sym.0 ≡ layout.at % 65536 = zeros_put d.kind layout d blank inside in
    all_zeros_leave ds (with_zeros e.kind layout e) d.sym.0 (λ j x at k is. no_suc j (only (suc j) x at is))
    ∙ subst (λ (x : Datum). slice_index (with_zeros x.kind layout x).symbols d.sym.0 ≡ layout.at % 65536) (sym same) put
zeros_lead (e ∷ ds) layout (suc i) d here blank h inside only =
    let at : (with_zeros e.kind layout e).at ≡ plus layout.at (blank_size e) = zeros_at e.kind layout e h in
    let wide = zeros_wide e.kind layout e in
    let most = plus_most layout.at (blank_size e) in
    zeros_lead ds (with_zeros e.kind layout e) i d here blank (omega (arith, at, most)) (omega (arith, inside, wide)) (λ j x there is. less j i (only (suc j) x there is))
    ∙ ap (λ (n : ℕ). sums n (take i (map blank_size ds)) % 65536) at

-- Sizes are those of the data

cells_grow : (cells : List DataCell) (size : ℕ) → size ≤ 2 ^ 64 - 1 → size ≤ cells_end size cells
cells_grow [] size h = omega arith
cells_grow (c ∷ cells) size h =
    let here = plus_grows size (cell_size c) h in
    let rest = cells_grow cells (plus size (cell_size c)) (plus_most size (cell_size c)) in
    omega (arith, here, rest)

pub cells_exact : (cells : List DataCell) (size : ℕ) → size ≤ 2 ^ 64 - 1 → cells_end size cells ≤ 65535 → cells_end size cells ≡ size + cells_size cells
cells_exact [] size h low = omega arith
cells_exact (c ∷ cells) size h low =
    let rest : plus size (cell_size c) ≤ cells_end (plus size (cell_size c)) cells = cells_grow cells (plus size (cell_size c)) (plus_most size (cell_size c)) in
    let here : plus size (cell_size c) ≡ size + cell_size c = (let e : plus size (cell_size c) ≤ 65535 = omega (arith, rest, low) in omega (arith, e)) in
    let on = cells_exact cells (plus size (cell_size c)) (plus_most size (cell_size c)) low in
    omega (arith, here, on)

pub no_cells : (cells : List DataCell) → length cells ≡ 0 → cells_size cells ≡ 0
no_cells [] h = refl
no_cells (c ∷ cells) h = absurd (omega (arith, h))

pub file_size_is : (kind : DatumKind) (cells : List DataCell) (blank : ℕ) → IsStored kind → IsShaped kind (length cells) blank → stored_size kind cells ≤ 65535 → stored_size kind cells ≡ cells_size cells + blank
file_size_is Data cells blank as_data shaped low = let e = cells_exact cells 0 (omega arith) low in let s = shaped.1 in omega (arith, e, s)
file_size_is Const cells blank as_const shaped low = let e = cells_exact cells 0 (omega arith) low in let s = shaped.1 in omega (arith, e, s)
file_size_is Zero cells blank stored shaped low = elim stored [ ]

pub blank_size_is : (kind : DatumKind) (cells : List DataCell) (blank : ℕ) → kind ≡ Zero → IsShaped kind (length cells) blank → zero_size kind blank ≡ cells_size cells + blank
blank_size_is Zero cells blank e shaped = let n = no_cells cells shaped in omega (arith, n)
blank_size_is Data cells blank e shaped = absurd cc
blank_size_is Const cells blank e shaped = absurd cc

-- what a datum does not take
pub blank_stored : (kind : DatumKind) (cells : List DataCell) → kind ≡ Zero → stored_size kind cells ≡ 0
blank_stored Zero cells e = refl
blank_stored Data cells e = absurd cc
blank_stored Const cells e = absurd cc
