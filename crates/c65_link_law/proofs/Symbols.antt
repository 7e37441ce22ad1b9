-- Which address each function's symbol has once all is laid out.
use Rattle.std.proofs.Common.{◌≡◌, ◌≢◌, ℕ, zero, suc, ◌+◌, ◌-◌, ◌<◌, ◌≤◌, ◌%◌, not, Bool, true, false, nat_eq, List, [], ◌∷◌, ◌++◌, map, take, slice_get, slice_index, slice_set, Option, Some, None, length, refl, ap, sym, ◌∙◌, subst, arith}
use Rattle.std.proofs.lemmas.Bool.{and_parts, or_parts, eqb-false}
use Rattle.std.proofs.lemmas.List.{get_or-set_same, get_or-set_other, length-set, length-replicate}
use Rattle.std.proofs.Math.ListN.{get_or}
use Rattle.c65_base.specs.declared.library.Library.{Library}
use Rattle.c65_code.specs.declared.routine.Routine.{Routine}
use Rattle.c65_code.specs.declared.line.Sym.{Sym}
use Rattle.c65_code.specs.declared.code.Symbol.{Symbol}
use Rattle.c65_code.specs.declared.code.Datum.{Datum}
use Rattle.c65_code.specs.declared.code.DatumKind.{DatumKind}
use Rattle.c65_code.specs.declared.code.DatumKind.TheVariants.{Data, Const, Zero}
use Rattle.c65_code.specs.Segments.{Segment, is_among, is_distinct}
use Rattle.c65_link.specs.declared.symbols.Target.{Target}
use Rattle.c65_link.specs.declared.symbols.Target.TheVariants.{Nowhere, Own, Runtime}
use Rattle.c65_link.specs.Layouts.{Layout, empty_layout, with_function, with_functions, with_routine, with_routines, with_lines, with_target, with_targets, with_data, with_zeros, with_all_data, with_all_zeros}
use Rattle.c65_link.specs.Runtime.{routine_lines}
use Rattle.c65_link.specs.Symbols.{named_targets, targets_of}
use Rattle.c65_link.specs.Symbols.{with_functions as own_functions, with_datums as own_datums}
use Rattle.c65_link.specs.Linked.{entry_of, parts_of}
use Rattle.c65_link_law.specs.Placed.{behind, function_number, datum_number, SymbolsLead}
use Rattle.c65_link_law.proofs.Reach.{not_true}
use Rattle.c65_link_law.proofs.Placed.{same_function, nothing}

-- Numbers that occur once

-- a number that is none of these
abbrev pub Lacks : List ℕ → ℕ → Type 0
Lacks [] n = Unit {0}
Lacks (x ∷ xs) n = (n ≢ x) × Lacks xs n

pub lacks : (xs : List ℕ) (n : ℕ) → is_among xs n ≡ false → Lacks xs n
lacks [] n h = tt
lacks (x ∷ xs) n h =
    let parts = or_parts (nat_eq n x) (is_among xs n) h in
    (eqb-false n x parts.0, lacks xs n parts.1)

lacks_first : (xs ys : List ℕ) (n : ℕ) → Lacks (xs ++ ys) n → Lacks xs n
lacks_first [] ys n h = tt
lacks_first (x ∷ xs) ys n h = (h.0, lacks_first xs ys n h.1)

lacks_second : (xs ys : List ℕ) (n : ℕ) → Lacks (xs ++ ys) n → Lacks ys n
lacks_second [] ys n h = h
lacks_second (x ∷ xs) ys n h = lacks_second xs ys n h.1

-- behind the k-th number, and among others, it does not occur again
record Once (rest others : List ℕ) (n : ℕ) : Type 0 where
  later : Lacks rest n
  elsewhere : Lacks others n

once : (x : ℕ) (xs ys : List ℕ) → is_distinct (x ∷ xs ++ ys) ≡ true → Once xs ys x
once x xs ys h =
    let parts = and_parts (not (is_among (xs ++ ys) x)) (is_distinct (xs ++ ys)) h in
    let none : Lacks (xs ++ ys) x = lacks (xs ++ ys) x (not_true (is_among (xs ++ ys) x) parts.0) in
    record { later = lacks_first xs ys x none; elsewhere = lacks_second xs ys x none }

-- Symbols that stay

functions_keep : (fs : List (Sym × Segment)) (layout : Layout) (n : ℕ) → Lacks (map function_number fs) n → slice_index (with_functions layout fs).symbols n ≡ slice_index layout.symbols n
functions_keep [] layout n h = refl
functions_keep (f ∷ fs) layout n h = functions_keep fs (with_function layout f) n h.1 ∙ get_or-set_other layout.symbols f.0.0 n (layout.at % 65536) 0 h.0

routines_keep : (rs : List Routine) (layout : Layout) → (with_routines layout rs).symbols ≡ layout.symbols
routines_keep [] layout = refl
routines_keep (r ∷ rs) layout = routines_keep rs (with_routine layout r)

one_data_keeps : (kind : DatumKind) (layout : Layout) (datum : Datum) (n : ℕ) → n ≢ datum.sym.0 → slice_index (with_data kind layout datum).symbols n ≡ slice_index layout.symbols n
one_data_keeps Data layout datum n h = get_or-set_other layout.symbols datum.sym.0 n (layout.at % 65536) 0 h
one_data_keeps Const layout datum n h = get_or-set_other layout.symbols datum.sym.0 n (layout.at % 65536) 0 h
one_data_keeps Zero layout datum n h = refl

data_keep : (datums : List Datum) (layout : Layout) (n : ℕ) → Lacks (map datum_number datums) n → slice_index (with_all_data layout datums).symbols n ≡ slice_index layout.symbols n
data_keep [] layout n h = refl
data_keep (datum ∷ datums) layout n h = data_keep datums (with_data datum.kind layout datum) n h.1 ∙ one_data_keeps datum.kind layout datum n h.0

one_zeros_keep : (kind : DatumKind) (layout : Layout) (datum : Datum) (n : ℕ) → n ≢ datum.sym.0 → slice_index (with_zeros kind layout datum).symbols n ≡ slice_index layout.symbols n
one_zeros_keep Data layout datum n h = refl
one_zeros_keep Const layout datum n h = refl
one_zeros_keep Zero layout datum n h = get_or-set_other layout.symbols datum.sym.0 n (layout.at % 65536) 0 h

zeros_keep : (datums : List Datum) (layout : Layout) (n : ℕ) → Lacks (map datum_number datums) n → slice_index (with_all_zeros layout datums).symbols n ≡ slice_index layout.symbols n
zeros_keep [] layout n h = refl
zeros_keep (datum ∷ datums) layout n h = zeros_keep datums (with_zeros datum.kind layout datum) n h.1 ∙ one_zeros_keep datum.kind layout datum n h.0

-- A symbol that has a body of its own is not the library's

set_owned : (targets : List Target) (i n : ℕ) → get_or targets n Nowhere ≡ Own → get_or (slice_set targets i Own) n Nowhere ≡ Own
set_owned [] i n h = h
set_owned (t ∷ targets) zero zero h = refl
set_owned (t ∷ targets) zero (suc n) h = h
set_owned (t ∷ targets) (suc i) zero h = h
set_owned (t ∷ targets) (suc i) (suc n) h = set_owned targets i n h

functions_owned : (fs : List (Sym × Segment)) (targets : List Target) (n : ℕ) → get_or targets n Nowhere ≡ Own → get_or (own_functions targets fs) n Nowhere ≡ Own
functions_owned [] targets n h = h
functions_owned (f ∷ fs) targets n h = functions_owned fs (slice_set targets f.0.0 Own) n (set_owned targets f.0.0 n h)

data_owned : (datums : List Datum) (targets : List Target) (n : ℕ) → get_or targets n Nowhere ≡ Own → get_or (own_datums targets datums) n Nowhere ≡ Own
data_owned [] targets n h = h
data_owned (datum ∷ datums) targets n h = data_owned datums (slice_set targets datum.sym.0 Own) n (set_owned targets datum.sym.0 n h)

function_owned : (fs : List (Sym × Segment)) (targets : List Target) (k : ℕ) (f : Sym × Segment) → slice_get fs k ≡ Some f → f.0.0 < length targets → get_or (own_functions targets fs) f.0.0 Nowhere ≡ Own
function_owned [] targets k f here inside = nothing f here
function_owned (g ∷ fs) targets zero f here inside =
    let same : f ≡ g = sym (same_function f g here) in
    functions_owned fs (slice_set targets g.0.0 Own) f.0.0 (subst (λ (x : Sym × Segment). get_or (slice_set targets x.0.0 Own) f.0.0 Nowhere ≡ Own) same (get_or-set_same targets f.0.0 Own Nowhere inside))
function_owned (g ∷ fs) targets (suc k) f here inside = function_owned fs (slice_set targets g.0.0 Own) k f here (subst (λ (n : ℕ). f.0.0 < n) (sym (length-set targets g.0.0 Own)) inside)

named_length : (symbols : List Symbol) → length (named_targets symbols) ≡ length symbols
named_length [] = refl
named_length (s ∷ symbols) = omega (arith, named_length symbols)

library_owned : {P : Type 0} (l : Library) → Runtime l ≡ Own → P
library_owned l h = absurd cc

shifted : (t : Target) (targets : List Target) (i n : ℕ) → i + 1 ≤ n → get_or (t ∷ targets) (n - i) Nowhere ≡ Own → get_or targets (n - (i + 1)) Nowhere ≡ Own
shifted t targets i n low h =
    let e : n - i ≡ suc (n - (i + 1)) = omega (arith, low) in
    subst (λ (j : ℕ). get_or (t ∷ targets) j Nowhere ≡ Own) e h

first_owned : (t : Target) (targets : List Target) (i n : ℕ) → n ≡ i → get_or (t ∷ targets) (n - i) Nowhere ≡ Own → t ≡ Own
first_owned t targets i n same h =
    let e : n - i ≡ 0 = omega (arith, same) in
    subst (λ (j : ℕ). get_or (t ∷ targets) j Nowhere ≡ Own) e h

-- targets from a place on leave the symbol of one that has a body
targets_keep : (targets : List Target) (i n : ℕ) (layout : Layout) → (i ≤ n → get_or targets (n - i) Nowhere ≡ Own) → slice_index (with_targets layout i targets).symbols n ≡ slice_index layout.symbols n
targets_keep [] i n layout h = refl
targets_keep (Nowhere ∷ targets) i n layout h = targets_keep targets (i + 1) n layout (λ low. shifted Nowhere targets i n low (h (omega (arith, low))))
targets_keep (Own ∷ targets) i n layout h = targets_keep targets (i + 1) n layout (λ low. shifted Own targets i n low (h (omega (arith, low))))
targets_keep (Runtime l ∷ targets) i n layout h =
    let other : n ≢ i = λ same. library_owned l (first_owned (Runtime l) targets i n same (h (omega (arith, same)))) in
    targets_keep targets (i + 1) n (with_target layout i (Runtime l)) (λ low. shifted (Runtime l) targets i n low (h (omega (arith, low)))) ∙ get_or-set_other layout.symbols i n _ 0 other

-- the k-th function's symbol

lead : (fs : List (Sym × Segment)) (others : List ℕ) (layout : Layout) (k : ℕ) (f : Sym × Segment) → slice_get fs k ≡ Some f → f.0.0 < length layout.symbols → is_distinct (map function_number fs ++ others) ≡ true → slice_index (with_functions layout fs).symbols f.0.0 ≡ behind layout.at (take k fs) % 65536
lead [] others layout k f here inside distinct = nothing f here
lead (g ∷ fs) others layout zero f here inside distinct =
    let o : Once (map function_number fs) others g.0.0 = once g.0.0 (map function_number fs) others distinct in
    let same : g ≡ f = same_function f g here in
    let at_g : slice_index (with_functions (with_function layout g) fs).symbols g.0.0 ≡ layout.at % 65536 = functions_keep fs (with_function layout g) g.0.0 o.later ∙ get_or-set_same layout.symbols g.0.0 (layout.at % 65536) 0 (subst (λ (x : Sym × Segment). x.0.0 < length layout.symbols) (sym same) inside) in
    subst (λ (x : Sym × Segment). slice_index (with_functions (with_function layout g) fs).symbols x.0.0 ≡ layout.at % 65536) same at_g
lead (g ∷ fs) others layout (suc k) f here inside distinct =
    let parts = and_parts (not (is_among (map function_number fs ++ others) g.0.0)) (is_distinct (map function_number fs ++ others)) distinct in
    lead fs others (with_function layout g) k f here (subst (λ (n : ℕ). f.0.0 < n) (sym (length-set layout.symbols g.0.0 (layout.at % 65536))) inside) parts.1

-- the k-th function's symbol is none of the data's
no_datum : (fs : List (Sym × Segment)) (others : List ℕ) (k : ℕ) (f : Sym × Segment) → slice_get fs k ≡ Some f → is_distinct (map function_number fs ++ others) ≡ true → Lacks others f.0.0
no_datum [] others k f here distinct = nothing f here
no_datum (g ∷ fs) others zero f here distinct =
    let o : Once (map function_number fs) others g.0.0 = once g.0.0 (map function_number fs) others distinct in
    subst (λ (x : Sym × Segment). Lacks others x.0.0) (same_function f g here) o.elsewhere
no_datum (g ∷ fs) others (suc k) f here distinct =
    let parts = and_parts (not (is_among (map function_number fs ++ others) g.0.0)) (is_distinct (map function_number fs ++ others)) distinct in
    no_datum fs others k f here parts.1

pub symbols_are_addresses : SymbolsLead
symbols_are_addresses code k f here inside distinct =
    let targets : List Target = targets_of code in
    let n : ℕ = f.0.0 in
    let begun : Layout = with_lines (empty_layout (length code.symbols)) (routine_lines (entry_of code)) in
    let coded : Layout = with_functions begun code.functions in
    let all : Layout = with_routines coded (parts_of code targets) in
    let named : Layout = with_targets all 0 targets in
    let given : Layout = with_all_data named code.datums in
    let others : List ℕ = map datum_number code.datums in
    let free : Lacks others n = no_datum code.functions others k f here distinct in
    let wide : length begun.symbols ≡ length code.symbols = length-replicate (length code.symbols) 0 in
    let a : slice_index coded.symbols n ≡ behind begun.at (take k code.functions) % 65536 = lead code.functions others begun k f here (subst (λ (m : ℕ). n < m) (sym wide) inside) distinct in
    let b : slice_index all.symbols n ≡ slice_index coded.symbols n = ap (λ (xs : List ℕ). slice_index xs n) (routines_keep (parts_of code targets) coded) in
    let own : get_or targets n Nowhere ≡ Own = data_owned code.datums (own_functions (named_targets code.symbols) code.functions) n (function_owned code.functions (named_targets code.symbols) k f here (subst (λ (m : ℕ). n < m) (sym (named_length code.symbols)) inside)) in
    let none : n ≡ n - 0 = omega arith in
    let c : slice_index named.symbols n ≡ slice_index all.symbols n = targets_keep targets 0 n all (λ low. subst (λ (j : ℕ). get_or targets j Nowhere ≡ Own) none own) in
    let d : slice_index given.symbols n ≡ slice_index named.symbols n = data_keep code.datums named n free in
    let e : slice_index (with_all_zeros given code.datums).symbols n ≡ slice_index given.symbols n = zeros_keep code.datums given n free in
    e ∙ d ∙ c ∙ b ∙ a
