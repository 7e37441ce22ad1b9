-- Routines one behind another, each taken once.
use Rattle.std.proofs.Common.{◌≡◌, ℕ, zero, suc, ◌+◌, ◌≤◌, ◌<◌, ◌^◌, ◌-◌, ◌%◌, ◌&&◌, Bool, true, false, not, nat_lt, if◌then◌else◌, List, [], ◌∷◌, ◌++◌, map, take, slice_get, slice_index, Option, Some, None, Result, Ok, length, refl, ap, sym, ◌∙◌, subst, arith, ltb-true}
use Rattle.std.proofs.lemmas.List.{append_assoc, append-nil, get_or-set_same, get_or-set_other, length-set, length-append}
use Rattle.std.specs.List.{list_all}
use Rattle.std.proofs.lemmas.Bool.{and_parts}
use Rattle.c65_mach.specs.declared.image.Image.{Image}
use Rattle.c65_code.specs.declared.routine.Routine.{Routine}
use Rattle.c65_code.specs.declared.line.Line.{Line}
use Rattle.c65_code.specs.declared.line.Sym.{Sym}
use Rattle.c65_code.specs.declared.code.Code.{Code}
use Rattle.c65_code.specs.declared.code.Datum.{Datum}
use Rattle.c65_code.specs.declared.code.DatumKind.{DatumKind}
use Rattle.c65_code.specs.declared.code.DatumKind.TheVariants.{Data, Const, Zero}
use Rattle.c65_code.specs.Segments.{Segment, IsSegment, is_among, is_distinct}
use Rattle.c65_code.specs.Placement.{program_start}
use Rattle.c65_link.specs.declared.symbols.Target.{Target}
use Rattle.c65_link.specs.declared.symbols.Target.TheVariants.{Nowhere, Own, Runtime}
use Rattle.c65_code.specs.declared.routine.TheConstants.Routine.{ALL}
use Rattle.c65_code.specs.Numbering.{number_of}
use Rattle.c65_link.specs.Bodies.{body_of, plus}
use Rattle.c65_link.specs.Bytes.{Written, Tables, with_lines, with_functions, with_routines, data_bytes}
use Rattle.c65_link.specs.Layouts.{Layout, empty_layout, with_routine, with_target, with_targets, with_data, with_zeros, with_all_data, with_all_zeros}
use Rattle.c65_link.specs.Layouts.{with_lines as layout_lines, with_functions as layout_functions, with_routines as layout_routines}
use Rattle.c65_link.specs.Runtime.{Chosen, is_marked, has_lines, with_calls, routine_lines, with_routine as chosen_routine, with_routines as chosen_with, chosen_by, no_marks}
use Rattle.c65_link.specs.Symbols.{targets_of, with_code_uses, missing_of}
use Rattle.c65_link.specs.Linked.{Fault, entry_of, tables_of, routine_tables}
use Rattle.c65_link_law.specs.Coded.{Memory, Stands, AreCoded, spot_for}
use Rattle.c65_link_law.specs.Placed.{behind, first_address, layout_in, routines_in, behind_routines, routine_address, RoutinesStand}
use Rattle.c65_link_law.proofs.Sizes.{plus_most}
use Rattle.c65_link_law.proofs.Lines.{stands_split}
use Rattle.c65_link_law.proofs.Reach.{not_true}
use Rattle.c65_link_law.proofs.Symbols.{Lacks, lacks}
use Rattle.c65_link_law.proofs.Placed.{Grows, more, behind_grows, functions_behind, functions_end, routines_end, routines_reach, Given, given, file_of, one_bytes, functions_bytes, written_functions, Fits, fits, one_stands, one_length}

-- What is taken, in order

data IsSub : List Routine → List Routine → Type 0 where
  none : IsSub [] []
  skip : (y : Routine) (xs ys : List Routine) → IsSub xs ys → IsSub xs (y ∷ ys)
  keep : (y : Routine) (xs ys : List Routine) → IsSub xs ys → IsSub (y ∷ xs) (y ∷ ys)

sub_append : (xs ys us vs : List Routine) → IsSub xs ys → IsSub us vs → IsSub (xs ++ us) (ys ++ vs)
sub_append _ _ us vs none h = h
sub_append _ _ us vs (skip y xs ys s) h = skip y (xs ++ us) (ys ++ vs) (sub_append xs ys us vs s h)
sub_append _ _ us vs (keep y xs ys s) h = keep y (xs ++ us) (ys ++ vs) (sub_append xs ys us vs s h)

-- so many routines more
record Taken (before after rs : List Routine) : Type 0 where
  new : List Routine
  is : after ≡ before ++ new
  sub : IsSub new rs

taken_one : (b : Bool) (chosen : Chosen) (r : Routine) → Taken chosen.parts (if b then record { marks = with_calls chosen.marks (routine_lines r); parts = chosen.parts ++ r ∷ [] } else chosen).parts (r ∷ [])
taken_one true chosen r = record { new = r ∷ []; is = refl; sub = keep r [] [] none }
taken_one false chosen r = record { new = []; is = sym (append-nil chosen.parts); sub = skip r [] [] none }

taken_both : (a b c rs qs : List Routine) → Taken a b rs → Taken b c qs → Taken a c (rs ++ qs)
taken_both a b c rs qs s t = record {
  new = s.new ++ t.new;
  is = t.is ∙ ap (λ (xs : List Routine). xs ++ t.new) s.is ∙ append_assoc a s.new t.new;
  sub = sub_append s.new rs t.new qs s.sub t.sub;
}

taken : (rs : List Routine) (chosen : Chosen) → Taken chosen.parts (chosen_with chosen rs).parts rs
unfolding chosen_with
taken [] chosen = record { new = []; is = sym (append-nil chosen.parts); sub = none }
taken (r ∷ rs) chosen = taken_both chosen.parts (chosen_routine chosen r).parts (chosen_with (chosen_routine chosen r) rs).parts (r ∷ []) rs (taken_one (is_marked chosen.marks r && has_lines r) chosen r) (taken rs (chosen_routine chosen r))

taken_all : (chosen : Chosen) → Taken chosen.parts (chosen_by chosen).parts ALL
taken_all chosen = taken ALL chosen

-- Each is taken once

abbrev Apart : List Routine → Type 0
Apart [] = Unit {0}
Apart (r ∷ rs) = Lacks (map number_of rs) (number_of r) × Apart rs

apart : (rs : List Routine) → is_distinct (map number_of rs) ≡ true → Apart rs
apart [] h = tt
apart (r ∷ rs) h =
    let parts = and_parts (not (is_among (map number_of rs) (number_of r))) (is_distinct (map number_of rs)) h in
    (lacks (map number_of rs) (number_of r) (not_true (is_among (map number_of rs) (number_of r)) parts.0), apart rs parts.1)

lacks_sub : (xs ys : List Routine) (n : ℕ) → IsSub xs ys → Lacks (map number_of ys) n → Lacks (map number_of xs) n
lacks_sub _ _ n none h = h
lacks_sub _ _ n (skip y xs ys s) h = lacks_sub xs ys n s h.1
lacks_sub _ _ n (keep y xs ys s) h = (h.0, lacks_sub xs ys n s h.1)

apart_sub : (xs ys : List Routine) → IsSub xs ys → Apart ys → Apart xs
apart_sub _ _ none h = h
apart_sub _ _ (skip y xs ys s) h = apart_sub xs ys s h.1
apart_sub _ _ (keep y xs ys s) h = (lacks_sub xs ys (number_of y) s h.0, apart_sub xs ys s h.1)

-- by computation
order_apart : is_distinct (map number_of ALL) ≡ true
order_apart = refl

-- every number of a routine lies in the table

abbrev Inside : List Routine → Type 0
Inside [] = Unit {0}
Inside (r ∷ rs) = (number_of r < 123) × Inside rs

inside : (rs : List Routine) → list_all (λ r. nat_lt (number_of r) 123) rs ≡ true → Inside rs
inside [] h = tt
inside (r ∷ rs) h =
    let parts = and_parts (nat_lt (number_of r) 123) (list_all (λ r. nat_lt (number_of r) 123) rs) h in
    (ltb-true (number_of r) 123 parts.0, inside rs parts.1)

inside_sub : (xs ys : List Routine) → IsSub xs ys → Inside ys → Inside xs
inside_sub _ _ none h = h
inside_sub _ _ (skip y xs ys s) h = inside_sub xs ys s h.1
inside_sub _ _ (keep y xs ys s) h = (h.0, inside_sub xs ys s h.1)

-- by computation
order_inside : list_all (λ r. nat_lt (number_of r) 123) ALL ≡ true
order_inside = refl

-- The routines of a code

record Each (rs : List Routine) : Type 0 where
  apart : Apart rs
  inside : Inside rs

each_of : (code : Code) → Each (routines_in code)
each_of code =
    let chosen : Chosen = record { marks = with_code_uses code (targets_of code) (with_calls no_marks (routine_lines (entry_of code))); parts = [] } in
    let t : Taken [] (routines_in code) ALL = taken_all chosen in
    let is : t.new ≡ routines_in code = sym t.is in
    record {
      apart = subst (λ (rs : List Routine). Apart rs) is (apart_sub t.new ALL t.sub (apart ALL order_apart));
      inside = subst (λ (rs : List Routine). Inside rs) is (inside_sub t.new ALL t.sub (inside ALL order_inside));
    }

-- Their addresses

none_there : {P : Type 0} (r : Routine) → ◌≡◌ {A = Option Routine} None (Some r) → P
none_there r h = absurd cc

same_one : (r q : Routine) → Some q ≡ Some r → q ≡ r
same_one r q h = cc

later : (rs : List Routine) (layout : Layout) (n : ℕ) → Lacks (map number_of rs) n → slice_index (layout_routines layout rs).routines n ≡ slice_index layout.routines n
later [] layout n h = refl
later (r ∷ rs) layout n h = later rs (with_routine layout r) n h.1 ∙ get_or-set_other layout.routines (number_of r) n (layout.at % 65536) 0 h.0

lead : (rs : List Routine) (layout : Layout) (k : ℕ) (r : Routine) → slice_get rs k ≡ Some r → Apart rs → Inside rs → length layout.routines ≡ 123 → slice_index (layout_routines layout rs).routines (number_of r) ≡ behind_routines layout.at (take k rs) % 65536
lead [] layout k r here a i wide = none_there r here
lead (q ∷ rs) layout zero r here a i wide =
    let same : q ≡ r = same_one r q here in
    let room : number_of q < length layout.routines = omega (arith, i.0, wide) in
    let at_q : slice_index (layout_routines (with_routine layout q) rs).routines (number_of q) ≡ layout.at % 65536 = later rs (with_routine layout q) (number_of q) a.0 ∙ get_or-set_same layout.routines (number_of q) (layout.at % 65536) 0 room in
    subst (λ (x : Routine). slice_index (layout_routines (with_routine layout q) rs).routines (number_of x) ≡ layout.at % 65536) same at_q
lead (q ∷ rs) layout (suc k) r here a i wide = lead rs (with_routine layout q) k r here a.1 i.1 (length-set layout.routines (number_of q) (layout.at % 65536) ∙ wide)

functions_keep : (fs : List (Sym × Segment)) (layout : Layout) → (layout_functions layout fs).routines ≡ layout.routines
functions_keep [] layout = refl
functions_keep (f ∷ fs) layout = functions_keep fs _

targets_keep : (targets : List Target) (i : ℕ) (layout : Layout) → (with_targets layout i targets).routines ≡ layout.routines
targets_keep [] i layout = refl
targets_keep (Nowhere ∷ targets) i layout = targets_keep targets (i + 1) layout
targets_keep (Own ∷ targets) i layout = targets_keep targets (i + 1) layout
targets_keep (Runtime f ∷ targets) i layout = targets_keep targets (i + 1) (with_target layout i (Runtime f))

one_data_keeps : (kind : DatumKind) (layout : Layout) (datum : Datum) → (with_data kind layout datum).routines ≡ layout.routines
one_data_keeps Data layout datum = refl
one_data_keeps Const layout datum = refl
one_data_keeps Zero layout datum = refl

data_keep : (datums : List Datum) (layout : Layout) → (with_all_data layout datums).routines ≡ layout.routines
data_keep [] layout = refl
data_keep (datum ∷ datums) layout = data_keep datums (with_data datum.kind layout datum) ∙ one_data_keeps datum.kind layout datum

one_zeros_keep : (kind : DatumKind) (layout : Layout) (datum : Datum) → (with_zeros kind layout datum).routines ≡ layout.routines
one_zeros_keep Data layout datum = refl
one_zeros_keep Const layout datum = refl
one_zeros_keep Zero layout datum = refl

zeros_keep : (datums : List Datum) (layout : Layout) → (with_all_zeros layout datums).routines ≡ layout.routines
zeros_keep [] layout = refl
zeros_keep (datum ∷ datums) layout = zeros_keep datums (with_zeros datum.kind layout datum) ∙ one_zeros_keep datum.kind layout datum

-- routines are called where they stand
called : (code : Code) (k : ℕ) (r : Routine) → slice_get (routines_in code) k ≡ Some r → slice_index (layout_in code).routines (number_of r) ≡ routine_address code k % 65536
called code k r here =
    let each : Each (routines_in code) = each_of code in
    let begun : Layout = layout_lines (empty_layout (length code.symbols)) (routine_lines (entry_of code)) in
    let coded : Layout = layout_functions begun code.functions in
    let all : Layout = layout_routines coded (routines_in code) in
    let named : Layout = with_targets all 0 (targets_of code) in
    let given : Layout = with_all_data named code.datums in
    let wide : length coded.routines ≡ 123 = ap length (functions_keep code.functions begun) in
    let at_end : coded.at ≡ behind (first_address code) code.functions = functions_behind code.functions begun in
    let a : slice_index all.routines (number_of r) ≡ behind_routines coded.at (take k (routines_in code)) % 65536 = lead (routines_in code) coded k r here each.apart each.inside wide in
    let b : (with_all_zeros given code.datums).routines ≡ all.routines = zeros_keep code.datums given ∙ data_keep code.datums named ∙ targets_keep (targets_of code) 0 all in
    ap (λ (xs : List ℕ). slice_index xs (number_of r)) b ∙ subst (λ (n : ℕ). slice_index all.routines (number_of r) ≡ behind_routines n (take k (routines_in code)) % 65536) at_end a

-- Their bytes

abbrev routines_bytes : Tables → ℕ → List Routine → List ℕ
routines_bytes tables at [] = []
routines_bytes tables at (r ∷ rs) = one_bytes tables at (routine_lines r) ++ routines_bytes tables (plus at (body_of (routine_lines r)).size) rs

written_routines : (rs : List Routine) (tables : Tables) (w : Written) → (with_routines tables w rs).bytes ≡ w.bytes ++ routines_bytes tables w.at rs
written_routines [] tables w = sym (append-nil w.bytes)
written_routines (r ∷ rs) tables w = written_routines rs tables (with_lines tables w (routine_lines r)) ∙ append_assoc w.bytes (one_bytes tables w.at (routine_lines r)) (routines_bytes tables (plus w.at (body_of (routine_lines r)).size) rs)

behind_written : (fs : List (Sym × Segment)) (tables : Tables) (w : Written) → (with_functions tables w fs).at ≡ behind w.at fs
behind_written [] tables w = refl
behind_written (f ∷ fs) tables w = behind_written fs tables (with_lines tables w f.1.lines)

functions_length : (fs : List (Sym × Segment)) (tables : Tables) (at : ℕ) → at ≤ 2 ^ 64 - 1 → behind at fs ≤ 65535 → at + length (functions_bytes tables at fs) ≡ behind at fs
functions_length [] tables at h low = omega arith
functions_length (f ∷ fs) tables at h low =
    let end : ℕ = plus at (body_of f.1.lines).size in
    let room : Fits at (body_of f.1.lines).size = fits at (body_of f.1.lines).size (behind end fs) h (behind_grows fs end (plus_most at (body_of f.1.lines).size)) low in
    let here : at + length (one_bytes tables at f.1.lines) ≡ end = one_length f.1.lines tables at room in
    let rest : end + length (functions_bytes tables end fs) ≡ behind end fs = functions_length fs tables end (plus_most at (body_of f.1.lines).size) low in
    let both : length (one_bytes tables at f.1.lines ++ functions_bytes tables end fs) ≡ length (one_bytes tables at f.1.lines) + length (functions_bytes tables end fs) = length-append (one_bytes tables at f.1.lines) (functions_bytes tables end fs) in
    omega (arith, here, rest, both)

abbrev Coded : Memory → Tables → ℕ → Routine → Type 0
Coded m tables at r = IsSegment (routine_lines r) → AreCoded m (spot_for (routine_lines r) at tables.symbols tables.routines) at (routine_lines r) (at + (body_of (routine_lines r)).size)

routines_stand : (rs : List Routine) (tables : Tables) (at : ℕ) (m : Memory) (k : ℕ) (r : Routine) → at ≤ 2 ^ 64 - 1 → behind_routines at rs ≤ 65535 → Stands m at (routines_bytes tables at rs) → slice_get rs k ≡ Some r → Coded m tables (behind_routines at (take k rs)) r
routines_stand [] tables at m k r h low stands here = none_there r here
routines_stand (q ∷ rs) tables at m zero r h low stands here =
    let end : ℕ = plus at (body_of (routine_lines q)).size in
    let room : Fits at (body_of (routine_lines q)).size = fits at (body_of (routine_lines q)).size (behind_routines end rs) h (routines_reach rs end (plus_most at (body_of (routine_lines q)).size)) low in
    let parts = stands_split (one_bytes tables at (routine_lines q)) (routines_bytes tables end rs) m at stands in
    subst (λ (x : Routine). Coded m tables at x) (same_one r q here) (λ segment. one_stands (routine_lines q) tables at m room parts.0 segment)
routines_stand (q ∷ rs) tables at m (suc k) r h low stands here =
    let end : ℕ = plus at (body_of (routine_lines q)).size in
    let room : Fits at (body_of (routine_lines q)).size = fits at (body_of (routine_lines q)).size (behind_routines end rs) h (routines_reach rs end (plus_most at (body_of (routine_lines q)).size)) low in
    let parts = stands_split (one_bytes tables at (routine_lines q)) (routines_bytes tables end rs) m at stands in
    let rest : Stands m end (routines_bytes tables end rs) = subst (λ (n : ℕ). Stands m n (routines_bytes tables end rs)) (one_length (routine_lines q) tables at room) parts.1 in
    routines_stand rs tables end m k r (plus_most at (body_of (routine_lines q)).size) low rest here

taken_least : (rs : List Routine) (at k : ℕ) → at ≤ 2 ^ 64 - 1 → behind_routines at (take k rs) ≤ behind_routines at rs
taken_least [] at zero h = omega arith
taken_least [] at (suc k) h = omega arith
taken_least (r ∷ rs) at zero h = (routines_reach (r ∷ rs) at h).least
taken_least (r ∷ rs) at (suc k) h = taken_least rs (plus at (body_of (routine_lines r)).size) k (plus_most at (body_of (routine_lines r)).size)

-- where the file's routines begin
routines_begin : (code : Code) (m : Memory) → behind (first_address code) code.functions ≤ 65535 → Stands m program_start (file_of code) → Stands m (behind (first_address code) code.functions) (routines_bytes (routine_tables code (layout_in code)) (behind (first_address code) code.functions) (routines_in code))
routines_begin code m low stands =
    let layout : Layout = layout_in code in
    let tables : Tables = tables_of layout in
    let own : Tables = routine_tables code layout in
    let lines : List Line = routine_lines (entry_of code) in
    let rs : List Routine = routines_in code in
    let end : ℕ = behind (first_address code) code.functions in
    let begun : Written = with_lines own (record { bytes = []; at = program_start }) lines in
    let coded : Written = with_functions tables begun code.functions in
    let all : Written = with_routines own coded rs in
    let whole = stands_split all.bytes (data_bytes tables.symbols code.datums) m program_start stands in
    let is : all.bytes ≡ coded.bytes ++ routines_bytes own coded.at rs = written_routines rs own coded in
    let parts = stands_split coded.bytes (routines_bytes own coded.at rs) m program_start (subst (λ (bytes : List ℕ). Stands m program_start bytes) is whole.0) in
    let at_end : coded.at ≡ end = behind_written code.functions tables begun in
    let first : Grows program_start (first_address code) = more program_start (body_of lines).size (omega arith) in
    let room : Fits program_start (body_of lines).size = fits program_start (body_of lines).size end (omega arith) (behind_grows code.functions (first_address code) first.most) low in
    let entry : program_start + length (one_bytes own program_start lines) ≡ first_address code = one_length lines own program_start room in
    let functions : first_address code + length (functions_bytes tables (first_address code) code.functions) ≡ end = functions_length code.functions tables (first_address code) first.most low in
    let bytes : coded.bytes ≡ one_bytes own program_start lines ++ functions_bytes tables (first_address code) code.functions = written_functions code.functions tables begun in
    let both : length (one_bytes own program_start lines ++ functions_bytes tables (first_address code) code.functions) ≡ length (one_bytes own program_start lines) + length (functions_bytes tables (first_address code) code.functions) = length-append (one_bytes own program_start lines) (functions_bytes tables (first_address code) code.functions) in
    let long : length coded.bytes ≡ length (one_bytes own program_start lines ++ functions_bytes tables (first_address code) code.functions) = ap length bytes in
    let place : program_start + length coded.bytes ≡ end = omega (arith, entry, functions, both, long) in
    subst (λ (n : ℕ). Stands m n (routines_bytes own end rs)) place (subst (λ (n : ℕ). Stands m (program_start + length coded.bytes) (routines_bytes own n rs)) at_end parts.1)

pub routines_are_coded : RoutinesStand
routines_are_coded code image m k r linked_is stands here segment =
    let file : Given (Ok image) (file_of code) (layout_in code).at = subst (λ (x : Result Image Fault). Given x (file_of code) (layout_in code).at) linked_is (given code (missing_of code (targets_of code))) in
    let begin : ℕ = behind (first_address code) code.functions in
    let functions : Grows begin (layout_in code).at = functions_end code in
    let end : Grows (behind_routines begin (routines_in code)) (layout_in code).at = routines_end code in
    let low : behind_routines begin (routines_in code) ≤ 65535 = omega (arith, end.least, file.1) in
    let low_first : begin ≤ 65535 = omega (arith, functions.least, file.1) in
    let there : Stands m program_start (file_of code) = subst (λ (bytes : List ℕ). Stands m program_start bytes) file.0 stands in
    let small : routine_address code k ≤ behind_routines begin (routines_in code) = taken_least (routines_in code) begin k (omega (arith, low_first)) in
    let exact : routine_address code k % 65536 ≡ routine_address code k = omega (arith, small, low) in
    (called code k r here ∙ exact, routines_stand (routines_in code) (routine_tables code (layout_in code)) begin m k r (omega (arith, low_first)) low (routines_begin code m low_first there) here segment)
