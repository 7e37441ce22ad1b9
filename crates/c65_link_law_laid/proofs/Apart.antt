-- No byte of the code is of two lines, where one of them is a function's.
use Rattle.std.proofs.Common.{◌≡◌, ℕ, zero, suc, ◌+◌, ◌<◌, ◌≤◌, ◌==◌, ◌⊎◌, inl, inr, Bool, true, false, if◌then◌else◌, List, [], ◌∷◌, map, Option, Some, None, Ok, length, slice_get, refl, ap, sym, ◌∙◌, subst, arith}
use Rattle.std.proofs.lemmas.Bool.{cases_order}
use Rattle.c65_base.specs.declared.options.Cpu.{Cpu}
use Rattle.c65_mach.specs.declared.image.Image.{Image}
use Rattle.c65_mach.specs.declared.rows.Op.{Op}
use Rattle.c65_mach.specs.declared.rows.Mode.{Mode}
use Rattle.c65_mach.specs.declared.rows.Mode.TheVariants.{Absolute, Relative}
use Rattle.c65_mach.specs.State.{read, loaded_memory}
use Rattle.c65_code.specs.declared.routine.Routine.{Routine}
use Rattle.c65_code.specs.declared.line.Sym.{Sym}
use Rattle.c65_code.specs.declared.line.Operand.{Operand}
use Rattle.c65_code.specs.declared.line.Line.{Line}
use Rattle.c65_code.specs.declared.line.Line.TheVariants.{Label, Do, Call}
use Rattle.c65_code.specs.declared.code.Code.{Code}
use Rattle.c65_code.specs.LineState.{Place}
use Rattle.c65_code.specs.Numbering.{number_of}
use Rattle.c65_code.specs.Placement.{program_start}
use Rattle.c65_code.specs.Segments.{Segment}
use Rattle.c65_link.specs.Bodies.{body_of}
use Rattle.c65_link.specs.Opcodes.{opcode_of}
use Rattle.c65_link.specs.Linked.{linked_for}
use Rattle.c65_link_law.specs.Coded.{Memory}
use Rattle.c65_link_law.specs.Placed.{address_of}
use Rattle.c65_link_law_spots.specs.Places.{lines_in, base_in, spot_in}
use Rattle.c65_link_law_spots.specs.Sound.{IsSound}
use Rattle.c65_link_law_spots.specs.Laws.{IsChosen, IsUnit, function, routine, start, end_in, IsUnitPlaced}
use Rattle.c65_link_law_spots.proofs.Sums.{same_there}
use Rattle.c65_link_law_spots.proofs.Targets.{IsMade, made}
use Rattle.c65_link_law_spots.proofs.Spots.{Ends, ends, FunctionAt, function_stands, functions_apart, functions_to, function_size, RoutineAt, routine_stands, routine_called}
use Rattle.c65_link_law_spots.proofs.Units.{Parts, function_parts, routine_parts, entry_parts, entry_lines, start_ends, units_stand}
use Rattle.c65_link_law_spots.proofs.Loaded.{data_are_loaded}
use Rattle.c65_link_law_laid.specs.Linked.{line_end, line_at, with_main, main_number, start_number, unit_lines, place_at, IsInstruction, IsByteOf}
use Rattle.c65_link_law_laid.specs.Laws.{LinesAreApart}
use Rattle.c65_link_law_laid.proofs.Walk.{first_at, from_at, upto_at}
use Rattle.c65_link_law_laid.proofs.Linked.{kept}

-- Lines one behind another

do_wide : (mode : Mode) (m : Memory) (at : ℕ) (op : Op) (operand : Operand) → at < line_end m at (Do op mode operand)
do_wide Relative m at op operand = by (m at == opcode_of op Relative)
  where
    by : (b : Bool) → at < (if b then at + 2 else at + 5)
    by true = omega arith
    by false = omega arith
do_wide Absolute m at op operand = omega arith
do_wide _ m at op operand = omega arith

line_wide : (line : Line) (m : Memory) (at : ℕ) → IsInstruction line → at < line_end m at line
line_wide (Label l) m at h = absurd h
line_wide (Do op mode operand) m at h = do_wide mode m at op operand
line_wide (Call callee) m at h = omega arith

-- an instruction has a byte
pub wide_at : (lines : List Line) (m : Memory) (at p : ℕ) (l : Line) → slice_get lines p ≡ Some l → IsInstruction l → line_at m at lines p < line_at m at lines (suc p)
wide_at [] m at p l here h = absurd (let z : ◌≡◌ {A = Option Line} None (Some l) = here in cc)
wide_at (line ∷ lines) m at zero l here h =
    let wide = line_wide line m at (subst IsInstruction (sym (same_there line l here)) h) in
    let first = first_at lines m (line_end m at line) in
    omega (arith, wide, first)
wide_at (line ∷ lines) m at (suc p) l here h = wide_at lines m (line_end m at line) p l here h

ordered_at : (lines : List Line) (m : Memory) (at p q : ℕ) → p ≤ q → line_at m at lines p ≤ line_at m at lines q
ordered_at [] m at p q h = omega arith
ordered_at (line ∷ lines) m at zero q h = from_at (line ∷ lines) m at q
ordered_at (line ∷ lines) m at (suc p) zero h = absurd (omega (arith, h))
ordered_at (line ∷ lines) m at (suc p) (suc q) h = ordered_at lines m (line_end m at line) p q (omega (arith, h))

-- the start's lines stand where they stand with symbol 0
main_ends : (line : Line) (m : Memory) (main at : ℕ) → line_end m at (with_main main line) ≡ line_end m at line
main_ends (Label l) m main at = refl
main_ends (Do op mode operand) m main at = refl
main_ends (Call callee) m main at = refl

main_at : (lines : List Line) (m : Memory) (main at p : ℕ) → line_at m at (map (with_main main) lines) p ≡ line_at m at lines p
main_at [] m main at p = refl
main_at (line ∷ lines) m main at zero = refl
main_at (line ∷ lines) m main at (suc p) = ap (λ (n : ℕ). line_at m n (map (with_main main) lines) p) (main_ends line m main at) ∙ main_at lines m main (line_end m at line) p

unit_at : (code : Code) (m : Memory) (at f p : ℕ) → line_at m at (unit_lines code f) p ≡ line_at m at (lines_in code f) p
unit_at code m at f p = by (f == start_number code)
  where
    by : (b : Bool) → line_at m at (if b then map (with_main (main_number code)) (lines_in code f) else lines_in code f) p ≡ line_at m at (lines_in code f) p
    by true = main_at (lines_in code f) m (main_number code) at p
    by false = refl

-- a line of a unit lies within the unit
record IsInUnit (code : Code) (m : Memory) (f p : ℕ) : Type 0 where
  is : place_at code m (f, p) ≡ line_at m (base_in code f) (lines_in code f) p
  from : base_in code f ≤ place_at code m (f, p)
  to : place_at code m (f, p) ≤ end_in code f

in_unit : (code : Code) (m : Memory) (f p : ℕ) → IsUnitPlaced code m f → IsInUnit code m f p
in_unit code m f p u =
    let own = unit_at code m (base_in code f) f p in
    let low = from_at (lines_in code f) m (base_in code f) p in
    let high = upto_at (lines_in code f) m (spot_in code f) (base_in code f) (end_in code f) p u.segment.fit u.coded in
    let from = u.from in let to = u.to in
    let same : place_at code m (f, p) ≡ line_at m (base_in code f) (unit_lines code f) p = kept code (line_at m (base_in code f) (unit_lines code f) p) (omega (arith, own, low, from)) (omega (arith, own, high, to)) in
    record { is = same ∙ own; from = omega (arith, same, own, low); to = omega (arith, same, own, high) }

-- A function lies apart from every other unit

function_base : (code : Code) (k : ℕ) (f : Sym × Segment) → IsSound code → Ends code → slice_get code.functions k ≡ Some f → base_in code f.0.0 ≡ address_of code k
function_base code k f s e here = (function_parts code k f s here).base_is ∙ (function_stands code k f s e here).address

function_end : (code : Code) (k : ℕ) (f : Sym × Segment) → IsSound code → Ends code → slice_get code.functions k ≡ Some f → end_in code f.0.0 ≡ address_of code k + function_size f
function_end code k f s e here =
    let base = function_base code k f s e here in
    let size : (body_of (lines_in code f.0.0)).size ≡ function_size f = ap (λ (ls : List Line). (body_of ls).size) (function_parts code k f s here).lines_is in
    omega (arith, base, size)

-- two units that share a byte
pub one_unit : (code : Code) (k b : ℕ) (f : Sym × Segment) (u : ℕ) → IsSound code → Ends code → ((n : ℕ) (r : Routine) → IsChosen code r → n ≡ length code.symbols + number_of r → functions_to code ≤ base_in code n) → slice_get code.functions k ≡ Some f → IsUnit code u
    → base_in code f.0.0 ≤ b → b < end_in code f.0.0 → base_in code u ≤ b → b < end_in code u → f.0.0 ≡ u
one_unit code k b f u s e routines_behind here unit from to low high = by unit
  where
    base : base_in code f.0.0 ≡ address_of code k
    base = function_base code k f s e here

    end : end_in code f.0.0 ≡ address_of code k + function_size f
    end = function_end code k f s e here

    at : FunctionAt code k f
    at = function_stands code k f s e here

    by : IsUnit code u → f.0.0 ≡ u
    by (function j g there is) = other (cases_order k j)
      where
        base_j : base_in code u ≡ address_of code j
        base_j = ap (base_in code) (sym is) ∙ function_base code j g s e there

        end_j : end_in code u ≡ address_of code j + function_size g
        end_j = ap (end_in code) (sym is) ∙ function_end code j g s e there

        other : (k ≡ j) ⊎ ((k < j) ⊎ (j < k)) → f.0.0 ≡ u
        other (inl same) = ap (λ (x : Sym × Segment). x.0.0) (same_there f g (sym here ∙ ap (slice_get code.functions) same ∙ there)) ∙ is
        other (inr (inl less)) = (let apart = functions_apart code k j f e here less in absurd (omega (arith, apart, base_j, end, to, low)))
        other (inr (inr less)) = (let apart = functions_apart code j k g e there less in absurd (omega (arith, apart, base, end_j, from, high)))
    by (routine r chosen is) = (let behind_all = routines_behind u r chosen is in let upto = at.to in absurd (omega (arith, behind_all, upto, end, to, low)))
    by (start is) =
        let p : Parts code (start_number code) (entry_lines code) program_start _ = entry_parts code in
        let base_s : base_in code u ≡ program_start = ap (base_in code) is ∙ p.base_is in
        let size_s : (body_of (lines_in code u)).size ≡ (body_of (entry_lines code)).size = ap (λ (n : ℕ). (body_of (lines_in code n)).size) is ∙ ap (λ (ls : List Line). (body_of ls).size) p.lines_is in
        let first = start_ends code e in let begins = at.from in
        absurd (omega (arith, base_s, size_s, first, begins, base, from, high))

-- two lines of one unit that share a byte
one_line : (code : Code) (m : Memory) (f p q b : ℕ) → IsUnitPlaced code m f → place_at code m (f, p) ≤ b → b < place_at code m (f, suc p) → place_at code m (f, q) ≤ b → b < place_at code m (f, suc q) → p ≡ q
one_line code m f p q b u from to low high = by (cases_order p q)
  where
    at : (n : ℕ) → place_at code m (f, n) ≡ line_at m (base_in code f) (lines_in code f) n
    at n = (in_unit code m f n u).is

    by : (p ≡ q) ⊎ ((p < q) ⊎ (q < p)) → p ≡ q
    by (inl e) = e
    by (inr (inl less)) =
        let order = ordered_at (lines_in code f) m (base_in code f) (suc p) q (omega (arith, less)) in
        let one = at (suc p) in let two = at q in absurd (omega (arith, order, one, two, to, low))
    by (inr (inr less)) =
        let order = ordered_at (lines_in code f) m (base_in code f) (suc q) p (omega (arith, less)) in
        let one = at (suc q) in let two = at p in absurd (omega (arith, order, one, two, high, from))

pub lines_are_apart : LinesAreApart
lines_are_apart cpu code image s linked_is k f p q b here unit one two = by same
  where
    m : Memory
    m = read (loaded_memory image)

    it : IsMade code image
    it = made code cpu image linked_is

    e : Ends code
    e = ends code it.plain it.is

    placed : (n : ℕ) → IsUnit code n → IsUnitPlaced code m n
    placed = units_stand code cpu image m s linked_is (data_are_loaded code cpu image s linked_is).file

    own : IsUnitPlaced code m f.0.0
    own = placed f.0.0 (function k f here refl)

    other : IsUnitPlaced code m q.0
    other = placed q.0 unit

    behind_functions : (n : ℕ) (r : Routine) → IsChosen code r → n ≡ length code.symbols + number_of r → functions_to code ≤ base_in code n
    behind_functions n r chosen is =
        let base : base_in code n ≡ _ = ap (base_in code) is ∙ (routine_parts code r).base_is ∙ routine_called code it.plain chosen.place r it.is chosen.there in
        let at : RoutineAt code chosen.place r = routine_stands code chosen.place r e chosen.there in
        let from = at.from in omega (arith, base, from)

    same : f.0.0 ≡ q.0
    same =
        let a = in_unit code m f.0.0 p own in let a2 = in_unit code m f.0.0 (suc p) own in
        let c = in_unit code m q.0 q.1 other in let c2 = in_unit code m q.0 (suc q.1) other in
        let from = one.from in let to = one.to in let low = two.from in let high = two.to in
        let one_from = a.from in let one_to = a2.to in let two_from = c.from in let two_to = c2.to in
        one_unit code k b f q.0 s e behind_functions here unit (omega (arith, one_from, from)) (omega (arith, one_to, to)) (omega (arith, two_from, low)) (omega (arith, two_to, high))

    by : f.0.0 ≡ q.0 → (f.0.0, p) ≡ q
    by eq =
        let moved : IsByteOf code m (f.0.0, q.1) b = subst (λ (n : ℕ). IsByteOf code m (n, q.1) b) (sym eq) two in
        ap (λ (n : ℕ). (f.0.0, n)) (one_line code m f.0.0 p q.1 b own one.from one.to moved.from moved.to) ∙ ap (λ (n : ℕ). (n, q.1)) eq

-- an instruction has its first byte
pub first_bytes : (cpu : Cpu) (code : Code) (image : Image) → IsSound code → linked_for cpu code ≡ Ok image → (q : Place) (l : Line) → IsUnit code q.0 → slice_get (unit_lines code q.0) q.1 ≡ Some l → IsInstruction l
    → IsByteOf code (read (loaded_memory image)) q (place_at code (read (loaded_memory image)) q)
first_bytes cpu code image s linked_is q l unit here h =
    let m : Memory = read (loaded_memory image) in
    let u : IsUnitPlaced code m q.0 = units_stand code cpu image m s linked_is (data_are_loaded code cpu image s linked_is).file q.0 unit in
    let base : ℕ = base_in code q.0 in
    let wide : line_at m base (unit_lines code q.0) q.1 < line_at m base (unit_lines code q.0) (suc q.1) = wide_at (unit_lines code q.0) m base q.1 l here h in
    let one = unit_at code m base q.0 q.1 in let two = unit_at code m base q.0 (suc q.1) in
    let a = (in_unit code m q.0 q.1 u).is in let b = (in_unit code m q.0 (suc q.1) u).is in
    record { from = omega arith; to = omega (arith, wide, one, two, a, b) }
