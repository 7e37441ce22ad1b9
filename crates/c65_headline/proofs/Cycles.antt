-- A row takes at most 7 cycles.
use Rattle.std.proofs.Common.{◌≡◌, ℕ, zero, suc, ◌+◌, ◌*◌, ◌≤◌, Bool, true, false, List, [], ◌∷◌, Option, Some, None, refl, subst, arith}
use Rattle.std.specs.Prelude.{IsTrue, nat_le, ◌&&◌, ◌==◌, if◌then◌else◌}
use Rattle.std.specs.List.{list_all}
use Rattle.std.proofs.lemmas.Bool.{leb-true}
use Rattle.c65_base.specs.declared.options.Cpu.{Cpu}
use Rattle.c65_base.specs.declared.options.Cpu.TheVariants.{Nmos, Cmos}
use Rattle.c65_mach.specs.declared.rows.Row.{Row}
use Rattle.c65_mach.specs.declared.rows.Op.{Op}
use Rattle.c65_mach.specs.declared.rows.Op.TheVariants.{Bra}
use Rattle.c65_mach.specs.declared.rows.Mode.{Mode}
use Rattle.c65_mach.specs.declared.rows.Mode.TheVariants.{Relative}
use Rattle.c65_mach.specs.State.{State, Regs}
use Rattle.c65_mach.specs.Table.{Entry, table, found, row_of, own_rows, or_row, row_for}
use Rattle.c65_mach.specs.Step.{bit, is_taken, more_cycles, place_of, row_at}
use Rattle.c65_mach.specs.Run.{Progress, Running, Ended, Stopped, onward, is_hook, row_cycles, cycles_next, cycles_after}
use Rattle.c65_headline.specs.Planned.{RowsTakeSeven}
use Rattle.c65_headline.proofs.Tests.{both}

extra : Mode → Bool → ℕ
extra Relative page = 2
extra _ page = bit page

most : Row → ℕ
most row = row.cycles + extra row.mode row.page

is_few : Entry → Bool
is_few e = nat_le (most e.row) 7

branch_more : (taken crosses : Bool) → (if taken then 1 + bit crosses else 0) ≤ 2
branch_more true true = omega arith
branch_more true false = omega arith
branch_more false crosses = omega arith

always_more : (crosses : Bool) → bit crosses ≤ 2
always_more true = omega arith
always_more false = omega arith

page_more : (page crosses : Bool) → bit (page && crosses) ≤ bit page
page_more true true = omega arith
page_more true false = omega arith
page_more false crosses = omega arith

more_is : (mode : Mode) (op : Op) (page crosses : Bool) (r : Regs) → more_cycles mode op page crosses r ≤ extra mode page
unfolding extra
more_is Relative Bra page crosses r = always_more crosses
more_is Relative op page crosses r = branch_more (is_taken op r) crosses
more_is _ op page crosses r = page_more page crosses

all_few : list_all is_few table ≡ true
unfolding is_few most extra
all_few = refl

own_few : list_all is_few own_rows ≡ true
unfolding is_few most extra
own_few = refl

found_few : (byte : ℕ) (es : List Entry) (row : Row) → list_all is_few es ≡ true → found byte es ≡ Some row → most row ≤ 7
unfolding is_few
found_few byte [] row a h = absurd (let k : (let x : Option Row = None in x ≡ Some row) = h in cc)
found_few byte (e ∷ es) row a h = at (λ k. found_few byte es row ((both (is_few e) (list_all is_few es) a).1) k) (byte == e.byte) h
  where
    parts : IsTrue (is_few e) × IsTrue (list_all is_few es)
    parts = both (is_few e) (list_all is_few es) a

    first : nat_le (most e.row) 7 ≡ true
    first = parts.0

    at : (found byte es ≡ Some row → most row ≤ 7) → (b : Bool) → (if b then Some e.row else found byte es) ≡ Some row → most row ≤ 7
    at rest true k =
        let same : e.row ≡ row = let j : (let x : Option Row = Some e.row in x ≡ Some row) = k in cc in
        subst (λ (r : Row). most r ≤ 7) same (leb-true (most e.row) 7 first)
    at rest false k = rest k

old_few : (byte : ℕ) (row : Row) → row_of byte ≡ Some row → most row ≤ 7
unfolding row_of
old_few byte row h = found_few byte table row all_few h

either_few : (own other : Option Row) (row : Row) → ((row : Row) → own ≡ Some row → most row ≤ 7) → ((row : Row) → other ≡ Some row → most row ≤ 7) → or_row own other ≡ Some row → most row ≤ 7
either_few None other row a b h = b row h
either_few (Some r) other row a b h = a row h

row_few : (cpu : Cpu) (byte : ℕ) (row : Row) → row_for cpu byte ≡ Some row → most row ≤ 7
unfolding row_for
row_few Nmos byte row h = old_few byte row h
row_few Cmos byte row h = either_few (found byte own_rows) (row_of byte) row (λ r k. found_few byte own_rows r own_few k) (λ r k. old_few byte r k) h

of_row : (o : Option Row) (t : State) → ((row : Row) → o ≡ Some row → most row ≤ 7) → row_cycles o t ≤ 7
unfolding most
of_row None t few = omega arith
of_row (Some row) t few =
    let a : row.cycles + extra row.mode row.page ≤ 7 = few row refl in
    let b : more_cycles row.mode row.op row.page (place_of row.mode t).1 t.regs ≤ extra row.mode row.page = more_is row.mode row.op row.page (place_of row.mode t).1 t.regs in
    omega arith

of_hook : (b : Bool) (t : State) → (if b then 6 else row_cycles (row_at t) t) ≤ 7
of_hook true t = omega arith
of_hook false t = of_row (row_at t) t (λ row h. row_few t.cpu _ row h)

next_few : (p : Progress) → cycles_next p ≤ 7
next_few (Running now) = of_hook (is_hook now.machine.pc) now.machine
next_few (Ended now v) = omega arith
next_few (Stopped now) = omega arith

pub rows_take_seven : RowsTakeSeven
unfolding cycles_after
rows_take_seven s zero start = omega arith
rows_take_seven s (suc rows) start =
    let a : cycles_after s rows start ≤ 7 * rows = rows_take_seven s rows start in
    let b : cycles_next (onward s rows start) ≤ 7 = next_few (onward s rows start) in
    omega arith
