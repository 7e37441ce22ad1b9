-- `incsp1` and `incsp4`
use Rattle.std.proofs.Common.{◌≡◌, ◌+◌, [], ◌∷◌, None, refl, sym, arith}
use Rattle.std.proofs.lemmas.List.{append-nil}
use Rattle.c65_mach.specs.declared.rows.Op.TheVariants.{Ldy}
use Rattle.c65_code.specs.declared.routine.Count.{Count}
use Rattle.c65_code.specs.declared.routine.Count.TheVariants.{One, Four}
use Rattle.c65_code.specs.declared.routine.Routine.TheVariants as routines
use Rattle.c65_code.specs.LineState.{Place, State, sp_of}
use Rattle.c65_code.specs.Rows.{Row, sp_row, number_of}
use Rattle.c65_code.specs.RawMachine.{RawSetting, called}
use Rattle.c65_rtl.specs.Assembly.{value}
use Rattle.c65_rtl.specs.Stack.{raise_one, raise_by_number}
use Rattle.c65_rtl.specs.Routines.{lines_of}
use Rattle.c65_rtl.proofs.Ways.{Ends}
use Rattle.c65_rtl.proofs.Meeting.{ends_by}
use Rattle.c65_rtl.proofs.SpPieces.{Follows, left, raise_one_at, raise_by_at}
use Rattle.c65_rtl.proofs.Pushes.{sreg_kept}
use Rattle.c65_rtl_law_inner.specs.Inner.{IsMetIn}
use Rattle.c65_rtl_law_inner.proofs.Straight.{ComesIn, straight_comes, meets_loud}

abbrev pub raised_row : Count → State → Row
raised_row count t = record (sp_row (routines.IncSp count) (sp_of t + number_of count) t) { room = 0 }

raised_ends : (count : Count) (back : Place) (t : State) → t.ended ≡ None → Follows (Ends (raised_row count t) t) (sp_of t + number_of count) (called back t)
raised_ends count back t running = λ y n v z c zp moved. ends_by (raised_row count t) t (left (called back t) t.regs.a t.regs.x y n v z c zp t.mem) [] (record {
  zp = moved.rest;
  fit = refl;
  small = (refl, refl, refl, refl, refl);
  low_kept = tt;
  high_kept = tt;
  a_kept = refl;
  x_kept = refl;
  sp = moved.sp;
  a = refl;
  x = refl;
  sreg = sreg_kept _ _ _ moved;
  pointers = tt;
  bank = tt;
  mem = λ b h. refl;
  input = refl;
  output = sym (append-nil t.output);
  ended = running;
})

pub raise_one_comes : (s : RawSetting) → s.lines (s.routine (routines.IncSp One)) ≡ lines_of (routines.IncSp One) → ComesIn s 0 0 5 (raised_row One) (routines.IncSp One)
raise_one_comes s has = straight_comes s 0 (routines.IncSp One) (raised_row One) raise_one (λ t. refl) has refl
    (λ bounds back t may. let high = may.high in
    raise_one_at s.place bounds (Ends (raised_row One t) t) (called back t) (may.bytes.zp 0) (may.bytes.zp 1) (omega arith) (raised_ends One back t may.running))

pub raise_four_comes : (s : RawSetting) → s.lines (s.routine (routines.IncSp Four)) ≡ lines_of (routines.IncSp Four) → ComesIn s 0 0 10 (raised_row Four) (routines.IncSp Four)
raise_four_comes s has = straight_comes s 0 (routines.IncSp Four) (raised_row Four) (raise_by_number 4) (λ t. refl) has refl
    (λ bounds back t may. let high = may.high in
    raise_by_at s.place bounds (Ends (raised_row Four t) t) 4 (called back t) (may.bytes.zp 0) (may.bytes.zp 1) (omega arith) (omega arith) (raised_ends Four back t may.running))

pub raise_one_in : IsMetIn (routines.IncSp One)
raise_one_in s has = meets_loud s 0 0 5 (raised_row One) (routines.IncSp One) (λ t. refl) (λ t. refl) (λ t. omega arith) (raise_one_comes s has)

pub raise_four_in : IsMetIn (routines.IncSp Four)
raise_four_in s has = meets_loud s 0 0 10 (raised_row Four) (routines.IncSp Four) (λ t. refl) (λ t. refl) (λ t. omega arith) (raise_four_comes s has)
