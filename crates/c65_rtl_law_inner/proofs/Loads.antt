-- `popa` and `ldaxysp`
use Rattle.std.proofs.Common.{◌≡◌, ℕ, ◌+◌, ◌-◌, ◌*◌, ◌%◌, ◌<◌, ◌≤◌, inl, inr, Bool, List, [], ◌∷◌, Some, None, refl, sym, ap, subst, ◌∙◌, arith}
use Rattle.std.specs.Prelude.{nat_le}
use Rattle.std.proofs.lemmas.List.{append-nil}
use Rattle.c65_mach.specs.declared.rows.Op.TheVariants.{Lda, Ldy, Rts}
use Rattle.c65_code.specs.declared.routine.Width.TheVariants.{Ax}
use Rattle.c65_code.specs.declared.routine.Routine.TheVariants as routines
use Rattle.c65_code.specs.declared.line.Line.{Line}
use Rattle.c65_code.specs.LineState.{State, sp_of, word_at}
use Rattle.c65_code.specs.Placement.{Placement}
use Rattle.c65_code.specs.Rows.{Row, row_by, keeping, popping, reading, giving, needing}
use Rattle.c65_code.specs.RawMachine.{RawSetting, Bounds, IsReachable, LieLow, called}
use Rattle.c65_rtl.specs.Assembly.{sp, implied, value, by_y}
use Rattle.c65_rtl.specs.Stack.{raise_one}
use Rattle.c65_rtl.specs.Routines.{lines_of}
use Rattle.c65_rtl.proofs.Ways.{leads, Ends}
use Rattle.c65_rtl.proofs.Meeting.{ends_by}
use Rattle.c65_rtl.proofs.SpPieces.{left, raise_one_at}
use Rattle.c65_rtl.proofs.Pushes.{sreg_kept}
use Rattle.c65_rtl.proofs.Stores.{le_true}
use Rattle.c65_rtl.proofs.Loads.{load_word_on, load_word_at, returns_at, word_low, word_high}
use Rattle.c65_rtl_law_walks.proofs.Ranges.{all_in_range}
use Rattle.c65_rtl_law_inner.specs.Inner.{IsMetIn}
use Rattle.c65_rtl_law_inner.proofs.Straight.{ComesIn, straight_comes, meets_loud}

-- what may be reached lies below the end of the software stack
pub low_enough : (place : Placement) (bounds : Bounds) (b : ℕ) → LieLow place → IsReachable place bounds b → b < 65520
low_enough place bounds b low (inl data_of) = let h = low b data_of in omega arith
low_enough place bounds b low (inr within) = within.1

top_byte_at : (place : Placement) (bounds : Bounds) (P : State → Type 0) (rest : List Line) (u : State) → (u.zp 0 + 256 * u.zp 1 + 0) % 65536 ≡ sp_of u → IsReachable place bounds (sp_of u)
    → ((a : ℕ) (n z : Bool) → a ≡ u.mem (sp_of u) → leads place bounds P rest None (record u { regs = record u.regs { a = a; y = 0; n = n; z = z } }))
    → leads place bounds P (value Ldy 0 ∷ by_y Lda sp ∷ rest) None u
unfolding leads
top_byte_at place bounds P rest u at reach follows = (subst (λ (b : ℕ). IsReachable place bounds b) (sym at) reach, follows _ _ _ (ap u.mem at))

abbrev pub popa_row : State → Row
popa_row t = record (keeping t (popping 1 t (row_by routines.PopA t))) { a = Some (t.mem (sp_of t)); room = 0 }

pub pop_byte_comes : (s : RawSetting) → s.lines (s.routine routines.PopA) ≡ lines_of routines.PopA → ComesIn s 0 0 7 popa_row routines.PopA
pop_byte_comes s has = straight_comes s 0 routines.PopA popa_row (value Ldy 0 ∷ by_y Lda sp ∷ raise_one) (λ t. refl) has refl
    (λ bounds back t may. let high = may.high in
    let e : sp_of t + 0 ≡ sp_of t = omega arith in
    let open_top : IsReachable s.place bounds (sp_of t) = subst (λ (b : ℕ). IsReachable s.place bounds b) e (all_in_range (IsReachable s.place bounds) 1 (sp_of t) may.near 0 (omega arith)) in
    top_byte_at s.place bounds (Ends (popa_row t) t) raise_one (called back t) (omega arith) open_top
    (λ a n z is_a. raise_one_at s.place bounds (Ends (popa_row t) t) (record (called back t) { regs = record t.regs { a = a; y = 0; n = n; z = z } }) (may.bytes.zp 0) (may.bytes.zp 1) (omega arith)
    (λ y n v z c zp moved. ends_by (popa_row t) t (left (called back t) a t.regs.x y n v z c zp t.mem) [] (record {
      zp = moved.rest;
      fit = refl;
      small = (refl, refl, refl, refl, refl);
      low_kept = tt;
      high_kept = tt;
      a_kept = tt;
      x_kept = refl;
      sp = moved.sp;
      a = is_a;
      x = refl;
      sreg = sreg_kept _ _ _ moved;
      pointers = tt;
      bank = tt;
      mem = λ b h. refl;
      input = refl;
      output = sym (append-nil t.output);
      ended = may.running;
    }))))

abbrev pub ldaxysp_row : State → Row
ldaxysp_row t = let at = sp_of t + t.regs.y - 1 in record (needing (nat_le 1 t.regs.y) (giving Ax (word_at t.mem at) (keeping t (reading 2 at (row_by routines.LdAxYSp t))))) { room = 0 }

pub load_word_comes : (s : RawSetting) → s.lines (s.routine routines.LdAxYSp) ≡ lines_of routines.LdAxYSp → ComesIn s 0 0 5 ldaxysp_row routines.LdAxYSp
load_word_comes s has = straight_comes s 0 routines.LdAxYSp ldaxysp_row (load_word_on (implied Rts ∷ [])) (λ t. refl) has refl
    (λ bounds back t may. let at : ℕ = sp_of t + t.regs.y - 1 in
    let some : 1 ≤ t.regs.y = le_true 1 t.regs.y may.ready in
    let byte = may.bytes.y in
    let e : at + 0 ≡ at = omega arith in
    let open_low : IsReachable s.place bounds at = subst (λ (b : ℕ). IsReachable s.place bounds b) e (all_in_range (IsReachable s.place bounds) 2 at may.near 0 (omega arith)) in
    let open_high : IsReachable s.place bounds (at + 1) = all_in_range (IsReachable s.place bounds) 2 at may.near 1 (omega arith) in
    let end : at + 1 < 65520 = low_enough s.place bounds (at + 1) may.data_low open_high in
    let low = may.bytes.mem at in
    let high = may.bytes.mem (at + 1) in
    load_word_at s.place bounds (Ends (ldaxysp_row t) t) (implied Rts ∷ []) at (called back t) (omega arith) (omega arith) open_low open_high
    (λ a x y n z is_a is_x. returns_at s.place bounds (Ends (ldaxysp_row t) t) (record (called back t) { regs = record t.regs { a = a; x = x; y = y; n = n; z = z } })
    (ends_by (ldaxysp_row t) t (left (called back t) a x y n t.regs.v z t.regs.c t.zp t.mem) [] (record {
      zp = λ i two. refl;
      fit = refl;
      small = (refl, refl, refl, refl, refl);
      low_kept = refl;
      high_kept = refl;
      a_kept = tt;
      x_kept = tt;
      sp = refl;
      a = is_a ∙ sym (word_low (t.mem at) (t.mem (at + 1)) low);
      x = is_x ∙ sym (word_high (t.mem at) (t.mem (at + 1)) low high);
      sreg = refl;
      pointers = tt;
      bank = tt;
      mem = λ b h. refl;
      input = refl;
      output = sym (append-nil t.output);
      ended = may.running;
    }))))

pub pop_byte_in : IsMetIn routines.PopA
pop_byte_in s has = meets_loud s 0 0 7 popa_row routines.PopA (λ t. refl) (λ t. refl) (λ t. omega arith) (pop_byte_comes s has)

pub load_word_in : IsMetIn routines.LdAxYSp
load_word_in s has = meets_loud s 0 0 5 ldaxysp_row routines.LdAxYSp (λ t. refl) (λ t. refl) (λ t. omega arith) (load_word_comes s has)
