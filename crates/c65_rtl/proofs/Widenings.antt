-- The widenings of A and AX.
use Rattle.std.proofs.Common.{◌≡◌, ℕ, suc, ◌+◌, ◌*◌, ◌<◌, ◌≤◌, inl, inr, Bool, true, false, [], ◌∷◌, Some, None, refl, sym, ap, arith}
use Rattle.std.specs.Prelude.{if◌then◌else◌, nat_lt}
use Rattle.std.proofs.lemmas.Bool.Decides.{Decides-ltb, leb_tells}
use Rattle.c65_code.specs.declared.routine.Routine.TheVariants as routines
use Rattle.c65_code.specs.LineState.{Place, write, State}
use Rattle.c65_code.specs.Placement.{Placement}
use Rattle.c65_code.specs.Rows.{Row, row_by, costing}
use Rattle.c65_code.specs.RawMachine.{RawSetting, Bounds, called, MayRun, Runs, MeetsRow, reach_of}
use Rattle.c65_rtl.specs.Unary.{sign_byte, sign_word, zero_word}
use Rattle.c65_rtl.specs.Routines.{lines_of}
use Rattle.c65_rtl.proofs.Ways.{leads, Ends, runs}
use Rattle.c65_rtl.proofs.Meeting.{lt_true, lt_false, not_true, not_false}
use Rattle.c65_rtl.proofs.Plain.{ends_plain}
use Rattle.c65_rtl.proofs.SpPieces.{left}
use Rattle.c65_rtl.proofs.Pushes.{meets_by}

pub below_is : (a b : ℕ) → a < b → nat_lt a b ≡ true
below_is a b h = (Decides-ltb a b).1 h

pub not_below : (a b : ℕ) → b ≤ a → nat_lt a b ≡ false
not_below a b h = elim (leb_tells (suc a) b) [ inl less ↦ absurd (let below = less.1 in omega arith) | inr more ↦ more.0 ]

-- the byte that extends a signed byte
abbrev pub extension : ℕ → ℕ
extension a = if nat_lt 127 a then 255 else 0

pub extended : (a : ℕ) (negative : Bool) → nat_lt 128 (a + 1) ≡ negative → extension a ≡ (if negative then 255 else 0)
extended a true e = let h : 128 < a + 1 = lt_true _ _ e in let g : 127 < a = omega arith in ap (λ (b : Bool). if b then 255 else 0) (below_is 127 a g)
extended a false e = let h : a + 1 ≤ 128 = lt_false _ _ e in let g : a ≤ 127 = omega arith in ap (λ (b : Bool). if b then 255 else 0) (not_below 127 a g)

sign_byte_at : (place : Placement) (bounds : Bounds) (P : State → Type 0) (u : State)
    → ((x y : ℕ) (n v z c : Bool) → x ≡ extension u.regs.a → P (left u u.regs.a x y n v z c u.zp u.mem)) → leads place bounds P sign_byte None (record u { pushed = [] })
unfolding leads
sign_byte_at place bounds P u follows = elim [
  | true ↦ λ e. follows _ _ _ _ _ _ (sym (extended u.regs.a false (not_true _ e)))
  | false ↦ λ e. follows _ _ _ _ _ _ (sym (extended u.regs.a true (not_false _ e)))
]

abbrev signa_row : State → Row
signa_row t = costing 256 (record (row_by routines.SignA t) { a = Some t.regs.a; x = Some (extension t.regs.a) })

signs_a : (s : RawSetting) → s.lines (s.routine routines.SignA) ≡ sign_byte → (back : Place) (t : State) → MayRun s (signa_row t) t → Runs s routines.SignA (signa_row t) back t
signs_a s has back t may =
    runs s routines.SignA (signa_row t) back t sign_byte has (record { onward = refl; weight = refl; depth = refl }) refl may
    (sign_byte_at s.place (reach_of t) (Ends (signa_row t) t) (called back t)
    (λ x y n v z c is_x. ends_plain (signa_row t) back t t.regs.a x y n v z c t.zp t.mem [] refl may.running (tt, tt, refl, refl) (λ i two. refl)
    refl (refl, is_x, tt) (λ b h. refl)))

-- longax
abbrev word_extension : ℕ → ℕ
word_extension x = if nat_lt 127 x then 65535 else 0

word_extended : (x : ℕ) (negative : Bool) → nat_lt 128 (x + 1) ≡ negative → word_extension x ≡ (if negative then 65535 else 0)
word_extended x true e = let h : 128 < x + 1 = lt_true _ _ e in let g : 127 < x = omega arith in ap (λ (b : Bool). if b then 65535 else 0) (below_is 127 x g)
word_extended x false e = let h : x + 1 ≤ 128 = lt_false _ _ e in let g : x ≤ 127 = omega arith in ap (λ (b : Bool). if b then 65535 else 0) (not_below 127 x g)

sign_word_at : (place : Placement) (bounds : Bounds) (P : State → Type 0) (u : State)
    → ((y k : ℕ) (n v z c : Bool) → k + 256 * k ≡ word_extension u.regs.x → P (left u u.regs.a u.regs.x y n v z c (write (write u.zp 2 k) 3 k) u.mem)) → leads place bounds P sign_word None (record u { pushed = [] })
unfolding leads
sign_word_at place bounds P u follows = elim [
  | true ↦ λ e. follows _ 0 _ _ _ _ (sym (word_extended u.regs.x false (not_true _ e)))
  | false ↦ λ e. follows _ 255 _ _ _ _ (sym (word_extended u.regs.x true (not_false _ e)))
]

abbrev longax_row : State → Row
longax_row t = costing 256 (record (row_by routines.LongAx t) { a = Some t.regs.a; x = Some t.regs.x; sreg = Some (word_extension t.regs.x) })

widens_signed : (s : RawSetting) → s.lines (s.routine routines.LongAx) ≡ sign_word → (back : Place) (t : State) → MayRun s (longax_row t) t → Runs s routines.LongAx (longax_row t) back t
widens_signed s has back t may =
    runs s routines.LongAx (longax_row t) back t sign_word has (record { onward = refl; weight = refl; depth = refl }) refl may
    (sign_word_at s.place (reach_of t) (Ends (longax_row t) t) (called back t)
    (λ y k n v z c is_k. ends_plain (longax_row t) back t t.regs.a t.regs.x y n v z c (write (write t.zp 2 k) 3 k) t.mem ((2, k) ∷ (3, k) ∷ []) refl may.running (refl, refl, refl, refl) (λ i two. refl)
    refl (refl, refl, is_k) (λ b h. refl)))

-- ulongax
zero_word_at : (place : Placement) (bounds : Bounds) (P : State → Type 0) (u : State)
    → ((n z : Bool) → P (left u u.regs.a u.regs.x 0 n u.regs.v z u.regs.c (write (write u.zp 2 0) 3 0) u.mem)) → leads place bounds P zero_word None (record u { pushed = [] })
unfolding leads
zero_word_at place bounds P u follows = follows _ _

abbrev ulongax_row : State → Row
ulongax_row t = costing 256 (record (row_by routines.ULongAx t) { a = Some t.regs.a; x = Some t.regs.x; sreg = Some 0 })

widens_unsigned : (s : RawSetting) → s.lines (s.routine routines.ULongAx) ≡ zero_word → (back : Place) (t : State) → MayRun s (ulongax_row t) t → Runs s routines.ULongAx (ulongax_row t) back t
widens_unsigned s has back t may =
    runs s routines.ULongAx (ulongax_row t) back t zero_word has (record { onward = refl; weight = refl; depth = refl }) refl may
    (zero_word_at s.place (reach_of t) (Ends (ulongax_row t) t) (called back t)
    (λ n z. ends_plain (ulongax_row t) back t t.regs.a t.regs.x 0 n t.regs.v z t.regs.c (write (write t.zp 2 0) 3 0) t.mem ((2, 0) ∷ (3, 0) ∷ []) refl may.running (refl, refl, refl, refl) (λ i two. refl)
    refl (refl, refl, refl) (λ b h. refl)))

pub signa : (s : RawSetting) → s.lines (s.routine routines.SignA) ≡ lines_of routines.SignA → MeetsRow s routines.SignA
signa s has = meets_by s routines.SignA signa_row (λ t. refl) (signs_a s has)

pub longax : (s : RawSetting) → s.lines (s.routine routines.LongAx) ≡ lines_of routines.LongAx → MeetsRow s routines.LongAx
longax s has = meets_by s routines.LongAx longax_row (λ t. refl) (widens_signed s has)

pub ulongax : (s : RawSetting) → s.lines (s.routine routines.ULongAx) ≡ lines_of routines.ULongAx → MeetsRow s routines.ULongAx
ulongax s has = meets_by s routines.ULongAx ulongax_row (λ t. refl) (widens_unsigned s has)
