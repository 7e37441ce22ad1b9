-- The primary register is shifted by whole bytes, and A by bits.
use Rattle.std.proofs.Common.{◌≡◌, ℕ, zero, suc, ◌+◌, ◌*◌, ◌/◌, ◌%◌, ◌^◌, ◌<◌, List, [], ◌∷◌, refl, sym, ap, ◌∙◌, arith}
use Rattle.std.specs.Prelude.{replicate}
use Rattle.c65_mach.specs.declared.rows.Op.TheVariants.{Asl, Lda, Ldx, Lsr, Sta, Stx, Tax, Txa}
use Rattle.c65_code.specs.declared.line.Line.{Line}
use Rattle.c65_code.specs.declared.routine.TosOp.TheVariants as tos
use Rattle.c65_code.specs.declared.routine.Width.TheVariants.{Ax, Eax}
use Rattle.c65_code.specs.LineState.{Bytes, State, ax_of, eax_of, IsBytes}
use Rattle.c65_genwide.specs.Lines.{value}
use Rattle.c65_genload.specs.Words.{sreg, shift_a, implied, zero_page}
use Rattle.c65_genshift.specs.Shifts.{left_byte_code, right_byte_code, left_one_code, left_two_code, left_three_code, right_one_code, right_two_code, right_three_code}
use Rattle.c65_agree_state.specs.World.{World}
use Rattle.c65_agree_frame.proofs.Leads.{after_lines}
use Rattle.c65_agree_quick.proofs.Powers.{moved, left_more, right_more, power_more, right_again}
use Rattle.c65_agree_quick.proofs.Scratch.{AreScratch, scratch_append, after_append}

-- ---- A alone

-- A has this number, and X and the zero page stay
record IsShifted (n : ℕ) (t u : State) : Type 0 where
  a : u.regs.a ≡ n
  x : u.regs.x ≡ t.regs.x
  zp : u.zp ≡ t.zp

up : (g : World) (n : ℕ) (t : State) → t.regs.a < 256 → IsShifted ((t.regs.a * 2 ^ n) % 256) t (after_lines g (replicate n (shift_a Asl)) t)
up g zero t h = record { a = omega (arith, h); x = refl; zp = refl }
up g (suc n) t h =
    let rest = up g n (after_lines g (shift_a Asl ∷ []) t) (omega arith) in
    record { a = rest.a ∙ left_more 256 t.regs.a n; x = rest.x; zp = rest.zp }

down : (g : World) (n : ℕ) (t : State) → IsShifted (t.regs.a / 2 ^ n) t (after_lines g (replicate n (shift_a Lsr)) t)
down g zero t = record { a = omega arith; x = refl; zp = refl }
down g (suc n) t =
    let rest = down g n (after_lines g (shift_a Lsr ∷ []) t) in
    record { a = rest.a ∙ right_more t.regs.a n; x = rest.x; zp = rest.zp }

up_scratch : (n : ℕ) → AreScratch (replicate n (shift_a Asl))
up_scratch zero = tt
up_scratch (suc n) = (tt, up_scratch n)

down_scratch : (n : ℕ) → AreScratch (replicate n (shift_a Lsr))
down_scratch zero = tt
down_scratch (suc n) = (tt, down_scratch n)

-- ---- AX

pub left_byte_scratch : (n : ℕ) → AreScratch (left_byte_code n)
left_byte_scratch n = scratch_append (replicate n (shift_a Asl)) (implied Tax ∷ value Lda 0 ∷ []) (up_scratch n) (tt, (omega arith, tt))

left_by_byte : (a x n : ℕ) → a < 256 → 0 + 256 * ((a * 2 ^ n) % 256) ≡ ((a + 256 * x) * 2 ^ (8 + n)) % 65536
left_by_byte a x n h = multiple a x (2 ^ n) ∙ ap (λ p. ((a + 256 * x) * p) % 65536) (sym (power_more 8 n))
  where
    multiple : (a x p : ℕ) → 0 + 256 * ((a * p) % 256) ≡ ((a + 256 * x) * (256 * p)) % 65536
    multiple a x p = omega arith

pub left_byte_word : (g : World) (n : ℕ) (t : State) → IsBytes t → ax_of (after_lines g (left_byte_code n) t) ≡ moved tos.Shl Ax (ax_of t) (8 + n)
left_byte_word g n t b =
    let high = (up g n t b.a).a in
    ap ax_of (after_append g (replicate n (shift_a Asl)) (implied Tax ∷ value Lda 0 ∷ []) t) ∙ ap (λ v. 0 + 256 * v) high ∙ left_by_byte t.regs.a t.regs.x n b.a

pub right_byte_scratch : (n : ℕ) → AreScratch (right_byte_code n)
right_byte_scratch n = (tt, scratch_append (replicate n (shift_a Lsr)) (value Ldx 0 ∷ []) (down_scratch n) (omega arith, tt))

pub right_byte_word : (g : World) (n : ℕ) (t : State) → IsBytes t → ax_of (after_lines g (right_byte_code n) t) ≡ moved tos.Shr Ax (ax_of t) (8 + n)
right_byte_word g n t b =
    let v : State = after_lines g (implied Txa ∷ []) t in
    let high : (t.regs.a + 256 * t.regs.x) / 2 ^ 8 ≡ t.regs.x = omega (arith, b.a) in
    ap ax_of (after_append g (replicate n (shift_a Lsr)) (value Ldx 0 ∷ []) v) ∙ ap (λ m. m + 256 * 0) (down g n v).a ∙ none (t.regs.x / 2 ^ n)
    ∙ ap (λ m. m / 2 ^ n) (sym high) ∙ right_again (ax_of t) 8 n
  where
    none : (m : ℕ) → m + 256 * 0 ≡ m
    none m = omega arith

-- ---- EAX, to the left

pub left_one_scratch : AreScratch left_one_code
left_one_scratch = (omega arith, ((omega arith, omega arith), ((omega arith, omega arith), (tt, (omega arith, tt)))))

one_up : (a x l h : ℕ) → a < 256 → x < 256 → l < 256 → 0 + 256 * a + 65536 * (x + 256 * l) ≡ ((a + 256 * x + 65536 * (l + 256 * h)) * 2 ^ 8) % 4294967296
one_up a x l h p q r = omega (arith, p, q, r)

pub left_one_word : (g : World) (t : State) → IsBytes t → eax_of (after_lines g left_one_code t) ≡ moved tos.Shl Eax (eax_of t) 8
left_one_word g t b = one_up t.regs.a t.regs.x (t.zp 2) (t.zp 3) b.a b.x (b.zp 2)

pub left_two_scratch : AreScratch left_two_code
left_two_scratch = ((omega arith, omega arith), ((omega arith, omega arith), (omega arith, (tt, tt))))

two_up : (a x l h : ℕ) → a < 256 → x < 256 → 0 + 256 * 0 + 65536 * (a + 256 * x) ≡ ((a + 256 * x + 65536 * (l + 256 * h)) * 2 ^ 16) % 4294967296
two_up a x l h p q = omega (arith, p, q)

pub left_two_word : (g : World) (t : State) → IsBytes t → eax_of (after_lines g left_two_code t) ≡ moved tos.Shl Eax (eax_of t) 16
left_two_word g t b = two_up t.regs.a t.regs.x (t.zp 2) (t.zp 3) b.a b.x

abbrev pub three_up : List Line
three_up = zero_page Sta (sreg + 1) ∷ value Lda 0 ∷ zero_page Sta sreg ∷ implied Tax ∷ []

pub left_three_scratch : (n : ℕ) → AreScratch (left_three_code n)
left_three_scratch n = scratch_append (replicate n (shift_a Asl)) three_up (up_scratch n) ((omega arith, omega arith), (omega arith, ((omega arith, omega arith), (tt, tt))))

left_by_three : (m r n : ℕ) → m < 256 → 0 + 256 * 0 + 65536 * (0 + 256 * ((m * 2 ^ n) % 256)) ≡ ((m + 256 * r) * 2 ^ (24 + n)) % 4294967296
left_by_three m r n h = multiple m r (2 ^ n) ∙ ap (λ p. ((m + 256 * r) * p) % 4294967296) (sym (power_more 24 n))
  where
    multiple : (m r p : ℕ) → 0 + 256 * 0 + 65536 * (0 + 256 * ((m * p) % 256)) ≡ ((m + 256 * r) * (16777216 * p)) % 4294967296
    multiple m r p = omega arith

pub left_three_word : (g : World) (n : ℕ) (t : State) → IsBytes t → eax_of (after_lines g (left_three_code n) t) ≡ moved tos.Shl Eax (eax_of t) (24 + n)
left_three_word g n t b =
    let rest : ℕ = t.regs.x + 256 * t.zp 2 + 65536 * t.zp 3 in
    let all : t.regs.a + 256 * rest ≡ eax_of t = omega arith in
    ap eax_of (after_append g (replicate n (shift_a Asl)) three_up t) ∙ ap (λ v. 0 + 256 * 0 + 65536 * (0 + 256 * v)) (up g n t b.a).a ∙ left_by_three t.regs.a rest n b.a
    ∙ ap (λ m. (m * 2 ^ (24 + n)) % 4294967296) all

-- ---- EAX, to the right

pub right_one_scratch : AreScratch right_one_code
right_one_scratch = (tt, (omega arith, (omega arith, ((omega arith, omega arith), (omega arith, ((omega arith, omega arith), tt))))))

one_down : (a x l h : ℕ) → a < 256 → x + 256 * l + 65536 * (h + 256 * 0) ≡ (a + 256 * x + 65536 * (l + 256 * h)) / 2 ^ 8
one_down a x l h p = omega (arith, p)

pub right_one_word : (g : World) (t : State) → IsBytes t → eax_of (after_lines g right_one_code t) ≡ moved tos.Shr Eax (eax_of t) 8
right_one_word g t b = one_down t.regs.a t.regs.x (t.zp 2) (t.zp 3) b.a

pub right_two_scratch : AreScratch right_two_code
right_two_scratch = (omega arith, (omega arith, (omega arith, ((omega arith, omega arith), ((omega arith, omega arith), tt)))))

two_down : (a x l h : ℕ) → a < 256 → x < 256 → l + 256 * h + 65536 * (0 + 256 * 0) ≡ (a + 256 * x + 65536 * (l + 256 * h)) / 2 ^ 16
two_down a x l h p q = omega (arith, p, q)

pub right_two_word : (g : World) (t : State) → IsBytes t → eax_of (after_lines g right_two_code t) ≡ moved tos.Shr Eax (eax_of t) 16
right_two_word g t b = two_down t.regs.a t.regs.x (t.zp 2) (t.zp 3) b.a b.x

abbrev three_down : List Line
three_down = zero_page Lda (sreg + 1) ∷ value Ldx 0 ∷ zero_page Stx sreg ∷ zero_page Stx (sreg + 1) ∷ []

pub right_three_scratch : (n : ℕ) → AreScratch (right_three_code n)
right_three_scratch n = (omega arith, (omega arith, ((omega arith, omega arith), ((omega arith, omega arith), down_scratch n))))

pub right_three_word : (g : World) (n : ℕ) (t : State) → IsBytes t → eax_of (after_lines g (right_three_code n) t) ≡ moved tos.Shr Eax (eax_of t) (24 + n)
right_three_word g n t b =
    let v : State = after_lines g three_down t in
    let u : State = after_lines g (replicate n (shift_a Lsr)) v in
    let rest = down g n v in
    let top : eax_of t / 2 ^ 24 ≡ t.zp 3 = omega (arith, b.a, b.x, b.zp 2) in
    let low : u.zp 2 ≡ 0 = ap (λ (z : Bytes). z 2) rest.zp in
    let high : u.zp 3 ≡ 0 = ap (λ (z : Bytes). z 3) rest.zp in
    let own : u.regs.a ≡ t.zp 3 / 2 ^ n = rest.a in
    let x : u.regs.x ≡ 0 = rest.x in
    sum u.regs.a u.regs.x (u.zp 2) (u.zp 3) x low high ∙ own ∙ ap (λ m. m / 2 ^ n) (sym top) ∙ right_again (eax_of t) 24 n
  where
    sum : (a x l h : ℕ) → x ≡ 0 → l ≡ 0 → h ≡ 0 → a + 256 * x + 65536 * (l + 256 * h) ≡ a
    sum a x l h p q r = omega (arith, p, q, r)
