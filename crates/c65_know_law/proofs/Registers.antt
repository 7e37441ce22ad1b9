-- What an operation makes of the registers and flags: it changes those that it sets alone, and gives each by what it reads for it.
use Rattle.std.proofs.Common.{◌≡◌, ℕ, ◌+◌, ◌-◌, ◌%◌, ◌/◌, ◌*◌, ◌==◌, ◌<◌, Bool, true, false, if◌then◌else◌, List, [], ◌∷◌, refl, sym, ap, ◌∙◌, arith}
use Rattle.std.specs.Prelude.{nat_lt, bit_and, bit_or, bit_xor}
use Rattle.std.specs.Int.Bits.{or_add_and, and_zero_r}
use Rattle.std.proofs.lemmas.Nat.{and_mask}
use Rattle.c65_mach.specs.declared.rows.Op.{Op}
use Rattle.c65_mach.specs.declared.rows.Op.TheVariants as ops
use Rattle.c65_mach.specs.declared.rows.Mode.{Mode}
use Rattle.c65_mach.specs.declared.rows.Mode.TheVariants.{Accumulator}
use Rattle.c65_mach.specs.State.{Regs}
use Rattle.c65_mach.specs.Step.{negative, bit, signed, with_a, with_x, with_y, compared, summed, bits_tested, changed, Kind, Branches, Moves, kind_of}
use Rattle.c65_code.specs.declared.parts.Part.{Part}
use Rattle.c65_code.specs.declared.parts.Part.TheVariants.{A, X, Y, Zp, N, V, Z, C}
use Rattle.c65_code.specs.Access.{register_reads, register_sets}
use Rattle.c65_know.specs.Rows.{worked, part_reads}

-- a register or flag has one value in both
abbrev pub SameIn : Part → Regs → Regs → Type 0
SameIn A r q = r.a ≡ q.a
SameIn X r q = r.x ≡ q.x
SameIn Y r q = r.y ≡ q.y
SameIn (Zp i) r q = Unit {0}
SameIn N r q = r.n ≡ q.n
SameIn V r q = r.v ≡ q.v
SameIn Z r q = r.z ≡ q.z
SameIn C r q = r.c ≡ q.c

abbrev pub AgreeOn : List Part → Regs → Regs → Type 0
AgreeOn [] r q = Unit {0}
AgreeOn (p ∷ ps) r q = SameIn p r q × AgreeOn ps r q

abbrev pub is_same_part : Part → Part → Bool
is_same_part A A = true
is_same_part X X = true
is_same_part Y Y = true
is_same_part (Zp i) (Zp j) = i == j
is_same_part N N = true
is_same_part V V = true
is_same_part Z Z = true
is_same_part C C = true
is_same_part _ _ = false

abbrev pub is_in : Part → List Part → Bool
is_in p [] = false
is_in p (q ∷ qs) = if is_same_part p q then true else is_in p qs

-- an operation on registers, the zero page and memory
abbrev pub IsPlain : Kind → Type 0
IsPlain Branches = ⊥
IsPlain Moves = ⊥
IsPlain _ = Unit {0}

-- ---- what stays

kept_a : (v : ℕ) (r : Regs) (p : Part) → is_in p (A ∷ N ∷ Z ∷ []) ≡ false → SameIn p (with_a v r) r
kept_a v r A h = absurd (cc)
kept_a v r N h = absurd (cc)
kept_a v r Z h = absurd (cc)
kept_a v r (Zp i) h = tt
kept_a v r _ h = refl

kept_x : (v : ℕ) (r : Regs) (p : Part) → is_in p (X ∷ N ∷ Z ∷ []) ≡ false → SameIn p (with_x v r) r
kept_x v r X h = absurd (cc)
kept_x v r N h = absurd (cc)
kept_x v r Z h = absurd (cc)
kept_x v r (Zp i) h = tt
kept_x v r _ h = refl

kept_y : (v : ℕ) (r : Regs) (p : Part) → is_in p (Y ∷ N ∷ Z ∷ []) ≡ false → SameIn p (with_y v r) r
kept_y v r Y h = absurd (cc)
kept_y v r N h = absurd (cc)
kept_y v r Z h = absurd (cc)
kept_y v r (Zp i) h = tt
kept_y v r _ h = refl

kept_sum : (v : ℕ) (r : Regs) (p : Part) → is_in p (A ∷ N ∷ V ∷ Z ∷ C ∷ []) ≡ false → SameIn p (summed v r) r
kept_sum v r X h = refl
kept_sum v r Y h = refl
kept_sum v r (Zp i) h = tt
kept_sum v r _ h = absurd (cc)

kept_compare : (reg v : ℕ) (r : Regs) (p : Part) → is_in p (N ∷ Z ∷ C ∷ []) ≡ false → SameIn p (compared reg v r) r
kept_compare reg v r N h = absurd (cc)
kept_compare reg v r Z h = absurd (cc)
kept_compare reg v r C h = absurd (cc)
kept_compare reg v r (Zp i) h = tt
kept_compare reg v r _ h = refl

kept_test : (v : ℕ) (r : Regs) (p : Part) → is_in p (N ∷ V ∷ Z ∷ []) ≡ false → SameIn p (bits_tested v r) r
kept_test v r N h = absurd (cc)
kept_test v r V h = absurd (cc)
kept_test v r Z h = absurd (cc)
kept_test v r (Zp i) h = tt
kept_test v r _ h = refl

kept_shift_a : (v : ℕ) (c : Bool) (r : Regs) (p : Part) → is_in p (A ∷ N ∷ Z ∷ C ∷ []) ≡ false → SameIn p (record (with_a v r) { c = c }) r
kept_shift_a v c r X h = refl
kept_shift_a v c r Y h = refl
kept_shift_a v c r V h = refl
kept_shift_a v c r (Zp i) h = tt
kept_shift_a v c r _ h = absurd (cc)

kept_shift : (v : ℕ) (c : Bool) (r : Regs) (p : Part) → is_in p (N ∷ Z ∷ C ∷ []) ≡ false → SameIn p (record (signed v r) { c = c }) r
kept_shift v c r N h = absurd (cc)
kept_shift v c r Z h = absurd (cc)
kept_shift v c r C h = absurd (cc)
kept_shift v c r (Zp i) h = tt
kept_shift v c r _ h = refl

-- a count keeps the carry
kept_count_a : (v : ℕ) (r : Regs) (p : Part) → is_in p (A ∷ N ∷ Z ∷ []) ≡ false → SameIn p (record (with_a v r) { c = r.c }) r
kept_count_a v r A h = absurd (cc)
kept_count_a v r N h = absurd (cc)
kept_count_a v r Z h = absurd (cc)
kept_count_a v r (Zp i) h = tt
kept_count_a v r _ h = refl

kept_count : (v : ℕ) (r : Regs) (p : Part) → is_in p (N ∷ Z ∷ []) ≡ false → SameIn p (record (signed v r) { c = r.c }) r
kept_count v r N h = absurd (cc)
kept_count v r Z h = absurd (cc)
kept_count v r (Zp i) h = tt
kept_count v r _ h = refl

kept_carry : (c : Bool) (r : Regs) (p : Part) → is_in p (C ∷ []) ≡ false → SameIn p (record r { c = c }) r
kept_carry c r C h = absurd (cc)
kept_carry c r (Zp i) h = tt
kept_carry c r _ h = refl

kept_overflow : (v : Bool) (r : Regs) (p : Part) → is_in p (V ∷ []) ≡ false → SameIn p (record r { v = v }) r
kept_overflow v r V h = absurd (cc)
kept_overflow v r (Zp i) h = tt
kept_overflow v r _ h = refl

pub same_self : (r : Regs) (p : Part) → SameIn p r r
same_self r (Zp i) = tt
same_self r _ = refl

pub stays : (op : Op) (mode : Mode) (v : ℕ) (r : Regs) (p : Part) → IsPlain (kind_of op) → is_in p (register_sets op mode) ≡ false → SameIn p (worked (kind_of op) op mode v r).0 r
stays ops.Adc mode v r p i h = kept_sum v r p h
stays ops.And mode v r p i h = kept_a (bit_and r.a v) r p h
stays ops.Bit mode v r p i h = kept_test v r p h
stays ops.Cmp mode v r p i h = kept_compare r.a v r p h
stays ops.Cpx mode v r p i h = kept_compare r.x v r p h
stays ops.Cpy mode v r p i h = kept_compare r.y v r p h
stays ops.Eor mode v r p i h = kept_a (bit_xor r.a v) r p h
stays ops.Lda mode v r p i h = kept_a v r p h
stays ops.Ldx mode v r p i h = kept_x v r p h
stays ops.Ldy mode v r p i h = kept_y v r p h
stays ops.Ora mode v r p i h = kept_a (bit_or r.a v) r p h
stays ops.Sbc mode v r p i h = kept_sum (255 - v) r p h
stays ops.Sta mode v r p i h = same_self r p
stays ops.Stx mode v r p i h = same_self r p
stays ops.Sty mode v r p i h = same_self r p
stays ops.Stz mode v r p i h = same_self r p
stays ops.Asl Accumulator v r p i h = kept_shift_a _ _ r p h
stays ops.Asl _ v r p i h = kept_shift _ _ r p h
stays ops.Lsr Accumulator v r p i h = kept_shift_a _ _ r p h
stays ops.Lsr _ v r p i h = kept_shift _ _ r p h
stays ops.Rol Accumulator v r p i h = kept_shift_a _ _ r p h
stays ops.Rol _ v r p i h = kept_shift _ _ r p h
stays ops.Ror Accumulator v r p i h = kept_shift_a _ _ r p h
stays ops.Ror _ v r p i h = kept_shift _ _ r p h
stays ops.Dec Accumulator v r p i h = kept_count_a _ r p h
stays ops.Dec _ v r p i h = kept_count _ r p h
stays ops.Inc Accumulator v r p i h = kept_count_a _ r p h
stays ops.Inc _ v r p i h = kept_count _ r p h
stays ops.Clc mode v r p i h = kept_carry false r p h
stays ops.Clv mode v r p i h = kept_overflow false r p h
stays ops.Dex mode v r p i h = kept_x _ r p h
stays ops.Dey mode v r p i h = kept_y _ r p h
stays ops.Inx mode v r p i h = kept_x _ r p h
stays ops.Iny mode v r p i h = kept_y _ r p h
stays ops.Nop mode v r p i h = same_self r p
stays ops.Sec mode v r p i h = kept_carry true r p h
stays ops.Tax mode v r p i h = kept_x r.a r p h
stays ops.Tay mode v r p i h = kept_y r.a r p h
stays ops.Txa mode v r p i h = kept_a r.x r p h
stays ops.Tya mode v r p i h = kept_a r.y r p h
stays _ mode v r p i h = absurd i

-- ---- what is given

given_a : (v w : ℕ) (r q : Regs) (p : Part) → is_in p (A ∷ N ∷ Z ∷ []) ≡ true → v ≡ w → SameIn p (with_a v r) (with_a w q)
given_a v w r q A h e = e
given_a v w r q N h e = ap negative e
given_a v w r q Z h e = ap (λ (x : ℕ). x == 0) e
given_a v w r q _ h e = absurd (cc)

given_x : (v w : ℕ) (r q : Regs) (p : Part) → is_in p (X ∷ N ∷ Z ∷ []) ≡ true → v ≡ w → SameIn p (with_x v r) (with_x w q)
given_x v w r q X h e = e
given_x v w r q N h e = ap negative e
given_x v w r q Z h e = ap (λ (x : ℕ). x == 0) e
given_x v w r q _ h e = absurd (cc)

given_y : (v w : ℕ) (r q : Regs) (p : Part) → is_in p (Y ∷ N ∷ Z ∷ []) ≡ true → v ≡ w → SameIn p (with_y v r) (with_y w q)
given_y v w r q Y h e = e
given_y v w r q N h e = ap negative e
given_y v w r q Z h e = ap (λ (x : ℕ). x == 0) e
given_y v w r q _ h e = absurd (cc)

given_sum : (v : ℕ) (r q : Regs) (p : Part) → is_in p (A ∷ N ∷ V ∷ Z ∷ C ∷ []) ≡ true → r.a ≡ q.a → r.c ≡ q.c → SameIn p (summed v r) (summed v q)
given_sum v r q p h e f = by p h (ap (λ (a : ℕ). a + v + bit r.c) e ∙ ap (λ (c : Bool). q.a + v + bit c) f)
  where
    by : (p : Part) → is_in p (A ∷ N ∷ V ∷ Z ∷ C ∷ []) ≡ true → r.a + v + bit r.c ≡ q.a + v + bit q.c → SameIn p (summed v r) (summed v q)
    by A h s = ap (λ (x : ℕ). x % 256) s
    by N h s = ap (λ (x : ℕ). negative (x % 256)) s
    by V h s = ap (λ (a : ℕ). negative (bit_and (bit_xor a ((r.a + v + bit r.c) % 256)) (bit_xor v ((r.a + v + bit r.c) % 256)))) e ∙ ap (λ (x : ℕ). negative (bit_and (bit_xor q.a (x % 256)) (bit_xor v (x % 256)))) s
    by Z h s = ap (λ (x : ℕ). (x % 256) == 0) s
    by C h s = ap (λ (x : ℕ). nat_lt 255 x) s
    by _ h s = absurd (cc)

given_compare : (a b v : ℕ) (r q : Regs) (p : Part) → is_in p (N ∷ Z ∷ C ∷ []) ≡ true → a ≡ b → SameIn p (compared a v r) (compared b v q)
given_compare a b v r q N h e = ap (λ (x : ℕ). negative ((x + 256 - v) % 256)) e
given_compare a b v r q Z h e = ap (λ (x : ℕ). ((x + 256 - v) % 256) == 0) e
given_compare a b v r q C h e = ap (λ (x : ℕ). nat_lt v (x + 1)) e
given_compare a b v r q _ h e = absurd (cc)

given_shift_a : (v w : ℕ) (c d : Bool) (r q : Regs) (p : Part) → is_in p (A ∷ N ∷ Z ∷ C ∷ []) ≡ true → v ≡ w → c ≡ d → SameIn p (record (with_a v r) { c = c }) (record (with_a w q) { c = d })
given_shift_a v w c d r q A h e f = e
given_shift_a v w c d r q N h e f = ap negative e
given_shift_a v w c d r q Z h e f = ap (λ (x : ℕ). x == 0) e
given_shift_a v w c d r q C h e f = f
given_shift_a v w c d r q _ h e f = absurd (cc)

given_shift : (v w : ℕ) (c d : Bool) (r q : Regs) (p : Part) → is_in p (N ∷ Z ∷ C ∷ []) ≡ true → v ≡ w → c ≡ d → SameIn p (record (signed v r) { c = c }) (record (signed w q) { c = d })
given_shift v w c d r q N h e f = ap negative e
given_shift v w c d r q Z h e f = ap (λ (x : ℕ). x == 0) e
given_shift v w c d r q C h e f = f
given_shift v w c d r q _ h e f = absurd (cc)

given_count_a : (v w : ℕ) (r q : Regs) (p : Part) → is_in p (A ∷ N ∷ Z ∷ []) ≡ true → v ≡ w → SameIn p (record (with_a v r) { c = r.c }) (record (with_a w q) { c = q.c })
given_count_a v w r q A h e = e
given_count_a v w r q N h e = ap negative e
given_count_a v w r q Z h e = ap (λ (x : ℕ). x == 0) e
given_count_a v w r q _ h e = absurd (cc)

given_count : (v w : ℕ) (r q : Regs) (p : Part) → is_in p (N ∷ Z ∷ []) ≡ true → v ≡ w → SameIn p (record (signed v r) { c = r.c }) (record (signed w q) { c = q.c })
given_count v w r q N h e = ap negative e
given_count v w r q Z h e = ap (λ (x : ℕ). x == 0) e
given_count v w r q _ h e = absurd (cc)

given_carry : (c : Bool) (r q : Regs) (p : Part) → is_in p (C ∷ []) ≡ true → SameIn p (record r { c = c }) (record q { c = c })
given_carry c r q C h = refl
given_carry c r q _ h = absurd (cc)

given_overflow : (v : Bool) (r q : Regs) (p : Part) → is_in p (V ∷ []) ≡ true → SameIn p (record r { v = v }) (record q { v = v })
given_overflow v r q V h = refl
given_overflow v r q _ h = absurd (cc)

none_given : (p : Part) (S : Type 0) → is_in p [] ≡ true → S
none_given p S h = absurd (cc)

-- a rotation reads the carry for its result, and only the bit that goes out for the carry
given_rotate_a : (op : Op) (v : ℕ) (r q : Regs) (p : Part) → is_in p (A ∷ N ∷ Z ∷ C ∷ []) ≡ true → (changed op v r).1 ≡ (changed op v q).1
    → (is_same_part p C ≡ false → (changed op v r).0 ≡ (changed op v q).0)
    → SameIn p (record (with_a (changed op v r).0 r) { c = (changed op v r).1 }) (record (with_a (changed op v q).0 q) { c = (changed op v q).1 })
given_rotate_a op v r q A h f e = e refl
given_rotate_a op v r q N h f e = ap negative (e refl)
given_rotate_a op v r q Z h f e = ap (λ (x : ℕ). x == 0) (e refl)
given_rotate_a op v r q C h f e = f
given_rotate_a op v r q _ h f e = absurd (cc)

given_rotate : (op : Op) (v : ℕ) (r q : Regs) (p : Part) → is_in p (N ∷ Z ∷ C ∷ []) ≡ true → (changed op v r).1 ≡ (changed op v q).1
    → (is_same_part p C ≡ false → (changed op v r).0 ≡ (changed op v q).0)
    → SameIn p (record (signed (changed op v r).0 r) { c = (changed op v r).1 }) (record (signed (changed op v q).0 q) { c = (changed op v q).1 })
given_rotate op v r q N h f e = ap negative (e refl)
given_rotate op v r q Z h f e = ap (λ (x : ℕ). x == 0) (e refl)
given_rotate op v r q C h f e = f
given_rotate op v r q _ h f e = absurd (cc)

left_by : (v : ℕ) (r q : Regs) → r.c ≡ q.c → (2 * v) % 256 + bit r.c ≡ (2 * v) % 256 + bit q.c
left_by v r q e = ap (λ (c : Bool). (2 * v) % 256 + bit c) e

right_by : (v : ℕ) (r q : Regs) → r.c ≡ q.c → v / 2 + 128 * bit r.c ≡ v / 2 + 128 * bit q.c
right_by v r q e = ap (λ (c : Bool). v / 2 + 128 * bit c) e

-- beside the carry a rotation reads it
rol_reads : (mode : Mode) (r q : Regs) (p : Part) → AgreeOn (part_reads ops.Rol mode p) r q → is_same_part p C ≡ false → r.c ≡ q.c
rol_reads mode r q C k ne = absurd (cc)
rol_reads Accumulator r q _ k ne = k.1.0
rol_reads mode r q _ k ne = k.0

ror_reads : (mode : Mode) (r q : Regs) (p : Part) → AgreeOn (part_reads ops.Ror mode p) r q → is_same_part p C ≡ false → r.c ≡ q.c
ror_reads mode r q C k ne = absurd (cc)
ror_reads Accumulator r q _ k ne = k.1.0
ror_reads mode r q _ k ne = k.0

given_test : (mode : Mode) (v : ℕ) (r q : Regs) (p : Part) → is_in p (N ∷ V ∷ Z ∷ []) ≡ true → AgreeOn (part_reads ops.Bit mode p) r q → SameIn p (bits_tested v r) (bits_tested v q)
given_test mode v r q N h k = refl
given_test mode v r q V h k = refl
given_test mode v r q Z h k = ap (λ (a : ℕ). bit_and a v == 0) k.0
given_test mode v r q _ h k = absurd (cc)

pub gives : (op : Op) (mode : Mode) (v : ℕ) (r q : Regs) (p : Part) → IsPlain (kind_of op) → is_in p (register_sets op mode) ≡ true → AgreeOn (part_reads op mode p) r q
    → SameIn p (worked (kind_of op) op mode v r).0 (worked (kind_of op) op mode v q).0
gives ops.Adc mode v r q p i h k = given_sum v r q p h k.0 k.1.0
gives ops.And mode v r q p i h k = given_a _ _ r q p h (ap (λ (a : ℕ). bit_and a v) k.0)
gives ops.Bit mode v r q p i h k = given_test mode v r q p h k
gives ops.Cmp mode v r q p i h k = given_compare r.a q.a v r q p h k.0
gives ops.Cpx mode v r q p i h k = given_compare r.x q.x v r q p h k.0
gives ops.Cpy mode v r q p i h k = given_compare r.y q.y v r q p h k.0
gives ops.Eor mode v r q p i h k = given_a _ _ r q p h (ap (λ (a : ℕ). bit_xor a v) k.0)
gives ops.Lda mode v r q p i h k = given_a v v r q p h refl
gives ops.Ldx mode v r q p i h k = given_x v v r q p h refl
gives ops.Ldy mode v r q p i h k = given_y v v r q p h refl
gives ops.Ora mode v r q p i h k = given_a _ _ r q p h (ap (λ (a : ℕ). bit_or a v) k.0)
gives ops.Sbc mode v r q p i h k = given_sum (255 - v) r q p h k.0 k.1.0
gives ops.Sta mode v r q p i h k = none_given p (SameIn p r q) h
gives ops.Stx mode v r q p i h k = none_given p (SameIn p r q) h
gives ops.Sty mode v r q p i h k = none_given p (SameIn p r q) h
gives ops.Stz mode v r q p i h k = none_given p (SameIn p r q) h
gives ops.Asl Accumulator v r q p i h k = given_shift_a _ _ _ _ r q p h refl refl
gives ops.Asl mode v r q p i h k = given_shift _ _ _ _ r q p h refl refl
gives ops.Lsr Accumulator v r q p i h k = given_shift_a _ _ _ _ r q p h refl refl
gives ops.Lsr mode v r q p i h k = given_shift _ _ _ _ r q p h refl refl
gives ops.Rol Accumulator v r q p i h k = given_rotate_a ops.Rol v r q p h refl (λ ne. left_by v r q (rol_reads Accumulator r q p k ne))
gives ops.Rol mode v r q p i h k = given_rotate ops.Rol v r q p h refl (λ ne. left_by v r q (rol_reads mode r q p k ne))
gives ops.Ror Accumulator v r q p i h k = given_rotate_a ops.Ror v r q p h refl (λ ne. right_by v r q (ror_reads Accumulator r q p k ne))
gives ops.Ror mode v r q p i h k = given_rotate ops.Ror v r q p h refl (λ ne. right_by v r q (ror_reads mode r q p k ne))
gives ops.Dec Accumulator v r q p i h k = given_count_a _ _ r q p h refl
gives ops.Dec mode v r q p i h k = given_count _ _ r q p h refl
gives ops.Inc Accumulator v r q p i h k = given_count_a _ _ r q p h refl
gives ops.Inc mode v r q p i h k = given_count _ _ r q p h refl
gives ops.Clc mode v r q p i h k = given_carry false r q p h
gives ops.Clv mode v r q p i h k = given_overflow false r q p h
gives ops.Dex mode v r q p i h k = given_x _ _ r q p h (ap (λ (x : ℕ). (x + 255) % 256) k.0)
gives ops.Dey mode v r q p i h k = given_y _ _ r q p h (ap (λ (x : ℕ). (x + 255) % 256) k.0)
gives ops.Inx mode v r q p i h k = given_x _ _ r q p h (ap (λ (x : ℕ). (x + 1) % 256) k.0)
gives ops.Iny mode v r q p i h k = given_y _ _ r q p h (ap (λ (x : ℕ). (x + 1) % 256) k.0)
gives ops.Nop mode v r q p i h k = none_given p (SameIn p r q) h
gives ops.Sec mode v r q p i h k = given_carry true r q p h
gives ops.Tax mode v r q p i h k = given_x r.a q.a r q p h k.0
gives ops.Tay mode v r q p i h k = given_y r.a q.a r q p h k.0
gives ops.Txa mode v r q p i h k = given_a r.x q.x r q p h k.0
gives ops.Tya mode v r q p i h k = given_a r.y q.y r q p h k.0
gives _ mode v r q p i h k = absurd i

-- AND #0 and ORA #$FF give one result
all_ones : (a : ℕ) → a < 256 → bit_or a 255 ≡ 255
all_ones a h = omega (arith, or_add_and a 255, and_mask a 8)

-- the operand of such an operation
abbrev pub IsConstantAt : Op → ℕ → Type 0
IsConstantAt ops.And v = v ≡ 0
IsConstantAt ops.Ora v = v ≡ 255
IsConstantAt _ v = ⊥

pub gives_constant : (op : Op) (mode : Mode) (v : ℕ) (r q : Regs) (p : Part) → IsConstantAt op v → r.a < 256 → q.a < 256 → is_in p (register_sets op mode) ≡ true
    → SameIn p (worked (kind_of op) op mode v r).0 (worked (kind_of op) op mode v q).0
gives_constant ops.And mode v r q p c a b h = given_a _ _ r q p h (ap (bit_and r.a) c ∙ and_zero_r r.a ∙ sym (ap (bit_and q.a) c ∙ and_zero_r q.a))
gives_constant ops.Ora mode v r q p c a b h = given_a _ _ r q p h (ap (bit_or r.a) c ∙ all_ones r.a a ∙ sym (ap (bit_or q.a) c ∙ all_ones q.a b))
gives_constant _ mode v r q p c a b h = absurd c

-- the byte that an operation writes
pub writes_one : (op : Op) (mode : Mode) (v : ℕ) (r q : Regs) → AgreeOn (register_reads op mode) r q → (worked (kind_of op) op mode v r).1 ≡ (worked (kind_of op) op mode v q).1
writes_one ops.Sta mode v r q k = k.0
writes_one ops.Stx mode v r q k = k.0
writes_one ops.Sty mode v r q k = k.0
writes_one ops.Asl Accumulator v r q k = refl
writes_one ops.Asl mode v r q k = refl
writes_one ops.Lsr Accumulator v r q k = refl
writes_one ops.Lsr mode v r q k = refl
writes_one ops.Rol Accumulator v r q k = refl
writes_one ops.Rol mode v r q k = left_by v r q k.0
writes_one ops.Ror Accumulator v r q k = refl
writes_one ops.Ror mode v r q k = right_by v r q k.0
writes_one ops.Dec Accumulator v r q k = refl
writes_one ops.Dec mode v r q k = refl
writes_one ops.Inc Accumulator v r q k = refl
writes_one ops.Inc mode v r q k = refl
writes_one _ mode v r q k = refl
