-- What a note says after an operation on registers, the zero page and memory.
use Rattle.std.proofs.Common.{◌≡◌, ℕ, ◌==◌, ◌<◌, Bool, true, false, ◌||◌, if◌then◌else◌, Option, Some, None, List, [], ◌∷◌, unwrap_or, refl, sym, subst, ap, ◌∙◌, arith, eqb-true, eq-eqb}
use Rattle.std.specs.Prelude.{is_some}
use Rattle.std.specs.List.{list_all}
use Rattle.std.proofs.lemmas.Bool.{and_parts}
use Rattle.c65_mach.specs.declared.rows.Op.{Op}
use Rattle.c65_mach.specs.declared.rows.Op.TheVariants as ops
use Rattle.c65_mach.specs.declared.rows.Mode.{Mode}
use Rattle.c65_mach.specs.declared.rows.Mode.TheVariants.{Accumulator, Immediate, ZeroPage, ZeroPageX, ZeroPageY}
use Rattle.c65_mach.specs.State.{Regs}
use Rattle.c65_mach.specs.Step.{stored, changed, signed, Kind, Reads, Stores, Changes, Registers, Branches, Moves, kind_of}
use Rattle.c65_code.specs.declared.parts.Part.{Part}
use Rattle.c65_code.specs.declared.parts.Part.TheVariants.{A, X, Y, Zp, N, V, Z, C}
use Rattle.c65_code.specs.declared.line.Operand.{Operand}
use Rattle.c65_code.specs.declared.line.Operand.TheVariants.{Byte, Zero}
use Rattle.c65_code.specs.declared.line.Line.TheVariants.{Do}
use Rattle.c65_code.specs.Access.{register_reads, register_sets}
use Rattle.c65_code.specs.LineState.{Bytes, write, State, IsBytes}
use Rattle.c65_code.specs.Moves.{Ref, Given, ZeroAt, MemAt, ref_of, value_at, put, change, effect}
use Rattle.c65_code.specs.Placement.{Placement, word_of}
use Rattle.c65_code.specs.Segments.{has_row, takes, is_fit}
use Rattle.c65_know.specs.declared.note.Note.{Note}
use Rattle.c65_know.specs.declared.note.Tracked.TheVariants.{S0, S1, P0, P1, T1}
use Rattle.c65_know.specs.Notes.{byte_of, zero_byte, with_tracked, with_zero_byte}
use Rattle.c65_know.specs.Rows.{operand_of, taken_in, regs_of, worked, is_constant, part_reads, is_known, are_known, given, set_part, set_parts, set_byte, writes, is_read_known, with_results, written_by, row_by}
use Rattle.c65_know_law.specs.Truth.{IsAs, IsNoted}
use Rattle.c65_know_law.proofs.Registers.{SameIn, AgreeOn, is_same_part, is_in, IsPlain, stays, gives, IsConstantAt, gives_constant, writes_one}

-- ---- what a note says, part by part

abbrev pub KnownSo : Part → Note → Regs → Type 0
KnownSo A n r = IsAs n.a r.a
KnownSo X n r = IsAs n.x r.x
KnownSo Y n r = IsAs n.y r.y
KnownSo (Zp i) n r = Unit {0}
KnownSo N n r = IsAs n.n r.n
KnownSo V n r = IsAs n.v r.v
KnownSo Z n r = IsAs n.z r.z
KnownSo C n r = IsAs n.c r.c

abbrev pub AreRegsSo : Note → Regs → Type 0
AreRegsSo n r = IsAs n.a r.a × IsAs n.x r.x × IsAs n.y r.y × IsAs n.n r.n × IsAs n.v r.v × IsAs n.z r.z × IsAs n.c r.c

abbrev pub IsZeroSo : Note → Bytes → Type 0
IsZeroSo n zp = IsAs n.s0 (zp 2) × IsAs n.s1 (zp 3) × IsAs n.p0 (zp 8) × IsAs n.p1 (zp 9) × IsAs n.t1 (zp 16)

each_so : (n : Note) (r : Regs) → AreRegsSo n r → (p : Part) → KnownSo p n r
each_so n r h A = h.0
each_so n r h X = h.1
each_so n r h Y = h.2
each_so n r h (Zp i) = tt
each_so n r h N = h.3
each_so n r h V = h.4
each_so n r h Z = h.5
each_so n r h C = h.6

all_so : (n : Note) (r : Regs) → ((p : Part) → KnownSo p n r) → AreRegsSo n r
all_so n r f = (f A, f X, f Y, f N, f V, f Z, f C)

pub regs_so : (n : Note) (t : State) → IsNoted n t → AreRegsSo n t.regs
regs_so n t h = (h.a, h.x, h.y, h.n, h.v, h.z, h.c)

pub zero_so : (n : Note) (t : State) → IsNoted n t → IsZeroSo n t.zp
zero_so n t h = (h.s0, h.s1, h.p0, h.p1, h.t1)

pub noted_by : (n : Note) (t : State) → AreRegsSo n t.regs → IsZeroSo n t.zp → IsNoted n t
noted_by n t r z = record { a = r.0; x = r.1; y = r.2; s0 = z.0; s1 = z.1; p0 = z.2; p1 = z.3; t1 = z.4; n = r.3; v = r.4; z = r.5; c = r.6 }

known_as : {K : Type 0} (o : Option K) (d v : K) → is_some o ≡ true → IsAs o v → unwrap_or o d ≡ v
known_as None d v h k = absurd (cc)
known_as (Some w) d v h k = k

known_reg : (n : Note) (r : Regs) (p : Part) → is_known n p ≡ true → KnownSo p n r → SameIn p (regs_of n) r
known_reg n r A h k = known_as n.a 0 r.a h k
known_reg n r X h k = known_as n.x 0 r.x h k
known_reg n r Y h k = known_as n.y 0 r.y h k
known_reg n r (Zp i) h k = tt
known_reg n r N h k = known_as n.n false r.n h k
known_reg n r V h k = known_as n.v false r.v h k
known_reg n r Z h k = known_as n.z false r.z h k
known_reg n r C h k = known_as n.c false r.c h k

known_regs : (n : Note) (r : Regs) → AreRegsSo n r → (reads : List Part) → are_known n reads ≡ true → AgreeOn reads (regs_of n) r
known_regs n r so [] h = tt
known_regs n r so (p ∷ reads) h =
    let both = and_parts (is_known n p) (list_all (is_known n) reads) h in
    (known_reg n r p both.0 (each_so n r so p), known_regs n r so reads both.1)

-- ---- registers and flags that are set

given_as : {K : Type 0} (b : Bool) (v w : K) → (b ≡ true → v ≡ w) → IsAs (given b v) w
given_as true v w h = h refl
given_as false v w h = tt

set_one : (q p : Part) (knows : Part → Bool) (r u : Regs) (n : Note) → (is_same_part p q ≡ true → knows p ≡ true → SameIn p r u) → (is_same_part p q ≡ false → KnownSo p n u) → KnownSo p (set_part knows r q n) u
set_one A A knows r u n f g = given_as (knows A) r.a u.a (f refl)
set_one X X knows r u n f g = given_as (knows X) r.x u.x (f refl)
set_one Y Y knows r u n f g = given_as (knows Y) r.y u.y (f refl)
set_one N N knows r u n f g = given_as (knows N) r.n u.n (f refl)
set_one V V knows r u n f g = given_as (knows V) r.v u.v (f refl)
set_one Z Z knows r u n f g = given_as (knows Z) r.z u.z (f refl)
set_one C C knows r u n f g = given_as (knows C) r.c u.c (f refl)
set_one q (Zp i) knows r u n f g = tt
set_one _ _ knows r u n f g = g refl

in_first : (p q : Part) (qs : List Part) → is_same_part p q ≡ true → is_in p (q ∷ qs) ≡ true
in_first p q qs e = rw e refl

in_later : (p q : Part) (qs : List Part) → is_in p qs ≡ true → is_in p (q ∷ qs) ≡ true
in_later p q qs e = pick (is_same_part p q)
  where
    pick : (b : Bool) → (if b then true else is_in p qs) ≡ true
    pick true = refl
    pick false = e

in_neither : (p q : Part) (qs : List Part) → is_same_part p q ≡ false → is_in p qs ≡ false → is_in p (q ∷ qs) ≡ false
in_neither p q qs e f = rw e f

set_all : (parts : List Part) (knows : Part → Bool) (r u : Regs) (n : Note) → ((p : Part) → is_in p parts ≡ false → KnownSo p n u) → ((p : Part) → is_in p parts ≡ true → knows p ≡ true → SameIn p r u)
    → (p : Part) → KnownSo p (set_parts knows r parts n) u
set_all [] knows r u n out inside p = out p refl
set_all (q ∷ parts) knows r u n out inside p =
    set_all parts knows r u (set_part knows r q n)
    (λ o h. set_one q o knows r u n (λ e k. inside o (in_first o q parts e) k) (λ e. out o (in_neither o q parts e h)))
    (λ o h k. inside o (in_later o q parts h) k) p

zero_one : (q : Part) (knows : Part → Bool) (r : Regs) (n : Note) (zp : Bytes) → IsZeroSo n zp → IsZeroSo (set_part knows r q n) zp
zero_one A knows r n zp h = h
zero_one X knows r n zp h = h
zero_one Y knows r n zp h = h
zero_one (Zp i) knows r n zp h = h
zero_one N knows r n zp h = h
zero_one V knows r n zp h = h
zero_one Z knows r n zp h = h
zero_one C knows r n zp h = h

zero_all : (parts : List Part) (knows : Part → Bool) (r : Regs) (n : Note) (zp : Bytes) → IsZeroSo n zp → IsZeroSo (set_parts knows r parts n) zp
zero_all [] knows r n zp h = h
zero_all (q ∷ parts) knows r n zp h = zero_all parts knows r (set_part knows r q n) zp (zero_one q knows r n zp h)

-- ---- the operand

-- what an operation works on beside registers
abbrev pub taken : Kind → Mode → ℕ → State → ℕ
taken Reads mode w t = value_at (ref_of mode w t) t
taken Changes Accumulator w t = t.regs.a
taken Changes mode w t = value_at (ref_of mode w t) t
taken _ mode w t = 0

pub zero_as : (n : Note) (t : State) (i : ℕ) → IsNoted n t → IsAs (zero_byte n i) (t.zp i)
zero_as n t i h = at_2 (i == 2) refl
  where
    at_16 : (b : Bool) → (i == 16) ≡ b → IsAs (byte_of n (if b then Some T1 else None)) (t.zp i)
    at_16 true e = subst (λ (j : ℕ). IsAs n.t1 (t.zp j)) (sym (eqb-true i 16 e)) h.t1
    at_16 false e = tt

    at_9 : (b : Bool) → (i == 9) ≡ b → IsAs (byte_of n (if b then Some P1 else (if i == 16 then Some T1 else None))) (t.zp i)
    at_9 true e = subst (λ (j : ℕ). IsAs n.p1 (t.zp j)) (sym (eqb-true i 9 e)) h.p1
    at_9 false e = at_16 (i == 16) refl

    at_8 : (b : Bool) → (i == 8) ≡ b → IsAs (byte_of n (if b then Some P0 else (if i == 9 then Some P1 else (if i == 16 then Some T1 else None)))) (t.zp i)
    at_8 true e = subst (λ (j : ℕ). IsAs n.p0 (t.zp j)) (sym (eqb-true i 8 e)) h.p0
    at_8 false e = at_9 (i == 9) refl

    at_3 : (b : Bool) → (i == 3) ≡ b → IsAs (byte_of n (if b then Some S1 else (if i == 8 then Some P0 else (if i == 9 then Some P1 else (if i == 16 then Some T1 else None))))) (t.zp i)
    at_3 true e = subst (λ (j : ℕ). IsAs n.s1 (t.zp j)) (sym (eqb-true i 3 e)) h.s1
    at_3 false e = at_8 (i == 8) refl

    at_2 : (b : Bool) → (i == 2) ≡ b → IsAs (byte_of n (if b then Some S0 else (if i == 3 then Some S1 else (if i == 8 then Some P0 else (if i == 9 then Some P1 else (if i == 16 then Some T1 else None)))))) (t.zp i)
    at_2 true e = subst (λ (j : ℕ). IsAs n.s0 (t.zp j)) (sym (eqb-true i 2 e)) h.s0
    at_2 false e = at_3 (i == 3) refl

abbrev pub IsNoAccumulator : Mode → Type 0
IsNoAccumulator Accumulator = ⊥
IsNoAccumulator _ = Unit {0}

operand_as : (place : Placement) (n : Note) (t : State) (mode : Mode) (operand : Operand) → IsNoted n t → IsNoAccumulator mode → IsAs (operand_of mode operand n) (value_at (ref_of mode (word_of place operand) t) t)
operand_as place n t Accumulator operand h i = absurd i
operand_as place n t Immediate (Byte v) h i = refl
operand_as place n t Immediate _ h i = tt
operand_as place n t ZeroPage (Zero j) h i = zero_as n t j h
operand_as place n t ZeroPage _ h i = tt
operand_as place n t _ operand h i = tt

-- no operation that reads takes A for its operand
reads_no_accumulator : (op : Op) → kind_of op ≡ Reads → has_row op Accumulator ≡ false
reads_no_accumulator ops.Asl e = absurd (cc)
reads_no_accumulator ops.Lsr e = absurd (cc)
reads_no_accumulator ops.Rol e = absurd (cc)
reads_no_accumulator ops.Ror e = absurd (cc)
reads_no_accumulator ops.Inc e = absurd (cc)
reads_no_accumulator ops.Dec e = absurd (cc)
reads_no_accumulator _ e = refl

fit_row : (op : Op) (mode : Mode) (operand : Operand) → is_fit (Do op mode operand) ≡ true → (has_row op mode ≡ true) × (takes op mode operand ≡ true)
fit_row op mode operand h =
    let one = and_parts (has_row op mode) _ h in
    let two = and_parts (takes op mode operand) _ one.1 in
    (one.0, two.0)

reading_mode : (op : Op) (mode : Mode) → kind_of op ≡ Reads → has_row op mode ≡ true → IsNoAccumulator mode
reading_mode op Accumulator e h = absurd (apart (has_row op Accumulator) h (reads_no_accumulator op e))
  where
    apart : (b : Bool) → b ≡ true → b ≡ false → ⊥
    apart b h k = cc
reading_mode op _ e h = tt

taken_as : (place : Placement) (n : Note) (t : State) (k : Kind) (mode : Mode) (operand : Operand) → IsNoted n t → IsPlain k → (k ≡ Reads → IsNoAccumulator mode)
    → IsAs (taken_in k mode operand n) (taken k mode (word_of place operand) t)
taken_as place n t Reads mode operand h i apart = operand_as place n t mode operand h (apart refl)
taken_as place n t Stores mode operand h i apart = refl
taken_as place n t Changes Accumulator operand h i apart = h.a
taken_as place n t Changes mode operand h i apart = operand_as place n t mode operand h tt
taken_as place n t Registers mode operand h i apart = refl
taken_as place n t Branches mode operand h i apart = absurd i
taken_as place n t Moves mode operand h i apart = absurd i

constant_at : (op : Op) (mode : Mode) (operand : Operand) (n : Note) (x : ℕ) → is_constant op mode operand ≡ true → IsAs (taken_in (kind_of op) mode operand n) x → IsConstantAt op x
constant_at ops.And Immediate (Byte v) n x h k = sym k ∙ eqb-true v 0 h
constant_at ops.Ora Immediate (Byte v) n x h k = sym k ∙ eqb-true v 255 h
constant_at ops.And _ _ n x h k = absurd (cc)
constant_at ops.Ora _ _ n x h k = absurd (cc)
constant_at _ mode operand n x h k = absurd (cc)

-- ---- what is given after an operation

module _ (op : Op) (mode : Mode) (operand : Operand) (n : Note) (v : Option ℕ) (x : ℕ) (r : Regs) (plain : IsPlain (kind_of op)) (so : AreRegsSo n r) where
  -- the value that is taken, where it is known
  found : is_some v ≡ true → IsAs v x → unwrap_or v 0 ≡ x
  found h k = known_as v 0 x h k

  a_byte : r.a < 256 → (regs_of n).a < 256
  a_byte b = pick n.a so.0
    where
      pick : (o : Option ℕ) → IsAs o r.a → unwrap_or o 0 < 256
      pick None h = omega arith
      pick (Some w) h = subst (λ (y : ℕ). y < 256) (sym h) b

  read_part : IsAs v x → (is_constant op mode operand ≡ true → IsConstantAt op x) → r.a < 256 → (p : Part) → is_in p (register_sets op mode) ≡ true → is_read_known op mode operand v n p ≡ true
      → SameIn p (worked (kind_of op) op mode (unwrap_or v 0) (regs_of n)).0 (worked (kind_of op) op mode x r).0
  read_part k constant byte p inside h =
      let both = and_parts (is_some v) _ h in
      subst (λ (y : ℕ). SameIn p (worked (kind_of op) op mode y (regs_of n)).0 (worked (kind_of op) op mode x r).0) (sym (found both.0 k)) (pick (is_constant op mode operand) refl both.1)
    where
      pick : (b : Bool) → is_constant op mode operand ≡ b → (b || are_known n (part_reads op mode p)) ≡ true → SameIn p (worked (kind_of op) op mode x (regs_of n)).0 (worked (kind_of op) op mode x r).0
      pick true e g = gives_constant op mode x (regs_of n) r p (constant e) (a_byte byte) byte inside
      pick false e g = gives op mode x (regs_of n) r p plain inside (known_regs n r so (part_reads op mode p) g)

  pub results_so : IsAs v x → (is_constant op mode operand ≡ true → IsConstantAt op x) → r.a < 256 → AreRegsSo (with_results op mode operand v n) (worked (kind_of op) op mode x r).0
  results_so k constant byte =
      all_so _ _ (set_all (register_sets op mode) (is_read_known op mode operand v n) (worked (kind_of op) op mode (unwrap_or v 0) (regs_of n)).0 (worked (kind_of op) op mode x r).0 n
      (λ p out. moved p (stays op mode x r p plain out))
      (λ p inside h. read_part k constant byte p inside h))
    where
      moved : (p : Part) → SameIn p (worked (kind_of op) op mode x r).0 r → KnownSo p n (worked (kind_of op) op mode x r).0
      moved A e = subst (IsAs n.a) (sym e) so.0
      moved X e = subst (IsAs n.x) (sym e) so.1
      moved Y e = subst (IsAs n.y) (sym e) so.2
      moved (Zp i) e = tt
      moved N e = subst (IsAs n.n) (sym e) so.3
      moved V e = subst (IsAs n.v) (sym e) so.4
      moved Z e = subst (IsAs n.z) (sym e) so.5
      moved C e = subst (IsAs n.c) (sym e) so.6

  pub written_so : IsAs v x → IsAs (written_by op mode v n) (worked (kind_of op) op mode x r).1
  written_so k = given_as _ _ _ (λ h.
      let both = and_parts (is_some v) _ h in
      ap (λ (y : ℕ). (worked (kind_of op) op mode y (regs_of n)).1) (found both.0 k) ∙ writes_one op mode x (regs_of n) r (known_regs n r so (register_reads op mode) both.1))

-- ---- a byte of the zero page that is written

other_byte : (zp : Bytes) (i x b : ℕ) → (i == b) ≡ false → write zp i x b ≡ zp b
other_byte zp i x b e = pick (b == i) refl
  where
    pick : (c : Bool) → (b == i) ≡ c → (if c then x else zp b) ≡ zp b
    pick true f = let same : i ≡ b = sym (eqb-true b i f) in let yes : (i == b) ≡ true = eq-eqb i b same in absurd (cc)
    pick false f = refl

zero_written : (n : Note) (r : Regs) (zp : Bytes) (i x : ℕ) (v : Option ℕ) → IsAs v x → AreRegsSo n r → IsZeroSo n zp → AreRegsSo (with_zero_byte i v n) r × IsZeroSo (with_zero_byte i v n) (write zp i x)
zero_written n r zp i x v k so h = at_2 (i == 2) refl
  where
    others : (i == 2) ≡ false → (i == 3) ≡ false → (i == 8) ≡ false → (i == 9) ≡ false → (i == 16) ≡ false → IsZeroSo n (write zp i x)
    others a b c d e = (
      subst (IsAs n.s0) (sym (other_byte zp i x 2 a)) h.0,
      subst (IsAs n.s1) (sym (other_byte zp i x 3 b)) h.1,
      subst (IsAs n.p0) (sym (other_byte zp i x 8 c)) h.2,
      subst (IsAs n.p1) (sym (other_byte zp i x 9 d)) h.3,
      subst (IsAs n.t1) (sym (other_byte zp i x 16 e)) h.4,
    )

    at_16 : (b : Bool) → (i == 16) ≡ b → (i == 2) ≡ false → (i == 3) ≡ false → (i == 8) ≡ false → (i == 9) ≡ false
        → AreRegsSo (with_tracked (if b then Some T1 else None) v n) r × IsZeroSo (with_tracked (if b then Some T1 else None) v n) (write zp i x)
    at_16 true e a c d f = subst (λ (j : ℕ). AreRegsSo (record n { t1 = v }) r × IsZeroSo (record n { t1 = v }) (write zp j x)) (sym (eqb-true i 16 e)) (so, (h.0, h.1, h.2, h.3, k))
    at_16 false e a c d f = (so, others a c d f e)

    at_9 : (b : Bool) → (i == 9) ≡ b → (i == 2) ≡ false → (i == 3) ≡ false → (i == 8) ≡ false
        → AreRegsSo (with_tracked (if b then Some P1 else (if i == 16 then Some T1 else None)) v n) r × IsZeroSo (with_tracked (if b then Some P1 else (if i == 16 then Some T1 else None)) v n) (write zp i x)
    at_9 true e a c d = subst (λ (j : ℕ). AreRegsSo (record n { p1 = v }) r × IsZeroSo (record n { p1 = v }) (write zp j x)) (sym (eqb-true i 9 e)) (so, (h.0, h.1, h.2, k, h.4))
    at_9 false e a c d = at_16 (i == 16) refl a c d e

    at_8 : (b : Bool) → (i == 8) ≡ b → (i == 2) ≡ false → (i == 3) ≡ false
        → AreRegsSo (with_tracked (if b then Some P0 else (if i == 9 then Some P1 else (if i == 16 then Some T1 else None))) v n) r
        × IsZeroSo (with_tracked (if b then Some P0 else (if i == 9 then Some P1 else (if i == 16 then Some T1 else None))) v n) (write zp i x)
    at_8 true e a c = subst (λ (j : ℕ). AreRegsSo (record n { p0 = v }) r × IsZeroSo (record n { p0 = v }) (write zp j x)) (sym (eqb-true i 8 e)) (so, (h.0, h.1, k, h.3, h.4))
    at_8 false e a c = at_9 (i == 9) refl a c e

    at_3 : (b : Bool) → (i == 3) ≡ b → (i == 2) ≡ false
        → AreRegsSo (with_tracked (if b then Some S1 else (if i == 8 then Some P0 else (if i == 9 then Some P1 else (if i == 16 then Some T1 else None)))) v n) r
        × IsZeroSo (with_tracked (if b then Some S1 else (if i == 8 then Some P0 else (if i == 9 then Some P1 else (if i == 16 then Some T1 else None)))) v n) (write zp i x)
    at_3 true e a = subst (λ (j : ℕ). AreRegsSo (record n { s1 = v }) r × IsZeroSo (record n { s1 = v }) (write zp j x)) (sym (eqb-true i 3 e)) (so, (h.0, k, h.2, h.3, h.4))
    at_3 false e a = at_8 (i == 8) refl a e

    at_2 : (b : Bool) → (i == 2) ≡ b
        → AreRegsSo (with_tracked (if b then Some S0 else (if i == 3 then Some S1 else (if i == 8 then Some P0 else (if i == 9 then Some P1 else (if i == 16 then Some T1 else None))))) v n) r
        × IsZeroSo (with_tracked (if b then Some S0 else (if i == 3 then Some S1 else (if i == 8 then Some P0 else (if i == 9 then Some P1 else (if i == 16 then Some T1 else None))))) v n) (write zp i x)
    at_2 true e = subst (λ (j : ℕ). AreRegsSo (record n { s0 = v }) r × IsZeroSo (record n { s0 = v }) (write zp j x)) (sym (eqb-true i 2 e)) (so, (k, h.1, h.2, h.3, h.4))
    at_2 false e = at_3 (i == 3) refl e

-- a byte that is written where the operand is, in a state with other registers
byte_set : (place : Placement) (op : Op) (n : Note) (t : State) (r : Regs) (mode : Mode) (operand : Operand) (x : ℕ) (v : Option ℕ) → takes op mode operand ≡ true → IsAs v x → AreRegsSo n r → IsZeroSo n t.zp
    → AreRegsSo (set_byte mode operand v n) r × IsZeroSo (set_byte mode operand v n) (put (ref_of mode (word_of place operand) t) x (record t { regs = r })).zp
byte_set place op n t r ZeroPage (Zero i) x v fit k so h = zero_written n r t.zp i x v k so h
byte_set place op n t r ZeroPage _ x v fit k so h = absurd (cc)
byte_set place op n t r ZeroPageX operand x v fit k so h = (so, (tt, tt, tt, tt, tt))
byte_set place op n t r ZeroPageY operand x v fit k so h = (so, (tt, tt, tt, tt, tt))
byte_set place op n t r _ operand x v fit k so h = (so, h)

-- ---- an operation

put_regs : (ref : Ref) (x : ℕ) (t : State) → (put ref x t).regs ≡ t.regs
put_regs (Given w) x t = refl
put_regs (ZeroAt i) x t = refl
put_regs (MemAt b) x t = refl

abbrev writes_by : Kind → Bool
writes_by Stores = true
writes_by Changes = true
writes_by _ = false

writes_is : (op : Op) → IsPlain (kind_of op) → writes op ≡ writes_by (kind_of op)
writes_is ops.Trb i = absurd i
writes_is ops.Tsb i = absurd i
writes_is _ i = refl

module _ (place : Placement) (op : Op) (mode : Mode) (operand : Operand) (n : Note) (t : State) (fit : is_fit (Do op mode operand) ≡ true) (bytes : IsBytes t) (noted : IsNoted n t) where
  abbrev w : ℕ
  w = word_of place operand

  results : (k : Kind) → kind_of op ≡ k → IsPlain k → AreRegsSo (with_results op mode operand (taken_in k mode operand n) n) (worked k op mode (taken k mode w t) t.regs).0
  results k e plain =
      let p : IsPlain (kind_of op) = subst IsPlain (sym e) plain in
      let row = fit_row op mode operand fit in
      let same : IsAs (taken_in k mode operand n) (taken k mode w t) = taken_as place n t k mode operand noted plain (λ f. reading_mode op mode (e ∙ f) row.0) in
      let same0 : IsAs (taken_in (kind_of op) mode operand n) (taken k mode w t) = subst (λ (j : Kind). IsAs (taken_in j mode operand n) (taken k mode w t)) (sym e) same in
      subst (λ (j : Kind). AreRegsSo (with_results op mode operand (taken_in k mode operand n) n) (worked j op mode (taken k mode w t) t.regs).0) e
      (results_so op mode operand n (taken_in k mode operand n) (taken k mode w t) t.regs p (regs_so n t noted) same (λ c. constant_at op mode operand n (taken k mode w t) c same0) bytes.a)

  written : (k : Kind) → kind_of op ≡ k → IsPlain k → IsAs (written_by op mode (taken_in k mode operand n) n) (worked k op mode (taken k mode w t) t.regs).1
  written k e plain =
      let p : IsPlain (kind_of op) = subst IsPlain (sym e) plain in
      let row = fit_row op mode operand fit in
      let same : IsAs (taken_in k mode operand n) (taken k mode w t) = taken_as place n t k mode operand noted plain (λ f. reading_mode op mode (e ∙ f) row.0) in
      subst (λ (j : Kind). IsAs (written_by op mode (taken_in k mode operand n) n) (worked j op mode (taken k mode w t) t.regs).1) e
      (written_so op mode operand n (taken_in k mode operand n) (taken k mode w t) t.regs p (regs_so n t noted) same)

  zeros : (v : Option ℕ) → IsZeroSo (with_results op mode operand v n) t.zp
  zeros v = zero_all (register_sets op mode) (is_read_known op mode operand v n) _ n t.zp (zero_so n t noted)

  -- after an operation that writes nothing
  calm : (k : Kind) → kind_of op ≡ k → IsPlain k → writes_by k ≡ false → (u : State) → u.regs ≡ (worked k op mode (taken k mode w t) t.regs).0 → u.zp ≡ t.zp → IsNoted (row_by op mode operand (taken_in k mode operand n) n) u
  calm k e plain off u regs zp =
      let p : IsPlain (kind_of op) = subst IsPlain (sym e) plain in
      let idle : writes op ≡ false = writes_is op p ∙ ap writes_by e ∙ off in
      rw idle (noted_by _ u (subst (AreRegsSo (with_results op mode operand (taken_in k mode operand n) n)) (sym regs) (results k e plain)) (subst (IsZeroSo (with_results op mode operand (taken_in k mode operand n) n)) (sym zp) (zeros _)))

  -- after one that writes
  stores : (k : Kind) → kind_of op ≡ k → IsPlain k → writes_by k ≡ true → (u : State) → u.regs ≡ (worked k op mode (taken k mode w t) t.regs).0
      → u.zp ≡ (put (ref_of mode w t) (worked k op mode (taken k mode w t) t.regs).1 (record t { regs = (worked k op mode (taken k mode w t) t.regs).0 })).zp → IsNoted (row_by op mode operand (taken_in k mode operand n) n) u
  stores k e plain on u regs zp =
      let p : IsPlain (kind_of op) = subst IsPlain (sym e) plain in
      let busy : writes op ≡ true = writes_is op p ∙ ap writes_by e ∙ on in
      let v : Option ℕ = taken_in k mode operand n in
      let row = fit_row op mode operand fit in
      let set = byte_set place op (with_results op mode operand v n) t (worked k op mode (taken k mode w t) t.regs).0 mode operand (worked k op mode (taken k mode w t) t.regs).1 (written_by op mode v n) row.1 (written k e plain) (results k e plain) (zeros v) in
      rw busy (noted_by _ u (subst (AreRegsSo (set_byte mode operand (written_by op mode v n) (with_results op mode operand v n))) (sym regs) set.0) (subst (IsZeroSo (set_byte mode operand (written_by op mode v n) (with_results op mode operand v n))) (sym zp) set.1))

  changed_zp : (m : Mode) → (change op m w t).zp ≡ (put (ref_of m w t) (worked Changes op m (taken Changes m w t) t.regs).1 (record t { regs = (worked Changes op m (taken Changes m w t) t.regs).0 })).zp
  changed_zp Accumulator = refl
  changed_zp _ = refl

  changed_regs : (m : Mode) → (change op m w t).regs ≡ (worked Changes op m (taken Changes m w t) t.regs).0
  changed_regs Accumulator = refl
  changed_regs m = put_regs (ref_of m w t) (changed op (value_at (ref_of m w t) t) t.regs).0 (record t { regs = record (signed (changed op (value_at (ref_of m w t) t) t.regs).0 t.regs) { c = (changed op (value_at (ref_of m w t) t) t.regs).1 } })

  pub row_kept : (k : Kind) → kind_of op ≡ k → IsPlain k → (u : State) → u ≡ effect k op mode w t → IsNoted (row_by op mode operand (taken_in k mode operand n) n) u
  row_kept Reads e plain u d = calm Reads e plain refl u (ap (λ (s : State). s.regs) d) (ap (λ (s : State). s.zp) d)
  row_kept Registers e plain u d = calm Registers e plain refl u (ap (λ (s : State). s.regs) d) (ap (λ (s : State). s.zp) d)
  row_kept Stores e plain u d = stores Stores e plain refl u (ap (λ (s : State). s.regs) d ∙ put_regs (ref_of mode w t) (stored op t.regs) t) (ap (λ (s : State). s.zp) d)
  row_kept Changes e plain u d = stores Changes e plain refl u (ap (λ (s : State). s.regs) d ∙ changed_regs mode) (ap (λ (s : State). s.zp) d ∙ changed_zp mode)
  row_kept Branches e plain u d = absurd plain
  row_kept Moves e plain u d = absurd plain
