-- Equality and the orders, of words and of numbers of 32 bits.
use Rattle.std.proofs.Common.{◌≡◌, ℕ, ◌+◌, ◌<◌, Bool, true, false, not, IsTrue, List, [], ◌∷◌, Option, Some, None, refl, sym, ap, subst, ◌∙◌, arith}
use Rattle.std.specs.Prelude.{◌==◌, if◌then◌else◌, nat_lt, nat_le, bit_or, bit_xor}
use Rattle.c65_mach.specs.Step.{bit, negative, is_taken, kind_of}
use Rattle.c65_mach.specs.State.{Regs}
use Rattle.c65_mach.specs.declared.rows.Op.{Op}
use Rattle.c65_mach.specs.declared.rows.Op.TheVariants.{Bcc, Bcs, Beq, Bmi, Bne, Bpl}
use Rattle.c65_mach.specs.declared.rows.Mode.TheVariants.{Relative}
use Rattle.c65_code.specs.declared.routine.Routine.TheVariants as routines
use Rattle.c65_code.specs.declared.routine.TosOp.{TosOp}
use Rattle.c65_code.specs.declared.routine.TosOp.TheVariants as tos
use Rattle.c65_code.specs.declared.routine.Width.{Width}
use Rattle.c65_code.specs.declared.routine.Width.TheVariants.{Ax, Eax}
use Rattle.c65_code.specs.declared.line.Line.{Line}
use Rattle.c65_code.specs.declared.line.Operand.TheVariants.{To}
use Rattle.c65_code.specs.Forms.{Branch, op_form}
use Rattle.c65_code.specs.LineState.{Place, State, sp_of}
use Rattle.c65_code.specs.Numbers.{turned, truth, result_width, tos_result}
use Rattle.c65_code.specs.Placement.{Placement}
use Rattle.c65_code.specs.Rows.{number_at, primary_of, tos_cost, written}
use Rattle.c65_code.specs.RawMachine.{RawSetting, Bounds, called, MeetsRow}
use Rattle.c65_rtl.specs.Routines.{lines_of}
use Rattle.c65_rtl.specs.Short.{is_straight_operator}
use Rattle.c65_rtl.proofs.Ways.{leads}
use Rattle.c65_rtl.proofs.Sums.{Operand, operand}
use Rattle.c65_rtl.proofs.UnaryWords.{AreWordBytes}
use Rattle.c65_rtl.proofs.Flags.{not_le, is_not_not, not_not, flipped, Decided, decided}
use Rattle.c65_rtl.proofs.OnTos.{drop_lines, drop_at, IsResultIf, Begins, is_allowed, operator_meets}
use Rattle.c65_rtl.proofs.Comparisons.{less, word_equal, long_equal, word_less, long_less, word_signed, long_signed}
use Rattle.c65_rtl.proofs.Ordering.{told, decide_on, decide_at, unlike, matched, unlike_on, unlike_at, unlike_upper_on, unlike_upper_at, compared, compare_on, compare_at, compared_on, compare_upper_on, compare_upper_at, sign_on, sign_at}

-- the lines before a branch lead to a state in which it is taken where the answer is no, and change of memory but tmp1 nothing
abbrev Compares : TosOp → Width → Op → (List Line → List Line) → (ℕ → ℕ → Bool) → Type 1
Compares op width taken head answer = (place : Placement) (bounds : Bounds) (P : State → Type 0) (rest : List Line) (back : Place) (t : State) → Begins width place bounds t
    → ((r : Regs) (ws : List (ℕ × ℕ)) → IsTrue (is_allowed op width ws t) → written t.zp ws 0 ≡ t.zp 0 → written t.zp ws 1 ≡ t.zp 1 → is_taken taken r ≡ not (answer (number_at width t.mem (sp_of t)) (primary_of width t))
    → leads place bounds P rest None (record (called back t) { regs = r; zp = written t.zp ws })) → leads place bounds P (head rest) None (called back t)

-- what an operator is, by its answer
record IsOrder (op : TosOp) (width : Width) (taken : Op) (answer : ℕ → ℕ → Bool) : Type 0 where
  pub branch : op_form (kind_of taken) taken Relative (To 3) ≡ Branch taken 3
  pub straight : IsTrue (is_straight_operator op)
  pub dear : tos_cost op ≡ 256
  pub gives : result_width op width ≡ Ax
  pub result : (a b : ℕ) → tos_result op width a b ≡ Some (truth (answer a b))

order_meets : (s : RawSetting) (op : TosOp) (width : Width) (head : List Line → List Line) (taken : Op) (answer : ℕ → ℕ → Bool) → IsOrder op width taken answer → Compares op width taken head answer
    → head (decide_on taken (drop_lines width)) ≡ lines_of (routines.Tos op width) → s.lines (s.routine (routines.Tos op width)) ≡ lines_of (routines.Tos op width) → MeetsRow s (routines.Tos op width)
order_meets s op width head taken answer order compares is has =
    operator_meets s op width (head (decide_on taken (drop_lines width))) order.straight order.dear is (has ∙ sym is) (λ place bounds P back t begin ends.
    compares place bounds P (decide_on taken (drop_lines width)) back t begin (λ r ws allowed z0 z1 test.
    let low = begin.bytes.zp 0 in
    let high = begin.bytes.zp 1 in
    let room = begin.fits in
    decide_at taken order.branch place bounds P (drop_lines width) (record (called back t) { regs = r; zp = written t.zp ws }) (λ b n1 w1 is_b.
    drop_at width place bounds P (told (record (called back t) { regs = r; zp = written t.zp ws }) b n1 w1) (omega arith) (omega arith) (omega arith) (λ y n v z c zp moved.
    let at = moved.sp in
    let yes : Bool = answer (number_at width t.mem (sp_of t)) (primary_of width t) in
    let result : Decided b yes = decided b yes (sym is_b ∙ test) in
    let bytes : AreWordBytes (truth yes) (if b then 0 else 1) 0 = record { a = result.a; x = result.x } in
    ends (if b then 0 else 1) 0 y n v z c zp ws allowed moved.rest (omega arith)
    (subst (λ (w : Width). IsResultIf w (tos_result op width (number_at width t.mem (sp_of t)) (primary_of width t)) (if b then 0 else 1) 0 zp) (sym order.gives)
    (subst (λ (k : Option ℕ). IsResultIf Ax k (if b then 0 else 1) 0 zp) (sym (order.result (number_at width t.mem (sp_of t)) (primary_of width t))) bytes))))))

-- Z is set where the numbers are the same
abbrev equal_on : Width → List Line → List Line
equal_on Ax rest = unlike_on rest
equal_on Eax rest = unlike_on (unlike_upper_on rest)

equal_at : (op : TosOp) (width : Width) (place : Placement) (bounds : Bounds) (P : State → Type 0) (rest : List Line) (back : Place) (t : State) → Begins width place bounds t
    → ((r : Regs) (ws : List (ℕ × ℕ)) → IsTrue (is_allowed op width ws t) → written t.zp ws 0 ≡ t.zp 0 → written t.zp ws 1 ≡ t.zp 1 → r.z ≡ (number_at width t.mem (sp_of t) == primary_of width t)
    → leads place bounds P rest None (record (called back t) { regs = r; zp = written t.zp ws })) → leads place bounds P (equal_on width rest) None (called back t)
equal_at op Ax place bounds P rest back t begin follows =
    let near = begin.near in
    let fits = begin.fits in
    let b = begin.bytes in
    let k0 : 0 < 2 = omega arith in
    let k1 : 1 < 2 = omega arith in
    unlike_at place bounds P rest (sp_of t) (called back t) (omega arith) (omega arith) (near.first k0) (near.reach 1 k1) (λ m0 m1 n e0 e1.
    let m : Operand t.mem (sp_of t) m0 m1 (t.mem (sp_of t + 2)) (t.mem (sp_of t + 3)) = operand t.mem (sp_of t) m0 m1 (t.mem (sp_of t + 2)) (t.mem (sp_of t + 3)) b.mem e0 e1 refl refl in
    follows _ ((16, bit_xor t.regs.a m0) ∷ []) refl refl refl (word_equal t.regs.a t.regs.x m0 m1 b.a m.b0 ∙ ap (λ (k : ℕ). k == primary_of Ax t) m.word))
equal_at op Eax place bounds P rest back t begin follows =
    let near = begin.near in
    let fits = begin.fits in
    let b = begin.bytes in
    let k0 : 0 < 4 = omega arith in
    let k1 : 1 < 4 = omega arith in
    let k2 : 2 < 4 = omega arith in
    let k3 : 3 < 4 = omega arith in
    unlike_at place bounds P (unlike_upper_on rest) (sp_of t) (called back t) (omega arith) (omega arith) (near.first k0) (near.reach 1 k1) (λ m0 m1 n1 e0 e1.
    unlike_upper_at place bounds P rest (sp_of t) (matched (called back t) m0 m1 n1) (omega arith) (omega arith) (near.reach 2 k2) (near.reach 3 k3) (λ m2 m3 a2 n2 e2 e3 is_a2.
    let m : Operand t.mem (sp_of t) m0 m1 m2 m3 = operand t.mem (sp_of t) m0 m1 m2 m3 b.mem e0 e1 e2 e3 in
    follows _ ((16, bit_xor t.regs.a m0) ∷ (16, unlike t.regs.a t.regs.x m0 m1) ∷ (16, bit_or (bit_xor (t.zp 2) m2) (unlike t.regs.a t.regs.x m0 m1)) ∷ []) refl refl refl
    (ap (λ (k : ℕ). k == 0) is_a2 ∙ (long_equal t.regs.a t.regs.x (t.zp 2) (t.zp 3) m0 m1 m2 m3 b.a b.x (b.zp 2) m.b0 m.b1 m.b2 ∙ ap (λ (k : ℕ). k == primary_of Eax t) m.long))))

-- the primary register less TOS, and one more where C was clear
abbrev subtract_on : Bool → Width → List Line → List Line
subtract_on k Ax rest = compare_on k rest
subtract_on k Eax rest = compare_on k (compare_upper_on rest)

-- the flags of the difference
record Tells (k : Bool) (width : Width) (t : State) (r : Regs) : Type 0 where
  pub a : r.a < 256
  pub below : r.c ≡ less k (number_at width t.mem (sp_of t)) (primary_of width t)
  pub signed : flipped r.v (negative r.a) ≡ not (less k (turned width (number_at width t.mem (sp_of t))) (turned width (primary_of width t)))

subtract_at : (k : Bool) (width : Width) (place : Placement) (bounds : Bounds) (P : State → Type 0) (rest : List Line) (back : Place) (t : State) → Begins width place bounds t
    → ((r : Regs) → Tells k width t r → leads place bounds P rest None (record (called back t) { regs = record r { n = negative r.a } })) → leads place bounds P (subtract_on k width rest) None (called back t)
subtract_at k Ax place bounds P rest back t begin follows =
    let near = begin.near in
    let fits = begin.fits in
    let b = begin.bytes in
    let k0 : 0 < 2 = omega arith in
    let k1 : 1 < 2 = omega arith in
    compare_at k place bounds P rest (sp_of t) (called back t) (omega arith) (omega arith) (near.first k0) (near.reach 1 k1) (λ m0 m1 z e0 e1.
    let m : Operand t.mem (sp_of t) m0 m1 (t.mem (sp_of t + 2)) (t.mem (sp_of t + 3)) = operand t.mem (sp_of t) m0 m1 (t.mem (sp_of t + 2)) (t.mem (sp_of t + 3)) b.mem e0 e1 refl refl in
    let to : State = compared (bit k) (called back t) m0 m1 z in
    follows to.regs (record {
      a = omega arith;
      below = word_less k t.regs.a t.regs.x m0 m1 b.a b.x m.b0 m.b1 ∙ ap (λ (v : ℕ). less k v (primary_of Ax t)) m.word;
      signed = word_signed k t.regs.a t.regs.x m0 m1 b.a b.x m.b0 m.b1 ∙ ap (λ (v : ℕ). not (less k (turned Ax v) (turned Ax (primary_of Ax t)))) m.word;
    }))
subtract_at k Eax place bounds P rest back t begin follows =
    let near = begin.near in
    let fits = begin.fits in
    let b = begin.bytes in
    let k0 : 0 < 4 = omega arith in
    let k1 : 1 < 4 = omega arith in
    let k2 : 2 < 4 = omega arith in
    let k3 : 3 < 4 = omega arith in
    compare_at k place bounds P (compare_upper_on rest) (sp_of t) (called back t) (omega arith) (omega arith) (near.first k0) (near.reach 1 k1) (λ m0 m1 z1 e0 e1.
    compare_upper_at place bounds P rest (sp_of t) (compared (bit k) (called back t) m0 m1 z1) (omega arith) (omega arith) (near.reach 2 k2) (near.reach 3 k3) (λ m2 m3 z2 e2 e3.
    let m : Operand t.mem (sp_of t) m0 m1 m2 m3 = operand t.mem (sp_of t) m0 m1 m2 m3 b.mem e0 e1 e2 e3 in
    let to : State = compared_on (compared (bit k) (called back t) m0 m1 z1) m2 m3 z2 in
    follows to.regs (record {
      a = omega arith;
      below = long_less k t.regs.a t.regs.x (t.zp 2) (t.zp 3) m0 m1 m2 m3 b.a b.x (b.zp 2) (b.zp 3) m.b0 m.b1 m.b2 m.b3 ∙ ap (λ (v : ℕ). less k v (primary_of Eax t)) m.long;
      signed = long_signed k t.regs.a t.regs.x (t.zp 2) (t.zp 3) m0 m1 m2 m3 b.a b.x (b.zp 2) (b.zp 3) m.b0 m.b1 m.b2 m.b3 ∙ ap (λ (v : ℕ). not (less k (turned Eax v) (turned Eax (primary_of Eax t)))) m.long;
    })))

-- the same with N as the true sign
abbrev signed_on : Bool → Width → List Line → List Line
signed_on k width rest = subtract_on k width (sign_on rest)

abbrev below : Width → Bool → ℕ → ℕ → Bool
below width k a b = less k (turned width a) (turned width b)

unsigned_compares : (op : TosOp) (k : Bool) (width : Width) (taken : Op) (answer : ℕ → ℕ → Bool) → ((r : Regs) (a b : ℕ) → r.c ≡ less k a b → is_taken taken r ≡ not (answer a b)) → Compares op width taken (subtract_on k width) answer
unsigned_compares op k width taken answer test place bounds P rest back t begin follows =
    subtract_at k width place bounds P rest back t begin (λ r tells. follows (record r { n = negative r.a }) [] refl refl refl (test (record r { n = negative r.a }) _ _ tells.below))

signed_compares : (op : TosOp) (k : Bool) (width : Width) (taken : Op) (answer : ℕ → ℕ → Bool) → ((r : Regs) (a b : ℕ) → r.n ≡ not (below width k a b) → is_taken taken r ≡ not (answer a b)) → Compares op width taken (signed_on k width) answer
signed_compares op k width taken answer test place bounds P rest back t begin follows =
    subtract_at k width place bounds P (sign_on rest) back t begin (λ r tells. sign_at place bounds P rest (record (called back t) { regs = r }) tells.a (λ a n z is_n.
    follows (record r { a = a; n = n; z = z }) [] refl refl refl (test (record r { a = a; n = n; z = z }) _ _ (is_n ∙ tells.signed))))

pub eq : (s : RawSetting) (width : Width) → equal_on width (decide_on Bne (drop_lines width)) ≡ lines_of (routines.Tos tos.Eq width) → s.lines (s.routine (routines.Tos tos.Eq width)) ≡ lines_of (routines.Tos tos.Eq width) → MeetsRow s (routines.Tos tos.Eq width)
eq s width = order_meets s tos.Eq width (equal_on width) Bne (λ a b. a == b) (record { branch = refl; straight = refl; dear = refl; gives = refl; result = λ a b. refl }) (λ place bounds P rest back t begin follows. equal_at tos.Eq width place bounds P rest back t begin (λ r ws allowed z0 z1 e. follows r ws allowed z0 z1 (is_not_not r.z ∙ ap not e)))

pub ne : (s : RawSetting) (width : Width) → equal_on width (decide_on Beq (drop_lines width)) ≡ lines_of (routines.Tos tos.Ne width) → s.lines (s.routine (routines.Tos tos.Ne width)) ≡ lines_of (routines.Tos tos.Ne width) → MeetsRow s (routines.Tos tos.Ne width)
ne s width = order_meets s tos.Ne width (equal_on width) Beq (λ a b. not (a == b)) (record { branch = refl; straight = refl; dear = refl; gives = refl; result = λ a b. refl }) (λ place bounds P rest back t begin follows. equal_at tos.Ne width place bounds P rest back t begin (λ r ws allowed z0 z1 e. follows r ws allowed z0 z1 (e ∙ not_not _)))

pub ult : (s : RawSetting) (width : Width) → subtract_on false width (decide_on Bcc (drop_lines width)) ≡ lines_of (routines.Tos tos.ULt width) → s.lines (s.routine (routines.Tos tos.ULt width)) ≡ lines_of (routines.Tos tos.ULt width) → MeetsRow s (routines.Tos tos.ULt width)
ult s width = order_meets s tos.ULt width (subtract_on false width) Bcc (λ a b. nat_lt a b) (record { branch = refl; straight = refl; dear = refl; gives = refl; result = λ a b. refl }) (unsigned_compares tos.ULt false width Bcc (λ a b. nat_lt a b) (λ r a b e. is_not_not r.c ∙ ap not e))

pub ule : (s : RawSetting) (width : Width) → subtract_on true width (decide_on Bcc (drop_lines width)) ≡ lines_of (routines.Tos tos.ULe width) → s.lines (s.routine (routines.Tos tos.ULe width)) ≡ lines_of (routines.Tos tos.ULe width) → MeetsRow s (routines.Tos tos.ULe width)
ule s width = order_meets s tos.ULe width (subtract_on true width) Bcc (λ a b. nat_le a b) (record { branch = refl; straight = refl; dear = refl; gives = refl; result = λ a b. refl }) (unsigned_compares tos.ULe true width Bcc (λ a b. nat_le a b) (λ r a b e. is_not_not r.c ∙ ap not e))

pub ugt : (s : RawSetting) (width : Width) → subtract_on true width (decide_on Bcs (drop_lines width)) ≡ lines_of (routines.Tos tos.UGt width) → s.lines (s.routine (routines.Tos tos.UGt width)) ≡ lines_of (routines.Tos tos.UGt width) → MeetsRow s (routines.Tos tos.UGt width)
ugt s width = order_meets s tos.UGt width (subtract_on true width) Bcs (λ a b. nat_lt b a) (record { branch = refl; straight = refl; dear = refl; gives = refl; result = λ a b. refl }) (unsigned_compares tos.UGt true width Bcs (λ a b. nat_lt b a) (λ r a b e. e ∙ not_le a b))

pub uge : (s : RawSetting) (width : Width) → subtract_on false width (decide_on Bcs (drop_lines width)) ≡ lines_of (routines.Tos tos.UGe width) → s.lines (s.routine (routines.Tos tos.UGe width)) ≡ lines_of (routines.Tos tos.UGe width) → MeetsRow s (routines.Tos tos.UGe width)
uge s width = order_meets s tos.UGe width (subtract_on false width) Bcs (λ a b. nat_le b a) (record { branch = refl; straight = refl; dear = refl; gives = refl; result = λ a b. refl }) (unsigned_compares tos.UGe false width Bcs (λ a b. nat_le b a) (λ r a b e. e ∙ (not_not (nat_lt a b) ∙ ap not (sym (not_le b a)))))

pub lt : (s : RawSetting) (width : Width) → signed_on false width (decide_on Bmi (drop_lines width)) ≡ lines_of (routines.Tos tos.Lt width) → s.lines (s.routine (routines.Tos tos.Lt width)) ≡ lines_of (routines.Tos tos.Lt width) → MeetsRow s (routines.Tos tos.Lt width)
lt s width = order_meets s tos.Lt width (signed_on false width) Bmi (λ a b. nat_lt (turned width a) (turned width b)) (record { branch = refl; straight = refl; dear = refl; gives = refl; result = λ a b. refl }) (signed_compares tos.Lt false width Bmi (λ a b. nat_lt (turned width a) (turned width b)) (λ r a b e. e))

pub le : (s : RawSetting) (width : Width) → signed_on true width (decide_on Bmi (drop_lines width)) ≡ lines_of (routines.Tos tos.Le width) → s.lines (s.routine (routines.Tos tos.Le width)) ≡ lines_of (routines.Tos tos.Le width) → MeetsRow s (routines.Tos tos.Le width)
le s width = order_meets s tos.Le width (signed_on true width) Bmi (λ a b. nat_le (turned width a) (turned width b)) (record { branch = refl; straight = refl; dear = refl; gives = refl; result = λ a b. refl }) (signed_compares tos.Le true width Bmi (λ a b. nat_le (turned width a) (turned width b)) (λ r a b e. e))

pub gt : (s : RawSetting) (width : Width) → signed_on true width (decide_on Bpl (drop_lines width)) ≡ lines_of (routines.Tos tos.Gt width) → s.lines (s.routine (routines.Tos tos.Gt width)) ≡ lines_of (routines.Tos tos.Gt width) → MeetsRow s (routines.Tos tos.Gt width)
gt s width = order_meets s tos.Gt width (signed_on true width) Bpl (λ a b. nat_lt (turned width b) (turned width a)) (record { branch = refl; straight = refl; dear = refl; gives = refl; result = λ a b. refl }) (signed_compares tos.Gt true width Bpl (λ a b. nat_lt (turned width b) (turned width a)) (λ r a b e. is_not_not r.n ∙ ap not (e ∙ (ap not (not_le (turned width a) (turned width b)) ∙ sym (not_not (nat_lt (turned width b) (turned width a)))))))

pub ge : (s : RawSetting) (width : Width) → signed_on false width (decide_on Bpl (drop_lines width)) ≡ lines_of (routines.Tos tos.Ge width) → s.lines (s.routine (routines.Tos tos.Ge width)) ≡ lines_of (routines.Tos tos.Ge width) → MeetsRow s (routines.Tos tos.Ge width)
ge s width = order_meets s tos.Ge width (signed_on false width) Bpl (λ a b. nat_le (turned width b) (turned width a)) (record { branch = refl; straight = refl; dear = refl; gives = refl; result = λ a b. refl }) (signed_compares tos.Ge false width Bpl (λ a b. nat_le (turned width b) (turned width a)) (λ r a b e. is_not_not r.n ∙ ap not (e ∙ sym (not_le (turned width b) (turned width a)))))
