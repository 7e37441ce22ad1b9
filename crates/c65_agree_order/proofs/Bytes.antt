-- Comparisons of bytes.
use Rattle.std.proofs.Common.{◌≡◌, ℕ, ◌+◌, ◌<◌, ◌≤◌, ◌⊎◌, inl, inr, max, List, [], ◌∷◌, ◌++◌, length, ℤ, Bool, true, false, Some, refl, sym, ap, ◌∙◌, subst, arith, length-append, append_assoc}
use Rattle.std.specs.Prelude.{Ok}
use Rattle.std.specs.Bool.{beq}
use Rattle.c65_base.specs.declared.operators.BinaryOp.{BinaryOp}
use Rattle.c65_ints.specs.declared.types.IntType.{IntType}
use Rattle.c65_ints.specs.Ranges.{InRange, residue}
use Rattle.c65_meaning.specs.Integers.{truth}
use Rattle.c65_meaning.specs.Store.{Value, Whole, Number}
use Rattle.c65_meaning.specs.Items.{Item, Apply2}
use Rattle.c65_meaning.specs.Operators.{calculated}
use Rattle.c65_meaning.specs.State.{Scene, Running}
use Rattle.c65_code.specs.declared.line.Line.{Line}
use Rattle.c65_code.specs.declared.line.Line.TheVariants.{Label}
use Rattle.c65_code.specs.declared.routine.Width.TheVariants.{Ax}
use Rattle.c65_code.specs.LineState.{State, IsBytes}
use Rattle.c65_code.specs.Placement.{IsPlacement}
use Rattle.c65_code.specs.Comes.{Seen}
use Rattle.c65_gendirect.specs.declared.bytes.OperandByte.{OperandByte}
use Rattle.c65_gendirect.specs.declared.relation.Relation.{Relation}
use Rattle.c65_gendirect.specs.Compare.{relation_of, mirrored, compare_byte_code}
use Rattle.c65_genshift.specs.Shifts.{labelled}
use Rattle.c65_genexpr.specs.Comparing.{relation_by, low_code}
use Rattle.c65_genexpr.specs.Held.{held_low, keep_byte_code}
use Rattle.c65_agree_store.specs.Stands.{Placing, Banks}
use Rattle.c65_agree_state.specs.World.{World, Active, lines_of, place_in, HasAt, HasTurns}
use Rattle.c65_agree_state.specs.Follows.{Follows}
use Rattle.c65_agree_state.specs.Exprs.{Ready, Valued, MayFit, Kept}
use Rattle.c65_agree_state.proofs.Followed.{follows_weaken}
use Rattle.c65_agree_state.proofs.Nodes.{has_front, has_back, ready_stays}
use Rattle.c65_agree_state.proofs.Parts.{kept_goes_on}
use Rattle.c65_agree_rows.proofs.Quiet.{write_other}
use Rattle.c65_agree_frame.specs.Leads.{Leads}
use Rattle.c65_agree_frame.proofs.Leads.{kept_zero, lines_lead}
use Rattle.c65_agree_load.proofs.Kept.{is_on, kept_later, ready_later}
use Rattle.c65_agree_put.proofs.Fits.{may_fit}
use Rattle.c65_agree_direct.specs.Operands.{byte_in, MayRead, Loads}
use Rattle.c65_agree_operate.specs.Manners.{Manner, IsHeld, IsLeft}
use Rattle.c65_agree_operate.specs.Laws.{on_numbers}
use Rattle.c65_agree_operate.proofs.Manners.{left_then, left_held, dark}
use Rattle.c65_agree_operate.proofs.Exact.{at_regs, operand_leads, registers_kept, registers_held}
use Rattle.c65_agree_operate_bytes.proofs.DirectLefts.{less_left}
use Rattle.c65_agree_operate_bytes.proofs.Held.{low_kept}
use Rattle.c65_agree_compare.specs.Branches.{RestOfSettled, SettlesIn}
use Rattle.c65_agree_compare.proofs.Ways.{LeadsBy, label_by}
use Rattle.c65_agree_compare.proofs.Equal.{OnlyRegs}
use Rattle.c65_agree_compare.proofs.Directs.{order_compares}
use Rattle.c65_agree_compare.proofs.Last.{settled_follows}
use Rattle.c65_agree_order.specs.Bytes.{IsByte, ByteIs, BytesIn, IsByteRead, IsByteBehind}
use Rattle.c65_agree_order.specs.Laws.{ReadBytesCome, BytesSettle, BytesBehindSettle, HeldBytesSettle}
use Rattle.c65_agree_order.proofs.Tells.{tells, sense_tells, mirrored_tells, byte_below, bytes_tell}
use Rattle.c65_agree_order.proofs.Leading.{by_weaker, byte_leads}

pub read_bytes_come : ReadBytesCome
read_bytes_come g a m t needs pushed work x placed few reads n w p k vs c q b u seen has ready turns rest =
    reads needs n w k vs c q b (place_in g a p) u seen ready turns (λ j v lt fit byte there.
    follows_weaken g j (2 + (w + 2600 + m.over)) (w + 4000) (Running k (v ∷ vs) c) (place_in g a p) u seen (omega (arith, few))
    (operand_leads g a u placed (is_on g a pushed needs c q b u placed ready) Loads x u.regs there.0 ready.joins.bytes j (w + 2600 + m.over) p c.turns (Running k (v ∷ vs) c) seen has turns (λ u2 later h turned.
    let only : u2 ≡ at_regs u u2.regs = h.0 ∙ ap (at_regs u) (sym (ap (λ (s : State). s.regs) h.0)) in
    let loaded : u2.regs.a ≡ byte_in g u x = ap (λ (s : State). s.regs.a) h.0 in
    rest j v c q b u2 later lt (registers_kept g a pushed needs c q b u u2 placed ready only h.1) (may_fit (Number t) v tt fit) byte (subst (ByteIs v) (sym loaded) there.1) (left_held m c u u2 (registers_held u u2 only)) turned)))

module _ (g : World) (a : Active) (op : BinaryOp) (r : Relation) (t : IntType) (s : Bool) (to own pushed needs : ℕ) (placed : IsPlacement g.code g.place) (by_op : relation_of op ≡ Some r) where
  abbrev tail : Relation → OperandByte → List Line
  tail z x = compare_byte_code z x to ++ Label own ∷ []

  -- the lines, where A is one byte and the other one is read
  pub compares : (z : Relation) (x : OperandByte) (c : Scene) (w : Placing) (b : Banks) (u : State) (m n : ℤ) (y : Bool) → Ready g a pushed needs c w b u → u.regs.a ≡ residue 256 m → MayRead g u x → byte_in g u x ≡ residue 256 n → tells z false Ax (residue 256 m) (residue 256 n) ≡ y → LeadsBy g a (tail z x) 60 to y u (OnlyRegs u)
  compares z x c w b u m n y ready e may f h =
      label_by g a (compare_byte_code z x to) own 60 to y u (OnlyRegs u)
      (by_weaker g a (compare_byte_code z x to) 5 60 to y y u (OnlyRegs u) (omega arith) refl
      (byte_leads g a u placed (is_on g a pushed needs c w b u placed ready) to x may (omega (arith, f, byte_below n)) z y
      (ap (λ i. tells z false Ax i (byte_in g u x)) e ∙ ap (tells z false Ax (residue 256 m)) f ∙ h)))

  module _ (va vb : Value) (c : Scene) (w : Placing) (b : Banks) (u : State) (x : OperandByte) (ready : Ready g a pushed needs c w b u) (byte : IsByte va) (byte2 : IsByte vb) (may : MayRead g u x) (p q : ℤ) (y : Bool) (e : va ≡ Whole p) (f : vb ≡ Whole q) (fits1 : InRange t p) (fits2 : InRange t q) (gives : calculated op t p q ≡ Ok (Whole (truth y))) where
    pub asked : tells (relation_by s r) false Ax (residue 256 p) (residue 256 q) ≡ beq y s
    asked = sense_tells s r false Ax (residue 256 p) (residue 256 q) y (bytes_tell op r t p q y by_op (subst IsByte e byte) (subst IsByte f byte2) fits1 fits2 gives)

    -- the left number is in A
    pub forth : ByteIs va u.regs.a → ByteIs vb (byte_in g u x) → LeadsBy g a (tail (relation_by s r) x) 60 to (beq y s) u (OnlyRegs u)
    forth here there = compares (relation_by s r) x c w b u p q (beq y s) ready (subst (λ v. ByteIs v u.regs.a) e here) may (subst (λ v. ByteIs v (byte_in g u x)) f there) asked

    -- the right number is
    pub back : ByteIs vb u.regs.a → ByteIs va (byte_in g u x) → LeadsBy g a (tail (mirrored (relation_by s r)) x) 60 to (beq y s) u (OnlyRegs u)
    back here there = compares (mirrored (relation_by s r)) x c w b u q p (beq y s) ready (subst (λ v. ByteIs v u.regs.a) f here) may (subst (λ v. ByteIs v (byte_in g u x)) e there) (mirrored_tells (relation_by s r) false Ax (residue 256 p) (residue 256 q) ∙ asked)

-- ---- one side is read

-- the left side is in A, and the right one is read where it lies
module _ (g : World) (a : Active) (m : Manner) (op : BinaryOp) (r : Relation) (t : IntType) (s : Bool) (to needs more_needs pushed : ℕ) (first second : List Item → List Item) (front ls : List Line) (x : OperandByte) (placed : IsPlacement g.code g.place) (by_op : relation_of op ≡ Some r)
    (leads : (c : Scene) (w : Placing) (b : Banks) (u : State) (va vb : Value) → Ready g a pushed more_needs c w b u → IsByte va → IsByte vb → ByteIs va u.regs.a → MayRead g u x × ByteIs vb (byte_in g u x) → (p q : ℤ) (y : Bool) → va ≡ Whole p → vb ≡ Whole q → InRange t p → InRange t q → calculated op t p q ≡ Ok (Whole (truth y)) → LeadsBy g a ls 60 to (beq y s) u (OnlyRegs u)) where
  pub front_settles : BytesIn g a m t first needs pushed front → IsByteRead g a pushed t second x → SettlesIn g a m s to (on_numbers op t t first second) (max needs (1 + more_needs)) pushed (front ++ ls)
  front_settles before reads n weight p k vs c w b u seen has ready turns rest =
      let ready0 : Ready g a pushed needs c w b u = record { joins = ready.joins; sp = ready.sp; room = omega (arith, ready.room); none_pushed = ready.none_pushed } in
      let ends : p + length front + length ls ≡ p + length (front ++ ls) = omega (arith, length-append front ls) in
      before n weight p (second (Apply2 op (Number t) (Number t) ∷ k)) vs c w b u seen (has_front (lines_of g a) p front ls has) ready0 turns (λ j va c1 w1 b1 s1 seen1 lt kept1 fits1 byte1 here left1 turned1.
      let ready1 : Ready g a pushed more_needs c1 w1 b1 s1 = ready_stays g a pushed (max needs (1 + more_needs)) more_needs c c1 w w1 b b1 u s1 (omega arith) ready kept1 in
      reads more_needs j (weight + 2600 + m.over) (Apply2 op (Number t) (Number t) ∷ k) (va ∷ vs) c1 w1 b1 (place_in g a (p + length front)) s1 seen1 ready1 turned1 (λ i vb lt2 fit byte2 there.
      settled_follows g a m op t s to placed (order_compares op r by_op) pushed more_needs n weight (p + length (front ++ ls)) (p + length front) ls ends k vs c w b u rest (has_back (lines_of g a) p front ls has) c1 w1 b1 s1 ready1 kept1 left1 va vb fits1 (may_fit (Number t) vb tt fit)
      (λ y z told e f one two gives. leads c1 w1 b1 s1 va vb ready1 byte1 byte2 here there y z told e f one two gives)
      seen1 turned1 (weight + 2600 + m.over + 4000) (omega arith) i (omega (arith, lt, lt2))))

-- the right side is in A, and the left one is read behind its lines
module _ (g : World) (a : Active) (m : Manner) (pure : Bool) (op : BinaryOp) (r : Relation) (t : IntType) (s : Bool) (to needs more_needs pushed : ℕ) (first second : List Item → List Item) (front ls : List Line) (x : OperandByte) (placed : IsPlacement g.code g.place) (by_op : relation_of op ≡ Some r) (wanted : m.pure ≡ true → pure ≡ true)
    (leads : (c : Scene) (w : Placing) (b : Banks) (u : State) (va vb : Value) → Ready g a pushed more_needs c w b u → IsByte va → IsByte vb → ByteIs vb u.regs.a → MayRead g u x × ByteIs va (byte_in g u x) → (p q : ℤ) (y : Bool) → va ≡ Whole p → vb ≡ Whole q → InRange t p → InRange t q → calculated op t p q ≡ Ok (Whole (truth y)) → LeadsBy g a ls 60 to (beq y s) u (OnlyRegs u)) where
  pub back_settles : IsByteBehind g a pure pushed t first x → BytesIn g a (record m { pure = pure }) t second more_needs pushed front → SettlesIn g a m s to (on_numbers op t t first second) (max needs (1 + more_needs)) pushed (front ++ ls)
  back_settles reads behind n weight p k vs c w b u seen has ready turns rest =
      let ready1 : Ready g a pushed more_needs c w b u = record { joins = ready.joins; sp = ready.sp; room = omega (arith, ready.room); none_pushed = ready.none_pushed } in
      let ends : p + length front + length ls ≡ p + length (front ++ ls) = omega (arith, length-append front ls) in
      reads more_needs n weight (second (Apply2 op (Number t) (Number t) ∷ k)) vs c w b (place_in g a p) u seen ready1 turns (λ j va lt fit byte1 told.
      follows_weaken g j weight (weight + 4000) (Running (second (Apply2 op (Number t) (Number t) ∷ k)) (va ∷ vs) c) (place_in g a p) u seen (omega arith)
      (behind j weight p (Apply2 op (Number t) (Number t) ∷ k) (va ∷ vs) c w b u seen (has_front (lines_of g a) p front ls has) ready1 turns (λ i vb c3 w3 b3 s3 seen3 lt3 kept3 fits3 byte3 here left3 turned3.
      let ready3 : Ready g a pushed more_needs c3 w3 b3 s3 = ready_stays g a pushed more_needs more_needs c c3 w w3 b b3 u s3 (omega arith) ready1 kept3 in
      settled_follows g a m op t s to placed (order_compares op r by_op) pushed more_needs n weight (p + length (front ++ ls)) (p + length front) ls ends k vs c w b u rest (has_back (lines_of g a) p front ls has) c3 w3 b3 s3 ready3 kept3 (less_left m pure c c3 u s3 wanted left3) va vb (may_fit (Number t) va tt fit) fits3
      (λ y z truth_is e f one two gives. leads c3 w3 b3 s3 va vb ready3 byte1 byte3 here (told more_needs c3 w3 b3 s3 left3.scene kept3.grows ready3) y z truth_is e f one two gives)
      seen3 turned3 (weight + 2600 + m.over) (omega arith) i (omega (arith, lt, lt3)))))

-- the label of a comparison of bytes stands behind all
pub whole_is : (front : List Line) (z : Relation) (x : OperandByte) (to own : ℕ) → front ++ (compare_byte_code z x to ++ Label own ∷ []) ≡ (front ++ compare_byte_code z x to) ++ Label own ∷ []
whole_is front z x to own = sym (append_assoc front (compare_byte_code z x to) (Label own ∷ []))

pub bytes_settle : BytesSettle
bytes_settle g a m op r t low x s to own needs more_needs pushed first second left right placed by_op before reads =
    subst (λ ls. SettlesIn g a m s to (on_numbers op t t first second) (max needs (1 + more_needs)) pushed ls) (whole_is (low_code low left) (relation_by s r) x to own)
    (front_settles g a m op r t s to needs more_needs pushed first second (low_code low left) (compare_byte_code (relation_by s r) x to ++ Label own ∷ []) x placed by_op
    (λ c w b u va vb ready byte byte2 here there p q y e f one two gives. forth g a op r t s to own pushed more_needs placed by_op va vb c w b u x ready byte byte2 there.0 p q y e f one two gives here there.1) before reads)

pub bytes_behind_settle : BytesBehindSettle
bytes_behind_settle g a m pure op r t low x s to own needs more_needs pushed first second left right placed by_op wanted reads behind =
    subst (λ ls. SettlesIn g a m s to (on_numbers op t t first second) (max needs (1 + more_needs)) pushed ls) (whole_is (low_code low right) (mirrored (relation_by s r)) x to own)
    (back_settles g a m pure op r t s to needs more_needs pushed first second (low_code low right) (compare_byte_code (mirrored (relation_by s r)) x to ++ Label own ∷ []) x placed by_op wanted
    (λ c w b u va vb ready byte byte2 here there p q y e f one two gives. back g a op r t s to own pushed more_needs placed by_op va vb c w b u x ready byte byte2 there.0 p q y e f one two gives here there.1) reads behind)

-- ---- the left side waits in ptr2

abbrev held : State → State
held t = record t { zp = low_kept t }

module _ (g : World) (a : Active) (pushed needs : ℕ) (c : Scene) (w : Placing) (k : Banks) (t : State) (placed : IsPlacement g.code g.place) (r : Ready g a pushed needs c w k t) where
  others_stay : (i : ℕ) → (i < 2) ⊎ (20 ≤ i) → low_kept t i ≡ t.zp i
  others_stay i (inl h) = write_other t.zp 10 t.regs.a i (λ e. omega (arith, e, h))
  others_stay i (inr h) = write_other t.zp 10 t.regs.a i (λ e. omega (arith, e, h))

  hold_leads : Leads g a keep_byte_code 1 t (λ u. (u ≡ held t) × IsBytes u)
  hold_leads = lines_lead g a keep_byte_code t placed (is_on g a pushed needs c w k t placed r) (refl, (omega arith, λ h. omega arith), tt, kept_zero t 10 t.regs.a (omega arith), tt)

  kept_held : IsBytes (held t) → Kept g a c w k t c w k (held t)
  kept_held b = kept_later g a pushed needs c w k t placed r t.regs (low_kept t) others_stay b

  ready_held : IsBytes (held t) → Ready g a pushed needs c w k (held t)
  ready_held b = ready_later g a pushed needs c w k t placed r t.regs (low_kept t) others_stay b

module _ (g : World) (a : Active) (m : Manner) (op : BinaryOp) (r : Relation) (t : IntType) (s : Bool) (to own needs more_needs pushed : ℕ) (first second : List Item → List Item) (left right : List Line) (placed : IsPlacement g.code g.place) (heavy : m.light ≡ false) (by_op : relation_of op ≡ Some r) where
  abbrev lit : Manner
  lit = record m { light = true }

  abbrev end : List Line
  end = compare_byte_code (mirrored (relation_by s r)) held_low to ++ Label own ∷ []

  abbrev all : List Line
  all = left ++ (keep_byte_code ++ (right ++ end))

  module _ (n weight p : ℕ) (k : List Item) (vs : List Value) (c : Scene) (w : Placing) (b : Banks) (u : State) (rest : RestOfSettled g a m s to n weight (p + length all) k vs c w b u)
      (c1 : Scene) (w1 : Placing) (b1 : Banks) (s1 : State) (va : Value) (kept1 : Kept g a c w b u c1 w1 b1 s1) (fits1 : MayFit Valued (Number t) va) (byte1 : IsByte va) (here1 : ByteIs va s1.regs.a) (left1 : IsLeft m c u c1 s1) (ready1 : Ready g a pushed more_needs c1 w1 b1 s1) (bytes : IsBytes (held s1))
      (c3 : Scene) (w3 : Placing) (b3 : Banks) (s3 : State) (vb : Value) (kept3 : Kept g a c1 w1 b1 (held s1) c3 w3 b3 s3) (fits3 : MayFit Valued (Number t) vb) (byte3 : IsByte vb) (here3 : ByteIs vb s3.regs.a) (left3 : IsLeft lit c1 (held s1) c3 s3) where
    abbrev at : ℕ
    at = p + length left + length keep_byte_code + length right

    ends : at + length end ≡ p + length all
    ends = omega (arith, length-append left (keep_byte_code ++ (right ++ end)), length-append keep_byte_code (right ++ end), length-append right end)

    ready3 : Ready g a pushed more_needs c3 w3 b3 s3
    ready3 = ready_stays g a pushed more_needs more_needs c1 c3 w1 w3 b1 b3 (held s1) s3 (omega arith) (ready_held g a pushed more_needs c1 w1 b1 s1 placed ready1 bytes) kept3

    kept_both : Kept g a c w b u c3 w3 b3 s3
    kept_both = kept_goes_on g a c c1 c3 w w1 w3 b b1 b3 u s1 s3 kept1 (kept_goes_on g a c1 c1 c3 w1 w1 w3 b1 b1 b3 s1 (held s1) s3 (kept_held g a pushed more_needs c1 w1 b1 s1 placed ready1 bytes) kept3)

    left_both : IsLeft m c u c3 s3
    left_both =
        let scene : IsLeft m c1 s1 c3 s3 = record { scene = left3.scene; held = dark m.light (IsHeld s1 s3) heavy } in
        left_then m c c1 c3 u s1 s3 left1 scene

    waits : s3.zp 10 ≡ s1.regs.a
    waits = left3.held.low

    followed : (i : ℕ) → i ≤ n → (seen : Seen) → HasAt (lines_of g a) at end → HasTurns g c3.turns (place_in g a at) seen → Follows g i (weight + 2598 + 2600 + m.over) (Running (Apply2 op (Number t) (Number t) ∷ k) (vb ∷ va ∷ vs) c3) (place_in g a at) s3 seen
    followed i le seen has turned =
        settled_follows g a m op t s to placed (order_compares op r by_op) pushed more_needs n weight (p + length all) at end ends k vs c w b u rest has c3 w3 b3 s3 ready3 kept_both left_both va vb fits1 fits3
        (λ y z told e f one two gives. back g a op r t s to own pushed more_needs placed by_op va vb c3 w3 b3 s3 held_low ready3 byte1 byte3 (omega arith) y z told e f one two gives here3 (subst (ByteIs va) (sym waits) here1))
        seen turned (weight + 2598 + 2600 + m.over) (omega arith) i le

  held_settles : BytesIn g a m t first needs pushed left → BytesIn g a lit t second more_needs pushed right → SettlesIn g a m s to (on_numbers op t t first second) (max needs (1 + more_needs)) pushed all
  held_settles before behind n weight p k vs c w b u seen has ready turns rest =
      let lines = lines_of g a in
      let has1 : HasAt lines (p + length left) (keep_byte_code ++ (right ++ end)) = has_back lines p left (keep_byte_code ++ (right ++ end)) has in
      let has2 : HasAt lines (p + length left + length keep_byte_code) (right ++ end) = has_back lines (p + length left) keep_byte_code (right ++ end) has1 in
      let ready0 : Ready g a pushed needs c w b u = record { joins = ready.joins; sp = ready.sp; room = omega (arith, ready.room); none_pushed = ready.none_pushed } in
      before n weight p (second (Apply2 op (Number t) (Number t) ∷ k)) vs c w b u seen (has_front lines p left (keep_byte_code ++ (right ++ end)) has) ready0 turns (λ j va c1 w1 b1 s1 seen1 lt kept1 fits1 byte1 here1 left1 turned1.
      let ready1 : Ready g a pushed more_needs c1 w1 b1 s1 = ready_stays g a pushed (max needs (1 + more_needs)) more_needs c c1 w w1 b b1 u s1 (omega arith) ready kept1 in
      follows_weaken g j (1 + (weight + 2598)) (weight + 2600 + m.over) (Running (second (Apply2 op (Number t) (Number t) ∷ k)) (va ∷ vs) c1) (place_in g a (p + length left)) s1 seen1 (omega arith)
      (hold_leads g a pushed more_needs c1 w1 b1 s1 placed ready1 j (weight + 2598) (p + length left) c1.turns (Running (second (Apply2 op (Number t) (Number t) ∷ k)) (va ∷ vs) c1) seen1 (has_front lines (p + length left) keep_byte_code (right ++ end) has1) turned1 (λ s2 seen2 kept2 turned2.
      let bytes : IsBytes (held s1) = subst IsBytes kept2.0 kept2.1 in
      subst (λ z. Follows g j (weight + 2598) (Running (second (Apply2 op (Number t) (Number t) ∷ k)) (va ∷ vs) c1) (place_in g a (p + length left + length keep_byte_code)) z seen2) (sym kept2.0)
      (behind j (weight + 2598) (p + length left + length keep_byte_code) (Apply2 op (Number t) (Number t) ∷ k) (va ∷ vs) c1 w1 b1 (held s1) seen2 (has_front lines (p + length left + length keep_byte_code) right end has2) (ready_held g a pushed more_needs c1 w1 b1 s1 placed ready1 bytes) turned2 (λ i vb c3 w3 b3 s3 seen3 lt3 kept3 fits3 byte3 here3 left3 turned3.
      followed n weight p k vs c w b u rest c1 w1 b1 s1 va kept1 fits1 byte1 here1 left1 ready1 bytes c3 w3 b3 s3 vb kept3 fits3 byte3 here3 left3 i (omega (arith, lt, lt3)) seen3 (has_back lines (p + length left + length keep_byte_code) right end has2) turned3)))))

  -- the label of the comparison stands behind all
  front_is : labelled own (left ++ (keep_byte_code ++ (right ++ compare_byte_code (mirrored (relation_by s r)) held_low to))) ≡ all
  front_is =
      let c : List Line = compare_byte_code (mirrored (relation_by s r)) held_low to in
      let l : List Line = Label own ∷ [] in
      append_assoc left (keep_byte_code ++ (right ++ c)) l ∙ ap (λ ls. left ++ (keep_byte_code ++ ls)) (append_assoc right c l)

pub held_bytes_settle : HeldBytesSettle
held_bytes_settle g a m op r t s to own needs more_needs pushed first second left right placed heavy by_op before behind =
    subst (λ ls. SettlesIn g a m s to (on_numbers op t t first second) (max needs (1 + more_needs)) pushed ls) (sym (front_is g a m op r t s to own needs more_needs pushed first second left right placed heavy by_op))
    (held_settles g a m op r t s to own needs more_needs pushed first second left right placed heavy by_op before behind)
