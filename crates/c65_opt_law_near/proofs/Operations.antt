-- Operations, branches, jumps, pushes and pulls from near states.
use Rattle.std.proofs.Common.{◌≡◌, ℕ, ◌<◌, ◌≤◌, ◌==◌, ◌+◌, ◌*◌, ◌%◌, Bool, true, false, if◌then◌else◌, ◌⊎◌, inl, inr, List, [], ◌∷◌, refl, sym, subst, ap, ◌∙◌, arith}
use Rattle.std.proofs.lemmas.Bool.{and_parts, cases_lt}
use Rattle.c65_mach.specs.declared.rows.Op.{Op}
use Rattle.c65_mach.specs.declared.rows.Op.TheVariants as ops
use Rattle.c65_mach.specs.declared.rows.Mode.{Mode}
use Rattle.c65_mach.specs.declared.rows.Mode.TheVariants.{Accumulator, ZeroPage, ZeroPageX, ZeroPageY, Absolute, AbsoluteX, AbsoluteY, IndirectX, IndirectY, ZeroPageIndirect}
use Rattle.c65_mach.specs.State.{Regs}
use Rattle.c65_mach.specs.Step.{after as address_after, negative, with_a, with_x, Kind, Reads, Stores, Changes, Registers, Branches, Moves, kind_of}
use Rattle.c65_code.specs.declared.line.Operand.{Operand}
use Rattle.c65_code.specs.declared.line.Operand.TheVariants.{Zero, To}
use Rattle.c65_code.specs.declared.line.Callee.TheVariants as callees
use Rattle.c65_code.specs.declared.line.Line.{Line}
use Rattle.c65_code.specs.declared.line.Line.TheVariants.{Label, Do, Call}
use Rattle.c65_code.specs.declared.parts.Part.{Part}
use Rattle.c65_code.specs.declared.parts.Part.TheVariants.{A, X, Y, Zp, N, V, Z, C}
use Rattle.c65_code.specs.declared.parts.RegSet.{RegSet}
use Rattle.c65_code.specs.Access.{byte_at, pointer_at, register_reads, register_sets, address_reads, operand_bytes, operand_byte, is_read, is_written, return_reads, op_reads, op_sets}
use Rattle.c65_code.specs.Effects.{zero_page}
use Rattle.c65_code.specs.Forms.{Form, op_form, form_of}
use Rattle.c65_code.specs.LineState.{State, sp_of, s_of, zero_word, Same}
use Rattle.c65_code.specs.Moves.{Ref, Given, ZeroAt, MemAt, ref_of, value_at, put, effect, Does}
use Rattle.c65_code.specs.Parts.{has_part, no_parts, set_of, union_of}
use Rattle.c65_code.proofs.PartLaws.{has_part-empty}
use Rattle.c65_code.specs.Placement.{Placement, Setting, word_of, stack_start}
use Rattle.c65_code.specs.Segments.{has_row, takes, is_fit}
use Rattle.c65_code.specs.Steady.{IsOpen, Writes, IsAllowed, IsWithin}
use Rattle.c65_know.specs.Rows.{worked}
use Rattle.c65_know_law.proofs.Registers.{SameIn, AgreeOn, is_in, IsPlain, stays, gives, writes_one}
use Rattle.c65_know_law.proofs.Rows.{taken}
use Rattle.c65_opt_law_near.specs.Near.{before, Near}
use Rattle.c65_opt_law_near.specs.Laws.{IsLow, IsOperation, OperationsStayNear, OperationsStaySteady, CalmStays}
use Rattle.c65_opt_law_near.proofs.Sets.{in_left, in_right, in_none, read_before, kept_before, IsReg, set_has, set_lacks, sets_no_byte, byte_has, byte_lacks, byte_lacks_reg, zero_page_has, same_in, agree_on, agree_for}
use Rattle.c65_opt_law_near.proofs.Puts.{IsAboveSp, IsNotAt, near_put}

-- ---- what holds at every moment

same_sp : (live : RegSet) (t u : State) → Near live t u → sp_of t ≡ sp_of u
same_sp live t u n = let low : t.zp 0 ≡ u.zp 0 = n.sp_low in let high : t.zp 1 ≡ u.zp 1 = n.sp_high in omega arith

pub calm_stays : CalmStays
calm_stays s live t u low calm bytes se n =
    let sp : sp_of t ≡ sp_of u = same_sp live t u n in
    record {
      low = subst (λ (x : ℕ). stack_start ≤ x) sp calm.low;
      high = subst (λ (x : ℕ). x ≤ 65520) sp calm.high;
      hard = subst (λ (x : ℕ). 3 ≤ x) se calm.hard;
      constant = λ b v e. sym (n.mem b (inl (low.constant_below b v e))) ∙ calm.constant b v e;
      bytes = bytes;
    }

-- ---- one operation

module _ (s : Setting) (low : IsLow s.place) (out after : RegSet) (op : Op) (mode : Mode) (operand : Operand) (fit : takes op mode operand ≡ true) (t u : State) (n : Near (before out (Do op mode operand) after) t u) where
  abbrev w : ℕ
  w = word_of s.place operand

  read : (p : Part) → has_part (op_reads out op mode operand) p ≡ true → Same p t u
  read p h = n.part p (read_before out (Do op mode operand) after p h)

  kept : (p : Part) → has_part after p ≡ true → has_part (op_sets op mode operand) p ≡ false → Same p t u
  kept p h k = n.part p (kept_before out (Do op mode operand) after p h k)

  register : (p : Part) → IsReg p → is_in p (register_reads op mode) ≡ true → Same p t u
  register p r h = read p (in_left _ _ p (in_right (return_reads out op) (set_of (register_reads op mode)) p (set_has (register_reads op mode) p r h)))

  registers : AgreeOn (register_reads op mode) t.regs u.regs
  registers = agree_on (register_reads op mode) t.regs u.regs one
    where
      one : (p : Part) → is_in p (register_reads op mode) ≡ true → SameIn p t.regs u.regs
      one (Zp i) h = tt
      one A h = register A tt h
      one X h = register X tt h
      one Y h = register Y tt h
      one N h = register N tt h
      one V h = register V tt h
      one Z h = register Z tt h
      one C h = register C tt h

  addressed : (p : Part) → has_part (address_reads mode operand) p ≡ true → Same p t u
  addressed p h = read p (in_right _ _ p (in_left (address_reads mode operand) _ p h))

  worked_on : (p : Part) → is_read (kind_of op) ≡ true → has_part (operand_bytes mode operand) p ≡ true → Same p t u
  worked_on p k h = read p (in_right _ _ p (in_right (address_reads mode operand) _ p (subst (λ (b : Bool). has_part (if b then operand_bytes mode operand else no_parts) p ≡ true) (sym k) h)))

  -- a byte of the zero page that is read where it is a part
  byte : (i : ℕ) → (i < 26 → t.zp i ≡ u.zp i) → t.zp i ≡ u.zp i
  byte i h = pick (cases_lt i 26)
    where
      pick : (i < 26) ⊎ (26 ≤ i) → t.zp i ≡ u.zp i
      pick (inl lt) = h lt
      pick (inr ge) = n.high i ge

-- where the operand is, is the same in both
ref_same : (s : Setting) (low : IsLow s.place) (out after : RegSet) (op : Op) (mode : Mode) (operand : Operand) (t u : State) → takes op mode operand ≡ true → Near (before out (Do op mode operand) after) t u
    → ref_of mode (word_of s.place operand) t ≡ ref_of mode (word_of s.place operand) u
ref_same s low out after op ZeroPageX operand t u fit n = ap (λ (x : ℕ). ZeroAt ((word_of s.place operand + x) % 256)) (addressed s low out after op ZeroPageX operand fit t u n X refl)
ref_same s low out after op ZeroPageY operand t u fit n = ap (λ (y : ℕ). ZeroAt ((word_of s.place operand + y) % 256)) (addressed s low out after op ZeroPageY operand fit t u n Y refl)
ref_same s low out after op AbsoluteX operand t u fit n = ap (λ (x : ℕ). MemAt (address_after (word_of s.place operand) x)) (addressed s low out after op AbsoluteX operand fit t u n X refl)
ref_same s low out after op AbsoluteY operand t u fit n = ap (λ (y : ℕ). MemAt (address_after (word_of s.place operand) y)) (addressed s low out after op AbsoluteY operand fit t u n Y refl)
ref_same s low out after op IndirectX operand t u fit n =
    let w : ℕ = word_of s.place operand in
    let any : ((i : ℕ) → t.zp i ≡ u.zp i) = λ i. byte s low out after op IndirectX operand fit t u n i (λ lt. addressed s low out after op IndirectX operand fit t u n (Zp i) (in_right (set_of (X ∷ [])) zero_page (Zp i) (zero_page_has i lt))) in
    let x : t.regs.x ≡ u.regs.x = addressed s low out after op IndirectX operand fit t u n X (in_left (set_of (X ∷ [])) zero_page X refl) in
    let i : ℕ = (w + t.regs.x) % 256 in
    ap (λ (v : ℕ). MemAt (v + 256 * t.zp ((i + 1) % 256))) (any i) ∙ (ap (λ (v : ℕ). MemAt (u.zp i + 256 * v)) (any ((i + 1) % 256)) ∙ ap (λ (y : ℕ). MemAt (zero_word u ((w + y) % 256))) x)
ref_same s low out after op IndirectY (Zero i) t u fit n =
    let at : ((p : Part) → has_part (pointer_at (Zero i)) p ≡ true → Same p t u) = λ p h. addressed s low out after op IndirectY (Zero i) fit t u n p (in_right (set_of (Y ∷ [])) (pointer_at (Zero i)) p h) in
    let first : t.zp i ≡ u.zp i = byte s low out after op IndirectY (Zero i) fit t u n i (λ lt. at (Zp i) (in_left (byte_at i) (byte_at ((i + 1) % 256)) (Zp i) (byte_has i lt))) in
    let second : t.zp ((i + 1) % 256) ≡ u.zp ((i + 1) % 256) = byte s low out after op IndirectY (Zero i) fit t u n ((i + 1) % 256) (λ lt. at (Zp ((i + 1) % 256)) (in_right (byte_at i) (byte_at ((i + 1) % 256)) (Zp ((i + 1) % 256)) (byte_has ((i + 1) % 256) lt))) in
    let y : t.regs.y ≡ u.regs.y = addressed s low out after op IndirectY (Zero i) fit t u n Y (in_left (set_of (Y ∷ [])) (pointer_at (Zero i)) Y refl) in
    ap (λ (v : ℕ). MemAt (address_after (v + 256 * t.zp ((i + 1) % 256)) t.regs.y)) first ∙ (ap (λ (v : ℕ). MemAt (address_after (u.zp i + 256 * v) t.regs.y)) second ∙ ap (λ (v : ℕ). MemAt (address_after (zero_word u i) v)) y)
ref_same s low out after op IndirectY _ t u fit n = absurd (cc)
ref_same s low out after op ZeroPageIndirect (Zero i) t u fit n =
    let at : ((p : Part) → has_part (pointer_at (Zero i)) p ≡ true → Same p t u) = λ p h. addressed s low out after op ZeroPageIndirect (Zero i) fit t u n p h in
    let first : t.zp i ≡ u.zp i = byte s low out after op ZeroPageIndirect (Zero i) fit t u n i (λ lt. at (Zp i) (in_left (byte_at i) (byte_at ((i + 1) % 256)) (Zp i) (byte_has i lt))) in
    let second : t.zp ((i + 1) % 256) ≡ u.zp ((i + 1) % 256) = byte s low out after op ZeroPageIndirect (Zero i) fit t u n ((i + 1) % 256) (λ lt. at (Zp ((i + 1) % 256)) (in_right (byte_at i) (byte_at ((i + 1) % 256)) (Zp ((i + 1) % 256)) (byte_has ((i + 1) % 256) lt))) in
    ap (λ (v : ℕ). MemAt (v + 256 * t.zp ((i + 1) % 256))) first ∙ ap (λ (v : ℕ). MemAt (u.zp i + 256 * v)) second
ref_same s low out after op ZeroPageIndirect _ t u fit n = absurd (cc)
ref_same s low out after op _ operand t u fit n = refl

-- a byte of memory that a line may reach
mem_same : (place : Placement) (low : IsLow place) (live : RegSet) (t u : State) (b : ℕ) → Near live t u → IsOpen place (sp_of t) b → t.mem b ≡ u.mem b
mem_same place low live t u b n (inl h) = n.mem b (inl (low.data_below b h))
mem_same place low live t u b n (inr h) = n.mem b (inr h.0)

-- the value that an operation takes from there
value_same : (s : Setting) (low : IsLow s.place) (out after : RegSet) (op : Op) (mode : Mode) (operand : Operand) (t u : State) → takes op mode operand ≡ true → Near (before out (Do op mode operand) after) t u
    → is_read (kind_of op) ≡ true → (k : Kind) → IsAllowed s.place k (ref_of mode (word_of s.place operand) t) t → value_at (ref_of mode (word_of s.place operand) t) t ≡ value_at (ref_of mode (word_of s.place operand) t) u
value_same s low out after op ZeroPage (Zero i) t u fit n r k h = byte s low out after op ZeroPage (Zero i) fit t u n i (λ lt. worked_on s low out after op ZeroPage (Zero i) fit t u n (Zp i) r (byte_has i lt))
value_same s low out after op ZeroPage _ t u fit n r k h = absurd (cc)
value_same s low out after op ZeroPageX operand t u fit n r k h =
    let i : ℕ = (word_of s.place operand + t.regs.x) % 256 in
    byte s low out after op ZeroPageX operand fit t u n i (λ lt. worked_on s low out after op ZeroPageX operand fit t u n (Zp i) r (zero_page_has i lt))
value_same s low out after op ZeroPageY operand t u fit n r k h =
    let i : ℕ = (word_of s.place operand + t.regs.y) % 256 in
    byte s low out after op ZeroPageY operand fit t u n i (λ lt. worked_on s low out after op ZeroPageY operand fit t u n (Zp i) r (zero_page_has i lt))
value_same s low out after op Absolute operand t u fit n r k h = mem_same s.place low _ t u _ n h
value_same s low out after op AbsoluteX operand t u fit n r k h = mem_same s.place low _ t u _ n h
value_same s low out after op AbsoluteY operand t u fit n r k h = mem_same s.place low _ t u _ n h
value_same s low out after op IndirectX operand t u fit n r k h = mem_same s.place low _ t u _ n h
value_same s low out after op IndirectY operand t u fit n r k h = mem_same s.place low _ t u _ n h
value_same s low out after op ZeroPageIndirect operand t u fit n r k h = mem_same s.place low _ t u _ n h
value_same s low out after op _ operand t u fit n r k h = refl

-- ---- what the operation leads to

-- where it writes
abbrev target : Kind → Mode → ℕ → State → Ref
target Stores mode w t = ref_of mode w t
target Changes mode w t = ref_of mode w t
target _ mode w t = Given 0

effect_put : (k : Kind) (op : Op) (mode : Mode) (w : ℕ) (t : State) → IsPlain k
    → effect k op mode w t ≡ put (target k mode w t) (worked k op mode (taken k mode w t) t.regs).1 (record t { regs = (worked k op mode (taken k mode w t) t.regs).0 })
effect_put Reads op mode w t i = refl
effect_put Stores op mode w t i = refl
effect_put Changes op Accumulator w t i = refl
effect_put Changes op mode w t i = refl
effect_put Registers op mode w t i = refl
effect_put Branches op mode w t i = absurd i
effect_put Moves op mode w t i = absurd i

accumulator_read : (op : Op) → kind_of op ≡ Changes → is_in A (register_reads op Accumulator) ≡ true
accumulator_read ops.Asl e = refl
accumulator_read ops.Lsr e = refl
accumulator_read ops.Rol e = refl
accumulator_read ops.Ror e = refl
accumulator_read ops.Dec e = refl
accumulator_read ops.Inc e = refl
accumulator_read _ e = absurd (cc)

-- what the operation works on is the same in both
taken_same : (s : Setting) (low : IsLow s.place) (out after : RegSet) (op : Op) (mode : Mode) (operand : Operand) (t u : State) → takes op mode operand ≡ true → Near (before out (Do op mode operand) after) t u
    → (k : Kind) → kind_of op ≡ k → IsAllowed s.place (kind_of op) (ref_of mode (word_of s.place operand) t) t → taken k mode (word_of s.place operand) t ≡ taken k mode (word_of s.place operand) u
taken_same s low out after op mode operand t u fit n Reads e h =
    value_same s low out after op mode operand t u fit n (ap is_read e) (kind_of op) h ∙ ap (λ (r : Ref). value_at r u) (ref_same s low out after op mode operand t u fit n)
taken_same s low out after op Accumulator operand t u fit n Changes e h = register s low out after op Accumulator operand fit t u n A tt (accumulator_read op e)
taken_same s low out after op mode operand t u fit n Changes e h =
    value_same s low out after op mode operand t u fit n (ap is_read e) (kind_of op) h ∙ ap (λ (r : Ref). value_at r u) (ref_same s low out after op mode operand t u fit n)
taken_same s low out after op mode operand t u fit n Stores e h = refl
taken_same s low out after op mode operand t u fit n Registers e h = refl
taken_same s low out after op mode operand t u fit n Branches e h = refl
taken_same s low out after op mode operand t u fit n Moves e h = refl

allowed_above : (place : Placement) (k : Kind) (ref : Ref) (t : State) → Writes k → IsAllowed place k ref t → IsAboveSp ref
allowed_above place k (Given v) t wr h = tt
allowed_above place k (ZeroAt i) t wr h = h.1 wr
allowed_above place k (MemAt b) t wr h = tt

target_above : (place : Placement) (k : Kind) (mode : Mode) (w : ℕ) (t : State) → IsAllowed place k (ref_of mode w t) t → IsAboveSp (target k mode w t)
target_above place Stores mode w t h = allowed_above place Stores (ref_of mode w t) t tt h
target_above place Changes mode w t h = allowed_above place Changes (ref_of mode w t) t tt h
target_above place Reads mode w t h = tt
target_above place Registers mode w t h = tt
target_above place Branches mode w t h = tt
target_above place Moves mode w t h = tt

target_same : (k : Kind) (mode : Mode) (w : ℕ) (t u : State) → ref_of mode w t ≡ ref_of mode w u → target k mode w t ≡ target k mode w u
target_same Stores mode w t u e = e
target_same Changes mode w t u e = e
target_same Reads mode w t u e = refl
target_same Registers mode w t u e = refl
target_same Branches mode w t u e = refl
target_same Moves mode w t u e = refl

-- the byte that a line sets
operand_byte_reg : (mode : Mode) (operand : Operand) (p : Part) → IsReg p → has_part (operand_byte mode operand) p ≡ false
operand_byte_reg ZeroPage (Zero i) p r = byte_lacks_reg i p r
operand_byte_reg ZeroPage _ p r = has_part-empty p
operand_byte_reg _ operand p r = has_part-empty p

operand_byte_not : (place : Placement) (mode : Mode) (operand : Operand) (t : State) (i : ℕ) → IsNotAt (ref_of mode (word_of place operand) t) i → has_part (operand_byte mode operand) (Zp i) ≡ false
operand_byte_not place ZeroPage (Zero j) t i h = byte_lacks i j h
operand_byte_not place ZeroPage _ t i h = has_part-empty (Zp i)
operand_byte_not place _ operand t i h = has_part-empty (Zp i)

sets_reg : (op : Op) (mode : Mode) (operand : Operand) (p : Part) → IsReg p → is_in p (register_sets op mode) ≡ false → has_part (op_sets op mode operand) p ≡ false
sets_reg op mode operand p r h = in_none (set_of (register_sets op mode)) (if is_written (kind_of op) then operand_byte mode operand else no_parts) p (set_lacks (register_sets op mode) p r h) (pick (is_written (kind_of op)))
  where
    pick : (b : Bool) → has_part (if b then operand_byte mode operand else no_parts) p ≡ false
    pick true = operand_byte_reg mode operand p r
    pick false = has_part-empty p

sets_not : (place : Placement) (op : Op) (mode : Mode) (operand : Operand) (t : State) (i : ℕ) → IsNotAt (target (kind_of op) mode (word_of place operand) t) i → has_part (op_sets op mode operand) (Zp i) ≡ false
sets_not place op mode operand t i h = in_none (set_of (register_sets op mode)) (if is_written (kind_of op) then operand_byte mode operand else no_parts) (Zp i) (sets_no_byte op mode i) (by (kind_of op) h)
  where
    by : (k : Kind) → IsNotAt (target k mode (word_of place operand) t) i → has_part (if is_written k then operand_byte mode operand else no_parts) (Zp i) ≡ false
    by Stores h = operand_byte_not place mode operand t i h
    by Changes h = operand_byte_not place mode operand t i h
    by Reads h = has_part-empty (Zp i)
    by Registers h = has_part-empty (Zp i)
    by Branches h = has_part-empty (Zp i)
    by Moves h = has_part-empty (Zp i)

joined_in : (p : Part) (a b c d : Regs) → SameIn p a b → SameIn p b c → SameIn p d c → SameIn p a d
joined_in (Zp i) a b c d h k l = tt
joined_in A a b c d h k l = h ∙ k ∙ sym l
joined_in X a b c d h k l = h ∙ k ∙ sym l
joined_in Y a b c d h k l = h ∙ k ∙ sym l
joined_in N a b c d h k l = h ∙ k ∙ sym l
joined_in V a b c d h k l = h ∙ k ∙ sym l
joined_in Z a b c d h k l = h ∙ k ∙ sym l
joined_in C a b c d h k l = h ∙ k ∙ sym l

module _ (s : Setting) (low : IsLow s.place) (out after : RegSet) (op : Op) (mode : Mode) (operand : Operand) (fit : takes op mode operand ≡ true) (plain : IsPlain (kind_of op)) (t u : State)
    (n : Near (before out (Do op mode operand) after) t u) (allowed : IsAllowed s.place (kind_of op) (ref_of mode (word_of s.place operand) t) t) where
  abbrev x : ℕ
  x = taken (kind_of op) mode (word_of s.place operand) t

  abbrev y : ℕ
  y = taken (kind_of op) mode (word_of s.place operand) u

  one : x ≡ y
  one = taken_same s low out after op mode operand t u fit n (kind_of op) refl allowed

  agreed : AgreeOn (register_reads op mode) t.regs u.regs
  agreed = registers s low out after op mode operand fit t u n

  register_after : (p : Part) → IsReg p → has_part after p ≡ true → SameIn p (worked (kind_of op) op mode x t.regs).0 (worked (kind_of op) op mode y u.regs).0
  register_after p r h = subst (λ (v : ℕ). SameIn p (worked (kind_of op) op mode x t.regs).0 (worked (kind_of op) op mode v u.regs).0) one (pick (is_in p (register_sets op mode)) refl)
    where
      pick : (b : Bool) → is_in p (register_sets op mode) ≡ b → SameIn p (worked (kind_of op) op mode x t.regs).0 (worked (kind_of op) op mode x u.regs).0
      pick true e = gives op mode x t.regs u.regs p plain e (agree_for op mode p t.regs u.regs agreed)
      pick false e =
          joined_in p _ t.regs u.regs _ (stays op mode x t.regs p plain e)
          (same_in p t u (kept s low out after op mode operand fit t u n p h (sets_reg op mode operand p r e)))
          (stays op mode x u.regs p plain e)

  byte_after : (i : ℕ) → has_part after (Zp i) ≡ true → IsNotAt (target (kind_of op) mode (word_of s.place operand) t) i → t.zp i ≡ u.zp i
  byte_after i h k = kept s low out after op mode operand fit t u n (Zp i) h (sets_not s.place op mode operand t i k)

  written : (worked (kind_of op) op mode x t.regs).1 ≡ (worked (kind_of op) op mode y u.regs).1
  written = writes_one op mode x t.regs u.regs agreed ∙ ap (λ (v : ℕ). (worked (kind_of op) op mode v u.regs).1) one

  effects_near : Near after (effect (kind_of op) op mode (word_of s.place operand) t) (effect (kind_of op) op mode (word_of s.place operand) u)
  effects_near =
      let w : ℕ = word_of s.place operand in
      let k : Kind = kind_of op in
      let there : Near after (put (target k mode w t) (worked k op mode x t.regs).1 (record t { regs = (worked k op mode x t.regs).0 })) (put (target k mode w t) (worked k op mode y u.regs).1 (record u { regs = (worked k op mode y u.regs).0 })) =
      near_put (before out (Do op mode operand) after) after t u n (worked k op mode x t.regs).0 (worked k op mode y u.regs).0 (target k mode w t) _ _ written (target_above s.place k mode w t allowed) register_after byte_after in
      let both : Near after (put (target k mode w t) (worked k op mode x t.regs).1 (record t { regs = (worked k op mode x t.regs).0 })) (put (target k mode w u) (worked k op mode y u.regs).1 (record u { regs = (worked k op mode y u.regs).0 })) =
      subst (λ (r : Ref). Near after (put (target k mode w t) (worked k op mode x t.regs).1 (record t { regs = (worked k op mode x t.regs).0 })) (put r (worked k op mode y u.regs).1 (record u { regs = (worked k op mode y u.regs).0 })))
      (target_same k mode w t u (ref_same s low out after op mode operand t u fit n)) there in
      let first : Near after (effect k op mode w t) (put (target k mode w u) (worked k op mode y u.regs).1 (record u { regs = (worked k op mode y u.regs).0 })) =
      subst (λ (a : State). Near after a (put (target k mode w u) (worked k op mode y u.regs).1 (record u { regs = (worked k op mode y u.regs).0 }))) (sym (effect_put k op mode w t plain)) both in
      subst (Near after (effect k op mode w t)) (sym (effect_put k op mode w u plain)) first

-- ---- lines that set nothing

near_less : (live after : RegSet) (t u : State) → ((p : Part) → has_part after p ≡ true → has_part live p ≡ true) → Near live t u → Near after t u
near_less live after t u less n = record { part = λ p h. n.part p (less p h); sp_low = n.sp_low; sp_high = n.sp_high; high = n.high; mem = n.mem; pushed = n.pushed; input = n.input; output = n.output; ended = n.ended }

nothing_set : (p : Part) → has_part (union_of (set_of []) no_parts) p ≡ false
nothing_set p = in_none (set_of []) no_parts p (has_part-empty p) (has_part-empty p)

branch_sets : (op : Op) (mode : Mode) (operand : Operand) (p : Part) → kind_of op ≡ Branches → has_part (op_sets op mode operand) p ≡ false
branch_sets ops.Bcc mode operand p e = nothing_set p
branch_sets ops.Bcs mode operand p e = nothing_set p
branch_sets ops.Beq mode operand p e = nothing_set p
branch_sets ops.Bmi mode operand p e = nothing_set p
branch_sets ops.Bne mode operand p e = nothing_set p
branch_sets ops.Bpl mode operand p e = nothing_set p
branch_sets ops.Bra mode operand p e = nothing_set p
branch_sets ops.Bvc mode operand p e = nothing_set p
branch_sets ops.Bvs mode operand p e = nothing_set p
branch_sets _ mode operand p e = absurd (cc)

module _ (s : Setting) (low : IsLow s.place) (out after : RegSet) (mode : Mode) (operand : Operand) (t u : State) where
  idle_near : (op : Op) → ((p : Part) → has_part (op_sets op mode operand) p ≡ false) → Near (before out (Do op mode operand) after) t u → Near after t u
  idle_near op none n = near_less (before out (Do op mode operand) after) after t u (λ p h. kept_before out (Do op mode operand) after p h (none p)) n

  pushes_near : Near (before out (Do ops.Pha mode operand) after) t u → Near after (record t { pushed = t.regs.a ∷ t.pushed }) (record u { pushed = u.regs.a ∷ u.pushed })
  pushes_near n =
      let idle : Near after t u = idle_near ops.Pha nothing_set n in
      let a : t.regs.a ≡ u.regs.a = n.part A (read_before out (Do ops.Pha mode operand) after A (in_left (union_of (return_reads out ops.Pha) (set_of (A ∷ []))) (union_of (address_reads mode operand) no_parts) A (in_right (return_reads out ops.Pha) (set_of (A ∷ [])) A refl))) in
      record {
        part = by idle;
        sp_low = idle.sp_low;
        sp_high = idle.sp_high;
        high = idle.high;
        mem = idle.mem;
        pushed = ap (λ (v : ℕ). v ∷ t.pushed) a ∙ ap (λ (vs : List ℕ). u.regs.a ∷ vs) idle.pushed;
        input = idle.input;
        output = idle.output;
        ended = idle.ended;
      }
    where
      by : Near after t u → (p : Part) → has_part after p ≡ true → Same p (record t { pushed = t.regs.a ∷ t.pushed }) (record u { pushed = u.regs.a ∷ u.pushed })
      by idle (Zp i) h = idle.part (Zp i) h
      by idle A h = idle.part A h
      by idle X h = idle.part X h
      by idle Y h = idle.part Y h
      by idle N h = idle.part N h
      by idle V h = idle.part V h
      by idle Z h = idle.part Z h
      by idle C h = idle.part C h

  pulls_near : (v : ℕ) (rest : List ℕ) → Near (before out (Do ops.Pla mode operand) after) t u → Near after (record t { regs = with_a v t.regs; pushed = rest }) (record u { regs = with_a v u.regs; pushed = rest })
  pulls_near v rest n = record { part = by; sp_low = n.sp_low; sp_high = n.sp_high; high = n.high; mem = n.mem; pushed = refl; input = n.input; output = n.output; ended = n.ended }
    where
      rests : (p : Part) → IsReg p → is_in p (A ∷ N ∷ Z ∷ []) ≡ false → has_part after p ≡ true → Same p t u
      rests p r e h = n.part p (kept_before out (Do ops.Pla mode operand) after p h (in_none (set_of (A ∷ N ∷ Z ∷ [])) no_parts p (set_lacks (A ∷ N ∷ Z ∷ []) p r e) (has_part-empty p)))

      by : (p : Part) → has_part after p ≡ true → Same p (record t { regs = with_a v t.regs; pushed = rest }) (record u { regs = with_a v u.regs; pushed = rest })
      by (Zp i) h = n.part (Zp i) (kept_before out (Do ops.Pla mode operand) after (Zp i) h (in_none (set_of (A ∷ N ∷ Z ∷ [])) no_parts (Zp i) (sets_no_byte ops.Pla mode i) (has_part-empty (Zp i))))
      by A h = refl
      by N h = refl
      by Z h = refl
      by X h = rests X tt refl h
      by Y h = rests Y tt refl h
      by V h = rests V tt refl h
      by C h = rests C tt refl h

  depth_near : (x y : ℕ) → x ≡ y → Near (before out (Do ops.Tsx mode operand) after) t u → Near after (record t { regs = with_x x t.regs }) (record u { regs = with_x y u.regs })
  depth_near x y same n = record { part = by; sp_low = n.sp_low; sp_high = n.sp_high; high = n.high; mem = n.mem; pushed = n.pushed; input = n.input; output = n.output; ended = n.ended }
    where
      rests : (p : Part) → IsReg p → is_in p (X ∷ N ∷ Z ∷ []) ≡ false → has_part after p ≡ true → Same p t u
      rests p r e h = n.part p (kept_before out (Do ops.Tsx mode operand) after p h (in_none (set_of (X ∷ N ∷ Z ∷ [])) no_parts p (set_lacks (X ∷ N ∷ Z ∷ []) p r e) (has_part-empty p)))

      by : (p : Part) → has_part after p ≡ true → Same p (record t { regs = with_x x t.regs }) (record u { regs = with_x y u.regs })
      by (Zp i) h = n.part (Zp i) (kept_before out (Do ops.Tsx mode operand) after (Zp i) h (in_none (set_of (X ∷ N ∷ Z ∷ [])) no_parts (Zp i) (sets_no_byte ops.Tsx mode i) (has_part-empty (Zp i))))
      by X h = same
      by N h = ap negative same
      by Z h = ap (λ (v : ℕ). v == 0) same
      by A h = rests A tt refl h
      by Y h = rests Y tt refl h
      by V h = rests V tt refl h
      by C h = rests C tt refl h

-- ---- each operation

-- a state to which a line of a form leads
abbrev Answered : Placement → Form → RegSet → State → State → Type 0
Answered place form after t v = (x : State) × Does place form t x × Near after x v

module _ (s : Setting) (low : IsLow s.place) (out after : RegSet) (mode : Mode) (t u v : State) (se : s_of t ≡ s_of u) where
  plain_near : (op : Op) (operand : Operand) → IsPlain (kind_of op) → is_fit (Do op mode operand) ≡ true → IsAllowed s.place (kind_of op) (ref_of mode (word_of s.place operand) t) t → Near (before out (Do op mode operand) after) t u
      → v ≡ effect (kind_of op) op mode (word_of s.place operand) u → (x : State) × (x ≡ effect (kind_of op) op mode (word_of s.place operand) t) × Near after x v
  plain_near op operand plain fit allowed n d =
      let row = and_parts (has_row op mode) _ fit in
      let mine = and_parts (takes op mode operand) _ row.1 in
      (effect (kind_of op) op mode (word_of s.place operand) t, refl, subst (Near after (effect (kind_of op) op mode (word_of s.place operand) t)) (sym d) (effects_near s low out after op mode operand mine.0 plain t u n allowed))

  do_near : (op : Op) (operand : Operand) (k : Kind) → kind_of op ≡ k → is_fit (Do op mode operand) ≡ true → IsOperation (op_form k op mode operand) → IsWithin s (op_form k op mode operand) t → Near (before out (Do op mode operand) after) t u
      → Does s.place (op_form k op mode operand) u v → Answered s.place (op_form k op mode operand) after t v
  do_near op operand Reads e fit i within n d = plain_near op operand (subst IsPlain (sym e) tt) fit within n d
  do_near op operand Stores e fit i within n d = plain_near op operand (subst IsPlain (sym e) tt) fit within n d
  do_near op operand Changes e fit i within n d = plain_near op operand (subst IsPlain (sym e) tt) fit within n d
  do_near op operand Registers e fit i within n d = plain_near op operand (subst IsPlain (sym e) tt) fit within n d
  do_near op (To l) Branches e fit i within n d = (t, refl, subst (Near after t) (sym d) (idle_near s low out after mode (To l) t u op (λ p. branch_sets op mode (To l) p e) n))
  do_near op _ Branches e fit i within n d = absurd i
  do_near ops.Jmp (To l) Moves e fit i within n d = (t, refl, subst (Near after t) (sym d) (idle_near s low out after mode (To l) t u ops.Jmp nothing_set n))
  do_near ops.Jmp (Zero j) Moves e fit i within n d = absurd i
  do_near ops.Jmp _ Moves e fit i within n d = absurd i
  do_near ops.Pha operand Moves e fit i within n d = (record t { pushed = t.regs.a ∷ t.pushed }, refl, subst (Near after (record t { pushed = t.regs.a ∷ t.pushed })) (sym d) (pushes_near s low out after mode operand t u n))
  do_near ops.Pla operand Moves e fit i within n d =
      (record t { regs = with_a d.0 t.regs; pushed = d.1 }, (d.0, d.1, n.pushed ∙ d.2, refl), subst (Near after (record t { regs = with_a d.0 t.regs; pushed = d.1 })) (sym d.3) (pulls_near s low out after mode operand t u d.0 d.1 n))
  do_near ops.Tsx operand Moves e fit i within n d = (record t { regs = with_x (s_of t) t.regs }, refl, subst (Near after (record t { regs = with_x (s_of t) t.regs })) (sym d) (depth_near s low out after mode operand t u (s_of t) (s_of u) se n))
  do_near _ operand Moves e fit i within n d = absurd i

pub operations_stay_near : OperationsStayNear
operations_stay_near s out (Label l) low fit i after t u v steady se n d = absurd i
operations_stay_near s out (Do op mode operand) low fit i after t u v steady se n d =
    let a = do_near s low out after mode t u v se op operand (kind_of op) refl fit i steady.within n d in
    record { state = a.0; does = a.1; near = a.2 }
operations_stay_near s out (Call (callees.Routine r)) low fit i after t u v steady se n d = absurd i
operations_stay_near s out (Call (callees.Function f reads gives)) low fit i after t u v steady se n d = absurd i
operations_stay_near s out (Call (callees.Pointer reads gives)) low fit i after t u v steady se n d = absurd i

-- ---- steadiness

allowed_in : (place : Placement) (k : Kind) (ref : Ref) (t u : State) → sp_of t ≡ sp_of u → IsAllowed place k ref t → IsAllowed place k ref u
allowed_in place k (Given v) t u e h = tt
allowed_in place k (ZeroAt i) t u e h = h
allowed_in place k (MemAt b) t u e (inl h) = inl h
allowed_in place k (MemAt b) t u e (inr h) = inr (subst (λ (x : ℕ). x ≤ b) e h.0, h.1)

module _ (s : Setting) (low : IsLow s.place) (out after : RegSet) (mode : Mode) (t u : State) where
  plain_within : (op : Op) (operand : Operand) → is_fit (Do op mode operand) ≡ true → Near (before out (Do op mode operand) after) t u → IsAllowed s.place (kind_of op) (ref_of mode (word_of s.place operand) t) t
      → IsAllowed s.place (kind_of op) (ref_of mode (word_of s.place operand) u) u
  plain_within op operand fit n h =
      let row = and_parts (has_row op mode) _ fit in
      let mine = and_parts (takes op mode operand) _ row.1 in
      subst (λ (r : Ref). IsAllowed s.place (kind_of op) r u) (ref_same s low out after op mode operand t u mine.0 n) (allowed_in s.place (kind_of op) _ t u (same_sp _ t u n) h)

  do_within : (op : Op) (operand : Operand) (k : Kind) → is_fit (Do op mode operand) ≡ true → IsOperation (op_form k op mode operand) → Near (before out (Do op mode operand) after) t u → IsWithin s (op_form k op mode operand) t → IsWithin s (op_form k op mode operand) u
  do_within op operand Reads fit i n h = plain_within op operand fit n h
  do_within op operand Stores fit i n h = plain_within op operand fit n h
  do_within op operand Changes fit i n h = plain_within op operand fit n h
  do_within op operand Registers fit i n h = plain_within op operand fit n h
  do_within op (To l) Branches fit i n h = tt
  do_within op _ Branches fit i n h = absurd i
  do_within ops.Jmp (To l) Moves fit i n h = tt
  do_within ops.Jmp (Zero j) Moves fit i n h = absurd i
  do_within ops.Jmp _ Moves fit i n h = absurd i
  do_within ops.Pha operand Moves fit i n h = tt
  do_within ops.Pla operand Moves fit i n h = (h.0, h.1, sym n.pushed ∙ h.2)
  do_within ops.Tsx operand Moves fit i n h = tt
  do_within _ operand Moves fit i n h = absurd i

pub operations_stay_steady : OperationsStaySteady
operations_stay_steady s out line low fit i after t u steady bytes se n = record { calm = calm_stays s (before out line after) t u low steady.calm bytes se n; within = by line fit i n steady.within }
  where
    by : (l : Line) → is_fit l ≡ true → IsOperation (form_of l) → Near (before out l after) t u → IsWithin s (form_of l) t → IsWithin s (form_of l) u
    by (Label l) fit i n h = absurd i
    by (Do op mode operand) fit i n h = do_within s low out after mode t u op operand (kind_of op) fit i n h
    by (Call (callees.Routine r)) fit i n h = absurd i
    by (Call (callees.Function f reads gives)) fit i n h = absurd i
    by (Call (callees.Pointer reads gives)) fit i n h = absurd i
