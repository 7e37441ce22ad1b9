-- Lines that change registers, scratch bytes of the zero page, and bytes of memory through a pointer there.
use Rattle.std.proofs.Common.{◌≡◌, ℕ, zero, suc, ◌+◌, ◌*◌, ◌/◌, ◌%◌, ◌<◌, ◌≤◌, ◌⊎◌, inl, inr, Some, None, Bool, true, false, refl, sym, ap, ◌∙◌, subst, arith}
use Rattle.std.specs.Prelude.{slice_get, ◌==◌, nat_lt, if◌then◌else◌}
use Rattle.std.proofs.lemmas.Bool.Decides.{nat_tests}
use Rattle.c65_mach.specs.declared.rows.Op.{Op}
use Rattle.c65_mach.specs.declared.rows.Op.TheVariants.{Adc, Clc, Lda, Sta}
use Rattle.c65_mach.specs.declared.rows.Mode.{Mode}
use Rattle.c65_mach.specs.declared.rows.Mode.TheVariants.{Implied, Immediate, ZeroPage, IndirectY}
use Rattle.c65_mach.specs.State.{Regs}
use Rattle.c65_mach.specs.Step.{apply, bit}
use Rattle.c65_meaning.specs.State as meaning
use Rattle.c65_code.specs.declared.line.Sym.{Sym}
use Rattle.c65_code.specs.declared.line.Operand.{Operand}
use Rattle.c65_code.specs.declared.line.Operand.TheVariants.{Nothing, Byte, Zero, Low, High}
use Rattle.c65_code.specs.declared.line.Line.TheVariants.{Do}
use Rattle.c65_code.specs.LineState.{Bytes, write, State, sp_of, IsBytes}
use Rattle.c65_code.specs.Placement.{located, word_of}
use Rattle.c65_code.specs.Forms.{Plain, form_of}
use Rattle.c65_code.specs.Moves.{ref_of}
use Rattle.c65_code.specs.Steady.{IsCalm, IsOpen, IsWithin}
use Rattle.c65_code.specs.LineLaws.{IsGivenByte}
use Rattle.c65_code.specs.Comes.{Seen}
use Rattle.c65_genentry.specs.Words.{by_y}
use Rattle.c65_genentry.specs.Pointers.{near_code, symbol_code}
use Rattle.c65_agree_step.specs.Laws.{after_operation}
use Rattle.c65_agree_state.specs.World.{World, Active, setting_in, lines_of, place_in, HasAt, HasTurns}
use Rattle.c65_agree_state.specs.Follows.{Follows}
use Rattle.c65_agree_state.specs.Laws.{OnlyScratch}
use Rattle.c65_agree_state.proofs.Followed.{follows_weaken}
use Rattle.c65_agree_rows.proofs.Quiet.{write_other, write_same}
use Rattle.c65_agree_assign.proofs.Steps.{operation}

-- ---- states

-- the state u is t but for registers and scratch bytes of the zero page, with this memory
pub record IsLike (t : State) (memory : Bytes) (u : State) : Type 0 where
  pub mem : (b : ℕ) → u.mem b ≡ memory b
  pub zp : (i : ℕ) → (i < 8) ⊎ (20 ≤ i) → u.zp i ≡ t.zp i
  pub pushed : u.pushed ≡ t.pushed
  pub frames : u.frames ≡ t.frames
  pub input : u.input ≡ t.input
  pub output : u.output ≡ t.output
  pub ended : u.ended ≡ t.ended
  pub bytes : IsBytes u

pub like_itself : (t : State) → IsBytes t → IsLike t t.mem t
like_itself t bytes = record { mem = λ b. refl; zp = λ i h. refl; pushed = refl; frames = refl; input = refl; output = refl; ended = refl; bytes = bytes }

module _ (t : State) (memory : Bytes) (u : State) (like : IsLike t memory u) where
  pub same_sp : sp_of u ≡ sp_of t
  same_sp =
      let low = like.zp 0 (inl (omega arith)) in
      let high = like.zp 1 (inl (omega arith)) in
      omega (arith, low, high)

  pub like_registers : (regs : Regs) → IsBytes (record u { regs = regs }) → IsLike t memory (record u { regs = regs })
  like_registers regs bytes = record { mem = like.mem; zp = like.zp; pushed = like.pushed; frames = like.frames; input = like.input; output = like.output; ended = like.ended; bytes = bytes }

  pub like_scratch : (regs : Regs) (i v : ℕ) → 8 ≤ i → i < 20 → IsBytes (record u { regs = regs; zp = write u.zp i v }) → IsLike t memory (record u { regs = regs; zp = write u.zp i v })
  like_scratch regs i v low high bytes = record { mem = like.mem; zp = λ b h. write_other u.zp i v b (apart b h) ∙ like.zp b h; pushed = like.pushed; frames = like.frames; input = like.input; output = like.output; ended = like.ended; bytes = bytes }
    where
      apart : (b : ℕ) → (b < 8) ⊎ (20 ≤ b) → b ≡ i → ⊥
      apart b (inl h) e = omega (arith, h, e, low)
      apart b (inr h) e = omega (arith, h, e, high)

  pub like_memory : (at v : ℕ) → IsBytes (record u { mem = write u.mem at v }) → IsLike t (write memory at v) (record u { mem = write u.mem at v })
  like_memory at v bytes = record { mem = λ b. same b (b == at); zp = like.zp; pushed = like.pushed; frames = like.frames; input = like.input; output = like.output; ended = like.ended; bytes = bytes }
    where
      same : (b : ℕ) (here : Bool) → (if here then v else u.mem b) ≡ (if here then v else memory b)
      same b true = refl
      same b false = like.mem b

  -- the bytes that are others are scratch bytes, beside those of the memory
  pub only_scratch : OnlyScratch (sp_of t) (record t { mem = memory }) u
  only_scratch = record { mem = λ b side. like.mem b; bank = λ i lt. sym (like.zp (20 + i) (inr (omega arith))); pushed = like.pushed; frames = like.frames; input = like.input; output = like.output; ended = like.ended; bytes = like.bytes }

-- literals and const data are as placed
abbrev pub HasConstants : World → Bytes → Type 0
HasConstants g memory = (b v : ℕ) → g.place.constant b ≡ Some v → memory b ≡ v

pub calm_like : (g : World) (t : State) (memory : Bytes) (u : State) → IsCalm (setting_in g) t → HasConstants g memory → IsLike t memory u → IsCalm (setting_in g) u
calm_like g t memory u calm constants like =
    let sp = same_sp t memory u like in
    record { low = omega (arith, sp, calm.low); high = omega (arith, sp, calm.high); hard = rw (like.pushed, like.frames) calm.hard; constant = λ b v e. like.mem b ∙ constants b v e; bytes = like.bytes }

-- ---- lines

-- behind lines that make a word of the zero page an address
pub record IsPointed (t : State) (memory : Bytes) (u : State) (pointer to : ℕ) (u2 : State) : Type 0 where
  pub like : IsLike t memory u2
  pub x : u2.regs.x ≡ u.regs.x
  pub y : u2.regs.y ≡ u.regs.y
  pub word : u2.zp pointer + 256 * u2.zp (pointer + 1) ≡ to
  pub others : (i : ℕ) → (i ≡ pointer → ⊥) → (i ≡ pointer + 1 → ⊥) → u2.zp i ≡ u.zp i

-- a sum by bytes, with its carry
sum_is : (low high a b : ℕ) (carry : Bool) → nat_lt 255 (low + a + 0) ≡ carry → low < 256 → a < 256 → low + 256 * high + (a + 256 * b) < 65536 → (low + a + 0) % 256 + 256 * ((high + b + bit carry) % 256) ≡ low + 256 * high + (a + 256 * b)
sum_is low high a b true e l m fits = let over : 255 < low + a + 0 = grind (arith, nat_tests) in omega (arith, over, l, m, fits)
sum_is low high a b false e l m fits = let under : low + a + 0 ≤ 255 = grind (arith, nat_tests) in omega (arith, under, fits)

module _ (g : World) (a : Active) (n turns : ℕ) (m : meaning.State) (t : State) (calm : IsCalm (setting_in g) t) (running : t.ended ≡ None) where
  pub line_goes : (v p : ℕ) (op : Op) (mode : Mode) (operand : Operand) (memory : Bytes) (u : State) (seen : Seen) → HasConstants g memory → IsLike t memory u
      → slice_get (lines_of g a) p ≡ Some (Do op mode operand) → form_of (Do op mode operand) ≡ Plain op mode operand → IsWithin (setting_in g) (Plain op mode operand) u → IsGivenByte (ref_of mode (word_of g.place operand) u) → HasTurns g turns (place_in g a p) seen
      → (IsBytes (after_operation (setting_in g) op mode operand u) → (later : Seen) → HasTurns g turns (place_in g a (suc p)) later → Follows g n v m (place_in g a (suc p)) (after_operation (setting_in g) op mode operand u) later)
      → Follows g n (1 + v) m (place_in g a p) u seen
  line_goes v p op mode operand memory u seen constants like there formed within given turned goes =
      operation g a n turns m v p op mode operand u seen (record { there = there; formed = formed; calm = calm_like g t memory u calm constants like; within = within; running = like.ended ∙ running; given = given; counted = turned }) goes

  -- the address so many bytes above sp
  module _ (pointer at : ℕ) (low : 8 ≤ pointer) (high : pointer < 19) (small : at < 65536) (fits : sp_of t + at < 65536) (memory : Bytes) (u : State) (constants : HasConstants g memory) (like : IsLike t memory u) where
    abbrev near_with : Regs → Bytes → State
    near_with regs zp = record u { regs = regs; zp = zp }

    abbrev near1 : Regs
    near1 = apply false Clc 0 u.regs

    abbrev near2 : Regs
    near2 = apply false Lda (u.zp 0) near1

    abbrev near3 : Regs
    near3 = apply false Adc (at % 256) near2

    abbrev near_zp4 : Bytes
    near_zp4 = write u.zp pointer near3.a

    abbrev near5 : Regs
    near5 = apply false Lda (near_zp4 1) near3

    abbrev near6 : Regs
    near6 = apply false Adc (at / 256) near5

    abbrev near_zp7 : Bytes
    near_zp7 = write near_zp4 (pointer + 1) near6.a

    near_word : near_zp7 pointer + 256 * near_zp7 (pointer + 1) ≡ sp_of t + at
    near_word =
        let sp = same_sp t memory u like in
        let first : near_zp7 pointer ≡ (u.zp 0 + at % 256 + 0) % 256 = write_other near_zp4 (pointer + 1) near6.a pointer (λ e. omega (arith, e)) ∙ write_same u.zp pointer near3.a in
        let one : near_zp4 1 ≡ u.zp 1 = write_other u.zp pointer near3.a 1 (λ e. omega (arith, e, low)) in
        let second : near_zp7 (pointer + 1) ≡ (u.zp 1 + at / 256 + bit (nat_lt 255 (u.zp 0 + at % 256 + 0))) % 256 = write_same near_zp4 (pointer + 1) near6.a ∙ ap (λ y. (y + at / 256 + bit (nat_lt 255 (u.zp 0 + at % 256 + 0))) % 256) one in
        let whole = sum_is (u.zp 0) (u.zp 1) (at % 256) (at / 256) (nat_lt 255 (u.zp 0 + at % 256 + 0)) refl (like.bytes.zp 0) (omega arith) (omega (arith, sp, fits)) in
        omega (arith, first, second, whole, sp)

    near_pointed : IsLike t memory (near_with near6 near_zp7) → IsPointed t memory u pointer (sp_of t + at) (near_with near6 near_zp7)
    near_pointed like7 = record { like = like7; x = refl; y = refl; word = near_word; others = λ i ne more. write_other near_zp4 (pointer + 1) near6.a i more ∙ write_other u.zp pointer near3.a i ne }

    pub near_goes : (v p : ℕ) (seen : Seen) → HasAt (lines_of g a) p (near_code pointer at) → HasTurns g turns (place_in g a p) seen
        → ((u2 : State) (later : Seen) → IsPointed t memory u pointer (sp_of t + at) u2 → HasTurns g turns (place_in g a (p + 7)) later → Follows g n v m (place_in g a (p + 7)) u2 later) → Follows g n (7 + v) m (place_in g a p) u seen
    near_goes v p seen has turned goes =
        follows_weaken g n (1 + (1 + (1 + (1 + (1 + (1 + (1 + v))))))) (7 + v) m (place_in g a p) u seen (omega arith)
        (line_goes (1 + (1 + (1 + (1 + (1 + (1 + v)))))) p Clc Implied Nothing memory u seen constants like has.0 refl tt (omega arith) turned (λ b1 s1 h1.
        let like1 = like_registers t memory u like near1 b1 in
        line_goes (1 + (1 + (1 + (1 + (1 + v))))) (suc p) Lda ZeroPage (Zero 0) memory (near_with near1 u.zp) s1 constants like1 has.1.0 refl (omega arith, λ h. absurd h) tt h1 (λ b2 s2 h2.
        let like2 = like_registers t memory u like near2 b2 in
        line_goes (1 + (1 + (1 + (1 + v)))) (suc (suc p)) Adc Immediate (Byte (at % 256)) memory (near_with near2 u.zp) s2 constants like2 has.1.1.0 refl tt (omega arith) h2 (λ b3 s3 h3.
        let like3 = like_registers t memory u like near3 b3 in
        line_goes (1 + (1 + (1 + v))) (suc (suc (suc p))) Sta ZeroPage (Zero pointer) memory (near_with near3 u.zp) s3 constants like3 has.1.1.1.0 refl (omega (arith, high), λ h. omega (arith, low)) tt h3 (λ b4 s4 h4.
        let like4 = like_scratch t memory u like near3 pointer near3.a low (omega (arith, high)) b4 in
        line_goes (1 + (1 + v)) (suc (suc (suc (suc p)))) Lda ZeroPage (Zero 1) memory (near_with near3 near_zp4) s4 constants like4 has.1.1.1.1.0 refl (omega arith, λ h. absurd h) tt h4 (λ b5 s5 h5.
        let like5 = like_registers t memory (near_with near3 near_zp4) like4 near5 b5 in
        line_goes (1 + v) (suc (suc (suc (suc (suc p))))) Adc Immediate (Byte (at / 256)) memory (near_with near5 near_zp4) s5 constants like5 has.1.1.1.1.1.0 refl tt (omega (arith, small)) h5 (λ b6 s6 h6.
        let like6 = like_registers t memory (near_with near3 near_zp4) like4 near6 b6 in
        line_goes v (suc (suc (suc (suc (suc (suc p)))))) Sta ZeroPage (Zero (pointer + 1)) memory (near_with near6 near_zp4) s6 constants like6 has.1.1.1.1.1.1.0 refl (omega (arith, high), λ h. omega (arith, low)) tt h6 (λ b7 s7 h7.
        let ends : suc (suc (suc (suc (suc (suc (suc p)))))) ≡ p + 7 = omega arith in
        let like7 = like_scratch t memory (near_with near6 near_zp4) like6 near6 (pointer + 1) near6.a (omega (arith, low)) (omega (arith, high)) b7 in
        subst (λ y. Follows g n v m (place_in g a y) (near_with near6 near_zp7) s7) (sym ends) (goes (near_with near6 near_zp7) s7 (near_pointed like7) (subst (λ y. HasTurns g turns (place_in g a y) s7) ends h7))))))))))

  -- the address so far behind a symbol
  module _ (pointer : ℕ) (s : Sym) (at : ℕ) (low : 8 ≤ pointer) (high : pointer < 19) (memory : Bytes) (u : State) (constants : HasConstants g memory) (like : IsLike t memory u) where
    abbrev symbol_with : Regs → Bytes → State
    symbol_with regs zp = record u { regs = regs; zp = zp }

    abbrev symbol1 : Regs
    symbol1 = apply false Lda (located g.place s at % 256) u.regs

    abbrev symbol_zp2 : Bytes
    symbol_zp2 = write u.zp pointer symbol1.a

    abbrev symbol3 : Regs
    symbol3 = apply false Lda (located g.place s at / 256) symbol1

    abbrev symbol_zp4 : Bytes
    symbol_zp4 = write symbol_zp2 (pointer + 1) symbol3.a

    symbol_word : symbol_zp4 pointer + 256 * symbol_zp4 (pointer + 1) ≡ located g.place s at
    symbol_word =
        let first : symbol_zp4 pointer ≡ located g.place s at % 256 = write_other symbol_zp2 (pointer + 1) symbol3.a pointer (λ e. omega (arith, e)) ∙ write_same u.zp pointer symbol1.a in
        let second : symbol_zp4 (pointer + 1) ≡ located g.place s at / 256 = write_same symbol_zp2 (pointer + 1) symbol3.a in
        omega (arith, first, second)

    symbol_pointed : IsLike t memory (symbol_with symbol3 symbol_zp4) → IsPointed t memory u pointer (located g.place s at) (symbol_with symbol3 symbol_zp4)
    symbol_pointed like4 = record { like = like4; x = refl; y = refl; word = symbol_word; others = λ i ne more. write_other symbol_zp2 (pointer + 1) symbol3.a i more ∙ write_other u.zp pointer symbol1.a i ne }

    pub symbol_goes : (v p : ℕ) (seen : Seen) → HasAt (lines_of g a) p (symbol_code pointer s at) → HasTurns g turns (place_in g a p) seen
        → ((u2 : State) (later : Seen) → IsPointed t memory u pointer (located g.place s at) u2 → HasTurns g turns (place_in g a (p + 4)) later → Follows g n v m (place_in g a (p + 4)) u2 later) → Follows g n (4 + v) m (place_in g a p) u seen
    symbol_goes v p seen has turned goes =
        follows_weaken g n (1 + (1 + (1 + (1 + v)))) (4 + v) m (place_in g a p) u seen (omega arith)
        (line_goes (1 + (1 + (1 + v))) p Lda Immediate (Low s at) memory u seen constants like has.0 refl tt (omega arith) turned (λ b1 s1 h1.
        let like1 = like_registers t memory u like symbol1 b1 in
        line_goes (1 + (1 + v)) (suc p) Sta ZeroPage (Zero pointer) memory (symbol_with symbol1 u.zp) s1 constants like1 has.1.0 refl (omega (arith, high), λ h. omega (arith, low)) tt h1 (λ b2 s2 h2.
        let like2 = like_scratch t memory u like symbol1 pointer symbol1.a low (omega (arith, high)) b2 in
        line_goes (1 + v) (suc (suc p)) Lda Immediate (High s at) memory (symbol_with symbol1 symbol_zp2) s2 constants like2 has.1.1.0 refl tt (omega arith) h2 (λ b3 s3 h3.
        let like3 = like_registers t memory (symbol_with symbol1 symbol_zp2) like2 symbol3 b3 in
        line_goes v (suc (suc (suc p))) Sta ZeroPage (Zero (pointer + 1)) memory (symbol_with symbol3 symbol_zp2) s3 constants like3 has.1.1.1.0 refl (omega (arith, high), λ h. omega (arith, low)) tt h3 (λ b4 s4 h4.
        let ends : suc (suc (suc (suc p))) ≡ p + 4 = omega arith in
        let like4 = like_scratch t memory (symbol_with symbol3 symbol_zp2) like3 symbol3 (pointer + 1) symbol3.a (omega (arith, low)) (omega (arith, high)) b4 in
        subst (λ y. Follows g n v m (place_in g a y) (symbol_with symbol3 symbol_zp4) s4) (sym ends) (goes (symbol_with symbol3 symbol_zp4) s4 (symbol_pointed like4) (subst (λ y. HasTurns g turns (place_in g a y) s4) ends h4)))))))

  -- A goes so many bytes behind the address in a pointer
  pub through_goes : (pointer base : ℕ) → pointer < 255 → (v p : ℕ) (memory : Bytes) (u : State) (seen : Seen) → HasConstants g memory → IsLike t memory u → u.zp pointer + 256 * u.zp (pointer + 1) ≡ base → base + u.regs.y < 65536 → IsOpen g.place (sp_of t) (base + u.regs.y)
      → slice_get (lines_of g a) p ≡ Some (by_y Sta pointer) → HasTurns g turns (place_in g a p) seen
      → (IsLike t (write memory (base + u.regs.y) u.regs.a) (record u { mem = write u.mem (base + u.regs.y) u.regs.a }) → (later : Seen) → HasTurns g turns (place_in g a (suc p)) later → Follows g n v m (place_in g a (suc p)) (record u { mem = write u.mem (base + u.regs.y) u.regs.a }) later)
      → Follows g n (1 + v) m (place_in g a p) u seen
  through_goes pointer base page v p memory u seen constants like word small opened there turned goes =
      let next : (pointer + 1) % 256 ≡ pointer + 1 = omega (arith, page) in
      let here : (u.zp pointer + 256 * u.zp ((pointer + 1) % 256) + u.regs.y) % 65536 ≡ base + u.regs.y = ap (λ y. (u.zp pointer + 256 * u.zp y + u.regs.y) % 65536) next ∙ omega (arith, word, small) in
      let sp = same_sp t memory u like in
      line_goes v p Sta IndirectY (Zero pointer) memory u seen constants like there refl (subst (λ y. IsOpen g.place (sp_of u) y) (sym here) (subst (λ y. IsOpen g.place y (base + u.regs.y)) (sym sp) opened)) tt turned (λ b1 s1 h1.
      let b2 : IsBytes (record u { mem = write u.mem (base + u.regs.y) u.regs.a }) = subst (λ y. IsBytes (record u { mem = write u.mem y u.regs.a })) here b1 in
      subst (λ y. Follows g n v m (place_in g a (suc p)) (record u { mem = write u.mem y u.regs.a }) s1) (sym here) (goes (like_memory t memory u like (base + u.regs.y) u.regs.a b2) s1 h1))

-- ---- bytes one behind another

-- memory behind so many bytes from an address on, each of which may be read off the memory before it
abbrev pub filled : Bytes → ℕ → (Bytes → ℕ → ℕ) → ℕ → Bytes
filled memory to what zero = memory
filled memory to what (suc i) = write (filled memory to what i) (to + i) (what (filled memory to what i) i)

module _ (memory : Bytes) (to : ℕ) (what : Bytes → ℕ → ℕ) where
  pub filled_other : (count b : ℕ) → ((i : ℕ) → i < count → to + i ≡ b → ⊥) → filled memory to what count b ≡ memory b
  filled_other zero b beside = refl
  filled_other (suc count) b beside = write_other (filled memory to what count) (to + count) (what (filled memory to what count) count) b (λ e. beside count (omega arith) (sym e)) ∙ filled_other count b (λ i lt. beside i (omega (arith, lt)))

  pub filled_constants : (g : World) (count : ℕ) → ((i : ℕ) → i < count → g.place.constant (to + i) ≡ None) → HasConstants g memory → HasConstants g (filled memory to what count)
  filled_constants g count varying constants b v e = filled_other count b (λ i lt same. apart i lt same) ∙ constants b v e
    where
      apart : (i : ℕ) → i < count → to + i ≡ b → ⊥
      apart i lt same = let one = varying i lt in let two : g.place.constant (to + i) ≡ Some v = ap g.place.constant same ∙ e in cc

pub filled_at : (memory : Bytes) (to : ℕ) (f : ℕ → ℕ) (count i : ℕ) → i < count → filled memory to (λ _ j. f j) count (to + i) ≡ f i
filled_at memory to f zero i lt = absurd (omega arith)
filled_at memory to f (suc count) i lt = go (nat_lt i count) refl (filled_at memory to f count i)
  where
    go : (b : Bool) → nat_lt i count ≡ b → (i < count → filled memory to (λ _ j. f j) count (to + i) ≡ f i) → filled memory to (λ _ j. f j) (suc count) (to + i) ≡ f i
    go true e deep = let less : i < count = grind (arith, nat_tests) in write_other (filled memory to (λ _ j. f j) count) (to + count) (f count) (to + i) (λ h. omega (arith, h, less)) ∙ deep less
    go false e deep =
        let least : count ≤ i = grind (arith, nat_tests) in
        let same : i ≡ count = omega (arith, lt, least) in
        ap (filled memory to (λ _ j. f j) (suc count)) (ap (λ y. to + y) same) ∙ write_same (filled memory to (λ _ j. f j) count) (to + count) (f count) ∙ sym (ap f same)
