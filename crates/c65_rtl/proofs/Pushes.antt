-- The routines that push.
use Rattle.std.proofs.Common.{◌≡◌, ◌≢◌, ℕ, ◌+◌, ◌-◌, ◌*◌, ◌%◌, ◌<◌, ◌≤◌, inl, inr, Bool, true, false, IsTrue, List, [], ◌∷◌, ◌++◌, All, Option, Some, None, nat_eq, refl, sym, ap, subst, ◌∙◌, arith}
use Rattle.std.specs.Prelude.{◌==◌, if◌then◌else◌, min, drop}
use Rattle.std.proofs.lemmas.Bool.Decides.{eqb_tells}
use Rattle.std.proofs.lemmas.List.{append-nil}
use Rattle.c65_mach.specs.declared.rows.Op.TheVariants.{Dey, Lda, Ldx, Ldy, Pla, Rts, Sta, Tax, Txa}
use Rattle.c65_code.specs.declared.routine.Routine.{Routine}
use Rattle.c65_code.specs.declared.routine.Routine.TheVariants as routines
use Rattle.c65_code.specs.declared.line.Line.{Line}
use Rattle.c65_code.specs.LineState.{Place, Bytes, write, State, sp_of, sreg_of}
use Rattle.c65_code.specs.Placement.{Placement}
use Rattle.c65_code.specs.declared.parts.Part.TheVariants.{A, X, Y, Zp, N, V, Z, C}
use Rattle.c65_code.specs.Parts.{has_part}
use Rattle.c65_code.specs.Rows.{Row, row_of, push_row, Gives, GivesPointers, GivesBank, written}
use Rattle.c65_code.specs.Steady.{IsOpen}
use Rattle.c65_code.specs.RawMachine.{RawSetting, Bounds, IsReachable, called, MayRun, Runs, MeetsRow, reach_of}
use Rattle.c65_rtl.specs.Assembly.{sp, implied, value, by_y}
use Rattle.c65_rtl.specs.Stack.{push_byte, push_word}
use Rattle.c65_rtl.specs.Routines.{lines_of}
use Rattle.c65_rtl.proofs.Ways.{leads, Ends, runs}
use Rattle.c65_rtl.proofs.Meeting.{eq_true, eq_false, not_true, not_false, write_other, write_swap, KeptUnless, ends_by, reached}
use Rattle.c65_rtl.proofs.Plain.{ends_plain}
use Rattle.c65_rtl.proofs.SpPieces.{Moved, left, lowers_by}

some_is : {A : Type 0} (x y : A) → Some x ≡ Some y → x ≡ y
some_is x y e = cc

-- a routine whose row is known
pub meets_by : (s : RawSetting) (r : Routine) (row : State → Row) → ((t : State) → row_of r t ≡ Some (row t)) → ((back : Place) (t : State) → MayRun s (row t) t → Runs s r (row t) back t) → MeetsRow s r
meets_by s r row is by given back t e may =
    let same : row t ≡ given = some_is (row t) given (sym (is t) ∙ e) in
    subst (λ (w : Row). Runs s r w back t) same (by back t (subst (λ (w : Row). MayRun s w t) (sym same) may))

-- what follows where A and X stay, and memory is another
abbrev pub Stored : (State → Type 0) → ℕ → Bytes → State → Type 0
Stored P at m u = (y : ℕ) (n v z c : Bool) (zp mem : Bytes) → Moved at u.zp zp → ((b : ℕ) → mem b ≡ m b) → P (left u u.regs.a u.regs.x y n v z c zp mem)

pub sreg_kept : (at : ℕ) (old new : Bytes) → Moved at old new → new 2 + 256 * new 3 ≡ old 2 + 256 * old 3
sreg_kept at old new moved =
    let low : new 2 ≡ old 2 = moved.rest 2 (omega arith) in
    let high : new 3 ≡ old 3 = moved.rest 3 (omega arith) in
    omega arith

pub push_byte_at : (place : Placement) (bounds : Bounds) (P : State → Type 0) (u : State) → u.zp 0 < 256 → u.zp 1 < 256 → 1 ≤ sp_of u → IsReachable place bounds (sp_of u - 1)
    → Stored P (sp_of u - 1) (write u.mem (sp_of u - 1) u.regs.a) u → leads place bounds P push_byte None (record u { pushed = [] })
unfolding leads
push_byte_at place bounds P u low high fits open_at follows = elim [
  | true ↦ λ e.
      let test : nat_eq (u.zp 0) 0 ≡ false = not_true _ e in
      let apart : u.zp 0 ≢ 0 = eq_false _ _ test in
      let zp : Bytes = write u.zp 0 ((u.zp 0 + 255) % 256) in
      let moved : Moved (sp_of u - 1) u.zp zp = record { low = omega arith; high = high; sp = omega arith; rest = λ i two. let ne : i ≢ 0 = omega arith in write_other u.zp 0 _ i ne } in
      let at : ((u.zp 0 + 255) % 256 + 256 * u.zp 1 + 0) % 65536 ≡ sp_of u - 1 = omega arith in
      (subst (λ (b : ℕ). IsReachable place bounds b) (sym at) open_at, follows _ _ _ _ _ zp _ moved (λ b. ap (λ (n : ℕ). write u.mem n u.regs.a b) at))
  | false ↦ λ e.
      let test : nat_eq (u.zp 0) 0 ≡ true = not_false _ e in
      let same : u.zp 0 ≡ 0 = eq_true _ _ test in
      let mid : Bytes = write u.zp 1 ((u.zp 1 + 255) % 256) in
      let zp : Bytes = write mid 0 ((u.zp 0 + 255) % 256) in
      let moved : Moved (sp_of u - 1) u.zp zp = record { low = omega arith; high = omega arith; sp = omega arith; rest = λ i two. let ne : i ≢ 0 = omega arith in let nf : i ≢ 1 = omega arith in write_other mid 0 _ i ne ∙ write_other u.zp 1 _ i nf } in
      let at : ((u.zp 0 + 255) % 256 + 256 * ((u.zp 1 + 255) % 256) + 0) % 65536 ≡ sp_of u - 1 = omega arith in
      (subst (λ (b : ℕ). IsReachable place bounds b) (sym at) open_at, follows _ _ _ _ _ zp _ moved (λ b. ap (λ (n : ℕ). write u.mem n u.regs.a b) at))
]

abbrev pusha_row : State → Row
pusha_row t = push_row routines.PushA (t.regs.a ∷ []) t

pushes_a : (s : RawSetting) → s.lines (s.routine routines.PushA) ≡ push_byte → (back : Place) (t : State) → MayRun s (pusha_row t) t → Runs s routines.PushA (pusha_row t) back t
pushes_a s has back t may =
    let z0 = may.bytes.zp 0 in
    let z1 = may.bytes.zp 1 in
    let soft = may.room.soft in
    let high = may.high in
    let lit : 0 < 1 = omega arith in
    let near : IsOpen s.place (min (sp_of t) (sp_of t - 1)) (sp_of t - 1) = may.room.near 0 0 lit in
    let open_at : IsReachable s.place (reach_of t) (sp_of t - 1) = reached s.place (reach_of t) (min (sp_of t) (sp_of t - 1)) (sp_of t - 1) (sp_of t - 1) refl (omega arith) near in
    runs s routines.PushA (pusha_row t) back t push_byte has (record { onward = refl; weight = refl; depth = refl }) refl may
    (push_byte_at s.place (reach_of t) (Ends (pusha_row t) t) (called back t) z0 z1 (omega arith) open_at
    (λ y n v z c zp mem moved stored. ends_plain (pusha_row t) back t t.regs.a t.regs.x y n v z c zp mem [] refl may.running (refl, refl, tt, tt) moved.rest
    moved.sp (refl, refl, sreg_kept _ _ _ moved) (λ b h. stored b)))

pub write_same : (m : Bytes) (at v b : ℕ) → b ≡ at → write m at v b ≡ v
write_same m at v b same = elim (eqb_tells b at) [ inl equal ↦ rw equal.0 refl | inr apart ↦ absurd (apart.1 same) ]

pub write_where : (m : Bytes) (p q v b : ℕ) → p ≡ q → write m p v b ≡ write m q v b
write_where m p q v b e = ap (λ (n : ℕ). write m n v b) e

pub write_cong : (m n : Bytes) (at v b : ℕ) → m b ≡ n b → write m at v b ≡ write n at v b
write_cong m n at v b e = ap (λ (x : ℕ). if b == at then v else x) e

-- two writes in the other order
two_writes : (m : Bytes) (p q r s v w b : ℕ) → p ≡ r → q ≡ s → r ≢ s → write (write m q w) p v b ≡ write (write m r v) s w b
two_writes m p q r s v w b ep eq apart =
    let sr : s ≢ r = λ e. apart (sym e) in
    write_where (write m q w) p r v b ep ∙ (write_cong (write m q w) (write m s w) r v b (write_where m q s w b eq) ∙ write_swap m s r w v b sr)

-- X and the byte that was pushed go to the two bytes at sp
abbrev word_lines : List Line
word_lines = value Ldy 1 ∷ implied Txa ∷ by_y Sta sp ∷ implied Dey ∷ implied Pla ∷ by_y Sta sp ∷ implied Rts ∷ []

word_to : (place : Placement) (bounds : Bounds) (P : State → Type 0) (at v : ℕ) (u : State) → u.zp 0 + 256 * u.zp 1 ≡ at → at + 1 < 65536 → IsReachable place bounds at → IsReachable place bounds (at + 1)
    → ((n z : Bool) (mem : Bytes) → ((b : ℕ) → mem b ≡ write (write u.mem at v) (at + 1) u.regs.x b) → P (left u v u.regs.x 0 n u.regs.v z u.regs.c u.zp mem))
    → leads place bounds P word_lines None (record u { pushed = v ∷ [] })
unfolding leads
word_to place bounds P at v u is fits low high follows =
    let first : (u.zp 0 + 256 * u.zp 1 + 1) % 65536 ≡ at + 1 = omega arith in
    let second : (u.zp 0 + 256 * u.zp 1 + 0) % 65536 ≡ at = omega arith in
    let apart : at ≢ at + 1 = omega arith in (
      subst (λ (b : ℕ). IsReachable place bounds b) (sym first) high,
      (
        subst (λ (b : ℕ). IsReachable place bounds b) (sym second) low,
        follows _ _ _ (λ b. two_writes u.mem ((u.zp 0 + 256 * u.zp 1 + 0) % 65536) ((u.zp 0 + 256 * u.zp 1 + 1) % 65536) at (at + 1) v u.regs.x b second first apart),
      ),
    )

pub push_word_at : (place : Placement) (bounds : Bounds) (P : State → Type 0) (u : State) → u.zp 0 < 256 → u.zp 1 < 256 → 2 ≤ sp_of u → IsReachable place bounds (sp_of u - 2) → IsReachable place bounds (sp_of u - 2 + 1)
    → Stored P (sp_of u - 2) (write (write u.mem (sp_of u - 2) u.regs.a) (sp_of u - 2 + 1) u.regs.x) u → leads place bounds P push_word None (record u { pushed = [] })
push_word_at place bounds P u low high fits open_low open_high follows =
    lowers_by place bounds P 2 word_lines u low high (omega arith) (omega arith) fits (λ a n v z c zp moved.
    word_to place bounds P (sp_of u - 2) u.regs.a (record u { regs = record { a = a; x = u.regs.x; y = u.regs.y; n = n; v = v; z = z; c = c }; zp = zp }) moved.sp (omega arith) open_low open_high
    (λ m w mem stored. follows 0 m v w c zp mem moved stored))

-- what a push leaves
pub pushed_ends : (row : Row) (back : Place) (t : State) (m : Bytes) (a x : ℕ) → IsTrue (has_part row.changes (Zp 0)) → IsTrue (has_part row.changes (Zp 1))
    → IsTrue (has_part row.changes Y) × IsTrue (has_part row.changes N) × IsTrue (has_part row.changes V) × IsTrue (has_part row.changes Z) × IsTrue (has_part row.changes C)
    → KeptUnless (has_part row.changes A) t.regs.a a → KeptUnless (has_part row.changes X) t.regs.x x → Gives row.a a → Gives row.x x → row.sreg ≡ Some (sreg_of t) → row.pointers ≡ None → row.bank ≡ None
    → row.taken ≡ 0 → row.out ≡ [] → row.ends ≡ None → t.ended ≡ None → ((b : ℕ) → m b ≡ written t.mem row.writes b)
    → (y : ℕ) (n v z c : Bool) (zp mem : Bytes) → Moved row.sp t.zp zp → ((b : ℕ) → mem b ≡ m b) → Ends row t (left (called back t) a x y n v z c zp mem)
pushed_ends row back t m a x zero_moves one_moves small a_kept x_kept gives_a gives_x gives_sreg no_pointers no_bank none_taken nothing_out goes_on running is_written y n v z c zp mem moved stored =
    ends_by row t (left (called back t) a x y n v z c zp mem) [] (record {
      zp = moved.rest;
      fit = refl;
      small = small;
      low_kept = subst (λ (b : Bool). KeptUnless b (t.zp 0) (zp 0)) (sym zero_moves) tt;
      high_kept = subst (λ (b : Bool). KeptUnless b (t.zp 1) (zp 1)) (sym one_moves) tt;
      a_kept = a_kept;
      x_kept = x_kept;
      sp = moved.sp;
      a = gives_a;
      x = gives_x;
      sreg = subst (λ (w : Option ℕ). Gives w (zp 2 + 256 * zp 3)) (sym gives_sreg) (sreg_kept _ _ _ moved);
      pointers = subst (λ (w : Option (ℕ × ℕ)). GivesPointers w zp) (sym no_pointers) tt;
      bank = subst (λ (w : Option (List ℕ)). GivesBank w zp) (sym no_bank) tt;
      mem = λ b h. stored b ∙ is_written b;
      input = ap (λ (k : ℕ). drop k t.input) (sym none_taken);
      output = sym (append-nil t.output) ∙ ap (λ (bytes : List ℕ). t.output ++ bytes) (sym nothing_out);
      ended = running ∙ sym goes_on;
    })

abbrev pushax_row : State → Row
pushax_row t = push_row routines.PushAx (t.regs.a ∷ t.regs.x ∷ []) t

-- what rows that push two bytes open
record OpenWord (s : RawSetting) (t : State) : Type 0 where
  low : IsReachable s.place (reach_of t) (sp_of t - 2)
  high : IsReachable s.place (reach_of t) (sp_of t - 2 + 1)

open_word : (s : RawSetting) (row : Row) (t : State) → row.sp ≡ sp_of t - 2 → row.near ≡ (sp_of t - 2) ∷ (sp_of t - 2 + 1) ∷ [] → MayRun s row t → OpenWord s t
open_word s row t at near may =
    let soft = may.room.soft in
    let opened : All (IsOpen s.place (min (sp_of t) row.sp)) ((sp_of t - 2) ∷ (sp_of t - 2 + 1) ∷ []) = subst (λ (bs : List ℕ). All (IsOpen s.place (min (sp_of t) row.sp)) bs) near may.room.near in
    let first : 0 < 2 = omega arith in
    let second : 1 < 2 = omega arith in
    let below : (reach_of t).soft ≤ min (sp_of t) row.sp = omega arith in
    record {
      low = reached s.place (reach_of t) (min (sp_of t) row.sp) (sp_of t - 2) (sp_of t - 2) refl below (opened 0 0 first);
      high = reached s.place (reach_of t) (min (sp_of t) row.sp) (sp_of t - 2 + 1) (sp_of t - 2 + 1) refl below (opened 1 0 second);
    }

pushes_ax : (s : RawSetting) → s.lines (s.routine routines.PushAx) ≡ push_word → (back : Place) (t : State) → MayRun s (pushax_row t) t → Runs s routines.PushAx (pushax_row t) back t
pushes_ax s has back t may =
    let soft = may.room.soft in
    let opened = open_word s (pushax_row t) t refl refl may in
    runs s routines.PushAx (pushax_row t) back t push_word has (record { onward = refl; weight = refl; depth = refl }) refl may
    (push_word_at s.place (reach_of t) (Ends (pushax_row t) t) (called back t) (may.bytes.zp 0) (may.bytes.zp 1) (omega arith) opened.low opened.high
    (pushed_ends (pushax_row t) back t (write (write t.mem (sp_of t - 2) t.regs.a) (sp_of t - 2 + 1) t.regs.x) t.regs.a t.regs.x refl refl (refl, refl, refl, refl, refl) refl refl refl refl refl refl refl refl refl refl may.running (λ b. refl)))

abbrev pusha0_row : State → Row
pusha0_row t = record (push_row routines.PushA0 (t.regs.a ∷ 0 ∷ []) t) { x = Some 0 }

zero_x_at : (place : Placement) (bounds : Bounds) (P : State → Type 0) (rest : List Line) (u : State)
    → ((n z : Bool) → leads place bounds P rest None (record u { regs = record u.regs { x = 0; n = n; z = z } }))
    → leads place bounds P (value Ldx 0 ∷ rest) None u
unfolding leads
zero_x_at place bounds P rest u follows = follows _ _

pushes_a0 : (s : RawSetting) → s.lines (s.routine routines.PushA0) ≡ value Ldx 0 ∷ push_word → (back : Place) (t : State) → MayRun s (pusha0_row t) t → Runs s routines.PushA0 (pusha0_row t) back t
pushes_a0 s has back t may =
    let soft = may.room.soft in
    let opened = open_word s (pusha0_row t) t refl refl may in
    runs s routines.PushA0 (pusha0_row t) back t (value Ldx 0 ∷ push_word) has (record { onward = refl; weight = refl; depth = refl }) refl may
    (zero_x_at s.place (reach_of t) (Ends (pusha0_row t) t) push_word (called back t) (λ n z.
    push_word_at s.place (reach_of t) (Ends (pusha0_row t) t) (record (called back t) { regs = record t.regs { x = 0; n = n; z = z } }) (may.bytes.zp 0) (may.bytes.zp 1) (omega arith) opened.low opened.high
    (pushed_ends (pusha0_row t) back t (write (write t.mem (sp_of t - 2) t.regs.a) (sp_of t - 2 + 1) 0) t.regs.a 0 refl refl (refl, refl, refl, refl, refl) refl tt refl refl refl refl refl refl refl refl may.running (λ b. refl))))

abbrev push0_row : State → Row
push0_row t = record (push_row routines.Push0 (0 ∷ 0 ∷ []) t) { a = Some 0; x = Some 0 }

pub zero_ax_at : (place : Placement) (bounds : Bounds) (P : State → Type 0) (rest : List Line) (u : State)
    → ((n z : Bool) → leads place bounds P rest None (record u { regs = record u.regs { a = 0; x = 0; n = n; z = z } }))
    → leads place bounds P (value Lda 0 ∷ implied Tax ∷ rest) None u
unfolding leads
zero_ax_at place bounds P rest u follows = follows _ _

pushes_0 : (s : RawSetting) → s.lines (s.routine routines.Push0) ≡ value Lda 0 ∷ implied Tax ∷ push_word → (back : Place) (t : State) → MayRun s (push0_row t) t → Runs s routines.Push0 (push0_row t) back t
pushes_0 s has back t may =
    let soft = may.room.soft in
    let opened = open_word s (push0_row t) t refl refl may in
    runs s routines.Push0 (push0_row t) back t (value Lda 0 ∷ implied Tax ∷ push_word) has (record { onward = refl; weight = refl; depth = refl }) refl may
    (zero_ax_at s.place (reach_of t) (Ends (push0_row t) t) push_word (called back t) (λ n z.
    push_word_at s.place (reach_of t) (Ends (push0_row t) t) (record (called back t) { regs = record t.regs { a = 0; x = 0; n = n; z = z } }) (may.bytes.zp 0) (may.bytes.zp 1) (omega arith) opened.low opened.high
    (pushed_ends (push0_row t) back t (write (write t.mem (sp_of t - 2) 0) (sp_of t - 2 + 1) 0) 0 0 refl refl (refl, refl, refl, refl, refl) tt tt refl refl refl refl refl refl refl refl may.running (λ b. refl))))

pub pusha : (s : RawSetting) → s.lines (s.routine routines.PushA) ≡ lines_of routines.PushA → MeetsRow s routines.PushA
pusha s has = meets_by s routines.PushA pusha_row (λ t. refl) (pushes_a s has)

pub pushax : (s : RawSetting) → s.lines (s.routine routines.PushAx) ≡ lines_of routines.PushAx → MeetsRow s routines.PushAx
pushax s has = meets_by s routines.PushAx pushax_row (λ t. refl) (pushes_ax s has)

pub pusha0 : (s : RawSetting) → s.lines (s.routine routines.PushA0) ≡ lines_of routines.PushA0 → MeetsRow s routines.PushA0
pusha0 s has = meets_by s routines.PushA0 pusha0_row (λ t. refl) (pushes_a0 s has)

pub push0 : (s : RawSetting) → s.lines (s.routine routines.Push0) ≡ lines_of routines.Push0 → MeetsRow s routines.Push0
push0 s has = meets_by s routines.Push0 push0_row (λ t. refl) (pushes_0 s has)
