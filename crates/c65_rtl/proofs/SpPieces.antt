-- The pieces of lines that move sp.
use Rattle.std.proofs.Common.{◌≡◌, ◌≢◌, ℕ, ◌+◌, ◌-◌, ◌*◌, ◌%◌, ◌<◌, ◌≤◌, Bool, true, false, List, [], ◌∷◌, None, nat_eq, ◌∙◌, arith}
use Rattle.std.specs.Prelude.{nat_lt, bit_and, bit_xor}
use Rattle.std.specs.Int.Bits.{xor_add_and}
use Rattle.std.proofs.lemmas.Nat.{and_mask}
use Rattle.c65_mach.specs.declared.rows.Op.TheVariants.{Bcs, Dec, Lda, Pha, Sbc, Sec, Sta}
use Rattle.c65_code.specs.declared.line.Line.{Line}
use Rattle.c65_code.specs.declared.line.Line.TheVariants.{Label}
use Rattle.c65_code.specs.LineState.{Bytes, write, State, sp_of}
use Rattle.c65_code.specs.Placement.{Placement}
use Rattle.c65_code.specs.RawMachine.{Bounds}
use Rattle.c65_rtl.specs.Assembly.{sp, implied, value, zero_page, branch}
use Rattle.c65_rtl.specs.Stack.{raise_one, raise_two, raise_by_y, raise_by_number, lower_one, lower_two, lower_by_y, lower_by_number}
use Rattle.c65_rtl.proofs.Ways.{leads}
use Rattle.c65_rtl.proofs.Meeting.{eq_true, eq_false, lt_true, lt_false, not_true, not_false, write_other}

-- the zero page after sp was moved to an address
pub record Moved (at : ℕ) (old new : Bytes) : Type 0 where
  pub low : new 0 < 256
  pub high : new 1 < 256
  pub sp : new 0 + 256 * new 1 ≡ at
  pub rest : (i : ℕ) → 2 ≤ i → new i ≡ old i

-- a state with these registers and bytes, and nothing pushed
abbrev pub left : State → ℕ → ℕ → ℕ → Bool → Bool → Bool → Bool → Bytes → Bytes → State
left u a x y n v z c zp mem = record u { regs = record { a = a; x = x; y = y; n = n; v = v; z = z; c = c }; zp = zp; mem = mem; pushed = [] }

-- what follows where A, X and memory stay
abbrev pub Follows : (State → Type 0) → ℕ → State → Type 0
Follows P at u = (y : ℕ) (n v z c : Bool) (zp : Bytes) → Moved at u.zp zp → P (left u u.regs.a u.regs.x y n v z c zp u.mem)

pub raise_one_at : (place : Placement) (bounds : Bounds) (P : State → Type 0) (u : State) → u.zp 0 < 256 → u.zp 1 < 256 → sp_of u + 1 < 65536 → Follows P (sp_of u + 1) u
    → leads place bounds P raise_one None (record u { pushed = [] })
unfolding leads
raise_one_at place bounds P u low high fits follows = elim [
  | true ↦ λ e.
      let test : nat_eq ((u.zp 0 + 1) % 256) 0 ≡ false = not_true _ e in
      let apart : (u.zp 0 + 1) % 256 ≢ 0 = eq_false _ _ test in
      let zp : Bytes = write u.zp 0 ((u.zp 0 + 1) % 256) in
      let moved : Moved (sp_of u + 1) u.zp zp = record { low = omega arith; high = high; sp = omega arith; rest = λ i two. let ne : i ≢ 0 = omega arith in write_other u.zp 0 _ i ne } in
      follows _ _ _ _ _ zp moved
  | false ↦ λ e.
      let test : nat_eq ((u.zp 0 + 1) % 256) 0 ≡ true = not_false _ e in
      let same : (u.zp 0 + 1) % 256 ≡ 0 = eq_true _ _ test in
      let mid : Bytes = write u.zp 0 ((u.zp 0 + 1) % 256) in
      let zp : Bytes = write mid 1 ((u.zp 1 + 1) % 256) in
      let moved : Moved (sp_of u + 1) u.zp zp = record { low = omega arith; high = omega arith; sp = omega arith; rest = λ i two. let ne : i ≢ 0 = omega arith in let nf : i ≢ 1 = omega arith in write_other mid 1 _ i nf ∙ write_other u.zp 0 _ i ne } in
      follows _ _ _ _ _ zp moved
]

pub raise_two_at : (place : Placement) (bounds : Bounds) (P : State → Type 0) (u : State) → u.zp 0 < 256 → u.zp 1 < 256 → sp_of u + 2 < 65536 → Follows P (sp_of u + 2) u
    → leads place bounds P raise_two None (record u { pushed = [] })
unfolding leads
raise_two_at place bounds P u low high fits follows = elim [
  | true ↦ λ e.
      let same : (u.zp 0 + 1) % 256 ≡ 0 = eq_true _ _ e in
      let one : Bytes = write u.zp 0 ((u.zp 0 + 1) % 256) in
      let two_on : Bytes = write one 0 (((u.zp 0 + 1) % 256 + 1) % 256) in
      let zp : Bytes = write two_on 1 ((u.zp 1 + 1) % 256) in
      let moved : Moved (sp_of u + 2) u.zp zp = record { low = omega arith; high = omega arith; sp = omega arith; rest = λ i two. let ne : i ≢ 0 = omega arith in let nf : i ≢ 1 = omega arith in write_other two_on 1 _ i nf ∙ (write_other one 0 _ i ne ∙ write_other u.zp 0 _ i ne) } in
      follows _ _ _ _ _ zp moved
  | false ↦ λ e. elim [
    | true ↦ λ g.
        let apart : (u.zp 0 + 1) % 256 ≢ 0 = eq_false _ _ e in
        let same : ((u.zp 0 + 1) % 256 + 1) % 256 ≡ 0 = eq_true _ _ g in
        let one : Bytes = write u.zp 0 ((u.zp 0 + 1) % 256) in
        let two_on : Bytes = write one 0 (((u.zp 0 + 1) % 256 + 1) % 256) in
        let zp : Bytes = write two_on 1 ((u.zp 1 + 1) % 256) in
        let moved : Moved (sp_of u + 2) u.zp zp = record { low = omega arith; high = omega arith; sp = omega arith; rest = λ i two. let ne : i ≢ 0 = omega arith in let nf : i ≢ 1 = omega arith in write_other two_on 1 _ i nf ∙ (write_other one 0 _ i ne ∙ write_other u.zp 0 _ i ne) } in
        follows _ _ _ _ _ zp moved
    | false ↦ λ g.
        let apart : (u.zp 0 + 1) % 256 ≢ 0 = eq_false _ _ e in
        let apart_on : ((u.zp 0 + 1) % 256 + 1) % 256 ≢ 0 = eq_false _ _ g in
        let one : Bytes = write u.zp 0 ((u.zp 0 + 1) % 256) in
        let zp : Bytes = write one 0 (((u.zp 0 + 1) % 256 + 1) % 256) in
        let moved : Moved (sp_of u + 2) u.zp zp = record { low = omega arith; high = high; sp = omega arith; rest = λ i two. let ne : i ≢ 0 = omega arith in write_other one 0 _ i ne ∙ write_other u.zp 0 _ i ne } in
        follows _ _ _ _ _ zp moved
  ]
]

pub raise_by_y_at : (place : Placement) (bounds : Bounds) (P : State → Type 0) (u : State) → u.zp 0 < 256 → u.zp 1 < 256 → u.regs.y < 256 → Follows P ((sp_of u + u.regs.y) % 65536) u
    → leads place bounds P raise_by_y None (record u { pushed = [] })
unfolding leads
raise_by_y_at place bounds P u low high byte follows = elim [
  | true ↦ λ e.
      let test : nat_lt 255 (u.regs.y + u.zp 0 + 0) ≡ false = not_true _ e in
      let small : u.regs.y + u.zp 0 + 0 ≤ 255 = lt_false _ _ test in
      let zp : Bytes = write u.zp 0 ((u.regs.y + u.zp 0 + 0) % 256) in
      let moved : Moved ((sp_of u + u.regs.y) % 65536) u.zp zp = record { low = omega arith; high = high; sp = omega arith; rest = λ i two. let ne : i ≢ 0 = omega arith in write_other u.zp 0 _ i ne } in
      follows _ _ _ _ _ zp moved
  | false ↦ λ e.
      let test : nat_lt 255 (u.regs.y + u.zp 0 + 0) ≡ true = not_false _ e in
      let great : 255 < u.regs.y + u.zp 0 + 0 = lt_true _ _ test in
      let mid : Bytes = write u.zp 0 ((u.regs.y + u.zp 0 + 0) % 256) in
      let zp : Bytes = write mid 1 ((u.zp 1 + 1) % 256) in
      let moved : Moved ((sp_of u + u.regs.y) % 65536) u.zp zp = record { low = omega arith; high = omega arith; sp = omega arith; rest = λ i two. let ne : i ≢ 0 = omega arith in let nf : i ≢ 1 = omega arith in write_other mid 1 _ i nf ∙ write_other u.zp 0 _ i ne } in
      follows _ _ _ _ _ zp moved
]

pub lower_one_at : (place : Placement) (bounds : Bounds) (P : State → Type 0) (u : State) → u.zp 0 < 256 → u.zp 1 < 256 → 1 ≤ sp_of u → Follows P (sp_of u - 1) u
    → leads place bounds P lower_one None (record u { pushed = [] })
unfolding leads
lower_one_at place bounds P u low high fits follows = elim [
  | true ↦ λ e.
      let test : nat_eq (u.zp 0) 0 ≡ false = not_true _ e in
      let apart : u.zp 0 ≢ 0 = eq_false _ _ test in
      let zp : Bytes = write u.zp 0 ((u.zp 0 + 255) % 256) in
      let moved : Moved (sp_of u - 1) u.zp zp = record { low = omega arith; high = high; sp = omega arith; rest = λ i two. let ne : i ≢ 0 = omega arith in write_other u.zp 0 _ i ne } in
      follows _ _ _ _ _ zp moved
  | false ↦ λ e.
      let test : nat_eq (u.zp 0) 0 ≡ true = not_false _ e in
      let same : u.zp 0 ≡ 0 = eq_true _ _ test in
      let mid : Bytes = write u.zp 1 ((u.zp 1 + 255) % 256) in
      let zp : Bytes = write mid 0 ((u.zp 0 + 255) % 256) in
      let moved : Moved (sp_of u - 1) u.zp zp = record { low = omega arith; high = omega arith; sp = omega arith; rest = λ i two. let ne : i ≢ 0 = omega arith in let nf : i ≢ 1 = omega arith in write_other mid 0 _ i ne ∙ write_other u.zp 1 _ i nf } in
      follows _ _ _ _ _ zp moved
]

pub lower_two_at : (place : Placement) (bounds : Bounds) (P : State → Type 0) (u : State) → u.zp 0 < 256 → u.zp 1 < 256 → 2 ≤ sp_of u → Follows P (sp_of u - 2) u
    → leads place bounds P lower_two None (record u { pushed = [] })
unfolding leads
lower_two_at place bounds P u low high fits follows = elim [
  | true ↦ λ e.
      let test : nat_lt 254 (((u.zp 0 + 255) % 256 + 255) % 256 + 1) ≡ false = not_true _ e in
      let small : ((u.zp 0 + 255) % 256 + 255) % 256 + 1 ≤ 254 = lt_false _ _ test in
      let zp : Bytes = write u.zp 0 (((u.zp 0 + 255) % 256 + 255) % 256) in
      let moved : Moved (sp_of u - 2) u.zp zp = record { low = omega arith; high = high; sp = omega arith; rest = λ i two. let ne : i ≢ 0 = omega arith in write_other u.zp 0 _ i ne } in
      follows _ _ _ _ _ zp moved
  | false ↦ λ e.
      let test : nat_lt 254 (((u.zp 0 + 255) % 256 + 255) % 256 + 1) ≡ true = not_false _ e in
      let great : 254 < ((u.zp 0 + 255) % 256 + 255) % 256 + 1 = lt_true _ _ test in
      let mid : Bytes = write u.zp 0 (((u.zp 0 + 255) % 256 + 255) % 256) in
      let zp : Bytes = write mid 1 ((u.zp 1 + 255) % 256) in
      let moved : Moved (sp_of u - 2) u.zp zp = record { low = omega arith; high = omega arith; sp = omega arith; rest = λ i two. let ne : i ≢ 0 = omega arith in let nf : i ≢ 1 = omega arith in write_other mid 1 _ i nf ∙ write_other u.zp 0 _ i ne } in
      follows _ _ _ _ _ zp moved
]

pub xor_ones : (a : ℕ) → a < 256 → bit_xor a 255 ≡ 255 - a
xor_ones a byte =
    let sum : bit_xor a 255 + bit_and a 255 * 2 ≡ a + 255 = xor_add_and a 255 in
    let mask : bit_and a 255 ≡ a % 256 = and_mask a 8 in
    omega arith

pub lower_by_y_at : (place : Placement) (bounds : Bounds) (P : State → Type 0) (u : State) → u.zp 0 < 256 → u.zp 1 < 256 → u.regs.y < 256 → u.regs.y ≤ sp_of u → Follows P (sp_of u - u.regs.y) u
    → leads place bounds P lower_by_y None (record u { pushed = [] })
unfolding leads
lower_by_y_at place bounds P u low high byte fits follows =
    let ones = xor_ones u.regs.y byte in
    elim [
      | true ↦ λ e.
          let great : 255 < bit_xor u.regs.y 255 + u.zp 0 + 1 = lt_true _ _ e in
          let zp : Bytes = write u.zp 0 ((bit_xor u.regs.y 255 + u.zp 0 + 1) % 256) in
          let moved : Moved (sp_of u - u.regs.y) u.zp zp = record { low = omega arith; high = high; sp = omega arith; rest = λ i two. let ne : i ≢ 0 = omega arith in write_other u.zp 0 _ i ne } in
          follows _ _ _ _ _ zp moved
      | false ↦ λ e.
          let small : bit_xor u.regs.y 255 + u.zp 0 + 1 ≤ 255 = lt_false _ _ e in
          let mid : Bytes = write u.zp 0 ((bit_xor u.regs.y 255 + u.zp 0 + 1) % 256) in
          let zp : Bytes = write mid 1 ((u.zp 1 + 255) % 256) in
          let moved : Moved (sp_of u - u.regs.y) u.zp zp = record { low = omega arith; high = omega arith; sp = omega arith; rest = λ i two. let ne : i ≢ 0 = omega arith in let nf : i ≢ 1 = omega arith in write_other mid 1 _ i nf ∙ write_other u.zp 0 _ i ne } in
          follows _ _ _ _ _ zp moved
    ]

pub raise_by_at : (place : Placement) (bounds : Bounds) (P : State → Type 0) (k : ℕ) (u : State) → u.zp 0 < 256 → u.zp 1 < 256 → k < 256 → sp_of u + k < 65536 → Follows P (sp_of u + k) u
    → leads place bounds P (raise_by_number k) None (record u { pushed = [] })
unfolding leads
raise_by_at place bounds P k u low high byte fits follows = elim [
  | true ↦ λ e.
      let test : nat_lt 255 (u.zp 0 + k + 0) ≡ false = not_true _ e in
      let small : u.zp 0 + k + 0 ≤ 255 = lt_false _ _ test in
      let zp : Bytes = write u.zp 0 ((u.zp 0 + k + 0) % 256) in
      let moved : Moved (sp_of u + k) u.zp zp = record { low = omega arith; high = high; sp = omega arith; rest = λ i two. let ne : i ≢ 0 = omega arith in write_other u.zp 0 _ i ne } in
      follows _ _ _ _ _ zp moved
  | false ↦ λ e.
      let test : nat_lt 255 (u.zp 0 + k + 0) ≡ true = not_false _ e in
      let great : 255 < u.zp 0 + k + 0 = lt_true _ _ test in
      let mid : Bytes = write u.zp 0 ((u.zp 0 + k + 0) % 256) in
      let zp : Bytes = write mid 1 ((u.zp 1 + 1) % 256) in
      let moved : Moved (sp_of u + k) u.zp zp = record { low = omega arith; high = omega arith; sp = omega arith; rest = λ i two. let ne : i ≢ 0 = omega arith in let nf : i ≢ 1 = omega arith in write_other mid 1 _ i nf ∙ write_other u.zp 0 _ i ne } in
      follows _ _ _ _ _ zp moved
]

pub lower_by_at : (place : Placement) (bounds : Bounds) (P : State → Type 0) (k : ℕ) (u : State) → u.zp 0 < 256 → u.zp 1 < 256 → k < 256 → 1 ≤ k → k ≤ sp_of u → Follows P (sp_of u - k) u
    → leads place bounds P (lower_by_number k) None (record u { pushed = [] })
unfolding leads
lower_by_at place bounds P k u low high byte some fits follows = elim [
  | true ↦ λ e.
      let great : 255 < u.zp 0 + (255 - k) + 1 = lt_true _ _ e in
      let zp : Bytes = write u.zp 0 ((u.zp 0 + (255 - k) + 1) % 256) in
      let moved : Moved (sp_of u - k) u.zp zp = record { low = omega arith; high = high; sp = omega arith; rest = λ i two. let ne : i ≢ 0 = omega arith in write_other u.zp 0 _ i ne } in
      follows _ _ _ _ _ zp moved
  | false ↦ λ e.
      let small : u.zp 0 + (255 - k) + 1 ≤ 255 = lt_false _ _ e in
      let mid : Bytes = write u.zp 0 ((u.zp 0 + (255 - k) + 1) % 256) in
      let zp : Bytes = write mid 1 ((u.zp 1 + 255) % 256) in
      let moved : Moved (sp_of u - k) u.zp zp = record { low = omega arith; high = omega arith; sp = omega arith; rest = λ i two. let ne : i ≢ 0 = omega arith in let nf : i ≢ 1 = omega arith in write_other mid 1 _ i nf ∙ write_other u.zp 0 _ i ne } in
      follows _ _ _ _ _ zp moved
]

-- sp is lowered by so much, and A is pushed
abbrev pub lower_by : ℕ → List Line → List Line
lower_by k rest = implied Pha ∷ zero_page Lda sp ∷ implied Sec ∷ value Sbc k ∷ zero_page Sta sp ∷ branch Bcs 2 ∷ zero_page Dec (sp + 1) ∷ Label 2 ∷ rest

pub lowers_by : (place : Placement) (bounds : Bounds) (P : State → Type 0) (k : ℕ) (rest : List Line) (u : State) → u.zp 0 < 256 → u.zp 1 < 256 → k < 256 → 1 ≤ k → k ≤ sp_of u
    → ((a : ℕ) (n v z c : Bool) (zp : Bytes) → Moved (sp_of u - k) u.zp zp
    → leads place bounds P rest None (record u { regs = record { a = a; x = u.regs.x; y = u.regs.y; n = n; v = v; z = z; c = c }; zp = zp; pushed = u.regs.a ∷ [] }))
    → leads place bounds P (lower_by k rest) None (record u { pushed = [] })
unfolding leads
lowers_by place bounds P k rest u low high byte some fits follows = elim [
  | true ↦ λ e.
      let great : 255 < u.zp 0 + (255 - k) + 1 = lt_true _ _ e in
      let zp : Bytes = write u.zp 0 ((u.zp 0 + (255 - k) + 1) % 256) in
      let moved : Moved (sp_of u - k) u.zp zp = record { low = omega arith; high = high; sp = omega arith; rest = λ i two. let ne : i ≢ 0 = omega arith in write_other u.zp 0 _ i ne } in
      follows _ _ _ _ _ zp moved
  | false ↦ λ e.
      let small : u.zp 0 + (255 - k) + 1 ≤ 255 = lt_false _ _ e in
      let mid : Bytes = write u.zp 0 ((u.zp 0 + (255 - k) + 1) % 256) in
      let zp : Bytes = write mid 1 ((u.zp 1 + 255) % 256) in
      let moved : Moved (sp_of u - k) u.zp zp = record { low = omega arith; high = omega arith; sp = omega arith; rest = λ i two. let ne : i ≢ 0 = omega arith in let nf : i ≢ 1 = omega arith in write_other mid 1 _ i nf ∙ write_other u.zp 0 _ i ne } in
      follows _ _ _ _ _ zp moved
]
