-- `tosudivax` and `tosumodax` (C90 6.3.5)
use Rattle.std.proofs.Common.{◌≡◌, ℕ, suc, ◌+◌, ◌*◌, ◌/◌, ◌%◌, ◌<◌, ◌≤◌, Bool, false, List, [], ◌∷◌, Option, None, refl, ap, ◌∙◌, arith}
use Rattle.std.proofs.lemmas.List.Elements.{All-nil}
use Rattle.c65_code.specs.declared.routine.Routine.TheVariants as routines
use Rattle.c65_code.specs.declared.routine.TosOp.TheVariants as tos
use Rattle.c65_code.specs.declared.routine.Width.TheVariants.{Ax}
use Rattle.c65_code.specs.declared.line.Line.{Line}
use Rattle.c65_code.specs.LineState.{Place, State, write, word_at, sp_of, ax_of, IsBytes}
use Rattle.c65_code.specs.Numbers.{divided}
use Rattle.c65_code.specs.Moves.{settle, labelled}
use Rattle.c65_code.specs.RawMachine.{RawSetting, Bounds, IsReachable, RawComes, HasDone, called, entry_of}
use Rattle.c65_rtl.proofs.Ways.{Ends}
use Rattle.c65_rtl.proofs.Meeting.{write_other}
use Rattle.c65_rtl_law_walks.specs.Inside.{MayRunIn}
use Rattle.c65_rtl_law_walks.proofs.Turning.{turn_weight, TurnsIn}
use Rattle.c65_rtl_law_walks.proofs.Meets.{turning_meets, met_within}
use Rattle.c65_rtl_law_inner.proofs.Pops.{popax_row, pop_word_comes, Popped, popped}
use Rattle.c65_rtl_law_inner.proofs.Beside.{outside}
use Rattle.c65_rtl_law_quotients.specs.Rows.{Holds, IsMet, IsMetBy}
use Rattle.c65_rtl_law_quotients.proofs.Rounds.{Divided, after_all}
use Rattle.c65_rtl_law_quotients.proofs.Pieces.{takes, Ways, divide_on, terms_on, begun, begin_at, pointed, terms_at, held, dividend_at, quotient_on, remainder_on, back_lines, back_at, quotient_at, remainder_at}
use Rattle.c65_rtl_law_quotients.proofs.Dividing.{places, Dividing, Behind, divide_go, before}
use Rattle.c65_rtl_law_quotients.proofs.Leaving.{IsLeft, leaves_turning, calls_first, first_meets}
use Rattle.c65_rtl_law_quotients.proofs.Results.{result_row, goes_on, may_pop, may_pop_called, Leaves, still_leaves, beside_called, modest, result_ends, result_by}

abbrev dividend_of : State → ℕ
dividend_of t = word_at t.mem (sp_of t)

abbrev unsigned_on : List Line → List Line
unsigned_on rest = terms_on (divide_on rest)

-- at label 2, with the weight that is left
abbrev Going : State → ℕ → ℕ → State → Type 0
Going t l n u = (l ≡ 2) × ((left : ℕ) × (suc left < 256) × (20 * left + 60 ≤ n) × Dividing t (t.zp 16) (t.zp 17) (dividend_of t) (ax_of t) (suc left) u)

abbrev Follows : RawSetting → Bounds → (State → Type 0) → List Line → State → Type 1
Follows s bounds P rest t = Behind s bounds P false rest t (t.zp 16) (t.zp 17) (dividend_of t) (ax_of t)

round : (s : RawSetting) (bounds : Bounds) (P : State → Type 0) (rest : List Line) (t : State) → dividend_of t < 65536 → ((m : ℕ) → turn_weight takes m (3 ∷ 2 ∷ []) rest ≤ 20) → Follows s bounds P rest t
    → (l n : ℕ) (u : State) → IsBytes u → Going t l n u → TurnsIn s bounds 2 takes P (unsigned_on rest) (Going t) l n u
round s bounds P rest t small light behind l n u bytes g =
    let left : ℕ = g.1.0 in
    let few = g.1.1 in
    let enough = g.1.2 in
    let less : ℕ = 20 * left + 40 in
    let tail = light less in
    record {
      k = 8;
      less = less;
      stands = ap (λ (j : ℕ). settle (unsigned_on rest) (labelled (unsigned_on rest) j)) g.0;
      fewer = omega arith;
      weighs = omega arith;
      leads = divide_go s bounds P (λ j v. Going t j less v) false rest t (t.zp 16) (t.zp 17) (dividend_of t) (ax_of t) left u behind small few g.1.3
          (λ m w e k. (refl, (m, (omega arith), (omega arith), k)));
    }

-- once the dividend is popped
ready : (back : Place) (t u : State) (n z : Bool) → IsBytes t → Popped (pointed (called back t)) u → Dividing t (t.zp 16) (t.zp 17) (dividend_of t) (ax_of t) 16 (begun (held u) n z)
ready back t u n z bytes p =
    let a = p.a in
    let x = p.x in
    let first_low = bytes.mem (sp_of t) in
    let first_high = bytes.mem (sp_of t + 1) in
    let ten : u.zp 10 ≡ t.regs.a = p.zp 10 (omega arith) in
    let eleven : u.zp 11 ≡ t.regs.x = p.zp 11 (omega arith) in
    before t (t.zp 16) (t.zp 17) (dividend_of t) (ax_of t) (held u) n z (omega arith) (omega arith) (omega arith)
    (record { sp = p.sp; mem = p.mem; pushed = p.pushed; input = p.input; output = p.output; ended = p.ended })
    (record {
      rest = λ i two out. write_other (write u.zp 8 _) 9 _ i (outside places 9 i refl out) ∙ (write_other u.zp 8 _ i (outside places 8 i refl out) ∙ (p.zp i two
          ∙ (write_other (write t.zp 10 _) 11 _ i (outside places 11 i refl out) ∙ write_other t.zp 10 _ i (outside places 10 i refl out))));
      tmp1 = p.zp 16 (omega arith);
      tmp2 = p.zp 17 (omega arith);
      ptr2 = omega arith;
      low = (let byte = bytes.a in omega arith);
      high = (let byte = bytes.x in omega arith);
    })

dividend_fits : (t : State) → IsBytes t → dividend_of t < 65536
dividend_fits t bytes =
    let low = bytes.mem (sp_of t) in
    let high = bytes.mem (sp_of t + 1) in
    omega arith

enters : (s : RawSetting) → Holds s routines.PopAx → (P : State → Type 0) (rest : List Line) (bounds : Bounds) (back : Place) (t : State) → MayRunIn s bounds 0 2 (popax_row t) t
    → Follows s bounds P rest t → Ways s bounds P (λ j v. Going t j 360 v) [] (unsigned_on rest) (called back t)
enters s pops P rest bounds back t may behind =
    terms_at s bounds P (λ j v. Going t j 360 v) (divide_on rest) (called back t) (record {
      row = popax_row (pointed (called back t));
      comes = λ may_in from. pop_word_comes s pops bounds from (pointed (called back t)) may_in;
      goes_on = refl;
      ready = refl;
      near = may.near;
      far = All-nil (IsReachable s.place bounds);
      soft = may.soft;
      hard = omega arith;
      high = may.high;
      data_low = may.data_low;
      follows = λ u m bytes. dividend_at s bounds P (λ j v. Going t j 360 v) (divide_on rest) u
          (begin_at s bounds P (λ j v. Going t j 360 v) [] rest (held u)
          (λ n z. divide_go s bounds P (λ j v. Going t j 360 v) false rest t (t.zp 16) (t.zp 17) (dividend_of t) (ax_of t) 15 (begun (held u) n z) behind (dividend_fits t may.bytes) (omega arith)
          (ready back t u n z may.bytes (popped (pointed (called back t)) u m))
          (λ m w e k. (refl, (m, (omega arith), (omega arith), k)))));
    })

-- what the loop leaves
finished : (t u : State) → Dividing t (t.zp 16) (t.zp 17) (dividend_of t) (ax_of t) 0 u → 0 < ax_of t → Divided (dividend_of t) (ax_of t) (u.zp 8 + 256 * u.zp 9) (u.regs.a + 256 * u.zp 13)
finished t u k some = after_all 65536 (dividend_of t) (ax_of t) (u.zp 8 + 256 * u.zp 9) (u.regs.a + 256 * u.zp 13) (k.number some)

abbrev remainder_of : State → Option ℕ
remainder_of t = divided (ax_of t) (dividend_of t % ax_of t)

abbrev remainder_lines : List Line
remainder_lines = unsigned_on (remainder_on back_lines)

abbrev with_remainder : State → Bool → Bool → State
with_remainder u n z = record u { regs = record u.regs { x = u.zp 13; n = n; z = z } }

remainder_ends : (s : RawSetting) (bounds : Bounds) (t : State) → Follows s bounds (Ends (result_row tos.UMod (remainder_of t) t) t) (remainder_on back_lines) t
remainder_ends s bounds t B u k =
    let P : State → Type 0 = Ends (result_row tos.UMod (remainder_of t) t) t in
    remainder_at s bounds P B (3 ∷ 2 ∷ []) back_lines u (λ n z.
    back_at s bounds P B (3 ∷ 2 ∷ []) (with_remainder u n z) k.beside.pushed
    (result_ends tos.UMod (remainder_of t) t (with_remainder u n z) k.beside k.terms.rest (result_by (ax_of t) (dividend_of t % ax_of t) u.regs.a (u.zp 13) k.remainder_low k.remainder_high (λ some. (finished t u k some).remainder))))

pub tosumodax : IsMet tos.UMod
tosumodax s has pops = met_within s 0 2 (turn_weight takes 360 [] remainder_lines) (routines.Tos tos.UMod Ax) (λ t. result_row tos.UMod (remainder_of t) t) (λ t. refl)
    (turning_meets s 0 2 takes (routines.Tos tos.UMod Ax) (λ t. result_row tos.UMod (remainder_of t) t) remainder_lines (λ t. refl) (λ t. goes_on tos.UMod (remainder_of t) t) has Going 360
    (λ bounds back t may. let P : State → Type 0 = Ends (result_row tos.UMod (remainder_of t) t) t in record {
      round = round s bounds P (remainder_on back_lines) t (dividend_fits t may.bytes) (λ m. omega arith) (remainder_ends s bounds t);
      leads = enters s pops P (remainder_on back_lines) bounds back t (may_pop s bounds 2 tos.UMod (remainder_of t) t may) (remainder_ends s bounds t);
    }))
    (omega arith) (omega arith) (λ t. modest tos.UMod (remainder_of t) t _ (omega arith))

-- what it leaves for the quotient's routine
abbrev Left : State → State → Type 0
Left t u = Leaves t (t.zp 16) (t.zp 17) (dividend_of t) (ax_of t) u

remainder_leaves : (s : RawSetting) (bounds : Bounds) (t : State) → Follows s bounds (Left t) (remainder_on back_lines) t
remainder_leaves s bounds t B u k =
    remainder_at s bounds (Left t) B (3 ∷ 2 ∷ []) back_lines u (λ n z.
    back_at s bounds (Left t) B (3 ∷ 2 ∷ []) (with_remainder u n z) k.beside.pushed
    (record { beside = k.beside; terms = k.terms; low = k.low; high = k.high; quotient = λ some. (finished t u k some).quotient }))

remainder_comes : (s : RawSetting) → Holds s (routines.Tos tos.UMod Ax) → Holds s routines.PopAx → (bounds : Bounds) (back : Place) (t : State) → t.pushed ≡ [] → MayRunIn s bounds 0 2 (popax_row t) t
    → RawComes s bounds (IsLeft (Left t) back t) (turn_weight takes 360 [] remainder_lines) (entry_of s (s.routine (routines.Tos tos.UMod Ax))) (called back t)
remainder_comes s has pops bounds back t none may =
    leaves_turning s bounds 2 takes (Left t) (routines.Tos tos.UMod Ax) back t remainder_lines has (λ u k. still_leaves t (t.zp 16) (t.zp 17) (dividend_of t) (ax_of t) u none k) (Going t)
    (round s bounds (Left t) (remainder_on back_lines) t (dividend_fits t may.bytes) (λ m. omega arith) (remainder_leaves s bounds t)) 360 may.hard may.bytes may.running
    (enters s pops (Left t) (remainder_on back_lines) bounds back t may (remainder_leaves s bounds t))

abbrev quotient_of : State → Option ℕ
quotient_of t = divided (ax_of t) (dividend_of t / ax_of t)

quotient_ends : (s : RawSetting) (bounds : Bounds) (back : Place) (t u : State) → Left (called back t) u → Ways s bounds (Ends (result_row tos.UDiv (quotient_of t) t) t) (λ j w. ⊥) [] (quotient_on back_lines) u
quotient_ends s bounds back t u k =
    let P : State → Type 0 = Ends (result_row tos.UDiv (quotient_of t) t) t in
    quotient_at s bounds P (λ j w. ⊥) [] back_lines u (λ n z.
    let to : State = record u { regs = record u.regs { a = u.zp 8; x = u.zp 9; n = n; z = z } } in
    back_at s bounds P (λ j w. ⊥) [] to k.beside.pushed
    (result_ends tos.UDiv (quotient_of t) t to (beside_called back t to k.beside) k.terms.rest (result_by (ax_of t) (dividend_of t / ax_of t) (u.zp 8) (u.zp 9) k.low k.high k.quotient)))

abbrev quotient_weight : ℕ
quotient_weight = 2 + (turn_weight takes 360 [] remainder_lines + turn_weight takes 0 [] (quotient_on back_lines))

quotient_comes : (s : RawSetting) → Holds s (routines.Tos tos.UDiv Ax) → Holds s (routines.Tos tos.UMod Ax) → Holds s routines.PopAx → (bounds : Bounds) (back : Place) (t : State) → MayRunIn s bounds 0 4 (result_row tos.UDiv (quotient_of t) t) t
    → RawComes s bounds (HasDone None (result_row tos.UDiv (quotient_of t) t) back t) quotient_weight (entry_of s (s.routine (routines.Tos tos.UDiv Ax))) (called back t)
quotient_comes s has calls pops bounds back t may =
    let deep = may.hard in
    let inner : MayRunIn s bounds 0 2 (popax_row (called back t)) (called back t) = may_pop_called s bounds 2 back t (may_pop s bounds 4 tos.UDiv (quotient_of t) t may) in
    calls_first s bounds 2 takes (routines.Tos tos.UDiv Ax) (routines.Tos tos.UMod Ax) (result_row tos.UDiv (quotient_of t) t) back t (quotient_on back_lines) (Left (called back t)) (turn_weight takes 360 [] remainder_lines)
    has refl (omega arith) (omega arith) may.running (record {
      comes = λ from. remainder_comes s calls pops bounds from (called back t) refl inner;
      goes_on = λ u k. k.beside.ended;
      follows = λ u k. quotient_ends s bounds back t u k;
    })

pub tosudivax : IsMetBy tos.UDiv tos.UMod
tosudivax s has calls pops = met_within s 0 4 quotient_weight (routines.Tos tos.UDiv Ax) (λ t. result_row tos.UDiv (quotient_of t) t) (λ t. refl)
    (first_meets s 0 4 quotient_weight (routines.Tos tos.UDiv Ax) (λ t. result_row tos.UDiv (quotient_of t) t) (λ t. refl) (λ t. goes_on tos.UDiv (quotient_of t) t)
    (λ bounds back t may. quotient_comes s has calls pops bounds back t may))
    (omega arith) (omega arith) (λ t. modest tos.UDiv (quotient_of t) t _ (omega arith))
