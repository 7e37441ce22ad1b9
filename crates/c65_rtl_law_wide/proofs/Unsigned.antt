-- `tosudiveax` and `tosumodeax` (C90 6.3.5)
use Rattle.std.proofs.Common.{◌≡◌, ℕ, suc, ◌+◌, ◌*◌, ◌/◌, ◌%◌, ◌<◌, ◌≤◌, Bool, false, List, [], ◌∷◌, Option, None, refl, ap, ◌∙◌, arith}
use Rattle.std.proofs.lemmas.List.Elements.{All-nil}
use Rattle.c65_code.specs.declared.routine.Routine.TheVariants as routines
use Rattle.c65_code.specs.declared.routine.TosOp.TheVariants as tos
use Rattle.c65_code.specs.declared.routine.Width.TheVariants.{Eax}
use Rattle.c65_code.specs.declared.line.Line.{Line}
use Rattle.c65_code.specs.LineState.{Place, State, write, sp_of, eax_of, IsBytes}
use Rattle.c65_code.specs.Numbers.{divided}
use Rattle.c65_code.specs.Moves.{settle, labelled}
use Rattle.c65_code.specs.Segments.{is_among}
use Rattle.c65_code.specs.Rows.{long_at}
use Rattle.c65_code.specs.RawMachine.{RawSetting, Bounds, IsReachable, RawComes, HasDone, called, entry_of}
use Rattle.c65_rtl.proofs.Ways.{Ends}
use Rattle.c65_rtl_law_walks.specs.Inside.{MayRunIn}
use Rattle.c65_rtl_law_walks.proofs.Turning.{turn_weight, TurnsIn}
use Rattle.c65_rtl_law_walks.proofs.Meets.{turning_meets, met_within}
use Rattle.c65_rtl_law_inner.proofs.Longs.{popeax_row, pop_long_comes, popped_long}
use Rattle.c65_rtl_law_quotients.proofs.Rounds.{Divided, after_all}
use Rattle.c65_rtl_law_quotients.proofs.Leaving.{IsLeft, leaves_turning, calls_first, first_meets}
use Rattle.c65_rtl_law_wide.specs.Rows.{Holds, HoldsInner, IsDivided, IsDividedBy}
use Rattle.c65_rtl_law_wide.proofs.Terms.{takes, Ways, places, four, kept_four, kept_write, nothing_on, terms_on, pointed, terms_at, held, dividend_at, cleared, nothing_at, remainder_on, from_regsave, remainder_at, back_lines, back_at, Ready, ready}
use Rattle.c65_rtl_law_wide.proofs.Results.{result_row, goes_on, may_pop, may_pop_called, Leaves, still_leaves, beside_called, modest, result_ends, result_by}
use Rattle.c65_rtl_law_wide.proofs.Pieces.{divide_on, begun, begin_at, quotient_on, from_place, quotient_at}
use Rattle.c65_rtl_law_wide.proofs.Dividing.{Terms, Dividing, Behind, divide_go, before}

abbrev dividend_of : State → ℕ
dividend_of t = long_at t.mem (sp_of t)

abbrev unsigned_on : List Line → List Line
unsigned_on rest = terms_on (nothing_on (divide_on rest))

-- at label 2, with the weight that is left
abbrev Going : State → ℕ → ℕ → State → Type 0
Going t l n u = (l ≡ 2) × ((left : ℕ) × (suc left < 256) × (40 * left + 90 ≤ n) × Dividing t (t.zp 16) (t.zp 17) (dividend_of t) (eax_of t) (suc left) u)

abbrev Follows : RawSetting → Bounds → (State → Type 0) → List Line → State → Type 1
Follows s bounds P rest t = Behind s bounds P false rest t (t.zp 16) (t.zp 17) (dividend_of t) (eax_of t)

round : (s : RawSetting) (bounds : Bounds) (P : State → Type 0) (rest : List Line) (t : State) → dividend_of t < 4294967296 → ((m : ℕ) → turn_weight takes m (3 ∷ 2 ∷ []) rest ≤ 30) → Follows s bounds P rest t
    → (l n : ℕ) (u : State) → IsBytes u → Going t l n u → TurnsIn s bounds 3 takes P (unsigned_on rest) (Going t) l n u
round s bounds P rest t small light behind l n u bytes g =
    let left : ℕ = g.1.0 in
    let few = g.1.1 in
    let enough = g.1.2 in
    let less : ℕ = 40 * left + 50 in
    let tail = light less in
    record {
      k = 19;
      less = less;
      stands = ap (λ (j : ℕ). settle (unsigned_on rest) (labelled (unsigned_on rest) j)) g.0;
      fewer = omega arith;
      weighs = omega arith;
      leads = divide_go s bounds P (λ j v. Going t j less v) false rest t (t.zp 16) (t.zp 17) (dividend_of t) (eax_of t) left u behind small few g.1.3
          (λ m w e k. (refl, (m, (omega arith), (omega arith), k)));
    }

-- before the first round
started : (t u : State) (a b n z : Bool) → Ready t u → Dividing t (t.zp 16) (t.zp 17) (dividend_of t) (eax_of t) 32 (begun (cleared u a b) n z)
started t u a b n z k =
    before t (t.zp 16) (t.zp 17) (dividend_of t) (eax_of t) (cleared u a b) n z (record { b0 = k.byte 8; b1 = k.byte 9; b2 = k.byte 10; b3 = k.byte 11 }) k.first refl refl refl refl k.beside
    (record {
      rest = λ i two out. kept_four u.zp 4 5 6 7 0 0 0 0 i refl refl refl refl out ∙ k.rest i two out;
      tmp1 = k.tmp1;
      tmp2 = k.tmp2;
      ptr3 = k.second;
      bytes = record { b0 = k.byte 12; b1 = k.byte 13; b2 = k.byte 14; b3 = k.byte 15 };
    })

dividend_fits : (t : State) → IsBytes t → dividend_of t < 4294967296
dividend_fits t bytes =
    let m0 = bytes.mem (sp_of t) in
    let m1 = bytes.mem (sp_of t + 1) in
    let m2 = bytes.mem (sp_of t + 2) in
    let m3 = bytes.mem (sp_of t + 2 + 1) in
    omega arith

enters : (s : RawSetting) → HoldsInner s routines.PopEax → (P : State → Type 0) (rest : List Line) (bounds : Bounds) (back : Place) (t : State) → MayRunIn s bounds 0 3 (popeax_row t) t
    → Follows s bounds P rest t → Ways s bounds P (λ j v. Going t j 1330 v) [] (unsigned_on rest) (called back t)
enters s pops P rest bounds back t may behind =
    let B : ℕ → State → Type 0 = λ j v. Going t j 1330 v in
    terms_at s bounds P B (nothing_on (divide_on rest)) (called back t) (record {
      row = popeax_row (pointed (called back t));
      comes = λ may_in from. pop_long_comes s pops bounds from (pointed (called back t)) may_in;
      goes_on = refl;
      ready = refl;
      near = may.near;
      far = All-nil (IsReachable s.place bounds);
      soft = may.soft;
      hard = omega arith;
      high = may.high;
      data_low = may.data_low;
      follows = λ u m after. dividend_at s bounds P B (nothing_on (divide_on rest)) u (λ n z.
          nothing_at s bounds P B [] (divide_on rest) (held u n z) (λ a b.
          begin_at s bounds P B [] rest (cleared (held u n z) a b) (λ f g.
          divide_go s bounds P B false rest t (t.zp 16) (t.zp 17) (dividend_of t) (eax_of t) 31 (begun (cleared (held u n z) a b) f g) behind (dividend_fits t may.bytes) (omega arith)
          (started t (held u n z) a b f g (ready back t u n z may.bytes after (popped_long (pointed (called back t)) u m)))
          (λ m w e k. (refl, (m, (omega arith), (omega arith), k))))));
    })

-- what the loop leaves
finished : (t u : State) → Dividing t (t.zp 16) (t.zp 17) (dividend_of t) (eax_of t) 0 u → 0 < eax_of t → Divided (dividend_of t) (eax_of t) (four u.zp 8) (four u.zp 4)
finished t u k some = after_all 4294967296 (dividend_of t) (eax_of t) (four u.zp 8) (four u.zp 4) (k.number some)

abbrev remainder_of : State → Option ℕ
remainder_of t = divided (eax_of t) (dividend_of t % eax_of t)

abbrev remainder_lines : List Line
remainder_lines = unsigned_on (remainder_on back_lines)

-- what is kept where sreg takes a half of the result
kept_result : (t u : State) (first second d l h i : ℕ) → Terms t first second d u.zp → 2 ≤ i → is_among places i ≡ false → write (write u.zp 2 l) 3 h i ≡ t.zp i
kept_result t u first second d l h i k two out = kept_write (write u.zp 2 l) 3 h i refl out ∙ (kept_write u.zp 2 l i refl out ∙ k.rest i two out)

remainder_ends : (s : RawSetting) (bounds : Bounds) (t : State) → Follows s bounds (Ends (result_row tos.UMod (remainder_of t) t) t) (remainder_on back_lines) t
remainder_ends s bounds t B u k =
    let P : State → Type 0 = Ends (result_row tos.UMod (remainder_of t) t) t in
    remainder_at s bounds P B (3 ∷ 2 ∷ []) back_lines u (λ n z.
    back_at s bounds P B (3 ∷ 2 ∷ []) (from_regsave u n z) k.beside.pushed
    (result_ends tos.UMod (remainder_of t) t (from_regsave u n z) k.beside (λ i two out. kept_result t u (t.zp 16) (t.zp 17) (eax_of t) (u.zp 6) (u.zp 7) i k.terms two out)
    (result_by (eax_of t) (dividend_of t % eax_of t) (u.zp 4) (u.zp 5) (u.zp 6) (u.zp 7) k.remainder.b0 k.remainder.b1 (λ some. (finished t u k some).remainder))))

pub tosumodeax : IsDivided tos.UMod
tosumodeax s has pops = met_within s 0 3 (turn_weight takes 1330 [] remainder_lines) (routines.Tos tos.UMod Eax) (λ t. result_row tos.UMod (remainder_of t) t) (λ t. refl)
    (turning_meets s 0 3 takes (routines.Tos tos.UMod Eax) (λ t. result_row tos.UMod (remainder_of t) t) remainder_lines (λ t. refl) (λ t. goes_on tos.UMod (remainder_of t) t) has Going 1330
    (λ bounds back t may. let P : State → Type 0 = Ends (result_row tos.UMod (remainder_of t) t) t in record {
      round = round s bounds P (remainder_on back_lines) t (dividend_fits t may.bytes) (λ m. omega arith) (remainder_ends s bounds t);
      leads = enters s pops P (remainder_on back_lines) bounds back t (may_pop s bounds 3 tos.UMod (remainder_of t) t may) (remainder_ends s bounds t);
    }))
    (omega arith) (omega arith) (λ t. modest tos.UMod (remainder_of t) t _ (omega arith))

-- what it leaves for the quotient's routine
abbrev Left : State → State → Type 0
Left t u = Leaves t (t.zp 17) (dividend_of t) (eax_of t) u

remainder_leaves : (s : RawSetting) (bounds : Bounds) (t : State) → Follows s bounds (Left t) (remainder_on back_lines) t
remainder_leaves s bounds t B u k =
    remainder_at s bounds (Left t) B (3 ∷ 2 ∷ []) back_lines u (λ n z.
    back_at s bounds (Left t) B (3 ∷ 2 ∷ []) (from_regsave u n z) k.beside.pushed (record {
      beside = k.beside;
      rest = λ i two out. kept_result t u (t.zp 16) (t.zp 17) (eax_of t) (u.zp 6) (u.zp 7) i k.terms two out;
      tmp2 = k.terms.tmp2;
      low = k.place.b0;
      high = k.place.b1;
      quotient = λ some. (finished t u k some).quotient;
    }))

remainder_comes : (s : RawSetting) → Holds s tos.UMod → HoldsInner s routines.PopEax → (bounds : Bounds) (back : Place) (t : State) → t.pushed ≡ [] → MayRunIn s bounds 0 3 (popeax_row t) t
    → RawComes s bounds (IsLeft (Left t) back t) (turn_weight takes 1330 [] remainder_lines) (entry_of s (s.routine (routines.Tos tos.UMod Eax))) (called back t)
remainder_comes s has pops bounds back t none may =
    leaves_turning s bounds 3 takes (Left t) (routines.Tos tos.UMod Eax) back t remainder_lines has (λ u k. still_leaves t (t.zp 17) (dividend_of t) (eax_of t) u none k) (Going t)
    (round s bounds (Left t) (remainder_on back_lines) t (dividend_fits t may.bytes) (λ m. omega arith) (remainder_leaves s bounds t)) 1330 may.hard may.bytes may.running
    (enters s pops (Left t) (remainder_on back_lines) bounds back t may (remainder_leaves s bounds t))

abbrev quotient_of : State → Option ℕ
quotient_of t = divided (eax_of t) (dividend_of t / eax_of t)

quotient_ends : (s : RawSetting) (bounds : Bounds) (back : Place) (t u : State) → Left (called back t) u → Ways s bounds (Ends (result_row tos.UDiv (quotient_of t) t) t) (λ j w. ⊥) [] (quotient_on back_lines) u
quotient_ends s bounds back t u k =
    let P : State → Type 0 = Ends (result_row tos.UDiv (quotient_of t) t) t in
    quotient_at s bounds P (λ j w. ⊥) [] back_lines u (λ n z.
    back_at s bounds P (λ j w. ⊥) [] (from_place u n z) k.beside.pushed
    (result_ends tos.UDiv (quotient_of t) t (from_place u n z) (beside_called back t (from_place u n z) k.beside) (λ i two out. kept_write (write u.zp 2 (u.zp 10)) 3 (u.zp 11) i refl out ∙ (kept_write u.zp 2 (u.zp 10) i refl out ∙ k.rest i two out))
    (result_by (eax_of t) (dividend_of t / eax_of t) (u.zp 8) (u.zp 9) (u.zp 10) (u.zp 11) k.low k.high k.quotient)))

abbrev quotient_weight : ℕ
quotient_weight = 2 + (turn_weight takes 1330 [] remainder_lines + turn_weight takes 0 [] (quotient_on back_lines))

quotient_comes : (s : RawSetting) → Holds s tos.UDiv → Holds s tos.UMod → HoldsInner s routines.PopEax → (bounds : Bounds) (back : Place) (t : State) → MayRunIn s bounds 0 5 (result_row tos.UDiv (quotient_of t) t) t
    → RawComes s bounds (HasDone None (result_row tos.UDiv (quotient_of t) t) back t) quotient_weight (entry_of s (s.routine (routines.Tos tos.UDiv Eax))) (called back t)
quotient_comes s has calls pops bounds back t may =
    let deep = may.hard in
    let inner : MayRunIn s bounds 0 3 (popeax_row (called back t)) (called back t) = may_pop_called s bounds 3 back t (may_pop s bounds 5 tos.UDiv (quotient_of t) t may) in
    calls_first s bounds 3 takes (routines.Tos tos.UDiv Eax) (routines.Tos tos.UMod Eax) (result_row tos.UDiv (quotient_of t) t) back t (quotient_on back_lines) (Left (called back t)) (turn_weight takes 1330 [] remainder_lines)
    has refl (omega arith) (omega arith) may.running (record {
      comes = λ from. remainder_comes s calls pops bounds from (called back t) refl inner;
      goes_on = λ u k. k.beside.ended;
      follows = λ u k. quotient_ends s bounds back t u k;
    })

pub tosudiveax : IsDividedBy tos.UDiv tos.UMod
tosudiveax s has calls pops = met_within s 0 5 quotient_weight (routines.Tos tos.UDiv Eax) (λ t. result_row tos.UDiv (quotient_of t) t) (λ t. refl)
    (first_meets s 0 5 quotient_weight (routines.Tos tos.UDiv Eax) (λ t. result_row tos.UDiv (quotient_of t) t) (λ t. refl) (λ t. goes_on tos.UDiv (quotient_of t) t)
    (λ bounds back t may. quotient_comes s has calls pops bounds back t may))
    (omega arith) (omega arith) (λ t. modest tos.UDiv (quotient_of t) t _ (omega arith))
