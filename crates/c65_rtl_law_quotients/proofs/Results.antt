-- From what the lines of a division leave to its row, and the loop's rounds within a routine's lines.
use Rattle.std.proofs.Common.{◌≡◌, ◌≢◌, ℕ, suc, ◌+◌, ◌*◌, ◌/◌, ◌<◌, ◌≤◌, ◌⊎◌, inl, inr, Bool, true, false, All, [], Option, Some, None, nat_eq, refl, sym, subst, ◌∙◌, arith}
use Rattle.std.specs.Prelude.{◌==◌, if◌then◌else◌}
use Rattle.std.proofs.lemmas.List.{append-nil}
use Rattle.std.proofs.lemmas.List.Elements.{All-nil}
use Rattle.std.proofs.lemmas.Bool.Decides.{eqb_tells}
use Rattle.c65_code.specs.declared.routine.Routine.TheVariants as routines
use Rattle.c65_code.specs.declared.routine.TosOp.{TosOp}
use Rattle.c65_code.specs.declared.routine.Width.TheVariants.{Ax}
use Rattle.c65_code.specs.LineState.{Place, State, sp_of}
use Rattle.c65_code.specs.Numbers.{divided}
use Rattle.c65_code.specs.Segments.{is_among}
use Rattle.c65_code.specs.Texts.{range_of}
use Rattle.c65_code.specs.Rows.{Row, low_byte, high_byte, giving_if, costing, popping, row_by, tos_cost}
use Rattle.c65_code.specs.RawMachine.{RawSetting, Bounds, IsReachable, called}
use Rattle.c65_rtl.proofs.Ways.{Ends}
use Rattle.c65_rtl.proofs.Meeting.{ends_by}
use Rattle.c65_rtl.proofs.UnaryWords.{AreWordBytes, word_bytes_of}
use Rattle.c65_rtl_law_walks.specs.Inside.{MayRunIn}
use Rattle.c65_rtl_law_walks.proofs.Walks.{called_bytes}
use Rattle.c65_rtl_law_inner.proofs.Pops.{popax_row}
use Rattle.c65_rtl_law_inner.proofs.Beside.{Beside, values, rewritten}
use Rattle.c65_rtl_law_quotients.proofs.Dividing.{places, Terms}
use Rattle.c65_rtl_law_quotients.proofs.Leaving.{called_hard}

-- the row of an operator that pops a word, with its result
abbrev pub result_row : TosOp → Option ℕ → State → Row
result_row op result t = giving_if Ax result (costing (tos_cost op) (popping 2 t (row_by (routines.Tos op Ax) t)))

-- what of the row is the same whatever the result
pub goes_on : (op : TosOp) (result : Option ℕ) (t : State) → (result_row op result t).ends ≡ None
goes_on op None t = refl
goes_on op (Some v) t = refl

pub near_of : (P : ℕ → Type 0) (op : TosOp) (result : Option ℕ) (t : State) → All P (result_row op result t).near → All P (range_of 2 (sp_of t))
near_of P op None t h = h
near_of P op (Some v) t h = h

pub modest : (op : TosOp) (result : Option ℕ) (t : State) (weight : ℕ) → suc weight ≤ tos_cost op → (suc weight ≤ (result_row op result t).cost) × (sp_of t ≤ (result_row op result t).sp + 64)
modest op None t weight less = (less, omega arith)
modest op (Some v) t weight less = (less, omega arith)

-- what every division wants: that the dividend may be popped
pub may_pop : (s : RawSetting) (bounds : Bounds) (deepest : ℕ) (op : TosOp) (result : Option ℕ) (t : State) → MayRunIn s bounds 0 deepest (result_row op result t) t → MayRunIn s bounds 0 deepest (popax_row t) t
may_pop s bounds deepest op result t may = record {
  ready = refl;
  near = near_of (IsReachable s.place bounds) op result t may.near;
  far = All-nil (IsReachable s.place bounds);
  soft = may.soft;
  hard = may.hard;
  high = may.high;
  bytes = may.bytes;
  running = may.running;
  data_low = may.data_low;
}

-- by a routine that it calls too
pub may_pop_called : (s : RawSetting) (bounds : Bounds) (deepest : ℕ) (back : Place) (t : State) → MayRunIn s bounds 0 (2 + deepest) (popax_row t) t → MayRunIn s bounds 0 deepest (popax_row (called back t)) (called back t)
may_pop_called s bounds deepest back t may = record {
  ready = refl;
  near = may.near;
  far = may.far;
  soft = may.soft;
  hard = called_hard bounds.hard deepest back t may.hard;
  high = may.high;
  bytes = called_bytes back t may.bytes;
  running = may.running;
  data_low = may.data_low;
}

-- What a remainder's routine leaves beside its result: the quotient in the dividend's place, and the signs.
pub record Leaves (t : State) (first second v d : ℕ) (u : State) : Type 0 where
  pub beside : Beside t 2 u
  pub terms : Terms t first second d u.zp
  pub low : u.zp 8 < 256
  pub high : u.zp 9 < 256
  pub quotient : 0 < d → u.zp 8 + 256 * u.zp 9 ≡ v / d

-- where nothing was pushed at its call
pub still_leaves : (t : State) (first second v d : ℕ) (u : State) → t.pushed ≡ [] → Leaves t first second v d u → Leaves t first second v d (record u { pushed = t.pushed; frames = t.frames })
still_leaves t first second v d u none k = record {
  beside = record { sp = k.beside.sp; mem = k.beside.mem; pushed = none; input = k.beside.input; output = k.beside.output; ended = k.beside.ended };
  terms = k.terms;
  low = k.low;
  high = k.high;
  quotient = k.quotient;
}

-- seen from the routine that calls it
pub beside_called : (back : Place) (t u : State) → Beside (called back t) 2 u → Beside t 2 u
beside_called back t u k = record { sp = k.sp; mem = k.mem; pushed = k.pushed; input = k.input; output = k.output; ended = k.ended }

abbrev pub IsResult : Option ℕ → ℕ → ℕ → Type 0
IsResult None a x = Unit {0}
IsResult (Some v) a x = (a ≡ low_byte v) × (x ≡ high_byte v)

pub result_ends : (op : TosOp) (result : Option ℕ) (t u : State) → Beside t 2 u → ((i : ℕ) → 2 ≤ i → is_among places i ≡ false → u.zp i ≡ t.zp i) → IsResult result u.regs.a u.regs.x → Ends (result_row op result t) t u
result_ends op None t u beside rest is = ends_by (result_row op None t) t u (values u.zp places) (record {
  zp = λ i two. rewritten t.zp u.zp places i (rest i two);
  fit = refl;
  small = (refl, refl, refl, refl, refl);
  low_kept = tt;
  high_kept = tt;
  a_kept = tt;
  x_kept = tt;
  sp = beside.sp;
  a = tt;
  x = tt;
  sreg = tt;
  pointers = tt;
  bank = tt;
  mem = λ b h. beside.mem b;
  input = beside.input;
  output = beside.output ∙ sym (append-nil t.output);
  ended = beside.ended;
})
result_ends op (Some v) t u beside rest is = ends_by (result_row op (Some v) t) t u (values u.zp places) (record {
  zp = λ i two. rewritten t.zp u.zp places i (rest i two);
  fit = refl;
  small = (refl, refl, refl, refl, refl);
  low_kept = tt;
  high_kept = tt;
  a_kept = tt;
  x_kept = tt;
  sp = beside.sp;
  a = is.0;
  x = is.1;
  sreg = tt;
  pointers = tt;
  bank = tt;
  mem = λ b h. beside.mem b;
  input = beside.input;
  output = beside.output ∙ sym (append-nil t.output);
  ended = beside.ended;
})

-- a result that is given where the divisor is not 0
pub result_by : (divisor v a x : ℕ) → a < 256 → x < 256 → (0 < divisor → a + 256 * x ≡ v) → IsResult (divided divisor v) a x
result_by divisor v a x low high is = by (eqb_tells divisor 0)
  where
    by : ((nat_eq divisor 0 ≡ true) × (divisor ≡ 0)) ⊎ ((nat_eq divisor 0 ≡ false) × (divisor ≢ 0)) → IsResult (if divisor == 0 then None else Some v) a x
    by (inl none) = subst (λ (b : Bool). IsResult (if b then None else Some v) a x) (sym none.0) tt
    by (inr some) =
        let apart = some.1 in
        let bytes : AreWordBytes v a x = word_bytes_of v a x low high (is (omega arith)) in
        subst (λ (b : Bool). IsResult (if b then None else Some v) a x) (sym some.0) (bytes.a, bytes.x)
