-- Lines that the rules put for others, from near states.
use Rattle.std.proofs.Common.{◌≡◌, ℕ, ◌+◌, ◌-◌, ◌<◌, ◌≤◌, ◌⊎◌, inl, inr, take, drop, ap, ◌∙◌, arith}
use Rattle.c65_code.specs.declared.parts.Part.{Part}
use Rattle.c65_code.specs.declared.parts.Part.TheVariants.{A, X, Y, Zp, N, V, Z, C}
use Rattle.c65_code.specs.declared.parts.RegSet.{RegSet}
use Rattle.c65_code.specs.LineState.{State, sp_of, Same}
use Rattle.c65_code.specs.Placement.{stack_start}
use Rattle.c65_live.specs.Tables.{live_after}
use Rattle.c65_opt_law_near.specs.Near.{Near}
use Rattle.c65_optarith_law.specs.Straight.{Agree, IsKept}
use Rattle.c65_opt_law_straight.specs.Laws.{WindowStaysNear}
use Rattle.c65_opt_law_straight.proofs.Rows.{lines_stay_near}

-- states that agree are near
pub agree_near : (live : RegSet) (t u : State) → Agree live t u → Near live t u
agree_near live t u h = record {
  part = h.part;
  sp_low = ap (λ (s : State). s.zp 0) h.rest;
  sp_high = ap (λ (s : State). s.zp 1) h.rest;
  high = λ i k. ap (λ (s : State). s.zp i) h.rest;
  mem = λ b k. ap (λ (s : State). s.mem b) h.rest;
  pushed = ap (λ (s : State). s.pushed) h.rest;
  input = ap (λ (s : State). s.input) h.rest;
  output = ap (λ (s : State). s.output) h.rest;
  ended = ap (λ (s : State). s.ended) h.rest;
}

same_on : (p : Part) (t u v : State) → Same p t u → Same p u v → Same p t v
same_on A t u v h k = h ∙ k
same_on X t u v h k = h ∙ k
same_on Y t u v h k = h ∙ k
same_on (Zp i) t u v h k = h ∙ k
same_on N t u v h k = h ∙ k
same_on V t u v h k = h ∙ k
same_on Z t u v h k = h ∙ k
same_on C t u v h k = h ∙ k

near_on : (live : RegSet) (t u v : State) → Near live t u → Near live u v → Near live t v
near_on live t u v h k = record {
  part = λ p l. same_on p t u v (h.part p l) (k.part p l);
  sp_low = h.sp_low ∙ k.sp_low;
  sp_high = h.sp_high ∙ k.sp_high;
  high = λ i l. h.high i l ∙ k.high i l;
  mem = λ b l. h.mem b l ∙ k.mem b (open_in b l);
  pushed = h.pushed ∙ k.pushed;
  input = h.input ∙ k.input;
  output = h.output ∙ k.output;
  ended = h.ended ∙ k.ended;
}
  where
    open_in : (b : ℕ) → (b < stack_start) ⊎ (sp_of t ≤ b) → (b < stack_start) ⊎ (sp_of u ≤ b)
    open_in b (inl l) = inl l
    open_in b (inr l) = let low : t.zp 0 ≡ u.zp 0 = h.sp_low in let high : t.zp 1 ≡ u.zp 1 = h.sp_high in inr (omega arith)

pub window_stays_near : (rule : ℕ) → IsKept rule → WindowStaysNear rule
window_stays_near rule kept s literals noted table at w t u v low m rows straight bytes deep noted_so n =
    let live : RegSet = live_after table (at + w.count - 1) in
    let led = lines_stay_near s noted.out (take w.count (drop at noted.lines)) live t u v low rows straight bytes deep n in
    let new = kept s literals noted table at w u led.0 m noted_so led.1 in
    (new.0, new.1, near_on live v led.0 new.0 led.2 (agree_near live led.0 new.0 new.2))
