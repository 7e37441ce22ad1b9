-- A pointer to a function that waits below the arguments goes to ptr4.
use Rattle.std.proofs.Common.{◌≡◌, ℕ, ◌+◌, ◌%◌, ◌<◌, ◌≤◌, inr, false, Some, refl, sym, ap, ◌∙◌, subst, arith}
use Rattle.c65_mach.specs.declared.rows.Op.TheVariants.{Iny, Lda, Ldy}
use Rattle.c65_mach.specs.State.{Regs}
use Rattle.c65_mach.specs.Step.{apply, after}
use Rattle.c65_meaning.specs.Store.{Place}
use Rattle.c65_code.specs.LineState.{Bytes, write, State, sp_of, eax_of, zero_word, IsBytes}
use Rattle.c65_code.specs.Placement.{IsPlacement, stack_end}
use Rattle.c65_code.specs.Steady.{IsOpen}
use Rattle.c65_genexpr.specs.declared.arguments.Passed.{Passed}
use Rattle.c65_genexpr.specs.Calls.{fetch_code}
use Rattle.c65_agree_store.specs.Stands.{At, Placing}
use Rattle.c65_agree_state.specs.World.{World, Active}
use Rattle.c65_agree_state.specs.Laws.{OnlyScratch}
use Rattle.c65_agree_rows.proofs.Quiet.{write_other}
use Rattle.c65_agree_frame.specs.Leads.{IsOn, Leads}
use Rattle.c65_agree_frame.proofs.Leads.{leads_as, kept_regs, kept_zero, lines_lead, AreSafe}
use Rattle.c65_agree_argument.specs.Arguments.{LieAt}

-- ---- the lines

-- two bytes so far above sp are in ptr4; A, X and sreg stay, and all but scratch bytes
pub record IsFetched (m : ℕ) (t u : State) : Type 0 where
  pub sp : sp_of u ≡ sp_of t
  pub low : u.zp 14 ≡ t.mem (sp_of t + m)
  pub high : u.zp 15 ≡ t.mem (sp_of t + m + 1)
  pub value : eax_of u ≡ eax_of t
  pub mem : u.mem ≡ t.mem
  pub only : OnlyScratch (sp_of t) t u

module _ (g : World) (a : Active) (placed : IsPlacement g.code g.place) (p : Passed) (t : State) (on : IsOn g t) (few : p.stacked + 1 < 256) (room : sp_of t + p.stacked + 2 ≤ stack_end) where
  abbrev m : ℕ
  m = p.stacked

  abbrev z1 : Bytes
  z1 = write t.zp 16 t.regs.a

  abbrev r2 : Regs
  r2 = apply false Ldy m t.regs

  abbrev p3 : ℕ
  p3 = after (zero_word t 0) m

  abbrev r3 : Regs
  r3 = apply false Lda (t.mem p3) r2

  abbrev z4 : Bytes
  z4 = write z1 14 (t.mem p3)

  abbrev r5 : Regs
  r5 = apply false Iny 0 r3

  abbrev p6 : ℕ
  p6 = after (zero_word t 0) ((m + 1) % 256)

  abbrev r6 : Regs
  r6 = apply false Lda (t.mem p6) r5

  abbrev z7 : Bytes
  z7 = write z4 15 (t.mem p6)

  abbrev r8 : Regs
  r8 = apply false Lda (z7 16) r6

  abbrev last : State
  last = record t { regs = r8; zp = z7 }

  first_is : p3 ≡ sp_of t + m
  first_is = omega (arith, room)

  second_is : p6 ≡ sp_of t + m + 1
  second_is = omega (arith, room, few)

  open_at : (n : ℕ) → sp_of t ≤ n → n < stack_end → IsOpen g.place (sp_of t) n
  open_at n lo hi = inr (lo, hi)

  safe : AreSafe g (fetch_code p) t
  safe = (
    refl,
    (omega arith, λ _. omega arith),
    tt,
    kept_zero t 16 t.regs.a (omega arith),
    (
      refl,
      tt,
      omega (arith, few),
      kept_regs (record t { zp = z1 }) r2,
      (
        refl,
        open_at p3 (omega (arith, first_is)) (omega (arith, first_is, room)),
        tt,
        kept_regs (record t { zp = z1; regs = r2 }) r3,
        (
          refl,
          (omega arith, λ _. omega arith),
          tt,
          kept_zero (record t { zp = z1; regs = r3 }) 14 (t.mem p3) (omega arith),
          (
            refl,
            tt,
            omega arith,
            kept_regs (record t { zp = z4; regs = r3 }) r5,
            (
              refl,
              open_at p6 (omega (arith, second_is)) (omega (arith, second_is, room)),
              tt,
              kept_regs (record t { zp = z4; regs = r5 }) r6,
              (
                refl,
                (omega arith, λ _. omega arith),
                tt,
                kept_zero (record t { zp = z4; regs = r6 }) 15 (t.mem p6) (omega arith),
                (refl, (omega arith, λ _. omega arith), tt, kept_regs (record t { zp = z7; regs = r6 }) r8, tt),
              ),
            ),
          ),
        ),
      ),
    ),
  )

  other_byte : (i : ℕ) → 20 ≤ i → z7 i ≡ t.zp i
  other_byte i le = write_other z4 15 (t.mem p6) i (λ e. omega (arith, e, le)) ∙ (write_other z1 14 (t.mem p3) i (λ e. omega (arith, e, le)) ∙ write_other t.zp 16 t.regs.a i (λ e. omega (arith, e, le)))

  fetched : IsBytes last → IsFetched m t last
  fetched b = record {
    sp = refl;
    low = ap t.mem first_is;
    high = ap t.mem second_is;
    value = refl;
    mem = refl;
    only = record { mem = λ n side. refl; bank = λ i lt. sym (other_byte (20 + i) (omega arith)); pushed = refl; frames = refl; input = refl; output = refl; ended = refl; bytes = b };
  }

  pub fetch_leads : Leads g a (fetch_code p) 8 t (IsFetched m t)
  fetch_leads = leads_as g a (fetch_code p) 8 8 t (λ u. (u ≡ last) × IsBytes u) (IsFetched m t) (omega arith) (λ u h. rw h.0 (fetched (subst IsBytes h.0 h.1))) (lines_lead g a (fetch_code p) t placed on safe)

-- ---- the pointer

-- the address of the block is in ptr4
pub pointer_is : (w : Placing) (m f at : ℕ) (t u : State) → IsBytes u → w f ≡ Some (At at) → LieAt w t.mem (sp_of t + m) 2 (Place f 0) → IsFetched m t u → zero_word u 14 ≡ at
pointer_is w m f at t u b placed lies h =
    let one = lies 0 (omega arith) in
    let two = lies 1 (omega arith) in
    let first : one.0 ≡ at = same one.0 one.1 in
    let second : two.0 ≡ at = same two.0 two.1 in
    let here : t.mem (sp_of t + m + 0) ≡ t.mem (sp_of t + m) = let e : sp_of t + m + 0 ≡ sp_of t + m = omega arith in ap t.mem e in
    omega (arith, one.2, two.2, first, second, here, h.low, h.high, b.zp 15)
  where
    same : (x : ℕ) → w f ≡ Some (At x) → x ≡ at
    same x e = let both : Some (At x) ≡ Some (At at) = sym e ∙ placed in cc
