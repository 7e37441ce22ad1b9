-- The entry of a function, whether or not it checks the stacks.
use Rattle.std.proofs.Common.{◌≡◌, ℕ, zero, suc, ◌+◌, ◌<◌, ◌≤◌, ◌⊎◌, inl, ◌++◌, Option, None, Some, length, refl, sym, ap, ◌∙◌, subst, arith}
use Rattle.c65_code.specs.LineState.{State, sp_of, s_of, eax_of, IsBytes}
use Rattle.c65_code.specs.Placement.{IsPlacement, stack_start, stack_end}
use Rattle.c65_genframe.specs.declared.home.Arrival.{Arrival}
use Rattle.c65_genframe.specs.declared.home.Arrival.TheVariants.{Passed, Pushed, Kept}
use Rattle.c65_genframe.specs.Frames.{Framed, saved_bytes}
use Rattle.c65_genentry.specs.Entry.{checked_code, taking_code, entry_code}
use Rattle.c65_agree_state.specs.World.{World, Active}
use Rattle.c65_agree_rows.specs.Rows.{AreAt}
use Rattle.c65_agree_frame.specs.Leads.{Leads, IsOn}
use Rattle.c65_agree_frame.specs.Entries.{arriving}
use Rattle.c65_agree_frame.proofs.Leads.{leads_then, leads_as, stays_on}
use Rattle.c65_agree_frame.proofs.Banks.{saved_few}
use Rattle.c65_agree_registers.specs.Checks.{IsChecked, check_cost, asked_by, StacksReach, checking_cost}
use Rattle.c65_agree_registers.specs.Entries.{register_byte, IsKept, HasMoved, moving_cost, register_cost, EntriesMove}
use Rattle.c65_agree_registers.proofs.Check.{stacks_are_checked}
use Rattle.c65_agree_registers.proofs.Unchecked.{unchecked_entries_move}

-- ---- the check, and what comes behind it

abbrev pub unchecked : Framed → Framed
unchecked f = record f { check = None }

nothing_checked : (t : State) → IsBytes t → IsChecked t t
nothing_checked t b = record { sp = refl; value = refl; count = refl; bank = λ i lt. refl; mem = λ n side. refl; pushed = refl; frames = refl; input = refl; output = refl; ended = refl; bytes = b }

-- Where the lines of an entry that checks nothing lead on from each state that the check leaves, those of this one do.
pub checks_go_before : (g : World) (a : Active) (w : ℕ) (t : State) (Behind : State → Type 0) → IsPlacement g.code g.place → IsOn g t → StacksReach a.frame.check t
    → ((u : State) → IsChecked t u → IsOn g u → Leads g (record a { frame = unchecked a.frame }) (entry_code (unchecked a.frame)) w u Behind)
    → Leads g a (entry_code a.frame) (checking_cost a.frame.check + w) t Behind
checks_go_before g a w t Behind placed on reach leads = go a.frame.check refl reach
  where
    behind : (u : State) → IsChecked t u → IsOn g u
    behind u c =
        let same : s_of u ≡ s_of t = rw (c.pushed, c.frames) refl in
        stays_on g placed t u on (λ n lt. c.mem n (inl lt)) (omega (arith, c.sp, on.stacks.soft)) (omega (arith, c.sp, on.stacks.calm.high)) (omega (arith, same, on.stacks.hard)) (c.ended ∙ on.running) c.bytes

    go : (o : Option ℕ) → a.frame.check ≡ o → StacksReach o t → Leads g a (entry_code a.frame) (checking_cost a.frame.check + w) t Behind
    go None is enough =
        let code : entry_code a.frame ≡ entry_code (unchecked a.frame) = ap (λ x. checked_code x ++ taking_code a.frame) is in
        let none : checking_cost a.frame.check ≡ 0 = ap checking_cost is in
        let cost : w ≡ checking_cost a.frame.check + w = omega (arith, none) in
        subst (λ ls. Leads g a ls (checking_cost a.frame.check + w) t Behind) (sym code)
        (subst (λ n. Leads g a (entry_code (unchecked a.frame)) n t Behind) cost (leads t (nothing_checked t on.stacks.calm.bytes) on))
    go (Some asked) is enough =
        let code : entry_code a.frame ≡ checked_code (Some asked) ++ taking_code a.frame = ap (λ x. checked_code x ++ taking_code a.frame) is in
        let cost : check_cost + w ≡ checking_cost a.frame.check + w = ap (λ x. checking_cost x + w) (sym is) in
        subst (λ ls. Leads g a ls (checking_cost a.frame.check + w) t Behind) (sym code)
        (subst (λ n. Leads g a (checked_code (Some asked) ++ taking_code a.frame) n t Behind) cost
        (leads_then g a (checked_code (Some asked)) (taking_code a.frame) check_cost w t (IsChecked t) Behind (stacks_are_checked g a asked t placed on enough) (λ u c. leads u c (behind u c))))

-- the check weighs no more than this
pub checks_are_cheap : (check : Option ℕ) → checking_cost check ≤ check_cost
checks_are_cheap None = omega arith
checks_are_cheap (Some asked) = omega arith

-- The stacks reach for what an entry asks, where the costs of all active calls are enough for it and not too many.
pub costs_reach : (check : Option ℕ) (t : State) (cost : ℕ) → stack_end + asked_by check ≤ sp_of t + cost → cost ≤ 1984 → sp_of t ≤ stack_end → 31 ≤ s_of t → StacksReach check t
costs_reach None t cost enough few high hard = tt
costs_reach (Some asked) t cost enough few high hard = record { few = omega (arith, enough, few, high); soft = omega (arith, enough, few); hard = hard }

-- ---- the last parameter is there still

same_a : (t u : State) → IsBytes t → IsBytes u → eax_of u ≡ eax_of t → u.regs.a ≡ t.regs.a
same_a t u b d e = omega (arith, e, b.a, d.a, b.x, d.x)

same_x : (t u : State) → IsBytes t → IsBytes u → eax_of u ≡ eax_of t → u.regs.x ≡ t.regs.x
same_x t u b d e = omega (arith, e, b.a, d.a, b.x, d.x)

same_arriving : (last : Arrival) (t u : State) → IsBytes t → IsBytes u → eax_of u ≡ eax_of t → arriving last u ≡ arriving last t
same_arriving Passed t u b d e = refl
same_arriving (Kept bank bytes) t u b d e = refl
same_arriving (Pushed bytes) t u b d e =
    let low : u.zp 2 ≡ t.zp 2 = omega (arith, e, b.a, d.a, b.x, d.x, b.zp 2, d.zp 2) in
    let high : u.zp 3 ≡ t.zp 3 = omega (arith, e, b.a, d.a, b.x, d.x, b.zp 2, d.zp 2) in
    rw (same_a t u b d e, same_x t u b d e, low, high) refl

same_register : (t u : State) (i : ℕ) → IsBytes t → IsBytes u → eax_of u ≡ eax_of t → register_byte i u ≡ register_byte i t
same_register t u zero b d e = same_a t u b d e
same_register t u (suc i) b d e = same_x t u b d e

kept_from : (last : Arrival) (t u v : State) → IsBytes t → IsBytes u → eax_of u ≡ eax_of t → IsKept last u v → IsKept last t v
kept_from Passed t u v b d e h = tt
kept_from (Pushed bytes) t u v b d e h = tt
kept_from (Kept bank bytes) t u v b d e h = λ i lt. h i lt ∙ same_register t u i b d e

-- what was taken behind the check was taken from before it
taken_from : (f : Framed) (t u v : State) → IsBytes t → IsChecked t u → HasMoved (unchecked f) u v → HasMoved f t v
taken_from f t u v b c h =
    let same : arriving f.last u ≡ arriving f.last t = same_arriving f.last t u b c.bytes c.value in
    let long : length (arriving f.last u) ≡ length (arriving f.last t) = ap length same in
    record {
      sp = omega (arith, h.sp, c.sp, long);
      arrived = subst (AreAt v.mem (sp_of v + (f.soft + saved_bytes f.bank))) same h.arrived;
      saved = λ i lt. h.saved i lt ∙ c.bank i (omega (arith, lt, saved_few f.bank));
      moved = h.moved;
      kept = kept_from f.last t u v b c.bytes c.value h.kept;
      others = λ i lt last moves. h.others i lt last moves ∙ c.bank i lt;
      mem = λ n side. h.mem n (subst (λ q. (n < stack_start) ⊎ (q ≤ n)) (sym c.sp) side) ∙ c.mem n side;
      pushed = h.pushed ∙ c.pushed;
      frames = h.frames ∙ c.frames;
      input = h.input ∙ c.input;
      output = h.output ∙ c.output;
      ended = h.ended ∙ c.ended;
      bytes = h.bytes;
    }

-- ---- the entry

pub entries_move : EntriesMove
entries_move g a t placed on fixed reach has room top =
    checks_go_before g a (moving_cost a.frame) t (HasMoved a.frame t) placed on reach (λ u c there.
    leads_as g (record a { frame = unchecked a.frame }) (entry_code (unchecked a.frame)) (moving_cost a.frame) (moving_cost a.frame) u (HasMoved (unchecked a.frame) u) (HasMoved a.frame t) (omega arith) (λ v h. taken_from a.frame t u v on.stacks.calm.bytes c h)
    (unchecked_entries_move g (record a { frame = unchecked a.frame }) u placed there (record { unchecked = refl; fixed = fixed }) (record { moves = has.moves; kept = has.kept }) (omega (arith, long u c, c.sp, room)) (omega (arith, long u c, c.sp, top))))
  where
    long : (u : State) → IsChecked t u → length (arriving a.frame.last u) ≡ length (arriving a.frame.last t)
    long u c = ap length (same_arriving a.frame.last t u on.stacks.calm.bytes c.bytes c.value)
