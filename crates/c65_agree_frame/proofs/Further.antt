-- The entry of a function that takes further arguments.
use Rattle.std.proofs.Common.{◌≡◌, ℕ, suc, ◌+◌, ◌-◌, ◌*◌, ◌/◌, ◌<◌, ◌≤◌, ◌⊎◌, inl, inr, Bool, true, false, List, [], ◌∷◌, ◌++◌, Option, Some, None, refl, sym, ap, ◌∙◌, subst, arith}
use Rattle.std.specs.Prelude.{if◌then◌else◌}
use Rattle.c65_mach.specs.declared.rows.Op.TheVariants.{Tya}
use Rattle.c65_mach.specs.State.{Regs}
use Rattle.c65_mach.specs.Step.{apply}
use Rattle.c65_code.specs.declared.routine.Routine.TheVariants.{PushA}
use Rattle.c65_code.specs.declared.line.Line.{Line}
use Rattle.c65_code.specs.LineState.{State, sp_of, s_of, IsBytes}
use Rattle.c65_code.specs.Placement.{IsPlacement, stack_start}
use Rattle.c65_genframe.specs.declared.home.Arrival.{Arrival}
use Rattle.c65_genframe.specs.declared.home.Arrival.TheVariants.{Passed, Pushed, Kept}
use Rattle.c65_genframe.specs.declared.home.Moved.{Moved}
use Rattle.c65_genframe.specs.Frames.{Framed, saved_bytes}
use Rattle.c65_genwide.specs.Lines.{call}
use Rattle.c65_genentry.specs.Words.{implied}
use Rattle.c65_genentry.specs.Stack.{lower_code}
use Rattle.c65_genentry.specs.Entry.{pushed_code, kept_code, saved_code, counted_code, count_code, all_moved, raised_moves, taken_bytes, checked_code, entry_code}
use Rattle.c65_agree_state.specs.World.{World, Active}
use Rattle.c65_agree_frame.specs.Leads.{Leads, IsOn, IsLower, IsSaved}
use Rattle.c65_agree_frame.specs.Laws.{move_cost}
use Rattle.c65_agree_frame.specs.Entries.{arriving, entry_cost}
use Rattle.c65_agree_frame.specs.Further.{IsCountingFrame, HasCounted, EntriesCount}
use Rattle.c65_agree_frame.proofs.Leads.{leads_then, leads_as, stays_on, kept_regs, lines_lead}
use Rattle.c65_agree_frame.proofs.Stack.{on_behind, stacks_are_lowered}
use Rattle.c65_agree_frame.proofs.Banks.{banks_are_saved}
use Rattle.c65_agree_frame.proofs.Entries.{IsPushed, pushed_lead}

-- the lines of such an entry
abbrev counting : ℕ → ℕ → List Line
counting bank soft = (implied Tya ∷ []) ++ (saved_code bank ++ (lower_code (soft - 1) ++ call PushA ∷ []))

counted : (check : Option ℕ) (last : Arrival) (variadic : Bool) (bank soft stacked : ℕ) (moved : List Moved) → check ≡ None → last ≡ Passed → variadic ≡ true → moved ≡ []
    → checked_code check ++ (pushed_code last ++ (counted_code variadic ++ (saved_code bank ++ ((if variadic then raised_moves soft stacked moved else []) ++ (kept_code last ++ (lower_code (taken_bytes variadic soft) ++ (count_code variadic ++ (if variadic then [] else all_moved moved))))))))
    ≡ counting bank soft
counted None Passed true bank soft stacked [] c l v m = refl
counted (Some n) last variadic bank soft stacked moved c l v m = cc
counted None (Pushed n) variadic bank soft stacked moved c l v m = cc
counted None (Kept b n) variadic bank soft stacked moved c l v m = cc
counted None Passed false bank soft stacked moved c l v m = cc
counted None Passed true bank soft stacked (x ∷ moved) c l v m = cc

entry_is : (f : Framed) → IsCountingFrame f → entry_code f ≡ counting f.bank f.soft
entry_is f h = counted f.check f.last f.variadic f.bank f.soft f.stacked f.moved h.unchecked h.passed h.further h.none_moved

module _ (g : World) (a : Active) (t : State) (placed : IsPlacement g.code g.place) (on : IsOn g t) (is : IsCountingFrame a.frame) (low : stack_start + 64 + (a.frame.soft + saved_bytes a.frame.bank) ≤ sp_of t) where
  abbrev f : Framed
  f = a.frame

  -- the number goes to A
  abbrev regs : Regs
  regs = apply false Tya 0 t.regs

  abbrev t1 : State
  t1 = record t { regs = regs }

  on1 : IsBytes t1 → IsOn g t1
  on1 b = stays_on g placed t t1 on (λ n lt. refl) on.stacks.soft on.stacks.calm.high on.stacks.hard on.running b

  all_counted : (u v w : State) → IsBytes t1 → IsSaved (saved_bytes f.bank) t1 u → IsLower (f.soft - 1) u v → IsPushed (v.regs.a ∷ []) v w → HasCounted f t w
  all_counted u v w b s l p = record {
    sp = omega (arith, p.sp, l.sp, s.lower.sp, is.counts);
    count = p.there.0 ∙ number;
    saved = λ i lt.
        let at : sp_of w + f.soft + i ≡ sp_of u + i = omega (arith, p.sp, l.sp, is.counts) in
        ap w.mem at ∙ (p.mem (sp_of u + i) (inr (omega (arith, l.sp))) ∙ (l.stays.mem (sp_of u + i) (inr (omega arith)) ∙ s.saved i lt));
    bank = λ i lt. p.bank i lt ∙ (l.bank i lt ∙ s.lower.bank i lt);
    mem = λ n side. p.mem n (lowest n side) ∙ (l.stays.mem n (middle n side) ∙ s.lower.stays.mem n side);
    pushed = p.pushed ∙ (l.stays.pushed ∙ s.lower.stays.pushed);
    frames = p.frames ∙ (l.stays.frames ∙ s.lower.stays.frames);
    input = p.input ∙ (l.stays.input ∙ s.lower.stays.input);
    output = p.output ∙ (l.stays.output ∙ s.lower.stays.output);
    ended = p.ended ∙ (l.stays.ended ∙ s.lower.stays.ended);
    bytes = p.bytes_are;
  }
    where
      number : v.regs.a ≡ t.regs.y
      number = omega (arith, l.stays.value, s.lower.stays.value, l.stays.bytes.a, l.stays.bytes.x, s.lower.stays.bytes.a, s.lower.stays.bytes.x, b.a, b.x)

      middle : (n : ℕ) → (n < stack_start) ⊎ (sp_of t ≤ n) → (n < stack_start) ⊎ (sp_of u ≤ n)
      middle n (inl lt) = inl lt
      middle n (inr le) = inr (omega (arith, le, s.lower.sp))

      lowest : (n : ℕ) → (n < stack_start) ⊎ (sp_of t ≤ n) → (n < stack_start) ⊎ (sp_of v ≤ n)
      lowest n (inl lt) = inl lt
      lowest n (inr le) = inr (omega (arith, le, s.lower.sp, l.sp))

  behind : IsBytes t1 → Leads g a (saved_code f.bank ++ (lower_code (f.soft - 1) ++ call PushA ∷ [])) (256 + (move_cost (f.soft - 1) + 40)) t1 (HasCounted f t)
  behind b =
      leads_then g a (saved_code f.bank) (lower_code (f.soft - 1) ++ call PushA ∷ []) 256 (move_cost (f.soft - 1) + 40) t1 (IsSaved (saved_bytes f.bank) t1) (HasCounted f t) (banks_are_saved g a f.bank t1 placed (on1 b) (omega (arith, low))) (λ u s.
      let on2 = on_behind g (sp_of t1) t1 u placed (on1 b) s.lower.stays (omega (arith, s.lower.sp, low)) (omega (arith, s.lower.sp, on.stacks.calm.high)) in
      leads_then g a (lower_code (f.soft - 1)) (call PushA ∷ []) (move_cost (f.soft - 1)) 40 u (IsLower (f.soft - 1) u) (HasCounted f t) (stacks_are_lowered g a (f.soft - 1) u placed on2 (omega (arith, s.lower.sp, low))) (λ v l.
      let on3 = on_behind g (sp_of u) u v placed on2 l.stays (omega (arith, l.sp, s.lower.sp, low)) (omega (arith, l.sp, on2.stacks.calm.high)) in
      leads_as g a (call PushA ∷ []) 40 40 v (IsPushed (v.regs.a ∷ []) v) (HasCounted f t) (omega arith) (λ w p. all_counted u v w b s l p)
      (pushed_lead g a placed (Pushed 1) v on3 (omega (arith, l.sp, s.lower.sp, low, is.counts)))))

pub entries_count : EntriesCount
entries_count g a t placed on is low =
    let f : Framed = a.frame in
    let rest : List Line = saved_code f.bank ++ (lower_code (f.soft - 1) ++ call PushA ∷ []) in
    subst (λ ls. Leads g a ls (entry_cost f) t (HasCounted f t)) (sym (entry_is f is))
    (leads_as g a (counting f.bank f.soft) (1 + (256 + (move_cost (f.soft - 1) + 40))) (entry_cost f) t (HasCounted f t) (HasCounted f t) (omega arith) (λ u h. h)
    (leads_then g a (implied Tya ∷ []) rest 1 (256 + (move_cost (f.soft - 1) + 40)) t (λ u. (u ≡ t1 g a t placed on is low) × IsBytes u) (HasCounted f t) (lines_lead g a (implied Tya ∷ []) t placed on (refl, tt, omega arith, kept_regs t (regs g a t placed on is low), tt))
    (λ u e. subst (λ x. Leads g a rest (256 + (move_cost (f.soft - 1) + 40)) x (HasCounted f t)) (sym e.0) (behind g a t placed on is low (subst IsBytes e.0 e.1)))))
