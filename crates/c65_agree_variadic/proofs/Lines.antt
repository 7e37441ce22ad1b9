-- The lines of the entry of a function that takes further arguments.
use Rattle.std.proofs.Common.{◌≡◌, ℕ, ◌+◌, ◌-◌, ◌*◌, ◌<◌, ◌≤◌, ◌⊎◌, inl, inr, Bool, true, false, List, [], ◌∷◌, ◌++◌, length, Option, Some, None, refl, sym, ap, ◌∙◌, subst, arith}
use Rattle.std.specs.Prelude.{if◌then◌else◌}
use Rattle.c65_mach.specs.declared.rows.Op.TheVariants.{Tya}
use Rattle.c65_mach.specs.State.{Regs}
use Rattle.c65_mach.specs.Step.{apply}
use Rattle.c65_code.specs.declared.routine.Routine.TheVariants.{PushA}
use Rattle.c65_code.specs.declared.line.Line.{Line}
use Rattle.c65_code.specs.LineState.{State, sp_of, IsBytes}
use Rattle.c65_code.specs.Placement.{IsPlacement, stack_start, stack_end}
use Rattle.c65_genframe.specs.declared.home.Arrival.{Arrival}
use Rattle.c65_genframe.specs.declared.home.Arrival.TheVariants.{Passed, Pushed, Kept}
use Rattle.c65_genframe.specs.declared.home.Moved.{Moved}
use Rattle.c65_genframe.specs.Frames.{Framed, saved_bytes}
use Rattle.c65_genwide.specs.Lines.{call}
use Rattle.c65_genentry.specs.Words.{implied}
use Rattle.c65_genentry.specs.Stack.{lower_code}
use Rattle.c65_genentry.specs.Entry.{pushed_code, kept_code, saved_code, counted_code, count_code, all_moved, raised_moves, taken_bytes, checked_code, entry_code}
use Rattle.c65_agree_state.specs.World.{World, Active}
use Rattle.c65_agree_frame.specs.Leads.{Leads, IsOn, IsLower, IsSaved}
use Rattle.c65_agree_frame.specs.Laws.{move_cost}
use Rattle.c65_agree_frame.proofs.Leads.{leads_then, leads_as, stays_on, kept_regs, lines_lead}
use Rattle.c65_agree_frame.proofs.Stack.{on_behind, stacks_are_lowered}
use Rattle.c65_agree_frame.proofs.Banks.{saved_few, banks_are_saved}
use Rattle.c65_agree_frame.proofs.Entries.{IsPushed, pushed_lead}
use Rattle.c65_agree_registers.specs.Checks.{IsChecked}
use Rattle.c65_agree_registers.specs.Entries.{AreMoves, HasMoves}
use Rattle.c65_agree_registers.proofs.Entries.{unchecked, checks_go_before}
use Rattle.c65_agree_registers.proofs.Loads.{remains_on}
use Rattle.c65_agree_variadic.specs.Frames.{IsFurtherFrame, AreMovedFrom, HasCountedMoves, counting_cost, EntriesCountMoves}
use Rattle.c65_agree_variadic.proofs.Moves.{AreRead, IsEarly, early_leads}

-- its lines
abbrev counting : ℕ → ℕ → ℕ → List Moved → List Line
counting bank soft stacked moved = (implied Tya ∷ []) ++ (saved_code bank ++ (raised_moves soft stacked moved ++ (lower_code (soft - 1) ++ call PushA ∷ [])))

counted : (check : Option ℕ) (last : Arrival) (variadic : Bool) (bank soft stacked : ℕ) (moved : List Moved) → check ≡ None → last ≡ Passed → variadic ≡ true
    → checked_code check ++ (pushed_code last ++ (counted_code variadic ++ (saved_code bank ++ ((if variadic then raised_moves soft stacked moved else []) ++ (kept_code last ++ (lower_code (taken_bytes variadic soft) ++ (count_code variadic ++ (if variadic then [] else all_moved moved))))))))
    ≡ counting bank soft stacked moved
counted None Passed true bank soft stacked moved c l v = refl
counted (Some n) last variadic bank soft stacked moved c l v = cc
counted None (Pushed n) variadic bank soft stacked moved c l v = cc
counted None (Kept b n) variadic bank soft stacked moved c l v = cc
counted None Passed false bank soft stacked moved c l v = cc

entry_is : (f : Framed) → f.check ≡ None → IsFurtherFrame f → entry_code f ≡ counting f.bank f.soft f.stacked f.moved
entry_is f none h = counted f.check f.last f.variadic f.bank f.soft f.stacked f.moved none h.passed h.further

module _ (g : World) (a : Active) (t : State) (placed : IsPlacement g.code g.place) (on : IsOn g t) (is : IsFurtherFrame a.frame) (has : HasMoves a.frame) (low : stack_start + 64 + (a.frame.soft + saved_bytes a.frame.bank) ≤ sp_of t)
    (le : a.frame.stacked ≤ t.regs.y) (near : t.regs.y + saved_bytes a.frame.bank ≤ 256) (fits : sp_of t + t.regs.y ≤ stack_end) where
  abbrev f : Framed
  f = a.frame

  abbrev saved : ℕ
  saved = saved_bytes f.bank

  abbrev higher : ℕ
  higher = t.regs.y - f.stacked

  abbrev After : State → Type 0
  After u = HasCountedMoves f t u

  -- the number goes to A
  abbrev regs : Regs
  regs = apply false Tya 0 t.regs

  abbrev t1 : State
  t1 = record t { regs = regs }

  on1 : IsBytes t1 → IsOn g t1
  on1 b = stays_on g placed t t1 on (λ n lt. refl) on.stacks.soft on.stacks.calm.high on.stacks.hard on.running b

  -- each line of the entry in turn: regbank is saved, parameters move, the automatic objects are taken, and the number is pushed
  module _ (b : IsBytes t1) (u e v w : State) (s : IsSaved saved t1 u) (m : IsEarly f.soft higher f.moved u e) (l : IsLower (f.soft - 1) e v) (p : IsPushed (v.regs.a ∷ []) v w) where
    sp_e : sp_of e + saved ≡ sp_of t
    sp_e = omega (arith, m.remains.sp, s.lower.sp)

    sp_is : sp_of w + (f.soft + saved) ≡ sp_of t
    sp_is = omega (arith, p.sp, l.sp, sp_e, is.counts)

    number_u : u.regs.a ≡ t.regs.y
    number_u = omega (arith, s.lower.stays.value, s.lower.stays.bytes.a, s.lower.stays.bytes.x, b.a, b.x)

    number : v.regs.a ≡ t.regs.y
    number = omega (arith, l.stays.value, l.stays.bytes.a, l.stays.bytes.x, m.remains.bytes.a, m.remains.bytes.x, m.number, number_u)

    -- memory from the saved bytes on
    upper : (n : ℕ) → sp_of e ≤ n → w.mem n ≡ u.mem n
    upper n high = p.mem n (inr (omega (arith, high, l.sp))) ∙ (l.stays.mem n (inr high) ∙ m.remains.mem n (inr (omega (arith, high, m.remains.sp))))

    bank_same : (i : ℕ) → i < 6 → w.zp (20 + i) ≡ e.zp (20 + i)
    bank_same i lt = p.bank i lt ∙ l.bank i lt

    moved_to : (ms : List Moved) → AreMoves saved (f.soft + saved) (f.soft + saved + f.stacked) ms → AreRead f.soft higher ms u e → AreMovedFrom higher ms w
    moved_to [] moves r = tt
    moved_to (x ∷ ms) moves r = (first, moved_to ms moves.4 r.1)
      where
        first : (i : ℕ) → i < x.bytes → w.zp (20 + (x.bank + i)) ≡ w.mem (sp_of w + (x.from + higher) + i)
        first i lt =
            let place : sp_of w + (x.from + higher) + i ≡ sp_of u + (x.from + higher - f.soft) + i = omega (arith, sp_is, sp_e, m.remains.sp, moves.1) in
            bank_same (x.bank + i) (omega (arith, lt, moves.0.within, saved_few f.bank)) ∙ (r.0 i lt ∙ sym (ap w.mem place ∙ upper (sp_of u + (x.from + higher - f.soft) + i) (omega (arith, m.remains.sp))))

    low_memory : (n : ℕ) → (n < stack_start) ⊎ (sp_of t ≤ n) → w.mem n ≡ t.mem n
    low_memory n (inl lt) = p.mem n (inl lt) ∙ (l.stays.mem n (inl lt) ∙ (m.remains.mem n (inl lt) ∙ s.lower.stays.mem n (inl lt)))
    low_memory n (inr high) = upper n (omega (arith, high, sp_e)) ∙ s.lower.stays.mem n (inr high)

    all_counted : After w
    all_counted = record {
      sp = sp_is;
      count = p.there.0 ∙ number;
      saved = λ i lt.
          let at : sp_of w + f.soft + i ≡ sp_of u + i = omega (arith, sp_is, sp_e, m.remains.sp) in
          ap w.mem at ∙ (upper (sp_of u + i) (omega (arith, m.remains.sp)) ∙ s.saved i lt);
      moved = moved_to f.moved has.moves m.read;
      others = λ i lt beside. bank_same i lt ∙ (m.others i lt beside ∙ s.lower.bank i lt);
      mem = low_memory;
      pushed = p.pushed ∙ (l.stays.pushed ∙ (m.remains.pushed ∙ s.lower.stays.pushed));
      frames = p.frames ∙ (l.stays.frames ∙ (m.remains.frames ∙ s.lower.stays.frames));
      input = p.input ∙ (l.stays.input ∙ (m.remains.input ∙ s.lower.stays.input));
      output = p.output ∙ (l.stays.output ∙ (m.remains.output ∙ s.lower.stays.output));
      ended = p.ended ∙ (l.stays.ended ∙ (m.remains.ended ∙ s.lower.stays.ended));
      bytes = p.bytes_are;
    }

  abbrev lowering : List Line
  lowering = lower_code (f.soft - 1) ++ call PushA ∷ []

  lowered : IsBytes t1 → (u e : State) → IsSaved saved t1 u → IsOn g u → IsEarly f.soft higher f.moved u e → Leads g a lowering (move_cost (f.soft - 1) + 40) e After
  lowered b u e s on2 m =
      let on3 : IsOn g e = remains_on g a placed u e on2 m.remains in
      leads_then g a (lower_code (f.soft - 1)) (call PushA ∷ []) (move_cost (f.soft - 1)) 40 e (IsLower (f.soft - 1) e) After (stacks_are_lowered g a (f.soft - 1) e placed on3 (omega (arith, m.remains.sp, s.lower.sp, low))) (λ v l.
      let on4 = on_behind g (sp_of e) e v placed on3 l.stays (omega (arith, l.sp, m.remains.sp, s.lower.sp, low)) (omega (arith, l.sp, on3.stacks.calm.high)) in
      leads_as g a (call PushA ∷ []) 40 40 v (IsPushed (v.regs.a ∷ []) v) After (omega arith) (λ w p. all_counted b u e v w s m l p)
      (pushed_lead g a placed (Pushed 1) v on4 (omega (arith, l.sp, m.remains.sp, s.lower.sp, low, is.counts))))

  behind : IsBytes t1 → Leads g a (saved_code f.bank ++ (raised_moves f.soft f.stacked f.moved ++ lowering)) (256 + (9 * length f.moved + 2 + (move_cost (f.soft - 1) + 40))) t1 After
  behind b =
      leads_then g a (saved_code f.bank) (raised_moves f.soft f.stacked f.moved ++ lowering) 256 (9 * length f.moved + 2 + (move_cost (f.soft - 1) + 40)) t1 (IsSaved saved t1) After (banks_are_saved g a f.bank t1 placed (on1 b) (omega (arith, low))) (λ u s.
      let on2 = on_behind g (sp_of t1) t1 u placed (on1 b) s.lower.stays (omega (arith, s.lower.sp, low)) (omega (arith, s.lower.sp, on.stacks.calm.high)) in
      let number : u.regs.a ≡ t.regs.y = omega (arith, s.lower.stays.value, s.lower.stays.bytes.a, s.lower.stays.bytes.x, b.a, b.x) in
      leads_then g a (raised_moves f.soft f.stacked f.moved) lowering (9 * length f.moved + 2) (move_cost (f.soft - 1) + 40) u (IsEarly f.soft higher f.moved u) After
      (subst (λ n. Leads g a (raised_moves f.soft f.stacked f.moved) (9 * length f.moved + 2) u (IsEarly f.soft (n - f.stacked) f.moved u)) number
      (early_leads g a placed f.moved f.soft saved f.stacked u (saved_few f.bank) on2 has.moves (omega (arith, number, le)) (omega (arith, number, near)) (omega (arith, number, s.lower.sp, fits))))
      (λ e m. lowered b u e s on2 m))

unchecked_count_moves : (g : World) (a : Active) (t : State) → IsPlacement g.code g.place → IsOn g t → a.frame.check ≡ None → IsFurtherFrame a.frame → HasMoves a.frame
    → stack_start + 64 + (a.frame.soft + saved_bytes a.frame.bank) ≤ sp_of t → a.frame.stacked ≤ t.regs.y → t.regs.y + saved_bytes a.frame.bank ≤ 256 → sp_of t + t.regs.y ≤ stack_end
    → Leads g a (entry_code a.frame) (counting_cost a.frame) t (HasCountedMoves a.frame t)
unchecked_count_moves g a t placed on none is has low le near fits =
    let f : Framed = a.frame in
    let rest : List Line = saved_code f.bank ++ (raised_moves f.soft f.stacked f.moved ++ (lower_code (f.soft - 1) ++ call PushA ∷ [])) in
    let cost : ℕ = 256 + (9 * length f.moved + 2 + (move_cost (f.soft - 1) + 40)) in
    subst (λ ls. Leads g a ls (counting_cost f) t (HasCountedMoves f t)) (sym (entry_is f none is))
    (leads_as g a (counting f.bank f.soft f.stacked f.moved) (1 + cost) (counting_cost f) t (HasCountedMoves f t) (HasCountedMoves f t) (omega arith) (λ u h. h)
    (leads_then g a (implied Tya ∷ []) rest 1 cost t (λ u. (u ≡ t1 g a t placed on is has low le near fits) × IsBytes u) (HasCountedMoves f t)
    (lines_lead g a (implied Tya ∷ []) t placed on (refl, tt, omega arith, kept_regs t (regs g a t placed on is has low le near fits), tt))
    (λ u e. subst (λ x. Leads g a rest cost x (HasCountedMoves f t)) (sym e.0) (behind g a t placed on is has low le near fits (subst IsBytes e.0 e.1)))))

-- ---- behind the check

counted_from : (f : Framed) (t u v : State) → IsChecked t u → HasCountedMoves (unchecked f) u v → HasCountedMoves f t v
counted_from f t u v c h = record {
  sp = h.sp ∙ c.sp;
  count = h.count ∙ c.count;
  saved = λ i lt. h.saved i lt ∙ c.bank i (omega (arith, lt, saved_few f.bank));
  moved = subst (λ y. AreMovedFrom (y - f.stacked) f.moved v) c.count h.moved;
  others = λ i lt moves. h.others i lt moves ∙ c.bank i lt;
  mem = λ n side. h.mem n (subst (λ q. (n < stack_start) ⊎ (q ≤ n)) (sym c.sp) side) ∙ c.mem n side;
  pushed = h.pushed ∙ c.pushed;
  frames = h.frames ∙ c.frames;
  input = h.input ∙ c.input;
  output = h.output ∙ c.output;
  ended = h.ended ∙ c.ended;
  bytes = h.bytes;
}

pub entries_count_moves : EntriesCountMoves
entries_count_moves g a t placed on is reach has low le near fits =
    let inner : Active = record a { frame = unchecked a.frame } in
    checks_go_before g a (counting_cost a.frame) t (HasCountedMoves a.frame t) placed on reach (λ u c there.
    leads_as g inner (entry_code (unchecked a.frame)) (counting_cost a.frame) (counting_cost a.frame) u (HasCountedMoves (unchecked a.frame) u) (HasCountedMoves a.frame t) (omega arith) (λ v h. counted_from a.frame t u v c h)
    (unchecked_count_moves g inner u placed there refl (record { further = is.further; passed = is.passed; counts = is.counts }) (record { moves = has.moves; kept = has.kept })
    (omega (arith, c.sp, low)) (omega (arith, c.count, le)) (omega (arith, c.count, near)) (omega (arith, c.count, c.sp, fits))))
