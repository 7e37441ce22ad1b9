-- The entry of a function that has parameters in regbank and checks no stacks.
use Rattle.std.proofs.Common.{◌≡◌, ℕ, zero, suc, ◌+◌, ◌*◌, ◌<◌, ◌≤◌, ◌⊎◌, inl, inr, Bool, true, false, List, [], ◌++◌, length, Option, Some, None, refl, sym, ap, ◌∙◌, subst, arith, append_assoc}
use Rattle.std.specs.Prelude.{if◌then◌else◌}
use Rattle.c65_code.specs.declared.line.Line.{Line}
use Rattle.c65_code.specs.LineState.{State, sp_of, s_of, IsBytes}
use Rattle.c65_code.specs.Placement.{IsPlacement, stack_start, stack_end}
use Rattle.c65_genframe.specs.declared.home.Arrival.{Arrival}
use Rattle.c65_genframe.specs.declared.home.Arrival.TheVariants.{Passed, Pushed, Kept}
use Rattle.c65_genframe.specs.declared.home.Moved.{Moved}
use Rattle.c65_genframe.specs.Frames.{Framed, saved_bytes}
use Rattle.c65_genentry.specs.Stack.{lower_code}
use Rattle.c65_genentry.specs.Entry.{pushed_code, kept_code, bank_store, saved_code, counted_code, count_code, all_moved, raised_moves, taken_bytes, checked_code, entry_code}
use Rattle.c65_agree_state.specs.World.{World, Active}
use Rattle.c65_agree_rows.specs.Rows.{AreAt}
use Rattle.c65_agree_rows.proofs.Quiet.{are_at_in}
use Rattle.c65_agree_frame.specs.Leads.{Leads, IsOn, IsLower, IsSaved}
use Rattle.c65_agree_frame.specs.Laws.{move_cost}
use Rattle.c65_agree_frame.specs.Entries.{arriving, HasTaken, entry_cost}
use Rattle.c65_agree_frame.proofs.Leads.{leads_then, leads_as, stays_on}
use Rattle.c65_agree_frame.proofs.Stack.{on_behind, stacks_are_lowered}
use Rattle.c65_agree_frame.proofs.Banks.{saved_few, banks_are_saved}
use Rattle.c65_agree_frame.proofs.Entries.{append_end, entries_lead}
use Rattle.c65_agree_registers.specs.Entries.{IsBanked, IsBeside, HasMoves, IsKeptBeside, IsKept, register_byte, IsBesideLast, HasMoved, moving_cost}
use Rattle.c65_agree_registers.proofs.Loads.{Remains, remains_on}
use Rattle.c65_agree_registers.proofs.Moves.{of_six, IsStored, stores_lead, AllMoved, moves_lead}

-- the function takes no further arguments, and its entry checks no stacks
pub record IsUnchecked (f : Framed) : Type 0 where
  pub unchecked : f.check ≡ None
  pub fixed : f.variadic ≡ false

-- what an entry leaves as it is
record Holds (t u : State) : Type 0 where
  mem : (n : ℕ) → (n < stack_start) ⊎ (sp_of t ≤ n) → u.mem n ≡ t.mem n
  pushed : u.pushed ≡ t.pushed
  frames : u.frames ≡ t.frames
  input : u.input ≡ t.input
  output : u.output ≡ t.output
  ended : u.ended ≡ t.ended
  bytes : IsBytes u

-- ---- the lines

-- all that comes before the moves
abbrev before : Framed → Framed
before f = record f { moved = [] }

split : (check : Option ℕ) (last : Arrival) (variadic : Bool) (bank soft stacked : ℕ) (moved : List Moved) → check ≡ None → variadic ≡ false
    → checked_code check ++ (pushed_code last ++ (counted_code variadic ++ (saved_code bank ++ ((if variadic then raised_moves soft stacked moved else []) ++ (kept_code last ++ (lower_code (taken_bytes variadic soft) ++ (count_code variadic ++ (if variadic then [] else all_moved moved))))))))
    ≡ (pushed_code last ++ (saved_code bank ++ (kept_code last ++ lower_code soft))) ++ all_moved moved
split (Some n) last variadic bank soft stacked moved c v = cc
split None last true bank soft stacked moved c v = cc
split None last false bank soft stacked moved c v =
    let inner : (saved_code bank ++ (kept_code last ++ lower_code soft)) ++ all_moved moved ≡ saved_code bank ++ (kept_code last ++ (lower_code soft ++ all_moved moved)) =
    append_assoc (saved_code bank) (kept_code last ++ lower_code soft) (all_moved moved) ∙ ap (λ ls. saved_code bank ++ ls) (append_assoc (kept_code last) (lower_code soft) (all_moved moved)) in
    sym (append_assoc (pushed_code last) (saved_code bank ++ (kept_code last ++ lower_code soft)) (all_moved moved) ∙ ap (λ ls. pushed_code last ++ ls) inner)

abbrev taking : Framed → List Line
taking f = pushed_code f.last ++ (saved_code f.bank ++ (kept_code f.last ++ lower_code f.soft))

entry_is : (f : Framed) → IsUnchecked f → entry_code f ≡ taking f ++ all_moved f.moved
entry_is f h = split f.check f.last f.variadic f.bank f.soft f.stacked f.moved h.unchecked h.fixed

taking_is : (f : Framed) → IsUnchecked f → entry_code (before f) ≡ taking f
taking_is f h = entry_is (before f) (record { unchecked = h.unchecked; fixed = h.fixed }) ∙ append_end (taking f)

module _ (g : World) (a : Active) (t : State) (placed : IsPlacement g.code g.place) (on : IsOn g t) (is : IsUnchecked a.frame) (low : stack_start + 64 + (a.frame.soft + (saved_bytes a.frame.bank + length (arriving a.frame.last t))) ≤ sp_of t) where
  abbrev f : Framed
  f = a.frame

  -- ---- where none stays in registers

  not_kept : ((bank bytes : ℕ) → f.last ≡ Kept bank bytes → ⊥) → Leads g a (taking f) (entry_cost f) t (HasMoved (before f) t)
  not_kept none =
      subst (λ ls. Leads g a ls (entry_cost f) t (HasMoved (before f) t)) (taking_is f is)
      (leads_as g a (entry_code (before f)) (entry_cost f) (entry_cost f) t (HasTaken (before f) t) (HasMoved (before f) t) (omega arith) (λ u h. taken u h)
      (entries_lead g (record a { frame = before f }) t placed on (record { unchecked = is.unchecked; plain = is.fixed; none_moved = refl; none_kept = none }) low))
    where
      kept_by : (last : Arrival) (u : State) → ((bank bytes : ℕ) → last ≡ Kept bank bytes → ⊥) → IsKept last t u
      kept_by Passed u none = tt
      kept_by (Pushed bytes) u none = tt
      kept_by (Kept bank bytes) u none = absurd (none bank bytes refl)

      taken : (u : State) → HasTaken (before f) t u → HasMoved (before f) t u
      taken u h = record {
        sp = h.sp;
        arrived = h.arrived;
        saved = h.saved;
        moved = tt;
        kept = kept_by f.last u none;
        others = λ i lt last all. h.bank i lt;
        mem = h.mem;
        pushed = h.pushed;
        frames = h.frames;
        input = h.input;
        output = h.output;
        ended = h.ended;
        bytes = h.bytes;
      }

  -- ---- where the last one does

  module _ (bank bytes : ℕ) (banked : IsBanked (saved_bytes f.bank) bank bytes) where
    abbrev keeps : List Line
    keeps = saved_code f.bank ++ (bank_store bank bytes ++ lower_code f.soft)

    -- what stands behind these lines
    record HasKept (u : State) : Type 0 where
      sp : sp_of u + (f.soft + saved_bytes f.bank) ≡ sp_of t
      saved : (i : ℕ) → i < saved_bytes f.bank → u.mem (sp_of u + f.soft + i) ≡ t.zp (20 + i)
      kept : (i : ℕ) → i < bytes → u.zp (20 + (bank + i)) ≡ register_byte i t
      others : (i : ℕ) → i < 6 → IsBeside i bank bytes → u.zp (20 + i) ≡ t.zp (20 + i)
      stays : Holds t u

    keeps_lead : stack_start + 64 + (f.soft + saved_bytes f.bank) ≤ sp_of t → Leads g a keeps (entry_cost f) t HasKept
    keeps_lead room =
        leads_as g a keeps (256 + (2 + move_cost f.soft)) (entry_cost f) t HasKept HasKept (omega arith) (λ u h. h)
        (leads_then g a (saved_code f.bank) (bank_store bank bytes ++ lower_code f.soft) 256 (2 + move_cost f.soft) t (IsSaved (saved_bytes f.bank) t) HasKept (banks_are_saved g a f.bank t placed on (omega (arith, room))) (λ u s.
        let on1 = on_behind g (sp_of t) t u placed on s.lower.stays (omega (arith, s.lower.sp, room)) (omega (arith, s.lower.sp, on.stacks.calm.high)) in
        leads_then g a (bank_store bank bytes) (lower_code f.soft) 2 (move_cost f.soft) u (IsStored bank bytes u) HasKept (stores_lead g a placed bank bytes u on1 (of_six (saved_bytes f.bank) bank bytes (saved_few f.bank) banked)) (λ v k.
        leads_as g a (lower_code f.soft) (move_cost f.soft) (move_cost f.soft) v (IsLower f.soft v) HasKept (omega arith) (λ w l. all u v w s k l)
        (stacks_are_lowered g a f.soft v placed (remains_on g a placed u v on1 k.remains) (omega (arith, k.remains.sp, s.lower.sp, room))))))
      where
        -- A and X are as before while regbank is saved
        same : (u : State) → IsSaved (saved_bytes f.bank) t u → (i : ℕ) → register_byte i u ≡ register_byte i t
        same u s zero = omega (arith, s.lower.stays.value, s.lower.stays.bytes.a, s.lower.stays.bytes.x, on.stacks.calm.bytes.a, on.stacks.calm.bytes.x)
        same u s (suc i) = omega (arith, s.lower.stays.value, s.lower.stays.bytes.a, s.lower.stays.bytes.x, on.stacks.calm.bytes.a, on.stacks.calm.bytes.x)

        all : (u v w : State) → IsSaved (saved_bytes f.bank) t u → IsStored bank bytes u v → IsLower f.soft v w → HasKept w
        all u v w s k l = record {
          sp = omega (arith, l.sp, k.remains.sp, s.lower.sp);
          saved = λ i lt.
              let at : sp_of w + f.soft + i ≡ sp_of u + i = omega (arith, l.sp, k.remains.sp) in
              ap w.mem at ∙ (l.stays.mem (sp_of u + i) (inr (omega (arith, k.remains.sp))) ∙ (k.remains.mem (sp_of u + i) (inr (omega arith)) ∙ s.saved i lt));
          kept = λ i lt. l.bank (bank + i) (omega (arith, lt, banked.within, saved_few f.bank)) ∙ (k.there i lt ∙ same u s i);
          others = λ i lt beside. l.bank i lt ∙ (k.others i lt beside ∙ s.lower.bank i lt);
          stays = record {
            mem = λ n side. l.stays.mem n (lower n side) ∙ (k.remains.mem n (middle n side) ∙ s.lower.stays.mem n side);
            pushed = l.stays.pushed ∙ (k.remains.pushed ∙ s.lower.stays.pushed);
            frames = l.stays.frames ∙ (k.remains.frames ∙ s.lower.stays.frames);
            input = l.stays.input ∙ (k.remains.input ∙ s.lower.stays.input);
            output = l.stays.output ∙ (k.remains.output ∙ s.lower.stays.output);
            ended = l.stays.ended ∙ (k.remains.ended ∙ s.lower.stays.ended);
            bytes = l.stays.bytes;
          };
        }
          where
            middle : (n : ℕ) → (n < stack_start) ⊎ (sp_of t ≤ n) → (n < stack_start) ⊎ (sp_of u ≤ n)
            middle n (inl lt) = inl lt
            middle n (inr le) = inr (omega (arith, le, s.lower.sp))

            lower : (n : ℕ) → (n < stack_start) ⊎ (sp_of t ≤ n) → (n < stack_start) ⊎ (sp_of v ≤ n)
            lower n (inl lt) = inl lt
            lower n (inr le) = inr (omega (arith, le, s.lower.sp, k.remains.sp))

    kept : f.last ≡ Kept bank bytes → Leads g a (taking f) (entry_cost f) t (HasMoved (before f) t)
    kept e =
        subst (λ last. Leads g a (pushed_code last ++ (saved_code f.bank ++ (kept_code last ++ lower_code f.soft))) (entry_cost f) t (HasMoved (before f) t)) (sym e)
        (leads_as g a keeps (entry_cost f) (entry_cost f) t HasKept (HasMoved (before f) t) (omega arith) (λ u h. moved u h) (keeps_lead (omega (arith, low))))
      where
        none : length (arriving f.last t) ≡ 0
        none = ap (λ last. length (arriving last t)) e

        moved : (u : State) → HasKept u → HasMoved (before f) t u
        moved u h = record {
          sp = omega (arith, h.sp, none);
          arrived = subst (λ last. AreAt u.mem (sp_of u + (f.soft + saved_bytes f.bank)) (arriving last t)) (sym e) tt;
          saved = h.saved;
          moved = tt;
          kept = subst (λ last. IsKept last t u) (sym e) h.kept;
          others = λ i lt beside all. h.others i lt (subst (λ last. IsBesideLast i last) e beside);
          mem = h.stays.mem;
          pushed = h.stays.pushed;
          frames = h.stays.frames;
          input = h.stays.input;
          output = h.stays.output;
          ended = h.stays.ended;
          bytes = h.stays.bytes;
        }

  -- ---- both, and the moves

  taking_leads : (last : Arrival) → f.last ≡ last → IsKeptBeside (saved_bytes f.bank) last f.moved → Leads g a (taking f) (entry_cost f) t (HasMoved (before f) t)
  taking_leads Passed e beside = not_kept (λ bank bytes h. let clash : Passed ≡ Kept bank bytes = sym e ∙ h in cc)
  taking_leads (Pushed n) e beside = not_kept (λ bank bytes h. let clash : Pushed n ≡ Kept bank bytes = sym e ∙ h in cc)
  taking_leads (Kept bank bytes) e beside = kept bank bytes beside.0 e

  on_then : (u : State) → HasMoved (before f) t u → IsOn g u
  on_then u h =
      let same : s_of u ≡ s_of t = rw (h.pushed, h.frames) refl in
      stays_on g placed t u on (λ n lt. h.mem n (inl lt)) (omega (arith, h.sp, low)) (omega (arith, h.sp, on.stacks.calm.high)) (omega (arith, same, on.stacks.hard)) (h.ended ∙ on.running) h.bytes

  all_moved_to : HasMoves f → (u v : State) → HasMoved (before f) t u → AllMoved f.moved u v → HasMoved f t v
  all_moved_to has u v h m =
      let r : Remains u v = m.remains in
      record {
        sp = omega (arith, r.sp, h.sp);
        arrived = subst (λ n. AreAt v.mem (n + (f.soft + saved_bytes f.bank)) (arriving f.last t)) (sym r.sp) (are_at_in u.mem v.mem (arriving f.last t) (sp_of u + (f.soft + saved_bytes f.bank)) (λ n le. r.mem n (inr (omega (arith, le)))) h.arrived);
        saved = λ i lt. let at : sp_of v + f.soft + i ≡ sp_of u + f.soft + i = omega (arith, r.sp) in ap v.mem at ∙ (r.mem (sp_of u + f.soft + i) (inr (omega arith)) ∙ h.saved i lt);
        moved = m.moved;
        kept = kept_on f.last has.kept h.kept;
        others = λ i lt last all. m.others i lt all ∙ h.others i lt last tt;
        mem = λ n side. r.mem n (lower n side) ∙ h.mem n side;
        pushed = r.pushed ∙ h.pushed;
        frames = r.frames ∙ h.frames;
        input = r.input ∙ h.input;
        output = r.output ∙ h.output;
        ended = r.ended ∙ h.ended;
        bytes = r.bytes;
      }
    where
      lower : (n : ℕ) → (n < stack_start) ⊎ (sp_of t ≤ n) → (n < stack_start) ⊎ (sp_of u ≤ n)
      lower n (inl lt) = inl lt
      lower n (inr le) = inr (omega (arith, le, h.sp))

      kept_on : (last : Arrival) → IsKeptBeside (saved_bytes f.bank) last f.moved → IsKept last t u → IsKept last t v
      kept_on Passed beside k = tt
      kept_on (Pushed n) beside k = tt
      kept_on (Kept bank bytes) beside k = λ i lt. m.others (bank + i) (omega (arith, lt, beside.0.within, saved_few f.bank)) (beside.1 i lt) ∙ k i lt

pub unchecked_entries_move : (g : World) (a : Active) (t : State) → IsPlacement g.code g.place → IsOn g t → IsUnchecked a.frame → HasMoves a.frame
    → stack_start + 64 + (a.frame.soft + (saved_bytes a.frame.bank + length (arriving a.frame.last t))) ≤ sp_of t → sp_of t + a.frame.stacked ≤ stack_end + length (arriving a.frame.last t)
    → Leads g a (entry_code a.frame) (moving_cost a.frame) t (HasMoved a.frame t)
unchecked_entries_move g a t placed on is has low high =
    let f : Framed = a.frame in
    let top : ℕ = f.soft + saved_bytes f.bank + f.stacked in
    subst (λ ls. Leads g a ls (moving_cost f) t (HasMoved f t)) (sym (entry_is f is))
    (leads_then g a (taking f) (all_moved f.moved) (entry_cost f) (266 * length f.moved) t (HasMoved (before f) t) (HasMoved f t) (taking_leads g a t placed on is low f.last refl has.kept) (λ u h.
    leads_as g a (all_moved f.moved) (266 * length f.moved) (266 * length f.moved) u (AllMoved f.moved u) (HasMoved f t) (omega arith) (λ v m. all_moved_to g a t placed on is low has u v h m)
    (moves_lead g a placed f.moved (saved_bytes f.bank) (f.soft + saved_bytes f.bank) top u (saved_few f.bank) (on_then g a t placed on is low u h) has.moves (omega (arith, h.sp, high)))))
