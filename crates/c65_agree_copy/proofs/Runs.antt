-- The routine that copies.
use Rattle.std.proofs.Common.{◌≡◌, ℕ, zero, suc, ◌+◌, ◌*◌, ◌/◌, ◌%◌, ◌<◌, ◌≤◌, ◌⊎◌, inl, inr, List, [], ◌∷◌, ◌++◌, refl, sym, ap, ◌∙◌, subst, arith}
use Rattle.std.specs.Prelude.{min, max, All, length, drop, Ok}
use Rattle.std.proofs.lemmas.List.Elements.{All-cons, All-head, All-tail}
use Rattle.c65_meaning.specs.Store.{Place}
use Rattle.c65_meaning.specs.State.{Scene, soft_sum}
use Rattle.c65_code.specs.declared.parts.Part.TheVariants.{Zp}
use Rattle.c65_code.specs.declared.routine.Routine.TheVariants.{CopyTos}
use Rattle.c65_code.specs.LineState.{Bytes, State, word_at, sp_of, ax_of, IsBytes}
use Rattle.c65_code.specs.Placement.{IsPlacement, stack_start}
use Rattle.c65_code.specs.Texts.{copied, range_of}
use Rattle.c65_code.specs.Rows.{Row, Meets, copy_row, written}
use Rattle.c65_code.specs.Steady.{IsOpen, HasRoom}
use Rattle.c65_agree_store.specs.Stands.{Placing, Banks}
use Rattle.c65_agree_state.specs.World.{World, Active}
use Rattle.c65_agree_state.specs.Joins.{Joins}
use Rattle.c65_agree_state.specs.Exprs.{Ready}
use Rattle.c65_agree_state.specs.Laws.{OnlyScratch, HasStacks}
use Rattle.c65_agree_state.proofs.Followed.{ready_is_calm}
use Rattle.c65_agree_state.proofs.Scratch.{scratch_changes}
use Rattle.c65_agree_rows.specs.Rows.{IsQuiet}
use Rattle.c65_agree_rows.proofs.Quiet.{append_nothing, in_range, quiet_row, runs_by}
use Rattle.c65_agree_copy.specs.Copies.{carried_on, AreAtHand, IsCopied}
use Rattle.c65_agree_copy.specs.Laws.{CopiesRun}
use Rattle.c65_agree_copy.proofs.Bytes.{with_memory, GoesOn, IsWhole, all_bytes}

pub all_both : (P : ℕ → Type 0) (xs ys : List ℕ) → All P xs → All P ys → All P (xs ++ ys)
all_both P [] ys h k = k
all_both P (x ∷ xs) ys h k = All-cons P x (xs ++ ys) (All-head P x xs h) (all_both P xs ys (All-tail P x xs h) k)

pub range_length : (count at : ℕ) → length (range_of count at) ≡ count
range_length zero at = refl
range_length (suc count) at = let h = range_length count (at + 1) in omega (arith, h)

module _ (g : World) (a : Active) (pushed needs size b o d p : ℕ) (c c2 : Scene) (w : Placing) (k : Banks) (t : State) (placed : IsPlacement g.code g.place) (r : Ready g a (pushed + 2) needs c w k t) (hand : AreAtHand w b o d p t) (count : t.zp 12 + 256 * t.zp 13 ≡ size) (e : carried_on size (Place b o) (Place d p) 0 size c ≡ Ok c2) where
  abbrev target : ℕ
  target = word_at t.mem (sp_of t)

  abbrev row : Row
  row = copy_row CopyTos (t.zp 12 + 256 * t.zp 13) target (ax_of t) 2 t

  abbrev later : Bytes
  later = written t.mem (copied (t.zp 12 + 256 * t.zp 13) target (ax_of t) t.mem)

  stacks : HasStacks g t
  stacks = ready_is_calm g a (pushed + 2) needs c w k t r

  whole : IsWhole g a placed w k t b d hand.from hand.to hand.from_is hand.to_is c t.mem (o + 0) (p + 0) size c2
  whole = all_bytes g a placed w k t b d hand.from hand.to hand.from_is hand.to_is size o p 0 size c c2 t.mem r.joins e

  source_is : hand.from + (o + 0) ≡ ax_of t
  source_is = omega (arith, hand.source)

  target_is : hand.to + (p + 0) ≡ target
  target_is = omega (arith, hand.target)

  later_is : written t.mem (copied size (hand.to + (p + 0)) (hand.from + (o + 0)) t.mem) ≡ later
  later_is = ap (λ n. written t.mem (copied n (hand.to + (p + 0)) (hand.from + (o + 0)) t.mem)) (sym count) ∙ ap (λ n. written t.mem (copied (t.zp 12 + 256 * t.zp 13) n (hand.from + (o + 0)) t.mem)) target_is ∙ ap (λ n. written t.mem (copied (t.zp 12 + 256 * t.zp 13) target n t.mem)) source_is

  joins : Joins g a c2 w k (with_memory t later)
  joins = subst (λ m. Joins g a c2 w k (with_memory t m)) later_is whole.joins

  goes_on : GoesOn c w t.mem c2 later
  goes_on = subst (λ m. GoesOn c w t.mem c2 m) later_is whole.goes_on

  access : HasRoom g.place row t
  access = record {
    ready = refl;
    soft = stacks.soft;
    hard = stacks.hard;
    near = in_range (IsOpen g.place (min (sp_of t) (sp_of t + 2))) 2 (sp_of t) (λ i lt. inr (omega arith, omega (arith, lt, r.sp, r.joins.top)));
    far = all_both (IsOpen g.place bound) (range_of (t.zp 12 + 256 * t.zp 13) (ax_of t)) (range_of (t.zp 12 + 256 * t.zp 13) target)
        (subst (λ n. All (IsOpen g.place bound) (range_of n (ax_of t))) (sym count) (subst (λ n. All (IsOpen g.place bound) (range_of size n)) source_is (whole.sources bound low)))
        (subst (λ n. All (IsOpen g.place bound) (range_of n target)) (sym count) (subst (λ n. All (IsOpen g.place bound) (range_of size n)) target_is (whole.targets bound low)));
  }
    where
      bound : ℕ
      bound = max (sp_of t) (sp_of t + 2)

      low : bound ≤ a.base
      low = omega (arith, r.sp)

  module _ (u : State) (meets : Meets row t u) (bytes : IsBytes u) where
    quiet : IsQuiet row
    quiet = quiet_row row refl refl refl refl refl

    is_written : (n : ℕ) → (n < stack_start) ⊎ (sp_of t ≤ n) → u.mem n ≡ later n
    is_written n (inl h) = meets.mem n (inl (omega (arith, h, stacks.soft)))
    is_written n (inr h) = meets.mem n (inr (inl h))

    scratch : OnlyScratch a.base (with_memory t later) u
    scratch = record {
      mem = λ n side. is_written n (above n side);
      bank = λ i lt. meets.kept (Zp (20 + i)) (quiet.silent.bank i lt);
      pushed = meets.pushed;
      frames = meets.frames;
      input = meets.input ∙ ap (λ n. drop n t.input) quiet.silent.taken;
      output = meets.output ∙ ap (λ xs. t.output ++ xs) quiet.silent.out ∙ append_nothing t.output;
      ended = meets.ended ∙ quiet.silent.ends ∙ sym r.joins.ended;
      bytes = bytes;
    }
      where
        above : (n : ℕ) → (n < stack_start) ⊎ (a.base ≤ n) → (n < stack_start) ⊎ (sp_of t ≤ n)
        above n (inl h) = inl h
        above n (inr h) = inr (omega (arith, h, r.sp))

    is_copied : IsCopied g a pushed needs c w k t c2 u
    is_copied =
        let sp : sp_of u ≡ sp_of t + 2 = meets.sp in
        let cost : soft_sum c2.frames ≡ soft_sum c.frames = ap soft_sum goes_on.frames in
        record {
          taken = record {
            ready = record { joins = scratch_changes g a c2 w k (with_memory t later) u placed joins scratch; sp = omega (arith, sp, r.sp); room = omega (arith, sp, r.room, cost); none_pushed = meets.pushed ∙ r.none_pushed };
            sp = sp;
            frames = goes_on.frames;
            next = goes_on.next;
            bounds = goes_on.bounds;
            kept = λ n le f. let h = goes_on.kept n f in (is_written n (inr (omega (arith, le))) ∙ h.0, h.1);
            banks = λ d i lt. refl;
            own_bank = λ i le. refl;
          };
          value = value meets.a meets.x;
        }
      where
        value : u.regs.a ≡ target % 256 → u.regs.x ≡ target / 256 % 256 → ax_of u ≡ target
        value low high = omega (arith, low, high, r.joins.bytes.mem (sp_of t), r.joins.bytes.mem (sp_of t + 1))

pub copies_run : CopiesRun
copies_run g a pushed needs size b o d p c c2 w k t placed r hand count e =
    runs_by g CopyTos t (row g a pushed needs size b o d p c c2 w k t placed r hand count e) (IsCopied g a pushed needs c w k t c2) refl (access g a pushed needs size b o d p c c2 w k t placed r hand count e) (λ u meets bytes.
    is_copied g a pushed needs size b o d p c c2 w k t placed r hand count e u meets bytes)
