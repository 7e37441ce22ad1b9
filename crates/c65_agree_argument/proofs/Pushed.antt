-- A value goes from the primary register to the software stack, as a parameter does that arrives there.
use Rattle.std.proofs.Common.{◌≡◌, ℕ, zero, suc, ◌+◌, ◌<◌, ◌≤◌, ◌⊎◌, inl, inr, false, List, [], ◌∷◌, Some, None, length, refl, sym, ap, ◌∙◌, subst, arith}
use Rattle.std.specs.Prelude.{slice_get}
use Rattle.c65_meaning.specs.Store.{Value, cell_of}
use Rattle.c65_meaning.specs.State.{Scene}
use Rattle.c65_code.specs.declared.line.Line.{Line}
use Rattle.c65_code.specs.LineState.{State, sp_of, eax_of}
use Rattle.c65_code.specs.Placement.{IsPlacement, stack_start}
use Rattle.c65_genframe.specs.declared.home.Arrival.TheVariants.{Pushed, Kept}
use Rattle.c65_genframe.specs.Frames.{Framed, saved_bytes}
use Rattle.c65_genwide.specs.Passing.{pass_bytes}
use Rattle.c65_genentry.specs.Entry.{entry_code}
use Rattle.c65_agree_store.specs.Laws.{byte_of}
use Rattle.c65_agree_store.specs.Stands.{Placing, Banks, CellIs}
use Rattle.c65_agree_state.specs.World.{World, Active}
use Rattle.c65_agree_state.specs.Exprs.{Ready}
use Rattle.c65_agree_state.specs.Laws.{OnlyScratch}
use Rattle.c65_agree_state.proofs.Followed.{ready_is_calm}
use Rattle.c65_agree_state.proofs.Scratch.{scratch_changes}
use Rattle.c65_agree_put.proofs.Stores.{HasFour, four_bytes, byte_item, word_item, long_item}
use Rattle.c65_agree_rows.proofs.Quiet.{item_is}
use Rattle.c65_agree_frame.specs.Leads.{Leads, IsOn}
use Rattle.c65_agree_frame.specs.Entries.{primary_bytes, HasTaken, IsPlainFrame}
use Rattle.c65_agree_frame.proofs.Leads.{leads_as}
use Rattle.c65_agree_frame.proofs.Entries.{append_end, entries_lead}
use Rattle.c65_agree_argument.specs.Arguments.{AreHeld, IsPushed, HasRoomFor}
use Rattle.c65_agree_argument.specs.Laws.{ValuesArePushed}

-- ---- the bytes of the primary register

pub primary_length : (count : ℕ) (t : State) → 1 ≤ count → count ≤ 4 → length (primary_bytes count t) ≡ count
primary_length zero t least most = absurd (omega (arith, least))
primary_length (suc zero) t least most = refl
primary_length (suc (suc zero)) t least most = refl
primary_length (suc (suc (suc zero))) t least most = refl
primary_length (suc (suc (suc (suc zero)))) t least most = refl
primary_length (suc (suc (suc (suc (suc n))))) t least most = absurd (omega (arith, most))

module _ (t : State) (f : HasFour t) where
  three_item : (i : ℕ) → i < 3 → slice_get (t.regs.a ∷ t.regs.x ∷ t.zp 2 ∷ []) i ≡ Some (byte_of i (eax_of t))
  three_item zero lt = ap Some f.first
  three_item (suc zero) lt = ap Some f.second
  three_item (suc (suc zero)) lt = ap Some f.third
  three_item (suc (suc (suc i))) lt = absurd (omega arith)

  pub primary_item : (count i : ℕ) → 1 ≤ count → count ≤ 4 → i < count → slice_get (primary_bytes count t) i ≡ Some (byte_of i (eax_of t))
  primary_item zero i least most lt = absurd (omega (arith, least))
  primary_item (suc zero) i least most lt = byte_item t f i lt
  primary_item (suc (suc zero)) i least most lt = word_item t f i lt
  primary_item (suc (suc (suc zero))) i least most lt = three_item i lt
  primary_item (suc (suc (suc (suc zero)))) i least most lt = long_item t f i lt
  primary_item (suc (suc (suc (suc (suc n))))) i least most lt = absurd (omega (arith, most))

-- ---- an entry that takes no more than such a parameter

abbrev taking : Framed → ℕ → Framed
taking f count = record f { moved = []; variadic = false; bank = 0; soft = 0; last = Pushed count; check = None }

abbrev as_taking : Active → ℕ → Active
as_taking a count = record a { frame = taking a.frame count }

plain_taking : (f : Framed) (count : ℕ) → IsPlainFrame (taking f count)
plain_taking f count = record { unchecked = refl; plain = refl; none_moved = refl; none_kept = λ bank bytes e. let clash : Pushed count ≡ Kept bank bytes = e in cc }

module _ (g : World) (a : Active) (pushed needs count : ℕ) (c : Scene) (w : Placing) (k : Banks) (t : State) (v : Value) (placed : IsPlacement g.code g.place) (least : 1 ≤ count) (most : count ≤ 4) (held : AreHeld w t count v)
    (r : Ready g a pushed 0 c w k t) (wide : HasRoomFor a (1 + needs) 4 c t) where
  so_many : length (primary_bytes count t) ≡ count
  so_many = primary_length count t least most

  on : IsOn g t
  on = record { stacks = ready_is_calm g a pushed 0 c w k t r; running = r.joins.ended }

  room : stack_start + 64 + (0 + (saved_bytes 0 + length (primary_bytes count t))) ≤ sp_of t
  room = omega (arith, so_many, most, wide, r.joins.few)

  is_pushed : (u : State) → HasTaken (taking a.frame count) t u → IsPushed g a pushed needs count c w k v t u
  is_pushed u h =
      let sp : sp_of u + count ≡ sp_of t = omega (arith, h.sp, so_many) in
      record {
        ready = record { joins = scratch_changes g a c w k t u placed r.joins only; sp = omega (arith, sp, r.sp); room = omega (arith, sp, most, wide); none_pushed = h.pushed ∙ r.none_pushed };
        sp = sp;
        mem = λ n le. h.mem n (inr le);
        lies = λ i lt. subst (CellIs w (cell_of v i)) (sym (there i lt)) (held i lt);
      }
    where
      above : (n : ℕ) → (n < stack_start) ⊎ (a.base ≤ n) → u.mem n ≡ t.mem n
      above n (inl lt) = h.mem n (inl lt)
      above n (inr le) = h.mem n (inr (omega (arith, le, r.sp)))

      only : OnlyScratch a.base t u
      only = record { mem = above; bank = λ i lt. sym (h.bank i lt); pushed = h.pushed; frames = h.frames; input = h.input; output = h.output; ended = h.ended; bytes = h.bytes }

      there : (i : ℕ) → i < count → u.mem (sp_of u + i) ≡ byte_of i (eax_of t)
      there i lt =
          let at : sp_of u + i ≡ sp_of u + (0 + saved_bytes 0) + i = omega arith in
          ap u.mem at ∙ item_is u.mem (primary_bytes count t) (sp_of u + (0 + saved_bytes 0)) i (byte_of i (eax_of t)) h.arrived (primary_item t (four_bytes t r.joins.bytes) count i least most lt)

  value_leads : Leads g a (pass_bytes count) 333 t (IsPushed g a pushed needs count c w k v t)
  value_leads =
      let same : entry_code (taking a.frame count) ≡ pass_bytes count = append_end (pass_bytes count) in
      subst (λ (ls : List Line). Leads g a ls 333 t (IsPushed g a pushed needs count c w k v t)) same
      (leads_as g a (entry_code (taking a.frame count)) 333 333 t (HasTaken (taking a.frame count) t) (IsPushed g a pushed needs count c w k v t) (omega arith) (λ u h. is_pushed u h)
      (entries_lead g (as_taking a count) t placed on (plain_taking a.frame count) room))

pub values_are_pushed : ValuesArePushed
values_are_pushed g a pushed needs count c w k t v placed least most held r wide = value_leads g a pushed needs count c w k t v placed least most held r wide
