-- A pointer to a function goes to ptr4.
use Rattle.std.proofs.Common.{◌≡◌, ℕ, ◌+◌, refl, sym, ◌∙◌, subst, arith}
use Rattle.c65_code.specs.LineState.{Bytes, write, State, sp_of, ax_of, zero_word, IsBytes}
use Rattle.c65_genexpr.specs.Calls.{ptr4_code}
use Rattle.c65_genframe.specs.Symbols.{numbers_of, function_symbol}
use Rattle.c65_agree_state.specs.Exprs.{Kept}
use Rattle.c65_agree_state.specs.Laws.{OnlyScratch}
use Rattle.c65_agree_state.proofs.Followed.{ready_is_calm}
use Rattle.c65_agree_state.proofs.Leaves.{scratch_is_kept}
use Rattle.c65_agree_state.proofs.Nodes.{ready_stays}
use Rattle.c65_agree_rows.proofs.Quiet.{write_other, write_same}
use Rattle.c65_agree_frame.specs.Leads.{IsOn}
use Rattle.c65_agree_frame.proofs.Leads.{leads_as, kept_zero, lines_lead}
use Rattle.c65_agree_call.specs.Calls.{IsPut}
use Rattle.c65_agree_call.specs.Laws.{PointersArePut}

module _ (t : State) where
  abbrev first : Bytes
  first = write t.zp 14 t.regs.a

  abbrev second : State
  second = record t { zp = write first 15 t.regs.x }

  other_byte : (i : ℕ) → (i ≡ 14 → ⊥) → (i ≡ 15 → ⊥) → second.zp i ≡ t.zp i
  other_byte i low high = write_other first 15 t.regs.x i high ∙ write_other t.zp 14 t.regs.a i low

  low_is : second.zp 14 ≡ t.regs.a
  low_is = write_other first 15 t.regs.x 14 (λ e. omega (arith, e)) ∙ write_same t.zp 14 t.regs.a

  high_is : second.zp 15 ≡ t.regs.x
  high_is = write_same first 15 t.regs.x

  word_is : zero_word second 14 ≡ ax_of t
  word_is = omega (arith, low_is, high_is)

  sp_is : sp_of second ≡ sp_of t
  sp_is =
      let low = other_byte 0 (λ e. omega (arith, e)) (λ e. omega (arith, e)) in
      let high = other_byte 1 (λ e. omega (arith, e)) (λ e. omega (arith, e)) in
      omega (arith, low, high)

  only_scratch : IsBytes second → OnlyScratch (sp_of t) t second
  only_scratch b = record { mem = λ n side. refl; bank = λ i lt. sym (other_byte (20 + i) (λ e. omega (arith, e)) (λ e. omega (arith, e))); pushed = refl; frames = refl; input = refl; output = refl; ended = refl; bytes = b }

pub pointers_are_put : PointersArePut
pointers_are_put g a pushed needs f c q b t placed ready value within is =
    leads_as g a ptr4_code 2 2 t (λ u. (u ≡ second t) × IsBytes u) (IsPut g a pushed needs f c q b t) (omega arith) (λ u h. rw h.0 (put (subst IsBytes h.0 h.1)))
    (lines_lead g a ptr4_code t placed on (refl, (omega arith, λ _. omega arith), tt, kept_zero t 14 t.regs.a (omega arith), (refl, (omega arith, λ _. omega arith), tt, kept_zero (record t { zp = first t }) 15 t.regs.x (omega arith), tt)))
  where
    on : IsOn g t
    on = record { stacks = ready_is_calm g a pushed needs c q b t ready; running = ready.joins.ended }

    address : value.0 ≡ g.place.address (function_symbol (numbers_of g.parts) f).0
    address =
        let stands = sym value.1 ∙ ready.joins.symbols.funcs f within in
        cc

    put : IsBytes (second t) → IsPut g a pushed needs f c q b t (second t)
    put bytes =
        let kept : Kept g a c q b t c q b (second t) = scratch_is_kept g a pushed needs c q b t (second t) placed ready (only_scratch t bytes) (sp_is t) in
        record {
          ready = ready_stays g a pushed needs needs c c q q b b t (second t) (omega arith) ready kept;
          kept = kept;
          callee = (is, omega (arith, address, value.2, word_is t));
        }
