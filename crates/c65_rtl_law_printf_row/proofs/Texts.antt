-- Spaces and a text are written.
use Rattle.std.proofs.Common.{◌≡◌, ℕ, ◌+◌, ◌-◌, ◌*◌, ◌<◌, ◌≤◌, ◌⊎◌, inl, inr, List, ◌++◌, length, refl, sym, ap, subst, ◌∙◌, arith}
use Rattle.std.specs.Prelude.{replicate}
use Rattle.std.proofs.lemmas.List.{append_assoc, length-append}
use Rattle.c65_base.specs.declared.library.Library.TheVariants.{Printf}
use Rattle.c65_base.specs.Formats.{wide}
use Rattle.c65_code.specs.declared.routine.Routine.TheVariants as routines
use Rattle.c65_code.specs.LineState.{Place, State, sp_of, IsBytes}
use Rattle.c65_code.specs.Texts.{bytes_at}
use Rattle.c65_code.specs.RawMachine.{RawSetting, IsReachable, reach_of}
use Rattle.c65_rtl_law_printf.specs.Writing.{length_of, address_of, Writes, MayWrite}
use Rattle.c65_rtl_law_printf.proofs.Writing.{same_bytes, texts_are_written}
use Rattle.c65_rtl_law_printf_fields.specs.Numbers.{MayPush}
use Rattle.c65_rtl_law_printf_fields.specs.Spaces.{spaces_before, WritesSpaces}
use Rattle.c65_rtl_law_printf_fields.proofs.Spaces.{spaces_are_written}
use Rattle.c65_rtl_law_printf_row.proofs.Left.{Readable}
use Rattle.c65_rtl_law_printf_row.proofs.Moments.{at_next, at_pad, at_text, still, Reading, LiesApart, LiesBelow, Ready, Holds}
use Rattle.c65_rtl_law_printf_row.proofs.Context.{Called, frame_of, calls_of, Turning, turn_to, deep_enough, wide_length, all_range}

module _ (s : RawSetting) (t : State) (text : List ℕ) (back : Place) (call : Called s t) (Q : Place → State → Type 0) where
  abbrev f : ℕ
  f = s.routine (routines.Library Printf)

  -- ---- where the text lies

  sp_near : (chunk : List ℕ) (u : State) → Ready s t text chunk u → (sp_of t ≤ sp_of u + 11) × (sp_of u ≤ sp_of t)
  sp_near chunk u k = by k.lies
    where
      by : LiesApart s t text chunk u ⊎ LiesBelow s t text chunk u → (sp_of t ≤ sp_of u + 11) × (sp_of u ≤ sp_of t)
      by (inl x) = let e = x.sp in (omega arith, omega arith)
      by (inr x) = let e = x.sp in let few = x.few in (omega arith, omega arith)

  -- it may be read, and lies where nothing is written
  text_byte : (chunk : List ℕ) (u : State) → Ready s t text chunk u → (j : ℕ) → j < length chunk → IsReachable s.place (reach_of t) (address_of u + j) × ((address_of u + j + 5 < sp_of u) ⊎ (sp_of u ≤ address_of u + j))
  text_byte chunk u k j few = by k.lies
    where
      lower : sp_of u ≡ sp_of t → (address_of u + j + 64 < sp_of t) ⊎ (sp_of t ≤ address_of u + j) → (address_of u + j + 5 < sp_of u) ⊎ (sp_of u ≤ address_of u + j)
      lower e (inl below) = inl (omega arith)
      lower e (inr above) = inr (omega arith)

      by : LiesApart s t text chunk u ⊎ LiesBelow s t text chunk u → IsReachable s.place (reach_of t) (address_of u + j) × ((address_of u + j + 5 < sp_of u) ⊎ (sp_of u ≤ address_of u + j))
      by (inl x) = ((x.readable j few).reach, lower x.sp (x.readable j few).fixed)
      by (inr x) =
          let at = x.address in
          let e = x.sp in
          let small = x.few in
          let top = call.top in
          (inr (omega arith, omega arith), inr (omega arith))

  four : (b at : ℕ) → (b + 5 < at) ⊎ (at ≤ b) → (b + 4 < at) ⊎ (at ≤ b)
  four b at (inl below) = inl (omega arith)
  four b at (inr above) = inr above

  near_fixed : (b at : ℕ) → sp_of t ≤ at + 11 → at ≤ sp_of t → (b + 64 < sp_of t) ⊎ (sp_of t ≤ b) → (b + 5 < at) ⊎ (at ≤ b)
  near_fixed b at low high (inl below) = inl (omega arith)
  near_fixed b at low high (inr above) = inr (omega arith)

  -- ---- spaces

  kept_lies : (chunk : List ℕ) (u v : State) → v.zp 2 ≡ u.zp 2 → address_of v ≡ address_of u → sp_of v ≡ sp_of u → LiesApart s t text chunk u ⊎ LiesBelow s t text chunk u → LiesApart s t text chunk v ⊎ LiesBelow s t text chunk v
  kept_lies chunk u v e2 at e (inl x) = inl (record { own = e2 ∙ x.own; sp = e ∙ x.sp; readable = λ j few. subst (λ (a : ℕ). Readable s t (a + j)) (sym at) (x.readable j few) })
  kept_lies chunk u v e2 at e (inr x) = let sp_is = x.sp in inr (record { letter = λ h. x.letter (sym e2 ∙ h); address = at ∙ (x.address ∙ sym e); sp = omega arith; few = x.few })

  pub pad_turn : (w : ℕ) (chunk bs : List ℕ) (p size n : ℕ) (rest : List ℕ) (u : State) → IsBytes u → u.frames ≡ calls_of t back → Holds s t text (at_pad w chunk bs p size rest) n u → Turning s t text back call Q 8 n u
  pad_turn w chunk bs p size n rest u bytes same h =
      let r : Reading s t text p size (wide w chunk ++ rest) u = h.1 in
      let ready : Ready s t text chunk u = h.2 in
      let width = h.3 in
      let enough = h.4 in
      let pushed = ap (λ (ps : List ℕ). length ps) r.pushed in
      let hard = deep_enough s t text back call Q u same (omega arith) in
      let soft = call.soft in
      let top = call.top in
      let near = sp_near chunk u ready in
      let low = near.0 in
      let high = near.1 in
      let length_is = ready.size in
      let spaces : spaces_before u ≡ w - length chunk = ap (λ (x : ℕ). x - length_of u) width ∙ ap (λ (x : ℕ). w - x) length_is in
      let may : MayPush s (reach_of t) u = record { bytes = bytes; running = r.ended; hard = hard; soft = omega arith; high = omega arith; data_low = call.data_low } in
      turn_to s t text back call Q 8 n (60 + 80 * spaces_before u) (320 + still bs rest) 9 u (WritesSpaces u) bytes same (omega arith) (omega arith)
      (spaces_are_written s (reach_of t) f u (frame_of t back) t.frames call.stand same may)
      (λ v bytes_v k.
      let z2 = k.zp 2 (omega arith) (omega arith) (omega arith) (omega arith) (omega arith) (omega arith) in
      let z8 = k.zp 8 (omega arith) (omega arith) (omega arith) (omega arith) (omega arith) (omega arith) in
      let z9 = k.zp 9 (omega arith) (omega arith) (omega arith) (omega arith) (omega arith) (omega arith) in
      let z10 = k.zp 10 (omega arith) (omega arith) (omega arith) (omega arith) (omega arith) (omega arith) in
      let z11 = k.zp 11 (omega arith) (omega arith) (omega arith) (omega arith) (omega arith) (omega arith) in
      let z14 = k.zp 14 (omega arith) (omega arith) (omega arith) (omega arith) (omega arith) (omega arith) in
      let z15 = k.zp 15 (omega arith) (omega arith) (omega arith) (omega arith) (omega arith) (omega arith) in
      let z17 = k.zp 17 (omega arith) (omega arith) (omega arith) (omega arith) (omega arith) (omega arith) in
      let z18 = k.zp 18 (omega arith) (omega arith) (omega arith) (omega arith) (omega arith) (omega arith) in
      let format = r.format in
      let block = r.block in
      let count = r.count in
      let count_on = k.count in
      let whole = wide_length w chunk rest in
      let parts = length-append chunk rest in
      let address : v.zp 14 + 256 * v.zp 15 ≡ u.zp 14 + 256 * u.zp 15 = omega arith in
      let pad : List ℕ = replicate (w - length chunk) 32 in
      let told : v.output ≡ u.output ++ pad = k.output ∙ ap (λ (c : ℕ). u.output ++ replicate c 32) spaces in
      let joined : u.output ++ pad ++ (chunk ++ rest) ≡ u.output ++ (pad ++ chunk ++ rest) = append_assoc u.output pad (chunk ++ rest) ∙ ap (λ (ns : List ℕ). u.output ++ ns) (sym (append_assoc pad chunk rest)) in (
        at_text chunk bs p size rest,
        refl,
        (
          h.0,
          record {
            format = omega arith;
            block = omega arith;
            told = ap (λ (ns : List ℕ). ns ++ (chunk ++ rest)) told ∙ (joined ∙ r.told);
            count = omega arith;
            bank = λ i high. k.zp i (omega arith) (omega arith) (omega arith) (omega arith) (omega arith) (omega arith) ∙ r.bank i high;
            mem = λ b fixed. k.mem b (near_fixed b (sp_of u) low high fixed) ∙ r.mem b fixed;
            pushed = k.pushed ∙ r.pushed;
            input = k.input ∙ r.input;
            ended = k.ended;
          },
          record {
            size = omega arith;
            bytes = ap (λ (a : ℕ). bytes_at (length chunk) a v.mem) address ∙ (same_bytes (length chunk) (address_of u) u.mem v.mem (λ j few. k.mem (address_of u + j) (text_byte chunk u ready j few).1) ∙ ready.bytes);
            lies = kept_lies chunk u v z2 address k.sp ready.lies;
          },
          omega arith,
        ),
      ))

  -- ---- a text

  sp_back : (chunk : List ℕ) (u v : State) → Ready s t text chunk u → Writes u v → sp_of v ≡ sp_of t
  sp_back chunk u v ready k = by ready.lies
    where
      by : LiesApart s t text chunk u ⊎ LiesBelow s t text chunk u → sp_of v ≡ sp_of t
      by (inl x) = k.own x.own ∙ x.sp
      by (inr x) =
          let taken = k.taken x.letter in
          let e = x.sp in
          let few = x.few in
          let length_is = ready.size in
          let top = call.top in
          omega arith

  pub text_turn : (chunk bs : List ℕ) (p size n : ℕ) (rest : List ℕ) (u : State) → IsBytes u → u.frames ≡ calls_of t back → Holds s t text (at_text chunk bs p size rest) n u → Turning s t text back call Q 9 n u
  text_turn chunk bs p size n rest u bytes same h =
      let r : Reading s t text p size (chunk ++ rest) u = h.1 in
      let ready : Ready s t text chunk u = h.2 in
      let enough = h.3 in
      let pushed = ap (λ (ps : List ℕ). length ps) r.pushed in
      let hard = deep_enough s t text back call Q u same (omega arith) in
      let soft = call.soft in
      let top = call.top in
      let near = sp_near chunk u ready in
      let low = near.0 in
      let high = near.1 in
      let length_is = ready.size in
      let readable : (j : ℕ) → j < length_of u → IsReachable s.place (reach_of t) (address_of u + j) = λ j few. (text_byte chunk u ready j (subst (λ (c : ℕ). j < c) length_is few)).0 in
      let may : MayWrite s (reach_of t) u = record {
        bytes = bytes;
        running = r.ended;
        hard = hard;
        soft = omega arith;
        high = omega arith;
        data_low = call.data_low;
        readable = all_range (IsReachable s.place (reach_of t)) (length_of u) (address_of u) readable;
        apart = λ j few. four (address_of u + j) (sp_of u) (text_byte chunk u ready j (subst (λ (c : ℕ). j < c) length_is few)).1;
      } in
      turn_to s t text back call Q 9 n 100 (200 + still bs rest) 0 u (Writes u) bytes same (omega arith) (omega arith)
      (texts_are_written s (reach_of t) f u (frame_of t back) t.frames call.stand.stand same may)
      (λ v bytes_v k.
      let z8 = k.zp 8 (omega arith) (omega arith) (omega arith) in
      let z9 = k.zp 9 (omega arith) (omega arith) (omega arith) in
      let z10 = k.zp 10 (omega arith) (omega arith) (omega arith) in
      let z11 = k.zp 11 (omega arith) (omega arith) (omega arith) in
      let format = r.format in
      let block = r.block in
      let count = r.count in
      let count_on = k.count in
      let parts = length-append chunk rest in
      let told : v.output ≡ u.output ++ chunk = k.output ∙ ap (λ (ns : List ℕ). u.output ++ ns) (ap (λ (c : ℕ). bytes_at c (address_of u) u.mem) length_is ∙ ready.bytes) in (
        at_next bs p size rest,
        refl,
        (
          h.0,
          record {
            format = omega arith;
            block = omega arith;
            told = ap (λ (ns : List ℕ). ns ++ rest) told ∙ (append_assoc u.output chunk rest ∙ r.told);
            count = omega arith;
            bank = λ i high. k.zp i (omega arith) (omega arith) (omega arith) ∙ r.bank i high;
            mem = λ b fixed. k.mem b (four b (sp_of u) (near_fixed b (sp_of u) low high fixed)) ∙ r.mem b fixed;
            pushed = k.pushed ∙ r.pushed;
            input = k.input ∙ r.input;
            ended = k.ended;
          },
          sp_back chunk u v ready k,
          omega arith,
        ),
      ))
