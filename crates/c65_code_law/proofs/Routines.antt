-- The row of each routine is met by some state.
use Rattle.std.proofs.Common.{◌≡◌, ℕ, zero, suc, ◌+◌, ◌-◌, ◌*◌, ◌/◌, ◌%◌, ◌<◌, ◌≤◌, Bool, true, false, List, [], ◌∷◌, inl, inr, Option, Some, None, if◌then◌else◌, refl, ◌∙◌, arith}
use Rattle.std.specs.Prelude.{⊤, nat_lt, ◌==◌}
use Rattle.c65_code.specs.declared.parts.Part.TheVariants.{Zp}
use Rattle.c65_code.specs.declared.parts.RegSet.{RegSet}
use Rattle.c65_code.specs.declared.routine.Count.{Count}
use Rattle.c65_code.specs.declared.routine.Count.TheVariants.{One, Two, Three, Four, Five, Six, Seven, Eight}
use Rattle.c65_code.specs.declared.routine.Width.{Width}
use Rattle.c65_code.specs.declared.routine.Width.TheVariants.{Ax, Eax}
use Rattle.c65_code.specs.declared.routine.TosOp.{TosOp}
use Rattle.c65_code.specs.declared.routine.TosOp.TheVariants as tos
use Rattle.c65_code.specs.declared.routine.UnaryRoutine.{UnaryRoutine}
use Rattle.c65_code.specs.declared.routine.UnaryRoutine.TheVariants.{Neg, Compl, Shl1, Shr1, Asr1, BNeg}
use Rattle.c65_base.specs.declared.library.Library.{Library}
use Rattle.c65_base.specs.declared.library.Library.TheVariants.{Putchar, Getchar, Puts, Exit, Memcpy, Memset, Strcmp, Strcpy, Strlen, Printf}
use Rattle.c65_code.specs.declared.routine.Routine.{Routine}
use Rattle.c65_code.specs.declared.routine.Routine.TheVariants as routines
use Rattle.c65_code.specs.Parts.{has_part}
use Rattle.c65_code.specs.Numbers.{tos_result, result_width, unary_result, unary_width}
use Rattle.c65_code.specs.Texts.{bytes_at, listed, filled, copied}
use Rattle.c65_code.specs.LineState.{Bytes, write, word_at, State, sp_of, sreg_of, ax_of, eax_of, IsBytes}
use Rattle.c65_code.specs.Rows.{Row, written, row_by, long_at, size_of, number_of, giving, giving_if, popping, costing, tos_cost, read_row, printed_of, print_row, tos_row, unary_row, library_row, is_too_deep, check_row, row_of}
use Rattle.c65_code_law.proofs.MetRows.{Fits, FitsWord, AreWritten, IsFit, IsMet, met, plain_met}
use Rattle.c65_code_law.proofs.Results.{IsLong, LongIf, tos_long, unary_long}

-- ---- bytes that are written

abbrev AreSmall : List ℕ → Type 0
AreSmall [] = ⊤
AreSmall (v ∷ vs) = (v < 256) × AreSmall vs

listed_small : (vs : List ℕ) (at : ℕ) → AreSmall vs → AreWritten (listed vs at)
listed_small [] at h = tt
listed_small (v ∷ vs) at h = (h.0, listed_small vs (at + 1) h.1)

filled_small : (count at v : ℕ) → v < 256 → AreWritten (filled count at v)
filled_small zero at v h = tt
filled_small (suc count) at v h = (h, filled_small count (at + 1) v h)

write_small : (m : Bytes) (at v : ℕ) → ((b : ℕ) → m b < 256) → v < 256 → (b : ℕ) → write m at v b < 256
write_small m at v h g b = pick (b == at)
  where
    pick : (t : Bool) → (if t then v else m b) < 256
    pick true = g
    pick false = h b

copied_small : (count to from : ℕ) (m : Bytes) → ((b : ℕ) → m b < 256) → AreWritten (copied count to from m)
copied_small zero to from m h = tt
copied_small (suc count) to from m h = (h from, copied_small count (to + 1) (from + 1) (write m to (m from)) (write_small m to (m from) h (h from)))

bytes_small : (count at : ℕ) (m : Bytes) → ((b : ℕ) → m b < 256) → AreSmall (bytes_at count at m)
bytes_small zero at m h = tt
bytes_small (suc count) at m h = (h at, bytes_small count (at + 1) m h)

abbrev pub MetIf : Option Row → State → Type 0
MetIf None t = ⊤
MetIf (Some row) t = IsMet row t

number_small : (c : Count) → number_of c ≤ 8
number_small One = omega arith
number_small Two = omega arith
number_small Three = omega arith
number_small Four = omega arith
number_small Five = omega arith
number_small Six = omega arith
number_small Seven = omega arith
number_small Eight = omega arith

module _ (t : State) (bytes : IsBytes t) (high : sp_of t ≤ 65520) where
  -- ---- what a row may say of a byte and of a word

  old_a : (may : Bool) → Fits may (Some t.regs.a) t.regs.a
  old_a may = (bytes.a, inr refl)

  old_x : (may : Bool) → Fits may (Some t.regs.x) t.regs.x
  old_x may = (bytes.x, inr refl)

  new : (v old : ℕ) → v < 256 → Fits true (Some v) old
  new v old h = (h, inl refl)

  low : (v old : ℕ) → Fits true (Some (v % 256)) old
  low v old = new (v % 256) old (omega arith)

  upper : (v old : ℕ) → Fits true (Some (v / 256 % 256)) old
  upper v old = new (v / 256 % 256) old (omega arith)

  same_sp : (changes : RegSet) → FitsWord changes 0 (sp_of t) t
  same_sp changes = let first : t.zp 0 < 256 = bytes.zp 0 in let second : t.zp 1 < 256 = bytes.zp 1 in record { small = omega arith; kept = inr refl }

  same_sreg : (changes : RegSet) → FitsWord changes 2 (sreg_of t) t
  same_sreg changes = let first : t.zp 2 < 256 = bytes.zp 2 in let second : t.zp 3 < 256 = bytes.zp 3 in record { small = omega arith; kept = inr refl }

  word : (changes : RegSet) (at v : ℕ) → has_part changes (Zp at) ≡ true → has_part changes (Zp (at + 1)) ≡ true → v < 65536 → FitsWord changes at v t
  word changes at v h g s = record { small = s; kept = inl (h, g) }

  word_small : (at : ℕ) → word_at t.mem at < 65536
  word_small at = let first : t.mem at < 256 = bytes.mem at in let second : t.mem (at + 1) < 256 = bytes.mem (at + 1) in omega arith

  long_small : (at : ℕ) → IsLong (long_at t.mem at)
  long_small at = let first : word_at t.mem at < 65536 = word_small at in let second : word_at t.mem (at + 2) < 65536 = word_small (at + 2) in omega arith

  eax_small : IsLong (eax_of t)
  eax_small = let a : t.regs.a < 256 = bytes.a in let x : t.regs.x < 256 = bytes.x in let c : t.zp 2 < 256 = bytes.zp 2 in let d : t.zp 3 < 256 = bytes.zp 3 in omega arith

  upper_small : (v : ℕ) → IsLong v → v / 65536 < 65536
  upper_small v h = omega arith

  -- ---- operators

  tos_given : (op : TosOp) (width : Width) (o : Option ℕ) → (width ≡ Eax → LongIf o) → IsMet (giving_if width o (costing (tos_cost op) (popping (size_of Ax) t (row_by (routines.Tos op Ax) t)))) t
  tos_given op Ax None h = plain_met _ t bytes (record { a = tt; x = tt; sp = word _ 0 _ refl refl (omega arith); sreg = tt; writes = tt; pointers = refl; bank = refl })
  tos_given op Eax None h = plain_met _ t bytes (record { a = tt; x = tt; sp = word _ 0 _ refl refl (omega arith); sreg = tt; writes = tt; pointers = refl; bank = refl })
  tos_given op Ax (Some v) h = plain_met _ t bytes (record { a = low v t.regs.a; x = upper v t.regs.x; sp = word _ 0 _ refl refl (omega arith); sreg = tt; writes = tt; pointers = refl; bank = refl })
  tos_given op Eax (Some v) h = plain_met _ t bytes (record { a = low v t.regs.a; x = upper v t.regs.x; sp = word _ 0 _ refl refl (omega arith); sreg = word _ 2 _ refl refl (upper_small v (h refl)); writes = tt; pointers = refl; bank = refl })

  tos_given_long : (op : TosOp) (width : Width) (o : Option ℕ) → LongIf o → IsMet (giving_if width o (costing (tos_cost op) (popping (size_of Eax) t (row_by (routines.Tos op Eax) t)))) t
  tos_given_long op Ax None h = plain_met _ t bytes (record { a = tt; x = tt; sp = word _ 0 _ refl refl (omega arith); sreg = tt; writes = tt; pointers = refl; bank = refl })
  tos_given_long op Eax None h = plain_met _ t bytes (record { a = tt; x = tt; sp = word _ 0 _ refl refl (omega arith); sreg = tt; writes = tt; pointers = refl; bank = refl })
  tos_given_long op Ax (Some v) h = plain_met _ t bytes (record { a = low v t.regs.a; x = upper v t.regs.x; sp = word _ 0 _ refl refl (omega arith); sreg = tt; writes = tt; pointers = refl; bank = refl })
  tos_given_long op Eax (Some v) h = plain_met _ t bytes (record { a = low v t.regs.a; x = upper v t.regs.x; sp = word _ 0 _ refl refl (omega arith); sreg = word _ 2 _ refl refl (upper_small v h); writes = tt; pointers = refl; bank = refl })

  short_results : (op : TosOp) → result_width op Ax ≡ Eax → LongIf (tos_result op Ax (word_at t.mem (sp_of t)) (ax_of t))
  short_results tos.Add h = absurd (cc)
  short_results tos.Sub h = absurd (cc)
  short_results tos.Mul h = absurd (cc)
  short_results tos.And h = absurd (cc)
  short_results tos.Or h = absurd (cc)
  short_results tos.Xor h = absurd (cc)
  short_results tos.Div h = absurd (cc)
  short_results tos.Mod h = absurd (cc)
  short_results tos.UDiv h = absurd (cc)
  short_results tos.UMod h = absurd (cc)
  short_results tos.Shl h = absurd (cc)
  short_results tos.Shr h = absurd (cc)
  short_results tos.Asr h = absurd (cc)
  short_results tos.Eq h = absurd (cc)
  short_results tos.Ne h = absurd (cc)
  short_results tos.Lt h = absurd (cc)
  short_results tos.Le h = absurd (cc)
  short_results tos.Gt h = absurd (cc)
  short_results tos.Ge h = absurd (cc)
  short_results tos.ULt h = absurd (cc)
  short_results tos.ULe h = absurd (cc)
  short_results tos.UGt h = absurd (cc)
  short_results tos.UGe h = absurd (cc)

  tos_met : (op : TosOp) (width : Width) → IsMet (tos_row op width t) t
  tos_met op Ax = tos_given op (result_width op Ax) (tos_result op Ax (word_at t.mem (sp_of t)) (ax_of t)) (short_results op)
  tos_met op Eax = tos_given_long op (result_width op Eax) (tos_result op Eax (long_at t.mem (sp_of t)) (eax_of t)) (tos_long op (long_at t.mem (sp_of t)) (eax_of t) (long_small (sp_of t)) eax_small)

  unary_given : (op : UnaryRoutine) (from width : Width) (v : ℕ) → (width ≡ Eax → IsLong v) → IsMet (giving width v (costing 256 (row_by (routines.Unary op from) t))) t
  unary_given op from Ax v h = plain_met _ t bytes (record { a = low v t.regs.a; x = upper v t.regs.x; sp = same_sp _; sreg = tt; writes = tt; pointers = refl; bank = refl })
  unary_given op from Eax v h = plain_met _ t bytes (record { a = low v t.regs.a; x = upper v t.regs.x; sp = same_sp _; sreg = word _ 2 _ refl refl (upper_small v (h refl)); writes = tt; pointers = refl; bank = refl })

  short_unary : (op : UnaryRoutine) → unary_width op Ax ≡ Eax → IsLong (unary_result op Ax (ax_of t))
  short_unary Neg h = absurd (cc)
  short_unary Compl h = absurd (cc)
  short_unary Shl1 h = absurd (cc)
  short_unary Shr1 h = absurd (cc)
  short_unary Asr1 h = absurd (cc)
  short_unary BNeg h = absurd (cc)

  unary_met : (op : UnaryRoutine) (width : Width) → IsMet (unary_row op width t) t
  unary_met op Ax = unary_given op Ax (unary_width op Ax) (unary_result op Ax (ax_of t)) (short_unary op)
  unary_met op Eax = unary_given op Eax (unary_width op Eax) (unary_result op Eax (eax_of t)) (λ h. unary_long op (eax_of t) eax_small)

  -- ---- the library

  read_met : (input : List ℕ) → IsMet (read_row input t (costing 256 (row_by (routines.Library Getchar) t))) t
  read_met [] = plain_met _ t bytes (record { a = low 65535 t.regs.a; x = upper 65535 t.regs.x; sp = same_sp _; sreg = tt; writes = tt; pointers = refl; bank = refl })
  read_met (v ∷ input) = plain_met _ t bytes (record { a = low v t.regs.a; x = upper v t.regs.x; sp = same_sp _; sreg = tt; writes = tt; pointers = refl; bank = refl })

  print_met : (text : Option (List ℕ)) → IsMet (print_row t text (costing 256 (row_by (routines.Library Printf) t))) t
  print_met None = plain_met _ t bytes (record { a = tt; x = tt; sp = same_sp _; sreg = tt; writes = tt; pointers = refl; bank = refl })
  print_met (Some text) = plain_met _ t bytes (record { a = low _ t.regs.a; x = upper _ t.regs.x; sp = word _ 0 _ refl refl (omega arith); sreg = tt; writes = tt; pointers = refl; bank = refl })

  library_met : (f : Library) → IsMet (library_row f t (costing 256 (row_by (routines.Library f) t))) t
  library_met Putchar = plain_met _ t bytes (record { a = low _ t.regs.a; x = upper _ t.regs.x; sp = same_sp _; sreg = tt; writes = tt; pointers = refl; bank = refl })
  library_met Getchar = read_met t.input
  library_met Puts = plain_met _ t bytes (record { a = low 0 t.regs.a; x = upper 0 t.regs.x; sp = same_sp _; sreg = tt; writes = tt; pointers = refl; bank = refl })
  library_met Exit = plain_met _ t bytes (record { a = tt; x = tt; sp = same_sp _; sreg = tt; writes = tt; pointers = refl; bank = refl })
  library_met Memcpy = plain_met _ t bytes (record { a = low _ t.regs.a; x = upper _ t.regs.x; sp = word _ 0 _ refl refl (omega arith); sreg = tt; writes = copied_small _ _ _ t.mem bytes.mem; pointers = refl; bank = refl })
  library_met Memset = plain_met _ t bytes (record { a = low _ t.regs.a; x = upper _ t.regs.x; sp = word _ 0 _ refl refl (omega arith); sreg = tt; writes = filled_small _ _ _ (bytes.mem (sp_of t)); pointers = refl; bank = refl })
  library_met Strcmp = plain_met _ t bytes (record { a = low _ t.regs.a; x = upper _ t.regs.x; sp = word _ 0 _ refl refl (omega arith); sreg = tt; writes = tt; pointers = refl; bank = refl })
  library_met Strcpy = plain_met _ t bytes (record { a = low _ t.regs.a; x = upper _ t.regs.x; sp = word _ 0 _ refl refl (omega arith); sreg = tt; writes = copied_small _ _ _ t.mem bytes.mem; pointers = refl; bank = refl })
  library_met Printf = print_met (printed_of t)
  library_met Strlen = plain_met _ t bytes (record { a = low _ t.regs.a; x = upper _ t.regs.x; sp = same_sp _; sreg = tt; writes = tt; pointers = refl; bank = refl })

  -- ---- ptr1 and ptr2, and regbank

  fit : (changes : RegSet) (at v : ℕ) → at < 26 → v < 256 → has_part changes (Zp at) ≡ true → IsFit changes t (at, v)
  fit changes at v h g k = record { place = h; byte = g; kept = inl k }

  joined : (v : ℕ) → v % 256 + 256 * (v / 256) ≡ v
  joined v = omega arith

  apart_listed : (vs : List ℕ) (at : ℕ) (m : Bytes) (i : ℕ) → i < at → written m (listed vs at) i ≡ m i
  apart_listed [] at m i h = refl
  apart_listed (v ∷ vs) at m i h = apart_listed vs (at + 1) (write m at v) i (omega arith) ∙ pick (i == at) refl
    where
      pick : (b : Bool) → (i == at) ≡ b → (if b then v else m i) ≡ m i
      pick false e = refl
      pick true e = let same : i ≡ at = grind arith in absurd (omega arith)

  pointers_met : MetIf (row_of routines.PopPtrs t) t
  pointers_met =
      let p : ℕ = word_at t.mem (sp_of t) in
      let q : ℕ = word_at t.mem (sp_of t + 2) in
      let ps : p < 65536 = word_small (sp_of t) in
      let qs : q < 65536 = word_small (sp_of t + 2) in
      met _ (listed (p % 256 ∷ p / 256 ∷ q % 256 ∷ q / 256 ∷ []) 8) t bytes (record {
        a = tt;
        x = old_x _;
        sp = word _ 0 _ refl refl (omega arith);
        sreg = same_sreg _;
        more_fit = (fit _ 8 (p % 256) (omega arith) (omega arith) refl, (fit _ 9 (p / 256) (omega arith) (omega arith) refl, (fit _ 10 (q % 256) (omega arith) (omega arith) refl, (fit _ 11 (q / 256) (omega arith) (omega arith) refl, tt))));
        writes = tt;
        pointers = (joined p, joined q);
        bank = tt;
        apart = λ m i g. apart_listed (p % 256 ∷ p / 256 ∷ q % 256 ∷ q / 256 ∷ []) 8 m i (omega arith);
      })

  bank_met : MetIf (row_of routines.RestRegs t) t
  bank_met = met _ (listed (bytes_at 6 (sp_of t) t.mem) 20) t bytes (record {
    a = old_a _;
    x = old_x _;
    sp = word _ 0 _ refl refl (omega arith);
    sreg = same_sreg _;
    more_fit = (fit _ 20 _ (omega arith) (bytes.mem _) refl, (fit _ 21 _ (omega arith) (bytes.mem _) refl, (fit _ 22 _ (omega arith) (bytes.mem _) refl, (fit _ 23 _ (omega arith) (bytes.mem _) refl, (fit _ 24 _ (omega arith) (bytes.mem _) refl, (fit _ 25 _ (omega arith) (bytes.mem _) refl, tt))))));
    writes = tt;
    pointers = tt;
    bank = (refl, (refl, (refl, (refl, (refl, (refl, tt))))));
    apart = λ m i g. apart_listed (bytes_at 6 (sp_of t) t.mem) 20 m i (omega arith);
  })

  -- ---- the check of the stacks

  check_met : (deep : Bool) → IsMet (check_row deep (costing 256 (row_by routines.StkChk t))) t
  check_met true = plain_met _ t bytes (record { a = tt; x = tt; sp = same_sp _; sreg = tt; writes = tt; pointers = refl; bank = refl })
  check_met false = plain_met _ t bytes (record { a = tt; x = tt; sp = same_sp _; sreg = tt; writes = tt; pointers = refl; bank = refl })

  -- ---- all routines

  pub row_met : (r : Routine) → MetIf (row_of r t) t
  row_met routines.PushA = plain_met _ t bytes (record { a = old_a _; x = old_x _; sp = word _ 0 _ refl refl (omega arith); sreg = same_sreg _; writes = (bytes.a, tt); pointers = refl; bank = refl })
  row_met routines.PushAx = plain_met _ t bytes (record { a = old_a _; x = old_x _; sp = word _ 0 _ refl refl (omega arith); sreg = same_sreg _; writes = (bytes.a, (bytes.x, tt)); pointers = refl; bank = refl })
  row_met routines.PushA0 = plain_met _ t bytes (record { a = old_a _; x = new 0 t.regs.x (omega arith); sp = word _ 0 _ refl refl (omega arith); sreg = same_sreg _; writes = (bytes.a, (omega arith, tt)); pointers = refl; bank = refl })
  row_met routines.Push0 = plain_met _ t bytes (record { a = new 0 t.regs.a (omega arith); x = new 0 t.regs.x (omega arith); sp = word _ 0 _ refl refl (omega arith); sreg = same_sreg _; writes = (omega arith, (omega arith, tt)); pointers = refl; bank = refl })
  row_met routines.PushEax = plain_met _ t bytes (record { a = old_a _; x = old_x _; sp = word _ 0 _ refl refl (omega arith); sreg = same_sreg _; writes = (bytes.a, (bytes.x, (bytes.zp 2, (bytes.zp 3, tt)))); pointers = refl; bank = refl })
  row_met routines.PopA = plain_met _ t bytes (record { a = new _ t.regs.a (bytes.mem (sp_of t)); x = old_x _; sp = word _ 0 _ refl refl (omega arith); sreg = same_sreg _; writes = tt; pointers = refl; bank = refl })
  row_met routines.PopAx = plain_met _ t bytes (record { a = low _ t.regs.a; x = upper _ t.regs.x; sp = word _ 0 _ refl refl (omega arith); sreg = same_sreg _; writes = tt; pointers = refl; bank = refl })
  row_met routines.PopEax = plain_met _ t bytes (record { a = low _ t.regs.a; x = upper _ t.regs.x; sp = word _ 0 _ refl refl (omega arith); sreg = word _ 2 _ refl refl (upper_small (long_at t.mem (sp_of t)) (long_small (sp_of t))); writes = tt; pointers = refl; bank = refl })
  row_met routines.PopPtrs = pointers_met
  row_met (routines.IncSp count) = let few : number_of count ≤ 8 = number_small count in plain_met _ t bytes (record { a = old_a _; x = old_x _; sp = word _ 0 _ refl refl (omega arith); sreg = same_sreg _; writes = tt; pointers = refl; bank = refl })
  row_met (routines.DecSp count) = plain_met _ t bytes (record { a = old_a _; x = old_x _; sp = word _ 0 _ refl refl (omega arith); sreg = same_sreg _; writes = tt; pointers = refl; bank = refl })
  row_met routines.AddYSp = plain_met _ t bytes (record { a = old_a _; x = old_x _; sp = word _ 0 _ refl refl (omega arith); sreg = same_sreg _; writes = tt; pointers = refl; bank = refl })
  row_met routines.SubYSp = plain_met _ t bytes (record { a = old_a _; x = old_x _; sp = word _ 0 _ refl refl (omega arith); sreg = same_sreg _; writes = tt; pointers = refl; bank = refl })
  row_met routines.LdAxYSp = plain_met _ t bytes (record { a = low _ t.regs.a; x = upper _ t.regs.x; sp = same_sp _; sreg = same_sreg _; writes = tt; pointers = refl; bank = refl })
  row_met routines.LdAx0Sp = plain_met _ t bytes (record { a = low _ t.regs.a; x = upper _ t.regs.x; sp = same_sp _; sreg = same_sreg _; writes = tt; pointers = refl; bank = refl })
  row_met routines.LdEaxYSp = plain_met _ t bytes (record { a = low _ t.regs.a; x = upper _ t.regs.x; sp = same_sp _; sreg = word _ 2 _ refl refl (upper_small (long_at t.mem (sp_of t + t.regs.y - 3)) (long_small (sp_of t + t.regs.y - 3))); writes = tt; pointers = refl; bank = refl })
  row_met routines.StAxYSp = plain_met _ t bytes (record { a = old_a _; x = old_x _; sp = same_sp _; sreg = same_sreg _; writes = (bytes.a, (bytes.x, tt)); pointers = refl; bank = refl })
  row_met routines.StAx0Sp = plain_met _ t bytes (record { a = old_a _; x = old_x _; sp = same_sp _; sreg = same_sreg _; writes = (bytes.a, (bytes.x, tt)); pointers = refl; bank = refl })
  row_met routines.StEaxYSp = plain_met _ t bytes (record { a = old_a _; x = old_x _; sp = same_sp _; sreg = same_sreg _; writes = (bytes.a, (bytes.x, (bytes.zp 2, (bytes.zp 3, tt)))); pointers = refl; bank = refl })
  row_met routines.LdAi = plain_met _ t bytes (record { a = low _ t.regs.a; x = upper _ t.regs.x; sp = same_sp _; sreg = tt; writes = tt; pointers = refl; bank = refl })
  row_met routines.LdAxi = plain_met _ t bytes (record { a = low _ t.regs.a; x = upper _ t.regs.x; sp = same_sp _; sreg = tt; writes = tt; pointers = refl; bank = refl })
  row_met routines.LdEaxi = plain_met _ t bytes (record { a = low _ t.regs.a; x = upper _ t.regs.x; sp = same_sp _; sreg = word _ 2 _ refl refl (upper_small (long_at t.mem (ax_of t)) (long_small (ax_of t))); writes = tt; pointers = refl; bank = refl })
  row_met routines.StATos = plain_met _ t bytes (record { a = old_a _; x = tt; sp = word _ 0 _ refl refl (omega arith); sreg = tt; writes = (bytes.a, tt); pointers = refl; bank = refl })
  row_met routines.StAxTos = plain_met _ t bytes (record { a = old_a _; x = old_x _; sp = word _ 0 _ refl refl (omega arith); sreg = tt; writes = (bytes.a, (bytes.x, tt)); pointers = refl; bank = refl })
  row_met routines.StEaxTos = plain_met _ t bytes (record { a = old_a _; x = old_x _; sp = word _ 0 _ refl refl (omega arith); sreg = same_sreg _; writes = (bytes.a, (bytes.x, (bytes.zp 2, (bytes.zp 3, tt)))); pointers = refl; bank = refl })
  row_met routines.CopyTos = plain_met _ t bytes (record { a = low _ t.regs.a; x = upper _ t.regs.x; sp = word _ 0 _ refl refl (omega arith); sreg = tt; writes = copied_small _ _ _ t.mem bytes.mem; pointers = refl; bank = refl })
  row_met (routines.Tos op width) = tos_met op width
  row_met (routines.Unary op width) = unary_met op width
  row_met routines.SignA = plain_met _ t bytes (record { a = old_a _; x = new _ t.regs.x (sign_small (nat_lt 127 t.regs.a)); sp = same_sp _; sreg = tt; writes = tt; pointers = refl; bank = refl })
    where
      sign_small : (b : Bool) → (if b then 255 else 0) < 256
      sign_small true = omega arith
      sign_small false = omega arith
  row_met routines.LongAx = plain_met _ t bytes (record { a = old_a _; x = old_x _; sp = same_sp _; sreg = word _ 2 _ refl refl (ones_small (nat_lt 127 t.regs.x)); writes = tt; pointers = refl; bank = refl })
    where
      ones_small : (b : Bool) → (if b then 65535 else 0) < 65536
      ones_small true = omega arith
      ones_small false = omega arith
  row_met routines.ULongAx = plain_met _ t bytes (record { a = old_a _; x = old_x _; sp = same_sp _; sreg = word _ 2 _ refl refl (omega arith); writes = tt; pointers = refl; bank = refl })
  row_met routines.SaveRegs = plain_met _ t bytes (record { a = old_a _; x = old_x _; sp = word _ 0 _ refl refl (omega arith); sreg = same_sreg _; writes = listed_small (bytes_at 6 20 t.zp) 0 (bytes_small 6 20 t.zp bytes.zp); pointers = refl; bank = refl })
  row_met routines.RestRegs = bank_met
  row_met routines.StkChk = check_met (is_too_deep t)
  row_met (routines.Library f) = library_met f
  row_met _ = tt
