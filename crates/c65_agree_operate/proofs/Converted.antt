-- The lines that bring a value into the range of a type, and into its register.
use Rattle.std.proofs.Common.{◌≡◌, ℕ, ◌%◌, [], ◌∷◌, Bool, true, false, refl, ap, ◌∙◌, subst, arith}
use Rattle.std.specs.Prelude.{nat_le}
use Rattle.c65_ints.specs.declared.types.IntType.{IntType}
use Rattle.c65_ints.specs.declared.types.IntType.TheVariants as I
use Rattle.c65_mach.specs.declared.rows.Op.TheVariants.{Ldx}
use Rattle.c65_mach.specs.State.{Regs}
use Rattle.c65_mach.specs.Step.{apply}
use Rattle.c65_meaning.specs.State.{Scene}
use Rattle.c65_code.specs.declared.routine.Routine.TheVariants.{SignA, LongAx, ULongAx}
use Rattle.c65_code.specs.LineState.{State, ax_of, eax_of, IsBytes}
use Rattle.c65_code.specs.Placement.{IsPlacement}
use Rattle.c65_code.specs.Rows.{primary_of}
use Rattle.c65_genwide.specs.Lines.{value, call}
use Rattle.c65_genwide.specs.Wide.{width_of, narrow_code}
use Rattle.c65_genload.specs.Conversions.{widen_code, convert_code, size_of}
use Rattle.c65_genexpr.specs.Operating.{is_signed_char, is_light_to}
use Rattle.c65_agree_store.specs.Stands.{Placing, Banks}
use Rattle.c65_agree_state.specs.World.{World, Active}
use Rattle.c65_agree_state.specs.Exprs.{Ready, Kept}
use Rattle.c65_agree_numbers.specs.Words.{signed_byte, signed_long, narrowed, converted_word}
use Rattle.c65_agree_rows.specs.Rows.{SignedByte, SignedWord, UnsignedWord, IsWidened}
use Rattle.c65_agree_rows.specs.Laws.{IsKeptWith}
use Rattle.c65_agree_rows.proofs.Loads.{widenings_run}
use Rattle.c65_agree_frame.specs.Leads.{Leads}
use Rattle.c65_agree_frame.proofs.Leads.{none_leads, leads_as, kept_regs, lines_lead}
use Rattle.c65_agree_load.proofs.Kept.{runs_lead, is_on, kept_later}
use Rattle.c65_agree_operate.specs.Manners.{IsHeld}

-- nothing has changed
pub kept_itself : (g : World) (a : Active) (pushed needs : ℕ) (c : Scene) (w : Placing) (k : Banks) (t : State) → Ready g a pushed needs c w k t → Kept g a c w k t c w k t
kept_itself g a pushed needs c w k t r = record { joins = r.joins; sp = refl; frames = refl; next = omega arith; bounds = λ b lt. refl; grows = λ b q e. e; kept = λ n le f. (refl, f); banks = λ d i lt. refl; own_bank = λ i le. refl; none_pushed = r.none_pushed }

-- all is kept, a register has its word, and ptr2 is left where that holds
pub record IsBrought (g : World) (a : Active) (c : Scene) (w : Placing) (k : Banks) (t : State) (register : State → ℕ) (n : ℕ) (light : Bool) (u : State) : Type 0 where
  pub kept : Kept g a c w k t c w k u
  pub word : register u ≡ n
  pub held : light ≡ true → IsHeld t u

module _ (g : World) (a : Active) (pushed needs : ℕ) (c : Scene) (w : Placing) (k : Banks) (t : State) (placed : IsPlacement g.code g.place) (r : Ready g a pushed needs c w k t) where
  none_brought : (register : State → ℕ) (n : ℕ) (light : Bool) → register t ≡ n → Leads g a [] 256 t (IsBrought g a c w k t register n light)
  none_brought register n light e =
      leads_as g a [] 0 256 t (IsBrought g a c w k t register n light) (IsBrought g a c w k t register n light) (omega arith) (λ v h. h)
      (none_leads g a t (IsBrought g a c w k t register n light) (record { kept = kept_itself g a pushed needs c w k t r; word = e; held = λ h. record { low = refl; high = refl } }))

  -- a character in all of AX
  pub narrow_leads : (kind : IntType) (n : ℕ) (light : Bool) → ax_of t ≡ n → (light ≡ true → is_signed_char kind ≡ false) → Leads g a (narrow_code kind) 256 t (IsBrought g a c w k t ax_of (narrowed kind n) light)
  narrow_leads I.UChar n light e heavy =
      let regs : Regs = apply false Ldx 0 t.regs in
      leads_as g a (value Ldx 0 ∷ []) 1 256 t (λ v. (v ≡ record t { regs = regs }) × IsBytes v) (IsBrought g a c w k t ax_of (narrowed I.UChar n) light) (omega arith)
      (λ v h. rw h.0 (record { kept = kept_later g a pushed needs c w k t placed r regs t.zp (λ i x. refl) (subst IsBytes h.0 h.1); word = omega (arith, e, r.joins.bytes.a); held = λ x. record { low = refl; high = refl } }))
      (lines_lead g a (value Ldx 0 ∷ []) t placed (is_on g a pushed needs c w k t placed r) (refl, tt, omega arith, kept_regs t regs, tt))
  narrow_leads I.SChar n light e heavy =
      leads_as g a (call SignA ∷ []) 256 256 t (IsKeptWith g a c w k t (IsWidened SignedByte t)) (IsBrought g a c w k t ax_of (narrowed I.SChar n) light) (omega arith)
      (λ v x. record { kept = x.kept; word = x.result ∙ ap signed_byte e; held = λ h. let clash : true ≡ false = heavy h in cc })
      (runs_lead g a pushed needs c w k t SignA (IsKeptWith g a c w k t (IsWidened SignedByte t)) (omega arith) r (widenings_run g a pushed needs c w k t SignedByte placed r))
  narrow_leads I.Short n light e heavy = none_brought ax_of n light e
  narrow_leads I.UShort n light e heavy = none_brought ax_of n light e
  narrow_leads I.Int n light e heavy = none_brought ax_of n light e
  narrow_leads I.UInt n light e heavy = none_brought ax_of n light e
  narrow_leads I.Long n light e heavy = none_brought ax_of n light e
  narrow_leads I.ULong n light e heavy = none_brought ax_of n light e

  -- a long word from AX
  signed_leads : (n : ℕ) (light : Bool) → ax_of t ≡ n → (light ≡ true → false ≡ true) → Leads g a (call LongAx ∷ []) 256 t (IsBrought g a c w k t eax_of (signed_long n) light)
  signed_leads n light e heavy =
      leads_as g a (call LongAx ∷ []) 256 256 t (IsKeptWith g a c w k t (IsWidened SignedWord t)) (IsBrought g a c w k t eax_of (signed_long n) light) (omega arith)
      (λ v x. record { kept = x.kept; word = x.result ∙ ap signed_long e; held = λ h. let clash : false ≡ true = heavy h in cc })
      (runs_lead g a pushed needs c w k t LongAx (IsKeptWith g a c w k t (IsWidened SignedWord t)) (omega arith) r (widenings_run g a pushed needs c w k t SignedWord placed r))

  unsigned_leads : (n : ℕ) (light : Bool) → ax_of t ≡ n → (light ≡ true → false ≡ true) → Leads g a (call ULongAx ∷ []) 256 t (IsBrought g a c w k t eax_of n light)
  unsigned_leads n light e heavy =
      leads_as g a (call ULongAx ∷ []) 256 256 t (IsKeptWith g a c w k t (IsWidened UnsignedWord t)) (IsBrought g a c w k t eax_of n light) (omega arith)
      (λ v x. record { kept = x.kept; word = x.result ∙ e; held = λ h. let clash : false ≡ true = heavy h in cc })
      (runs_lead g a pushed needs c w k t ULongAx (IsKeptWith g a c w k t (IsWidened UnsignedWord t)) (omega arith) r (widenings_run g a pushed needs c w k t UnsignedWord placed r))

  pub widen_leads : (from : IntType) (n : ℕ) (light : Bool) → primary_of (width_of from) t ≡ n → (light ≡ true → nat_le 4 (size_of from) ≡ true)
      → Leads g a (widen_code from) 256 t (IsBrought g a c w k t eax_of (converted_word from I.Long n) light)
  widen_leads I.SChar n light e heavy = signed_leads n light e heavy
  widen_leads I.UChar n light e heavy = unsigned_leads n light e heavy
  widen_leads I.Short n light e heavy = signed_leads n light e heavy
  widen_leads I.UShort n light e heavy = unsigned_leads n light e heavy
  widen_leads I.Int n light e heavy = signed_leads n light e heavy
  widen_leads I.UInt n light e heavy = unsigned_leads n light e heavy
  widen_leads I.Long n light e heavy = none_brought eax_of n light e
  widen_leads I.ULong n light e heavy = none_brought eax_of n light e

  -- AX is the low half of the register
  low_half : (from : IntType) (n : ℕ) → primary_of (width_of from) t ≡ n → ax_of t ≡ n % 65536
  low_half I.SChar n e = omega (arith, e, r.joins.bytes.a, r.joins.bytes.x)
  low_half I.UChar n e = omega (arith, e, r.joins.bytes.a, r.joins.bytes.x)
  low_half I.Short n e = omega (arith, e, r.joins.bytes.a, r.joins.bytes.x)
  low_half I.UShort n e = omega (arith, e, r.joins.bytes.a, r.joins.bytes.x)
  low_half I.Int n e = omega (arith, e, r.joins.bytes.a, r.joins.bytes.x)
  low_half I.UInt n e = omega (arith, e, r.joins.bytes.a, r.joins.bytes.x)
  low_half I.Long n e = omega (arith, e, r.joins.bytes.a, r.joins.bytes.x)
  low_half I.ULong n e = omega (arith, e, r.joins.bytes.a, r.joins.bytes.x)

  pub convert_leads : (from to : IntType) (n : ℕ) (light : Bool) → primary_of (width_of from) t ≡ n → (light ≡ true → is_light_to (width_of to) from to ≡ true)
      → Leads g a (convert_code from to) 256 t (IsBrought g a c w k t (primary_of (width_of to)) (converted_word from to n) light)
  convert_leads from I.SChar n light e heavy = narrow_leads I.SChar (n % 65536) light (low_half from n e) (λ h. let clash : false ≡ true = heavy h in cc)
  convert_leads from I.UChar n light e heavy = narrow_leads I.UChar (n % 65536) light (low_half from n e) (λ h. refl)
  convert_leads from I.Short n light e heavy = narrow_leads I.Short (n % 65536) light (low_half from n e) (λ h. refl)
  convert_leads from I.UShort n light e heavy = narrow_leads I.UShort (n % 65536) light (low_half from n e) (λ h. refl)
  convert_leads from I.Int n light e heavy = narrow_leads I.Int (n % 65536) light (low_half from n e) (λ h. refl)
  convert_leads from I.UInt n light e heavy = narrow_leads I.UInt (n % 65536) light (low_half from n e) (λ h. refl)
  convert_leads from I.Long n light e heavy = widen_leads from n light e heavy
  convert_leads from I.ULong n light e heavy = widen_leads from n light e heavy
