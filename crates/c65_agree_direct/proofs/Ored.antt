-- Bytes that are tested together.
use Rattle.std.proofs.Common.{◌≡◌, ℕ, suc, ◌+◌, ◌*◌, List, [], ◌∷◌, ◌++◌, refl, sym, ap, ◌∙◌, subst, arith}
use Rattle.std.specs.Prelude.{◌==◌, bit_or, length}
use Rattle.std.proofs.lemmas.Nat.{le_or_l, le_or_r}
use Rattle.c65_mach.specs.State.{Regs}
use Rattle.c65_meaning.specs.State.{Scene}
use Rattle.c65_mach.specs.declared.rows.Op.TheVariants.{Lda, Ora}
use Rattle.c65_code.specs.LineState.{State, IsBytes}
use Rattle.c65_code.specs.Placement.{IsPlacement}
use Rattle.c65_gendirect.specs.declared.bytes.OperandByte.{OperandByte}
use Rattle.c65_gendirect.specs.declared.bytes.OperandByte.TheVariants.{Number, Low, High, Near, Data, Zero}
use Rattle.c65_gendirect.specs.Bytes.{op_of}
use Rattle.c65_gendirect.specs.Tests.{or_code, all_zero_code}
use Rattle.c65_agree_store.specs.Stands.{Placing, Banks}
use Rattle.c65_agree_store.specs.Laws.{number_in}
use Rattle.c65_agree_state.specs.World.{World, Active}
use Rattle.c65_agree_state.specs.Exprs.{Ready}
use Rattle.c65_agree_frame.specs.Leads.{Leads, IsOn}
use Rattle.c65_agree_frame.proofs.Leads.{none_leads, leads_then, leads_as}
use Rattle.c65_agree_load.proofs.Kept.{is_on, ready_later}
use Rattle.c65_agree_direct.specs.Operands.{byte_in, MayRead, Loads, Disjoins, with_operand}
use Rattle.c65_agree_direct.proofs.Used.{operand_bytes_are_used}

-- these bytes are those of f from o on
abbrev pub Covers : World → State → (ℕ → ℕ) → List OperandByte → ℕ → Type 0
Covers g t f [] o = Unit {0}
Covers g t f (x ∷ xs) o = (MayRead g t x × (byte_in g t x ≡ f o)) × Covers g t f xs (suc o)

-- n, and with the bits of these bytes
abbrev pub ored : World → State → ℕ → List OperandByte → ℕ
ored g t n [] = n
ored g t n (x ∷ xs) = ored g t (bit_or n (byte_in g t x)) xs

-- ---- zero

none_or : (a b : ℕ) → bit_or a b ≡ 0 → (a ≡ 0) × (b ≡ 0)
none_or a b e = (omega (arith, e, le_or_l a b), omega (arith, e, le_or_r a b))

or_none : (a b : ℕ) → a ≡ 0 → b ≡ 0 → bit_or a b ≡ 0
or_none a b e f = ap (λ x. bit_or x b) e ∙ ap (bit_or 0) f

pub ored_none : (g : World) (t : State) (f : ℕ → ℕ) (xs : List OperandByte) (n o : ℕ) → Covers g t f xs o → ored g t n xs ≡ 0 → (n ≡ 0) × (number_in f (length xs) o ≡ 0)
ored_none g t f [] n o covers e = (e, refl)
ored_none g t f (x ∷ xs) n o covers e =
    let rest = ored_none g t f xs (bit_or n (byte_in g t x)) (suc o) covers.1 e in
    let both = none_or n (byte_in g t x) rest.0 in
    (both.0, omega (arith, both.1, covers.0.1, rest.1))

pub none_ored : (g : World) (t : State) (f : ℕ → ℕ) (xs : List OperandByte) (n o : ℕ) → Covers g t f xs o → n ≡ 0 → number_in f (length xs) o ≡ 0 → ored g t n xs ≡ 0
none_ored g t f [] n o covers e h = e
none_ored g t f (x ∷ xs) n o covers e h =
    let here : byte_in g t x ≡ 0 = omega (arith, covers.0.1, h) in
    none_ored g t f xs (bit_or n (byte_in g t x)) (suc o) covers.1 (or_none n (byte_in g t x) e here) (omega (arith, h))

-- ---- with other registers

pub byte_same : (g : World) (t : State) (x : OperandByte) (s : Regs) → byte_in g (record t { regs = s }) x ≡ byte_in g t x
byte_same g t (Number n) s = refl
byte_same g t (Low sm at) s = refl
byte_same g t (High sm at) s = refl
byte_same g t (Near at) s = refl
byte_same g t (Data sm at) s = refl
byte_same g t (Zero at) s = refl

pub may_same : (g : World) (t : State) (x : OperandByte) (s : Regs) → MayRead g t x → MayRead g (record t { regs = s }) x
may_same g t (Number n) s h = h
may_same g t (Low sm at) s h = h
may_same g t (High sm at) s h = h
may_same g t (Near at) s h = h
may_same g t (Data sm at) s h = h
may_same g t (Zero at) s h = h

-- ---- lines

-- only registers are others: A is n, and Z tells whether it is 0
pub record IsOred (t : State) (n : ℕ) (u : State) : Type 0 where
  pub only : u ≡ record t { regs = u.regs }
  pub a : u.regs.a ≡ n
  pub z : u.regs.z ≡ (n == 0)
  pub bytes : IsBytes u

module _ (g : World) (a : Active) (pushed needs : ℕ) (c : Scene) (w : Placing) (k : Banks) (t : State) (placed : IsPlacement g.code g.place) (r : Ready g a pushed needs c w k t) where
  on : (s : Regs) → IsBytes (record t { regs = s }) → IsOn g (record t { regs = s })
  on s b = is_on g a pushed needs c w k (record t { regs = s }) placed (ready_later g a pushed needs c w k t placed r s t.zp (λ i h. refl) b)

  abbrev twice : List OperandByte → ℕ
  twice xs = 2 * length xs

  or_leads : (f : ℕ → ℕ) (xs : List OperandByte) (n o : ℕ) (s : Regs) → s.a ≡ n → s.z ≡ (n == 0) → IsBytes (record t { regs = s }) → Covers g t f xs o
      → Leads g a (or_code xs) (twice xs) (record t { regs = s }) (IsOred t (ored g t n xs))
  or_leads f [] n o s ea ez b covers = none_leads g a (record t { regs = s }) (IsOred t n) (record { only = refl; a = ea; z = ez; bytes = b })
  or_leads f (x ∷ xs) n o s ea ez b covers =
      let u : State = record t { regs = s } in
      let v : State = with_operand g Disjoins x u in
      let byte : bit_or s.a (byte_in g u x) ≡ bit_or n (byte_in g t x) = ap (λ m. bit_or m (byte_in g u x)) ea ∙ ap (bit_or n) (byte_same g t x s) in
      leads_as g a (op_of Ora x ++ or_code xs) (2 + twice xs) (twice (x ∷ xs)) u (IsOred t (ored g t n (x ∷ xs))) (IsOred t (ored g t n (x ∷ xs))) (omega arith) (λ y h. h)
      (leads_then g a (op_of Ora x) (or_code xs) 2 (twice xs) u (λ y. (y ≡ v) × IsBytes y) (IsOred t (ored g t n (x ∷ xs)))
      (operand_bytes_are_used g a Disjoins x u placed (on s b) (may_same g t x s covers.0.0)) (λ y h.
      subst (λ z. Leads g a (or_code xs) (twice xs) z (IsOred t (ored g t n (x ∷ xs)))) (sym h.0)
      (or_leads f xs (bit_or n (byte_in g t x)) (suc o) v.regs byte (ap (λ m. m == 0) byte) (subst IsBytes h.0 h.1) covers.1)))

  pub zero_leads : (f : ℕ → ℕ) (x : OperandByte) (xs : List OperandByte) → Covers g t f (x ∷ xs) 0
      → Leads g a (all_zero_code (x ∷ xs)) (2 + twice xs) t (IsOred t (ored g t (byte_in g t x) xs))
  zero_leads f x xs covers =
      let v : State = with_operand g Loads x t in
      leads_then g a (op_of Lda x) (or_code xs) 2 (twice xs) t (λ y. (y ≡ v) × IsBytes y) (IsOred t (ored g t (byte_in g t x) xs))
      (operand_bytes_are_used g a Loads x t placed (is_on g a pushed needs c w k t placed r) covers.0.0) (λ y h.
      subst (λ z. Leads g a (or_code xs) (twice xs) z (IsOred t (ored g t (byte_in g t x) xs))) (sym h.0)
      (or_leads f xs (byte_in g t x) 1 v.regs refl refl (subst IsBytes h.0 h.1) covers.1))
