-- Comparisons of a byte with a number that is taken one greater.
use Rattle.std.proofs.Common.{◌≡◌, ℕ, ◌+◌, ◌%◌, ◌<◌, ◌≤◌, ◌⊎◌, inl, inr, List, [], ◌∷◌, ◌++◌, ℤ, pos, negsuc, Bool, true, false, Some, refl, sym, ap, ◌∙◌, subst, arith}
use Rattle.std.specs.Prelude.{◌==◌, Ok, max}
use Rattle.std.specs.Bool.{beq}
use Rattle.std.proofs.lemmas.Int.{ints}
use Rattle.std.proofs.lemmas.Bool.{cases_lt}
use Rattle.c65_base.specs.declared.operators.BinaryOp.{BinaryOp}
use Rattle.c65_ints.specs.declared.types.IntType.{IntType}
use Rattle.c65_ints.specs.declared.types.IntType.TheVariants.{UChar}
use Rattle.c65_ints.specs.Ranges.{greatest_of, InRange, residue}
use Rattle.c65_meaning.specs.Integers.{truth}
use Rattle.c65_meaning.specs.Store.{Value, Whole}
use Rattle.c65_meaning.specs.Operators.{calculated}
use Rattle.c65_meaning.specs.State.{Scene}
use Rattle.c65_code.specs.declared.line.Line.{Line}
use Rattle.c65_code.specs.declared.line.Line.TheVariants.{Label}
use Rattle.c65_code.specs.declared.routine.Width.TheVariants.{Ax}
use Rattle.c65_code.specs.LineState.{State}
use Rattle.c65_code.specs.Placement.{IsPlacement}
use Rattle.c65_gendirect.specs.declared.bytes.OperandByte.TheVariants as operands
use Rattle.c65_gendirect.specs.declared.direct.Direct.TheVariants as directs
use Rattle.c65_gendirect.specs.declared.relation.Relation.{Relation}
use Rattle.c65_gendirect.specs.Bytes.{number_byte}
use Rattle.c65_gendirect.specs.Compare.{relation_of, mirrored, compare_byte_code}
use Rattle.c65_genexpr.specs.Operands.{residue_of}
use Rattle.c65_genexpr.specs.Comparing.{relation_by, is_raised, raised, low_code}
use Rattle.c65_agree_store.specs.Stands.{Placing, Banks}
use Rattle.c65_agree_numbers.proofs.Tests.{equal}
use Rattle.c65_agree_state.specs.World.{World, Active}
use Rattle.c65_agree_state.specs.Exprs.{Ready}
use Rattle.c65_agree_load.proofs.Kept.{is_on}
use Rattle.c65_agree_direct.specs.Operands.{MayRead}
use Rattle.c65_agree_operate.specs.Laws.{on_numbers}
use Rattle.c65_agree_compare.specs.Branches.{SettlesIn}
use Rattle.c65_agree_compare.proofs.Ways.{LeadsBy, label_by}
use Rattle.c65_agree_compare.proofs.Equal.{OnlyRegs}
use Rattle.c65_agree_order.specs.Bytes.{IsByte, ByteIs}
use Rattle.c65_agree_order.specs.Laws.{RaisedBytesSettle, RaisedBytesBehindSettle}
use Rattle.c65_agree_order.proofs.Tells.{tells, mirrored_tells}
use Rattle.c65_agree_order.proofs.Leading.{by_weaker, byte_leads}
use Rattle.c65_agree_order.proofs.Raised.{no_last, next, next_tells}
use Rattle.c65_agree_order.proofs.Bytes.{asked, front_settles, back_settles, whole_is}

last_number : (z : ℤ) → InRange UChar z → 255 ≤ residue 256 z → residue_of z ≡ residue_of (greatest_of UChar)
last_number (pos n) r h = omega (arith, ints, r.high, h)
last_number (negsuc n) r h = absurd (omega (arith, ints, r.low))

-- there is a next byte
is_few : (x : Relation) (z : ℤ) → InRange UChar z → is_raised x UChar (directs.Number (residue_of z)) ≡ true → residue 256 z < 255
is_few x z range e = go (cases_lt (residue 256 z) 255)
  where
    go : (residue 256 z < 255) ⊎ (255 ≤ residue 256 z) → residue 256 z < 255
    go (inl h) = h
    go (inr h) =
        let yes : (residue_of z == residue_of (greatest_of UChar)) ≡ true = equal (residue_of z) (residue_of (greatest_of UChar)) (last_number z range h) in
        let clash : true ≡ false = sym yes ∙ no_last x UChar (residue_of z) e in absurd (cc)

abbrev next_byte : ℤ → ℕ
next_byte z = number_byte ((residue_of z + 1) % 4294967296) 0

next_is : (z : ℤ) → residue 256 z < 255 → InRange UChar z → next_byte z ≡ next Ax (residue 256 z)
next_is (pos n) h r = omega (arith, ints, r.high, h)
next_is (negsuc n) h r = absurd (omega (arith, ints, r.low))

pub own_byte : (z : ℤ) → number_byte (residue_of z) 0 ≡ residue 256 z
own_byte (pos n) = omega arith
own_byte (negsuc n) = omega arith

module _ (g : World) (a : Active) (op : BinaryOp) (r : Relation) (t : IntType) (z : ℤ) (s : Bool) (to own pushed needs : ℕ) (placed : IsPlacement g.code g.place) (by_op : relation_of op ≡ Some r) (range : InRange UChar z) where
  abbrev tail : Relation → List Line
  tail x = compare_byte_code (raised x) (operands.Number (next_byte z)) to ++ Label own ∷ []

  -- the lines, where A is one byte and the other number is z
  leads : (x : Relation) → is_raised x UChar (directs.Number (residue_of z)) ≡ true → (c : Scene) (w : Placing) (b : Banks) (u : State) (m : ℤ) (y : Bool) → Ready g a pushed needs c w b u → u.regs.a ≡ residue 256 m → tells x false Ax (residue 256 m) (residue 256 z) ≡ y → LeadsBy g a (tail x) 60 to y u (OnlyRegs u)
  leads x up c w b u m y ready e h =
      let few : residue 256 z < 255 = is_few x z range up in
      let is : next_byte z ≡ next Ax (residue 256 z) = next_is z few range in
      let small : next_byte z < 256 = omega (arith, is, few) in
      label_by g a (compare_byte_code (raised x) (operands.Number (next_byte z)) to) own 60 to y u (OnlyRegs u)
      (by_weaker g a (compare_byte_code (raised x) (operands.Number (next_byte z)) to) 5 60 to y y u (OnlyRegs u) (omega arith) refl
      (byte_leads g a u placed (is_on g a pushed needs c w b u placed ready) to (operands.Number (next_byte z)) small small (raised x) y
      (ap (λ i. tells (raised x) false Ax i (next_byte z)) e ∙ ap (tells (raised x) false Ax (residue 256 m)) is
      ∙ next_tells x false Ax UChar (residue_of z) (residue 256 m) (residue 256 z) up (omega (arith, few)) (omega (arith, few)) ∙ h)))

  -- what is read as the number has its low byte
  same : (v : Value) (q : ℤ) → v ≡ Whole q → ByteIs v (number_byte (residue_of z) 0) → residue 256 q ≡ residue 256 z
  same v q e h = let there : number_byte (residue_of z) 0 ≡ residue 256 q = subst (λ x. ByteIs x (number_byte (residue_of z) 0)) e h in sym there ∙ own_byte z

  module _ (va vb : Value) (c : Scene) (w : Placing) (b : Banks) (u : State) (ready : Ready g a pushed needs c w b u) (byte : IsByte va) (byte2 : IsByte vb) (may : MayRead g u (operands.Number (number_byte (residue_of z) 0))) (p q : ℤ) (y : Bool) (e : va ≡ Whole p) (f : vb ≡ Whole q) (fits1 : InRange t p) (fits2 : InRange t q) (gives : calculated op t p q ≡ Ok (Whole (truth y))) where
    is_asked : tells (relation_by s r) false Ax (residue 256 p) (residue 256 q) ≡ beq y s
    is_asked = asked g a op r t s to own pushed needs placed by_op va vb c w b u (operands.Number (number_byte (residue_of z) 0)) ready byte byte2 may p q y e f fits1 fits2 gives

    pub raised_forth : is_raised (relation_by s r) UChar (directs.Number (residue_of z)) ≡ true → ByteIs va u.regs.a → ByteIs vb (number_byte (residue_of z) 0) → LeadsBy g a (tail (relation_by s r)) 60 to (beq y s) u (OnlyRegs u)
    raised_forth up here there =
        leads (relation_by s r) up c w b u p (beq y s) ready (subst (λ v. ByteIs v u.regs.a) e here)
        (ap (tells (relation_by s r) false Ax (residue 256 p)) (sym (same vb q f there)) ∙ is_asked)

    pub raised_back : is_raised (mirrored (relation_by s r)) UChar (directs.Number (residue_of z)) ≡ true → ByteIs vb u.regs.a → ByteIs va (number_byte (residue_of z) 0) → LeadsBy g a (tail (mirrored (relation_by s r))) 60 to (beq y s) u (OnlyRegs u)
    raised_back up here there =
        leads (mirrored (relation_by s r)) up c w b u q (beq y s) ready (subst (λ v. ByteIs v u.regs.a) f here)
        (ap (tells (mirrored (relation_by s r)) false Ax (residue 256 q)) (sym (same va p e there)) ∙ mirrored_tells (relation_by s r) false Ax (residue 256 p) (residue 256 q) ∙ is_asked)

pub raised_bytes_settle : RaisedBytesSettle
raised_bytes_settle g a m op r t z low s to own needs more_needs pushed first second left right placed by_op range up before reads =
    subst (λ ls. SettlesIn g a m s to (on_numbers op t t first second) (max needs (1 + more_needs)) pushed ls) (whole_is (low_code low left) (raised (relation_by s r)) (operands.Number (next_byte z)) to own)
    (front_settles g a m op r t s to needs more_needs pushed first second (low_code low left) (compare_byte_code (raised (relation_by s r)) (operands.Number (next_byte z)) to ++ Label own ∷ []) (operands.Number (number_byte (residue_of z) 0)) placed by_op
    (λ c w b u va vb ready byte byte2 here there p q y e f one two gives. raised_forth g a op r t z s to own pushed more_needs placed by_op range va vb c w b u ready byte byte2 there.0 p q y e f one two gives up here there.1) before reads)

pub raised_bytes_behind_settle : RaisedBytesBehindSettle
raised_bytes_behind_settle g a m pure op r t z low s to own needs more_needs pushed first second left right placed by_op range up wanted reads behind =
    subst (λ ls. SettlesIn g a m s to (on_numbers op t t first second) (max needs (1 + more_needs)) pushed ls) (whole_is (low_code low right) (raised (mirrored (relation_by s r))) (operands.Number (next_byte z)) to own)
    (back_settles g a m pure op r t s to needs more_needs pushed first second (low_code low right) (compare_byte_code (raised (mirrored (relation_by s r))) (operands.Number (next_byte z)) to ++ Label own ∷ []) (operands.Number (number_byte (residue_of z) 0)) placed by_op wanted
    (λ c w b u va vb ready byte byte2 here there p q y e f one two gives. raised_back g a op r t z s to own pushed more_needs placed by_op range va vb c w b u ready byte byte2 there.0 p q y e f one two gives up here there.1) reads behind)
