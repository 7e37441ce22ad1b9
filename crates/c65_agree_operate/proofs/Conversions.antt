-- What the lines of a conversion do.
use Rattle.std.proofs.Common.{◌≡◌, ℕ, zero, suc, ◌%◌, ◌<◌, [], ℤ, pos, negsuc, refl, sym, ap, ◌∙◌, subst, arith}
use Rattle.std.specs.Prelude.{Ok}
use Rattle.c65_ints.specs.declared.types.IntType.{IntType}
use Rattle.c65_ints.specs.declared.types.IntType.TheVariants as I
use Rattle.c65_ints.specs.Ranges.{wrap_of, InRange}
use Rattle.c65_meaning.specs.Store as values
use Rattle.c65_meaning.specs.Store.{Value, Whole, Null, Opaque, Cells, NoValue, Shape, Number, Field, Pointer, Area}
use Rattle.c65_meaning.specs.Fits.{IsTarget}
use Rattle.c65_meaning.specs.Items.{Change}
use Rattle.c65_meaning.specs.Operators.{pointer_of, converted}
use Rattle.c65_meaning.proofs.Fitting.{conversions_fit}
use Rattle.c65_code.specs.declared.routine.Width.{Width}
use Rattle.c65_code.specs.declared.routine.Width.TheVariants.{Ax, Eax}
use Rattle.c65_code.specs.LineState.{State, IsBytes}
use Rattle.c65_code.specs.Numbers.{words_of}
use Rattle.c65_code.specs.Rows.{primary_of}
use Rattle.c65_genwide.specs.Wide.{width_of}
use Rattle.c65_genload.specs.Conversions.{convert_code}
use Rattle.c65_agree_store.specs.Stands.{Placing, ValueIs}
use Rattle.c65_agree_numbers.specs.Words.{word_of, converted_word}
use Rattle.c65_agree_numbers.proofs.Ranges.{words_are_converted}
use Rattle.c65_agree_state.specs.Exprs.{Valued, MayFit, ResultIs, width_in}
use Rattle.c65_agree_state.proofs.Yields.{nothing_fits}
use Rattle.c65_agree_put.specs.Laws.{IsScalar}
use Rattle.c65_agree_assign.specs.Places.{kind_in}
use Rattle.c65_agree_frame.proofs.Leads.{none_leads, leads_as}
use Rattle.c65_agree_put.proofs.Fits.{may_fit}
use Rattle.c65_agree_operate.specs.Laws.{ConversionsDo, DiscardsDo}
use Rattle.c65_agree_operate.proofs.Manners.{left_where}
use Rattle.c65_agree_operate.proofs.Behind.{IsGiven, then_does}
use Rattle.c65_agree_operate.proofs.Converted.{kept_itself, IsBrought, convert_leads}

-- a null pointer is 0 in each type
null_word : (t : IntType) → converted_word I.UInt t 0 ≡ word_of t (pos 0)
null_word I.SChar = refl
null_word I.UChar = refl
null_word I.Short = refl
null_word I.UShort = refl
null_word I.Int = refl
null_word I.UInt = refl
null_word I.Long = refl
null_word I.ULong = refl

-- 0 is a null pointer, and what else a number gives may not be used
pointer_word : (t : IntType) (w : Placing) (z : ℤ) → InRange t z → ValueIs w 65536 (pointer_of z) (converted_word t I.UInt (word_of t z))
pointer_word t w (pos zero) r = words_are_converted t I.UInt (pos zero) r
pointer_word t w (pos (suc n)) r = tt
pointer_word t w (negsuc n) r = tt

-- the word of a value that is converted
value_word : (f h : Shape) (w : Placing) (v x : Value) (n : ℕ) → IsScalar f → IsScalar h → MayFit Valued f v → n < words_of (width_in f) → converted h v ≡ Ok x → ValueIs w (words_of (width_in f)) v n → ValueIs w (words_of (width_in h)) x (converted_word (kind_in f) (kind_in h) n)
value_word (Number t) (Number r) w (Whole z) x n sf sh fit small e is =
    let same : Whole (wrap_of r z) ≡ x = cc in
    subst (λ y. ValueIs w (words_of (width_of r)) y (converted_word t r n)) same (ap (converted_word t r) is ∙ words_are_converted t r z fit)
value_word (Number t) (Number r) w Opaque x n sf sh fit small e is = let same : Opaque ≡ x = cc in subst (λ y. ValueIs w (words_of (width_of r)) y (converted_word t r n)) same tt
value_word (Number t) (Pointer size) w (Whole z) x n sf sh fit small e is =
    let same : pointer_of z ≡ x = cc in
    subst (λ y. ValueIs w 65536 y (converted_word t I.UInt n)) same (subst (λ k. ValueIs w 65536 (pointer_of z) (converted_word t I.UInt k)) (sym is) (pointer_word t w z fit))
value_word (Number t) (Pointer size) w Opaque x n sf sh fit small e is = let same : Opaque ≡ x = cc in subst (λ y. ValueIs w 65536 y (converted_word t I.UInt n)) same tt
value_word (Number t) h w Null x n sf sh fit small e is = absurd fit
value_word (Number t) h w (values.Place b o) x n sf sh fit small e is = absurd fit
value_word (Number t) h w (Cells xs) x n sf sh fit small e is = absurd fit
value_word (Number t) (Number r) w NoValue x n sf sh fit small e is = absurd (cc)
value_word (Number t) (Pointer size) w NoValue x n sf sh fit small e is = absurd (cc)
value_word (Pointer size) (Number r) w Null x n sf sh fit small e is =
    let same : Whole (pos 0) ≡ x = cc in
    subst (λ y. ValueIs w (words_of (width_of r)) y (converted_word I.UInt r n)) same (ap (converted_word I.UInt r) is ∙ null_word r)
value_word (Pointer size) (Number r) w (values.Place b o) x n sf sh fit small e is = let same : Opaque ≡ x = cc in subst (λ y. ValueIs w (words_of (width_of r)) y (converted_word I.UInt r n)) same tt
value_word (Pointer size) (Number r) w Opaque x n sf sh fit small e is = let same : Opaque ≡ x = cc in subst (λ y. ValueIs w (words_of (width_of r)) y (converted_word I.UInt r n)) same tt
value_word (Pointer size) (Number r) w NoValue x n sf sh fit small e is = absurd (cc)
value_word (Pointer size) (Pointer other) w Null x n sf sh fit small e is =
    let same : Null ≡ x = cc in
    subst (λ y. ValueIs w 65536 y (converted_word I.UInt I.UInt n)) same (ap (converted_word I.UInt I.UInt) is)
value_word (Pointer size) (Pointer other) w (values.Place b o) x n sf sh fit small e is =
    let same : values.Place b o ≡ x = cc in
    let whole : n % 65536 ≡ n = omega (arith, small) in
    subst (λ y. ValueIs w 65536 y (converted_word I.UInt I.UInt n)) same (is.0, is.1, whole ∙ is.2)
value_word (Pointer size) (Pointer other) w Opaque x n sf sh fit small e is = let same : Opaque ≡ x = cc in subst (λ y. ValueIs w 65536 y (converted_word I.UInt I.UInt n)) same tt
value_word (Pointer size) (Pointer other) w NoValue x n sf sh fit small e is = absurd (cc)
value_word (Pointer size) h w (Whole z) x n sf sh fit small e is = absurd fit
value_word (Pointer size) h w (Cells xs) x n sf sh fit small e is = absurd fit
value_word (Field t low width) h w v x n sf sh fit small e is = absurd sf
value_word (Area size) h w v x n sf sh fit small e is = absurd sf
value_word (Number t) (Field k low width) w v x n sf sh fit small e is = absurd sh
value_word (Number t) (Area size) w v x n sf sh fit small e is = absurd sh
value_word (Pointer s) (Field k low width) w v x n sf sh fit small e is = absurd sh
value_word (Pointer s) (Area size) w v x n sf sh fit small e is = absurd sh

-- ---- in its register

width_same : (f : Shape) → IsScalar f → width_in f ≡ width_of (kind_in f)
width_same (Number t) s = refl
width_same (Pointer size) s = refl
width_same (Field t low width) s = absurd s
width_same (Area size) s = absurd s

as_value : (f : Shape) (w : Placing) (width : Width) (v : Value) (t : State) → IsScalar f → MayFit Valued f v → ResultIs Valued w width v t → ValueIs w (words_of width) v (primary_of width t)
as_value f w width (Whole z) t s fit h = h
as_value f w width Null t s fit h = h
as_value f w width (values.Place b o) t s fit h = h
as_value f w width Opaque t s fit h = h
as_value f w width NoValue t s fit h = h
as_value (Number k) w width (Cells xs) t s fit h = absurd fit
as_value (Pointer size) w width (Cells xs) t s fit h = absurd fit
as_value (Field k low bits) w width (Cells xs) t s fit h = absurd s
as_value (Area size) w width (Cells xs) t s fit h = absurd s

as_result : (f : Shape) (w : Placing) (width : Width) (v : Value) (t : State) → IsScalar f → MayFit Valued f v → ValueIs w (words_of width) v (primary_of width t) → ResultIs Valued w width v t
as_result f w width (Whole z) t s fit h = h
as_result f w width Null t s fit h = h
as_result f w width (values.Place b o) t s fit h = h
as_result f w width Opaque t s fit h = h
as_result f w width NoValue t s fit h = h
as_result (Number k) w width (Cells xs) t s fit h = absurd fit
as_result (Pointer size) w width (Cells xs) t s fit h = absurd fit
as_result (Field k low bits) w width (Cells xs) t s fit h = absurd s
as_result (Area size) w width (Cells xs) t s fit h = absurd s

is_target : (f : Shape) → IsScalar f → IsTarget f
is_target (Number t) s = tt
is_target (Pointer size) s = tt
is_target (Field t low width) s = absurd s
is_target (Area size) s = absurd s

pub primary_below : (width : Width) (t : State) → IsBytes t → primary_of width t < words_of width
primary_below Ax t b = omega (arith, b.a, b.x)
primary_below Eax t b = omega (arith, b.a, b.x, b.zp 2, b.zp 3)

pub conversions_do : ConversionsDo
conversions_do g a m f h needs pushed work lines placed few scalar target light does =
    then_does g a m Valued f h work needs pushed lines (convert_code (kind_in f) (kind_in h)) (Change h) few (λ s v. converted h v) (λ k vs c v. refl)
    (λ s v x fit e. may_fit h x target (conversions_fit h v x (is_target h target) e))
    (λ c w b u v x ready result fit e.
    let n : ℕ = primary_of (width_of (kind_in f)) u in
    let fits : MayFit Valued h x = may_fit h x target (conversions_fit h v x (is_target h target) e) in
    let same : width_of (kind_in f) ≡ width_in f = sym (width_same f scalar) in
    let small : n < words_of (width_in f) = subst (λ width. n < words_of width) same (primary_below (width_of (kind_in f)) u ready.joins.bytes) in
    let before : ValueIs w (words_of (width_in f)) v n = subst (λ width. ValueIs w (words_of (width_in f)) v (primary_of width u)) (sym same) (as_value f w (width_in f) v u scalar fit result) in
    let word : ValueIs w (words_of (width_in h)) x (converted_word (kind_in f) (kind_in h) n) = value_word f h w v x n scalar target fit small e before in
    leads_as g a (convert_code (kind_in f) (kind_in h)) 256 2560 u (IsBrought g a c w b u (primary_of (width_of (kind_in h))) (converted_word (kind_in f) (kind_in h) n) m.light) (IsGiven g a m h c w b u x) (omega arith)
    (λ y i. record {
      kept = i.kept;
      result = as_result h w (width_in h) x y target fits (subst (λ width. ValueIs w (words_of (width_in h)) x (primary_of width y)) (sym (width_same h target)) (subst (ValueIs w (words_of (width_in h)) x) (sym i.word) word));
      left = left_where m c u y i.held;
    })
    (convert_leads g a pushed needs c w b u placed ready (kind_in f) (kind_in h) n m.light refl light)) does

pub discards_do : DiscardsDo
discards_do g a m yield f size needs pushed work lines few does =
    then_does g a m yield f (Area size) work needs pushed lines [] (Change (Area size)) few (λ s v. converted (Area size) v) (λ k vs c v. refl)
    (λ s v x fit e. let same : NoValue ≡ x = cc in subst (MayFit Valued (Area size)) same (nothing_fits size))
    (λ c w b u v x ready result fit e.
    let same : NoValue ≡ x = cc in
    leads_as g a [] 0 2560 u (IsGiven g a m (Area size) c w b u x) (IsGiven g a m (Area size) c w b u x) (omega arith) (λ y i. i)
    (none_leads g a u (IsGiven g a m (Area size) c w b u x) (record { kept = kept_itself g a pushed needs c w b u ready; result = subst (λ y. ResultIs Valued w Ax y u) same tt; left = left_where m c u u (λ i. record { low = refl; high = refl }) }))) does
