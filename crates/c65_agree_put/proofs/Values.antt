-- What the meaning's store does, and the cells of values.
use Rattle.std.proofs.Common.{◌≡◌, ℕ, zero, suc, ◌+◌, ◌/◌, ◌%◌, ◌<◌, ◌≤◌, Bool, true, false, refl, sym, ap, ◌∙◌, subst, arith}
use Rattle.std.specs.Prelude.{nat_le, if◌then◌else◌, Result, Ok, Err, Option, Some, None}
use Rattle.std.proofs.lemmas.Bool.Decides.{nat_tests}
use Rattle.c65_ints.specs.declared.types.IntType.{IntType}
use Rattle.c65_ints.specs.declared.types.IntType.TheVariants as I
use Rattle.c65_ctype.specs.Sizes.{bytes_of}
use Rattle.c65_meaning.specs.declared.action.Action.TheVariants.{OutsideObject, ReadOnly, EndedObject}
use Rattle.c65_meaning.specs.Why.{Why, By, ◌>>=◌}
use Rattle.c65_meaning.specs.Store.{Cell, Block, Store, Value, Whole, Null, Place, Opaque, Cells, NoValue, Shape, Number, Field, Pointer, Area, size_in, new_cells, set_block, with_value, reached_to_write, writable}
use Rattle.c65_meaning.specs.Fits.{Fits}
use Rattle.c65_code.specs.declared.routine.Width.{Width}
use Rattle.c65_code.specs.declared.routine.Width.TheVariants.{Ax, Eax}
use Rattle.c65_code.specs.LineState.{State, ax_of, eax_of, IsBytes}
use Rattle.c65_code.specs.Rows.{primary_of}
use Rattle.c65_genwide.specs.Wide.{width_of}
use Rattle.c65_agree_store.specs.Stands.{Placing, CellIs}
use Rattle.c65_agree_store.specs.Laws.{byte_of}
use Rattle.c65_agree_state.specs.Exprs.{Valued, ResultIs}
use Rattle.c65_agree_numbers.proofs.Bytes.{numbers_are_laid}
use Rattle.c65_agree_put.specs.Laws.{IsWrite, WritesArePuts, ValuesAreLaid}

-- ---- writes

module _ (first : Bool) (f : Shape) (s : Store) (b o : ℕ) (v : Value) (s2 : Store) where
  abbrev written_in : Result Block Why → Result Store Why
  written_in r = r >>= λ x. Ok (set_block s b (with_value f x o v))

  abbrev sealed_off : Bool → Block → Result Block Why
  sealed_off shut x = if shut then Err (By ReadOnly) else Ok x

  put_in : (x : Block) → s b ≡ Some x → x.live ≡ true → o + size_in f ≤ x.holds → (first ≡ false → x.sealed ≡ false) → written_in (Ok x) ≡ Ok s2 → IsWrite first f s b o v s2
  put_in x is live fits shut e = record { block = x; is = is; live = live; fits = fits; may = shut; store = cc }

  -- whether the block may be written
  allowed : (x : Block) → s b ≡ Some x → x.live ≡ true → o + size_in f ≤ x.holds → (how : Bool) → first ≡ how → written_in (writable how x) ≡ Ok s2 → IsWrite first f s b o v s2
  allowed x is live fits true how e = put_in x is live fits (λ h. let clash : true ≡ false = sym how ∙ h in cc) e
  allowed x is live fits false how e = go x.sealed refl e
    where
      go : (shut : Bool) → x.sealed ≡ shut → written_in (if shut then Err (By ReadOnly) else Ok x) ≡ Ok s2 → IsWrite first f s b o v s2
      go true h e = cc
      go false h e = put_in x is live fits (λ _. h) e

  reached_in : (x : Block) → s b ≡ Some x → (live : Bool) → x.live ≡ live → (fits : Bool) → nat_le (o + size_in f) x.holds ≡ fits
      → written_in ((if live then (if fits then Ok x else Err (By OutsideObject)) else Err (By EndedObject)) >>= writable first) ≡ Ok s2 → IsWrite first f s b o v s2
  reached_in x is true live true fits e = allowed x is live (grind (arith, nat_tests)) first refl e
  reached_in x is true live false fits e = cc
  reached_in x is false live fits _ e = cc

  is_write : (at : Option Block) → s b ≡ at → written_in (reached_to_write first at o (size_in f)) ≡ Ok s2 → IsWrite first f s b o v s2
  is_write None is e = cc
  is_write (Some x) is e = reached_in x is x.live refl (nat_le (o + size_in f) x.holds) refl e

pub writes_are_puts : WritesArePuts
writes_are_puts first f s b o v s2 e = is_write first f s b o v s2 (s b) refl e

-- ---- cells

-- the two lowest bytes of EAX are those of AX
word_byte : (t : State) (i : ℕ) → IsBytes t → i < 2 → byte_of i (eax_of t) ≡ byte_of i (ax_of t)
word_byte t zero b lt = omega (arith, b.a, b.x)
word_byte t (suc zero) b lt = omega (arith, b.a, b.x)
word_byte t (suc (suc i)) b lt = absurd (omega arith)

primary_byte : (width : Width) (t : State) (i : ℕ) → IsBytes t → (width ≡ Ax → i < 2) → byte_of i (eax_of t) ≡ byte_of i (primary_of width t)
primary_byte Ax t i b lt = word_byte t i b (lt refl)
primary_byte Eax t i b lt = refl

few_bytes : (kind : IntType) → width_of kind ≡ Ax → bytes_of kind ≤ 2
few_bytes I.SChar e = omega arith
few_bytes I.UChar e = omega arith
few_bytes I.Short e = omega arith
few_bytes I.UShort e = omega arith
few_bytes I.Int e = omega arith
few_bytes I.UInt e = omega arith
few_bytes I.Long e = cc
few_bytes I.ULong e = cc

-- the two bytes of a pointer
pointer_byte : (w : Placing) (size : ℕ) (v : Value) (t : State) (i : ℕ) → Fits (Pointer size) v → IsBytes t → ResultIs Valued w Ax v t → i < 2 → (cells : ℕ → Cell) (o : ℕ) → CellIs w (new_cells (Pointer size) v cells o i) (byte_of i (ax_of t))
pointer_byte w size Null t zero fits b is lt cells o = rw is refl
pointer_byte w size Null t (suc zero) fits b is lt cells o = rw is refl
pointer_byte w size Null t (suc (suc i)) fits b is lt cells o = absurd (omega arith)
pointer_byte w size (Place c p) t zero fits b is lt cells o = (is.0, is.1, ap (λ n. n % 256) is.2)
pointer_byte w size (Place c p) t (suc zero) fits b is lt cells o =
    let small : ax_of t / 256 % 256 ≡ ax_of t / 256 = omega (arith, b.a, b.x) in
    (is.0, is.1, small ∙ ap (λ n. n / 256) is.2)
pointer_byte w size (Place c p) t (suc (suc i)) fits b is lt cells o = absurd (omega arith)
pointer_byte w size Opaque t i fits b is lt cells o = tt
pointer_byte w size (Whole z) t i fits b is lt cells o = absurd fits
pointer_byte w size (Cells xs) t i fits b is lt cells o = absurd fits
pointer_byte w size NoValue t i fits b is lt cells o = absurd fits

number_byte : (w : Placing) (kind : IntType) (v : Value) (t : State) (i : ℕ) → Fits (Number kind) v → ResultIs Valued w (width_of kind) v t → i < bytes_of kind → (cells : ℕ → Cell) (o : ℕ) → CellIs w (new_cells (Number kind) v cells o i) (byte_of i (primary_of (width_of kind) t))
number_byte w kind (Whole z) t i fits is lt cells o = rw is (numbers_are_laid w kind z i lt)
number_byte w kind Opaque t i fits is lt cells o = tt
number_byte w kind Null t i fits is lt cells o = absurd fits
number_byte w kind (Place c p) t i fits is lt cells o = absurd fits
number_byte w kind (Cells xs) t i fits is lt cells o = absurd fits
number_byte w kind NoValue t i fits is lt cells o = absurd fits

pub values_are_laid : ValuesAreLaid
values_are_laid w (Number kind) v t cells o i scalar b fits is lt =
    subst (λ n. CellIs w (new_cells (Number kind) v cells o i) n) (sym (primary_byte (width_of kind) t i b (λ e. omega (arith, lt, few_bytes kind e)))) (number_byte w kind v t i fits is lt cells o)
values_are_laid w (Pointer size) v t cells o i scalar b fits is lt =
    subst (λ n. CellIs w (new_cells (Pointer size) v cells o i) n) (sym (word_byte t i b lt)) (pointer_byte w size v t i fits b is lt cells o)
values_are_laid w (Field kind low width) v t cells o i scalar b fits is lt = absurd scalar
values_are_laid w (Area size) v t cells o i scalar b fits is lt = absurd scalar
