-- Low bytes of values.
use Rattle.std.proofs.Common.{◌≡◌, ℕ, ◌+◌, ◌-◌, ◌%◌, ◌<◌, List, ◌∷◌, length, ℤ, pos, negsuc, Bool, true, false, refl, sym, ap, ◌∙◌, subst, arith}
use Rattle.std.specs.Prelude.{nat_le, if◌then◌else◌, Result, Ok, Err}
use Rattle.std.proofs.lemmas.Int.{ints}
use Rattle.c65_ints.specs.declared.types.IntType.{IntType}
use Rattle.c65_ints.specs.declared.types.IntType.TheVariants as I
use Rattle.c65_ints.specs.Ranges.{InRange, residue, wrap_of}
use Rattle.c65_ctype.specs.Trees.{int}
use Rattle.c65_meaning.specs.Why.{Why}
use Rattle.c65_meaning.specs.Store as values
use Rattle.c65_meaning.specs.Store.{Value, Whole, Null, Opaque, Cells, NoValue, Number}
use Rattle.c65_meaning.specs.Items.{Item, Change}
use Rattle.c65_meaning.specs.Operators.{converted}
use Rattle.c65_meaning.specs.State.{Scene, Running}
use Rattle.c65_meaning.specs.Step.{go_on}
use Rattle.c65_meaning.proofs.Fitting.{conversions_fit}
use Rattle.c65_code.specs.declared.line.Line.{Line}
use Rattle.c65_code.specs.declared.routine.Width.{Width}
use Rattle.c65_code.specs.declared.routine.Width.TheVariants.{Ax, Eax}
use Rattle.c65_code.specs.LineState.{Place as Spot, State, IsBytes}
use Rattle.c65_code.specs.Numbers.{words_of}
use Rattle.c65_code.specs.Rows.{primary_of}
use Rattle.c65_code.specs.Comes.{Seen}
use Rattle.c65_genwide.specs.Wide.{width_of}
use Rattle.c65_genexpr.specs.Direct.{keeps_byte}
use Rattle.c65_agree_store.specs.Stands.{Placing}
use Rattle.c65_agree_numbers.proofs.Tests.{not_less}
use Rattle.c65_agree_state.specs.World.{World, Active, place_in}
use Rattle.c65_agree_state.specs.Follows.{Follows}
use Rattle.c65_agree_state.specs.Exprs.{Ready, Valued, MayFit, ResultIs}
use Rattle.c65_agree_state.proofs.Followed.{follows_weaken, steps_earn, ready_is_calm}
use Rattle.c65_agree_state.proofs.Nodes.{ready_stays}
use Rattle.c65_agree_rows.proofs.Quiet.{nothing_follows}
use Rattle.c65_agree_put.proofs.Fits.{may_fit}
use Rattle.c65_agree_operate.specs.Manners.{Manner}
use Rattle.c65_agree_order.specs.Bytes.{IsByte, ByteIs, Any, LowsIn}
use Rattle.c65_agree_order.specs.Laws.{ValuesAreLow, CharsAreBytes, ConversionsKeepLows, ConversionsKeepBytes}

-- ---- of a value in its register

low_is : (width : Width) (z : ℤ) (u : State) → IsBytes u → primary_of width u ≡ residue (words_of width) z → u.regs.a ≡ residue 256 z
low_is Ax (pos n) u b e = omega (arith, e, b.a)
low_is Ax (negsuc n) u b e = omega (arith, e, b.a)
low_is Eax (pos n) u b e = omega (arith, e, b.a)
low_is Eax (negsuc n) u b e = omega (arith, e, b.a)

low_of : (t : IntType) (w : Placing) (v : Value) (u : State) → IsBytes u → ResultIs Valued w (width_of t) v u → ByteIs v u.regs.a
low_of t w (Whole z) u b h = low_is (width_of t) z u b h
low_of t w Null u b h = tt
low_of t w (values.Place block o) u b h = tt
low_of t w Opaque u b h = tt
low_of t w (Cells xs) u b h = tt
low_of t w NoValue u b h = tt

pub values_are_low : ValuesAreLow
values_are_low g a m t needs pushed work lines does n w p k vs c q b s seen has ready turns rest =
    does n w p k vs c q b s seen has ready turns (λ j v c2 q2 b2 u later lt done left turned.
    rest j v c2 q2 b2 u later lt done.kept done.fits tt (low_of t q2 v u done.kept.joins.bytes done.result) left turned)

pub char_is_byte : (v : Value) → MayFit Valued (Number I.UChar) v → IsByte v
char_is_byte (Whole z) fit = fit
char_is_byte Null fit = tt
char_is_byte (values.Place block o) fit = tt
char_is_byte Opaque fit = tt
char_is_byte (Cells xs) fit = tt
char_is_byte NoValue fit = tt

pub chars_are_bytes : CharsAreBytes
chars_are_bytes g a m needs pushed work lines does n w p k vs c q b s seen has ready turns rest =
    does n w p k vs c q b s seen has ready turns (λ j v c2 q2 b2 u later lt kept fit so low left turned.
    rest j v c2 q2 b2 u later lt kept fit (char_is_byte v fit) low left turned)

-- ---- of a converted number

-- 256 goes into each modulus
chosen_low : (high : Bool) (m r n : ℕ) → (high ≡ true → 255 - (m - 1 - r) % 256 ≡ n) → r % 256 ≡ n → residue 256 (if high then negsuc (m - 1 - r) else pos r) ≡ n
chosen_low true m r n f h = f refl
chosen_low false m r n f h = h

wrap_low : (t : IntType) (z : ℤ) → residue 256 (wrap_of t z) ≡ residue 256 z
wrap_low I.SChar (pos n) = chosen_low (nat_le 128 (n % 256)) 256 (n % 256) (n % 256) (λ e. omega arith) (omega arith)
wrap_low I.SChar (negsuc n) = chosen_low (nat_le 128 (255 - n % 256)) 256 (255 - n % 256) (255 - n % 256) (λ e. omega arith) (omega arith)
wrap_low I.UChar (pos n) = omega arith
wrap_low I.UChar (negsuc n) = omega arith
wrap_low I.Short (pos n) = chosen_low (nat_le 32768 (n % 65536)) 65536 (n % 65536) (n % 256) (λ e. omega arith) (omega arith)
wrap_low I.Short (negsuc n) = chosen_low (nat_le 32768 (65535 - n % 65536)) 65536 (65535 - n % 65536) (255 - n % 256) (λ e. omega arith) (omega arith)
wrap_low I.UShort (pos n) = omega arith
wrap_low I.UShort (negsuc n) = omega arith
wrap_low I.Int (pos n) = chosen_low (nat_le 32768 (n % 65536)) 65536 (n % 65536) (n % 256) (λ e. omega arith) (omega arith)
wrap_low I.Int (negsuc n) = chosen_low (nat_le 32768 (65535 - n % 65536)) 65536 (65535 - n % 65536) (255 - n % 256) (λ e. omega arith) (omega arith)
wrap_low I.UInt (pos n) = omega arith
wrap_low I.UInt (negsuc n) = omega arith
wrap_low I.Long (pos n) = chosen_low (nat_le 2147483648 (n % 4294967296)) 4294967296 (n % 4294967296) (n % 256) (λ e. omega arith) (omega arith)
wrap_low I.Long (negsuc n) = chosen_low (nat_le 2147483648 (4294967295 - n % 4294967296)) 4294967296 (4294967295 - n % 4294967296) (255 - n % 256) (λ e. omega arith) (omega arith)
wrap_low I.ULong (pos n) = omega arith
wrap_low I.ULong (negsuc n) = omega arith

pub converted_low : (r t : IntType) (v x : Value) (n : ℕ) → MayFit Valued (Number r) v → ByteIs v n → converted (Number t) v ≡ Ok x → ByteIs x n
converted_low r t (Whole z) x n fit low e = let same : Whole (wrap_of t z) ≡ x = cc in subst (λ y. ByteIs y n) same (low ∙ sym (wrap_low t z))
converted_low r t Null x n fit low e = absurd fit
converted_low r t (values.Place block o) x n fit low e = absurd fit
converted_low r t Opaque x n fit low e = let same : Opaque ≡ x = cc in subst (λ y. ByteIs y n) same tt
converted_low r t (Cells xs) x n fit low e = absurd fit
converted_low r t NoValue x n fit low e = absurd (cc)

-- a byte stays in the range of each type but that of a signed char
kept_by : (high : Bool) (m r n : ℕ) → high ≡ false → r ≡ n → (if high then negsuc (m - 1 - r) else pos r) ≡ pos n
kept_by true m r n e h = absurd (cc)
kept_by false m r n e h = ap pos h

small_stays : (t r : IntType) (n : ℕ) → keeps_byte (int t) (int r) ≡ true → n < 256 → wrap_of t (pos n) ≡ pos n
small_stays I.SChar r n h f = absurd (cc)
small_stays I.UChar r n h f = let e : n % 256 ≡ n = omega (arith, f) in ap pos e
small_stays I.Short r n h f = kept_by (nat_le 32768 (n % 65536)) 65536 (n % 65536) n (not_less 32767 (n % 65536) (omega (arith, f))) (omega (arith, f))
small_stays I.UShort r n h f = let e : n % 65536 ≡ n = omega (arith, f) in ap pos e
small_stays I.Int r n h f = kept_by (nat_le 32768 (n % 65536)) 65536 (n % 65536) n (not_less 32767 (n % 65536) (omega (arith, f))) (omega (arith, f))
small_stays I.UInt r n h f = let e : n % 65536 ≡ n = omega (arith, f) in ap pos e
small_stays I.Long r n h f = kept_by (nat_le 2147483648 (n % 4294967296)) 4294967296 (n % 4294967296) n (not_less 2147483647 (n % 4294967296) (omega (arith, f))) (omega (arith, f))
small_stays I.ULong r n h f = let e : n % 4294967296 ≡ n = omega (arith, f) in ap pos e

byte_stays : (t r : IntType) (z : ℤ) → keeps_byte (int t) (int r) ≡ true → InRange I.UChar z → wrap_of t z ≡ z
byte_stays t r (pos n) h range = small_stays t r n h (omega (arith, ints, range.high))
byte_stays t r (negsuc n) h range = absurd (omega (arith, ints, range.low))

pub converted_byte : (r t : IntType) (v x : Value) → keeps_byte (int t) (int r) ≡ true → MayFit Valued (Number r) v → IsByte v → converted (Number t) v ≡ Ok x → IsByte x
converted_byte r t (Whole z) x h fit byte e = let same : Whole (wrap_of t z) ≡ x = cc in subst IsByte same (subst (InRange I.UChar) (sym (byte_stays t r z h byte)) byte)
converted_byte r t Null x h fit byte e = absurd fit
converted_byte r t (values.Place block o) x h fit byte e = absurd fit
converted_byte r t Opaque x h fit byte e = let same : Opaque ≡ x = cc in subst IsByte same tt
converted_byte r t (Cells xs) x h fit byte e = absurd fit
converted_byte r t NoValue x h fit byte e = absurd (cc)

pub step_goes : (g : World) (o more : ℕ) (at : Spot) (u : State) (later : Seen) (k : List Item) (vs : List Value) (c : Scene) (x : Result Value Why) → ((y : Value) → x ≡ Ok y → Follows g o more (Running k (y ∷ vs) c) at u later) → Follows g o more (go_on x k vs c) at u later
step_goes g o more at u later k vs c (Err why) f = nothing_follows g why o more at u later
step_goes g o more at u later k vs c (Ok y) f = f y refl

module _ (g : World) (a : Active) (m : Manner) (r t : IntType) (needs pushed : ℕ) (work : List Item → List Item) (lines : List Line) (IsSo IsNext : Value → Type 0)
    (stays : (v x : Value) → MayFit Valued (Number r) v → IsSo v → converted (Number t) v ≡ Ok x → IsNext x) where
  converted_in : LowsIn g a m IsSo r work needs pushed lines → LowsIn g a m IsNext t (λ k. work (Change (Number t) ∷ k)) needs pushed lines
  converted_in does n w p k vs c q b s seen has ready turns rest =
      does n w p (Change (Number t) ∷ k) vs c q b s seen has ready turns (λ j v c2 q2 b2 u later lt kept fit so low left turned.
      let ready2 : Ready g a pushed needs c2 q2 b2 u = ready_stays g a pushed needs needs c c2 q q2 b b2 s u (omega arith) ready kept in
      steps_earn g j (w + 2600 + m.over) (Change (Number t)) k (v ∷ vs) c2 (place_in g a (p + length lines)) u later (ready_is_calm g a pushed needs c2 q2 b2 u ready2).calm ready2.joins.output ready2.joins.ended (omega (arith, turned)) (λ o less.
      step_goes g o (w + 2600 + m.over + 4000) (place_in g a (p + length lines)) u later k vs c2 (converted (Number t) v) (λ x e.
      follows_weaken g o (w + 2600 + m.over) (w + 2600 + m.over + 4000) (Running k (x ∷ vs) c2) (place_in g a (p + length lines)) u later (omega arith)
      (rest o x c2 q2 b2 u later (omega (arith, lt, less)) kept (may_fit (Number t) x tt (conversions_fit (Number t) v x tt e)) (stays v x fit so e) (converted_low r t v x u.regs.a fit low e) left turned))))

pub conversions_keep_lows : ConversionsKeepLows
conversions_keep_lows g a m r t needs pushed work lines does = converted_in g a m r t needs pushed work lines Any Any (λ v x fit so e. tt) does

pub conversions_keep_bytes : ConversionsKeepBytes
conversions_keep_bytes g a m r t needs pushed work lines keeps does = converted_in g a m r t needs pushed work lines IsByte IsByte (λ v x fit so e. converted_byte r t v x keeps fit so e) does
