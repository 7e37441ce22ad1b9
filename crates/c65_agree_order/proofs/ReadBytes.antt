-- Bytes that are read where they lie.
use Rattle.std.proofs.Common.{◌≡◌, ◌+◌, ◌%◌, ◌<◌, ◌∷◌, ℤ, pos, negsuc, Some, arith}
use Rattle.c65_ints.specs.declared.types.IntType.TheVariants as I
use Rattle.c65_ints.specs.Ranges.{residue}
use Rattle.c65_meaning.specs.Store as values
use Rattle.c65_meaning.specs.Store.{Store, Value, Whole, Null, Opaque, Cells, NoValue, Number}
use Rattle.c65_meaning.specs.Items.{Change, Push}
use Rattle.c65_meaning.specs.Operators.{converted}
use Rattle.c65_meaning.specs.State.{Running}
use Rattle.c65_meaning.proofs.Fitting.{conversions_fit}
use Rattle.c65_code.specs.declared.routine.Width.{Width}
use Rattle.c65_code.specs.declared.routine.Width.TheVariants.{Ax, Eax}
use Rattle.c65_code.specs.LineState.{State}
use Rattle.c65_code.specs.Numbers.{words_of}
use Rattle.c65_gendirect.specs.declared.bytes.OperandByte.{OperandByte}
use Rattle.c65_gendirect.specs.declared.direct.Direct.{Direct}
use Rattle.c65_gendirect.specs.Bytes.{byte_of as operand_of, number_byte}
use Rattle.c65_genexpr.specs.Operands.{residue_of}
use Rattle.c65_agree_store.specs.Stands.{Placing}
use Rattle.c65_agree_state.specs.World.{World}
use Rattle.c65_agree_state.proofs.Followed.{follows_weaken, steps_earn, ready_is_calm}
use Rattle.c65_agree_put.proofs.Fits.{may_fit}
use Rattle.c65_agree_direct.specs.Operands.{byte_in, MayRead, register_bytes, HasBytes}
use Rattle.c65_agree_order.specs.Bytes.{ByteIs}
use Rattle.c65_agree_order.specs.Laws.{CharsAreRead, ReadsAreConverted, ConstantsAreRead, CharsAreReadBehind, ReadsBehindAreConverted, ConstantsAreReadBehind}
use Rattle.c65_agree_order.proofs.Lows.{char_is_byte, converted_low, converted_byte, step_goes}
use Rattle.c65_agree_order.proofs.RaisedBytes.{own_byte}

-- ---- of a value

some_bytes : (width : Width) → 0 < register_bytes width
some_bytes Ax = omega arith
some_bytes Eax = omega arith

pub low_of_word : (width : Width) (z : ℤ) → residue (words_of width) z % 256 ≡ residue 256 z
low_of_word Ax (pos n) = omega arith
low_of_word Ax (negsuc n) = omega arith
low_of_word Eax (pos n) = omega arith
low_of_word Eax (negsuc n) = omega arith

pub byte_at : (g : World) (s : Store) (w : Placing) (u : State) (width : Width) (d : Direct) (x : OperandByte) (v : Value) → operand_of d 0 ≡ Some x → HasBytes g s w u width d v → MayRead g u x × ByteIs v (byte_in g u x)
byte_at g s w u width d x (Whole z) e h =
    let there = h.bytes 0 x (some_bytes width) e in
    let same : h.word ≡ residue (words_of width) z = h.is in
    let low : byte_in g u x ≡ h.word % 256 = there.1 in
    (there.0, omega (arith, low, same, low_of_word width z))
byte_at g s w u width d x Null e h = ((h.bytes 0 x (some_bytes width) e).0, tt)
byte_at g s w u width d x (values.Place b o) e h = ((h.bytes 0 x (some_bytes width) e).0, tt)
byte_at g s w u width d x Opaque e h = ((h.bytes 0 x (some_bytes width) e).0, tt)
byte_at g s w u width d x (Cells xs) e h = ((h.bytes 0 x (some_bytes width) e).0, tt)
byte_at g s w u width d x NoValue e h = ((h.bytes 0 x (some_bytes width) e).0, tt)

pub chars_are_read : CharsAreRead
chars_are_read g a pushed work d x e reads needs n weight k vs c w b p s seen ready turned goes =
    reads needs n weight k vs c w b p s seen ready turned (λ j v lt fit bytes. goes j v lt fit (char_is_byte v (may_fit (Number I.UChar) v tt fit)) (byte_at g c.store w s Ax d x v e bytes))

pub chars_are_read_behind : CharsAreReadBehind
chars_are_read_behind g a pure pushed work d x e reads needs n weight k vs c w b p s seen ready turned goes =
    reads needs n weight k vs c w b p s seen ready turned (λ j v lt fit told. goes j v lt fit (char_is_byte v (may_fit (Number I.UChar) v tt fit)) (λ more_needs c2 w2 b2 u scene grows ready2. byte_at g c2.store w2 u Ax d x v e (told more_needs c2 w2 b2 u scene grows ready2)))

-- ---- of a converted value

pub reads_are_converted : ReadsAreConverted
reads_are_converted g a pushed r t work x keeps reads needs n weight k vs c w b p s seen ready turned goes =
    reads needs n weight (Change (Number t) ∷ k) vs c w b p s seen ready turned (λ j v lt fit byte there.
    steps_earn g j (weight + 4000) (Change (Number t)) k (v ∷ vs) c p s seen (ready_is_calm g a pushed needs c w b s ready).calm ready.joins.output ready.joins.ended (omega (arith, turned)) (λ o less.
    step_goes g o (weight + 4000 + 4000) p s seen k vs c (converted (Number t) v) (λ y e.
    let fit2 = may_fit (Number r) v tt fit in
    follows_weaken g o (weight + 4000) (weight + 4000 + 4000) (Running k (y ∷ vs) c) p s seen (omega arith)
    (goes o y (omega (arith, lt, less)) (conversions_fit (Number t) v y tt e) (converted_byte r t v y keeps fit2 byte e) (there.0, converted_low r t v y (byte_in g s x) fit2 there.1 e)))))

pub reads_behind_are_converted : ReadsBehindAreConverted
reads_behind_are_converted g a pure pushed r t work x keeps reads needs n weight k vs c w b p s seen ready turned goes =
    reads needs n weight (Change (Number t) ∷ k) vs c w b p s seen ready turned (λ j v lt fit byte told.
    steps_earn g j (weight + 4000) (Change (Number t)) k (v ∷ vs) c p s seen (ready_is_calm g a pushed needs c w b s ready).calm ready.joins.output ready.joins.ended (omega (arith, turned)) (λ o less.
    step_goes g o (weight + 4000 + 4000) p s seen k vs c (converted (Number t) v) (λ y e.
    let fit2 = may_fit (Number r) v tt fit in
    follows_weaken g o (weight + 4000) (weight + 4000 + 4000) (Running k (y ∷ vs) c) p s seen (omega arith)
    (goes o y (omega (arith, lt, less)) (conversions_fit (Number t) v y tt e) (converted_byte r t v y keeps fit2 byte e) (λ more_needs c2 w2 b2 u scene grows ready2.
    let there = told more_needs c2 w2 b2 u scene grows ready2 in
    (there.0, converted_low r t v y (byte_in g u x) fit2 there.1 e))))))

-- ---- constants

number_few : (z : ℤ) → number_byte (residue_of z) 0 < 256
number_few (pos n) = omega arith
number_few (negsuc n) = omega arith

pub constants_are_read : ConstantsAreRead
constants_are_read g a pushed t z range byte needs n weight k vs c w b p s seen ready turned goes =
    steps_earn g n weight (Push (Whole z)) k vs c p s seen (ready_is_calm g a pushed needs c w b s ready).calm ready.joins.output ready.joins.ended (omega (arith, turned)) (λ o less.
    goes o (Whole z) less range byte (number_few z, own_byte z))

pub constants_are_read_behind : ConstantsAreReadBehind
constants_are_read_behind g a pure pushed t z range byte needs n weight k vs c w b p s seen ready turned goes =
    steps_earn g n weight (Push (Whole z)) k vs c p s seen (ready_is_calm g a pushed needs c w b s ready).calm ready.joins.output ready.joins.ended (omega (arith, turned)) (λ o less.
    goes o (Whole z) less range byte (λ more_needs c2 w2 b2 u scene grows ready2. (number_few z, own_byte z)))
