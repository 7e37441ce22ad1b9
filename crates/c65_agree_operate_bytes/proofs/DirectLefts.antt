-- The left operand is read behind the lines of the right one.
use Rattle.std.proofs.Common.{◌≡◌, ℕ, ◌+◌, ◌<◌, ◌≤◌, max, List, ◌∷◌, ◌++◌, length, Some, None, Bool, true, false, refl, sym, ◌∙◌, subst, arith, length-append}
use Rattle.std.specs.Prelude.{◌==◌, if◌then◌else◌}
use Rattle.c65_base.specs.declared.operators.BinaryOp.{BinaryOp}
use Rattle.c65_ints.specs.declared.types.IntType.{IntType}
use Rattle.c65_csem.specs.Places.{is_promoted}
use Rattle.c65_meaning.specs.Store as values
use Rattle.c65_meaning.specs.Store.{Store, Value, Whole, Null, Opaque, Cells, NoValue, Number}
use Rattle.c65_meaning.specs.Fits.{Fits}
use Rattle.c65_meaning.specs.Items.{Item, Apply2}
use Rattle.c65_meaning.specs.State.{Scene, Running}
use Rattle.c65_code.specs.declared.line.Line.{Line}
use Rattle.c65_code.specs.declared.routine.Width.TheVariants.{Ax}
use Rattle.c65_code.specs.LineState.{State}
use Rattle.c65_code.specs.Numbers.{words_of}
use Rattle.c65_code.specs.Placement.{IsPlacement}
use Rattle.c65_code.specs.Rows.{primary_of}
use Rattle.c65_genwide.specs.Wide.{width_of}
use Rattle.c65_gendirect.specs.declared.bytes.OperandByte.{OperandByte}
use Rattle.c65_gendirect.specs.declared.bytes.OperandByte.TheVariants as bytes
use Rattle.c65_gendirect.specs.declared.direct.Direct.{Direct}
use Rattle.c65_gendirect.specs.declared.direct.Direct.TheVariants as directs
use Rattle.c65_gendirect.specs.Bytes.{number_byte, byte_of as operand_of}
use Rattle.c65_genexpr.specs.declared.operands.Operands.TheVariants.{Numbers}
use Rattle.c65_genexpr.specs.declared.operating.Form.{Form}
use Rattle.c65_genexpr.specs.Direct.{is_fixed}
use Rattle.c65_genexpr.specs.Operating.{word_in, left_form, value_form}
use Rattle.c65_agree_store.specs.Stands.{Placing, ValueIs}
use Rattle.c65_agree_store.specs.Laws.{byte_of}
use Rattle.c65_agree_numbers.specs.Words.{word_of}
use Rattle.c65_agree_state.specs.World.{World, Active, lines_of, place_in, IsPlaced}
use Rattle.c65_agree_state.specs.Exprs.{Ready, Valued, ResultIs, width_in, shape_in}
use Rattle.c65_agree_state.proofs.Followed.{follows_weaken}
use Rattle.c65_agree_state.proofs.Nodes.{has_front, has_back, ready_stays}
use Rattle.c65_agree_put.proofs.Fits.{may_fit}
use Rattle.c65_agree_direct.proofs.Trees.{direct_trees_are_read_on}
use Rattle.c65_agree_direct.specs.Operands.{byte_in, MayRead, IsOfLive, HasBytes}
use Rattle.c65_agree_operate.specs.Manners.{Manner, Where, IsLeft, DoesIn}
use Rattle.c65_agree_operate.specs.Laws.{on_numbers}
use Rattle.c65_agree_operate_bytes.specs.Laws.{IsAside, IsReadBehind, FixedAreReadBehind, TreesAreReadBehind, DirectLeftsDo}
use Rattle.c65_agree_operate_bytes.proofs.Rights.{has_pair}
use Rattle.c65_agree_operate.proofs.Last.{last_follows}
use Rattle.c65_agree_operate_bytes.proofs.Swapped.{narrow_form, read_is_plain, swapped_leads}

-- ---- constants and addresses

-- a byte of one is read alike in each state
pub fixed_byte : (g : World) (t u : State) (d : Direct) (i n : ℕ) (x : OperandByte) → is_fixed (Some d) ≡ true → operand_of d i ≡ Some x → MayRead g t x × (byte_in g t x ≡ n) → MayRead g u x × (byte_in g u x ≡ n)
fixed_byte g t u (directs.Number m) i n x fixed e h =
    let same : bytes.Number (number_byte m i) ≡ x = cc in
    subst (λ y. MayRead g t y × (byte_in g t y ≡ n) → MayRead g u y × (byte_in g u y ≡ n)) same (λ z. z) h
fixed_byte g t u (directs.Address s at) i n x fixed e h = go (i == 0) (i == 1) e h
  where
    go : (zero one : Bool) → (if zero then Some (bytes.Low s at) else (if one then Some (bytes.High s at) else None)) ≡ Some x → MayRead g t x × (byte_in g t x ≡ n) → MayRead g u x × (byte_in g u x ≡ n)
    go true one e h = let same : bytes.Low s at ≡ x = cc in subst (λ y. MayRead g t y × (byte_in g t y ≡ n) → MayRead g u y × (byte_in g u y ≡ n)) same (λ z. z) h
    go false true e h = let same : bytes.High s at ≡ x = cc in subst (λ y. MayRead g t y × (byte_in g t y ≡ n) → MayRead g u y × (byte_in g u y ≡ n)) same (λ z. z) h
    go false false e h = absurd (cc)
fixed_byte g t u (directs.Kept place kind) i n x fixed e h = absurd (cc)

-- a number is the same wherever blocks stand
same_value : (t : IntType) (w w2 : Placing) (s s2 : Store) (v : Value) (words n : ℕ) → Fits (Number t) v → ValueIs w words v n → (IsOfLive s v → n < words) → ValueIs w2 words v n × (IsOfLive s2 v → n < words)
same_value t w w2 s s2 (Whole z) words n fit is few = (is, few)
same_value t w w2 s s2 Opaque words n fit is few = (is, few)
same_value t w w2 s s2 Null words n fit is few = absurd fit
same_value t w w2 s s2 (values.Place b o) words n fit is few = absurd fit
same_value t w w2 s s2 (Cells xs) words n fit is few = absurd fit
same_value t w w2 s s2 NoValue words n fit is few = absurd fit

pub fixed_are_read_behind : FixedAreReadBehind
fixed_are_read_behind g a pushed t work d fixed reads needs n weight k vs c w b p s seen ready turned goes =
    reads needs n weight k vs c w b p s seen ready turned (λ j v lt fit bytes.
    goes j v lt fit (λ more_needs c2 w2 b2 u scene grows ready2.
    let same = same_value t w w2 c.store c2.store v (words_of (width_of t)) bytes.word fit bytes.is bytes.fits in
    record { word = bytes.word; is = same.0; fits = same.1; bytes = λ i x less e. fixed_byte g s u d i (byte_of i bytes.word) x fixed e (bytes.bytes i x less e) }))

-- ---- what is kept

pub trees_are_read_behind : TreesAreReadBehind
trees_are_read_behind g a pushed e d placed frame typed is needs n weight k vs c w b p t seen ready turned goes =
    direct_trees_are_read_on g a pushed e d placed frame typed is needs n weight k vs c w b p t seen ready turned (λ j v lt fit told.
    goes j v lt fit (λ more_needs c2 w2 b2 u same grows ready2.
    subst (λ x. HasBytes g x.store w2 u (width_in (shape_in g a e)) d v) (sym same) (told more_needs w2 b2 u grows (subst (λ x. Ready g a pushed more_needs x w2 b2 u) same ready2))))

-- ---- the operator

-- what holds of a manner holds of one that asks for less
pub less_left : (m : Manner) (pure : Bool) (c c2 : Scene) (t u : State) → (m.pure ≡ true → pure ≡ true) → IsLeft (record m { pure = pure }) c t c2 u → IsLeft m c t c2 u
less_left m pure c c2 t u asked left = record { scene = go m.pure refl pure refl left.scene; held = left.held }
  where
    go : (x : Bool) → m.pure ≡ x → (y : Bool) → pure ≡ y → Where y (c2 ≡ c) → Where x (c2 ≡ c)
    go false e y f h = tt
    go true e true f h = h
    go true e false f h = let clash : false ≡ true = sym f ∙ asked e in absurd (cc)

module _ (g : World) (a : Active) (m : Manner) (pure : Bool) (op : BinaryOp) (t : IntType) (label needs more_needs pushed : ℕ) (d : Direct) (low high : OperandByte) (form : Form) (first second : List Item → List Item) (right : List Line) (placed : IsPlacement g.code g.place) (own : IsPlaced (lines_of g a)) (few : m.over ≤ 1000) (promoted : is_promoted t ≡ true)
    (pair : word_in d ≡ Some (low, high)) (apart : IsAside low) (apart2 : IsAside high) (is : left_form op (Numbers t) low high ≡ Some form) (asked : m.pure ≡ true → pure ≡ true) where
  abbrev own_manner : Manner
  own_manner = record m { pure = pure }

  abbrev end : List Line
  end = value_form form label

  narrow : width_of t ≡ Ax
  narrow = narrow_form op t low high form is

  does : IsReadBehind g a pure pushed (Number t) first d → DoesIn g a own_manner Valued (Number t) second more_needs pushed right → DoesIn g a m Valued (Number t) (on_numbers op t t first second) (max needs (1 + more_needs)) pushed (right ++ end)
  does reads behind n weight p k vs c w b s seen has ready turns rest =
      let ready1 : Ready g a pushed more_needs c w b s = record { joins = ready.joins; sp = ready.sp; room = omega (arith, ready.room); none_pushed = ready.none_pushed } in
      reads more_needs n weight (second (Apply2 op (Number t) (Number t) ∷ k)) vs c w b (place_in g a p) s seen ready1 turns (λ j va lt fit told.
      follows_weaken g j weight (weight + 4000) (Running (second (Apply2 op (Number t) (Number t) ∷ k)) (va ∷ vs) c) (place_in g a p) s seen (omega arith)
      (behind j weight p (Apply2 op (Number t) (Number t) ∷ k) (va ∷ vs) c w b s seen (has_front (lines_of g a) p right end has) ready1 turns (λ i vb c3 w3 b3 s3 seen3 lt3 done3 left3 turned3.
      let ready3 : Ready g a pushed more_needs c3 w3 b3 s3 = ready_stays g a pushed more_needs more_needs c c3 w w3 b b3 s s3 (omega arith) ready1 done3.kept in
      let ends : p + length right + length end ≡ p + length (right ++ end) = omega (arith, length-append right end) in
      last_follows g a m op t t few (read_is_plain op t low high form is) pushed more_needs n weight (p + length (right ++ end)) (p + length right) end ends k vs c w b s rest (has_back (lines_of g a) p right end has) c3 w3 b3 s3 ready3 done3.kept (less_left m pure c c3 s s3 asked left3) va vb (may_fit (Number t) va tt fit) done3.fits
      (λ x y z e f fits1 fits2 calculates.
      let bytes : HasBytes g c3.store w3 s3 (width_of t) d (Whole x) = subst (HasBytes g c3.store w3 s3 (width_of t) d) e (told more_needs c3 w3 b3 s3 left3.scene done3.kept.grows ready3) in
      let result3 : primary_of (width_of t) s3 ≡ word_of t y = subst (λ v. ResultIs Valued w3 (width_of t) v s3) f done3.result in
      swapped_leads g a m op t label pushed more_needs low high form placed own promoted apart apart2 c3 w3 b3 s3 x y z ready3 result3 (has_pair g c3 w3 s3 t d low high x pair narrow bytes) fits1 fits2 calculates is)
      seen3 turned3 (weight + 2600 + m.over) (omega arith) i (omega (arith, lt, lt3)))))

pub direct_lefts_do : DirectLeftsDo
direct_lefts_do g a m pure op t label needs more_needs pushed d low high form first second left right placed own few promoted pair apart apart2 is asked reads behind = does g a m pure op t label needs more_needs pushed d low high form first second right placed own few promoted pair apart apart2 is asked reads behind
