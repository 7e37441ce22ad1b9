-- Sums of a whole array and an index (C90 6.3.2.1, 6.3.6).
use Rattle.std.proofs.Common.{◌≡◌, ℕ, suc, ◌+◌, ◌*◌, ◌/◌, ◌%◌, ◌<◌, ◌≤◌, ◌⊎◌, inl, inr, max, List, ◌∷◌, Option, Some, None, Bool, true, false, ℤ, pos, negsuc, ◌+ℤ◌, ◌*ℤ◌, refl, sym, ap, ◌∙◌, subst, arith}
use Rattle.std.specs.Prelude.{if◌then◌else◌, Ok, length}
use Rattle.std.proofs.lemmas.Bool.{cases_lt}
use Rattle.c65_base.specs.declared.operators.BinaryOp.{BinaryOp}
use Rattle.c65_base.specs.declared.operators.BinaryOp.TheVariants as ops
use Rattle.c65_ints.specs.declared.types.IntType.{IntType}
use Rattle.c65_ints.specs.Ranges.{residue}
use Rattle.c65_ctype.specs.Trees.{QTy, pointer, type_in}
use Rattle.c65_ctype.specs.Trees as types
use Rattle.c65_ctype.specs.Sizes.{size_of}
use Rattle.c65_ctype.specs.Views.{types_of}
use Rattle.c65_csem.specs.declared.items.Parts.{Parts}
use Rattle.c65_csem.specs.Trees.{Typed, node, constant, null, literal, object, func, deref, member, load, address, decay, convert, unary, binary, both, either, choice, comma, assign, assign_op, assign_step, step, copy, call, pack, spill, rest as further, type_of, UnitTy}
use Rattle.c65_csem.specs.Typed.{IsTyped, Operands as AreOperands, AreAdded, numbers, pointer_first, pointer_last}
use Rattle.c65_csem_need.specs.Needs.{need}
use Rattle.c65_meaning.specs.Store as values
use Rattle.c65_meaning.specs.Store.{Value, Shape, Number, Pointer, block_size}
use Rattle.c65_meaning.specs.Operators as operators
use Rattle.c65_meaning.specs.Items.{Item, Keep, Follow, Apply2, plan}
use Rattle.c65_meaning.specs.Shapes.{shape_of}
use Rattle.c65_meaning.specs.State.{Scene, Running}
use Rattle.c65_code.specs.declared.line.Line.{Line}
use Rattle.c65_code.specs.declared.line.Line.TheVariants.{Label}
use Rattle.c65_code.specs.declared.line.Sym.{Sym}
use Rattle.c65_code.specs.LineState.{State}
use Rattle.c65_code.specs.Comes.{Seen}
use Rattle.c65_genframe.specs.Frames.{Framed, type_bytes}
use Rattle.c65_genexpr.specs.declared.elements.Element.{Element}
use Rattle.c65_genexpr.specs.declared.operands.Operands.{Operands}
use Rattle.c65_genexpr.specs.declared.operands.Operands.TheVariants.{Numbers, PointerFirst, PointerLast, Pointers}
use Rattle.c65_genexpr.specs.Types.{bare}
use Rattle.c65_genexpr.specs.Operands.{operands_of, constant_in}
use Rattle.c65_genexpr.specs.Elements.{is_small, whole_symbol, array_of, behind, sum_by}
use Rattle.c65_genexpr.specs.Code.{low_value_code}
use Rattle.c65_agree_store.specs.Stands.{At, Placing, Banks}
use Rattle.c65_agree_store.proofs.Moved.{IsMoved}
use Rattle.c65_agree_step.proofs.Ways.{labels_are_passed}
use Rattle.c65_agree_state.specs.World.{World, unit_in, setting_in, Active, lines_of, place_in, HasAt, HasTurns}
use Rattle.c65_agree_state.specs.Follows.{Follows}
use Rattle.c65_agree_state.specs.Exprs.{Ready, Kept, shape_in}
use Rattle.c65_agree_state.proofs.Followed.{follows_weaken, steps_earn, ready_is_calm}
use Rattle.c65_agree_state.proofs.Nodes.{ready_stays}
use Rattle.c65_agree_state.proofs.Parts.{size_by}
use Rattle.c65_agree_order.proofs.Lows.{step_goes}
use Rattle.c65_agree_operate.specs.Manners.{Manner, IsLeft}
use Rattle.c65_agree_operate_bytes.proofs.Words.{word_on}
use Rattle.c65_agree_order.specs.Bytes.{ByteIs}
use Rattle.c65_agree_pointers.specs.Sums.{told}
use Rattle.c65_agree_pointers.proofs.Lines.{elements_are_told}
use Rattle.c65_agree_pointers.proofs.Elements.{told_below}
use Rattle.c65_agree_pointers.proofs.Moved.{IsSummed, pointer_summed, moved_word}
use Rattle.c65_agree_structures.proofs.Pointers.{follows_target}
use Rattle.c65_agree_access.specs.Elements.{IsIndexed, IsElement, HasOwnSize, IsOwnArray, LowDoes, TellsElement}
use Rattle.c65_agree_access.specs.ElementLaws.{SumsAreElements}
use Rattle.c65_agree_access.proofs.Arrays.{IsArray, whole_follows}

-- ---- the generator's element

record IsSum (op : BinaryOp) (operands : Operands) (o : Option Sym) (x : Element) : Type 0 where
  add : op ≡ ops.Add
  size : ℕ
  first : operands ≡ PointerFirst size
  symbol : Sym
  there : o ≡ Some symbol
  is : x ≡ behind size symbol

added : (operands : Operands) (z : Option ℤ) (o : Option Sym) (x : Element) → sum_by ops.Add operands z o ≡ Some x → IsSum ops.Add operands o x
added (PointerFirst size) None (Some s) x e = let same : behind size s ≡ x = cc in record { add = refl; size = size; first = refl; symbol = s; there = refl; is = sym same }
added (PointerFirst size) None None x e = absurd cc
added (PointerFirst size) (Some z) o x e = absurd cc
added (Numbers kind) z o x e = absurd cc
added (PointerLast size) z o x e = absurd cc
added (Pointers size) z o x e = absurd cc

is_sum : (op : BinaryOp) (operands : Operands) (z : Option ℤ) (o : Option Sym) (x : Element) → sum_by op operands z o ≡ Some x → IsSum op operands o x
is_sum ops.Add operands z o x e = added operands z o x e
is_sum ops.Mul operands z o x e = absurd cc
is_sum ops.Div operands z o x e = absurd cc
is_sum ops.Rem operands z o x e = absurd cc
is_sum ops.Sub operands z o x e = absurd cc
is_sum ops.Shl operands z o x e = absurd cc
is_sum ops.Shr operands z o x e = absurd cc
is_sum ops.Lt operands z o x e = absurd cc
is_sum ops.Gt operands z o x e = absurd cc
is_sum ops.Le operands z o x e = absurd cc
is_sum ops.Ge operands z o x e = absurd cc
is_sum ops.Eq operands z o x e = absurd cc
is_sum ops.Ne operands z o x e = absurd cc
is_sum ops.BitAnd operands z o x e = absurd cc
is_sum ops.BitXor operands z o x e = absurd cc
is_sum ops.BitOr operands z o x e = absurd cc

record IsWholeArray (f : Framed) (x : Typed) (s : Sym) : Type 0 where
  ty : QTy
  inner : Typed
  is : x ≡ node ty (decay inner)
  small : is_small (type_bytes f (bare inner)) ≡ true
  whole : whole_symbol f inner ≡ Some s

is_whole_array : (f : Framed) (x : Typed) (s : Sym) → array_of f x ≡ Some s → IsWholeArray f x s
is_whole_array f (node t (decay e)) s h = go (is_small (type_bytes f (bare e))) refl h
  where
    go : (b : Bool) → is_small (type_bytes f (bare e)) ≡ b → (if b then whole_symbol f e else None) ≡ Some s → IsWholeArray f (node t (decay e)) s
    go true small whole = record { ty = t; inner = e; is = refl; small = small; whole = whole }
    go false small whole = absurd cc
is_whole_array f (node t (constant z)) s h = absurd cc
is_whole_array f (node t null) s h = absurd cc
is_whole_array f (node t (literal n)) s h = absurd cc
is_whole_array f (node t (object i)) s h = absurd cc
is_whole_array f (node t (func i)) s h = absurd cc
is_whole_array f (node t (deref e)) s h = absurd cc
is_whole_array f (node t (member e m)) s h = absurd cc
is_whole_array f (node t (load e)) s h = absurd cc
is_whole_array f (node t (address e)) s h = absurd cc
is_whole_array f (node t (convert e)) s h = absurd cc
is_whole_array f (node t (unary op e)) s h = absurd cc
is_whole_array f (node t (binary op x y)) s h = absurd cc
is_whole_array f (node t (both x y)) s h = absurd cc
is_whole_array f (node t (either x y)) s h = absurd cc
is_whole_array f (node t (choice x y z)) s h = absurd cc
is_whole_array f (node t (comma x y)) s h = absurd cc
is_whole_array f (node t (assign x y)) s h = absurd cc
is_whole_array f (node t (assign_op op l x y)) s h = absurd cc
is_whole_array f (node t (assign_step op x y)) s h = absurd cc
is_whole_array f (node t (step how x)) s h = absurd cc
is_whole_array f (node t (copy x y)) s h = absurd cc
is_whole_array f (node t (call x es)) s h = absurd cc
is_whole_array f (node t (pack x)) s h = absurd cc
is_whole_array f (node t (spill i x)) s h = absurd cc
is_whole_array f (node t further) s h = absurd cc

-- the operands are a pointer and a number
module _ (g : World) (a : Active) (parts : a.frame.parts ≡ g.parts) where
  by_types : (s t v : QTy) (size : ℕ) → AreAdded (unit_in g) s t v → operands_of a.frame (type_in t) (type_in v) ≡ PointerFirst size
      → (bytes : ℕ) × (kind : IntType) × (shape_of (unit_in g).types (type_in t) ≡ Pointer bytes) × (shape_of (unit_in g).types (type_in v) ≡ Number kind) × (size ≡ told bytes)
  by_types s t v size (numbers alike) first =
      let numbers_is : operands_of a.frame (type_in t) (type_in v) ≡ Numbers alike.kind = ap (λ z. operands_of a.frame (type_in z) (type_in v)) alike.left ∙ ap (λ z. operands_of a.frame (types.int alike.kind) (type_in z)) alike.right in
      let clash : Numbers alike.kind ≡ PointerFirst size = sym numbers_is ∙ first in
      absurd cc
  by_types s t v size (pointer_first moved number same) first =
      let q : QTy = moved.0.0 in
      let left : type_in t ≡ pointer q = ap type_in moved.0.1 in
      let right : type_in v ≡ types.int number.0 = ap type_in number.1 in
      let operands : operands_of a.frame (type_in t) (type_in v) ≡ PointerFirst (type_bytes a.frame (type_in q)) = ap (λ z. operands_of a.frame z (type_in v)) left ∙ ap (operands_of a.frame (pointer q)) right in
      let both : PointerFirst (type_bytes a.frame (type_in q)) ≡ PointerFirst size = sym operands ∙ first in
      let one : type_bytes a.frame (type_in q) ≡ size = cc in (
        size_of (unit_in g).types (type_in q),
        number.0,
        ap (shape_of (unit_in g).types) left,
        ap (shape_of (unit_in g).types) right,
        sym one ∙ (elements_are_told a.frame q ∙ ap (λ (ps : Parts). told (size_of (types_of ps.types) (type_in q))) parts),
      )
  by_types s t v size (pointer_last number moved same) first =
      let q : QTy = moved.0.0 in
      let operands : operands_of a.frame (type_in t) (type_in v) ≡ PointerLast (type_bytes a.frame (type_in q)) = ap (λ z. operands_of a.frame (type_in z) (type_in v)) number.1 ∙ ap (λ z. operands_of a.frame (types.int number.0) (type_in z)) moved.0.1 in
      let clash : PointerLast (type_bytes a.frame (type_in q)) ≡ PointerFirst size = sym operands ∙ first in
      absurd cc

-- ---- the offset

low_word : (z : ℤ) → residue 256 z ≡ residue 65536 z % 256
low_word (pos n) = omega arith
low_word (negsuc n) = omega arith

-- the low byte of a product is that of the low bytes
low_product : (r n : ℕ) → ((r % 256) * n) % 256 ≡ (r * n) % 256
low_product r n = by (r % 256) (r / 256) (omega arith)
  where
    by : (l h : ℕ) → r ≡ l + 256 * h → (l * n) % 256 ≡ (r * n) % 256
    by l h e = rw e (omega arith)

-- the low byte of a number of elements says that of their bytes
low_bytes : (size o : ℕ) (z : ℤ) → o ≤ 256 → pos 0 +ℤ (pos size *ℤ z) ≡ pos o → (residue 256 z * told size) % 256 ≡ o % 256
low_bytes size o z few e =
    let r : ℕ = residue 65536 z in
    let n : ℕ = told size in
    let word : word_on ops.Add (0 + 0) ((r * n) % 65536) ≡ 0 + o = moved_word ops.Add size 0 0 o z tt (omega arith) (omega (arith, few)) e in
    let all : (r * n) % 65536 ≡ o = omega (arith, word) in
    let low : (r * n) % 256 ≡ o % 256 = omega (arith, all) in
    ap (λ k. (k * n) % 256) (low_word z) ∙ low_product r n ∙ low

-- ---- the work

module _ (g : World) (a : Active) (size : ℕ) (kind : IntType) (s : Sym) (c : Scene) (w : Placing) (b : Banks) (t : State) (block : ℕ) (array : IsArray g s c w block) where
  abbrev x : Element
  x = behind (told size) s

  -- the place that a sum gives
  summed : (c2 : Scene) (w2 : Placing) (b2 : Banks) (u : State) (v y : Value) → Kept g a c w b t c2 w2 b2 u → block < c.next → ByteIs v u.regs.a → operators.binary c2.store ops.Add (Pointer size) (Number kind) (values.Place block 0) v ≡ Ok y
      → (o : ℕ) × (y ≡ values.Place block o) × IsIndexed g x c2 w2 u block o
  summed c2 w2 b2 u v y kept before low e =
      let h : IsSummed c2.store ops.Add size (values.Place block 0) v y = pointer_summed c2.store ops.Add size kind (values.Place block 0) v y tt e in
      let moved : IsMoved c2.store (values.Place block 0) y (pos size *ℤ h.count) = h.moved in
      let one : moved.block ≡ block = cc (moved.left) in
      let from : moved.from ≡ 0 = cc (moved.left) in
      let o : ℕ = moved.to in
      let sizes : block_size c2.store block ≡ block_size c.store block = size_by (c2.store block) (c.store block) (kept.bounds block before) in
      let within : o ≤ block_size c2.store block = subst (λ d. o ≤ block_size c2.store d) one moved.within in
      let small : block_size c2.store block ≤ 256 = omega (arith, sizes, array.small) in
      let sum : pos 0 +ℤ (pos size *ℤ h.count) ≡ pos o = subst (λ f. pos f +ℤ (pos size *ℤ h.count) ≡ pos o) from moved.sum in
      let byte : u.regs.a ≡ residue 256 h.count = subst (λ z. ByteIs z u.regs.a) h.right low in (
        o,
        moved.result ∙ ap (λ d. values.Place d o) one,
        record {
          start = o;
          low = ap (λ d. (d * told size) % 256) byte ∙ low_bytes size o h.count (omega (arith, within, small)) sum;
          stands = kept.grows block (At (g.place.address s.0)) array.stands;
          small = small;
          within = within;
          offset = omega arith;
          narrow = told_below size;
        },
      )

module _ (g : World) (a : Active) (m : Manner) (parts : a.frame.parts ≡ g.parts) (inner y : Typed) (sy : Sym) (bytes : ℕ) (kind : IntType) (pushed needs fresh : ℕ) (typed : IsTyped (unit_in g) inner) (own : HasOwnSize g inner) (small : is_small (type_bytes a.frame (bare inner)) ≡ true) (whole : whole_symbol a.frame inner ≡ Some sy)
    (number : shape_in g a y ≡ Number kind) (low : LowDoes g a m y) (less : need y ≤ needs) where
  abbrev adds : Item
  adds = Apply2 ops.Add (Pointer bytes) (Number kind)

  abbrev element : Element
  element = behind (told bytes) sy

  abbrev lows : List Line
  lows = low_value_code a.frame pushed (fresh + 1) y

  -- the sum, behind its index, and what it names
  module _ (n weight p : ℕ) (k : List Item) (vs : List Value) (c : Scene) (w : Placing) (b : Banks) (t : State) (block : ℕ) (array : IsArray g sy c w block) (before : block < c.next) (r : Ready g a pushed needs c w b t)
      (rest : (j : ℕ) (v : Value) (c2 : Scene) (q2 : Placing) (b2 : Banks) (u : State) (later : Seen) → j < n → Kept g a c w b t c2 q2 b2 u → IsElement g element c2 q2 u v → IsLeft m c t c2 u → HasTurns g c2.turns (place_in g a (p + length lows)) later
      → Follows g j (weight + 6000 + m.over) (Running k (v ∷ vs) c2) (place_in g a (p + length lows)) u later) where
    named : (i : ℕ) → i < n → (c2 : Scene) (w2 : Placing) (b2 : Banks) (u : State) (later : Seen) (v z : Value) → Kept g a c w b t c2 w2 b2 u → ByteIs v u.regs.a → IsLeft m c t c2 u → HasTurns g c2.turns (place_in g a (p + length lows)) later
        → operators.binary c2.store ops.Add (Pointer bytes) (Number kind) (values.Place block 0) v ≡ Ok z → Follows g i (weight + 2600 + m.over + 4000) (Running (Follow ∷ k) (z ∷ vs) c2) (place_in g a (p + length lows)) u later
    named i lt c2 w2 b2 u later v z kept byte left turned e =
        let ready = ready_stays g a pushed needs needs c c2 w w2 b b2 t u (omega arith) r kept in
        let sum = summed g a bytes kind sy c w b t block array c2 w2 b2 u v z kept before byte e in
        steps_earn g i (weight + 2600 + m.over + 4000) Follow k (z ∷ vs) c2 (place_in g a (p + length lows)) u later (ready_is_calm g a pushed needs c2 w2 b2 u ready).calm kept.joins.output kept.joins.ended (omega (arith, turned)) (λ j lt2.
        follows_target g a j (weight + 2600 + m.over + 4000 + 4000) (p + length lows) k vs c2 u later z (λ d o same.
        follows_weaken g j (weight + 6000 + m.over) (weight + 2600 + m.over + 4000 + 4000) (Running k (values.Place d o ∷ vs) c2) (place_in g a (p + length lows)) u later (omega arith)
        (rest j (values.Place d o) c2 w2 b2 u later (omega (arith, lt, lt2)) kept (subst (IsElement g element c2 w2 u) (sym sum.1 ∙ same) sum.2) left turned)))

    -- the index
    pub index_goes : (seen : Seen) → HasAt (lines_of g a) p lows → HasTurns g c.turns (place_in g a p) seen → Follows g n weight (Running (plan (unit_in g) y (adds ∷ Follow ∷ k)) (values.Place block 0 ∷ vs) c) (place_in g a p) t seen
    index_goes seen has turned =
        let fewer : Ready g a pushed (need y) c w b t = record { joins = r.joins; sp = r.sp; room = omega (arith, r.room, less); none_pushed = r.none_pushed } in
        low kind pushed (fresh + 1) number n weight p (adds ∷ Follow ∷ k) (values.Place block 0 ∷ vs) c w b t seen has fewer turned (λ i v c2 w2 b2 u later lt kept fits any byte left turned2.
        let ready = ready_stays g a pushed needs needs c c2 w w2 b b2 t u (omega arith) r kept in
        steps_earn g i (weight + 2600 + m.over) adds (Follow ∷ k) (v ∷ values.Place block 0 ∷ vs) c2 (place_in g a (p + length lows)) u later (ready_is_calm g a pushed needs c2 w2 b2 u ready).calm kept.joins.output kept.joins.ended (omega (arith, turned2)) (λ j lt2.
        step_goes g j (weight + 2600 + m.over + 4000) (place_in g a (p + length lows)) u later (Follow ∷ k) vs c2 (operators.binary c2.store ops.Add (Pointer bytes) (Number kind) (values.Place block 0) v) (λ z e. named j (omega (arith, lt, lt2)) c2 w2 b2 u later v z kept byte left turned2 e)))

  -- a block that has a place has a number that is not to come
  placed_before : (c : Scene) (w : Placing) (b : Banks) (t : State) (block at : ℕ) → Ready g a pushed needs c w b t → w block ≡ Some (At at) → (block < c.next) ⊎ (c.next ≤ block) → block < c.next
  placed_before c w b t block at r e (inl lt) = lt
  placed_before c w b t block at r e (inr le) =
      let clash : Some (At at) ≡ None = sym e ∙ r.joins.fresh block le in
      cc

  pub sum_goes : TellsElement g a m (λ k. plan (unit_in g) inner (Keep ∷ plan (unit_in g) y (adds ∷ Follow ∷ k))) needs pushed element (Label fresh ∷ lows)
  sum_goes n weight p k vs c w b t seen has r turned rest =
      let come : place_in g a p ≡ place_in g a (suc p) = labels_are_passed (setting_in g) a.symbol p fresh has.0 in
      let ends : suc p + length lows ≡ p + length (Label fresh ∷ lows) = omega arith in
      whole_follows g a parts pushed needs n weight p (Keep ∷ plan (unit_in g) y (adds ∷ Follow ∷ k)) vs c w b t seen r turned inner sy whole typed own small (λ j block lt array.
      steps_earn g j (weight + 4000) Keep (plan (unit_in g) y (adds ∷ Follow ∷ k)) (values.Place block 0 ∷ vs) c (place_in g a p) t seen (ready_is_calm g a pushed needs c w b t r).calm r.joins.output r.joins.ended (omega (arith, turned)) (λ i lt2.
      let before : block < c.next = placed_before c w b t block (g.place.address sy.0) r array.stands (cases_lt block c.next) in
      follows_weaken g i weight (weight + 4000 + 4000) (Running (plan (unit_in g) y (adds ∷ Follow ∷ k)) (values.Place block 0 ∷ vs) c) (place_in g a p) t seen (omega arith)
      (subst (λ q. Follows g i weight (Running (plan (unit_in g) y (adds ∷ Follow ∷ k)) (values.Place block 0 ∷ vs) c) q t seen) (sym come)
      (index_goes i weight (suc p) k vs c w b t block array before r (λ l v c2 w2 b2 u later lt3 kept is left turned2.
      subst (λ q. Follows g l (weight + 6000 + m.over) (Running k (v ∷ vs) c2) (place_in g a q) u later) (sym ends)
      (rest l v c2 w2 b2 u later (omega (arith, lt, lt2, lt3)) kept is left (subst (λ q. HasTurns g c2.turns (place_in g a q) later) ends turned2)))
      seen has.1 (subst (λ q. HasTurns g c.turns q seen) come turned)))))

-- ---- the law

pub sums_are_elements : SumsAreElements
sums_are_elements g a m t s op x y placed parts typed own low xe pushed fresh is =
    let u : UnitTy = unit_in g in
    let sum : IsSum op (operands_of a.frame (bare x) (bare y)) (array_of a.frame x) xe = is_sum op (operands_of a.frame (bare x) (bare y)) (constant_in y) (array_of a.frame x) xe is in
    let array : IsWholeArray a.frame x sum.symbol = is_whole_array a.frame x sum.symbol sum.there in
    let named : IsTyped u (node array.ty (decay array.inner)) = subst (IsTyped u) array.is typed.0.0 in
    let whole : IsOwnArray g (node array.ty (decay array.inner)) = subst (IsOwnArray g) array.is own in
    let types_are : AreAdded u s (type_of x) (type_of y) = subst (λ o. AreOperands u o s (type_of x) (type_of y)) sum.add typed.0.4 in
    let h = by_types g a parts s (type_of x) (type_of y) sum.size types_are sum.first in
    let lines : List Line = Label fresh ∷ low_value_code a.frame pushed (fresh + 1) y in
    let needs : ℕ = max (need x) (1 + need y) in
    let element_is : behind (told h.0) sum.symbol ≡ xe = ap (λ n. behind n sum.symbol) (sym h.4) ∙ sym sum.is in
    let goes : TellsElement g a m (λ k. plan u array.inner (Keep ∷ plan u y (Apply2 ops.Add (Pointer h.0) (Number h.1) ∷ Follow ∷ k))) needs pushed (behind (told h.0) sum.symbol) lines = sum_goes g a m parts array.inner y sum.symbol h.0 h.1 pushed needs fresh named.0 whole array.small array.whole h.3 low (omega arith) in
    let shaped : TellsElement g a m (λ k. plan u array.inner (Keep ∷ plan u y (Apply2 ops.Add (shape_in g a x) (shape_in g a y) ∷ Follow ∷ k))) needs pushed xe lines = subst (λ (e : Element). TellsElement g a m (λ k. plan u array.inner (Keep ∷ plan u y (Apply2 ops.Add (shape_in g a x) (shape_in g a y) ∷ Follow ∷ k))) needs pushed e lines) element_is
    (subst (λ (f : Shape). TellsElement g a m (λ k. plan u array.inner (Keep ∷ plan u y (Apply2 ops.Add f (shape_in g a y) ∷ Follow ∷ k))) needs pushed (behind (told h.0) sum.symbol) lines) (sym h.2)
    (subst (λ (f : Shape). TellsElement g a m (λ k. plan u array.inner (Keep ∷ plan u y (Apply2 ops.Add (Pointer h.0) f ∷ Follow ∷ k))) needs pushed (behind (told h.0) sum.symbol) lines) (sym h.3) goes)) in
    let based : TellsElement g a m (λ k. plan u x (plan u y (Apply2 ops.Add (shape_in g a x) (shape_in g a y) ∷ Follow ∷ k))) needs pushed xe lines =
    subst (λ (z : Typed). TellsElement g a m (λ k. plan u z (plan u y (Apply2 ops.Add (shape_in g a x) (shape_in g a y) ∷ Follow ∷ k))) needs pushed xe lines) (sym array.is) shaped in
    subst (λ (o : BinaryOp). TellsElement g a m (λ k. plan u x (plan u y (Apply2 o (shape_in g a x) (shape_in g a y) ∷ Follow ∷ k))) needs pushed xe lines) (sym sum.add) based
