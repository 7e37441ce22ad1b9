-- The bytes that a datum places are the cells of its object or literal.
use Rattle.std.proofs.Common.{◌≡◌, ℕ, zero, suc, ◌+◌, ◌/◌, ◌%◌, ◌<◌, ◌^◌, List, [], ◌∷◌, ◌++◌, ℤ, Option, Some, None, Bool, true, false, refl, sym, ap, ◌∙◌, subst, arith}
use Rattle.std.specs.Prelude.{slice_get, length, ◌&&◌, replicate, ◌==◌, if◌then◌else◌, All}
use Rattle.std.specs.List.{list_all}
use Rattle.std.proofs.lemmas.Nat.{and_mask}
use Rattle.std.proofs.lemmas.Bool.Decides.{nat_tests}
use Rattle.std.proofs.lemmas.List.Elements.{All-head, All-tail}
use Rattle.std.proofs.Math.Nat.{mod-eq_of_lt}
use Rattle.c65_csem.specs.declared.items.Cell.{Cell}
use Rattle.c65_csem.specs.declared.items.Cell.TheVariants.{Byte, Piece}
use Rattle.c65_csem.specs.declared.items.Target.{Target}
use Rattle.c65_csem.specs.Trees.{UnitTy}
use Rattle.c65_csem_plain.specs.Plain.{AreBytes, IsByte, ArePaired}
use Rattle.c65_meaning.specs.Store.{byte}
use Rattle.c65_meaning.specs.Start.{bytes_at, from_zero, target_block, initial_cell, cells_of}
use Rattle.c65_code.specs.declared.code.Code.{Code}
use Rattle.c65_code.specs.declared.code.DataCell.{DataCell}
use Rattle.c65_code.specs.declared.code.DataCell.TheVariants as placed
use Rattle.c65_code.specs.declared.line.Sym.{Sym}
use Rattle.c65_code.specs.LineState.{State}
use Rattle.c65_code.specs.Placement.{Placement, IsDatumOf, located, bytes_of_cells}
use Rattle.c65_code.specs.Starts.{IsStart}
use Rattle.c65_genframe.specs.declared.symbols.Numbers.{Numbers}
use Rattle.c65_gendata.specs.Cells.{symbol_of, offset_of, with_cell, with_cells, is_zero, literal_cells}
use Rattle.c65_gendata.specs.Data.{filled, blank, initialised}
use Rattle.c65_agree_store.specs.Stands.{At, Placing, CellIs, part_of}
use Rattle.c65_agree_data.specs.Laws.{IsNamed, Begins, ObjectsBegin, LiteralsBegin}
use Rattle.c65_agree_data.proofs.Lists.{append_nothing, append_again, item_at}

-- a byte stands as itself
byte_is : (w : Placing) (v m : ℕ) → v < 256 → m ≡ v → CellIs w (byte v) m
byte_is w v m lt e = let low : m < 256 = omega (arith, lt, e) in and_mask m 8 ∙ mod-eq_of_lt low ∙ e

equal_zero : (n : ℕ) → n ≡ 0 → (n == 0) ≡ true
equal_zero n h = grind (arith, nat_tests)

not_zero : (n : ℕ) → n ≡ 1 → (n == 0) ≡ false
not_zero n h = grind (arith, nat_tests)

is_nothing : (n : ℕ) → (n == 0) ≡ true → n ≡ 0
is_nothing n h = grind (arith, nat_tests)

-- ---- the bytes of an initial value

-- the data cells of an initial value, one cell after another
abbrev plain : Numbers → List Cell → List DataCell
plain n [] = []
plain n (c ∷ cs) = with_cell n c [] ++ plain n cs

cell_added : (n : Numbers) (c : Cell) (xs : List DataCell) → with_cell n c xs ≡ xs ++ with_cell n c []
cell_added n (Byte b) xs = refl
cell_added n (Piece t o part) xs = go (part == 0)
  where
    d : DataCell
    d = placed.Address (symbol_of n t) (offset_of o)

    go : (b : Bool) → (if b then xs ++ d ∷ [] else xs) ≡ xs ++ (if b then [] ++ d ∷ [] else [])
    go true = refl
    go false = sym (append_nothing xs)

cells_added : (n : Numbers) (cs : List Cell) (xs : List DataCell) → with_cells n cs xs ≡ xs ++ plain n cs
cells_added n [] xs = sym (append_nothing xs)
cells_added n (c ∷ cs) xs = cells_added n cs (with_cell n c xs) ∙ ap (λ ys. ys ++ plain n cs) (cell_added n c xs) ∙ append_again xs (with_cell n c []) (plain n cs)

module _ (u : UnitTy) (n : Numbers) (place : Placement) (w : Placing) where
  -- a byte of the data, and the cell that it stands for
  record IsPlaced (cells : List Cell) (i : ℕ) : Type 0 where
    value : ℕ
    placed : slice_get (bytes_of_cells place (plain n cells)) i ≡ Some value
    is : CellIs w (initial_cell u (slice_get cells i)) value

  -- two pieces are one address
  pair_is : (t s : Target) (o p : ℤ) (part second : ℕ) (cs : List Cell) → part ≡ 0 → second ≡ 1 → plain n (Piece t o part ∷ Piece s p second ∷ cs) ≡ placed.Address (symbol_of n t) (offset_of o) ∷ plain n cs
  pair_is t s o p part second cs e f =
      ap (λ b. (if b then [] ++ placed.Address (symbol_of n t) (offset_of o) ∷ [] else []) ++ ((if second == 0 then [] ++ placed.Address (symbol_of n s) (offset_of p) ∷ [] else []) ++ plain n cs)) (equal_zero part e)
      ∙ ap (λ b. placed.Address (symbol_of n t) (offset_of o) ∷ ((if b then [] ++ placed.Address (symbol_of n s) (offset_of p) ∷ [] else []) ++ plain n cs)) (not_zero second f)

  address_is : (t : Target) (o : ℤ) (part : ℕ) → (h : IsNamed u n place w (Piece t o part)) → located place (symbol_of n t) (offset_of o) ≡ place.address (symbol_of n t).0 + from_zero o
  address_is t o part h =
      let zero_is : from_zero o ≡ h.0 = ap from_zero h.1 in
      let off : offset_of o ≡ h.0 % 65536 = ap offset_of h.1 in
      omega (arith, zero_is, off, h.3)

  cell_is : (cells : List Cell) (i : ℕ) → All IsByte cells → ArePaired cells → All (IsNamed u n place w) cells → i < length cells → IsPlaced cells i
  cell_is [] i b p h lt = absurd (omega arith)
  cell_is (Byte v ∷ cs) zero b p h lt = record { value = v; placed = refl; is = byte_is w v v (All-head IsByte (Byte v) cs b) refl }
  cell_is (Byte v ∷ cs) (suc i) b p h lt =
      let r = cell_is cs i (All-tail IsByte (Byte v) cs b) p (All-tail (IsNamed u n place w) (Byte v) cs h) (omega arith) in
      record { value = r.value; placed = r.placed; is = r.is }
  cell_is (Piece t o part ∷ []) i b p h lt = absurd p
  cell_is (Piece t o part ∷ Byte v ∷ cs) i b p h lt = absurd p
  cell_is (Piece t o part ∷ Piece s r second ∷ cs) i b p h lt = go (λ k less. cell_is cs k rest p.4 others less) i lt
    where
      named : IsNamed u n place w (Piece t o part)
      named = All-head (IsNamed u n place w) (Piece t o part) (Piece s r second ∷ cs) h

      at : located place (symbol_of n t) (offset_of o) ≡ place.address (symbol_of n t).0 + from_zero o
      at = address_is t o part named

      block : w (target_block u t) ≡ Some (At (place.address (symbol_of n t).0))
      block = named.2

      all : bytes_of_cells place (plain n (Piece t o part ∷ Piece s r second ∷ cs)) ≡ (located place (symbol_of n t) (offset_of o) % 256) ∷ (located place (symbol_of n t) (offset_of o) / 256) ∷ bytes_of_cells place (plain n cs)
      all = ap (bytes_of_cells place) (pair_is t s o r part second cs p.0 p.1)

      low : CellIs w (initial_cell u (Some (Piece t o part))) (located place (symbol_of n t) (offset_of o) % 256)
      low = (place.address (symbol_of n t).0, block, ap (λ x. x % 256) at ∙ ap (λ k. part_of k (place.address (symbol_of n t).0 + from_zero o)) (sym p.0))

      high : CellIs w (initial_cell u (Some (Piece s r second))) (located place (symbol_of n t) (offset_of o) / 256)
      high =
          let block2 : w (target_block u s) ≡ Some (At (place.address (symbol_of n t).0)) = ap (λ x. w (target_block u x)) p.2 ∙ block in
          (place.address (symbol_of n t).0, block2, ap (λ x. x / 256) at ∙ ap (λ x. (place.address (symbol_of n t).0 + from_zero x) / 256) (sym p.3) ∙ ap (λ k. part_of k (place.address (symbol_of n t).0 + from_zero r)) (sym p.1))

      rest : All IsByte cs
      rest = All-tail IsByte (Piece s r second) cs (All-tail IsByte (Piece t o part) (Piece s r second ∷ cs) b)

      others : All (IsNamed u n place w) cs
      others = All-tail (IsNamed u n place w) (Piece s r second) cs (All-tail (IsNamed u n place w) (Piece t o part) (Piece s r second ∷ cs) h)

      go : ((k : ℕ) → k < length cs → IsPlaced cs k) → (i : ℕ) → i < length (Piece t o part ∷ Piece s r second ∷ cs) → IsPlaced (Piece t o part ∷ Piece s r second ∷ cs) i
      go deep zero lt = record { value = located place (symbol_of n t) (offset_of o) % 256; placed = ap (λ l. slice_get l 0) all; is = low }
      go deep (suc zero) lt = record { value = located place (symbol_of n t) (offset_of o) / 256; placed = ap (λ l. slice_get l 1) all; is = high }
      go deep (suc (suc i)) lt =
          let d = deep i (omega arith) in
          record { value = d.value; placed = ap (λ l. slice_get l (suc (suc i))) all ∙ d.placed; is = d.is }

-- ---- zero bytes

module _ (u : UnitTy) where
  zero_cell : (cells : List Cell) (i : ℕ) → list_all is_zero cells ≡ true → initial_cell u (slice_get cells i) ≡ byte 0
  zero_cell [] i e = refl
  zero_cell (Byte b ∷ cs) i e = go (λ k f. zero_cell cs k f) i (b == 0) refl e
    where
      go : ((k : ℕ) → list_all is_zero cs ≡ true → initial_cell u (slice_get cs k) ≡ byte 0) → (i : ℕ) (x : Bool) → (b == 0) ≡ x → x && list_all is_zero cs ≡ true → initial_cell u (slice_get (Byte b ∷ cs) i) ≡ byte 0
      go deep zero true f e = ap byte (is_nothing b f)
      go deep (suc i) true f e = deep i e
      go deep i false f e = cc
  zero_cell (Piece t o part ∷ cs) i e = cc

zeros_are : (place : Placement) (size o : ℕ) → o < size → slice_get (bytes_of_cells place (replicate size (placed.Byte 0))) o ≡ Some 0
zeros_are place zero o lt = absurd (omega arith)
zeros_are place (suc size) zero lt = refl
zeros_are place (suc size) (suc o) lt = zeros_are place size o (omega arith)

module _ (code : Code) (place : Placement) (args : List (List ℕ)) (given : List ℕ) (t : State) (s : IsStart code place args given t) where
  blank_is : (k : ℕ) (sy : Sym) (constant : Bool) (size o : ℕ) → IsDatumOf code k (blank sy constant size) → o < size → t.mem (place.address sy.0 + o) ≡ 0
  blank_is k sy false size o is lt = s.zeros_placed k o (blank sy false size) is (omega arith) (omega (arith, lt))
  blank_is k sy true size o is lt = s.data_placed k o 0 (blank sy true size) is (zeros_are place size o lt)

  module _ (u : UnitTy) (n : Numbers) (w : Placing) (k : ℕ) (sy : Sym) (constant : Bool) (o size : ℕ) where
    value_is : (cells : List Cell) (all : Bool) → list_all is_zero cells ≡ all → IsDatumOf code k (if all then blank sy constant size else filled sy constant (with_cells n cells [])) → Begins u n place w size (Some cells) → o < size
        → CellIs w (initial_cell u (slice_get cells o)) (t.mem (place.address sy.0 + o))
    value_is cells true e is h lt =
        let cell : initial_cell u (slice_get cells o) ≡ byte 0 = zero_cell u cells o e in
        subst (λ x. CellIs w x (t.mem (place.address sy.0 + o))) (sym cell) (byte_is w 0 (t.mem (place.address sy.0 + o)) (omega arith) (blank_is k sy constant size o is lt))
    value_is cells false e is h lt =
        let r = cell_is u n place w cells o h.1 h.2 h.3 (omega (arith, h.0, lt)) in
        let bytes : slice_get (bytes_of_cells place (with_cells n cells [])) o ≡ Some r.value = ap (λ l. slice_get (bytes_of_cells place l) o) (cells_added n cells []) ∙ r.placed in
        let there : t.mem (place.address sy.0 + o) ≡ r.value = s.data_placed k o r.value (filled sy constant (with_cells n cells [])) is bytes in
        subst (λ v. CellIs w (initial_cell u (slice_get cells o)) v) (sym there) r.is

    init_is : (init : Option (List Cell)) → IsDatumOf code k (initialised n sy constant size init) → Begins u n place w size init → o < size → CellIs w (cells_of u init o) (t.mem (place.address sy.0 + o))
    init_is None is h lt = byte_is w 0 (t.mem (place.address sy.0 + o)) (omega arith) (blank_is k sy constant size o is lt)
    init_is (Some cells) is h lt = value_is cells (list_all is_zero cells) refl is h lt

pub objects_begin : ObjectsBegin
objects_begin code place args given t u n w k sy constant o size init s is h lt = init_is code place args given t s u n w k sy constant o size init is h lt

-- ---- literals

text_bytes : (place : Placement) (text : List ℕ) → bytes_of_cells place (literal_cells text) ≡ text ++ 0 ∷ []
text_bytes place [] = refl
text_bytes place (b ∷ text) = ap (λ l. b ∷ l) (text_bytes place text)

text_cell : (xs : List ℕ) (o v : ℕ) → slice_get xs o ≡ Some v → bytes_at xs o ≡ byte v
text_cell [] o v e = cc
text_cell (x ∷ xs) zero v e = let f : x ≡ v = cc in ap byte f
text_cell (x ∷ xs) (suc o) v e = text_cell xs o v e

text_below : (text : List ℕ) (o v : ℕ) → AreBytes text → slice_get (text ++ 0 ∷ []) o ≡ Some v → v < 256
text_below [] zero v h e = let f : 0 ≡ v = cc in omega (arith, f)
text_below [] (suc o) v h e = cc
text_below (b ∷ text) zero v h e = let f : b ≡ v = cc in omega (arith, f, All-head (λ x. x < 2 ^ 8) b text h)
text_below (b ∷ text) (suc o) v h e = text_below text o v (All-tail (λ x. x < 2 ^ 8) b text h) e

pub literals_begin : LiteralsBegin
literals_begin code place args given t w k sy o text s is h lt =
    let i = item_at (text ++ 0 ∷ []) o lt in
    let bytes : slice_get (bytes_of_cells place (literal_cells text)) o ≡ Some i.item = ap (λ l. slice_get l o) (text_bytes place text) ∙ i.is in
    let there : t.mem (place.address sy.0 + o) ≡ i.item = s.data_placed k o i.item (filled sy true (literal_cells text)) is bytes in
    subst (λ x. CellIs w x (t.mem (place.address sy.0 + o))) (sym (text_cell (text ++ 0 ∷ []) o i.item i.is)) (byte_is w i.item (t.mem (place.address sy.0 + o)) (text_below text o i.item h i.is) there)
