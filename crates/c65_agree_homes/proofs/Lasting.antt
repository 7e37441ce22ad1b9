-- Objects of blocks that have one place for the whole run.
use Rattle.std.proofs.Common.{◌≡◌, ℕ, zero, suc, ◌+◌, ◌<◌, ◌≤◌, ◌⊎◌, inl, inr, Bool, true, false, Option, None, Some, List, [], ◌∷◌, ◌++◌, refl, sym, ◌∙◌, ap, slice_get, arith}
use Rattle.std.specs.Prelude.{◌||◌, IsTrue}
use Rattle.c65_csem.specs.Trees.{Stmt, empty, eval, set_part, clear, block, if_stmt, while, do_while, for_loop, switch, case, default, label, goto, break, continue, return, Stmts, no_stmts, and_stmts, FuncTy, UnitTy}
use Rattle.c65_csem.specs.Places.{is_fixed_object}
use Rattle.c65_meaning.specs.After.{is_among}
use Rattle.c65_meaning.specs.Costs.{any_fixed, has_fixed, any_has_fixed}
use Rattle.c65_meaning.specs.Shapes.{object_in}
use Rattle.c65_code.specs.declared.code.Datum.{Datum}
use Rattle.c65_code.specs.declared.code.DataCell.{DataCell}
use Rattle.c65_code.specs.declared.code.DataCell.TheVariants.{Byte, Address}
use Rattle.c65_code.specs.Placement.{Placement, IsPlacement, IsIn, bytes_of_cells, cells_size}
use Rattle.c65_genframe.specs.Objects.{objects_in, objects_in_all, objects_of, locals_of}
use Rattle.c65_agree_state.specs.World.{World, unit_in, Active}
use Rattle.c65_agree_state.specs.Fixed.{symbol_at, body_has_fixed, func_has_fixed}
use Rattle.c65_agree_begin.proofs.Fixed.{HasFixedDatum, fixed_datum}
use Rattle.c65_agree_start.proofs.Given.{is_code}
use Rattle.c65_agree_stmts.specs.Objects.{IsFixed}
use Rattle.c65_agree_stmts.proofs.Blocks.{among_right, among_both}
use Rattle.c65_agree_enter.specs.Params.{bytes_of}
use Rattle.c65_agree_homes.specs.Frames.{IsCallIn}
use Rattle.c65_agree_homes.proofs.Among.{among_cases}
use Rattle.c65_agree_homes.proofs.Own.{own_alone}
use Rattle.c65_agree_homes.proofs.Lying.{IsData, spot_data, data_own}

-- ---- a body with such an object

or_first : (a b : Bool) → a ≡ true → a || b ≡ true
or_first true b e = refl
or_first false b e = cc

or_second : (a b : Bool) → b ≡ true → a || b ≡ true
or_second true b e = refl
or_second false b e = e

module _ (u : UnitTy) (i : ℕ) (fixed : is_fixed_object (object_in u i) ≡ true) where
  any_found : (os : List ℕ) → is_among os i ≡ true → any_fixed u os ≡ true
  any_found [] h = cc
  any_found (j ∷ os) h = go (among_cases j os i h) (any_found os)
    where
      go : (j ≡ i) ⊎ (is_among os i ≡ true) → (is_among os i ≡ true → any_fixed u os ≡ true) → is_fixed_object (object_in u j) || any_fixed u os ≡ true
      go (inl e) rest = or_first (is_fixed_object (object_in u j)) (any_fixed u os) (ap (λ (n : ℕ). is_fixed_object (object_in u n)) e ∙ fixed)
      go (inr e) rest = or_second (is_fixed_object (object_in u j)) (any_fixed u os) (rest e)

  -- in either of two parts
  either : (xs ys : List ℕ) (a b : Bool) → is_among (xs ++ ys) i ≡ true → (is_among xs i ≡ true → a ≡ true) → (is_among ys i ≡ true → b ≡ true) → a || b ≡ true
  either xs ys a b h first second = go (among_both xs ys i h)
    where
      go : (is_among xs i ≡ true) ⊎ (is_among ys i ≡ true) → a || b ≡ true
      go (inl e) = or_first a b (first e)
      go (inr e) = or_second a b (second e)

  mutual
    found : (s : Stmt) → is_among (objects_in s) i ≡ true → has_fixed u s ≡ true
    found (block os ss) h = either os (objects_in_all ss) (any_fixed u os) (any_has_fixed u ss) h (any_found os) (λ e. all_found ss e)
    found (if_stmt e a b) h = either (objects_in a) (objects_in b) (has_fixed u a) (has_fixed u b) h (λ e. found a e) (λ e. found b e)
    found (while e a) h = found a h
    found (do_while a e) h = found a h
    found (for_loop j c n a) h = found a h
    found (switch e a) h = found a h
    found (case z a) h = found a h
    found (default a) h = found a h
    found (label l a) h = found a h
    found empty h = cc
    found (eval e) h = cc
    found (set_part j o e) h = cc
    found (clear j) h = cc
    found (goto l) h = cc
    found break h = cc
    found continue h = cc
    found (return e) h = cc

    all_found : (ss : Stmts) → is_among (objects_in_all ss) i ≡ true → any_has_fixed u ss ≡ true
    all_found no_stmts h = cc
    all_found (and_stmts a ss) h = either (objects_in a) (objects_in_all ss) (has_fixed u a) (any_has_fixed u ss) h (λ e. found a e) (λ e. all_found ss e)

  body_found : (body : Option Stmt) → is_among (objects_of body) i ≡ true → body_has_fixed u body ≡ true
  body_found None h = cc
  body_found (Some body) h = found body h

-- ---- bytes of data

byte_below : (place : Placement) (cells : List DataCell) (n v : ℕ) → slice_get (bytes_of_cells place cells) n ≡ Some v → n < cells_size cells
byte_below place [] n v e = cc
byte_below place (Byte b ∷ cells) zero v e = omega arith
byte_below place (Byte b ∷ cells) (suc n) v e = omega (arith, byte_below place cells n v e)
byte_below place (Address s o ∷ cells) zero v e = omega arith
byte_below place (Address s o ∷ cells) (suc zero) v e = omega arith
byte_below place (Address s o ∷ cells) (suc (suc n)) v e = omega (arith, byte_below place cells n v e)

module _ (g : World) (names : List (List ℕ)) (a : Active) (f : FuncTy) (h : IsCallIn g names a f) (placed : IsPlacement g.code g.place) where
  abbrev bytes : ℕ → ℕ
  bytes i = bytes_of (unit_in g) i

  module _ (i : ℕ) (fixed : is_fixed_object (object_in (unit_in g) i) ≡ true) where
    d : HasFixedDatum g i
    d = fixed_datum g names i (is_code g names h.code) h.plain fixed

    here : symbol_at g i ≡ g.place.address d.datum.sym.0
    here = ap g.place.address (sym d.symbol)

    is_in : (o : ℕ) → o < bytes i → IsIn g.place d.datum (symbol_at g i + o)
    is_in o lt = record { from = omega (arith, here); to = omega (arith, here, lt, d.size) }

    pub data_lies : (512 ≤ symbol_at g i) × (symbol_at g i + bytes i ≤ 65520)
    data_lies = (omega (arith, here, placed.low d.index d.datum d.is), omega (arith, here, d.size, placed.high d.index d.datum d.is))

    reached : (o : ℕ) → o < bytes i → IsTrue (g.place.is_data (symbol_at g i + o))
    reached o lt = placed.data_in d.index (symbol_at g i + o) d.datum d.is (is_in o lt)

    -- no byte of it is a constant
    pub not_constant : (o v : ℕ) → o < bytes i → g.place.constant (symbol_at g i + o) ≡ Some v → ⊥
    not_constant o v lt e =
        let c = placed.constant_of (symbol_at g i + o) v e in
        let below = byte_below g.place c.2.cells c.1 v c.6 in
        let inside : IsIn g.place c.2 (symbol_at g i + o) = record { from = omega (arith, c.5); to = omega (arith, c.5, below) } in
        let index : c.0 ≡ d.index = placed.apart c.0 d.index (symbol_at g i + o) c.2 d.datum c.3 d.is inside (is_in o lt) in
        let same : Some c.2 ≡ Some d.datum = sym c.3 ∙ (ap (slice_get g.code.datums) index ∙ d.is) in
        let datum : c.2 ≡ d.datum = cc in
        let none : c.2.cells ≡ [] = ap (λ (z : Datum). z.cells) datum ∙ d.blank in
        let clash : None ≡ Some v = sym (ap (λ (cells : List DataCell). slice_get (bytes_of_cells g.place cells) c.1) none) ∙ c.6 in
        cc

  pub data_fixed : (i : ℕ) → is_among (locals_of f) i ≡ true → IsData g a i → IsFixed g a i
  data_fixed i own it = record {
    fixed = it.fixed;
    spot = spot_data g names a f h i it.none;
    reached = reached i it.fixed;
    sealed = λ o v lt e. absurd (not_constant i it.fixed o v lt e);
    apart = λ j n o other less lt same. j_is j n o other less lt same;
    once = ap (func_has_fixed (unit_in g)) h.function ∙ body_found (unit_in g) i it.fixed f.body own;
    alone = λ k is. own_alone g names a f h k i (among_right f.params (locals_of f) i own) is;
  }
    where
      j_is : (j n o : ℕ) → is_fixed_object (object_in (unit_in g) j) ≡ true → n < bytes j → o < bytes i → symbol_at g j + n ≡ symbol_at g i + o → j ≡ i
      j_is j n o other less lt same = data_own g names a f h placed j i n o other it.fixed less lt same
