-- Where the objects of a call stand, and that no two of them have a byte in common.
use Rattle.std.proofs.Common.{◌≡◌, ℕ, ◌+◌, ◌-◌, ◌<◌, ◌≤◌, ◌⊎◌, inl, inr, Bool, true, false, Option, None, Some, List, ◌++◌, length, refl, sym, ◌∙◌, ap, slice_get, arith}
use Rattle.std.specs.Prelude.{◌&&◌, if◌then◌else◌}
use Rattle.std.proofs.lemmas.Bool.{and_right, le-leb, lt-leb}
use Rattle.c65_ctype.specs.Views.{types_of}
use Rattle.c65_csem.specs.Places.{is_fixed_object}
use Rattle.c65_csem.specs.Trees.{FuncTy}
use Rattle.c65_meaning.specs.After.{is_among}
use Rattle.c65_meaning.specs.Shapes.{object_in}
use Rattle.c65_code.specs.Placement.{IsPlacement, stack_start}
use Rattle.c65_genframe.specs.declared.home.Home.{Home}
use Rattle.c65_genframe.specs.declared.home.Home.TheVariants.{Bank, Soft}
use Rattle.c65_genframe.specs.declared.mark.Mark.TheVariants.{Local}
use Rattle.c65_genframe.specs.Marks.{all_marks}
use Rattle.c65_genframe.specs.Objects.{locals_of}
use Rattle.c65_genframe.specs.Sizes as frames
use Rattle.c65_genframe.specs.Sizes.{object_bytes, slot_bytes, bank_bytes}
use Rattle.c65_genframe.specs.Frames.{has_prototype, home_of, is_raised, lies_above, saved_bytes}
use Rattle.c65_agree_store.specs.Stands.{Spot, At, Banked, beyond, AreApart}
use Rattle.c65_agree_state.specs.World.{World, unit_in, Active}
use Rattle.c65_agree_state.specs.Fixed.{symbol_at}
use Rattle.c65_agree_state.specs.Joins.{home_spot, spot_of}
use Rattle.c65_agree_begin.proofs.Fixed.{HasFixedDatum, fixed_datum, fixed_objects_are_low}
use Rattle.c65_agree_start.proofs.Given.{is_code}
use Rattle.c65_agree_stmts.proofs.Blocks.{among_both}
use Rattle.c65_agree_enter.specs.Params.{bytes_of}
use Rattle.c65_agree_homes.specs.Frames.{IsCallIn}
use Rattle.c65_agree_homes.proofs.Among.{among_clash, not_by}
use Rattle.c65_agree_homes.proofs.Distinct.{distinct_apart}
use Rattle.c65_agree_homes.proofs.Marks.{local_mark}
use Rattle.c65_agree_homes.proofs.Placed.{IsBanked, LocalHome}
use Rattle.c65_agree_homes.proofs.Arrived.{ParameterHome}
use Rattle.c65_agree_homes.proofs.Homes.{first_byte}
use Rattle.c65_agree_homes.proofs.Apart.{banks_apart, blocks_apart, params_apart}
use Rattle.c65_agree_homes.proofs.Sizes.{bank_whole, slot_most}
use Rattle.c65_agree_homes.proofs.Own.{framed, own_distinct, params_distinct, object_same, size_same, has_frame}

-- ---- spots

pub at_same : (m n : ℕ) → ◌≡◌ {A = Spot} (At m) (At n) → m ≡ n
at_same m n e = cc

banked_same : (d i b j : ℕ) → ◌≡◌ {A = Spot} (Banked d i) (Banked b j) → i ≡ j
banked_same d i b j e = cc

pub at_other : (m d i : ℕ) → ◌≡◌ {A = Spot} (At m) (Banked d i) → ⊥
at_other m d i e = cc

pub apart_at : (q r p s : Spot) (n m : ℕ) → q ≡ p → r ≡ s → AreApart p n s m → AreApart q n r m
apart_at q r p s n m e f h i j lt less k = h i j lt less (sym (ap (λ (z : Spot). beyond z i) e) ∙ (k ∙ ap (λ (z : Spot). beyond z j) f))

pub apart_swapped : (q r : Spot) (n m : ℕ) → AreApart q n r m → AreApart r m q n
apart_swapped q r n m h i j lt less k = h j i less lt (sym k)

-- one lies below the other
below_apart : (p q n m : ℕ) → p + n ≤ q → AreApart (At p) n (At q) m
below_apart p q n m le i j lt less k = omega (arith, le, lt, at_same (p + i) (q + j) k)

bank_apart : (p n d b m : ℕ) → AreApart (At p) n (Banked d b) m
bank_apart p n d b m i j lt less k = at_other (p + i) d (b + j) k

-- ---- homes

-- in regbank, among the parameters, or among the objects of blocks
pub data Homed (g : World) (a : Active) (f : FuncTy) (i : ℕ) : Type 0 where
  InBank : (b : ℕ) → home_of a.frame i ≡ Some (Bank b) → IsBanked g.parts i b a.frame.bank → Homed g a f i
  InParams : (d : ℕ) → home_of a.frame i ≡ Some (Soft d) → is_among f.params i ≡ true → a.frame.soft + saved_bytes a.frame.bank ≤ d
      → d + slot_bytes (types_of g.parts.types) (has_prototype f.ty) (frames.object_in g.parts i) ≤ a.frame.soft + saved_bytes a.frame.bank + a.frame.stacked → Homed g a f i
  InBlocks : (d : ℕ) → home_of a.frame i ≡ Some (Soft d) → slice_get (all_marks (locals_of f) f.params) (i - a.frame.low) ≡ Some Local → first_byte a.frame.variadic ≤ d
      → d + object_bytes (types_of g.parts.types) (frames.object_in g.parts i) ≤ a.frame.soft → Homed g a f i

-- at its symbol
pub record IsData (g : World) (a : Active) (i : ℕ) : Type 0 where
  pub none : home_of a.frame i ≡ None
  pub fixed : is_fixed_object (object_in (unit_in g) i) ≡ true

and_true : (b : Bool) → b && true ≡ b
and_true true = refl
and_true false = refl

if_most : (b : Bool) (n : ℕ) → (if b then n else 0) ≤ n
if_most true n = omega arith
if_most false n = omega arith

module _ (g : World) (names : List (List ℕ)) (a : Active) (f : FuncTy) (h : IsCallIn g names a f) where
  abbrev bytes : ℕ → ℕ
  bytes i = bytes_of (unit_in g) i

  abbrev spot : ℕ → Spot
  spot i = spot_of g a i

  -- by how much the parameters lie higher
  abbrev pub extra : ℕ
  extra = if a.frame.variadic then a.raised else 0

  pub extra_most : extra ≤ a.raised
  extra_most = if_most a.frame.variadic a.raised

  pub spot_bank : (i b : ℕ) → home_of a.frame i ≡ Some (Bank b) → spot i ≡ Banked (length a.behind) b
  spot_bank i b e = ap (home_spot g a i) e

  pub spot_param : (i d : ℕ) → home_of a.frame i ≡ Some (Soft d) → a.frame.soft ≤ d → spot i ≡ At (a.base + d + extra)
  spot_param i d e le =
      let above : lies_above a.frame.soft (home_of a.frame i) ≡ true = ap (lies_above a.frame.soft) e ∙ le-leb a.frame.soft d le in
      let raised : is_raised a.frame i ≡ a.frame.variadic = ap (λ (b : Bool). a.frame.variadic && b) above ∙ and_true a.frame.variadic in
      ap (home_spot g a i) e ∙ ap (λ (b : Bool). At (a.base + d + (if b then a.raised else 0))) raised

  pub spot_block : (i d : ℕ) → home_of a.frame i ≡ Some (Soft d) → d < a.frame.soft → spot i ≡ At (a.base + d)
  spot_block i d e lt =
      let above : lies_above a.frame.soft (home_of a.frame i) ≡ false = ap (lies_above a.frame.soft) e ∙ lt-leb a.frame.soft d lt in
      let raised : is_raised a.frame i ≡ false = ap (λ (b : Bool). a.frame.variadic && b) above ∙ and_right a.frame.variadic false refl in
      let none : a.base + d + 0 ≡ a.base + d = omega arith in
      ap (home_spot g a i) e ∙ (ap (λ (b : Bool). At (a.base + d + (if b then a.raised else 0))) raised ∙ ap At none)

  -- wherever it is on the software stack
  pub spot_soft : (i d : ℕ) → home_of a.frame i ≡ Some (Soft d) → (r : ℕ) × (r ≤ a.raised) × (spot i ≡ At (a.base + d + r))
  spot_soft i d e = ((if is_raised a.frame i then a.raised else 0), if_most (is_raised a.frame i) a.raised, ap (home_spot g a i) e)

  pub spot_data : (i : ℕ) → home_of a.frame i ≡ None → spot i ≡ At (symbol_at g i)
  spot_data i e = ap (home_spot g a i) e

  -- ---- where each is

  pub param_homed : (i : ℕ) → is_among f.params i ≡ true → Homed g a f i
  param_homed i e = go (home_of a.frame i) refl ((has_frame g names a f h).params i e)
    where
      go : (home : Option Home) → home_of a.frame i ≡ home → ParameterHome g.parts (has_prototype f.ty) i (a.frame.soft + saved_bytes a.frame.bank) (a.frame.soft + saved_bytes a.frame.bank + a.frame.stacked) a.frame.bank home → Homed g a f i
      go None is by = absurd by
      go (Some (Bank b)) is by = InBank b is by
      go (Some (Soft d)) is by = InParams d is e by.0 by.1

  pub local_outside : (i : ℕ) → is_among (locals_of f) i ≡ true → is_among f.params i ≡ false
  local_outside i e = not_by f.params i (λ p. among_clash (locals_of f) i e (distinct_apart f.params (locals_of f) (own_distinct g names a f h) i p))

  pub local_lies : (i : ℕ) → is_among (locals_of f) i ≡ true → Homed g a f i ⊎ IsData g a i
  local_lies i e = go (home_of a.frame i) refl ((has_frame g names a f h).locals i e (local_outside i e))
    where
      mark : slice_get (all_marks (locals_of f) f.params) (i - a.frame.low) ≡ Some Local
      mark = ap (λ (n : ℕ). slice_get (all_marks (locals_of f) f.params) (i - n)) (has_frame g names a f h).low ∙ local_mark (locals_of f) f.params i e (local_outside i e)

      go : (home : Option Home) → home_of a.frame i ≡ home → LocalHome g.parts i (first_byte a.frame.variadic) a.frame.soft a.frame.bank home → Homed g a f i ⊎ IsData g a i
      go None is by = inr (record { none = is; fixed = ap is_fixed_object (object_same g names a f h i) ∙ by })
      go (Some (Bank b)) is by = inl (InBank b is by)
      go (Some (Soft d)) is by = inl (InBlocks d is mark by.0 by.1)

  pub own_lies : (i : ℕ) → is_among (f.params ++ locals_of f) i ≡ true → Homed g a f i ⊎ IsData g a i
  own_lies i e = go (among_both f.params (locals_of f) i e)
    where
      go : (is_among f.params i ≡ true) ⊎ (is_among (locals_of f) i ≡ true) → Homed g a f i ⊎ IsData g a i
      go (inl p) = inl (param_homed i p)
      go (inr l) = local_lies i l

  -- ---- no byte is part of two

  pub bank_size : (i b : ℕ) → IsBanked g.parts i b a.frame.bank → bytes i ≡ bank_bytes true (frames.object_in g.parts i)
  bank_size i b by = size_same g names a f h i ∙ bank_whole (types_of g.parts.types) (frames.object_in g.parts i) by.0

  pub slot_size : (i : ℕ) → bytes i ≤ slot_bytes (types_of g.parts.types) (has_prototype f.ty) (frames.object_in g.parts i)
  slot_size i = omega (arith, size_same g names a f h i, slot_most (types_of g.parts.types) (has_prototype f.ty) (frames.object_in g.parts i))

  -- those of blocks lie below parameters
  blocks_below : (i j d e : ℕ) → home_of a.frame i ≡ Some (Soft d) → d + object_bytes (types_of g.parts.types) (frames.object_in g.parts i) ≤ a.frame.soft → home_of a.frame j ≡ Some (Soft e) → a.frame.soft + saved_bytes a.frame.bank ≤ e
      → AreApart (spot i) (bytes i) (spot j) (bytes j)
  blocks_below i j d e is top there low = λ m n lt less k.
      let same = size_same g names a f h i in
      let first : spot i ≡ At (a.base + d) = spot_block i d is (omega (arith, lt, same, top)) in
      let second : spot j ≡ At (a.base + e + extra) = spot_param j e there (omega (arith, low)) in
      apart_at (spot i) (spot j) (At (a.base + d)) (At (a.base + e + extra)) (bytes i) (bytes j) first second (below_apart (a.base + d) (a.base + e + extra) (bytes i) (bytes j) (omega (arith, same, top, low))) m n lt less k

  pub homed_apart : (i j : ℕ) → (i ≡ j → ⊥) → Homed g a f i → Homed g a f j → AreApart (spot i) (bytes i) (spot j) (bytes j)
  homed_apart i j other (InBank b is by) (InBank c there at) = λ m n lt less k.
      let same : b + m ≡ c + n = banked_same (length a.behind) (b + m) (length a.behind) (c + n) (sym (ap (λ (z : Spot). beyond z m) (spot_bank i b is)) ∙ (k ∙ ap (λ (z : Spot). beyond z n) (spot_bank j c there))) in
      banks_apart g.parts g.modes f a.frame (framed g names a f h) (params_distinct g names a f h) i j b c (b + m) other is there (omega arith) (omega (arith, lt, bank_size i b by)) (omega (arith, same)) (omega (arith, same, less, bank_size j c at))
  homed_apart i j other (InBank b is by) (InParams e there p low high) =
      apart_at (spot i) (spot j) (Banked (length a.behind) b) (At (a.base + e + extra)) (bytes i) (bytes j) (spot_bank i b is) (spot_param j e there (omega (arith, low)))
      (apart_swapped (At (a.base + e + extra)) (Banked (length a.behind) b) (bytes j) (bytes i) (bank_apart (a.base + e + extra) (bytes j) (length a.behind) b (bytes i)))
  homed_apart i j other (InBank b is by) (InBlocks e there m low high) = λ x y lt less k.
      apart_at (spot i) (spot j) (Banked (length a.behind) b) (At (a.base + e)) (bytes i) (bytes j) (spot_bank i b is) (spot_block j e there (omega (arith, less, size_same g names a f h j, high)))
      (apart_swapped (At (a.base + e)) (Banked (length a.behind) b) (bytes j) (bytes i) (bank_apart (a.base + e) (bytes j) (length a.behind) b (bytes i))) x y lt less k
  homed_apart i j other (InParams d is p low high) (InBank b there by) =
      apart_at (spot i) (spot j) (At (a.base + d + extra)) (Banked (length a.behind) b) (bytes i) (bytes j) (spot_param i d is (omega (arith, low))) (spot_bank j b there) (bank_apart (a.base + d + extra) (bytes i) (length a.behind) b (bytes j))
  homed_apart i j other (InParams d is p low high) (InParams e there q from to) = λ m n lt less k.
      let same : a.base + d + extra + m ≡ a.base + e + extra + n = at_same (a.base + d + extra + m) (a.base + e + extra + n) (sym (ap (λ (z : Spot). beyond z m) (spot_param i d is (omega (arith, low)))) ∙ (k ∙ ap (λ (z : Spot). beyond z n) (spot_param j e there (omega (arith, from))))) in
      params_apart g.parts g.modes f a.frame (framed g names a f h) (params_distinct g names a f h) i j d e (d + m) other p q is there (omega arith) (omega (arith, lt, slot_size i)) (omega (arith, same)) (omega (arith, same, less, slot_size j))
  homed_apart i j other (InParams d is p low high) (InBlocks e there m from to) = apart_swapped (spot j) (spot i) (bytes j) (bytes i) (blocks_below j i e d there to is low)
  homed_apart i j other (InBlocks d is m low high) (InBank b there by) = λ x y lt less k.
      apart_at (spot i) (spot j) (At (a.base + d)) (Banked (length a.behind) b) (bytes i) (bytes j) (spot_block i d is (omega (arith, lt, size_same g names a f h i, high))) (spot_bank j b there) (bank_apart (a.base + d) (bytes i) (length a.behind) b (bytes j)) x y lt less k
  homed_apart i j other (InBlocks d is m low high) (InParams e there p from to) = blocks_below i j d e is high there from
  homed_apart i j other (InBlocks d is m low high) (InBlocks e there n from to) = λ x y lt less k.
      let first : spot i ≡ At (a.base + d) = spot_block i d is (omega (arith, lt, size_same g names a f h i, high)) in
      let second : spot j ≡ At (a.base + e) = spot_block j e there (omega (arith, less, size_same g names a f h j, to)) in
      let same : a.base + d + x ≡ a.base + e + y = at_same (a.base + d + x) (a.base + e + y) (sym (ap (λ (z : Spot). beyond z x) first) ∙ (k ∙ ap (λ (z : Spot). beyond z y) second)) in
      blocks_apart g.parts g.modes f a.frame (framed g names a f h) (params_distinct g names a f h) i j d e (d + x) other m n is there (omega arith) (omega (arith, lt, size_same g names a f h i)) (omega (arith, same)) (omega (arith, same, less, size_same g names a f h j))

  -- ---- beside objects that have one place for the whole run

  -- each has its own datum
  pub data_own : IsPlacement g.code g.place → (i j m n : ℕ) → is_fixed_object (object_in (unit_in g) i) ≡ true → is_fixed_object (object_in (unit_in g) j) ≡ true → m < bytes i → n < bytes j → symbol_at g i + m ≡ symbol_at g j + n → i ≡ j
  data_own placed i j m n first second lt less same =
      let d : HasFixedDatum g i = fixed_datum g names i (is_code g names h.code) h.plain first in
      let e : HasFixedDatum g j = fixed_datum g names j (is_code g names h.code) h.plain second in
      let here : symbol_at g i ≡ g.place.address d.datum.sym.0 = ap g.place.address (sym d.symbol) in
      let there : symbol_at g j ≡ g.place.address e.datum.sym.0 = ap g.place.address (sym e.symbol) in
      let index : d.index ≡ e.index = placed.apart d.index e.index (symbol_at g i + m) d.datum e.datum d.is e.is (record { from = omega (arith, here); to = omega (arith, here, lt, d.size) }) (record { from = omega (arith, there, same); to = omega (arith, there, same, less, e.size) }) in
      let both : Some d.datum ≡ Some e.datum = sym d.is ∙ (ap (slice_get g.code.datums) index ∙ e.is) in
      let one : d.datum ≡ e.datum = cc in
      sym d.symbol ∙ (ap (λ z. z.sym.0) one ∙ e.symbol)

  module _ (placed : IsPlacement g.code g.place) (base : stack_start ≤ a.base) where
    data_low : (i n : ℕ) → IsData g a i → n < bytes i → symbol_at g i + n < stack_start
    data_low i n d lt = fixed_objects_are_low g names h.code placed h.plain i n d.fixed lt

    data_apart : (i j : ℕ) → IsData g a i → Homed g a f j → AreApart (spot i) (bytes i) (spot j) (bytes j)
    data_apart i j d (InBank b there by) =
        apart_at (spot i) (spot j) (At (symbol_at g i)) (Banked (length a.behind) b) (bytes i) (bytes j) (spot_data i d.none) (spot_bank j b there) (bank_apart (symbol_at g i) (bytes i) (length a.behind) b (bytes j))
    data_apart i j d (InParams e there p low high) = λ m n lt less k.
        let same : symbol_at g i + m ≡ a.base + e + extra + n = at_same (symbol_at g i + m) (a.base + e + extra + n) (sym (ap (λ (z : Spot). beyond z m) (spot_data i d.none)) ∙ (k ∙ ap (λ (z : Spot). beyond z n) (spot_param j e there (omega (arith, low))))) in
        omega (arith, same, data_low i m d lt, base)
    data_apart i j d (InBlocks e there l low high) = λ m n lt less k.
        let same : symbol_at g i + m ≡ a.base + e + n = at_same (symbol_at g i + m) (a.base + e + n) (sym (ap (λ (z : Spot). beyond z m) (spot_data i d.none)) ∙ (k ∙ ap (λ (z : Spot). beyond z n) (spot_block j e there (omega (arith, less, size_same g names a f h j, high))))) in
        omega (arith, same, data_low i m d lt, base)

    pub own_apart : (i j : ℕ) → (i ≡ j → ⊥) → Homed g a f i ⊎ IsData g a i → Homed g a f j ⊎ IsData g a j → AreApart (spot i) (bytes i) (spot j) (bytes j)
    own_apart i j other (inl k) (inl l) = homed_apart i j other k l
    own_apart i j other (inl k) (inr l) = apart_swapped (spot j) (spot i) (bytes j) (bytes i) (data_apart j i l k)
    own_apart i j other (inr k) (inl l) = data_apart i j k l
    own_apart i j other (inr k) (inr l) = λ m n lt less e.
        let same : symbol_at g i + m ≡ symbol_at g j + n = at_same (symbol_at g i + m) (symbol_at g j + n) (sym (ap (λ (z : Spot). beyond z m) (spot_data i k.none)) ∙ (e ∙ ap (λ (z : Spot). beyond z n) (spot_data j l.none))) in
        other (data_own placed i j m n k.fixed l.fixed lt less same)
