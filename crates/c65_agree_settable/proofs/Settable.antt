-- What is asked of an object that is set, where it is one of a function's blocks.
use Rattle.std.proofs.Common.{◌≡◌, ℕ, ◌+◌, ◌<◌, ◌≤◌, ◌⊎◌, inl, inr, true, false, Option, None, Some, List, refl, sym, ◌∙◌, ap, arith}
use Rattle.std.specs.Prelude.{◌&&◌}
use Rattle.std.proofs.lemmas.Bool.{and_right, lt-leb}
use Rattle.c65_csem.specs.Trees.{ObjectTy, FuncTy}
use Rattle.c65_csem_plain.specs.Plain.{IsPlainObject}
use Rattle.c65_meaning.specs.After.{is_among}
use Rattle.c65_meaning.specs.Shapes.{object_in, object_size, lives_in_frame}
use Rattle.c65_code.specs.Placement.{IsPlacement}
use Rattle.c65_genframe.specs.declared.home.Home.{Home}
use Rattle.c65_genframe.specs.declared.home.Home.TheVariants.{Bank, Soft}
use Rattle.c65_genframe.specs.Objects.{locals_of}
use Rattle.c65_ctype.specs.Views.{types_of}
use Rattle.c65_genframe.specs.Sizes as frames
use Rattle.c65_genframe.specs.Sizes.{object_bytes}
use Rattle.c65_genframe.specs.Frames.{home_of, lies_above, is_raised}
use Rattle.c65_agree_state.specs.World.{World, unit_in, Active}
use Rattle.c65_agree_state.specs.Fixed.{symbol_at}
use Rattle.c65_agree_start.proofs.Given.{all_at}
use Rattle.c65_agree_part.specs.Parts.{IsSettable}
use Rattle.c65_agree_part.specs.Laws.{IsHeldInBank}
use Rattle.c65_agree_part.proofs.Homes.{banks_hold_numbers}
use Rattle.c65_agree_homes.specs.Frames.{IsCallIn}
use Rattle.c65_agree_homes.proofs.Among.{among_clash}
use Rattle.c65_agree_homes.proofs.Own.{size_same}
use Rattle.c65_agree_homes.proofs.Lying.{Homed, InBank, InParams, InBlocks, IsData, local_outside, local_lies}
use Rattle.c65_agree_homes.proofs.Lasting.{not_constant}
use Rattle.c65_agree_settable.specs.Laws.{ObjectsAreSettable}

-- ---- its bytes

module _ (g : World) (names : List (List ℕ)) (a : Active) (f : FuncTy) (h : IsCallIn g names a f) (i : ℕ) where
  abbrev size : ℕ
  size = object_size (unit_in g).types (object_in (unit_in g) i)

  -- an object that lives in a frame is there
  sized : lives_in_frame (object_in (unit_in g) i) ≡ true → (0 < size) × (size ≤ 65535)
  sized lives = by (object_in (unit_in g) i) refl lives
    where
      by : (o : Option ObjectTy) → object_in (unit_in g) i ≡ o → lives_in_frame o ≡ true → (0 < object_size (unit_in g).types o) × (object_size (unit_in g).types o ≤ 65535)
      by None e l = absurd (cc)
      by (Some o) e l =
          let plain : IsPlainObject names (unit_in g) o = all_at (IsPlainObject names (unit_in g)) (unit_in g).objects i o h.plain.objects e in
          (omega (arith, plain.bytes.some), omega (arith, plain.bytes.few))

  -- ---- its home

  other_homes : (x y : Home) → home_of a.frame i ≡ Some x → home_of a.frame i ≡ Some y → x ≡ y
  other_homes x y e k = let same : Some x ≡ Some y = sym e ∙ k in cc

  not_above : (o : Option Home) → home_of a.frame i ≡ o → lies_above a.frame.soft o ≡ false → is_raised a.frame i ≡ false
  not_above o e k = ap (λ z. a.frame.variadic && lies_above a.frame.soft z) e ∙ ap (λ b. a.frame.variadic && b) k ∙ and_right a.frame.variadic false refl

  not_raised : 0 < size → is_among (locals_of f) i ≡ true → Homed g a f i ⊎ IsData g a i → is_raised a.frame i ≡ false
  not_raised least own (inr d) = not_above None d.none refl
  not_raised least own (inl (InBank b is by)) = not_above (Some (Bank b)) is refl
  not_raised least own (inl (InParams d is p from to)) = among_clash f.params i p (local_outside g names a f h i own)
  not_raised least own (inl (InBlocks d is m from to)) =
      let some : 0 < object_bytes (types_of g.parts.types) (frames.object_in g.parts i) = omega (arith, size_same g names a f h i, least) in
      not_above (Some (Soft d)) is (lt-leb a.frame.soft d (omega (arith, to, some)))

  placed_at_symbol : home_of a.frame i ≡ None → is_among (locals_of f) i ≡ true → Homed g a f i ⊎ IsData g a i → IsData g a i
  placed_at_symbol none own (inr d) = d
  placed_at_symbol none own (inl (InBank b is by)) = let clash : None ≡ Some (Bank b) = sym none ∙ is in absurd (cc)
  placed_at_symbol none own (inl (InParams d is p from to)) = let clash : None ≡ Some (Soft d) = sym none ∙ is in absurd (cc)
  placed_at_symbol none own (inl (InBlocks d is m from to)) = let clash : None ≡ Some (Soft d) = sym none ∙ is in absurd (cc)

  not_given : (o : Option ℕ) → ((v : ℕ) → o ≡ Some v → ⊥) → o ≡ None
  not_given None k = refl
  not_given (Some v) k = absurd (k v refl)

pub objects_are_settable : ObjectsAreSettable
objects_are_settable g names a f i h placed own lives =
    let bytes = sized g names a f h i lives in
    let lies = local_lies g names a f h i own in
    record {
      lives = lives;
      least = bytes.0;
      few = bytes.1;
      low = not_raised g names a f h i bytes.0 own lies;
      bank = λ b e. (let held = banks_hold_numbers g.parts g.modes a.func a.frame i b h.call.frame e in (held.few, held.taken));
      varying = λ n none lt.
          let d : IsData g a i = placed_at_symbol g names a f h i none own lies in
          not_given g names a f h i (g.place.constant (symbol_at g i + n)) (λ v e. not_constant g names a f h placed i d.fixed n v lt e);
    }
