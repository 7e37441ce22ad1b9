-- No byte is part of two homes.
use Rattle.std.proofs.Common.{◌≡◌, ℕ, zero, suc, ◌+◌, ◌-◌, ◌<◌, ◌≤◌, ◌⊎◌, inl, inr, Bool, true, false, Option, None, Some, List, [], ◌∷◌, refl, sym, ◌∙◌, ap, subst, slice_get, arith}
use Rattle.std.specs.Prelude.{if◌then◌else◌, nat_lt, nat_le, Ok}
use Rattle.std.proofs.lemmas.Bool.{and_from, le-leb, lt-ltb, leb-true}
use Rattle.c65_ctype.specs.Views.{types_of}
use Rattle.c65_csem.specs.declared.items.Parts.{Parts}
use Rattle.c65_csem.specs.Statements.{IsDistinct}
use Rattle.c65_csem.specs.Trees.{FuncTy}
use Rattle.c65_meaning.specs.After.{is_among}
use Rattle.c65_genframe.specs.declared.modes.Modes.{Modes}
use Rattle.c65_genframe.specs.declared.home.Home.{Home}
use Rattle.c65_genframe.specs.declared.home.Home.TheVariants.{Bank, Soft}
use Rattle.c65_genframe.specs.declared.mark.Mark.{Mark}
use Rattle.c65_genframe.specs.declared.mark.Mark.TheVariants.{Other, Local, Parameter}
use Rattle.c65_genframe.specs.Sizes.{object_in, object_bytes, slot_bytes, bank_bytes}
use Rattle.c65_genframe.specs.Marks.{all_marks}
use Rattle.c65_genframe.specs.Objects.{locals_of}
use Rattle.c65_genframe.specs.Frames.{Framed, flat, home_at, home_of, has_prototype, frame_of}
use Rattle.c65_gen_law_lines.specs.Labels.{is_within, among}
use Rattle.c65_gen_law_lines.specs.Homes.{next, in_bank, in_blocks, in_home, in_params}
use Rattle.c65_gen_law_lines.proofs.HomeLaws.{homes_are_apart}
use Rattle.c65_agree_homes.proofs.Among.{among_cases}

-- ---- one byte

inside : (first n x : ℕ) → first ≤ x → x < first + n → among first n x ≡ 1
inside first n x low high = ap (λ b. if b then 1 else 0) (and_from (nat_le first x) (nat_lt x (first + n)) (le-leb first x low) (lt-ltb x (first + n) high))

at_most : (first n x : ℕ) → among first n x ≤ 1
at_most first n x = go (is_within first n x)
  where
    go : (b : Bool) → (if b then 1 else 0) ≤ 1
    go true = omega arith
    go false = omega arith

-- a home that an object has
record IsFound (low : ℕ) (hs : List (Option Home)) (i : ℕ) (v : Home) : Type 0 where
  low_is : low ≤ i
  there : slice_get hs (i - low) ≡ Some (Some v)

found : (low : ℕ) (hs : List (Option Home)) (i : ℕ) (v : Home) → home_at low hs i ≡ Some v → IsFound low hs i v
found low hs i v e = go (nat_le low i) refl e
  where
    at : (o : Option (Option Home)) → flat o ≡ Some v → o ≡ Some (Some v)
    at None f = cc
    at (Some h) f = ap Some f

    go : (b : Bool) → nat_le low i ≡ b → (if b then flat (slice_get hs (i - low)) else None) ≡ Some v → IsFound low hs i v
    go true is f = record { low_is = leb-true low i is; there = at (slice_get hs (i - low)) f }
    go false is f = cc

module _ (parts : Parts) (x : ℕ) where
  -- ---- regbank

  abbrev bank_of : ℕ → ℕ → ℕ
  bank_of i b = among b (bank_bytes true (object_in parts i)) x

  bank_tail : (i : ℕ) (h : Option Home) (hs : List (Option Home)) → in_bank parts x (next i) hs ≤ in_bank parts x i (h ∷ hs)
  bank_tail i None hs = omega arith
  bank_tail i (Some (Bank b)) hs = omega arith
  bank_tail i (Some (Soft d)) hs = omega arith

  bank_head : (i b : ℕ) (h : Option Home) (hs : List (Option Home)) → h ≡ Some (Bank b) → bank_of i b + in_bank parts x (next i) hs ≤ in_bank parts x i (h ∷ hs)
  bank_head i b h hs e = subst (λ (z : Option Home). bank_of i b + in_bank parts x (next i) hs ≤ in_bank parts x i (z ∷ hs)) (sym e) (omega arith)

  bank_one : (i k b : ℕ) (hs : List (Option Home)) → slice_get hs k ≡ Some (Some (Bank b)) → bank_of (i + k) b ≤ in_bank parts x i hs
  bank_one i k b [] e = cc
  bank_one i zero b (h ∷ hs) e =
      let same : h ≡ Some (Bank b) = cc in
      let here : i + 0 ≡ i = omega arith in
      omega (arith, ap (λ (n : ℕ). bank_of n b) here, bank_head i b h hs same)
  bank_one i (suc k) b (h ∷ hs) e =
      let there : i + suc k ≡ next i + k = omega arith in
      omega (arith, ap (λ (n : ℕ). bank_of n b) there, bank_one (next i) k b hs e, bank_tail i h hs)

  bank_two : (i k m b c : ℕ) (hs : List (Option Home)) → (k ≡ m → ⊥) → slice_get hs k ≡ Some (Some (Bank b)) → slice_get hs m ≡ Some (Some (Bank c)) → bank_of (i + k) b + bank_of (i + m) c ≤ in_bank parts x i hs
  bank_two i k m b c [] apart e f = cc
  bank_two i zero zero b c (h ∷ hs) apart e f = absurd (apart refl)
  bank_two i zero (suc m) b c (h ∷ hs) apart e f =
      let same : h ≡ Some (Bank b) = cc in
      let here : i + 0 ≡ i = omega arith in
      let there : i + suc m ≡ next i + m = omega arith in
      omega (arith, ap (λ (n : ℕ). bank_of n b) here, ap (λ (n : ℕ). bank_of n c) there, bank_head i b h hs same, bank_one (next i) m c hs f)
  bank_two i (suc k) zero b c (h ∷ hs) apart e f =
      let same : h ≡ Some (Bank c) = cc in
      let here : i + 0 ≡ i = omega arith in
      let there : i + suc k ≡ next i + k = omega arith in
      omega (arith, ap (λ (n : ℕ). bank_of n c) here, ap (λ (n : ℕ). bank_of n b) there, bank_head i c h hs same, bank_one (next i) k b hs e)
  bank_two i (suc k) (suc m) b c (h ∷ hs) apart e f =
      let first : i + suc k ≡ next i + k = omega arith in
      let second : i + suc m ≡ next i + m = omega arith in
      omega (arith, ap (λ (n : ℕ). bank_of n b) first, ap (λ (n : ℕ). bank_of n c) second, bank_two (next i) k m b c hs (λ same. apart (ap suc same)) e f, bank_tail i h hs)

  -- ---- objects of blocks on the software stack

  abbrev block_of : ℕ → ℕ → ℕ
  block_of i d = among d (object_bytes (types_of parts.types) (object_in parts i)) x

  block_tail : (i : ℕ) (m : Mark) (ms : List Mark) (h : Option Home) (hs : List (Option Home)) → in_blocks parts x (next i) ms hs ≤ in_blocks parts x i (m ∷ ms) (h ∷ hs)
  block_tail i Local ms None hs = omega arith
  block_tail i Local ms (Some (Bank b)) hs = omega arith
  block_tail i Local ms (Some (Soft d)) hs = omega arith
  block_tail i Other ms h hs = omega arith
  block_tail i Parameter ms h hs = omega arith

  block_head : (i d : ℕ) (m : Mark) (ms : List Mark) (h : Option Home) (hs : List (Option Home)) → m ≡ Local → h ≡ Some (Soft d) → block_of i d + in_blocks parts x (next i) ms hs ≤ in_blocks parts x i (m ∷ ms) (h ∷ hs)
  block_head i d m ms h hs e f =
      subst (λ (y : Mark). block_of i d + in_blocks parts x (next i) ms hs ≤ in_blocks parts x i (y ∷ ms) (h ∷ hs)) (sym e)
      (subst (λ (z : Option Home). block_of i d + in_blocks parts x (next i) ms hs ≤ in_blocks parts x i (Local ∷ ms) (z ∷ hs)) (sym f) (omega arith))

  block_one : (i k d : ℕ) (ms : List Mark) (hs : List (Option Home)) → slice_get ms k ≡ Some Local → slice_get hs k ≡ Some (Some (Soft d)) → block_of (i + k) d ≤ in_blocks parts x i ms hs
  block_one i k d [] hs e f = cc
  block_one i k d (m ∷ ms) [] e f = cc
  block_one i zero d (m ∷ ms) (h ∷ hs) e f =
      let same : h ≡ Some (Soft d) = cc in
      let mark : m ≡ Local = cc in
      let here : i + 0 ≡ i = omega arith in
      omega (arith, ap (λ (n : ℕ). block_of n d) here, block_head i d m ms h hs mark same)
  block_one i (suc k) d (m ∷ ms) (h ∷ hs) e f =
      let there : i + suc k ≡ next i + k = omega arith in
      omega (arith, ap (λ (n : ℕ). block_of n d) there, block_one (next i) k d ms hs e f, block_tail i m ms h hs)

  block_two : (i k l c d : ℕ) (ms : List Mark) (hs : List (Option Home)) → (k ≡ l → ⊥) → slice_get ms k ≡ Some Local → slice_get hs k ≡ Some (Some (Soft c)) → slice_get ms l ≡ Some Local → slice_get hs l ≡ Some (Some (Soft d))
      → block_of (i + k) c + block_of (i + l) d ≤ in_blocks parts x i ms hs
  block_two i k l c d [] hs apart a e b f = cc
  block_two i k l c d (m ∷ ms) [] apart a e b f = cc
  block_two i zero zero c d (m ∷ ms) (h ∷ hs) apart a e b f = absurd (apart refl)
  block_two i zero (suc l) c d (m ∷ ms) (h ∷ hs) apart a e b f =
      let same : h ≡ Some (Soft c) = cc in
      let mark : m ≡ Local = cc in
      let here : i + 0 ≡ i = omega arith in
      let there : i + suc l ≡ next i + l = omega arith in
      omega (arith, ap (λ (n : ℕ). block_of n c) here, ap (λ (n : ℕ). block_of n d) there, block_head i c m ms h hs mark same, block_one (next i) l d ms hs b f)
  block_two i (suc k) zero c d (m ∷ ms) (h ∷ hs) apart a e b f =
      let same : h ≡ Some (Soft d) = cc in
      let mark : m ≡ Local = cc in
      let here : i + 0 ≡ i = omega arith in
      let there : i + suc k ≡ next i + k = omega arith in
      omega (arith, ap (λ (n : ℕ). block_of n d) here, ap (λ (n : ℕ). block_of n c) there, block_head i d m ms h hs mark same, block_one (next i) k c ms hs a e)
  block_two i (suc k) (suc l) c d (m ∷ ms) (h ∷ hs) apart a e b f =
      let first : i + suc k ≡ next i + k = omega arith in
      let second : i + suc l ≡ next i + l = omega arith in
      omega (arith, ap (λ (n : ℕ). block_of n c) first, ap (λ (n : ℕ). block_of n d) second, block_two (next i) k l c d ms hs (λ same. apart (ap suc same)) a e b f, block_tail i m ms h hs)

  -- ---- parameters

  module _ (prototype : Bool) (low : ℕ) (hs : List (Option Home)) where
    abbrev part_of : ℕ → ℕ
    part_of i = in_home x (slot_bytes (types_of parts.types) prototype (object_in parts i)) (home_at low hs i)

    param_one : (i : ℕ) (ps : List ℕ) → is_among ps i ≡ true → part_of i ≤ in_params parts prototype x low hs ps
    param_one i [] h = absurd cc
    param_one i (j ∷ ps) h = go (among_cases j ps i h) (param_one i ps)
      where
        go : (j ≡ i) ⊎ (is_among ps i ≡ true) → (is_among ps i ≡ true → part_of i ≤ in_params parts prototype x low hs ps) → part_of i ≤ in_params parts prototype x low hs (j ∷ ps)
        go (inl e) rest = omega (arith, ap part_of e)
        go (inr e) rest = omega (arith, rest e)

    param_two : (i k : ℕ) (ps : List ℕ) → (i ≡ k → ⊥) → is_among ps i ≡ true → is_among ps k ≡ true → part_of i + part_of k ≤ in_params parts prototype x low hs ps
    param_two i k [] apart h m = absurd cc
    param_two i k (j ∷ ps) apart h m = go (among_cases j ps i h) (among_cases j ps k m) (param_two i k ps apart)
      where
        go : (j ≡ i) ⊎ (is_among ps i ≡ true) → (j ≡ k) ⊎ (is_among ps k ≡ true) → (is_among ps i ≡ true → is_among ps k ≡ true → part_of i + part_of k ≤ in_params parts prototype x low hs ps) → part_of i + part_of k ≤ in_params parts prototype x low hs (j ∷ ps)
        go (inl e) (inl f) rest = absurd (apart (sym e ∙ f))
        go (inl e) (inr f) rest = omega (arith, ap part_of e, param_one k ps f)
        go (inr e) (inl f) rest = omega (arith, ap part_of f, param_one i ps e)
        go (inr e) (inr f) rest = omega (arith, rest e f)

-- ---- in a frame

module _ (parts : Parts) (modes : Modes) (f : FuncTy) (z : Framed) (framed : frame_of parts modes f ≡ Ok z) (d : IsDistinct f.params) where
  counts : (x : ℕ) → (in_bank parts x z.low z.homes ≡ among 0 z.bank x) × (in_blocks parts x z.low (all_marks (locals_of f) f.params) z.homes + in_params parts (has_prototype f.ty) x z.low z.homes f.params ≤ 1)
  counts x = homes_are_apart parts modes f z framed d x

  same_number : (i : ℕ) → z.low ≤ i → z.low + (i - z.low) ≡ i
  same_number i le = omega (arith, le)

  pub banks_apart : (i j b c x : ℕ) → (i ≡ j → ⊥) → home_of z i ≡ Some (Bank b) → home_of z j ≡ Some (Bank c) → b ≤ x → x < b + bank_bytes true (object_in parts i) → c ≤ x → x < c + bank_bytes true (object_in parts j) → ⊥
  banks_apart i j b c x apart e g low high low2 high2 =
      let one = found z.low z.homes i (Bank b) e in
      let two = found z.low z.homes j (Bank c) g in
      let other : i - z.low ≡ j - z.low → ⊥ = λ same. apart (omega (arith, same, one.low_is, two.low_is)) in
      let sum = bank_two parts x z.low (i - z.low) (j - z.low) b c z.homes other one.there two.there in
      let first = ap (λ (n : ℕ). among b (bank_bytes true (object_in parts n)) x) (same_number i one.low_is) in
      let second = ap (λ (n : ℕ). among c (bank_bytes true (object_in parts n)) x) (same_number j two.low_is) in
      omega (arith, sum, first, second, (counts x).0, at_most 0 z.bank x, inside b (bank_bytes true (object_in parts i)) x low high, inside c (bank_bytes true (object_in parts j)) x low2 high2)

  pub blocks_apart : (i j b c x : ℕ) → (i ≡ j → ⊥) → slice_get (all_marks (locals_of f) f.params) (i - z.low) ≡ Some Local → slice_get (all_marks (locals_of f) f.params) (j - z.low) ≡ Some Local
      → home_of z i ≡ Some (Soft b) → home_of z j ≡ Some (Soft c) → b ≤ x → x < b + object_bytes (types_of parts.types) (object_in parts i) → c ≤ x → x < c + object_bytes (types_of parts.types) (object_in parts j) → ⊥
  blocks_apart i j b c x apart m n e g low high low2 high2 =
      let one = found z.low z.homes i (Soft b) e in
      let two = found z.low z.homes j (Soft c) g in
      let other : i - z.low ≡ j - z.low → ⊥ = λ same. apart (omega (arith, same, one.low_is, two.low_is)) in
      let sum = block_two parts x z.low (i - z.low) (j - z.low) b c (all_marks (locals_of f) f.params) z.homes other m one.there n two.there in
      let first = ap (λ (k : ℕ). among b (object_bytes (types_of parts.types) (object_in parts k)) x) (same_number i one.low_is) in
      let second = ap (λ (k : ℕ). among c (object_bytes (types_of parts.types) (object_in parts k)) x) (same_number j two.low_is) in
      omega (arith, sum, first, second, (counts x).1, inside b (object_bytes (types_of parts.types) (object_in parts i)) x low high, inside c (object_bytes (types_of parts.types) (object_in parts j)) x low2 high2)

  pub params_apart : (i j b c x : ℕ) → (i ≡ j → ⊥) → is_among f.params i ≡ true → is_among f.params j ≡ true
      → home_of z i ≡ Some (Soft b) → home_of z j ≡ Some (Soft c) → b ≤ x → x < b + slot_bytes (types_of parts.types) (has_prototype f.ty) (object_in parts i) → c ≤ x → x < c + slot_bytes (types_of parts.types) (has_prototype f.ty) (object_in parts j) → ⊥
  params_apart i j b c x apart m n e g low high low2 high2 =
      let prototype : Bool = has_prototype f.ty in
      let sum = param_two parts x prototype z.low z.homes i j f.params apart m n in
      let first = ap (in_home x (slot_bytes (types_of parts.types) prototype (object_in parts i))) e in
      let second = ap (in_home x (slot_bytes (types_of parts.types) prototype (object_in parts j))) g in
      omega (arith, sum, first, second, (counts x).1, inside b (slot_bytes (types_of parts.types) prototype (object_in parts i)) x low high, inside c (slot_bytes (types_of parts.types) prototype (object_in parts j)) x low2 high2)
