-- The fault of a file is the first offset at which its form breaks.
use Rattle.std.proofs.Common.{◌≡◌, ◌≢◌, ℕ, ◌+◌, ◌-◌, ◌/◌, ◌%◌, ◌<◌, ◌≤◌, suc, zero, List, [], ◌∷◌, ◌++◌, length, take, drop, get_or, Some, None, refl, sym, ap, ◌∙◌, subst, lit<, append_assoc, arith, inl, inr, ◌⊎◌}
use Rattle.std.specs.Prelude.{Option, Result, Ok, Err, IfErr, replicate}
use Rattle.std.proofs.lemmas.List.{length-append, length-replicate, length-take-le, take-append-drop, take-append-le, take_all, append-nil, get_or-take, get_or-drop, get_or_append_left}
use Rattle.std.proofs.lemmas.Bool.{cases_lt, le-ltb, lt-ltb}
use Rattle.std.proofs.lemmas.Bool.Decides.{eqb_tells}
use Rattle.c65_base.specs.declared.options.Cpu.{Cpu}
use Rattle.c65_base.specs.declared.options.Cpu.TheVariants.{Nmos}
use Rattle.c65_base.specs.declared.refusal.Refusal.{Refusal}
use Rattle.c65_base.specs.declared.refusal.Refusal.TheVariants.{BadImage}
use Rattle.c65_mach.specs.declared.image.Image.{Image}
use Rattle.c65_mach.specs.Images.{IsBytes, BreaksAt, Breaks, bytes_of, cpu_byte, Spells, fixed, wrong_in, cpu_fault, word_in, late_fault, or_else, fault_of, image_of, Parses}
use Rattle.c65_mach.proofs.Loading.{take-past}
use Rattle.c65_mach.proofs.Spelling.{spelled, right_start, no_late, cpu_named, cpu_right, small_code}

abbrev zeros : ℕ → List ℕ
zeros k = replicate k 0

zero_byte : (k i : ℕ) → get_or (zeros k) i 0 ≡ 0
zero_byte zero i = refl
zero_byte (suc k) zero = refl
zero_byte (suc k) (suc i) = zero_byte k i

-- zeros behind a list are what is read there anyway
padded : (xs : List ℕ) (k i : ℕ) → get_or (xs ++ zeros k) i 0 ≡ get_or xs i 0
padded [] k i = zero_byte k i
padded (x ∷ xs) k zero = refl
padded (x ∷ xs) k (suc i) = padded xs k i

zero_bytes : (k : ℕ) → IsBytes (zeros k)
zero_bytes k i = rw (zero_byte k i) (lit< tt)

bytes_append : (xs ys : List ℕ) → IsBytes xs → IsBytes ys → IsBytes (xs ++ ys)
bytes_append [] ys a b i = b i
bytes_append (x ∷ xs) ys a b zero = a 0
bytes_append (x ∷ xs) ys a b (suc i) = bytes_append xs ys (λ j. a (suc j)) b i

bytes_take : (n : ℕ) (xs : List ℕ) → IsBytes xs → IsBytes (take n xs)
bytes_take zero xs a i = lit< tt
bytes_take (suc n) [] a i = lit< tt
bytes_take (suc n) (x ∷ xs) a zero = a 0
bytes_take (suc n) (x ∷ xs) a (suc i) = bytes_take n xs (λ j. a (suc j)) i

bytes_drop : (n : ℕ) (xs : List ℕ) → IsBytes xs → IsBytes (drop n xs)
bytes_drop n xs a i = rw (get_or-drop n xs i 0) (a (n + i))

bytes_first : (x : ℕ) (xs : List ℕ) → x < 256 → IsBytes xs → IsBytes (x ∷ xs)
bytes_first x xs h a zero = h
bytes_first x xs h a (suc i) = a i

-- the smallest file
abbrev least : Image
least = record { cpu = Nmos; sp = 0; load = 0; reset = 0; payload = [] }

least_bytes : IsBytes (bytes_of least)
least_bytes =
    bytes_first 115 (105 ∷ 109 ∷ 54 ∷ 53 ∷ 2 ∷ zeros 6) (lit< tt)
    (bytes_first 105 (109 ∷ 54 ∷ 53 ∷ 2 ∷ zeros 6) (lit< tt)
    (bytes_first 109 (54 ∷ 53 ∷ 2 ∷ zeros 6) (lit< tt)
    (bytes_first 54 (53 ∷ 2 ∷ zeros 6) (lit< tt)
    (bytes_first 53 (2 ∷ zeros 6) (lit< tt)
    (bytes_first 2 (zeros 6) (lit< tt) (zero_bytes 6))))))

-- where the bytes differ from those that are wanted, or end
record WrongAt (wants bytes : List ℕ) (k : ℕ) : Type 0 where
  inside : k < length wants
  within : k ≤ length bytes
  same : take k bytes ≡ take k wants
  other : k < length bytes → get_or bytes k 0 ≢ get_or wants k 0

wrong_place : (wants bytes : List ℕ) (at o : ℕ) → wrong_in wants bytes at ≡ Some o → (k : ℕ) × (o ≡ at + k) × WrongAt wants bytes k
wrong_place [] bytes at o h = absurd cc
wrong_place (want ∷ wants) [] at o h =
    let is : at ≡ o = cc in (0, omega arith, record { inside = omega arith; within = omega arith; same = refl; other = λ short. absurd (omega arith) })
wrong_place (want ∷ wants) (byte ∷ bytes) at o h =
    elim (eqb_tells byte want) [
      | inl is ↦ (let same : byte ≡ want = is.1 in
          let later = wrong_place wants bytes (at + 1) o (rw is.0 at h) in
          let w = later.2 in (
            suc later.0,
            omega (arith, later.1),
            record {
              inside = omega (arith, w.inside);
              within = omega (arith, w.within);
              same = rw (same, w.same) refl;
              other = λ short. w.other (omega (arith, short));
            },
          ))
      | inr is ↦ (let there : Some at ≡ Some o = rw is.0 at h in let same : at ≡ o = cc in
          (0, omega arith, record { inside = omega arith; within = omega arith; same = refl; other = λ short. is.1 }))
    ]

either : (a b : Option ℕ) (o : ℕ) → or_else a b ≡ Some o → (a ≡ Some o) ⊎ ((a ≡ None) × (b ≡ Some o))
either None b o h = inr (refl, h)
either (Some x) b o h = inl h

late_some : (bytes : List ℕ) (o : ℕ) → late_fault bytes ≡ Some o → ((length bytes < 12) × (o ≡ length bytes)) ⊎ ((12 ≤ length bytes) × (o ≡ 12 + 65536 - word_in bytes 8) × (o < length bytes))
late_some bytes o h =
    let end = 12 + 65536 - word_in bytes 8 in
    elim (cases_lt (length bytes) 12) [
      | inl short ↦ (let there : Some (length bytes) ≡ Some o = rw (lt-ltb (length bytes) 12 short) at h in inl (short, cc))
      | inr long ↦ elim (cases_lt end (length bytes)) [
        | inl over ↦ (let there : Some end ≡ Some o = rw (le-ltb (length bytes) 12 long, lt-ltb end (length bytes) over) at h in
            let is : o ≡ end = cc in inr (long, is, omega arith))
        | inr fits ↦ (let there : ◌≡◌ {A = Option ℕ} None (Some o) = rw (le-ltb (length bytes) 12 long, le-ltb end (length bytes) fits) at h in absurd cc)
      ]
    ]

cpu_some : (bytes : List ℕ) (o : ℕ) → cpu_fault bytes ≡ Some o → (o ≡ 6) × (1 < get_or bytes 6 0)
cpu_some bytes o h =
    elim (cases_lt 1 (get_or bytes 6 0)) [
      | inl over ↦ (let there : ◌≡◌ {A = Option ℕ} (Some 6) (Some o) = rw (lt-ltb 1 (get_or bytes 6 0) over) at h in (cc, over))
      | inr fits ↦ (let there : ◌≡◌ {A = Option ℕ} None (Some o) = rw (le-ltb 1 (get_or bytes 6 0) fits) at h in absurd cc)
    ]

-- a file that is right at its start, names a processor and is not too long is accepted
accepted : (file tail : List ℕ) → IsBytes file → file ≡ fixed ++ tail → get_or file 6 0 < 2 → 12 ≤ length file → length file ≤ 12 + 65536 - word_in file 8 → Spells file (image_of file)
accepted file tail are starts named long short =
    let start : wrong_in fixed file 0 ≡ None = subst (λ (xs : List ℕ). wrong_in fixed xs 0 ≡ None) (sym starts) refl in
    spelled file are (rw (start, cpu_right file named) (no_late file long short))

file_length : (image : Image) → length (bytes_of image) ≡ 12 + length image.payload
file_length image = omega arith

file_start : (image : Image) (k : ℕ) → k < 6 → get_or (bytes_of image) k 0 ≡ get_or fixed k 0
file_start image k h = get_or_append_left fixed (cpu_byte image.cpu ∷ image.sp ∷ image.load % 256 ∷ image.load / 256 ∷ image.reset % 256 ∷ image.reset / 256 ∷ image.payload) 0 k h

file_load : (image : Image) → word_in (bytes_of image) 8 ≡ image.load
file_load image = omega arith

-- a byte before the end of a front
front_byte : (bytes rest : List ℕ) (n k : ℕ) → k < n → n ≤ length bytes → get_or (take n bytes ++ rest) k 0 ≡ get_or bytes k 0
front_byte bytes rest n k h fits = get_or_append_left (take n bytes) rest 0 k (rw (length-take-le n bytes fits) h) ∙ get_or-take n bytes k 0 h

wrong_breaks : (bytes : List ℕ) (o : ℕ) → WrongAt fixed bytes o → BreaksAt bytes o
wrong_breaks bytes o w =
    let inside : o < 6 = w.inside in
    let front : take o bytes ≡ take o (bytes_of least) = w.same ∙ sym (take-append-le o fixed (0 ∷ 0 ∷ 0 ∷ 0 ∷ 0 ∷ 0 ∷ []) (omega arith)) in
    let whole : take o bytes ++ drop o (bytes_of least) ≡ bytes_of least = rw front (take-append-drop o (bytes_of least)) in
    record {
      within = w.within;
      begins = (drop o (bytes_of least), least, bytes_drop o (bytes_of least) least_bytes, (record { fits = omega arith }, whole));
      no_further = λ short (rest, image, are, spells).
          let left : get_or (take (o + 1) bytes ++ rest) o 0 ≡ get_or bytes o 0 = front_byte bytes rest (o + 1) o (omega arith) (omega (arith, short)) in
          let right : get_or (bytes_of image) o 0 ≡ get_or fixed o 0 = file_start image o inside in
          w.other short (sym left ∙ ap (λ (xs : List ℕ). get_or xs o 0) spells.1 ∙ right);
      cut = λ ends image spells. (let size : length bytes ≡ length (bytes_of image) = ap length spells.1 in absurd (omega (arith, size, file_length image)));
    }

cpu_breaks : (bytes : List ℕ) → wrong_in fixed bytes 0 ≡ None → 1 < get_or bytes 6 0 → BreaksAt bytes 6
cpu_breaks bytes right none =
    let start : bytes ≡ fixed ++ drop 6 bytes = right_start fixed bytes 0 right in
    let whole : length bytes ≡ length (fixed ++ drop 6 bytes) = ap length start in
    let size : length bytes ≡ 6 + length (drop 6 bytes) = omega (arith, whole) in
    let front : take 6 bytes ≡ fixed = ap (take 6) start in
    record {
      within = omega (arith, size);
      begins = rw front (zeros 6, least, zero_bytes 6, (record { fits = omega arith }, refl));
      no_further = λ short (rest, image, rest_are, spells).
          let left : get_or (take 7 bytes ++ rest) 6 0 ≡ get_or bytes 6 0 = front_byte bytes rest 7 6 (omega arith) (omega (arith, short)) in
          let right : get_or (take 7 bytes ++ rest) 6 0 ≡ cpu_byte image.cpu = ap (λ (xs : List ℕ). get_or xs 6 0) spells.1 in
          let small = small_code image.cpu in
          omega (arith, left, right, small, none);
      cut = λ ends image spells. (let whole : length bytes ≡ length (bytes_of image) = ap length spells.1 in absurd (omega (arith, ends, whole, file_length image)));
    }

short_breaks : (bytes : List ℕ) (o : ℕ) → IsBytes bytes → wrong_in fixed bytes 0 ≡ None → cpu_fault bytes ≡ None → length bytes < 12 → o ≡ length bytes → BreaksAt bytes o
short_breaks bytes o are right named short ends =
    let rest : List ℕ = replicate (12 - length bytes) 0 in
    let file : List ℕ = bytes ++ rest in
    let count : length rest ≡ 12 - length bytes = length-replicate {A = ℕ} (12 - length bytes) 0 in
    let size : length file ≡ 12 = length-append bytes rest ∙ omega arith in
    let all : IsBytes file = bytes_append bytes rest are (zero_bytes (12 - length bytes)) in
    let starts : file ≡ fixed ++ (drop 6 bytes ++ rest) = ap (λ (xs : List ℕ). xs ++ rest) (right_start fixed bytes 0 right) ∙ append_assoc fixed (drop 6 bytes) rest in
    let code : get_or file 6 0 < 2 = rw (padded bytes (12 - length bytes) 6) (cpu_named bytes named) in
    let low : word_in file 8 < 65536 = (let a = all 8 in let b = all 9 in omega arith) in
    let spells : Spells file (image_of file) = accepted file _ all starts code (omega arith) (omega arith) in
    let whole : take o bytes ≡ bytes = take_all o bytes (omega arith) in
    record {
      within = omega arith;
      begins = rw whole (rest, image_of file, zero_bytes (12 - length bytes), spells);
      no_further = λ before. absurd (omega (arith, before));
      cut = λ same image spelt. (let long : length bytes ≡ length (bytes_of image) = ap length spelt.1 in absurd (omega (arith, long, file_length image)));
    }

long_breaks : (bytes : List ℕ) (o : ℕ) → IsBytes bytes → wrong_in fixed bytes 0 ≡ None → cpu_fault bytes ≡ None → 12 ≤ length bytes → o ≡ 12 + 65536 - word_in bytes 8 → o < length bytes → BreaksAt bytes o
long_breaks bytes o are right named long is over =
    let file : List ℕ = take o bytes in
    let low : word_in bytes 8 < 65536 = (let a = are 8 in let b = are 9 in omega arith) in
    let size : length file ≡ o = length-take-le o bytes (omega arith) in
    let starts : file ≡ fixed ++ take (o - 6) (drop 6 bytes) = ap (take o) (right_start fixed bytes 0 right) ∙ take-past fixed (drop 6 bytes) o (o - 6) (omega arith) in
    let code : get_or file 6 0 < 2 = rw (get_or-take o bytes 6 0 (omega arith)) (cpu_named bytes named) in
    let word : word_in file 8 ≡ word_in bytes 8 = rw (get_or-take o bytes 8 0 (omega arith), get_or-take o bytes 9 0 (omega arith)) refl in
    let spells : Spells file (image_of file) = accepted file _ (bytes_take o bytes are) starts code (omega arith) (omega arith) in
    record {
      within = omega arith;
      begins = ([], image_of file, zero_bytes 0, rw (append-nil file) spells);
      no_further = λ before (rest, image, rest_are, spelt).
          let longer : List ℕ = take (o + 1) bytes ++ rest in
          let fits : o + 1 ≤ length bytes = omega arith in
          let count : length longer ≡ o + 1 + length rest = length-append (take (o + 1) bytes) rest ∙ ap (λ (n : ℕ). n + length rest) (length-take-le (o + 1) bytes fits) in
          let at : word_in longer 8 ≡ word_in bytes 8 = rw (front_byte bytes rest (o + 1) 8 (omega arith) fits, front_byte bytes rest (o + 1) 9 (omega arith) fits) refl in
          let load : word_in longer 8 ≡ image.load = ap (λ (xs : List ℕ). word_in xs 8) spelt.1 ∙ file_load image in
          let ends : length longer ≡ length (bytes_of image) = ap length spelt.1 in
          let room = spelt.0.fits in
          omega (arith, count, at, load, ends, room, file_length image);
      cut = λ same. absurd (omega (arith, same));
    }

breaks_at : (bytes : List ℕ) (o : ℕ) → IsBytes bytes → fault_of bytes ≡ Some o → BreaksAt bytes o
breaks_at bytes o are h =
    elim (either (wrong_in fixed bytes 0) (or_else (cpu_fault bytes) (late_fault bytes)) o h) [
      | inl wrong ↦ (let place = wrong_place fixed bytes 0 o wrong in let same : place.0 ≡ o = omega (arith, place.1) in subst (λ (k : ℕ). BreaksAt bytes k) same (wrong_breaks bytes place.0 place.2))
      | inr later ↦ elim (either (cpu_fault bytes) (late_fault bytes) o later.1) [
        | inl unnamed ↦ (let code = cpu_some bytes o unnamed in subst (λ (k : ℕ). BreaksAt bytes k) (sym code.0) (cpu_breaks bytes later.0 code.1))
        | inr late ↦ elim (late_some bytes o late.1) [
          | inl short ↦ short_breaks bytes o are later.0 late.0 short.0 short.1
          | inr long ↦ long_breaks bytes o are later.0 late.0 long.0 long.1 long.2
        ]
      ]
    ]

breaks : (bytes : List ℕ) (fault : Option ℕ) (refusal : Refusal) → IsBytes bytes → fault_of bytes ≡ fault → Parses bytes (Err refusal) → Breaks bytes refusal
breaks bytes fault (BadImage offset) are is h = breaks_at bytes offset are h
breaks bytes fault _ are is h = tt

pub first_of : (bytes : List ℕ) → IsBytes bytes → (r : Result Image Refusal) → Parses bytes r → IfErr r (λ refusal. Breaks bytes refusal)
first_of bytes are (Ok image) h = tt
first_of bytes are (Err refusal) h = breaks bytes (fault_of bytes) refusal are refl h
