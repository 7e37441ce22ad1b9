-- A file without a fault is spelled of the image that it is read as, and the file of a legal image has no fault.
use Rattle.std.proofs.Common.{◌≡◌, ℕ, ◌+◌, ◌-◌, ◌*◌, ◌/◌, ◌%◌, ◌<◌, ◌≤◌, List, [], ◌∷◌, ◌++◌, length, drop, get_or, Some, None, refl, sym, ap, ◌∙◌, subst, arith, inl, inr}
use Rattle.std.specs.Prelude.{Option, Result, Ok, Err, IfOk, MatchResult}
use Rattle.std.proofs.lemmas.List.{length-drop}
use Rattle.std.proofs.lemmas.Bool.{cases_lt, le-ltb, lt-ltb}
use Rattle.std.proofs.lemmas.Bool.Decides.{eqb_tells}
use Rattle.c65_base.specs.declared.options.Cpu.{Cpu}
use Rattle.c65_base.specs.declared.options.Cpu.TheVariants.{Nmos, Cmos}
use Rattle.c65_base.specs.declared.refusal.Refusal.{Refusal}
use Rattle.c65_base.specs.declared.refusal.Refusal.TheVariants.{OutOfMemory, BadImage}
use Rattle.c65_mach.specs.declared.image.Image.{Image}
use Rattle.c65_mach.specs.Images.{IsBytes, bytes_of, cpu_byte, cpu_of, IsLegal, Spells, fixed, wrong_in, cpu_fault, word_in, late_fault, or_else, fault_of, image_of, RefusesFor, Parses}

pub right_start : (wants bytes : List ℕ) (at : ℕ) → wrong_in wants bytes at ≡ None → bytes ≡ wants ++ drop (length wants) bytes
right_start [] bytes at h = refl
right_start (want ∷ wants) [] at h = absurd cc
right_start (want ∷ wants) (byte ∷ bytes) at h =
    elim (eqb_tells byte want) [
      | inl is ↦ (let rest : bytes ≡ wants ++ drop (length wants) bytes = right_start wants bytes (at + 1) (rw is.0 at h) in
          let same : byte ≡ want = is.1 in cc)
      | inr is ↦ (let there : Some at ≡ None = rw is.0 at h in absurd cc)
    ]

pub neither : (a b : Option ℕ) → or_else a b ≡ None → (a ≡ None) × (b ≡ None)
neither None b h = (refl, h)
neither (Some x) b h = absurd cc

pub late_none : (bytes : List ℕ) → late_fault bytes ≡ None → (12 ≤ length bytes) × (length bytes ≤ 12 + 65536 - word_in bytes 8)
late_none bytes h =
    let end = 12 + 65536 - word_in bytes 8 in
    elim (cases_lt (length bytes) 12) [
      | inl short ↦ (let there : Some (length bytes) ≡ None = rw (lt-ltb (length bytes) 12 short) at h in absurd cc)
      | inr long ↦ elim (cases_lt end (length bytes)) [
        | inl over ↦ (let there : Some end ≡ None = rw (le-ltb (length bytes) 12 long, lt-ltb end (length bytes) over) at h in absurd cc)
        | inr fits ↦ (long, fits)
      ]
    ]

pub no_late : (bytes : List ℕ) → 12 ≤ length bytes → length bytes ≤ 12 + 65536 - word_in bytes 8 → late_fault bytes ≡ None
no_late bytes long short = rw (le-ltb (length bytes) 12 long, le-ltb (12 + 65536 - word_in bytes 8) (length bytes) short) refl

pub cpu_named : (bytes : List ℕ) → cpu_fault bytes ≡ None → get_or bytes 6 0 < 2
cpu_named bytes h =
    elim (cases_lt 1 (get_or bytes 6 0)) [
      | inl over ↦ (let there : ◌≡◌ {A = Option ℕ} (Some 6) None = rw (lt-ltb 1 (get_or bytes 6 0) over) at h in absurd cc)
      | inr fits ↦ omega (arith, fits)
    ]

pub cpu_right : (bytes : List ℕ) → get_or bytes 6 0 < 2 → cpu_fault bytes ≡ None
cpu_right bytes h = rw (le-ltb 1 (get_or bytes 6 0) (omega (arith, h))) refl

same_code : (byte : ℕ) → byte < 2 → cpu_byte (cpu_of byte) ≡ byte
same_code byte h = elim (eqb_tells byte 0) [ inl is ↦ rw is.0 (sym is.1) | inr is ↦ rw is.0 (omega (arith, h, is.1)) ]

same_cpu : (cpu : Cpu) → cpu_of (cpu_byte cpu) ≡ cpu
same_cpu Nmos = refl
same_cpu Cmos = refl

pub small_code : (cpu : Cpu) → cpu_byte cpu < 2
small_code Nmos = omega arith
small_code Cmos = omega arith

six : (xs : List ℕ) → 6 ≤ length xs → xs ≡ get_or xs 0 0 ∷ get_or xs 1 0 ∷ get_or xs 2 0 ∷ get_or xs 3 0 ∷ get_or xs 4 0 ∷ get_or xs 5 0 ∷ drop 6 xs
six (a ∷ b ∷ c ∷ d ∷ e ∷ f ∷ xs) h = refl
six [] h = absurd (omega arith)
six (a ∷ []) h = absurd (omega arith)
six (a ∷ b ∷ []) h = absurd (omega arith)
six (a ∷ b ∷ c ∷ []) h = absurd (omega arith)
six (a ∷ b ∷ c ∷ d ∷ []) h = absurd (omega arith)
six (a ∷ b ∷ c ∷ d ∷ e ∷ []) h = absurd (omega arith)

abbrev cells : ℕ → ℕ → ℕ → ℕ → ℕ → ℕ → List ℕ → List ℕ
cells cpu sp load_low load_high reset_low reset_high payload = fixed ++ cpu ∷ sp ∷ load_low ∷ load_high ∷ reset_low ∷ reset_high ∷ payload

cells_spell : (cpu sp l0 l1 r0 r1 : ℕ) (p : List ℕ) → IsBytes (cells cpu sp l0 l1 r0 r1 p) → cpu < 2 → late_fault (cells cpu sp l0 l1 r0 r1 p) ≡ None → Spells (cells cpu sp l0 l1 r0 r1 p) (image_of (cells cpu sp l0 l1 r0 r1 p))
cells_spell cpu sp l0 l1 r0 r1 p bytes named h =
    let ends : 12 + length p ≤ 12 + 65536 - (l0 + 256 * l1) = (let e = (late_none (cells cpu sp l0 l1 r0 r1 p) h).1 in omega (arith, e)) in
    let low : l0 < 256 = bytes 8 in
    let high : l1 < 256 = bytes 9 in
    let first : r0 < 256 = bytes 10 in
    let a : (l0 + 256 * l1) % 256 ≡ l0 = omega arith in
    let b : (l0 + 256 * l1) / 256 ≡ l1 = omega arith in
    let c : (r0 + 256 * r1) % 256 ≡ r0 = omega arith in
    let d : (r0 + 256 * r1) / 256 ≡ r1 = omega arith in
    (record { fits = omega (arith, ends) }, rw (same_code cpu named, a, b, c, d) refl)

-- what is read is spelled so
pub spelled : (bytes : List ℕ) → IsBytes bytes → fault_of bytes ≡ None → Spells bytes (image_of bytes)
spelled bytes are h =
    let none = neither (wrong_in fixed bytes 0) (or_else (cpu_fault bytes) (late_fault bytes)) h in
    let later = neither (cpu_fault bytes) (late_fault bytes) none.1 in
    let long = (late_none bytes later.1).0 in
    let start : bytes ≡ fixed ++ drop 6 bytes = right_start fixed bytes 0 none.0 in
    let rest = six (drop 6 bytes) (rw (length-drop 6 bytes) (omega arith)) in
    let all = start ∙ ap (λ (xs : List ℕ). fixed ++ xs) rest in
    let P : List ℕ → Type 0 = λ xs. IsBytes xs → get_or xs 6 0 < 2 → late_fault xs ≡ None → Spells xs (image_of xs) in
    subst P (sym all) (cells_spell _ _ _ _ _ _ _) are (cpu_named bytes later.0) later.1

-- what is spelled so is read
pub read_again : (image : Image) → IsLegal image → (fault_of (bytes_of image) ≡ None) × (image_of (bytes_of image) ≡ image)
read_again image legal =
    let fits = legal.fits in
    let word : image.load % 256 + 256 * (image.load / 256) ≡ image.load = omega arith in
    let second : image.reset % 256 + 256 * (image.reset / 256) ≡ image.reset = omega arith in
    let size : length (bytes_of image) ≡ 12 + length image.payload = omega arith in
    let at : word_in (bytes_of image) 8 ≡ image.load = word in
    let named : cpu_fault (bytes_of image) ≡ None = cpu_right (bytes_of image) (small_code image.cpu) in
    let late : late_fault (bytes_of image) ≡ None = no_late (bytes_of image) (omega (arith, size)) (omega (arith, size, at, fits)) in
    (rw (named, late) refl, rw (word, second, same_cpu image.cpu) refl)

pub found_of : (bytes : List ℕ) → IsBytes bytes → (r : Result Image Refusal) → Parses bytes r → IfOk r (λ image. Spells bytes image)
found_of bytes are (Ok image) h = subst (λ (i : Image). Spells bytes i) (sym h.1) (spelled bytes are h.0)
found_of bytes are (Err refusal) h = tt

no_fault : (fault : Option ℕ) (refusal : Refusal) → RefusesFor fault refusal → fault ≡ None → refusal ≡ OutOfMemory
no_fault fault OutOfMemory h none = refl
no_fault fault (BadImage offset) h none = absurd cc
no_fault fault _ h none = absurd h

pub only_of : (bytes : List ℕ) (image : Image) → Spells bytes image → (r : Result Image Refusal) → Parses bytes r → MatchResult r (λ read. read ≡ image) (λ refusal. refusal ≡ OutOfMemory)
only_of bytes image spells (Ok read) h = h.1 ∙ ap image_of spells.1 ∙ (read_again image spells.0).1
only_of bytes image spells (Err refusal) h = no_fault (fault_of bytes) refusal h (ap fault_of spells.1 ∙ (read_again image spells.0).0)
