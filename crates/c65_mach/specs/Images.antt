-- The form of an image as a file: a header of 12 bytes, and the payload.
use Rattle.std.specs.Prelude.{◌≡◌, ℕ, ◌+◌, ◌-◌, ◌*◌, ◌/◌, ◌%◌, ◌<◌, ◌≤◌, List, [], ◌∷◌, ◌++◌, length, take, drop, slice_index, Option, Some, None, Result, Ok, Err, if◌then◌else◌, ◌==◌, nat_lt, codes}
use Rattle.c65_base.specs.declared.options.Cpu.{Cpu}
use Rattle.c65_base.specs.declared.options.Cpu.TheVariants.{Nmos, Cmos}
use Rattle.c65_base.specs.declared.refusal.Refusal.{Refusal}
use Rattle.c65_base.specs.declared.refusal.Refusal.TheVariants.{OutOfMemory, BadImage}
use Rattle.c65_mach.specs.declared.image.Image.{Image}

abbrev pub cpu_byte : Cpu → ℕ
cpu_byte Nmos = 0
cpu_byte Cmos = 1

-- the file of an image: `sim65`, the version 2, the processor, sp, and the load and reset addresses, low byte first
abbrev pub bytes_of : Image → List ℕ
bytes_of image = codes "sim65" ++ 2 ∷ cpu_byte image.cpu ∷ image.sp ∷ image.load % 256 ∷ image.load / 256 ∷ image.reset % 256 ∷ image.reset / 256 ∷ image.payload

-- an image whose file is accepted: its payload ends at or below $FFFF
pub record IsLegal (image : Image) : Type 0 where
  pub fits : image.load + length image.payload ≤ 65536

-- an accepted file, and the image that it spells
abbrev pub Spells : List ℕ → Image → Type 0
Spells bytes image = IsLegal image × (bytes ≡ bytes_of image)

abbrev pub IsBytes : List ℕ → Type 0
IsBytes bytes = (i : ℕ) → slice_index bytes i < 256

-- what some accepted file begins with
abbrev pub Begins : List ℕ → Type 0
Begins front = (rest : List ℕ) × (image : Image) × IsBytes rest × Spells (front ++ rest) image

-- The form breaks at this offset: an accepted file may begin with the bytes before it, and none with the byte there too;
-- or the bytes end there, and are no accepted file.
pub record BreaksAt (bytes : List ℕ) (offset : ℕ) : Type 0 where
  pub within : offset ≤ length bytes
  pub begins : Begins (take offset bytes)
  pub no_further : offset < length bytes → ¬ (Begins (take (offset + 1) bytes))
  pub cut : offset ≡ length bytes → (image : Image) → ¬ (Spells bytes image)

abbrev pub Breaks : List ℕ → Refusal → Type 0
Breaks bytes (BadImage offset) = BreaksAt bytes offset
Breaks bytes _ = Unit {0}

-- the bytes that each accepted file begins with: `sim65` and the version 2
abbrev pub fixed : List ℕ
fixed = codes "sim65" ++ 2 ∷ []

-- the processor that a byte names, where it is 0 or 1
abbrev pub cpu_of : ℕ → Cpu
cpu_of byte = if byte == 0 then Nmos else Cmos

-- a byte behind the fixed part that names no processor
abbrev pub cpu_fault : List ℕ → Option ℕ
cpu_fault bytes = if nat_lt 1 (slice_index bytes 6) then Some 6 else None

-- the offset of the first byte that is wrong or is not there, counted from here
abbrev pub wrong_in : List ℕ → List ℕ → ℕ → Option ℕ
wrong_in [] bytes at = None
wrong_in (want ∷ wants) [] at = Some at
wrong_in (want ∷ wants) (byte ∷ bytes) at = if byte == want then wrong_in wants bytes (at + 1) else Some at

abbrev pub word_in : List ℕ → ℕ → ℕ
word_in bytes at = slice_index bytes at + 256 * slice_index bytes (at + 1)

-- behind the fixed part: a header that is cut off ends at the fault; else the fault is the byte for address 65,536
abbrev pub late_fault : List ℕ → Option ℕ
late_fault bytes =
    let end = 12 + 65536 - word_in bytes 8 in
    if nat_lt (length bytes) 12 then Some (length bytes) else if nat_lt end (length bytes) then Some end else None

abbrev pub or_else : Option ℕ → Option ℕ → Option ℕ
or_else (Some at) other = Some at
or_else None other = other

-- the first offset that breaks the form
abbrev pub fault_of : List ℕ → Option ℕ
fault_of bytes = or_else (wrong_in fixed bytes 0) (or_else (cpu_fault bytes) (late_fault bytes))

-- what a file without a fault spells
abbrev pub image_of : List ℕ → Image
image_of bytes = record { cpu = cpu_of (slice_index bytes 6); sp = slice_index bytes 7; load = word_in bytes 8; reset = word_in bytes 10; payload = drop 12 bytes }

-- what reading a file answers: the image that it spells, or its fault
abbrev pub RefusesFor : Option ℕ → Refusal → Type 0
RefusesFor fault OutOfMemory = fault ≡ None
RefusesFor fault (BadImage offset) = fault ≡ Some offset
RefusesFor fault _ = ⊥

abbrev pub Parses : List ℕ → Result Image Refusal → Type 0
Parses bytes (Ok image) = (fault_of bytes ≡ None) × (image ≡ image_of bytes)
Parses bytes (Err refusal) = RefusesFor (fault_of bytes) refusal
