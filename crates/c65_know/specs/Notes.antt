-- What is known of the registers, of five bytes of the zero page, and of the flags: for each its value, where that is one number
-- whichever way a run comes.
use Rattle.std.specs.Prelude.{ℕ, ◌==◌, Bool, true, false, ◌&&◌, if◌then◌else◌, List, [], ◌∷◌, Option, Some, None}
use Rattle.c65_mach.specs.State.{State, read}
use Rattle.c65_code.specs.declared.parts.RegSet.{RegSet}
use Rattle.c65_code.specs.declared.parts.Part.TheVariants as parts
use Rattle.c65_code.specs.Parts.{has_part}
use Rattle.c65_know.specs.declared.note.Note.{Note}
use Rattle.c65_know.specs.declared.note.Tracked.{Tracked}
use Rattle.c65_know.specs.declared.note.Tracked.TheVariants.{A, X, Y, S0, S1, P0, P1, T1}
use Rattle.c65_know.specs.declared.note.Flag.{Flag}
use Rattle.c65_know.specs.declared.note.Flag.TheVariants.{N, V, Z, C}

abbrev pub known_byte : Note → Tracked → Option ℕ
known_byte n A = n.a
known_byte n X = n.x
known_byte n Y = n.y
known_byte n S0 = n.s0
known_byte n S1 = n.s1
known_byte n P0 = n.p0
known_byte n P1 = n.p1
known_byte n T1 = n.t1

abbrev pub known_flag : Note → Flag → Option Bool
known_flag n N = n.n
known_flag n V = n.v
known_flag n Z = n.z
known_flag n C = n.c

-- all that a note says, byte by byte and flag by flag
abbrev pub bytes_of : Note → List (Option ℕ)
bytes_of n = n.a ∷ n.x ∷ n.y ∷ n.s0 ∷ n.s1 ∷ n.p0 ∷ n.p1 ∷ n.t1 ∷ []

abbrev pub flags_of : Note → List (Option Bool)
flags_of n = n.n ∷ n.v ∷ n.z ∷ n.c ∷ []

abbrev pub with_flag : Flag → Bool → Note → Note
with_flag N b n = record n { n = Some b }
with_flag V b n = record n { v = Some b }
with_flag Z b n = record n { z = Some b }
with_flag C b n = record n { c = Some b }

abbrev pub nothing_known : Note
nothing_known = record { a = None; x = None; y = None; s0 = None; s1 = None; p0 = None; p1 = None; t1 = None; n = None; v = None; z = None; c = None }

-- the tracked bytes of the zero page: sreg, ptr1 and tmp1
abbrev pub tracked_at : ℕ → Option Tracked
tracked_at i = if i == 2 then Some S0 else (if i == 3 then Some S1 else (if i == 8 then Some P0 else (if i == 9 then Some P1 else (if i == 16 then Some T1 else None))))

abbrev pub byte_of : Note → Option Tracked → Option ℕ
byte_of n None = None
byte_of n (Some t) = known_byte n t

abbrev pub zero_byte : Note → ℕ → Option ℕ
zero_byte n i = byte_of n (tracked_at i)

abbrev pub with_tracked : Option Tracked → Option ℕ → Note → Note
with_tracked (Some A) v n = record n { a = v }
with_tracked (Some X) v n = record n { x = v }
with_tracked (Some Y) v n = record n { y = v }
with_tracked (Some S0) v n = record n { s0 = v }
with_tracked (Some S1) v n = record n { s1 = v }
with_tracked (Some P0) v n = record n { p0 = v }
with_tracked (Some P1) v n = record n { p1 = v }
with_tracked (Some T1) v n = record n { t1 = v }
with_tracked None v n = n

abbrev pub with_zero_byte : ℕ → Option ℕ → Note → Note
with_zero_byte i v n = with_tracked (tracked_at i) v n

abbrev pub without_zero_page : Note → Note
without_zero_page n = record n { s0 = None; s1 = None; p0 = None; p1 = None; t1 = None }

-- a value that both know
abbrev pub agreed : Option ℕ → Option ℕ → Option ℕ
agreed (Some v) (Some w) = if v == w then Some v else None
agreed _ _ = None

abbrev pub same : Bool → Bool → Bool
same true b = b
same false true = false
same false false = true

abbrev pub agreed_flag : Option Bool → Option Bool → Option Bool
agreed_flag (Some b) (Some d) = if same b d then Some b else None
agreed_flag _ _ = None

-- what both notes know
abbrev pub meet : Note → Note → Note
meet n m = record { a = agreed n.a m.a; x = agreed n.x m.x; y = agreed n.y m.y; s0 = agreed n.s0 m.s0; s1 = agreed n.s1 m.s1; p0 = agreed n.p0 m.p0; p1 = agreed n.p1 m.p1; t1 = agreed n.t1 m.t1; n = agreed_flag n.n m.n; v = agreed_flag n.v m.v; z = agreed_flag n.z m.z; c = agreed_flag n.c m.c }

abbrev pub unless : {A : Type 0} → Bool → Option A → Option A
unless true v = None
unless false v = v

-- what stays known where these parts may change
abbrev pub forgetting : RegSet → Note → Note
forgetting s n = record {
  a = unless (has_part s parts.A) n.a;
  x = unless (has_part s parts.X) n.x;
  y = unless (has_part s parts.Y) n.y;
  s0 = unless (has_part s (parts.Zp 2)) n.s0;
  s1 = unless (has_part s (parts.Zp 3)) n.s1;
  p0 = unless (has_part s (parts.Zp 8)) n.p0;
  p1 = unless (has_part s (parts.Zp 9)) n.p1;
  t1 = unless (has_part s (parts.Zp 16)) n.t1;
  n = unless (has_part s parts.N) n.n;
  v = unless (has_part s parts.V) n.v;
  z = unless (has_part s parts.Z) n.z;
  c = unless (has_part s parts.C) n.c;
}

-- whether what is known is so
abbrev pub is_so : Option ℕ → ℕ → Bool
is_so None v = true
is_so (Some w) v = w == v

abbrev pub is_set_so : Option Bool → Bool → Bool
is_set_so None b = true
is_set_so (Some d) b = same d b

abbrev pub are_bytes_so : Note → State → Bool
are_bytes_so n t =
    is_so n.a t.regs.a && is_so n.x t.regs.x && is_so n.y t.regs.y
    && is_so n.s0 (read t.mem 2) && is_so n.s1 (read t.mem 3) && is_so n.p0 (read t.mem 8) && is_so n.p1 (read t.mem 9) && is_so n.t1 (read t.mem 16)

abbrev pub are_flags_so : Note → State → Bool
are_flags_so n t = is_set_so n.n t.regs.n && is_set_so n.v t.regs.v && is_set_so n.z t.regs.z && is_set_so n.c t.regs.c

-- whether all that is known holds of a machine
abbrev pub holds : Note → State → Bool
holds n t = are_bytes_so n t && are_flags_so n t

abbrev pub holds_of : Option Note → State → Bool
holds_of None t = true
holds_of (Some n) t = holds n t
