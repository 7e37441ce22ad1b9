-- Sets of parts: the registers, the flags, and the zero-page bytes $00 to $19.
use Rattle.std.specs.Prelude.{ℕ, ◌-◌, ◌^◌, ◌<◌, ◌==◌, ◌&&◌, ◌||◌, not, Bool, true, false, IsTrue, nat_lt, bit_and, bit_or, bit_xor, List, [], ◌∷◌}
use Rattle.std.specs.Int.{bit_at}
use Rattle.c65_code.specs.declared.parts.Part.{Part}
use Rattle.c65_code.specs.declared.parts.Part.TheVariants.{A, X, Y, Zp, N, V, Z, C}
use Rattle.c65_code.specs.declared.parts.RegSet.{RegSet}

-- a byte of the zero page is a part where its address is below 26
abbrev pub IsPart : Part → Type 0
IsPart (Zp i) = i < 26
IsPart _ = Unit {0}

abbrev pub is_part : Part → Bool
is_part (Zp i) = nat_lt i 26
is_part _ = true

abbrev pub has_part : RegSet → Part → Bool
has_part s A = s.a
has_part s X = s.x
has_part s Y = s.y
has_part s (Zp i) = bit_at s.zero_page i == 1
has_part s N = s.n
has_part s V = s.v
has_part s Z = s.z
has_part s C = s.c

abbrev pub no_parts : RegSet
no_parts = record { a = false; x = false; y = false; n = false; v = false; z = false; c = false; zero_page = 0 }

abbrev pub all_parts : RegSet
all_parts = record { a = true; x = true; y = true; n = true; v = true; z = true; c = true; zero_page = 0x3FFFFFF }

abbrev pub with_part : Part → RegSet → RegSet
with_part A s = record s { a = true }
with_part X s = record s { x = true }
with_part Y s = record s { y = true }
with_part (Zp i) s = record s { zero_page = bit_or s.zero_page (2 ^ i) }
with_part N s = record s { n = true }
with_part V s = record s { v = true }
with_part Z s = record s { z = true }
with_part C s = record s { c = true }

abbrev pub with_parts : List Part → RegSet → RegSet
with_parts [] s = s
with_parts (p ∷ ps) s = with_parts ps (with_part p s)

abbrev pub set_of : List Part → RegSet
set_of parts = with_parts parts no_parts

-- the zero-page bytes from one address up to another
abbrev pub zero_bytes : ℕ → ℕ → RegSet
zero_bytes from to = record no_parts { zero_page = 2 ^ to - 2 ^ from }

abbrev pub union_of : RegSet → RegSet → RegSet
union_of s t = record { a = s.a || t.a; x = s.x || t.x; y = s.y || t.y; n = s.n || t.n; v = s.v || t.v; z = s.z || t.z; c = s.c || t.c; zero_page = bit_or s.zero_page t.zero_page }

abbrev pub minus_of : RegSet → RegSet → RegSet
minus_of s t = record { a = s.a && not t.a; x = s.x && not t.x; y = s.y && not t.y; n = s.n && not t.n; v = s.v && not t.v; z = s.z && not t.z; c = s.c && not t.c; zero_page = bit_xor s.zero_page (bit_and s.zero_page t.zero_page) }

-- all parts of the one are in the other
abbrev pub IsWithin : RegSet → RegSet → Type 0
IsWithin s t = (part : Part) → IsTrue (has_part s part) → IsTrue (has_part t part)
