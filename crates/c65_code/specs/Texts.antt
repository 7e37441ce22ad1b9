-- Bytes in memory as the library's functions read and write them (C90 7.11).
use Rattle.std.specs.Prelude.{ℕ, zero, suc, ◌+◌, ◌-◌, ◌==◌, nat_lt, if◌then◌else◌, List, [], ◌∷◌}
use Rattle.c65_code.specs.LineState.{Bytes, write}

-- so many bytes from an address on
abbrev pub bytes_at : ℕ → ℕ → Bytes → List ℕ
bytes_at zero at m = []
bytes_at (suc count) at m = m at ∷ bytes_at count (at + 1) m

-- so many addresses from one on
abbrev pub range_of : ℕ → ℕ → List ℕ
range_of zero at = []
range_of (suc count) at = at ∷ range_of count (at + 1)

-- writes of one byte to so many addresses
abbrev pub filled : ℕ → ℕ → ℕ → List (ℕ × ℕ)
filled zero at v = []
filled (suc count) at v = (at, v) ∷ filled count (at + 1) v

-- writes of given bytes one after another
abbrev pub listed : List ℕ → ℕ → List (ℕ × ℕ)
listed [] at = []
listed (v ∷ vs) at = (at, v) ∷ listed vs (at + 1)

-- writes that copy so many bytes, ascending: a byte is read after the writes before it
abbrev pub copied : ℕ → ℕ → ℕ → Bytes → List (ℕ × ℕ)
copied zero to from m = []
copied (suc count) to from m = (to, m from) ∷ copied count (to + 1) (from + 1) (write m to (m from))

-- how many bytes other than zero an ascending copy reads before a zero byte, at most so many
abbrev pub copy_within : ℕ → ℕ → ℕ → Bytes → ℕ
copy_within zero to from m = 0
copy_within (suc fuel) to from m = if m from == 0 then 0 else suc (copy_within fuel (to + 1) (from + 1) (write m to (m from)))

-- a copy that reads no zero within all addresses has their number
unfoldable pub copy_length : ℕ → ℕ → Bytes → ℕ
copy_length to from m = copy_within 65536 to from m

-- bytes up to the first zero, at most so many
abbrev pub length_within : ℕ → ℕ → Bytes → ℕ
length_within zero at m = 0
length_within (suc fuel) at m = if m at == 0 then 0 else suc (length_within fuel (at + 1) m)

-- the length of the text at an address; a text that does not end within all addresses has their number
unfoldable pub text_length : ℕ → Bytes → ℕ
text_length at m = length_within 65536 at m

-- the text at an address, and the addresses of its bytes with the zero behind them
abbrev pub text_at : ℕ → Bytes → List ℕ
text_at at m = bytes_at (text_length at m) at m

abbrev pub text_range : ℕ → Bytes → List ℕ
text_range at m = range_of (text_length at m + 1) at

-- how many bytes two texts have in common before they differ or both end, at most so many
abbrev pub common_within : ℕ → ℕ → ℕ → Bytes → ℕ
common_within zero a b m = 0
common_within (suc fuel) a b m = if m a == m b then (if m a == 0 then 0 else suc (common_within fuel (a + 1) (b + 1) m)) else 0

unfoldable pub common_length : ℕ → ℕ → Bytes → ℕ
common_length a b m = common_within 65536 a b m

-- the difference of two bytes as a word of 16 bits
abbrev pub difference : ℕ → ℕ → ℕ
difference a b = if nat_lt a b then 65536 + a - b else a - b
