-- Formats with their texts, worked out by hand.
use Rattle.std.proofs.Common.{◌≡◌, [], ◌∷◌, Some, None, codes, refl}
use Rattle.std.specs.Fmt.{digits}
use Rattle.c65_base.specs.Formats.{signed, unsigned, hexadecimal, signed_long, unsigned_long, character, string, plain, field, number, text, parts_of, numbers_in, text_of, text_by}

-- each conversion: -42 under a width, 255, A, hi, 100000; the last argument stands at the start of the block
each_conversion : text_by (codes "%5d|%x|%c|%s|%ld|%%\n") (160 ∷ 134 ∷ 1 ∷ 0 ∷ 0 ∷ 48 ∷ 65 ∷ 0 ∷ 255 ∷ 0 ∷ 214 ∷ 255 ∷ []) (codes "hi" ∷ []) ≡ Some (codes "  -42|ff|A|hi|100000|%\n")
unfolding digits
each_conversion = refl

edge_words : text_of (field 0 signed ∷ plain 32 ∷ field 0 signed ∷ plain 32 ∷ field 0 unsigned ∷ []) (number 32768 ∷ number 32767 ∷ number 65535 ∷ []) ≡ Some (codes "-32768 32767 65535")
unfolding digits
edge_words = refl

edge_longs : text_of (field 0 signed_long ∷ plain 32 ∷ field 0 unsigned_long ∷ []) (number 2147483648 ∷ number 4294967295 ∷ []) ≡ Some (codes "-2147483648 4294967295")
unfolding digits
edge_longs = refl

-- zero has one digit, hexadecimal has small letters, and a character is the low byte
small_ones : text_of (field 0 hexadecimal ∷ plain 32 ∷ field 0 hexadecimal ∷ plain 32 ∷ field 3 character ∷ []) (number 0 ∷ number 43981 ∷ number 321 ∷ []) ≡ Some (codes "0 abcd   A")
unfolding digits
small_ones = refl

-- a text longer than the width is whole, and an empty one is all spaces
widths : text_of (field 3 string ∷ field 2 string ∷ field 12 signed ∷ []) (text (codes "whole") ∷ text [] ∷ number 7 ∷ []) ≡ Some (codes "whole             7")
unfolding digits
widths = refl

parts : parts_of (codes "a%12ld%%%c") ≡ Some (plain 97 ∷ field 12 signed_long ∷ plain 37 ∷ field 0 character ∷ [])
parts = refl

-- what is no format: a lone `%` at the end, a leading zero, a width of three digits, a flag, a width before `%`, another conversion
lone_percent : parts_of (codes "a%") ≡ None
lone_percent = refl

leading_zero : parts_of (codes "%05d") ≡ None
leading_zero = refl

three_digits : parts_of (codes "%100d") ≡ None
three_digits = refl

flag : parts_of (codes "%-5d") ≡ None
flag = refl

width_of_percent : parts_of (codes "%5%") ≡ None
width_of_percent = refl

other_letter : parts_of (codes "%lx") ≡ None
other_letter = refl

-- a long takes four bytes, and what lacks has no number
lacking : numbers_in (field 0 signed ∷ field 0 signed_long ∷ []) (1 ∷ 0 ∷ 2 ∷ 0 ∷ []) ≡ None
lacking = refl

taken : numbers_in (field 0 signed ∷ field 0 unsigned_long ∷ []) (1 ∷ 2 ∷ 3 ∷ 4 ∷ 5 ∷ 6 ∷ []) ≡ Some (1541 ∷ 67305985 ∷ [])
taken = refl
