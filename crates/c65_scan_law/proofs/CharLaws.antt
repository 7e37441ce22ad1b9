-- The characters between quotes are bytes, as those of the spelling are.
use Rattle.std.proofs.Common.{◌≡◌, ℕ, zero, suc, ◌+◌, ◌-◌, ◌*◌, ◌<◌, ◌≤◌, ◌==◌, Bool, true, false, nat_le, nat_lt, if◌then◌else◌, List, [], ◌∷◌, length, take, drop, Option, Some, None, option_map, Result, Ok, Err, refl, arith}
use Rattle.std.proofs.lemmas.Bool.{leb-true}
use Rattle.c65_base.specs.declared.code.Code.{Code}
use Rattle.c65_scan.specs.declared.chars.Reading.{Reading}
use Rattle.c65_scan.specs.declared.chars.Reading.TheVariants as readings
use Rattle.c65_scan.specs.declared.chars.CharStep.{CharStep}
use Rattle.c65_scan.specs.declared.chars.CharStep.TheVariants as steps
use Rattle.c65_scan.specs.Digits.{is_between, octal_digit, hexadecimal_digit}
use Rattle.c65_scan.specs.Chars.{simple_escape, plain_step, next_step, octal_start, escape_step, octal_more, hexadecimal_first, hexadecimal_more, char_step, last_char, chars_from, inside, chars_of, only_char}
use Rattle.c65_scan_law.specs.Scanned.{AreBytes}

abbrev IsByte : Option ℕ → Type 0
IsByte (Some v) = v < 256
IsByte None = Unit {0}

abbrev IsByteReading : Reading → Type 0
IsByteReading (readings.Octal v n) = v < 256
IsByteReading (readings.Hexadecimal v) = v < 256
IsByteReading _ = Unit {0}

abbrev IsByteStep : CharStep → Type 0
IsByteStep (steps.Go q) = IsByteReading q
IsByteStep (steps.One a q) = (a < 256) × IsByteReading q
IsByteStep (steps.Two a b q) = (a < 256) × (b < 256) × IsByteReading q
IsByteStep steps.Bad = Unit {0}

abbrev pub AreSomeBytes : Option (List ℕ) → Type 0
AreSomeBytes (Some s) = AreBytes s
AreSomeBytes None = Unit {0}

-- of two choices that are bytes
byte_if : (b : Bool) (v : ℕ) (o : Option ℕ) → v < 256 → IsByte o → IsByte (if b then Some v else o)
byte_if true v o h w = h
byte_if false v o h w = w

step_if : (b : Bool) (x y : CharStep) → IsByteStep x → IsByteStep y → IsByteStep (if b then x else y)
step_if true x y h w = h
step_if false x y h w = w

escape_is_byte : (c : ℕ) → IsByte (simple_escape c)
escape_is_byte c = byte_if (c == 39) 39 _ (omega arith) (byte_if (c == 34) 34 _ (omega arith) (byte_if (c == 63) 63 _ (omega arith) (byte_if (c == 92) 92 _ (omega arith) (byte_if (c == 97) 7 _ (omega arith) (byte_if (c == 98) 8 _ (omega arith) (byte_if (c == 102) 12 _ (omega arith) (byte_if (c == 110) 10 _ (omega arith) (byte_if (c == 114) 13 _ (omega arith) (byte_if (c == 116) 9 _ (omega arith) (byte_if (c == 118) 11 None (omega arith) tt))))))))))

octal_is_byte : (c : ℕ) → c < 256 → IsByte (octal_digit c)
octal_is_byte c h = byte_if (is_between 48 55 c) (c - 48) None (omega arith) tt

hexadecimal_is_byte : (c : ℕ) → c < 256 → IsByte (hexadecimal_digit c)
hexadecimal_is_byte c h = byte_if (is_between 48 57 c) (c - 48) _ (omega arith) (byte_if (is_between 65 70 c) (c - 55) _ (omega arith) (byte_if (is_between 97 102 c) (c - 87) None (omega arith) tt))

plain_bytes : (c : ℕ) → c < 256 → IsByteStep (plain_step c)
plain_bytes c h = step_if (c == 92) _ _ tt (h, tt)

next_bytes : (v c : ℕ) → v < 256 → c < 256 → IsByteStep (next_step v c)
next_bytes v c w h = step_if (c == 92) _ _ (w, tt) (w, h, tt)

octal_start_bytes : (o : Option ℕ) (c : ℕ) → IsByte o → IsByteStep (octal_start o c)
octal_start_bytes (Some d) c h = h
octal_start_bytes None c h = step_if (c == 120) _ _ tt tt

escape_bytes : (o : Option ℕ) (c : ℕ) → IsByte o → c < 256 → IsByteStep (escape_step o c)
escape_bytes (Some v) c w h = (w, tt)
escape_bytes None c w h = octal_start_bytes (octal_digit c) c (octal_is_byte c h)

-- a value of at most 255, or a bad escape
capped_bytes : (x : ℕ) (q : Reading) → (x < 256 → IsByteReading q) → IsByteStep (if nat_le x 255 then steps.Go q else steps.Bad)
capped_bytes x q f = tested (nat_le x 255) refl
  where
    tested : (b : Bool) → nat_le x 255 ≡ b → IsByteStep (if b then steps.Go q else steps.Bad)
    tested true h = let k : x ≤ 255 = leb-true _ _ h in f (omega arith)
    tested false h = tt

octal_more_bytes : (o : Option ℕ) (v n c : ℕ) → v < 256 → c < 256 → IsByteStep (octal_more o v n c)
octal_more_bytes (Some d) v n c w h = capped_bytes (v * 8 + d) (readings.Octal (v * 8 + d) (n + 1)) (λ k. k)
octal_more_bytes None v n c w h = next_bytes v c w h

hexadecimal_first_bytes : (o : Option ℕ) → IsByte o → IsByteStep (hexadecimal_first o)
hexadecimal_first_bytes (Some d) h = h
hexadecimal_first_bytes None h = tt

hexadecimal_more_bytes : (o : Option ℕ) (v c : ℕ) → v < 256 → c < 256 → IsByteStep (hexadecimal_more o v c)
hexadecimal_more_bytes (Some d) v c w h = capped_bytes (v * 16 + d) (readings.Hexadecimal (v * 16 + d)) (λ k. k)
hexadecimal_more_bytes None v c w h = next_bytes v c w h

step_bytes : (r : Reading) (c : ℕ) → IsByteReading r → c < 256 → IsByteStep (char_step r c)
step_bytes readings.Plain c w h = plain_bytes c h
step_bytes readings.Escape c w h = escape_bytes (simple_escape c) c (escape_is_byte c) h
step_bytes (readings.Octal v n) c w h = step_if (nat_lt n 3) _ _ (octal_more_bytes (octal_digit c) v n c w h) (next_bytes v c w h)
step_bytes readings.HexadecimalMark c w h = hexadecimal_first_bytes (hexadecimal_digit c) (hexadecimal_is_byte c h)
step_bytes (readings.Hexadecimal v) c w h = hexadecimal_more_bytes (hexadecimal_digit c) v c w h

last_bytes : (r : Reading) → IsByteReading r → AreSomeBytes (last_char r)
last_bytes readings.Plain w = tt
last_bytes readings.Escape w = tt
last_bytes (readings.Octal v n) w = (w, tt)
last_bytes readings.HexadecimalMark w = tt
last_bytes (readings.Hexadecimal v) w = (w, tt)

one_more : (a : ℕ) (o : Option (List ℕ)) → a < 256 → AreSomeBytes o → AreSomeBytes (option_map (λ xs. a ∷ xs) o)
one_more a (Some xs) h w = (h, w)
one_more a None h w = tt

two_more : (a b : ℕ) (o : Option (List ℕ)) → a < 256 → b < 256 → AreSomeBytes o → AreSomeBytes (option_map (λ xs. a ∷ b ∷ xs) o)
two_more a b (Some xs) h k w = (h, (k, w))
two_more a b None h k w = tt

bytes_from : (r : Reading) (s : List ℕ) → IsByteReading r → AreBytes s → AreSomeBytes (chars_from r s)
bytes_from r [] w h = last_bytes r w
bytes_from r (c ∷ cs) w h = given (λ q k. bytes_from q cs k h.1) (char_step r c) (step_bytes r c w h.0)
  where
    given : ((q : Reading) → IsByteReading q → AreSomeBytes (chars_from q cs)) → (x : CharStep) → IsByteStep x → AreSomeBytes (elim x as (λ _. Option (List ℕ)) [ steps.Go q ↦ chars_from q cs | steps.One a q ↦ option_map (λ xs. a ∷ xs) (chars_from q cs) | steps.Two a b q ↦ option_map (λ xs. a ∷ b ∷ xs) (chars_from q cs) | steps.Bad ↦ None ])
    given rest (steps.Go q) k = rest q k
    given rest (steps.One a q) k = one_more a (chars_from q cs) k.0 (rest q k.1)
    given rest (steps.Two a b q) k = two_more a b (chars_from q cs) k.0 k.1 (rest q k.2)
    given rest steps.Bad k = tt

bytes_behind : (s : List ℕ) → AreBytes s → AreBytes (drop 1 s)
bytes_behind [] h = tt
bytes_behind (c ∷ cs) h = h.1

bytes_before : (n : ℕ) (s : List ℕ) → AreBytes s → AreBytes (take n s)
bytes_before zero s h = tt
bytes_before (suc n) [] h = tt
bytes_before (suc n) (c ∷ cs) h = (h.0, bytes_before n cs h.1)

pub chars_are_bytes : (s : List ℕ) → AreBytes s → AreSomeBytes (chars_of s)
chars_are_bytes s h = bytes_from readings.Plain (inside s) tt (bytes_before (length s - 2) (drop 1 s) (bytes_behind s h))

-- one byte, or a fault
abbrev pub IsByteAnswer : Result ℕ Code → Type 0
IsByteAnswer (Ok c) = c < 256
IsByteAnswer (Err code) = Unit {0}

pub only_is_byte : (o : Option (List ℕ)) → AreSomeBytes o → IsByteAnswer (only_char o)
only_is_byte None h = tt
only_is_byte (Some []) h = tt
only_is_byte (Some (c ∷ [])) h = h.0
only_is_byte (Some (c ∷ d ∷ cs)) h = tt
