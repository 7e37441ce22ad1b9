use Rattle.std.proofs.Common.{◌≡◌, drop}
use Rattle.std.specs.List.{list_all}
use Rattle.c65_code.specs.Writable.{is_letter_or_digit}
use Rattle.c65_asm.proofs.words.are_letters_or_digits.Given as goal

abbrev pub invariant-loop-byte : goal.invariant-loop-byte
invariant-loop-byte l = list_all is_letter_or_digit (drop l.byte-index l.text) ≡ list_all is_letter_or_digit l.text
