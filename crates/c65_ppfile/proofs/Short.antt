-- The text of a built-in header is short.
use Rattle.std.proofs.Common.{◌≡◌, ◌≤◌, ◌+◌, ℕ, List, [], ◌++◌, length, length-append, refl, subst, sym, arith, Bool, true, false}
use Rattle.std.specs.Prelude.{◌&&◌, not, if◌then◌else◌}
use Rattle.c65_ppfile.specs.declared.headers.BuiltIn.{BuiltIn}
use Rattle.c65_ppfile.specs.declared.headers.BuiltIn.TheVariants.{Stdio, Stdlib, Strings, Stddef, Limits, Stdint, Stdarg}
use Rattle.c65_ppfile.specs.Headers.{text_of, size_text, plain_text, text_behind, is_among, is_sized, has_size}

few_of : (n m : ℕ) → n ≡ m → m ≤ 1024 → n ≤ 1024
few_of n m e h = omega (arith, e, h)

text_few : (h : BuiltIn) → length (text_of h) ≤ 1024
text_few Stdio = few_of (length (text_of Stdio)) 109 refl (omega arith)
text_few Stdlib = few_of (length (text_of Stdlib)) 86 refl (omega arith)
text_few Strings = few_of (length (text_of Strings)) 208 refl (omega arith)
text_few Stddef = few_of (length (text_of Stddef)) 47 refl (omega arith)
text_few Limits = few_of (length (text_of Limits)) 353 refl (omega arith)
text_few Stdint = few_of (length (text_of Stdint)) 165 refl (omega arith)
text_few Stdarg = few_of (length (text_of Stdarg)) 158 refl (omega arith)

size_few : (declares : Bool) → length (size_text declares) ≤ 1024
size_few true = few_of (length (size_text true)) 29 refl (omega arith)
size_few false = omega arith

plain_few : (signed : Bool) (h : BuiltIn) → length (plain_text signed h) ≤ 1024
plain_few true Limits = few_of (length (plain_text true Limits)) 45 refl (omega arith)
plain_few false Limits = few_of (length (plain_text false Limits)) 40 refl (omega arith)
plain_few signed Stdio = omega arith
plain_few signed Stdlib = omega arith
plain_few signed Strings = omega arith
plain_few signed Stddef = omega arith
plain_few signed Stdint = omega arith
plain_few signed Stdarg = omega arith

all_few : (a b c : List ℕ) → length a ≤ 1024 → length b ≤ 1024 → length c ≤ 1024 → length ((a ++ b) ++ c) ≤ 4096
all_few a b c h k l = omega (arith, length-append (a ++ b) c, length-append a b, h, k, l)

if_few : (b : Bool) (xs : List ℕ) → length xs ≤ 4096 → length (if b then [] else xs) ≤ 4096
if_few true xs e = omega arith
if_few false xs e = e

pub text_short : (signed : Bool) (hs : List BuiltIn) (h : BuiltIn) → length (text_behind signed hs h) ≤ 4096
text_short signed hs h =
    let size = size_text (has_size h && not (is_sized hs)) in
    if_few (is_among hs h) ((size ++ text_of h) ++ plain_text signed h) (all_few size (text_of h) (plain_text signed h) (size_few (has_size h && not (is_sized hs))) (text_few h) (plain_few signed h))
