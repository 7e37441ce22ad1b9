-- The lines that stand for calls of functions of the library: what they keep of a segment.
use Rattle.std.proofs.Common.{◌≡◌, ℕ, zero, suc, ◌+◌, ◌*◌, ◌/◌, ◌%◌, ◌≤◌, ◌==◌, ◌&&◌, Bool, true, false, if◌then◌else◌, List, [], ◌∷◌, ◌++◌, Option, Some, None, nat_le, refl, subst, arith}
use Rattle.std.specs.List.{list_all}
use Rattle.std.proofs.lemmas.Bool.{and_parts, and_from, leb-true}
use Rattle.std.proofs.lemmas.List.Elements.{All-append}
use Rattle.c65_base.specs.declared.library.Library.{Library}
use Rattle.c65_base.specs.declared.library.Library.TheVariants.{Memcpy, Memset, Strcmp, Strcpy, Strlen}
use Rattle.c65_mach.specs.declared.rows.Op.{Op}
use Rattle.c65_mach.specs.declared.rows.Op.TheVariants as ops
use Rattle.c65_mach.specs.declared.rows.Mode.TheVariants.{Immediate}
use Rattle.c65_code.specs.declared.routine.Routine.TheVariants as routines
use Rattle.c65_code.specs.declared.line.Operand.{Operand}
use Rattle.c65_code.specs.declared.line.Operand.TheVariants.{Byte, Low, High}
use Rattle.c65_code.specs.declared.line.Callee.TheVariants as callees
use Rattle.c65_code.specs.declared.line.Line.{Line}
use Rattle.c65_code.specs.declared.line.Line.TheVariants.{Do, Call}
use Rattle.c65_code.specs.declared.line.Sym.{Sym}
use Rattle.c65_code.specs.Segments.{is_fit, target_of}
use Rattle.c65_code.specs.Weights.{lines_size}
use Rattle.c65_code.specs.Writable.{IsLineWritable}
use Rattle.c65_pass.specs.KnownCalls.{text_loaded, at_most, count_loaded, with_value, on_zero, through, once_and, times, byte_copied, byte_filled, given_back, measured, copied, filled, text_copied, compared, call_known, lines_known}
use Rattle.c65_pass.specs.Registers.{alone}
use Rattle.c65_pass.specs.StackRules.{call_of, word_loaded}
use Rattle.c65_pass.proofs.Plain.{IsStandIn, all_cut}
use Rattle.c65_pass.proofs.Windows.{all_from, size-append}
use Rattle.c65_optlib.proofs.Bare.{is_bare, all_writable, bare_targets, bare_labels, closed_any}

-- ---- lines that may stand anywhere

-- a line that is fit and names no symbol
abbrev is_plain : Line → Bool
is_plain line = is_fit line && is_bare line

all_plain : (lines : List Line) → list_all is_plain lines ≡ true → (list_all is_fit lines ≡ true) × (list_all is_bare lines ≡ true)
all_plain [] h = (refl, refl)
all_plain (line ∷ lines) h =
    let first = and_parts (is_plain line) (list_all is_plain lines) h in
    let here = and_parts (is_fit line) (is_bare line) first.0 in
    let rest = all_plain lines first.1 in
    (and_from (is_fit line) (list_all is_fit lines) here.0 rest.0, and_from (is_bare line) (list_all is_bare lines) here.1 rest.1)

plain_once : (lines : List Line) (n : ℕ) → list_all is_plain lines ≡ true → list_all is_plain (once_and lines n) ≡ true
plain_once lines zero h = h
plain_once lines (suc n) h = all_from is_plain (once_and lines n) (alone ops.Iny ∷ lines) (plain_once lines n h) h

plain_times : (lines : List Line) (n : ℕ) → list_all is_plain lines ≡ true → list_all is_plain (times lines n) ≡ true
plain_times lines zero h = refl
plain_times lines (suc n) h = plain_once lines n h

-- ---- how many bytes they take

once_copied_size : (n : ℕ) → lines_size (once_and byte_copied n) ≡ 4 + 5 * n
once_copied_size zero = refl
once_copied_size (suc n) = omega (arith, size-append (once_and byte_copied n) (alone ops.Iny ∷ byte_copied), once_copied_size n)

copied_size : (n : ℕ) → lines_size (times byte_copied n) ≤ 5 * n
copied_size zero = omega arith
copied_size (suc n) = omega (arith, once_copied_size n)

once_filled_size : (n : ℕ) → lines_size (once_and byte_filled n) ≡ 2 + 3 * n
once_filled_size zero = refl
once_filled_size (suc n) = omega (arith, size-append (once_and byte_filled n) (alone ops.Iny ∷ byte_filled), once_filled_size n)

filled_size : (n : ℕ) → lines_size (times byte_filled n) ≤ 3 * n
filled_size zero = omega arith
filled_size (suc n) = omega (arith, once_filled_size n)

-- ---- two loads and a call

-- the two loads of a word, in either order
data IsLoad : Line → Line → Operand → Operand → Type 0 where
  high_first : {h l : Operand} → IsLoad (Do ops.Ldx Immediate h) (Do ops.Lda Immediate l) h l
  low_first : {h l : Operand} → IsLoad (Do ops.Lda Immediate l) (Do ops.Ldx Immediate h) h l

both_are : (h l : Operand) (word : Operand × Operand) (one other : Line) → Some (h, l) ≡ Some word → IsLoad one other h l → IsLoad one other word.0 word.1
both_are h l word one other e load =
    let is : (let w : Operand × Operand = (h, l) in w) ≡ word = cc in
    subst (λ (w : Operand × Operand). IsLoad one other w.0 w.1) is load

loads : (one other : Line) (word : Operand × Operand) → word_loaded one other ≡ Some word → IsLoad one other word.0 word.1
loads (Do ops.Ldx Immediate h) (Do ops.Lda Immediate l) word e = both_are h l word (Do ops.Ldx Immediate h) (Do ops.Lda Immediate l) e high_first
loads (Do ops.Lda Immediate l) (Do ops.Ldx Immediate h) word e = both_are h l word (Do ops.Lda Immediate l) (Do ops.Ldx Immediate h) e low_first
loads _ _ word e = absurd cc

abbrev window : Line → Line → Library → List Line
window one other f = one ∷ other ∷ call_of (routines.Library f) ∷ []

-- lines of their own in the place of all three
fresh_of : (op next : Op) (h l : Operand) (f : Library) (new : List Line) → list_all is_plain new ≡ true → lines_size new ≤ 64
    → IsStandIn (window (Do op Immediate h) (Do next Immediate l) f) new
fresh_of op next h l f new plain size =
    let parts = all_plain new plain in
    record {
      bare = refl;
      plain = bare_labels new parts.1;
      still = λ fit. bare_targets new parts.1;
      fit = λ fit. parts.0;
      onward = λ b post k. closed_any b new post k;
      size = omega (arith, size);
      writable = λ n all. all_writable n new parts.1;
    }

fresh : (one other : Line) (h l : Operand) (f : Library) (new : List Line) → IsLoad one other h l → list_all is_plain new ≡ true → lines_size new ≤ 64 → IsStandIn (window one other f) new
fresh _ _ h l f new high_first plain size = fresh_of ops.Ldx ops.Lda h l f new plain size
fresh _ _ h l f new low_first plain size = fresh_of ops.Lda ops.Ldx l h f new plain size

-- the two loads as they are, and lines in the place of the call
behind_of : (op next : Op) (h l : Operand) (f : Library) (new : List Line) → target_of (Do op Immediate h) ≡ [] → target_of (Do next Immediate l) ≡ []
    → list_all is_plain new ≡ true → lines_size new ≤ 60 → IsStandIn (window (Do op Immediate h) (Do next Immediate l) f) (Do op Immediate h ∷ Do next Immediate l ∷ new)
behind_of op next h l f new here there plain size =
    let one : Line = Do op Immediate h in
    let other : Line = Do next Immediate l in
    let parts = all_plain new plain in
    record {
      bare = refl;
      plain = bare_labels new parts.1;
      still = λ fit. rw (here, there) (bare_targets new parts.1);
      fit = λ fit.
          let first = and_parts (is_fit one) _ fit in
          let second = and_parts (is_fit other) _ first.1 in
          and_from (is_fit one) (list_all is_fit (other ∷ new)) first.0 (and_from (is_fit other) (list_all is_fit new) second.0 parts.0);
      onward = λ b post k. closed_any b (one ∷ other ∷ new) post k;
      size = omega (arith, size);
      writable = λ n all.
          let kept = (all_cut (IsLineWritable n) (one ∷ other ∷ []) (call_of (routines.Library f) ∷ []) all).0 in
          All-append (IsLineWritable n) (one ∷ other ∷ []) new kept (all_writable n new parts.1);
    }

-- the loads of an address
behind : (one other : Line) (s t : Sym) (o p : ℕ) (f : Library) (new : List Line) → IsLoad one other (High s o) (Low t p) → list_all is_plain new ≡ true → lines_size new ≤ 60
    → IsStandIn (window one other f) (one ∷ other ∷ new)
behind _ _ s t o p f new high_first plain size = behind_of ops.Ldx ops.Lda (High s o) (Low t p) f new refl refl plain size
behind _ _ s t o p f new low_first plain size = behind_of ops.Lda ops.Ldx (Low t p) (High s o) f new refl refl plain size

-- ---- numbers that loads show

shown : (b : Bool) (n m : ℕ) → (if b then Some n else None) ≡ Some m → (b ≡ true) × (n ≡ m)
shown true n m e = (refl, cc)
shown false n m e = absurd cc

few : (word : Option (Operand × Operand)) (n : ℕ) → count_loaded word ≡ Some n → n ≤ 8
few (Some (Byte h, Byte l)) n e =
    let is = shown ((h == 0) && (nat_le 1 l && nat_le l 8)) l n e in
    let range = and_parts (nat_le 1 l) (nat_le l 8) (and_parts (h == 0) (nat_le 1 l && nat_le l 8) is.0).1 in
    omega (arith, leb-true l 8 range.1, is.1)
few _ n e = absurd cc

short : (most : ℕ) (length : Option ℕ) (n : ℕ) → at_most most length ≡ Some n → n ≤ most
short most None n e = absurd cc
short most (Some l) n e =
    let is = shown (nat_le l most) l n e in
    omega (arith, leb-true l most is.0, is.1)

-- ---- the lines of each function

measured_stands : (one other : Line) (h l : Operand) (length : Option ℕ) (ls : List Line) → IsLoad one other h l → measured length ≡ Some ls → IsStandIn (window one other Strlen) ls
measured_stands one other h l None ls load m = absurd cc
measured_stands one other h l (Some n) ls load m =
    let new : List Line = with_value ops.Ldx (n / 256) ∷ with_value ops.Lda (n % 256) ∷ [] in
    let is : new ≡ ls = cc in
    subst (IsStandIn (window one other Strlen)) is (fresh one other h l Strlen new load refl (omega arith))

copied_stands : (one other : Line) (h l : Operand) (count : Option ℕ) (ls : List Line) → ((n : ℕ) → count ≡ Some n → n ≤ 8) → IsLoad one other h l → copied count ≡ Some ls
    → IsStandIn (window one other Memcpy) ls
copied_stands one other h l None ls some load m = absurd cc
copied_stands one other h l (Some n) ls some load m =
    let copies : List Line = times byte_copied n in
    let new : List Line = call_of routines.PopPtrs ∷ with_value ops.Ldy 0 ∷ (copies ++ given_back) in
    let is : new ≡ ls = cc in
    let plain = all_from is_plain copies given_back (plain_times byte_copied n refl) refl in
    subst (IsStandIn (window one other Memcpy)) is (fresh one other h l Memcpy new load plain (omega (arith, some n refl, size-append copies given_back, copied_size n)))

filled_stands : (one other : Line) (h l : Operand) (count : Option ℕ) (ls : List Line) → ((n : ℕ) → count ≡ Some n → n ≤ 8) → IsLoad one other h l → filled count ≡ Some ls
    → IsStandIn (window one other Memset) ls
filled_stands one other h l None ls some load m = absurd cc
filled_stands one other h l (Some n) ls some load m =
    let fills : List Line = times byte_filled n in
    let new : List Line = call_of routines.PopPtrs ∷ with_value ops.Ldy 0 ∷ on_zero ops.Lda 8 ∷ (fills ++ given_back) in
    let is : new ≡ ls = cc in
    let plain = all_from is_plain fills given_back (plain_times byte_filled n refl) refl in
    subst (IsStandIn (window one other Memset)) is (fresh one other h l Memset new load plain (omega (arith, some n refl, size-append fills given_back, filled_size n)))

text_of : (s t : Sym) (o p : ℕ) (one other : Line) (length : Option ℕ) (ls : List Line) → ((n : ℕ) → length ≡ Some n → n ≤ 7) → IsLoad one other (High s o) (Low t p)
    → text_copied one other length ≡ Some ls → IsStandIn (window one other Strcpy) ls
text_of s t o p one other None ls some load m = absurd cc
text_of s t o p one other (Some n) ls some load m =
    let copies : List Line = times byte_copied (n + 1) in
    let new : List Line = on_zero ops.Sta 8 ∷ on_zero ops.Stx 9 ∷ call_of routines.PopAx ∷ on_zero ops.Sta 10 ∷ on_zero ops.Stx 11 ∷ with_value ops.Ldy 0 ∷ (copies ++ given_back) in
    let is : one ∷ other ∷ new ≡ ls = cc in
    let plain = all_from is_plain copies given_back (plain_times byte_copied (n + 1) refl) refl in
    subst (IsStandIn (window one other Strcpy)) is (behind one other s t o p Strcpy new load plain (omega (arith, some n refl, size-append copies given_back, copied_size (n + 1))))

text_stands : (literals : List (Sym × List ℕ)) (one other : Line) (h l : Operand) (ls : List Line) → IsLoad one other h l → text_copied one other (at_most 7 (text_loaded literals (Some (h, l)))) ≡ Some ls
    → IsStandIn (window one other Strcpy) ls
text_stands literals one other (High s o) (Low t p) ls load m =
    let length = at_most 7 (text_loaded literals (Some (High s o, Low t p))) in
    text_of s t o p one other length ls (λ n e. short 7 (text_loaded literals (Some (High s o, Low t p))) n e) load m
text_stands literals one other _ _ ls load m = absurd cc

compared_stands : (one other : Line) (h l : Operand) (length : Option ℕ) (ls : List Line) → IsLoad one other h l → compared length ≡ Some ls → IsStandIn (window one other Strcmp) ls
compared_stands one other h l None ls load m = absurd cc
compared_stands one other h l (Some n) ls load m =
    let new : List Line = call_of routines.PopAx ∷ on_zero ops.Sta 8 ∷ on_zero ops.Stx 9 ∷ with_value ops.Ldy 0 ∷ through ops.Lda 8 ∷ with_value ops.Ldx 0 ∷ [] in
    let is : new ≡ ls = cc in
    subst (IsStandIn (window one other Strcmp)) is (fresh one other h l Strcmp new load refl (omega arith))

function_stands : (literals : List (Sym × List ℕ)) (f : Library) (one other : Line) (h l : Operand) (ls : List Line) → IsLoad one other h l → call_known literals f one other (Some (h, l)) ≡ Some ls
    → IsStandIn (window one other f) ls
function_stands literals Strlen one other h l ls load m = measured_stands one other h l (at_most 65535 (text_loaded literals (Some (h, l)))) ls load m
function_stands literals Memcpy one other h l ls load m = copied_stands one other h l (count_loaded (Some (h, l))) ls (few (Some (h, l))) load m
function_stands literals Memset one other h l ls load m = filled_stands one other h l (count_loaded (Some (h, l))) ls (few (Some (h, l))) load m
function_stands literals Strcpy one other h l ls load m = text_stands literals one other h l ls load m
function_stands literals Strcmp one other h l ls load m = compared_stands one other h l (at_most 0 (text_loaded literals (Some (h, l)))) ls load m
function_stands literals _ one other h l ls load m = absurd cc

no_word : (literals : List (Sym × List ℕ)) (f : Library) (one other : Line) (ls : List Line) → call_known literals f one other None ≡ Some ls → ⊥
no_word literals Strlen one other ls m = cc
no_word literals Memcpy one other ls m = cc
no_word literals Memset one other ls m = cc
no_word literals Strcpy one other ls m = cc
no_word literals Strcmp one other ls m = cc
no_word literals _ one other ls m = cc

word_stands : (literals : List (Sym × List ℕ)) (f : Library) (one other : Line) (word : Option (Operand × Operand)) (ls : List Line) → word_loaded one other ≡ word
    → call_known literals f one other word ≡ Some ls → IsStandIn (window one other f) ls
word_stands literals f one other None ls is m = absurd (no_word literals f one other ls m)
word_stands literals f one other (Some (h, l)) ls is m = function_stands literals f one other h l ls (loads one other (h, l) is) m

pub lines_stand : (literals : List (Sym × List ℕ)) (one other call : Line) (ls : List Line) → lines_known literals one other call ≡ Some ls → IsStandIn (one ∷ other ∷ call ∷ []) ls
lines_stand literals one other (Call (callees.Routine (routines.Library f))) ls m = word_stands literals f one other (word_loaded one other) ls refl m
lines_stand literals one other _ ls m = absurd cc
