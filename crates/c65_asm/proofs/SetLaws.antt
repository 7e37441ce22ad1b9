-- A set of registers is read as it is written.
use Rattle.std.proofs.Common.{◌≡◌, ℕ, ◌&&◌, Bool, true, false, Some, refl, sym, ap, ◌∙◌}
use Rattle.std.specs.Int.Bits.{bit_xor, xor_zero_r, and_zero_r}
use Rattle.c65_code.specs.declared.parts.RegSet.{RegSet}
use Rattle.c65_code.specs.Parts.{no_parts, union_of, minus_of}
use Rattle.c65_code.specs.Effects.{ax, only_y, sreg_bytes}
use Rattle.c65_code.specs.Writable.{IsLetters, without_sreg, with_sreg}
use Rattle.c65_asm.specs.Text.{set_text}
use Rattle.c65_asm.specs.Words.{set_in}
use Rattle.c65_asm.proofs.WordLaws.{lacks}

abbrev made : Bool → Bool → Bool → Bool → Bool → Bool → Bool → ℕ → RegSet
made a x y n v z c zero_page = record { a = a; x = x; y = y; n = n; v = v; z = z; c = c; zero_page = zero_page }

and_true : (b : Bool) → (b && true) ≡ b
and_true true = refl
and_true false = refl

-- what is left of a set without A, X and Y says what else is in it
split : (s t : RegSet) → minus_of s (union_of ax only_y) ≡ t → t.n ≡ false → t.v ≡ false → t.z ≡ false → t.c ≡ false → s ≡ made s.a s.x s.y false false false false t.zero_page
split s t h n v z c =
    let en : s.n ≡ false = sym (and_true s.n) ∙ ap (λ (r : RegSet). r.n) h ∙ n in
    let ev : s.v ≡ false = sym (and_true s.v) ∙ ap (λ (r : RegSet). r.v) h ∙ v in
    let ez : s.z ≡ false = sym (and_true s.z) ∙ ap (λ (r : RegSet). r.z) h ∙ z in
    let ec : s.c ≡ false = sym (and_true s.c) ∙ ap (λ (r : RegSet). r.c) h ∙ c in
    let ep : s.zero_page ≡ t.zero_page = sym (ap (bit_xor s.zero_page) (and_zero_r s.zero_page) ∙ xor_zero_r s.zero_page) ∙ ap (λ (r : RegSet). r.zero_page) h in
    ap (λ (b : Bool). made s.a s.x s.y b s.v s.z s.c s.zero_page) en
    ∙ ap (λ (b : Bool). made s.a s.x s.y false b s.z s.c s.zero_page) ev
    ∙ ap (λ (b : Bool). made s.a s.x s.y false false b s.c s.zero_page) ez
    ∙ ap (λ (b : Bool). made s.a s.x s.y false false false b s.zero_page) ec
    ∙ ap (λ (p : ℕ). made s.a s.x s.y false false false false p) ep

-- the set is read from its text, which lacks commas, spaces and line feeds
abbrev IsRead : RegSet → Type 0
IsRead s = (set_in (set_text s) ≡ Some s) × (lacks 44 (set_text s) ≡ true) × (lacks 32 (set_text s) ≡ true) × (lacks 10 (set_text s) ≡ true)

plain : (a x y : Bool) → IsRead (made a x y false false false false 0)
plain true true true = (refl, refl, refl, refl)
plain true true false = (refl, refl, refl, refl)
plain true false true = (refl, refl, refl, refl)
plain true false false = (refl, refl, refl, refl)
plain false true true = (refl, refl, refl, refl)
plain false true false = (refl, refl, refl, refl)
plain false false true = (refl, refl, refl, refl)
plain false false false = (refl, refl, refl, refl)

with_s : (a x y : Bool) → IsRead (made a x y false false false false 12)
with_s true true true = (refl, refl, refl, refl)
with_s true true false = (refl, refl, refl, refl)
with_s true false true = (refl, refl, refl, refl)
with_s true false false = (refl, refl, refl, refl)
with_s false true true = (refl, refl, refl, refl)
with_s false true false = (refl, refl, refl, refl)
with_s false false true = (refl, refl, refl, refl)
with_s false false false = (refl, refl, refl, refl)

moved : (s t : RegSet) → s ≡ t → IsRead t → IsRead s
moved s t e h =
    (ap (λ (r : RegSet). set_in (set_text r)) e ∙ h.0 ∙ ap Some (sym e), ap (λ (r : RegSet). lacks 44 (set_text r)) e ∙ h.1, ap (λ (r : RegSet). lacks 32 (set_text r)) e ∙ h.2, ap (λ (r : RegSet). lacks 10 (set_text r)) e ∙ h.3)

set_is_read : (s : RegSet) → IsLetters s → IsRead s
set_is_read s (without_sreg h) = moved s _ (split s no_parts h refl refl refl refl) (plain s.a s.x s.y)
set_is_read s (with_sreg h) = moved s _ (split s sreg_bytes h refl refl refl refl) (with_s s.a s.x s.y)

pub set_read : (s : RegSet) → IsLetters s → set_in (set_text s) ≡ Some s
set_read s h = (set_is_read s h).0

pub set_lacks_comma : (s : RegSet) → IsLetters s → lacks 44 (set_text s) ≡ true
set_lacks_comma s h = (set_is_read s h).1

pub set_lacks_space : (s : RegSet) → IsLetters s → lacks 32 (set_text s) ≡ true
set_lacks_space s h = (set_is_read s h).2

pub set_lacks_feed : (s : RegSet) → IsLetters s → lacks 10 (set_text s) ≡ true
set_lacks_feed s h = (set_is_read s h).3
