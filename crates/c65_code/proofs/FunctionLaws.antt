-- Which symbols of a code are those of functions.
use Rattle.std.proofs.Common.{◌≡◌, ℕ, zero, suc, ◌<◌, ◌==◌, Bool, true, false, ◌&&◌, ◌||◌, not, nat_lt, if◌then◌else◌, List, [], ◌∷◌, ◌++◌, codes, Some, slice_get, length, inl, inr, refl, ap, ◌∙◌}
use Rattle.std.specs.Prelude.{◌⊎◌, is_some}
use Rattle.std.proofs.lemmas.Bool.{and_parts, eqb-true, ltb-true, lt-ltb, not-true}
use Rattle.std.proofs.lemmas.Bool.Decides.{Decides-eqb}
use Rattle.std.proofs.lemmas.Option.{none-some, same_Some}
use Rattle.c65_base.specs.declared.library.Library.{Library}
use Rattle.c65_base.specs.declared.library.Library.TheVariants.{Putchar, Getchar, Puts, Exit, Memcpy, Memset, Strcmp, Strcpy, Strlen, Printf}
use Rattle.c65_base.specs.Library.{library_name, library_functions}
use Rattle.c65_code.specs.declared.line.Sym.{Sym}
use Rattle.c65_code.specs.declared.code.Code.{Code}
use Rattle.c65_code.specs.Placement.{has_segment, has_datum, has_body, library_named, library_of, IsFunction}
use Rattle.c65_code.specs.Segments.{Segment}

-- the lines of a symbol, by their place
pub has_segment_at : (fs : List (Sym × Segment)) (k : ℕ) (g : Sym × Segment) (f : ℕ) → slice_get fs k ≡ Some g → g.0.0 ≡ f → has_segment fs f ≡ true
has_segment_at [] k g f at e = absurd (none-some g at)
has_segment_at (x ∷ fs) zero g f at e = ap (λ (b : Bool). if b then true else has_segment fs f) ((Decides-eqb x.0.0 f).1 (ap (λ (y : Sym × Segment). y.0.0) (same_Some x g at) ∙ e))
has_segment_at (x ∷ fs) (suc k) g f at e = by (x.0.0 == f) (has_segment_at fs k g f at e)
  where
    by : (b : Bool) → has_segment fs f ≡ true → (if b then true else has_segment fs f) ≡ true
    by true rest = refl
    by false rest = rest

pub segment_found : (fs : List (Sym × Segment)) (f : ℕ) → has_segment fs f ≡ true → (k : ℕ) × (g : Sym × Segment) × (slice_get fs k ≡ Some g) × (g.0.0 ≡ f)
segment_found [] f h = cc
segment_found (x ∷ fs) f h = by (x.0.0 == f) refl h (λ g. segment_found fs f g)
  where
    by : (b : Bool) → (x.0.0 == f) ≡ b → (if b then true else has_segment fs f) ≡ true → (has_segment fs f ≡ true → (k : ℕ) × (g : Sym × Segment) × (slice_get fs k ≡ Some g) × (g.0.0 ≡ f)) → (k : ℕ) × (g : Sym × Segment) × (slice_get (x ∷ fs) k ≡ Some g) × (g.0.0 ≡ f)
    by true e g rest = (0, x, refl, eqb-true x.0.0 f e)
    by false e g rest = let r = rest g in (suc r.0, r.1, r.2, r.3)

-- the name of each function of the library
pub named_library : (l : Library) → library_named library_functions (codes "_" ++ library_name l) ≡ Some l
named_library Putchar = refl
named_library Getchar = refl
named_library Puts = refl
named_library Exit = refl
named_library Memcpy = refl
named_library Memset = refl
named_library Strcmp = refl
named_library Strcpy = refl
named_library Strlen = refl
named_library Printf = refl

-- what has a body, by the one or the other
pub either_body : (code : Code) (f : ℕ) → has_body code f ≡ true → (has_segment code.functions f ≡ true) ⊎ (is_some (library_of (slice_get code.symbols f)) ≡ true)
either_body code f h = by (has_segment code.functions f) refl h
  where
    by : (b : Bool) → has_segment code.functions f ≡ b → (b || is_some (library_of (slice_get code.symbols f))) ≡ true → (has_segment code.functions f ≡ true) ⊎ (is_some (library_of (slice_get code.symbols f)) ≡ true)
    by true e g = inl e
    by false e g = inr g

pub body_of_lines : (code : Code) (f : ℕ) → has_segment code.functions f ≡ true → has_body code f ≡ true
body_of_lines code f h = ap (λ (b : Bool). b || is_some (library_of (slice_get code.symbols f))) h

pub body_of_library : (code : Code) (f : ℕ) → is_some (library_of (slice_get code.symbols f)) ≡ true → has_body code f ≡ true
body_of_library code f h = ap (λ (b : Bool). has_segment code.functions f || b) h ∙ by (has_segment code.functions f)
  where
    by : (b : Bool) → (b || true) ≡ true
    by true = refl
    by false = refl

-- a function's symbol is known, and has no datum and a body
pub record AreFunctionParts (code : Code) (f : ℕ) : Type 0 where
  pub inside : nat_lt f (length code.symbols) ≡ true
  pub known : f < length code.symbols
  pub bare : has_datum code.datums f ≡ false
  pub body : has_body code f ≡ true

pub function_parts : (code : Code) (f : ℕ) → IsFunction code f → AreFunctionParts code f
function_parts code f h =
    let all = and_parts (nat_lt f (length code.symbols) && not (has_datum code.datums f)) (has_body code f) h in
    let two = and_parts (nat_lt f (length code.symbols)) (not (has_datum code.datums f)) all.0 in
    record { inside = two.0; known = ltb-true f (length code.symbols) two.0; bare = not-true (has_datum code.datums f) two.1; body = all.1 }

pub function_from : (code : Code) (f : ℕ) → f < length code.symbols → has_datum code.datums f ≡ false → has_body code f ≡ true → IsFunction code f
function_from code f known bare body =
    ap (λ (b : Bool). (b && not (has_datum code.datums f)) && has_body code f) (lt-ltb f (length code.symbols) known)
    ∙ ap (λ (b : Bool). (true && not b) && has_body code f) bare ∙ body
