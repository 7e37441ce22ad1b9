-- The symbols of a program: each has a spelling of its own.
use Rattle.std.proofs.Common.{◌≡◌, ℕ, suc, ◌+◌, ◌<◌, ◌^◌, Bool, true, false, IsTrue, Option, None, Some, List, [], ◌∷◌, ◌++◌, inl, inr, length, slice_get, decimal, refl, sym, ap, subst, ◌∙◌, arith}
use Rattle.std.specs.Prelude.{◌↔◌}
use Rattle.std.specs.Str.Parse.{digits_value}
use Rattle.std.proofs.lemmas.Fmt.{decimal_is_IsNumeral}
use Rattle.c65_base.specs.declared.names.Name.{Name}
use Rattle.c65_csem.specs.declared.items.Parts.{Parts}
use Rattle.c65_csem.specs.declared.items.TObject.{TObject}
use Rattle.c65_csem.specs.declared.items.TFunc.{TFunc}
use Rattle.c65_code.specs.declared.code.Symbol.{Symbol}
use Rattle.c65_code.specs.Writable.{IsNumbered, IsSpelling}
use Rattle.c65_gendata.specs.Symbols.{external, numbered, plain_symbol, literal_symbol, is_external, with_objects, with_literals, with_functions, symbols_of}
use Rattle.c65_asm_law.specs.Items.{spelling_of, IsExternalObject, IsExternalFunction, HasNames}
use Rattle.c65_asm_law.proofs.Lists.{EachAt, each_more, each_at, length_more, IsRest, rest_first, rest_next, rest_whole}

-- ---- what the symbol with a number is

abbrev pub outside : List (List ℕ) → Name → Symbol
outside names name = record { spelling = external names name; literal = false }

abbrev pub inside : ℕ → Symbol
inside k = record { spelling = numbered 115 k; literal = false }

pub data IsSymbol (names : List (List ℕ)) (parts : Parts) (k : ℕ) (s : Symbol) : Type 0 where
  object : (o : TObject) (name : Name) → IsExternalObject parts k o name → s ≡ outside names name → IsSymbol names parts k s
  function : (i : ℕ) (g : TFunc) → length parts.objects.items + length parts.literals.items + i ≡ k → IsExternalFunction parts i g → s ≡ outside names g.name → IsSymbol names parts k s
  static : s ≡ inside k → IsSymbol names parts k s
  literal : s ≡ literal_symbol k → IsSymbol names parts k s

object_is : (names : List (List ℕ)) (parts : Parts) (k : ℕ) (o : TObject) (b : Bool) (m : Option Name) → is_external o.class ≡ b → o.name ≡ m → slice_get parts.objects.items k ≡ Some o → IsSymbol names parts k (plain_symbol names b m k)
object_is names parts k o true (Some name) is called there = object o name (there, is, called) refl
object_is names parts k o true None is called there = static refl
object_is names parts k o false m is called there = static refl

function_is : (names : List (List ℕ)) (parts : Parts) (k i : ℕ) (g : TFunc) (b : Bool) → g.external ≡ b → length parts.objects.items + length parts.literals.items + i ≡ k → slice_get parts.funcs.items i ≡ Some g → IsSymbol names parts k (plain_symbol names b (Some g.name) k)
function_is names parts k i g true is at there = function i g at (there, is) refl
function_is names parts k i g false is at there = static refl

objects_are : (names : List (List ℕ)) (parts : Parts) (i : ℕ) (os : List TObject) (ss : List Symbol) → IsRest parts.objects.items i os → length ss ≡ i → EachAt (IsSymbol names parts) 0 ss
    → EachAt (IsSymbol names parts) 0 (with_objects names i os ss) × (length (with_objects names i os ss) ≡ i + length os)
objects_are names parts i [] ss rest at h = (h, omega (arith, at))
objects_are names parts i (o ∷ os) ss rest at h =
    let s : Symbol = plain_symbol names (is_external o.class) o.name i in
    let here : IsSymbol names parts i s = object_is names parts i o (is_external o.class) o.name refl refl (rest_first parts.objects.items i o os rest) in
    let more : EachAt (IsSymbol names parts) 0 (ss ++ s ∷ []) = each_more (IsSymbol names parts) 0 i ss s h (omega (arith, at)) here in
    let all = objects_are names parts (suc i) os (ss ++ s ∷ []) (rest_next parts.objects.items i o os rest) (omega (arith, length_more ss s, at)) more in
    (all.0, omega (arith, all.1))

literals_are : (names : List (List ℕ)) (parts : Parts) (i : ℕ) (ls : List (List ℕ)) (ss : List Symbol) → length ss ≡ i → EachAt (IsSymbol names parts) 0 ss
    → EachAt (IsSymbol names parts) 0 (with_literals i ls ss) × (length (with_literals i ls ss) ≡ i + length ls)
literals_are names parts i [] ss at h = (h, omega (arith, at))
literals_are names parts i (bytes ∷ ls) ss at h =
    let s : Symbol = literal_symbol i in
    let more : EachAt (IsSymbol names parts) 0 (ss ++ s ∷ []) = each_more (IsSymbol names parts) 0 i ss s h (omega (arith, at)) (literal refl) in
    let all = literals_are names parts (suc i) ls (ss ++ s ∷ []) (omega (arith, length_more ss s, at)) more in
    (all.0, omega (arith, all.1))

functions_are : (names : List (List ℕ)) (parts : Parts) (k i : ℕ) (gs : List TFunc) (ss : List Symbol) → length parts.objects.items + length parts.literals.items + i ≡ k → IsRest parts.funcs.items i gs → length ss ≡ k → EachAt (IsSymbol names parts) 0 ss
    → EachAt (IsSymbol names parts) 0 (with_functions names k gs ss) × (length (with_functions names k gs ss) ≡ k + length gs)
functions_are names parts k i [] ss is rest at h = (h, omega (arith, at))
functions_are names parts k i (g ∷ gs) ss is rest at h =
    let s : Symbol = plain_symbol names g.external (Some g.name) k in
    let here : IsSymbol names parts k s = function_is names parts k i g g.external refl is (rest_first parts.funcs.items i g gs rest) in
    let more : EachAt (IsSymbol names parts) 0 (ss ++ s ∷ []) = each_more (IsSymbol names parts) 0 k ss s h (omega (arith, at)) here in
    let all = functions_are names parts (suc k) (suc i) gs (ss ++ s ∷ []) (omega (arith, is)) (rest_next parts.funcs.items i g gs rest) (omega (arith, length_more ss s, at)) more in
    (all.0, omega (arith, all.1))

symbols_are : (names : List (List ℕ)) (parts : Parts) → EachAt (IsSymbol names parts) 0 (symbols_of names parts) × (length (symbols_of names parts) ≡ length parts.objects.items + length parts.literals.items + length parts.funcs.items)
symbols_are names parts =
    let objects : ℕ = length parts.objects.items in
    let os : List Symbol = with_objects names 0 parts.objects.items [] in
    let a = objects_are names parts 0 parts.objects.items [] (rest_whole parts.objects.items) refl tt in
    let b = literals_are names parts objects parts.literals.items os (omega (arith, a.1)) a.0 in
    functions_are names parts (objects + length parts.literals.items) 0 parts.funcs.items (with_literals objects parts.literals.items os) (omega arith) (rest_whole parts.funcs.items) b.1 b.0

pub symbols_count : (names : List (List ℕ)) (parts : Parts) → length (symbols_of names parts) ≡ length parts.objects.items + length parts.literals.items + length parts.funcs.items
symbols_count names parts = (symbols_are names parts).1

symbol_at : (names : List (List ℕ)) (parts : Parts) (k : ℕ) (s : Symbol) → slice_get (symbols_of names parts) k ≡ Some s → IsSymbol names parts k s
symbol_at names parts k s h = subst (λ (n : ℕ). IsSymbol names parts n s) (omega arith) (each_at (IsSymbol names parts) 0 k (symbols_of names parts) s (symbols_are names parts).0 h)

-- ---- spellings

abbrev head_of : List ℕ → ℕ
head_of [] = 0
head_of (b ∷ bs) = b

abbrev rest_of : List ℕ → List ℕ
rest_of [] = []
rest_of (b ∷ bs) = bs

same_number : (a b : ℕ) → a < 2 ^ 32 → b < 2 ^ 32 → decimal a ≡ decimal b → a ≡ b
same_number a b low high h = sym (decimal_is_IsNumeral a (omega (arith, low))).1 ∙ (ap (digits_value 10) h ∙ (decimal_is_IsNumeral b (omega (arith, high))).1)

spelled : (names : List (List ℕ)) (parts : Parts) (k : ℕ) (s : Symbol) → HasNames names parts → k < 2 ^ 32 → IsSymbol names parts k s → IsSpelling s.spelling
spelled names parts k s has few (object o name at is) = subst (λ (z : Symbol). IsSpelling z.spelling) (sym is) (inl (has.objects k o name at))
spelled names parts k s has few (function i g e at is) = subst (λ (z : Symbol). IsSpelling z.spelling) (sym is) (inl (has.functions i g at))
spelled names parts k s has few (static is) = subst (λ (z : Symbol). IsSpelling z.spelling) (sym is) (inr (inl (k, few, refl)))
spelled names parts k s has few (literal is) = subst (λ (z : Symbol). IsSpelling z.spelling) (sym is) (inr (inr (k, few, refl)))

-- the first byte says what a symbol is of
first_of : (s t : Symbol) → s ≡ t → head_of s.spelling ≡ head_of t.spelling
first_of s t e = ap (λ z. head_of z.spelling) e

not_both : (b : Bool) → IsTrue b → b ≡ false → ⊥
not_both b h e = cc

marked : (names : List (List ℕ)) (parts : Parts) (k : ℕ) (s : Symbol) → k < 2 ^ 32 → IsSymbol names parts k s → IsTrue s.literal ↔ IsNumbered 113 s.spelling
marked names parts k s few (object o name at is) = (
  (λ h. absurd (not_both s.literal h (ap (λ z. z.literal) is))),
  (λ n. absurd (let e : 95 ≡ 113 = sym (first_of s (outside names name) is) ∙ ap head_of n.2 in omega (arith, e))),
)
marked names parts k s few (function i g e at is) = (
  (λ h. absurd (not_both s.literal h (ap (λ z. z.literal) is))),
  (λ n. absurd (let e : 95 ≡ 113 = sym (first_of s (outside names g.name) is) ∙ ap head_of n.2 in omega (arith, e))),
)
marked names parts k s few (static is) = (
  (λ h. absurd (not_both s.literal h (ap (λ z. z.literal) is))),
  (λ n. absurd (let e : 115 ≡ 113 = sym (first_of s (inside k) is) ∙ ap head_of n.2 in omega (arith, e))),
)
marked names parts k s few (literal is) = (
  (λ h. (k, few, ap (λ z. z.spelling) is)),
  (λ n. ap (λ z. z.literal) is),
)

-- ---- two symbols with one spelling

-- an item of external linkage, by the place of its symbol
data IsOutside (names : List (List ℕ)) (parts : Parts) (k : ℕ) (spelling : List ℕ) : Type 0 where
  object : (o : TObject) (name : Name) → IsExternalObject parts k o name → spelling ≡ spelling_of names name → IsOutside names parts k spelling
  function : (i : ℕ) (g : TFunc) → length parts.objects.items + length parts.literals.items + i ≡ k → IsExternalFunction parts i g → spelling ≡ spelling_of names g.name → IsOutside names parts k spelling

own_outside : (names : List (List ℕ)) (parts : Parts) (i j : ℕ) (spelling : List ℕ) → HasNames names parts → IsOutside names parts i spelling → IsOutside names parts j spelling → i ≡ j
own_outside names parts i j spelling has (object a m at is) (object b n bt js) = has.own_object i j a b m n at bt (sym is ∙ js)
own_outside names parts i j spelling has (object a m at is) (function k g e bt js) = absurd (has.apart i k a m g at bt (sym is ∙ js))
own_outside names parts i j spelling has (function k g e at is) (object b n bt js) = absurd (has.apart j k b n g bt at (sym js ∙ is))
own_outside names parts i j spelling has (function k g e at is) (function m h d bt js) = omega (arith, e, d, has.own_function k m g h at bt (sym is ∙ js))

-- what a symbol is of, by its first byte, and what follows it
data IsSpelled (names : List (List ℕ)) (parts : Parts) (k : ℕ) (spelling : List ℕ) : Type 0 where
  named : head_of spelling ≡ 95 → IsOutside names parts k (rest_of spelling) → IsSpelled names parts k spelling
  static : head_of spelling ≡ 115 → rest_of spelling ≡ decimal k → IsSpelled names parts k spelling
  literal : head_of spelling ≡ 113 → rest_of spelling ≡ decimal k → IsSpelled names parts k spelling

is_spelled : (names : List (List ℕ)) (parts : Parts) (k : ℕ) (s : Symbol) → IsSymbol names parts k s → IsSpelled names parts k s.spelling
is_spelled names parts k s (object o name at is) = named (first_of s (outside names name) is) (object o name at (ap (λ z. rest_of z.spelling) is))
is_spelled names parts k s (function i g e at is) = named (first_of s (outside names g.name) is) (function i g e at (ap (λ z. rest_of z.spelling) is))
is_spelled names parts k s (static is) = static (first_of s (inside k) is) (ap (λ z. rest_of z.spelling) is)
is_spelled names parts k s (literal is) = literal (first_of s (literal_symbol k) is) (ap (λ z. rest_of z.spelling) is)

own : (names : List (List ℕ)) (parts : Parts) (i j : ℕ) (spelling : List ℕ) → HasNames names parts → i < 2 ^ 32 → j < 2 ^ 32 → IsSpelled names parts i spelling → IsSpelled names parts j spelling → i ≡ j
own names parts i j spelling has low high (named a x) (named b y) = own_outside names parts i j (rest_of spelling) has x y
own names parts i j spelling has low high (named a x) (static b y) = absurd (omega (arith, a, b))
own names parts i j spelling has low high (named a x) (literal b y) = absurd (omega (arith, a, b))
own names parts i j spelling has low high (static a x) (named b y) = absurd (omega (arith, a, b))
own names parts i j spelling has low high (static a x) (static b y) = same_number i j low high (sym x ∙ y)
own names parts i j spelling has low high (static a x) (literal b y) = absurd (omega (arith, a, b))
own names parts i j spelling has low high (literal a x) (named b y) = absurd (omega (arith, a, b))
own names parts i j spelling has low high (literal a x) (static b y) = absurd (omega (arith, a, b))
own names parts i j spelling has low high (literal a x) (literal b y) = same_number i j low high (sym x ∙ y)

-- ---- the symbols of a program

pub symbols_are_spelled : (names : List (List ℕ)) (parts : Parts) (k : ℕ) (s : Symbol) → HasNames names parts → k < 2 ^ 32 → slice_get (symbols_of names parts) k ≡ Some s → IsSpelling s.spelling
symbols_are_spelled names parts k s has few h = spelled names parts k s has few (symbol_at names parts k s h)

pub symbols_are_marked : (names : List (List ℕ)) (parts : Parts) (k : ℕ) (s : Symbol) → k < 2 ^ 32 → slice_get (symbols_of names parts) k ≡ Some s → IsTrue s.literal ↔ IsNumbered 113 s.spelling
symbols_are_marked names parts k s few h = marked names parts k s few (symbol_at names parts k s h)

pub symbols_are_apart : (names : List (List ℕ)) (parts : Parts) (i j : ℕ) (a b : Symbol) → HasNames names parts → i < 2 ^ 32 → j < 2 ^ 32 → slice_get (symbols_of names parts) i ≡ Some a → slice_get (symbols_of names parts) j ≡ Some b → a.spelling ≡ b.spelling → i ≡ j
symbols_are_apart names parts i j a b has low high p q e =
    let first : IsSpelled names parts i b.spelling = subst (IsSpelled names parts i) e (is_spelled names parts i a (symbol_at names parts i a p)) in
    own names parts i j b.spelling has low high first (is_spelled names parts j b (symbol_at names parts j b q))
