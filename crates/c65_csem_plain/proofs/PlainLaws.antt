-- What the tests of first values, of names and of whole programs tell.
use Rattle.std.proofs.Common.{◌≡◌, ℕ, ◌+◌, ◌^◌, ◌<◌, ◌≤◌, ℤ, int_le, List, [], ◌∷◌, ◌++◌, length, Bool, true, false, not, ◌&&◌, ◌||◌, Option, Some, None, is_some, slice_get, nat_le, IsTrue, All, refl, sym, ap, ◌∙◌, subst, arith}
use Rattle.std.specs.Prelude.{⊤, if◌then◌else◌, ◌==◌, nat_lt, bytes_eq, codes}
use Rattle.std.proofs.lemmas.Int.{ints}
use Rattle.std.proofs.lemmas.Bool.Decides.{Decides-eqb, Decides-ltb}
use Rattle.std.proofs.lemmas.Slice.Eq.{bytes_eq-Decides}
use Rattle.c65_base.specs.declared.names.Name.{Name}
use Rattle.c65_base.specs.declared.library.Library.{Library}
use Rattle.c65_base.specs.Library.{library_name}
use Rattle.c65_ctype.specs.Trees.{Fn, fn, type_in}
use Rattle.c65_csem.specs.declared.items.Cell.{Cell}
use Rattle.c65_csem.specs.declared.items.Cell.TheVariants.{Byte, Piece}
use Rattle.c65_csem.specs.declared.items.Target.{Target}
use Rattle.c65_csem.specs.declared.items.Target.TheVariants as T
use Rattle.c65_csem.specs.Library.{library_at}
use Rattle.c65_csem.specs.Statements.{IsDistinct, labels_of}
use Rattle.c65_csem.specs.Trees.{Stmt, ObjectTy, FuncTy, UnitTy}
use Rattle.c65_csem_check.specs.Statements.{same_value}
use Rattle.c65_csem_check.proofs.ListLaws.{tells_distinct}
use Rattle.c65_csem_check.proofs.Tells.{Tells, like, tells_itself, tells_not, tells_unit, tells_never, from_decides, both, three, four, tells_if, tells_all}
use Rattle.c65_csem_plain.specs.Body.{objects_of}
use Rattle.c65_csem_plain.specs.Plain.{AreBytes, IsByte, ArePaired, BeginsPlain, IsPlainBody, HasPlainBody, IsUsual, is_external, IsOwnName, HasOwnName, IsNamed, IsMain, Starts, IsPlainObject, IsPlainFunc, IsPlain, all_own_objects}
use Rattle.c65_csem_plain.specs.Tests as b
use Rattle.c65_csem_plain.specs.declared.initial.Awaited.{Awaited}
use Rattle.c65_csem_plain.specs.declared.initial.Awaited.TheVariants.{Any, High, Never}
use Rattle.c65_csem_plain.proofs.ArmLaws.{says_few}
use Rattle.c65_csem_plain.proofs.OnceLaws.{once_yes, once_only}
use Rattle.c65_csem_plain.proofs.BodyLaws.{Says, says_le, says_bytes, says_stmt}

-- ---- first values

says_below : (m n : ℕ) → Says (nat_lt m n) (m < n)
says_below m n = from_decides _ _ (Decides-ltb m n)

says_equal : (m n : ℕ) → Says (m == n) (m ≡ n)
says_equal m n = from_decides _ _ (Decides-eqb m n)

says_bytes_in : (bs : List ℕ) → Says (b.are_bytes bs) (AreBytes bs)
says_bytes_in bs = tells_all b.are_bytes (λ n. nat_lt n 256) (λ n. n < 2 ^ 8) refl (λ n ns. refl) (λ n. says_below n 256) bs

says_literals : (ls : List (List ℕ)) → Says (b.all_bytes ls) (All AreBytes ls)
says_literals ls = tells_all b.all_bytes b.are_bytes AreBytes refl (λ l ls. refl) says_bytes_in ls

says_byte : (x : Cell) → Says (b.is_byte x) (IsByte x)
says_byte (Byte n) = says_below n 256
says_byte (Piece t o part) = tells_unit

says_byte_cells : (xs : List Cell) → Says (b.are_byte_cells xs) (All IsByte xs)
says_byte_cells xs = tells_all b.are_byte_cells b.is_byte IsByte refl (λ x xs. refl) says_byte xs

says_target : (x y : Target) → Says (b.same_target x y) (x ≡ y)
says_target (T.Object i) (T.Object j) = like (says_equal i j) (λ h. ap T.Object h) (λ h. cc)
says_target (T.Literal i) (T.Literal j) = like (says_equal i j) (λ h. ap T.Literal h) (λ h. cc)
says_target (T.Func i) (T.Func j) = like (says_equal i j) (λ h. ap T.Func h) (λ h. cc)
says_target (T.Object i) (T.Literal j) = record { yes = λ h. cc; only = λ s w. cc }
says_target (T.Object i) (T.Func j) = record { yes = λ h. cc; only = λ s w. cc }
says_target (T.Literal i) (T.Object j) = record { yes = λ h. cc; only = λ s w. cc }
says_target (T.Literal i) (T.Func j) = record { yes = λ h. cc; only = λ s w. cc }
says_target (T.Func i) (T.Object j) = record { yes = λ h. cc; only = λ s w. cc }
says_target (T.Func i) (T.Literal j) = record { yes = λ h. cc; only = λ s w. cc }

says_value : (x y : ℤ) → Says (same_value x y) (x ≡ y)
says_value x y = record { yes = λ h. grind (arith, ints); only = λ s w. grind (arith, ints) }

never_paired : (xs : List Cell) → b.are_paired Never xs ≡ false
never_paired [] = refl
never_paired (x ∷ xs) = never_paired xs

-- a low piece and what follows it
paired_by : (t : Target) (o : ℤ) (x : Cell) (xs : List Cell) (low high : Bool) (P Q R : Type 0) → b.after (High t o) x ≡ (if high then Any else Never) → Says low P → Says high Q → Says (b.are_paired Any xs) R → Says (b.are_paired (if low then High t o else Never) (x ∷ xs)) (P × Q × R)
paired_by t o x xs true true P Q R e p q r =
    let same : b.are_paired (High t o) (x ∷ xs) ≡ b.are_paired Any xs = ap (λ (w : Awaited). b.are_paired w xs) e in
    record { yes = λ h. (p.yes refl, q.yes refl, r.yes (sym same ∙ h)); only = λ s w. same ∙ r.only s w.2 }
paired_by t o x xs true false P Q R e p q r =
    let same : b.are_paired (High t o) (x ∷ xs) ≡ false = ap (λ (w : Awaited). b.are_paired w xs) e ∙ never_paired xs in
    record { yes = λ h. cc; only = λ s w. let f = q.only s w.1 in cc }
paired_by t o x xs false high P Q R e p q r =
    let same : b.are_paired Never (x ∷ xs) ≡ false = never_paired xs in
    record { yes = λ h. cc; only = λ s w. let f = p.only s w.0 in cc }

-- a low piece that is not followed by a piece
alone_by : (t : Target) (o : ℤ) (xs : List Cell) (low : Bool) → b.are_paired (High t o) xs ≡ false → Says (b.are_paired (if low then High t o else Never) xs) ⊥
alone_by t o xs true e = record { yes = λ h. cc; only = λ s w. absurd w }
alone_by t o xs false e = let f = never_paired xs in record { yes = λ h. cc; only = λ s w. absurd w }

says_paired : (xs : List Cell) → Says (b.are_paired Any xs) (ArePaired xs)
says_paired [] = tells_unit
says_paired (Byte n ∷ xs) = says_paired xs
says_paired (Piece t o part ∷ []) = alone_by t o [] (part == 0) refl
says_paired (Piece t o part ∷ Byte n ∷ xs) = alone_by t o (Byte n ∷ xs) (part == 0) (never_paired xs)
says_paired (Piece t o part ∷ Piece target offset second ∷ xs) =
    like (paired_by t o (Piece target offset second) xs (part == 0) (second == 1 && b.same_target target t && same_value offset o) _ _ _ refl (says_equal part 0) (three (says_equal second 1) (says_target target t) (says_value offset o)) (says_paired xs))
    (λ h. (h.0, h.1.0, h.1.1, h.1.2, h.2))
    (λ w. (w.0, (w.1, w.2, w.3), w.4))

says_begins : (o : Option (List Cell)) → Says (b.begins_plain o) (BeginsPlain o)
says_begins None = tells_unit
says_begins (Some xs) = both (says_byte_cells xs) (says_paired xs)

-- ---- names

says_spelled : (o : Option (List ℕ)) (spelling : List ℕ) → Says (b.is_spelled o spelling) (o ≡ Some spelling)
says_spelled None spelling = record { yes = λ h. cc; only = λ s w. cc }
says_spelled (Some s) spelling = like (from_decides _ _ (bytes_eq-Decides s spelling)) (λ h. ap Some h) (λ h. cc)

own_by : (external : Bool) (o : Option Library) → Says (not external || not (is_some o)) (external ≡ true → o ≡ None)
own_by true None = record { yes = λ h w. refl; only = λ s w. refl }
own_by true (Some l) = record { yes = λ h. cc; only = λ s w. let e = w refl in cc }
own_by false o = record { yes = λ h w. cc; only = λ s w. refl }

says_usual : (f : Fn) → Says (b.is_usual f) (IsUsual f)
says_usual (fn q ps variadic cdecl) = both (tells_not variadic) (tells_not cdecl)

module _ (names : List (List ℕ)) where
  says_own : (external : Bool) (name : Name) → Says (b.is_own_name names external name) (IsOwnName names external name)
  says_own external name = own_by external (library_at names name.0)

  says_own_named : (external : Bool) (name : Option Name) → Says (b.has_own_name names external name) (HasOwnName names external name)
  says_own_named external None = tells_unit
  says_own_named external (Some name) = says_own external name

  says_named : (l : Option Library) (external : Bool) (name : Name) → Says (b.is_named names l external name) (IsNamed names l external name)
  says_named None external name = says_own external name
  says_named (Some l) external name = both (tells_itself external) (says_spelled (slice_get names name.0) (library_name l))

  says_main : (f : FuncTy) → Says (b.is_main names f) (IsMain names f)
  says_main f = like (three (tells_itself f.external) (says_spelled (slice_get names f.name.0) (codes "main")) (says_usual f.ty))
      (λ h. record { external = h.0; named = h.1; usual = h.2 })
      (λ w. (w.external, w.named, w.usual))

  says_starts : (o : Option FuncTy) → Says (b.starts names o) (Starts names o)
  says_starts None = tells_never
  says_starts (Some f) = says_main f

-- ---- functions

says_label : (l : ℕ) → Says (nat_lt l 4294967295) (l + 1 < 2 ^ 32)
says_label l = like (says_below l 4294967295) (λ h. omega arith) (λ h. omega arith)

says_labels : (ls : List ℕ) → Says (b.are_labels ls) (All (λ l. l + 1 < 2 ^ 32) ls)
says_labels ls = tells_all b.are_labels (λ l. nat_lt l 4294967295) (λ l. l + 1 < 2 ^ 32) refl (λ l ls. refl) says_label ls

module _ (u : UnitTy) where
  says_body : (params : List ℕ) (body : Stmt) → Says (b.is_plain_body u params body) (IsPlainBody u params body)
  says_body params body = like (four (tells_distinct (params ++ objects_of body)) (says_labels (labels_of body)) (says_few body) (says_stmt u (objects_of body) body))
      (λ h. record { objects = h.0; labels = h.1; arms = h.2; stmts = h.3 })
      (λ w. (w.objects, w.labels, w.arms, w.stmts))

  says_has_body : (params : List ℕ) (body : Option Stmt) → Says (b.has_plain_body u params body) (HasPlainBody u params body)
  says_has_body params None = tells_unit
  says_has_body params (Some body) = says_body params body

-- ---- programs

module _ (names : List (List ℕ)) (u : UnitTy) where
  says_object : (o : ObjectTy) → Says (b.is_plain_object names u o) (IsPlainObject names u o)
  says_object o = like (three (says_bytes u.types (type_in o.ty)) (says_own_named names (is_external o.class) o.name) (says_begins o.init))
      (λ h. record { bytes = h.0; named = h.1; begins = h.2 })
      (λ w. (w.bytes, w.named, w.begins))

  says_objects : (os : List ObjectTy) → Says (b.are_plain_objects names u os) (All (IsPlainObject names u) os)
  says_objects os = tells_all (b.are_plain_objects names u) (b.is_plain_object names u) (IsPlainObject names u) refl (λ o os. refl) says_object os

  says_func : (f : FuncTy) → Says (b.is_plain_func names u f) (IsPlainFunc names u f)
  says_func f = like (both (says_named names f.library f.external f.name) (says_has_body u f.params f.body))
      (λ h. record { named = h.0; body = h.1 })
      (λ w. (w.named, w.body))

  says_funcs : (fs : List FuncTy) → Says (b.are_plain_funcs names u fs) (All (IsPlainFunc names u) fs)
  says_funcs fs = tells_all (b.are_plain_funcs names u) (b.is_plain_func names u) (IsPlainFunc names u) refl (λ f fs. refl) says_func fs

  says_apart : (ns : List ℕ) → Says (b.come_once [] ns) (IsDistinct ns)
  says_apart ns = record { yes = λ h. once_yes [] ns (record { once = λ i j x p q. cc }) h; only = λ s w. once_only [] ns w }

  says_plain : (main : ℕ) → Says (b.is_plain names u main) (IsPlain names u main)
  says_plain main =
      like (both (both (four (says_objects u.objects) (says_literals u.literals) (says_starts names (slice_get u.funcs main)) (says_le (length u.objects + length u.literals + length u.funcs) (2 ^ 32))) (says_apart (all_own_objects u.funcs))) (says_funcs u.funcs))
      (λ h. record { objects = h.0.0.0; literals = h.0.0.1; start = h.0.0.2; few = h.0.0.3; apart = h.0.1; funcs = h.1 })
      (λ w. (((w.objects, w.literals, w.start, w.few), w.apart), w.funcs))

  pub plain_yes : (main : ℕ) → b.is_plain names u main ≡ true → IsPlain names u main
  plain_yes main h = (says_plain main).yes h

  pub plain_only : (main : ℕ) → IsPlain names u main → b.is_plain names u main ≡ true
  plain_only main w = (says_plain main).only tt w
