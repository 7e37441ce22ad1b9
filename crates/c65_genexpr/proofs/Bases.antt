-- The lines of bases by what their trees are.
use Rattle.std.proofs.Common.{◌≡◌, ℕ, ◌+◌, Bool, true, false, None, List, refl, sym, subst, ap, ◌∙◌, Result}
use Rattle.std.specs.Prelude.{if◌then◌else◌}
use Rattle.std.specs.Result.{OnOk}
use Rattle.c65_csem.specs.Trees.{Typed, node, constant, null, literal, object, func, deref, member, load, address, decay, convert, unary, binary, both, either, choice, comma, assign, assign_op, assign_step, step, copy, call, pack, spill, rest}
use Rattle.c65_code.specs.Segments.{Drafted}
use Rattle.c65_code.specs.declared.line.Line.{Line}
use Rattle.c65_genframe.specs.Frames.{Framed}
use Rattle.c65_genwide.specs.Lines.{grown}
use Rattle.c65_genexpr.specs.declared.destination.Destination.{Destination}
use Rattle.c65_genexpr.specs.Types.{bare}
use Rattle.c65_genexpr.specs.Operands.{operands_of, constant_in}
use Rattle.c65_genexpr.specs.Places.{added_bytes, sum_has_base, target_of}
use Rattle.c65_genexpr.specs.Uses.{uses}
use Rattle.c65_genexpr.specs.Code.{base_code, base_lines, pointer_base_code, pointer_lines, pointer_labels}
use Rattle.c65_genexpr.proofs.Known.{sum_uses}

base_is : (f : Framed) (pushed fresh : ℕ) (d : Destination) (e : Typed) → base_lines f pushed fresh d e ≡ base_code f pushed fresh d e
base_is f pushed fresh d (node t (constant z)) = refl
base_is f pushed fresh d (node t null) = refl
base_is f pushed fresh d (node t (literal n)) = refl
base_is f pushed fresh d (node t (object i)) = refl
base_is f pushed fresh d (node t (func i)) = refl
base_is f pushed fresh d (node t (deref e)) = refl
base_is f pushed fresh d (node t (member e m)) = refl
base_is f pushed fresh d (node t (load e)) = refl
base_is f pushed fresh d (node t (address e)) = refl
base_is f pushed fresh d (node t (decay e)) = refl
base_is f pushed fresh d (node t (convert e)) = refl
base_is f pushed fresh d (node t (unary op e)) = refl
base_is f pushed fresh d (node t (binary op a b)) = refl
base_is f pushed fresh d (node t (both a b)) = refl
base_is f pushed fresh d (node t (either a b)) = refl
base_is f pushed fresh d (node t (choice c a b)) = refl
base_is f pushed fresh d (node t (comma a b)) = refl
base_is f pushed fresh d (node t (assign a b)) = refl
base_is f pushed fresh d (node t (assign_op op k a b)) = refl
base_is f pushed fresh d (node t (assign_step op a b)) = refl
base_is f pushed fresh d (node t (step how e)) = refl
base_is f pushed fresh d (node t (copy a b)) = refl
base_is f pushed fresh d (node t (call g es)) = refl
base_is f pushed fresh d (node t (pack e)) = refl
base_is f pushed fresh d (node t (spill i e)) = refl
base_is f pushed fresh d (node t rest) = refl

pointer_is : (f : Framed) (pushed fresh : ℕ) (d : Destination) (e : Typed) → pointer_lines f pushed fresh d e ≡ pointer_base_code f pushed fresh d e
pointer_is f pushed fresh d (node t (constant z)) = refl
pointer_is f pushed fresh d (node t null) = refl
pointer_is f pushed fresh d (node t (literal n)) = refl
pointer_is f pushed fresh d (node t (object i)) = refl
pointer_is f pushed fresh d (node t (func i)) = refl
pointer_is f pushed fresh d (node t (deref e)) = refl
pointer_is f pushed fresh d (node t (member e m)) = refl
pointer_is f pushed fresh d (node t (load e)) = refl
pointer_is f pushed fresh d (node t (address e)) = refl
pointer_is f pushed fresh d (node t (decay e)) = refl
pointer_is f pushed fresh d (node t (convert e)) = refl
pointer_is f pushed fresh d (node t (unary op e)) = refl
pointer_is f pushed fresh d (node t (binary op a b)) = refl
pointer_is f pushed fresh d (node t (both a b)) = refl
pointer_is f pushed fresh d (node t (either a b)) = refl
pointer_is f pushed fresh d (node t (choice c a b)) = refl
pointer_is f pushed fresh d (node t (comma a b)) = refl
pointer_is f pushed fresh d (node t (assign a b)) = refl
pointer_is f pushed fresh d (node t (assign_op op k a b)) = refl
pointer_is f pushed fresh d (node t (assign_step op a b)) = refl
pointer_is f pushed fresh d (node t (step how e)) = refl
pointer_is f pushed fresh d (node t (copy a b)) = refl
pointer_is f pushed fresh d (node t (call g es)) = refl
pointer_is f pushed fresh d (node t (pack e)) = refl
pointer_is f pushed fresh d (node t (spill i e)) = refl
pointer_is f pushed fresh d (node t rest) = refl

if_same : (b : Bool) (m n : ℕ) → (b ≡ true → n ≡ m) → (if b then m else n) ≡ n
if_same true m n same = sym (same refl)
if_same false m n same = refl

labels_are : (f : Framed) (pushed : ℕ) (e : Typed) → pointer_labels f pushed e ≡ uses None e
labels_are f pushed (node t (binary op a b)) =
    if_same (sum_has_base (target_of f pushed a) (added_bytes op (operands_of f (bare a) (bare b)) (constant_in b))) (1 + uses None a) (uses None (node t (binary op a b))) (sum_uses (target_of f pushed a) op (operands_of f (bare a) (bare b)) t a b)
labels_are f pushed (node t (constant z)) = refl
labels_are f pushed (node t null) = refl
labels_are f pushed (node t (literal n)) = refl
labels_are f pushed (node t (object i)) = refl
labels_are f pushed (node t (func i)) = refl
labels_are f pushed (node t (deref e)) = refl
labels_are f pushed (node t (member e m)) = refl
labels_are f pushed (node t (load e)) = refl
labels_are f pushed (node t (address e)) = refl
labels_are f pushed (node t (decay e)) = refl
labels_are f pushed (node t (convert e)) = refl
labels_are f pushed (node t (unary op e)) = refl
labels_are f pushed (node t (both a b)) = refl
labels_are f pushed (node t (either a b)) = refl
labels_are f pushed (node t (choice c a b)) = refl
labels_are f pushed (node t (comma a b)) = refl
labels_are f pushed (node t (assign a b)) = refl
labels_are f pushed (node t (assign_op op k a b)) = refl
labels_are f pushed (node t (assign_step op a b)) = refl
labels_are f pushed (node t (step how e)) = refl
labels_are f pushed (node t (copy a b)) = refl
labels_are f pushed (node t (call g es)) = refl
labels_are f pushed (node t (pack e)) = refl
labels_are f pushed (node t (spill i e)) = refl
labels_are f pushed (node t rest) = refl

pub based : {A E : Type 0} (r : Result A E) (g h : Drafted) (f : Framed) (pushed fresh : ℕ) (d : Destination) (e : Typed) → OnOk r (h ≡ grown g (base_lines f pushed fresh d e) (uses None e)) → OnOk r (h ≡ grown g (base_code f pushed fresh d e) (uses None e))
based r g h f pushed fresh d e on = subst (λ (x : List Line). OnOk r (h ≡ grown g x (uses None e))) (base_is f pushed fresh d e) on

pub pointed : {A E : Type 0} (r : Result A E) (g h : Drafted) (f : Framed) (pushed fresh : ℕ) (d : Destination) (e : Typed) → OnOk r (h ≡ grown g (pointer_lines f pushed fresh d e) (pointer_labels f pushed e)) → OnOk r (h ≡ grown g (pointer_base_code f pushed fresh d e) (uses None e))
pointed r g h f pushed fresh d e on =
    subst (λ (n : ℕ). OnOk r (h ≡ grown g (pointer_base_code f pushed fresh d e) n)) (labels_are f pushed e)
    (subst (λ (x : List Line). OnOk r (h ≡ grown g x (pointer_labels f pushed e))) (pointer_is f pushed fresh d e) on)
