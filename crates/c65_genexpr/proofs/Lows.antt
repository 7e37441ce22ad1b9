-- The lines of low bytes by what their trees are.
use Rattle.std.proofs.Common.{◌≡◌, ℕ, None, List, refl, subst, Result}
use Rattle.std.specs.Result.{OnOk}
use Rattle.c65_csem.specs.Trees.{Typed, node, constant, null, literal, object, func, deref, member, load, address, decay, convert, unary, binary, both, either, choice, comma, assign, assign_op, assign_step, step, copy, call, pack, spill, rest}
use Rattle.c65_code.specs.Segments.{Drafted}
use Rattle.c65_code.specs.declared.line.Line.{Line}
use Rattle.c65_genframe.specs.Frames.{Framed}
use Rattle.c65_genwide.specs.Lines.{grown}
use Rattle.c65_genexpr.specs.Comparing.{low_code}
use Rattle.c65_genexpr.specs.Lows.{byte_in}
use Rattle.c65_genexpr.specs.Uses.{uses}
use Rattle.c65_genexpr.specs.Code.{low_value_code, low_lines}

low_is : (f : Framed) (pushed fresh : ℕ) (e : Typed) → low_code (byte_in f pushed e) (low_lines f pushed fresh e) ≡ low_value_code f pushed fresh e
low_is f pushed fresh (node t (constant z)) = refl
low_is f pushed fresh (node t null) = refl
low_is f pushed fresh (node t (literal n)) = refl
low_is f pushed fresh (node t (object i)) = refl
low_is f pushed fresh (node t (func i)) = refl
low_is f pushed fresh (node t (deref e)) = refl
low_is f pushed fresh (node t (member e m)) = refl
low_is f pushed fresh (node t (load e)) = refl
low_is f pushed fresh (node t (address e)) = refl
low_is f pushed fresh (node t (decay e)) = refl
low_is f pushed fresh (node t (convert e)) = refl
low_is f pushed fresh (node t (unary op e)) = refl
low_is f pushed fresh (node t (binary op a b)) = refl
low_is f pushed fresh (node t (both a b)) = refl
low_is f pushed fresh (node t (either a b)) = refl
low_is f pushed fresh (node t (choice c a b)) = refl
low_is f pushed fresh (node t (comma a b)) = refl
low_is f pushed fresh (node t (assign a b)) = refl
low_is f pushed fresh (node t (assign_op op k a b)) = refl
low_is f pushed fresh (node t (assign_step op a b)) = refl
low_is f pushed fresh (node t (step how e)) = refl
low_is f pushed fresh (node t (copy a b)) = refl
low_is f pushed fresh (node t (call g es)) = refl
low_is f pushed fresh (node t (pack e)) = refl
low_is f pushed fresh (node t (spill i e)) = refl
low_is f pushed fresh (node t rest) = refl

pub lowered : {A E : Type 0} (r : Result A E) (g h : Drafted) (f : Framed) (pushed fresh : ℕ) (e : Typed) → OnOk r (h ≡ grown g (low_code (byte_in f pushed e) (low_lines f pushed fresh e)) (uses None e)) → OnOk r (h ≡ grown g (low_value_code f pushed fresh e) (uses None e))
lowered r g h f pushed fresh e on = subst (λ (x : List Line). OnOk r (h ≡ grown g x (uses None e))) (low_is f pushed fresh e) on
