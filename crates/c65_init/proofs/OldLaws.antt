-- The parameters of an old-style definition, as the code enters their types.
use Rattle.std.proofs.Common.{◌≡◌, ◌∙◌, ℕ, zero, suc, ◌<◌, List, [], ◌∷◌, length, map, get_or, set, Bool, false, Option, Some, None, refl, sym, ap, arith, Ok, Err}
use Rattle.std.specs.Prelude.{slice_get, is_some, option_map, if◌then◌else◌}
use Rattle.std.proofs.lemmas.List.{map-set}
use Rattle.c65_base.specs.declared.code.Code.TheVariants.{Redeclared}
use Rattle.c65_base.specs.declared.refusal.Pos.{Pos}
use Rattle.c65_base.specs.Answers.{at}
use Rattle.c65_ctype.specs.declared.types.QType.{QType}
use Rattle.c65_ctype.specs.Views.{qty_of}
use Rattle.c65_init.specs.declared.old_style.Old.{Old}
use Rattle.c65_init.specs.Parameters.{old_of, with_type, entered_old}

there : (os : List Old) (i : ℕ) (o : Old) → i < length os → o ≡ get_or os i o → slice_get (map old_of os) i ≡ Some (old_of o)
there [] i o h is = absurd (omega (arith, h))
there (x ∷ os) zero o h is = ap (λ y. Some (old_of y)) (sym is)
there (x ∷ os) (suc i) o h is = there os i o (omega (arith, h)) is

seen : (t : Option QType) → is_some (option_map qty_of t) ≡ is_some t
seen None = refl
seen (Some t) = refl

-- a parameter that has no type yet gets one
pub old_given : (os : List Old) (i : ℕ) (o : Old) (t : QType) (register : Bool) (p : Pos) → i < length os → o ≡ get_or os i o → is_some o.ty ≡ false → entered_old (map old_of os) i (qty_of t) register p (slice_get (map old_of os) i) ≡ Ok (map old_of (set os i (record { name = o.name; ty = Some t; is_register = register; pos = o.pos })))
old_given os i o t register p h is empty =
    ap (entered_old (map old_of os) i (qty_of t) register p) (there os i o h is)
    ∙ ap (λ (b : Bool). if b then Err (at Redeclared p) else Ok (set (map old_of os) i (with_type (old_of o) (qty_of t) register))) (seen o.ty ∙ empty)
    ∙ ap (λ us. Ok us) (sym (map-set old_of os i (record { name = o.name; ty = Some t; is_register = register; pos = o.pos })))
