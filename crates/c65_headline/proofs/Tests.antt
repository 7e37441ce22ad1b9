-- Tests that are passed together, or one of them.
use Rattle.std.proofs.Common.{◌⊎◌, inl, inr, Bool, true, false, refl}
use Rattle.std.specs.Prelude.{IsTrue, ◌&&◌, ◌||◌}

pub both : (a b : Bool) → IsTrue (a && b) → IsTrue a × IsTrue b
both true true h = (refl, refl)
both true false h = cc
both false b h = cc

pub and_true : (a b : Bool) → IsTrue a → IsTrue b → IsTrue (a && b)
and_true true true h k = refl
and_true true false h k = cc
and_true false b h k = cc

pub either : (a b : Bool) → IsTrue (a || b) → IsTrue a ⊎ IsTrue b
either true b h = inl refl
either false true h = inr refl
either false false h = cc

pub or_left : (a b : Bool) → IsTrue a → IsTrue (a || b)
or_left true b h = refl
or_left false b h = cc

pub or_right : (a b : Bool) → IsTrue b → IsTrue (a || b)
or_right true b h = refl
or_right false true h = refl
or_right false false h = cc
