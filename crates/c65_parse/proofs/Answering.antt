-- What answers a reading answers what is made of it.
use Rattle.std.proofs.Common.{◌≡◌, List, Result, Ok, Err, Bool, true, ap, ◌∙◌, refl, sym, subst}
use Rattle.c65_base.specs.declared.refusal.Refusal.{Refusal}
use Rattle.c65_base.specs.declared.refusal.Refusal.TheVariants as refusals
use Rattle.c65_base.specs.Answers.{Fault, Fails, Gives, ◌>>=◌}

-- a refusal of what is read first refuses the whole
pub refused_first : {A B : Type 0} (e : Refusal) (r : Result A Fault) (f : A → Result B Fault) → Fails e r → Fails e (r >>= f)
refused_first refusals.OutOfMemory r f h = tt
refused_first (refusals.At code pos) r f h = ap (λ x. x >>= f) h
refused_first (refusals.TooLarge limit value) r f h = ap (λ x. x >>= f) h
refused_first (refusals.Usage _) r f h = h
refused_first (refusals.Missing _) r f h = h
refused_first refusals.ReadFault r f h = h
refused_first refusals.WriteFault r f h = h
refused_first (refusals.Source _ _ _) r f h = h
refused_first (refusals.BadImage _) r f h = h
refused_first (refusals.Link _ _) r f h = h
refused_first (refusals.HardStack _) r f h = h
refused_first (refusals.Limit _) r f h = h
refused_first (refusals.Illegal _) r f h = h

-- what is made of what was read
pub made_of : {A B : Type 0} (r : Result A Fault) (f : A → Result B Fault) (x : A) → r ≡ Ok x → (r >>= f) ≡ f x
made_of r f x h = ap (λ y. y >>= f) h

-- what answers behind a first part answers the whole
pub behind : {A B X : Type 0} (view : X → B) (result : Result X Refusal) (r : Result A Fault) (f : A → Result B Fault) (x : A) → r ≡ Ok x → Gives view result (f x) → Gives view result (r >>= f)
behind {A} {B} {X} view result r f x h g = subst (λ (y : Result B Fault). Gives view result y) (sym (made_of r f x h)) g

-- so does a refusal behind it
pub refused_behind : {A B : Type 0} (e : Refusal) (r : Result A Fault) (f : A → Result B Fault) (x : A) → r ≡ Ok x → Fails e (f x) → Fails e (r >>= f)
refused_behind {A} {B} e r f x h g = subst (λ (y : Result B Fault). Fails e y) (sym (made_of r f x h)) g
