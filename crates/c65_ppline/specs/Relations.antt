-- Definitions that say which answers may come: a value, or a refusal.
use Rattle.std.specs.Prelude.{◌≡◌, ◌⊎◌, Bool, true, false, Result, Ok, Err, ⊤}
use Rattle.c65_base.specs.declared.refusal.Refusal.{Refusal}
use Rattle.c65_base.specs.declared.refusal.Refusal.TheVariants as refusals
use Rattle.c65_base.specs.Answers.{Fault, Gives}

abbrev pub Answers : Type 0 → Type 1
Answers A = Result A Refusal → Type 0

-- this answer and no other
abbrev pub just : {A : Type 0} → Result A Refusal → Answers A
just answer z = z ≡ answer

-- a definition's value or fault
abbrev pub of : {A : Type 0} → Result A Fault → Answers A
of y z = Gives (λ x. x) z y

abbrev pub by_test : {A : Type 0} → Bool → Answers A → Answers A → Answers A
by_test true P Q = P
by_test false P Q = Q

-- One answer behind another. The first refusal is that of both.
infixl 10 ◌then◌
abbrev pub ◌then◌ : {A B : Type 0} → Answers A → (A → Answers B) → Answers B
◌then◌ {A} P f (Ok b) = (a : A) × P (Ok a) × f a (Ok b)
◌then◌ {A} P f (Err e) = P (Err e) ⊎ ((a : A) × P (Ok a) × f a (Err e))

-- what may come in the place of each answer: want of memory, and a read that failed
abbrev pub IsFree : Refusal → Type 0
IsFree refusals.OutOfMemory = ⊤
IsFree refusals.ReadFault = ⊤
IsFree _ = ⊥

-- what was answered, seen by view, may come
abbrev pub Comes : {X A : Type 0} → (X → A) → Answers A → Result X Refusal → Type 0
Comes view P (Ok x) = P (Ok (view x))
Comes view P (Err e) = IsFree e ⊎ P (Err e)
