-- What joining answers beside a definition's value, up to want of memory.
use Rattle.std.specs.Prelude.{◌≡◌, ℕ, List, [], ◌∷◌, Bool, true, false, Option, Some, None, unwrap_or, slice_get, Result, Ok, Err}
use Rattle.c65_base.specs.declared.names.Name.{Name}
use Rattle.c65_base.specs.declared.refusal.LinkKind.{LinkKind}
use Rattle.c65_base.specs.declared.refusal.Refusal.{Refusal}
use Rattle.c65_base.specs.declared.refusal.Refusal.TheVariants as refusals

-- a kind of fault, and the spelling of the name that has it
pub record JoinFault : Type 0 where
  pub kind : LinkKind
  pub name : List ℕ

infixl 10 ◌>>=◌
abbrev pub ◌>>=◌ : {A B : Type 0} → Result A JoinFault → (A → Result B JoinFault) → Result B JoinFault
(Ok x) >>= f = f x
(Err e) >>= f = Err e

-- the refusal is the definition's fault, or want of memory
abbrev pub Fails : {Y : Type 0} → Refusal → Result Y JoinFault → Type 0
Fails refusals.OutOfMemory y = Unit {0}
Fails (refusals.Link kind name) y = y ≡ Err (record { kind = kind; name = name })
Fails _ y = ⊥

-- what was answered, seen by view, is what the definition gives, unless memory ran out
abbrev pub Gives : {X Y : Type 0} → (X → Y) → Result X Refusal → Result Y JoinFault → Type 0
Gives view (Ok x) y = y ≡ Ok (view x)
Gives view (Err e) y = Fails e y

-- how a name of the table is spelled
abbrev pub spelling_at : List (List ℕ) → Name → List ℕ
spelling_at names n = unwrap_or (slice_get names n.0) []

abbrev pub fault_at : List (List ℕ) → LinkKind → Name → JoinFault
fault_at names kind n = record { kind = kind; name = spelling_at names n }

-- this kind of fault at a name, where the test holds
abbrev pub refused_if : List (List ℕ) → LinkKind → Bool → Name → Result (Unit {0}) JoinFault
refused_if names kind true n = Err (fault_at names kind n)
refused_if names kind false n = Ok tt

-- an object without a name is nowhere else, so nothing of it can be at fault
abbrev pub refused_at : List (List ℕ) → LinkKind → Bool → Option Name → Result (Unit {0}) JoinFault
refused_at names kind b None = Ok tt
refused_at names kind b (Some n) = refused_if names kind b n

-- the first name for which the test holds is refused
abbrev pub none_is : List (List ℕ) → LinkKind → (Name → Bool) → List Name → Result (Unit {0}) JoinFault
none_is names kind test [] = Ok tt
none_is names kind test (n ∷ ns) = refused_if names kind (test n) n >>= (λ first. none_is names kind test ns)
