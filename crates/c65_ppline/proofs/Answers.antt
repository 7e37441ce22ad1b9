-- Answers in two parts.
use Rattle.std.proofs.Common.{◌≡◌, ℕ, List, true, false, Result, Ok, Err, inr, refl}
use Rattle.std.specs.Prelude.{IfErr, OnOk}
use Rattle.std.specs.Result.{is_ok, is_err}
use Rattle.c65_base.specs.declared.refusal.Refusal.{Refusal}
use Rattle.c65_base.specs.Answers.{Fault, Gives, Fails}
use Rattle.c65_lex.specs.declared.token.PpToken.{PpToken}
use Rattle.c65_macro.specs.Expand.{Expands}
use Rattle.c65_macro.specs.Table.{Table}
use Rattle.c65_ppline.specs.Expansions.{ReadsExpansion}

-- an answer and a refusal are what the definition gives
pub gives_by : {A B : Type 0} (r : Result A Refusal) (new : B) (y : Result B Fault) → OnOk r (y ≡ Ok new) → IfErr r (λ e. Fails e y) → Gives (λ _. new) r y
gives_by (Ok x) new y a b = a
gives_by (Err e) new y a b = b

-- a list was expanded, and this was read of its expansion
pub reads_by : {X Y : Type 0} (view : X → Y) (read : List (List ℕ) → List PpToken → Result Y Fault) (table : Table) (names : List (List ℕ)) (ts : List PpToken) (known : List (List ℕ)) (out : List PpToken) (r : Result X Refusal) → Expands table names ts out known → Gives view r (read known out) → ReadsExpansion view read table names ts known r
reads_by view read table names ts known out (Ok x) e g = (out, e, g)
reads_by view read table names ts known out (Err f) e g = inr (out, known, e, g)

pub is_ok_unless : {A E : Type 0} (r : Result A E) → false ≡ is_err r → is_ok r ≡ true
is_ok_unless (Ok x) h = refl
is_ok_unless (Err e) h = absurd cc
