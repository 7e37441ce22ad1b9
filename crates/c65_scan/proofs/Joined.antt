-- The tokens gathered one after another are those of the whole list.
use Rattle.std.proofs.Common.{◌≡◌, ℕ, ◌+◌, ◌<◌, ◌≤◌, Bool, true, false, nat_le, if◌then◌else◌, List, [], ◌∷◌, ◌++◌, length, get_or, drop, map, Option, Some, None, Result, Ok, Err, refl, ap, sym, ◌∙◌, subst, append_assoc}
use Rattle.std.proofs.lemmas.List.{at_drop_more, at_drop_all}
use Rattle.c65_base.specs.declared.refusal.Pos.{Pos}
use Rattle.c65_base.specs.declared.refusal.Size.TheVariants.{Literal}
use Rattle.c65_base.specs.declared.refusal.Refusal.{Refusal}
use Rattle.c65_base.specs.declared.refusal.Refusal.TheVariants as refusals
use Rattle.c65_base.specs.Limits.{limit_of}
use Rattle.c65_base.specs.Answers.{Fault, large, ◌>>=◌, Fails}
use Rattle.c65_lex.specs.declared.token.PpToken.{PpToken}
use Rattle.c65_scan.specs.declared.scanner.Scanned.{Scanned}
use Rattle.c65_scan.specs.declared.scanner.Waiting.{Waiting}
use Rattle.c65_scan.specs.declared.token.Token.{Token}
use Rattle.c65_scan.specs.declared.token.TokenKind.TheVariants as tokens
use Rattle.c65_scan.specs.declared.value.Value.{Value}
use Rattle.c65_scan.specs.declared.value.Value.TheVariants as values
use Rattle.c65_scan.specs.Tokens.{value_of, spelling_in, valued, literal, before, then_token, joined, tokens_of}
use Rattle.c65_scan.specs.Steps.{with_token, after, ended, run, first}

abbrev prefixed : List Token → Result (List Token) Fault → Result (List Token) Fault
prefixed xs (Ok ys) = Ok (xs ++ ys)
prefixed xs (Err e) = Err e

flushed_before : (xs ys : List Token) (w : Option Waiting) → (xs ++ before w []) ++ ys ≡ xs ++ before w ys
flushed_before xs ys None = append_assoc xs [] ys
flushed_before xs ys (Some w) = append_assoc xs (before (Some w) []) ys

put_before : (xs : List Token) (w : Option Waiting) (t : Token) (r : Result (List Token) Fault) → prefixed ((xs ++ before w []) ++ (t ∷ [])) r ≡ prefixed xs (then_token w t r)
put_before xs w t (Err e) = refl
put_before xs w t (Ok ys) = ap Ok (append_assoc (xs ++ before w []) (t ∷ []) ys ∙ flushed_before xs (t ∷ ys) w)

gathered : (s : Scanned) (vs : List (Value × Pos)) → run s vs ≡ prefixed s.tokens (joined s.waiting s.last vs)
gathered s [] = ap Ok (flushed_before s.tokens (record { kind = tokens.End; pos = s.last } ∷ []) s.waiting)
gathered s ((values.Skip, p) ∷ vs) = gathered s vs
gathered s ((values.Fault code, p) ∷ vs) = refl
gathered s ((values.Piece bytes, p) ∷ vs) = tested (gathered (record s { waiting = Some (literal s.waiting bytes p); last = (literal s.waiting bytes p).pos }) vs) (nat_le (length (literal s.waiting bytes p).bytes) (limit_of Literal))
  where
    tested : run (record s { waiting = Some (literal s.waiting bytes p); last = (literal s.waiting bytes p).pos }) vs ≡ prefixed s.tokens (joined (Some (literal s.waiting bytes p)) (literal s.waiting bytes p).pos vs) → (b : Bool) → ((if b then Ok (record s { waiting = Some (literal s.waiting bytes p); last = (literal s.waiting bytes p).pos }) else Err (large Literal (limit_of Literal + 1))) >>= (λ q. run q vs)) ≡ prefixed s.tokens (if b then joined (Some (literal s.waiting bytes p)) (literal s.waiting bytes p).pos vs else Err (large Literal (limit_of Literal + 1)))
    tested rest true = rest
    tested rest false = refl
gathered s ((values.Whole kind, p) ∷ vs) = gathered (with_token s kind p) vs ∙ put_before s.tokens s.waiting (record { kind = kind; pos = p }) (joined None p vs)

prefixed_none : (r : Result (List Token) Fault) → prefixed [] r ≡ r
prefixed_none (Ok ys) = refl
prefixed_none (Err e) = refl

pub tokens_run : (names : List (List ℕ)) (ts : List PpToken) → run first (map (valued names) ts) ≡ tokens_of names ts
tokens_run names ts = gathered first (map (valued names) ts) ∙ prefixed_none (tokens_of names ts)

-- a fault of one step is the fault of all
fails_bind : {A B : Type 0} (e : Refusal) (r : Result A Fault) (f : A → Result B Fault) → Fails e r → Fails e (r >>= f)
fails_bind refusals.OutOfMemory r f h = tt
fails_bind (refusals.At code pos) r f h = ap (λ x. x >>= f) h
fails_bind (refusals.TooLarge limit value) r f h = ap (λ x. x >>= f) h
fails_bind (refusals.Usage _) r f h = h
fails_bind (refusals.Missing _) r f h = h
fails_bind refusals.ReadFault r f h = h
fails_bind refusals.WriteFault r f h = h
fails_bind (refusals.Source _ _ _) r f h = h
fails_bind (refusals.BadImage _) r f h = h
fails_bind (refusals.Link _ _) r f h = h
fails_bind (refusals.HardStack _) r f h = h
fails_bind (refusals.Limit _) r f h = h
fails_bind (refusals.Illegal _) r f h = h

pub step_fails : (names : List (List ℕ)) (ts : List PpToken) (i : ℕ) (s : Scanned) (d : PpToken) (v : Value) (e : Refusal) → i < length ts → v ≡ value_of (get_or ts i d).kind (get_or ts i d).spelling (spelling_in names (get_or ts i d).spelling) → run s (map (valued names) (drop i ts)) ≡ run first (map (valued names) ts) → Fails e (after s v (get_or ts i d).pos) → Fails e (tokens_of names ts)
step_fails names ts i s d v e h is same fails =
    let goes : (after s v (get_or ts i d).pos >>= (λ q. run q (map (valued names) (drop (i + 1) ts)))) ≡ tokens_of names ts =
    ap (λ x. after s x (get_or ts i d).pos >>= (λ q. run q (map (valued names) (drop (i + 1) ts)))) is ∙ sym (at_drop_more (λ xs. run s (map (valued names) xs)) ts i d h) ∙ same ∙ tokens_run names ts in
    let P : Result (List Token) Fault → Type 0 = Fails e in
    subst P goes (fails_bind e (after s v (get_or ts i d).pos) (λ q. run q (map (valued names) (drop (i + 1) ts))) fails)

pub scan_ends : (names : List (List ℕ)) (ts : List PpToken) (i : ℕ) (s : Scanned) (r : List Token) → length ts ≤ i → run s (map (valued names) (drop i ts)) ≡ run first (map (valued names) ts) → r ≡ ended s → tokens_of names ts ≡ Ok r
scan_ends names ts i s r h same is = sym (tokens_run names ts) ∙ sym same ∙ at_drop_all (λ xs. run s (map (valued names) xs)) ts i h ∙ ap Ok (sym is)
