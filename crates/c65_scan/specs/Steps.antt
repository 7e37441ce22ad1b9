-- The tokens of a unit, gathered one after another.
use Rattle.std.specs.Prelude.{◌+◌, nat_le, if◌then◌else◌, List, [], ◌∷◌, ◌++◌, length, Some, None, Result, Ok, Err}
use Rattle.c65_base.specs.declared.refusal.Pos.{Pos}
use Rattle.c65_base.specs.declared.refusal.Size.TheVariants.{Literal}
use Rattle.c65_base.specs.Answers.{Fault, at, large, ◌>>=◌}
use Rattle.c65_base.specs.Limits.{limit_of}
use Rattle.c65_scan.specs.declared.scanner.Scanned.{Scanned}
use Rattle.c65_scan.specs.declared.scanner.Waiting.{Waiting}
use Rattle.c65_scan.specs.declared.token.Token.{Token}
use Rattle.c65_scan.specs.declared.token.TokenKind.{TokenKind}
use Rattle.c65_scan.specs.declared.token.TokenKind.TheVariants as tokens
use Rattle.c65_scan.specs.declared.value.Value.{Value}
use Rattle.c65_scan.specs.declared.value.Value.TheVariants as values
use Rattle.c65_scan.specs.Tokens.{literal, before, start}

-- the tokens so far, with the literal that waits
abbrev pub flushed : Scanned → List Token
flushed s = s.tokens ++ before s.waiting []

abbrev pub waits : Scanned → Waiting → Result Scanned Fault
waits s w = if nat_le (length w.bytes) (limit_of Literal) then Ok (record s { waiting = Some w; last = w.pos }) else Err (large Literal (limit_of Literal + 1))

abbrev pub with_token : Scanned → TokenKind → Pos → Scanned
with_token s kind p = record { tokens = flushed s ++ (record { kind = kind; pos = p } ∷ []); waiting = None; last = p }

-- with one more value
abbrev pub after : Scanned → Value → Pos → Result Scanned Fault
after s values.Skip p = Ok s
after s (values.Fault code) p = Err (at code p)
after s (values.Piece bytes) p = waits s (literal s.waiting bytes p)
after s (values.Whole kind) p = Ok (with_token s kind p)

abbrev pub ended : Scanned → List Token
ended s = flushed s ++ (record { kind = tokens.End; pos = s.last } ∷ [])

abbrev pub run : Scanned → List (Value × Pos) → Result (List Token) Fault
run s [] = Ok (ended s)
run s (v ∷ vs) = after s v.0 v.1 >>= (λ q. run q vs)

abbrev pub first : Scanned
first = record { tokens = []; waiting = None; last = start }
