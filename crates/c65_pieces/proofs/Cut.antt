-- The tokens of all bytes that were given.
use Rattle.std.proofs.Common.{ℕ, List, [], ◌∷◌, Bool, sym, subst}
use Rattle.c65_lex.specs.Cells.{Cell}
use Rattle.c65_lex.specs.Next.{Next, IsNext, ended, token}
use Rattle.c65_lex.specs.Text.{Lexeme, Before, AreTokens, allows_header, after}
use Rattle.c65_pieces.specs.Lines.{IsNextByLines}
use Rattle.c65_pieces.specs.Pieces.{Pieces, ahead_of}
use Rattle.c65_pieces.specs.Answers.{IsWaiting}
use Rattle.c65_pieces.specs.Runs.{Event, gives, finishes, wants, takes, bytes_given, tokens_taken, before_after, Run, AreReadByLines}

-- these tokens come next, and then this
abbrev AreRead : (Bool → List Cell → Next → Type 0) → Before → List Cell → List Lexeme → Next → Type 0
AreRead IsComing before start [] next = IsComing (allows_header before) start next
AreRead IsComing before start (t ∷ ts) next = (rest : List Cell) × IsComing (allows_header before) start (token t.kind t.spelling t.line t.space rest) × AreRead IsComing (after before t) rest ts next

module _ (IsComing : Bool → List Cell → Next → Type 0) (waits : (old new : Pieces) → IsWaiting old new → (header : Bool) (more : List ℕ) (next : Next) → IsComing header (ahead_of new more) next → IsComing header (ahead_of old more) next) where
  same_tokens : (before : Before) (old new : List Cell) (tokens : List Lexeme) (last : Next) → ((next : Next) → IsComing (allows_header before) new next → IsComing (allows_header before) old next) → AreRead IsComing before new tokens last → AreRead IsComing before old tokens last
  same_tokens before old new [] last f a = f last a
  same_tokens before old new (t ∷ tokens) last f a = (a.0, f _ a.1, a.2)

  pub tokens_behind : (events : List Event) (before : Before) (old : Pieces) (last : Pieces) (next : Next) → Run IsComing before old events last → IsComing (allows_header (before_after before events)) (ahead_of last []) next → AreRead IsComing before (ahead_of old (bytes_given events)) (tokens_taken events) next
  tokens_behind [] before old last next r a = subst (λ (p : Pieces). IsComing (allows_header before) (ahead_of p []) next) r a
  tokens_behind (gives piece ∷ events) before old last next (new, k, r) a =
      subst (λ (cs : List Cell). AreRead IsComing before cs (tokens_taken events) next) (k.same (bytes_given events)) (tokens_behind events before new last next r a)
  tokens_behind (finishes ∷ events) before old last next (new, f, e, r) a =
      let i = tokens_behind events before new last next r a in
      let j = subst (λ (bs : List ℕ). AreRead IsComing before (ahead_of new bs) (tokens_taken events) next) e i in
      subst (λ (bs : List ℕ). AreRead IsComing before (ahead_of old bs) (tokens_taken events) next) (sym e) (subst (λ (cs : List Cell). AreRead IsComing before cs (tokens_taken events) next) f.same j)
  tokens_behind (wants ∷ events) before old last next (new, w, r) a =
      same_tokens before (ahead_of old (bytes_given events)) (ahead_of new (bytes_given events)) (tokens_taken events) next (waits old new w (allows_header before) (bytes_given events)) (tokens_behind events before new last next r a)
  tokens_behind (takes t ∷ events) before old last next (new, n, r) a =
      (ahead_of new (bytes_given events), n (bytes_given events), tokens_behind events _ new last next r a)

as_tokens : (ts : List Lexeme) (before : Before) (cs : List Cell) → AreRead IsNext before cs ts ended → AreTokens before cs ts
as_tokens [] before cs a = a
as_tokens (t ∷ ts) before cs (rest, n, a) = (rest, n, as_tokens ts _ rest a)

as_lines : (ts : List Lexeme) (before : Before) (cs : List Cell) (next : Next) → AreRead IsNextByLines before cs ts next → AreReadByLines before cs ts next
as_lines [] before cs next a = a
as_lines (t ∷ ts) before cs next (rest, n, a) = (rest, n, as_lines ts _ rest next a)

pub all_tokens : (events : List Event) (before : Before) (old last : Pieces) → Run IsNext before old events last → IsNext (allows_header (before_after before events)) (ahead_of last []) ended → AreTokens before (ahead_of old (bytes_given events)) (tokens_taken events)
all_tokens events before old last r n = as_tokens (tokens_taken events) before (ahead_of old (bytes_given events)) (tokens_behind IsNext (λ old new w. w.same) events before old last ended r n)

pub all_by_lines : (events : List Event) (before : Before) (old last : Pieces) (next : Next) → Run IsNextByLines before old events last → IsNextByLines (allows_header (before_after before events)) (ahead_of last []) next → AreReadByLines before (ahead_of old (bytes_given events)) (tokens_taken events) next
all_by_lines events before old last next r n = as_lines (tokens_taken events) before (ahead_of old (bytes_given events)) next (tokens_behind IsNextByLines (λ old new w. w.by_lines) events before old last next r n)
