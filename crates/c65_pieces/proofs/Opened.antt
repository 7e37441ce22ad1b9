-- A comment that goes on past whole lines is as one that begins behind them.
use Rattle.std.proofs.Common.{◌≡◌, ℕ, zero, suc, ◌≤◌, List, [], ◌∷◌, ◌++◌, refl, sym, ap, ◌∙◌, subst, arith, Bool, true, false, inl, inr, Some}
use Rattle.std.specs.Prelude.{◌==◌, ◌&&◌, nat_lt}
use Rattle.std.proofs.lemmas.Bool.Decides.{nat_tests}
use Rattle.c65_lex.specs.Cells.{Cell, bytes, is_long}
use Rattle.c65_lex.specs.Blanks.{Blanks, blank_of, none, over, unclosed, too_long, past_comment}
use Rattle.c65_lex.specs.Next.{Next, ended, open_comment, long_line, token, first_line, Stands, IsNext}
use Rattle.c65_pieces.specs.Scanned.{opening}
use Rattle.c65_pieces.specs.Given.{ends}
use Rattle.c65_pieces.proofs.Further.{further, blank_more, blanks_more, blanks_end}

pub opening_blank : (line : ℕ) (xs : List Cell) → blank_of (opening (Some line) ++ xs) ≡ past_comment false xs
opening_blank line xs = refl

pub comment_some : (star : Bool) (cs : List Cell) → past_comment star cs ≡ none → ⊥
comment_some star [] e = cc
comment_some star (c ∷ cs) e = by (is_long c) refl (star && (c.byte == 47)) refl (comment_some (c.byte == 42) cs)
  where
    by : (t : Bool) → is_long c ≡ t → (u : Bool) → star && (c.byte == 47) ≡ u → (past_comment (c.byte == 42) cs ≡ none → ⊥) → ⊥
    by true p u q i = let f : too_long ≡ none = rw p at e in cc
    by false p true q i = let f : over cs ≡ none = rw (p, q) at e in cc
    by false p false q i = i (rw (p, q) at e)

-- the same steps from two places with the same blank
replay : (m : ℕ) (a b cs : List Cell) → blank_of a ≡ blank_of b → Blanks (suc m) a cs → Blanks (suc m) b cs
replay zero a b cs e (x, p, f) = (b, refl, sym e ∙ ap blank_of (sym p) ∙ f)
replay (suc m) a b cs e (x, p, f) = (x, replay m a b x e p, f)

pub record Joined (n m : ℕ) (a c : List Cell) : Type 0 where
  pub count : ℕ
  pub first : n ≤ count
  pub second : m ≤ count
  pub leads : Blanks count a c

pub join : (n m : ℕ) (a b c : List Cell) → Blanks n a b → Blanks m b c → Joined n m a c
join n zero a b c p q = record { count = n; first = omega arith; second = omega arith; leads = subst (λ (x : List Cell). Blanks n a x) (sym q) p }
join n (suc m) a b c p (x, q, f) =
    let j = join n m a b x p q in
    record { count = suc j.count; first = omega (arith, j.first); second = omega (arith, j.second); leads = (x, j.leads, f) }

more_blanks : (m k : ℕ) → suc m ≤ k → nat_lt 0 (suc m) ≡ nat_lt 0 k
more_blanks m k h = let p : nat_lt 0 k ≡ true = grind (arith, nat_tests) in let q : nat_lt 0 (suc m) ≡ true = grind (arith, nat_tests) in q ∙ sym p

stands_more : (header : Bool) (m k : ℕ) (cs : List Cell) (next : Next) → suc m ≤ k → Stands header (suc m) cs next → Stands header k cs next
stands_more header m k cs ended h s = s
stands_more header m k cs (open_comment line) h s = s
stands_more header m k cs long_line h s = s
stands_more header m k cs (token kind spelling line space rest) h s = (s.0, s.1 ∙ more_blanks m k h, s.2)

nonempty : (cs : List Cell) → ends (bytes cs) ≡ true → cs ≡ [] → ⊥
nonempty cs h e = let k : false ≡ true = subst (λ (x : List Cell). ends (bytes x) ≡ true) e h in cc

first_more : (cs xs : List Cell) → ends (bytes cs) ≡ true → first_line (cs ++ xs) ≡ first_line cs
first_more [] xs h = absurd cc
first_more (c ∷ cs) xs h = refl

-- what comes next behind a comment that is open where the lines end
module _ (header : Bool) (start xs : List Cell) (lines : ends (bytes start) ≡ true) (line : ℕ) (o : IsNext header start (open_comment line)) where
  at_here : (cs : List Cell) (next : Next) → Blanks 0 (opening (Some line) ++ xs) cs → Stands header 0 cs next → IsNext header (start ++ xs) next
  at_here cs ended b s = let f : opening (Some line) ++ xs ≡ [] = sym b ∙ s in absurd cc
  at_here cs (open_comment other) b s =
      let h = blanks_end o.blanks start o.cells lines o.behind in
      let e : past_comment false xs ≡ unclosed = subst (λ (x : List Cell). blank_of x ≡ unclosed) b s.0 in
      record { blanks = o.blanks; cells = o.cells ++ xs; behind = blanks_more o.blanks start o.cells xs lines o.behind; stands = (blank_more o.cells xs h ∙ ap (further xs) o.stands.0 ∙ e, s.1 ∙ ap first_line b ∙ o.stands.1 ∙ sym (first_more o.cells xs h)) }
  at_here cs long_line b (inl s) =
      let h = blanks_end o.blanks start o.cells lines o.behind in
      let e : past_comment false xs ≡ too_long = subst (λ (x : List Cell). blank_of x ≡ too_long) b s in
      record { blanks = o.blanks; cells = o.cells ++ xs; behind = blanks_more o.blanks start o.cells xs lines o.behind; stands = inl (blank_more o.cells xs h ∙ ap (further xs) o.stands.0 ∙ e) }
  at_here cs long_line b (inr s) = absurd (comment_some false xs (subst (λ (x : List Cell). blank_of x ≡ none) b s.0))
  at_here cs (token kind spelling l space rest) b s = absurd (comment_some false xs (subst (λ (x : List Cell). blank_of x ≡ none) b s.0))

  by_blanks : (n : ℕ) (cs : List Cell) (next : Next) → Blanks n (opening (Some line) ++ xs) cs → Stands header n cs next → IsNext header (start ++ xs) next
  by_blanks zero cs next b s = at_here cs next b s
  by_blanks (suc m) cs next b s =
      let h = blanks_end o.blanks start o.cells lines o.behind in
      let e : blank_of (opening (Some line) ++ xs) ≡ blank_of (o.cells ++ xs) = sym (blank_more o.cells xs h ∙ ap (further xs) o.stands.0) in
      let j = join o.blanks (suc m) (start ++ xs) (o.cells ++ xs) cs (blanks_more o.blanks start o.cells xs lines o.behind) (replay m (opening (Some line) ++ xs) (o.cells ++ xs) cs e b) in
      record { blanks = j.count; cells = cs; behind = j.leads; stands = stands_more header m j.count cs next j.second s }

  pub next_opened : (next : Next) → IsNext header (opening (Some line) ++ xs) next → IsNext header (start ++ xs) next
  next_opened next p = by_blanks p.blanks p.cells next p.behind p.stands
