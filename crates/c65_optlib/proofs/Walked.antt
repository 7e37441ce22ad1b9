-- Walks that are not asked for, and two walks one behind the other.
use Rattle.std.proofs.Common.{◌≡◌, ℕ, ◌+◌, Bool, true, false, List, Result, Ok, Err, refl, subst, ◌∙◌, arith}
use Rattle.c65_base.specs.declared.refusal.Refusal.{Refusal}
use Rattle.c65_code.specs.declared.line.Sym.{Sym}
use Rattle.c65_know.specs.Known.{Annotated}
use Rattle.c65_code.specs.declared.parts.RegSet.{RegSet}
use Rattle.c65_pass.specs.Passes.{Rewrites, none, counted}
use Rattle.c65_optlib.specs.Library.{OnceIf, IsWalked, BothRewrite, AreOpened}

pub not_asked : (rule : ℕ) (literals : List (Sym × List ℕ)) (code : Annotated) (asked : Bool) → asked ≡ false → IsWalked asked rule literals code code (Ok 0)
not_asked rule literals code true h = absurd cc
not_asked rule literals code false h = record {
  once = (0, (refl, refl), omega arith);
  chain = (0, none, omega arith);
  segment = λ s. s;
  extent = omega arith;
  writable = λ symbols all. all;
  out = refl;
  refused = tt;
}

-- a refusal in the first walk
pub first_refused : (inlined known : Bool) (literals : List (Sym × List ℕ)) (old new : Annotated) (refusal : Refusal) → IsWalked inlined 39 literals old new (Err refusal)
    → AreOpened inlined known literals old new (Err refusal)
first_refused inlined known literals old new refusal walked = record {
  once = tt;
  chain = (walked.chain.0, record { between = new.lines; first = walked.chain.0; second = 0; opened = walked.chain.1; known_ones = none; both = omega arith }, tt);
  segment = walked.segment;
  extent = walked.extent;
  writable = walked.writable;
  out = walked.out;
  refused = walked.refused;
}

-- the rewritings of both walks
both_rewrite : (inlined known : Bool) (literals : List (Sym × List ℕ)) (old between new : Annotated) (first second : Result ℕ Refusal) → (opened : IsWalked inlined 39 literals old between first)
    → (walked : IsWalked known 40 literals between new second) → BothRewrite literals old.out old.lines new.lines (opened.chain.0 + walked.chain.0)
both_rewrite inlined known literals old between new first second opened walked = record {
  between = between.lines;
  first = opened.chain.0;
  second = walked.chain.0;
  opened = opened.chain.1;
  known_ones = subst (λ (out : RegSet). Rewrites 40 literals out between.lines walked.chain.0 new.lines) opened.out walked.chain.1;
  both = refl;
}

-- a refusal in the second walk
pub second_refused : (inlined known : Bool) (literals : List (Sym × List ℕ)) (old between new : Annotated) (made : ℕ) (refusal : Refusal) → IsWalked inlined 39 literals old between (Ok made)
    → IsWalked known 40 literals between new (Err refusal) → AreOpened inlined known literals old new (Err refusal)
second_refused inlined known literals old between new made refusal opened walked = record {
  once = tt;
  chain = (opened.chain.0 + walked.chain.0, both_rewrite inlined known literals old between new (Ok made) (Err refusal) opened walked, tt);
  segment = λ s. walked.segment (opened.segment s);
  extent = omega (arith, opened.extent, walked.extent);
  writable = λ symbols all. walked.writable symbols (opened.writable symbols all);
  out = walked.out ∙ opened.out;
  refused = walked.refused;
}

-- counts that stand still at the end of their type, added so
counted_both : (n m a b c : ℕ) → a ≡ counted n → b ≡ counted m → c ≡ counted (a + b) → c ≡ counted (n + m)
counted_both n m a b c first second both = omega (arith, first, second, both)

-- both walks to their end
pub both_walked : (inlined known : Bool) (literals : List (Sym × List ℕ)) (old between new : Annotated) (a b made : ℕ) → made ≡ counted (a + b) → IsWalked inlined 39 literals old between (Ok a)
    → IsWalked known 40 literals between new (Ok b) → AreOpened inlined known literals old new (Ok made)
both_walked inlined known literals old between new a b made is opened walked = record {
  once = (
    opened.once.0 + walked.once.0,
    record {
      between = between.lines;
      first = opened.once.0;
      second = walked.once.0;
      opened = opened.once.1;
      known_ones = subst (λ (out : RegSet). OnceIf known 40 literals out between.lines new.lines walked.once.0) opened.out walked.once.1;
      both = refl;
    },
    counted_both opened.once.0 walked.once.0 a b made opened.once.2 walked.once.2 is,
  );
  chain = (
    opened.chain.0 + walked.chain.0,
    both_rewrite inlined known literals old between new (Ok a) (Ok b) opened walked,
    counted_both opened.chain.0 walked.chain.0 a b made opened.chain.2 walked.chain.2 is,
  );
  segment = λ s. walked.segment (opened.segment s);
  extent = omega (arith, opened.extent, walked.extent);
  writable = λ symbols all. walked.writable symbols (opened.writable symbols all);
  out = walked.out ∙ opened.out;
  refused = tt;
}
