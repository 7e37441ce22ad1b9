-- What is answered of the tokens at the front, exactly.
use Rattle.std.proofs.Common.{◌≡◌, ℕ, ◌≤◌, List, [], ◌∷◌, ◌++◌, sym, ap, ◌∙◌, subst, arith}
use Rattle.std.proofs.lemmas.List.{append_cancel_right}
use Rattle.std.specs.Prelude.{Result, Ok, Err}
use Rattle.c65_base.specs.Answers.{Fault, at, large, Gives}
use Rattle.c65_base.specs.declared.code.Code.{Code}
use Rattle.c65_base.specs.declared.refusal.Pos.{Pos}
use Rattle.c65_base.specs.declared.refusal.Size.{Size}
use Rattle.c65_base.specs.declared.refusal.Refusal.{Refusal}
use Rattle.c65_base.specs.declared.refusal.Refusal.TheVariants as refusals
use Rattle.c65_scan.specs.declared.token.Token.{Token}
use Rattle.c65_parse_names.specs.Scopes.{Blocks}
use Rattle.c65_parse.specs.declared.state.Parser.{Parser}
use Rattle.c65_parse.specs.Reading.{Answer, token_at, rest_of, blocks_of}
use Rattle.c65_decl.specs.Here.{pos_here}
use Rattle.c65_parse_grammar.specs.Phrases.{Phrase}
use Rattle.c65_parse_grammar.specs.Scopes.{Scope}
use Rattle.c65_parse_grammar.specs.Readings.{Never, IsWhole}
use Rattle.c65_parse_law_sound.specs.Derived.{IsRead}
use Rattle.c65_parse_law_faults.proofs.Local.{Went, Is, here_is}
use Rattle.c65_parse_law_least.proofs.Halting.{Halted, Halts}
use Rattle.c65_parse_law_exact.specs.Calls.{ReadsFront}
use Rattle.c65_parse_law_exact.proofs.Never.{GrowsAlways, Reads, never, no_depth, code_is, depth_is, size_is, Leaves, never_more}

-- every tree is read with some token behind it
reads_it : {Tree : Type 0} (read : ℕ → List Token → Answer Tree) (phrase : Tree → Phrase) (depth : Tree → ℕ) → Leaves read phrase depth → Reads read phrase depth
reads_it read phrase depth leaves limit ts tree p deep = let it = leaves limit ts tree p deep in (it.0, _, it.2)

-- what is known of a reading of a phrase: of its answers, of its faults, at greater limits, and of the phrase's trees
pub record Known {Tree : Type 0} (phrase : Pos → Tree → Phrase) (behind : Tree → Scope) (outer : Blocks) (depth : Tree → ℕ) (read : ℕ → List Token → Answer Tree) (tokens : List Token) : Type 0 where
  pub derived : (tree : Tree) (rest : List Token) (scope : Blocks) → read 256 tokens ≡ Ok (tree, rest, scope) → IsRead phrase behind outer tokens tree rest scope
  pub within : (tree : Tree) (rest : List Token) (scope : Blocks) → read 256 tokens ≡ Ok (tree, rest, scope) → depth tree ≤ 256
  pub went : Is 0 0 0 (λ unit us ys. read 256 ys) tokens (read 256 tokens)
  pub halts : (l : Pos) → Halts 256 (phrase l) depth (read 256) tokens (read 256 tokens)
  pub grows : GrowsAlways read
  pub leaves : (l : Pos) → Leaves read (phrase l) depth

whole : {Tree : Type 0} (phrase : Pos → Tree → Phrase) (behind : Tree → Scope) (outer : Blocks) (depth : Tree → ℕ) (read : ℕ → List Token → Answer Tree) (tokens : List Token) (tree : Tree) (rest : List Token) (scope : Blocks) → Known phrase behind outer depth read tokens → read 256 tokens ≡ Ok (tree, rest, scope) → IsWhole (phrase (pos_here rest)) depth 256 tokens tree rest
whole phrase behind outer depth read tokens tree rest scope k e =
    let d = k.derived tree rest scope e in
    let w : Went 0 0 (λ unit us ys. read 256 ys) tokens tree rest scope = subst (Is 0 0 0 (λ unit us ys. read 256 ys) tokens) e k.went in
    let l = pos_here rest in
    let place : d.next.pos ≡ l = sym (ap (λ xs. (token_at xs 0).pos) d.rest_is ∙ ap (λ x. x.pos) (here_is d.next d.others)) in
    let same : d.front ≡ w.before = append_cancel_right d.front w.before rest (sym d.tokens_are ∙ (w.tokens_are ∙ ap (λ xs. w.before ++ xs) (sym w.rest_is))) in
    record {
      front = d.front;
      next = w.next;
      others = w.others;
      rest_is = w.rest_is;
      tokens_are = d.tokens_are;
      derives = subst (λ m. phrase m tree d.front) place d.derives;
      within = k.within tree rest scope e;
      ends = subst (λ xs. Never (phrase l) depth (xs ++ w.next ∷ [])) (sym same)
          (never_more 256 read (phrase l) depth tree scope w.before w.next (λ more. w.again (w.before ++ w.next ∷ more) (w.before ++ w.next ∷ more) more (omega arith) (omega arith)) k.grows (k.leaves l));
    }

-- a fault, unless memory ran out
halted : {Tree : Type 0} (phrase : Pos → Tree → Phrase) (behind : Tree → Scope) (outer : Blocks) (depth : Tree → ℕ) (read : ℕ → List Token → Answer Tree) (tokens : List Token) (l : Pos) (fault : Fault) → Known phrase behind outer depth read tokens → read 256 tokens ≡ Err fault → Halted 256 (phrase l) depth (read 256) tokens fault
halted phrase behind outer depth read tokens l fault k e = subst (Halts 256 (phrase l) depth (read 256) tokens) e (k.halts l)

refused : {X Tree : Type 0} (phrase : Pos → Tree → Phrase) (behind : Tree → Scope) (outer : Blocks) (depth : Tree → ℕ) (read : ℕ → List Token → Answer Tree) (before later : Parser) (view : X → Tree) (l : Pos) (code : Code) (pos : Pos) → Known phrase behind outer depth read (rest_of before) → read 256 (rest_of before) ≡ Err (at code pos) → ReadsFront phrase behind outer depth before later view l (Err (refusals.At code pos))
refused phrase behind outer depth read before later view l code pos k e =
    let h = halted phrase behind outer depth read (rest_of before) l (at code pos) k e in
    let is = code_is h.next code pos h.fault_is in (
      h.next,
      is.0,
      is.1,
      record {
        front = h.before;
        others = h.others;
        tokens_are = h.tokens_are;
        before = h.goes_on;
        never = never 256 read (phrase l) depth (at code pos) h.before h.next (no_depth code pos) h.again k.grows (reads_it read (phrase l) depth (k.leaves l));
      },
    )

too_deep : {X Tree : Type 0} (phrase : Pos → Tree → Phrase) (behind : Tree → Scope) (outer : Blocks) (depth : Tree → ℕ) (read : ℕ → List Token → Answer Tree) (before later : Parser) (view : X → Tree) (l : Pos) (size : Size) (value : ℕ) → Known phrase behind outer depth read (rest_of before) → read 256 (rest_of before) ≡ Err (large size value) → ReadsFront phrase behind outer depth before later view l (Err (refusals.TooLarge size value))
too_deep phrase behind outer depth read before later view l size value k e =
    let h = halted phrase behind outer depth read (rest_of before) l (large size value) k e in
    let deep = depth_is h.next size value h.fault_is in
    let is = size_is size value deep in
    let more = h.deeper deep in (
      is.0,
      is.1,
      record {
        front = h.before;
        next = h.next;
        others = h.others;
        tokens_are = h.tokens_are;
        before = h.goes_on;
        none = h.none;
        deeper = (more.0, more.2);
      },
    )

-- what a call answers
pub reads_front : {X Tree : Type 0} (phrase : Pos → Tree → Phrase) (behind : Tree → Scope) (outer : Blocks) (depth : Tree → ℕ) (read : ℕ → List Token → Answer Tree) (before later : Parser) (view : X → Tree) (l : Pos) (r : Result X Refusal) → Known phrase behind outer depth read (rest_of before) → Gives {Y = Tree × List Token × Blocks} (λ x. (view x, rest_of later, blocks_of later)) r (read 256 (rest_of before)) → ReadsFront phrase behind outer depth before later view l r
reads_front phrase behind outer depth read before later view l (Ok x) k h = (whole phrase behind outer depth read (rest_of before) (view x) (rest_of later) (blocks_of later) k h, (k.derived (view x) (rest_of later) (blocks_of later) h).scope_is)
reads_front phrase behind outer depth read before later view l (Err refusals.OutOfMemory) k h = tt
reads_front phrase behind outer depth read before later view l (Err (refusals.At code pos)) k h = refused phrase behind outer depth read before later view l code pos k h
reads_front phrase behind outer depth read before later view l (Err (refusals.TooLarge size value)) k h = too_deep phrase behind outer depth read before later view l size value k h
reads_front phrase behind outer depth read before later view l (Err _) k h = absurd h
