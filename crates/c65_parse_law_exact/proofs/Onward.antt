-- Readings of trees one behind another; and how what goes on as a part goes on as the whole.
use Rattle.std.proofs.Common.{◌≡◌, ℕ, ◌+◌, ◌≤◌, List, [], ◌∷◌, ◌++◌, length, true, refl, sym, ap, ◌∙◌, subst, append_assoc, arith}
use Rattle.std.proofs.lemmas.List.{append-nil}
use Rattle.std.specs.Prelude.{Ok}
use Rattle.c65_base.specs.Answers.{◌>>=◌}
use Rattle.c65_base.specs.declared.refusal.Pos.{Pos}
use Rattle.c65_scan.specs.declared.token.Token.{Token}
use Rattle.c65_scan.specs.declared.token.TokenKind.TheVariants as kinds
use Rattle.c65_parse_names.specs.Scopes.{Blocks, closed}
use Rattle.c65_parse.specs.Reading.{Answer}
use Rattle.c65_parse_frames.specs.declared.sign.Mark.{Mark}
use Rattle.c65_parse_frames.specs.Signs.{sign_of, is_mark}
use Rattle.c65_parse_grammar.specs.Phrases.{Phrase, token}
use Rattle.c65_parse_grammar.specs.Scopes.{Scope}
use Rattle.c65_parse_grammar.specs.Readings.{Continues}
use Rattle.c65_parse_law_sound.proofs.Got.{EndsIn, mark_kind, mark_phrase, is_mark_of}
use Rattle.c65_parse_law_faults.proofs.Local.{Reader, Triple}
use Rattle.c65_parse_law_least.specs.Viable.{FewTypes}
use Rattle.c65_parse_law_exact.proofs.Pieces.{IsTaken}
use Rattle.c65_parse_law_exact.proofs.Stops.{Going, Taking, Stop, stop_done, stop_seq}

-- a place for the tokens of completions
abbrev pub somewhere : Pos
somewhere = record { file = 0; line = 1 }

abbrev pub mark_token : Mark → Token
mark_token mark = token (mark_kind mark) somewhere

-- a token that was told to be a mark
pub marked : (mark : Mark) (tok : Token) → is_mark mark (sign_of tok.kind) ≡ true → mark_phrase mark (tok ∷ [])
marked mark tok e = let last : Token = token kinds.End somewhere in is_mark_of mark (tok ∷ last ∷ []) (record { tok = tok; rest = last ∷ []; tokens_are = refl; here = refl; behind = refl; ends = refl }) e

pub few_closed : (block : Scope) (outer : Blocks) → FewTypes (block ∷ outer) → FewTypes (closed (block ∷ outer))
few_closed block [] few = few
few_closed block (other ∷ blocks) few = few.1

-- behind nothing more
pub nothing_more : (goes : ℕ → List Token → Type 0) (n : ℕ) (xs : List Token) → goes n xs → goes n (xs ++ [])
nothing_more goes n xs h = subst (goes n) (sym (append-nil xs)) h

-- one reading, and then another in the scope behind it
pub stop_then : {A B : Type 0} (limit m n o k j : ℕ) (begins goes : Going) (phrase : A → Phrase) (behind : A → Blocks) (depth : A → ℕ) (takes : Taking B) (read : Reader (Triple A)) (g : List Token → List Token → Triple A → Answer B) (unit us ts : List Token) → j ≤ k + m → o ≤ m + n → EndsIn ts
    → Stop limit 0 m k begins (IsTaken phrase behind depth limit) read unit us ts
    → ((n : ℕ) (xs : List Token) → limit ≤ n → begins n xs → goes n xs)
    → ((a : A) (xs rest : List Token) → phrase a xs → depth a ≤ limit → FewTypes (behind a) → ts ≡ xs ++ rest → EndsIn rest → m + length rest ≤ length ts → Stop limit 0 n j (λ n ys. goes n (xs ++ ys)) (λ x inner ys. takes x inner (xs ++ ys)) (λ unit us ys. g unit us (a, ys, behind a)) unit us rest)
    → Stop limit 0 o k goes takes (λ unit us ys. read unit us ys >>= g unit us) unit us ts
stop_then limit m n o k j begins goes phrase behind depth takes read g unit us ts near up ends h begun f = stop_seq limit 0 0 m n o k j begins goes (IsTaken phrase behind depth limit) takes read g unit us ts near (omega arith) up ends h begun
    (λ a scope xs rest took are left short. subst (λ s. Stop limit 0 n j (λ n ys. goes n (xs ++ ys)) (λ x inner ys. takes x inner (xs ++ ys)) (λ unit us ys. g unit us (a, ys, s)) unit us rest) (sym took.scope_is) (f a xs rest took.derives took.within (subst FewTypes took.scope_is took.few) are left short))

-- the same tree in another
pub stop_mapped : {A B : Type 0} (limit m o k : ℕ) (begins goes : Going) (firsts : Taking A) (takes : Taking B) (build : A → B) (read : Reader (Triple A)) (unit us ts : List Token) → o ≤ m → EndsIn ts
    → Stop limit 0 m k begins firsts read unit us ts
    → ((n : ℕ) (xs : List Token) → limit ≤ n → begins n xs → goes n xs)
    → ((a : A) (scope : Blocks) (xs rest : List Token) → ts ≡ xs ++ rest → firsts a scope xs → takes (build a) scope xs)
    → Stop limit 0 o k goes takes (λ unit us ys. read unit us ys >>= (λ e. Ok (build e.0, e.1, e.2))) unit us ts
stop_mapped limit m o k begins goes firsts takes build read unit us ts up ends h begun f = stop_seq limit 0 0 m 0 o k 0 begins goes firsts takes read (λ unit us e. Ok (build e.0, e.1, e.2)) unit us ts (omega arith) (omega arith) (omega arith) ends h begun
    (λ a scope xs rest took are left short. stop_done limit 0 0 (λ n ys. goes n (xs ++ ys)) (λ x inner ys. takes x inner (xs ++ ys)) (build a) scope unit us rest left (subst (takes (build a) scope) (sym (append-nil xs)) (f a scope xs rest are took)))

-- what goes on as a part goes on as the whole, with tokens before it
pub onward : {A B : Type 0} (phrase : A → Phrase) (other : B → Phrase) (depth : A → ℕ) (deep : B → ℕ) (n : ℕ) (front xs : List Token) (build : A → B) → ((a : A) (zs : List Token) → phrase a zs → other (build a) (front ++ zs)) → ((a : A) → depth a ≤ n → deep (build a) ≤ n) → Continues phrase depth n xs → Continues other deep n (front ++ xs)
onward phrase other depth deep n front xs build f g k = record {
  tree = build k.tree;
  more = k.more;
  derives = subst (other (build k.tree)) (sym (append_assoc front xs k.more)) (f k.tree (xs ++ k.more) k.derives);
  within = g k.tree k.within;
}

-- and with tokens behind it
pub extended : {A B : Type 0} (phrase : A → Phrase) (other : B → Phrase) (depth : A → ℕ) (deep : B → ℕ) (n : ℕ) (front end xs : List Token) (build : A → B) → ((a : A) (zs : List Token) → phrase a zs → other (build a) (front ++ (zs ++ end))) → ((a : A) → depth a ≤ n → deep (build a) ≤ n) → Continues phrase depth n xs → Continues other deep n (front ++ xs)
extended phrase other depth deep n front end xs build f g k = record {
  tree = build k.tree;
  more = k.more ++ end;
  derives = subst (other (build k.tree)) (ap (λ ys. front ++ ys) (append_assoc xs k.more end) ∙ sym (append_assoc front xs (k.more ++ end))) (f k.tree (xs ++ k.more) k.derives);
  within = g k.tree k.within;
}
