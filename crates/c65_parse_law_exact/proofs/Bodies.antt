-- A function's body: a statement that begins with a brace goes on to a block.
use Rattle.std.proofs.Common.{◌≡◌, ℕ, ◌≤◌, List, [], ◌∷◌, ◌++◌, true, refl, subst, arith}
use Rattle.c65_base.specs.declared.refusal.Pos.{Pos}
use Rattle.c65_scan.specs.declared.token.Punct.TheVariants as puncts
use Rattle.c65_scan.specs.declared.token.Token.{Token}
use Rattle.c65_scan.specs.declared.token.TokenKind.TheVariants as kinds
use Rattle.c65_tree.specs.Trees as t
use Rattle.c65_parse_grammar.specs.Phrases.{token, given}
use Rattle.c65_parse_grammar.specs.Scopes.{Scope}
use Rattle.c65_parse_grammar.specs.Statements.{statement, is_block}
use Rattle.c65_parse_grammar.specs.Readings.{Continues}
use Rattle.c65_parse_law_sound.proofs.Units.{Brace, block_begins}
use Rattle.c65_parse_law_exact.proofs.Pieces.{whole_depth}
use Rattle.c65_parse_law_exact.proofs.Fronts.{IsFront}

abbrev pub empty_block : t.StmtTree
empty_block = t.block (record { file = 0; line = 1 }) [] t.no_stmts

abbrev pub braces : List Token
braces = let l : Pos = record { file = 0; line = 1 } in token (kinds.Punct puncts.OpenBrace) l ∷ token (kinds.Punct puncts.CloseBrace) l ∷ []

pub braces_are : (sc : Scope) → statement sc empty_block braces
braces_are sc =
    let l : Pos = record { file = 0; line = 1 } in
    let end : List Token = token (kinds.Punct puncts.CloseBrace) l ∷ [] in
    (token (kinds.Punct puncts.OpenBrace) l ∷ [], end, refl, refl, ([], end, refl, refl, ([], end, refl, refl, (l, refl))))

pub block_goes : (sc : Scope) (n : ℕ) (ts xs : List Token) → 1 ≤ n → Brace ts → IsFront ts xs → Continues (statement sc) whole_depth n xs → Continues (λ s. given (is_block s ≡ true) (statement sc s)) whole_depth n xs
block_goes sc n ts [] one brace front k = record { tree = empty_block; more = braces; derives = (refl, braces_are sc); within = omega (arith, one) }
block_goes sc n ts (x ∷ xs) one brace front k = record { tree = k.tree; more = k.more; derives = (block_begins sc k.tree (x ∷ (xs ++ k.more)) [] k.derives (subst Brace front.1 brace), k.derives); within = k.within }
