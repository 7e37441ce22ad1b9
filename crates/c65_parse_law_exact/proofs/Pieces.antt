-- What is said of the tokens of a tree that was read, and of those of one that was begun.
use Rattle.std.proofs.Common.{◌≡◌, ℕ, ◌≤◌, List, ◌++◌, subst, append_assoc}
use Rattle.std.specs.Prelude.{max}
use Rattle.c65_scan.specs.declared.token.Token.{Token}
use Rattle.c65_parse_names.specs.Scopes.{Blocks}
use Rattle.c65_tree.specs.Trees as t
use Rattle.c65_tree.specs.Depth.{stmt_depth, inner_depth}
use Rattle.c65_parse_grammar.specs.Phrases.{Phrase}
use Rattle.c65_parse_grammar.specs.Readings.{Continues}
use Rattle.c65_parse_law_least.specs.Viable.{FewTypes}

-- the tokens of a tree that was read in a scope, and the scope behind it
pub record IsTaken {Tree : Type 0} (phrase : Tree → Phrase) (behind : Tree → Blocks) (depth : Tree → ℕ) (limit : ℕ) (tree : Tree) (scope : Blocks) (xs : List Token) : Type 0 where
  pub derives : phrase tree xs
  pub scope_is : scope ≡ behind tree
  pub within : depth tree ≤ limit
  pub few : FewTypes scope

-- the depth of a statement with all that is in it
abbrev pub whole_depth : t.StmtTree → ℕ
whole_depth s = max (stmt_depth s) (inner_depth s)

-- fewer tokens go on too
pub shorter : {Tree : Type 0} (phrase : Tree → Phrase) (depth : Tree → ℕ) (n : ℕ) (xs ys : List Token) → Continues phrase depth n (xs ++ ys) → Continues phrase depth n xs
shorter phrase depth n xs ys k = record { tree = k.tree; more = ys ++ k.more; derives = subst (phrase k.tree) (append_assoc xs ys k.more) k.derives; within = k.within }
