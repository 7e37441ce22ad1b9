-- Reading with a stack of what is open: one step for each token.
use Rattle.std.specs.Prelude.{ℕ, ◌+◌, List, [], ◌∷◌, ◌++◌, length, Bool, true, false, nat_le, if◌then◌else◌, Option, None, Some, is_some, Result, Ok, Err}
use Rattle.c65_base.specs.Answers.{Fault, at, large}
use Rattle.c65_base.specs.declared.code.Code.TheVariants.{Syntax, Assembly}
use Rattle.c65_base.specs.declared.code.Code.{Code}
use Rattle.c65_base.specs.declared.names.Name.{Name}
use Rattle.c65_base.specs.declared.refusal.Pos.{Pos}
use Rattle.c65_base.specs.declared.refusal.Size.TheVariants.{Depth}
use Rattle.c65_scan.specs.declared.token.Keyword.{Keyword}
use Rattle.c65_scan.specs.declared.token.Keyword.TheVariants as keywords
use Rattle.c65_scan.specs.declared.token.Token.{Token}
use Rattle.c65_scan.specs.declared.token.TokenKind.{TokenKind}
use Rattle.c65_scan.specs.declared.token.TokenKind.TheVariants as kinds
use Rattle.c65_tree.specs.Trees
use Rattle.c65_tree.specs.Trees.{ExprTree, no_exprs, DeclaratorTree, no_expr, no_params, no_more_params, param_names}
use Rattle.c65_parse_trees.specs.declared.sign.Sign.{Sign}
use Rattle.c65_parse_trees.specs.declared.sign.Sign.TheVariants as signs
use Rattle.c65_parse_trees.specs.declared.sign.Word.TheVariants as words
use Rattle.c65_parse_trees.specs.declared.operator.Prefix.TheVariants as prefixes
use Rattle.c65_parse.specs.declared.frame.Change.{Change}
use Rattle.c65_parse.specs.declared.frame.Change.TheVariants as changes
use Rattle.c65_parse.specs.declared.frame.Derivation.TheVariants as derivations
use Rattle.c65_parse.specs.declared.frame.Sort.{Sort}
use Rattle.c65_parse.specs.declared.frame.TypeUse.TheVariants as uses
use Rattle.c65_parse_trees.specs.Names.{declared_name}
use Rattle.c65_parse_trees.specs.Signs.{sign_of, begins_type, begins_specifiers}
use Rattle.c65_parse_names.specs.Scopes.{Blocks, is_type_in, opened as block_opened, closed, with_declared}
use Rattle.c65_parse_trees.specs.Listings.{Listing, ParamsPart, NamesPart, nothing_listed}
use Rattle.c65_parse.specs.Frames.{Frame, in_operation, in_prefix, in_paren, in_call, in_bound, in_type, in_params, in_group, in_derived, Held, operand, opened, sizeof_word, sizeof_opened, called, dotted, have_expr, specifiers, tag, tag_name, more_members, member, enumerator, enumerator_name, declarator, qualifiers, opened_declarator, have_declarator, opened_bound, opened_params, more_params, ellipsis, names, names_end, Done, Next, go, stop, deep, fail}
use Rattle.c65_parse.specs.Expressions.{goes, operand_step, expr_step, hole}
use Rattle.c65_parse.specs.Declarators.{declarator_step, declarator_end, with_params}
use Rattle.c65_parse.specs.Specifiers.{specifiers_step, tag_step, tag_name_step, more_members_step, member_step, enumerator_step, enumerator_name_step}

-- behind a parenthesis where an operand is needed: a type's word begins a cast, where one may stand (C90 6.3.4)
unfoldable pub opened_step : (limit : ℕ) → Pos → List Frame → Token → Sign → Next
opened_step limit l fs token sign = if begins_type sign then (if nat_le (hole 0 fs) 13 then specifiers_step limit (nothing_listed false) (in_type l uses.Cast ∷ fs) token.pos sign else fail) else operand_step limit (in_paren l ∷ fs) token sign

-- behind sizeof (C90 6.3.3.4)
unfoldable pub sizeof_step : (limit : ℕ) → Pos → List Frame → Token → Sign → Next
sizeof_step limit l fs token signs.Open = goes fs (sizeof_opened l token.pos)
sizeof_step limit l fs token sign = operand_step limit (in_operation (in_prefix l prefixes.Sizeof) ∷ fs) token sign

unfoldable pub sizeof_opened_step : (limit : ℕ) → Pos → Pos → List Frame → Token → Sign → Next
sizeof_opened_step limit l open_at fs token sign = if begins_type sign then specifiers_step limit (nothing_listed false) (in_type l uses.Sizeof ∷ fs) token.pos sign else operand_step limit (in_paren open_at ∷ in_operation (in_prefix l prefixes.Sizeof) ∷ fs) token sign

-- behind the parenthesis of a call (C90 6.3.2.2)
unfoldable pub called_step : (limit : ℕ) → Pos → ExprTree → List Frame → Token → Sign → Next
called_step limit l f fs token signs.Close = goes fs (have_expr (Trees.call l f no_exprs))
called_step limit l f fs token sign = operand_step limit (in_call l f no_exprs ∷ fs) token sign

-- behind a dot or an arrow (C90 6.3.2.3)
unfoldable pub dotted_step : Pos → Bool → ExprTree → List Frame → Sign → Next
dotted_step l arrow e fs (signs.Name n is_type) = goes fs (have_expr (Trees.member l e arrow n))
dotted_step l arrow e fs _ = fail

-- behind a star and qualifiers (C90 6.5.4.1)
unfoldable pub qualifiers_step : (limit : ℕ) → Pos → Bool → Bool → Sort → List Frame → Pos → Sign → Next
qualifiers_step limit start constant volatile sort fs l (signs.Word words.Const) = goes fs (qualifiers start true volatile sort)
qualifiers_step limit start constant volatile sort fs l (signs.Word words.Volatile) = goes fs (qualifiers start constant true sort)
qualifiers_step limit start constant volatile sort fs l sign = declarator_step limit sort (in_derived start (derivations.Pointer constant volatile) ∷ fs) l sign

-- the step of the first parameter, in a block of its own
abbrev pub in_block : Next → Next
in_block (go fs h change) = go fs h changes.Open
in_block n = n

-- parameters begin
unfoldable pub params_step : (limit : ℕ) → Pos → DeclaratorTree → List Frame → Pos → Sign → Next
params_step limit start d fs l sign = in_block (specifiers_step limit (nothing_listed true) (in_params (record { pos = start; declarator = d; params = no_more_params }) ∷ fs) l sign)

-- behind a parenthesis where the name may lack (C90 6.5.5)
unfoldable pub opened_declarator_step : (limit : ℕ) → Pos → Sort → List Frame → Pos → Sign → Next
opened_declarator_step limit start sort fs l signs.Close = goes fs (have_declarator (Trees.function start (Trees.nameless start) no_params))
opened_declarator_step limit start sort fs l sign = if begins_specifiers sign then params_step limit start (Trees.nameless start) fs l sign else declarator_step limit sort (in_group start ∷ fs) l sign

-- behind the bracket of a bound (C90 6.5.4.2)
unfoldable pub opened_bound_step : (limit : ℕ) → Pos → DeclaratorTree → List Frame → Token → Sign → Next
opened_bound_step limit start d fs token signs.CloseBracket = goes fs (have_declarator (Trees.array start d no_expr))
opened_bound_step limit start d fs token sign = operand_step limit (in_bound start d ∷ fs) token sign

-- behind the parenthesis of a function declarator (C90 6.5.4.3)
unfoldable pub opened_params_step : (limit : ℕ) → Pos → DeclaratorTree → List Frame → Pos → Sign → Next
opened_params_step limit start d fs l signs.Close = goes fs (have_declarator (Trees.function start d no_params))
opened_params_step limit start d fs l (signs.Name n false) = if is_some (declared_name d) then goes fs (names_end (record { pos = start; declarator = d; names = (n, l) ∷ [] })) else fail
opened_params_step limit start d fs l sign = if begins_specifiers sign then params_step limit start d fs l sign else fail

-- behind a comma among parameters
unfoldable pub more_params_step : (limit : ℕ) → ParamsPart → List Frame → Pos → Sign → Next
more_params_step limit part fs l signs.Ellipsis = goes fs (ellipsis part)
more_params_step limit part fs l sign = specifiers_step limit (nothing_listed true) (in_params part ∷ fs) l sign

unfoldable pub ellipsis_step : ParamsPart → List Frame → Sign → Next
ellipsis_step part fs signs.Close = go fs (have_declarator (with_params part true)) changes.Close
ellipsis_step part fs _ = fail

-- among the names of an identifier list
unfoldable pub names_step : NamesPart → List Frame → Pos → Sign → Next
names_step part fs l (signs.Name n false) = goes fs (names_end (record { pos = part.pos; declarator = part.declarator; names = part.names ++ (n, l) ∷ [] }))
names_step part fs l _ = fail

unfoldable pub names_end_step : NamesPart → List Frame → Sign → Next
names_end_step part fs signs.Comma = goes fs (names part)
names_end_step part fs signs.Close = goes fs (have_declarator (Trees.function part.pos part.declarator (param_names part.names)))
names_end_step part fs _ = fail

-- what a token of this sign does; least is the level that a whole expression has at least
abbrev pub step_by : (limit : ℕ) → ℕ → List Frame → Held → Token → Sign → Next
step_by limit least fs operand token sign = operand_step limit fs token sign
step_by limit least fs (opened l) token sign = opened_step limit l fs token sign
step_by limit least fs (sizeof_word l) token sign = sizeof_step limit l fs token sign
step_by limit least fs (sizeof_opened l m) token sign = sizeof_opened_step limit l m fs token sign
step_by limit least fs (called l f) token sign = called_step limit l f fs token sign
step_by limit least fs (dotted l arrow e) token sign = dotted_step l arrow e fs sign
step_by limit least fs (have_expr e) token sign = expr_step limit least e fs token.pos sign
step_by limit least fs (specifiers q) token sign = specifiers_step limit q fs token.pos sign
step_by limit least fs (tag part) token sign = tag_step limit part fs sign
step_by limit least fs (tag_name part n) token sign = tag_name_step limit part n fs token.pos sign
step_by limit least fs (more_members body) token sign = more_members_step limit body fs token.pos sign
step_by limit least fs (member part) token sign = member_step limit part fs token.pos sign
step_by limit least fs (enumerator part) token sign = enumerator_step part fs token.pos sign
step_by limit least fs (enumerator_name part n l) token sign = enumerator_name_step limit part n l fs sign
step_by limit least fs (declarator sort) token sign = declarator_step limit sort fs token.pos sign
step_by limit least fs (qualifiers l c v sort) token sign = qualifiers_step limit l c v sort fs token.pos sign
step_by limit least fs (opened_declarator l sort) token sign = opened_declarator_step limit l sort fs token.pos sign
step_by limit least fs (have_declarator d) token sign = declarator_end limit d fs token.pos sign
step_by limit least fs (opened_bound l d) token sign = opened_bound_step limit l d fs token sign
step_by limit least fs (opened_params l d) token sign = opened_params_step limit l d fs token.pos sign
step_by limit least fs (more_params part) token sign = more_params_step limit part fs token.pos sign
step_by limit least fs (ellipsis part) token sign = ellipsis_step part fs sign
step_by limit least fs (names part) token sign = names_step part fs token.pos sign
step_by limit least fs (names_end part) token sign = names_end_step part fs sign

unfoldable pub step : (limit : ℕ) → ℕ → Blocks → List Frame → Held → Token → Next
step limit least scope fs held token = step_by limit least fs held token (sign_of (is_type_in scope) token)

abbrev pub changed : Change → Blocks → Blocks
changed changes.Nothing scope = scope
changed changes.Open scope = block_opened scope
changed (changes.Declare n is_type) scope = with_declared n is_type scope
changed changes.Close scope = closed scope

-- the fault of a token with which nothing goes on
abbrev pub fault_of_keyword : Keyword → Code
fault_of_keyword keywords.Asm = Assembly
fault_of_keyword keywords.UnderscoredAsm = Assembly
fault_of_keyword _ = Syntax

abbrev pub fault_code : TokenKind → Code
fault_code (kinds.Keyword k) = fault_of_keyword k
fault_code _ = Syntax

abbrev pub fault_at : Token → Fault
fault_at token = at (fault_code token.kind) token.pos

abbrev pub nothing_there : Fault
nothing_there = at Syntax (record { file = 0; line = 1 })

-- what was read: the tree, the tokens behind it and the scope there
abbrev pub Reading : Type 0
Reading = Result (Done × List Token × Blocks) Fault

-- the tokens one after another; a list without an End is refused as an empty file is
abbrev pub run : (limit : ℕ) → ℕ → Blocks → List Frame → Held → List Token → Reading
run limit least scope fs held [] = Err nothing_there
run limit least scope fs held (token ∷ tokens) = elim (step limit least scope fs held token) as (λ _. Reading) [ go gs next change ↦ run limit least (changed change scope) gs next tokens | stop done ↦ Ok (done, token ∷ tokens, scope) | deep ↦ Err (large Depth 257) | fail ↦ Err (fault_at token) ]
