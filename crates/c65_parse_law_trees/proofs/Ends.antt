-- With which tokens declarators end, and what stands before them.
use Rattle.std.proofs.Common.{◌≡◌, ◌≤◌, List, ◌++◌, true, false, refl, sym, ◌∙◌, subst, arith}
use Rattle.c65_base.specs.declared.refusal.Pos.{Pos}
use Rattle.c65_scan.specs.declared.token.Keyword.{Keyword}
use Rattle.c65_scan.specs.declared.token.Keyword.TheVariants as keywords
use Rattle.c65_scan.specs.declared.token.Punct.{Punct}
use Rattle.c65_scan.specs.declared.token.Punct.TheVariants as puncts
use Rattle.c65_scan.specs.declared.token.Token.{Token}
use Rattle.c65_scan.specs.declared.token.TokenKind.{TokenKind}
use Rattle.c65_scan.specs.declared.token.TokenKind.TheVariants as kinds
use Rattle.c65_tree.specs.Trees as t
use Rattle.c65_tree.specs.Depth.{declarator_depth}
use Rattle.c65_parse_trees.specs.declared.sign.Sign.{Sign}
use Rattle.c65_parse_trees.specs.declared.sign.Sign.TheVariants as signs
use Rattle.c65_parse_trees.specs.declared.sign.Word.TheVariants as words
use Rattle.c65_parse_trees.specs.Signs.{sign_of_kind, sign_of_keyword, sign_of_punct}
use Rattle.c65_parse_grammar.specs.Parts.{is_nameless, is_direct}
use Rattle.c65_parse_grammar.specs.Scopes.{Scope}
use Rattle.c65_parse_grammar.specs.Expressions as g
use Rattle.c65_parse_law_trees.specs.Tokens.{NoSuffix, Bare}
use Rattle.c65_parse_law_trees.proofs.Runs.{First}
use Rattle.c65_parse_law_trees.proofs.Readings.{Halts}
use Rattle.c65_parse_law_trees.proofs.Firsts.{opens_first, opens_map, DeclaratorKind, Declares, begins_declarator}

pub declarator_deep : (d : t.DeclaratorTree) → 1 ≤ declarator_depth d
declarator_deep (t.nameless l) = omega arith
declarator_deep (t.named l n) = omega arith
declarator_deep (t.grouped l d) = omega arith
declarator_deep (t.calling l cdecl d) = omega arith
declarator_deep (t.pointer l c v d) = omega arith
declarator_deep (t.array l d n) = omega arith
declarator_deep (t.function l d ps) = omega arith

false_true : false ≡ true → ⊥
false_true e = cc

pub not_nameless : (d : t.DeclaratorTree) (s : g.Sort) (sc : Scope) (m : Pos) (xs : List Token) → g.may_lack s ≡ false → g.declarator s sc m d xs → is_nameless d ≡ false
not_nameless (t.nameless l) s sc m xs e p = absurd (false_true (sym e ∙ p.0.0))
not_nameless (t.named l n) s sc m xs e p = refl
not_nameless (t.grouped l d) s sc m xs e p = refl
not_nameless (t.calling l cdecl d) s sc m xs e p = refl
not_nameless (t.pointer l c v d) s sc m xs e p = refl
not_nameless (t.array l d n) s sc m xs e p = refl
not_nameless (t.function l d ps) s sc m xs e p = refl

-- where a name has to stand
pub halts_named : (d : t.DeclaratorTree) (s : g.Sort) (sc : Scope) (m : Pos) (xs : List Token) (tok : Token) → g.may_lack s ≡ false → g.declarator s sc m d xs → NoSuffix tok.kind → Halts d tok
halts_named (t.nameless l) s sc m xs tok e p h = absurd (false_true (sym e ∙ p.0.0))
halts_named (t.named l n) s sc m xs tok e p h = tt
halts_named (t.grouped l d) s sc m xs tok e p h = tt
halts_named (t.calling l cdecl d) s sc m xs tok e p h = (h, halts_named d s sc m p.1 tok e p.4 h)
halts_named (t.pointer l c v d) s sc m xs tok e p h = (h, halts_named d s sc m p.4.1 tok e p.4.4 h)
halts_named (t.array l d n) s sc m xs tok e p h = tt
halts_named (t.function l d ps) s sc m xs tok e p h = tt

-- before a token at the place that counts
pub halts_bare : (d : t.DeclaratorTree) (s : g.Sort) (sc : Scope) (m : Pos) (xs : List Token) (tok : Token) → g.declarator s sc m d xs → tok.pos ≡ m → Bare tok.kind → NoSuffix tok.kind → Halts d tok
halts_bare (t.nameless l) s sc m xs tok p e b h = (e ∙ sym p.0.1, b)
halts_bare (t.named l n) s sc m xs tok p e b h = tt
halts_bare (t.grouped l d) s sc m xs tok p e b h = tt
halts_bare (t.calling l cdecl d) s sc m xs tok p e b h = (h, halts_bare d s sc m p.1 tok p.4 e b h)
halts_bare (t.pointer l c v d) s sc m xs tok p e b h = (h, halts_bare d s sc m p.4.1 tok p.4.4 e b h)
halts_bare (t.array l d n) s sc m xs tok p e b h = tt
halts_bare (t.function l d ps) s sc m xs tok p e b h = tt

-- a direct declarator before its suffix
pub halts_direct : (d : t.DeclaratorTree) (s : g.Sort) (sc : Scope) (m : Pos) (xs : List Token) (tok : Token) → is_direct d ≡ true → g.declarator s sc m d xs → tok.pos ≡ m → Bare tok.kind → Halts d tok
halts_direct (t.nameless l) s sc m xs tok i p e b = (e ∙ sym p.0.1, b)
halts_direct (t.named l n) s sc m xs tok i p e b = tt
halts_direct (t.grouped l d) s sc m xs tok i p e b = tt
halts_direct (t.calling l cdecl d) s sc m xs tok i p e b = absurd (false_true i)
halts_direct (t.pointer l c v d) s sc m xs tok i p e b = absurd (false_true i)
halts_direct (t.array l d n) s sc m xs tok i p e b = tt
halts_direct (t.function l d ps) s sc m xs tok i p e b = tt

pub halts_paren : (d : t.DeclaratorTree) (tok : Token) → is_direct d ≡ true → is_nameless d ≡ false → Halts d tok
halts_paren (t.nameless l) tok i e = absurd (false_true (sym e))
halts_paren (t.named l n) tok i e = tt
halts_paren (t.grouped l d) tok i e = tt
halts_paren (t.calling l cdecl d) tok i e = absurd (false_true i)
halts_paren (t.pointer l c v d) tok i e = absurd (false_true i)
halts_paren (t.array l d n) tok i e = tt
halts_paren (t.function l d ps) tok i e = tt

-- the first token, in a declarator or behind one that is empty
pub declarator_first : (P : Token → Type 0) (d : t.DeclaratorTree) (s : g.Sort) (sc : Scope) (m : Pos) (xs rest : List Token) → g.declarator s sc m d xs → ((tok : Token) → Declares s sc d tok → P tok) → (is_nameless d ≡ true → First P rest) → First P (xs ++ rest)
declarator_first P (t.nameless l) s sc m xs rest p f h = subst (λ ts. First P (ts ++ rest)) (sym p.1) (h refl)
declarator_first P (t.named l n) s sc m xs rest p f h = opens_first P xs rest (opens_map _ P xs f (begins_declarator (t.named l n) s sc m xs refl p))
declarator_first P (t.grouped l d) s sc m xs rest p f h = opens_first P xs rest (opens_map _ P xs f (begins_declarator (t.grouped l d) s sc m xs refl p))
declarator_first P (t.calling l cdecl d) s sc m xs rest p f h = opens_first P xs rest (opens_map _ P xs f (begins_declarator (t.calling l cdecl d) s sc m xs refl p))
declarator_first P (t.pointer l c v d) s sc m xs rest p f h = opens_first P xs rest (opens_map _ P xs f (begins_declarator (t.pointer l c v d) s sc m xs refl p))
declarator_first P (t.array l d n) s sc m xs rest p f h = opens_first P xs rest (opens_map _ P xs f (begins_declarator (t.array l d n) s sc m xs refl p))
declarator_first P (t.function l d ps) s sc m xs rest p f h = opens_first P xs rest (opens_map _ P xs f (begins_declarator (t.function l d ps) s sc m xs refl p))

-- the signs of such tokens
abbrev pub BareSign : Sign → Type 0
BareSign (signs.Name n is_type) = ⊥
BareSign (signs.Calling cdecl) = ⊥
BareSign (signs.Word words.Const) = ⊥
BareSign (signs.Word words.Volatile) = ⊥
BareSign signs.Star = ⊥
BareSign signs.Open = ⊥
BareSign _ = Unit {0}

bare_keyword : (k : Keyword) → Bare (kinds.Keyword k) → BareSign (sign_of_keyword k)
bare_keyword keywords.FastCall h = h
bare_keyword keywords.CDecl h = h
bare_keyword keywords.Const h = h
bare_keyword keywords.Volatile h = h
bare_keyword _ h = tt

bare_punct : (p : Punct) → Bare (kinds.Punct p) → BareSign (sign_of_punct p)
bare_punct puncts.Star h = h
bare_punct puncts.OpenParen h = h
bare_punct _ h = tt

pub bare_sign : (sc : Scope) (k : TokenKind) → Bare k → BareSign (sign_of_kind sc k)
bare_sign sc (kinds.Keyword k) h = bare_keyword k h
bare_sign sc (kinds.Name n) h = h
bare_sign sc (kinds.Number ty n) h = tt
bare_sign sc (kinds.Text bs) h = tt
bare_sign sc (kinds.Punct p) h = bare_punct p h
bare_sign sc kinds.End h = tt

abbrev pub NoSuffixSign : Sign → Type 0
NoSuffixSign signs.Open = ⊥
NoSuffixSign signs.OpenBracket = ⊥
NoSuffixSign _ = Unit {0}

suffix_keyword : (k : Keyword) → NoSuffixSign (sign_of_keyword k)
suffix_keyword keywords.Auto = tt
suffix_keyword _ = tt

suffix_punct : (p : Punct) → NoSuffix (kinds.Punct p) → NoSuffixSign (sign_of_punct p)
suffix_punct puncts.OpenParen h = h
suffix_punct puncts.OpenBracket h = h
suffix_punct _ h = tt

pub suffix_sign : (sc : Scope) (k : TokenKind) → NoSuffix k → NoSuffixSign (sign_of_kind sc k)
suffix_sign sc (kinds.Keyword k) h = suffix_keyword k
suffix_sign sc (kinds.Name n) h = tt
suffix_sign sc (kinds.Number ty n) h = tt
suffix_sign sc (kinds.Text bs) h = tt
suffix_sign sc (kinds.Punct p) h = suffix_punct p h
suffix_sign sc kinds.End h = tt

-- no qualifier
abbrev pub NoQualifier : Sign → Type 0
NoQualifier (signs.Word words.Const) = ⊥
NoQualifier (signs.Word words.Volatile) = ⊥
NoQualifier _ = Unit {0}

pub bare_unqualified : (s : Sign) → BareSign s → NoQualifier s
bare_unqualified (signs.Word words.Const) h = h
bare_unqualified (signs.Word words.Volatile) h = h
bare_unqualified _ h = tt

pub declares_unqualified : (s : g.Sort) (sc : Scope) (d : t.DeclaratorTree) (k : TokenKind) → DeclaratorKind s sc d k → NoQualifier (sign_of_kind sc k)
declares_unqualified s sc d (kinds.Name n) h = tt
declares_unqualified s sc d (kinds.Keyword keywords.FastCall) h = tt
declares_unqualified s sc d (kinds.Keyword keywords.CDecl) h = tt
declares_unqualified s sc d (kinds.Keyword _) h = absurd h
declares_unqualified s sc d (kinds.Punct puncts.Star) h = tt
declares_unqualified s sc d (kinds.Punct puncts.OpenParen) h = tt
declares_unqualified s sc d (kinds.Punct puncts.OpenBracket) h = tt
declares_unqualified s sc d (kinds.Punct _) h = absurd h
declares_unqualified s sc d (kinds.Number ty n) h = absurd h
declares_unqualified s sc d (kinds.Text bs) h = absurd h
declares_unqualified s sc d kinds.End h = absurd h
