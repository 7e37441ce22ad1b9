-- What the grammar says of small texts.
use Rattle.std.proofs.Common.{◌≡◌, refl, sym, ap, ◌∙◌, List, [], ◌∷◌, ◌++◌, Bool, true, false, arith, ◌≤◌}
use Rattle.std.specs.Prelude.{None}
use Rattle.c65_base.specs.declared.names.Name.{Name}
use Rattle.c65_base.specs.declared.refusal.Pos.{Pos}
use Rattle.c65_base.specs.declared.operators.BinaryOp.TheVariants as ops
use Rattle.c65_scan.specs.declared.token.Keyword.{Keyword}
use Rattle.c65_scan.specs.declared.token.Keyword.TheVariants as keywords
use Rattle.c65_scan.specs.declared.token.Punct.{Punct}
use Rattle.c65_scan.specs.declared.token.Punct.TheVariants as puncts
use Rattle.c65_scan.specs.declared.token.Token.{Token}
use Rattle.c65_scan.specs.declared.token.TokenKind.TheVariants as kinds
use Rattle.c65_tree.specs.Trees as t
use Rattle.c65_parse_grammar.specs.Phrases.{token}
use Rattle.c65_parse_grammar.specs.Scopes.{Scope}
use Rattle.c65_parse_grammar.specs.Expressions.{expr, specifiers, takes_name, named}
use Rattle.c65_parse_grammar.specs.Statements.{declaration, statement, function}

abbrev of_name : Pos → Name → Token
of_name l n = token (kinds.Name n) l

abbrev of_mark : Pos → Punct → Token
of_mark l p = token (kinds.Punct p) l

abbrev of_word : Pos → Keyword → Token
of_word l k = token (kinds.Keyword k) l

-- the type's name as the only specifier
abbrev only : Pos → Name → t.SpecifiersTree
only l n = t.specifiers l (t.and_specifier t.no_specifiers (t.typedef_name l n))

only_specifier : (sc : Scope) (storage : Bool) (l : Pos) (T : Name) → sc T ≡ true → specifiers sc storage (only l T) (of_name l T ∷ [])
only_specifier sc storage l T is_type = ((refl, refl), ([], of_name l T ∷ [], refl, refl, ((refl, is_type), refl)))

-- `(T)x` is a cast where T is a type
pub a_cast : (sc : Scope) (l : Pos) (T x : Name) → sc T ≡ true → sc x ≡ false → expr sc (t.cast l (t.type_name (only l T) (t.nameless l)) (t.name l x)) (of_mark l puncts.OpenParen ∷ of_name l T ∷ of_mark l puncts.CloseParen ∷ of_name l x ∷ [])
a_cast sc l T x is_type is_object = (
  of_mark l puncts.OpenParen ∷ [],
  of_name l T ∷ of_mark l puncts.CloseParen ∷ of_name l x ∷ [],
  refl,
  refl,
  (
    of_name l T ∷ of_mark l puncts.CloseParen ∷ [],
    of_name l x ∷ [],
    refl,
    (l, (of_name l T ∷ [], of_mark l puncts.CloseParen ∷ [], refl, (of_name l T ∷ [], [], refl, only_specifier sc false l T is_type, ((refl, refl), refl)), refl)),
    (omega arith, (is_object, refl)),
  ),
)

-- `T * p;` declares a pointer where T is a type
pub a_pointer : (sc : Scope) (l : Pos) (T p : Name) → sc T ≡ true → sc p ≡ false → declaration sc (record { specifiers = only l T; declarators = record { declarator = t.pointer l false false (t.named l p); init = None } ∷ [] }) (of_name l T ∷ of_mark l puncts.Star ∷ of_name l p ∷ of_mark l puncts.Semicolon ∷ [])
a_pointer sc l T p is_type is_object = (
  of_name l T ∷ [],
  of_mark l puncts.Star ∷ of_name l p ∷ of_mark l puncts.Semicolon ∷ [],
  refl,
  only_specifier sc true l T is_type,
  (
    of_mark l puncts.Star ∷ of_name l p ∷ [],
    of_mark l puncts.Semicolon ∷ [],
    refl,
    (
      [],
      of_mark l puncts.Star ∷ of_name l p ∷ [],
      refl,
      refl,
      (
        of_mark l puncts.Star ∷ of_name l p ∷ [],
        [],
        refl,
        (of_mark l puncts.Star ∷ [], of_name l p ∷ [], refl, refl, ([], of_name l p ∷ [], refl, (refl, refl), (ap (takes_name (named true)) is_object, refl))),
        ([], [], refl, refl, refl),
      ),
    ),
    (l, refl),
  ),
)

-- and is no product there
pub no_product : (sc : Scope) (l m : Pos) (T : Name) (b : t.ExprTree) (ts : List Token) → sc T ≡ true → expr sc (t.binary l ops.Mul (t.name m T) b) ts → ⊥
no_product sc l m T b ts is_type d = let e : true ≡ false = sym is_type ∙ d.3.1.0 in grind arith

-- an `else` never passes over an `if` without one
pub nearest_if : (sc : Scope) (l m : Pos) (e f : t.ExprTree) (s r : t.StmtTree) (ts : List Token) → statement sc (t.if_stmt l e (t.if_stmt m f s t.no_stmt) (t.a_stmt r)) ts → ⊥
nearest_if sc l m e f s r ts d = let same : false ≡ true = d.4.4.3.0 in grind arith

-- `a - b - c` groups from the left
pub left_to_right : (sc : Scope) (l m : Pos) (a b c : t.ExprTree) (ts : List Token) → expr sc (t.binary l ops.Sub a (t.binary m ops.Sub b c)) ts → ⊥
left_to_right sc l m a b c ts d = let tight : 12 ≤ 11 = d.4.4.0 in omega arith

-- `sizeof (T)` is the size of a type where T is one
pub a_size : (sc : Scope) (l : Pos) (T : Name) → sc T ≡ true → expr sc (t.sizeof_type l (t.type_name (only l T) (t.nameless l))) (of_word l keywords.Sizeof ∷ of_mark l puncts.OpenParen ∷ of_name l T ∷ of_mark l puncts.CloseParen ∷ [])
a_size sc l T is_type = (
  of_word l keywords.Sizeof ∷ [],
  of_mark l puncts.OpenParen ∷ of_name l T ∷ of_mark l puncts.CloseParen ∷ [],
  refl,
  refl,
  (
    of_mark l puncts.OpenParen ∷ [],
    of_name l T ∷ of_mark l puncts.CloseParen ∷ [],
    refl,
    (l, refl),
    (l, (of_name l T ∷ [], of_mark l puncts.CloseParen ∷ [], refl, (of_name l T ∷ [], [], refl, only_specifier sc false l T is_type, ((refl, refl), refl)), refl)),
  ),
)

-- a label may have any name, a type's too
pub a_label : (sc : Scope) (l : Pos) (n : Name) → statement sc (t.label l n (t.eval l None)) (of_name l n ∷ of_mark l puncts.Colon ∷ of_mark l puncts.Semicolon ∷ [])
a_label sc l n = (of_name l n ∷ [], of_mark l puncts.Colon ∷ of_mark l puncts.Semicolon ∷ [], refl, refl, (of_mark l puncts.Colon ∷ [], of_mark l puncts.Semicolon ∷ [], refl, (l, refl), refl))

typed_takes : (is_type : Bool) → takes_name (named true) is_type ≡ true
typed_takes true = refl
typed_takes false = refl

-- `f(a) int a; { }` is an old-style definition
abbrev old_style : Pos → Name → Name → t.FunctionTree
old_style l f a = record {
  specifiers = t.specifiers l t.no_specifiers;
  declarator = t.function l (t.named l f) (t.param_names ((a, l) ∷ []));
  declarations = record { specifiers = t.specifiers l (t.and_specifier t.no_specifiers (t.word l t.int)); declarators = record { declarator = t.named l a; init = None } ∷ [] } ∷ [];
  body = t.block l [] t.no_stmts;
}

pub an_old_style_definition : (sc : Scope) (l : Pos) (f a : Name) → sc f ≡ false → sc a ≡ false → function sc (old_style l f a) (of_name l f ∷ of_mark l puncts.OpenParen ∷ of_name l a ∷ of_mark l puncts.CloseParen ∷ of_word l keywords.Int ∷ of_name l a ∷ of_mark l puncts.Semicolon ∷ of_mark l puncts.OpenBrace ∷ of_mark l puncts.CloseBrace ∷ [])
an_old_style_definition sc l f a f_is a_is =
    let head = of_name l f ∷ of_mark l puncts.OpenParen ∷ of_name l a ∷ of_mark l puncts.CloseParen ∷ [] in
    let middle = of_word l keywords.Int ∷ of_name l a ∷ of_mark l puncts.Semicolon ∷ [] in
    let end = of_mark l puncts.OpenBrace ∷ of_mark l puncts.CloseBrace ∷ [] in (
      [],
      head ++ (middle ++ end),
      refl,
      (refl, refl),
      (
        head,
        middle ++ end,
        refl,
        (
          of_name l f ∷ [],
          of_mark l puncts.OpenParen ∷ of_name l a ∷ of_mark l puncts.CloseParen ∷ [],
          refl,
          (refl, (ap (takes_name (named false)) f_is, refl)),
          (
            of_mark l puncts.OpenParen ∷ [],
            of_name l a ∷ of_mark l puncts.CloseParen ∷ [],
            refl,
            refl,
            (of_name l a ∷ [], of_mark l puncts.CloseParen ∷ [], refl, (refl, ([], of_name l a ∷ [], refl, refl, (of_name l a ∷ [], [], refl, (a_is, refl), refl))), (l, refl)),
          ),
        ),
        (
          middle,
          end,
          refl,
          (
            middle,
            [],
            refl,
            (
              of_word l keywords.Int ∷ [],
              of_name l a ∷ of_mark l puncts.Semicolon ∷ [],
              refl,
              ((refl, refl), ([], of_word l keywords.Int ∷ [], refl, refl, refl)),
              (
                of_name l a ∷ [],
                of_mark l puncts.Semicolon ∷ [],
                refl,
                ([], of_name l a ∷ [], refl, refl, (of_name l a ∷ [], [], refl, (typed_takes _, refl), ([], [], refl, refl, refl))),
                (l, refl),
              ),
            ),
            refl,
          ),
          (refl, (of_mark l puncts.OpenBrace ∷ [], of_mark l puncts.CloseBrace ∷ [], refl, refl, ([], of_mark l puncts.CloseBrace ∷ [], refl, refl, ([], of_mark l puncts.CloseBrace ∷ [], refl, refl, (l, refl))))),
        ),
      ),
    )
