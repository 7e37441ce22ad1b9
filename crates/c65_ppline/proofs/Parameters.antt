-- One more parameter of a list.
use Rattle.std.proofs.Common.{◌≡◌, ◌∙◌, ℕ, List, ◌∷◌, Bool, true, false, Some, Result, Ok, Err, ap}
use Rattle.std.specs.Prelude.{if◌then◌else◌, codes}
use Rattle.c65_base.specs.declared.names.Name.{Name}
use Rattle.c65_lex.specs.declared.token.PpToken.{PpToken}
use Rattle.c65_ppline.specs.DefineLines.{with_parameter, parameters}
use Rattle.c65_ppline.specs.Misfits.{Trouble, wrong, ◌then◌}
use Rattle.c65_ppline.specs.Tokens.{is_mark}

pub next_parameter : (names : List (List ℕ)) (ps qs : List Name) (t u : PpToken) (ts : List PpToken) → with_parameter ps t ≡ Ok qs → is_mark names (codes ")") u ≡ false → is_mark names (codes ",") u ≡ true → parameters names ps (t ∷ u ∷ ts) ≡ parameters names qs ts
next_parameter names ps qs t u ts e f g =
    ap (λ (r : Result (List Name) Trouble). r then λ qs. if is_mark names (codes ")") u then Ok (Some qs, ts) else if is_mark names (codes ",") u then parameters names qs ts else Err wrong) e
    ∙ (ap (λ (b : Bool). if b then Ok (Some qs, ts) else if is_mark names (codes ",") u then parameters names qs ts else Err wrong) f
    ∙ ap (λ (b : Bool). if b then parameters names qs ts else Err wrong) g)
