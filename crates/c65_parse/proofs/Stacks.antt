-- What stands innermost on a stack, and what does there what another thing does.
use Rattle.std.proofs.Common.{◌≡◌, ℕ, List, [], ◌∷◌, ◌++◌, ap, ◌∙◌, refl}
use Rattle.std.specs.Prelude.{map, reverse}
use Rattle.std.proofs.lemmas.List.{reverse-append}
use Rattle.c65_base.specs.declared.refusal.Pos.{Pos}
use Rattle.c65_parse.specs.declared.frame.Frame as code
use Rattle.c65_parse.specs.declared.frame.Sort.TheVariants as sorts
use Rattle.c65_parse_trees.specs.declared.sign.Sign.{Sign}
use Rattle.c65_parse_trees.specs.declared.sign.Sign.TheVariants as signs
use Rattle.c65_parse_trees.specs.Listings.{MembersPart}
use Rattle.c65_parse.specs.Frames.{Frame, in_member}
use Rattle.c65_parse.specs.Declarators.{declarator_step}
use Rattle.c65_parse.specs.Specifiers.{member_step}
use Rattle.c65_parse.specs.Views.{frame_of, stack_of}

-- the stack under its innermost construct
pub innermost : (fs rest : List code.Frame) (f : code.Frame) → fs ≡ rest ++ f ∷ [] → stack_of fs ≡ frame_of f ∷ stack_of rest
innermost fs rest f h = ap stack_of h ∙ ap (map frame_of) (reverse-append rest (f ∷ []))

-- and where the construct is known
pub innermost_is : (fs rest : List code.Frame) (f g : code.Frame) → fs ≡ rest ++ f ∷ [] → f ≡ g → stack_of fs ≡ frame_of g ∷ stack_of rest
innermost_is fs rest f g h k = innermost fs rest f h ∙ ap (λ (e : code.Frame). frame_of e ∷ stack_of rest) k

-- a member begins with its declarator, unless with a colon
pub member_begins : (limit : ℕ) (part : MembersPart) (fs : List Frame) (l : Pos) (sign : Sign) → (sign ≡ signs.Colon → ⊥) → member_step limit part fs l sign ≡ declarator_step limit (sorts.Member part.specifiers.has_type) (in_member part l ∷ fs) l sign
unfolding member_step
member_begins limit part fs l (signs.Name n is_type) other = refl
member_begins limit part fs l signs.Literal other = refl
member_begins limit part fs l (signs.Word w) other = refl
member_begins limit part fs l (signs.Storage c) other = refl
member_begins limit part fs l (signs.Tag w) other = refl
member_begins limit part fs l (signs.Calling cdecl) other = refl
member_begins limit part fs l signs.Sizeof other = refl
member_begins limit part fs l signs.Open other = refl
member_begins limit part fs l signs.Close other = refl
member_begins limit part fs l signs.OpenBracket other = refl
member_begins limit part fs l signs.CloseBracket other = refl
member_begins limit part fs l signs.OpenBrace other = refl
member_begins limit part fs l signs.CloseBrace other = refl
member_begins limit part fs l signs.Comma other = refl
member_begins limit part fs l signs.Colon other = absurd (other refl)
member_begins limit part fs l signs.Semicolon other = refl
member_begins limit part fs l signs.Ellipsis other = refl
member_begins limit part fs l signs.Question other = refl
member_begins limit part fs l (signs.Member arrow) other = refl
member_begins limit part fs l (signs.Step down) other = refl
member_begins limit part fs l signs.Star other = refl
member_begins limit part fs l (signs.Unary op) other = refl
member_begins limit part fs l (signs.Either before op) other = refl
member_begins limit part fs l (signs.Infix op) other = refl
member_begins limit part fs l signs.Other other = refl
