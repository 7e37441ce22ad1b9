-- What stands at a statement's place.
use Rattle.std.proofs.Common.{◌+◌, List, Bool}
use Rattle.std.specs.Prelude.{Option, None, Some, Ok, ◌&&◌}
use Rattle.c65_base.specs.Answers.{◌>>=◌}
use Rattle.c65_base.specs.declared.refusal.Pos.{Pos}
use Rattle.c65_scan.specs.declared.token.Token.{Token}
use Rattle.c65_tree.specs.Trees.{return, eval}
use Rattle.c65_parse.specs.Reading.{after_token, expr_read}
use Rattle.c65_parse_frames.specs.declared.sign.Sign.{Sign}
use Rattle.c65_parse_frames.specs.declared.sign.Mark.{Mark}
use Rattle.c65_parse_frames.specs.declared.sign.Mark.TheVariants as marks
use Rattle.c65_parse_frames.specs.declared.frame.Place.{Place}
use Rattle.c65_parse_frames.specs.Signs.{is_mark, is_label, starts_declaration, least_depth}
use Rattle.c65_parse_frames.specs.Frames.{in_case, in_switch, in_while, in_for, in_head, in_then, begun_open, begun_decl, begun_whole}
use Rattle.c65_decl.specs.declared.words.Word.{Word}
use Rattle.c65_decl.specs.declared.words.Word.TheVariants as words
use Rattle.c65_decl.specs.Words.{word_of, is_evaluated}
use Rattle.c65_decl.specs.Here.{sign_here, pos_here, is_here, is_type_here, colon_follows, unexpected, expected}
use Rattle.c65_decl.specs.Expressions.{test_read, case_read, ended_read, optional_read}
use Rattle.c65_decl.specs.Decls.{declaration_read}
use Rattle.c65_decl.specs.Openings.{label_begun, case_begun, if_begun, switch_begun, while_begun, for_begun, return_begun, eval_begun, begun_behind, word_begun, unlabelled_begun, statement_begun, closed_here, declaration_begun, begun_within, begun_inside, begun_at}
use Rattle.c65_parse_law_depth.specs.Grows.{GrowsEverywhere}
use Rattle.c65_parse_law_depth.proofs.Growth.{same_grows, then_grows, if_grows, within_grows}
use Rattle.c65_parse_law_depth.proofs.Readings.{exprs_grow}
use Rattle.c65_parse_law_depth.proofs.Decls.{declarations_grow}

pub test_grows : GrowsEverywhere test_read
test_grows scope ts = then_grows (λ limit. expected marks.OpenParen scope ts) (λ limit a. expr_read limit 0 a.1 a.0 >>= (λ e. expected marks.CloseParen e.2 e.1 >>= (λ b. Ok (e.0, b.0, b.1)))) (same_grows _) (λ a. then_grows (λ limit. expr_read limit 0 a.1 a.0) (λ limit e. expected marks.CloseParen e.2 e.1 >>= (λ b. Ok (e.0, b.0, b.1))) (exprs_grow 0 a.1 a.0) (λ e. same_grows _))

case_read_grows : GrowsEverywhere case_read
case_read_grows scope ts = then_grows (λ limit. expr_read limit 2 scope ts) (λ limit e. expected marks.Colon e.2 e.1 >>= (λ b. Ok (e.0, b.0, b.1))) (exprs_grow 2 scope ts) (λ e. same_grows _)

ended_grows : (end : Mark) → GrowsEverywhere (λ limit. ended_read limit end)
ended_grows end scope ts = then_grows (λ limit. expr_read limit 0 scope ts) (λ limit e. expected end e.2 e.1 >>= (λ b. Ok (Some e.0, b.0, b.1))) (exprs_grow 0 scope ts) (λ e. same_grows _)

optional_grows : (end : Mark) → GrowsEverywhere (λ limit. optional_read limit end)
optional_grows end scope ts = if_grows (is_here end ts) (λ limit. Ok (None, after_token ts, scope)) (λ limit. ended_read limit end scope ts) (same_grows _) (ended_grows end scope ts)

case_grows : (l : Pos) → GrowsEverywhere (λ limit. case_begun limit l)
case_grows l scope ts = then_grows (λ limit. case_read limit scope ts) (λ limit e. Ok (begun_open (in_head (in_case l e.0)), e.1, e.2)) (case_read_grows scope ts) (λ e. same_grows _)

if_begun_grows : (l : Pos) → GrowsEverywhere (λ limit. if_begun limit l)
if_begun_grows l scope ts = then_grows (λ limit. test_read limit scope ts) (λ limit e. Ok (begun_open (in_then l e.0), e.1, e.2)) (test_grows scope ts) (λ e. same_grows _)

switch_grows : (l : Pos) → GrowsEverywhere (λ limit. switch_begun limit l)
switch_grows l scope ts = then_grows (λ limit. test_read limit scope ts) (λ limit e. Ok (begun_open (in_head (in_switch l e.0)), e.1, e.2)) (test_grows scope ts) (λ e. same_grows _)

while_grows : (l : Pos) → GrowsEverywhere (λ limit. while_begun limit l)
while_grows l scope ts = then_grows (λ limit. test_read limit scope ts) (λ limit e. Ok (begun_open (in_head (in_while l e.0)), e.1, e.2)) (test_grows scope ts) (λ e. same_grows _)

for_grows : (l : Pos) → GrowsEverywhere (λ limit. for_begun limit l)
for_grows l scope ts = then_grows (λ limit. expected marks.OpenParen scope ts) (λ limit a. optional_read limit marks.Semicolon a.1 a.0 >>= (λ e. optional_read limit marks.Semicolon e.2 e.1 >>= (λ f. optional_read limit marks.CloseParen f.2 f.1 >>= (λ g. Ok (begun_open (in_head (in_for l e.0 f.0 g.0)), g.1, g.2))))) (same_grows _)
    (λ a. then_grows (λ limit. optional_read limit marks.Semicolon a.1 a.0) (λ limit e. optional_read limit marks.Semicolon e.2 e.1 >>= (λ f. optional_read limit marks.CloseParen f.2 f.1 >>= (λ g. Ok (begun_open (in_head (in_for l e.0 f.0 g.0)), g.1, g.2)))) (optional_grows marks.Semicolon a.1 a.0)
    (λ e. then_grows (λ limit. optional_read limit marks.Semicolon e.2 e.1) (λ limit f. optional_read limit marks.CloseParen f.2 f.1 >>= (λ g. Ok (begun_open (in_head (in_for l e.0 f.0 g.0)), g.1, g.2))) (optional_grows marks.Semicolon e.2 e.1)
    (λ f. then_grows (λ limit. optional_read limit marks.CloseParen f.2 f.1) (λ limit g. Ok (begun_open (in_head (in_for l e.0 f.0 g.0)), g.1, g.2)) (optional_grows marks.CloseParen f.2 f.1) (λ g. same_grows _))))

return_grows : (l : Pos) → GrowsEverywhere (λ limit. return_begun limit l)
return_grows l scope ts = then_grows (λ limit. optional_read limit marks.Semicolon scope ts) (λ limit e. Ok (begun_whole (return l e.0), e.1, e.2)) (optional_grows marks.Semicolon scope ts) (λ e. same_grows _)

eval_grows : (l : Pos) → GrowsEverywhere (λ limit. eval_begun limit l)
eval_grows l scope ts = then_grows (λ limit. optional_read limit marks.Semicolon scope ts) (λ limit e. Ok (begun_whole (eval l e.0), e.1, e.2)) (optional_grows marks.Semicolon scope ts) (λ e. same_grows _)

behind_grows : (w : Word) (l : Pos) → GrowsEverywhere (λ limit. begun_behind limit w l)
behind_grows words.Case l scope ts = case_grows l scope ts
behind_grows words.If l scope ts = if_begun_grows l scope ts
behind_grows words.Switch l scope ts = switch_grows l scope ts
behind_grows words.While l scope ts = while_grows l scope ts
behind_grows words.For l scope ts = for_grows l scope ts
behind_grows words.Return l scope ts = return_grows l scope ts
behind_grows _ l scope ts = same_grows _

word_grows : (o : Option Word) (l : Pos) → GrowsEverywhere (λ limit. word_begun limit o l)
word_grows None l scope ts = same_grows (unexpected ts)
word_grows (Some w) l scope ts = behind_grows w l scope (after_token ts)

unlabelled_grows : (sign : Sign) → GrowsEverywhere (λ limit. unlabelled_begun limit sign)
unlabelled_grows sign scope ts = if_grows (is_evaluated sign) (λ limit. eval_begun limit (pos_here ts) scope ts) (λ limit. word_begun limit (word_of sign) (pos_here ts) scope ts) (eval_grows (pos_here ts) scope ts) (word_grows (word_of sign) (pos_here ts) scope ts)

begun_grows : (sign : Sign) (label : Bool) → GrowsEverywhere (λ limit. statement_begun limit sign label)
begun_grows sign label scope ts = if_grows label (λ limit. label_begun (pos_here ts) scope ts) (λ limit. unlabelled_begun limit sign scope ts) (same_grows _) (unlabelled_grows sign scope ts)

declaration_grows : (unit : List Token) → GrowsEverywhere (λ limit. declaration_begun limit unit)
declaration_grows unit scope ts = then_grows (λ limit. declaration_read limit unit scope ts) (λ limit d. Ok (begun_decl d.0, d.1, d.2)) (declarations_grow unit scope ts) (λ d. same_grows _)

begun_within_grows : (place : Place) (sign : Sign) (label : Bool) → GrowsEverywhere (λ limit. begun_within limit place sign label)
begun_within_grows place sign label scope ts = within_grows (place.around + least_depth sign label) (λ limit. statement_begun limit sign label scope ts) (begun_grows sign label scope ts)

inside_grows : (unit : List Token) (place : Place) (sign : Sign) (is_type colon : Bool) → GrowsEverywhere (λ limit. begun_inside limit unit place sign is_type colon)
inside_grows unit place sign is_type colon scope ts = if_grows (place.takes_declarations && starts_declaration sign is_type colon) (λ limit. declaration_begun limit unit scope ts) (λ limit. begun_within limit place sign (is_label sign is_type colon) scope ts) (declaration_grows unit scope ts) (begun_within_grows place sign (is_label sign is_type colon) scope ts)

pub begun_at_grows : (unit : List Token) (place : Place) → GrowsEverywhere (λ limit. begun_at limit unit place)
begun_at_grows unit place scope ts = if_grows (place.in_block && is_mark marks.CloseBrace (sign_here ts)) (λ limit. Ok (closed_here scope ts)) (λ limit. begun_inside limit unit place (sign_here ts) (is_type_here scope ts) (colon_follows ts) scope ts) (same_grows _) (inside_grows unit place (sign_here ts) (is_type_here scope ts) (colon_follows ts) scope ts)
