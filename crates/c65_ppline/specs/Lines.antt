-- What whole lines of directives do (C90 6.8): their tokens, and what cuts a line off before its end. What the front of a line
-- decides comes before what cuts it off.
use Rattle.std.specs.Prelude.{◌+◌, List, Option, Some, None, Result, Ok, Err}
use Rattle.c65_base.specs.declared.code.Code.TheVariants as faults
use Rattle.c65_base.specs.declared.refusal.Pos.{Pos}
use Rattle.c65_base.specs.declared.refusal.Refusal.{Refusal}
use Rattle.c65_base.specs.declared.refusal.Refusal.TheVariants as refusals
use Rattle.c65_base.specs.declared.refusal.Size.TheVariants as sizes
use Rattle.c65_base.specs.Answers.{Fault, at, large, ◌>>=◌}
use Rattle.c65_base.specs.Limits.{limit_of}
use Rattle.c65_lex.specs.declared.token.PpToken.{PpToken}
use Rattle.c65_ppline.specs.declared.line.Cut.{Cut}
use Rattle.c65_ppline.specs.declared.line.Cut.TheVariants as cuts
use Rattle.c65_ppline.specs.declared.line.Line.{Line}
use Rattle.c65_ppline.specs.declared.line.Misfit.{Misfit}
use Rattle.c65_ppline.specs.declared.line.Misfit.TheVariants.{Short, Wrong, Stopped}
use Rattle.c65_ppline.specs.Tokens.{behind_first}
use Rattle.c65_ppline.specs.Misfits.{Trouble, short, wrong, stopped}

abbrev pub cut_fault : Cut → Fault
cut_fault (cuts.OpenComment place) = at faults.OpenComment place
cut_fault cuts.LongLine = large sizes.Line (limit_of sizes.Line + 1)
cut_fault cuts.LongFile = large sizes.File (limit_of sizes.File + 1)
cut_fault cuts.Names = large sizes.Names (limit_of sizes.Names + 1)

abbrev pub cut_refusal : Cut → Refusal
cut_refusal (cuts.OpenComment place) = refusals.At faults.OpenComment place
cut_refusal cuts.LongLine = refusals.TooLarge sizes.Line (limit_of sizes.Line + 1)
cut_refusal cuts.LongFile = refusals.TooLarge sizes.File (limit_of sizes.File + 1)
cut_refusal cuts.Names = refusals.TooLarge sizes.Names (limit_of sizes.Names + 1)

-- a line with its end is no fault
abbrev pub ending : Option Cut → Result (Unit {0}) Fault
ending None = Ok tt
ending (Some cut) = Err (cut_fault cut)

abbrev pub short_fault : Pos → Option Cut → Fault
short_fault hash None = at faults.DirectiveForm hash
short_fault hash (Some cut) = cut_fault cut

abbrev pub short_refusal : Pos → Option Cut → Refusal
short_refusal hash None = refusals.At faults.DirectiveForm hash
short_refusal hash (Some cut) = cut_refusal cut

-- the fault of tokens that do not fit
abbrev pub trouble_fault : Pos → Option Cut → Trouble → Fault
trouble_fault hash cut short = short_fault hash cut
trouble_fault hash cut wrong = at faults.DirectiveForm hash
trouble_fault hash cut (stopped fault) = fault

abbrev pub refusal_of : Pos → Option Cut → Misfit → Refusal
refusal_of hash cut Short = short_refusal hash cut
refusal_of hash cut Wrong = refusals.At faults.DirectiveForm hash
refusal_of hash cut (Stopped refusal) = refusal

-- what the tokens give, where the line has its end
abbrev pub on_line : {A : Type 0} → Pos → Option Cut → Result A Trouble → Result A Fault
on_line hash cut (Ok x) = ending cut >>= λ _. Ok x
on_line hash cut (Err trouble) = Err (trouble_fault hash cut trouble)

abbrev pub rest : Line → List PpToken
rest line = behind_first line.tokens
