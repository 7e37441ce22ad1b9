use Rattle.std.proofs.Common.{◌≡◌, ap, sym, ◌∙◌, ◌+◌, arith}
use Rattle.c65_mach.specs.Table.{row_of}
use Rattle.c65_mach.proofs.rows.row_5.Goals as goal

pub returns-in-0 : goal.returns-in-0
unfolding row_of
returns-in-0 c = let low : c.args.low ≡ 0 = c.in-0.is in c.paged.ensures ∙ ap (λ n. row_of (0x50 + n)) (sym low)

pub returns-in-1 : goal.returns-in-1
unfolding row_of
returns-in-1 c = let low : c.args.low ≡ 1 = c.in-1.is in c.paged-in-1.ensures ∙ ap (λ n. row_of (0x50 + n)) (sym low)

pub returns-in-2 : goal.returns-in-2
unfolding row_of
returns-in-2 c = let low : c.args.low ≡ 2 = c.in-2.is in ap (λ n. row_of (0x50 + n)) (sym low)

pub returns-in-3 : goal.returns-in-3
unfolding row_of
returns-in-3 c = let low : c.args.low ≡ 3 = c.in-3.is in ap (λ n. row_of (0x50 + n)) (sym low)

pub returns-in-4 : goal.returns-in-4
unfolding row_of
returns-in-4 c = let low : c.args.low ≡ 4 = c.in-4.is in ap (λ n. row_of (0x50 + n)) (sym low)

pub returns-in-5 : goal.returns-in-5
unfolding row_of
returns-in-5 c = let low : c.args.low ≡ 5 = c.in-5.is in c.plain.ensures ∙ ap (λ n. row_of (0x50 + n)) (sym low)

pub returns-in-6 : goal.returns-in-6
unfolding row_of
returns-in-6 c = let low : c.args.low ≡ 6 = c.in-6.is in c.plain-in-6.ensures ∙ ap (λ n. row_of (0x50 + n)) (sym low)

pub returns-in-7 : goal.returns-in-7
unfolding row_of
returns-in-7 c = let low : c.args.low ≡ 7 = c.in-7.is in ap (λ n. row_of (0x50 + n)) (sym low)

pub returns-in-8 : goal.returns-in-8
unfolding row_of
returns-in-8 c = let low : c.args.low ≡ 8 = c.in-8.is in c.plain-in-8.ensures ∙ ap (λ n. row_of (0x50 + n)) (sym low)

pub returns-in-9 : goal.returns-in-9
unfolding row_of
returns-in-9 c = let low : c.args.low ≡ 9 = c.in-9.is in c.paged-in-9.ensures ∙ ap (λ n. row_of (0x50 + n)) (sym low)

pub returns-in-10 : goal.returns-in-10
unfolding row_of
returns-in-10 c = let low : c.args.low ≡ 10 = c.in-10.is in ap (λ n. row_of (0x50 + n)) (sym low)

pub returns-in-11 : goal.returns-in-11
unfolding row_of
returns-in-11 c = let low : c.args.low ≡ 11 = c.in-11.is in ap (λ n. row_of (0x50 + n)) (sym low)

pub returns-in-12 : goal.returns-in-12
unfolding row_of
returns-in-12 c = let low : c.args.low ≡ 12 = c.in-12.is in ap (λ n. row_of (0x50 + n)) (sym low)

pub returns-in-13 : goal.returns-in-13
unfolding row_of
returns-in-13 c = let low : c.args.low ≡ 13 = c.in-13.is in c.paged-in-13.ensures ∙ ap (λ n. row_of (0x50 + n)) (sym low)

pub returns-in-14 : goal.returns-in-14
unfolding row_of
returns-in-14 c = let low : c.args.low ≡ 14 = c.in-14.is in c.plain-in-14.ensures ∙ ap (λ n. row_of (0x50 + n)) (sym low)

pub returns-in_default : goal.returns-in_default
unfolding row_of
returns-in_default c = let low : c.args.low ≡ 15 = (omega arith) in ap (λ n. row_of (0x50 + n)) (sym low)
