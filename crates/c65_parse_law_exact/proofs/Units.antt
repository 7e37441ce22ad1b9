-- Units (C90 6.7).
use Rattle.std.proofs.Common.{◌≡◌, ℕ, ◌+◌, ◌≤◌, List, [], ◌∷◌, ◌++◌, length, Bool, true, false, refl, sym, ap, ◌∙◌, subst, append_assoc, arith}
use Rattle.std.proofs.lemmas.Bool.{ne_eqb}
use Rattle.std.specs.Prelude.{Result, Ok, Err, if◌then◌else◌}
use Rattle.c65_base.specs.Answers.{Fault, ◌>>=◌}
use Rattle.c65_base.specs.declared.refusal.Pos.{Pos}
use Rattle.c65_scan.specs.declared.token.Token.{Token}
use Rattle.c65_scan.specs.declared.token.TokenKind.TheVariants as kinds
use Rattle.c65_tree.specs.Trees as t
use Rattle.c65_tree.specs.Lists.{deepest}
use Rattle.c65_tree.specs.Depth.{item_depth, unit_depth}
use Rattle.c65_parse_names.specs.Scopes.{Blocks}
use Rattle.c65_parse.specs.Machine.{nothing_there}
use Rattle.c65_parse.specs.Reading.{Answer, token_at}
use Rattle.c65_parse_frames.specs.declared.sign.Mark.TheVariants as marks
use Rattle.c65_decl.specs.Here.{unexpected}
use Rattle.c65_decl.specs.Units.{item_read, with_item, items_next, items_run, whole_unit, unit_read}
use Rattle.c65_parse_grammar.specs.Phrases.{token}
use Rattle.c65_parse_grammar.specs.Scopes.{no_types, after_item, after_items}
use Rattle.c65_parse_grammar.specs.Statements.{item, items}
use Rattle.c65_parse_grammar.specs.Readings.{Continues, units}
use Rattle.c65_parse_law_sound.proofs.Got.{EndsIn}
use Rattle.c65_parse_law_sound.proofs.Small.{one_deeper}
use Rattle.c65_parse_law_sound.proofs.Units.{one_more, behind_more, some_there}
use Rattle.c65_parse_law_faults.proofs.Local.{Reader, Triple}
use Rattle.c65_parse_law_faults.proofs.Seq.{tail}
use Rattle.c65_parse_law_faults.proofs.Inits.{marks_it}
use Rattle.c65_parse_law_faults.proofs.Units as faults
use Rattle.c65_parse_law_least.specs.Viable.{FewTypes}
use Rattle.c65_parse_law_exact.proofs.Stops.{Going, Taking, Stuck, StopIs, Stop, stop_done, weaker, stop_alike, stop_if_first, stop_seq, stop_tailed}
use Rattle.c65_parse_law_exact.proofs.Pieces.{IsTaken}
use Rattle.c65_parse_law_exact.proofs.Onward.{extended}
use Rattle.c65_parse_law_exact.proofs.Items.{item_stops}

abbrev no_place : Pos
no_place = record { file = 0; line = 1 }

-- an item that was begun: then the end would follow
items_go : (n : ℕ) (is : List t.ItemTree) (xs ys : List Token) → items no_types is xs → deepest item_depth is ≤ n → Continues (item (after_items no_types is)) item_depth n ys → Continues units unit_depth n (xs ++ ys)
items_go n is xs ys h deep k = extended (item (after_items no_types is)) units item_depth unit_depth n xs (token kinds.End no_place ∷ []) ys (λ i. record { items = is ++ i ∷ [] })
    (λ i us p. (xs ++ us, token kinds.End no_place ∷ [], sym (append_assoc xs us (token kinds.End no_place ∷ [])), some_there no_types is i (xs ++ us) (one_more no_types is i (xs ++ us) (xs, us, refl, h, p)), (no_place, refl)))
    (λ i small. one_deeper n item_depth is i deep small) k

-- the items of a unit, with the end that is left behind them
abbrev items_up : (limit : ℕ) → List Token → List Token → List t.ItemTree → Blocks → List Token → Answer (List t.ItemTree)
items_up limit unit [] is scope ts = unexpected ts
items_up limit unit (u ∷ us) is scope ts = item_read limit unit scope ts >>= (λ i. if marks_it marks.End (token_at i.1 0) then Ok (with_item is i.0, i.1, i.2) else items_up limit unit us (with_item is i.0) i.2 i.1)

abbrev alone : Triple (List t.ItemTree) → Result (List t.ItemTree) Fault
alone x = Ok x.0

same_if : (b : Bool) (is : List t.ItemTree) (rest : List Token) (scope : Blocks) (r : Result (List t.ItemTree) Fault) (s : Answer (List t.ItemTree)) → r ≡ (s >>= alone) → (if b then Ok is else r) ≡ ((if b then Ok (is, rest, scope) else s) >>= alone)
same_if true is rest scope r s e = refl
same_if false is rest scope r s e = e

same_step : (limit : ℕ) (unit us : List Token) (is : List t.ItemTree) (r : Answer t.ItemTree) → ((js : List t.ItemTree) (scope : Blocks) (ts : List Token) → items_run limit unit us js scope ts ≡ (items_up limit unit us js scope ts >>= alone))
    → (r >>= (λ i. items_next (items_run limit unit us) (with_item is i.0) i.2 i.1)) ≡ ((r >>= (λ i. if marks_it marks.End (token_at i.1 0) then Ok (with_item is i.0, i.1, i.2) else items_up limit unit us (with_item is i.0) i.2 i.1)) >>= alone)
same_step limit unit us is (Err e) f = refl
same_step limit unit us is (Ok (i, rest, scope)) f = same_if (marks_it marks.End (token_at rest 0)) (with_item is i) rest scope (items_run limit unit us (with_item is i) scope rest) (items_up limit unit us (with_item is i) scope rest) (f (with_item is i) scope rest)

same_items : (limit : ℕ) (unit us : List Token) (is : List t.ItemTree) (scope : Blocks) (ts : List Token) → items_run limit unit us is scope ts ≡ (items_up limit unit us is scope ts >>= alone)
same_items limit unit [] is scope ts = refl
same_items limit unit (u ∷ us) is scope ts = same_step limit unit us is (item_read limit unit scope ts) (λ js inner vs. same_items limit unit us js inner vs)

abbrev behind_item : (limit : ℕ) → List t.ItemTree → List Token → List Token → Triple t.ItemTree → Answer (List t.ItemTree)
behind_item limit is unit us i = if marks_it marks.End (token_at i.1 0) then Ok (with_item is i.0, i.1, i.2) else items_up limit unit (tail us) (with_item is i.0) i.2 i.1

unrolled : (limit : ℕ) (is : List t.ItemTree) (scope : Blocks) (unit us ys : List Token) → 0 + 1 ≤ length us → items_up limit unit us is scope ys ≡ (item_read limit unit scope ys >>= behind_item limit is unit us)
unrolled limit is scope unit [] ys h = absurd (omega (arith, h))
unrolled limit is scope unit (u ∷ us) ys h = refl

abbrev UnitGoes : List Token → Going
UnitGoes xs n ys = Continues units unit_depth n (xs ++ ys)

-- what they are does not matter here
abbrev any_items : Taking (List t.ItemTree)
any_items is scope ys = Unit {0}

-- behind an item
more_stop : (limit : ℕ) (us : List Token) (is : List t.ItemTree) (i : t.ItemTree) (scope : Blocks) (xs ys unit : List Token) (u : Token) (rest : List Token) → items no_types is xs → deepest item_depth is ≤ limit → IsTaken (item (after_items no_types is)) (λ i. after_item (after_items no_types is) i ∷ []) item_depth limit i scope ys → EndsIn rest
    → ((js : List t.ItemTree) (zs : List Token) → items no_types js zs → deepest item_depth js ≤ limit → FewTypes (after_items no_types js ∷ []) → Stop limit 0 0 0 (UnitGoes zs) any_items (λ unit us vs. items_up limit unit us js (after_items no_types js ∷ []) vs) unit us rest)
    → Stop limit 0 0 1 (λ n zs. UnitGoes xs n (ys ++ zs)) any_items (λ unit us zs. behind_item limit is unit us (i, zs, scope)) unit (u ∷ us) rest
more_stop limit us is i scope xs ys unit u rest h deep p ends f =
    let js = is ++ i ∷ [] in
    let goes : Going = λ n zs. UnitGoes xs n (ys ++ zs) in
    let here : scope ≡ after_items no_types js ∷ [] = p.scope_is ∙ ap (λ b. b ∷ []) (behind_more no_types is i) in
    let rec = f js (xs ++ ys) (one_more no_types is i (xs ++ ys) (xs, ys, refl, h, p.derives)) (one_deeper limit item_depth is i deep p.within) (subst FewTypes here p.few) in
    stop_if_first limit 0 0 1 goes any_items (marks_it marks.End) (λ unit us zs. Ok (js, zs, scope)) (λ unit us zs. items_up limit unit (tail us) js scope zs) unit (u ∷ us) rest
    (λ e. stop_done limit 0 1 goes any_items js scope unit (u ∷ us) rest ends tt)
    (λ e. subst (λ s. Stop limit 0 0 1 goes any_items (λ unit us zs. items_up limit unit (tail us) js s zs) unit (u ∷ us) rest) (sym here)
    (stop_tailed limit 0 0 goes any_items (λ unit us zs. items_up limit unit us js (after_items no_types js ∷ []) zs) unit u us rest
    (weaker limit 0 0 0 (UnitGoes (xs ++ ys)) goes any_items any_items (λ unit us zs. items_up limit unit us js (after_items no_types js ∷ []) zs) rest (items_up limit unit us js (after_items no_types js ∷ []) rest) (λ n zs high k. subst (Continues units unit_depth n) (append_assoc xs ys zs) k) (λ a inner zs q. tt) rec)))

items_stop : (limit : ℕ) (us : List Token) (is : List t.ItemTree) (xs unit ts : List Token) → 1 ≤ limit → items no_types is xs → deepest item_depth is ≤ limit → FewTypes (after_items no_types is ∷ []) → EndsIn ts → length ts ≤ length us → length ts ≤ length unit
    → Stop limit 0 0 0 (UnitGoes xs) any_items (λ unit us ys. items_up limit unit us is (after_items no_types is ∷ []) ys) unit us ts
items_stop limit us is xs unit [] one h deep few ends enough fit = absurd ends
items_stop limit [] is xs unit (t ∷ ts) one h deep few ends enough fit = absurd (omega (arith, enough))
items_stop limit (u ∷ us) is xs unit (t ∷ ts) one h deep few ends enough fit =
    let sc = after_items no_types is in
    let scope = sc ∷ [] in
    stop_alike limit 0 0 0 (UnitGoes xs) any_items (λ unit us ys. item_read limit unit scope ys >>= behind_item limit is unit us) (λ unit us ys. items_up limit unit us is scope ys) (t ∷ ts) (items_up limit unit (u ∷ us) is scope (t ∷ ts)) (unrolled limit is scope)
    (stop_seq limit 0 0 1 0 0 0 1 (Continues (item sc) item_depth) (UnitGoes xs) (IsTaken (item sc) (λ i. after_item sc i ∷ []) item_depth limit) any_items (λ unit us ys. item_read limit unit scope ys) (behind_item limit is) unit (u ∷ us) (t ∷ ts) (omega arith) (omega arith) (omega arith) ends
    (item_stops limit sc [] unit (u ∷ us) (t ∷ ts) one few ends fit)
    (λ n ys high k. items_go n is xs ys h (omega (arith, deep, high)) k)
    (λ i inner ys rest p are left short. more_stop limit us is i inner xs ys unit u rest h deep p left
    (λ js zs m low many. items_stop limit us js zs unit rest one m low many left (omega (arith, enough, short)) (omega (arith, fit, short)))))

abbrev unit_of : List t.ItemTree → t.UnitTree
unit_of is = record { items = is }

abbrev err_or : {B : Type 0} → Fault → Result B Fault → Fault
err_or d (Ok b) = d
err_or d (Err e) = e

stuck_by : (limit : ℕ) (read : Reader (Triple (List t.ItemTree))) (ts : List Token) (r : Answer (List t.ItemTree)) (e : Fault) → StopIs limit 0 0 0 (Continues units unit_depth) any_items read ts r → ((r >>= alone) >>= (λ is. Ok (unit_of is))) ≡ Err e → Stuck limit 0 0 (Continues units unit_depth) read ts e
stuck_by limit read ts (Ok (is, rest, scope)) e h k = absurd cc
stuck_by limit read ts (Err x) e h k = subst (Stuck limit 0 0 (Continues units unit_depth) read ts) (ap (err_or x) k) h

some_tokens : (limit : ℕ) (t : Token) (ts : List Token) → unit_read limit (t ∷ ts) ≡ whole_unit limit (t ∷ ts)
some_tokens limit t ts = ap (λ b. if b then Err nothing_there else whole_unit limit (t ∷ ts)) (ne_eqb (length (t ∷ ts)) 0 (λ e. omega (arith, e)))

-- the tokens of a unit up to a fault
pub unit_stuck : (limit : ℕ) (ts : List Token) (e : Fault) → 1 ≤ limit → EndsIn ts → unit_read limit ts ≡ Err e → Stuck limit 0 0 (Continues units unit_depth) (λ unit us ys. items_up limit unit us [] (no_types ∷ []) ys) ts e
unit_stuck limit [] e one ends h = absurd ends
unit_stuck limit (t ∷ ts) e one ends h =
    let all = t ∷ ts in
    stuck_by limit (λ unit us ys. items_up limit unit us [] (no_types ∷ []) ys) all (items_up limit all all [] (no_types ∷ []) all) e
    (items_stop limit all [] [] all all one refl (omega arith) ((0, λ n low. refl), tt) ends (omega arith) (omega arith))
    (ap (λ r. r >>= (λ is. Ok (unit_of is))) (sym (same_items limit all all [] (no_types ∷ []) all)) ∙ (sym (some_tokens limit t ts) ∙ h))

-- and what is answered again
pub unit_again : (limit : ℕ) (before : List Token) (next : Token) (more : List Token) (e : Fault) → items_up limit (before ++ next ∷ more) (before ++ next ∷ more) [] (no_types ∷ []) (before ++ next ∷ more) ≡ Err e → unit_read limit (before ++ next ∷ more) ≡ Err e
unit_again limit before next more e h = let all = before ++ next ∷ more in faults.unit_again limit before next more e (same_items limit all all [] (no_types ∷ []) all ∙ ap (λ r. r >>= alone) h)
