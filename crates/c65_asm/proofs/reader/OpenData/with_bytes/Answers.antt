use Rattle.std.proofs.Common.{◌≡◌, ◌+◌, ◌-◌, ◌<◌, List, length, map, ap, ◌∙◌, arith, length-append}
use Rattle.std.proofs.lemmas.List.{length-map}
use Rattle.c65_code.specs.declared.code.DataCell.{DataCell}
use Rattle.c65_code.specs.declared.code.DataCell.TheVariants.{Byte}
use Rattle.c65_asm.specs.Opened.{OpenedDatum}
use Rattle.c65_asm.specs.Reading.{bytes_in, with_bytes}
use Rattle.c65_asm.proofs.ByteLaws.{puts_some, over, fits}
use Rattle.c65_asm.proofs.reader.OpenData.with_bytes.Goals as goal

pub overflow_sub-count : goal.overflow_sub-count
overflow_sub-count c =
    let old = c.self.inside.cells in
    let new = c.put_bytes.new.cells in
    let f = puts_some old.items new.items (bytes_in c.args.text.now) c.in_ok-put_bytes.field-0 c.in_ok-put_bytes.ensures c.if-not-branch.false in
    let m : length (map (λ v. Byte v) f.0) ≡ length f.0 = length-map f.0 (λ v. Byte v) in
    let t : length new.items ≡ length old.items + length (map (λ v. Byte v) f.0) = ap (λ (cs : List DataCell). length cs) f.2 ∙ length-append old.items (map (λ v. Byte v) f.0) in
    omega (arith, c.len-before.ensures, c.len.ensures, old.ok.0, new.ok.0, m, t)

pub returns-then-count-gt16 : goal.returns-then-count-gt16
returns-then-count-gt16 c =
    let old = c.self.inside.cells in
    let new = c.put_bytes.new.cells in
    let f = puts_some old.items new.items (bytes_in c.args.text.now) c.in_ok-put_bytes.field-0 c.in_ok-put_bytes.ensures c.if-not-branch.false in
    let m : length (map (λ v. Byte v) f.0) ≡ length f.0 = length-map f.0 (λ v. Byte v) in
    let t : length new.items ≡ length old.items + length (map (λ v. Byte v) f.0) = ap (λ (cs : List DataCell). length cs) f.2 ∙ length-append old.items (map (λ v. Byte v) f.0) in
    let before : OpenedDatum = record { sym = c.self.inside.sym; kind = c.self.inside.kind; cells = old.items; has_room = c.self.inside.has_room } in
    let l : 16 < length f.0 = omega (arith, c.len-before.ensures, c.len.ensures, old.ok.0, new.ok.0, m, t, c.if-count-gt16.true) in
    over before c.args.text.now f.0 c.if-has_room.false f.1 l ∙ ap (λ d. with_bytes d c.args.text.now) c.self.view_is

pub returns : goal.returns
returns c =
    let old = c.self.inside.cells in
    let new = c.put_bytes.new.cells in
    let f = puts_some old.items new.items (bytes_in c.args.text.now) c.in_ok-put_bytes.field-0 c.in_ok-put_bytes.ensures c.if-not-branch.false in
    let m : length (map (λ v. Byte v) f.0) ≡ length f.0 = length-map f.0 (λ v. Byte v) in
    let t : length new.items ≡ length old.items + length (map (λ v. Byte v) f.0) = ap (λ (cs : List DataCell). length cs) f.2 ∙ length-append old.items (map (λ v. Byte v) f.0) in
    let before : OpenedDatum = record { sym = c.self.inside.sym; kind = c.self.inside.kind; cells = old.items; has_room = c.self.inside.has_room } in
    let n : c.len.result - c.len-before.result ≡ length f.0 = omega (arith, c.len-before.ensures, c.len.ensures, old.ok.0, new.ok.0, m, t) in
    fits before c.args.text.now f.0 new.items (c.len.result - c.len-before.result) c.if-has_room.false f.1 c.if-count-gt16.false f.2 n ∙ ap (λ d. with_bytes d c.args.text.now) c.self.view_is
