use Rattle.std.proofs.Common.{◌+◌, ◌/◌, arith, refl, inl, inr}
use Rattle.rela_expand.specs.Forms.{StandsAt, shape_at, shapes_of}
use Rattle.rela_expand.proofs.TreeForms.{row, rows_join, stays}
use Rattle.rela_expand.proofs.trees.+row_and_longer.Goals as goal

pub returns-then-n-eq0-clause-row : goal.returns-then-n-eq0-clause-row
returns-then-n-eq0-clause-row t c =
    let s = shape_at (shapes_of c.args.forms.now.forms.items) c.args.part in
    let one = shapes_of c.row_and_longer.new.forms.forms.items in
    let two = shapes_of c.add-2.new.self.forms.items in
    let new = shapes_of c.add-then-n-eq0.new.self.forms.items in
    let n = c.args.n in
    let fewer : StandsAt two (row (n / 2) s) c.in_ok-fewer.fewer = stays one two (row (n / 2) s) c.in_ok-fewer.fewer c.in_ok-fewer.ensures.row c.add-2.ensures.grown in
    let some = c.requires.some in
    rows_join n (n / 2) (n / 2) s two new c.in_ok-fewer.fewer c.in_ok-fewer.fewer c.in_ok-row.row (omega arith) (omega arith) (inl refl) fewer fewer c.in_ok-row.ensures.made

pub returns-then-n-eq0-clause-longer : goal.returns-then-n-eq0-clause-longer
returns-then-n-eq0-clause-longer t c =
    let s = shape_at (shapes_of c.args.forms.now.forms.items) c.args.part in
    let one = shapes_of c.row_and_longer.new.forms.forms.items in
    let two = shapes_of c.add-2.new.self.forms.items in
    let new = shapes_of c.add-then-n-eq0.new.self.forms.items in
    let n = c.args.n in
    let some = c.requires.some in
    stays two new (row (n + 1) s) c.in_ok-middle.middle
    (rows_join (n + 1) (n / 2 + 1) (n / 2) s one two c.in_ok-fewer.more c.in_ok-fewer.fewer c.in_ok-middle.middle (omega arith) (omega arith) (inr refl)
    c.in_ok-fewer.ensures.longer c.in_ok-fewer.ensures.row c.in_ok-middle.ensures.made)
    c.add-then-n-eq0.ensures.grown

pub returns-clause-row : goal.returns-clause-row
returns-clause-row t c =
    let s = shape_at (shapes_of c.args.forms.now.forms.items) c.args.part in
    let one = shapes_of c.row_and_longer.new.forms.forms.items in
    let two = shapes_of c.add-2.new.self.forms.items in
    let new = shapes_of c.add-3.new.self.forms.items in
    let n = c.args.n in
    let some = c.requires.some in
    stays two new (row n s) c.in_ok-middle.middle
    (rows_join n (n / 2 + 1) (n / 2) s one two c.in_ok-fewer.more c.in_ok-fewer.fewer c.in_ok-middle.middle (omega arith) (omega arith) (inr refl)
    c.in_ok-fewer.ensures.longer c.in_ok-fewer.ensures.row c.in_ok-middle.ensures.made)
    c.add-3.ensures.grown

pub returns-clause-longer : goal.returns-clause-longer
returns-clause-longer t c =
    let s = shape_at (shapes_of c.args.forms.now.forms.items) c.args.part in
    let one = shapes_of c.row_and_longer.new.forms.forms.items in
    let two = shapes_of c.add-2.new.self.forms.items in
    let new = shapes_of c.add-3.new.self.forms.items in
    let n = c.args.n in
    let more : StandsAt two (row (n / 2 + 1) s) c.in_ok-fewer.more = stays one two (row (n / 2 + 1) s) c.in_ok-fewer.more c.in_ok-fewer.ensures.longer c.add-2.ensures.grown in
    let some = c.requires.some in
    rows_join (n + 1) (n / 2 + 1) (n / 2 + 1) s two new c.in_ok-fewer.more c.in_ok-fewer.more c.in_ok-longer.longer (omega arith) (omega arith) (inl refl) more more c.in_ok-longer.ensures.made
