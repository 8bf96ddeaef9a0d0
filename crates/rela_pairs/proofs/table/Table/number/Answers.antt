use Rattle.std.proofs.Common.{◌≡◌, List, Some, None, length, set, sym, subst, arith}
use Rattle.rela_pairs.specs.Finding.{Finds}
use Rattle.rela_pairs.specs.Places.{Fits, ShapedPairs, AreTold, place_of}
use Rattle.rela_pairs.specs.declared.pair.Pair.{Pair}
use Rattle.rela_pairs.specs.declared.shape.Shape.{Shape}
use Rattle.rela_pairs.proofs.Telling.{told_few, told_found, told_more, told_read}
use Rattle.rela_pairs.proofs.table.Table.number.Goals as goal

fits_now : (shape : Shape) (pairs : _) (now : ShapedPairs) (x : Pair) → record { pairs = pairs; shape = shape } ≡ now → Fits now.shape x → Fits shape x
fits_now shape pairs now x is fits = subst (λ (v : ShapedPairs). Fits v.shape x) (sym is) fits

pub returns-in-Some-clause-finds : goal.returns-in-Some-clause-finds
returns-in-Some-clause-finds c =
    let told = c.self.invariant in
    let fits = fits_now c.self.inside.shape c.self.inside.found.items c.args.self.now c.args.pair c.self.view_is c.requires in
    let at =
    told_read c.self.inside.shape c.self.inside.found.items c.self.inside.numbers.items told c.args.pair c.index.result.now (Some c.in-Some.number) fits c.index.ensures c.in-Some.is in
    subst (λ (v : ShapedPairs). Finds v.pairs v.pairs c.args.pair) c.self.view_is
    (told_found c.self.inside.shape c.self.inside.found.items c.self.inside.numbers.items told c.args.pair c.in-Some.number fits at)

pub overflow_cast-number : goal.overflow_cast-number
overflow_cast-number c =
    let few = told_few c.self.inside.shape c.self.inside.found.items c.self.inside.numbers.items c.self.invariant in
    omega (arith, few, c.self.invariant.small, c.len-number.ensures)

pub invariant_of-self-in-None : goal.invariant_of-self-in-None
invariant_of-self-in-None c =
    let shape = c.self.inside.shape in
    let found = c.self.inside.found.items in
    let numbers = c.self.inside.numbers.items in
    let pair : Pair = c.args.pair in
    let fits = fits_now shape found c.args.self.now pair c.self.view_is c.requires in
    let at = told_read shape found numbers c.self.invariant pair c.index.result.now None fits c.index.ensures c.in-None.is in
    let number : c.len-number.result ≡ length found = omega (arith, c.len-number.ensures) in
    subst (λ n. AreTold shape c.push.new.self.items (set numbers (place_of shape pair) (Some n))) (sym number)
    (subst (λ (l : List Pair). AreTold shape l (set numbers (place_of shape pair) (Some (length found)))) (sym c.in_ok-push-in-None.ensures.items)
    (told_more shape found numbers c.self.invariant pair fits at))
