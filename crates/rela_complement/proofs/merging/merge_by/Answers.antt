use Rattle.std.proofs.Common.{◌≡◌, ◌∙◌, ◌^◌, ◌<◌, ℕ, List, length, ap, sym, subst, arith}
use Rattle.rela_nfa.specs.Relabelling.{IsRelabelled, relabelled}
use Rattle.rela_complement.specs.Merging.{IsMerged}
use Rattle.rela_complement.proofs.MergedLetters.{merged}
use Rattle.rela_complement.proofs.merging.merge_by.Goals as goal

pub returns-clause-merged : goal.returns-clause-merged
returns-clause-merged c =
    let classes = c.args.classes.now in
    let letters = c.in_ok-letters.letters.items in
    let part = c.args.part.now in
    let over = c.args.over.now in
    let small = c.in_ok-small.small in
    let small_is : IsRelabelled letters part small = subst (λ (l : List ℕ). IsRelabelled l part small) c.deref.ensures.value c.in_ok-small.ensures in
    let set_is : c.in_ok-set.set ≡ relabelled letters over = c.in_ok-set.ensures ∙ ap (λ (l : List ℕ). relabelled l over) c.deref-2.ensures.value in
    let few : length classes < 2 ^ 32 = omega (arith, c.requires.letters, c.letters.ensures.letters, c.letters.type_inv) in
    subst (λ (l : List ℕ). IsMerged part over l small c.in_ok-set.set) (sym c.in_ok-each.ensures)
    (merged classes letters c.in_ok-letters.ensures.least c.in_ok-letters.ensures.counted part small c.letters.ensures.automaton (sym c.requires.letters) c.requires.labels small_is
    over c.requires.sized c.requires.over few c.in_ok-set.set set_is)
