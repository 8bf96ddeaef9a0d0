use Rattle.std.proofs.Common.{◌<◌, length, ap, sym, subst, ◌∙◌}
use Rattle.rela_subset.specs.Splitting.{Splitting}
use Rattle.rela_subset.proofs.Sets.{has_below}
use Rattle.rela_subset.proofs.Splitting.{alike_alone, length_left}
use Rattle.rela_subset.proofs.blocks.Blocks.next.Goals as goal

pub alone-requires-clause-below : goal.alone-requires-clause-below
alone-requires-clause-below g c =
    let letters = g.L.LabelSet.letters in
    subst (λ n. c.in-Some.letter < n)
    (sym c.in-Some.ensures.size ∙ sym (ap (λ (s : Splitting). length s.left) c.self.view_is)
    ∙ length_left (letters c.self.inside.over.now) c.self.inside.coming.now (letters c.self.inside.rest) ∙ c.self.invariant.0.size ∙ sym c.size.ensures.size)
    (has_below c.args.self.now.left c.in-Some.letter c.in-Some.ensures.member)

pub returns-clause-sized : goal.returns-clause-sized
returns-clause-sized g c =
    let letters = g.L.LabelSet.letters in
    c.in_ok-letters.ensures.size ∙ c.size.ensures.size ∙ sym c.self.invariant.0.size
    ∙ sym (length_left (letters c.self.inside.over.now) c.self.inside.coming.now (letters c.self.inside.rest)) ∙ ap (λ (s : Splitting). length s.left) c.self.view_is
    ∙ c.in-Some.ensures.size

pub returns-clause-alike : goal.returns-clause-alike
returns-clause-alike g c a set sorted =
    let (q, here) = c.in-Some.ensures.single in
    alike_alone a set c.args.self.now.left (g.L.LabelSet.letters c.in_ok-letters.letters) c.in-Some.letter q c.args.self.now.singles c.args.self.now.others
    c.in-Some.ensures.member c.in_ok-letters.ensures.alone here sorted
