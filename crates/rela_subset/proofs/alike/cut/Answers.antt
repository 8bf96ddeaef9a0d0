use Rattle.std.proofs.Common.{◌≡◌, ℕ, ◌↔◌, Bool, true, false, ◌&&◌, not, List, Some, refl, sym, ap, ◌∙◌}
use Rattle.std.specs.Option.{option_map, option_map_or}
use Rattle.std.proofs.lemmas.Bool.{false≢true}
use Rattle.std.proofs.lemmas.Result.{IfOk-weaker}
use Rattle.rela_labels.specs.Letters.{has}
use Rattle.rela_nfa.specs.Stored.{move_of}
use Rattle.rela_nfa.specs.declared.edge.Edge.{Edge}
use Rattle.rela_subset.specs.Deterministic.{takes}
use Rattle.rela_subset.proofs.alike.cut.Goals as goal

-- what is in both is in the block, and in the label as a letter of it
met_alike : (part block label letter : Bool) → part ≡ (block && label) → letter ≡ true → (part ≡ true) ↔ ((block ≡ true) × (label ≡ letter))
met_alike part true true letter is on = (λ _. (refl, sym on), λ _. is)
met_alike part true false letter is on = (λ p. absurd (false≢true (sym is ∙ p)), λ both. absurd (false≢true (both.1 ∙ on)))
met_alike part false label letter is on = (λ p. absurd (false≢true (sym is ∙ p)), λ both. absurd (false≢true both.0))

-- what is in the block alone is not in the label, as a letter that isn't
less_alike : (part block label letter : Bool) → part ≡ (block && not label) → letter ≡ false → (part ≡ true) ↔ ((block ≡ true) × (label ≡ letter))
less_alike part true true letter is off = (λ p. absurd (false≢true (sym is ∙ p)), λ both. absurd (false≢true (sym off ∙ sym both.1)))
less_alike part true false letter is off = (λ _. (refl, sym off), λ _. is)
less_alike part false label letter is off = (λ p. absurd (false≢true (sym is ∙ p)), λ both. absurd (false≢true both.0))

-- the letters of an edge are those of its label
taken_by : {L : Type 0} (letters : L → List Bool) (edge : Edge L) (label : L) (part block : Bool) (i j : ℕ) → edge.label ≡ Some label
    → (part ≡ true) ↔ ((block ≡ true) × (has (letters label) i ≡ has (letters label) j))
    → (part ≡ true) ↔ ((block ≡ true) × (takes i (move_of letters edge) ≡ takes j (move_of letters edge)))
taken_by letters edge label part block i j at both =
    let taken : (n : ℕ) → takes n (move_of letters edge) ≡ has (letters label) n = λ n. ap (λ o. option_map_or (λ set. has set n) (option_map letters o) false) at in (
      λ p. let b = both.0 p in (b.0, taken i ∙ b.1 ∙ sym (taken j)),
      λ b. both.1 (b.0, sym (taken i) ∙ b.1 ∙ taken j),
    )

pub returns-then-contains-clause-alike : goal.returns-then-contains-clause-alike
returns-then-contains-clause-alike g c =
    let letters = g.L.LabelSet.letters in
    let block = letters c.args.block in
    let label = letters c.in-Some.label in
    let on : has label c.args.letter ≡ true = sym c.contains.ensures.has ∙ c.if-contains.true in
    IfOk-weaker c.common.result _ _ (λ part both k.
    taken_by letters c.args.edge.now c.in-Some.label (has (letters part) k) (has block k) k c.args.letter c.in-Some.is
    (met_alike (has (letters part) k) (has block k) (has label k) (has label c.args.letter) (both k) on)) c.common.ensures.both

pub returns-else-contains-clause-alike : goal.returns-else-contains-clause-alike
returns-else-contains-clause-alike g c =
    let letters = g.L.LabelSet.letters in
    let block = letters c.args.block in
    let label = letters c.in-Some.label in
    let off : has label c.args.letter ≡ false = sym c.contains.ensures.has ∙ c.if-contains.false in
    IfOk-weaker c.minus.result _ _ (λ part alone k.
    taken_by letters c.args.edge.now c.in-Some.label (has (letters part) k) (has block k) k c.args.letter c.in-Some.is
    (less_alike (has (letters part) k) (has block k) (has label k) (has label c.args.letter) (alone k) off)) c.minus.ensures.first_only
