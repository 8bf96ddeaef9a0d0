use Rattle.std.proofs.Common.{◌≡◌, ◌+◌, ℕ, List, [], ◌∷◌, ◌++◌, sym, ap, arith, ◌∙◌}
use Rattle.std.proofs.lemmas.List.FromFn.{map-range_with_len_more}
use Rattle.rela_branches.specs.Walks.{singles}
use Rattle.rela_branches.proofs.each.singles.Goals as goal

pub loop-place-preserved : goal.loop-place-preserved
loop-place-preserved c =
    let k = c.loop-place.place in
    let made : c.from_vec.result ≡ k ∷ [] = c.from_vec.ensures ∙ c.in_ok-vec.ensures.items in
    let none : 0 + k ≡ k = omega arith in
    c.in_ok-push.ensures.items ∙ ap (λ (xs : List ℕ). c.loop-place.sets.items ++ xs ∷ []) made ∙ ap (λ (sets : List (List ℕ)). sets ++ (k ∷ []) ∷ []) c.loop-place.invariant
    ∙ sym (map-range_with_len_more (λ i. i ∷ []) 0 k k none)

pub returns : goal.returns
returns c = let e : c.loop-place.place ≡ c.args.bound = let within = c.loop-place.auto.place-end in let past = c.loop-place-test.false in omega arith in c.loop-place.invariant ∙ ap singles e
