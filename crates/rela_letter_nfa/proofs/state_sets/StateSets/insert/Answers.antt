use Rattle.std.proofs.Common.{◌≡◌, ◌++◌, ◌∷◌, [], List, ℕ, length, sym, ap, ◌∙◌, subst, arith, length-append}
use Rattle.std.specs.List.{Contains}
use Rattle.std.proofs.lemmas.Bool.{both_ways}
use Rattle.rela_letter_nfa.specs.Buckets.{bucket_of, sets_at}
use Rattle.rela_letter_nfa.specs.declared.state_sets.Placed.{Placed}
use Rattle.rela_letter_nfa.proofs.Bucketing.{IsStored, stored_grown, stored_more, stored_sets}
use Rattle.rela_letter_nfa.proofs.state_sets.StateSets.insert.Goals as goal

pub invariant_of-self-in_err-enter : goal.invariant_of-self-in_err-enter
invariant_of-self-in_err-enter c =
    let items = c.self.inside.items.items in
    let placed = c.self.inside.placed.items in
    let lasts = c.self.inside.lasts.items in
    let grown : c.extend_from_slice.new.self.items ≡ items ++ c.args.set.now = c.in_ok-extend_from_slice.ensures.items in
    subst (λ (l : List ℕ). IsStored l c.enter.new.placed.items c.enter.new.lasts.items) (sym grown)
    (subst (λ (l : List Placed). IsStored (items ++ c.args.set.now) l c.enter.new.lasts.items) (sym c.in_err-enter.ensures.same_placed)
    (subst (IsStored (items ++ c.args.set.now) placed) (sym c.in_err-enter.ensures.same_lasts) (stored_grown items c.args.set.now placed lasts c.self.invariant)))

pub invariant_of-self-2 : goal.invariant_of-self-2
invariant_of-self-2 c =
    let items = c.self.inside.items.items in
    let placed = c.self.inside.placed.items in
    let lasts = c.self.inside.lasts.items in
    let states = c.args.set.now in
    let k = c.bucket_of-bucket.result in
    let grown : c.extend_from_slice.new.self.items ≡ items ++ states = c.in_ok-extend_from_slice.ensures.items in
    let count : c.len.result ≡ length lasts = c.len.ensures ∙ c.self.inside.lasts.ok.0 in
    let lacking : ¬ Contains (sets_at items placed) states =
    λ among. both_ways c.has.result c.if-has.false
    (c.has.ensures.1
    (subst (λ (l : List ℕ). Contains (sets_at l c.deref-2.result.now) states) (sym c.deref.ensures.value) (subst (λ (l : List Placed). Contains (sets_at items l) states) (sym c.deref-2.ensures.value) among))) in
    subst (λ (l : List ℕ). IsStored l c.enter.new.placed.items c.enter.new.lasts.items) (sym grown)
    (stored_more items states placed c.enter.new.placed.items lasts c.enter.new.lasts.items c.len-from.result c.len-to.result k c.self.invariant (c.len-from.ensures ∙ c.self.inside.items.ok.0)
    (c.len-to.ensures ∙ c.extend_from_slice.new.self.ok.0 ∙ ap length grown ∙ length-append items states) c.in_ok-enter.ensures.placed (omega (arith, count, c.bucket_of-bucket.ensures.below))
    (c.bucket_of-bucket.ensures.bucket ∙ ap (λ m. bucket_of m states) count) lacking c.in_ok-enter.ensures.lasts)

pub returns : goal.returns
returns c =
    let items = c.self.inside.items.items in
    let placed = c.self.inside.placed.items in
    let lasts = c.self.inside.lasts.items in
    let states = c.args.set.now in
    let grown : c.extend_from_slice.new.self.items ≡ items ++ states = c.in_ok-extend_from_slice.ensures.items in
    c.make_room.ensures
    ∙ ap (λ (l : List ℕ). sets_at l c.enter.new.placed.items) grown
    ∙ stored_sets items states placed c.enter.new.placed.items lasts c.enter.new.lasts.items c.len-from.result c.len-to.result c.bucket_of-bucket.result c.self.invariant (c.len-from.ensures ∙ c.self.inside.items.ok.0)
    (c.len-to.ensures ∙ c.extend_from_slice.new.self.ok.0 ∙ ap length grown ∙ length-append items states) c.in_ok-enter.ensures.placed
    ∙ ap (λ (l : List (List ℕ)). l ++ states ∷ []) c.self.view_is
